-- The actors of a cluster, as they are added to a table.
use Rattle.std.proofs.Common.{◌≡◌, ℕ, zero, suc, ◌+◌, ◌<◌, ◌≤◌, List, [], ◌∷◌, ◌++◌, length, take, map, filter, get_or, Bool, true, false, cond, Option, Some, None, Bor, Vec, Global, is_some, ◌-◌, refl, sym, ap, subst, ◌∙◌, arith, add-one, zero-add}
use Rattle.std.specs.List.{range_with_len}
use Rattle.std.specs.Map.{lookup}
use Rattle.std.specs.Option.{option_copied, option_or}
use Rattle.std.specs.Str.{bytes_eq}
use Rattle.std.proofs.lemmas.Slice.Eq.{bytes_eq-Decides}
use Rattle.std.proofs.lemmas.List.{append_assoc, append-nil, map-append, take_all, take_more, length-take}
use Rattle.std.proofs.lemmas.List.Folds.{find-append}
use Rattle.std.proofs.lemmas.List.Elements.{filter-append}
use Rattle.acc_stamp.specs.declared.actors.Actor.{Actor}
use Rattle.acc_stamp.specs.Actor.{actor_of}
use Rattle.acc_topology.specs.Layout.{Layout, Shard, no_shard, shard_at}
use Rattle.acc_topology.specs.Sets.{in_set, members, numbers}
use Rattle.acc_schedule.specs.Actors.{actor_named, actor_text, actors, at_name, stores_from}

option_or-none : {X : Type 0} (a : Option X) → option_or a None ≡ a
option_or-none None = refl
option_or-none (Some x) = refl

option_or-assoc : {X : Type 0} (a b c : Option X) → option_or (option_or a b) c ≡ option_or a (option_or b c)
option_or-assoc None b c = refl
option_or-assoc (Some x) b c = refl

pub named-append : (xs ys : List Actor) (name : List ℕ) → actor_named (xs ++ ys) name ≡ option_or (actor_named xs name) (actor_named ys name)
named-append xs ys name = find-append (λ actor. bytes_eq name (actor_text actor)) xs ys

-- ---- one actor

abbrev pub Entries : Type 0
Entries = List (Vec ℕ Global × Actor)

abbrev pub shown : Entries → List (List ℕ × Actor)
shown entries = map (λ entry. (entry.0.items, entry.1)) entries

pub at_name-shown : (entries : Entries) (name : List ℕ) → lookup (λ (key : Vec ℕ Global). bytes_eq name key.items) entries ≡ at_name (shown entries) name
at_name-shown [] name = refl
at_name-shown (e ∷ es) name = ap (cond (bytes_eq name e.0.items) (Some e.1)) (at_name-shown es name)

lookup-append : (test : List ℕ → Bool) (xs ys : List (List ℕ × Actor)) → lookup test (xs ++ ys) ≡ option_or (lookup test xs) (lookup test ys)
lookup-append test [] ys = refl
lookup-append test (e ∷ es) ys =
    elim (test e.0) as (λ b. cond b (Some e.1) (lookup test (es ++ ys)) ≡ option_or (cond b (Some e.1) (lookup test es)) (lookup test ys)) [
      | true ↦ refl
      | false ↦ lookup-append test es ys
    ]

-- a new entry
pub added : (table table' : List (List ℕ × Actor)) (entries entries' : Entries) (text : Vec ℕ Global) (actor : Actor) → shown entries ≡ table → shown entries' ≡ table' → entries' ≡ entries ++ (text, actor) ∷ []
    → text.items ≡ actor_text actor → (name : List ℕ) → at_name table' name ≡ option_or (at_name table name) (actor_named (actor ∷ []) name)
added table table' entries entries' text actor was now grown is name =
    let all : table' ≡ table ++ (text.items, actor) ∷ [] =
    sym now ∙ ap shown grown ∙ map-append (λ (entry : Vec ℕ Global × Actor). (entry.0.items, entry.1)) entries ((text, actor) ∷ []) ∙ ap (λ (t : List (List ℕ × Actor)). t ++ (text.items, actor) ∷ []) was in
    ap (λ (t : List (List ℕ × Actor)). at_name t name) all ∙ lookup-append (bytes_eq name) table ((text.items, actor) ∷ [])
    ∙ ap (λ (bytes : List ℕ). option_or (at_name table name) (cond (bytes_eq name bytes) (Some actor) None)) is

-- an entry that is there already
pub kept : (table : List (List ℕ × Actor)) (found actor : Actor) (text : List ℕ) → at_name table text ≡ Some found → text ≡ actor_text actor
    → (name : List ℕ) → at_name table name ≡ option_or (at_name table name) (actor_named (actor ∷ []) name)
kept table found actor text there is name =
    elim (bytes_eq name (actor_text actor)) as (λ b. b ≡ bytes_eq name (actor_text actor) → at_name table name ≡ option_or (at_name table name) (cond b (Some actor) None)) [
      | true ↦ λ e. let same : name ≡ text = (bytes_eq-Decides name (actor_text actor)).0 (sym e) ∙ sym is in
          let found_too : at_name table name ≡ Some found = ap (at_name table) same ∙ there in
          found_too ∙ ap (λ o. option_or o (Some actor)) (sym found_too)
      | false ↦ λ e. sym (option_or-none (at_name table name))
    ] refl

-- what a look into a table says
pub held : (table : List (List ℕ × Actor)) (entries : Entries) (slice text : List ℕ) (found : Option Actor) → shown entries ≡ table → slice ≡ text → found ≡ lookup (λ (key : Vec ℕ Global). bytes_eq slice key.items) entries
    → at_name table text ≡ found
held table entries slice text found is same e =
    sym (e ∙ at_name-shown entries slice ∙ (λ i. at_name (is i) (same i)))

pub absent : (found : Option (Bor Actor)) (o : Option Actor) → is_some found ≡ false → option_copied found ≡ o → o ≡ None
absent None o h e = sym e
absent (Some actor) o h e = absurd cc

pub present : (found : Option (Bor Actor)) (o : Option Actor) → is_some found ≡ true → option_copied found ≡ o → (actor : Actor) × (o ≡ Some actor)
present None o h e = absurd cc
present (Some actor) o h e = (actor.now, sym e)

-- ---- the actors of a shard

range-more : (from n : ℕ) → range_with_len from (suc n) ≡ range_with_len from n ++ (from + n) ∷ []
range-more from zero = ap (λ (k : ℕ). k ∷ []) (omega arith)
range-more from (suc n) =
    let there : from + 1 + n ≡ from + suc n = omega arith in
    ap (λ rest. from ∷ rest) (range-more (from + 1) n ∙ ap (λ (k : ℕ). range_with_len (from + 1) n ++ k ∷ []) there)

-- the actors of a shard at those nodes of a set that are below a number
abbrev pub actors_below : ℕ → ℕ → ℕ → List Actor
actors_below set shard n = map (λ node. actor_of node shard) (filter (in_set set) (range_with_len 0 n))

actors_below-more : (set shard n : ℕ) → actors_below set shard (n + 1) ≡ actors_below set shard n ++ map (λ node. actor_of node shard) (filter (in_set set) (n ∷ []))
actors_below-more set shard n =
    let front = filter (in_set set) (range_with_len 0 n) in
    let split : filter (in_set set) (range_with_len 0 (n + 1)) ≡ front ++ filter (in_set set) (n ∷ []) =
    rw add-one (ap (filter (in_set set)) (range-more 0 n ∙ ap (λ (k : ℕ). range_with_len 0 n ++ k ∷ []) (zero-add n)) ∙ filter-append (in_set set) (range_with_len 0 n) (n ∷ [])) in
    ap (map (λ node. actor_of node shard)) split ∙ map-append (λ node. actor_of node shard) front (filter (in_set set) (n ∷ []))

pub all_below : (set shard : ℕ) → actors_below set shard 16 ≡ map (λ node. actor_of node shard) (members set)
unfolding numbers
all_below set shard = refl

-- what was found before, and else among these
abbrev pub Adds : (List ℕ → Option Actor) → (List ℕ → Option Actor) → List Actor → Type 0
Adds before after actors = (name : List ℕ) → after name ≡ option_or (before name) (actor_named actors name)

pub nothing_added : (before : List ℕ → Option Actor) → Adds before before []
nothing_added before name = sym (option_or-none (before name))

pub adds-append : (before between after : List ℕ → Option Actor) (xs ys : List Actor) → Adds before between xs → Adds between after ys → Adds before after (xs ++ ys)
adds-append before between after xs ys first second name =
    second name ∙ ap (λ o. option_or o (actor_named ys name)) (first name) ∙ option_or-assoc (before name) (actor_named xs name) (actor_named ys name)
    ∙ ap (option_or (before name)) (sym (named-append xs ys name))

-- one more node, which is in the set
pub node_added : (before between after : List ℕ → Option Actor) (set shard n : ℕ) (actor : Actor) → Adds before between (actors_below set shard n) → true ≡ in_set set n → actor ≡ actor_of n shard → Adds between after (actor ∷ [])
    → Adds before after (actors_below set shard (n + 1))
node_added before between after set shard n actor so_far within is one =
    let last : actors_below set shard n ++ actor ∷ [] ≡ actors_below set shard (n + 1) =
    ap (λ a. actors_below set shard n ++ a ∷ []) is ∙ ap (λ b. actors_below set shard n ++ map (λ node. actor_of node shard) (cond b (n ∷ []) [])) within ∙ sym (actors_below-more set shard n) in
    subst (Adds before after) last (adds-append before between after (actors_below set shard n) (actor ∷ []) so_far one)

-- or isn't
pub node_passed : (before after : List ℕ → Option Actor) (set shard n : ℕ) → Adds before after (actors_below set shard n) → false ≡ in_set set n → Adds before after (actors_below set shard (n + 1))
node_passed before after set shard n so_far outside =
    let same : actors_below set shard n ≡ actors_below set shard (n + 1) =
    sym (append-nil (actors_below set shard n)) ∙ ap (λ b. actors_below set shard n ++ map (λ node. actor_of node shard) (cond b (n ∷ []) [])) outside ∙ sym (actors_below-more set shard n) in
    subst (Adds before after) same so_far

-- ---- the shards of a cluster

stores_from-append : (n : ℕ) (xs : List Shard) (s : Shard) → stores_from n (xs ++ s ∷ []) ≡ stores_from n xs ++ map (λ node. actor_of node (n + length xs)) s.replicas
stores_from-append n [] s =
    append-nil (map (λ node. actor_of node n) s.replicas) ∙ ap (λ (k : ℕ). map (λ node. actor_of node k) s.replicas) (omega arith)
stores_from-append n (x ∷ xs) s =
    let there : n + 1 + length xs ≡ n + suc (length xs) = omega arith in
    let here = map (λ node. actor_of node n) x.replicas in
    ap (λ rest. here ++ rest) (stores_from-append (n + 1) xs s ∙ ap (λ (k : ℕ). stores_from (n + 1) xs ++ map (λ node. actor_of node k) s.replicas) there)
    ∙ sym (append_assoc here (stores_from (n + 1) xs) (map (λ node. actor_of node (n + suc (length xs))) s.replicas))

-- the nodes, and the stores of the first shards
abbrev pub actors_to : Layout → ℕ → List Actor
actors_to layout place = map (λ node. actor_of node 0) layout.nodes ++ stores_from 1 (take place layout.shards)

pub shard_added : (layout : Layout) (place : ℕ) (before after : List ℕ → Option Actor) (set : ℕ) → place < length layout.shards → ((name : List ℕ) → before name ≡ actor_named (actors_to layout place) name)
    → members set ≡ (shard_at layout (place + 1)).replicas → Adds before after (map (λ node. actor_of node (place + 1)) (members set)) → (name : List ℕ) → after name ≡ actor_named (actors_to layout (place + 1)) name
shard_added layout place before after set within so_far are one name =
    let nodes = map (λ node. actor_of node 0) layout.nodes in
    let s = get_or layout.shards place no_shard in
    let back : place + 1 - 1 ≡ place = omega arith in
    let replicas : members set ≡ s.replicas = are ∙ ap (λ (k : ℕ). (get_or layout.shards k no_shard).replicas) back in
    let long : 1 + length (take place layout.shards) ≡ place + 1 = omega (arith, length-take place layout.shards) in
    let stores : stores_from 1 (take (place + 1) layout.shards) ≡ stores_from 1 (take place layout.shards) ++ map (λ node. actor_of node (place + 1)) (members set) =
    ap (stores_from 1) (take_more layout.shards place no_shard within) ∙ stores_from-append 1 (take place layout.shards) s
    ∙ (λ i. stores_from 1 (take place layout.shards) ++ map (λ node. actor_of node (long i)) (sym replicas i)) in
    one name ∙ ap (λ o. option_or o (actor_named (map (λ node. actor_of node (place + 1)) (members set)) name)) (so_far name)
    ∙ sym (named-append (actors_to layout place) (map (λ node. actor_of node (place + 1)) (members set)) name)
    ∙ ap (λ all. actor_named all name) (append_assoc nodes (stores_from 1 (take place layout.shards)) (map (λ node. actor_of node (place + 1)) (members set)) ∙ ap (λ rest. nodes ++ rest) (sym stores))

pub nodes_added : (layout : Layout) (before after : List ℕ → Option Actor) (set : ℕ) → ((name : List ℕ) → before name ≡ None) → members set ≡ layout.nodes
    → Adds before after (map (λ node. actor_of node 0) (members set)) → (name : List ℕ) → after name ≡ actor_named (actors_to layout 0) name
nodes_added layout before after set none are one name =
    one name ∙ ap (λ o. option_or o (actor_named (map (λ node. actor_of node 0) (members set)) name)) (none name)
    ∙ ap (λ nodes. actor_named nodes name) (ap (map (λ node. actor_of node 0)) are ∙ sym (append-nil (map (λ node. actor_of node 0) layout.nodes)))

pub all_added : (layout : Layout) (place : ℕ) (table : List (List ℕ × Actor)) → length layout.shards ≤ place → ((name : List ℕ) → at_name table name ≡ actor_named (actors_to layout place) name)
    → (name : List ℕ) → at_name table name ≡ actor_named (actors layout) name
all_added layout place table long so_far name =
    so_far name ∙ ap (λ shards. actor_named (map (λ node. actor_of node 0) layout.nodes ++ stores_from 1 shards) name) (take_all place layout.shards long)
