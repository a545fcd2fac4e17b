-- Journals in the order of their actors: they rise, and are the same journals.
use Rattle.std.proofs.Common.{◌≡◌, ℕ, zero, suc, ◌+◌, ◌*◌, ◌<◌, ◌≤◌, Bool, true, false, cond, List, [], ◌∷◌, ◌++◌, length, map, filter, get_or, Contains, refl, sym, ap, subst, ◌∙◌, ⊎_elim, arith}
use Rattle.std.specs.Prelude.{nat_lt}
use Rattle.std.specs.List.{range_with_len, flat_map, AllByRecursion}
use Rattle.std.proofs.lemmas.Bool.{true≢false, eq-eqb, eqb-true, lt-ltb, ltb-true, ne_eqb}
use Rattle.std.proofs.lemmas.List.Elements.{Contains-get_or, Contains-append_left, Contains-append_right, Contains-append_cases}
use Rattle.acc_stamp.specs.declared.actors.Actor.{Actor}
use Rattle.acc_stamp.specs.Actor.{actor_eq, actor_of}
use Rattle.acc_stamp.specs.Rising.{IsRisingBy}
use Rattle.acc_topology.specs.Layout.{Layout, IsLayout, shard_at}
use Rattle.acc_topology.specs.Sets.{is_among}
use Rattle.acc_left.specs.declared.image.Image.{Image}
use Rattle.acc_left.specs.Leaves.{actors_rising, stores_at, AreApart, DoRise}
use Rattle.acc_left.specs.Reading.{in_turn}
use Rattle.acc_left.proofs.TableFacts.{at_head, behind_head, head_or_behind, no_element}

-- ---- elements of lists

each_of : {A : Type 0} (P : A → Type 0) (xs : List A) → ((x : A) → Contains xs x → P x) → AllByRecursion P xs
each_of P [] each = tt
each_of P (x ∷ xs) each = (each x (at_head x xs), each_of P xs (λ y there. each y (behind_head x xs y there)))

of_each : {A : Type 0} (P : A → Type 0) (xs : List A) (x : A) → AllByRecursion P xs → Contains xs x → P x
of_each P [] x each there = absurd (no_element x there)
of_each P (y ∷ xs) x each there = ⊎_elim (λ same. subst P same each.0) (λ rest. of_each P xs x each.1 rest) (head_or_behind y xs x there)

filter_in : {A : Type 0} (p : A → Bool) (xs : List A) (y : A) → Contains (filter p xs) y → Contains xs y × (p y ≡ true)
filter_in p [] y there = absurd (no_element y there)
filter_in p (x ∷ xs) y there = by (λ h. filter_in p xs y h) (p x) refl there
  where
    by : (Contains (filter p xs) y → Contains xs y × (p y ≡ true)) → (b : Bool) → p x ≡ b → Contains (cond b (x ∷ filter p xs) (filter p xs)) y → Contains (x ∷ xs) y × (p y ≡ true)
    by more true is h =
        ⊎_elim (λ same. (subst (Contains (x ∷ xs)) same (at_head x xs), ap p (sym same) ∙ is))
        (λ rest. let later = more rest in (behind_head x xs y later.0, later.1)) (head_or_behind x (filter p xs) y h)
    by more false is h = let later = more h in (behind_head x xs y later.0, later.1)

in_filter : {A : Type 0} (p : A → Bool) (xs : List A) (y : A) → Contains xs y → p y ≡ true → Contains (filter p xs) y
in_filter p [] y there passes = absurd (no_element y there)
in_filter p (x ∷ xs) y there passes = by (λ rest. in_filter p xs y rest passes) (p x) refl
  where
    by : (Contains xs y → Contains (filter p xs) y) → (b : Bool) → p x ≡ b → Contains (cond b (x ∷ filter p xs) (filter p xs)) y
    by later true is =
        ⊎_elim (λ same. subst (Contains (x ∷ filter p xs)) same (at_head x (filter p xs)))
        (λ rest. behind_head x (filter p xs) y (later rest)) (head_or_behind x xs y there)
    by later false is =
        ⊎_elim (λ same. absurd (true≢false (sym passes ∙ ap p (sym same) ∙ is))) (λ rest. later rest) (head_or_behind x xs y there)

pub in_flat : {A B : Type 0} (f : A → List B) (xs : List A) (x : A) (y : B) → Contains xs x → Contains (f x) y → Contains (flat_map f xs) y
in_flat f [] x y there within = absurd (no_element x there)
in_flat f (z ∷ xs) x y there within =
    ⊎_elim (λ same. Contains-append_left (f z) (flat_map f xs) y (subst (λ w. Contains (f w) y) (sym same) within))
    (λ rest. Contains-append_right (f z) (flat_map f xs) y (in_flat f xs x y rest within)) (head_or_behind z xs x there)

record IsOf {A B : Type 0} (f : A → List B) (xs : List A) (y : B) : Type 0 where
  source : A
  there : Contains xs source
  within : Contains (f source) y

flat_in : {A B : Type 0} (f : A → List B) (xs : List A) (y : B) → Contains (flat_map f xs) y → IsOf f xs y
flat_in f [] y there = absurd (no_element y there)
flat_in f (x ∷ xs) y there =
    ⊎_elim (λ here. record { source = x; there = at_head x xs; within = here })
    (λ rest. let later = flat_in f xs y rest in record { source = later.source; there = behind_head x xs later.source later.there; within = later.within })
    (Contains-append_cases (f x) (flat_map f xs) y there)

-- ---- what rises

join_each : {A : Type 0} (P : A → Type 0) (xs ys : List A) → AllByRecursion P xs → AllByRecursion P ys → AllByRecursion P (xs ++ ys)
join_each P [] ys first second = second
join_each P (x ∷ xs) ys first second = (first.0, join_each P xs ys first.1 second)

rising_joined : {A : Type 0} (lt : A → A → Bool) (xs ys : List A) → IsRisingBy lt xs → IsRisingBy lt ys → ((x y : A) → Contains xs x → Contains ys y → lt x y ≡ true) → IsRisingBy lt (xs ++ ys)
rising_joined lt [] ys first second below = second
rising_joined lt (x ∷ xs) ys first second below = (
  join_each (λ y. lt x y ≡ true) xs ys first.0 (each_of (λ y. lt x y ≡ true) ys (λ y there. below x y (at_head x xs) there)),
  rising_joined lt xs ys first.1 second (λ u y there within. below u y (behind_head x xs u there) within),
)

-- what stands in parts that rise, one above another
rising_flat : {A B : Type 0} (lt : A → A → Bool) (under : B → B → Bool) (f : A → List B) (xs : List A) → IsRisingBy lt xs → ((x : A) → Contains xs x → IsRisingBy under (f x))
    → ((x y : A) (u v : B) → Contains xs x → Contains xs y → lt x y ≡ true → Contains (f x) u → Contains (f y) v → under u v ≡ true) → IsRisingBy under (flat_map f xs)
rising_flat lt under f [] rises each above = tt
rising_flat lt under f (x ∷ xs) rises each above =
    rising_joined under (f x) (flat_map f xs) (each x (at_head x xs))
    (rising_flat lt under f xs rises.1 (λ y there. each y (behind_head x xs y there))
    (λ y z u v first second less here there. above y z u v (behind_head x xs y first) (behind_head x xs z second) less here there))
    (λ u v here there.
    let part = flat_in f xs v there in
    above x part.source u v (at_head x xs) (behind_head x xs part.source part.there) (of_each (λ y. lt x y ≡ true) xs part.source rises.0 part.there) here part.within)

-- ---- ranges

record IsWithin (from n x : ℕ) : Type 0 where
  least : from ≤ x
  below : x < from + n

within_range : (from n x : ℕ) → Contains (range_with_len from n) x → IsWithin from n x
within_range from zero x there = absurd (no_element x there)
within_range from (suc n) x there =
    ⊎_elim (λ same. record { least = omega (arith, same); below = omega (arith, same) })
    (λ rest. let later = within_range (from + 1) n x rest in let l = later.least in let b = later.below in record { least = omega (arith, l); below = omega (arith, b) })
    (head_or_behind from (range_with_len (from + 1) n) x there)

filtered_rises : (p : ℕ → Bool) (from n : ℕ) → IsRisingBy nat_lt (filter p (range_with_len from n))
filtered_rises p from zero = tt
filtered_rises p from (suc n) = by (filtered_rises p (from + 1) n) (p from)
  where
    by : IsRisingBy nat_lt (filter p (range_with_len (from + 1) n)) → (b : Bool) → IsRisingBy nat_lt (cond b (from ∷ filter p (range_with_len (from + 1) n)) (filter p (range_with_len (from + 1) n)))
    by later true = (
      each_of (λ y. nat_lt from y ≡ true) (filter p (range_with_len (from + 1) n))
          (λ y there. let range = within_range (from + 1) n y (filter_in p (range_with_len (from + 1) n) y there).0 in let least = range.least in lt-ltb from y (omega (arith, least))),
      later,
    )
    by later false = later

-- ---- the actors of a cluster

abbrev actor_lt : Actor → Actor → Bool
actor_lt a b = nat_lt a.0 b.0

abbrev at_node : Layout → ℕ → List Actor
at_node layout node = actor_of node 0 ∷ stores_at layout node

-- an actor of this node
record IsAt (node : ℕ) (a : Actor) : Type 0 where
  shard : ℕ
  few : shard ≤ 15
  is : actor_of node shard ≡ a

pub record IsMapped {A B : Type 0} (f : A → B) (xs : List A) (y : B) : Type 0 where
  pub source : A
  pub there : Contains xs source
  pub is : f source ≡ y

pub mapped : {A B : Type 0} (f : A → B) (xs : List A) (y : B) → Contains (map f xs) y → IsMapped f xs y
mapped f [] y there = absurd (no_element y there)
mapped f (x ∷ xs) y there =
    ⊎_elim (λ same. record { source = x; there = at_head x xs; is = same })
    (λ rest. let later = mapped f xs y rest in record { source = later.source; there = behind_head x xs later.source later.there; is = later.is })
    (head_or_behind (f x) (map f xs) y there)

rising_mapped : (node : ℕ) (xs : List ℕ) → IsRisingBy nat_lt xs → IsRisingBy actor_lt (map (actor_of node) xs)
rising_mapped node [] rises = tt
rising_mapped node (x ∷ xs) rises = (
  each_of (λ b. actor_lt (actor_of node x) b ≡ true) (map (actor_of node) xs)
      (λ b there.
      let from = mapped (actor_of node) xs b there in
      let less : x < from.source = ltb-true x from.source (of_each (λ y. nat_lt x y ≡ true) xs from.source rises.0 from.there) in
      subst (λ (c : Actor). actor_lt (actor_of node x) c ≡ true) from.is (lt-ltb (node * 64 + x) (node * 64 + from.source) (omega (arith, less)))),
  rising_mapped node xs rises.1,
)

module _ (layout : Layout) (is : IsLayout layout) where
  abbrev of_node : ℕ → ℕ → Bool
  of_node node shard = is_among (shard_at layout shard).replicas node

  store_at_node : (node : ℕ) (a : Actor) → Contains (stores_at layout node) a → IsAt node a × (1 ≤ a.0)
  store_at_node node a there =
      let from = mapped (actor_of node) (filter (of_node node) (range_with_len 1 (length layout.shards))) a there in
      let range = within_range 1 (length layout.shards) from.source (filter_in (of_node node) (range_with_len 1 (length layout.shards)) from.source from.there).0 in
      let few = is.few_shards in
      let least = range.least in
      let below = range.below in
      let number : node * 64 + from.source ≡ a.0 = ap (λ (b : Actor). b.0) from.is in
      (record { shard = from.source; few = omega (arith, few, below); is = from.is }, omega (arith, least, number))

  at_its_node : (node : ℕ) (a : Actor) → Contains (at_node layout node) a → IsAt node a
  at_its_node node a there =
      ⊎_elim (λ same. record { shard = 0; few = omega arith; is = same }) (λ rest. (store_at_node node a rest).0) (head_or_behind (actor_of node 0) (stores_at layout node) a there)

  node_rises : (node : ℕ) → IsRisingBy actor_lt (at_node layout node)
  node_rises node = (
    each_of (λ b. actor_lt (actor_of node 0) b ≡ true) (stores_at layout node)
        (λ b there.
        let from = mapped (actor_of node) (filter (of_node node) (range_with_len 1 (length layout.shards))) b there in
        let range = within_range 1 (length layout.shards) from.source (filter_in (of_node node) (range_with_len 1 (length layout.shards)) from.source from.there).0 in
        let least = range.least in
        subst (λ (c : Actor). actor_lt (actor_of node 0) c ≡ true) from.is (lt-ltb (node * 64 + 0) (node * 64 + from.source) (omega (arith, least)))),
    rising_mapped node (filter (of_node node) (range_with_len 1 (length layout.shards))) (filtered_rises (of_node node) 1 (length layout.shards)),
  )

  nodes_rise : IsRisingBy nat_lt layout.nodes
  nodes_rise = subst (IsRisingBy nat_lt) (sym is.nodes) (filtered_rises (is_among layout.nodes) 1 15)

  pub actors_rise : IsRisingBy actor_lt (actors_rising layout)
  actors_rise =
      rising_flat nat_lt actor_lt (at_node layout) layout.nodes nodes_rise (λ node there. node_rises node)
      (λ m n a b first second less here there.
      let one = at_its_node m a here in
      let two = at_its_node n b there in
      let x : m * 64 + one.shard ≡ a.0 = ap (λ (c : Actor). c.0) one.is in
      let y : n * 64 + two.shard ≡ b.0 = ap (λ (c : Actor). c.0) two.is in
      let few = one.few in
      let lower : m < n = ltb-true m n less in
      lt-ltb a.0 b.0 (omega (arith, x, y, few, lower)))

-- ---- journals by their actors

abbrev of_actor : List Image → Actor → List Image
of_actor images a = filter (λ (image : Image). actor_eq image.actor a) images

abbrev image_lt : Image → Image → Bool
image_lt i j = nat_lt i.actor.0 j.actor.0

apart_tail : (x : Image) (xs : List Image) → AreApart (x ∷ xs) → AreApart xs
apart_tail x xs apart i j d lt within = apart (suc i) (suc j) d (omega arith) (omega arith)

apart_head : (x : Image) (xs : List Image) (y : Image) → AreApart (x ∷ xs) → Contains xs y → actor_eq x.actor y.actor ≡ false
apart_head x xs y apart there =
    subst (λ (z : Image). actor_eq x.actor z.actor ≡ false) there.2 (apart 0 (suc there.0) y (omega arith) (let within = there.1 in omega (arith, within)))

one_of_actor : (a : Actor) (images : List Image) → AreApart images → IsRisingBy image_lt (of_actor images a)
one_of_actor a [] apart = tt
one_of_actor a (x ∷ xs) apart = by (one_of_actor a xs (apart_tail x xs apart)) (actor_eq x.actor a) refl
  where
    by : IsRisingBy image_lt (of_actor xs a) → (b : Bool) → actor_eq x.actor a ≡ b → IsRisingBy image_lt (cond b (x ∷ of_actor xs a) (of_actor xs a))
    by later true is = (
      each_of (λ y. image_lt x y ≡ true) (of_actor xs a)
          (λ y there.
          let own = filter_in (λ (image : Image). actor_eq image.actor a) xs y there in
          let first : x.actor.0 ≡ a.0 = eqb-true x.actor.0 a.0 is in
          let second : y.actor.0 ≡ a.0 = eqb-true y.actor.0 a.0 own.1 in
          let same : actor_eq x.actor y.actor ≡ true = eq-eqb x.actor.0 y.actor.0 (first ∙ sym second) in
          absurd (true≢false (sym same ∙ apart_head x xs y apart own.0))),
      later,
    )
    by later false is = later

pub in_turn_rises : (layout : Layout) → IsLayout layout → (images : List Image) → AreApart images → DoRise (in_turn layout images)
in_turn_rises layout is images apart =
    rising_flat actor_lt image_lt (of_actor images) (actors_rising layout) (actors_rise layout is) (λ a there. one_of_actor a images apart)
    (λ a b i j first second less here there.
    let one : i.actor.0 ≡ a.0 = eqb-true i.actor.0 a.0 (filter_in (λ (image : Image). actor_eq image.actor a) images i here).1 in
    let two : j.actor.0 ≡ b.0 = eqb-true j.actor.0 b.0 (filter_in (λ (image : Image). actor_eq image.actor b) images j there).1 in
    let lower : a.0 < b.0 = ltb-true a.0 b.0 less in
    lt-ltb i.actor.0 j.actor.0 (omega (arith, one, two, lower)))

-- a journal of an actor of the cluster stands there too
pub into_turn : (layout : Layout) (images : List Image) (image : Image) → Contains (actors_rising layout) image.actor → Contains images image → Contains (in_turn layout images) image
into_turn layout images image known there =
    in_flat (of_actor images) (actors_rising layout) image.actor image known
    (in_filter (λ (i : Image). actor_eq i.actor image.actor) images image there (eq-eqb image.actor.0 image.actor.0 refl))

pub from_turn : (layout : Layout) (images : List Image) (image : Image) → Contains (in_turn layout images) image → Contains images image
from_turn layout images image there =
    let part = flat_in (of_actor images) (actors_rising layout) image there in
    (filter_in (λ (i : Image). actor_eq i.actor part.source) images image part.within).0

-- journals that rise are apart
pub rising_apart : (images : List Image) → DoRise images → AreApart images
rising_apart [] rises i j d lt within = absurd (omega arith)
rising_apart (x ∷ xs) rises zero zero d lt within = absurd (omega arith)
rising_apart (x ∷ xs) rises zero (suc j) d lt within =
    let there : Contains xs (get_or xs j d) = Contains-get_or xs j d (omega arith) in
    let less : x.actor.0 < (get_or xs j d).actor.0 = ltb-true x.actor.0 (get_or xs j d).actor.0 (of_each (λ y. image_lt x y ≡ true) xs (get_or xs j d) rises.0 there) in
    ne_eqb x.actor.0 (get_or xs j d).actor.0 (λ same. omega (arith, less, same))
rising_apart (x ∷ xs) rises (suc i) zero d lt within = absurd (omega arith)
rising_apart (x ∷ xs) rises (suc i) (suc j) d lt within = rising_apart xs rises.1 i j d (omega arith) (omega arith)
