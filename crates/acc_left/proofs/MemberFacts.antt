-- The journals of a document, one member after another.
use Rattle.std.proofs.Common.{◌≡◌, ℕ, zero, suc, ◌+◌, ◌<◌, ◌≤◌, Bool, true, false, cond, List, [], ◌∷◌, ◌++◌, length, map, drop, get_or, Contains, Option, None, Some, String, string_bytes, refl, sym, ap, subst, ◌∙◌, append_assoc, arith}
use Rattle.std.specs.Prelude.{is_some, option_map, unwrap_or}
use Rattle.std.specs.declared.alloc.Global.{Global}
use Rattle.std.specs.declared.cmp.Ordering.TheVariants.{Less}
use Rattle.std.specs.List.Sorted.{IsStrictlySortedBy}
use Rattle.std.specs.List.{find}
use Rattle.std.specs.Map.{keys_of}
use Rattle.std.specs.Ordering.{is_eq}
use Rattle.std.specs.Str.{bytes_eq}
use Rattle.std.specs.String.{string_cmp}
use Rattle.std.proofs.lemmas.Bool.{true≢false, eqb-true}
use Rattle.std.proofs.lemmas.List.{append-nil, drop_all, drop_more, length-map, get_or-map}
use Rattle.std.proofs.lemmas.Slice.Eq.{bytes_eq-Decides}
use Rattle.std.proofs.lemmas.Map.Keys.{Less-from_sorted}
use Rattle.std.proofs.lemmas.Map.Text.{is_eq-slice_cmp}
use Rattle.std.proofs.lemmas.Option.{same_Some}
use Rattle.serde_json.specs.Data.{Data}
use Rattle.serde_json.specs.Find.{as_object}
use Rattle.serde_json.specs.View.{view, members_view}
use Rattle.serde_json.specs.declared.value.Value.{Value}
use Rattle.acc_base.specs.Faults.{◌then◌, must, each}
use Rattle.acc_base.proofs.Faults.{both_none, each_from_0, must_none, then_none}
use Rattle.acc_document_fields.proofs.EachFacts.{before, behind}
use Rattle.acc_stamp.specs.declared.actors.Actor.{Actor}
use Rattle.acc_stamp.specs.Actor.{actor_eq, actor_of}
use Rattle.acc_topology.specs.Layout.{Layout}
use Rattle.acc_schedule.specs.declared.error.PlanKind.TheVariants.{Name, Shape}
use Rattle.acc_schedule.specs.declared.error.PlanError.{PlanError}
use Rattle.acc_schedule.specs.Actors.{actor_named, actor_text}
use Rattle.acc_schedule.specs.Faults.{bad, fault, Fault, IsFault}
use Rattle.acc_schedule.specs.Fields.{text}
use Rattle.acc_schedule.specs.Paths.{escaped}
use Rattle.acc_left.specs.declared.image.Image.{Image}
use Rattle.acc_left.specs.declared.members.NamedActor.{NamedActor}
use Rattle.acc_left.specs.Digits.{bytes_said}
use Rattle.acc_left.specs.Leaves.{actors_rising, AreApart}
use Rattle.acc_left.specs.Reading.{image_said, is_image, listed, member_fault, member_path, members, members_fault}
use Rattle.acc_left.proofs.OrderFacts.{mapped}
use Rattle.acc_left.proofs.TableFacts.{at_head, behind_head}

abbrev Entry : Type 0
Entry = String Global × Value

-- a member as a document's data have it
abbrev pub shown : Entry → List ℕ × Data
shown e = (string_bytes e.0, view e.1)

listed_view : (entries : List Entry) → listed (members_view entries) ≡ map shown entries
listed_view [] = refl
listed_view (e ∷ entries) = ap (λ (l : List (List ℕ × Data)). shown e ∷ l) (listed_view entries)

pub members_are : (d : Data) (entries : List Entry) → as_object d ≡ Some (members_view entries) → members d ≡ map shown entries
members_are d entries is = ap (λ o. unwrap_or (option_map listed o) []) is ∙ listed_view entries

-- the faults of some members
abbrev faults : Layout → List (List ℕ × Data) → Fault
faults layout xs = each (λ place. member_fault layout) 0 xs

anywhere : (layout : Layout) (xs : List (List ℕ × Data)) (n : ℕ) → each (λ place. member_fault layout) n xs ≡ faults layout xs
anywhere layout [] n = refl
anywhere layout (x ∷ xs) n = ap (λ (f : Fault). member_fault layout x then f) (anywhere layout xs (n + 1) ∙ sym (anywhere layout xs (0 + 1)))

-- the members that are left decide what is wrong, and the others said these journals
pub record AreNamed (layout : Layout) (entries rest : List Entry) (images : List Image) : Type 0 where
  pub faultless : faults layout (map shown entries) ≡ faults layout (map shown rest)
  pub said : images ++ map (image_said layout) (map shown rest) ≡ map (image_said layout) (map shown entries)

pub named_none : (layout : Layout) (entries rest : List Entry) (images : List Image) → rest ≡ entries → images ≡ [] → AreNamed layout entries rest images
named_none layout entries rest images is none = record {
  faultless = ap (λ (l : List Entry). faults layout (map shown l)) (sym is);
  said =
      ap (λ (l : List Image). l ++ map (image_said layout) (map shown rest)) none ∙ ap (λ (l : List Entry). map (image_said layout) (map shown l)) is;
}

-- a member that breaks no rule
faultless_here : (layout : Layout) (name : List ℕ) (d : Data) (a : Actor) → actor_named (actors_rising layout) name ≡ Some a → must (is_image d) (bad Shape (member_path name)) ≡ None → member_fault layout (name, d) ≡ None
faultless_here layout name d a known keeps =
    both_none (must (is_some (actor_named (actors_rising layout) name)) (bad Name (member_path (escaped name)))) (must (is_image d) (bad Shape (member_path name)))
    (ap (λ o. must (is_some o) (bad Name (member_path (escaped name)))) known) keeps

pub named_more : (layout : Layout) (entries rest later : List Entry) (images after : List Image) (e : Entry) (a : Actor) (bytes : List ℕ) → AreNamed layout entries rest images → rest ≡ e ∷ later
    → actor_named (actors_rising layout) (string_bytes e.0) ≡ Some a → must (is_image (view e.1)) (bad Shape (member_path (string_bytes e.0))) ≡ None → bytes ≡ bytes_said (text (view e.1))
    → after ≡ images ++ record { actor = a; bytes = bytes } ∷ [] → AreNamed layout entries later after
named_more layout entries rest later images after e a bytes so_far is known keeps said pushed =
    let here : member_fault layout (shown e) ≡ None = faultless_here layout (string_bytes e.0) (view e.1) a known keeps in
    let image : Image = record { actor = a; bytes = bytes } in
    let one : image ≡ image_said layout (shown e) = λ k. record { actor = sym (ap (λ (o : Option Actor). unwrap_or o (actor_of 0 0)) known) k; bytes = said k } in
    record {
      faultless =
          so_far.faultless ∙ ap (λ (l : List Entry). faults layout (map shown l)) is ∙ ap (λ (f : Fault). f then each (λ place. member_fault layout) (0 + 1) (map shown later)) here
          ∙ anywhere layout (map shown later) (0 + 1);
      said =
          ap (λ (l : List Image). l ++ map (image_said layout) (map shown later)) pushed ∙ append_assoc images (image ∷ []) (map (image_said layout) (map shown later))
          ∙ ap (λ (i : Image). images ++ i ∷ map (image_said layout) (map shown later)) one
          ∙ ap (λ (l : List Entry). images ++ map (image_said layout) (map shown l)) (sym is) ∙ so_far.said;
    }

fails : (layout : Layout) (entries rest later : List Entry) (images : List Image) (e : Entry) (error : PlanError) → AreNamed layout entries rest images → rest ≡ e ∷ later
    → IsFault (member_fault layout (shown e)) error → IsFault (faults layout (map shown entries)) error
fails layout entries rest later images e error so_far is breaks =
    subst (λ (f : Fault). IsFault f error) (sym (so_far.faultless ∙ ap (λ (l : List Entry). faults layout (map shown l)) is))
    (before (member_fault layout (shown e)) (each (λ place. member_fault layout) (0 + 1) (map shown later)) error breaks)

-- no actor has the name
pub name_fails : (layout : Layout) (d : Data) (entries rest later : List Entry) (images : List Image) (e : Entry) (error : PlanError) → as_object d ≡ Some (members_view entries)
    → AreNamed layout entries rest images → rest ≡ e ∷ later → actor_named (actors_rising layout) (string_bytes e.0) ≡ None
    → IsFault (fault Name (member_path (escaped (string_bytes e.0)))) error → IsFault (members_fault layout d) error
name_fails layout d entries rest later images e error object so_far is none h =
    subst (λ (l : List (List ℕ × Data)). IsFault (faults layout l) error) (sym (members_are d entries object))
    (fails layout entries rest later images e error so_far is
    (before (must (is_some (actor_named (actors_rising layout) (string_bytes e.0))) (bad Name (member_path (escaped (string_bytes e.0)))))
    (must (is_image (view e.1)) (bad Shape (member_path (string_bytes e.0)))) error
    (subst (λ o. IsFault (must (is_some o) (bad Name (member_path (escaped (string_bytes e.0))))) error) (sym none) h)))

-- the value is no journal in digits
pub value_fails : (layout : Layout) (d : Data) (entries rest later : List Entry) (images : List Image) (e : Entry) (a : Actor) (error : PlanError) → as_object d ≡ Some (members_view entries)
    → AreNamed layout entries rest images → rest ≡ e ∷ later → actor_named (actors_rising layout) (string_bytes e.0) ≡ Some a
    → IsFault (must (is_image (view e.1)) (bad Shape (member_path (string_bytes e.0)))) error → IsFault (members_fault layout d) error
value_fails layout d entries rest later images e a error object so_far is known h =
    subst (λ (l : List (List ℕ × Data)). IsFault (faults layout l) error) (sym (members_are d entries object))
    (fails layout entries rest later images e error so_far is
    (behind (must (is_some (actor_named (actors_rising layout) (string_bytes e.0))) (bad Name (member_path (escaped (string_bytes e.0)))))
    (must (is_image (view e.1)) (bad Shape (member_path (string_bytes e.0)))) error
    (ap (λ o. must (is_some o) (bad Name (member_path (escaped (string_bytes e.0))))) known) h))

-- ---- journals of members are of different actors

found_text : (actors : List Actor) (name : List ℕ) (a : Actor) → actor_named actors name ≡ Some a → bytes_eq name (actor_text a) ≡ true
found_text [] name a e = absurd cc
found_text (x ∷ actors) name a e = by (λ h. found_text actors name a h) (bytes_eq name (actor_text x)) refl e
  where
    by : (actor_named actors name ≡ Some a → bytes_eq name (actor_text a) ≡ true) → (b : Bool) → bytes_eq name (actor_text x) ≡ b → cond b (Some x) (actor_named actors name) ≡ Some a → bytes_eq name (actor_text a) ≡ true
    by later true is h = ap (λ (y : Actor). bytes_eq name (actor_text y)) (sym (same_Some x a h)) ∙ is
    by later false is h = later h

known_here : (layout : Layout) (xs : List (List ℕ × Data)) (k : ℕ) (d : List ℕ × Data) → faults layout xs ≡ None → k < length xs → member_fault layout (get_or xs k d) ≡ None
known_here layout xs k d none within = each_from_0 (λ place. member_fault layout) xs k d none within

some_of : (o : Option Actor) → is_some o ≡ true → (a : Actor) × (o ≡ Some a)
some_of None e = absurd cc
some_of (Some a) e = (a, refl)

-- the name of a journal is how its actor prints
name_is : (layout : Layout) (x : List ℕ × Data) → member_fault layout x ≡ None → x.0 ≡ actor_text (image_said layout x).actor
name_is layout x none =
    let parts = then_none (must (is_some (actor_named (actors_rising layout) x.0)) (bad Name (member_path (escaped x.0)))) (must (is_image x.1) (bad Shape (member_path x.0))) none in
    let known = some_of (actor_named (actors_rising layout) x.0) (must_none (is_some (actor_named (actors_rising layout) x.0)) (bad Name (member_path (escaped x.0))) parts.0) in
    (bytes_eq-Decides x.0 (actor_text known.0)).0 (found_text (actors_rising layout) x.0 known.0 known.1)
    ∙ ap (λ (o : Option Actor). actor_text (unwrap_or o (actor_of 0 0))) (sym known.1)

entry_at : (entries : List Entry) (k : ℕ) → k < length entries → Entry
entry_at [] k within = absurd (omega arith)
entry_at (e ∷ entries) zero within = e
entry_at (e ∷ entries) (suc k) within = entry_at entries k (omega arith)

pub named_apart : (layout : Layout) (entries : List Entry) (images : List Image) → IsStrictlySortedBy string_cmp (keys_of entries) → faults layout (map shown entries) ≡ None
    → images ≡ map (image_said layout) (map shown entries) → AreApart images
named_apart layout entries images sorted none are i j d lt within = by (actor_eq (get_or images i d).actor (get_or images j d).actor) refl
  where
    long : length images ≡ length entries
    long = ap length are ∙ length-map (map shown entries) (image_said layout) ∙ length-map entries shown

    -- any entry of the list
    some : Entry
    some = entry_at entries j (omega (arith, within, long))

    names : List (List ℕ × Data)
    names = map shown entries

    many : length names ≡ length entries
    many = length-map entries shown

    image_at : (k : ℕ) → k < length entries → get_or images k d ≡ image_said layout (get_or names k (shown some))
    image_at k less = ap (λ (l : List Image). get_or l k d) are ∙ get_or-map (image_said layout) names k (shown some) d (omega (arith, less, many))

    name_at : (k : ℕ) → k < length entries → string_bytes (get_or entries k some).0 ≡ actor_text (get_or images k d).actor
    name_at k less =
        ap (λ (x : List ℕ × Data). x.0) (sym (get_or-map shown entries k some (shown some) less))
        ∙ name_is layout (get_or names k (shown some)) (known_here layout names k (shown some) none (omega (arith, less, many)))
        ∙ ap (λ (image : Image). actor_text image.actor) (sym (image_at k less))

    first : i < length entries
    first = omega (arith, lt, within, long)

    second : j < length entries
    second = omega (arith, within, long)

    below : string_cmp (get_or entries i some).0 (get_or entries j some).0 ≡ Less
    below =
        ap (λ (k : String Global). string_cmp k (get_or entries j some).0) (sym (get_or-map (λ (e : Entry). e.0) entries i some some.0 first))
        ∙ ap (λ (k : String Global). string_cmp (get_or (keys_of entries) i some.0) k) (sym (get_or-map (λ (e : Entry). e.0) entries j some some.0 second))
        ∙ Less-from_sorted string_cmp (keys_of entries) i j some.0 sorted lt (omega (arith, second, length-map entries (λ (e : Entry). e.0)))

    by : (b : Bool) → actor_eq (get_or images i d).actor (get_or images j d).actor ≡ b → b ≡ false
    by false is = refl
    by true is =
        let number : (get_or images i d).actor.0 ≡ (get_or images j d).actor.0 = eqb-true (get_or images i d).actor.0 (get_or images j d).actor.0 is in
        let same : (get_or images i d).actor ≡ (get_or images j d).actor = λ k. record { 0 = number k } in
        let names_same : string_bytes (get_or entries i some).0 ≡ string_bytes (get_or entries j some).0 = name_at i first ∙ ap actor_text same ∙ sym (name_at j second) in
        let equal : bytes_eq (string_bytes (get_or entries i some).0) (string_bytes (get_or entries j some).0) ≡ true =
        (bytes_eq-Decides (string_bytes (get_or entries i some).0) (string_bytes (get_or entries j some).0)).1 names_same in
        absurd
        (true≢false
        (sym equal ∙ sym (is_eq-slice_cmp (string_bytes (get_or entries i some).0) (string_bytes (get_or entries j some).0)) ∙ ap is_eq below))

-- all members
pub named_all : (layout : Layout) (d : Data) (entries rest : List Entry) (images : List Image) → as_object d ≡ Some (members_view entries) → AreNamed layout entries rest images → rest ≡ []
    → IsStrictlySortedBy string_cmp (keys_of entries) → (members_fault layout d ≡ None) × (images ≡ map (image_said layout) (members d)) × AreApart images
named_all layout d entries rest images object so_far ends sorted =
    let are : members d ≡ map shown entries = members_are d entries object in
    let none : faults layout (map shown entries) ≡ None = so_far.faultless ∙ ap (λ (l : List Entry). faults layout (map shown l)) ends in
    let said : images ≡ map (image_said layout) (map shown entries) =
    sym (append-nil images) ∙ ap (λ (l : List Entry). images ++ map (image_said layout) (map shown l)) (sym ends) ∙ so_far.said in
    (ap (faults layout) are ∙ none, said ∙ ap (map (image_said layout)) (sym are), named_apart layout entries images sorted none said)

-- ---- the actor of a name, among actors with their names

abbrev pub named_in : List ℕ → List NamedActor → Option NamedActor
named_in name all = find (λ (n : NamedActor). bytes_eq name (string_bytes n.name)) all

-- the list goes on where the name stands
pub named_here : (all : List NamedActor) (name : List ℕ) (i : ℕ) (n : NamedActor) → i < length all → n ≡ get_or all i n → named_in name all ≡ named_in name (drop i all)
    → bytes_eq name (string_bytes n.name) ≡ true → named_in name all ≡ Some n
named_here all name i n lt at so_far is =
    so_far ∙ ap (named_in name) (drop_more all i n lt ∙ ap (λ (m : NamedActor). m ∷ drop (i + 1) all) (sym at))
    ∙ ap (λ (b : Bool). cond b (Some n) (named_in name (drop (i + 1) all))) is

pub named_later : (all : List NamedActor) (name : List ℕ) (i : ℕ) (n : NamedActor) → i < length all → n ≡ get_or all i n → named_in name all ≡ named_in name (drop i all)
    → bytes_eq name (string_bytes n.name) ≡ false → named_in name all ≡ named_in name (drop (i + 1) all)
named_later all name i n lt at so_far is =
    so_far ∙ ap (named_in name) (drop_more all i n lt ∙ ap (λ (m : NamedActor). m ∷ drop (i + 1) all) (sym at))
    ∙ ap (λ (b : Bool). cond b (Some n) (named_in name (drop (i + 1) all))) is

pub named_never : (all : List NamedActor) (name : List ℕ) (i : ℕ) → length all ≤ i → named_in name all ≡ named_in name (drop i all) → named_in name all ≡ None
named_never all name i long so_far = so_far ∙ ap (named_in name) (drop_all i all long)

abbrev actor_in : NamedActor → Actor
actor_in n = n.actor

either : (b : Bool) (n : NamedActor) (o : Option NamedActor) (r : Option Actor) → option_map actor_in o ≡ r → option_map actor_in (cond b (Some n) o) ≡ cond b (Some n.actor) r
either true n o r e = refl
either false n o r e = e

printed : (all : List NamedActor) (name : List ℕ) → map (λ (n : NamedActor). string_bytes n.name) all ≡ map actor_text (map actor_in all)
    → option_map actor_in (named_in name all) ≡ actor_named (map actor_in all) name
printed [] name e = refl
printed (n ∷ all) name e =
    let head : string_bytes n.name ≡ actor_text n.actor = cc in
    let tails : map (λ (m : NamedActor). string_bytes m.name) all ≡ map actor_text (map actor_in all) = cc in
    either (bytes_eq name (string_bytes n.name)) n (named_in name all) (actor_named (map actor_in all) name) (printed all name tails)
    ∙ ap (λ (t : List ℕ). cond (bytes_eq name t) (Some n.actor) (actor_named (map actor_in all) name)) head

-- the actor with the name is the one that prints so
pub named_same : (all : List NamedActor) (actors : List Actor) (name : List ℕ) → map (λ (n : NamedActor). n.actor) all ≡ actors
    → map (λ (n : NamedActor). string_bytes n.name) all ≡ map actor_text actors → option_map (λ (n : NamedActor). n.actor) (named_in name all) ≡ actor_named actors name
named_same all actors name own names = printed all name (names ∙ ap (map actor_text) (sym own)) ∙ ap (λ (l : List Actor). actor_named l name) own

-- ---- the actors of the journals

found_among : (actors : List Actor) (name : List ℕ) (a : Actor) → actor_named actors name ≡ Some a → Contains actors a
found_among [] name a e = absurd cc
found_among (x ∷ actors) name a e = by (λ h. found_among actors name a h) (bytes_eq name (actor_text x)) refl e
  where
    by : (actor_named actors name ≡ Some a → Contains actors a) → (b : Bool) → bytes_eq name (actor_text x) ≡ b → cond b (Some x) (actor_named actors name) ≡ Some a → Contains (x ∷ actors) a
    by later true is h = subst (Contains (x ∷ actors)) (same_Some x a h) (at_head x actors)
    by later false is h = behind_head x actors a (later h)

known_actor : (layout : Layout) (x : List ℕ × Data) → member_fault layout x ≡ None → Contains (actors_rising layout) (image_said layout x).actor
known_actor layout x none =
    let parts = then_none (must (is_some (actor_named (actors_rising layout) x.0)) (bad Name (member_path (escaped x.0)))) (must (is_image x.1) (bad Shape (member_path x.0))) none in
    let known = some_of (actor_named (actors_rising layout) x.0) (must_none (is_some (actor_named (actors_rising layout) x.0)) (bad Name (member_path (escaped x.0))) parts.0) in
    subst (Contains (actors_rising layout)) (sym (ap (λ (o : Option Actor). unwrap_or o (actor_of 0 0)) known.1)) (found_among (actors_rising layout) x.0 known.0 known.1)

-- each is the journal of an actor of the cluster
pub said_known : (layout : Layout) (d : Data) → members_fault layout d ≡ None → (image : Image) → Contains (map (image_said layout) (members d)) image → Contains (actors_rising layout) image.actor
said_known layout d none image there =
    let from = mapped (image_said layout) (members d) image there in
    subst (λ (i : Image). Contains (actors_rising layout) i.actor) from.is
    (known_actor layout from.source
    (subst (λ (x : List ℕ × Data). member_fault layout x ≡ None) from.there.2 (known_here layout (members d) from.there.0 from.source none from.there.1)))
