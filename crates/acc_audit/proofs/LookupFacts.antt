-- What stands by the keys of transactions.
use Rattle.std.proofs.Common.{◌≡◌, ℕ, zero, suc, ◌<◌, ◌≤◌, ◌+◌, List, [], ◌∷◌, ◌++◌, length, map, take, get_or, Bool, true, false, ◌&&◌, ◌||◌, Option, Some, Bor, Vec, Global, slice_get, ⊎_elim, refl, sym, ap, ap₂, ◌∙◌, arith}
use Rattle.std.specs.BTreeMap as tree
use Rattle.std.specs.List.{list_any, list_all}
use Rattle.std.specs.Option.{option_copied}
use Rattle.std.proofs.lemmas.Bool.{and_parts, cases_lt}
use Rattle.std.proofs.lemmas.List.{get_or-map, get_or_past, length-map, map-append, take_more}
use Rattle.std.proofs.lemmas.List.Folds.{list_all-map}
use Rattle.std.proofs.lemmas.Option.{get_or_from_slice_get, slice_get_within}
use Rattle.acc_stamp.specs.declared.stamps.Stamp.{Stamp}
use Rattle.acc_value.specs.declared.key.Key.{Key}
use Rattle.acc_value.specs.Key.{key_cmp}
use Rattle.acc_schedule.proofs.FieldFacts.{list_any-map}
use Rattle.acc_txn.specs.declared.parts.BodyParts.{BodyParts}
use Rattle.acc_audit.specs.declared.users.Users.{Users}
use Rattle.acc_audit.specs.Fronts.{no_body}
use Rattle.acc_audit.specs.Users.{Map, Stood, lacks_at, lacks_in, lacks_some, rises_at, shown, shown_all, stand_by, stands_at, stood_at, uses_at, AllRise, AllStoodRise}

all_pass : {X : Type 0} (p : X → Bool) (xs : List X) → ((x : X) → p x ≡ true) → list_all p xs ≡ true
all_pass p [] pass = refl
all_pass p (x ∷ xs) pass = ap₂ ◌&&◌ (pass x) (all_pass p xs pass)

-- a look-up finds what the keys of the transaction find
pub lookup_is : (users : Map) (bodies : List BodyParts) (all : List (List Stood)) (number : ℕ) (t : Stamp) (marks : List ℕ) (mark : ℕ) → all ≡ map (stand_by users) bodies → number < length bodies
    → lacks_in all number t marks mark ≡ lacks_some users number t marks mark (uses_at bodies number)
lookup_is users bodies all number t marks mark is within =
    ap (λ (lists : List (List Stood)). lacks_in lists number t marks mark) is
    ∙ ap (list_any (lacks_at number t marks mark)) (get_or-map (stand_by users) bodies number no_body [] within)
    ∙ list_any-map (lacks_at number t marks mark) (stands_at users) (uses_at bodies number)

pub stood_rise : (users : Map) (bodies : List BodyParts) (all : List (List Stood)) → AllRise users → all ≡ map (stand_by users) bodies → AllStoodRise all
stood_rise users bodies all rise is number =
    ⊎_elim
    (λ within.
    ap (λ (lists : List (List Stood)). list_all rises_at (stood_at lists number)) is
    ∙ ap (list_all rises_at) (get_or-map (stand_by users) bodies number no_body [] within)
    ∙ list_all-map rises_at (stands_at users) (uses_at bodies number)
    ∙ all_pass (λ used. rises_at (stands_at users used)) (uses_at bodies number) (λ used. rise used.0 used.1))
    (λ past.
    ap (λ (lists : List (List Stood)). list_all rises_at (stood_at lists number)) is
    ∙ ap (list_all rises_at) (get_or_past (map (stand_by users) bodies) number [] (omega (arith, past, length-map bodies (stand_by users)))))
    (cases_lt number (length bodies))

abbrev pub Lists : Type 0
Lists = List (Vec (Option (Bor Users) × Bool) Global)

pub shown_at : (lists : Lists) (number : ℕ) (list : Vec (Option (Bor Users) × Bool) Global) → slice_get lists number ≡ Some list → stood_at (shown_all lists) number ≡ map shown list.items
shown_at lists number list at =
    get_or-map (λ it. map shown it.items) lists number list [] (slice_get_within lists number list at)
    ∙ ap (λ (it : Vec (Option (Bor Users) × Bool) Global). map shown it.items) (get_or_from_slice_get lists number list list at)

pub none_at : (lists : Lists) (number : ℕ) → length lists ≤ number → stood_at (shown_all lists) number ≡ []
none_at lists number past = get_or_past (shown_all lists) number [] (omega (arith, past, length-map lists (λ it. map shown it.items)))

-- ---- loops that look up

shown_push : (old new : List (Option (Bor Users) × Bool)) (found : Option (Bor Users)) (writes : Bool) → new ≡ old ++ (found, writes) ∷ [] → map shown new ≡ map shown old ++ (option_copied found, writes) ∷ []
shown_push old new found writes pushed = ap (map shown) pushed ∙ map-append shown old ((found, writes) ∷ [])

pub stand_more : (users : Map) (uses : List (Key × Bool)) (i : ℕ) (used : Key × Bool) (found : Option (Bor Users)) (old new : List (Option (Bor Users) × Bool)) → i < length uses → used ≡ get_or uses i used
    → option_copied found ≡ tree.get key_cmp users used.0 → new ≡ old ++ (found, used.1) ∷ [] → map shown old ≡ map (stands_at users) (take i uses) → map shown new ≡ map (stands_at users) (take (i + 1) uses)
stand_more users uses i used found old new within at finds pushed so_far =
    shown_push old new found used.1 pushed
    ∙ (λ j. so_far j ++ (finds j, used.1) ∷ [])
    ∙ sym (map-append (stands_at users) (take i uses) (used ∷ []))
    ∙ ap (map (stands_at users)) (ap (λ (last : Key × Bool). take i uses ++ last ∷ []) at ∙ sym (take_more uses i used within))

pub stood_more : (users : Map) (bodies : List BodyParts) (i : ℕ) (body : BodyParts) (list : Vec (Option (Bor Users) × Bool) Global) (old new : Lists) → i < length bodies → body ≡ get_or bodies i body
    → map shown list.items ≡ stand_by users body → new ≡ old ++ list ∷ [] → shown_all old ≡ map (stand_by users) (take i bodies) → shown_all new ≡ map (stand_by users) (take (i + 1) bodies)
stood_more users bodies i body list old new within at stands pushed so_far =
    ap shown_all pushed ∙ map-append (λ it. map shown it.items) old (list ∷ [])
    ∙ (λ j. so_far j ++ stands j ∷ [])
    ∙ sym (map-append (stand_by users) (take i bodies) (body ∷ []))
    ∙ ap (map (stand_by users)) (ap (λ (last : BodyParts). take i bodies ++ last ∷ []) at ∙ sym (take_more bodies i body within))

-- what holds of all that stands holds of one
pub rises_one : (stood : List (Option (Bor Users) × Bool)) (i : ℕ) (one : Option (Bor Users) × Bool) → list_all rises_at (map shown stood) ≡ true → i < length stood
    → one ≡ get_or stood i one → rises_at (shown one) ≡ true
rises_one [] i one all within at = absurd (omega (arith, within))
rises_one (x ∷ xs) zero one all within at = ap (λ (k : Option (Bor Users) × Bool). rises_at (shown k)) at ∙ (and_parts (rises_at (shown x)) (list_all rises_at (map shown xs)) all).0
rises_one (x ∷ xs) (suc i) one all within at = rises_one xs i one (and_parts (rises_at (shown x)) (list_all rises_at (map shown xs)) all).1 (omega (arith, within)) at

-- and what holds of one holds of some
pub lacks_one : (p : Stood → Bool) (stood : List (Option (Bor Users) × Bool)) (i : ℕ) (one : Option (Bor Users) × Bool) → i < length stood → one ≡ get_or stood i one → p (shown one) ≡ true
    → list_any p (map shown stood) ≡ true
lacks_one p [] i one within at h = absurd (omega (arith, within))
lacks_one p (x ∷ xs) zero one within at h = ap (λ (b : Bool). b || list_any p (map shown xs)) (ap (λ (k : Option (Bor Users) × Bool). p (shown k)) (sym at) ∙ h)
lacks_one p (x ∷ xs) (suc i) one within at h = later (p (shown x)) (lacks_one p xs i one (omega (arith, within)) at h)
  where
    later : {b : Bool} (a : Bool) → b ≡ true → (a || b) ≡ true
    later true h = refl
    later false h = h

pub rise_there : (lists : Lists) (number : ℕ) (list : Vec (Option (Bor Users) × Bool) Global) → AllStoodRise (shown_all lists) → number < length lists → list ≡ get_or lists number list
    → list_all rises_at (map shown list.items) ≡ true
rise_there lists number list rise within at =
    ap (list_all rises_at)
    (ap (λ (it : Vec (Option (Bor Users) × Bool) Global). map shown it.items) at
    ∙ sym (get_or-map (λ (it : Vec (Option (Bor Users) × Bool) Global). map shown it.items) lists number list [] within))
    ∙ rise number
