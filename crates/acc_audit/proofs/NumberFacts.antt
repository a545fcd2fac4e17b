-- Names that differ, and their numbers.
use Rattle.std.proofs.Common.{◌≡◌, ℕ, ◌<◌, List, [], length, take, get_or, false, Option, Some, None, ⊎_elim, is_some, refl, sym, ap, ◌∙◌, arith}
use Rattle.std.specs.List.{list_any}
use Rattle.std.specs.Str.{bytes_eq}
use Rattle.std.proofs.lemmas.Bool.{cases_lt, true≢false, false_from_ne_true}
use Rattle.std.proofs.lemmas.List.{length-take, get_or-take, get_or_default}
use Rattle.std.proofs.lemmas.List.Folds.{Any-from_list_any, list_any_at}
use Rattle.std.proofs.lemmas.List.Quantifiers.{position-Some}
use Rattle.std.proofs.lemmas.Slice.Eq.{bytes_eq-Decides}
use Rattle.acc_document_fields.specs.Names.{AreOnce}
use Rattle.acc_document_fields.proofs.PlaceFacts.{known_is, places_differ}
use Rattle.acc_audit.specs.Fronts.{is_known, number_of}
use Rattle.acc_audit.specs.Rules.{Differ}

-- names each of which stands once differ
pub once_differ : (names : List (List ℕ)) → AreOnce names → Differ names
once_differ names once i j here there same =
    ⊎_elim (λ less. absurd (places_differ names i j once less there same)) (λ most.
    ⊎_elim (λ less. absurd (places_differ names j i once less here (sym same))) (λ least. omega (arith, most, least)) (cases_lt j i)) (cases_lt i j)

-- of names that differ each is another than those before it
pub is_new-differ : (names : List (List ℕ)) (i : ℕ) → Differ names → i < length names → list_any (bytes_eq (get_or names i [])) (take i names) ≡ false
is_new-differ names i differ within =
    false_from_ne_true (list_any (bytes_eq (get_or names i [])) (take i names)) (λ found.
    let any = Any-from_list_any (bytes_eq (get_or names i [])) (take i names) found in
    let k : ℕ = any.0 in
    let below : k < i = omega (arith, any.2, length-take i names) in
    let there : get_or names k [] ≡ any.1 =
    get_or_default names k [] any.1 (omega arith) ∙ sym (get_or-take i names k any.1 below) ∙ any.3 in
    let same : get_or names i [] ≡ any.1 = (bytes_eq-Decides (get_or names i []) any.1).0 any.4 in
    let equal : k ≡ i = differ k i (omega arith) within (there ∙ sym same) in
    absurd (omega arith))

pub known_as : (names : List (List ℕ)) (name : List ℕ) (found : Option ℕ) → found ≡ number_of names name → is_known names name ≡ is_some found
known_as names name found e = known_is names name ∙ ap is_some (sym e)

-- what stands at the number of a name
pub numbered : (names : List (List ℕ)) (name : List ℕ) (n : ℕ) → number_of names name ≡ Some n → (n < length names) × (get_or names n [] ≡ name)
numbered names name n e =
    let at = position-Some (bytes_eq name) names n [] e in
    (at.0, sym ((bytes_eq-Decides name (get_or names n [])).0 at.1))

-- each name has its own number
pub own_number : (names : List (List ℕ)) (n : ℕ) → Differ names → n < length names → number_of names (get_or names n []) ≡ Some n
own_number names n differ within =
    elim (number_of names (get_or names n [])) as (λ o. number_of names (get_or names n []) ≡ o → o ≡ Some n) [
      | Some i ↦ λ e.
          let at = numbered names (get_or names n []) i e in
          ap Some (differ i n at.0 within at.1)
      | None ↦ λ e.
          let known = list_any_at (bytes_eq (get_or names n [])) names n [] within ((bytes_eq-Decides (get_or names n []) (get_or names n [])).1 refl) in
          absurd (true≢false (sym known ∙ known_as names (get_or names n []) None (sym e)))
    ] refl
