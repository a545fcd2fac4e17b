-- The keys that were collected while a body was read are those of its footprint.
use Rattle.std.proofs.Common.{◌≡◌, ℕ, Bool, true, false, List, [], map, Result, Ok, Err, IfOk, sym, ap, ◌∙◌}
use Rattle.std.proofs.lemmas.List.Sums.{fold-append}
use Rattle.acc_value.specs.Footprint.{used}
use Rattle.acc_txn.specs.declared.parts.Let.{Let}
use Rattle.acc_txn.specs.declared.parts.Select.{Select}
use Rattle.acc_txn.specs.declared.parts.Condition.{Condition}
use Rattle.acc_txn.specs.declared.parts.Update.{Update}
use Rattle.acc_txn.specs.declared.parts.BodyParts.{BodyParts}
use Rattle.acc_txn.specs.Uses.{selected_keys, updated_key, written_keys, with_keys, footprint_of}
use Rattle.acc_lang.specs.declared.fault.ReadError.{ReadError}
use Rattle.acc_lang.specs.Reading.{more_lets, select, action}
use Rattle.acc_lang.proofs.Fits.{Uses}
use Rattle.acc_lang.proofs.Counts.{lets_uses, select_uses, updates_uses}
use Rattle.acc_lang.proofs.FoundParts.{lets_found}
use Rattle.acc_lang.proofs.FoundSums.{select_found}
use Rattle.acc_lang.proofs.FoundText.{action_found}
use Rattle.acc_lang.proofs.FoundBody.{lets_alone}

module _ (texts : Bool) where
  -- after the LETs
  pub uses_behind : (uses before all : Uses) (lets : List Let) (s : Select) (guards : List Condition) (updates : List Update) (text place rest : List ℕ)
      → select texts uses lets text ≡ Ok ((s, before), place) → action texts before lets place ≡ Ok (((guards, updates), all), rest)
      → all ≡ with_keys true (with_keys false uses (selected_keys s)) (map updated_key updates)
  uses_behind uses before all lets s guards updates text place rest selected acted =
      let f = select_found texts uses lets text ((s, before), place) selected in
      let a = action_found texts before lets place (((guards, updates), all), rest) acted in
      a.uses_are ∙ updates_uses updates [] before
      ∙ ap (λ uses. with_keys true uses (map updated_key updates)) (f.2 ∙ select_uses uses s)

  pub uses_of_lets : (uses : Uses) (lets : List Let) (text rest : List ℕ) → more_lets texts 16 ([], []) text ≡ Ok ((lets, uses), rest)
      → uses ≡ with_keys false [] (map (λ l. l.key) lets)
  uses_of_lets uses lets text rest read =
      let l = lets_found texts text ((lets, uses), rest) read in
      ap (λ s. s.1) l.1 ∙ lets_uses l.0 [] [] ∙ ap (λ lets. with_keys false [] (map (λ l. l.key) lets)) (sym (lets_alone [] l.0 []) ∙ sym (ap (λ s. s.0) l.1))

-- LETs, then the select and the updates
pub uses_joined : (parts : BodyParts) (lets : List Let) (uses : Uses) → parts.lets ≡ lets → uses ≡ with_keys false [] (map (λ l. l.key) lets)
    → with_keys true (with_keys false uses (selected_keys parts.select)) (written_keys parts) ≡ footprint_of parts
uses_joined parts lets uses same is =
    ap (λ uses. with_keys true (with_keys false uses (selected_keys parts.select)) (written_keys parts))
    (is ∙ ap (λ lets. with_keys false [] (map (λ l. l.key) lets)) (sym same))
    ∙ ap (λ uses. with_keys true uses (written_keys parts)) (sym (fold-append (λ so_far key. used so_far key false) [] (map (λ l. l.key) parts.lets) (selected_keys parts.select)))

pub read_uses : (result : Result BodyParts ReadError) (lets : List Let) (before all : Uses) → before ≡ with_keys false [] (map (λ l. l.key) lets)
    → IfOk result (λ parts. parts.lets ≡ lets)
    → IfOk result (λ parts. all ≡ with_keys true (with_keys false before (selected_keys parts.select)) (written_keys parts))
    → IfOk result (λ parts. all ≡ footprint_of parts)
read_uses (Ok parts) lets before all is same uses = uses ∙ uses_joined parts lets before same is
read_uses (Err error) lets before all is same uses = tt
