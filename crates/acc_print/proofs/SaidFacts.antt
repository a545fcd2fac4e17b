-- A body without text values can be said in version 1.
use Rattle.std.proofs.Common.{◌≡◌, Bool, true, false, ◌||◌, List, [], ◌∷◌, refl}
use Rattle.std.specs.List.{list_any}
use Rattle.std.proofs.lemmas.Bool.{or_parts}
use Rattle.acc_txn.specs.declared.parts.Term.{Term}
use Rattle.acc_txn.specs.declared.parts.Term.TheVariants.{Number, Name, Null, Text}
use Rattle.acc_txn.specs.declared.parts.Part.{Part}
use Rattle.acc_txn.specs.declared.parts.Condition.{Condition}
use Rattle.acc_txn.specs.declared.parts.Condition.TheVariants.{Compare, IsNull, IsNotNull}
use Rattle.acc_txn.specs.declared.parts.Update.{Update}
use Rattle.acc_txn.specs.declared.parts.Update.TheVariants.{Set, Delete}
use Rattle.acc_txn.specs.declared.parts.BodyParts.{BodyParts}
use Rattle.acc_txn.specs.Rules.{condition_has, update_has}
use Rattle.acc_lang.specs.Texts.{is_text_term, has_text_term, has_text_value}
use Rattle.acc_print.specs.Numbers.{is_unsaid, has_unsaid_term, IsSaid}

both : (a b : Bool) → a ≡ false → b ≡ false → (a || b) ≡ false
both a b left right = rw left right

-- what fails two tests alone fails a third, so do all of a list
module _ {X : Type 0} (p q r : X → Bool) (each : (x : X) → p x ≡ false → q x ≡ false → r x ≡ false) where
  none_of : (xs : List X) → list_any p xs ≡ false → list_any q xs ≡ false → list_any r xs ≡ false
  none_of [] first second = refl
  none_of (x ∷ xs) first second =
      let f = or_parts (p x) (list_any p xs) first in
      let s = or_parts (q x) (list_any q xs) second in
      both (r x) (list_any r xs) (each x f.0 s.0) (none_of xs f.1 s.1)

term_said : (t : Term) → is_unsaid true t ≡ false → is_text_term t ≡ false → is_unsaid false t ≡ false
term_said (Number number) said plain = said
term_said (Name name) said plain = refl
term_said Null said plain = refl
term_said (Text text) said plain = cc

sum_said : (sum : List Part) → has_unsaid_term true sum ≡ false → has_text_term sum ≡ false → has_unsaid_term false sum ≡ false
sum_said sum said plain =
    none_of (λ part. is_unsaid true part.term) (λ part. is_text_term part.term) (λ part. is_unsaid false part.term) (λ part. term_said part.term) sum said plain

condition_said : (c : Condition) → condition_has (has_unsaid_term true) c ≡ false → condition_has has_text_term c ≡ false → condition_has (has_unsaid_term false) c ≡ false
condition_said (Compare op left right) said plain =
    let s = or_parts (has_unsaid_term true left) (has_unsaid_term true right) said in
    let p = or_parts (has_text_term left) (has_text_term right) plain in
    both _ _ (sum_said left s.0 p.0) (sum_said right s.1 p.1)
condition_said (IsNull name) said plain = refl
condition_said (IsNotNull name) said plain = refl

update_said : (u : Update) → update_has (has_unsaid_term true) u ≡ false → update_has has_text_term u ≡ false → update_has (has_unsaid_term false) u ≡ false
update_said (Set key value) said plain = sum_said value said plain
update_said (Delete key) said plain = refl

pub said_without_texts : (parts : BodyParts) → IsSaid true parts → has_text_value parts ≡ false → IsSaid false parts
said_without_texts parts said plain =
    let s = or_parts (list_any (condition_has (has_unsaid_term true)) parts.guards) _ said in
    let p = or_parts (list_any (condition_has has_text_term) parts.guards) _ plain in
    both _ _
    (none_of (condition_has (has_unsaid_term true)) (condition_has has_text_term) (condition_has (has_unsaid_term false)) condition_said parts.guards s.0 p.0)
    (none_of (update_has (has_unsaid_term true)) (update_has has_text_term) (update_has (has_unsaid_term false)) update_said parts.updates s.1 p.1)
