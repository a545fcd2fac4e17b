-- What reading checks of the parts of a body, one after the other, beside that they are spelled by the grammar.
use Rattle.std.proofs.Common.{◌≡◌, ◌≤◌, ℕ, Bool, true, false, ◌==◌, List, [], ◌∷◌, ◌++◌, length, nat_lt, Some, None, sym, ◌∙◌, append_assoc}
use Rattle.std.proofs.lemmas.List.{append-nil}
use Rattle.std.specs.Prelude.{slice_get}
use Rattle.acc_value.specs.declared.key.Key.{Key}
use Rattle.acc_value.specs.Footprint.{used}
use Rattle.acc_txn.specs.declared.parts.Let.{Let}
use Rattle.acc_txn.specs.declared.parts.Select.{Select}
use Rattle.acc_txn.specs.declared.parts.Select.TheVariants.{Nothing, Names, Get}
use Rattle.acc_txn.specs.declared.parts.Term.{Term}
use Rattle.acc_txn.specs.declared.parts.Term.TheVariants.{Number, Name, Null, Text}
use Rattle.acc_txn.specs.declared.parts.Part.{Part}
use Rattle.acc_txn.specs.declared.parts.Condition.{Condition}
use Rattle.acc_txn.specs.declared.parts.Condition.TheVariants.{Compare, IsNull, IsNotNull}
use Rattle.acc_txn.specs.declared.parts.Update.{Update}
use Rattle.acc_txn.specs.declared.parts.Update.TheVariants.{Set, Delete}
use Rattle.acc_txn.specs.declared.parts.BodyParts.{BodyParts}
use Rattle.acc_txn.specs.Words.{is_reserved}
use Rattle.acc_lang.specs.Faults.{has_form}
use Rattle.acc_lang.specs.Reading.{are_many, let_of, key_written}

-- a name that may stand there: a word that isn't reserved, of at most 32 bytes
pub record IsFreeWord (name : List ℕ) : Type 0 where
  pub free : is_reserved name ≡ false
  pub short : nat_lt 32 (length name) ≡ false

-- a key of at most 16
pub record IsFitKey (writes : Bool) (uses : List (Key × Bool)) (key : Key) : Type 0 where
  pub table : IsFreeWord key.table
  pub form : has_form true key.key ≡ true
  pub room : are_many (used uses key writes) ≡ false

-- a state after these items, and what each of them meets at its turn
abbrev pub after : {S X : Type 0} → (S → X → S) → S → List X → S
after push so_far [] = so_far
after push so_far (x ∷ xs) = after push (push so_far x) xs

abbrev pub InTurn : {S X : Type 0} → (S → X → S) → (S → X → Type 0) → S → List X → Type 0
InTurn push Fit so_far [] = Unit {0}
InTurn push Fit so_far (x ∷ xs) = Fit so_far x × InTurn push Fit (push so_far x) xs

abbrev pub at_end : {X : Type 0} → List X → X → List X
at_end xs x = xs ++ x ∷ []

pub after_at_end : {X : Type 0} (so_far xs : List X) → after at_end so_far xs ≡ so_far ++ xs
after_at_end so_far [] = sym (append-nil so_far)
after_at_end so_far (x ∷ xs) = after_at_end (so_far ++ x ∷ []) xs ∙ append_assoc so_far (x ∷ []) xs

abbrev pub Uses : Type 0
Uses = List (Key × Bool)

abbrev pub with_let : List Let × Uses → Let → List Let × Uses
with_let so_far l = (so_far.0 ++ l ∷ [], used so_far.1 l.key false)

pub record IsFitLet (so_far : List Let × Uses) (l : Let) : Type 0 where
  pub name : IsFreeWord l.name
  pub new : let_of so_far.0 l.name ≡ None
  pub key : IsFitKey false so_far.1 l.key

abbrev pub IsFitSelect : Uses → Select → Type 0
IsFitSelect uses Nothing = Unit {0}
IsFitSelect uses (Names names) = length names ≤ 16
IsFitSelect uses (Get key) = IsFitKey false uses key

abbrev pub uses_after_select : Uses → Select → Uses
uses_after_select uses Nothing = uses
uses_after_select uses (Names names) = uses
uses_after_select uses (Get key) = used uses key false

-- a text value that says what it may
abbrev pub IsFitTerm : Term → Type 0
IsFitTerm (Number number) = Unit {0}
IsFitTerm (Name name) = Unit {0}
IsFitTerm Null = Unit {0}
IsFitTerm (Text text) = has_form false text ≡ true

abbrev pub IsFitPart : List Part → Part → Type 0
IsFitPart so_far part = IsFitTerm part.term

-- at most 16 terms
pub record IsFitSum (sum : List Part) : Type 0 where
  pub few : length sum ≤ 16
  pub terms : InTurn at_end IsFitPart [] sum

abbrev pub IsFitCondition : Condition → Type 0
IsFitCondition (Compare op left right) = IsFitSum left × IsFitSum right
IsFitCondition (IsNull name) = Unit {0}
IsFitCondition (IsNotNull name) = Unit {0}

abbrev pub ThisCondition : List Condition → Condition → Type 0
ThisCondition so_far c = IsFitCondition c

abbrev pub with_update : List Update × Uses → Update → List Update × Uses
with_update so_far update = (so_far.0 ++ update ∷ [], used so_far.1 (key_written update) true)

abbrev pub IsFitUpdate : List Update × Uses → Update → Type 0
IsFitUpdate so_far (Set key value) = IsFitKey true so_far.1 key × IsFitSum value
IsFitUpdate so_far (Delete key) = IsFitKey true so_far.1 key

pub record IsFitBody (parts : BodyParts) : Type 0 where
  pub few_lets : length parts.lets ≤ 16
  pub lets : InTurn with_let IsFitLet ([], []) parts.lets
  pub select : IsFitSelect (after with_let ([], []) parts.lets).1 parts.select
  pub few_guards : length parts.guards ≤ 16
  pub guards : InTurn at_end (λ so_far. IsFitCondition) [] parts.guards
  pub few_updates : length parts.updates ≤ 16
  pub updates : InTurn with_update IsFitUpdate ([], uses_after_select (after with_let ([], []) parts.lets).1 parts.select) parts.updates
  pub some_key : (length (after with_update ([], uses_after_select (after with_let ([], []) parts.lets).1 parts.select) parts.updates).1 == 0) ≡ false

-- each name of a LET is free, and leads to its own number
pub record AreNamed (lets : List Let) : Type 0 where
  pub free : (number : ℕ) (l : Let) → slice_get lets number ≡ Some l → IsFreeWord l.name
  pub leads : (number : ℕ) (l : Let) → slice_get lets number ≡ Some l → let_of lets l.name ≡ Some number
