-- What has a spelling: texts of at most 255 bytes, lists of at most 255 elements, and numbers of 64 bits.
use Rattle.std.specs.Prelude.{◌≡◌, ℕ, List, length, ◌<◌, ◌^◌, IsTrue}
use Rattle.std.specs.Int.{w64}
use Rattle.std.specs.Int.RustNames.{FitsSigned}
use Rattle.std.specs.List.{AllByRecursion}
use Rattle.acc_wire.specs.Spelling.{IsShortText}
use Rattle.acc_value.specs.declared.key.Key.{Key}
use Rattle.acc_txn.specs.declared.parts.Let.{Let}
use Rattle.acc_txn.specs.declared.parts.Select.{Select}
use Rattle.acc_txn.specs.declared.parts.Select.TheVariants.{Nothing, Names, Get}
use Rattle.acc_txn.specs.Words.{is_text_value}
use Rattle.acc_txn.specs.Rules.{IsBody}
use Rattle.acc_txn.specs.declared.parts.Term.{Term}
use Rattle.acc_txn.specs.declared.parts.Term.TheVariants.{Number, Name, Null, Text}
use Rattle.acc_txn.specs.declared.parts.Part.{Part}
use Rattle.acc_txn.specs.declared.parts.Condition.{Condition}
use Rattle.acc_txn.specs.declared.parts.Condition.TheVariants.{Compare, IsNull, IsNotNull}
use Rattle.acc_txn.specs.declared.parts.Update.{Update}
use Rattle.acc_txn.specs.declared.parts.Update.TheVariants.{Set, Delete}
use Rattle.acc_txn.specs.declared.parts.BodyParts.{BodyParts}
use Rattle.acc_txn.specs.BodySpelling.{body_bytes}

pub record IsShortKey (k : Key) : Type 0 where
  pub table : IsShortText k.table
  pub key : IsShortText k.key

pub record IsShortLet (l : Let) : Type 0 where
  pub name : IsShortText l.name
  pub key : IsShortKey l.key

abbrev pub IsShortSelect : Select → Type 0
IsShortSelect Nothing = Unit {0}
IsShortSelect (Names names) = length names < 256
IsShortSelect (Get key) = IsShortKey key

abbrev pub IsShortTerm : Term → Type 0
IsShortTerm (Number number) = Unit {0}
IsShortTerm (Name name) = Unit {0}
IsShortTerm Null = Unit {0}
IsShortTerm (Text text) = IsTrue (is_text_value text)

pub record IsShortSum (sum : List Part) : Type 0 where
  pub count : length sum < 256
  pub terms : AllByRecursion (λ part. IsShortTerm part.term) sum

abbrev pub IsShortCondition : Condition → Type 0
IsShortCondition (Compare op left right) = IsShortSum left × IsShortSum right
IsShortCondition (IsNull name) = Unit {0}
IsShortCondition (IsNotNull name) = Unit {0}

abbrev pub IsShortUpdate : Update → Type 0
IsShortUpdate (Set key value) = IsShortKey key × IsShortSum value
IsShortUpdate (Delete key) = IsShortKey key

pub record IsShortBody (parts : BodyParts) : Type 0 where
  pub lets_count : length parts.lets < 256
  pub lets : AllByRecursion IsShortLet parts.lets
  pub select : IsShortSelect parts.select
  pub guards_count : length parts.guards < 256
  pub guards : AllByRecursion IsShortCondition parts.guards
  pub updates_count : length parts.updates < 256
  pub updates : AllByRecursion IsShortUpdate parts.updates

abbrev pub IsTerm : Term → Type 0
IsTerm (Number number) = FitsSigned w64 number
IsTerm (Name name) = Unit {0}
IsTerm Null = Unit {0}
IsTerm (Text text) = IsTrue (is_text_value text)

abbrev pub AreTerms : List Part → Type 0
AreTerms sum = AllByRecursion (λ part. IsTerm part.term) sum

abbrev pub HasTerms : Condition → Type 0
HasTerms (Compare op left right) = AreTerms left × AreTerms right
HasTerms (IsNull name) = Unit {0}
HasTerms (IsNotNull name) = Unit {0}

abbrev pub SetsTerms : Update → Type 0
SetsTerms (Set key value) = AreTerms value
SetsTerms (Delete key) = Unit {0}

-- a body, each number of which has 64 bits
pub record IsNumberedBody (parts : BodyParts) : Type 0 where
  pub keeps_rules : IsBody parts
  pub guards : AllByRecursion HasTerms parts.guards
  pub updates : AllByRecursion SetsTerms parts.updates

-- the bytes of a body, each number of which has 64 bits
pub record IsCodeOf (parts : BodyParts) (code : List ℕ) : Type 0 where
  pub numbered : IsNumberedBody parts
  pub spelled : code ≡ body_bytes parts
  pub short : length code < 2 ^ 27
