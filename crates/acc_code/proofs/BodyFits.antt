-- What the fields of a body have to be, so that they are read.
use Rattle.std.proofs.Common.{ℕ, ◌^◌, ◌<◌, ◌≤◌, Bool, true, false, not, List, [], length, map, IsTrue}
use Rattle.std.specs.Prelude.{nat_lt}
use Rattle.std.specs.Int.{w64}
use Rattle.std.specs.Int.RustNames.{FitsSigned}
use Rattle.std.specs.List.{list_any, AllByRecursion}
use Rattle.std.specs.Str.{bytes_eq}
use Rattle.acc_wire.specs.Spelling.{IsShortText}
use Rattle.acc_value.specs.declared.key.Key.{Key}
use Rattle.acc_value.specs.Footprint.{used}
use Rattle.acc_txn.specs.declared.parts.Let.{Let}
use Rattle.acc_txn.specs.declared.parts.Select.{Select}
use Rattle.acc_txn.specs.declared.parts.Select.TheVariants.{Nothing, Names, Get}
use Rattle.acc_txn.specs.declared.parts.Term.{Term}
use Rattle.acc_txn.specs.declared.parts.Term.TheVariants.{Number, Name, Null, Text}
use Rattle.acc_txn.specs.declared.parts.Part.{Part}
use Rattle.acc_txn.specs.declared.parts.Condition.{Condition}
use Rattle.acc_txn.specs.declared.parts.Condition.TheVariants.{Compare, IsNull, IsNotNull}
use Rattle.acc_txn.specs.declared.parts.Update.{Update}
use Rattle.acc_txn.specs.declared.parts.Update.TheVariants.{Set, Delete}
use Rattle.acc_txn.specs.declared.parts.BodyParts.{BodyParts}
use Rattle.acc_txn.specs.Words.{is_name, is_key_text, is_text_value}
use Rattle.acc_txn.specs.Uses.{with_keys, updated_key}
use Rattle.acc_txn.specs.Rules.{is_many}
use Rattle.acc_txn.specs.BodySpelling.{sign_number}
use Rattle.acc_code.specs.BodyReading.{let_uses, greatest_sign, least_updates, read_uses}
use Rattle.acc_code.proofs.Formats.{EachFits}

abbrev pub FitsWord : List ℕ → Type 0
FitsWord word = IsShortText word × IsTrue (is_name word)

abbrev pub FitsKeyText : List ℕ → Type 0
FitsKeyText text = IsShortText text × IsTrue (is_key_text text)

abbrev pub FitsKey : Key → Type 0
FitsKey key = FitsWord key.table × FitsKeyText key.key

abbrev pub FitsUse : List (Key × Bool) → Bool → Key → Type 0
FitsUse uses writes key = FitsKey key × IsTrue (not (is_many (length (used uses key writes))))

abbrev pub FitsNewName : List Let → List ℕ → Type 0
FitsNewName front name = FitsWord name × IsTrue (not (list_any (λ l. bytes_eq l.name name) front))

abbrev pub FitsLet : List Let → Let → Type 0
FitsLet front l = FitsNewName front l.name × FitsUse (let_uses front) false l.key

abbrev pub FitsName : ℕ → ℕ → Type 0
FitsName lets name = (name < 2 ^ 8) × IsTrue (nat_lt name lets)

abbrev pub FitsSelect : List Let → Select → Type 0
FitsSelect lets Nothing = Unit {0}
FitsSelect lets (Names names) = (1 ≤ length names) × (length names ≤ 16) × AllByRecursion (FitsName (length lets)) names
FitsSelect lets (Get key) = FitsUse (let_uses lets) false key

abbrev pub FitsTerm : ℕ → Term → Type 0
FitsTerm lets (Number number) = FitsSigned w64 number
FitsTerm lets (Name name) = FitsName lets name
FitsTerm lets Null = Unit {0}
FitsTerm lets (Text text) = IsTrue (is_text_value text)

abbrev pub FitsPart : ℕ → List Part → Part → Type 0
FitsPart lets front part = (sign_number part.minus ≤ greatest_sign front) × FitsTerm lets part.term

abbrev pub FitsSum : ℕ → List Part → Type 0
FitsSum lets sum = (1 ≤ length sum) × (length sum ≤ 16) × EachFits (FitsPart lets) [] sum

abbrev pub FitsCondition : ℕ → Condition → Type 0
FitsCondition lets (Compare op left right) = FitsSum lets left × FitsSum lets right
FitsCondition lets (IsNull name) = FitsName lets name
FitsCondition lets (IsNotNull name) = FitsName lets name

abbrev pub FitsUpdate : ℕ → List (Key × Bool) → Update → Type 0
FitsUpdate lets uses (Set key value) = FitsUse uses true key × FitsSum lets value
FitsUpdate lets uses (Delete key) = FitsUse uses true key

abbrev pub FitsNextUpdate : ℕ → List (Key × Bool) → List Update → Update → Type 0
FitsNextUpdate lets uses front update = FitsUpdate lets (with_keys true uses (map updated_key front)) update

abbrev pub FitLets : List Let → Type 0
FitLets lets = (0 ≤ length lets) × (length lets ≤ 16) × EachFits FitsLet [] lets

abbrev pub FitConditions : ℕ → List Condition → Type 0
FitConditions lets guards = (0 ≤ length guards) × (length guards ≤ 16) × AllByRecursion (FitsCondition lets) guards

abbrev pub FitUpdates : List Let → Select → List Condition → List Update → Type 0
FitUpdates lets select guards updates =
    (least_updates guards ≤ length updates) × (length updates ≤ 16) × EachFits (FitsNextUpdate (length lets) (read_uses lets select)) [] updates

pub record FitsParts (parts : BodyParts) : Type 0 where
  pub lets : FitLets parts.lets
  pub select : FitsSelect parts.lets parts.select
  pub guards : FitConditions (length parts.lets) parts.guards
  pub updates : FitUpdates parts.lets parts.select parts.guards parts.updates
