-- The text of a transaction, in the language of transactions.
use Rattle.std.specs.Prelude.{ℕ, ◌==◌, Bool, List, [], Option, Some, None}
use Rattle.std.specs.Result.{result_unwrap_or}
use Rattle.acc_txn.specs.declared.parts.BodyParts.{BodyParts}
use Rattle.acc_txn.specs.declared.parts.Select.TheVariants.{Nothing}
use Rattle.acc_lang.specs.declared.error.LangKind.{LangKind}
use Rattle.acc_lang.specs.declared.error.LangKind.TheVariants.{Char, Word, Number, Text, Missing, Name, Size, Trailing}
use Rattle.acc_lang.specs.Reading.{reading, reading_fault}
use Rattle.acc_schedule.specs.declared.error.PlanKind.TheVariants.{Text as TextKind}
use Rattle.acc_schedule.specs.declared.error.PlanError.TheVariants.{Bad}
use Rattle.acc_schedule.specs.Paths.{Path, path_text}
use Rattle.acc_schedule.specs.Faults.{Fault}

-- the numbers of the language's faults
abbrev pub detail_of : LangKind → ℕ
detail_of Char = 1
detail_of Word = 2
detail_of Number = 3
detail_of Text = 4
detail_of Missing = 5
detail_of Name = 6
detail_of Size = 7
detail_of Trailing = 8

-- the language's fault, at the path of the text
abbrev pub at_path : Path → Option (LangKind × ℕ) → Fault
at_path path None = None
at_path path (Some (kind, at)) = Some (Bad TextKind (path_text path) (detail_of kind) at)

-- whether the language of the document's version has text values
abbrev pub has_texts : ℕ → Bool
has_texts version = version == 2

-- the text is in that language
abbrev pub text_fault : ℕ → Path → List ℕ → Fault
text_fault version path text = at_path path (reading_fault (has_texts version) text)

abbrev pub no_parts : BodyParts
no_parts = record { lets = []; select = Nothing; guards = []; updates = [] }

-- the body that it says, which is empty where it says none
abbrev pub text_body : ℕ → List ℕ → BodyParts
text_body version text = result_unwrap_or (reading (has_texts version) text) no_parts
