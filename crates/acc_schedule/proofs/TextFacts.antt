-- Texts that are in the language of version 1 have no text value.
use Rattle.std.proofs.Common.{◌≡◌, ℕ, List, Option, Some, None, Result, Ok, Err, IfOk, Bool, false, refl, sym, subst}
use Rattle.std.specs.Result.{result_unwrap_or}
use Rattle.acc_txn.specs.declared.parts.BodyParts.{BodyParts}
use Rattle.acc_txn.specs.Rules.{IsBody}
use Rattle.acc_lang.specs.declared.error.LangError.{LangError}
use Rattle.acc_lang.specs.declared.error.LangKind.{LangKind}
use Rattle.acc_lang.specs.Grammar.{IsTextOf}
use Rattle.acc_lang.specs.declared.fault.Fault.{Fault as Place}
use Rattle.acc_lang.specs.Reading.{placed, reading, reading_fault}
use Rattle.acc_lang.specs.Texts.{has_text_value}
use Rattle.acc_lang.proofs.FoundBody.{reading_found}
use Rattle.acc_lang.proofs.NoTexts.{no_text}
use Rattle.acc_schedule.specs.Paths.{Path}
use Rattle.acc_schedule.specs.Texts.{at_path, has_texts, no_parts, text_body, text_fault}

-- what a text says keeps the rules of bodies
pub said_is_body : (texts : Bool) (text : List ℕ) (r : Result BodyParts LangError) → IfOk r (λ body. IsTextOf texts text body) → IfOk r IsBody
said_is_body texts text (Ok body) said = said.1
said_is_body texts text (Err error) said = tt

none_at : (path : Path) (fault : Option (LangKind × ℕ)) → at_path path fault ≡ None → fault ≡ None
none_at path None h = refl
none_at path (Some fault) h = absurd cc

read_numbers : (text : List ℕ) → reading_fault false text ≡ None → has_text_value (result_unwrap_or (reading false text) no_parts) ≡ false
unfolding reading_fault
read_numbers text h = by_result (reading false text) refl h
  where
    by_result : (r : Result BodyParts Place) → reading false text ≡ r → placed text r ≡ None → has_text_value (result_unwrap_or r no_parts) ≡ false
    by_result (Ok parts) is e = no_text text parts (reading_found false text parts is).0
    by_result (Err fault) is e = absurd cc

pub numbers_alone : (version : ℕ) (path : Path) (text : List ℕ) → version ≡ 1 → text_fault version path text ≡ None → has_text_value (text_body version text) ≡ false
numbers_alone version path text first h =
    let none : reading_fault (has_texts version) text ≡ None = none_at path (reading_fault (has_texts version) text) h in
    subst (λ (v : ℕ). reading_fault (has_texts v) text ≡ None → has_text_value (text_body v text) ≡ false) (sym first) (read_numbers text) none
