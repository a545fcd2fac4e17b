-- What the parser answers at a text of the grammar.
use Rattle.std.proofs.Common.{◌≡◌, ℕ, List, None, Result, Ok, Err, IfOk, IfErr, MatchResult, refl, sym, ap, subst, Bool}
use Rattle.acc_txn.specs.declared.parts.BodyParts.{BodyParts}
use Rattle.acc_lang.specs.declared.error.LangError.{LangError}
use Rattle.acc_lang.specs.declared.error.LangError.TheVariants.{At, OutOfMemory as NoMemory}
use Rattle.acc_lang.specs.Answer.{IsFaultIn}
use Rattle.acc_lang.specs.Grammar.{IsTextOf}
use Rattle.acc_lang.specs.Reading.{reading, reading_fault, placed}
use Rattle.acc_lang.proofs.Obeys.{fits_from_rules}
use Rattle.acc_lang.proofs.OnlyBody.{reading_only}

-- what holds of these parts holds of a body that is made of them
pub of_body : {E : Type 0} (P : BodyParts → Type 0) (parts : BodyParts) (result : Result BodyParts E) → P parts → IfOk result (λ body. body ≡ parts) → IfOk result P
of_body P parts (Ok body) holds is = subst P (sym is) holds
of_body P parts (Err error) holds is = tt

-- want of memory is no fault of the text
pub no_memory : (texts : Bool) (text : List ℕ) (result : Result BodyParts LangError) → IfErr result (λ error. error ≡ NoMemory) → IfErr result (IsFaultIn texts text)
no_memory texts text (Ok body) is = tt
no_memory texts text (Err error) is = subst (IsFaultIn texts text) (sym is) tt

module _ (texts : Bool) where
  pub is_read : (text : List ℕ) (parts : BodyParts) → IsTextOf texts text parts → reading texts text ≡ Ok parts
  is_read text parts is = let f = fits_from_rules parts is.1 in reading_only texts text parts f.0 is.0 f.1

  no_fault : (text : List ℕ) (parts : BodyParts) → reading texts text ≡ Ok parts → reading_fault texts text ≡ None
  unfolding reading_fault
  no_fault text parts is = ap (placed text) is

  pub answered : (text : List ℕ) (result : Result BodyParts LangError) → IfOk result (λ body. reading texts text ≡ Ok body) → IfErr result (IsFaultIn texts text)
      → (parts : BodyParts) → IsTextOf texts text parts → MatchResult result (λ body. body ≡ parts) (λ error. error ≡ NoMemory)
  answered text (Ok body) read fault parts is = let e = is_read text parts is in cc
  answered text (Err (At at kind)) read fault parts is = let n = no_fault text parts (is_read text parts is) in absurd (cc)
  answered text (Err NoMemory) read fault parts is = refl
