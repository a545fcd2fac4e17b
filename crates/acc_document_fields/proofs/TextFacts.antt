-- What a text says is a body.
use Rattle.std.proofs.Common.{ℕ, List, Result, Ok, Err, IfOk, Bool}
use Rattle.acc_txn.specs.declared.parts.BodyParts.{BodyParts}
use Rattle.acc_txn.specs.Rules.{IsBody}
use Rattle.acc_lang.specs.declared.error.LangError.{LangError}
use Rattle.acc_lang.specs.Grammar.{IsTextOf}

-- what a text says keeps the rules of bodies
pub said_is_body : (texts : Bool) (text : List ℕ) (r : Result BodyParts LangError) → IfOk r (λ body. IsTextOf texts text body) → IfOk r IsBody
said_is_body texts text (Ok body) said = said.1
said_is_body texts text (Err error) said = tt
