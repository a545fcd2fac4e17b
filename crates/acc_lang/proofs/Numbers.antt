-- Numbers that are not at fault.
use Rattle.std.proofs.Common.{◌≡◌, ◌≤◌, Bool, Some, None, arith}
use Rattle.acc_token.specs.Tokens.{Token, Word, Mark, Number, Quoted, Strange, End}
use Rattle.acc_lang.specs.declared.fault.Standing.{Standing}
use Rattle.acc_lang.specs.declared.fault.Standing.TheVariants.{Misplaced, Fits, Unfit, Extra}
use Rattle.acc_lang.specs.Faults.{fault_of, fault_behind_minus}
use Rattle.acc_lang.specs.Reading.{number_of}
use Rattle.acc_lang.proofs.Taking.{misplaced}

-- without a sign it is at most 2^63 - 1
pub fits_plain : (as_key : Bool) (standing : Standing) (token : Token) → fault_of as_key standing token ≡ None → number_of token ≤ 9223372036854775807
unfolding fault_of
fits_plain as_key standing (Word letters) none = omega arith
fits_plain as_key standing (Mark mark) none = omega arith
fits_plain as_key Misplaced (Number None) none = omega arith
fits_plain as_key Fits (Number None) none = omega arith
fits_plain as_key Unfit (Number None) none = omega arith
fits_plain as_key Extra (Number None) none = omega arith
fits_plain as_key Misplaced (Number (Some n)) none = misplaced as_key (Number (Some n)) none
fits_plain as_key Fits (Number (Some n)) none = grind arith
fits_plain as_key Unfit (Number (Some n)) none = grind arith
fits_plain as_key Extra (Number (Some n)) none = grind arith
fits_plain as_key standing (Quoted text closed) none = omega arith
fits_plain as_key standing Strange none = omega arith
fits_plain as_key standing End none = omega arith

-- after a minus sign it is at most 2^63
pub fits_behind_minus : (as_key : Bool) (token : Token) → fault_behind_minus as_key token ≡ None → number_of token ≤ 9223372036854775808
unfolding fault_behind_minus
fits_behind_minus as_key (Word letters) none = omega arith
fits_behind_minus as_key (Mark mark) none = omega arith
fits_behind_minus as_key (Number None) none = omega arith
fits_behind_minus as_key (Number (Some n)) none = grind arith
fits_behind_minus as_key (Quoted text closed) none = omega arith
fits_behind_minus as_key Strange none = omega arith
fits_behind_minus as_key End none = omega arith
