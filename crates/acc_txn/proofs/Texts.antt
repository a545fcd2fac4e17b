-- What a decoding of bytes as text says of them.
use Rattle.std.proofs.Common.{◌≡◌, ℕ, Bool, true, false, List, Result, Ok, Err, is_ok, MatchResult, sym, ◌∙◌}
use Rattle.std.specs.Str.{IsUtf8, is_utf8}
use Rattle.std.proofs.lemmas.Str.{IsUtf8-from_is_utf8, is_utf8-from_IsUtf8}

unless_true : (b : Bool) → ¬ (b ≡ true) → false ≡ b
unless_true true refuted = absurd (refuted (λ _. true))
unless_true false refuted = λ _. false

pub text_test : {S E : Type 0} (bytes : List ℕ) (P : S → Type 0) (Q : E → Type 0) (r : Result S E) (b : Bool) → b ≡ is_ok r → MatchResult r (λ s. P s × IsUtf8 bytes) (λ e. ¬ (IsUtf8 bytes) × Q e) → b ≡ is_utf8 bytes
text_test bytes P Q (Ok s) b is cases = is ∙ sym (is_utf8-from_IsUtf8 bytes cases.1)
text_test bytes P Q (Err e) b is cases = is ∙ unless_true (is_utf8 bytes) (λ t. cases.0 (IsUtf8-from_is_utf8 bytes t))
