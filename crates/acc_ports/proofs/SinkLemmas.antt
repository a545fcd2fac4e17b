-- Writes that follow one another.
use Rattle.std.proofs.Common.{◌≡◌, ℕ, ◌+◌, ◌-◌, ◌++◌, List, length, take, drop, refl, ap, append_assoc, Option, Some, None, ◌∙◌, sym}
use Rattle.std.proofs.Math.Seq.{take-add}
use Rattle.std.proofs.lemmas.List.{take_rest}
use Rattle.acc_ports.specs.Sink.{followed_by}

-- A front of a text, and then a front of the rest, are a longer front.
pub followed_by-add : (at count : ℕ) (text : List ℕ) (written : Option (List ℕ)) → followed_by (take count (drop at text)) (followed_by (take at text) written) ≡ followed_by (take (at + count) text) written
followed_by-add at count text None = refl
followed_by-add at count text (Some bytes) = ap Some (append_assoc bytes (take at text) (take count (drop at text)) ∙ ap (λ (more : List ℕ). bytes ++ more) (sym (take-add at count text)))

-- The same, where the rest is a slice of the text.
pub followed_by-more : (at count : ℕ) (text : List ℕ) (before now after : Option (List ℕ)) → now ≡ followed_by (take at text) before → after ≡ followed_by (take count (take (length text - at) (drop at text))) now → after ≡ followed_by (take (at + count) text) before
followed_by-more at count text before now after so_far more =
    more ∙ ap (λ (rest : List ℕ). followed_by (take count rest) now) (take_rest text at) ∙ ap (λ (w : Option (List ℕ)). followed_by (take count (drop at text)) w) so_far ∙ followed_by-add at count text before
