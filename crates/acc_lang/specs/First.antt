-- Texts that show the same tokens from the left.
use Rattle.std.specs.Prelude.{◌≡◌, ℕ, zero, suc, true, List, codes}
use Rattle.acc_token.specs.Tokens.{token_at, behind, says_word}

-- what follows so many tokens
abbrev pub behind_all : ℕ → List ℕ → List ℕ
behind_all zero text = text
behind_all (suc count) text = behind_all count (behind text)

-- the two show the same tokens, up to the one that so many precede and with it
abbrev pub SameTokens : ℕ → List ℕ → List ℕ → Type 0
SameTokens zero text other = token_at text ≡ token_at other
SameTokens (suc count) text other = (token_at text ≡ token_at other) × SameTokens count (behind text) (behind other)

-- and, where that one is the word v, the same after it, since a FROM there makes it the column
abbrev pub Seen : ℕ → List ℕ → List ℕ → Type 0
Seen zero text other =
    (token_at text ≡ token_at other) × (says_word (codes "v") (token_at text) ≡ true → token_at (behind text) ≡ token_at (behind other))
Seen (suc count) text other = (token_at text ≡ token_at other) × Seen count (behind text) (behind other)
