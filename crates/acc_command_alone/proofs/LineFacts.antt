-- The numbers of a line that makes a document.
use Rattle.std.proofs.Common.{◌≡◌, ℕ, List, [], ◌∷◌, Option, sym, ◌∙◌, ap, subst}
use Rattle.acc_command_alone.specs.Number.{value_of}
use Rattle.acc_command_alone.specs.declared.status.Status.{Status}
use Rattle.acc_command_alone.specs.Words.{IsGenerateLine}
use Rattle.acc_command_alone.specs.Ends.{Ends}
use Rattle.acc_command_alone.specs.Command.{IsGenerated}

third : List (List ℕ) → List ℕ
third (a ∷ b ∷ c ∷ words) = c
third words = []

fifth : List (List ℕ) → List ℕ
fifth (a ∷ b ∷ c ∷ d ∷ e ∷ words) = e
fifth words = []

-- the words have one seed and one number of transactions
pub ends_so : (words : List (List ℕ)) (seed txns other_seed other_txns : ℕ) (status : Status) (old new : Option (List ℕ)) → IsGenerateLine words seed txns
    → IsGenerateLine words other_seed other_txns → Ends (IsGenerated other_seed other_txns) status old new → Ends (IsGenerated seed txns) status old new
unfolding third fifth
ends_so words seed txns other_seed other_txns status old new one other ends =
    let same = sym other.words_are ∙ one.words_are in
    let same_seed : other_seed ≡ seed = other.seed_is ∙ ap (λ (w : List (List ℕ)). value_of (third w)) same ∙ sym one.seed_is in
    let same_txns : other_txns ≡ txns = other.txns_is ∙ ap (λ (w : List (List ℕ)). value_of (fifth w)) same ∙ sym one.txns_is in
    subst (λ n. Ends (IsGenerated seed n) status old new) same_txns (subst (λ n. Ends (IsGenerated n other_txns) status old new) same_seed ends)
