-- Commands that begin transactions with rising numbers begin none twice.
use Rattle.std.proofs.Common.{◌≡◌, ℕ, zero, suc, ◌+◌, ◌==◌, ◌≤◌, Bool, true, false, ◌||◌, List, [], ◌∷◌, take, Some, refl, ◌∙◌, ap, subst, eqb-true, arith}
use Rattle.std.specs.List.{slice_get, list_any}
use Rattle.acc_schedule.specs.declared.plan.Step.{Step}
use Rattle.acc_schedule.specs.declared.plan.Step.TheVariants.{Begin, Deliver, Drop, Recover, Slow, Restart, Fail, Drain}
use Rattle.acc_desk.specs.Commands.{begins_it, BeginsOnce}

-- the transactions that they begin have rising numbers, from this one on
abbrev pub Rise : ℕ → List Step → Type 0
Rise least [] = Unit {0}
Rise least (Begin txn ∷ commands) = (least ≤ txn) × Rise (txn + 1) commands
Rise least (Deliver number ∷ commands) = Rise least commands
Rise least (Drop number ∷ commands) = Rise least commands
Rise least (Recover txn node ∷ commands) = Rise least commands
Rise least (Slow txn ∷ commands) = Rise least commands
Rise least (Restart a choice ∷ commands) = Rise least commands
Rise least (Fail a calls ∷ commands) = Rise least commands
Rise least (Drain ∷ commands) = Rise least commands

lower : (least number txn : ℕ) → least ≤ number → number + 1 ≤ txn → least ≤ txn
lower least number txn p q = omega (arith, p, q)

other : (number txn : ℕ) → number + 1 ≤ txn → (number == txn) ≡ false
other number txn h = by (number == txn) refl
  where
    never : number ≡ txn → ⊥
    never is = omega (arith, h, is)

    by : (test : Bool) → (number == txn) ≡ test → test ≡ false
    by true is = absurd (never (eqb-true number txn is))
    by false is = refl

abbrev Later : ℕ → List Step → ℕ → ℕ → Type 0
Later least commands place txn = (least ≤ txn) × (list_any (begins_it txn) (take place commands) ≡ false)

rise_at : (least : ℕ) (commands : List Step) → Rise least commands → (place txn : ℕ) → slice_get commands place ≡ Some (Begin txn) → Later least commands place txn
rise_at least [] rise place txn is = absurd cc
rise_at least (Begin number ∷ commands) rise zero txn is = let same : number ≡ txn = cc in (subst (λ n. least ≤ n) same rise.0, refl)
rise_at least (Begin number ∷ commands) rise (suc place) txn is =
    let later = rise_at (number + 1) commands rise.1 place txn is in
    (lower least number txn rise.0 later.0, ap (λ b. b || list_any (begins_it txn) (take place commands)) (other number txn later.0) ∙ later.1)
rise_at least (Deliver number ∷ commands) rise zero txn is = absurd cc
rise_at least (Deliver number ∷ commands) rise (suc place) txn is = rise_at least commands rise place txn is
rise_at least (Drop number ∷ commands) rise zero txn is = absurd cc
rise_at least (Drop number ∷ commands) rise (suc place) txn is = rise_at least commands rise place txn is
rise_at least (Recover other_txn node ∷ commands) rise zero txn is = absurd cc
rise_at least (Recover other_txn node ∷ commands) rise (suc place) txn is = rise_at least commands rise place txn is
rise_at least (Slow other_txn ∷ commands) rise zero txn is = absurd cc
rise_at least (Slow other_txn ∷ commands) rise (suc place) txn is = rise_at least commands rise place txn is
rise_at least (Restart a choice ∷ commands) rise zero txn is = absurd cc
rise_at least (Restart a choice ∷ commands) rise (suc place) txn is = rise_at least commands rise place txn is
rise_at least (Fail a calls ∷ commands) rise zero txn is = absurd cc
rise_at least (Fail a calls ∷ commands) rise (suc place) txn is = rise_at least commands rise place txn is
rise_at least (Drain ∷ commands) rise zero txn is = absurd cc
rise_at least (Drain ∷ commands) rise (suc place) txn is = rise_at least commands rise place txn is

pub rise_once : (commands : List Step) → Rise 0 commands → BeginsOnce commands
rise_once commands rise place txn is = (rise_at 0 commands rise place txn is).1
