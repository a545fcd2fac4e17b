-- What a step opens wasn't opened before, so all its Stables waited.
use Rattle.std.proofs.Common.{◌≡◌, ℕ, zero, suc, Bool, true, false, not, cond, List, [], ◌∷◌, All, Contains, refl, sym, ap, arith}
use Rattle.std.specs.List.{AllByRecursion}
use Rattle.std.specs.Prelude.{is_some}
use Rattle.std.proofs.lemmas.Bool.{true≢false, and_parts}
use Rattle.std.proofs.lemmas.List.Elements.{All-contains}
use Rattle.acc_stamp.specs.declared.stamps.TxnId.{TxnId}
use Rattle.acc_stamp.specs.Rising.{id_among}
use Rattle.acc_stamp.proofs.Rising.{each_filter}
use Rattle.acc_message.specs.Taken.{Taken, known}
use Rattle.acc_message.specs.BallotRules.{kept_outcome}
use Rattle.acc_message.specs.Opening.{Standing, stable_ones, in_turn, is_ready, Change, turn_of, with_applied, pass, is_change, changes_of, opened_of, applied_of, is_opened}
use Rattle.acc_message.specs.StoreRules.{stable_ballots_in, stable_ballots, waiters_of}

-- what is opened by a change wasn't among these
abbrev IsNew : List TxnId → Change → Type 0
IsNew before c = c.opens ≡ true → id_among c.id before ≡ false

not_true : (b : Bool) → not b ≡ true → b ≡ false
not_true true h = absurd (true≢false (sym h))
not_true false h = refl

pass-new : (shard : ℕ) (history : List Taken) (before applied_before applied_ones : List TxnId) (list : List Standing)
    → AllByRecursion (IsNew before) (pass shard history before applied_before applied_ones list)
pass-new shard history before applied_before applied_ones [] = tt
pass-new shard history before applied_before applied_ones (s ∷ rest) =
    let turn = turn_of s.id (id_among s.id before) (id_among s.id applied_before) (is_ready shard history applied_ones s.settled) (is_some (kept_outcome history s.id)) in (
      (λ h. not_true (id_among s.id before) (and_parts (not (id_among s.id before)) (is_ready shard history applied_ones s.settled) h).0),
      pass-new shard history before applied_before (with_applied turn.is_applied s.id applied_ones) rest,
    )

each_is_all : {T : Type 0} (P : T → Type 0) (xs : List T) → AllByRecursion P xs → All P xs
each_is_all P [] h k d lt = absurd (omega (arith, lt))
each_is_all P (x ∷ xs) h zero d lt = h.0
each_is_all P (x ∷ xs) h (suc k) d lt = each_is_all P xs h.1 k d (omega (arith, lt))

at : {T : Type 0} (P : T → Type 0) (xs : List T) (x : T) → AllByRecursion P xs → Contains xs x → P x
at P xs x h there = All-contains P xs x (each_is_all P xs h) there

pub waiters_answered : (shard : ℕ) (step : Taken) (past : List Taken) (c : Change) → Contains (changes_of shard step past) c → c.opens ≡ true
    → stable_ballots (step ∷ past) c.id ≡ stable_ballots_in c.id step.message (waiters_of shard past c.id)
waiters_answered shard step past c there opens =
    let new : is_opened shard past c.id ≡ false =
    at (IsNew (opened_of shard past)) (changes_of shard step past) c
    (each_filter (IsNew (opened_of shard past)) is_change
    (pass shard (step ∷ past) (opened_of shard past) (applied_of shard past) [] (in_turn (stable_ones (step ∷ past) (known (step ∷ past)))))
    (pass-new shard (step ∷ past) (opened_of shard past) (applied_of shard past) [] (in_turn (stable_ones (step ∷ past) (known (step ∷ past))))))
    there opens in
    ap (stable_ballots_in c.id step.message) (sym (ap (λ b. cond b [] (stable_ballots past c.id)) new))
