-- A step whose message opens nothing leaves what is stable, opened and applied, the cells and the waiters.
use Rattle.std.proofs.Common.{◌≡◌, ℕ, false, ◌&&◌, cond, List, [], ◌∷◌, ◌++◌, None, is_some, refl, ◌∙◌, ap}
use Rattle.std.proofs.lemmas.Bool.{true≢false}
use Rattle.acc_base.specs.Faults.{or_else}
use Rattle.acc_stamp.specs.declared.stamps.TxnId.{TxnId}
use Rattle.acc_stamp.specs.declared.stamps.Ballot.{Ballot}
use Rattle.acc_stamp.specs.Rising.{id_among}
use Rattle.acc_topology.specs.Layout.{Layout}
use Rattle.acc_value.specs.declared.key.Key.{Key}
use Rattle.acc_message.specs.declared.message.Message.{Message}
use Rattle.acc_message.specs.declared.message.Message.TheVariants.{Stable, Apply}
use Rattle.acc_message.specs.Taken.{Taken}
use Rattle.acc_message.specs.BallotRules.{settled_in, stable_of, outcome_in, kept_outcome}
use Rattle.acc_message.specs.Opening.{Change, may_open, opened_by, opened_of, is_opened, is_applied, cells_at, written_by_all}
use Rattle.acc_message.specs.StoreRules.{stable_ballots_in, stable_ballots, waiters_of}
use Rattle.acc_actor_laws.proofs.QuietFacts.{nothing_changes}
use Rattle.acc_record.proofs.Apart.{or_else-none}

quiet_settled : (x : TxnId) (m : Message) → may_open m ≡ false → settled_in x m ≡ None
quiet_settled x (Stable from to id ballot body t deps) h = absurd (true≢false h)
quiet_settled x (Apply from to id ballot body t deps outcome) h = absurd (true≢false h)
quiet_settled x _ h = refl

quiet_outcome : (x : TxnId) (m : Message) → may_open m ≡ false → outcome_in x m ≡ None
quiet_outcome x (Apply from to id ballot body t deps outcome) h = absurd (true≢false h)
quiet_outcome x _ h = refl

quiet_ballots : (x : TxnId) (m : Message) (ballots : List Ballot) → may_open m ≡ false → stable_ballots_in x m ballots ≡ ballots
quiet_ballots x (Stable from to id ballot body t deps) ballots h = absurd (true≢false h)
quiet_ballots x _ ballots h = refl

module _ (shard : ℕ) (step : Taken) (past : List Taken) (quiet : may_open step.message ≡ false) where
  pub stable_stays : (x : TxnId) → stable_of (step ∷ past) x ≡ stable_of past x
  stable_stays x = ap (or_else (stable_of past x)) (quiet_settled x step.message quiet) ∙ or_else-none (stable_of past x)

  pub outcome_stays : (x : TxnId) → kept_outcome (step ∷ past) x ≡ kept_outcome past x
  outcome_stays x = ap (or_else (kept_outcome past x)) (quiet_outcome x step.message quiet) ∙ or_else-none (kept_outcome past x)

  pub opened_stays : (x : TxnId) → is_opened shard (step ∷ past) x ≡ is_opened shard past x
  opened_stays x = ap (λ (cs : List Change). id_among x (opened_by cs ++ opened_of shard past)) (nothing_changes shard step past quiet)

  pub applied_stays : (x : TxnId) → is_applied shard (step ∷ past) x ≡ is_applied shard past x
  applied_stays x = ap (λ b. b && is_some (kept_outcome (step ∷ past) x)) (opened_stays x) ∙ ap (λ o. is_opened shard past x && is_some o) (outcome_stays x)

  pub waiters_stay : (x : TxnId) → waiters_of shard (step ∷ past) x ≡ waiters_of shard past x
  waiters_stay x =
      ap (λ b. cond b [] (stable_ballots (step ∷ past) x)) (opened_stays x)
      ∙ ap (λ bs. cond (is_opened shard past x) [] bs) (quiet_ballots x step.message (stable_ballots past x) quiet)

  pub cells_stay : (layout : Layout) (key : Key) → cells_at layout shard (step ∷ past) key ≡ cells_at layout shard past key
  cells_stay layout key =
      ap (λ (cs : List Change). written_by_all layout shard (step ∷ past) cs (cells_at layout shard past) key) (nothing_changes shard step past quiet)
