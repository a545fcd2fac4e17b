-- A step that takes neither a Stable nor an Apply opens and applies nothing.
use Rattle.std.proofs.Common.{◌≡◌, ℕ, Bool, true, false, not, ◌&&◌, ◌||◌, cond, List, [], ◌∷◌, Option, None, Some, is_some, filter, refl, sym, ◌∙◌, ap}
use Rattle.std.proofs.lemmas.Bool.{true≢false, or_from, and_from, not_from_true}
use Rattle.acc_stamp.specs.declared.stamps.TxnId.{TxnId}
use Rattle.acc_stamp.specs.Rising.{id_among}
use Rattle.acc_stamp.proofs.Order.{id_order}
use Rattle.acc_stamp.proofs.Rising.{is_among-filter}
use Rattle.acc_message.specs.declared.message.Message.{Message}
use Rattle.acc_message.specs.declared.message.Message.TheVariants.{PreAccept, PreAcceptOk, Accept, AcceptOk, Commit, CommitOk, Stable, ReadOk, Apply, Recover, RecoverOk, Nack, Decided, Inform}
use Rattle.acc_base.specs.Faults.{or_else}
use Rattle.acc_message.specs.Taken.{Taken, known}
use Rattle.acc_message.specs.BallotRules.{stable_of, settled_in, kept_outcome, outcome_in}
use Rattle.acc_message.specs.Opening.{IsOpened, Stays, Opens, may_open, Standing, stable_ones, in_turn, is_ready, Change, Turn, turn_of, with_applied, pass, is_change, changes_of, with_outcome, opened_of, applied_of}
use Rattle.acc_actor_laws.proofs.Standing.{not_none, Truly, turns-Truly}
use Rattle.acc_actor_laws.proofs.OpeningFacts.{AreApplied, opens-Opened, ready-Opened, more_applied, applied_now, opened_of-sound, opened_of-complete}

nothing_settled : (x : TxnId) (m : Message) → may_open m ≡ false → settled_in x m ≡ None
nothing_settled x (Stable from to id ballot body t deps) h = absurd (true≢false h)
nothing_settled x (Apply from to id ballot body t deps outcome) h = absurd (true≢false h)
nothing_settled x (PreAccept from to id ballot body) h = refl
nothing_settled x (PreAcceptOk from to id ballot vote deps) h = refl
nothing_settled x (Accept from to id ballot body t deps) h = refl
nothing_settled x (AcceptOk from to id ballot deps) h = refl
nothing_settled x (Commit from to id ballot body t deps) h = refl
nothing_settled x (CommitOk from to id ballot) h = refl
nothing_settled x (ReadOk from to id ballot answer) h = refl
nothing_settled x (Recover from to id ballot body) h = refl
nothing_settled x (RecoverOk from to id ballot view) h = refl
nothing_settled x (Nack from to id ballot promised) h = refl
nothing_settled x (Decided from to id ballot t deps) h = refl
nothing_settled x (Inform from to id ballot outcome) h = refl

no_outcome : (x : TxnId) (m : Message) → may_open m ≡ false → outcome_in x m ≡ None
no_outcome x (Apply from to id ballot body t deps outcome) h = absurd (true≢false h)
no_outcome x (Stable from to id ballot body t deps) h = refl
no_outcome x (PreAccept from to id ballot body) h = refl
no_outcome x (PreAcceptOk from to id ballot vote deps) h = refl
no_outcome x (Accept from to id ballot body t deps) h = refl
no_outcome x (AcceptOk from to id ballot deps) h = refl
no_outcome x (Commit from to id ballot body t deps) h = refl
no_outcome x (CommitOk from to id ballot) h = refl
no_outcome x (ReadOk from to id ballot answer) h = refl
no_outcome x (Recover from to id ballot body) h = refl
no_outcome x (RecoverOk from to id ballot view) h = refl
no_outcome x (Nack from to id ballot promised) h = refl
no_outcome x (Decided from to id ballot t deps) h = refl
no_outcome x (Inform from to id ballot outcome) h = refl

or_else-none : {T : Type 0} (o : Option T) → or_else o None ≡ o
or_else-none None = refl
or_else-none (Some x) = refl

-- ---- what is opened is closed under opening

inward : (shard : ℕ) (step : Taken) (past : List Taken) (x : TxnId)
    → IsOpened shard (step ∷ past) (opened_of shard (step ∷ past)) x → IsOpened shard (step ∷ past) (opened_of shard past) x
inward shard step past x (Stays y h) = opened_of-sound shard step past y h
inward shard step past x (Opens y mine is stable outcome opens) =
    Opens y mine is stable outcome (λ z theirs k e first. inward shard step past z (opens z theirs k e first))

closed : (shard : ℕ) (history : List Taken) (x : TxnId) → IsOpened shard history (opened_of shard history) x
    → id_among x (opened_of shard history) ≡ true
closed shard [] x (Stays y h) = h
closed shard [] x (Opens y mine is stable outcome opens) = absurd (not_none mine is)
closed shard (step ∷ past) x h = opened_of-complete shard step past x (inward shard step past x h)

module _ (shard : ℕ) (step : Taken) (past : List Taken) (quiet : may_open step.message ≡ false) where
  same_stable : (x : TxnId) → stable_of (step ∷ past) x ≡ stable_of past x
  same_stable x = ap (or_else (stable_of past x)) (nothing_settled x step.message quiet) ∙ or_else-none (stable_of past x)

  same_outcome : (x : TxnId) → kept_outcome (step ∷ past) x ≡ kept_outcome past x
  same_outcome x = ap (or_else (kept_outcome past x)) (no_outcome x step.message quiet) ∙ or_else-none (kept_outcome past x)

  backward : (before : List TxnId) (x : TxnId) → IsOpened shard (step ∷ past) before x → IsOpened shard past before x
  backward before x (Stays y h) = Stays y h
  backward before x (Opens y mine is stable outcome opens) =
      Opens y mine (sym (same_stable y) ∙ is)
      (λ z k. sym (ap is_some (same_stable z)) ∙ stable z k)
      (λ z theirs k e first. sym (ap is_some (same_outcome z)) ∙ outcome z theirs k (same_stable z ∙ e) first)
      (λ z theirs k e first. backward before z (opens z theirs k (same_stable z ∙ e) first))

  was_opened : (x : TxnId) → IsOpened shard (step ∷ past) (opened_of shard past) x → id_among x (opened_of shard past) ≡ true
  was_opened x h = closed shard past x (backward (opened_of shard past) x h)

  was_applied : (x : TxnId) → id_among x (opened_of shard past) ≡ true → is_some (kept_outcome (step ∷ past) x) ≡ true
      → id_among x (with_outcome past (opened_of shard past)) ≡ true
  was_applied x opened outcome =
      is_among-filter id_order x (λ y. is_some (kept_outcome past y)) (opened_of shard past)
      ∙ and_from (is_some (kept_outcome past x)) _ (sym (ap is_some (same_outcome x)) ∙ outcome) opened

  quiet_opens : (was ready : Bool) → (ready ≡ true → was ≡ true) → (not was && ready) ≡ false
  quiet_opens true ready h = refl
  quiet_opens false true h = absurd (true≢false (sym (h refl)))
  quiet_opens false false h = refl

  quiet_applies : (now outcome applied : Bool) → (now ≡ true → outcome ≡ true → applied ≡ true) → (now && outcome && not applied) ≡ false
  quiet_applies false outcome applied h = refl
  quiet_applies true false applied h = refl
  quiet_applies true true applied h = not_from_true applied (h refl refl)

  no_change : (changes : List Change) (c : Change) → is_change c ≡ false → filter is_change changes ≡ [] → filter is_change (c ∷ changes) ≡ []
  no_change changes c isnt rest = ap (λ b. cond b (c ∷ filter is_change changes) (filter is_change changes)) isnt ∙ rest

  quiet_pass : (applied : List TxnId) (list : List Standing) → AreApplied shard (step ∷ past) (opened_of shard past) applied → Truly (step ∷ past) list
      → filter is_change (pass shard (step ∷ past) (opened_of shard past) (applied_of shard past) applied list) ≡ []
  quiet_pass applied [] are truly = refl
  quiet_pass applied (s ∷ rest) are truly =
      let before : List TxnId = opened_of shard past in
      let ready : Bool = is_ready shard (step ∷ past) applied s.settled in
      let outcome : Bool = is_some (kept_outcome (step ∷ past) s.id) in
      let turn : Turn = turn_of s.id (id_among s.id before) (id_among s.id (applied_of shard past)) ready outcome in
      no_change (pass shard (step ∷ past) before (applied_of shard past) (with_applied turn.is_applied s.id applied) rest) turn.change
      (or_from turn.change.opens turn.change.applies
      (quiet_opens (id_among s.id before) ready
      (λ is. was_opened s.id (ready-Opened shard (step ∷ past) before applied s.id s.settled are truly.0 is)))
      (quiet_applies (id_among s.id before || ready) outcome (id_among s.id (applied_of shard past))
      (λ now has. was_applied s.id (was_opened s.id (opens-Opened shard (step ∷ past) before applied s.id s.settled are truly.0 now)) has)))
      (quiet_pass (with_applied turn.is_applied s.id applied) rest
      (more_applied shard (step ∷ past) before turn.is_applied s.id applied (applied_now shard (step ∷ past) before applied s are truly.0) are) truly.1)

  pub nothing_changes : changes_of shard step past ≡ []
  nothing_changes = quiet_pass [] (in_turn (stable_ones (step ∷ past) (known (step ∷ past)))) tt (turns-Truly (step ∷ past))
