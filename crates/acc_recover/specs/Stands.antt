-- What a recovery stands for, and what it makes of a message.
use Rattle.std.specs.Prelude.{◌≡◌, false, List, Option, None, Some}
use Rattle.acc_stamp.specs.declared.stamps.TxnId.{TxnId}
use Rattle.acc_stamp.specs.Actor.{home_of}
use Rattle.acc_stamp.specs.Stamp.{ballot_eq, zero_ballot}
use Rattle.acc_topology.specs.Layout.{Layout}
use Rattle.acc_topology.specs.Sets.{members}
use Rattle.acc_tally.specs.Stands.{StandsFor as Counted}
use Rattle.acc_message.specs.declared.message.Message.{Message}
use Rattle.acc_message.specs.Shares.{shards_used}
use Rattle.acc_message.specs.Attempts.{Attempt, Recovering, plainly}
use Rattle.acc_message.specs.Coordinator.{Reaction, silence, go, block, end, reaction}
use Rattle.acc_message.specs.RecoveryDecision.{views_in}
use Rattle.acc_recover.specs.declared.recovery.Recovery.{Recovery}
use Rattle.acc_recover.specs.declared.judged.Judged.{Judged}
use Rattle.acc_recover.specs.declared.judged.Judged.TheVariants.{Wait, Go as JudgedGo, Blocked, Ended}

-- the attempt of a recovery with these answers, the newest first
abbrev pub attempt_with : Recovery → List Message → Attempt
attempt_with r answers = record { ballot = r.ballot; body = r.body; phase = Recovering; answers = answers }

-- A recovery stands for an attempt at x that asks for evidence: it has the attempt's ballot, which isn't zero, and body, it
-- counts the attempt's answers, and it keeps their views.
pub record StandsFor (layout : Layout) (x : TxnId) (r : Recovery) (a : Attempt) : Type 0 where
  pub is_of : r.id ≡ x
  pub is_attempt : a ≡ attempt_with r a.answers
  pub is_recovery : ballot_eq r.ballot zero_ballot ≡ false
  pub shards_are : members r.shards ≡ shards_used layout r.body
  pub counted : Counted r.tally (shards_used layout r.body) (plainly x a.answers)
  pub views_are : r.views ≡ views_in a.answers

-- the recovery stands for what an attempt has become, where it goes on
abbrev pub StandsForNext : Layout → TxnId → Recovery → Option Attempt → Type 0
StandsForNext layout x r None = ⊥
StandsForNext layout x r (Some next) = StandsFor layout x r next

-- What a recovery answers to a message is what the attempt does with it: it goes on with a choice, ends since it is blocked, or
-- ends by a greater ballot; or else it emits nothing, and the recovery stands for what the attempt has become.
abbrev pub JudgesAs : Layout → TxnId → Recovery → Attempt → Reaction → Judged → Type 0
JudgesAs layout x new a r Wait = (r.emitted ≡ silence) × StandsForNext layout x new r.next
JudgesAs layout x new a r (JudgedGo choice) = r ≡ go layout (home_of x a.ballot) x a choice
JudgesAs layout x new a r (Blocked by) = r ≡ block x a by
JudgesAs layout x new a r (Ended by) = r ≡ end x a by

abbrev pub Judges : Layout → TxnId → Recovery → Attempt → Message → Judged → Type 0
Judges layout x new a m judged = JudgesAs layout x new a (reaction layout (home_of x a.ballot) x a m) judged

-- What a recovery would answer to a message, where nothing is told of what the attempt becomes.
abbrev pub WouldJudgeAs : Layout → TxnId → Attempt → Reaction → Judged → Type 0
WouldJudgeAs layout x a r Wait = r.emitted ≡ silence
WouldJudgeAs layout x a r (JudgedGo choice) = r ≡ go layout (home_of x a.ballot) x a choice
WouldJudgeAs layout x a r (Blocked by) = r ≡ block x a by
WouldJudgeAs layout x a r (Ended by) = r ≡ end x a by

abbrev pub WouldJudge : Layout → TxnId → Attempt → Message → Judged → Type 0
WouldJudge layout x a m judged = WouldJudgeAs layout x a (reaction layout (home_of x a.ballot) x a m) judged

-- an answer other than to wait leaves the recovery as it was
abbrev pub KeepsUnlessWaits : Recovery → Recovery → Judged → Type 0
KeepsUnlessWaits old new Wait = Unit {0}
KeepsUnlessWaits old new (JudgedGo choice) = new ≡ old
KeepsUnlessWaits old new (Blocked by) = new ≡ old
KeepsUnlessWaits old new (Ended by) = new ≡ old
