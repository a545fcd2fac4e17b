-- The refusals of a shelf: what it answers where a transaction is decided, or where a greater ballot is promised.
use Rattle.std.specs.Prelude.{cond, Option, None, Some}
use Rattle.acc_stamp.specs.declared.actors.Actor.{Actor}
use Rattle.acc_stamp.specs.declared.stamps.Ballot.{Ballot}
use Rattle.acc_stamp.specs.declared.stamps.TxnId.{TxnId}
use Rattle.acc_stamp.specs.Actor.{home_of}
use Rattle.acc_stamp.specs.Stamp.{ballot_lt}
use Rattle.acc_deps.specs.declared.records.Settled.{Settled}
use Rattle.acc_message.specs.declared.message.Message.{Message}
use Rattle.acc_message.specs.declared.message.Message.TheVariants.{Nack, Decided}
use Rattle.acc_record.specs.declared.record.Record.{Record}

abbrev pub refusal_with : Actor → TxnId → Ballot → Ballot → Option Settled → Ballot → Option Message
refusal_with own x b least (Some s) promised = Some (Decided own (home_of x b) x b s.t s.deps)
refusal_with own x b least None promised = cond (ballot_lt least promised) (Some (Nack own (home_of x b) x b promised)) None

-- the news of the decision, where the transaction is decided, and else the promise, where it is above this ballot
abbrev pub refusal_of : Actor → TxnId → Ballot → Ballot → Option Record → Option Message
refusal_of own x b least None = None
refusal_of own x b least (Some r) = refusal_with own x b least r.stable r.promised

abbrev pub refusal_or : Option Message → Message → Message
refusal_or None answer = answer
refusal_or (Some refusal) answer = refusal
