-- The payloads so far are entered.
use Rattle.std.proofs.Common.{◌<◌, ◌^◌, length, take}
use Rattle.acc_durable_store.proofs.Replaying.{EnteredSoFar}
use Rattle.acc_durable_store.proofs.replay.replay.Given as goal

abbrev pub invariant-loop-payload : goal.invariant-loop-payload
invariant-loop-payload l = EnteredSoFar l.topology l.version l.own (take l.payload-index l.payloads) l.replayed l.gate × (length l.payloads < 2 ^ 64)
