-- What fits the format has a spelling: what was decoded can be encoded again.
use Rattle.std.proofs.Common.{List, [], ◌∷◌, Option, Some, None}
use Rattle.std.specs.Prelude.{IfSome}
use Rattle.std.specs.List.{AllByRecursion}
use Rattle.acc_deps.specs.declared.shards.ShardDeps.{ShardDeps}
use Rattle.acc_deps.specs.declared.records.Accepted.{Accepted}
use Rattle.acc_deps.specs.declared.records.Settled.{Settled}
use Rattle.acc_deps.specs.declared.records.View.{View}
use Rattle.acc_message.specs.declared.answer.ReadAnswer.{ReadAnswer}
use Rattle.acc_message.specs.declared.answer.ReadAnswer.TheVariants.{Values, Known}
use Rattle.acc_message.specs.declared.message.Message.{Message}
use Rattle.acc_message.specs.declared.message.Message.TheVariants.{PreAccept, PreAcceptOk, Accept, AcceptOk, Commit, CommitOk, Stable, ReadOk, Apply, Recover, RecoverOk, Nack, Decided, Inform}
use Rattle.acc_message.specs.Fields.{envelope_of, from_of, to_of}
use Rattle.acc_code.proofs.Shortness.{short_outcome}
use Rattle.acc_message_code.specs.Short.{IsShortActor, IsShortShard, AreShortDeps, IsShortAccepted, IsShortSettled, IsShortView, IsShortAnswer, HasShortContent, IsShortMessage}
use Rattle.acc_message_code.specs.Fitting.{FitsShard, FitDeps, FitsAccepted, FitsSettled, FitsView, FitsAnswer, FitsEnvelope, HasFittingContent, FitsMessage}

short_shards : (deps : List ShardDeps) → AllByRecursion FitsShard deps → AllByRecursion IsShortShard deps
short_shards [] fits = tt
short_shards (d ∷ deps) fits = (record { least = fits.0.least; most = fits.0.most; ids = fits.0.ids.count }, short_shards deps fits.1)

pub short_deps : (deps : List ShardDeps) → FitDeps deps → AreShortDeps deps
short_deps deps fits = record { count = fits.count; shards = short_shards deps fits.shards }

short_accepted : (accepted : Option Accepted) → IfSome accepted FitsAccepted → IfSome accepted IsShortAccepted
short_accepted None fits = tt
short_accepted (Some a) fits = short_deps a.deps fits.deps

short_settled : (settled : Option Settled) → IfSome settled FitsSettled → IfSome settled IsShortSettled
short_settled None fits = tt
short_settled (Some s) fits = short_deps s.deps fits.deps

short_view : (v : View) → FitsView v → IsShortView v
short_view v fits = record {
  store = fits.store;
  vote_deps = short_deps v.vote_deps fits.vote_deps;
  accepted = short_accepted v.accepted fits.accepted;
  committed = short_accepted v.committed fits.committed;
  stable = short_settled v.stable fits.stable;
  waits = fits.waits.count;
  waits_rise = fits.waits.rise;
}

short_answer : (answer : ReadAnswer) → FitsAnswer answer → IsShortAnswer answer
short_answer (Values cells) fits = fits.short
short_answer (Known outcome) fits = short_outcome outcome fits

short_content : (m : Message) → HasFittingContent m → HasShortContent m
short_content (PreAccept from to id ballot body) fits = tt
short_content (PreAcceptOk from to id ballot vote deps) fits = short_deps deps fits.deps
short_content (Accept from to id ballot body t deps) fits = short_deps deps fits.1.deps
short_content (AcceptOk from to id ballot deps) fits = short_deps deps fits
short_content (Commit from to id ballot body t deps) fits = short_deps deps fits.1.deps
short_content (CommitOk from to id ballot) fits = tt
short_content (Stable from to id ballot body t deps) fits = short_deps deps fits.1.deps
short_content (ReadOk from to id ballot answer) fits = short_answer answer fits
short_content (Apply from to id ballot body t deps outcome) fits = (short_deps deps fits.0.1.deps, short_outcome outcome fits.1)
short_content (Recover from to id ballot body) fits = tt
short_content (RecoverOk from to id ballot view) fits = short_view view fits
short_content (Nack from to id ballot promised) fits = tt
short_content (Decided from to id ballot t deps) fits = short_deps deps fits.deps
short_content (Inform from to id ballot outcome) fits = short_outcome outcome fits

short_from : (m : Message) → FitsEnvelope (envelope_of m) → IsShortActor (from_of m)
short_from m fits = fits.from

short_to : (m : Message) → FitsEnvelope (envelope_of m) → IsShortActor (to_of m)
short_to m fits = fits.to

pub short_message : (m : Message) → FitsMessage m → IsShortMessage m
short_message m fits = record { from = short_from m fits.envelope; to = short_to m fits.envelope; content = short_content m fits.content }
