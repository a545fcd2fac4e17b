-- What fits the format: its texts and lists are short enough, its numbers have their widths, and its lists rise.
use Rattle.std.specs.Prelude.{◌<◌, ◌≤◌, ◌^◌, List, length, IfSome}
use Rattle.std.specs.List.{AllByRecursion}
use Rattle.acc_stamp.specs.declared.stamps.Stamp.{Stamp}
use Rattle.acc_stamp.specs.declared.stamps.TxnId.{TxnId}
use Rattle.acc_deps.specs.declared.shards.ShardDeps.{ShardDeps}
use Rattle.acc_deps.specs.declared.records.Accepted.{Accepted}
use Rattle.acc_deps.specs.declared.records.Settled.{Settled}
use Rattle.acc_deps.specs.declared.records.View.{View}
use Rattle.acc_stamp.specs.Rising.{IsRising, IsRisingBy}
use Rattle.acc_deps.specs.Deps.{shard_lt}
use Rattle.acc_message.specs.declared.answer.ReadAnswer.{ReadAnswer}
use Rattle.acc_message.specs.declared.answer.ReadAnswer.TheVariants.{Values, Known}
use Rattle.acc_message.specs.declared.envelope.Envelope.{Envelope}
use Rattle.acc_message.specs.declared.message.Message.{Message}
use Rattle.acc_message.specs.declared.message.Message.TheVariants.{PreAccept, PreAcceptOk, Accept, AcceptOk, Commit, CommitOk, Stable, ReadOk, Apply, Recover, RecoverOk, Nack, Decided, Inform}
use Rattle.acc_message.specs.Fields.{envelope_of}
use Rattle.acc_code.specs.Short.{AreCells, IsOutcome, IsNumberedBody}
use Rattle.acc_message_code.specs.Short.{IsShortActor}

pub record FitsStamp (s : Stamp) : Type 0 where
  pub h : s.h < 2 ^ 64
  pub origin : s.origin < 2 ^ 32

abbrev pub FitStamps : List TxnId → Type 0
FitStamps ids = AllByRecursion (λ id. FitsStamp id.0) ids

pub record FitIds (ids : List TxnId) : Type 0 where
  pub count : length ids < 2 ^ 16
  pub stamps : FitStamps ids
  pub rise : IsRising ids

pub record FitsShard (d : ShardDeps) : Type 0 where
  pub least : 1 ≤ d.shard
  pub most : d.shard ≤ 15
  pub some : 1 ≤ length d.ids
  pub ids : FitIds d.ids

pub record FitDeps (deps : List ShardDeps) : Type 0 where
  pub count : length deps ≤ 15
  pub shards : AllByRecursion FitsShard deps
  pub rise : IsRisingBy shard_lt deps

pub record FitsSettled (s : Settled) : Type 0 where
  pub t : FitsStamp s.t
  pub deps : FitDeps s.deps

pub record FitsAccepted (a : Accepted) : Type 0 where
  pub ballot : FitsStamp a.ballot.0
  pub t : FitsStamp a.t
  pub deps : FitDeps a.deps

pub record FitsView (v : View) : Type 0 where
  pub store : IsShortActor v.store
  pub vote : FitsStamp v.vote
  pub vote_deps : FitDeps v.vote_deps
  pub accepted : IfSome v.accepted FitsAccepted
  pub committed : IfSome v.committed FitsAccepted
  pub stable : IfSome v.stable FitsSettled
  pub waits : FitIds v.waits

abbrev pub FitsAnswer : ReadAnswer → Type 0
FitsAnswer (Values cells) = AreCells cells
FitsAnswer (Known outcome) = IsOutcome outcome

pub record FitsEnvelope (e : Envelope) : Type 0 where
  pub from : IsShortActor e.from
  pub to : IsShortActor e.to
  pub id : FitsStamp e.id.0
  pub ballot : FitsStamp e.ballot.0

abbrev pub FitsDated : Stamp → List ShardDeps → Type 0
FitsDated t deps = FitsSettled (record { t = t; deps = deps })

abbrev pub HasFittingContent : Message → Type 0
HasFittingContent (PreAccept from to id ballot body) = IsNumberedBody body
HasFittingContent (PreAcceptOk from to id ballot vote deps) = FitsDated vote deps
HasFittingContent (Accept from to id ballot body t deps) = IsNumberedBody body × FitsDated t deps
HasFittingContent (AcceptOk from to id ballot deps) = FitDeps deps
HasFittingContent (Commit from to id ballot body t deps) = IsNumberedBody body × FitsDated t deps
HasFittingContent (CommitOk from to id ballot) = Unit {0}
HasFittingContent (Stable from to id ballot body t deps) = IsNumberedBody body × FitsDated t deps
HasFittingContent (ReadOk from to id ballot answer) = FitsAnswer answer
HasFittingContent (Apply from to id ballot body t deps outcome) = (IsNumberedBody body × FitsDated t deps) × IsOutcome outcome
HasFittingContent (Recover from to id ballot body) = IsNumberedBody body
HasFittingContent (RecoverOk from to id ballot view) = FitsView view
HasFittingContent (Nack from to id ballot promised) = FitsStamp promised.0
HasFittingContent (Decided from to id ballot t deps) = FitsDated t deps
HasFittingContent (Inform from to id ballot outcome) = IsOutcome outcome

pub record FitsMessage (m : Message) : Type 0 where
  pub envelope : FitsEnvelope (envelope_of m)
  pub content : HasFittingContent m
