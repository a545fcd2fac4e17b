-- What has a spelling: actors of two bytes, shards from 1 to 15, lists that are no longer than their counts tell, and a
-- view whose waits rise. Dependencies rise by their type.
use Rattle.std.specs.Prelude.{◌<◌, ◌≤◌, ◌^◌, List, length, IfSome}
use Rattle.std.specs.List.{AllByRecursion}
use Rattle.acc_stamp.specs.declared.stamps.TxnId.{TxnId}
use Rattle.acc_stamp.specs.declared.actors.Actor.{Actor}
use Rattle.acc_deps.specs.declared.shards.ShardDeps.{ShardDeps}
use Rattle.acc_deps.specs.declared.records.Accepted.{Accepted}
use Rattle.acc_deps.specs.declared.records.Settled.{Settled}
use Rattle.acc_deps.specs.declared.records.View.{View}
use Rattle.acc_stamp.specs.Rising.{IsRising}
use Rattle.acc_message.specs.declared.answer.ReadAnswer.{ReadAnswer}
use Rattle.acc_message.specs.declared.answer.ReadAnswer.TheVariants.{Values, Known}
use Rattle.acc_message.specs.declared.message.Message.{Message}
use Rattle.acc_message.specs.declared.message.Message.TheVariants.{PreAccept, PreAcceptOk, Accept, AcceptOk, Commit, CommitOk, Stable, ReadOk, Apply, Recover, RecoverOk, Nack, Decided, Inform}
use Rattle.acc_message.specs.Fields.{from_of, to_of}
use Rattle.acc_code.specs.Short.{AreShortCells, IsShortOutcome}

abbrev pub IsShortActor : Actor → Type 0
IsShortActor actor = actor.0 < 2 ^ 16

abbrev pub AreShortIds : List TxnId → Type 0
AreShortIds ids = length ids < 2 ^ 16

pub record IsShortShard (d : ShardDeps) : Type 0 where
  pub least : 1 ≤ d.shard
  pub most : d.shard ≤ 15
  pub ids : AreShortIds d.ids

pub record AreShortDeps (deps : List ShardDeps) : Type 0 where
  pub count : length deps ≤ 15
  pub shards : AllByRecursion IsShortShard deps

abbrev pub IsShortSettled : Settled → Type 0
IsShortSettled s = AreShortDeps s.deps

abbrev pub IsShortAccepted : Accepted → Type 0
IsShortAccepted a = AreShortDeps a.deps

pub record IsShortView (v : View) : Type 0 where
  pub store : IsShortActor v.store
  pub vote_deps : AreShortDeps v.vote_deps
  pub accepted : IfSome v.accepted IsShortAccepted
  pub committed : IfSome v.committed IsShortAccepted
  pub stable : IfSome v.stable IsShortSettled
  pub waits : AreShortIds v.waits
  pub waits_rise : IsRising v.waits

abbrev pub IsShortAnswer : ReadAnswer → Type 0
IsShortAnswer (Values cells) = AreShortCells cells
IsShortAnswer (Known outcome) = IsShortOutcome outcome

abbrev pub HasShortContent : Message → Type 0
HasShortContent (PreAccept from to id ballot body) = Unit {0}
HasShortContent (PreAcceptOk from to id ballot vote deps) = AreShortDeps deps
HasShortContent (Accept from to id ballot body t deps) = AreShortDeps deps
HasShortContent (AcceptOk from to id ballot deps) = AreShortDeps deps
HasShortContent (Commit from to id ballot body t deps) = AreShortDeps deps
HasShortContent (CommitOk from to id ballot) = Unit {0}
HasShortContent (Stable from to id ballot body t deps) = AreShortDeps deps
HasShortContent (ReadOk from to id ballot answer) = IsShortAnswer answer
HasShortContent (Apply from to id ballot body t deps outcome) = AreShortDeps deps × IsShortOutcome outcome
HasShortContent (Recover from to id ballot body) = Unit {0}
HasShortContent (RecoverOk from to id ballot view) = IsShortView view
HasShortContent (Nack from to id ballot promised) = Unit {0}
HasShortContent (Decided from to id ballot t deps) = AreShortDeps deps
HasShortContent (Inform from to id ballot outcome) = IsShortOutcome outcome

pub record IsShortMessage (m : Message) : Type 0 where
  pub from : IsShortActor (from_of m)
  pub to : IsShortActor (to_of m)
  pub content : HasShortContent m
