-- What a message of a run names: heights up to a bound, origins and actors of the cluster, transactions that were begun, bodies that
-- keep their rules, and cells and outcomes that fit the format.
use Rattle.std.proofs.Common.{◌≡◌, ℕ, ◌<◌, ◌≤◌, max, false, IsTrue, List, Option, None, Some, is_some, arith, subst}
use Rattle.std.specs.Prelude.{IfSome}
use Rattle.std.specs.List.{AllByRecursion}
use Rattle.acc_stamp.specs.declared.stamps.Stamp.{Stamp}
use Rattle.acc_stamp.specs.declared.stamps.TxnId.{TxnId}
use Rattle.acc_stamp.specs.declared.actors.Actor.{Actor}
use Rattle.acc_stamp.specs.Actor.{shard_of}
use Rattle.acc_stamp.specs.Stamp.{zero_stamp}
use Rattle.acc_stamp.specs.Rising.{IsRising}
use Rattle.acc_stamp.proofs.Rising.{each_weaker}
use Rattle.acc_deps.specs.declared.shards.ShardDeps.{ShardDeps}
use Rattle.acc_deps.specs.declared.records.Accepted.{Accepted}
use Rattle.acc_deps.specs.declared.records.Settled.{Settled}
use Rattle.acc_deps.specs.declared.records.View.{View}
use Rattle.acc_txn.specs.Rules.{IsBody}
use Rattle.acc_txn.specs.declared.parts.BodyParts.{BodyParts}
use Rattle.acc_code.specs.Short.{IsShortOutcome}
use Rattle.acc_message.specs.declared.message.Message.{Message}
use Rattle.acc_message.specs.declared.message.Message.TheVariants.{PreAccept, PreAcceptOk, Accept, AcceptOk, Commit, CommitOk, Stable, ReadOk, Apply, Recover, RecoverOk, Nack, Decided, Inform}
use Rattle.acc_message.specs.Fields.{from_of, to_of, id_of, ballot_of, top_of_accepted, top_of_settled, top_of_view, top_of_own, top_of}
use Rattle.acc_message.specs.Taken.{body_in}
use Rattle.acc_message.specs.Run.{is_node}
use Rattle.acc_message_code.specs.Short.{IsShortAnswer}
use Rattle.acc_actor_laws.proofs.Standing.{not_none}
use Rattle.acc_actor_laws.proofs.OpeningFacts.{some_is}
use Rattle.acc_safety.specs.Places.{IsIn}

-- ---- stamps and actors

pub record IsLow (most : ℕ) (s : Stamp) : Type 0 where
  pub h : s.h ≤ most
  pub origin : s.origin < 1024

pub record IsActor (a : Actor) : Type 0 where
  pub number : a.0 < 1024
  pub shard : shard_of a ≤ 15

pub zero_low : (most : ℕ) → IsLow most zero_stamp
zero_low most = record { h = omega arith; origin = omega arith }

pub low_more : (most more : ℕ) → most ≤ more → (s : Stamp) → IsLow most s → IsLow more s
low_more most more le s h = record { h = omega (arith, le, h.h); origin = h.origin }

-- ---- dependencies and records

pub record IsBegunShard (begun : List TxnId) (d : ShardDeps) : Type 0 where
  pub least : 1 ≤ d.shard
  pub most : d.shard ≤ 15
  pub ids : AllByRecursion (λ id. IsIn id begun) d.ids

abbrev pub AreBegunDeps : List TxnId → List ShardDeps → Type 0
AreBegunDeps begun deps = AllByRecursion (IsBegunShard begun) deps

module _ (most : ℕ) (begun : List TxnId) where
  pub record IsBoundedSettled (s : Settled) : Type 0 where
    pub t : IsLow most s.t
    pub deps : AreBegunDeps begun s.deps

  pub record IsBoundedAccepted (a : Accepted) : Type 0 where
    pub ballot : IsLow most a.ballot.0
    pub t : IsLow most a.t
    pub deps : AreBegunDeps begun a.deps

  pub record IsBoundedView (v : View) : Type 0 where
    pub store : IsActor v.store
    pub vote : IsLow most v.vote
    pub vote_deps : AreBegunDeps begun v.vote_deps
    pub accepted : IfSome v.accepted IsBoundedAccepted
    pub committed : IfSome v.committed IsBoundedAccepted
    pub stable : IfSome v.stable IsBoundedSettled
    pub waits : AllByRecursion (λ id. IsIn id begun) v.waits
    pub waits_rise : IsRising v.waits

  pub record IsBoundedProposal (body : BodyParts) (t : Stamp) (deps : List ShardDeps) : Type 0 where
    pub rules : IsBody body
    pub t_low : IsLow most t
    pub deps_begun : AreBegunDeps begun deps

  abbrev pub HasBoundedContent : Message → Type 0
  HasBoundedContent (PreAccept from to id ballot body) = IsBody body
  HasBoundedContent (PreAcceptOk from to id ballot vote deps) = IsLow most vote × AreBegunDeps begun deps
  HasBoundedContent (Accept from to id ballot body t deps) = IsBoundedProposal body t deps
  HasBoundedContent (AcceptOk from to id ballot deps) = AreBegunDeps begun deps
  HasBoundedContent (Commit from to id ballot body t deps) = IsBoundedProposal body t deps
  HasBoundedContent (CommitOk from to id ballot) = Unit {0}
  HasBoundedContent (Stable from to id ballot body t deps) = IsBoundedProposal body t deps
  HasBoundedContent (ReadOk from to id ballot answer) = IsShortAnswer answer
  HasBoundedContent (Apply from to id ballot body t deps outcome) = IsBoundedProposal body t deps × IsShortOutcome outcome
  HasBoundedContent (Recover from to id ballot body) = IsBody body
  HasBoundedContent (RecoverOk from to id ballot view) = IsBoundedView view
  HasBoundedContent (Nack from to id ballot promised) = IsLow most promised.0
  HasBoundedContent (Decided from to id ballot t deps) = IsLow most t × AreBegunDeps begun deps
  HasBoundedContent (Inform from to id ballot outcome) = IsShortOutcome outcome

  pub record IsKnownId (x : TxnId) : Type 0 where
    pub there : IsIn x begun
    pub low : IsLow most x.0

  -- a message that goes to a store brings a body
  pub record IsAddressed (m : Message) : Type 0 where
    pub to : IsActor (to_of m)
    pub brings : is_node (to_of m) ≡ false → IsTrue (is_some (body_in m))

  pub record IsBounded (m : Message) : Type 0 where
    pub from : IsActor (from_of m)
    pub address : IsAddressed m
    pub id : IsKnownId (id_of m)
    pub ballot : IsLow most (ballot_of m).0
    pub content : HasBoundedContent m

  -- ---- its top and its body

  top_accepted : (o : Option Accepted) → IfSome o IsBoundedAccepted → top_of_accepted o ≤ most
  top_accepted None h = omega arith
  top_accepted (Some a) h = omega (arith, h.ballot.h, h.t.h)

  top_settled : (o : Option Settled) → IfSome o IsBoundedSettled → top_of_settled o ≤ most
  top_settled None h = omega arith
  top_settled (Some s) h = h.t.h

  top_view : (v : View) → IsBoundedView v → top_of_view v ≤ most
  top_view v h =
      let a = top_accepted v.accepted h.accepted in let c = top_accepted v.committed h.committed in let s = top_settled v.stable h.stable in
      four v.vote.h (top_of_accepted v.accepted) (top_of_accepted v.committed) (top_of_settled v.stable) h.vote.h a c s
    where
      four : (p q r s : ℕ) → p ≤ most → q ≤ most → r ≤ most → s ≤ most → max p (max q (max r s)) ≤ most
      four p q r s a b c d = omega (arith, a, b, c, d)

  top_own : (m : Message) → HasBoundedContent m → top_of_own m ≤ most
  top_own (PreAccept from to id ballot body) h = omega arith
  top_own (PreAcceptOk from to id ballot vote deps) h = h.0.h
  top_own (Accept from to id ballot body t deps) h = h.t_low.h
  top_own (AcceptOk from to id ballot deps) h = omega arith
  top_own (Commit from to id ballot body t deps) h = h.t_low.h
  top_own (CommitOk from to id ballot) h = omega arith
  top_own (Stable from to id ballot body t deps) h = h.t_low.h
  top_own (ReadOk from to id ballot answer) h = omega arith
  top_own (Apply from to id ballot body t deps outcome) h = h.0.t_low.h
  top_own (Recover from to id ballot body) h = omega arith
  top_own (RecoverOk from to id ballot view) h = top_view view h
  top_own (Nack from to id ballot promised) h = h.h
  top_own (Decided from to id ballot t deps) h = h.0.h
  top_own (Inform from to id ballot outcome) h = omega arith

  pub bounded_top : (m : Message) → IsBounded m → top_of m ≤ most
  bounded_top m h = three (id_of m).0.h (ballot_of m).0.h (top_of_own m) h.id.low.h h.ballot.h (top_own m h.content)
    where
      three : (p q r : ℕ) → p ≤ most → q ≤ most → r ≤ most → max (max p q) r ≤ most
      three p q r a b c = omega (arith, a, b, c)

  rules_of : (m : Message) (body : BodyParts) → HasBoundedContent m → body_in m ≡ Some body → IsBody body
  rules_of (PreAccept from to id ballot b) body h is = subst IsBody (some_is b body is) h
  rules_of (PreAcceptOk from to id ballot vote deps) body h is = absurd (not_none body is)
  rules_of (Accept from to id ballot b t deps) body h is = subst IsBody (some_is b body is) h.rules
  rules_of (AcceptOk from to id ballot deps) body h is = absurd (not_none body is)
  rules_of (Commit from to id ballot b t deps) body h is = subst IsBody (some_is b body is) h.rules
  rules_of (CommitOk from to id ballot) body h is = absurd (not_none body is)
  rules_of (Stable from to id ballot b t deps) body h is = subst IsBody (some_is b body is) h.rules
  rules_of (ReadOk from to id ballot answer) body h is = absurd (not_none body is)
  rules_of (Apply from to id ballot b t deps outcome) body h is = subst IsBody (some_is b body is) h.0.rules
  rules_of (Recover from to id ballot b) body h is = subst IsBody (some_is b body is) h
  rules_of (RecoverOk from to id ballot view) body h is = absurd (not_none body is)
  rules_of (Nack from to id ballot promised) body h is = absurd (not_none body is)
  rules_of (Decided from to id ballot t deps) body h is = absurd (not_none body is)
  rules_of (Inform from to id ballot outcome) body h is = absurd (not_none body is)

  pub bounded_body : (m : Message) (body : BodyParts) → IsBounded m → body_in m ≡ Some body → IsBody body
  bounded_body m body h is = rules_of m body h.content is

-- ---- with a greater bound, and more begun transactions

module _ (most more : ℕ) (begun also : List TxnId) (le : most ≤ more) (within : (x : TxnId) → IsIn x begun → IsIn x also) where
  more_ids : (ids : List TxnId) → AllByRecursion (λ id. IsIn id begun) ids → AllByRecursion (λ id. IsIn id also) ids
  more_ids ids h = each_weaker (λ id. IsIn id begun) (λ id. IsIn id also) ids within h

  more_shard : (d : ShardDeps) → IsBegunShard begun d → IsBegunShard also d
  more_shard d h = record { least = h.least; most = h.most; ids = more_ids d.ids h.ids }

  more_deps : (deps : List ShardDeps) → AreBegunDeps begun deps → AreBegunDeps also deps
  more_deps deps h = each_weaker (IsBegunShard begun) (IsBegunShard also) deps more_shard h

  more_accepted : (o : Option Accepted) → IfSome o (IsBoundedAccepted most begun) → IfSome o (IsBoundedAccepted more also)
  more_accepted None h = tt
  more_accepted (Some a) h = record { ballot = low_more most more le a.ballot.0 h.ballot; t = low_more most more le a.t h.t; deps = more_deps a.deps h.deps }

  more_settled : (o : Option Settled) → IfSome o (IsBoundedSettled most begun) → IfSome o (IsBoundedSettled more also)
  more_settled None h = tt
  more_settled (Some s) h = record { t = low_more most more le s.t h.t; deps = more_deps s.deps h.deps }

  more_view : (v : View) → IsBoundedView most begun v → IsBoundedView more also v
  more_view v h = record {
    store = h.store;
    vote = low_more most more le v.vote h.vote;
    vote_deps = more_deps v.vote_deps h.vote_deps;
    accepted = more_accepted v.accepted h.accepted;
    committed = more_accepted v.committed h.committed;
    stable = more_settled v.stable h.stable;
    waits = more_ids v.waits h.waits;
    waits_rise = h.waits_rise;
  }

  more_proposal : (body : BodyParts) (t : Stamp) (deps : List ShardDeps) → IsBoundedProposal most begun body t deps → IsBoundedProposal more also body t deps
  more_proposal body t deps h = record { rules = h.rules; t_low = low_more most more le t h.t_low; deps_begun = more_deps deps h.deps_begun }

  more_content : (m : Message) → HasBoundedContent most begun m → HasBoundedContent more also m
  more_content (PreAccept from to id ballot body) h = h
  more_content (PreAcceptOk from to id ballot vote deps) h = (low_more most more le vote h.0, more_deps deps h.1)
  more_content (Accept from to id ballot body t deps) h = more_proposal body t deps h
  more_content (AcceptOk from to id ballot deps) h = more_deps deps h
  more_content (Commit from to id ballot body t deps) h = more_proposal body t deps h
  more_content (CommitOk from to id ballot) h = tt
  more_content (Stable from to id ballot body t deps) h = more_proposal body t deps h
  more_content (ReadOk from to id ballot answer) h = h
  more_content (Apply from to id ballot body t deps outcome) h = (more_proposal body t deps h.0, h.1)
  more_content (Recover from to id ballot body) h = h
  more_content (RecoverOk from to id ballot view) h = more_view view h
  more_content (Nack from to id ballot promised) h = low_more most more le promised.0 h
  more_content (Decided from to id ballot t deps) h = (low_more most more le t h.0, more_deps deps h.1)
  more_content (Inform from to id ballot outcome) h = h

  pub more_id : (x : TxnId) → IsKnownId most begun x → IsKnownId more also x
  more_id x h = record { there = within x h.there; low = low_more most more le x.0 h.low }

  pub more_bounded : (m : Message) → IsBounded most begun m → IsBounded more also m
  more_bounded m h = record {
    from = h.from;
    address = record { to = h.address.to; brings = h.address.brings };
    id = more_id (id_of m) h.id;
    ballot = low_more most more le (ballot_of m).0 h.ballot;
    content = more_content m h.content;
  }
