-- What a step makes of a record, for each answer.
use Rattle.std.proofs.Common.{◌≡◌, Bool, true, false, ◌&&◌, cond, List, [], ◌∷◌, Option, None, Some, refl, ◌∙◌, ap}
use Rattle.acc_base.specs.Faults.{or_else}
use Rattle.acc_stamp.specs.declared.stamps.Stamp.{Stamp}
use Rattle.acc_stamp.specs.declared.stamps.TxnId.{TxnId}
use Rattle.acc_stamp.specs.declared.stamps.Ballot.{Ballot}
use Rattle.acc_stamp.specs.declared.actors.Actor.{Actor}
use Rattle.acc_stamp.specs.Stamp.{id_eq, zero_ballot}
use Rattle.acc_stamp.proofs.Order.{id_order, eq_itself}
use Rattle.acc_deps.specs.declared.shards.ShardDeps.{ShardDeps}
use Rattle.acc_deps.specs.declared.records.View.{View}
use Rattle.acc_txn.specs.declared.parts.BodyParts.{BodyParts}
use Rattle.acc_message.specs.declared.message.Message.{Message}
use Rattle.acc_message.specs.declared.message.Message.TheVariants.{PreAccept, PreAcceptOk, Accept, AcceptOk, Commit, CommitOk, Recover, RecoverOk, Nack, Decided}
use Rattle.acc_message.specs.Fields.{id_of, ballot_of}
use Rattle.acc_message.specs.VoteRule.{Vote, first_vote}
use Rattle.acc_message.specs.BallotRules.{greater_ballot, grants, accepted_by, committed_by}
use Rattle.acc_record.specs.declared.record.Record.{Record}
use Rattle.acc_record.specs.Stands.{stamp_of_vote}
use Rattle.acc_record.specs.Steps.{deps_kept, record_after}
use Rattle.acc_record.proofs.Apart.{or_else-none, greater_ballot-zero}
use Rattle.acc_record.proofs.Resting.{same_record}

itself : (x : TxnId) → id_eq x x ≡ true
itself x = eq_itself id_order x

-- ---- a message that grants nothing

not_accepted : (x : TxnId) (m : Message) (sent : List Message) → grants x m sent ≡ false → accepted_by x m sent ≡ None
not_accepted x (Accept from to id ballot body t deps) sent h =
    ap (λ b. cond b (Some (record { ballot = ballot; t = t; deps = deps })) None) h
not_accepted x _ sent h = refl

not_committed : (x : TxnId) (m : Message) (sent : List Message) → grants x m sent ≡ false → committed_by x m sent ≡ None
not_committed x (Commit from to id ballot body t deps) sent h =
    ap (λ b. cond b (Some (record { ballot = ballot; t = t; deps = deps })) None) h
not_committed x _ sent h = refl

deps_stay : (vote : Option Stamp) (deps : List ShardDeps) → deps_kept vote deps None ≡ deps
deps_stay None deps = refl
deps_stay (Some vote) deps = refl

-- only the vote may be new
pub after_ungranted : (r : Record) (m : Message) (sent : List Message) → grants (id_of m) m sent ≡ false
    → record_after r m sent
    ≡ record r {
      vote = or_else r.vote (stamp_of_vote (first_vote (id_of m) sent));
      vote_deps = deps_kept r.vote r.vote_deps (first_vote (id_of m) sent);
    }
after_ungranted r m sent ungranted =
    let x : TxnId = id_of m in
    same_record r.id r.body _ _ _ _ _ _ _ _ _ _ _ _ _ _ _ _ _ _ _ _ refl refl
    (ap (λ b. greater_ballot r.promised (cond b (ballot_of m) zero_ballot)) ungranted ∙ greater_ballot-zero r.promised)
    (ap (λ o. or_else o r.accepted) (not_accepted x m sent ungranted))
    (ap (λ o. or_else o r.committed) (not_committed x m sent ungranted))
    refl refl refl refl refl

-- an answer that is a refusal or the news of a decision leaves the record
pub after_unanswered : (r : Record) (m : Message) (sent : List Message) → grants (id_of m) m sent ≡ false → first_vote (id_of m) sent ≡ None
    → record_after r m sent ≡ r
after_unanswered r m sent ungranted unvoted =
    after_ungranted r m sent ungranted
    ∙ same_record r.id r.body _ _ _ _ _ _ _ _ _ _ _ _ _ _ _ _ _ _ _ _
    (ap (λ v. or_else r.vote (stamp_of_vote v)) unvoted ∙ or_else-none r.vote)
    (ap (λ v. deps_kept r.vote r.vote_deps v) unvoted ∙ deps_stay r.vote r.vote_deps)
    refl refl refl refl refl refl refl refl

never : (b : Bool) → (b && false) ≡ false
never true = refl
never false = refl

pub nack_grants_nothing : (m : Message) (own home : Actor) (x : TxnId) (ballot promised : Ballot) → grants (id_of m) m (Nack own home x ballot promised ∷ []) ≡ false
nack_grants_nothing (Accept from to id b body t deps) own home x ballot promised = never (id_eq id id)
nack_grants_nothing (Commit from to id b body t deps) own home x ballot promised = never (id_eq id id)
nack_grants_nothing (Recover from to id b body) own home x ballot promised = never (id_eq id id)
nack_grants_nothing _ own home x ballot promised = refl

pub decided_grants_nothing : (m : Message) (own home : Actor) (x : TxnId) (ballot : Ballot) (t : Stamp) (deps : List ShardDeps)
    → grants (id_of m) m (Decided own home x ballot t deps ∷ []) ≡ false
decided_grants_nothing (Accept from to id b body u old) own home x ballot t deps = never (id_eq id id)
decided_grants_nothing (Commit from to id b body u old) own home x ballot t deps = never (id_eq id id)
decided_grants_nothing (Recover from to id b body) own home x ballot t deps = never (id_eq id id)
decided_grants_nothing _ own home x ballot t deps = refl

pub after_nack : (r : Record) (m : Message) (own home : Actor) (x : TxnId) (ballot promised : Ballot)
    → record_after r m (Nack own home x ballot promised ∷ []) ≡ r
after_nack r m own home x ballot promised =
    after_unanswered r m (Nack own home x ballot promised ∷ []) (nack_grants_nothing m own home x ballot promised) refl

pub after_decided : (r : Record) (m : Message) (own home : Actor) (x : TxnId) (ballot : Ballot) (t : Stamp) (deps : List ShardDeps)
    → record_after r m (Decided own home x ballot t deps ∷ []) ≡ r
after_decided r m own home x ballot t deps =
    after_unanswered r m (Decided own home x ballot t deps ∷ []) (decided_grants_nothing m own home x ballot t deps) refl

-- ---- a message that grants

pub after_accept : (r : Record) (from to own home : Actor) (x : TxnId) (ballot : Ballot) (body : BodyParts) (t : Stamp) (deps named : List ShardDeps)
    → record_after r (Accept from to x ballot body t deps) (AcceptOk own home x ballot named ∷ [])
    ≡ record r { promised = greater_ballot r.promised ballot; accepted = Some (record { ballot = ballot; t = t; deps = deps }) }
after_accept r from to own home x ballot body t deps named =
    same_record r.id r.body _ _ _ _ _ _ _ _ _ _ _ _ _ _ _ _ _ _ _ _ (or_else-none r.vote) (deps_stay r.vote r.vote_deps)
    (ap (λ b. greater_ballot r.promised (cond (b && true) ballot zero_ballot)) (itself x))
    (ap (λ b. or_else (cond (b && true) (Some (record { ballot = ballot; t = t; deps = deps })) None) r.accepted) (itself x))
    refl refl refl refl refl refl

pub after_commit : (r : Record) (from to own home : Actor) (x : TxnId) (ballot : Ballot) (body : BodyParts) (t : Stamp) (deps : List ShardDeps)
    → record_after r (Commit from to x ballot body t deps) (CommitOk own home x ballot ∷ [])
    ≡ record r { promised = greater_ballot r.promised ballot; committed = Some (record { ballot = ballot; t = t; deps = deps }) }
after_commit r from to own home x ballot body t deps =
    same_record r.id r.body _ _ _ _ _ _ _ _ _ _ _ _ _ _ _ _ _ _ _ _ (or_else-none r.vote) (deps_stay r.vote r.vote_deps)
    (ap (λ b. greater_ballot r.promised (cond (b && true) ballot zero_ballot)) (itself x))
    refl
    (ap (λ b. or_else (cond (b && true) (Some (record { ballot = ballot; t = t; deps = deps })) None) r.committed) (itself x))
    refl refl refl refl refl

-- the vote that a record has once this one was given
pub voted_first : (b : Bool) (v : Vote) → b ≡ true → or_else (cond b (Some v) None) None ≡ Some v
voted_first b v e = ap (λ c. or_else (cond c (Some v) None) None) e

pub after_preaccept : (r : Record) (from to own home : Actor) (x : TxnId) (ballot : Ballot) (body : BodyParts) (v : Vote)
    → record_after r (PreAccept from to x ballot body) (PreAcceptOk own home x ballot v.vote v.deps ∷ [])
    ≡ record r { vote = or_else r.vote (Some v.vote); vote_deps = deps_kept r.vote r.vote_deps (Some v) }
after_preaccept r from to own home x ballot body v =
    after_ungranted r (PreAccept from to x ballot body) (PreAcceptOk own home x ballot v.vote v.deps ∷ []) refl
    ∙ ap (λ (w : Option Vote). record r { vote = or_else r.vote (stamp_of_vote w); vote_deps = deps_kept r.vote r.vote_deps w }) (voted_first (id_eq x x) v (itself x))

pub after_recover : (r : Record) (from to own home : Actor) (x : TxnId) (ballot : Ballot) (body : BodyParts) (view : View)
    → record_after r (Recover from to x ballot body) (RecoverOk own home x ballot view ∷ [])
    ≡ record r {
      vote = or_else r.vote (Some view.vote);
      vote_deps = deps_kept r.vote r.vote_deps (Some (record { vote = view.vote; deps = view.vote_deps }));
      promised = greater_ballot r.promised ballot;
    }
after_recover r from to own home x ballot body view =
    let v : Vote = record { vote = view.vote; deps = view.vote_deps } in
    same_record r.id r.body _ _ _ _ _ _ _ _ _ _ _ _ _ _ _ _ _ _ _ _
    (ap (λ w. or_else r.vote (stamp_of_vote w)) (voted_first (id_eq x x) v (itself x)))
    (ap (λ w. deps_kept r.vote r.vote_deps w) (voted_first (id_eq x x) v (itself x)))
    (ap (λ b. greater_ballot r.promised (cond (b && true) ballot zero_ballot)) (itself x))
    refl refl refl refl refl refl refl
