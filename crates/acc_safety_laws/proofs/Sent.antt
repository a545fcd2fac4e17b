-- What an answer of a store tells of the step that sent it.
use Rattle.std.proofs.Common.{◌≡◌, Bool, true, false, cond, List, None, Some, refl, sym, ◌∙◌, ap}
use Rattle.acc_stamp.specs.declared.stamps.Stamp.{Stamp}
use Rattle.acc_stamp.specs.declared.stamps.TxnId.{TxnId}
use Rattle.acc_stamp.specs.declared.stamps.Ballot.{Ballot}
use Rattle.acc_stamp.specs.declared.actors.Actor.{Actor}
use Rattle.acc_stamp.specs.Stamp.{id_eq, ballot_lt}
use Rattle.acc_stamp.proofs.Order.{id_order}
use Rattle.acc_topology.specs.Layout.{Layout}
use Rattle.acc_deps.specs.declared.shards.ShardDeps.{ShardDeps}
use Rattle.acc_deps.specs.declared.records.View.{View}
use Rattle.acc_txn.specs.declared.parts.BodyParts.{BodyParts}
use Rattle.acc_message.specs.declared.message.Message.{Message}
use Rattle.acc_message.specs.declared.message.Message.TheVariants.{Accept, AcceptOk, Commit, CommitOk, Recover, RecoverOk}
use Rattle.acc_message.specs.Fields.{id_of}
use Rattle.acc_message.specs.Taken.{Taken, taking, body_known}
use Rattle.acc_message.specs.VoteRule.{Vote, vote_in, vote_for, known_below}
use Rattle.acc_message.specs.BallotRules.{promise_of}
use Rattle.acc_message.specs.Evidence.{view_of}
use Rattle.acc_actor_laws.proofs.Standing.{not_none}
use Rattle.acc_actor_laws.proofs.OpeningFacts.{some_is}
use Rattle.acc_safety.specs.StoreSends.{StoreSends, Votes, Accepts, Commits, Reveals, ReadsAtOnce, ReadsOnOpening, Refuses, Tells}

-- ---- a vote

-- a vote for x is given in a step about x, by the body that counts
pub record SentVote (layout : Layout) (own : Actor) (past : List Taken) (m : Message) (x : TxnId) (v : Vote) : Type 0 where
  pub about : id_of m ≡ x
  pub body : BodyParts
  pub body_is : body_known (taking m past) x ≡ Some body
  pub is : v ≡ vote_for layout own past (taking m past) x body

vote_if : (id x : TxnId) (b : Bool) (v w : Vote) → id_eq id x ≡ b → cond b (Some w) None ≡ Some v → (id ≡ x) × (w ≡ v)
vote_if id x true v w is e = ((id_order.decides id x).0 is, some_is w v e)
vote_if id x false v w is e = absurd (not_none v e)

vote_sent : (layout : Layout) (own : Actor) (past : List Taken) (m : Message) (id x : TxnId) (counting : BodyParts) (v w : Vote) → id_of m ≡ id
    → body_known (taking m past) id ≡ Some counting → w ≡ vote_for layout own past (taking m past) id counting
    → cond (id_eq id x) (Some w) None ≡ Some v → SentVote layout own past m x v
vote_sent layout own past m id x counting v w about known is e =
    let same = vote_if id x (id_eq id x) v w refl e in
    record {
      about = about ∙ same.0;
      body = counting;
      body_is = ap (body_known (taking m past)) (sym same.0) ∙ known;
      is = sym same.1 ∙ is ∙ ap (λ z. vote_for layout own past (taking m past) z counting) same.0;
    }

pub sent_vote : (layout : Layout) (own : Actor) (past : List Taken) (m s : Message) (x : TxnId) (v : Vote) → StoreSends layout own past m s
    → vote_in x s ≡ Some v → SentVote layout own past m x v
sent_vote layout own past m s x v (Votes from to id b body counting given stable promise known is) e =
    vote_sent layout own past m id x counting v given refl known is e
sent_vote layout own past m s x v (Accepts from to id b body counting t proposed deps stable promise known is) e = absurd (not_none v e)
sent_vote layout own past m s x v (Commits from to id b body t deps stable promise) e = absurd (not_none v e)
sent_vote layout own past m s x v (Reveals from to id b body counting view promise known is) e =
    vote_sent layout own past m id x counting v (record { vote = view.vote; deps = view.vote_deps }) refl known
    (ap (λ (w : View). record { vote = w.vote; deps = w.vote_deps }) is) e
sent_vote layout own past m s x v (ReadsAtOnce from to id b body t deps answer opened is) e = absurd (not_none v e)
sent_vote layout own past m s x v (ReadsOnOpening n c b answer before among opens there is) e = absurd (not_none v e)
sent_vote layout own past m s x v (Refuses n promised is) e = absurd (not_none v e)
sent_vote layout own past m s x v (Tells n t is) e = absurd (not_none v e)

-- ---- an AcceptOk

pub record SentAcceptOk (layout : Layout) (own : Actor) (past : List Taken) (m : Message) (x : TxnId) (b : Ballot) (deps : List ShardDeps) : Type 0 where
  pub from : Actor
  pub to : Actor
  pub body : BodyParts
  pub counting : BodyParts
  pub t : Stamp
  pub proposed : List ShardDeps
  pub message_is : m ≡ Accept from to x b body t proposed
  pub allowed : ballot_lt b (promise_of past x) ≡ false
  pub known : body_known (taking m past) x ≡ Some counting
  pub deps_are : deps ≡ known_below layout own (taking m past) x counting t

pub sent_accept_ok : (layout : Layout) (own : Actor) (past : List Taken) (m : Message) (f g : Actor) (x : TxnId) (b : Ballot) (deps : List ShardDeps)
    → StoreSends layout own past m (AcceptOk f g x b deps) → SentAcceptOk layout own past m x b deps
sent_accept_ok layout own past m f g x b deps (Accepts from to id ballot body counting t proposed named stable promise known is) =
    record {
      from = from;
      to = to;
      body = body;
      counting = counting;
      t = t;
      proposed = proposed;
      message_is = refl;
      allowed = promise;
      known = known;
      deps_are = is;
    }

-- ---- a CommitOk

pub record SentCommitOk (past : List Taken) (m : Message) (x : TxnId) (b : Ballot) : Type 0 where
  pub from : Actor
  pub to : Actor
  pub body : BodyParts
  pub t : Stamp
  pub deps : List ShardDeps
  pub message_is : m ≡ Commit from to x b body t deps
  pub allowed : ballot_lt b (promise_of past x) ≡ false

pub sent_commit_ok : (layout : Layout) (own : Actor) (past : List Taken) (m : Message) (f g : Actor) (x : TxnId) (b : Ballot)
    → StoreSends layout own past m (CommitOk f g x b) → SentCommitOk past m x b
sent_commit_ok layout own past m f g x b (Commits from to id ballot body t deps stable promise) =
    record {
      from = from;
      to = to;
      body = body;
      t = t;
      deps = deps;
      message_is = refl;
      allowed = promise;
    }

-- ---- a RecoverOk

pub record SentView (layout : Layout) (own : Actor) (past : List Taken) (m : Message) (x : TxnId) (b : Ballot) (view : View) : Type 0 where
  pub from : Actor
  pub to : Actor
  pub body : BodyParts
  pub counting : BodyParts
  pub message_is : m ≡ Recover from to x b body
  pub allowed : ballot_lt (promise_of past x) b ≡ true
  pub known : body_known (taking m past) x ≡ Some counting
  pub view_is : view ≡ view_of layout own past (taking m past) x counting

pub sent_view : (layout : Layout) (own : Actor) (past : List Taken) (m : Message) (f g : Actor) (x : TxnId) (b : Ballot) (view : View)
    → StoreSends layout own past m (RecoverOk f g x b view) → SentView layout own past m x b view
sent_view layout own past m f g x b view (Reveals from to id ballot body counting shown promise known is) =
    record {
      from = from;
      to = to;
      body = body;
      counting = counting;
      message_is = refl;
      allowed = promise;
      known = known;
      view_is = is;
    }
