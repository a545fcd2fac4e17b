-- A store votes once for a transaction, in a step about it: for its own timestamp, or above all that the store met.
use Rattle.std.proofs.Common.{◌≡◌, List, ◌∷◌, Option, None, Some, refl, sym, ◌∙◌, ap}
use Rattle.acc_base.specs.Faults.{or_else}
use Rattle.acc_stamp.specs.declared.stamps.TxnId.{TxnId}
use Rattle.acc_stamp.specs.declared.actors.Actor.{Actor}
use Rattle.acc_topology.specs.Layout.{Layout}
use Rattle.acc_txn.specs.declared.parts.BodyParts.{BodyParts}
use Rattle.acc_message.specs.declared.message.Message.{Message}
use Rattle.acc_message.specs.Fields.{id_of}
use Rattle.acc_message.specs.Taken.{Taken, taking, body_known}
use Rattle.acc_message.specs.VoteRule.{Vote, vote_in, first_vote, vote_of, new_vote, vote_given}
use Rattle.acc_actor_laws.proofs.OpeningFacts.{some_is}
use Rattle.acc_safety.specs.Places.{IsIn, First, Later, StandsAt, IsPast, Whole, Behind}
use Rattle.acc_safety.specs.Histories.{EachAnswers}
use Rattle.acc_safety.proofs.PlaceOrder.{StandsAt-IsPast}
use Rattle.acc_safety.proofs.StoreNotions.{VoteSent, first_vote_sent}
use Rattle.acc_safety_laws.proofs.Knowing.{step_answers, step_sends}
use Rattle.acc_safety_laws.proofs.Sent.{SentVote, sent_vote}

-- ---- the vote in what was sent

pub first_vote-some : (x : TxnId) (v : Vote) (m : Message) (ms : List Message) → IsIn m ms → vote_in x m ≡ Some v
    → (w : Vote) × (first_vote x ms ≡ Some w)
first_vote-some x v m ms (First a rest) e = (v, ap (λ o. or_else o (first_vote x rest)) e)
first_vote-some x v m ms (Later a b rest there) e = some_by (vote_in x b) (first_vote-some x v a rest there e)
  where
    some_by : (o : Option Vote) → (w : Vote) × (first_vote x rest ≡ Some w) → (w : Vote) × (or_else o (first_vote x rest) ≡ Some w)
    some_by None later = later
    some_by (Some w) later = (w, refl)

-- ---- a vote stays

pub vote_of-stays : (step : Taken) (past : List Taken) (x : TxnId) (v : Vote) → vote_of past x ≡ Some v → vote_of (step ∷ past) x ≡ Some v
vote_of-stays step past x v e = ap (λ o. or_else o (first_vote x step.sent)) e

pub vote_of-past : (x : TxnId) (v : Vote) (past history : List Taken) → vote_of past x ≡ Some v → IsPast past history → vote_of history x ≡ Some v
vote_of-past x v past history e (Whole xs) = e
vote_of-past x v past history e (Behind step xs ys there) = vote_of-stays step ys x v (vote_of-past x v xs ys e there)

-- the vote that a step brings
pub data VoteIs (step : Taken) (past : List Taken) (x : TxnId) (v : Vote) : Type 0 where
  WasGiven : vote_of past x ≡ Some v → VoteIs step past x v
  IsNew : vote_of past x ≡ None → VoteSent step.sent x v → VoteIs step past x v

vote_by : (step : Taken) (past : List Taken) (x : TxnId) (v : Vote) (o : Option Vote) → vote_of past x ≡ o
    → or_else o (first_vote x step.sent) ≡ Some v → VoteIs step past x v
vote_by step past x v None is e = IsNew is (first_vote_sent step.sent x v e)
vote_by step past x v (Some w) is e = WasGiven (is ∙ e)

pub vote_is : (step : Taken) (past : List Taken) (x : TxnId) (v : Vote) → vote_of (step ∷ past) x ≡ Some v → VoteIs step past x v
vote_is step past x v e = vote_by step past x v (vote_of past x) refl e

module _ (layout : Layout) (own : Actor) where
  -- a vote that a step gives anew
  pub record MadeIn (step : Taken) (past : List Taken) (x : TxnId) (v : Vote) : Type 0 where
    pub about : id_of step.message ≡ x
    pub body : BodyParts
    pub body_is : body_known (step ∷ past) x ≡ Some body
    pub made : v ≡ new_vote layout own (taking step.message past) x body

  pub made_in : (step : Taken) (past : List Taken) (x : TxnId) (v : Vote) → EachAnswers layout own (step ∷ past) → vote_of past x ≡ None
      → VoteSent step.sent x v → MadeIn step past x v
  made_in step past x v each unvoted voted =
      let s = sent_vote layout own past step.message voted.message x v (step_sends layout own step past voted.message each voted.there) voted.votes in
      record {
        about = s.about;
        body = s.body;
        body_is = s.body_is;
        made = s.is ∙ ap (λ o. vote_given o (new_vote layout own (taking step.message past) x s.body)) unvoted;
      }

  -- ---- an answer has the one vote

  -- where none was given before, two answers of one step have the vote that is made in it
  one_made : (step : Taken) (past : List Taken) (x : TxnId) (v w : Vote) → MadeIn step past x v → MadeIn step past x w → w ≡ v
  one_made step past x v w one other =
      other.made
      ∙ ap (new_vote layout own (taking step.message past) x) (some_is other.body one.body (sym other.body_is ∙ one.body_is))
      ∙ sym one.made

  one_vote : (step : Taken) (past : List Taken) (m : Message) (x : TxnId) (v : Vote) → EachAnswers layout own (step ∷ past) → IsIn m step.sent
      → vote_in x m ≡ Some v → vote_of (step ∷ past) x ≡ Some v
  one_vote step past m x v each sent votes = by (vote_of past x) refl
    where
      s : SentVote layout own past step.message x v
      s = sent_vote layout own past step.message m x v (step_sends layout own step past m each sent) votes

      by : (o : Option Vote) → vote_of past x ≡ o → vote_of (step ∷ past) x ≡ Some v
      by (Some w) was =
          vote_of-stays step past x w was
          ∙ ap Some (sym (s.is ∙ ap (λ o. vote_given o (new_vote layout own (taking step.message past) x s.body)) was))
      by None was =
          let first = first_vote-some x v m step.sent sent votes in
          let new : vote_of (step ∷ past) x ≡ Some first.0 = ap (λ o. or_else o (first_vote x step.sent)) was ∙ first.1 in
          new
          ∙ ap Some
          (one_made step past x v first.0 (made_in step past x v each was (record { message = m; there = sent; votes = votes }))
          (made_in step past x first.0 each was (first_vote_sent step.sent x first.0 first.1)))

  pub votes_once : (step : Taken) (past history : List Taken) (m : Message) (x : TxnId) (v : Vote) → EachAnswers layout own history
      → StandsAt step past history → IsIn m step.sent → vote_in x m ≡ Some v → vote_of history x ≡ Some v
  votes_once step past history m x v each at sent votes =
      vote_of-past x v (step ∷ past) history (one_vote step past m x v (step_answers layout own step past history each at) sent votes)
      (StandsAt-IsPast step past history at)
