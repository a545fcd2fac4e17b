-- What holds of an attempt of a node: where it comes from, and its answers.
use Rattle.std.specs.Prelude.{◌≡◌, ℕ, Bool, true, List, Option, None, Some}
use Rattle.acc_stamp.specs.declared.stamps.TxnId.{TxnId}
use Rattle.acc_stamp.specs.Stamp.{zero_ballot}
use Rattle.acc_topology.specs.Layout.{Layout}
use Rattle.acc_message.specs.declared.message.Message.{Message}
use Rattle.acc_message.specs.Fields.{from_of, id_of, ballot_of}
use Rattle.acc_message.specs.Shares.{is_store_of}
use Rattle.acc_message.specs.Attempts.{Attempt, Phase, Voting, Recovering, Accepting, Committing, Executing, fits, is_preaccept_ok, is_read_ok}
use Rattle.acc_message.specs.BallotRules.{is_accept_ok, is_commit_ok, is_recover_ok}
use Rattle.acc_message.specs.NodeRules.{Begins, Recovers, Takes, Deed, next_id, next_ballot}
use Rattle.acc_safety.specs.Places.{IsIn, StandsAt}

-- a fact of an attempt, where there is one
abbrev pub OnAttempt : (Attempt → Type 0) → Option Attempt → Type 0
OnAttempt Fact None = Unit {0}
OnAttempt Fact (Some a) = Fact a

-- the node took the message in one of these steps
pub record Took (deeds : List Deed) (m : Message) : Type 0 where
  pub deed : Deed
  pub past : List Deed
  pub at : StandsAt deed past deeds
  pub act_is : deed.act ≡ Takes m

-- an answer of an attempt at x: it is of the kind and the ballot, comes from a store of x, and was taken
pub record AnswerOf (layout : Layout) (x : TxnId) (a : Attempt) (deeds : List Deed) (m : Message) : Type 0 where
  pub fitting : fits a.phase m ≡ true
  pub about : id_of m ≡ x
  pub of_ballot : ballot_of m ≡ a.ballot
  pub of_store : is_store_of layout a.body (from_of m) ≡ true
  pub took : Took deeds m

abbrev pub AreAnswersOf : Layout → TxnId → List Deed → Attempt → Type 0
AreAnswersOf layout x deeds a = (m : Message) → IsIn m a.answers → AnswerOf layout x a deeds m

-- an attempt at x comes from the begin that drew x, with ballot zero, or from a recover of x, with the ballot drawn there
pub data Origin (layout : Layout) (node start : ℕ) (x : TxnId) (deeds : List Deed) (a : Attempt) : Type 0 where
  FromBegin :
      (txn : ℕ) (deed : Deed) (past : List Deed) → StandsAt deed past deeds → deed.act ≡ Begins txn a.body
      → next_id node start past ≡ x → a.ballot ≡ zero_ballot → Origin layout node start x deeds a
  FromRecover :
      (deed : Deed) (past : List Deed) → StandsAt deed past deeds → deed.act ≡ Recovers x a.body
      → a.ballot ≡ next_ballot node start past → Origin layout node start x deeds a

-- the kind of the answers of a phase
abbrev pub kind_of : Phase → Message → Bool
kind_of Voting m = is_preaccept_ok m
kind_of Recovering m = is_recover_ok m
kind_of (Accepting s) m = is_accept_ok m
kind_of (Committing s) m = is_commit_ok m
kind_of (Executing s) m = is_read_ok m
