-- What is planned for a PreAccept answers it by the rules.
use Rattle.std.proofs.Common.{◌≡◌, ℕ, Bool, List, [], ◌∷◌, Result, Ok, Err, IfOk, refl, sym, ap, subst, ◌∙◌}
use Rattle.acc_stamp.specs.declared.stamps.TxnId.{TxnId}
use Rattle.acc_stamp.specs.declared.stamps.Ballot.{Ballot}
use Rattle.acc_stamp.specs.declared.actors.Actor.{Actor}
use Rattle.acc_topology.specs.Layout.{Layout}
use Rattle.acc_value.specs.declared.key.Key.{Key}
use Rattle.acc_txn.specs.declared.parts.BodyParts.{BodyParts}
use Rattle.acc_message.specs.declared.message.Message.{Message}
use Rattle.acc_message.specs.declared.message.Message.TheVariants.{PreAccept}
use Rattle.acc_message.specs.Fields.{top_of}
use Rattle.acc_record.specs.declared.plan.QuietParts.{QuietParts}
use Rattle.acc_record.specs.declared.change.Change.{Change}
use Rattle.acc_record.specs.declared.shelf.Shelf.{Shelf}
use Rattle.acc_record.specs.declared.vote.Vote.{Vote}
use Rattle.acc_record.specs.Changes.{changed}
use Rattle.acc_record.specs.Learning.{vote_at, known_or_fresh}
use Rattle.acc_record.specs.LearntAs.{IsLearntAs}
use Rattle.acc_record.specs.Planned.{IsPlannedAs, IsPlanned}
use Rattle.acc_record.specs.Shelf.{record_at}
use Rattle.acc_record.proofs.Planned.{planned}
use Rattle.acc_preaccept.specs.PreAccepting.{refusal_at, answer_at, stamp_then, top_then, change_then}
use Rattle.acc_preaccept.proofs.Quiet.{here, answers, quiet}

module _ (layout : Layout) (shelf : Shelf) (m : Message) (from to : Actor) (x : TxnId) (b : Ballot) (body : BodyParts) (share : List (Key × Bool)) (top : ℕ)
    (is : m ≡ PreAccept from to x b body) (shared : share ≡ here layout shelf from to x b body) (raises : top ≡ top_of m) where
  abbrev vote : Vote
  vote = vote_at shelf x share top

  abbrev Plans : QuietParts → Type 0
  Plans = IsPlannedAs shelf x body share (stamp_then (refusal_at shelf x b) vote) (top_then (refusal_at shelf x b) shelf.actor vote top)

  raised : top ≡ top_of (PreAccept from to x b body)
  raised = raises ∙ ap top_of is

  pub prepared : {E : Type 0} (result : Result QuietParts E) → IfOk result Plans
      → IfOk result (λ plan. plan.change ≡ change_then (refusal_at shelf x b) vote)
      → IfOk result (λ plan. plan.sent ≡ answer_at shelf x b share top ∷ []) → IfOk result (IsPlanned layout shelf m)
  prepared (Ok plan) p changes sends =
      subst (λ z. IsPlanned layout shelf z plan) (sym is)
      (planned shelf x body share (stamp_then (refusal_at shelf x b) vote) (top_then (refusal_at shelf x b) shelf.actor vote top) plan p layout
      (PreAccept from to x b body) (answer_at shelf x b share top) refl sends (answers layout shelf from to x b body share top shared raised)
      (λ new l. quiet layout shelf from to x b body new share top shared raised
      (subst (λ (c : Change). IsLearntAs shelf new x share (stamp_then (refusal_at shelf x b) vote) (top_then (refusal_at shelf x b) shelf.actor vote top) (changed c (known_or_fresh (record_at shelf.records x) x body))) changes l)))
  prepared (Err e) p changes sends = tt
