-- What is planned for a message that may open something, and for one that doesn't.
use Rattle.std.proofs.Common.{◌≡◌, List, Result, Ok, Err, IfOk, OnOk, sym, subst}
use Rattle.acc_topology.specs.Layout.{Layout}
use Rattle.acc_message.specs.declared.message.Message.{Message}
use Rattle.acc_message.specs.StoreRules.{store_answer, replay}
use Rattle.acc_record.specs.declared.plan.QuietParts.{QuietParts}
use Rattle.acc_record.specs.declared.shelf.Shelf.{Shelf}
use Rattle.acc_record.specs.Planned.{IsChangedBy, IsPlanned}
use Rattle.acc_record.specs.Stands.{StandsFor, AnswersByRules}
use Rattle.acc_execute.specs.declared.step.PreparedStep.{PreparedStep}
use Rattle.acc_store.specs.declared.steps.Prepared.{Prepared}
use Rattle.acc_store.specs.declared.steps.Prepared.TheVariants.{Opens, Quiet}
use Rattle.acc_store.specs.Prepared.{IsOpening, IsPreparedAt, sent_by}

module _ (layout : Layout) (shelf : Shelf) (m : Message) where
  module _ (prepared : Prepared) where
    pub opening_at : (step : PreparedStep) → prepared ≡ Opens step → IsPreparedAt layout shelf m prepared → IsOpening layout shelf m step
    opening_at step is p = subst (IsPreparedAt layout shelf m) is p

    pub plan_at : (plan : QuietParts) → prepared ≡ Quiet plan → IsPreparedAt layout shelf m prepared → IsPlanned layout shelf m plan
    plan_at plan is p = subst (IsPreparedAt layout shelf m) is p

  -- a plan that is taken
  pub taken : {E : Type 0} (plan : QuietParts) (new : Shelf) (result : Result (List Message) E) → IsPlanned layout shelf m plan
      → IfOk result (λ sent. sent ≡ plan.sent) → OnOk result (IsChangedBy shelf new plan) → IfOk result (λ sent. AnswersByRules layout shelf new m sent)
  taken plan new (Ok sent) p is changes = subst (AnswersByRules layout shelf new m) (sym is) (p.stands new changes)
  taken plan new (Err e) p is changes = tt

  -- what a planned step sends
  pub sends : (prepared : Prepared) → IsPreparedAt layout shelf m prepared → (messages : List Message) → StandsFor layout shelf (replay layout shelf.actor messages)
      → sent_by prepared ≡ store_answer layout shelf.actor (replay layout shelf.actor messages) m
  sends (Opens step) p = p.answers
  sends (Quiet plan) p = p.answers
