-- The weight of an answer.
use Rattle.std.proofs.Common.{◌≡◌, ◌<◌, ◌^◌, List, All, sym, ap, subst, ◌∙◌}
use Rattle.acc_topology.specs.Layout.{Layout}
use Rattle.acc_message.specs.declared.message.Message.{Message}
use Rattle.acc_message.specs.StoreRules.{replay}
use Rattle.acc_message_code.specs.Short.{IsShortMessage}
use Rattle.acc_message_code.specs.Weight.{weight_of_all}
use Rattle.acc_store.specs.declared.steps.Prepared.{Prepared}
use Rattle.acc_store.specs.declared.store.Store.{Store}
use Rattle.acc_store.specs.Prepared.{IsPrepared, sent_by}
use Rattle.acc_store.proofs.Planned.{sends}
use Rattle.acc_store.specs.Stands.{actor_of, StandsFor}
use Rattle.acc_store.specs.Weighing.{answer_after, SendsShort}

module _ (layout : Layout) (store : Store) (m : Message) (s : SendsShort layout store m) where
  module _ (sent : List Message)
      (answers : (messages : List Message) → StandsFor layout store (replay layout (actor_of store) messages) → sent ≡ answer_after layout store messages m) where
    short_answer : All IsShortMessage sent
    short_answer = subst (All IsShortMessage) (sym (answers s.messages s.stands)) s.short

    fitting_answer : weight_of_all sent < 2 ^ 64
    fitting_answer = subst (λ list. weight_of_all list < 2 ^ 64) (sym (answers s.messages s.stands)) s.fits

  -- what a planned step sends
  module _ (prepared : Prepared) (p : IsPrepared layout store m prepared) (sent : List Message) (is : sent ≡ sent_by prepared) where
    answers_here : (messages : List Message) → StandsFor layout store (replay layout (actor_of store) messages) → sent ≡ answer_after layout store messages m
    answers_here messages stands = is ∙ sends layout store.shelf m prepared p messages stands

    pub short_plan : All IsShortMessage sent
    short_plan = short_answer sent answers_here

    pub fitting_plan : weight_of_all sent < 2 ^ 64
    fitting_plan = fitting_answer sent answers_here

    pub weighs : (messages : List Message) → StandsFor layout store (replay layout (actor_of store) messages)
        → weight_of_all sent ≡ weight_of_all (answer_after layout store messages m)
    weighs messages stands = ap weight_of_all (answers_here messages stands)
