use Rattle.acc_free_laws.proofs.Going.{passed_over}
use Rattle.acc_free_laws.proofs.Steps.{next_goes, message_goes, drains_go}
use Rattle.acc_free_laws.proofs.laws.schedule_steps_serve.Goals as goal

pub returns : goal.returns
returns c = record {
  passed = λ plan s a command left h is gone. passed_over plan s a command left h.earlier is gone;
  command = λ plan answers number s next a command left valid there ready is h gone.
      next_goes plan valid answers s h a there number next left command ready is gone;
  drain = λ plan answers s next valid drains h. drains_go plan valid answers c.messages_go_to_actors.ensures.to next s drains h;
  delivery = λ plan answers s message valid waiting h. message_goes plan valid answers s h c.messages_go_to_actors.ensures.to message waiting;
}
