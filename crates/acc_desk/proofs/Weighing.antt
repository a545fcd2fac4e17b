-- What an actor is asked for with nothing staged.
use Rattle.std.proofs.Common.{ℕ, [], Result, Ok, Err, IfOk, arith}
use Rattle.acc_stamp.specs.declared.actors.Actor.{Actor}
use Rattle.acc_ports.specs.declared.disk.Disk.{Ghosts}
use Rattle.acc_message.specs.declared.entry.Event.{Event}
use Rattle.acc_message.specs.NodeRules.{Act}
use Rattle.acc_schedule.specs.Content.{Content}
use Rattle.acc_schedule_runs.specs.Situations.{Situation}
use Rattle.acc_actors.specs.declared.slot.Slot.{Slot}
use Rattle.acc_actors.specs.Asked.{step_by, IsAsked, MayAsk, Weighs, IsAskedBehind, MayAskBehind, WeighsBehind}

module _ {D : Type 0} (port : Ghosts D) (plan : Content) (a : Actor) (event : Event) (act : Act) (slot : Slot D) where
  asked_behind : (s : Situation) → IsAsked port plan s (step_by a event act) slot → IsAskedBehind port plan s [] (step_by a event act) slot
  asked_behind s asked =
      record {
        behind = record {
          sound = asked.sound;
          few = (asked.few, (let room = asked.few.0 in let few = asked.few.1 in omega arith));
          stands = asked.stands;
          up = asked.up;
          each = tt;
        };
        may = asked.may;
      }

  pub may_ask_behind : MayAsk port plan (step_by a event act) slot → MayAskBehind port plan (step_by a event act) slot
  may_ask_behind may = (may.0, [], asked_behind may.0 may.1)

  pub weighs_alone : {E : Type 0} (r : Result ℕ E) → IfOk r (WeighsBehind port plan (step_by a event act) slot) → IfOk r (Weighs port plan (step_by a event act) slot)
  weighs_alone (Err e) h = tt
  weighs_alone (Ok weight) h = λ s asked. h s [] (asked_behind s asked)
