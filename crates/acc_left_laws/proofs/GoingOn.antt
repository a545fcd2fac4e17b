-- What a plan's run leaves is read, was left, and has room, whatever steps come after it.
use Rattle.std.proofs.Common.{ℕ, ◌<◌, ◌≤◌, ◌^◌, Bool, List, length, arith}
use Rattle.acc_stamp.specs.declared.actors.Actor.{Actor}
use Rattle.acc_message.specs.declared.item.Item.{Item}
use Rattle.acc_schedule.specs.Content.{Content}
use Rattle.acc_schedule.specs.declared.plan.Step.{Step}
use Rattle.acc_schedule_runs.specs.Limits.{IsWithin}
use Rattle.acc_schedule_runs.specs.Situations.{Situation}
use Rattle.acc_left.specs.declared.image.Image.{Image}
use Rattle.acc_left_laws.specs.Left.{HasLeft, HasLeftBytes}

-- what a run left isn't changed by the steps of the plan
bytes_left : (plan : Content) (steps : List Step) (s : Situation) (keeps : Bool) (a : Actor) (bytes : List ℕ) → HasLeftBytes plan s keeps a bytes
    → HasLeftBytes (record plan { steps = steps }) s keeps a bytes
bytes_left plan steps s keeps a bytes h = record { payloads = h.payloads; reads = h.reads; marks = h.marks; holds = h.holds }

pub left_with : (plan : Content) (steps : List Step) (s : Situation) (keeps : Actor → Bool) (images : List Image) → HasLeft plan s keeps images
    → HasLeft (record plan { steps = steps }) s keeps images
left_with plan steps s keeps images h = record {
  numbered = h.numbered;
  sound = h.sound;
  down = h.down;
  are = record { rise = h.are.rise; known = h.are.known };
  each = λ a known. bytes_left plan steps s (keeps a) a _ (h.each a known);
}

pub few_within : (items : List Item) → IsWithin items → length items < 2 ^ 31
few_within items within = let most : length items ≤ 1000000 = within.few in omega (arith, most)
