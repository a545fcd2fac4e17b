use Rattle.std.proofs.Common.{◌<◌, ◌^◌, false, length, refl}
use Rattle.acc_message.specs.Run.{IsRun}
use Rattle.acc_schedule.specs.Content.{Content}
use Rattle.acc_schedule.specs.Document.{plan_of}
use Rattle.acc_schedule_runs.specs.Schedules.{cluster_of}
use Rattle.acc_schedule_runs.specs.Situations.{opened}
use Rattle.acc_pasts.specs.Stopped.{IsSound}
use Rattle.acc_pasts.proofs.Sound.{sound_opened}
use Rattle.acc_left.specs.Leaves.{images_left}
use Rattle.acc_left_laws.specs.Joining.{DownsAreKnown}
use Rattle.acc_left_laws.specs.Left.{AreOfBytes, HasLeft, HasNumberedBodies, HasRoomAfter, reopened_run}
use Rattle.acc_left_laws.proofs.GoingOn.{few_within, left_with}
use Rattle.acc_left_laws.proofs.Room.{room_after}
use Rattle.acc_left_laws.proofs.joining.what_is_left_goes_on.Goals as goal

pub returns : goal.returns
returns c = λ bytes json answers items text reads rules is obeys within line.
    let plan : Content = plan_of json in
    let numbers : HasNumberedBodies plan = c.bodies_of_documents_are_numbered.ensures json is in
    let run : IsRun (cluster_of plan) items = c.plans_run_safely.ensures.run plan answers items is obeys in
    let down : DownsAreKnown plan items = c.only_actors_of_plans_go_down.ensures.schedule plan answers items is obeys in
    let few : length items < 2 ^ 31 = few_within items within in
    let bytes_are : AreOfBytes (images_left plan items) = c.journals_left_are_bytes.ensures plan items is numbers run few in
    let room : HasRoomAfter (reopened_run plan (opened items) (λ a. false)) = room_after plan items is.layout within in
    let sound : IsSound (cluster_of plan) (opened items) =
    sound_opened (cluster_of plan) items (c.plans_are_valid.ensures plan is) (c.plans_have_few_bodies.ensures plan is) run in
    let left : HasLeft plan (opened items) (λ a. false) (images_left plan items) =
    c.leave_leaves.ensures plan (opened items) (λ a. false) is numbers sound few down (λ a. refl) in
    record {
      says = c.left_lines_are_texts.ensures bytes json plan items text reads rules refl is numbers run down room bytes_are line;
      left = λ steps. left_with plan steps (opened items) (λ a. false) (images_left plan items) left;
      room = λ steps. room;
    }
