-- What is written of the items of a run is read as the plan without steps, with their journals.
use Rattle.std.proofs.Common.{◌+◌, ◌<◌, ◌≤◌, ◌^◌, Bool, true, false, List, [], ◌∷◌, length, refl, arith}
use Rattle.acc_stamp.specs.declared.actors.Actor.{Actor}
use Rattle.acc_message.specs.declared.entry.Event.{Event}
use Rattle.acc_message.specs.Run.{Cluster}
use Rattle.acc_safety.specs.Valid.{IsValidCluster}
use Rattle.acc_run_laws.specs.Sends.{AreFew, HasFewBodies}
use Rattle.acc_schedule.specs.Content.{Content}
use Rattle.acc_schedule.specs.Plan.{IsPlan}
use Rattle.acc_schedule_runs.specs.Moves.{entered, entered_all, kept_if, reopened}
use Rattle.acc_schedule_runs.specs.Schedules.{cluster_of}
use Rattle.acc_schedule_runs.specs.Situations.{opened, whole, Situation}
use Rattle.acc_pasts.specs.Stopped.{IsSound}
use Rattle.acc_pasts.proofs.Sound.{sound_opened}
use Rattle.acc_left.specs.Leaves.{actors_rising, images_left}
use Rattle.acc_left_laws.specs.Laws.{LeftLinesAreTexts}
use Rattle.acc_left_laws.specs.Left.{reopened_all, reopened_run, HasLeft}
use Rattle.acc_left_laws.proofs.Accepted.{journals_accepted}
use Rattle.acc_left_laws.proofs.Leaving.{items_leave, HaveNumbersAlone}
use Rattle.acc_left_laws.proofs.WrittenTexts.{written_read}

-- ---- actors that are opened again add items alone

module _ (cluster : Cluster) where
  longer_kept : (events : List Event) (s : Situation) (a : Actor) → length (whole s) ≤ length (whole (entered_all cluster s a events true))
  longer_kept [] s a = omega arith
  longer_kept (event ∷ events) s a = let more = longer_kept events (entered cluster s a event true) a in omega (arith, more)

  longer : (s : Situation) (a : Actor) (kept : List Event) → length (whole s) ≤ length (whole (reopened cluster s a kept))
  longer s a kept = let more = longer_kept kept s a in omega (arith, more)

  longer_all : (keeps : Actor → Bool) (others : List Actor) (s : Situation) → length (whole s) ≤ length (whole (reopened_all cluster keeps s others))
  longer_all keeps [] s = omega arith
  longer_all keeps (a ∷ others) s =
      let kept : List Event = kept_if (keeps a) a s in
      let first = longer s a kept in
      let more = longer_all keeps others (reopened cluster s a kept) in
      omega (arith, first, more)

pub lines_read : HaveNumbersAlone → ((plan : Content) → IsPlan plan → IsValidCluster (cluster_of plan)) → ((plan : Content) → IsPlan plan → HasFewBodies (cluster_of plan)) → LeftLinesAreTexts
lines_read alone valid few bytes d plan items text reads rules says is numbers run down room bytes_are line =
    let sound : IsSound (cluster_of plan) (opened items) = sound_opened (cluster_of plan) items (valid plan is) (few plan is) run in
    let longest : length items ≤ length (reopened_run plan (opened items) (λ a. false)) = longer_all (cluster_of plan) (λ a. false) (actors_rising plan.topology) (opened items) in
    let within : length (reopened_run plan (opened items) (λ a. false)) + 1000000 < 2 ^ 31 = room in
    let fits : AreFew items = omega (arith, longest, within) in
    let left : HasLeft plan (opened items) (λ a. false) (images_left plan items) =
    items_leave alone plan is numbers (opened items) sound fits (λ a. false) (λ a. refl) down in
    written_read plan (images_left plan items) is left.are bytes_are bytes text d reads rules says
    (journals_accepted plan (opened items) (λ a. false) (images_left plan items) is left room) line
