-- What a turn came to.
use Rattle.std.specs.Prelude.{◌≡◌, ◌⊎◌, ℕ, ◌+◌, ◌<◌, ◌≤◌, false, List, length, map, sum_by, drop, Any, Some}
use Rattle.std.specs.List.{slice_get, list_any}
use Rattle.acc_stamp.specs.declared.actors.Actor.{Actor}
use Rattle.acc_message.specs.declared.entry.Event.{Event}
use Rattle.acc_message.specs.declared.item.Item.{Item}
use Rattle.acc_message.specs.NodeRules.{Act}
use Rattle.acc_message_code.specs.Weight.{weight_of}
use Rattle.acc_schedule.specs.Content.{Content}
use Rattle.acc_schedule.specs.declared.plan.Step.{Step}
use Rattle.acc_schedule.specs.declared.plan.Step.TheVariants.{Begin, Restart}
use Rattle.acc_txn.specs.declared.parts.BodyParts.{BodyParts}
use Rattle.acc_pasts.specs.Entries.{entering}
use Rattle.acc_schedule_runs.specs.Schedules.{cluster_of}
use Rattle.acc_tape.specs.Seats.{TapeName, SeatView}
use Rattle.acc_desk.specs.Commands.{begins_it}
use Rattle.acc_desk.specs.Desks.{newest, MayStep}
use Rattle.acc_desk.specs.declared.desk.Desk.{Desk}
use Rattle.acc_desk.specs.declared.turning.Turned.{Turned}
use Rattle.acc_desk.specs.declared.turning.Turned.TheVariants.{Taken, Idle, Full}

-- The tape, as the seat saw it last, has no room for an item more, or for the bytes of what the actor would enter for an event that it may
-- take, while these of its commands are left.
abbrev pub HasNoRoom : Content → TapeName → Actor → List Step → SeatView Item → Type 0
HasNoRoom plan tape a left seat =
    (tape.limits.items ≤ length seat.seen + seat.out_count)
    ⊎ ((event : Event) × (act : Act) × (later : List Step) × MayStep plan (newest seat) a event act left later
    × (tape.limits.weight < sum_by weight_of seat.seen + seat.out_weight + weight_of (entering (cluster_of plan) (newest seat) a event false)))

-- What a turn came to, of the items that the actor had entered and its commands that had gone by. Taken: it entered an item or more.
-- Idle: it entered none, and no command went by. Full: it entered none and no command went by, as the tape has no room.
abbrev pub CameTo : Content → TapeName → Actor × List Step → Turned → List Item × ℕ → SeatView Item → ℕ → Type 0
CameTo plan tape name Taken had seat later = length had.0 < length seat.mine
CameTo plan tape name Idle had seat later = (seat.mine ≡ had.0) × (later ≡ had.1)
CameTo plan tape name Full had seat later = (seat.mine ≡ had.0) × (later ≡ had.1) × HasNoRoom plan tape name.0 (drop had.1 name.1) seat

-- what a turn of a desk came to
abbrev pub HasTurned : {D J : Type 0} → Content → TapeName → Turned → Desk D J → Desk D J → Type 0
HasTurned plan tape turned old new = CameTo plan tape (old.actor, old.commands) turned (old.seat.mine, old.gone) new.seat new.gone

-- It is a restart, or it begins a transaction that has a node and a body and that none of the commands before begins: an actor that is up
-- takes it as its next, whatever stands on the tape.
abbrev pub IsTakenAtOnce : Content → List Step → Step → Type 0
IsTakenAtOnce plan before (Begin txn) = (home : ℕ) × (body : BodyParts) × (slice_get plan.homes txn ≡ Some home) × (slice_get plan.bodies txn ≡ Some body) × (list_any (begins_it txn) before ≡ false)
IsTakenAtOnce plan before (Restart a choice) = Unit {0}
IsTakenAtOnce plan before command = ⊥

-- ---- desks together

-- what the actor of a desk entered, and how many of its commands went by
abbrev pub progress_of : {D J : Type 0} → Desk D J → List Item × ℕ
progress_of desk = (desk.seat.mine, desk.gone)

-- how many items the actors entered
abbrev pub entered_by : {D J : Type 0} → List (Desk D J) → ℕ
entered_by {D} {J} desks = sum_by (λ (desk : Desk D J). length desk.seat.mine) desks

-- What a turn of each of the desks came to. Taken: they entered an item or more. Idle: they entered none, and no command went by. Full:
-- one of them sees that the tape has no room; the others may have entered some.
abbrev pub HaveComeTo : {D J : Type 0} → Content → TapeName → Turned → List (Desk D J) → List (Desk D J) → Type 0
HaveComeTo plan tape Taken before desks = entered_by before < entered_by desks
HaveComeTo plan tape Idle before desks = map progress_of desks ≡ map progress_of before
HaveComeTo {D} {J} plan tape Full before desks =
    ((entered_by before < entered_by desks) ⊎ (map progress_of desks ≡ map progress_of before))
    × Any (λ (desk : Desk D J). HasNoRoom plan tape desk.actor (drop desk.gone desk.commands) desk.seat) desks
