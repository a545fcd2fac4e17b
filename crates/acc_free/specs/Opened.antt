-- The desks of a plan's actors, as they are made one after another.
use Rattle.std.specs.Prelude.{◌≡◌, ℕ, ◌+◌, ◌*◌, ◌<◌, List, map}
use Rattle.std.specs.List.{AllByRecursion, IsDistinct}
use Rattle.acc_stamp.specs.declared.actors.Actor.{Actor}
use Rattle.acc_stamp.specs.Actor.{node_of, shard_of}
use Rattle.acc_ports.specs.declared.disk.Disk.{Ghosts}
use Rattle.acc_message.specs.declared.item.Item.{Item}
use Rattle.acc_message.specs.Items.{same_actor}
use Rattle.acc_tape.specs.Seats.{SeatView}
use Rattle.acc_desk.specs.declared.desk.Desk.{Desk}
use Rattle.acc_desk.specs.Desks.{AreSound, DeskRun}

abbrev pub desk_actor : {D J : Type 0} → Desk D J → Actor
desk_actor desk = desk.actor

abbrev pub number_of : Actor → ℕ
number_of a = a.0

-- The order in which desks are made: the nodes, and then the stores shard by shard.
abbrev pub rank_of : Actor → ℕ
rank_of a = shard_of a * 16 + node_of a

-- the actors are apart, and come before this rank
pub record AreBefore (rank : ℕ) (names : List Actor) : Type 0 where
  pub lower : AllByRecursion (λ a. rank_of a < rank) names
  pub apart : IsDistinct same_actor names

-- The desks are those of these actors, which come before this rank. Each is sound, and has a seat for which the first one was split, as it
-- was for no other.
pub record AreOpened {D J : Type 0} (port : Ghosts D) (run : DeskRun) (names : List Actor) (rank : ℕ) (first : SeatView Item) (desks : List (Desk D J)) : Type 0 where
  pub named : map desk_actor desks ≡ names
  pub sound : AreSound port run.strict_run run.plan run.tape desks
  pub tape_is : first.tape ≡ run.tape
  pub actor_is : first.actor ≡ 0
  pub made : first.made ≡ map number_of names
  pub before : AreBefore rank names
