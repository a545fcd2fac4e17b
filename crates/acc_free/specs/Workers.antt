-- Desks in the hands of workers.
use Rattle.std.specs.Prelude.{◌≡◌, Bool, false, List, map}
use Rattle.acc_ports.specs.declared.disk.Disk.{Ghosts}
use Rattle.acc_schedule.specs.Content.{Content}
use Rattle.acc_tape.specs.Seats.{TapeName}
use Rattle.acc_desk.specs.declared.desk.Desk.{Desk}
use Rattle.acc_desk.specs.declared.serving.Served.{Served}
use Rattle.acc_desk.specs.Desks.{AreSound, name_of}

-- the same desks come back, and where memory wasn't refused each is sound
pub record KeepsSound {D J : Type 0} (port : Ghosts D) (strict_run : Bool) (plan : Content) (tape : TapeName) (desks : List (Desk D J)) (served : Served D J) : Type 0 where
  pub same : map name_of served.desks.items ≡ map name_of desks
  pub sound : served.refused ≡ false → AreSound port strict_run plan tape served.desks.items
