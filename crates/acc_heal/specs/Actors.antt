-- Sets of actors, as lists of keys.
use Rattle.std.specs.Prelude.{Bool, List}
use Rattle.std.specs.List.{list_any}
use Rattle.std.specs.BTreeMap.{is_at}
use Rattle.acc_stamp.specs.declared.actors.Actor.{Actor}
use Rattle.acc_stamp.specs.Actor.{actor_cmp}

abbrev pub has_actor : List Actor → Actor → Bool
has_actor keys a = list_any (is_at (actor_cmp a)) keys
