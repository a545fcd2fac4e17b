-- Room for one item more.
use Rattle.std.proofs.Common.{ℕ, ◌<◌, ◌≤◌, length, arith}
use Rattle.acc_schedule_runs.specs.Situations.{Situation}
use Rattle.acc_schedule_runs.specs.Limits.{most_items}
use Rattle.acc_actors.specs.Asked.{HasRoom, IsFew}
use Rattle.acc_cluster.specs.Entering.{HasPlace}

-- with a place for one more
pub few_placed : (s : Situation) → HasRoom s → HasPlace s → IsFew s
few_placed s room place = (room, lower (length s.own) place)
  where
    lower : (n : ℕ) → n < most_items → n ≤ most_items
    lower n low = omega (arith, low)
