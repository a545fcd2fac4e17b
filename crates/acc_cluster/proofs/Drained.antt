-- One delivery more at the end of a drain, and the whole drain where nothing waits any more.
use Rattle.std.proofs.Common.{ℕ, refl, subst}
use Rattle.acc_message.specs.declared.entry.Event.TheVariants.{Message as MessageEvent}
use Rattle.acc_message.specs.Run.{Cluster}
use Rattle.acc_schedule_runs.specs.Situations.{Situation, IsOldestWaiting, NothingWaits, receiver_in}
use Rattle.acc_schedule_runs.specs.Moves.{Answers, tried, Drains, stops, delivers}
use Rattle.acc_schedule_runs.specs.StrictMoves.{StrictSituation, tried_strictly, StrictDrains, stops as stops_strictly, delivers as delivers_strictly}
use Rattle.acc_schedule_runs.specs.Fronts.{DrainsTo, comes, goes_on}
use Rattle.acc_schedule_runs.specs.StrictFronts.{StrictlyDrainsTo, comes as comes_strictly, goes_on as goes_on_strictly}

module _ (cluster : Cluster) where
  -- ---- with answers of the disks

  pub one_more : (answers : Answers) (reached : Situation) (message : ℕ) → IsOldestWaiting reached message → (s : Situation) → DrainsTo cluster answers reached s
      → DrainsTo cluster answers (tried cluster answers reached (receiver_in reached message) (MessageEvent message)) s
  one_more answers reached message oldest s (comes _ is) =
      let next : Situation = tried cluster answers reached (receiver_in reached message) (MessageEvent message) in
      subst (λ (t : Situation). DrainsTo cluster answers next t) is (goes_on reached message oldest (comes next refl))
  one_more answers reached message oldest s (goes_on _ first is rest) =
      goes_on s first is (one_more answers reached message oldest (tried cluster answers s (receiver_in s first) (MessageEvent first)) rest)

  pub to_the_end : (answers : Answers) (last : Situation) → NothingWaits last → (s : Situation) → DrainsTo cluster answers last s → Drains cluster answers last s
  to_the_end answers last none s (comes _ is) = stops s (subst (λ (t : Situation). NothingWaits t) is none) is
  to_the_end answers last none s (goes_on _ first is rest) =
      delivers s first is (to_the_end answers last none (tried cluster answers s (receiver_in s first) (MessageEvent first)) rest)

  -- ---- over strict disks

  pub one_more_strictly : (reached : StrictSituation) (message : ℕ) → IsOldestWaiting reached.found message → (s : StrictSituation) → StrictlyDrainsTo cluster reached s
      → StrictlyDrainsTo cluster (tried_strictly cluster reached (receiver_in reached.found message) (MessageEvent message)) s
  one_more_strictly reached message oldest s (comes_strictly _ is) =
      let next : StrictSituation = tried_strictly cluster reached (receiver_in reached.found message) (MessageEvent message) in
      subst (λ (t : StrictSituation). StrictlyDrainsTo cluster next t) is (goes_on_strictly reached message oldest (comes_strictly next refl))
  one_more_strictly reached message oldest s (goes_on_strictly _ first is rest) =
      goes_on_strictly s first is (one_more_strictly reached message oldest (tried_strictly cluster s (receiver_in s.found first) (MessageEvent first)) rest)

  pub to_the_strict_end : (last : StrictSituation) → NothingWaits last.found → (s : StrictSituation) → StrictlyDrainsTo cluster last s → StrictDrains cluster last s
  to_the_strict_end last none s (comes_strictly _ is) = stops_strictly s (subst (λ (t : StrictSituation). NothingWaits t.found) is none) is
  to_the_strict_end last none s (goes_on_strictly _ first is rest) =
      delivers_strictly s first is (to_the_strict_end last none (tried_strictly cluster s (receiver_in s.found first) (MessageEvent first)) rest)
