-- How great the heights of a run become: one more with each item.
use Rattle.std.specs.Prelude.{ℕ, ◌+◌, ◌≤◌, List, length}
use Rattle.std.specs.List.{AllByRecursion}
use Rattle.acc_stamp.specs.declared.stamps.Stamp.{Stamp}
use Rattle.acc_stamp.specs.declared.actors.Actor.{Actor}
use Rattle.acc_stamp.specs.Actor.{node_of}
use Rattle.acc_stamp.specs.Clock.{ClockState}
use Rattle.acc_message.specs.declared.message.Message.{Message}
use Rattle.acc_message.specs.declared.item.Item.{Item}
use Rattle.acc_message.specs.Fields.{top_of}
use Rattle.acc_message.specs.VoteRule.{greatest_h}
use Rattle.acc_message.specs.NodeRules.{clock_of}
use Rattle.acc_message.specs.Run.{Cluster, clock_start, deeds_of, taken_of}
use Rattle.acc_safety.specs.Histories.{Sending}
use Rattle.acc_safety.specs.RunLaws.{drawn_of}

-- clocks start at 10^12 or below it, and an item draws at most one stamp, which is one above all that its actor met
abbrev pub most_h : List Item → ℕ
most_h items = 1000000000000 + length items

-- nothing was drawn or seen above this
pub record IsLowClock (most : ℕ) (clock : ClockState) : Type 0 where
  pub start : clock.start ≤ most
  pub drawn : clock.drawn ≤ most
  pub seen : clock.seen ≤ most

-- the clock of the actor's node, by what the actor did
abbrev pub clock_at : Cluster → Actor → List Item → ClockState
clock_at cluster a items = clock_of (node_of a) (clock_start cluster.starts (node_of a)) (deeds_of cluster a items)

-- every message, every stamp that was drawn, every clock and the greatest height of every store
pub record AreLow (cluster : Cluster) (items : List Item) : Type 0 where
  pub messages : (m : Message) → Sending items m → top_of m ≤ most_h items
  pub drawn : AllByRecursion (λ (s : Stamp). s.h ≤ most_h items) (drawn_of items)
  pub clocks : (a : Actor) → IsLowClock (most_h items) (clock_at cluster a items)
  pub stores : (a : Actor) → greatest_h a (taken_of cluster a items) ≤ most_h items
