-- What holds of a whole run holds of each past of it.
use Rattle.std.proofs.Common.{List}
use Rattle.acc_topology.specs.Layout.{IsLayout}
use Rattle.acc_message.specs.declared.item.Item.{Item}
use Rattle.acc_message.specs.Run.{Cluster, EachStands}
use Rattle.acc_safety.specs.Agreement.{Agreement}
use Rattle.acc_safety.specs.Coverage.{Coverage}
use Rattle.acc_safety.specs.Places.{IsPast, Whole, Behind}
use Rattle.acc_safety_laws.proofs.Facts.{Premises}
use Rattle.acc_safety_laws.proofs.Framed.{run_framed}
use Rattle.acc_safety_laws.proofs.Parts.{IsWithin, within_itself, within_earlier}

within_further : (cluster : Cluster) (whole past part : List Item) → IsWithin cluster whole part → IsPast past part → IsWithin cluster whole past
within_further cluster whole past part w (Whole xs) = w
within_further cluster whole past part w (Behind item p rest there) =
    within_further cluster whole p rest (within_earlier cluster whole item rest w) there

pub within_past : (cluster : Cluster) (past items : List Item) → IsPast past items → IsWithin cluster items past
within_past cluster past items there = within_further cluster items past items (within_itself cluster items) there

-- decisions of a past are decisions of the whole, so agreement and coverage hold of it too
pub past_premises : (cluster : Cluster) (past items : List Item) → IsPast past items → IsLayout cluster.layout → EachStands cluster past
    → Agreement items → Coverage cluster items → Premises cluster past
past_premises cluster past items there layout stands agreement coverage =
    let w = within_past cluster past items there in
    record {
      layout = layout;
      agreement = λ a b h k. agreement a b (w.decision a h) (w.decision b k);
      coverage = λ shard a b h k c earlier.
          coverage shard a b (w.decision a h) (w.decision b k)
          (record {
            first = c.first;
            second = c.second;
            first_is = w.body a.id c.first c.first_is;
            second_is = w.body b.id c.second c.second_is;
            different = c.different;
            conflict = c.conflict;
          })
          earlier;
      settled = (run_framed cluster past stands).messages;
    }
