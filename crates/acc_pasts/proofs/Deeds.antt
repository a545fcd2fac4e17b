-- What an actor did, with one item more.
use Rattle.std.proofs.Common.{◌≡◌, Bool, true, false, not, ◌&&◌, ◌||◌, List, ◌∷◌, ◌++◌, Some, refl, ◌∙◌, ap}
use Rattle.acc_stamp.specs.declared.actors.Actor.{Actor}
use Rattle.acc_message.specs.declared.entry.Entry.{Entry}
use Rattle.acc_message.specs.declared.item.Item.{Item}
use Rattle.acc_message.specs.declared.item.Item.TheVariants.{Step}
use Rattle.acc_message.specs.Items.{same_actor}
use Rattle.acc_message.specs.NodeRules.{Act}
use Rattle.acc_message.specs.Run.{Cluster, act_of, deed_with, deed_if, deeds_of, is_down}

module _ (cluster : Cluster) (earlier : List Item) (e : Entry) (a : Actor) where
  pub deeds_more : (act : Act) → same_actor e.actor a ≡ true → act_of cluster earlier e.event ≡ Some act
      → deeds_of cluster a (Step e ∷ earlier) ≡ record { act = act; emitted = e.emitted } ∷ deeds_of cluster a earlier
  deeds_more act here is =
      ap (λ b. deed_if b cluster earlier e ++ deeds_of cluster a earlier) here
      ∙ ap (λ o. deed_with o e.emitted ++ deeds_of cluster a earlier) is

  pub deeds_same : same_actor e.actor a ≡ false → deeds_of cluster a (Step e ∷ earlier) ≡ deeds_of cluster a earlier
  deeds_same apart = ap (λ b. deed_if b cluster earlier e ++ deeds_of cluster a earlier) apart

-- ---- whether it is down

module _ (earlier : List Item) (e : Entry) (a : Actor) where
  pub down_own : same_actor e.actor a ≡ true → is_down a (Step e ∷ earlier) ≡ (e.lost && is_down a earlier)
  down_own here = ap (λ b. is_down a earlier && (not b || e.lost)) here ∙ turned (is_down a earlier) e.lost
    where
      turned : (one other : Bool) → (one && other) ≡ (other && one)
      turned true true = refl
      turned true false = refl
      turned false true = refl
      turned false false = refl

  pub down_other : same_actor e.actor a ≡ false → is_down a (Step e ∷ earlier) ≡ is_down a earlier
  down_other apart = ap (λ b. is_down a earlier && (not b || e.lost)) apart ∙ kept (is_down a earlier)
    where
      kept : (b : Bool) → (b && true) ≡ b
      kept true = refl
      kept false = refl
