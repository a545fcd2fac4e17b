-- In a run the last item of an actor that is down is a down.
use Rattle.std.proofs.Common.{◌≡◌, ◌==◌, ◌-◌, Bool, true, false, not, cond, max, nat_lt, ◌&&◌, ◌||◌, List, [], ◌∷◌, refl, sym, ◌∙◌}
use Rattle.std.specs.Bool.{beq}
use Rattle.std.proofs.lemmas.Bool.{true≢false, and_parts}
use Rattle.acc_stamp.specs.declared.actors.Actor.{Actor}
use Rattle.acc_message.specs.declared.item.Item.{Item}
use Rattle.acc_message.specs.declared.item.Item.TheVariants.{Step, Skipped, Down}
use Rattle.acc_message.specs.Items.{same_actor}
use Rattle.acc_message.specs.Run.{Cluster, kept_of, lost_fit, is_down, IsRun}
use Rattle.acc_payloads.specs.Items.{ends_down}

module _ (a : Actor) where
  ends_with : (items : List Item) → lost_fit a 0 items ≡ true → ends_down a items ≡ is_down a items
  ends_with [] h = refl
  ends_with (Step e ∷ earlier) h = by (same_actor e.actor a) refl h (ends_with earlier)
    where
      own : (lost down : Bool) → beq lost (nat_lt 0 0) ≡ true → false ≡ (down && (not true || lost))
      own true down kept = absurd (true≢false (sym kept))
      own false true kept = refl
      own false false kept = refl

      other : (down : Bool) → (down && true) ≡ down
      other true = refl
      other false = refl

      by : (here : Bool) → same_actor e.actor a ≡ here
          → ((not here || beq e.lost (nat_lt 0 0)) && lost_fit a (cond here (max (0 - 1) (kept_of e.event)) 0) earlier) ≡ true
          → (lost_fit a 0 earlier ≡ true → ends_down a earlier ≡ is_down a earlier)
          → cond here false (ends_down a earlier) ≡ (is_down a earlier && (not here || e.lost))
      by true is fits rest = own e.lost (is_down a earlier) (and_parts _ _ fits).0
      by false is fits rest = rest fits ∙ sym (other (is_down a earlier))
  ends_with (Skipped step cause ∷ earlier) h = ends_with earlier h
  ends_with (Down actor ∷ earlier) h = by (same_actor actor a) refl h (ends_with earlier)
    where
      by : (here : Bool) → same_actor actor a ≡ here → ((not here || 0 == 0) && lost_fit a 0 earlier) ≡ true
          → (lost_fit a 0 earlier ≡ true → ends_down a earlier ≡ is_down a earlier)
          → cond here here (ends_down a earlier) ≡ (here || is_down a earlier)
      by true is fits rest = refl
      by false is fits rest = rest fits

pub ends_is_down : (cluster : Cluster) (items : List Item) (a : Actor) → IsRun cluster items → ends_down a items ≡ is_down a items
ends_is_down cluster items a run = ends_with a items (run.lost a)
