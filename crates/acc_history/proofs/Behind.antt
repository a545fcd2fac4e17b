-- A history behind an earlier run, before anything was entered.
use Rattle.std.proofs.Common.{◌≡◌, false, List, [], refl, sym, subst, arith}
use Rattle.acc_stamp.specs.declared.actors.Actor.{Actor}
use Rattle.acc_message.specs.declared.item.Item.{Item}
use Rattle.acc_message.specs.Run.{is_down}
use Rattle.acc_message_index.specs.Standing.{Standing}
use Rattle.acc_schedule_runs.specs.Situations.{opened}
use Rattle.acc_history.specs.Stands.{Holds}

-- nothing was sent yet, and nobody is down
pub holds_behind : (earlier : List Item) → ((a : Actor) → is_down a earlier ≡ false) → (items : List Item) (w : Standing) → items ≡ [] → w ≡ record { sent = []; room = 0; downs = [] }
    → Holds items w (opened earlier)
holds_behind earlier up items w none fresh =
    subst (λ (xs : List Item). Holds xs w (opened earlier)) (sym none)
    (subst (λ (v : Standing). Holds [] v (opened earlier)) (sym fresh)
    (record {
      items_are = refl;
      sent_are = refl;
      unsent = λ number behind. refl;
      postings = λ number low. absurd (omega (arith, low));
      downs = λ a. sym (up a);
    }))
