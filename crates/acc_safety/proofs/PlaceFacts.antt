-- Where begins and recovers stand.
use Rattle.std.proofs.Common.{◌≡◌, ℕ, List, ◌∷◌, ◌++◌, IsTrue, subst}
use Rattle.std.specs.Prelude.{not}
use Rattle.acc_message.specs.declared.entry.Entry.{Entry}
use Rattle.acc_message.specs.declared.entry.Event.{Event}
use Rattle.acc_message.specs.declared.entry.Event.TheVariants.{Begin, Recover}
use Rattle.acc_message.specs.declared.item.Item.{Item}
use Rattle.acc_message.specs.declared.item.Item.TheVariants.{Step}
use Rattle.acc_message.specs.Items.{is_begun}
use Rattle.acc_message.specs.Run.{Cluster, MayStand, StandsOn, EachStands, IsHomeOf}
use Rattle.acc_safety.proofs.SentFacts.{EachStands-after}

stands : (cluster : Cluster) (items after earlier : List Item) (e : Entry) → EachStands cluster items
    → items ≡ after ++ Step e ∷ earlier → StandsOn cluster earlier e
stands cluster items after earlier e h is = (EachStands-after cluster after (Step e ∷ earlier) (subst (EachStands cluster) is h)).0

place_by : (cluster : Cluster) (earlier : List Item) (e : Entry) (event : Event) → e.event ≡ event → (s : StandsOn cluster earlier e)
    → MayStand cluster earlier e.actor s.act event
place_by cluster earlier e event is s = subst (λ ev. MayStand cluster earlier e.actor s.act ev) is s.place

pub begin_is_home : (cluster : Cluster) (items after earlier : List Item) (e : Entry) (txn : ℕ) → EachStands cluster items
    → items ≡ after ++ Step e ∷ earlier → e.event ≡ Begin txn → IsHomeOf cluster txn e.actor
begin_is_home cluster items after earlier e txn h is begins =
    (place_by cluster earlier e (Begin txn) begins (stands cluster items after earlier e h is)).0

pub begin_is_first : (cluster : Cluster) (items after earlier : List Item) (e : Entry) (txn : ℕ) → EachStands cluster items
    → items ≡ after ++ Step e ∷ earlier → e.event ≡ Begin txn → IsTrue (not (is_begun earlier txn))
begin_is_first cluster items after earlier e txn h is begins =
    (place_by cluster earlier e (Begin txn) begins (stands cluster items after earlier e h is)).1

pub recover_is_behind : (cluster : Cluster) (items after earlier : List Item) (e : Entry) (txn : ℕ) → EachStands cluster items
    → items ≡ after ++ Step e ∷ earlier → e.event ≡ Recover txn → IsTrue (is_begun earlier txn)
recover_is_behind cluster items after earlier e txn h is recovers =
    (place_by cluster earlier e (Recover txn) recovers (stands cluster items after earlier e h is)).1
