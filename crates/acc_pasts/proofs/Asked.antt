-- What a cluster enters that is asked for a step is such an entry too.
use Rattle.std.proofs.Common.{◌≡◌, ℕ, nat_lt, false, not, List, ◌∷◌, length, Option, None, Some, refl, sym, ◌∙◌, ap, subst}
use Rattle.std.proofs.lemmas.Bool.{not-false}
use Rattle.acc_message.specs.declared.item.Skip.{Skip}
use Rattle.acc_message.specs.declared.item.Skip.TheVariants.{NoMessage, Begun, Unknown}
use Rattle.acc_message.specs.declared.item.Item.{Item}
use Rattle.acc_message.specs.declared.item.Item.TheVariants.{Skipped}
use Rattle.acc_message.specs.declared.entry.Event.TheVariants.{Message as MessageEvent}
use Rattle.acc_message.specs.Items.{sent_of, is_begun}
use Rattle.acc_message.specs.NodeRules.{Act, Begins, Recovers, Slows, Takes, Restarts}
use Rattle.acc_message.specs.Run.{Cluster, EachStands}
use Rattle.acc_safety.specs.Valid.{IsStanding}
use Rattle.acc_safety.proofs.BegunFacts.{WasBegun, begun_has}
use Rattle.acc_run_laws.specs.declared.ask.Ask.{Ask}
use Rattle.acc_run_laws.specs.declared.ask.Ask.TheVariants.{Begin, Recover, Slow, Deliver, Restart}
use Rattle.acc_run_laws.specs.Asks.{receiver, stepper, event_for, slow_skip, skip_of, entered, item_for}
use Rattle.acc_run_laws.specs.AskLaws.{IsAskOf}
use Rattle.acc_run_laws.proofs.AskFacts.{skip_if-none}
use Rattle.acc_pasts.specs.Entries.{entering, MayTake}
use Rattle.acc_pasts.proofs.Standing.{begin_may, recover_may, slow_may, slow_has_id, deliver_may, restart_may, message_there, entry_standing, skip_standing}

module _ (cluster : Cluster) (items : List Item) (step : ℕ) (ask : Ask) where
  pub item_entering : skip_of cluster items ask ≡ None
      → item_for cluster items step ask ≡ entering cluster items (stepper cluster items ask) (event_for ask) false
  item_entering none = ap (entered cluster items step ask) none

  pub item_skipped : (cause : Skip) → skip_of cluster items ask ≡ Some cause → item_for cluster items step ask ≡ Skipped step cause
  item_skipped cause is = ap (entered cluster items step ask) is

pub ask_may : (cluster : Cluster) (items : List Item) (ask : Ask) → EachStands cluster items → IsAskOf cluster ask → skip_of cluster items ask ≡ None
    → (act : Act) × MayTake cluster items (stepper cluster items ask) (event_for ask) act
ask_may cluster items (Begin txn) h has none =
    (Begins txn has.body, begin_may cluster items txn has (skip_if-none (is_begun items txn) (Begun txn) none))
ask_may cluster items (Recover txn node) h among none =
    let is = not-false (is_begun items txn) (skip_if-none (not (is_begun items txn)) (Unknown txn) none) in
    let begun : WasBegun cluster items txn = begun_has cluster items txn h is in
    (Recovers begun.id begun.body, recover_may cluster items txn node begun.id begun.body among begun.id_is begun.body_is)
ask_may cluster items (Slow txn) h u none =
    let found = slow_has_id cluster items txn none in
    (Slows found.0, slow_may cluster items txn found.0 h found.1 (ap (slow_skip cluster items txn) (sym found.1) ∙ none))
ask_may cluster items (Deliver number) h u none =
    let sent = not-false (nat_lt number (length (sent_of items))) (skip_if-none (not (nat_lt number (length (sent_of items)))) (NoMessage number (length (sent_of items))) none) in
    let found = message_there items number sent in
    (Takes found.0, subst (λ a. MayTake cluster items a (MessageEvent number) (Takes found.0)) (sym (ap receiver found.1)) (deliver_may cluster items number found.0 found.1))
ask_may cluster items (Restart actor) h u none = (Restarts, restart_may cluster items actor 0)

pub ask_standing : (cluster : Cluster) (items : List Item) (step : ℕ) (ask : Ask) → IsStanding cluster items → IsAskOf cluster ask
    → IsStanding cluster (item_for cluster items step ask ∷ items)
ask_standing cluster items step ask standing of = by (skip_of cluster items ask) refl
  where
    by : (o : Option Skip) → skip_of cluster items ask ≡ o → IsStanding cluster (entered cluster items step ask o ∷ items)
    by None is =
        let may = ask_may cluster items ask standing.stands of is in
        entry_standing cluster items (stepper cluster items ask) (event_for ask) may.0 may.1 false standing
    by (Some cause) is = skip_standing cluster items step cause standing
