-- An item says the same of actors and begins behind an earlier run.
use Rattle.std.proofs.Common.{◌≡◌, ℕ, Bool, true, false, ◌||◌, cond, List, [], ◌∷◌, Option, None, Some, length, refl, sym, ap, ◌∙◌}
use Rattle.acc_base.specs.Faults.{or_else}
use Rattle.acc_stamp.specs.declared.stamps.TxnId.{TxnId}
use Rattle.acc_stamp.specs.declared.actors.Actor.{Actor}
use Rattle.acc_message.specs.declared.entry.Event.{Event}
use Rattle.acc_message.specs.declared.entry.Event.TheVariants.{Begin, Recover, Slow, Message as TakesMessage, Restart}
use Rattle.acc_message.specs.declared.item.Item.{Item}
use Rattle.acc_message.specs.declared.item.Item.TheVariants.{Step, Skipped, Down}
use Rattle.acc_message.specs.Items.{sent_of, id_drawn, event_begins, begins_txn, id_begun, is_begun, id_of_txn}
use Rattle.acc_message.specs.Run.{down_after}
use Rattle.acc_schedule_runs.specs.Situations.{Situation, raised_event, raised, whole}
use Rattle.acc_schedule_runs.specs.Moves.{with_item}
use Rattle.acc_history.specs.Begun.{begun_as, begun_with}

pub down_raised : (by : ℕ) (a : Actor) (item : Item) (before : Bool) → down_after a (raised by item) before ≡ down_after a item before
down_raised by a (Step e) before = refl
down_raised by a (Skipped step cause) before = refl
down_raised by a (Down actor) before = refl

event_raised : (by number : ℕ) (event : Event) → event_begins number (raised_event by event) ≡ event_begins number event
event_raised by number (Begin txn) = refl
event_raised by number (Recover txn) = refl
event_raised by number (Slow txn) = refl
event_raised by number (TakesMessage n) = refl
event_raised by number (Restart kept) = refl

pub begins_raised : (by number : ℕ) (item : Item) → begins_txn number (raised by item) ≡ begins_txn number item
begins_raised by number (Step e) = event_raised by number e.event
begins_raised by number (Skipped step cause) = refl
begins_raised by number (Down actor) = refl

pub id_raised : (by number : ℕ) (item : Item) → id_begun number (raised by item) ≡ id_begun number item
id_raised by number (Step e) = ap (λ b. cond b (id_drawn e.emitted.notes) None) (event_raised by number e.event)
id_raised by number (Skipped step cause) = refl
id_raised by number (Down actor) = refl

-- ---- what is begun

or_none : (o : Option TxnId) → or_else o None ≡ o
or_none None = refl
or_none (Some x) = refl

cond_false : (b : Bool) (id : Option TxnId) → b ≡ false → cond b id None ≡ None
cond_false true id e = cc
cond_false false id e = refl

pub draws_none : (number : ℕ) (item : Item) → begins_txn number item ≡ false → id_begun number item ≡ None
draws_none number (Step e) isnt = cond_false (event_begins number e.event) (id_drawn e.emitted.notes) isnt
draws_none number (Skipped step cause) isnt = refl
draws_none number (Down actor) isnt = refl

neither : (b c : Bool) → (b || c) ≡ false → (b ≡ false) × (c ≡ false)
neither true c e = cc
neither false c e = (refl, e)

no_id_by : (first other : Option TxnId) → first ≡ None → other ≡ None → or_else first other ≡ None
no_id_by None other e f = f
no_id_by (Some x) other e f = cc

-- what isn't begun has no id
pub no_id : (items : List Item) (number : ℕ) → is_begun items number ≡ false → id_of_txn items number ≡ None
no_id [] number isnt = refl
no_id (item ∷ earlier) number isnt =
    let n = neither (begins_txn number item) (is_begun earlier number) isnt in
    no_id_by (id_of_txn earlier number) (id_begun number item) (no_id earlier number n.1) (draws_none number item n.0)

pub knows_more : (begins was : Bool) (id first : Option TxnId) → (begins ≡ false → id ≡ None) → (was ≡ false → first ≡ None)
    → begun_with begins id (begun_as was first) ≡ begun_as (begins || was) (or_else first id)
knows_more true true id first none isnt = refl
knows_more true false id first none isnt = ap (λ o. Some (or_else o id)) (sym (isnt refl))
knows_more false true id first none isnt = ap Some (sym (ap (λ o. or_else first o) (none refl) ∙ or_none first))
knows_more false false id first none isnt = refl

pub begun_more : (s : Situation) (item entered : Item) (txn : ℕ) (was now : Option (Option TxnId)) → entered ≡ item → now ≡ begun_with (begins_txn txn entered) (id_begun txn entered) was
    → was ≡ begun_as (is_begun (whole s) txn) (id_of_txn (whole s) txn) → now ≡ begun_as (is_begun (whole (with_item item s)) txn) (id_of_txn (whole (with_item item s)) txn)
begun_more s item entered txn was now same is known =
    is
    ∙ ap (λ x. begun_with (begins_txn txn x) (id_begun txn x) was) same
    ∙ ap (λ o. begun_with (begins_txn txn item) (id_begun txn item) o) known
    ∙ knows_more (begins_txn txn item) (is_begun (whole s) txn) (id_begun txn item) (id_of_txn (whole s) txn) (draws_none txn item) (no_id (whole s) txn)
    ∙ ap (λ b. begun_as (b || is_begun (whole s) txn) (or_else (id_of_txn (whole s) txn) (id_begun txn item))) (sym (begins_raised (length (sent_of s.earlier)) txn item))
    ∙ ap (λ o. begun_as (begins_txn txn (raised (length (sent_of s.earlier)) item) || is_begun (whole s) txn) (or_else (id_of_txn (whole s) txn) o)) (sym (id_raised (length (sent_of s.earlier)) txn item))

-- what isn't known isn't begun
pub isnt_known : (is : Bool) (id : Option TxnId) → None ≡ begun_as is id → is ≡ false
isnt_known true id e = cc
isnt_known false id e = refl
