-- A transaction has one begin, which drew its id.
use Rattle.std.proofs.Common.{◌≡◌, ℕ, zero, suc, Bool, true, false, not, List, [], ◌∷◌, ◌++◌, reverse, Some, refl, sym, ◌∙◌, ap, subst, eqb-true}
use Rattle.std.specs.List.{slice_get}
use Rattle.std.proofs.lemmas.Bool.{true≢false}
use Rattle.std.proofs.lemmas.List.{reverse-append, append_assoc}
use Rattle.acc_base.specs.Faults.{or_else}
use Rattle.acc_stamp.specs.declared.stamps.TxnId.{TxnId}
use Rattle.acc_message.specs.declared.entry.Event.{Event}
use Rattle.acc_message.specs.declared.entry.Event.TheVariants.{Begin as BeginEvent, Recover as RecoverEvent, Slow as SlowEvent, Message as MessageEvent, Restart as RestartEvent}
use Rattle.acc_message.specs.declared.item.Item.{Item}
use Rattle.acc_message.specs.declared.item.Item.TheVariants.{Step as StepItem, Skipped, Down}
use Rattle.acc_message.specs.Items.{event_begins, begins_txn, is_begun, id_begun, id_of_txn}
use Rattle.acc_message.specs.Run.{Cluster, MayStand, Stands, EachStands}
use Rattle.acc_history.proofs.Raised.{no_id}
use Rattle.acc_desk.specs.Desks.{BeginsAs}

untrue : (b : Bool) → not b ≡ true → b ≡ false
untrue true e = absurd (true≢false (sym e))
untrue false e = refl

-- nothing before a begin begins its transaction
first_begin : (cluster : Cluster) (earlier : List Item) (item : Item) (txn : ℕ) → begins_txn txn item ≡ true → Stands cluster earlier item → is_begun earlier txn ≡ false
first_begin cluster earlier (Skipped step cause) txn is stands = absurd (true≢false (sym is))
first_begin cluster earlier (Down actor) txn is stands = absurd (true≢false (sym is))
first_begin cluster earlier (StepItem e) txn is stands = by e.event refl is
  where
    by : (event : Event) → e.event ≡ event → event_begins txn event ≡ true → is_begun earlier txn ≡ false
    by (BeginEvent n) same found =
        let place : MayStand cluster earlier e.actor stands.act (BeginEvent txn) = subst (λ event. MayStand cluster earlier e.actor stands.act event) (same ∙ ap BeginEvent (eqb-true n txn found)) stands.place in
        untrue (is_begun earlier txn) place.1
    by (RecoverEvent n) same found = absurd (true≢false (sym found))
    by (SlowEvent n) same found = absurd (true≢false (sym found))
    by (MessageEvent n) same found = absurd (true≢false (sym found))
    by (RestartEvent n) same found = absurd (true≢false (sym found))

-- the newest items first
id_drawn_there : (cluster : Cluster) (later earlier : List Item) (item : Item) (txn : ℕ) (id : TxnId) → EachStands cluster (later ++ item ∷ earlier) → BeginsAs txn id item
    → id_of_txn (later ++ item ∷ earlier) txn ≡ Some id
id_drawn_there cluster [] earlier item txn id stands drew =
    ap (λ o. or_else o (id_begun txn item)) (no_id earlier txn (first_begin cluster earlier item txn drew.0 stands.0)) ∙ drew.1
id_drawn_there cluster (x ∷ later) earlier item txn id stands drew =
    ap (λ o. or_else o (id_begun txn x)) (id_drawn_there cluster later earlier item txn id stands.1 drew)

-- ---- the oldest items first

record Parted (seen : List Item) (item : Item) : Type 0 where
  pub before : List Item
  pub after : List Item
  pub seen_is : seen ≡ before ++ item ∷ after

parted : (seen : List Item) (place : ℕ) (item : Item) → slice_get seen place ≡ Some item → Parted seen item
parted [] place item is = absurd (cc)
parted (x ∷ xs) zero item is = let same : x ≡ item = cc in record { before = []; after = xs; seen_is = ap (λ i. i ∷ xs) same }
parted (x ∷ xs) (suc place) item is =
    let rest = parted xs place item is in record { before = x ∷ rest.before; after = rest.after; seen_is = ap (λ l. x ∷ l) rest.seen_is }

-- the id of a transaction that an item among them begins
pub id_at : (cluster : Cluster) (seen : List Item) (place : ℕ) (item : Item) (txn : ℕ) (id : TxnId) → EachStands cluster (reverse seen) → slice_get seen place ≡ Some item → BeginsAs txn id item
    → id_of_txn (reverse seen) txn ≡ Some id
id_at cluster seen place item txn id stands is drew =
    let p = parted seen place item is in
    let e : reverse seen ≡ reverse p.after ++ item ∷ reverse p.before =
    ap reverse p.seen_is ∙ reverse-append p.before (item ∷ p.after) ∙ ap (λ l. l ++ reverse p.before) (reverse-append (item ∷ []) p.after) ∙ append_assoc (reverse p.after) (item ∷ []) (reverse p.before) in
    ap (λ items. id_of_txn items txn) e ∙ id_drawn_there cluster (reverse p.after) (reverse p.before) item txn id (subst (EachStands cluster) e stands) drew
