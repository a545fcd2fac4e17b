-- A transaction that has a number was begun by it, at the node of its id; and what a recover of it notes.
use Rattle.std.proofs.Common.{◌≡◌, ℕ, zero, suc, ◌<◌, length, arith, Bool, true, false, not, ◌||◌, cond, List, [], ◌∷◌, Option, None, Some, refl, sym, ◌∙◌, ap, subst}
use Rattle.std.specs.List.{list_any, slice_get, AllByRecursion}
use Rattle.std.specs.Option.{option_map}
use Rattle.std.specs.Prelude.{IsTrue}
use Rattle.std.proofs.lemmas.Bool.{true≢false, or_left, or_right, eq-eqb}
use Rattle.acc_base.specs.Faults.{or_else}
use Rattle.acc_stamp.specs.declared.stamps.TxnId.{TxnId}
use Rattle.acc_stamp.specs.declared.stamps.Ballot.{Ballot}
use Rattle.acc_stamp.specs.Actor.{node_of_stamp, actor_of}
use Rattle.acc_stamp.specs.Stamp.{id_eq}
use Rattle.acc_stamp.proofs.Order.{id_order}
use Rattle.acc_topology.specs.Sets.{is_among}
use Rattle.acc_txn.specs.declared.parts.BodyParts.{BodyParts}
use Rattle.acc_message.specs.declared.entry.Emitted.{Emitted}
use Rattle.acc_message.specs.declared.entry.Entry.{Entry}
use Rattle.acc_message.specs.declared.entry.Event.{Event}
use Rattle.acc_message.specs.declared.entry.Event.TheVariants.{Begin, Recover, Slow, Message as TakesMessage, Restart}
use Rattle.acc_message.specs.declared.note.Note.TheVariants.{Begin as BeginNote, Recover as RecoverNote}
use Rattle.acc_message.specs.declared.item.Item.{Item}
use Rattle.acc_message.specs.declared.item.Item.TheVariants.{Step, Skipped, Down}
use Rattle.acc_message.specs.Items.{begins, begins_txn, event_begins, is_begun, id_begun, id_drawn, id_of_txn, txn_begun, txn_in, txn_of}
use Rattle.acc_message.specs.NodeRules.{Begins, Recovers, next_id, next_ballot, node_emits}
use Rattle.acc_message.specs.Run.{Cluster, clock_start, act_of, recovers, deeds_of, emits, emits_by, MayStand, StandsOn, Stands, EachStands}
use Rattle.acc_actor_laws.proofs.Standing.{not_none}
use Rattle.acc_safety.proofs.Draws.{node_of_draw}
use Rattle.acc_safety.specs.Places.{IsPast, Whole, Behind}
use Rattle.acc_safety.specs.Valid.{IsValidCluster}
use Rattle.acc_safety.proofs.DrawFacts.{is_node-node, node_is}

-- ---- numbers

pub record Numbered (cluster : Cluster) (items : List Item) (x : TxnId) (txn : ℕ) : Type 0 where
  pub id_is : id_of_txn items txn ≡ Some x
  pub begun : is_begun items txn ≡ true
  pub low : txn < length cluster.bodies
  pub node : is_among cluster.layout.nodes (node_of_stamp x.0) ≡ true

same_some : {T : Type 0} (x y : T) → Some x ≡ Some y → x ≡ y
same_some x y e = cc

begin_is : (event : Event) (txn : ℕ) → txn_begun event ≡ Some txn → event ≡ Begin txn
begin_is (Begin n) txn e = ap Begin (same_some n txn e)
begin_is (Recover n) txn e = absurd (not_none txn e)
begin_is (Slow n) txn e = absurd (not_none txn e)
begin_is (TakesMessage n) txn e = absurd (not_none txn e)
begin_is (Restart kept) txn e = absurd (not_none txn e)

slice_each : (Known : ℕ → Type 0) (xs : List ℕ) (n x : ℕ) → AllByRecursion Known xs → slice_get xs n ≡ Some x → Known x
slice_each Known [] n x all e = absurd (not_none x e)
slice_each Known (y ∷ xs) zero x all e = subst Known (same_some y x e) all.0
slice_each Known (y ∷ xs) (suc n) x all e = slice_each Known xs n x all.1 e

slice_low : {T : Type 0} (xs : List T) (n : ℕ) (x : T) → slice_get xs n ≡ Some x → n < length xs
slice_low [] n x e = absurd (not_none x e)
slice_low (y ∷ xs) zero x e = omega arith
slice_low (y ∷ xs) (suc n) x e = let rest = slice_low xs n x e in omega (arith, rest)

none_else : {T : Type 0} (o other : Option T) (x : T) → o ≡ None → other ≡ Some x → or_else o other ≡ Some x
none_else None other x f g = g
none_else (Some y) other x f g = absurd (not_none y (sym f))

some_else : {T : Type 0} (o other : Option T) (x : T) → o ≡ Some x → or_else o other ≡ Some x
some_else None other x f = absurd (not_none x f)
some_else (Some y) other x f = f

not_begun_none : (items : List Item) (txn : ℕ) → is_begun items txn ≡ false → id_of_txn items txn ≡ None
not_begun_none [] txn h = refl
not_begun_none (Step e ∷ earlier) txn h = both (event_begins txn e.event) (is_begun earlier txn) h refl (not_begun_none earlier txn)
  where
    both : (o p : Bool) → (o || p) ≡ false → event_begins txn e.event ≡ o → (p ≡ false → id_of_txn earlier txn ≡ None)
        → or_else (id_of_txn earlier txn) (id_begun txn (Step e)) ≡ None
    both true p f is rest = absurd (true≢false f)
    both false p f is rest = ap (λ o. or_else o (id_begun txn (Step e))) (rest f) ∙ ap (λ o. cond o (id_drawn e.emitted.notes) None) is
not_begun_none (Skipped step cause ∷ earlier) txn h = ap (λ o. or_else o None) (not_begun_none earlier txn h)
not_begun_none (Down actor ∷ earlier) txn h = ap (λ o. or_else o None) (not_begun_none earlier txn h)

numbered_later : (cluster : Cluster) (item : Item) (earlier : List Item) (x : TxnId) (txn : ℕ) → Numbered cluster earlier x txn → Numbered cluster (item ∷ earlier) x txn
numbered_later cluster item earlier x txn n =
    record { id_is = some_else (id_of_txn earlier txn) (id_begun txn item) x n.id_is; begun = or_right (begins_txn txn item) (is_begun earlier txn) n.begun; low = n.low; node = n.node }

-- what a begin of the transaction with this number emits
begun_emits : (cluster : Cluster) (earlier : List Item) (node txn : ℕ) (body : BodyParts)
    → (emits cluster earlier (actor_of node 0) (Begins txn body)).notes
    ≡ BeginNote (next_id node (clock_start cluster.starts node) (deeds_of cluster (actor_of node 0) earlier)) ∷ []
begun_emits cluster earlier node txn body =
    ap (λ o. (emits_by o cluster (actor_of node 0) (deeds_of cluster (actor_of node 0) earlier) (Begins txn body)).notes) (is_node-node node)
    ∙ ap (λ n. (node_emits cluster.layout n (clock_start cluster.starts n) (deeds_of cluster (actor_of node 0) earlier) (Begins txn body)).notes) (node_is node)

begins_here : (cluster : Cluster) (valid : IsValidCluster cluster) (earlier : List Item) (e : Entry) (x : TxnId) (txn : ℕ) → StandsOn cluster earlier e
    → list_any (begins x) e.emitted.notes ≡ true → e.event ≡ Begin txn → Numbered cluster (Step e ∷ earlier) x txn
begins_here cluster valid earlier e x txn on noted event_is = by (slice_get cluster.bodies txn) refl (subst (λ event. act_of cluster earlier event ≡ Some on.act) event_is on.act_is)
  where
    place : MayStand cluster earlier e.actor on.act (Begin txn)
    place = subst (λ event. MayStand cluster earlier e.actor on.act event) event_is on.place

    node : ℕ
    node = place.0.0

    drawn : TxnId
    drawn = next_id node (clock_start cluster.starts node) (deeds_of cluster (actor_of node 0) earlier)

    not_before : (o : Bool) → not o ≡ true → o ≡ false
    not_before true h = absurd (true≢false (sym h))
    not_before false h = refl

    by : (o : Option BodyParts) → slice_get cluster.bodies txn ≡ o → option_map (Begins txn) o ≡ Some on.act → Numbered cluster (Step e ∷ earlier) x txn
    by None body_is act_is = absurd (not_none on.act act_is)
    by (Some body) body_is act_is =
        let notes : e.emitted.notes ≡ BeginNote drawn ∷ [] =
        ap (λ (m : Emitted). m.notes) on.emitted ∙ ap (λ act. (emits cluster earlier e.actor act).notes) (sym (same_some (Begins txn body) on.act act_is))
        ∙ ap (λ a. (emits cluster earlier a (Begins txn body)).notes) place.0.2 ∙ begun_emits cluster earlier node txn body in
        let is_x : drawn ≡ x = (id_order.decides drawn x).0 (one (id_eq drawn x) (subst (λ l. list_any (begins x) l ≡ true) notes noted)) in
        let begun_here : event_begins txn e.event ≡ true = ap (event_begins txn) event_is ∙ eq-eqb txn txn refl in
        record {
          id_is =
              none_else (id_of_txn earlier txn) (id_begun txn (Step e)) x (not_begun_none earlier txn (not_before (is_begun earlier txn) place.1))
              (ap (λ o. cond o (id_drawn e.emitted.notes) None) begun_here ∙ ap id_drawn notes ∙ ap Some is_x);
          begun = or_left (begins_txn txn (Step e)) (is_begun earlier txn) begun_here;
          low = slice_low cluster.bodies txn body body_is;
          node =
              subst (λ k. is_among cluster.layout.nodes k ≡ true)
              (sym (ap (λ (y : TxnId). node_of_stamp y.0) (sym is_x) ∙ node_of_draw node (clock_start cluster.starts node) (deeds_of cluster (actor_of node 0) earlier)))
              (slice_each (λ k. IsTrue (is_among cluster.layout.nodes k)) cluster.homes txn node valid.homes place.0.1);
        }
      where
        one : (o : Bool) → (o || false) ≡ true → o ≡ true
        one true h = refl
        one false h = h

pub numbered : (cluster : Cluster) (valid : IsValidCluster cluster) (items : List Item) (x : TxnId) (txn : ℕ) → EachStands cluster items → txn_of items x ≡ Some txn → Numbered cluster items x txn
numbered cluster valid [] x txn h is = absurd (not_none txn is)
numbered cluster valid (item ∷ earlier) x txn h is = by (txn_of earlier x) refl is (numbered cluster valid earlier x txn h.1)
  where
    here : (i : Item) → i ≡ item → txn_in x i ≡ Some txn → Numbered cluster (item ∷ earlier) x txn
    here (Skipped step cause) same now = absurd (not_none txn now)
    here (Down actor) same now = absurd (not_none txn now)
    here (Step e) same now =
        subst (λ i. Numbered cluster (i ∷ earlier) x txn) same
        (noted (list_any (begins x) e.emitted.notes) refl now)
      where
        on : StandsOn cluster earlier e
        on = stands item (Step e) (sym same) h.0
          where
            stands : (i : Item) (j : Item) → i ≡ j → Stands cluster earlier i → Stands cluster earlier j
            stands i j p k = subst (Stands cluster earlier) p k

        noted : (o : Bool) → list_any (begins x) e.emitted.notes ≡ o → cond o (txn_begun e.event) None ≡ Some txn → Numbered cluster (Step e ∷ earlier) x txn
        noted true f g = begins_here cluster valid earlier e x txn on f (begin_is e.event txn g)
        noted false f g = absurd (not_none txn g)

    by : (o : Option ℕ) → txn_of earlier x ≡ o → or_else o (txn_in x item) ≡ Some txn → (txn_of earlier x ≡ Some txn → Numbered cluster earlier x txn)
        → Numbered cluster (item ∷ earlier) x txn
    by None was now rest = here item refl now
    by (Some n) was now rest = numbered_later cluster item earlier x txn (rest (was ∙ now))

-- ---- recovers

-- the entry of a recover of x notes x and the ballot that it draws, and nothing else
pub record NotesRecover (e : Entry) (x : TxnId) : Type 0 where
  pub ballot : Ballot
  pub notes : e.emitted.notes ≡ RecoverNote x ballot ∷ []

pub recover_notes : (cluster : Cluster) (earlier : List Item) (e : Entry) (x : TxnId) (txn node : ℕ) → StandsOn cluster earlier e → e.event ≡ Recover txn
    → e.actor ≡ actor_of node 0 → id_of_txn earlier txn ≡ Some x → NotesRecover e x
recover_notes cluster earlier e x txn node on event_is actor_is id_is =
    by (slice_get cluster.bodies txn)
    (sym (ap (λ o. recovers o (slice_get cluster.bodies txn)) id_is) ∙ subst (λ event. act_of cluster earlier event ≡ Some on.act) event_is on.act_is)
  where
    by : (o : Option BodyParts) → recovers (Some x) o ≡ Some on.act → NotesRecover e x
    by None act_is = absurd (not_none on.act act_is)
    by (Some body) act_is =
        record {
          ballot = next_ballot node (clock_start cluster.starts node) (deeds_of cluster (actor_of node 0) earlier);
          notes =
              ap (λ (m : Emitted). m.notes) on.emitted ∙ ap (λ act. (emits cluster earlier e.actor act).notes) (sym (same_some (Recovers x body) on.act act_is))
              ∙ ap (λ a. (emits cluster earlier a (Recovers x body)).notes) actor_is
              ∙ ap (λ o. (emits_by o cluster (actor_of node 0) (deeds_of cluster (actor_of node 0) earlier) (Recovers x body)).notes) (is_node-node node)
              ∙ ap (λ n. (node_emits cluster.layout n (clock_start cluster.starts n) (deeds_of cluster (actor_of node 0) earlier) (Recovers x body)).notes) (node_is node);
        }

pub numbered_past : (cluster : Cluster) (past items : List Item) (x : TxnId) (txn : ℕ) → IsPast past items → Numbered cluster past x txn → Numbered cluster items x txn
numbered_past cluster past items x txn (Whole ys) n = n
numbered_past cluster past items x txn (Behind item ys zs there) n = numbered_later cluster item zs x txn (numbered_past cluster ys zs x txn there n)
