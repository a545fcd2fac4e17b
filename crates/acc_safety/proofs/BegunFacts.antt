-- A begun transaction has a home, a body and an id.
use Rattle.std.proofs.Common.{◌≡◌, ◌==◌, ℕ, true, false, cond, List, [], ◌∷◌, Option, None, Some, refl, sym, ◌∙◌, ap, subst, ⊎_elim}
use Rattle.std.specs.List.{slice_get}
use Rattle.std.specs.Option.{option_map}
use Rattle.std.proofs.lemmas.Bool.{true≢false, or_parts, or_cases, eq-eqb, eqb-true, cases_Bool}
use Rattle.acc_stamp.specs.declared.stamps.TxnId.{TxnId}
use Rattle.acc_stamp.specs.declared.actors.Actor.{Actor}
use Rattle.acc_stamp.specs.Actor.{actor_of}
use Rattle.acc_txn.specs.declared.parts.BodyParts.{BodyParts}
use Rattle.acc_message.specs.declared.entry.Emitted.{Emitted}
use Rattle.acc_message.specs.declared.entry.Entry.{Entry}
use Rattle.acc_message.specs.declared.entry.Event.{Event}
use Rattle.acc_message.specs.declared.entry.Event.TheVariants.{Begin as BeginEvent, Recover as RecoverEvent, Slow as SlowEvent, Message as MessageEvent, Restart as RestartEvent}
use Rattle.acc_message.specs.declared.item.Item.{Item}
use Rattle.acc_message.specs.declared.item.Item.TheVariants.{Step, Skipped, Down}
use Rattle.acc_base.specs.Faults.{or_else}
use Rattle.acc_message.specs.Items.{event_begins, begins_txn, is_begun, id_begun, id_drawn, id_of_txn}
use Rattle.acc_message.specs.NodeRules.{Begins, Deed, next_id, node_emits}
use Rattle.acc_message.specs.Run.{Cluster, clock_start, act_of, deeds_of, emits_by, emits, MayStand, StandsOn, EachStands}
use Rattle.acc_actor_laws.proofs.Standing.{not_none}
use Rattle.acc_actor_laws.proofs.OpeningFacts.{some_is}
use Rattle.acc_safety.proofs.DrawFacts.{node_is, is_node-node}

pub record WasBegun (cluster : Cluster) (items : List Item) (txn : ℕ) : Type 0 where
  pub home : ℕ
  pub home_is : slice_get cluster.homes txn ≡ Some home
  pub body : BodyParts
  pub body_is : slice_get cluster.bodies txn ≡ Some body
  pub id : TxnId
  pub id_is : id_of_txn items txn ≡ Some id

-- a begin of a node notes the id that it draws
begin-drawn : (cluster : Cluster) (earlier : List Item) (node txn : ℕ) (body : BodyParts)
    → id_drawn (emits cluster earlier (actor_of node 0) (Begins txn body)).notes
    ≡ Some (next_id node (clock_start cluster.starts node) (deeds_of cluster (actor_of node 0) earlier))
begin-drawn cluster earlier node txn body =
    let a : Actor = actor_of node 0 in
    let past : List Deed = deeds_of cluster a earlier in
    ap (λ b. id_drawn (emits_by b cluster a past (Begins txn body)).notes) (is_node-node node)
    ∙ ap (λ n. id_drawn (node_emits cluster.layout n (clock_start cluster.starts n) past (Begins txn body)).notes) (node_is node)

or_else-left : {T : Type 0} (o other : Option T) (x : T) → o ≡ Some x → or_else o other ≡ Some x
or_else-left None other x e = absurd (not_none x e)
or_else-left (Some y) other x e = e

or_else-some : {T : Type 0} (o other : Option T) (x : T) → other ≡ Some x → (y : T) × (or_else o other ≡ Some y)
or_else-some None other x e = (x, e)
or_else-some (Some y) other x e = (y, refl)

-- the entry that begins it
begun_now : (cluster : Cluster) (earlier : List Item) (e : Entry) (txn : ℕ) (s : StandsOn cluster earlier e) → e.event ≡ BeginEvent txn
    → WasBegun cluster (Step e ∷ earlier) txn
begun_now cluster earlier e txn s is =
    by (slice_get cluster.bodies txn) refl (subst (λ ev. act_of cluster earlier ev ≡ Some s.act) is s.act_is)
  where
    place : MayStand cluster earlier e.actor s.act (BeginEvent txn)
    place = subst (λ ev. MayStand cluster earlier e.actor s.act ev) is s.place

    by : (o : Option BodyParts) → slice_get cluster.bodies txn ≡ o → option_map (Begins txn) o ≡ Some s.act → WasBegun cluster (Step e ∷ earlier) txn
    by None found act_is = absurd (not_none s.act act_is)
    by (Some body) found act_is =
        let node : ℕ = place.0.0 in
        let drawn : id_drawn e.emitted.notes ≡ Some (next_id node (clock_start cluster.starts node) (deeds_of cluster (actor_of node 0) earlier)) =
        ap (λ (m : Emitted). id_drawn m.notes) s.emitted
        ∙ ap (λ act. id_drawn (emits cluster earlier e.actor act).notes) (sym (some_is (Begins txn body) s.act act_is))
        ∙ ap (λ a. id_drawn (emits cluster earlier a (Begins txn body)).notes) place.0.2
        ∙ begin-drawn cluster earlier node txn body in
        let id_is = or_else-some (id_of_txn earlier txn) (id_begun txn (Step e))
        (next_id node (clock_start cluster.starts node) (deeds_of cluster (actor_of node 0) earlier))
        (ap (λ ev. cond (event_begins txn ev) (id_drawn e.emitted.notes) None) is ∙ ap (λ b. cond b (id_drawn e.emitted.notes) None) (same txn) ∙ drawn) in
        record {
          home = node;
          home_is = place.0.1;
          body = body;
          body_is = found;
          id = id_is.0;
          id_is = id_is.1;
        }
      where
        same : (n : ℕ) → (n == n) ≡ true
        same n = eq-eqb n n refl

-- an item more leaves it begun
begun_still : (cluster : Cluster) (item : Item) (earlier : List Item) (txn : ℕ) → WasBegun cluster earlier txn → WasBegun cluster (item ∷ earlier) txn
begun_still cluster item earlier txn w =
    record {
      home = w.home;
      home_is = w.home_is;
      body = w.body;
      body_is = w.body_is;
      id = w.id;
      id_is = or_else-left (id_of_txn earlier txn) (id_begun txn item) w.id w.id_is;
    }

-- the event is the begin of the transaction
event_is : (txn : ℕ) (event : Event) → event_begins txn event ≡ true → event ≡ BeginEvent txn
event_is txn (BeginEvent number) h = ap BeginEvent (eqb-true number txn h)
event_is txn (RecoverEvent number) h = absurd (true≢false (sym h))
event_is txn (SlowEvent number) h = absurd (true≢false (sym h))
event_is txn (MessageEvent number) h = absurd (true≢false (sym h))
event_is txn (RestartEvent kept) h = absurd (true≢false (sym h))

pub begun_has : (cluster : Cluster) (items : List Item) (txn : ℕ) → EachStands cluster items → is_begun items txn ≡ true → WasBegun cluster items txn
begun_has cluster [] txn h begun = absurd (true≢false (sym begun))
begun_has cluster (Step e ∷ earlier) txn h begun =
    ⊎_elim (λ now. begun_now cluster earlier e txn h.0 (event_is txn e.event now))
    (λ before. begun_still cluster (Step e) earlier txn (begun_has cluster earlier txn h.1 before))
    (or_cases (begins_txn txn (Step e)) (is_begun earlier txn) begun)
begun_has cluster (Skipped step cause ∷ earlier) txn h begun = begun_still cluster (Skipped step cause) earlier txn (begun_has cluster earlier txn h.1 begun)
begun_has cluster (Down actor ∷ earlier) txn h begun = begun_still cluster (Down actor) earlier txn (begun_has cluster earlier txn h.1 begun)

-- ---- what has an id was begun

or_else-none : {T : Type 0} (o other : Option T) → o ≡ None → other ≡ None → or_else o other ≡ None
or_else-none None other e f = f
or_else-none (Some y) other e f = e

not_begun-id : (items : List Item) (txn : ℕ) → is_begun items txn ≡ false → id_of_txn items txn ≡ None
not_begun-id [] txn h = refl
not_begun-id (Step e ∷ earlier) txn h =
    let parts = or_parts (event_begins txn e.event) (is_begun earlier txn) h in
    or_else-none (id_of_txn earlier txn) (id_begun txn (Step e)) (not_begun-id earlier txn parts.1)
    (ap (λ b. cond b (id_drawn e.emitted.notes) None) parts.0)
not_begun-id (Skipped step cause ∷ earlier) txn h = or_else-none (id_of_txn earlier txn) None (not_begun-id earlier txn h) refl
not_begun-id (Down actor ∷ earlier) txn h = or_else-none (id_of_txn earlier txn) None (not_begun-id earlier txn h) refl

pub id_was_begun : (items : List Item) (txn : ℕ) (x : TxnId) → id_of_txn items txn ≡ Some x → is_begun items txn ≡ true
id_was_begun items txn x is =
    ⊎_elim (λ yes. yes) (λ no. absurd (not_none x (sym (not_begun-id items txn no) ∙ is))) (cases_Bool (is_begun items txn))
