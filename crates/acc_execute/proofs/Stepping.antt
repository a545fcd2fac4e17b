-- The parts of a step: what is learnt in the room that is made, what is committed, and both together.
use Rattle.std.proofs.Common.{◌≡◌, ℕ, Bool, true, false, cond, List, Option, None, Some, is_some, unwrap_or, Result, Ok, Err, OnOk, OnErr, refl, sym, ap, ◌∙◌, subst}
use Rattle.std.specs.Option.{option_map}
use Rattle.std.proofs.lemmas.Bool.{true≢false}
use Rattle.acc_stamp.specs.declared.stamps.Stamp.{Stamp}
use Rattle.acc_stamp.specs.declared.stamps.TxnId.{TxnId}
use Rattle.acc_stamp.specs.Actor.{shard_of}
use Rattle.acc_stamp.specs.Stamp.{id_eq}
use Rattle.acc_stamp.proofs.Order.{id_order, eq_itself, eq-sym}
use Rattle.acc_topology.specs.Layout.{Layout}
use Rattle.acc_value.specs.declared.key.Key.{Key}
use Rattle.acc_value.specs.Cells.{applied}
use Rattle.acc_value.specs.Pairs.{find}
use Rattle.acc_txn.specs.declared.parts.BodyParts.{BodyParts}
use Rattle.acc_message.specs.declared.message.Message.{Message}
use Rattle.acc_message.specs.Opening.{Change}
use Rattle.acc_record.specs.declared.record.Record.{Record}
use Rattle.acc_record.specs.declared.cells.Cells.{Cells}
use Rattle.acc_record.specs.declared.shelf.Shelf.{Shelf}
use Rattle.acc_record.specs.Shelf.{Records, Waits, IsSame, record_at, cell_at, watchers}
use Rattle.acc_record.specs.Learning.{known_or_fresh, share_at, IsLearnt}
use Rattle.acc_opening.specs.declared.plan.Plan.{Plan}
use Rattle.acc_opening.specs.Lookup.{lookup}
use Rattle.acc_opening.specs.Touched.{watches_with, watches_now}
use Rattle.std.specs.BTreeMap as tree
use Rattle.acc_stamp.specs.Stamp.{id_cmp}
use Rattle.acc_opening.specs.Turns.{changes_in}
use Rattle.acc_opening.specs.Planned.{after_changes, AreWatches}
use Rattle.acc_execute.specs.Opened.{executed}
use Rattle.acc_execute.specs.declared.step.StepParts.{StepParts}
use Rattle.acc_execute.specs.Executed.{AllFit, IsReadyBehind, IsLearntWithRoom, IsCommitted, IsExecuted}

-- ---- learning in the room that is made

module _ (old : Shelf) (waits : Waits) (same : (y : TxnId) → watchers waits y ≡ watchers old.waits y) where
  abbrev roomy : Shelf
  roomy = record old { waits = waits }

  same_roomy : IsSame old roomy
  same_roomy = record { actor = refl; records = λ x. refl; index = refl; cells = λ key. refl; waits = same; greatest = refl }

  pub left_at_once : {T E : Type 0} (result : Result T E) → OnErr result (IsSame old roomy)
  left_at_once (Ok t) = tt
  left_at_once (Err e) = same_roomy

  pub left_roomy : {T E : Type 0} (new : Shelf) (result : Result T E) → OnErr result (IsSame roomy new) → OnErr result (IsSame old new)
  left_roomy new (Ok t) q = q
  left_roomy new (Err e) q =
      record { actor = q.actor; records = q.records; index = q.index; cells = q.cells; waits = λ y. q.waits y ∙ same y; greatest = q.greatest }

  pub learnt_roomy : {T E : Type 0} (new : Shelf) (x : TxnId) (plan : Plan) (body : BodyParts) (share : List (Key × Bool)) (stamp : Stamp) (top : ℕ) (result : Result T E)
      → AllFit plan.touched waits → OnOk result (IsLearnt roomy new x body share (Some stamp) top)
      → OnOk result (IsLearntWithRoom old new x plan share (record { body = body; t = stamp; top = top }))
  learnt_roomy new x plan body share stamp top (Ok t) fits l =
      record {
        learns = record { actor = l.actor; records = l.records; index = l.index; cells = l.cells; waits = refl; greatest = l.greatest };
        waits = λ y. ap (λ w. watchers w y) l.waits ∙ same y;
        room = subst (AllFit plan.touched) (sym l.waits) fits;
      }
  learnt_roomy new x plan body share stamp top (Err e) fits l = l

-- what is learnt of a record's transaction is learnt of that of an equal record
pub learnt_of : (layout : Layout) (old mid : Shelf) (own equal : Record) (plan : Plan) (body : BodyParts) (stamp : Stamp) (top : ℕ) → own ≡ equal
    → IsLearntWithRoom old mid own.id plan (share_at layout old own.id body) (record { body = body; t = stamp; top = top })
    → IsLearntWithRoom old mid equal.id plan (share_at layout old equal.id body) (record { body = body; t = stamp; top = top })
learnt_of layout old mid own equal plan body stamp top same l =
    subst (λ (r : Record). IsLearntWithRoom old mid r.id plan (share_at layout old r.id body) (record { body = body; t = stamp; top = top })) same l

-- ---- the records

own_there : (own : Record) (o : Option Record) → is_some o ≡ true → option_map (λ (there : Record). own) o ≡ Some own
own_there own None h = absurd (true≢false (sym h))
own_there own (Some there) h = refl

-- the own record in its place with its turns, and then the turns of the others
pub records_then : (old mid new : Records) (own turned : Record) (changes : List Change) → is_some (record_at old own.id) ≡ true
    → turned ≡ executed changes own.id own
    → ((y : TxnId) → record_at mid y ≡ cond (id_eq own.id y) (option_map (λ (there : Record). turned) (record_at old own.id)) (record_at old y))
    → ((y : TxnId) → record_at new y ≡ cond (id_eq own.id y) (record_at mid y) (option_map (executed changes y) (record_at mid y)))
    → (y : TxnId) → record_at new y ≡ option_map (executed changes y) (lookup old own y)
records_then old mid new own turned changes known turns kept others y =
    others y ∙ by (id_eq own.id y) refl
    ∙ ap (λ b. option_map (executed changes y) (cond b (Some own) (record_at old y))) (eq-sym id_order own.id y)
  where
    kept_by : (b : Bool) → id_eq own.id y ≡ b → record_at mid y ≡ cond b (Some turned) (record_at old y)
    kept_by b e =
        kept y ∙ ap (λ o. cond (id_eq own.id y) o (record_at old y)) (own_there turned (record_at old own.id) known)
        ∙ ap (λ c. cond c (Some turned) (record_at old y)) e

    by : (b : Bool) → id_eq own.id y ≡ b
        → cond b (record_at mid y) (option_map (executed changes y) (record_at mid y)) ≡ option_map (executed changes y) (cond b (Some own) (record_at old y))
    by true e = kept_by true e ∙ ap Some (turns ∙ ap (λ z. executed changes z own) ((id_order.decides own.id y).0 e))
    by false e = ap (option_map (executed changes y)) (kept_by false e)

-- what is learnt is hidden by the own record
hidden_by : (b : Bool) (own known there : Option Record) → cond b own (cond b known there) ≡ cond b own there
hidden_by true own known there = refl
hidden_by false own known there = refl

lookup_learnt : (old mid : Records) (own known : Record)
    → ((y : TxnId) → record_at mid y ≡ cond (id_eq own.id y) (Some known) (record_at old y)) → (y : TxnId) → lookup mid own y ≡ lookup old own y
lookup_learnt old mid own known learnt y =
    ap (cond (id_eq y own.id) (Some own)) (learnt y ∙ ap (λ b. cond b (Some known) (record_at old y)) (eq-sym id_order own.id y))
    ∙ hidden_by (id_eq y own.id) (Some own) (Some known) (record_at old y)

-- ---- before the step the writes of the last one are moved into the map

module _ (old : Shelf) (cells : Cells) (same : (key : Key) → cell_at cells key ≡ cell_at old.cells key) where
  abbrev pub moved : Shelf
  moved = record old { cells = cells }

  same_moved : IsSame old moved
  same_moved = record { actor = refl; records = λ x. refl; index = refl; cells = same; waits = λ y. refl; greatest = refl }

  pub moved_at_once : {T E : Type 0} (result : Result T E) → OnErr result (IsSame old moved)
  moved_at_once (Ok t) = tt
  moved_at_once (Err e) = same_moved

  pub left_moved : {T E : Type 0} (new : Shelf) (result : Result T E) → IsSame moved new → OnErr result (IsSame old new)
  left_moved new (Ok t) q = tt
  left_moved new (Err e) q =
      record { actor = q.actor; records = q.records; index = q.index; cells = λ key. q.cells key ∙ same key; waits = q.waits; greatest = q.greatest }

-- ---- the step

module _ (old : Shelf) (cells : Cells) (same : (key : Key) → cell_at cells key ≡ cell_at old.cells key) (mid : Shelf) (step : StepParts)
    (layout : Layout) (body : BodyParts) (stamp : Stamp) (top : ℕ)
    (l : IsLearntWithRoom (moved old cells same) mid step.own.id step.plan (share_at layout old step.own.id body) (record { body = body; t = stamp; top = top })) where
  abbrev own : Record
  own = step.own

  abbrev known : Record
  known = known_or_fresh (record_at old.records own.id) own.id body

  pub own_known : is_some (record_at mid.records own.id) ≡ true
  own_known =
      ap is_some (l.learns.records own.id ∙ ap (λ b. cond b (Some known) (record_at old.records own.id)) (eq_itself id_order own.id))

  module _ (new : Shelf) (q : IsCommitted mid new own step.plan step.writes) (first : List Message) (p : IsReadyBehind layout old first step) where
    lists_are : watches_now step.plan.touched old.waits ≡ watchers new.waits
    lists_are = λ i y. sym (q.waits y ∙ ap (watches_with (tree.get id_cmp step.plan.touched y)) (l.waits y)) i

    cells_are : (key : Key) → cell_at new.cells key ≡ applied (cell_at old.cells) p.released.writes key
    cells_are key =
        q.cells key
        ∙ ap (λ cells. applied (cell_at cells) step.writes key) l.learns.cells
        ∙ ap (unwrap_or (find step.writes key)) (same key)
        ∙ ap (λ writes. applied (cell_at old.cells) writes key) p.writes

    pub executed_here : IsExecuted layout old new own (record { body = body; t = stamp; top = top }) first step.sent
    executed_here =
        record {
          changes = changes_in step.plan.done;
          plan = p.planned.turns;
          released = p.released;
          releases = p.releases;
          sends = p.sends;
          cells = cells_are;
          learnt = record mid { waits = old.waits; cells = old.cells };
          learns =
              record {
                actor = l.learns.actor;
                records = l.learns.records;
                index = l.learns.index;
                cells = refl;
                waits = refl;
                greatest = l.learns.greatest;
              };
          actor = q.actor ∙ l.learns.actor;
          index = q.index;
          greatest = q.greatest;
          records =
              λ y. q.records y
              ∙ ap (option_map (executed (changes_in step.plan.done) y)) (lookup_learnt old.records mid.records own known l.learns.records y);
          waiting =
              subst (AreWatches (shard_of old.actor) (after_changes (lookup old.records own) (changes_in step.plan.done))) lists_are p.planned.waiting;
        }
