-- What a node stands for after an act, by what its maps hold then.
use Rattle.std.proofs.Common.{◌≡◌, ℕ, ◌==◌, ◌&&◌, ◌||◌, Bool, true, false, not, cond, List, [], ◌∷◌, Option, None, Some, is_some, refl, sym, ap, subst, ◌∙◌}
use Rattle.std.specs.List.{list_any}
use Rattle.std.specs.Ordering.{nat_cmp}
use Rattle.std.specs.BTreeMap.{get}
use Rattle.std.proofs.lemmas.Bool.{eqb-true}
use Rattle.acc_base.specs.Faults.{or_else}
use Rattle.acc_stamp.specs.declared.stamps.TxnId.{TxnId}
use Rattle.acc_stamp.specs.declared.stamps.Ballot.{Ballot}
use Rattle.acc_stamp.specs.Stamp.{id_cmp, id_eq}
use Rattle.acc_stamp.specs.Clock.{ClockState, next_stamp, after_draw, after_restart}
use Rattle.acc_stamp.proofs.Order.{id_order}
use Rattle.acc_topology.specs.Layout.{Layout}
use Rattle.acc_txn.specs.declared.parts.BodyParts.{BodyParts}
use Rattle.acc_message.specs.declared.message.Message.{Message}
use Rattle.acc_message.specs.declared.entry.Emitted.{Emitted}
use Rattle.acc_message.specs.declared.note.Note.TheVariants.{Begin as BeginNote, Recover as RecoverNote}
use Rattle.acc_message.specs.Items.{begins, replies}
use Rattle.acc_message.specs.Attempts.{Attempt}
use Rattle.acc_message.specs.Coordinator.{begun, recovering, ask_for_votes, ask_for_views}
use Rattle.acc_message.specs.NodeRules.{Act, Begins, Recovers, Restarts, Deed, clock_of, next_id, next_ballot, begun_id, is_open, attempt_of, node_emits, node_replay}
use Rattle.acc_node.specs.declared.node.Node.{Node}
use Rattle.acc_node.specs.declared.running.Running.{Running}
use Rattle.acc_node.specs.Stands.{RunsAs, Runs, StandsFor, IsSame, Enters}

or_false : (b : Bool) → (b || false) ≡ b
or_false true = refl
or_false false = refl

pub or_none : {T : Type 0} (o : Option T) → or_else o None ≡ o
or_none None = refl
or_none (Some x) = refl

module _ (layout : Layout) (number start : ℕ) (acts : List Act) where
  -- ---- the same

  pub stands_same : (old new : Node) → IsSame old new → StandsFor layout number start old acts → StandsFor layout number start new acts
  stands_same old new same s =
      record {
        clock_is = same.clock ∙ s.clock_is;
        begun = λ txn. same.begun txn ∙ s.begun txn;
        clients = λ x. same.clients x ∙ s.clients x;
        attempts = λ x. subst (λ (o : Option Running). Runs layout x o (attempt_of layout number start x (node_replay layout number start acts))) (sym (same.attempts x)) (s.attempts x);
      }

  -- ---- a begin

  begun_more : (b : Bool) (x : TxnId) (had : Option TxnId) → (b ≡ true → had ≡ None) → cond b (Some x) had ≡ or_else had (cond b (Some x) None)
  begun_more true x None h = refl
  begun_more true x (Some y) h = let e : Some y ≡ None = h refl in cc
  begun_more false x None h = refl
  begun_more false x (Some y) h = refl

  runs_here : (b : Bool) (x y : TxnId) (running : Running) (a : Attempt) (o : Option Running) (p : Option Attempt) → (b ≡ true → x ≡ y)
      → RunsAs layout x running a → Runs layout y o p → Runs layout y (cond b (Some running) o) (cond b (Some a) p)
  runs_here true x y running a o p same h rest = subst (λ z. RunsAs layout z running a) (same refl) h
  runs_here false x y running a o p same h rest = rest

  pub begins_stands : (old new : Node) (txn : ℕ) (x : TxnId) (running : Running) (body : BodyParts)
      → get nat_cmp old.begun txn ≡ None → x ≡ (record { 0 = next_stamp old.clock }) → RunsAs layout x running (begun body)
      → new.clock ≡ after_draw old.clock
      → ((t : ℕ) → get nat_cmp new.begun t ≡ cond (txn == t) (Some x) (get nat_cmp old.begun t))
      → ((y : TxnId) → is_some (get id_cmp new.clients y) ≡ (id_eq x y || is_some (get id_cmp old.clients y)))
      → ((y : TxnId) → get id_cmp new.attempts y ≡ cond (id_eq x y) (Some running) (get id_cmp old.attempts y))
      → StandsFor layout number start old acts → StandsFor layout number start new (Begins txn body ∷ acts)
  begins_stands old new txn x running body fresh drawn runs clock begun_is clients attempts s =
      let before : List Deed = node_replay layout number start acts in
      let x_is : x ≡ next_id number start before = drawn ∙ ap (λ (k : ClockState). record { 0 = next_stamp k }) s.clock_is in
      record {
        clock_is = clock ∙ ap after_draw s.clock_is;
        begun = λ t.
            begun_is t
            ∙ begun_more (txn == t) x (get nat_cmp old.begun t) (λ same. ap (get nat_cmp old.begun) (sym (eqb-true txn t same)) ∙ fresh)
            ∙ ap (λ (o : Option TxnId). or_else o (cond (txn == t) (Some x) None)) (s.begun t)
            ∙ ap (λ (z : TxnId). or_else (begun_id number start t before) (cond (txn == t) (Some z) None)) x_is;
        clients = λ y.
            clients y
            ∙ ap (λ (z : TxnId). id_eq z y || is_some (get id_cmp old.clients y)) x_is
            ∙ ap (λ b. id_eq (next_id number start before) y || b) (s.clients y)
            ∙ ap (λ b. b || is_open y before) (sym (or_false (id_eq (next_id number start before) y)));
        attempts = λ y.
            subst (λ (o : Option Running). Runs layout y o (cond (id_eq (next_id number start before) y) (Some (begun body)) (attempt_of layout number start y before))) (sym (attempts y))
            (subst (λ (z : TxnId). Runs layout y (cond (id_eq x y) (Some running) (get id_cmp old.attempts y)) (cond (id_eq z y) (Some (begun body)) (attempt_of layout number start y before))) x_is
            (runs_here (id_eq x y) x y running (begun body) (get id_cmp old.attempts y) (attempt_of layout number start y before)
            (λ b. (id_order.decides x y).0 b) runs (s.attempts y)));
      }

  -- ---- a recover

  pub recovers_stands : (old new : Node) (x : TxnId) (ballot : Ballot) (running : Running) (body : BodyParts)
      → ballot ≡ (record { 0 = next_stamp old.clock }) → RunsAs layout x running (recovering ballot body)
      → new.clock ≡ after_draw old.clock
      → ((t : ℕ) → get nat_cmp new.begun t ≡ get nat_cmp old.begun t)
      → ((y : TxnId) → is_some (get id_cmp new.clients y) ≡ is_some (get id_cmp old.clients y))
      → ((y : TxnId) → get id_cmp new.attempts y ≡ cond (id_eq x y) (Some running) (get id_cmp old.attempts y))
      → StandsFor layout number start old acts → StandsFor layout number start new (Recovers x body ∷ acts)
  recovers_stands old new x ballot running body drawn runs clock begun_is clients attempts s =
      let before : List Deed = node_replay layout number start acts in
      let ballot_is : ballot ≡ next_ballot number start before = drawn ∙ ap (λ (k : ClockState). record { 0 = next_stamp k }) s.clock_is in
      record {
        clock_is = clock ∙ ap after_draw s.clock_is;
        begun = λ t. begun_is t ∙ s.begun t ∙ sym (or_none (begun_id number start t before));
        clients = λ y. clients y ∙ s.clients y;
        attempts = λ y.
            subst (λ (o : Option Running). Runs layout y o (cond (id_eq x y) (Some (recovering (next_ballot number start before) body)) (attempt_of layout number start y before))) (sym (attempts y))
            (runs_here (id_eq x y) x y running (recovering (next_ballot number start before) body) (get id_cmp old.attempts y) (attempt_of layout number start y before)
            (λ b. (id_order.decides x y).0 b)
            (subst (λ (b : Ballot). RunsAs layout x running (recovering b body)) ballot_is runs) (s.attempts y));
      }

  -- ---- a restart

  pub restarts_stands : (old new : Node) → new.clock ≡ after_restart old.clock → ((t : ℕ) → get nat_cmp new.begun t ≡ get nat_cmp old.begun t)
      → ((y : TxnId) → get id_cmp new.clients y ≡ None) → ((y : TxnId) → get id_cmp new.attempts y ≡ None)
      → StandsFor layout number start old acts → StandsFor layout number start new (Restarts ∷ acts)
  restarts_stands old new clock begun_is clients attempts s =
      let before : List Deed = node_replay layout number start acts in
      record {
        clock_is = clock ∙ ap after_restart s.clock_is;
        begun = λ t. begun_is t ∙ s.begun t ∙ sym (or_none (begun_id number start t before));
        clients = λ y. ap is_some (clients y);
        attempts = λ y. subst (λ (o : Option Running). Runs layout y o None) (sym (attempts y)) tt;
      }
