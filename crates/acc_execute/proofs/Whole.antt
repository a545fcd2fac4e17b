-- The clauses of the steps and of their answers, from those of their parts.
use Rattle.std.proofs.Common.{◌≡◌, ℕ, Bool, true, cond, List, [], ◌∷◌, ◌++◌, Option, None, Some, is_some, Result, Ok, Err, IfOk, refl, sym, ap, ◌∙◌, subst}
use Rattle.acc_base.specs.Faults.{or_else}
use Rattle.acc_stamp.specs.declared.stamps.Stamp.{Stamp}
use Rattle.acc_stamp.specs.declared.stamps.TxnId.{TxnId}
use Rattle.acc_stamp.specs.declared.stamps.Ballot.{Ballot}
use Rattle.acc_stamp.specs.declared.actors.Actor.{Actor}
use Rattle.acc_stamp.specs.Actor.{shard_of}
use Rattle.acc_stamp.proofs.Order.{id_order, eq_itself}
use Rattle.acc_topology.specs.Layout.{Layout}
use Rattle.acc_topology.specs.Keys.{share_of}
use Rattle.acc_value.specs.declared.key.Key.{Key}
use Rattle.acc_deps.specs.declared.shards.ShardDeps.{ShardDeps}
use Rattle.acc_deps.specs.declared.records.Settled.{Settled}
use Rattle.acc_txn.specs.declared.parts.BodyParts.{BodyParts}
use Rattle.acc_txn.specs.declared.outcome.Outcome.{Outcome}
use Rattle.acc_txn.specs.Uses.{footprint_of}
use Rattle.acc_message.specs.declared.message.Message.{Message}
use Rattle.acc_message.specs.declared.message.Message.TheVariants.{Stable, Apply}
use Rattle.acc_message.specs.Fields.{id_of, top_of}
use Rattle.acc_message.specs.StoreRules.{replay, store_answer, released as released_by_rules}
use Rattle.acc_record.specs.declared.record.Record.{Record}
use Rattle.acc_record.specs.declared.shelf.Shelf.{Shelf}
use Rattle.acc_record.specs.Shelf.{record_at, cell_at}
use Rattle.acc_record.specs.Stands.{StandsFor, AnswersByRules}
use Rattle.acc_record.specs.Learning.{body_of, known_or_fresh}
use Rattle.acc_opening.specs.Known.{IsKnown}
use Rattle.acc_opening.specs.Turns.{changes_in}
use Rattle.acc_opening.specs.Lookup.{lookup}
use Rattle.acc_opening.specs.Planned.{IsPlanned}
use Rattle.acc_opening.specs.Release.{IsReleased}
use Rattle.acc_actor_laws.proofs.OpeningFacts.{some_is}
use Rattle.acc_execute.proofs.OpenedTaking.{begun_here}
use Rattle.acc_execute.proofs.Joined.{sends}
use Rattle.acc_execute.proofs.Knowing.{is_known}
use Rattle.acc_execute.specs.declared.step.StepParts.{StepParts}
use Rattle.acc_execute.specs.declared.step.PreparedStep.{PreparedStep}
use Rattle.acc_execute.specs.Owned.{with_settled, with_waiter, with_outcome}
use Rattle.acc_execute.specs.Now.{at_once_of}
use Rattle.acc_execute.specs.Executed.{shows, time_of, Stands, IsOwnOf, first_of, IsReadyBehind, IsReady, IsExecuted}
use Rattle.acc_execute.proofs.Owned.{stable_brings, apply_brings}
use Rattle.acc_execute.proofs.Now.{now_is}
use Rattle.acc_execute.proofs.Law.{Brings, begins, from_body, is_own, answers_by_rules}

-- ---- a message that may open something

some_or : (o : Option Settled) (s : Settled) → is_some (or_else o (Some s)) ≡ true
some_or None s = refl
some_or (Some before) s = refl

module _ (layout : Layout) (old : Shelf) (m : Message) (body : BodyParts) (share : List (Key × Bool)) (t : Stamp) (top : ℕ) (first : List Message) (own : Record)
    (b : Brings layout old m body share t top first own) where
  known_here : Stands layout old → is_some own.stable ≡ true → IsKnown (shard_of old.actor) old.records own old.waits
  known_here s stable =
      is_known layout old.actor (shard_of old.actor) s.0 m old.records own s.1.records (is_own old m body own b.brings b.owned) old.waits s.1.waits stable

  answered_by : (step : StepParts) → step.own ≡ own → IsReadyBehind layout old first step
      → (messages : List Message) → StandsFor layout old (replay layout old.actor messages) → step.sent ≡ store_answer layout old.actor (replay layout old.actor messages) m
  answered_by step same p messages stands =
      p.sends
      ∙ ap (λ list. first ++ list)
      (sends layout messages m old own stands (is_own old m body own b.brings b.owned) (changes_in step.plan.done)
      (subst (λ (o : Record). IsPlanned (shard_of old.actor) old.records o old.waits step.plan) same p.planned).turns p.released
      (subst (λ (o : Record). IsReleased layout old.actor (lookup old.records o) (changes_in step.plan.done) (cell_at old.cells) p.released) same p.releases))
      ∙ b.answers messages stands

  answered_here : {E : Type 0} (result : Result PreparedStep E) → IfOk result (λ step. step.parts.value.own ≡ own) → IfOk result (λ step. IsReadyBehind layout old first step.parts.value)
      → IfOk result (λ step. (messages : List Message) → StandsFor layout old (replay layout old.actor messages) → step.parts.value.sent ≡ store_answer layout old.actor (replay layout old.actor messages) m)
  answered_here (Ok step) same p = answered_by step.parts.value same p
  answered_here (Err e) same p = tt

  named_here : Stands layout old → own.id ≡ id_of m
  named_here s =
      ap (λ (q : Record). q.id) b.owned
      ∙ ap (λ (q : Record). q.id) (begun_here layout old s.0 s.1 m (begins old m body) (from_body old m body b.brings) []).is

  ready_here : IsOwnOf old m own → time_of m ≡ Some t → first ≡ first_of layout old m
      → {E : Type 0} (result : Result PreparedStep E) → IfOk result (λ step. step.parts.value.own ≡ own) → IfOk result (λ step. step.parts.value.noted ≡ shows (record_at old.records own.id) t)
      → IfOk result (λ step. IsReadyBehind layout old first step.parts.value) → IfOk result (λ step. IsReady layout old m step.parts.value)
  ready_here owns time starts (Ok step) same noted p =
      record {
        owns = subst (IsOwnOf old m) (sym same) owns;
        noted =
            λ u e. noted ∙ ap (λ (o : Record). shows (record_at old.records o.id) t) (sym same)
            ∙ ap (shows (record_at old.records step.parts.value.own.id)) (some_is t u (sym time ∙ e));
        ready = subst (λ list. IsReadyBehind layout old list step.parts.value) starts p;
      }
  ready_here owns time starts (Err e) same noted p = tt

  stepped_here : (step : StepParts) → step.own ≡ own → IsReadyBehind layout old first step → {E : Type 0} (new : Shelf) (result : Result (List Message) E)
      → IfOk result (λ sent. (first : List Message) → IsReadyBehind layout old first step → IsExecuted layout old new step.own (record { body = body; t = t; top = top }) first sent)
      → IfOk result (λ sent. AnswersByRules layout old new m sent)
  stepped_here step same p new (Ok sent) e =
      answers_by_rules layout old new m body share t top first sent own b
      (subst (λ (o : Record). IsExecuted layout old new o (record { body = body; t = t; top = top }) first sent) same (e first p))
  stepped_here step same p new (Err e) h = tt

-- ---- Stable

module _ (layout : Layout) (old : Shelf) (m : Message) (from to : Actor) (x : TxnId) (b : Ballot) (body : BodyParts) (t : Stamp) (deps : List ShardDeps)
    (is : m ≡ Stable from to x b body t deps) (own : Record)
    (owned : own ≡ with_waiter b (with_settled (record { t = t; deps = deps }) (known_or_fresh (record_at old.records x) x body))) where
  stable_stays : is_some own.stable ≡ true
  stable_stays = ap (λ (r : Record). is_some r.stable) owned ∙ some_or (known_or_fresh (record_at old.records x) x body).stable (record { t = t; deps = deps })

  module _ (first : List Message) (first_is : first ≡ at_once_of layout old x b) (share : List (Key × Bool))
      (shared : share ≡ share_of layout (footprint_of (body_of (record_at old.records x) body)) (shard_of old.actor)) (top : ℕ) (raises : top ≡ top_of m) where
    brings_stable : Brings layout old (Stable from to x b body t deps) body share t top first own
    brings_stable =
        record {
          opening = refl;
          brings = refl;
          times = ap (λ c. cond c (t ∷ []) []) (eq_itself id_order x);
          shared = shared;
          raises = raises ∙ ap top_of is;
          owned = owned ∙ stable_brings (known_or_fresh (record_at old.records x) x body) from to x b body t deps;
          answers =
              λ messages stands. ap (λ list. list ++ released_by_rules layout old.actor (replay layout old.actor messages) (Stable from to x b body t deps))
              (first_is ∙ now_is layout old messages stands x b);
        }

    brings_here : Brings layout old m body share t top first own
    brings_here = subst (λ z. Brings layout old z body share t top first own) (sym is) brings_stable

    pub stable_known : Stands layout old → IsKnown (shard_of old.actor) old.records own old.waits
    stable_known s = known_here layout old m body share t top first own brings_here s stable_stays

    pub stable_answered : {E : Type 0} (result : Result PreparedStep E) → IfOk result (λ step. step.parts.value.own ≡ own) → IfOk result (λ step. IsReadyBehind layout old first step.parts.value)
        → IfOk result (λ step. (messages : List Message) → StandsFor layout old (replay layout old.actor messages) → step.parts.value.sent ≡ store_answer layout old.actor (replay layout old.actor messages) m)
    stable_answered = answered_here layout old m body share t top first own brings_here

    pub stable_there : Stands layout old → record_at old.records x ≡ record_at old.records own.id
    stable_there s = ap (record_at old.records) (sym (named_here layout old m body share t top first own brings_here s ∙ ap id_of is))

    pub stable_ready : {E : Type 0} (result : Result PreparedStep E) → IfOk result (λ step. step.parts.value.own ≡ own) → IfOk result (λ step. step.parts.value.noted ≡ shows (record_at old.records own.id) t)
        → IfOk result (λ step. IsReadyBehind layout old first step.parts.value) → IfOk result (λ step. IsReady layout old m step.parts.value)
    stable_ready =
        ready_here layout old m body share t top first own brings_here (subst (λ z. IsOwnOf old z own) (sym is) owned) (ap time_of is)
        (first_is ∙ sym (ap (first_of layout old) is))

    pub stable_stepped : (step : StepParts) → step.own ≡ own → IsReadyBehind layout old first step → {E : Type 0} (new : Shelf) (result : Result (List Message) E)
        → IfOk result (λ sent. (first : List Message) → IsReadyBehind layout old first step → IsExecuted layout old new step.own (record { body = body; t = t; top = top }) first sent)
        → IfOk result (λ sent. AnswersByRules layout old new m sent)
    stable_stepped = stepped_here layout old m body share t top first own brings_here

module _ (layout : Layout) (old : Shelf) (m : Message) (from to : Actor) (x : TxnId) (b : Ballot) (body : BodyParts) (t : Stamp) (deps : List ShardDeps)
    (is : m ≡ Stable from to x b body t deps) (step : StepParts) (ready : IsReady layout old m step) (share : List (Key × Bool))
    (shared : share ≡ share_of layout (footprint_of (body_of (record_at old.records x) body)) (shard_of old.actor)) (top : ℕ) (raises : top ≡ top_of m) where
  pub stable_taken : {E : Type 0} (new : Shelf) (result : Result (List Message) E)
      → IfOk result (λ sent. (first : List Message) → IsReadyBehind layout old first step → IsExecuted layout old new step.own (record { body = body; t = t; top = top }) first sent)
      → IfOk result (λ sent. AnswersByRules layout old new m sent)
  stable_taken =
      stable_stepped layout old m from to x b body t deps is step.own (subst (λ z. IsOwnOf old z step.own) is ready.owns)
      (first_of layout old m) (ap (first_of layout old) is) share shared top raises step refl ready.ready

-- ---- Apply

module _ (layout : Layout) (old : Shelf) (m : Message) (from to : Actor) (x : TxnId) (b : Ballot) (body : BodyParts) (t : Stamp) (deps : List ShardDeps) (outcome : Outcome)
    (is : m ≡ Apply from to x b body t deps outcome) (own : Record)
    (owned : own ≡ with_outcome outcome (with_settled (record { t = t; deps = deps }) (known_or_fresh (record_at old.records x) x body))) where
  apply_stays : is_some own.stable ≡ true
  apply_stays = ap (λ (r : Record). is_some r.stable) owned ∙ some_or (known_or_fresh (record_at old.records x) x body).stable (record { t = t; deps = deps })

  module _ (first : List Message) (first_is : first ≡ []) (share : List (Key × Bool))
      (shared : share ≡ share_of layout (footprint_of (body_of (record_at old.records x) body)) (shard_of old.actor)) (top : ℕ) (raises : top ≡ top_of m) where
    brings_apply : Brings layout old (Apply from to x b body t deps outcome) body share t top first own
    brings_apply =
        record {
          opening = refl;
          brings = refl;
          times = ap (λ c. cond c (t ∷ []) []) (eq_itself id_order x);
          shared = shared;
          raises = raises ∙ ap top_of is;
          owned = owned ∙ apply_brings (known_or_fresh (record_at old.records x) x body) from to x b body t deps outcome;
          answers =
              λ messages stands. ap (λ list. list ++ released_by_rules layout old.actor (replay layout old.actor messages) (Apply from to x b body t deps outcome)) first_is;
        }

    brought_here : Brings layout old m body share t top first own
    brought_here = subst (λ z. Brings layout old z body share t top first own) (sym is) brings_apply

    pub apply_known : Stands layout old → IsKnown (shard_of old.actor) old.records own old.waits
    apply_known s = known_here layout old m body share t top first own brought_here s apply_stays

    pub apply_answered : {E : Type 0} (result : Result PreparedStep E) → IfOk result (λ step. step.parts.value.own ≡ own) → IfOk result (λ step. IsReadyBehind layout old first step.parts.value)
        → IfOk result (λ step. (messages : List Message) → StandsFor layout old (replay layout old.actor messages) → step.parts.value.sent ≡ store_answer layout old.actor (replay layout old.actor messages) m)
    apply_answered = answered_here layout old m body share t top first own brought_here

    pub apply_there : Stands layout old → record_at old.records x ≡ record_at old.records own.id
    apply_there s = ap (record_at old.records) (sym (named_here layout old m body share t top first own brought_here s ∙ ap id_of is))

    pub apply_ready : {E : Type 0} (result : Result PreparedStep E) → IfOk result (λ step. step.parts.value.own ≡ own) → IfOk result (λ step. step.parts.value.noted ≡ shows (record_at old.records own.id) t)
        → IfOk result (λ step. IsReadyBehind layout old first step.parts.value) → IfOk result (λ step. IsReady layout old m step.parts.value)
    apply_ready =
        ready_here layout old m body share t top first own brought_here (subst (λ z. IsOwnOf old z own) (sym is) owned) (ap time_of is)
        (first_is ∙ sym (ap (first_of layout old) is))

    pub apply_stepped : (step : StepParts) → step.own ≡ own → IsReadyBehind layout old first step → {E : Type 0} (new : Shelf) (result : Result (List Message) E)
        → IfOk result (λ sent. (first : List Message) → IsReadyBehind layout old first step → IsExecuted layout old new step.own (record { body = body; t = t; top = top }) first sent)
        → IfOk result (λ sent. AnswersByRules layout old new m sent)
    apply_stepped = stepped_here layout old m body share t top first own brought_here

module _ (layout : Layout) (old : Shelf) (m : Message) (from to : Actor) (x : TxnId) (b : Ballot) (body : BodyParts) (t : Stamp) (deps : List ShardDeps) (outcome : Outcome)
    (is : m ≡ Apply from to x b body t deps outcome) (step : StepParts) (ready : IsReady layout old m step) (share : List (Key × Bool))
    (shared : share ≡ share_of layout (footprint_of (body_of (record_at old.records x) body)) (shard_of old.actor)) (top : ℕ) (raises : top ≡ top_of m) where
  pub apply_taken : {E : Type 0} (new : Shelf) (result : Result (List Message) E)
      → IfOk result (λ sent. (first : List Message) → IsReadyBehind layout old first step → IsExecuted layout old new step.own (record { body = body; t = t; top = top }) first sent)
      → IfOk result (λ sent. AnswersByRules layout old new m sent)
  apply_taken =
      apply_stepped layout old m from to x b body t deps outcome is step.own (subst (λ z. IsOwnOf old z step.own) is ready.owns)
      (first_of layout old m) (ap (first_of layout old) is) share shared top raises step refl ready.ready
