-- The items of a healing are a run: what is due is a step of the plan's cluster.
use Rattle.std.proofs.Common.{◌≡◌, ℕ, ◌+◌, ◌<◌, Bool, true, false, cond, List, [], ◌∷◌, Option, None, Some, refl, sym, subst}
use Rattle.std.specs.List.{slice_get, AllByRecursion}
use Rattle.std.specs.Option.{option_map}
use Rattle.acc_stamp.specs.declared.stamps.TxnId.{TxnId}
use Rattle.acc_stamp.specs.declared.stamps.Ballot.{Ballot}
use Rattle.acc_stamp.specs.Actor.{node_of_stamp}
use Rattle.acc_message.specs.declared.item.Item.{Item}
use Rattle.acc_message.specs.Items.{txn_of}
use Rattle.acc_message.specs.Run.{Cluster}
use Rattle.acc_actor_laws.proofs.Standing.{not_none}
use Rattle.acc_safety.specs.Valid.{IsValidCluster}
use Rattle.acc_schedule.specs.declared.plan.Step.{Step}
use Rattle.acc_schedule.specs.declared.plan.Step.TheVariants.{Recover, Drain}
use Rattle.acc_schedule.specs.Content.{Content}
use Rattle.acc_schedule.specs.Plan.{IsPlan}
use Rattle.acc_schedule_runs.specs.Situations.{Situation, whole}
use Rattle.acc_schedule_runs.specs.Moves.{Answers}
use Rattle.acc_schedule_runs.specs.Schedules.{cluster_of}
use Rattle.acc_schedule_runs.specs.Laws.{IsStepOf}
use Rattle.acc_schedule_runs.proofs.GivesRuns.{Sound, sound_next, sound_run, steps_of_plan}
use Rattle.acc_delivered.specs.Ends.{is_ended}
use Rattle.acc_heal_laws.specs.Stages.{Stage, Reopens, Turns, EndsFirst, Repeats, EndsSecond, Turn, turn_or, turn_at, turn_step, recover_unless, all_took_apply, next_turn, due, stage_after, stage_after_first, stage_of_turn}
use Rattle.acc_heal_laws.specs.Healings.{Standing, Goes, standing_after, moving_with}
use Rattle.acc_heal_laws.proofs.KnownSteps.{IsKnown}
use Rattle.acc_heal_laws.proofs.Numbers.{numbered}

pub one_step : {T : Type 0} (x y : T) → Some x ≡ Some y → x ≡ y
one_step x y e = cc

-- ---- turns

-- the step of a turn recovers the transaction of its id at the node of the id
pub record IsTurn (items : List Item) (turn : Turn) : Type 0 where
  pub txn : ℕ
  pub txn_is : txn_of items turn.id ≡ Some txn
  pub step_is : turn.step ≡ Recover txn (node_of_stamp turn.id.0)

pub is_turn : (cluster : Cluster) (items : List Item) (ids : List TxnId) (turn : Turn) → next_turn cluster items ids ≡ Some turn → IsTurn items turn
is_turn cluster items [] turn e = absurd (not_none turn e)
is_turn cluster items (x ∷ ids) turn e = by (turn_step cluster items x) refl e (is_turn cluster items ids turn)
  where
    made : (step : Step) (o : Option ℕ) → txn_of items x ≡ o → turn_at cluster items x o ≡ Some step → IsTurn items (record { id = x; step = step; rest = ids })
    made step None is at = absurd (not_none step at)
    made step (Some txn) is at = unless (all_took_apply cluster items x (slice_get cluster.bodies txn)) at
      where
        unless : (o : Bool) → recover_unless o x txn ≡ Some step → IsTurn items (record { id = x; step = step; rest = ids })
        unless true f = absurd (not_none step f)
        unless false f = record { txn = txn; txn_is = is; step_is = sym (one_step (Recover txn (node_of_stamp x.0)) step f) }

    by : (o : Option Step) → turn_step cluster items x ≡ o → turn_or o x ids (next_turn cluster items ids) ≡ Some turn
        → (next_turn cluster items ids ≡ Some turn → IsTurn items turn) → IsTurn items turn
    by None was f rest = rest f
    by (Some step) was f rest = subst (IsTurn items) (one_step (record { id = x; step = step; rest = ids }) turn f) (made step (txn_of items x) refl was)

-- ---- all of a healing

module _ (plan : Content) (answers : Answers) (is_plan : IsPlan plan) (valid : IsValidCluster (cluster_of plan)) where
  abbrev cluster : Cluster
  cluster = cluster_of plan

  abbrev pub Carried : Stage → Type 0
  Carried (Reopens todo) = AllByRecursion (IsKnown plan) todo
  Carried (Turns ids) = Unit {0}
  Carried (EndsFirst turn drawn) = IsKnown plan turn.step
  Carried (Repeats turn) = IsKnown plan turn.step
  Carried (EndsSecond turn) = Unit {0}

  turn_known : (s : Situation) (ids : List TxnId) (turn : Turn) → Sound cluster [] s → next_turn cluster (whole s) ids ≡ Some turn → IsKnown plan turn.step
  turn_known s ids turn sound e =
      let t = is_turn cluster (whole s) ids turn e in
      let n = numbered cluster valid (whole s) turn.id t.txn (sound_run cluster [] s sound).stands t.txn_is in
      subst (IsKnown plan) (sym t.step_is) (subst (λ k. t.txn < k) is_plan.bodies_as_many n.low, n.node)

  pub step_known : (stage : Stage) (s : Situation) (step : Step) → Carried stage → Sound cluster [] s → due cluster stage (whole s) ≡ Some step → IsKnown plan step
  step_known (Reopens []) s step c sound e = subst (IsKnown plan) (one_step Drain step e) tt
  step_known (Reopens (r ∷ todo)) s step c sound e = subst (IsKnown plan) (one_step r step e) c.0
  step_known (Turns ids) s step c sound e = by (next_turn cluster (whole s) ids) refl e
    where
      by : (o : Option Turn) → next_turn cluster (whole s) ids ≡ o → option_map (λ (turn : Turn). turn.step) o ≡ Some step → IsKnown plan step
      by None was f = absurd (not_none step f)
      by (Some turn) was f = subst (IsKnown plan) (one_step turn.step step f) (turn_known s ids turn sound was)
  step_known (EndsFirst turn drawn) s step c sound e = subst (IsKnown plan) (one_step Drain step e) tt
  step_known (Repeats turn) s step c sound e = subst (IsKnown plan) (one_step turn.step step e) c
  step_known (EndsSecond turn) s step c sound e = subst (IsKnown plan) (one_step Drain step e) tt

  next_carried : (stage : Stage) (s : Situation) (now : List Item) → Carried stage → Sound cluster [] s → Carried (stage_after cluster stage (whole s) now)
  next_carried (Reopens []) s now c sound = tt
  next_carried (Reopens (r ∷ todo)) s now c sound = c.1
  next_carried (Turns ids) s now c sound = by (next_turn cluster (whole s) ids) refl
    where
      by : (o : Option Turn) → next_turn cluster (whole s) ids ≡ o → Carried (stage_of_turn o now)
      by None was = tt
      by (Some turn) was = turn_known s ids turn sound was
  next_carried (EndsFirst turn drawn) s now c sound = by drawn
    where
      ended : (o : Bool) → Carried (cond o (Repeats turn) (Turns turn.rest))
      ended true = c
      ended false = tt

      by : (o : Option Ballot) → Carried (stage_after_first turn o now)
      by None = tt
      by (Some b) = ended (is_ended turn.id b now)
  next_carried (Repeats turn) s now c sound = tt
  next_carried (EndsSecond turn) s now c sound = tt

  step_of : (step : Step) → IsKnown plan step → IsStepOf cluster step
  step_of step known = (steps_of_plan plan is_plan (step ∷ []) (known, tt)).0

  -- where a healing stands, its items are a run, and the steps that it still has to take are known
  pub record IsSound (at : Standing Situation) : Type 0 where
    pub carried : Carried at.stage
    pub sound : Sound cluster [] at.at

  pub goes_sound : (number : ℕ) (steps : List Step) (from to : Standing Situation) → IsSound from → Goes (moving_with plan answers) number steps from to → IsSound to
  goes_sound number [] from to s g = subst IsSound (sym g) s
  goes_sound number (step ∷ steps) from to s g =
      goes_sound (number + 1) steps (standing_after (moving_with plan answers) from g.0) to
      (record {
        carried = next_carried from.stage from.at (whole g.0) s.carried s.sound;
        sound =
            sound_next cluster [] answers number step from.at g.0 (step_of step (step_known from.stage from.at step s.carried s.sound g.1)) g.2 s.sound;
      }) g.3
