-- A healing recovers each transaction at most twice, at the node of its id: each turn two times, and each transaction has one.
use Rattle.std.proofs.Common.{◌≡◌, ℕ, ◌+◌, ◌*◌, ◌≤◌, Bool, true, false, cond, List, [], ◌∷◌, length, Option, None, Some, refl, sym, ◌∙◌, ap, subst, arith}
use Rattle.std.specs.Prelude.{filter}
use Rattle.std.specs.List.{flat_map, AllByRecursion}
use Rattle.std.specs.Option.{option_map}
use Rattle.std.proofs.lemmas.Bool.{true≢false}
use Rattle.std.proofs.lemmas.List.{append_cancel_right}
use Rattle.acc_stamp.specs.declared.stamps.TxnId.{TxnId}
use Rattle.acc_stamp.specs.declared.stamps.Ballot.{Ballot}
use Rattle.acc_stamp.specs.Actor.{node_of_stamp}
use Rattle.acc_stamp.specs.Stamp.{id_eq, id_lt}
use Rattle.acc_stamp.specs.Rising.{IsRisingBy}
use Rattle.acc_stamp.proofs.Order.{id_order}
use Rattle.acc_stamp.proofs.Rising.{IsRisingBy-union}
use Rattle.acc_message.specs.declared.item.Item.{Item}
use Rattle.acc_message.specs.Items.{notes_of}
use Rattle.acc_message.specs.Run.{Cluster}
use Rattle.acc_actor_laws.proofs.Standing.{not_none}
use Rattle.acc_safety.specs.Places.{IsIn, First, Later, IsPast}
use Rattle.acc_safety.specs.Valid.{IsValidCluster}
use Rattle.acc_schedule.specs.declared.plan.Step.{Step}
use Rattle.acc_schedule.specs.declared.plan.Step.TheVariants.{Recover, Drain}
use Rattle.acc_schedule.specs.Content.{Content}
use Rattle.acc_schedule.specs.Plan.{IsPlan}
use Rattle.acc_schedule_runs.specs.Situations.{Situation, whole}
use Rattle.acc_schedule_runs.specs.Moves.{Answers, IsNext}
use Rattle.acc_schedule_runs.specs.Schedules.{cluster_of}
use Rattle.acc_schedule_runs.proofs.GivesRuns.{sound_run, sound_earlier}
use Rattle.acc_pasts.proofs.Situations.{whole_alone}
use Rattle.acc_delivered.specs.Ends.{is_ended}
use Rattle.acc_heal_laws.specs.Stages.{Stage, Reopens, Turns, EndsFirst, Repeats, EndsSecond, Turn, turn_or, turn_step, next_turn, due, stage_after, stage_of_turn, id_begun_by, begun_ids}
use Rattle.acc_heal_laws.specs.Healings.{Standing, Goes, standing_after, moving_with, beginning}
use Rattle.acc_heal_laws.specs.Laws.{is_recover_of, is_at_home, HealingRecoversTwiceAtMost}
use Rattle.acc_heal_laws.proofs.Growing.{next_goes}
use Rattle.acc_heal_laws.proofs.HealingTurns.{between_sound}
use Rattle.acc_heal_laws.proofs.KnownSteps.{reopening_known}
use Rattle.acc_heal_laws.proofs.Numbers.{Numbered, numbered, numbered_past}
use Rattle.acc_heal_laws.proofs.Reopened.{each_reopens}
use Rattle.acc_heal_laws.proofs.SoundHealing.{one_step, is_turn, IsSound, goes_sound}
use Rattle.acc_heal_laws.proofs.Recovers.{IsReopen, one_of, AddsFew, few_none, few_weaker, few_chain, drain_few, reopen_few, recover_few}

module _ (x : TxnId) where
  -- how often x is among the ids
  abbrev pub times : List TxnId → ℕ
  times [] = 0
  times (y ∷ ids) = one_of x y + times ids

  -- ---- once among rising ids

  none_above : (y : TxnId) (ids : List TxnId) → y ≡ x → AllByRecursion (λ z. id_lt y z ≡ true) ids → times ids ≡ 0
  none_above y [] same above = refl
  none_above y (z ∷ ids) same above =
      by (id_eq z x) refl (none_above y ids same above.1)
    where
      by : (o : Bool) → id_eq z x ≡ o → times ids ≡ 0 → cond o 1 0 + times ids ≡ 0
      by false other rest = omega (arith, rest)
      by true here rest =
          let z_is : z ≡ x = (id_order.decides z x).0 here in
          absurd (true≢false (sym above.0 ∙ ap (id_lt y) (z_is ∙ sym same) ∙ id_order.irrefl y))

  once : (ids : List TxnId) → IsRisingBy id_lt ids → times ids ≤ 1
  once [] rising = omega arith
  once (y ∷ ids) rising = by (id_eq y x) refl (once ids rising.1)
    where
      by : (o : Bool) → id_eq y x ≡ o → times ids ≤ 1 → cond o 1 0 + times ids ≤ 1
      by false other rest = omega (arith, rest)
      by true here rest =
          let none = none_above y ids ((id_order.decides y x).0 here) rising.0 in omega (arith, none)

  begun_once : (items : List Item) → times (begun_ids items) ≤ 1
  begun_once items = once (begun_ids items) (IsRisingBy-union id_order [] (flat_map id_begun_by (notes_of items)) tt)

  -- ---- how often a healing can still recover x

  abbrev pub budget : Stage → ℕ
  budget (Reopens todo) = 2
  budget (Turns ids) = 2 * times ids
  budget (EndsFirst turn drawn) = one_of x turn.id + 2 * times turn.rest
  budget (Repeats turn) = one_of x turn.id + 2 * times turn.rest
  budget (EndsSecond turn) = 2 * times turn.rest

  turn_times : (cluster : Cluster) (items : List Item) (ids : List TxnId) (turn : Turn) → next_turn cluster items ids ≡ Some turn
      → one_of x turn.id + times turn.rest ≤ times ids
  turn_times cluster items [] turn e = absurd (not_none turn e)
  turn_times cluster items (y ∷ ids) turn e = by (turn_step cluster items y) e (turn_times cluster items ids turn)
    where
      by : (o : Option Step) → turn_or o y ids (next_turn cluster items ids) ≡ Some turn
          → (next_turn cluster items ids ≡ Some turn → one_of x turn.id + times turn.rest ≤ times ids)
          → one_of x turn.id + times turn.rest ≤ one_of x y + times ids
      by None f rest = let h = rest f in omega (arith, h)
      by (Some step) f rest =
          subst (λ (t : Turn). one_of x t.id + times t.rest ≤ one_of x y + times ids) (same_turn f) (omega arith)
        where
          same_turn : Some (record { id = y; step = step; rest = ids }) ≡ Some turn → record { id = y; step = step; rest = ids } ≡ turn
          same_turn g = cc

-- the turn recovers the transaction with this number at the node of its id
record IsTurnOf (cluster : Cluster) (items : List Item) (turn : Turn) : Type 0 where
  txn : ℕ
  step_is : turn.step ≡ Recover txn (node_of_stamp turn.id.0)
  number : Numbered cluster items turn.id txn

module _ (plan : Content) (answers : Answers) (is_plan : IsPlan plan) (valid : IsValidCluster (cluster_of plan)) (x : TxnId) where
  abbrev cluster : Cluster
  cluster = cluster_of plan

  abbrev SoundAt : Standing Situation → Type 0
  SoundAt at = IsSound plan answers is_plan valid at

  -- what is known of the steps that are left
  abbrev Knows : Stage → List Item → Type 0
  Knows (Reopens todo) items = (step : Step) → IsIn step todo → IsReopen step
  Knows (Turns ids) items = Unit {0}
  Knows (EndsFirst turn drawn) items = IsTurnOf cluster items turn
  Knows (Repeats turn) items = IsTurnOf cluster items turn
  Knows (EndsSecond turn) items = Unit {0}

  record Takes (stage : Stage) (s next : Situation) : Type 0 where
    count : ℕ
    few : AddsFew x count s.own next.own
    within : count + budget x (stage_after cluster stage (whole s) (whole next)) ≤ budget x stage
    knows : Knows (stage_after cluster stage (whole s) (whole next)) (whole next)

  as_due : (number : ℕ) (step other : Step) (s next : Situation) → Some other ≡ Some step → IsNext cluster answers number step s next
      → IsNext cluster answers number other s next
  as_due number step other s next e is = subst (λ k. IsNext cluster answers number k s next) (sym (one_step other step e)) is

  turn_later : (past items : List Item) (turn : Turn) → IsPast past items → IsTurnOf cluster past turn → IsTurnOf cluster items turn
  turn_later past items turn there t =
      record { txn = t.txn; step_is = t.step_is; number = numbered_past cluster past items turn.id t.txn there t.number }

  recovered : (number : ℕ) (s next : Situation) (turn : Turn) → (t : IsTurnOf cluster (whole s) turn) → IsNext cluster answers number turn.step s next
      → AddsFew x (one_of x turn.id) s.own next.own
  recovered number s next turn t is =
      recover_few x cluster answers number s next turn.id t.txn t.number.id_is (subst (λ k. IsNext cluster answers number k s next) t.step_is is)

  takes : (stage : Stage) (number : ℕ) (step : Step) (s next : Situation) → SoundAt (record { stage = stage; at = s }) → IsPast (whole s) (whole next)
      → Knows stage (whole s) → due cluster stage (whole s) ≡ Some step → IsNext cluster answers number step s next → Takes stage s next
  takes (Reopens []) number step s next sound grows knows e is =
      let h = begun_once x (whole next) in
      record { count = 0; few = drain_few x cluster answers next s (as_due number step Drain s next e is); within = twice h; knows = tt }
    where
      twice : {n : ℕ} → n ≤ 1 → 0 + 2 * n ≤ 2
      twice h = omega (arith, h)
  takes (Reopens (r ∷ todo)) number step s next sound grows knows e is =
      record {
        count = 0;
        few = reopen_few x cluster answers number r s next (knows r (First r todo)) (as_due number step r s next e is);
        within = omega arith;
        knows = λ k there. knows k (Later k r todo there);
      }
  takes (Turns ids) number step s next sound grows knows e is = by (next_turn cluster (whole s) ids) refl e
    where
      by : (o : Option Turn) → next_turn cluster (whole s) ids ≡ o → option_map (λ (turn : Turn). turn.step) o ≡ Some step → Takes (Turns ids) s next
      by None was f = absurd (not_none step f)
      by (Some turn) was f =
          let t = is_turn cluster (whole s) ids turn was in
          let known : IsTurnOf cluster (whole s) turn = record {
            txn = t.txn;
            step_is = t.step_is;
            number = numbered cluster valid (whole s) turn.id t.txn (sound_run cluster [] s sound.sound).stands t.txn_is;
          } in
          record {
            count = one_of x turn.id;
            few = recovered number s next turn known (as_due number step turn.step s next f is);
            within =
                subst (λ o. one_of x turn.id + budget x (stage_of_turn o (whole next)) ≤ 2 * times x ids) (sym was)
                (left (one_of x turn.id) (times x turn.rest) (times x ids) (turn_times x cluster (whole s) ids turn was));
            knows = subst (λ o. Knows (stage_of_turn o (whole next)) (whole next)) (sym was) (turn_later (whole s) (whole next) turn grows known);
          }
        where
          left : (i j k : ℕ) → i + j ≤ k → i + (i + 2 * j) ≤ 2 * k
          left i j k h = omega (arith, h)
  takes (EndsFirst turn drawn) number step s next sound grows knows e is = by drawn
    where
      few : AddsFew x 0 s.own next.own
      few = drain_few x cluster answers next s (as_due number step Drain s next e is)

      known : IsTurnOf cluster (whole next) turn
      known = turn_later (whole s) (whole next) turn grows knows

      ended : (o : Bool) → 0 + budget x (cond o (Repeats turn) (Turns turn.rest)) ≤ one_of x turn.id + 2 * times x turn.rest
      ended true = omega arith
      ended false = omega arith

      turns : (o : Bool) → Knows (cond o (Repeats turn) (Turns turn.rest)) (whole next)
      turns true = known
      turns false = tt

      by : (o : Option Ballot) → Takes (EndsFirst turn o) s next
      by None = record { count = 0; few = few; within = omega arith; knows = tt }
      by (Some b) =
          record { count = 0; few = few; within = ended (is_ended turn.id b (whole next)); knows = turns (is_ended turn.id b (whole next)) }
  takes (Repeats turn) number step s next sound grows knows e is =
      record {
        count = one_of x turn.id;
        few = recovered number s next turn knows (as_due number step turn.step s next e is);
        within = omega arith;
        knows = tt;
      }
  takes (EndsSecond turn) number step s next sound grows knows e is =
      record { count = 0; few = drain_few x cluster answers next s (as_due number step Drain s next e is); within = omega arith; knows = tt }

  walk : (number : ℕ) (steps : List Step) (from to : Standing Situation) → SoundAt from → Knows from.stage (whole from.at)
      → Goes (moving_with plan answers) number steps from to → AddsFew x (budget x from.stage) from.at.own to.at.own
  walk number [] from to sound knows g =
      few_weaker x 0 (budget x from.stage) from.at.own to.at.own (omega arith)
      (few_none x from.at.own to.at.own (ap (λ (k : Standing Situation). k.at.own) g))
  walk number (step ∷ steps) from to sound knows g =
      let after : Standing Situation = standing_after (moving_with plan answers) from g.0 in
      let sound_next : SoundAt after = goes_sound plan answers is_plan valid number (step ∷ []) from after sound (g.0, g.1, g.2, refl) in
      let alone = whole_alone from.at (sound_earlier cluster [] from.at sound.sound) in
      let alone_next = whole_alone g.0 (sound_earlier cluster [] g.0 sound_next.sound) in
      let grows : IsPast (whole from.at) (whole g.0) =
      subst (λ l. IsPast l (whole g.0)) (sym alone) (subst (IsPast from.at.own) (sym alone_next) (next_goes cluster answers number step from.at g.0 g.2).grows) in
      let one = takes from.stage number step from.at g.0 sound grows knows g.1 g.2 in
      let rest = walk (number + 1) steps after to sound_next one.knows g.3 in
      few_weaker x (one.count + budget x after.stage) (budget x from.stage) from.at.own to.at.own one.within
      (few_chain x one.count (budget x after.stage) from.at.own g.0.own to.at.own one.few rest)

pub recovers_twice_at_most : ((plan : Content) → IsPlan plan → IsValidCluster (cluster_of plan)) → HealingRecoversTwiceAtMost
recovers_twice_at_most valid_of plan answers steps between last later is_plan h items_are x =
    let to : Standing Situation = record { stage = h.heals.stage; at = last } in
    let f =
    walk plan answers is_plan (valid_of plan is_plan) x (length plan.steps) steps (beginning plan between) to
    (record { carried = reopening_known plan (whole between); sound = between_sound plan answers between is_plan h.follows })
    (each_reopens plan (whole between)) h.heals.goes in
    let same : f.later ≡ later = append_cancel_right f.later later between.own (sym f.items_are ∙ items_are) in
    record {
      few = subst (λ l. length (filter (is_recover_of x) l) ≤ 2) same f.few;
      at_home = subst (λ l. AllByRecursion (is_at_home x) (filter (is_recover_of x) l)) same f.home;
    }
