-- The steps of a healing are few, and speak of transactions and actors of the plan.
use Rattle.std.proofs.Common.{◌≡◌, ℕ, suc, ◌+◌, ◌*◌, ◌≤◌, ◌<◌, ◌^◌, Bool, true, false, cond, List, [], ◌∷◌, length, length-append, map, Option, None, Some, refl, sym, ap, subst, arith}
use Rattle.std.specs.Prelude.{if◌then◌else◌, filter}
use Rattle.std.specs.List.{cons_option, filter_map, AllByRecursion}
use Rattle.std.specs.Option.{option_map}
use Rattle.std.proofs.lemmas.List.{length-map}
use Rattle.acc_stamp.specs.declared.stamps.TxnId.{TxnId}
use Rattle.acc_stamp.specs.declared.stamps.Ballot.{Ballot}
use Rattle.acc_stamp.specs.declared.actors.Actor.{Actor}
use Rattle.acc_stamp.specs.Actor.{actor_of}
use Rattle.acc_stamp.specs.Rising.{rising_with, rising_union}
use Rattle.acc_topology.specs.Layout.{IsLayout, IsShard, Layout, node_numbers, Shard}
use Rattle.acc_topology.specs.Sets.{is_among}
use Rattle.acc_message.specs.declared.item.Item.{Item}
use Rattle.acc_message.specs.Run.{Cluster, is_down, is_node}
use Rattle.acc_actor_laws.proofs.Standing.{not_none}
use Rattle.acc_safety.specs.Places.{IsIn, First, Later}
use Rattle.acc_safety.specs.Valid.{IsValidCluster}
use Rattle.acc_safety.proofs.PlaceOrder.{IsIn-filter_map}
use Rattle.acc_schedule.specs.Actors.{actors, stores_from}
use Rattle.acc_schedule.specs.Content.{Content}
use Rattle.acc_schedule.specs.Plan.{IsPlan, IsStep}
use Rattle.acc_schedule.specs.declared.plan.Step.{Step}
use Rattle.acc_schedule.specs.declared.plan.Step.TheVariants.{Restart, Fail, Drain}
use Rattle.acc_schedule_runs.specs.Moves.{Answers}
use Rattle.acc_schedule_runs.specs.Schedules.{cluster_of}
use Rattle.acc_schedule_runs.specs.Situations.{Situation, whole}
use Rattle.acc_schedule_runs.proofs.GivesRuns.{Sound, sound_run}
use Rattle.acc_delivered.specs.Ends.{is_ended}
use Rattle.acc_heal_laws.specs.Healings.{beginning, Goes, IsHealing, moving_with, Standing, standing_after}
use Rattle.acc_heal_laws.specs.Stages.{actor_lt, actors_rising, begun_ids, due, EndsFirst, EndsSecond, is_armed, next_turn, reopening, reopening_step, Reopens, Repeats, Stage, stage_after, stage_after_first, stage_of_turn, step_of_armed, Turn, turn_or, turn_step, Turns}
use Rattle.acc_heal_laws.proofs.HealingTurns.{between_sound}
use Rattle.acc_heal_laws.proofs.KnownSteps.{reopening_known}
use Rattle.acc_heal_laws.proofs.SoundHealing.{goes_sound, is_turn, IsSound, one_step, step_known}
use Rattle.acc_heal_laws.proofs.StrictWalk.{few_turns}
use Rattle.acc_report_laws.specs.Numbers.{NumbersMessage}

-- ---- a reopening is short

filter_length : {X : Type 0} (p : X → Bool) (xs : List X) → length (filter p xs) ≤ length xs
filter_length p [] = omega arith
filter_length p (x ∷ xs) = by (p x) (filter_length p xs)
  where
    by : (o : Bool) → length (filter p xs) ≤ length xs → length (cond o (x ∷ filter p xs) (filter p xs)) ≤ suc (length xs)
    by true h = omega (arith, h)
    by false h = omega (arith, h)

module _ {X Y : Type 0} (f : X → Option Y) where
  filter_map_length : (xs : List X) → length (filter_map f xs) ≤ length xs
  filter_map_length [] = omega arith
  filter_map_length (x ∷ xs) = by (f x) (filter_map_length xs)
    where
      by : (o : Option Y) → length (filter_map f xs) ≤ length xs → length (cons_option o (filter_map f xs)) ≤ suc (length xs)
      by None h = omega (arith, h)
      by (Some y) h = omega (arith, h)

with_length : {K : Type 0} (lt : K → K → Bool) (x : K) (xs : List K) → length (rising_with lt x xs) ≤ suc (length xs)
with_length lt x [] = omega arith
with_length lt x (y ∷ ys) = by (lt x y) (lt y x) (with_length lt x ys)
  where
    by : (o p : Bool) → length (rising_with lt x ys) ≤ suc (length ys)
        → length (if o then x ∷ y ∷ ys else (if p then y ∷ rising_with lt x ys else y ∷ ys)) ≤ suc (suc (length ys))
    by true p h = omega arith
    by false true h = omega (arith, h)
    by false false h = omega arith

union_length : {K : Type 0} (lt : K → K → Bool) (ys : List K) → length (rising_union lt [] ys) ≤ length ys
union_length lt [] = omega arith
union_length lt (y ∷ ys) = omega (arith, with_length lt y (rising_union lt [] ys), union_length lt ys)

part_length : (part whole : List ℕ) → part ≡ filter (is_among part) whole → length part ≤ length whole
part_length part whole is = omega (arith, ap length is, filter_length (is_among part) whole)

stores_few : (nodes : List ℕ) (shard : ℕ) (shards : List Shard) → length nodes ≤ 15 → AllByRecursion (IsShard nodes) shards
    → length (stores_from shard shards) ≤ 15 * length shards
stores_few nodes shard [] few all = omega arith
stores_few nodes shard (s ∷ shards) few all =
    omega (
      arith,
      length-append (map (λ node. actor_of node shard) s.replicas) (stores_from (shard + 1) shards),
      length-map s.replicas (λ node. actor_of node shard),
      part_length s.replicas nodes all.0.replicas,
      few,
      stores_few nodes (shard + 1) shards few all.1,
    )

actors_few : (layout : Layout) → IsLayout layout → length (actors layout) ≤ 240
actors_few layout is =
    let nodes : length layout.nodes ≤ 15 = part_length layout.nodes node_numbers is.nodes in
    omega (
      arith,
      length-append (map (λ node. actor_of node 0) layout.nodes) (stores_from 1 layout.shards),
      length-map layout.nodes (λ node. actor_of node 0),
      nodes,
      stores_few layout.nodes 1 layout.shards nodes is.shards,
      is.few_shards,
    )

reopening_few : (plan : Content) (items : List Item) → IsPlan plan → length (reopening plan items) ≤ 240
reopening_few plan items is_plan =
    omega (
      arith,
      filter_map_length (reopening_step plan.steps items) (actors_rising plan.topology),
      union_length actor_lt (actors plan.topology),
      actors_few plan.topology is_plan.layout,
    )

-- ---- no step of a healing delivers or drops a message by its number

some_step : {j k : Step} → Some j ≡ Some k → j ≡ k
some_step e = cc

armed_plain : (a : Actor) → NumbersMessage (step_of_armed a)
armed_plain a = by (is_node a)
  where
    by : (o : Bool) → NumbersMessage (cond o (Fail a 1000000) (Restart a 0))
    by true = tt
    by false = tt

reopening_plain : (steps : List Step) (items : List Item) (a : Actor) (step : Step) → reopening_step steps items a ≡ Some step → NumbersMessage step
reopening_plain steps items a step is = by (is_down a items) (is_armed steps a) is
  where
    by : (o p : Bool) → cond o (Some (Restart a 0)) (cond p (Some (step_of_armed a)) None) ≡ Some step → NumbersMessage step
    by true p e = subst NumbersMessage (some_step e) tt
    by false true e = subst NumbersMessage (some_step e) (armed_plain a)
    by false false e = absurd (not_none step e)

each_plain : (steps : List Step) → ((step : Step) → IsIn step steps → NumbersMessage step) → AllByRecursion NumbersMessage steps
each_plain [] each = tt
each_plain (step ∷ steps) each = (each step (First step steps), each_plain steps (λ k there. each k (Later k step steps there)))

all_plain : (plan : Content) (items : List Item) → AllByRecursion NumbersMessage (reopening plan items)
all_plain plan items =
    each_plain (reopening plan items)
    (λ step there.
    let k = IsIn-filter_map (reopening_step plan.steps items) step (actors_rising plan.topology) there in
    reopening_plain plan.steps items k.source step k.gives)

-- ---- turns

fewer_turns : (cluster : Cluster) (items : List Item) (ids : List TxnId) (turn : Turn) → next_turn cluster items ids ≡ Some turn → suc (length turn.rest) ≤ length ids
fewer_turns cluster items [] turn e = absurd (not_none turn e)
fewer_turns cluster items (x ∷ ids) turn e = by (turn_step cluster items x) e (fewer_turns cluster items ids turn)
  where
    by : (o : Option Step) → turn_or o x ids (next_turn cluster items ids) ≡ Some turn
        → (next_turn cluster items ids ≡ Some turn → suc (length turn.rest) ≤ length ids) → suc (length turn.rest) ≤ suc (length ids)
    by None f rest = let h = rest f in omega (arith, h)
    by (Some step) f rest = subst (λ (t : Turn). suc (length t.rest) ≤ suc (length ids)) (same_turn f) (omega arith)
      where
        same_turn : Some (record { id = x; step = step; rest = ids }) ≡ Some turn → record { id = x; step = step; rest = ids } ≡ turn
        same_turn g = cc

turn_plain : (cluster : Cluster) (items : List Item) (ids : List TxnId) (turn : Turn) → next_turn cluster items ids ≡ Some turn → NumbersMessage turn.step
turn_plain cluster items ids turn e = subst NumbersMessage (sym (is_turn cluster items ids turn e).step_is) tt

-- ---- stages

-- so many steps can still be due, the drain of the reopening among them: four of each turn at most
abbrev most_left : Stage → ℕ
most_left (Reopens todo) = length todo + 40001
most_left (Turns ids) = 4 * length ids
most_left (EndsFirst turn drawn) = 3 + 4 * length turn.rest
most_left (Repeats turn) = 2 + 4 * length turn.rest
most_left (EndsSecond turn) = 1 + 4 * length turn.rest

-- none of the steps that are left has the number of a message
abbrev IsPlain : Stage → Type 0
IsPlain (Reopens todo) = AllByRecursion NumbersMessage todo
IsPlain (Turns ids) = Unit {0}
IsPlain (EndsFirst turn drawn) = NumbersMessage turn.step
IsPlain (Repeats turn) = NumbersMessage turn.step
IsPlain (EndsSecond turn) = Unit {0}

module _ (plan : Content) (answers : Answers) (is_plan : IsPlan plan) (valid : IsValidCluster (cluster_of plan)) where
  abbrev cluster : Cluster
  cluster = cluster_of plan

  -- what a due step leaves
  record Gone (stage : Stage) (s next : Situation) (step : Step) : Type 0 where
    numbers : NumbersMessage step
    plain : IsPlain (stage_after cluster stage (whole s) (whole next))
    fewer : most_left (stage_after cluster stage (whole s) (whole next)) + 1 ≤ most_left stage

  begun_few : (next : Situation) → Sound cluster [] next → length (begun_ids (whole next)) ≤ 10000
  begun_few next sound =
      omega (arith, few_turns cluster (whole next) (sound_run cluster [] next sound).stands, is_plan.bodies_as_many, is_plan.few)

  goes_1 : (stage : Stage) (s next : Situation) (step : Step) → IsPlain stage → Sound cluster [] next → due cluster stage (whole s) ≡ Some step → Gone stage s next step
  goes_1 (Reopens []) s next step p sound e =
      record { numbers = subst NumbersMessage (one_step Drain step e) tt; plain = tt; fewer = omega (arith, begun_few next sound) }
  goes_1 (Reopens (r ∷ todo)) s next step p sound e =
      record { numbers = subst NumbersMessage (one_step r step e) p.0; plain = p.1; fewer = omega arith }
  goes_1 (Turns ids) s next step p sound e = by (next_turn cluster (whole s) ids) refl e
    where
      by : (o : Option Turn) → next_turn cluster (whole s) ids ≡ o → option_map (λ (turn : Turn). turn.step) o ≡ Some step → Gone (Turns ids) s next step
      by None was f = absurd (not_none step f)
      by (Some turn) was f =
          let plain = turn_plain cluster (whole s) ids turn was in
          let fewer = fewer_turns cluster (whole s) ids turn was in
          record {
            numbers = subst NumbersMessage (one_step turn.step step f) plain;
            plain = subst (λ o. IsPlain (stage_of_turn o (whole next))) (sym was) plain;
            fewer = subst (λ o. most_left (stage_of_turn o (whole next)) + 1 ≤ 4 * length ids) (sym was) (omega (arith, fewer));
          }
  goes_1 (EndsFirst turn drawn) s next step p sound e =
      record { numbers = subst NumbersMessage (one_step Drain step e) tt; plain = plain drawn; fewer = fewer drawn }
    where
      plain_ended : (o : Bool) → IsPlain (cond o (Repeats turn) (Turns turn.rest))
      plain_ended true = p
      plain_ended false = tt

      plain : (o : Option Ballot) → IsPlain (stage_after_first turn o (whole next))
      plain None = tt
      plain (Some b) = plain_ended (is_ended turn.id b (whole next))

      fewer_ended : (o : Bool) → most_left (cond o (Repeats turn) (Turns turn.rest)) + 1 ≤ 3 + 4 * length turn.rest
      fewer_ended true = omega arith
      fewer_ended false = omega arith

      fewer : (o : Option Ballot) → most_left (stage_after_first turn o (whole next)) + 1 ≤ 3 + 4 * length turn.rest
      fewer None = omega arith
      fewer (Some b) = fewer_ended (is_ended turn.id b (whole next))
  goes_1 (Repeats turn) s next step p sound e =
      record { numbers = subst NumbersMessage (one_step turn.step step e) p; plain = tt; fewer = omega arith }
  goes_1 (EndsSecond turn) s next step p sound e =
      record { numbers = subst NumbersMessage (one_step Drain step e) tt; plain = tt; fewer = omega arith }

  record Walked (steps : List Step) (from to : Standing Situation) : Type 0 where
    known : AllByRecursion (IsStep (length plan.names) plan.topology) steps
    numbers : AllByRecursion NumbersMessage steps
    few : length steps + most_left to.stage ≤ most_left from.stage

  walk : (number : ℕ) (steps : List Step) (from to : Standing Situation) → IsSound plan answers is_plan valid from → IsPlain from.stage
      → Goes (moving_with plan answers) number steps from to → Walked steps from to
  walk number [] from to sound plain g = record { known = tt; numbers = tt; few = subst (λ (k : Standing Situation). 0 + most_left k.stage ≤ most_left from.stage) (sym g) (omega arith) }
  walk number (step ∷ steps) from to sound plain g =
      let later : Standing Situation = standing_after (moving_with plan answers) from g.0 in
      let there = goes_sound plan answers is_plan valid number (step ∷ []) from later sound (g.0, g.1, g.2, refl) in
      let one = goes_1 from.stage from.at g.0 step plain there.sound g.1 in
      let rest = walk (number + 1) steps later to there one.plain g.3 in
      record {
        known = (step_known plan answers is_plan valid from.stage from.at step sound.carried sound.sound g.1, rest.known);
        numbers = (one.numbers, rest.numbers);
        few = omega (arith, one.fewer, rest.few);
      }

  pub record HealingTells (steps : List Step) : Type 0 where
    pub known : AllByRecursion (IsStep (length plan.names) plan.topology) steps
    pub numbers : AllByRecursion NumbersMessage steps
    pub short : length plan.steps + length steps < 2 ^ 64

  pub healing_tells : (steps : List Step) (between last : Situation) → IsHealing plan answers steps between last → HealingTells steps
  healing_tells steps between last h =
      let walked =
      walk (length plan.steps) steps (beginning plan between) (record { stage = h.heals.stage; at = last })
      (record { carried = reopening_known plan (whole between); sound = between_sound plan answers between is_plan h.follows }) (all_plain plan (whole between))
      h.heals.goes in
      let reopens = reopening_few plan (whole between) is_plan in
      record { known = walked.known; numbers = walked.numbers; short = omega (arith, walked.few, reopens, is_plan.few_steps) }
