-- What is entered over strict disks is entered with some answers of disks: those that they give at the place of each item.
use Rattle.std.proofs.Common.{◌≡◌, ℕ, suc, ◌+◌, ◌<◌, ◌≤◌, nat_lt, true, false, cond, ◌&&◌, List, [], ◌∷◌, length, Option, None, Some, refl, sym, ◌∙◌, ap, subst, arith}
use Rattle.std.proofs.lemmas.Bool.Decides.{nat_tests}
use Rattle.acc_stamp.specs.declared.actors.Actor.{Actor}
use Rattle.acc_stamp.specs.Actor.{actor_of}
use Rattle.acc_message.specs.declared.item.Item.{Item}
use Rattle.acc_message.specs.declared.item.Skip.{Skip}
use Rattle.acc_message.specs.declared.entry.Event.{Event}
use Rattle.acc_message.specs.declared.entry.Event.TheVariants.{Begin as BeginEvent, Recover as RecoverEvent, Slow as SlowEvent, Message as MessageEvent}
use Rattle.acc_message.specs.Run.{Cluster}
use Rattle.acc_run_laws.specs.Asks.{home_of_txn}
use Rattle.acc_schedule.specs.Content.{Content}
use Rattle.acc_schedule.specs.declared.plan.Step.{Step}
use Rattle.acc_schedule.specs.declared.plan.Step.TheVariants.{Begin, Deliver, Drop, Recover, Slow, Restart, Fail, Drain}
use Rattle.acc_schedule_runs.specs.Situations.{Situation, receiver_in}
use Rattle.acc_schedule_runs.specs.Moves.{Answers, is_journalled, tried_if, tried, stepped_unless, begin_skip, recover_skip, slowing_skip, deliver_skip, kept_if, reopened, restarted_if, Drains, stops as ends, delivers as takes, IsNext}
use Rattle.acc_schedule_runs.specs.Schedules.{Follows, cluster_of, Obeys}
use Rattle.acc_schedule_runs.specs.Laws.{AgreeBelow}
use Rattle.acc_schedule_runs.proofs.Answered.{tried_length, next_grows, next_same}
use Rattle.acc_schedule_runs.specs.Disks.{step_answers, restart_answers}
use Rattle.acc_schedule_runs.specs.StrictMoves.{StrictSituation, tried_strictly, stepped_strictly, restarted_strictly, opened_strictly, StrictDrains, stops, delivers, IsStrictNext}
use Rattle.acc_schedule_runs.specs.StrictSchedules.{FollowsStrictly, ObeysStrictly}
use Rattle.acc_schedule_runs.specs.StrictLaws.{no_faults}

-- ---- answers one after the other

-- the first ones below a place, and the others from there on
abbrev pub behind : ℕ → Answers → Answers → Answers
behind count answers other =
    record {
      fails = λ place. cond (nat_lt place count) (answers.fails place) (other.fails place);
      keeps = λ place. cond (nat_lt place count) (answers.keeps place) (other.keeps place);
    }

is_below : {n k : ℕ} → n < k → nat_lt n k ≡ true
is_below less = grind (arith, nat_tests)

not_itself : (n : ℕ) → nat_lt n n ≡ false
not_itself n = grind (arith, nat_tests)

below_most : {p n k : ℕ} → p < n → n ≤ k → p < k
below_most h k = omega arith

pub agree_behind : (count : ℕ) (answers other : Answers) → AgreeBelow answers (behind count answers other) count
agree_behind count answers other = λ place less. (
  sym (ap (λ b. cond b (answers.fails place) (other.fails place)) (is_below less)),
  sym (ap (λ b. cond b (answers.keeps place) (other.keeps place)) (is_below less)),
)

pub fails_behind : (count : ℕ) (answers other : Answers) → (behind count answers other).fails count ≡ other.fails count
fails_behind count answers other = ap (λ b. cond b (answers.fails count) (other.fails count)) (not_itself count)

keeps_behind : (count : ℕ) (answers other : Answers) → (behind count answers other).keeps count ≡ other.keeps count
keeps_behind count answers other = ap (λ b. cond b (answers.keeps count) (other.keeps count)) (not_itself count)

pub agree_on : (one two three : Answers) (n k : ℕ) → n ≤ k → AgreeBelow one two n → AgreeBelow two three k → AgreeBelow one three n
agree_on one two three n k less a b = λ place low.
    let here = a place low in
    let there = b place (below_most low less) in
    (here.0 ∙ there.0, here.1 ∙ there.1)

module _ (cluster : Cluster) where
  -- ---- a step of an actor reads one answer

  pub tried_with : (one other : Answers) (s : Situation) (a : Actor) (event : Event) → one.fails (length s.own) ≡ other.fails (length s.own)
      → tried cluster one s a event ≡ tried cluster other s a event
  tried_with one other s a event same = ap (λ b. tried_if (is_journalled a event && b) cluster s a event) same

  stepped_with : (before : Answers) (number : ℕ) (s : StrictSituation) (a : Actor) (event : Event) (skip : Option Skip)
      → (stepped_strictly skip cluster number s a event).found
      ≡ stepped_unless skip cluster (behind (length s.found.own) before (step_answers s.disks a)) number s.found a event
  stepped_with before number s a event (Some cause) = refl
  stepped_with before number s a event None =
      tried_with (step_answers s.disks a) (behind (length s.found.own) before (step_answers s.disks a)) s.found a event
      (sym (fails_behind (length s.found.own) before (step_answers s.disks a)))

  restarted_with : (before : Answers) (s : StrictSituation) (a : Actor) (choice : ℕ)
      → (restarted_strictly cluster s a choice).found
      ≡ restarted_if ((behind (length s.found.own) before (restart_answers s.disks a choice)).fails (length s.found.own)) cluster
      (behind (length s.found.own) before (restart_answers s.disks a choice)) s.found a
  restarted_with before s a choice =
      let now : Answers = restart_answers s.disks a choice in
      let n : ℕ = length s.found.own in
      ap (λ keeps. reopened cluster s.found a (kept_if keeps a s.found)) (sym (keeps_behind n before now))
      ∙ ap (λ fails. restarted_if fails cluster (behind n before now) s.found a) (sym (fails_behind n before now))

  -- ---- a drain

  drained_answered : (last : StrictSituation) (before : Answers) (s : StrictSituation) → StrictDrains cluster last s
      → (answers : Answers) × AgreeBelow before answers (length s.found.own) × Drains cluster answers last.found s.found
  drained_answered last before s (stops _ none is) = (before, λ place low. (refl, refl), ends s.found none (ap (λ (t : StrictSituation). t.found) is))
  drained_answered last before s (delivers _ n oldest rest) =
      let a : Actor = receiver_in s.found n in
      let now : Answers = step_answers s.disks a in
      let count : ℕ = length s.found.own in
      let first : Answers = behind count before now in
      let more = drained_answered last first (tried_strictly cluster s a (MessageEvent n)) rest in
      let adds : length (tried cluster now s.found a (MessageEvent n)).own ≡ suc count = tried_length cluster now s.found a (MessageEvent n) in
      let here = more.1 count (next_below adds) in (
        more.0,
        agree_on before first more.0 count (length (tried cluster now s.found a (MessageEvent n)).own) (next_most adds)
            (agree_behind count before now) more.1,
        takes s.found n oldest
            (subst (Drains cluster more.0 last.found)
            (tried_with now more.0 s.found a (MessageEvent n) (sym (fails_behind count before now) ∙ here.0)) more.2),
      )
    where
      next_below : {n k : ℕ} → k ≡ suc n → n < k
      next_below h = omega arith

      next_most : {n k : ℕ} → k ≡ suc n → n ≤ k
      next_most h = omega arith

  -- ---- each step

  module _ (before : Answers) (number : ℕ) (s next : StrictSituation) where
    of_step : (a : Actor) (event : Event) (skip : Option Skip) → next ≡ stepped_strictly skip cluster number s a event
        → (answers : Answers) × AgreeBelow before answers (length s.found.own)
        × (next.found ≡ stepped_unless skip cluster answers number s.found a event)
    of_step a event skip is = (
      behind (length s.found.own) before (step_answers s.disks a),
      agree_behind (length s.found.own) before (step_answers s.disks a),
      ap (λ (t : StrictSituation). t.found) is ∙ stepped_with before number s a event skip,
    )

    pub next_answered : (step : Step) → IsStrictNext cluster number step s next
        → (answers : Answers) × AgreeBelow before answers (length s.found.own) × IsNext cluster answers number step s.found next.found
    next_answered (Begin txn) is = of_step (home_of_txn cluster txn) (BeginEvent txn) (begin_skip cluster s.found txn) is
    next_answered (Deliver message) is = of_step (receiver_in s.found message) (MessageEvent message) (deliver_skip s.found message) is
    next_answered (Drop message) is = (before, λ place low. (refl, refl), ap (λ (t : StrictSituation). t.found) is)
    next_answered (Recover txn node) is = of_step (actor_of node 0) (RecoverEvent txn) (recover_skip s.found txn node) is
    next_answered (Slow txn) is = of_step (home_of_txn cluster txn) (SlowEvent txn) (slowing_skip cluster s.found txn) is
    next_answered (Restart actor choice) is = (
      behind (length s.found.own) before (restart_answers s.disks actor choice),
      agree_behind (length s.found.own) before (restart_answers s.disks actor choice),
      ap (λ (t : StrictSituation). t.found) is ∙ restarted_with before s actor choice,
    )
    next_answered (Fail actor calls) is = (before, λ place low. (refl, refl), ap (λ (t : StrictSituation). t.found) is)
    next_answered Drain drains = drained_answered next before s drains

  -- ---- all steps

  follows_answered : (before : Answers) (number : ℕ) (steps : List Step) (s last : StrictSituation) → FollowsStrictly cluster number steps s last
      → (answers : Answers) × AgreeBelow before answers (length s.found.own) × Follows cluster answers number steps s.found last.found
  follows_answered before number [] s last is = (before, λ place low. (refl, refl), ap (λ (t : StrictSituation). t.found) is)
  follows_answered before number (step ∷ steps) s last follows =
      let next : StrictSituation = follows.0 in
      let one = next_answered before number s next step follows.1 in
      let more = follows_answered one.0 (number + 1) steps next last follows.2 in (
        more.0,
        agree_on before one.0 more.0 (length s.found.own) (length next.found.own)
            (next_grows cluster one.0 number step s.found next.found one.2) one.1 more.1,
        (next.found, next_same cluster one.0 more.0 number step s.found next.found more.1 one.2, more.2),
      )

pub some_answers : (cluster : Cluster) (number : ℕ) (steps : List Step) (s last : StrictSituation) → FollowsStrictly cluster number steps s last
    → (answers : Answers) × Follows cluster answers number steps s.found last.found
some_answers cluster number steps s last follows =
    let found = follows_answered cluster no_faults number steps s last follows in (found.0, found.2)

pub obeys_with_some : (plan : Content) (items : List Item) → ObeysStrictly plan items → (answers : Answers) × Obeys plan answers items
obeys_with_some plan items obeys =
    let found = some_answers (cluster_of plan) 0 plan.steps (opened_strictly []) obeys.last obeys.follows in
    (found.0, record { last = obeys.last.found; follows = found.1; items_are = obeys.items_are })
