-- Begins and drains that end with a drain leave nothing waiting.
use Rattle.std.proofs.Common.{◌≡◌, ℕ, ◌+◌, ◌<◌, nat_lt, cond, Bool, true, false, not, ◌&&◌, ◌||◌, List, [], ◌∷◌, length, Option, None, Some, refl, sym, ◌∙◌, ap, subst, arith}
use Rattle.std.specs.List.{list_all, list_any}
use Rattle.std.proofs.lemmas.Bool.{true≢false, and_from, and_parts, not-true}
use Rattle.std.proofs.lemmas.Bool.Decides.{nat_tests}
use Rattle.acc_stamp.specs.declared.actors.Actor.{Actor}
use Rattle.acc_topology.specs.Sets.{is_among}
use Rattle.acc_message.specs.declared.entry.Event.{Event}
use Rattle.acc_message.specs.declared.entry.Event.TheVariants.{Begin as BeginEvent, Message as MessageEvent}
use Rattle.acc_message.specs.declared.item.Skip.{Skip}
use Rattle.acc_message.specs.declared.item.Item.{Item}
use Rattle.acc_message.specs.declared.item.Item.TheVariants.{Step as StepItem, Skipped, Down}
use Rattle.acc_message.specs.Items.{sent_of, same_actor}
use Rattle.acc_message.specs.Run.{Cluster, is_down}
use Rattle.acc_safety.specs.Calm.{is_calm_item, is_calm_event, item_takes, IsCalm}
use Rattle.acc_run_laws.specs.Asks.{home_of_txn}
use Rattle.acc_run_laws.specs.AskLaws.{is_no_down}
use Rattle.acc_schedule.specs.Content.{Content}
use Rattle.acc_schedule.specs.declared.plan.Step.{Step}
use Rattle.acc_schedule.specs.declared.plan.Step.TheVariants.{Begin, Deliver, Drop, Recover, Slow, Restart, Fail, Drain}
use Rattle.acc_schedule_runs.specs.Situations.{Situation, opened, whole, is_lost, is_sent_lost, receiver_in, NothingWaits}
use Rattle.acc_schedule_runs.specs.Moves.{Answers, with_item, entry_of, tried, stepped_unless, begin_skip, Drains, stops, delivers, IsNext}
use Rattle.acc_schedule_runs.specs.Schedules.{Follows, cluster_of, Obeys}
use Rattle.acc_schedule_runs.specs.Laws.{NeverFails, NothingIsLost, IsCalmStep, EndsWithDrain}
use Rattle.acc_schedule_runs.proofs.NobodyDown.{Clean, tried_is_entered, clean_last, clean_opened}

-- ---- what calm steps keep

-- nothing was dropped, and each own item is a calm one
record Quiet (s : Situation) : Type 0 where
  undropped : s.dropped ≡ []
  events : list_all is_calm_item s.own ≡ true

quiet_item : (s : Situation) (item : Item) → is_calm_item item ≡ true → Quiet s → Quiet (with_item item s)
quiet_item s item calm h = record { undropped = h.undropped; events = and_from (is_calm_item item) _ calm h.events }

module _ (cluster : Cluster) (answers : Answers) (never : NeverFails answers) where
  quiet_tried : (s : Situation) (a : Actor) (event : Event) → is_calm_event event ≡ true → Quiet s → Quiet (tried cluster answers s a event)
  quiet_tried s a event calm h =
      subst Quiet (sym (tried_is_entered cluster answers never s a event)) (quiet_item s (entry_of cluster s a event false) calm h)

  quiet_begun : (skip : Option Skip) (number : ℕ) (s : Situation) (a : Actor) (txn : ℕ) → Quiet s
      → Quiet (stepped_unless skip cluster answers number s a (BeginEvent txn))
  quiet_begun (Some cause) number s a txn h = quiet_item s (Skipped number cause) refl h
  quiet_begun None number s a txn h = quiet_tried s a (BeginEvent txn) refl h

  quiet_drained : (last s : Situation) → Drains cluster answers last s → Quiet s → Quiet last
  quiet_drained last s (stops _ none is) h = subst Quiet (sym is) h
  quiet_drained last s (delivers _ n oldest rest) h =
      quiet_drained last (tried cluster answers s (receiver_in s n) (MessageEvent n)) rest (quiet_tried s (receiver_in s n) (MessageEvent n) refl h)

  quiet_next : (number : ℕ) (step : Step) (s next : Situation) → IsCalmStep step → IsNext cluster answers number step s next → Quiet s → Quiet next
  quiet_next number (Begin txn) s next calm is h =
      subst Quiet (sym is) (quiet_begun (begin_skip cluster s txn) number s (home_of_txn cluster txn) txn h)
  quiet_next number Drain s next calm drains h = quiet_drained next s drains h
  quiet_next number (Deliver message) s next calm is h = absurd calm
  quiet_next number (Drop message) s next calm is h = absurd calm
  quiet_next number (Recover txn node) s next calm is h = absurd calm
  quiet_next number (Slow txn) s next calm is h = absurd calm
  quiet_next number (Restart actor choice) s next calm is h = absurd calm
  quiet_next number (Fail actor calls) s next calm is h = absurd calm

  -- ---- the last drain

  nothing_left : (last s : Situation) → Drains cluster answers last s → NothingWaits last
  nothing_left last s (stops _ none is) = subst NothingWaits (sym is) none
  nothing_left last s (delivers _ n oldest rest) = nothing_left last (tried cluster answers s (receiver_in s n) (MessageEvent n)) rest

  at_the_end : (number : ℕ) (steps : List Step) (s last : Situation) → EndsWithDrain steps → Follows cluster answers number steps s last
      → Quiet s → Quiet last × NothingWaits last
  at_the_end number [] s last ends follows h = absurd ends
  at_the_end number (step ∷ []) s last ends follows h =
      let drains : Drains cluster answers follows.0 s = subst (λ t. IsNext cluster answers number t s follows.0) ends follows.1 in
      subst (λ t. Quiet t × NothingWaits t) (sym follows.2) (quiet_drained follows.0 s drains h, nothing_left follows.0 s drains)
  at_the_end number (step ∷ other ∷ steps) s last ends follows h =
      at_the_end (number + 1) (other ∷ steps) follows.0 last ends.1 follows.2 (quiet_next number step s follows.0 ends.0 follows.1 h)

-- ---- then each message was taken

nobody_down : (items : List Item) (a : Actor) → list_all is_no_down items ≡ true → is_down a items ≡ false
nobody_down [] a h = refl
nobody_down (StepItem e ∷ earlier) a h = ap (λ b. b && (not (same_actor e.actor a) || e.lost)) (nobody_down earlier a h)
nobody_down (Skipped step cause ∷ earlier) a h = nobody_down earlier a h
nobody_down (Down actor ∷ earlier) a h = absurd (true≢false (sym h))

none_sent_lost : (items : List Item) (number : ℕ) → NothingIsLost items → is_sent_lost items number ≡ false
none_sent_lost [] number h = refl
none_sent_lost (item ∷ earlier) number h =
    let parts = and_parts (not (is_lost item)) (list_all (λ i. not (is_lost i)) earlier) h in
    both (nat_lt number (length (sent_of earlier))) _ _ (none_sent_lost earlier number parts.1) (not-true (is_lost item) parts.0)
  where
    both : (test one other : Bool) → one ≡ false → other ≡ false → cond test one other ≡ false
    both true one other h k = h
    both false one other h k = k

taken_of : (sent taken lost down : Bool) → sent ≡ true → lost ≡ false → down ≡ false → (sent && (not (taken || lost) && not down)) ≡ false → taken ≡ true
taken_of true true lost down a b c h = refl
taken_of true false true down a b c h = absurd (true≢false b)
taken_of true false false true a b c h = absurd (true≢false c)
taken_of true false false false a b c h = absurd (true≢false h)
taken_of false taken lost down a b c h = absurd (true≢false (sym a))

calm_of : (s : Situation) → Clean s → Quiet s → NothingWaits s → IsCalm s.own
calm_of s clean quiet none =
    record {
      events = quiet.events;
      taken = λ number less.
          taken_of (nat_lt number (length (sent_of s.own))) (list_any (item_takes number) s.own)
          (is_among s.dropped number || is_sent_lost s.own number) (is_down (receiver_in s number) (whole s))
          (test less) (ap (λ d. is_among d number || is_sent_lost s.own number) quiet.undropped ∙ none_sent_lost s.own number clean.unlost)
          (nobody_down (whole s) (receiver_in s number) clean.no_downs) (none number);
    }
  where
    test : {n k : ℕ} → n < k → nat_lt n k ≡ true
    test h = grind (arith, nat_tests)

pub drains_leave_nothing : (plan : Content) (answers : Answers) (items : List Item) → NeverFails answers → EndsWithDrain plan.steps
    → Obeys plan answers items → IsCalm items
drains_leave_nothing plan answers items never ends obeys =
    let cluster : Cluster = cluster_of plan in
    let clean : Clean obeys.last = clean_last cluster answers never 0 plan.steps (opened []) obeys.last obeys.follows (clean_opened [] refl) in
    let end = at_the_end cluster answers never 0 plan.steps (opened []) obeys.last ends obeys.follows (record { undropped = refl; events = refl }) in
    subst IsCalm (sym obeys.items_are) (calm_of obeys.last clean end.0 end.1)
