-- The actors, the steps and the numbers that the items of a plan's run name, besides those of their notes.
use Rattle.std.proofs.Common.{◌≡◌, ℕ, ◌+◌, ◌<◌, ◌≤◌, ◌^◌, nat_lt, cond, Bool, true, false, not, ◌&&◌, IsTrue, List, [], ◌∷◌, length, map, filter, Option, None, Some, unwrap_or, refl, sym, subst, ⊎_elim, arith}
use Rattle.std.specs.Prelude.{IfSome}
use Rattle.std.specs.List.{slice_get, AllByRecursion}
use Rattle.std.proofs.lemmas.Bool.{true≢false, and_parts, ltb-true}
use Rattle.std.proofs.lemmas.Option.{slice_get_cases}
use Rattle.acc_base.specs.Faults.{or_else}
use Rattle.acc_stamp.specs.declared.stamps.TxnId.{TxnId}
use Rattle.acc_stamp.specs.declared.actors.Actor.{Actor}
use Rattle.acc_stamp.specs.Actor.{actor_of}
use Rattle.acc_stamp.specs.Stamp.{ballot_eq, zero_ballot}
use Rattle.acc_stamp.proofs.Rising.{each_filter}
use Rattle.acc_topology.specs.Sets.{is_among}
use Rattle.acc_message.specs.declared.entry.Event.{Event}
use Rattle.acc_message.specs.declared.entry.Event.TheVariants.{Begin as BeginEvent, Recover as RecoverEvent, Slow as SlowEvent, Message as MessageEvent, Restart as RestartEvent}
use Rattle.acc_message.specs.declared.item.Skip.{Skip}
use Rattle.acc_message.specs.declared.item.Skip.TheVariants.{NoMessage, Down as IsDown, Begun, Unknown, NoQuorum}
use Rattle.acc_message.specs.declared.item.Item.{Item}
use Rattle.acc_message.specs.declared.item.Item.TheVariants.{Skipped, Down}
use Rattle.acc_message.specs.Items.{same_actor, sent_of, is_begun, id_of_txn}
use Rattle.acc_message.specs.Attempts.{Attempt, Phase, Voting, Recovering, Accepting, Committing, Executing, majority_everywhere}
use Rattle.acc_message.specs.Run.{Cluster, is_down, is_restart_event, attempt_at}
use Rattle.acc_run_laws.specs.Asks.{home_of_txn, receiver, skip_if, slow_skip_in, slow_skip_at, slow_skip}
use Rattle.acc_safety.specs.Places.{IsPast, Whole, Behind}
use Rattle.acc_safety.specs.Valid.{IsStanding}
use Rattle.acc_safety.proofs.Bridge.{EachStands-past}
use Rattle.acc_safety.proofs.PlaceOrder.{IsPast-trans, Contains-IsIn}
use Rattle.acc_run_laws.proofs.RunBounds.{get_each}
use Rattle.acc_run_laws.proofs.Unions.{or_else_if}
use Rattle.acc_run_laws.proofs.Layouts.{node_is}
use Rattle.acc_run_laws.proofs.ReceiverFacts.{routed}
use Rattle.acc_schedule.specs.Actors.{actors}
use Rattle.acc_schedule.specs.Content.{Content}
use Rattle.acc_schedule.specs.Plan.{IsPlan, IsStep}
use Rattle.acc_schedule.specs.declared.plan.Step.{Step}
use Rattle.acc_schedule.specs.declared.plan.Step.TheVariants.{Begin, Deliver, Drop, Recover, Slow, Restart, Fail, Drain}
use Rattle.acc_schedule_runs.specs.Situations.{Stopped, Situation, whole, receiver_in, stopped_at, without}
use Rattle.acc_schedule_runs.specs.Moves.{Answers, fails_in, is_journalled, tried_if, tried, stepped_unless, down_skip, begin_skip, recover_skip, slowing_skip, message_skip, deliver_skip, dropped_unless, kept_if, entered, entered_all, with_kept, reopened, restarted_if, Drains, stops, delivers, IsNext}
use Rattle.acc_schedule_runs.specs.Schedules.{Follows, cluster_of}
use Rattle.acc_schedule_runs.proofs.OneStop.{StopsOne, one_stopped, one_reopened}
use Rattle.acc_report_line.specs.Forms.{IsActor, IsCount}
use Rattle.acc_report_laws.specs.Fits.{SkipFits, EventFits, PartsFit}
use Rattle.acc_report_laws.specs.Numbers.{NumbersMessage}
use Rattle.acc_report_laws.proofs.Actors.{actor_formed}
use Rattle.acc_report_laws.proofs.Sent.{sent_before}

-- ---- events

abbrev IsPlain : List Event → Type 0
IsPlain events = AllByRecursion (λ (event : Event). is_restart_event event ≡ false) events

plain_event : (a : Actor) (event : Event) → is_restart_event event ≡ false → EventFits a event
plain_event a (BeginEvent txn) h = tt
plain_event a (RecoverEvent txn) h = tt
plain_event a (SlowEvent txn) h = tt
plain_event a (MessageEvent number) h = tt
plain_event a (RestartEvent kept) h = absurd (true≢false h)

abbrev ArePlain : List Stopped → Type 0
ArePlain stopped = AllByRecursion (λ (one : Stopped). is_restart_event one.event ≡ false) stopped

stopped_plain : (a : Actor) (stopped : List Stopped) → ArePlain stopped → IsPlain (stopped_at a stopped)
stopped_plain a [] h = tt
stopped_plain a (one ∷ others) h = by (same_actor one.actor a) (stopped_plain a others h.1)
  where
    mine : List Stopped
    mine = filter (λ (other : Stopped). same_actor other.actor a) others

    by : (same : Bool) → IsPlain (stopped_at a others) → IsPlain (map (λ (other : Stopped). other.event) (cond same (one ∷ mine) mine))
    by true rest = (h.0, rest)
    by false rest = rest

kept_plain : (b : Bool) (a : Actor) (s : Situation) → ArePlain s.stopped → IsPlain (kept_if b a s)
kept_plain true a s h = stopped_plain a s.stopped h
kept_plain false a s h = tt

kept_few : (b : Bool) (a : Actor) (s : Situation) → StopsOne s → IsCount (length (kept_if b a s))
kept_few true a s one = short (one a)
  where
    short : {n : ℕ} → n ≤ 1 → n < 2 ^ 64
    short h = omega arith
kept_few false a s one = omega arith

-- ---- what grows

one_more : (item : Item) (own : List Item) → IsPast own (item ∷ own)
one_more item own = Behind item own own (Whole own)

module _ (cluster : Cluster) (answers : Answers) where
  tried_grows : (s : Situation) (a : Actor) (event : Event) → IsPast s.own (tried cluster answers s a event).own
  tried_grows s a event = by (is_journalled a event && fails_in answers s)
    where
      by : (b : Bool) → IsPast s.own (tried_if b cluster s a event).own
      by true = one_more _ s.own
      by false = one_more _ s.own

  stepped_grows : (o : Option Skip) (number : ℕ) (s : Situation) (a : Actor) (event : Event) → IsPast s.own (stepped_unless o cluster answers number s a event).own
  stepped_grows (Some cause) number s a event = one_more _ s.own
  stepped_grows None number s a event = tried_grows s a event

  dropped_grows : (o : Option Skip) (number : ℕ) (s : Situation) (message : ℕ) → IsPast s.own (dropped_unless o number s message).own
  dropped_grows (Some cause) number s message = one_more _ s.own
  dropped_grows None number s message = Whole s.own

  all_grow : (s : Situation) (a : Actor) (events : List Event) → IsPast s.own (entered_all cluster s a events true).own
  all_grow s a [] = Whole s.own
  all_grow s a (event ∷ events) =
      let next : Situation = entered cluster s a event true in
      IsPast-trans s.own next.own (entered_all cluster next a events true).own (one_more _ s.own) (all_grow next a events)

  restarted_grows : (b : Bool) (s : Situation) (a : Actor) → IsPast s.own (restarted_if b cluster answers s a).own
  restarted_grows true s a = one_more _ s.own
  restarted_grows false s a = Behind _ s.own _ (all_grow s a (kept_if (answers.keeps (length s.own)) a s))

  drains_grow : (last s : Situation) → Drains cluster answers last s → IsPast s.own last.own
  drains_grow last s (stops _ none is) = subst (λ (t : Situation). IsPast s.own t.own) (sym is) (Whole s.own)
  drains_grow last s (delivers _ n oldest rest) =
      let next = tried cluster answers s (receiver_in s n) (MessageEvent n) in
      IsPast-trans s.own next.own last.own (tried_grows s (receiver_in s n) (MessageEvent n)) (drains_grow last next rest)

  next_grows : (number : ℕ) (step : Step) (s next : Situation) → IsNext cluster answers number step s next → IsPast s.own next.own
  next_grows number (Begin txn) s next is = subst (λ (t : Situation). IsPast s.own t.own) (sym is) (stepped_grows (begin_skip cluster s txn) number s (home_of_txn cluster txn) (BeginEvent txn))
  next_grows number (Deliver message) s next is = subst (λ (t : Situation). IsPast s.own t.own) (sym is) (stepped_grows (deliver_skip s message) number s (receiver_in s message) (MessageEvent message))
  next_grows number (Drop message) s next is = subst (λ (t : Situation). IsPast s.own t.own) (sym is) (dropped_grows (message_skip s message) number s message)
  next_grows number (Recover txn node) s next is = subst (λ (t : Situation). IsPast s.own t.own) (sym is) (stepped_grows (recover_skip s txn node) number s (actor_of node 0) (RecoverEvent txn))
  next_grows number (Slow txn) s next is = subst (λ (t : Situation). IsPast s.own t.own) (sym is) (stepped_grows (slowing_skip cluster s txn) number s (home_of_txn cluster txn) (SlowEvent txn))
  next_grows number (Restart actor choice) s next is = subst (λ (t : Situation). IsPast s.own t.own) (sym is) (restarted_grows (fails_in answers s) s actor)
  next_grows number (Fail actor calls) s next is = subst (λ (t : Situation). IsPast s.own t.own) (sym is) (Whole s.own)
  next_grows number Drain s next drains = drains_grow next s drains

  pub follows_grow : (number : ℕ) (steps : List Step) (s last : Situation) → Follows cluster answers number steps s last → IsPast s.own last.own
  follows_grow number [] s last is = subst (λ (t : Situation). IsPast s.own t.own) (sym is) (Whole s.own)
  follows_grow number (step ∷ steps) s last follows =
      IsPast-trans s.own follows.0.own last.own (next_grows number step s follows.0 follows.1) (follows_grow (number + 1) steps follows.0 last follows.2)

-- ---- what a situation has

there_is : {X : Type 0} (xs : List X) (i : ℕ) → i < length xs → (x : X) × (slice_get xs i ≡ Some x)
there_is xs i less = ⊎_elim (λ found. (found.0, found.2)) (λ past. absurd (beyond less past.0)) (slice_get_cases xs i).1
  where
    beyond : {n k : ℕ} → n < k → k ≤ n → ⊥
    beyond p q = omega arith

pub record Placed (names : List (List ℕ)) (s : Situation) : Type 0 where
  pub items : AllByRecursion (PartsFit names) s.own
  pub stopped : ArePlain s.stopped
  pub one : StopsOne s

module _ (plan : Content) (answers : Answers) (h : IsPlan plan) (last : List Item) (standing : IsStanding (cluster_of plan) last) (few : length (sent_of last) < 2 ^ 64) where
  abbrev cluster : Cluster
  cluster = cluster_of plan

  abbrev IsFine : Situation → Type 0
  IsFine s = Placed plan.names s

  -- ---- actors

  node_placed : (node : ℕ) → IsTrue (is_among plan.topology.nodes node) → IsActor (actor_of node 0)
  node_placed node there = actor_formed plan.topology h.layout (actor_of node 0) (node_is plan.topology node there)

  home_placed : (txn : ℕ) → txn < length plan.names → IsActor (home_of_txn cluster txn)
  home_placed txn less =
      let home = there_is plan.homes txn (subst (λ n. txn < n) (sym h.homes_as_many) less) in
      subst (λ (o : Option ℕ). IsActor (actor_of (unwrap_or o 0) 0)) (sym home.1)
      (node_placed home.0 (get_each (λ node. IsTrue (is_among plan.topology.nodes node)) plan.homes txn home.0 h.homes_known home.1))

  receiver_placed : (s : Situation) (n : ℕ) → IsPast s.own last → nat_lt n (length (sent_of s.own)) ≡ true → IsActor (receiver_in s n)
  receiver_placed s n before sent =
      let m = there_is (sent_of s.own) n (less sent) in
      subst (λ o. IsActor (receiver o)) (sym m.1)
      (actor_formed plan.topology h.layout _
      (routed cluster s.own n m.0 (record { valid = standing.valid; stands = EachStands-past cluster s.own last before standing.stands }) m.1).to)
    where
      less : {n k : ℕ} → nat_lt n k ≡ true → n < k
      less h = ltb-true _ _ h

  sent_count : (s : Situation) → IsPast s.own last → IsCount (length (sent_of s.own))
  sent_count s before = omega (arith, few, sent_before s.own last before)

  -- ---- skips

  abbrev SkipsFine : Option Skip → Type 0
  SkipsFine o = IfSome o (SkipFits plan.names)

  down_fine : (s : Situation) (a : Actor) → IsActor a → SkipsFine (down_skip s a)
  down_fine s a actor = by (is_down a (whole s))
    where
      by : (b : Bool) → SkipsFine (skip_if b (IsDown a))
      by true = actor
      by false = tt

  if_fine : (b : Bool) (cause : Skip) → SkipFits plan.names cause → SkipsFine (skip_if b cause)
  if_fine true cause fits = fits
  if_fine false cause fits = tt

  both_fine : (o also : Option Skip) → SkipsFine o → SkipsFine also → SkipsFine (or_else o also)
  both_fine o also one other = or_else_if (SkipFits plan.names) o also one other

  slow_in_fine : (txn : ℕ) (x : TxnId) (a : Attempt) (phase : Phase) → txn < length plan.names → SkipsFine (slow_skip_in plan.topology txn x a phase)
  slow_in_fine txn x a Voting less = by (ballot_eq a.ballot zero_ballot)
    where
      by : (b : Bool) → SkipsFine (cond b (skip_if (not (majority_everywhere plan.topology x a.body a.answers)) (NoQuorum txn)) (Some (Unknown txn)))
      by true = if_fine _ (NoQuorum txn) less
      by false = less
  slow_in_fine txn x a Recovering less = less
  slow_in_fine txn x a (Accepting s) less = less
  slow_in_fine txn x a (Committing s) less = less
  slow_in_fine txn x a (Executing s) less = less

  slow_at_fine : (txn : ℕ) (x : TxnId) (o : Option Attempt) → txn < length plan.names → SkipsFine (slow_skip_at plan.topology txn x o)
  slow_at_fine txn x None less = less
  slow_at_fine txn x (Some a) less = slow_in_fine txn x a a.phase less

  slow_fine : (items : List Item) (txn : ℕ) (o : Option TxnId) → txn < length plan.names → SkipsFine (slow_skip cluster items txn o)
  slow_fine items txn None less = less
  slow_fine items txn (Some x) less = slow_at_fine txn x (attempt_at cluster items (home_of_txn cluster txn) x) less

  no_message_fine : (s : Situation) (message : ℕ) → IsPast s.own last → IsCount message → SkipsFine (message_skip s message)
  no_message_fine s message before count = if_fine _ (NoMessage message (length (sent_of s.own))) (count, sent_count s before)

  -- ---- steps

  tried_placed : (s : Situation) (a : Actor) (event : Event) → IsActor a → is_restart_event event ≡ false → IsFine s → IsFine (tried cluster answers s a event)
  tried_placed s a event actor plain fine = by (is_journalled a event && fails_in answers s)
    where
      by : (b : Bool) → IsFine (tried_if b cluster s a event)
      by true =
          record {
            items = (actor, fine.items);
            stopped = (plain, each_filter (λ (one : Stopped). is_restart_event one.event ≡ false) _ s.stopped fine.stopped);
            one = one_stopped s a event fine.one;
          }
      by false = record { items = (plain_event a event plain, fine.items); stopped = fine.stopped; one = fine.one }

  stepped_placed : (o : Option Skip) (number : ℕ) (s : Situation) (a : Actor) (event : Event) → SkipsFine o → IsCount number
      → (o ≡ None → IsActor a) → is_restart_event event ≡ false → IsFine s → IsFine (stepped_unless o cluster answers number s a event)
  stepped_placed (Some cause) number s a event skip count actor plain fine = record { items = ((count, skip), fine.items); stopped = fine.stopped; one = fine.one }
  stepped_placed None number s a event skip count actor plain fine = tried_placed s a event (actor refl) plain fine

  dropped_placed : (o : Option Skip) (number : ℕ) (s : Situation) (message : ℕ) → SkipsFine o → IsCount number → IsFine s → IsFine (dropped_unless o number s message)
  dropped_placed (Some cause) number s message skip count fine = record { items = ((count, skip), fine.items); stopped = fine.stopped; one = fine.one }
  dropped_placed None number s message skip count fine = record { items = fine.items; stopped = fine.stopped; one = fine.one }

  all_placed : (s : Situation) (a : Actor) (events : List Event) → IsPlain events → AllByRecursion (PartsFit plan.names) s.own
      → AllByRecursion (PartsFit plan.names) (entered_all cluster s a events true).own
  all_placed s a [] plain items = items
  all_placed s a (event ∷ events) plain items =
      all_placed (entered cluster s a event true) a events plain.1 (plain_event a event plain.0, items)

  restarted_placed : (b : Bool) (s : Situation) (a : Actor) → IsActor a → IsFine s → IsFine (restarted_if b cluster answers s a)
  restarted_placed true s a actor fine = record { items = (actor, fine.items); stopped = fine.stopped; one = fine.one }
  restarted_placed false s a actor fine =
      record {
        items = ((actor, kept_few keeps a s fine.one), all_placed s a (kept_if keeps a s) (kept_plain keeps a s fine.stopped) fine.items);
        stopped = each_filter (λ (one : Stopped). is_restart_event one.event ≡ false) _ s.stopped fine.stopped;
        one = one_reopened cluster s a (kept_if keeps a s) fine.one;
      }
    where
      keeps : Bool
      keeps = answers.keeps (length s.own)

  drained_placed : (next s : Situation) → IsPast next.own last → Drains cluster answers next s → IsFine s → IsFine next
  drained_placed next s before (stops _ none is) fine = subst IsFine (sym is) fine
  drained_placed next s before (delivers _ n oldest rest) fine =
      let more = tried cluster answers s (receiver_in s n) (MessageEvent n) in
      let past : IsPast s.own last =
      IsPast-trans s.own more.own last (tried_grows cluster answers s (receiver_in s n) (MessageEvent n))
      (IsPast-trans more.own next.own last (drains_grow cluster answers next more rest) before) in
      drained_placed next more before rest
      (tried_placed s (receiver_in s n) (MessageEvent n)
      (receiver_placed s n past (and_parts (nat_lt n (length (sent_of s.own))) _ oldest.0).0) refl fine)

  -- a message that isn't passed over was sent
  sent_unless : (s : Situation) (message : ℕ) → deliver_skip s message ≡ None → nat_lt message (length (sent_of s.own)) ≡ true
  sent_unless s message none = by (nat_lt message (length (sent_of s.own))) refl none
    where
      some_none : Some (NoMessage message (length (sent_of s.own))) ≡ None → ⊥
      some_none e = cc

      by : (b : Bool) → nat_lt message (length (sent_of s.own)) ≡ b
          → or_else (skip_if (not b) (NoMessage message (length (sent_of s.own)))) (down_skip s (receiver_in s message)) ≡ None → b ≡ true
      by true is e = refl
      by false is e = absurd (some_none e)

  deliver_fine : (s : Situation) (message : ℕ) → IsPast s.own last → IsCount message → SkipsFine (deliver_skip s message)
  deliver_fine s message before count = by (nat_lt message (length (sent_of s.own))) refl
    where
      by : (b : Bool) → nat_lt message (length (sent_of s.own)) ≡ b
          → SkipsFine (or_else (skip_if (not b) (NoMessage message (length (sent_of s.own)))) (down_skip s (receiver_in s message)))
      by true is = down_fine s (receiver_in s message) (receiver_placed s message before is)
      by false is = (count, sent_count s before)

  next_placed : (number : ℕ) (step : Step) (s next : Situation) → IsStep (length plan.names) plan.topology step → NumbersMessage step → IsCount number
      → IsPast s.own last → IsPast next.own last → IsNext cluster answers number step s next → IsFine s → IsFine next
  next_placed number (Begin txn) s next of numbers count before after is fine =
      subst IsFine (sym is)
      (stepped_placed (begin_skip cluster s txn) number s (home_of_txn cluster txn) (BeginEvent txn)
      (both_fine (down_skip s (home_of_txn cluster txn)) _ (down_fine s (home_of_txn cluster txn) (home_placed txn of)) (if_fine (is_begun (whole s) txn) (Begun txn) of))
      count (λ none. home_placed txn of) refl fine)
  next_placed number (Deliver message) s next of numbers count before after is fine =
      subst IsFine (sym is)
      (stepped_placed (deliver_skip s message) number s (receiver_in s message) (MessageEvent message) (deliver_fine s message before numbers) count
      (λ none. receiver_placed s message before (sent_unless s message none)) refl fine)
  next_placed number (Drop message) s next of numbers count before after is fine =
      subst IsFine (sym is) (dropped_placed (message_skip s message) number s message (no_message_fine s message before numbers) count fine)
  next_placed number (Recover txn node) s next of numbers count before after is fine =
      subst IsFine (sym is)
      (stepped_placed (recover_skip s txn node) number s (actor_of node 0) (RecoverEvent txn)
      (both_fine (down_skip s (actor_of node 0)) _ (down_fine s (actor_of node 0) (node_placed node of.1)) (if_fine (not (is_begun (whole s) txn)) (Unknown txn) of.0))
      count (λ none. node_placed node of.1) refl fine)
  next_placed number (Slow txn) s next of numbers count before after is fine =
      subst IsFine (sym is)
      (stepped_placed (slowing_skip cluster s txn) number s (home_of_txn cluster txn) (SlowEvent txn)
      (both_fine (down_skip s (home_of_txn cluster txn)) _ (down_fine s (home_of_txn cluster txn) (home_placed txn of)) (slow_fine (whole s) txn (id_of_txn (whole s) txn) of))
      count (λ none. home_placed txn of) refl fine)
  next_placed number (Restart actor choice) s next of numbers count before after is fine =
      subst IsFine (sym is)
      (restarted_placed (fails_in answers s) s actor (actor_formed plan.topology h.layout actor (Contains-IsIn actor (actors plan.topology) of.0)) fine)
  next_placed number (Fail actor calls) s next of numbers count before after is fine = subst IsFine (sym is) fine
  next_placed number Drain s next of numbers count before after drains fine = drained_placed next s after drains fine

  pub steps_placed : (number : ℕ) (steps : List Step) (s end : Situation) → AllByRecursion (IsStep (length plan.names) plan.topology) steps
      → AllByRecursion NumbersMessage steps → number + length steps < 2 ^ 64 → IsPast end.own last → Follows cluster answers number steps s end → IsFine s → IsFine end
  steps_placed number [] s end of numbers short before is fine = subst IsFine (sym is) fine
  steps_placed number (step ∷ steps) s end of numbers short before follows fine =
      let after : IsPast follows.0.own last =
      IsPast-trans follows.0.own end.own last (follows_grow cluster answers (number + 1) steps follows.0 end follows.2) before in
      let now : IsPast s.own last = IsPast-trans s.own follows.0.own last (next_grows cluster answers number step s follows.0 follows.1) after in
      steps_placed (number + 1) steps follows.0 end of.1 numbers.1 (omega (arith, short)) before follows.2
      (next_placed number step s follows.0 of.0 numbers.0 (omega (arith, short)) now after follows.1 fine)
