-- What is entered for an ask is allowed by the rules.
use Rattle.std.proofs.Common.{◌≡◌, ℕ, zero, suc, ◌+◌, ◌-◌, Bool, true, false, not, cond, max, nat_lt, ◌&&◌, ◌||◌, List, [], ◌∷◌, ◌++◌, length, Option, None, Some, IsTrue, refl, sym, ◌∙◌, ap, subst, arith}
use Rattle.std.specs.Prelude.{unwrap_or}
use Rattle.std.specs.Bool.{beq}
use Rattle.std.specs.List.{slice_get, list_all}
use Rattle.std.specs.Option.{option_map}
use Rattle.std.proofs.lemmas.Bool.{true≢false, and_from, eq-eqb}
use Rattle.std.proofs.lemmas.Bool.Decides.{nat_tests}
use Rattle.acc_stamp.specs.declared.stamps.TxnId.{TxnId}
use Rattle.acc_stamp.specs.declared.actors.Actor.{Actor}
use Rattle.acc_stamp.specs.Actor.{actor_of}
use Rattle.acc_stamp.specs.Stamp.{ballot_eq, zero_ballot}
use Rattle.acc_topology.specs.Layout.{Layout}
use Rattle.acc_message.specs.declared.message.Message.{Message}
use Rattle.acc_message.specs.declared.entry.Event.{Event}
use Rattle.acc_message.specs.declared.item.Skip.{Skip}
use Rattle.acc_message.specs.declared.item.Skip.TheVariants.{NoMessage, Begun, Unknown, NoQuorum}
use Rattle.acc_message.specs.declared.item.Item.{Item}
use Rattle.acc_message.specs.declared.item.Item.TheVariants.{Step, Skipped, Down}
use Rattle.acc_message.specs.Fields.{to_of}
use Rattle.acc_message.specs.Items.{same_actor, sent_of, message_at, is_begun, id_of_txn}
use Rattle.acc_message.specs.Attempts.{Attempt, Phase, Voting, Recovering, Accepting, Committing, Executing, majority_everywhere}
use Rattle.acc_message.specs.Coordinator.{may_slow_down}
use Rattle.acc_message.specs.NodeRules.{Act, Begins, Recovers, Slows, Takes, Restarts}
use Rattle.acc_message.specs.Run.{Cluster, act_of, recovers, attempt_at, is_slowable, goes_to, MayStand, StandsOn, Stands, EachStands, kept_of, lost_fit, is_down, downs_end, IsRun}
use Rattle.acc_run_laws.specs.declared.ask.Ask.{Ask}
use Rattle.acc_run_laws.specs.declared.ask.Ask.TheVariants.{Begin, Recover, Slow, Deliver, Restart}
use Rattle.acc_run_laws.specs.Asks.{home_of_txn, receiver, stepper, event_for, skip_if, slow_skip_in, slow_skip_at, slow_skip, skip_of, emits_if, entry_at, entered, item_for, after_asks}
use Rattle.acc_run_laws.specs.Schedules.{new_messages, waiting, drained_with, drained}
use Rattle.acc_run_laws.specs.AskLaws.{IsAskOf, AreAsksOf, IsUp, is_no_down, IsRunWithoutDowns}
use Rattle.acc_actor_laws.proofs.Standing.{not_none}
use Rattle.acc_safety.proofs.BegunFacts.{WasBegun, begun_has, id_was_begun}

-- ---- what isn't passed over

pub skip_if-none : (b : Bool) (skip : Skip) → skip_if b skip ≡ None → b ≡ false
skip_if-none true skip e = absurd (not_none skip (sym e))
skip_if-none false skip e = refl

not_skipped : (b : Bool) (skip : Skip) → skip_if (not b) skip ≡ None → b ≡ true
not_skipped true skip e = refl
not_skipped false skip e = absurd (not_none skip (sym e))

-- an attempt whose slow isn't passed over can be slowed down
slowable : (layout : Layout) (txn : ℕ) (x : TxnId) (o : Option Attempt) → slow_skip_at layout txn x o ≡ None → is_slowable layout x o ≡ true
slowable layout txn x None e = absurd (not_none (Unknown txn) (sym e))
slowable layout txn x (Some a) e = by a.phase e
  where
    both : (zero_is majority : Bool) → cond zero_is (skip_if (not majority) (NoQuorum txn)) (Some (Unknown txn)) ≡ None → (zero_is && majority) ≡ true
    both true majority k = not_skipped majority (NoQuorum txn) k
    both false majority k = absurd (not_none (Unknown txn) (sym k))

    by : (phase : Phase) → slow_skip_in layout txn x a phase ≡ None → (ballot_eq a.ballot zero_ballot && may_slow_down layout x a phase) ≡ true
    by Voting k = both (ballot_eq a.ballot zero_ballot) (majority_everywhere layout x a.body a.answers) k
    by Recovering k = absurd (not_none (Unknown txn) (sym k))
    by (Accepting s) k = absurd (not_none (Unknown txn) (sym k))
    by (Committing s) k = absurd (not_none (Unknown txn) (sym k))
    by (Executing s) k = absurd (not_none (Unknown txn) (sym k))

-- ---- an entry for an ask stands

pub stands_by : (cluster : Cluster) (items : List Item) (a : Actor) (event : Event) (act : Act) → act_of cluster items event ≡ Some act
    → MayStand cluster items a act event → StandsOn cluster items (entry_at cluster items a event)
stands_by cluster items a event act is place =
    record { act = act; act_is = is; place = place; emitted = ap (emits_if cluster items a) is }

slow_stands : (cluster : Cluster) (items : List Item) (txn : ℕ) → EachStands cluster items → (o : Option TxnId) → id_of_txn items txn ≡ o
    → slow_skip cluster items txn o ≡ None → StandsOn cluster items (entry_at cluster items (home_of_txn cluster txn) (event_for (Slow txn)))
slow_stands cluster items txn h None is none = absurd (not_none (Unknown txn) (sym none))
slow_stands cluster items txn h (Some x) is none =
    let begun : WasBegun cluster items txn = begun_has cluster items txn h (id_was_begun items txn x is) in
    stands_by cluster items (home_of_txn cluster txn) (event_for (Slow txn)) (Slows x) (ap (option_map Slows) is) (
      (begun.home, begun.home_is, ap (λ o. actor_of (unwrap_or o 0) 0) begun.home_is),
      slowable cluster.layout txn x (attempt_at cluster items (home_of_txn cluster txn) x) none,
    )

message_stands : (cluster : Cluster) (items : List Item) (number : ℕ) (o : Option Message) → message_at items number ≡ o
    → nat_lt number (length (sent_of items)) ≡ true
    → StandsOn cluster items (entry_at cluster items (stepper cluster items (Deliver number)) (event_for (Deliver number)))
message_stands cluster items number (Some m) is within =
    stands_by cluster items (stepper cluster items (Deliver number)) (event_for (Deliver number)) (Takes m) (ap (option_map Takes) is)
    (subst (λ o. IsTrue (goes_to (receiver o) (Takes m))) (sym is) (eq-eqb (to_of m).0 (to_of m).0 refl))
message_stands cluster items number None is within =
    absurd (past (sent_of items) number within is)
  where
    past : (ms : List Message) (n : ℕ) → nat_lt n (length ms) ≡ true → slice_get ms n ≡ None → ⊥
    past [] n lt e = outside n lt
      where
        outside : (n : ℕ) → nat_lt n 0 ≡ true → ⊥
        outside n lt = grind (arith, nat_tests)
    past (m ∷ ms) zero lt e = not_none m (sym e)
    past (m ∷ ms) (suc n) lt e = past ms n (less n (length ms) lt) e
      where
        less : (n k : ℕ) → nat_lt (suc n) (suc k) ≡ true → nat_lt n k ≡ true
        less n k lt = grind (arith, nat_tests)

ask_stands : (cluster : Cluster) (items : List Item) (ask : Ask) → EachStands cluster items → IsAskOf cluster ask → skip_of cluster items ask ≡ None
    → StandsOn cluster items (entry_at cluster items (stepper cluster items ask) (event_for ask))
ask_stands cluster items (Begin txn) h has none =
    stands_by cluster items (home_of_txn cluster txn) (event_for (Begin txn)) (Begins txn has.body) (ap (option_map (Begins txn)) has.body_is)
    ((has.home, has.home_is, ap (λ o. actor_of (unwrap_or o 0) 0) has.home_is), ap not (skip_if-none (is_begun items txn) (Begun txn) none))
ask_stands cluster items (Recover txn node) h among none =
    let is : is_begun items txn ≡ true = not_skipped (is_begun items txn) (Unknown txn) none in
    let begun : WasBegun cluster items txn = begun_has cluster items txn h is in
    stands_by cluster items (actor_of node 0) (event_for (Recover txn node)) (Recovers begun.id begun.body)
    (ap (λ o. recovers o (slice_get cluster.bodies txn)) begun.id_is ∙ ap (recovers (Some begun.id)) begun.body_is)
    ((node, among, refl), is)
ask_stands cluster items (Slow txn) h u none = slow_stands cluster items txn h (id_of_txn items txn) refl none
ask_stands cluster items (Deliver number) h u none =
    message_stands cluster items number (message_at items number) refl
    (not_skipped (nat_lt number (length (sent_of items))) (NoMessage number (length (sent_of items))) none)
ask_stands cluster items (Restart actor) h u none = stands_by cluster items actor (event_for (Restart actor)) Restarts refl tt

item_stands : (cluster : Cluster) (items : List Item) (step : ℕ) (ask : Ask) → EachStands cluster items → IsAskOf cluster ask
    → (o : Option Skip) → skip_of cluster items ask ≡ o → Stands cluster items (entered cluster items step ask o)
item_stands cluster items step ask h of (Some skip) is = tt
item_stands cluster items step ask h of None is = ask_stands cluster items ask h of is

-- ---- lost entries and downs

kept_none : (ask : Ask) → kept_of (event_for ask) ≡ 0
kept_none (Begin txn) = refl
kept_none (Recover txn node) = refl
kept_none (Slow txn) = refl
kept_none (Deliver number) = refl
kept_none (Restart actor) = refl

pub lost_by : (a : Actor) (items : List Item) (same : Bool) → lost_fit a 0 items ≡ true
    → ((not same || beq false (nat_lt 0 0)) && lost_fit a (cond same (max (0 - 1) 0) 0) items) ≡ true
lost_by a items true h = h
lost_by a items false h = h

item_loses_none : (cluster : Cluster) (items : List Item) (step : ℕ) (ask : Ask) (o : Option Skip) (a : Actor) → lost_fit a 0 items ≡ true
    → lost_fit a 0 (entered cluster items step ask o ∷ items) ≡ true
item_loses_none cluster items step ask (Some skip) a h = h
item_loses_none cluster items step ask None a h =
    let same : Bool = same_actor (stepper cluster items ask) a in
    ap (λ kept. (not same || beq false (nat_lt 0 0)) && lost_fit a (cond same (max (0 - 1) kept) 0) items) (kept_none ask) ∙ lost_by a items same h

up_follows : (down restart : Bool) → down ≡ false → (not down || false || restart) ≡ true
up_follows true restart e = absurd (true≢false e)
up_follows false restart e = refl

item_follows : (cluster : Cluster) (items : List Item) (step : ℕ) (ask : Ask) → IsUp cluster items ask → (o : Option Skip) → downs_end items ≡ true
    → downs_end (entered cluster items step ask o ∷ items) ≡ true
item_follows cluster items step ask up (Some skip) h = h
item_follows cluster items step (Begin txn) up None h = and_from _ _ (up_follows _ false up) h
item_follows cluster items step (Recover txn node) up None h = and_from _ _ (up_follows _ false up) h
item_follows cluster items step (Slow txn) up None h = and_from _ _ (up_follows _ false up) h
item_follows cluster items step (Deliver number) up None h = and_from _ _ (up_follows _ false up) h
item_follows cluster items step (Restart actor) up None h = and_from _ _ (restarts (is_down actor items)) h
  where
    restarts : (down : Bool) → (not down || false || true) ≡ true
    restarts true = refl
    restarts false = refl

-- ---- a run goes on

pub step_is_run : (cluster : Cluster) (items : List Item) (step : ℕ) (ask : Ask) → IsRun cluster items → IsAskOf cluster ask → IsUp cluster items ask
    → IsRun cluster (item_for cluster items step ask ∷ items)
step_is_run cluster items step ask run of up =
    let skip : Option Skip = skip_of cluster items ask in
    record {
      stands = (item_stands cluster items step ask run.stands of skip refl, run.stands);
      lost = λ a. item_loses_none cluster items step ask skip a (run.lost a);
      downs = item_follows cluster items step ask up skip run.downs;
    }

-- ---- runs without downs

nobody_down : (items : List Item) (a : Actor) → list_all is_no_down items ≡ true → is_down a items ≡ false
nobody_down [] a h = refl
nobody_down (Step e ∷ earlier) a h = ap (λ b. b && (not (same_actor e.actor a) || e.lost)) (nobody_down earlier a h)
nobody_down (Skipped step cause ∷ earlier) a h = nobody_down earlier a h
nobody_down (Down actor ∷ earlier) a h = absurd (true≢false (sym h))

is_up : (cluster : Cluster) (items : List Item) (ask : Ask) → list_all is_no_down items ≡ true → IsUp cluster items ask
is_up cluster items (Begin txn) h = nobody_down items _ h
is_up cluster items (Recover txn node) h = nobody_down items _ h
is_up cluster items (Slow txn) h = nobody_down items _ h
is_up cluster items (Deliver number) h = nobody_down items _ h
is_up cluster items (Restart actor) h = tt

no_down_entered : (cluster : Cluster) (items : List Item) (step : ℕ) (ask : Ask) (o : Option Skip) → is_no_down (entered cluster items step ask o) ≡ true
no_down_entered cluster items step ask (Some skip) = refl
no_down_entered cluster items step ask None = refl

goes_on : (cluster : Cluster) (items : List Item) (step : ℕ) (ask : Ask) → IsRunWithoutDowns cluster items → IsAskOf cluster ask
    → IsRunWithoutDowns cluster (item_for cluster items step ask ∷ items)
goes_on cluster items step ask h of =
    record {
      run = step_is_run cluster items step ask h.run of (is_up cluster items ask h.no_downs);
      no_downs = and_from _ _ (no_down_entered cluster items step ask (skip_of cluster items ask)) h.no_downs;
    }

pub asks_are_run : (cluster : Cluster) (step : ℕ) (asks : List Ask) (items : List Item) → IsRunWithoutDowns cluster items → AreAsksOf cluster asks
    → IsRunWithoutDowns cluster (after_asks cluster step asks items)
asks_are_run cluster step [] items h of = h
asks_are_run cluster step (ask ∷ asks) items h of =
    asks_are_run cluster (step + 1) asks (item_for cluster items step ask ∷ items) (goes_on cluster items step ask h of.0) of.1

drained_with-run : (times : ℕ) (cluster : Cluster) (numbers : List ℕ) (items : List Item) → IsRunWithoutDowns cluster items
    → IsRunWithoutDowns cluster (drained_with times cluster numbers items)
drained_with-run zero cluster numbers items h = h
drained_with-run (suc times) cluster [] items h = h
drained_with-run (suc times) cluster (number ∷ numbers) items h =
    let next : Item = item_for cluster items 0 (Deliver number) in
    drained_with-run times cluster (numbers ++ new_messages items next) (next ∷ items) (goes_on cluster items 0 (Deliver number) h tt)

pub drains_are_run : (cluster : Cluster) (dropped : List ℕ) (items : List Item) → IsRunWithoutDowns cluster items
    → IsRunWithoutDowns cluster (drained cluster dropped items)
drains_are_run cluster dropped items h = drained_with-run 200 cluster (waiting items dropped) items h

pub nothing_is_run : (cluster : Cluster) → IsRunWithoutDowns cluster []
nothing_is_run cluster = record { run = record { stands = tt; lost = λ a. refl; downs = refl }; no_downs = refl }
