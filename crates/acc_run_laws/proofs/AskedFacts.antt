-- What the rules allow, and loses nothing, is entered for some ask.
use Rattle.std.proofs.Common.{◌≡◌, ℕ, Bool, true, false, not, cond, nat_lt, List, length, Option, None, Some, ◌<◌, refl, sym, ◌∙◌, ap, subst, arith}
use Rattle.std.specs.Prelude.{unwrap_or}
use Rattle.std.specs.List.{slice_get}
use Rattle.std.specs.Option.{option_map}
use Rattle.std.proofs.lemmas.Bool.{true≢false, and_parts, eqb-true}
use Rattle.std.proofs.lemmas.Bool.Decides.{nat_tests}
use Rattle.std.proofs.lemmas.Option.{slice_get_within}
use Rattle.acc_stamp.specs.declared.stamps.TxnId.{TxnId}
use Rattle.acc_stamp.specs.declared.actors.Actor.{Actor}
use Rattle.acc_stamp.specs.Actor.{actor_of}
use Rattle.acc_stamp.specs.Stamp.{ballot_eq, zero_ballot}
use Rattle.acc_topology.specs.Layout.{Layout}
use Rattle.acc_message.specs.declared.message.Message.{Message}
use Rattle.acc_message.specs.declared.entry.Entry.{Entry}
use Rattle.acc_message.specs.declared.entry.Event.{Event}
use Rattle.acc_message.specs.declared.entry.Event.TheVariants.{Begin as BeginEvent, Recover as RecoverEvent, Slow as SlowEvent, Message as MessageEvent, Restart as RestartEvent}
use Rattle.acc_message.specs.declared.item.Skip.TheVariants.{NoMessage, Begun, Unknown, NoQuorum}
use Rattle.acc_message.specs.declared.item.Item.{Item}
use Rattle.acc_message.specs.declared.item.Item.TheVariants.{Step}
use Rattle.acc_message.specs.Fields.{to_of}
use Rattle.acc_message.specs.Items.{same_actor, sent_of, message_at, is_begun, id_of_txn}
use Rattle.acc_message.specs.Attempts.{Attempt, Phase, Voting, Recovering, Accepting, Committing, Executing, majority_everywhere}
use Rattle.acc_message.specs.Coordinator.{may_slow_down}
use Rattle.acc_message.specs.NodeRules.{Act, Slows, Takes}
use Rattle.acc_message.specs.Run.{Cluster, act_of, emits, attempt_at, is_slowable, slows_here, goes_to, IsHomeOf, MayStand, StandsOn, kept_of}
use Rattle.acc_run_laws.specs.declared.ask.Ask.{Ask}
use Rattle.acc_run_laws.specs.declared.ask.Ask.TheVariants.{Begin, Recover, Slow, Deliver, Restart}
use Rattle.acc_run_laws.specs.Asks.{home_of_txn, receiver, stepper, event_for, skip_if, slow_skip_in, slow_skip_at, slow_skip, skip_of, emits_if, entry_at, entered}
use Rattle.acc_run_laws.specs.AskLaws.{IsAsked}
use Rattle.acc_actor_laws.proofs.Standing.{not_none}
use Rattle.acc_actor_laws.proofs.OpeningFacts.{some_is}

-- ---- an entry is that of its ask

same_entry : (cluster : Cluster) (earlier : List Item) (e : Entry) (s : StandsOn cluster earlier e) (a : Actor) (event : Event)
    → a ≡ e.actor → event ≡ e.event → e.lost ≡ false → entry_at cluster earlier a event ≡ e
same_entry cluster earlier e s a event here is kept =
    λ i. record { actor = here i; event = is i; emitted = emitted i; lost = sym kept i }
  where
    emitted : emits_if cluster earlier a (act_of cluster earlier event) ≡ e.emitted
    emitted =
        ap (λ ev. emits_if cluster earlier a (act_of cluster earlier ev)) is
        ∙ ap (emits_if cluster earlier a) s.act_is
        ∙ ap (λ b. emits cluster earlier b s.act) here
        ∙ sym s.emitted

asked_by : (cluster : Cluster) (earlier : List Item) (step : ℕ) (e : Entry) (s : StandsOn cluster earlier e) (ask : Ask)
    → e.lost ≡ false → skip_of cluster earlier ask ≡ None → stepper cluster earlier ask ≡ e.actor → event_for ask ≡ e.event
    → IsAsked cluster earlier step e
asked_by cluster earlier step e s ask kept none here is =
    record {
      ask = ask;
      entered_is =
          ap (entered cluster earlier step ask) none
          ∙ ap Step (same_entry cluster earlier e s (stepper cluster earlier ask) (event_for ask) here is kept);
    }

-- ---- by its event

home_is : (cluster : Cluster) (txn : ℕ) (a : Actor) → IsHomeOf cluster txn a → home_of_txn cluster txn ≡ a
home_is cluster txn a home = ap (λ o. actor_of (unwrap_or o 0) 0) home.1 ∙ sym home.2

not_slow_skip : (layout : Layout) (txn : ℕ) (x : TxnId) (o : Option Attempt) → is_slowable layout x o ≡ true → slow_skip_at layout txn x o ≡ None
not_slow_skip layout txn x None h = absurd (true≢false (sym h))
not_slow_skip layout txn x (Some a) h =
    let parts = and_parts (ballot_eq a.ballot zero_ballot) (may_slow_down layout x a a.phase) h in by a.phase parts.0 parts.1
  where
    both : (zero_is majority : Bool) → zero_is ≡ true → majority ≡ true
        → cond zero_is (skip_if (not majority) (NoQuorum txn)) (Some (Unknown txn)) ≡ None
    both true true p q = refl
    both true false p q = absurd (true≢false (sym q))
    both false majority p q = absurd (true≢false (sym p))

    by : (phase : Phase) → ballot_eq a.ballot zero_ballot ≡ true → may_slow_down layout x a phase ≡ true → slow_skip_in layout txn x a phase ≡ None
    by Voting p q = both (ballot_eq a.ballot zero_ballot) (majority_everywhere layout x a.body a.answers) p q
    by Recovering p q = absurd (true≢false (sym q))
    by (Accepting s) p q = absurd (true≢false (sym q))
    by (Committing s) p q = absurd (true≢false (sym q))
    by (Executing s) p q = absurd (true≢false (sym q))

slow_is_asked : (cluster : Cluster) (earlier : List Item) (a : Actor) (txn : ℕ) (act : Act) (o : Option TxnId) → option_map Slows o ≡ Some act
    → IsHomeOf cluster txn a → slows_here cluster earlier a act ≡ true → slow_skip cluster earlier txn o ≡ None
slow_is_asked cluster earlier a txn act None is home here = absurd (not_none act is)
slow_is_asked cluster earlier a txn act (Some x) is home here =
    not_slow_skip cluster.layout txn x (attempt_at cluster earlier (home_of_txn cluster txn) x)
    (ap (λ b. is_slowable cluster.layout x (attempt_at cluster earlier b x)) (home_is cluster txn a home)
    ∙ ap (slows_here cluster earlier a) (some_is (Slows x) act is) ∙ here)

-- the message is there, and goes to the actor
message_is_asked : (ms : List Message) (number : ℕ) (a : Actor) (act : Act) (o : Option Message) → slice_get ms number ≡ o
    → option_map Takes o ≡ Some act → goes_to a act ≡ true → (nat_lt number (length ms) ≡ true) × (receiver o ≡ a)
message_is_asked ms number a act None is act_is to = absurd (not_none act act_is)
message_is_asked ms number a act (Some m) is act_is to =
    let within : nat_lt number (length ms) ≡ true = lt (slice_get_within ms number m is) in
    let same : same_actor (to_of m) a ≡ true = ap (goes_to a) (some_is (Takes m) act act_is) ∙ to in
    (within, same_place (to_of m) a (eqb-true (to_of m).0 a.0 same))
  where
    lt : {n k : ℕ} → n < k → nat_lt n k ≡ true
    lt h = grind (arith, nat_tests)

    same_place : (b c : Actor) → b.0 ≡ c.0 → b ≡ c
    same_place b c p = λ i. record { 0 = p i }

not_true : (b : Bool) → not b ≡ true → b ≡ false
not_true true h = absurd (true≢false (sym h))
not_true false h = refl

pub is_asked : (cluster : Cluster) (earlier : List Item) (step : ℕ) (e : Entry) → StandsOn cluster earlier e → e.lost ≡ false
    → kept_of e.event ≡ 0 → IsAsked cluster earlier step e
is_asked cluster earlier step e s kept none = by e.event refl
  where
    act_by : (event : Event) → e.event ≡ event → act_of cluster earlier event ≡ Some s.act
    act_by event is = subst (λ ev. act_of cluster earlier ev ≡ Some s.act) is s.act_is

    place_by : (event : Event) → e.event ≡ event → MayStand cluster earlier e.actor s.act event
    place_by event is = subst (λ ev. MayStand cluster earlier e.actor s.act ev) is s.place

    by : (event : Event) → e.event ≡ event → IsAsked cluster earlier step e
    by (BeginEvent txn) is =
        let place = place_by (BeginEvent txn) is in
        asked_by cluster earlier step e s (Begin txn) kept
        (ap (λ b. skip_if b (Begun txn)) (not_true (is_begun earlier txn) place.1)) (home_is cluster txn e.actor place.0) (sym is)
    by (RecoverEvent txn) is =
        let place = place_by (RecoverEvent txn) is in
        asked_by cluster earlier step e s (Recover txn place.0.0) kept
        (ap (λ b. skip_if (not b) (Unknown txn)) place.1) (sym place.0.2) (sym is)
    by (SlowEvent txn) is =
        let place = place_by (SlowEvent txn) is in
        asked_by cluster earlier step e s (Slow txn) kept
        (slow_is_asked cluster earlier e.actor txn s.act (id_of_txn earlier txn) (act_by (SlowEvent txn) is) place.0 place.1)
        (home_is cluster txn e.actor place.0) (sym is)
    by (MessageEvent number) is =
        let there = message_is_asked (sent_of earlier) number e.actor s.act (message_at earlier number) refl
        (act_by (MessageEvent number) is) (place_by (MessageEvent number) is) in
        asked_by cluster earlier step e s (Deliver number) kept
        (ap (λ b. skip_if (not b) (NoMessage number (length (sent_of earlier)))) there.0) there.1 (sym is)
    by (RestartEvent k) is =
        asked_by cluster earlier step e s (Restart e.actor) kept refl refl
        (ap RestartEvent (sym (ap kept_of (sym is) ∙ none)) ∙ sym is)
