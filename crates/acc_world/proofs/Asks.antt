-- From what is asked of a world to the event of an actor, and from its entry to the answer.
use Rattle.std.proofs.Common.{◌≡◌, ◌<◌, ℕ, nat_lt, Bool, true, false, not, cond, List, length, Option, None, Some, is_some, unwrap_or, refl, sym, ◌∙◌, ap, subst, arith}
use Rattle.std.specs.List.{slice_get}
use Rattle.std.specs.Option.{option_map}
use Rattle.std.proofs.lemmas.Bool.{true≢false, and_parts}
use Rattle.std.proofs.lemmas.Bool.Decides.{nat_tests}
use Rattle.std.proofs.lemmas.Option.{slice_get_within}
use Rattle.acc_stamp.specs.declared.actors.Actor.{Actor}
use Rattle.acc_stamp.specs.declared.stamps.TxnId.{TxnId}
use Rattle.acc_stamp.specs.Actor.{node_of, actor_of}
use Rattle.acc_stamp.specs.Stamp.{ballot_eq, zero_ballot}
use Rattle.acc_topology.specs.Layout.{Layout}
use Rattle.acc_message.specs.declared.message.Message.{Message}
use Rattle.acc_message.specs.declared.entry.Emitted.{Emitted}
use Rattle.acc_message.specs.declared.entry.Entry.{Entry}
use Rattle.acc_message.specs.declared.entry.Event.{Event}
use Rattle.acc_message.specs.declared.entry.Event.TheVariants.{Begin as BeginEvent, Recover as RecoverEvent, Slow as SlowEvent, Message as MessageEvent}
use Rattle.acc_message.specs.declared.item.Skip.TheVariants.{NoMessage, Begun, Unknown, NoQuorum}
use Rattle.acc_message.specs.declared.item.Item.{Item}
use Rattle.acc_message.specs.declared.item.Item.TheVariants.{Step, Skipped, Down}
use Rattle.acc_message.specs.Fields.{to_of}
use Rattle.acc_message.specs.Items.{sent_of, message_at, is_begun, id_of_txn}
use Rattle.acc_message.specs.Attempts.{Attempt, Phase, Voting, Recovering, Accepting, Committing, Executing, majority_everywhere}
use Rattle.acc_message.specs.NodeRules.{Act, Begins, Recovers, Slows, Takes}
use Rattle.acc_message.specs.Coordinator.{silence, may_slow_down}
use Rattle.acc_message.specs.Run.{Cluster, clock_start, deeds_of, emits_by, emits, attempt_at, is_slowable}
use Rattle.acc_actor_laws.proofs.Standing.{not_none}
use Rattle.acc_actor_laws.proofs.OpeningFacts.{some_is}
use Rattle.acc_safety.specs.Valid.{IsStanding}
use Rattle.acc_safety.proofs.BegunFacts.{WasBegun, begun_has, id_was_begun}
use Rattle.acc_node.specs.declared.error.NodeError.{NodeError}
use Rattle.acc_run_laws.specs.declared.ask.Ask.{Ask}
use Rattle.acc_run_laws.specs.declared.ask.Ask.TheVariants.{Begin, Recover, Slow, Deliver, Restart}
use Rattle.acc_run_laws.specs.Asks.{home_of_txn, receiver, stepper, event_for, skip_if, slow_skip_in, slow_skip_at, slow_skip, skip_of, emits_if, entered}
use Rattle.acc_pasts.specs.Entries.{entering, MayTake}
use Rattle.acc_pasts.proofs.Standing.{begin_may, recover_may, deliver_may, message_there}
use Rattle.acc_schedule_runs.specs.Situations.{whole}
use Rattle.acc_pasts.proofs.Situations.{joined_alone}
use Rattle.acc_world.specs.declared.world.World.{World}
use Rattle.acc_world.specs.Held.{cluster_of, past_of, IsActorOf, MayTry, IsSlowRefused}
use Rattle.acc_world.specs.Stands.{StandsFor}
use Rattle.acc_world.specs.Steps.{IsTried, HasEntered, IsAsked, Answers, Steps, DecidesAtOnce}
use Rattle.acc_world.proofs.Acting.{id_known}
use Rattle.acc_world.proofs.Fast.{decides}
use Rattle.acc_world.proofs.Known.{of_home, of_node, of_message}

-- ---- what the history told

pub begun_told : (items : List Item) (txn : ℕ) (b : Bool) → b ≡ is_begun (whole (past_of items)) txn → is_begun items txn ≡ b
begun_told items txn b is = ap (λ l. is_begun l txn) (sym (joined_alone items)) ∙ sym is

-- ---- what is asked, as an event

module _ (w : World) (items : List Item) where
  abbrev c : Cluster
  c = cluster_of w.setup

  pub begins : (txn : ℕ) (s : IsAsked w items (Begin txn)) → is_begun items txn ≡ false → (home : Actor) → Some home ≡ option_map (λ node. actor_of node 0) (slice_get c.homes txn)
      → (home_of_txn c txn ≡ home) × IsTried w home (BeginEvent txn) items (Begins txn s.known.body)
  begins txn s none home is =
      let at : actor_of s.known.home 0 ≡ home = some_is (actor_of s.known.home 0) home (sym (is ∙ ap (option_map (λ node. actor_of node 0)) s.known.home_is)) in
      let home_at : home_of_txn c txn ≡ home = ap (λ o. actor_of (unwrap_or o 0) 0) s.known.home_is ∙ at in
      let may = begin_may c items txn s.known none in (
        home_at,
        record {
          stands = s.stands;
          place = s.place;
          known = of_home c txn home s.stands.valid (s.known.home, s.known.home_is, sym at);
          kept = refl;
          may = subst (λ a. MayTry c items a (BeginEvent txn) (Begins txn s.known.body)) home_at (record { act_is = may.act_is; place = may.place });
        },
      )

  pub recovers_act : (txn node : ℕ) (s : IsAsked w items (Recover txn node)) → is_begun items txn ≡ true → Act
  recovers_act txn node s is = let begun : WasBegun c items txn = begun_has c items txn s.stands.run.run.stands is in Recovers begun.id begun.body

  pub recovers : (txn node : ℕ) (s : IsAsked w items (Recover txn node)) → (is : is_begun items txn ≡ true) → (a : Actor) → a ≡ actor_of node 0
      → IsTried w a (RecoverEvent txn) items (recovers_act txn node s is)
  unfolding recovers_act
  recovers txn node s is a at =
      let begun : WasBegun c items txn = begun_has c items txn s.stands.run.run.stands is in
      let may = recover_may c items txn node begun.id begun.body s.known begun.id_is begun.body_is in
      record {
        stands = s.stands;
        place = s.place;
        known = of_node c a node s.stands.valid s.known at;
        kept = refl;
        may = subst (λ a. MayTry c items a (RecoverEvent txn) (Recovers begun.id begun.body)) (sym at) (record { act_is = may.act_is; place = may.place });
      }

  pub slows : (txn : ℕ) (x : TxnId) → IsAsked w items (Slow txn) → id_of_txn items txn ≡ Some x → (home : Actor)
      → Some home ≡ option_map (λ node. actor_of node 0) (slice_get c.homes txn) → (home_of_txn c txn ≡ home) × IsTried w home (SlowEvent txn) items (Slows x)
  slows txn x s id_is home is =
      let begun : WasBegun c items txn = begun_has c items txn s.stands.run.run.stands (id_was_begun items txn x id_is) in
      let at : actor_of begun.home 0 ≡ home = some_is (actor_of begun.home 0) home (sym (is ∙ ap (option_map (λ node. actor_of node 0)) begun.home_is)) in (
        ap (λ o. actor_of (unwrap_or o 0) 0) begun.home_is ∙ at,
        record {
          stands = s.stands;
          place = s.place;
          known = of_home c txn home s.stands.valid (begun.home, begun.home_is, sym at);
          kept = refl;
          may = record { act_is = ap (option_map Slows) id_is; place = (begun.home, begun.home_is, sym at) };
        },
      )

  pub takes : (number : ℕ) (m : Message) → IsAsked w items (Deliver number) → Some m ≡ message_at items number → (a : Actor) → a ≡ to_of m
      → IsTried w a (MessageEvent number) items (Takes m)
  takes number m s found a at =
      let may = deliver_may c items number m (sym found) in
      record {
        stands = s.stands;
        place = s.place;
        known = subst (λ a. IsActorOf c a) (sym at) (of_message c items number m (record { valid = s.stands.valid; stands = s.stands.run.run.stands }) (sym found));
        kept = refl;
        may = subst (λ a. MayTry c items a (MessageEvent number) (Takes m)) (sym at) (record { act_is = may.act_is; place = may.place });
      }

  -- ---- what is passed over

  pub begun_skip : (txn : ℕ) → is_begun items txn ≡ true → skip_of c items (Begin txn) ≡ Some (Begun txn)
  begun_skip txn is = ap (λ b. skip_if b (Begun txn)) is

  pub begun_goes : (txn : ℕ) → is_begun items txn ≡ false → skip_of c items (Begin txn) ≡ None
  begun_goes txn is = ap (λ b. skip_if b (Begun txn)) is

  pub unknown_skip : (txn node : ℕ) → is_begun items txn ≡ false → skip_of c items (Recover txn node) ≡ Some (Unknown txn)
  unknown_skip txn node is = ap (λ b. skip_if (not b) (Unknown txn)) is

  pub unknown_goes : (txn node : ℕ) → is_begun items txn ≡ true → skip_of c items (Recover txn node) ≡ None
  unknown_goes txn node is = ap (λ b. skip_if (not b) (Unknown txn)) is

  pub slow_unknown : (txn : ℕ) → id_of_txn items txn ≡ None → skip_of c items (Slow txn) ≡ Some (Unknown txn)
  slow_unknown txn is = ap (slow_skip c items txn) is

  pub message_skip : (number sent : ℕ) → None ≡ message_at items number → sent ≡ length (sent_of items) → skip_of c items (Deliver number) ≡ Some (NoMessage number sent)
  message_skip number sent none is = by (nat_lt number (length (sent_of items))) refl
    where
      by : (b : Bool) → nat_lt number (length (sent_of items)) ≡ b → skip_of c items (Deliver number) ≡ Some (NoMessage number sent)
      by true e = let found = message_there items number e in absurd (not_none found.0 (none ∙ found.1))
      by false e = ap (λ b. skip_if (not b) (NoMessage number (length (sent_of items)))) e ∙ ap (λ n. Some (NoMessage number n)) (sym is)

  less_is : (n k : ℕ) → n < k → nat_lt n k ≡ true
  less_is n k less = grind (arith, nat_tests)

  pub message_goes : (number : ℕ) (m : Message) → Some m ≡ message_at items number → skip_of c items (Deliver number) ≡ None
  message_goes number m found =
      ap (λ b. skip_if (not b) (NoMessage number (length (sent_of items)))) (less_is number (length (sent_of items)) (slice_get_within (sent_of items) number m (sym found)))

-- ---- from the entry to the answer

pub answered : (old new : World) (items : List Item) (ask : Ask) (a : Actor) (event : Event) (act : Act) (e : Entry) → HasEntered old new items a event act e
    → stepper (cluster_of old.setup) items ask ≡ a → event_for ask ≡ event → skip_of (cluster_of old.setup) items ask ≡ None → Answers old new items ask e
answered old new items ask a event act e h at is none =
    let c = cluster_of old.setup in
    record {
      skip_none = none;
      entry_is =
          ap (λ x. entering c items x (event_for ask) false) at ∙ ap (λ x. entering c items a x false) is
          ∙ ap (λ (m : Emitted). Step (record { actor = a; event = event; emitted = m; lost = false })) (ap (emits_if c items a) h.may.act_is)
          ∙ ap Step (sym h.entry_is);
      stands = h.stands;
    }

-- ---- a fast quorum

abbrev emitted_in : Item → Emitted
emitted_in (Step entry) = entry.emitted
emitted_in (Skipped step cause) = silence
emitted_in (Down actor) = silence

module _ (cluster : Cluster) (items : List Item) where
  pub fast : (number : ℕ) (e : Entry) → IsStanding cluster items → entering cluster items (receiver (message_at items number)) (MessageEvent number) false ≡ Step e
      → DecidesAtOnce cluster items (Deliver number) e
  fast number e standing is = λ m x found node attempt makes.
      let a = to_of m in
      let start = clock_start cluster.starts (node_of a) in
      let emitted_is : emits cluster items a (Takes m) ≡ e.emitted =
      sym (ap (λ o. emits_if cluster items (receiver o) (option_map Takes o)) found) ∙ ap emitted_in is in
      decides cluster.layout (node_of a) start (deeds_of cluster a items) m e.emitted
      (sym emitted_is ∙ ap (λ b. emits_by b cluster a (deeds_of cluster a items) (Takes m)) node) x attempt makes

  pub fast_of : (ask : Ask) (e : Entry) → IsStanding cluster items → entering cluster items (stepper cluster items ask) (event_for ask) false ≡ Step e
      → DecidesAtOnce cluster items ask e
  fast_of (Begin txn) e standing is = tt
  fast_of (Recover txn node) e standing is = tt
  fast_of (Slow txn) e standing is = tt
  fast_of (Deliver number) e standing is = fast number e standing is
  fast_of (Restart actor) e standing is = tt

-- ---- the whole step, of any name of the cluster

pub steps : (old new : World) (cluster : Cluster) (items : List Item) (ask : Ask) (e : Entry) → new.setup ≡ old.setup → StandsFor old cluster items
    → Answers old new items ask e → Steps old new cluster items ask e
steps old new cluster items ask e same s h =
    subst (λ k. Steps old new k items ask e) s.cluster_is (record {
      entry_is = ap (entered (cluster_of old.setup) items 0 ask) h.skip_none ∙ h.entry_is;
      stands = record { cluster_is = ap cluster_of same; stands = h.stands };
      fast = fast_of (cluster_of old.setup) items ask e (record { valid = s.stands.valid; stands = s.stands.run.run.stands }) h.entry_is;
    })

-- ---- what a look-up told

pub none_of : {T : Type 0} (o : Option T) → is_some o ≡ false → o ≡ None
none_of None h = refl
none_of (Some x) h = absurd (true≢false h)

pub some_of : {T : Type 0} (o : Option T) → is_some o ≡ true → (x : T) × (o ≡ Some x)
some_of None h = absurd (true≢false (sym h))
some_of (Some x) h = (x, refl)

pub slow_id : (items : List Item) (txn : ℕ) (o is : Option TxnId) → o ≡ id_of_txn (whole (past_of items)) txn → o ≡ is → id_of_txn items txn ≡ is
slow_id items txn o is told same = id_known items txn o told ∙ same

-- ---- a slow that an attempt takes

not_slow_skip : (layout : Layout) (txn : ℕ) (x : TxnId) (o : Option Attempt) → is_slowable layout x o ≡ true → slow_skip_at layout txn x o ≡ None
not_slow_skip layout txn x None h = absurd (true≢false (sym h))
not_slow_skip layout txn x (Some a) h =
    let parts = and_parts (ballot_eq a.ballot zero_ballot) (may_slow_down layout x a a.phase) h in by a.phase parts.0 parts.1
  where
    both : (zero_is majority : Bool) → zero_is ≡ true → majority ≡ true
        → cond zero_is (skip_if (not majority) (NoQuorum txn)) (Some (Unknown txn)) ≡ None
    both true true p q = refl
    both true false p q = absurd (true≢false (sym q))
    both false majority p q = absurd (true≢false (sym p))

    by : (phase : Phase) → ballot_eq a.ballot zero_ballot ≡ true → may_slow_down layout x a phase ≡ true → slow_skip_in layout txn x a phase ≡ None
    by Voting p q = both (ballot_eq a.ballot zero_ballot) (majority_everywhere layout x a.body a.answers) p q
    by Recovering p q = absurd (true≢false (sym q))
    by (Accepting s) p q = absurd (true≢false (sym q))
    by (Committing s) p q = absurd (true≢false (sym q))
    by (Executing s) p q = absurd (true≢false (sym q))

pub slow_goes : (w : World) (items : List Item) (txn : ℕ) (x : TxnId) → id_of_txn items txn ≡ Some x → (home : Actor) → home_of_txn (cluster_of w.setup) txn ≡ home
    → MayTake (cluster_of w.setup) items home (SlowEvent txn) (Slows x) → skip_of (cluster_of w.setup) items (Slow txn) ≡ None
slow_goes w items txn x id home at may =
    let c = cluster_of w.setup in
    ap (slow_skip c items txn) id
    ∙ not_slow_skip c.layout txn x (attempt_at c items (home_of_txn c txn) x) (ap (λ a. is_slowable c.layout x (attempt_at c items a x)) at ∙ may.place.1)

pub refused_as : (cluster : Cluster) (items : List Item) (txn : ℕ) (error is : NodeError) → error ≡ is → IsSlowRefused cluster items txn error → IsSlowRefused cluster items txn is
refused_as cluster items txn error is e h = subst (IsSlowRefused cluster items txn) e h
