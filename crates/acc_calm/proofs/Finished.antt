-- In a calm run the attempt at a transaction that each of its stores has opened has its outcome, which goes to all stores and to
-- the client.
use Rattle.std.proofs.Common.{◌≡◌, ℕ, Bool, true, false, not, ◌&&◌, ◌||◌, List, [], ◌∷◌, length, Option, None, Some, is_some, map, IsTrue, refl, sym, ◌∙◌, ap, subst, ⊎_elim}
use Rattle.std.specs.List.{list_any, list_all, flat_map}
use Rattle.std.specs.Prelude.{◌==◌}
use Rattle.std.proofs.lemmas.Bool.{true≢false, and_from, cases_Bool}
use Rattle.acc_base.specs.Faults.{or_else}
use Rattle.acc_stamp.specs.declared.stamps.TxnId.{TxnId}
use Rattle.acc_stamp.specs.declared.actors.Actor.{Actor}
use Rattle.acc_stamp.specs.Actor.{actor_of, node_of, shard_of, home_of}
use Rattle.acc_stamp.specs.Stamp.{zero_ballot}
use Rattle.acc_stamp.proofs.Order.{id_order, eq_itself}
use Rattle.acc_topology.specs.Layout.{Layout, is_replica_count, shard_at}
use Rattle.acc_topology.proofs.Counts.{shard_of_layout}
use Rattle.acc_deps.specs.declared.records.Settled.{Settled}
use Rattle.acc_txn.specs.declared.parts.BodyParts.{BodyParts}
use Rattle.acc_txn.specs.declared.outcome.Outcome.{Outcome}
use Rattle.acc_message.specs.declared.message.Message.{Message}
use Rattle.acc_message.specs.declared.message.Message.TheVariants.{Stable, ReadOk, Apply}
use Rattle.acc_message.specs.declared.note.Note.{Note}
use Rattle.acc_message.specs.declared.note.Note.TheVariants.{Begin as BeginNote, Outcome as OutcomeNote, Reply as ReplyNote}
use Rattle.acc_message.specs.declared.entry.Emitted.{Emitted}
use Rattle.acc_message.specs.declared.item.Item.{Item}
use Rattle.acc_message.specs.declared.item.Item.TheVariants.{Step}
use Rattle.acc_message.specs.Fields.{from_of, id_of}
use Rattle.acc_message.specs.Items.{noted_in, notes_of, begins, replies}
use Rattle.acc_message.specs.Shares.{shards_used, stores_of_shard, stores_used}
use Rattle.acc_message.specs.Taken.{Taken}
use Rattle.acc_message.specs.BallotRules.{stable_of, settled_in, kept_outcome, outcome_in}
use Rattle.acc_message.specs.Opening.{is_opened}
use Rattle.acc_message.specs.Attempts.{Attempt, Executing, fits, same_seat, has_read, read_everywhere, known_among, outcome_if}
use Rattle.acc_message.specs.Coordinator.{Reaction, with_answer, finish, inform, reaction}
use Rattle.acc_message.specs.NodeRules.{Act, Begins, Recovers, Slows, Takes, Restarts, Deed, is_restart, is_open, next_id, attempt_of, emitted_by, replied, with_reply, on_taking, node_emits}
use Rattle.acc_message.specs.Run.{Cluster, clock_start, deeds_of, taken_of, is_node}
use Rattle.acc_actor_laws.proofs.Standing.{not_none}
use Rattle.acc_actor_laws.proofs.OpeningOrder.{stable_stays}
use Rattle.acc_safety.specs.Calm.{IsCalm}
use Rattle.acc_safety.specs.Places.{IsIn, First, Later, StandsAt, Here, Back, IsPast, Whole}
use Rattle.acc_safety.specs.Histories.{EachEmits}
use Rattle.acc_safety.specs.Attempted.{Took}
use Rattle.acc_safety.specs.Valid.{IsStanding}
use Rattle.acc_safety.proofs.PlaceOrder.{passing, any_from, map-IsIn, flat_map-IsIn, IsIn-append_left, IsIn-append_right, StandsAt-whole, IsPast-rest}
use Rattle.acc_safety.proofs.Bridge.{node_step, each_emits, emits_at, each_answers}
use Rattle.acc_safety.proofs.Meetings.{used-HasShard}
use Rattle.acc_safety_laws.proofs.Phased.{SentToAll}
use Rattle.acc_safety_laws.proofs.Within.{begun_has_store, sent_to_one}
use Rattle.acc_safety_laws.proofs.Steps.{Told, Outcome_told, Other_told, told, told_stays}
use Rattle.acc_calm.proofs.Delivered.{IsCalmAct, acts_are_calm, delivered, TookStep, took_step}
use Rattle.acc_calm.proofs.ZeroBallots.{home_is_node}
use Rattle.acc_calm.proofs.Reactions.{NotReadyIn}
use Rattle.acc_calm.proofs.Courses.{at_x, course, BegunIn, begun_cases, Finishing}
use Rattle.acc_calm.proofs.AllAnswered.{in_among}
use Rattle.acc_calm.proofs.Undecided.{shard_of_store, store_place, used_is_store, step_sent, its_body, phase_sent, sent_one, taken_at, decided}
use Rattle.acc_calm.proofs.ReadsAnswered.{step_cases, replied as reads_replied}

-- ---- what a store keeps

stable_with : (o now : Option Settled) (r : Settled) → now ≡ Some r → (k : Settled) × (or_else o now ≡ Some k)
stable_with None now r is = (r, is)
stable_with (Some k) now r is = (k, refl)

pub took_stable : (m : Message) (x : TxnId) (s : Settled) → settled_in x m ≡ Some s → (history : List Taken) → TookStep m history
    → (r : Settled) × (stable_of history x ≡ Some r)
took_stable m x s is [] t = elim t.at [ ]
took_stable m x s is (step ∷ past) t =
    ⊎_elim (λ now. stable_with (stable_of past x) (settled_in x step.message) s (ap (settled_in x) now ∙ is))
    (λ old. let r = took_stable m x s is past old in (r.0, stable_stays step past x r.0 r.1))
    (step_cases m step past t)

outcome_with : (o now : Option Outcome) (r : Outcome) → now ≡ Some r → is_some (or_else o now) ≡ true
outcome_with None now r is = ap is_some is
outcome_with (Some k) now r is = refl

some_stays : (o now : Option Outcome) → is_some o ≡ true → is_some (or_else o now) ≡ true
some_stays None now h = absurd (true≢false (sym h))
some_stays (Some k) now h = refl

pub took_outcome : (m : Message) (x : TxnId) (o : Outcome) → outcome_in x m ≡ Some o → (history : List Taken) → TookStep m history
    → is_some (kept_outcome history x) ≡ true
took_outcome m x o is [] t = elim t.at [ ]
took_outcome m x o is (step ∷ past) t =
    ⊎_elim (λ now. outcome_with (kept_outcome past x) (outcome_in x step.message) o (ap (outcome_in x) now ∙ is))
    (λ old. some_stays (kept_outcome past x) (outcome_in x step.message) (took_outcome m x o is past old))
    (step_cases m step past t)

-- ---- lists

pub all_of : {T : Type 0} (test : T → Bool) (xs : List T) → ((x : T) → IsIn x xs → test x ≡ true) → list_all test xs ≡ true
all_of test [] h = refl
all_of test (x ∷ xs) h = and_from (test x) (list_all test xs) (h x (First x xs)) (all_of test xs (λ y there. h y (Later y x xs there)))

-- an entry's note is among those of the run
pub noted_there : (items earlier : List Item) (i : Item) (note : Note) → StandsAt i earlier items → IsIn note (noted_in i) → IsIn note (notes_of items)
noted_there items earlier i note (Here j past) there = IsIn-append_right note (notes_of past) (noted_in j) there
noted_there items earlier i note (Back j k past rest at) there = IsIn-append_left note (notes_of rest) (noted_in k) (noted_there rest past j note at there)

pub some_replica : (replicas : List ℕ) → IsTrue (is_replica_count (length replicas)) → (node : ℕ) × IsIn node replicas
some_replica [] count = absurd (true≢false (sym count))
some_replica (n ∷ replicas) count = (n, First n replicas)

pub no_outcome : (o : Option Outcome) (b : Bool) (layout : Layout) (body : BodyParts) (answers : List Message) → b ≡ true → or_else o (outcome_if b layout body answers) ≡ None → ⊥
no_outcome (Some k) b layout body answers is e = not_none k (sym e)
no_outcome None true layout body answers is e = not_none _ (sym e)
no_outcome None false layout body answers is e = true≢false (sym is)

none_is_some : {T : Type 0} (a : T) → Some a ≡ None → ⊥
none_is_some a e = not_none a (sym e)

module _ (cluster : Cluster) (items : List Item) (standing : IsStanding cluster items) (calm : IsCalm items) (x : TxnId) where
  abbrev its_home : Actor
  its_home = home_of x zero_ballot

  abbrev deeds : List Deed
  deeds = deeds_of cluster its_home items

  abbrev itself : Actor
  itself = actor_of (node_of its_home) 0

  abbrev start : ℕ
  start = clock_start cluster.starts (node_of its_home)

  abbrev Finishes : Type 0
  Finishes = Finishing cluster items standing.stands calm x deeds

  -- ---- an attempt that executes, where each of its stores has opened

  module _ (a : Attempt) (a_is : at_x cluster items standing.stands calm x deeds ≡ Some a)
      (opened : (store : Actor) → IsIn store (stores_used cluster.layout a.body) → is_opened (shard_of store) (taken_of cluster store items) x ≡ true) where
    abbrev settled : Settled
    settled = (decided cluster items standing calm x a a_is).0

    phase_is : a.phase ≡ Executing settled
    phase_is = (decided cluster items standing calm x a a_is).1

    stable_taken : (store : Actor) → IsIn store (stores_used cluster.layout a.body)
        → TookStep (Stable itself store x zero_ballot a.body settled.t settled.deps) (taken_of cluster store items)
    stable_taken store there =
        taken_at cluster items standing calm x a a_is store (Stable itself store x zero_ballot a.body settled.t settled.deps) refl
        (sent_one cluster items standing calm x a a_is (λ k. Stable itself k x zero_ballot a.body settled.t settled.deps) store
        (phase_sent cluster items standing calm x a a_is (Executing settled) phase_is) there)

    read_heard : (store : Actor) → IsIn store (stores_used cluster.layout a.body) → list_any (λ e. shard_of (from_of e) == shard_of store) a.answers ≡ true
    read_heard store there =
        let place = store_place cluster.layout a.body store standing.valid.layout there in
        let r = reads_replied cluster.layout store x zero_ballot itself store a.body settled.t settled.deps (taken_of cluster store items)
        (each_answers cluster store items standing.stands place.no_node) (stable_taken store there) (opened store there) in
        let m : Message = ReadOk store its_home x zero_ballot r.answer in
        let took : Took deeds m = delivered cluster items standing.stands calm m (step_sent cluster items standing calm store r.step r.past r.at m r.sent) in
        let heard = (course cluster items standing.stands calm x deeds (Whole deeds) a a_is).heard m took refl in
        subst (λ p. list_any (λ e. same_seat p (from_of e) store) a.answers ≡ true) phase_is
        (heard.seated (subst (λ p. fits p m ≡ true) (sym phase_is) refl) (used_is_store cluster.layout a.body store there))

    shard_read : (shard : ℕ) → IsIn shard (shards_used cluster.layout a.body) → has_read a.answers shard ≡ true
    shard_read shard used =
        let has = used-HasShard cluster.layout a.body shard standing.valid.layout (in_among shard (shards_used cluster.layout a.body) used) in
        let n = some_replica (shard_at cluster.layout shard).replicas (shard_of_layout cluster.layout shard standing.valid.layout has).count in
        let there = flat_map-IsIn (stores_of_shard cluster.layout) (actor_of n.0 shard) shard (shards_used cluster.layout a.body) used
        (map-IsIn (λ node. actor_of node shard) n.0 (shard_at cluster.layout shard).replicas n.1) in
        subst (λ k. list_any (λ e. shard_of (from_of e) == k) a.answers ≡ true) (shard_of_store cluster.layout n.0 shard standing.valid.layout has)
        (read_heard (actor_of n.0 shard) there)

    pub still_running : ⊥
    still_running =
        ⊎_elim
        (λ none.
        let store = begun_has_store cluster items x a.body standing.valid (its_body cluster items standing calm x a a_is) in
        true≢false (sym (read_heard store.0 store.1) ∙ ap (list_any (λ e. shard_of (from_of e) == shard_of store.0)) none))
        (λ waits.
        no_outcome (known_among a.answers) (read_everywhere cluster.layout a.body a.answers) cluster.layout a.body a.answers
        (all_of (has_read a.answers) (shards_used cluster.layout a.body) shard_read)
        (subst (NotReadyIn cluster.layout itself x a) phase_is waits))
        (course cluster items standing.stands calm x deeds (Whole deeds) a a_is).ready

  -- ---- the outcome goes out

  module _ (f : Finishes) where
    abbrev finished : Reaction
    finished = finish cluster.layout itself x (with_answer f.before f.message) f.settled f.outcome

    node : is_node its_home ≡ true
    node = home_is_node x zero_ballot

    told_finish : (m : Message) → Told cluster.layout (node_of its_home) start f.past m → id_of m ≡ x → reaction cluster.layout itself x f.before m ≡ finished
        → on_taking cluster.layout (node_of its_home) start f.past m ≡ with_reply (is_open x f.past) finished.emitted
    told_finish m (Outcome_told from to id b o) about is =
        absurd (none_is_some f.before (ap (λ (r : Reaction). r.next) (sym (told_stays cluster.layout itself x f.before from to id b o) ∙ is)))
    told_finish m (Other_told n emits) about is =
        emits
        ∙ ap (λ y. with_reply (is_open y f.past) (emitted_by (λ a. reaction cluster.layout itself y a m) (attempt_of cluster.layout (node_of its_home) start y f.past))) about
        ∙ ap (λ o. with_reply (is_open x f.past) (emitted_by (λ a. reaction cluster.layout itself x a m) o)) f.before_is
        ∙ ap (λ (r : Reaction). with_reply (is_open x f.past) r.emitted) is

    emits_finish : node_emits cluster.layout (node_of its_home) start f.past f.deed.act ≡ with_reply (is_open x f.past) finished.emitted
    emits_finish =
        ap (node_emits cluster.layout (node_of its_home) start f.past) f.act_is
        ∙ told_finish f.message (told cluster.layout (node_of its_home) start f.past f.message) f.about f.reaction_is

    applies : SentToAll cluster.layout (node_of its_home) start deeds f.before.body
        (λ store. Apply itself store x f.before.ballot f.before.body f.settled.t f.settled.deps f.outcome)
    applies =
        record {
          deed = f.deed;
          past = f.past;
          at = f.at;
          sends = λ store there.
              subst (λ (e : Emitted). IsIn (Apply itself store x f.before.ballot f.before.body f.settled.t f.settled.deps f.outcome) e.out) (sym emits_finish)
              (IsIn-append_left (Apply itself store x f.before.ballot f.before.body f.settled.t f.settled.deps f.outcome)
              (map (λ k. Apply itself k x f.before.ballot f.before.body f.settled.t f.settled.deps f.outcome) (stores_used cluster.layout f.before.body))
              (inform itself x f.before.ballot f.outcome)
              (map-IsIn (λ k. Apply itself k x f.before.ballot f.before.body f.settled.t f.settled.deps f.outcome) store (stores_used cluster.layout f.before.body) there));
        }

    pub apply_taken : (store : Actor) → IsIn store (stores_used cluster.layout f.before.body)
        → TookStep (Apply itself store x f.before.ballot f.before.body f.settled.t f.settled.deps f.outcome) (taken_of cluster store items)
    apply_taken store there =
        took_step (Apply itself store x f.before.ballot f.before.body f.settled.t f.settled.deps f.outcome) (deeds_of cluster store items)
        (delivered cluster items standing.stands calm (Apply itself store x f.before.ballot f.before.body f.settled.t f.settled.deps f.outcome)
        (sent_to_one cluster items standing.stands its_home node deeds f.before.body
        (λ k. Apply itself k x f.before.ballot f.before.body f.settled.t f.settled.deps f.outcome) store (Whole deeds) applies there))

    -- ---- and to the client

    deed_noted : (deed : Deed) (past : List Deed) → StandsAt deed past deeds → (note : Note) → IsIn note deed.emitted.notes → IsIn note (notes_of items)
    deed_noted deed past at note there =
        let n = node_step cluster its_home items standing.stands deed past at in
        noted_there items n.earlier (Step n.entry) note n.at (subst (λ (e : Emitted). IsIn note e.notes) (sym n.emitted_is) there)

    abbrev IsReplied : Type 0
    IsReplied = list_any (replies x) (notes_of items) ≡ true

    pub open_replied : is_open x f.past ≡ true → IsReplied
    open_replied now_open =
        any_from (replies x) (ReplyNote x f.outcome.reply) (notes_of items)
        (deed_noted f.deed f.past f.at (ReplyNote x f.outcome.reply)
        (subst (λ (e : Emitted). IsIn (ReplyNote x f.outcome.reply) e.notes)
        (sym (emits_at cluster.layout (node_of its_home) start deeds f.deed f.past (each_emits cluster its_home items standing.stands node) f.at ∙ emits_finish))
        (subst (λ b. IsIn (ReplyNote x f.outcome.reply) (flat_map (replied b) finished.emitted.notes)) (sym now_open)
        (Later (ReplyNote x f.outcome.reply) (OutcomeNote x f.outcome.reply) (ReplyNote x f.outcome.reply ∷ []) (First (ReplyNote x f.outcome.reply) [])))))
        (eq_itself id_order x)

    not_restart : (act : Act) → IsCalmAct act → not (is_restart act) ≡ true
    not_restart (Begins txn body) c = refl
    not_restart (Takes m) c = refl
    not_restart (Recovers y body) c = absurd c
    not_restart (Slows y) c = absurd c
    not_restart Restarts c = absurd c

    open_parts : (a b c d : Bool) → a ≡ true → b ≡ false → (a && not b && (c || d)) ≡ false → (c ≡ false) × (d ≡ false)
    open_parts true false true d p q h = absurd (true≢false h)
    open_parts true false false d p q h = (refl, h)
    open_parts true true c d p q h = absurd (true≢false q)
    open_parts false b c d p q h = absurd (true≢false (sym p))

    pub closed_replied : (past : List Deed) → IsPast past deeds → EachEmits cluster.layout (node_of its_home) start past
        → BegunIn cluster items standing.stands calm x past → is_open x past ≡ false → IsReplied
    closed_replied [] within each begun closed = elim begun.at [ ]
    closed_replied (deed ∷ past) within each begun closed =
        let at = StandsAt-whole deed past (deed ∷ past) deeds (Here deed past) within in
        ⊎_elim
        (λ now.
        let p = passing (replies x) deed.emitted.notes now in
        any_from (replies x) p.element (notes_of items) (deed_noted deed past at p.element p.there) p.passes)
        (λ none.
        let parts = open_parts (not (is_restart deed.act)) (list_any (replies x) deed.emitted.notes) (list_any (begins x) deed.emitted.notes) (is_open x past)
        (not_restart deed.act (acts_are_calm cluster items standing.stands calm its_home deed past at)) none closed in
        ⊎_elim
        (λ here.
        absurd (true≢false
        (sym (ap (λ (e : Emitted). list_any (begins x) e.notes) (each.0 ∙ ap (node_emits cluster.layout (node_of its_home) start past) here.1.1.0)
        ∙ begins_it (next_id (node_of its_home) start past) here.1.1.1) ∙ parts.0)))
        (λ old. closed_replied past (IsPast-rest deed past deeds within) each.1 old parts.1)
        (begun_cases cluster items standing.stands calm x deed past begun))
        (cases_Bool (list_any (replies x) deed.emitted.notes))
      where
        begins_it : (y : TxnId) → y ≡ x → list_any (begins x) (BeginNote y ∷ []) ≡ true
        begins_it y same = ap (λ b. b || false) ((id_order.decides y x).1 same)
