-- Delivered attempts end, and where each store has opened the transaction they have finished, and their clients have replies.
use Rattle.std.proofs.Common.{◌≡◌, ℕ, suc, ◌≤◌, Bool, true, false, cond, List, [], ◌∷◌, ◌++◌, length, None, Some, refl, sym, ◌∙◌, ap, subst, arith, inl, inr, ⊎_elim}
use Rattle.std.specs.List.{list_any}
use Rattle.std.specs.Prelude.{◌==◌}
use Rattle.std.proofs.lemmas.Bool.{true≢false, and_from}
use Rattle.acc_stamp.specs.declared.stamps.TxnId.{TxnId}
use Rattle.acc_stamp.specs.declared.stamps.Ballot.{Ballot}
use Rattle.acc_stamp.specs.declared.actors.Actor.{Actor}
use Rattle.acc_stamp.specs.Actor.{actor_of, node_of, shard_of, home_of}
use Rattle.acc_stamp.specs.Stamp.{id_eq, ballot_eq}
use Rattle.acc_stamp.proofs.Order.{id_order, ballot_order, eq_itself}
use Rattle.acc_topology.specs.Layout.{shard_at}
use Rattle.acc_topology.proofs.Counts.{shard_of_layout}
use Rattle.acc_deps.specs.declared.records.Settled.{Settled}
use Rattle.acc_txn.specs.declared.parts.BodyParts.{BodyParts}
use Rattle.acc_message.specs.declared.message.Message.{Message}
use Rattle.acc_message.specs.declared.message.Message.TheVariants.{ReadOk, Apply}
use Rattle.acc_message.specs.declared.entry.Entry.{Entry}
use Rattle.acc_message.specs.declared.entry.Emitted.{Emitted}
use Rattle.acc_message.specs.declared.item.Item.{Item}
use Rattle.acc_message.specs.declared.item.Item.TheVariants.{Step}
use Rattle.acc_message.specs.declared.note.Note.{Note}
use Rattle.acc_message.specs.declared.note.Note.TheVariants.{Begin as BeginNote, Outcome as OutcomeNote, Reply as ReplyNote}
use Rattle.acc_message.specs.Fields.{from_of}
use Rattle.acc_message.specs.Items.{notes_of, replies}
use Rattle.acc_message.specs.Shares.{shards_used, stores_of_shard, stores_used}
use Rattle.acc_message.specs.Taken.{Taken}
use Rattle.acc_message.specs.Opening.{is_opened}
use Rattle.acc_message.specs.Attempts.{Attempt, Executing, fits, same_seat, known_among, has_read, read_everywhere}
use Rattle.acc_message.specs.Coordinator.{home_node}
use Rattle.acc_message.specs.NodeRules.{Deed, is_open, attempt_of}
use Rattle.acc_message.specs.Run.{Cluster, taken_with, taken_from, deeds_of, taken_of}
use Rattle.acc_actor_laws.proofs.OpeningFacts.{some_is}
use Rattle.acc_safety.specs.Places.{IsIn, StandsAt, IsPast, Whole, InOrder, IsOlder, IsSame, IsNewer}
use Rattle.acc_safety.specs.Histories.{Noting, NodeStep}
use Rattle.acc_safety.specs.Polls.{IsBody}
use Rattle.acc_safety.specs.Valid.{IsStanding}
use Rattle.acc_safety.proofs.PlaceOrder.{in_order, any_from, flat_map-IsIn, map-IsIn, IsPast-trans, StandsAt-IsPast}
use Rattle.acc_safety.proofs.Bridge.{EachStands-past, node_step, each_answers, taking_deed, taken_of-past}
use Rattle.acc_safety.proofs.BodiesBegun.{recover_body, attempt_body}
use Rattle.acc_safety.proofs.Frame.{past_of}
use Rattle.acc_safety.proofs.Meetings.{used-HasShard}
use Rattle.acc_safety_laws.proofs.BegunIds.{begin_noted}
use Rattle.acc_safety_laws.proofs.Within.{begun_has_store}
use Rattle.acc_calm.proofs.AllAnswered.{in_among}
use Rattle.acc_calm.proofs.Undecided.{store_place, shard_of_store, used_is_store}
use Rattle.acc_calm.proofs.Finished.{noted_there, all_of, some_replica, no_outcome, took_outcome}
use Rattle.acc_delivered.specs.Stretches.{TakesAll}
use Rattle.acc_delivered.specs.Rounds.{IsRecover}
use Rattle.acc_delivered.specs.Ends.{disturbs, IsAttempt, tells_ended, tells_blocked, is_ended, is_blocked, AtEachStore, took_apply, has_opened, IsFinished, KeepsClient, is_replied, HasEnd}
use Rattle.acc_delivered.specs.Laws.{LacksIn, AttemptsEnd, OpenedAttemptsFinish, OpenedAttemptsReply}
use Rattle.acc_delivered.proofs.Courses.{request}
use Rattle.acc_delivered.proofs.Asked.{past_length}
use Rattle.acc_delivered.proofs.AnsweredReads.{stables_are_answered}
use Rattle.acc_delivered.proofs.Overs.{b as drawn, Became, Runs, WasEnded, WasBlocked, HasFinished, FinishedIn, NotedIn}
use Rattle.acc_delivered.proofs.Started.{start, deeds, body, it, past, it_at, is_of_node, ballot_is, becomes}
use Rattle.acc_delivered.proofs.Resting.{deeds_here, asks_of, asked_items, asked_deeds, course, request_taken, request_to, answer_known, delivered, body_is}
use Rattle.acc_delivered.proofs.Executing.{executes}
use Rattle.acc_delivered.proofs.Clients.{replied_past, served_before}
use Rattle.acc_delivered.proofs.Decided.{outcome_noted, taken_place, is_decided_at}

note_told : (test : Note → Bool) (items earlier : List Item) (e : Entry) (note : Note) → StandsAt (Step e) earlier items → IsIn note e.emitted.notes → test note ≡ true
    → list_any test (notes_of items) ≡ true
note_told test items earlier e note at there h = any_from test note (notes_of items) (noted_there items earlier (Step e) note at there) h

module _ (cluster : Cluster) (base since : List Item) (e : Entry) (x : TxnId) (b : Ballot) (standing : IsStanding cluster ((since ++ Step e ∷ []) ++ base))
    (recover : IsRecover e.actor x b e) (all : TakesAll base (since ++ Step e ∷ [])) (alone : list_any (disturbs e.actor x) since ≡ false) where
  abbrev whole : List Item
  whole = (since ++ Step e ∷ []) ++ base

  abbrev the_deeds : List Deed
  the_deeds = deeds cluster base since e x b standing recover

  abbrev the_start : ℕ
  the_start = start cluster base since e x b standing recover

  abbrev own : Actor
  own = actor_of (node_of e.actor) 0

  abbrev brought : BodyParts
  brought = body cluster base since e x b standing recover

  abbrev Becomes : Type 0
  Becomes =
      Became cluster.layout (node_of e.actor) the_start x (it cluster base since e x b standing recover) (past cluster base since e x b standing recover) brought refl the_deeds

  abbrev Noted : Note → Type 0
  Noted note =
      NotedIn cluster.layout (node_of e.actor) the_start x (it cluster base since e x b standing recover) (past cluster base since e x b standing recover) brought refl note the_deeds

  told : (test : Note → Bool) (note : Note) → Noted note → test note ≡ true → list_any test (notes_of whole) ≡ true
  told test note n h =
      let s = node_step cluster e.actor whole standing.stands n.noting n.before n.at in
      note_told test whole s.earlier s.entry note s.at (subst (λ (w : Emitted). IsIn note w.notes) (sym s.emitted_is) n.noted) h

  of_it : ballot_eq (drawn cluster.layout (node_of e.actor) the_start x (it cluster base since e x b standing recover) (past cluster base since e x b standing recover) brought refl) b ≡ true
  of_it = (ballot_order.decides _ b).1 (ballot_is cluster base since e x b standing recover)

  pub ends : HasEnd cluster whole x b
  ends = by (becomes cluster base since e x b standing recover alone)
    where
      by : Becomes → HasEnd cluster whole x b
      by (Runs at is of_ballot of_body) =
          let ballot = of_ballot ∙ ballot_is cluster base since e x b standing recover in
          let s = executes cluster base since e x b standing recover all at is ballot in
          inr (inr (is_decided_at cluster base since e x b standing recover all the_deeds (Whole the_deeds) at is ballot s.0 s.1))
      by (WasEnded above n) = inl (told (tells_ended x b) _ n (and_from (id_eq x x) (ballot_eq _ b) (eq_itself id_order x) of_it))
      by (WasBlocked ids n) = inr (inl (told (tells_blocked x b) _ n (and_from (id_eq x x) (ballot_eq _ b) (eq_itself id_order x) of_it)))
      by (HasFinished f) =
          inr (inr
          (is_decided_at cluster base since e x b standing recover all f.before (past_of f.finishing f.before the_deeds f.at) f.attempt f.is
          (f.of_ballot ∙ ballot_is cluster base since e x b standing recover) f.settled f.phase))

  -- ---- reads

  module _ (at : Attempt) (at_is : attempt_of cluster.layout (node_of e.actor) the_start x the_deeds ≡ Some at) (at_ballot : at.ballot ≡ b) (s : Settled)
      (phase : at.phase ≡ Executing s)
      (opened : (store : Actor) → IsIn store (stores_used cluster.layout at.body) → is_opened (shard_of store) (taken_of cluster store whole) x ≡ true) where
    abbrev asks : Actor → Message
    asks store = asks_of cluster base since e x b standing recover all at at_is at_ballot store

    abbrev front : List Item
    front = asked_items cluster base since e x b standing recover all at at_is at_ballot

    read_heard : (store : Actor) → IsIn store (stores_used cluster.layout at.body) → list_any (λ k. shard_of (from_of k) == shard_of store) at.answers ≡ true
    read_heard store there =
        let t = request_taken cluster base since e x b standing recover all at at_is at_ballot store there in
        let place = store_place cluster.layout at.body store standing.valid.layout there in
        let at_store = t.actor_is ∙ request_to own x at.ballot at.body at.phase store in
        let step : Taken = record { message = asks store; sent = t.entry.emitted.out } in
        let r = stables_are_answered cluster.layout store (taken_of cluster store whole) (each_answers cluster store whole standing.stands place.no_node) x at.ballot at.body
        s.t s.deps own store step (taken_of cluster store t.before) (taken_place cluster store whole t.before t.entry (asks store) t.at at_store t.act_is)
        (ap (λ p. request own x at.ballot at.body p store) phase) (opened store there) in
        let d = taking_deed (deeds_of cluster store whole) r.reading r.before r.at in
        let n = node_step cluster store whole standing.stands d.deed d.before d.at in
        let before_is : taken_of cluster store n.earlier ≡ r.before = ap taken_from n.past_is ∙ d.past_is in
        let now_is : taken_of cluster store (Step n.entry ∷ n.earlier) ≡ record { message = r.reading.message; sent = d.deed.emitted.out } ∷ taken_of cluster store n.earlier =
        ap taken_from (deeds_here cluster store n.earlier n.entry d.deed n.actor_is n.act_is n.emitted_is)
        ∙ ap (λ act. taken_with act d.deed.emitted ++ taken_of cluster store n.earlier) d.act_is in
        let m : Message = ReadOk store (home_of x at.ballot) x at.ballot r.answer in
        let known = answer_known cluster base since e x b standing recover all at at_is at_ballot front
        (asked_deeds cluster base since e x b standing recover all at at_is at_ballot) n.entry n.earlier n.at
        (newer_than store t.entry n.entry t.before n.earlier t.at n.at t.newer (ap length now_is) (ap length before_is) (past_length (step ∷ taken_of cluster store t.before) (r.reading ∷ r.before) r.since))
        m (subst (IsIn m) (sym (ap (λ (w : Emitted). w.out) n.emitted_is ∙ d.out_is)) r.sent) refl at_ballot (ap (home_of x) at_ballot) in
        subst (λ p. list_any (λ k. same_seat p (from_of k) store) at.answers ≡ true) phase
        (known.seated (subst (λ p. fits p m ≡ true) (sym phase) refl) (used_is_store cluster.layout at.body store there))
      where
        newer_than : (store : Actor) (one other : Entry) (before earlier : List Item) → StandsAt (Step one) before whole → StandsAt (Step other) earlier whole → IsPast front before
            → length (taken_of cluster store (Step other ∷ earlier)) ≡ suc (length (taken_of cluster store earlier)) → {n : ℕ} → length (taken_of cluster store earlier) ≡ n
            → suc (length (taken_of cluster store before)) ≤ suc n → IsPast front earlier
        newer_than store one other before earlier one_at other_at newer now_length {n} before_length since_length =
            by (in_order (Step one) (Step other) before earlier whole one_at other_at)
          where
            short : {k l m j : ℕ} → k ≡ suc l → l ≡ m → suc j ≤ suc m → k ≤ j → ⊥
            short p q r t = omega (arith, p, q, r, t)

            by : InOrder (Step one) (Step other) before earlier → IsPast front earlier
            by (IsOlder older) = IsPast-trans front before earlier newer (past_of (Step one) before earlier older)
            by (IsSame same same_past) = subst (IsPast front) same_past newer
            by (IsNewer other_newer) =
                absurd (short now_length before_length since_length
                (past_length (taken_of cluster store (Step other ∷ earlier)) (taken_of cluster store before)
                (taken_of-past cluster store (Step other ∷ earlier) before (StandsAt-IsPast (Step other) earlier before other_newer))))

    shard_read : (shard : ℕ) → IsIn shard (shards_used cluster.layout at.body) → has_read at.answers shard ≡ true
    shard_read shard used =
        let has = used-HasShard cluster.layout at.body shard standing.valid.layout (in_among shard (shards_used cluster.layout at.body) used) in
        let n = some_replica (shard_at cluster.layout shard).replicas (shard_of_layout cluster.layout shard standing.valid.layout has).count in
        let there = flat_map-IsIn (stores_of_shard cluster.layout) (actor_of n.0 shard) shard (shards_used cluster.layout at.body) used
        (map-IsIn (λ node. actor_of node shard) n.0 (shard_at cluster.layout shard).replicas n.1) in
        subst (λ k. list_any (λ j. shard_of (from_of j) == k) at.answers ≡ true) (shard_of_store cluster.layout n.0 shard standing.valid.layout has)
        (read_heard (actor_of n.0 shard) there)

    no_longer_runs : ⊥
    no_longer_runs =
        ⊎_elim
        (λ none.
        let store = begun_has_store cluster whole x at.body standing.valid (body_is cluster base since e x b standing recover all at at_is at_ballot) in
        true≢false (sym (read_heard store.0 store.1) ∙ ap (list_any (λ k. shard_of (from_of k) == shard_of store.0)) none))
        (λ lack.
        no_outcome (known_among at.answers) (read_everywhere cluster.layout at.body at.answers) cluster.layout at.body at.answers
        (all_of (has_read at.answers) (shards_used cluster.layout at.body) shard_read)
        (subst (LacksIn cluster.layout x at) phase lack))
        (course cluster base since e x b standing recover all at at_is at_ballot).lacks

  -- ---- the outcome

  brought_is : IsBody cluster whole x brought
  brought_is =
      recover_body cluster whole standing.stands e.actor (is_of_node cluster base since e x b standing recover) (it cluster base since e x b standing recover)
      (past cluster base since e x b standing recover) x brought (it_at cluster base since e x b standing recover) refl

  abbrev Finished : Type 0
  Finished =
      FinishedIn cluster.layout (node_of e.actor) the_start x (it cluster base since e x b standing recover) (past cluster base since e x b standing recover) brought refl the_deeds

  -- the step in which it had its outcome
  finished_in : is_ended x b whole ≡ false → is_blocked x b whole ≡ false → AtEachStore cluster whole x (λ store. has_opened cluster whole x store ≡ true) → Finished
  finished_in unended unblocked opened = by (becomes cluster base since e x b standing recover alone)
    where
      by : Becomes → Finished
      by (Runs at is of_ballot of_body) =
          let ballot = of_ballot ∙ ballot_is cluster base since e x b standing recover in
          let s = executes cluster base since e x b standing recover all at is ballot in
          absurd (no_longer_runs at is ballot s.0 s.1
          (λ store there. opened at.body store (body_is cluster base since e x b standing recover all at is ballot) there))
      by (WasEnded above n) = absurd (true≢false (sym (told (tells_ended x b) _ n (and_from (id_eq x x) (ballot_eq _ b) (eq_itself id_order x) of_it)) ∙ unended))
      by (WasBlocked ids n) = absurd (true≢false (sym (told (tells_blocked x b) _ n (and_from (id_eq x x) (ballot_eq _ b) (eq_itself id_order x) of_it)) ∙ unblocked))
      by (HasFinished f) = f

  module _ (f : Finished) where
    n : NodeStep cluster e.actor whole f.finishing f.before
    n = node_step cluster e.actor whole standing.stands f.finishing f.before f.at

    applied : (store : Actor) → IsIn store (stores_used cluster.layout brought) → took_apply cluster whole x store ≡ true
    applied store there =
        let c : Ballot = drawn cluster.layout (node_of e.actor) the_start x (it cluster base since e x b standing recover) (past cluster base since e x b standing recover) brought refl in
        let m : Message = Apply own store x c brought f.settled.t f.settled.deps f.outcome in
        let t = delivered cluster base since e x b standing recover all m refl (ballot_is cluster base since e x b standing recover)
        (record { entry = n.entry; earlier = n.earlier; at = n.at; sent = subst (λ (w : Emitted). IsIn m w.out) (sym n.emitted_is) (f.applies store there) }) in
        took_outcome m x f.outcome (ap (λ o. cond o (Some f.outcome) None) (eq_itself id_order x)) (taken_of cluster store whole)
        (record {
          step = record { message = m; sent = t.entry.emitted.out };
          past = taken_of cluster store t.before;
          at = taken_place cluster store whole t.before t.entry m t.at t.actor_is t.act_is;
          message_is = refl;
        })

    pub finishes : IsFinished cluster whole x
    finishes =
        record {
          outcome = outcome_noted whole n.earlier n.entry x f.outcome.reply n.at (subst (λ (w : Emitted). IsIn (OutcomeNote x f.outcome.reply) w.notes) (sym n.emitted_is) f.noted);
          applies = λ parts store is there. applied store (subst (λ c. IsIn store (stores_used cluster.layout c)) (some_is parts brought (sym is ∙ brought_is)) there);
        }

    -- x was begun before it
    begun_before : Noting n.earlier (BeginNote x)
    begun_before =
        begin_noted cluster n.earlier x f.attempt.body
        (attempt_body cluster n.earlier (EachStands-past cluster n.earlier whole (past_of (Step n.entry) n.earlier whole n.at) standing.stands) e.actor
        (is_of_node cluster base since e x b standing recover) f.before x f.attempt
        (subst (λ p. IsPast p (deeds_of cluster e.actor n.earlier)) n.past_is (Whole (deeds_of cluster e.actor n.earlier))) f.is)

    pub replied : e.actor ≡ home_node x → KeepsClient x whole → is_replied x whole ≡ true
    replied home_is k =
        ⊎_elim
        (λ waits.
        note_told (replies x) whole n.earlier n.entry (ReplyNote x f.outcome.reply) n.at
        (subst (λ (w : Emitted). IsIn (ReplyNote x f.outcome.reply) w.notes) (sym n.emitted_is)
        (f.replies (ap (is_open x) (sym n.past_is) ∙ ap (λ c. is_open x (deeds_of cluster c n.earlier)) home_is ∙ waits)))
        (eq_itself id_order x))
        (λ before. replied_past cluster x n.earlier whole (past_of (Step n.entry) n.earlier whole n.at) before)
        (served_before cluster x whole n.earlier (Step n.entry) standing.stands k n.at begun_before)

-- ---- the laws

module _ (cluster : Cluster) where
  with_entry : (a : Actor) (x : TxnId) (b : Ballot) (later : List Item) → IsAttempt a x b later → (P : List Item → Type 0)
      → ((since : List Item) (e : Entry) → e.actor ≡ a → IsRecover e.actor x b e → list_any (disturbs e.actor x) since ≡ false → P (since ++ Step e ∷ [])) → P later
  with_entry a x b later k P h =
      subst P (sym k.items_are)
      (h k.since k.entry k.recover.actor_is (record { txn = k.recover.txn; event_is = k.recover.event_is; actor_is = refl; noted = k.recover.noted })
      (subst (λ c. list_any (disturbs c x) k.since ≡ false) (sym k.recover.actor_is) k.alone))

  pub attempts_end : AttemptsEnd cluster
  attempts_end a x b base later standing k all =
      with_entry a x b later k (λ l. IsStanding cluster (l ++ base) → TakesAll base l → HasEnd cluster (l ++ base) x b)
      (λ since e actor_is recover alone s t. ends cluster base since e x b s recover t alone) standing all

  pub opened_attempts_finish : OpenedAttemptsFinish cluster
  opened_attempts_finish a x b base later standing k all unended unblocked opened =
      with_entry a x b later k
      (λ l. IsStanding cluster (l ++ base) → TakesAll base l → is_ended x b (l ++ base) ≡ false → is_blocked x b (l ++ base) ≡ false
      → AtEachStore cluster (l ++ base) x (λ store. has_opened cluster (l ++ base) x store ≡ true) → IsFinished cluster (l ++ base) x)
      (λ since e actor_is recover alone s t u v w. finishes cluster base since e x b s recover t alone (finished_in cluster base since e x b s recover t alone u v w))
      standing all unended unblocked opened

  pub opened_attempts_reply : OpenedAttemptsReply cluster
  opened_attempts_reply x b base later standing k all unended unblocked opened client =
      with_entry (home_node x) x b later k
      (λ l. IsStanding cluster (l ++ base) → TakesAll base l → is_ended x b (l ++ base) ≡ false → is_blocked x b (l ++ base) ≡ false
      → AtEachStore cluster (l ++ base) x (λ store. has_opened cluster (l ++ base) x store ≡ true) → KeepsClient x (l ++ base) → is_replied x (l ++ base) ≡ true)
      (λ since e actor_is recover alone s t u v w z.
      replied cluster base since e x b s recover t alone (finished_in cluster base since e x b s recover t alone u v w) actor_is z)
      standing all unended unblocked opened client
