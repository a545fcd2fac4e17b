-- An attempt all of whose messages are delivered, and that runs on, executes.
use Rattle.std.proofs.Common.{◌≡◌, ℕ, suc, ◌≤◌, true, false, ◌||◌, List, [], ◌∷◌, ◌++◌, Some, refl, sym, ◌∙◌, ap, subst, arith}
use Rattle.std.specs.List.{list_any}
use Rattle.std.proofs.lemmas.Bool.{true≢false, and_parts, and_from}
use Rattle.acc_stamp.specs.declared.stamps.TxnId.{TxnId}
use Rattle.acc_stamp.specs.declared.stamps.Ballot.{Ballot}
use Rattle.acc_stamp.specs.declared.actors.Actor.{Actor}
use Rattle.acc_stamp.specs.Actor.{actor_of, node_of, home_of}
use Rattle.acc_stamp.specs.Stamp.{id_eq, ballot_eq, zero_ballot}
use Rattle.acc_stamp.proofs.Order.{id_order, ballot_order, eq_itself}
use Rattle.acc_deps.specs.declared.records.Settled.{Settled}
use Rattle.acc_deps.specs.declared.shards.ShardDeps.{ShardDeps}
use Rattle.acc_txn.specs.declared.parts.BodyParts.{BodyParts}
use Rattle.acc_message.specs.declared.message.Message.{Message}
use Rattle.acc_message.specs.declared.message.Message.TheVariants.{Accept, AcceptOk, Commit, CommitOk, Recover, RecoverOk}
use Rattle.acc_message.specs.declared.entry.Entry.{Entry}
use Rattle.acc_message.specs.declared.item.Item.{Item}
use Rattle.acc_message.specs.declared.item.Item.TheVariants.{Step}
use Rattle.acc_message.specs.Fields.{from_of, id_of, ballot_of}
use Rattle.acc_message.specs.Items.{same_actor}
use Rattle.acc_message.specs.Shares.{stores_used}
use Rattle.acc_message.specs.Taken.{Taken, taking}
use Rattle.acc_message.specs.VoteRule.{known_below}
use Rattle.acc_message.specs.Evidence.{view_of}
use Rattle.acc_message.specs.BallotRules.{promise_of, stable_of, grants, is_accept_ok, is_commit_ok, is_recover_ok}
use Rattle.acc_message.specs.StoreRules.{body_counting, store_answer}
use Rattle.acc_message.specs.Attempts.{Attempt, Phase, Voting, Recovering, Accepting, Committing, Executing, fits}
use Rattle.acc_message.specs.Coordinator.{is_decided, is_past_recover}
use Rattle.acc_message.specs.NodeRules.{Recovers, Takes, Deed, next_draw, next_ballot, attempt_of}
use Rattle.acc_message.specs.Run.{Cluster, clock_start, deeds_of, taken_of, is_node}
use Rattle.acc_actor_laws.proofs.PhaseFacts.{first_has_zero}
use Rattle.acc_safety.specs.Places.{IsIn, StandsAt, IsPast, Whole, Behind, InOrder, IsOlder, IsSame, IsNewer}
use Rattle.acc_safety.specs.Histories.{Sending}
use Rattle.acc_safety.specs.Valid.{IsStanding}
use Rattle.acc_safety.proofs.PlaceOrder.{in_order, any_from, IsPast-trans, StandsAt-whole, StandsAt-behind, StandsAt-IsPast, StandsAt-IsIn}
use Rattle.acc_safety.proofs.Bridge.{store_step, each_answers, answers_at}
use Rattle.acc_safety.proofs.Frame.{past_of}
use Rattle.acc_safety.proofs.Draws.{IsDraw, DrawsBallot, draw_differs}
use Rattle.acc_safety_laws.proofs.Ranks.{rank, advances}
use Rattle.acc_safety_laws.proofs.Stages.{Stage, accept_stage, commit_stage}
use Rattle.acc_calm.proofs.Delivered.{entry_deed, took_step}
use Rattle.acc_calm.proofs.ZeroBallots.{step_sending}
use Rattle.acc_calm.proofs.Undecided.{store_place}
use Rattle.acc_delivered.specs.Stretches.{TakesAll}
use Rattle.acc_delivered.specs.Rounds.{IsRecover}
use Rattle.acc_delivered.specs.Laws.{LacksIn}
use Rattle.acc_delivered.proofs.Courses.{request}
use Rattle.acc_delivered.proofs.Asked.{past_length}
use Rattle.acc_delivered.proofs.Started.{e_at, act_is, ballot_is, body, it, it_at, past, not_zero_ballot, home_is, sent_later, none_of}
use Rattle.acc_delivered.proofs.Answering.{StoreAnswer, proposal_answered, recover_answered, is_recover_with, FirstRecover, first_recover, promise_granted}
use Rattle.acc_delivered.proofs.Resting.{its_start, its_deeds, own, deeds_here, asks_of, course, request_taken, request_to, answer_known, seated, never_rests, proposal_seated}

-- ---- stores answer proposals and commits

accept_answer : (cluster : Cluster) (asker store : Actor) (x : TxnId) (b : Ballot) (brought : BodyParts) (s : Settled) (history : List Taken)
    → StoreAnswer store x b (Unit {0}) (fits (Accepting s)) (store_answer cluster.layout store history (request asker x b brought (Accepting s) store))
accept_answer cluster asker store x b brought s history =
    let now : List Taken = taking (Accept asker store x b brought s.t s.deps) history in
    let deps : List ShardDeps = known_below cluster.layout store now x (body_counting now x brought) s.t in
    proposal_answered store x b (fits (Accepting s)) (promise_of history x) (AcceptOk store (home_of x b) x b deps)
    (record { from_is = refl; to_is = refl; about = refl; of_ballot = refl; kind_is = refl }) (stable_of history x)

commit_answer : (cluster : Cluster) (asker store : Actor) (x : TxnId) (b : Ballot) (brought : BodyParts) (s : Settled) (history : List Taken)
    → StoreAnswer store x b (Unit {0}) (fits (Committing s)) (store_answer cluster.layout store history (request asker x b brought (Committing s) store))
commit_answer cluster asker store x b brought s history =
    proposal_answered store x b (fits (Committing s)) (promise_of history x) (CommitOk store (home_of x b) x b)
    (record { from_is = refl; to_is = refl; about = refl; of_ballot = refl; kind_is = refl }) (stable_of history x)

-- ---- and a Recover

recover_answer : (cluster : Cluster) (store : Actor) (x : TxnId) (b : Ballot) (history : List Taken) (m : Message) → is_recover_with x b m ≡ true
    → (promise_of history x ≡ b → ⊥) → StoreAnswer store x b ⊥ (fits Recovering) (store_answer cluster.layout store history m)
recover_answer cluster store x b history (Recover from to id ballot brought) is differs =
    let parts = and_parts (id_eq id x) (ballot_eq ballot b) is in
    by ((id_order.decides id x).0 parts.0) ((ballot_order.decides ballot b).0 parts.1)
  where
    by : id ≡ x → ballot ≡ b → StoreAnswer store x b ⊥ (fits Recovering) (store_answer cluster.layout store history (Recover from to id ballot brought))
    by same_id same_ballot =
        subst (λ y. StoreAnswer store y b ⊥ (fits Recovering) (store_answer cluster.layout store history (Recover from to id ballot brought))) same_id
        (subst (λ c. StoreAnswer store id c ⊥ (fits Recovering) (store_answer cluster.layout store history (Recover from to id ballot brought))) same_ballot
        (let now : List Taken = taking (Recover from to id ballot brought) history in
        recover_answered store id ballot (fits Recovering) (promise_of history id)
        (RecoverOk store (home_of id ballot) id ballot (view_of cluster.layout store history now id (body_counting now id brought)))
        (record { from_is = refl; to_is = refl; about = refl; of_ballot = refl; kind_is = refl })
        (λ same. differs (ap (promise_of history) (sym same_id) ∙ same ∙ same_ballot))))
recover_answer cluster store x b history m is differs = absurd (true≢false (sym is))

recover_about : (x : TxnId) (b : Ballot) (m : Message) → is_recover_with x b m ≡ true → (id_of m ≡ x) × (ballot_of m ≡ b)
recover_about x b (Recover from to id ballot brought) is =
    let parts = and_parts (id_eq id x) (ballot_eq ballot b) is in ((id_order.decides id x).0 parts.0, (ballot_order.decides ballot b).0 parts.1)
recover_about x b m is = absurd (true≢false (sym is))

recover_is_with : (asker store : Actor) (x : TxnId) (b : Ballot) (brought : BodyParts) → is_recover_with x b (request asker x b brought Recovering store) ≡ true
recover_is_with asker store x b brought = and_from (id_eq x x) (ballot_eq b b) (eq_itself id_order x) (eq_itself ballot_order b)

module _ (cluster : Cluster) (base since : List Item) (e : Entry) (x : TxnId) (b : Ballot) (standing : IsStanding cluster ((since ++ Step e ∷ []) ++ base))
    (recover : IsRecover e.actor x b e) (all : TakesAll base (since ++ Step e ∷ [])) (at : Attempt)
    (at_is : attempt_of cluster.layout (node_of e.actor) (its_start cluster base since e x b standing recover all) x (its_deeds cluster base since e x b standing recover all) ≡ Some at)
    (at_ballot : at.ballot ≡ b) where
  abbrev whole : List Item
  whole = (since ++ Step e ∷ []) ++ base

  abbrev the_start : ℕ
  the_start = its_start cluster base since e x b standing recover all

  abbrev the_deeds : List Deed
  the_deeds = its_deeds cluster base since e x b standing recover all

  abbrev Goal : Type 0
  Goal = (s : Settled) × (at.phase ≡ Executing s)

  accepting : (s : Settled) → at.phase ≡ Accepting s → Goal
  accepting s is =
      absurd (never_rests cluster base since e x b standing recover all at at_is at_ballot
      (proposal_seated cluster base since e x b standing recover all at at_is at_ballot (ap is_decided is) (ap (λ p. is_past_recover p || ballot_eq at.ballot zero_ballot) is)
      (λ store history.
      subst (λ c. StoreAnswer store x c (Unit {0}) (fits at.phase) (store_answer cluster.layout store history (asks_of cluster base since e x b standing recover all at at_is at_ballot store))) at_ballot
      (subst (λ p. StoreAnswer store x at.ballot (Unit {0}) (fits p) (store_answer cluster.layout store history (request (actor_of (node_of e.actor) 0) x at.ballot at.body p store))) (sym is)
      (accept_answer cluster (actor_of (node_of e.actor) 0) store x at.ballot at.body s history))))
      (λ lack. subst (LacksIn cluster.layout x at) is lack))

  committing : (s : Settled) → at.phase ≡ Committing s → Goal
  committing s is =
      absurd (never_rests cluster base since e x b standing recover all at at_is at_ballot
      (proposal_seated cluster base since e x b standing recover all at at_is at_ballot (ap is_decided is) (ap (λ p. is_past_recover p || ballot_eq at.ballot zero_ballot) is)
      (λ store history.
      subst (λ c. StoreAnswer store x c (Unit {0}) (fits at.phase) (store_answer cluster.layout store history (asks_of cluster base since e x b standing recover all at at_is at_ballot store))) at_ballot
      (subst (λ p. StoreAnswer store x at.ballot (Unit {0}) (fits p) (store_answer cluster.layout store history (request (actor_of (node_of e.actor) 0) x at.ballot at.body p store))) (sym is)
      (commit_answer cluster (actor_of (node_of e.actor) 0) store x at.ballot at.body s history))))
      (λ lack. subst (LacksIn cluster.layout x at) is lack))

  -- ---- a recovery that asks for views

  module _ (is : at.phase ≡ Recovering) where
    -- what was granted before isn't of its ballot
    later_phase : (phase : Phase) (most : ℕ) → Stage cluster whole x b phase most → 1 ≤ rank phase → ⊥
    later_phase phase most k high =
        low (advanced (home_is cluster base since e x b standing recover) k.stage.deed k.stage.past k.stage.at k.stage.after k.stage.after_is k.stage.after_ballot) (ap rank is) (ap rank k.stage.after_phase)
      where
        low : {p q : ℕ} → p ≤ q → q ≡ 0 → p ≡ rank phase → ⊥
        low f g h = omega (arith, f, g, h, high)

        advanced : {home : Actor} → home ≡ e.actor → (deed : Deed) (before : List Deed) → StandsAt deed before (deeds_of cluster home whole) → (after : Attempt)
            → attempt_of cluster.layout (node_of home) (clock_start cluster.starts (node_of home)) x (deed ∷ before) ≡ Some after → after.ballot ≡ b
            → rank after.phase ≤ rank at.phase
        advanced {home} same deed before there after after_is after_ballot =
            by (subst (λ c. StandsAt deed before (deeds_of cluster c whole)) same there)
            (subst (λ c. attempt_of cluster.layout (node_of c) (clock_start cluster.starts (node_of c)) x (deed ∷ before) ≡ Some after) same after_is)
          where
            by : StandsAt deed before the_deeds → attempt_of cluster.layout (node_of e.actor) the_start x (deed ∷ before) ≡ Some after → rank after.phase ≤ rank at.phase
            by place now =
                advances cluster.layout (node_of e.actor) the_start x (deed ∷ before) the_deeds after at (StandsAt-IsPast deed before the_deeds place) now at_is
                (at_ballot ∙ sym after_ballot)

    never_granted : (store : Actor) (history : List Taken) (m : Message) (sent : List Message) → Sending whole m → grants x m sent ≡ true → ballot_of m ≡ b
        → is_recover_with x b m ≡ false → ⊥
    never_granted store history (Accept from to id ballot brought t deps) sent s granted of_ballot none =
        later_phase (Accepting (record { t = t; deps = deps })) 0
        (accept_stage cluster whole standing.stands from to x b brought t deps
        (subst (λ y. Sending whole (Accept from to y b brought t deps)) ((id_order.decides id x).0 (and_parts (id_eq id x) (list_any is_accept_ok sent) granted).0)
        (subst (λ c. Sending whole (Accept from to id c brought t deps)) of_ballot s))) (omega arith)
    never_granted store history (Commit from to id ballot brought t deps) sent s granted of_ballot none =
        later_phase (Committing (record { t = t; deps = deps })) 1
        (commit_stage cluster whole standing.stands from to x b brought t deps
        (subst (λ y. Sending whole (Commit from to y b brought t deps)) ((id_order.decides id x).0 (and_parts (id_eq id x) (list_any is_commit_ok sent) granted).0)
        (subst (λ c. Sending whole (Commit from to id c brought t deps)) of_ballot s))) (omega arith)
    never_granted store history (Recover from to id ballot brought) sent s granted of_ballot none =
        true≢false
        (sym (and_from (id_eq id x) (ballot_eq ballot b) (and_parts (id_eq id x) (list_any is_recover_ok sent) granted).0 ((ballot_order.decides ballot b).1 of_ballot)) ∙ none)
    never_granted store history m sent s granted of_ballot none = true≢false (sym granted)

    -- the step that asked is the recover itself
    same_draw : (deed : Deed) (before : List Deed) → StandsAt deed before the_deeds → deed.act ≡ Recovers x at.body → at.ballot ≡ next_ballot (node_of e.actor) the_start before
        → deed ∷ before ≡ it cluster base since e x b standing recover ∷ past cluster base since e x b standing recover
    same_draw deed before there act ballot =
        by (in_order (it cluster base since e x b standing recover) deed (past cluster base since e x b standing recover) before the_deeds (it_at cluster base since e x b standing recover) there)
      where
        drawn_same : next_draw (node_of e.actor) the_start (past cluster base since e x b standing recover) ≡ next_draw (node_of e.actor) the_start before
        drawn_same = ap (λ (c : Ballot). c.0) (ballot_is cluster base since e x b standing recover ∙ sym at_ballot ∙ ballot)

        by : InOrder (it cluster base since e x b standing recover) deed (past cluster base since e x b standing recover) before
            → deed ∷ before ≡ it cluster base since e x b standing recover ∷ past cluster base since e x b standing recover
        by (IsOlder older) = absurd (draw_differs (node_of e.actor) the_start _ _ before older (DrawsBallot x (body cluster base since e x b standing recover)) drawn_same)
        by (IsSame one same) = sym (ap (λ d. d ∷ past cluster base since e x b standing recover) one ∙ ap (λ p. deed ∷ p) same)
        by (IsNewer newer) =
            absurd (draw_differs (node_of e.actor) the_start deed before _ newer (subst IsDraw (sym act) (DrawsBallot x at.body)) (sym drawn_same))

    front_is : deeds_of cluster e.actor (Step e ∷ base)
        ≡ (course cluster base since e x b standing recover all at at_is at_ballot).deed ∷ (course cluster base since e x b standing recover all at at_is at_ballot).before
    front_is =
        let k = course cluster base since e x b standing recover all at at_is at_ballot in
        let r = k.recovers is in
        deeds_here cluster e.actor base e (it cluster base since e x b standing recover) refl (act_is cluster base since e x b standing recover) refl
        ∙ sym (same_draw k.deed k.before k.at r.0 r.1)

    -- a message of the attempt was sent by the recover, or later
    sent_since : (items : List Item) → IsPast items whole → (m : Message) → id_of m ≡ x → ballot_of m ≡ b → Sending items m → IsPast (Step e ∷ base) items
    sent_since items within m about of_ballot s =
        IsPast-trans (Step e ∷ base) (Step s.entry ∷ s.earlier) items
        (by (in_order (Step e) (Step s.entry) base s.earlier whole (e_at cluster base since e x b standing recover) (StandsAt-whole (Step s.entry) s.earlier items whole s.at within)))
        (StandsAt-IsPast (Step s.entry) s.earlier items s.at)
      where
        by : InOrder (Step e) (Step s.entry) base s.earlier → IsPast (Step e ∷ base) (Step s.entry ∷ s.earlier)
        by (IsOlder older) = Behind (Step s.entry) (Step e ∷ base) s.earlier (StandsAt-IsPast (Step e) base s.earlier older)
        by (IsSame one same) = subst (λ l. IsPast (Step e ∷ base) l) (ap (λ i. i ∷ base) one ∙ ap (λ l. Step s.entry ∷ l) same) (Whole (Step e ∷ base))
        by (IsNewer newer) =
            absurd (short (past_length base s.earlier (sent_later cluster base since e x b standing recover m about of_ballot (record { entry = s.entry; earlier = s.earlier; at = StandsAt-whole (Step s.entry) s.earlier items whole s.at within; sent = s.sent })))
            (past_length (Step s.entry ∷ s.earlier) base (StandsAt-IsPast (Step s.entry) s.earlier base newer)))
          where
            short : {k l : ℕ} → k ≤ l → suc l ≤ k → ⊥
            short p q = omega (arith, p, q)

    module _ (store : Actor) (there : IsIn store (stores_used cluster.layout at.body)) where
      store_is : is_node store ≡ false
      store_is = (store_place cluster.layout at.body store standing.valid.layout there).no_node

      was_asked : list_any (λ (s : Taken). is_recover_with x b s.message) (taken_of cluster store whole) ≡ true
      was_asked =
          let t = request_taken cluster base since e x b standing recover all at at_is at_ballot store there in
          let m : Message = asks_of cluster base since e x b standing recover all at at_is at_ballot store in
          let k = took_step m (deeds_of cluster store whole)
          (record {
            deed = record { act = Takes m; emitted = t.entry.emitted };
            past = deeds_of cluster store t.before;
            at =
                subst (λ c. StandsAt (record { act = Takes m; emitted = t.entry.emitted }) (deeds_of cluster c t.before) (deeds_of cluster c whole))
                (t.actor_is ∙ request_to (own cluster base since e x b standing recover all) x at.ballot at.body at.phase store)
                (entry_deed cluster whole t.before t.entry (Takes m) t.at t.act_is);
            act_is = refl;
          }) in
          any_from (λ (s : Taken). is_recover_with x b s.message) k.step (taken_of cluster store whole) (StandsAt-IsIn k.step k.past (taken_of cluster store whole) k.at)
          (ap (is_recover_with x b) k.message_is
          ∙ ap (λ p. is_recover_with x b (request (own cluster base since e x b standing recover all) x at.ballot at.body p store)) is
          ∙ ap (λ c. is_recover_with x b (request (own cluster base since e x b standing recover all) x c at.body Recovering store)) at_ballot
          ∙ recover_is_with (own cluster base since e x b standing recover all) store x b at.body)

      f : FirstRecover x b (taken_of cluster store whole)
      f = first_recover x b (taken_of cluster store whole) was_asked

      not_promised : promise_of f.past x ≡ b → ⊥
      not_promised same =
          let g = promise_granted x b f.past same (not_zero_ballot cluster base since e x b standing recover) in
          never_granted store f.past g.step.message g.step.sent
          (step_sending cluster whole standing.stands store g.step g.past (StandsAt-behind g.step f.step g.past f.past (taken_of cluster store whole) g.at f.at))
          g.granted g.of_ballot
          (none_of (λ (s : Taken). is_recover_with x b s.message) g.step f.past f.none (StandsAt-IsIn g.step g.past f.past g.at))

      view_seated : list_any (λ m. same_actor (from_of m) store) at.answers ≡ true
      view_seated =
          let st = store_step cluster store whole standing.stands f.step f.past f.at in
          let sent_is = answers_at cluster.layout store (taken_of cluster store whole) f.step f.past (each_answers cluster store whole standing.stands store_is) f.at in
          let s : StoreAnswer store x b ⊥ (fits at.phase) (store_answer cluster.layout store f.past f.step.message) =
          subst (λ p. StoreAnswer store x b ⊥ (fits p) (store_answer cluster.layout store f.past f.step.message)) (sym is)
          (recover_answer cluster store x b f.past f.step.message f.is not_promised) in
          let k = recover_about x b f.step.message f.is in
          seated cluster base since e x b standing recover all at at_is at_ballot store there (ap is_decided is) ⊥ (λ never. absurd never)
          (store_answer cluster.layout store f.past f.step.message) s
          (answer_known cluster base since e x b standing recover all at at_is at_ballot (Step e ∷ base) front_is st.entry st.earlier st.at
          (sent_since st.earlier (past_of (Step st.entry) st.earlier whole st.at) f.step.message k.0 k.1 st.sending)
          s.message (subst (IsIn s.message) (sym (st.out_is ∙ sent_is)) s.there) s.about s.of_ballot s.to_is)

  recovering : at.phase ≡ Recovering → Goal
  recovering is =
      absurd (never_rests cluster base since e x b standing recover all at at_is at_ballot (view_seated is) (λ lack. subst (LacksIn cluster.layout x at) is lack))

  pub executes : Goal
  executes = by at.phase refl
    where
      by : (phase : Phase) → at.phase ≡ phase → Goal
      by Voting is =
          absurd (true≢false
          (sym ((ballot_order.decides b zero_ballot).1 (sym at_ballot ∙ first_has_zero cluster.layout (node_of e.actor) the_start x the_deeds at at_is is))
          ∙ not_zero_ballot cluster base since e x b standing recover))
      by Recovering is = recovering is
      by (Accepting s) is = accepting s is
      by (Committing s) is = committing s is
      by (Executing s) is = (s, is)
