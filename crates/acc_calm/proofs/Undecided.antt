-- In a calm run every attempt is decided: each request of a phase is taken and answered, and the answers of all stores are enough.
use Rattle.std.proofs.Common.{◌≡◌, ℕ, ◌+◌, ◌*◌, ◌%◌, ◌≤◌, Bool, true, false, cond, List, [], ◌∷◌, Option, None, Some, refl, sym, ◌∙◌, ap, subst, arith, ◌⊎◌, inl, inr, ⊎_elim}
use Rattle.std.specs.List.{list_any}
use Rattle.std.specs.Prelude.{◌==◌}
use Rattle.std.proofs.lemmas.Bool.{true≢false, and_from, eqb-true, eq-eqb, false_from_ne_true}
use Rattle.acc_stamp.specs.declared.stamps.TxnId.{TxnId}
use Rattle.acc_stamp.specs.declared.stamps.Ballot.{Ballot}
use Rattle.acc_stamp.specs.declared.actors.Actor.{Actor}
use Rattle.acc_stamp.specs.Actor.{actor_of, node_of, shard_of, home_of}
use Rattle.acc_stamp.specs.Stamp.{ballot_lt, zero_ballot}
use Rattle.acc_topology.specs.Layout.{Layout, IsLayout, HasShard, shard_at}
use Rattle.acc_deps.specs.declared.records.Settled.{Settled}
use Rattle.acc_txn.specs.declared.parts.BodyParts.{BodyParts}
use Rattle.acc_message.specs.declared.message.Message.{Message}
use Rattle.acc_message.specs.declared.message.Message.TheVariants.{PreAccept, PreAcceptOk, Accept, AcceptOk, Commit, CommitOk, Decided}
use Rattle.acc_message.specs.declared.item.Item.{Item}
use Rattle.acc_message.specs.Fields.{from_of, to_of, id_of}
use Rattle.acc_message.specs.Items.{same_actor}
use Rattle.acc_message.specs.Shares.{shards_used, stores_of_shard, stores_used, is_store_of}
use Rattle.acc_message.specs.Taken.{Taken, taking}
use Rattle.acc_message.specs.VoteRule.{Vote, vote_for, known_below}
use Rattle.acc_message.specs.BallotRules.{promise_of, stable_of, is_accept_ok, is_commit_ok}
use Rattle.acc_message.specs.StoreRules.{body_counting, nack, unless_stable, unless_promised, store_answer}
use Rattle.acc_message.specs.Attempts.{Attempt, Phase, Voting, Recovering, Accepting, Committing, Executing, fits, same_seat, is_preaccept_ok, majority_everywhere, fast_lost_somewhere}
use Rattle.acc_message.specs.Coordinator.{is_decided}
use Rattle.acc_message.specs.NodeRules.{Begins, Takes, Deed, next_id, node_emits}
use Rattle.acc_message.specs.Run.{Cluster, clock_start, deeds_of, taken_of, is_node}
use Rattle.acc_safety.specs.Calm.{IsCalm}
use Rattle.acc_safety.specs.Places.{IsIn, First, StandsAt, Whole}
use Rattle.acc_safety.specs.Histories.{Sending}
use Rattle.acc_safety.specs.NodeMoves.{Wait, ToMessage, Ignores}
use Rattle.acc_safety.specs.Attempted.{Took, Origin, FromBegin, FromRecover}
use Rattle.acc_safety.specs.Polls.{IsBody}
use Rattle.acc_safety.specs.Valid.{IsStanding}
use Rattle.acc_safety.proofs.PlaceOrder.{any_from, map-IsIn, IsIn-map, IsIn-flat_map}
use Rattle.acc_safety.proofs.Bridge.{store_step, each_answers, answers_at}
use Rattle.acc_safety.proofs.Frame.{past_of}
use Rattle.acc_safety.proofs.Attempted.{origin_of}
use Rattle.acc_safety.proofs.BodiesBegun.{attempt_body}
use Rattle.acc_safety.proofs.Meetings.{used-HasShard}
use Rattle.acc_safety_laws.proofs.Phased.{SentToAll, Entered, HasEntered, has_entered}
use Rattle.acc_safety_laws.proofs.Within.{begun_has_store, sent_to_one}
use Rattle.acc_calm.proofs.Delivered.{delivered, acts_are_calm, IsCalmAct, TookStep, took_step}
use Rattle.acc_calm.proofs.ZeroBallots.{home_is_node, attempt_zero, promise_zero}
use Rattle.acc_calm.proofs.Reactions.{IsCalmPhase, is_told, NotReadyIn, IsHeard}
use Rattle.acc_calm.proofs.Courses.{all, own, at_x, Course, course}
use Rattle.acc_calm.proofs.AllAnswered.{in_among, majorities_answered, fast_or_lost_answered}

-- ---- stores of a body

pub record StorePlace (layout : Layout) (body : BodyParts) (store : Actor) : Type 0 where
  pub node : ℕ
  pub shard : ℕ
  pub is : store ≡ actor_of node shard
  pub used : IsIn shard (shards_used layout body)
  pub replica : IsIn node (shard_at layout shard).replicas
  pub of_shard : shard_of store ≡ shard
  pub no_node : is_node store ≡ false

number : (node shard : ℕ) → shard ≤ 15 → (node * 64 + shard) % 64 ≡ shard
number node shard h = omega arith

pub shard_of_store : (layout : Layout) (node shard : ℕ) → IsLayout layout → HasShard layout shard → shard_of (actor_of node shard) ≡ shard
shard_of_store layout node shard valid has = number node shard (low shard has.1 valid.few_shards)
  where
    low : (k : ℕ) {n : ℕ} → k ≤ n → n ≤ 15 → k ≤ 15
    low k p q = omega (arith, p, q)

pub store_place : (layout : Layout) (body : BodyParts) (store : Actor) → IsLayout layout → IsIn store (stores_used layout body) → StorePlace layout body store
store_place layout body store valid there =
    let s = IsIn-flat_map (stores_of_shard layout) store (shards_used layout body) there in
    let n = IsIn-map (λ node. actor_of node s.source) store (shard_at layout s.source).replicas s.within in
    let has : HasShard layout s.source = used-HasShard layout body s.source valid (in_among s.source (shards_used layout body) s.there) in
    let shard_is : shard_of store ≡ s.source = ap shard_of n.is ∙ shard_of_store layout n.source s.source valid has in
    record {
      node = n.source;
      shard = s.source;
      is = n.is;
      used = s.there;
      replica = n.there;
      of_shard = shard_is;
      no_node = false_from_ne_true (shard_of store == 0) (λ zero_is. above s.source has.0 (sym shard_is ∙ eqb-true (shard_of store) 0 zero_is));
    }
  where
    above : (shard : ℕ) → 1 ≤ shard → shard ≡ 0 → ⊥
    above shard p q = omega (arith, p, q)

pub used_is_store : (layout : Layout) (body : BodyParts) (store : Actor) → IsIn store (stores_used layout body) → is_store_of layout body store ≡ true
used_is_store layout body store there = any_from (λ (s : Actor). s.0 == store.0) store (stores_used layout body) there (eq-eqb store.0 store.0 refl)

-- ---- a store's plain answer

-- the answer of a store to the home of x: it tells of a decision, or is of the kind
record PlainAnswer (own : Actor) (x : TxnId) (kind : Message → Bool) (sent : List Message) : Type 0 where
  pub message : Message
  pub there : IsIn message sent
  pub from_is : from_of message ≡ own
  pub to_is : to_of message ≡ home_of x zero_ballot
  pub about : id_of message ≡ x
  pub kind_is : (is_told message ≡ true) ⊎ (kind message ≡ true)

plain_answer : (own : Actor) (x : TxnId) (kind : Message → Bool) (promised : Ballot) (o : Option Settled) (ok : Message) → promised ≡ zero_ballot
    → from_of ok ≡ own → to_of ok ≡ home_of x zero_ballot → id_of ok ≡ x → kind ok ≡ true
    → PlainAnswer own x kind (unless_stable own x zero_ballot o (unless_promised own x zero_ballot promised zero_ballot (ok ∷ [])))
plain_answer own x kind promised (Some s) ok z from_is to_is about is =
    record {
      message = Decided own (home_of x zero_ballot) x zero_ballot s.t s.deps;
      there = First (Decided own (home_of x zero_ballot) x zero_ballot s.t s.deps) [];
      from_is = refl;
      to_is = refl;
      about = refl;
      kind_is = inl refl;
    }
plain_answer own x kind promised None ok z from_is to_is about is =
    subst (λ b. PlainAnswer own x kind (cond (ballot_lt zero_ballot b) (nack own x zero_ballot b) (ok ∷ []))) (sym z)
    (record { message = ok; there = First ok []; from_is = from_is; to_is = to_is; about = about; kind_is = inr is })

module _ (cluster : Cluster) (items : List Item) (standing : IsStanding cluster items) (calm : IsCalm items) where
  -- what a store sent in a step was sent
  pub step_sent : (a : Actor) → (step : Taken) (past : List Taken) → StandsAt step past (taken_of cluster a items) → (m : Message) → IsIn m step.sent → Sending items m
  step_sent a step past at m there =
      let s = store_step cluster a items standing.stands step past at in
      record { entry = s.entry; earlier = s.earlier; at = s.at; sent = subst (IsIn m) (sym s.out_is) there }

  -- ---- an attempt that stays undecided

  module _ (x : TxnId) (a : Attempt) (a_is : at_x cluster items standing.stands calm x (all cluster items standing.stands calm x) ≡ Some a) where
    abbrev its_home : Actor
    its_home = home_of x zero_ballot

    abbrev deeds : List Deed
    deeds = deeds_of cluster its_home items

    abbrev itself : Actor
    itself = actor_of (node_of its_home) 0

    abbrev start : ℕ
    start = clock_start cluster.starts (node_of its_home)

    node : is_node its_home ≡ true
    node = home_is_node x zero_ballot

    its_course : Course cluster items standing.stands calm x deeds a
    its_course = course cluster items standing.stands calm x deeds (Whole deeds) a a_is

    pub its_body : IsBody cluster items x a.body
    its_body = attempt_body cluster items standing.stands its_home node deeds x a (Whole deeds) a_is

    zero_is : a.ballot ≡ zero_ballot
    zero_is = attempt_zero cluster items standing.stands calm its_home deeds x a (Whole deeds) a_is

    -- what brought it to its phase went to all stores
    entered : HasEntered cluster.layout (node_of its_home) start x deeds a
    entered =
        let m : Message = CommitOk its_home its_home x zero_ballot in
        has_entered cluster.layout (node_of its_home) start x deeds (Takes m) a Wait (ToMessage a a m Wait a_is refl (Ignores m))

    pub phase_sent : (phase : Phase) → a.phase ≡ phase → Entered cluster.layout (node_of its_home) start x deeds zero_ballot a.body phase
    phase_sent phase is =
        subst (λ b. Entered cluster.layout (node_of its_home) start x deeds b a.body phase) zero_is
        (subst (λ p. Entered cluster.layout (node_of its_home) start x deeds a.ballot a.body p) is entered)

    pub sent_one : (message_to : Actor → Message) (store : Actor) → SentToAll cluster.layout (node_of its_home) start deeds a.body message_to
        → IsIn store (stores_used cluster.layout a.body) → Sending items (message_to store)
    sent_one message_to store t there = sent_to_one cluster items standing.stands its_home node deeds a.body message_to store (Whole deeds) t there

    -- its begin asked all stores for their votes
    begun_sent : Origin cluster.layout (node_of its_home) start x deeds a
        → SentToAll cluster.layout (node_of its_home) start deeds a.body (λ store. PreAccept itself store x zero_ballot a.body)
    begun_sent (FromBegin txn deed past at act_is drawn of_zero) =
        record {
          deed = deed;
          past = past;
          at = at;
          sends = λ store there.
              subst (λ act. IsIn (PreAccept itself store x zero_ballot a.body) (node_emits cluster.layout (node_of its_home) start past act).out) (sym act_is)
              (subst (λ y. IsIn (PreAccept itself store y zero_ballot a.body) (node_emits cluster.layout (node_of its_home) start past (Begins txn a.body)).out) drawn
              (map-IsIn (λ s. PreAccept itself s (next_id (node_of its_home) start past) zero_ballot a.body) store (stores_used cluster.layout a.body) there));
        }
    begun_sent (FromRecover deed past at act_is drawn) = absurd (subst IsCalmAct act_is (acts_are_calm cluster items standing.stands calm its_home deed past at))

    votes_asked : SentToAll cluster.layout (node_of its_home) start deeds a.body (λ store. PreAccept itself store x zero_ballot a.body)
    votes_asked = begun_sent (origin_of cluster.layout (node_of its_home) start x deeds a a_is)

    -- a request is taken
    pub taken_at : (store : Actor) (request : Message) → to_of request ≡ store → Sending items request → TookStep request (taken_of cluster store items)
    taken_at store request to s =
        subst (λ b. TookStep request (taken_of cluster b items)) to
        (took_step request (deeds_of cluster (to_of request) items) (delivered cluster items standing.stands calm request s))

    -- and its answer is heard
    answer_heard : (kind : Message → Bool) (store : Actor) (request : Message) → IsIn store (stores_used cluster.layout a.body) → to_of request ≡ store → Sending items request
        → ((past : List Taken) → promise_of past x ≡ zero_ballot → PlainAnswer store x kind (store_answer cluster.layout store past request))
        → (is_decided a.phase ≡ false) → ((m : Message) → kind m ≡ true → fits a.phase m ≡ true)
        → ((m : Message) → IsHeard cluster.layout itself x a m → fits a.phase m ≡ true → is_store_of cluster.layout a.body (from_of m) ≡ true
        → list_any (λ e. same_actor (from_of e) (from_of m)) a.answers ≡ true)
        → list_any (λ e. same_actor (from_of e) store) a.answers ≡ true
    answer_heard kind store request there to s answers undecided fitting seat =
        let place = store_place cluster.layout a.body store standing.valid.layout there in
        let t = taken_at store request to s in
        let sent_is = answers_at cluster.layout store (taken_of cluster store items) t.step t.past (each_answers cluster store items standing.stands place.no_node) t.at in
        let p = answers t.past (promise_zero cluster items standing.stands calm store x t.past (past_of t.step t.past (taken_of cluster store items) t.at)) in
        let m : Message = p.message in
        let sending = step_sent store t.step t.past t.at m
        (subst (IsIn m) (sym (sent_is ∙ ap (store_answer cluster.layout store t.past) t.message_is)) p.there) in
        let took : Took deeds m = subst (λ b. Took (deeds_of cluster b items) m) p.to_is (delivered cluster items standing.stands calm m sending) in
        let heard = its_course.heard m took p.about in
        ⊎_elim (λ told. absurd (true≢false (sym (heard.told told) ∙ undecided)))
        (λ is. subst (λ b. list_any (λ e. same_actor (from_of e) b) a.answers ≡ true) p.from_is
        (seat m heard (fitting m is) (subst (λ b. is_store_of cluster.layout a.body b ≡ true) (sym p.from_is) (used_is_store cluster.layout a.body store there))))
        p.kind_is

    abbrev EachHeard : Type 0
    EachHeard = (store : Actor) → IsIn store (stores_used cluster.layout a.body) → list_any (λ e. same_actor (from_of e) store) a.answers ≡ true

    seated_in : (phase : Phase) → a.phase ≡ phase → is_decided phase ≡ false → (m : Message) → IsHeard cluster.layout itself x a m → fits a.phase m ≡ true
        → is_store_of cluster.layout a.body (from_of m) ≡ true → list_any (λ e. same_actor (from_of e) (from_of m)) a.answers ≡ true
    seated_in Voting is u m heard fit store =
        subst (λ p. list_any (λ e. same_seat p (from_of e) (from_of m)) a.answers ≡ true) is (heard.seated fit store)
    seated_in Recovering is u m heard fit store =
        subst (λ p. list_any (λ e. same_seat p (from_of e) (from_of m)) a.answers ≡ true) is (heard.seated fit store)
    seated_in (Accepting s) is u m heard fit store =
        subst (λ p. list_any (λ e. same_seat p (from_of e) (from_of m)) a.answers ≡ true) is (heard.seated fit store)
    seated_in (Committing s) is u m heard fit store =
        subst (λ p. list_any (λ e. same_seat p (from_of e) (from_of m)) a.answers ≡ true) is (heard.seated fit store)
    seated_in (Executing s) is u m heard fit store = absurd (true≢false u)

    all_votes : a.phase ≡ Voting → EachHeard
    all_votes is store there =
        answer_heard is_preaccept_ok store (PreAccept itself store x zero_ballot a.body) there refl
        (sent_one (λ s. PreAccept itself s x zero_ballot a.body) store votes_asked there)
        (λ past z.
        let now : List Taken = taking (PreAccept itself store x zero_ballot a.body) past in
        let v : Vote = vote_for cluster.layout store past now x (body_counting now x a.body) in
        plain_answer store x is_preaccept_ok (promise_of past x) (stable_of past x) (PreAcceptOk store (home_of x zero_ballot) x zero_ballot v.vote v.deps) z refl refl refl refl)
        (ap is_decided is) (λ m kind. subst (λ p. fits p m ≡ true) (sym is) kind) (seated_in Voting is refl)

    all_accepts : (s : Settled) → a.phase ≡ Accepting s → EachHeard
    all_accepts s is store there =
        answer_heard is_accept_ok store (Accept itself store x zero_ballot a.body s.t s.deps) there refl
        (sent_one (λ k. Accept itself k x zero_ballot a.body s.t s.deps) store (phase_sent (Accepting s) is) there)
        (λ past z.
        let now : List Taken = taking (Accept itself store x zero_ballot a.body s.t s.deps) past in
        plain_answer store x is_accept_ok (promise_of past x) (stable_of past x)
        (AcceptOk store (home_of x zero_ballot) x zero_ballot (known_below cluster.layout store now x (body_counting now x a.body) s.t)) z refl refl refl refl)
        (ap is_decided is) (λ m kind. subst (λ p. fits p m ≡ true) (sym is) kind) (seated_in (Accepting s) is refl)

    all_commits : (s : Settled) → a.phase ≡ Committing s → EachHeard
    all_commits s is store there =
        answer_heard is_commit_ok store (Commit itself store x zero_ballot a.body s.t s.deps) there refl
        (sent_one (λ k. Commit itself k x zero_ballot a.body s.t s.deps) store (phase_sent (Committing s) is) there)
        (λ past z. plain_answer store x is_commit_ok (promise_of past x) (stable_of past x) (CommitOk store (home_of x zero_ballot) x zero_ballot) z refl refl refl refl)
        (ap is_decided is) (λ m kind. subst (λ p. fits p m ≡ true) (sym is) kind) (seated_in (Committing s) is refl)

    -- some store of it has answered, so there is an answer
    some_answer : EachHeard → a.answers ≡ [] → ⊥
    some_answer each none =
        let store = begun_has_store cluster items x a.body standing.valid its_body in
        true≢false (sym (each store.0 store.1) ∙ ap (list_any (λ e. same_actor (from_of e) store.0)) none)

    waiting : (phase : Phase) → a.phase ≡ phase → EachHeard → NotReadyIn cluster.layout itself x a phase
    waiting phase is each =
        ⊎_elim (λ none. absurd (some_answer each none)) (λ waits. subst (NotReadyIn cluster.layout itself x a) is waits) its_course.ready

    -- so the attempt is decided
    pub executing : (phase : Phase) → a.phase ≡ phase → IsCalmPhase phase → (s : Settled) × (a.phase ≡ Executing s)
    executing Voting is c =
        let each = all_votes is in
        let waits = waiting Voting is each in
        absurd
        (⊎_elim (λ fast. true≢false (sym fast ∙ waits.0))
        (λ lost. true≢false
        (sym (and_from (majority_everywhere cluster.layout x a.body a.answers) (fast_lost_somewhere cluster.layout x a.body a.answers)
        (majorities_answered cluster.layout standing.valid.layout a.body x a.answers each) lost) ∙ waits.1))
        (fast_or_lost_answered cluster.layout standing.valid.layout a.body x a.answers each))
    executing Recovering is c = absurd c
    executing (Accepting s) is c =
        let each = all_accepts s is in
        absurd (true≢false (sym (majorities_answered cluster.layout standing.valid.layout a.body x a.answers each) ∙ waiting (Accepting s) is each))
    executing (Committing s) is c =
        let each = all_commits s is in
        absurd (true≢false (sym (majorities_answered cluster.layout standing.valid.layout a.body x a.answers each) ∙ waiting (Committing s) is each))
    executing (Executing s) is c = (s, is)

    pub decided : (s : Settled) × (a.phase ≡ Executing s)
    decided = executing a.phase refl its_course.calm_phase
