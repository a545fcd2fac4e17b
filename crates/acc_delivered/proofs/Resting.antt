-- An attempt all of whose messages are delivered doesn't rest before it executes: each store has answered its last request.
use Rattle.std.proofs.Common.{◌≡◌, ℕ, true, false, List, [], ◌∷◌, ◌++◌, Some, refl, sym, ◌∙◌, ap, subst, ◌⊎◌, inl, inr, ⊎_elim}
use Rattle.std.specs.List.{list_any}
use Rattle.std.proofs.lemmas.Bool.{true≢false}
use Rattle.acc_stamp.specs.declared.stamps.TxnId.{TxnId}
use Rattle.acc_stamp.specs.declared.stamps.Ballot.{Ballot}
use Rattle.acc_stamp.specs.declared.actors.Actor.{Actor}
use Rattle.acc_stamp.specs.Actor.{actor_of, node_of, home_of}
use Rattle.acc_txn.specs.declared.parts.BodyParts.{BodyParts}
use Rattle.acc_message.specs.declared.message.Message.{Message}
use Rattle.acc_message.specs.declared.entry.Entry.{Entry}
use Rattle.acc_message.specs.declared.entry.Emitted.{Emitted}
use Rattle.acc_message.specs.declared.item.Item.{Item}
use Rattle.acc_message.specs.declared.item.Item.TheVariants.{Step}
use Rattle.acc_message.specs.Fields.{from_of, to_of, id_of, ballot_of}
use Rattle.acc_message.specs.Items.{same_actor}
use Rattle.acc_message.specs.Shares.{stores_used, is_store_of}
use Rattle.acc_message.specs.Taken.{Taken}
use Rattle.acc_message.specs.StoreRules.{store_answer}
use Rattle.acc_message.specs.Attempts.{Attempt, Phase, Voting, Recovering, Accepting, Committing, Executing, fits, same_seat, majority_everywhere}
use Rattle.acc_message.specs.Coordinator.{is_decided}
use Rattle.acc_message.specs.NodeRules.{Takes, Deed, attempt_of}
use Rattle.acc_message.specs.Run.{Cluster, act_of, deed_with, deed_if, deeds_of, taken_of, is_node, emits_by, StandsOn, EachStands}
use Rattle.acc_actor_laws.proofs.OpeningFacts.{some_is}
use Rattle.acc_safety.specs.Places.{IsIn, StandsAt, IsPast, Whole}
use Rattle.acc_safety.specs.Histories.{Sending, NodeStep}
use Rattle.acc_safety.specs.Polls.{IsBody}
use Rattle.acc_safety.specs.Valid.{IsStanding}
use Rattle.acc_safety.proofs.PlaceOrder.{IsPast-trans, IsPast-rest}
use Rattle.acc_safety.proofs.Bridge.{same_itself, stands_at, node_step, each_emits, deeds_of-past}
use Rattle.acc_safety.proofs.BodiesBegun.{attempt_body}
use Rattle.acc_safety_laws.proofs.Within.{begun_has_store}
use Rattle.acc_calm.proofs.Delivered.{entry_deed}
use Rattle.acc_calm.proofs.Undecided.{store_place, used_is_store}
use Rattle.acc_calm.proofs.AllAnswered.{majorities_answered}
use Rattle.acc_delivered.specs.Stretches.{TakesAll}
use Rattle.acc_delivered.specs.Rounds.{IsRecover}
use Rattle.acc_delivered.specs.Laws.{LacksIn}
use Rattle.acc_delivered.proofs.Courses.{request, refuses, takes_over, Knows}
use Rattle.acc_delivered.proofs.Asked.{Asked, asked}
use Rattle.acc_delivered.proofs.Deliveries.{TakenBehind, taken_behind}
use Rattle.acc_delivered.proofs.Started.{later, items, a, start, deeds, is_of_node, home_is, sent_later}
use Rattle.acc_delivered.proofs.Answering.{StoreAnswer}

-- ---- requests

request_about : (own : Actor) (x : TxnId) (b : Ballot) (body : BodyParts) (phase : Phase) (store : Actor) → id_of (request own x b body phase store) ≡ x
request_about own x b body Voting store = refl
request_about own x b body Recovering store = refl
request_about own x b body (Accepting s) store = refl
request_about own x b body (Committing s) store = refl
request_about own x b body (Executing s) store = refl

request_ballot : (own : Actor) (x : TxnId) (b : Ballot) (body : BodyParts) (phase : Phase) (store : Actor) → ballot_of (request own x b body phase store) ≡ b
request_ballot own x b body Voting store = refl
request_ballot own x b body Recovering store = refl
request_ballot own x b body (Accepting s) store = refl
request_ballot own x b body (Committing s) store = refl
request_ballot own x b body (Executing s) store = refl

pub request_to : (own : Actor) (x : TxnId) (b : Ballot) (body : BodyParts) (phase : Phase) (store : Actor) → to_of (request own x b body phase store) ≡ store
request_to own x b body Voting store = refl
request_to own x b body Recovering store = refl
request_to own x b body (Accepting s) store = refl
request_to own x b body (Committing s) store = refl
request_to own x b body (Executing s) store = refl

-- ---- entries and what their actors did

pub deeds_here : (cluster : Cluster) (c : Actor) (earlier : List Item) (e : Entry) (deed : Deed) → e.actor ≡ c → act_of cluster earlier e.event ≡ Some deed.act
    → e.emitted ≡ deed.emitted → deeds_of cluster c (Step e ∷ earlier) ≡ deed ∷ deeds_of cluster c earlier
deeds_here cluster c earlier e deed actor_is act_is emitted_is =
    ap (λ o. deed_if o cluster earlier e ++ deeds_of cluster c earlier) (subst (λ k. same_actor k c ≡ true) (sym actor_is) (same_itself c))
    ∙ ap (λ o. deed_with o e.emitted ++ deeds_of cluster c earlier) act_is
    ∙ ap (λ (w : Emitted). record { act = deed.act; emitted = w } ∷ deeds_of cluster c earlier) emitted_is

-- what a store sent in its entry
pub store_emitted : (cluster : Cluster) (items before : List Item) (t : Entry) (store : Actor) (m : Message) → EachStands cluster items → StandsAt (Step t) before items
    → t.actor ≡ store → is_node store ≡ false → act_of cluster before t.event ≡ Some (Takes m)
    → t.emitted.out ≡ store_answer cluster.layout store (taken_of cluster store before) m
store_emitted cluster items before t store m h at actor_is store_is act_is =
    let on : StandsOn cluster before t = stands_at cluster items before t at h in
    let act_same : on.act ≡ Takes m = some_is on.act (Takes m) (sym on.act_is ∙ act_is) in
    ap (λ (w : Emitted). w.out)
    (on.emitted ∙ ap (λ c. emits_by (is_node c) cluster c (deeds_of cluster c before) on.act) actor_is
    ∙ ap (λ o. emits_by o cluster store (deeds_of cluster store before) on.act) store_is
    ∙ ap (emits_by false cluster store (deeds_of cluster store before)) act_same)

module _ (cluster : Cluster) (base since : List Item) (e : Entry) (x : TxnId) (b : Ballot) (standing : IsStanding cluster ((since ++ Step e ∷ []) ++ base))
    (recover : IsRecover e.actor x b e) (all : TakesAll base (since ++ Step e ∷ [])) where
  abbrev pub its_later : List Item
  its_later = later cluster base since e x b standing recover

  abbrev pub its_items : List Item
  its_items = items cluster base since e x b standing recover

  abbrev pub node : Actor
  node = a cluster base since e x b standing recover

  abbrev pub its_start : ℕ
  its_start = start cluster base since e x b standing recover

  abbrev pub its_deeds : List Deed
  its_deeds = deeds cluster base since e x b standing recover

  abbrev pub own : Actor
  own = actor_of (node_of node) 0

  pub of_node : is_node node ≡ true
  of_node = is_of_node cluster base since e x b standing recover

  -- a message of the attempt that an entry sent is taken after it
  pub delivered : (m : Message) → id_of m ≡ x → ballot_of m ≡ b → (s : Sending its_items m) → TakenBehind cluster (Step s.entry ∷ s.earlier) its_items m
  delivered m about of_ballot s =
      taken_behind cluster base its_later standing.stands all s.earlier s.entry m s.at (sent_later cluster base since e x b standing recover m about of_ballot s) s.sent

  module _ (at : Attempt) (at_is : attempt_of cluster.layout (node_of node) its_start x its_deeds ≡ Some at) (at_ballot : at.ballot ≡ b) where
    pub course : Asked cluster.layout (node_of node) its_start x its_deeds at
    course = asked cluster.layout (node_of node) its_start x its_deeds (each_emits cluster node its_items standing.stands of_node) at at_is

    -- the entry that asked
    pub asking : NodeStep cluster node its_items course.deed course.before
    asking = node_step cluster node its_items standing.stands course.deed course.before course.at

    abbrev pub asked_items : List Item
    asked_items = Step asking.entry ∷ asking.earlier

    pub asked_deeds : deeds_of cluster node asked_items ≡ course.deed ∷ course.before
    asked_deeds =
        deeds_here cluster node asking.earlier asking.entry course.deed asking.actor_is asking.act_is asking.emitted_is ∙ ap (λ p. course.deed ∷ p) asking.past_is

    -- what it asks of a store
    abbrev pub asks_of : Actor → Message
    asks_of store = request own x at.ballot at.body at.phase store

    pub asking_sends : (store : Actor) → IsIn store (stores_used cluster.layout at.body) → Sending its_items (asks_of store)
    asking_sends store there =
        record {
          entry = asking.entry;
          earlier = asking.earlier;
          at = asking.at;
          sent = subst (λ (w : Emitted). IsIn (asks_of store) w.out) (sym asking.emitted_is) (course.asks store there);
        }

    pub request_taken : (store : Actor) → IsIn store (stores_used cluster.layout at.body) → TakenBehind cluster asked_items its_items (asks_of store)
    unfolding asking asking_sends
    request_taken store there =
        delivered (asks_of store) (request_about own x at.ballot at.body at.phase store) (request_ballot own x at.ballot at.body at.phase store ∙ at_ballot)
        (asking_sends store there)

    -- what a store answers after the request is known
    pub answer_known : (front : List Item) → deeds_of cluster node front ≡ course.deed ∷ course.before → (t : Entry) (before : List Item) → StandsAt (Step t) before its_items
        → IsPast front before → (s : Message) → IsIn s t.emitted.out → id_of s ≡ x → ballot_of s ≡ b → to_of s ≡ home_of x b → Knows cluster.layout at s
    answer_known front front_is t before t_at newer s there about of_ballot to_is =
        let k = delivered s about of_ballot (record { entry = t; earlier = before; at = t_at; sent = there }) in
        let at_node : k.entry.actor ≡ node = k.actor_is ∙ to_is ∙ home_is cluster base since e x b standing recover in
        course.knows s
        (record {
          taking = record { act = Takes s; emitted = k.entry.emitted };
          past = deeds_of cluster node k.before;
          at =
              subst (λ c. StandsAt (record { act = Takes s; emitted = k.entry.emitted }) (deeds_of cluster c k.before) (deeds_of cluster c its_items)) at_node
              (entry_deed cluster its_items k.before k.entry (Takes s) k.at k.act_is);
          act_is = refl;
          since =
              subst (λ (p : List Deed). IsPast p (deeds_of cluster node k.before)) front_is
              (deeds_of-past cluster node front k.before (IsPast-trans front before k.before newer (IsPast-rest (Step t) before k.before k.newer)));
        }) about (of_ballot ∙ sym at_ballot)

    -- ---- seats

    seats_alike : (phase : Phase) → is_decided phase ≡ false → (c : Actor) (answers : List Message)
        → list_any (λ earlier. same_seat phase (from_of earlier) c) answers ≡ list_any (λ earlier. same_actor (from_of earlier) c) answers
    seats_alike Voting h c answers = refl
    seats_alike Recovering h c answers = refl
    seats_alike (Accepting s) h c answers = refl
    seats_alike (Committing s) h c answers = refl
    seats_alike (Executing s) h c answers = absurd (true≢false h)

    -- the store's answer is known, so it stands among those that count
    pub seated : (store : Actor) → IsIn store (stores_used cluster.layout at.body) → is_decided at.phase ≡ false → (Told : Type 0) → (Told → takes_over at ≡ true)
        → (sent : List Message) (s : StoreAnswer store x b Told (fits at.phase) sent) → Knows cluster.layout at s.message
        → list_any (λ m. same_actor (from_of m) store) at.answers ≡ true
    seated store there undecided Told over sent s known =
        ⊎_elim (λ above. absurd (true≢false (sym (known.refused (subst (λ c. refuses c s.message ≡ true) (sym at_ballot) above)) ∙ undecided)))
        (λ rest.
        ⊎_elim (λ told. absurd (true≢false (sym (known.told told.0 (over told.1)) ∙ undecided)))
        (λ fit.
        subst (λ c. list_any (λ m. same_actor (from_of m) c) at.answers ≡ true) s.from_is
        (sym (seats_alike at.phase undecided (from_of s.message) at.answers)
        ∙ known.seated fit (subst (λ c. is_store_of cluster.layout at.body c ≡ true) (sym s.from_is) (used_is_store cluster.layout at.body store there)))) rest)
        s.kind_is

    -- where each store has its seat there is a majority, so the attempt doesn't wait
    pub body_is : IsBody cluster its_items x at.body
    body_is = attempt_body cluster its_items standing.stands node of_node its_deeds x at (Whole its_deeds) at_is

    pub not_resting : ((store : Actor) → IsIn store (stores_used cluster.layout at.body) → list_any (λ m. same_actor (from_of m) store) at.answers ≡ true)
        → (majority_everywhere cluster.layout x at.body at.answers ≡ false → ⊥) → (at.answers ≡ []) ⊎ LacksIn cluster.layout x at at.phase
        → (LacksIn cluster.layout x at at.phase → majority_everywhere cluster.layout x at.body at.answers ≡ false) → ⊥
    not_resting each major (inl none) lacks =
        let store = begun_has_store cluster its_items x at.body standing.valid body_is in
        true≢false (sym (each store.0 store.1) ∙ ap (list_any (λ m. same_actor (from_of m) store.0)) none)
    not_resting each major (inr lack) lacks = major (lacks lack)

    pub never_rests : ((store : Actor) → IsIn store (stores_used cluster.layout at.body) → list_any (λ m. same_actor (from_of m) store) at.answers ≡ true)
        → (LacksIn cluster.layout x at at.phase → majority_everywhere cluster.layout x at.body at.answers ≡ false) → ⊥
    never_rests each lacks =
        not_resting each (λ minor. true≢false (sym (majorities_answered cluster.layout standing.valid.layout at.body x at.answers each) ∙ minor)) course.lacks lacks

    -- ---- Accepts and Commits

    module _ (undecided : is_decided at.phase ≡ false) (over : takes_over at ≡ true)
        (answers : (store : Actor) (history : List Taken) → StoreAnswer store x b (Unit {0}) (fits at.phase) (store_answer cluster.layout store history (asks_of store))) where
      pub proposal_seated : (store : Actor) → IsIn store (stores_used cluster.layout at.body) → list_any (λ m. same_actor (from_of m) store) at.answers ≡ true
      proposal_seated store there =
          let t = request_taken store there in
          let place = store_place cluster.layout at.body store standing.valid.layout there in
          let out_is = store_emitted cluster its_items t.before t.entry store (asks_of store) standing.stands t.at
          (t.actor_is ∙ request_to own x at.ballot at.body at.phase store) place.no_node t.act_is in
          let s = answers store (taken_of cluster store t.before) in
          seated store there undecided (Unit {0}) (λ _. over) (store_answer cluster.layout store (taken_of cluster store t.before) (asks_of store)) s
          (answer_known asked_items asked_deeds t.entry t.before t.at t.newer s.message (subst (IsIn s.message) (sym out_is) s.there) s.about s.of_ballot s.to_is)
