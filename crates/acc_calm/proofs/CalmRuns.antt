-- In a calm run each begun transaction has its reply. By their timestamps, the smallest first, the transactions are opened at all
-- their stores, since those that come first have their outcomes there; so each has its outcome.
use Rattle.std.proofs.Common.{◌≡◌, ℕ, zero, suc, ◌<◌, true, false, cond, List, [], ◌∷◌, Option, None, Some, is_some, refl, sym, ◌∙◌, ap, subst, arith, ◌⊎◌, ⊎_elim}
use Rattle.std.specs.List.{list_any}
use Rattle.std.proofs.lemmas.Bool.{true≢false, cases_Bool}
use Rattle.acc_stamp.specs.declared.stamps.Stamp.{Stamp}
use Rattle.acc_stamp.specs.declared.stamps.TxnId.{TxnId}
use Rattle.acc_stamp.specs.declared.actors.Actor.{Actor}
use Rattle.acc_stamp.specs.Actor.{actor_of, node_of, shard_of, home_of}
use Rattle.acc_stamp.specs.Stamp.{stamp_lt, id_eq, zero_ballot}
use Rattle.acc_stamp.specs.Rising.{id_among}
use Rattle.acc_stamp.proofs.Order.{id_order, eq_itself, stamp_lt-tells}
use Rattle.acc_topology.specs.Layout.{shard_at}
use Rattle.acc_deps.specs.declared.records.Settled.{Settled}
use Rattle.acc_deps.specs.Deps.{of_shard}
use Rattle.acc_txn.specs.declared.parts.BodyParts.{BodyParts}
use Rattle.acc_message.specs.declared.message.Message.TheVariants.{Stable, Apply}
use Rattle.acc_message.specs.declared.note.Note.{Note}
use Rattle.acc_message.specs.declared.note.Note.TheVariants.{Begin as BeginNote, Recover as RecoverNote, Blocked, Ended, Decide as DecideNote, Outcome as OutcomeNote, Reply as ReplyNote}
use Rattle.acc_message.specs.declared.item.Item.{Item}
use Rattle.acc_message.specs.Items.{notes_of, begins, replies}
use Rattle.acc_message.specs.Shares.{stores_of_shard, shards_used, stores_used}
use Rattle.acc_message.specs.Taken.{Taken}
use Rattle.acc_message.specs.BallotRules.{stable_of, kept_outcome}
use Rattle.acc_message.specs.Opening.{Opens, comes_first, is_opened}
use Rattle.acc_message.specs.Attempts.{Attempt, Executing}
use Rattle.acc_message.specs.NodeRules.{Act, Begins, Deed, is_open, next_id}
use Rattle.acc_message.specs.Run.{Cluster, clock_start, deeds_of, taken_of, is_node, IsRun}
use Rattle.acc_actor_laws.proofs.Standing.{not_none}
use Rattle.acc_actor_laws.proofs.OpeningFacts.{some_is, opened_of-sound, opened_of-complete}
use Rattle.acc_safety.specs.Calm.{IsCalm, EachBegunIsAnswered}
use Rattle.acc_safety.specs.Places.{IsIn, StandsAt, IsPast, Whole}
use Rattle.acc_safety.specs.Histories.{Noting}
use Rattle.acc_safety.specs.NodeMoves.{NodeNotes, NotesBegin, NotesRecover, NotesDecision, NotesOutcome, NotesReply, NotesTold, NotesBlocked, NotesEnded}
use Rattle.acc_safety.specs.Attempted.{Origin, FromBegin, FromRecover}
use Rattle.acc_safety.specs.Polls.{IsBody}
use Rattle.acc_safety.specs.StoreFactStatements.{OfEachStore, CommittedIsSeen}
use Rattle.acc_safety.specs.Valid.{IsValidCluster, IsStanding}
use Rattle.acc_safety.proofs.PlaceOrder.{passing, map-IsIn, flat_map-IsIn, StandsAt-whole}
use Rattle.acc_safety.proofs.Attempted.{origin_of}
use Rattle.acc_safety.proofs.Bridge.{noted_by, node_is_actor, each_emits, EachEmits-past}
use Rattle.acc_safety.proofs.Frame.{node_noted, past_of}
use Rattle.acc_safety.proofs.BodiesBegun.{begin_body, attempt_body}
use Rattle.acc_safety_laws.proofs.Noted.{noting}
use Rattle.acc_safety_laws.proofs.Shown.{committed_is_seen}
use Rattle.acc_safety.proofs.Draws.{node_of_draw}
use Rattle.acc_safety_laws.proofs.Stages.{one_proposal, one_commit, never_both}
use Rattle.acc_safety_laws.proofs.Last.{committed_last}
use Rattle.acc_safety_laws.proofs.Proposals.{proposals_have_roots}
use Rattle.acc_safety_laws.proofs.Commits.{commits_have_roots}
use Rattle.acc_safety_laws.proofs.Decisions.{decisions_have_roots, records_have_roots}
use Rattle.acc_safety_laws.specs.AgreementPremises.{Premises}
use Rattle.acc_safety_laws.proofs.Agreed.{one_timestamp}
use Rattle.acc_safety_laws.proofs.BegunIds.{begin_noted}
use Rattle.acc_calm.proofs.Delivered.{IsCalmAct, acts_are_calm, TookStep}
use Rattle.acc_calm.proofs.ZeroBallots.{home_is_node}
use Rattle.acc_calm.proofs.Courses.{at_x, BegunIn, Finishing, over}
use Rattle.acc_calm.proofs.AllAnswered.{among_in}
use Rattle.acc_calm.proofs.Undecided.{StorePlace, store_place, its_body, phase_sent, sent_one, taken_at, decided}
use Rattle.acc_calm.proofs.Named.{UsesShard, record_named}
use Rattle.acc_calm.proofs.Finished.{took_stable, took_outcome, still_running, apply_taken, open_replied, closed_replied}

-- ---- induction over stamps

module _ (P : Stamp → Type 0) (step : (t : Stamp) → ((s : Stamp) → stamp_lt s t ≡ true → P s) → P t) where
  below_origin : (h : ℕ) → ((s : Stamp) → s.h < h → P s) → (k : ℕ) → (t : Stamp) → t.h ≡ h → t.origin < k → P t
  below_origin h less zero t same lt = absurd (omega (arith, lt))
  below_origin h less (suc k) t same lt =
      step t
      (λ s smaller.
      ⊎_elim (λ lower. less s (down s.h t.h h lower same)) (λ level. below_origin h less k s (level.0 ∙ same) (nearer s.origin t.origin k level.1 lt)) (stamp_lt-tells s t smaller))
    where
      down : (a b c : ℕ) → a < b → b ≡ c → a < c
      down a b c p q = omega (arith, p, q)

      nearer : (a b c : ℕ) → a < b → b < suc c → a < c
      nearer a b c p q = omega (arith, p, q)

  below_h : (h : ℕ) → (t : Stamp) → t.h < h → P t
  below_h zero t lt = absurd (omega (arith, lt))
  below_h (suc h) t lt =
      ⊎_elim (λ lower. below_h h t lower) (λ level. below_origin h (below_h h) (suc t.origin) t level (omega arith)) (either t.h h lt)
    where
      either : (a b : ℕ) → a < suc b → (a < b) ⊎ (a ≡ b)
      either a b p = grind arith

  pub by_stamp : (t : Stamp) → P t
  by_stamp t = below_h (suc t.h) t (omega arith)

said_itself : {T : Type 0} (x : TxnId) (v : T) → cond (id_eq x x) (Some v) None ≡ Some v
said_itself x v = ap (λ b. cond b (Some v) None) (eq_itself id_order x)

-- what is stable, with every dependency stable and, where its timestamp is smaller, applied, is opened
pub opened_from : (shard : ℕ) (history : List Taken) (x : TxnId) (mine : Settled) → stable_of history x ≡ Some mine
    → ((y : TxnId) → id_among y (of_shard mine.deps shard) ≡ true → is_some (stable_of history y) ≡ true)
    → ((y : TxnId) (theirs : Settled) → id_among y (of_shard mine.deps shard) ≡ true → stable_of history y ≡ Some theirs
    → comes_first mine.t theirs ≡ true → is_some (kept_outcome history y) ≡ true)
    → ((y : TxnId) (theirs : Settled) → id_among y (of_shard mine.deps shard) ≡ true → stable_of history y ≡ Some theirs
    → comes_first mine.t theirs ≡ true → is_opened shard history y ≡ true)
    → is_opened shard history x ≡ true
opened_from shard [] x mine is stable outcome opens = absurd (not_none mine is)
opened_from shard (step ∷ past) x mine is stable outcome opens =
    opened_of-complete shard step past x
    (Opens x mine is stable outcome (λ y theirs has their_is first. opened_of-sound shard step past y (opens y theirs has their_is first)))

-- ---- agreement

pub committed_seen : OfEachStore CommittedIsSeen
committed_seen layout own history each step late past before f g h k x b above view =
    committed_is_seen layout own step late past before history f g h k x b above view each

pub begins_is : (x : TxnId) (note : Note) → begins x note ≡ true → note ≡ BeginNote x
begins_is x (BeginNote id) h = ap BeginNote ((id_order.decides id x).0 h)
begins_is x (RecoverNote id ballot) h = absurd (true≢false (sym h))
begins_is x (Blocked id ballot by) h = absurd (true≢false (sym h))
begins_is x (Ended id ballot by) h = absurd (true≢false (sym h))
begins_is x (DecideNote id t path deps) h = absurd (true≢false (sym h))
begins_is x (OutcomeNote id reply) h = absurd (true≢false (sym h))
begins_is x (ReplyNote id reply) h = absurd (true≢false (sym h))

module _ (cluster : Cluster) (items : List Item) (standing : IsStanding cluster items) (calm : IsCalm items) where
  premises : Premises cluster items
  premises = record {
    one_proposal = one_proposal cluster items standing.stands;
    one_commit = one_commit cluster items standing.stands;
    never_both = never_both cluster items standing.stands;
    proposals = proposals_have_roots cluster items standing;
    commits = commits_have_roots cluster items standing;
    decisions = decisions_have_roots cluster items standing;
    records = records_have_roots cluster items standing;
    committed_last = committed_last committed_seen cluster items standing;
  }

  -- the stable records of a transaction have one timestamp
  same_time : (x : TxnId) (body : BodyParts) (a b : Actor) (s r : Settled) → is_node a ≡ false → is_node b ≡ false → IsBody cluster items x body
      → stable_of (taken_of cluster a items) x ≡ Some s → stable_of (taken_of cluster b items) x ≡ Some r → s.t ≡ r.t
  same_time x body a b s r store other body_is is is_too =
      one_timestamp cluster items standing premises x body s.t r.t s.deps r.deps body_is (records_have_roots cluster items standing a x body s store body_is is)
      (records_have_roots cluster items standing b x body r other body_is is_too)

  -- ---- begins

  record BegunAt (a : Actor) (x : TxnId) : Type 0 where
    pub node : is_node a ≡ true
    pub deed : Deed
    pub past : List Deed
    pub at : StandsAt deed past (deeds_of cluster a items)
    pub txn : ℕ
    pub body : BodyParts
    pub act_is : deed.act ≡ Begins txn body
    pub drawn : next_id (node_of a) (clock_start cluster.starts (node_of a)) past ≡ x

  begun_by : (a : Actor) (node : is_node a ≡ true) (deed : Deed) (past : List Deed) (x : TxnId) (act : Act) (note : Note)
      → StandsAt deed past (deeds_of cluster a items) → deed.act ≡ act → note ≡ BeginNote x
      → NodeNotes cluster.layout (node_of a) (clock_start cluster.starts (node_of a)) past act note → BegunAt a x
  begun_by a node deed past x act note at act_is is (NotesBegin txn body) =
      record {
        node = node;
        deed = deed;
        past = past;
        at = at;
        txn = txn;
        body = body;
        act_is = act_is;
        drawn = one (next_id (node_of a) (clock_start cluster.starts (node_of a)) past) is;
      }
    where
      one : (z : TxnId) → BeginNote z ≡ BeginNote x → z ≡ x
      one z e = cc
  begun_by a node deed past x act note at act_is is (NotesRecover y body) = absurd (grind arith)
  begun_by a node deed past x act note at act_is is (NotesDecision on y k path s r) = absurd (grind arith)
  begun_by a node deed past x act note at act_is is (NotesOutcome on y k s outcome r) = absurd (grind arith)
  begun_by a node deed past x act note at act_is is (NotesReply on y k s outcome r o) = absurd (grind arith)
  begun_by a node deed past x act note at act_is is (NotesTold from to y b outcome o) = absurd (grind arith)
  begun_by a node deed past x act note at act_is is (NotesBlocked on y k by r) = absurd (grind arith)
  begun_by a node deed past x act note at act_is is (NotesEnded on y k by r) = absurd (grind arith)

  begun_somewhere : (x : TxnId) → Noting items (BeginNote x) → (a : Actor) × BegunAt a x
  begun_somewhere x s =
      let n = noted_by cluster items (BeginNote x) standing.stands s in
      (n.actor, begun_by n.actor n.is_node n.deed n.past x n.deed.act (BeginNote x) n.at refl refl (node_noted cluster items (BeginNote x) standing.stands n))

  begun_home : (a : Actor) (x : TxnId) → BegunAt a x → a ≡ home_of x zero_ballot
  begun_home a x b =
      sym (node_is_actor a b.node)
      ∙ ap (λ k. actor_of k 0) (sym (node_of_draw (node_of a) (clock_start cluster.starts (node_of a)) b.past))
      ∙ ap (λ y. home_of y zero_ballot) b.drawn

  -- the begin of x, at its home
  begun : (x : TxnId) → Noting items (BeginNote x) → BegunAt (home_of x zero_ballot) x
  begun x s = let b = begun_somewhere x s in subst (λ a. BegunAt a x) (begun_home b.0 x b.1) b.1

  begun_in : (x : TxnId) → BegunAt (home_of x zero_ballot) x → BegunIn cluster items standing.stands calm x (deeds_of cluster (home_of x zero_ballot) items)
  begun_in x b = record { deed = b.deed; past = b.past; at = b.at; txn = b.txn; body = b.body; act_is = b.act_is; drawn = b.drawn }

  begun_body : (x : TxnId) (b : BegunAt (home_of x zero_ballot) x) → IsBody cluster items x b.body
  begun_body x b =
      subst (λ y. IsBody cluster items y b.body) b.drawn (begin_body cluster items standing.stands (home_of x zero_ballot) b.node b.deed b.past b.txn b.body b.at b.act_is)

  -- ---- how the attempt at x stands at the end

  module _ (x : TxnId) (body : BodyParts) (body_is : IsBody cluster items x body) where
    abbrev its_home : Actor
    its_home = home_of x zero_ballot

    abbrev deeds : List Deed
    deeds = deeds_of cluster its_home items

    abbrev Ended_well : Type 0
    Ended_well = Finishing cluster items standing.stands calm x deeds

    its_begin : BegunIn cluster items standing.stands calm x deeds
    its_begin = begun_in x (begun x (begin_noted cluster items x body body_is))

    same_body : (other : BodyParts) → IsBody cluster items x other → other ≡ body
    same_body other is = some_is other body (sym is ∙ body_is)

    finishing_body : (f : Ended_well) → f.before.body ≡ body
    finishing_body f =
        same_body f.before.body
        (attempt_body cluster items standing.stands its_home (home_is_node x zero_ballot) f.past x f.before (past_of f.deed f.past deeds f.at) f.before_is)

    apply_at : (f : Ended_well) (store : Actor) → IsIn store (stores_used cluster.layout body)
        → TookStep (Apply (actor_of (node_of its_home) 0) store x f.before.ballot f.before.body f.settled.t f.settled.deps f.outcome) (taken_of cluster store items)
    apply_at f store there = apply_taken cluster items standing calm x f store (subst (λ k. IsIn store (stores_used cluster.layout k)) (sym (finishing_body f)) there)

    stable_by : (store : Actor) → IsIn store (stores_used cluster.layout body) → (o : Option Attempt) → at_x cluster items standing.stands calm x deeds ≡ o
        → (s : Settled) × (stable_of (taken_of cluster store items) x ≡ Some s)
    stable_by store there None is =
        let f = over cluster items standing.stands calm x deeds (Whole deeds) its_begin is in
        took_stable (Apply (actor_of (node_of its_home) 0) store x f.before.ballot f.before.body f.settled.t f.settled.deps f.outcome) x
        (record { t = f.settled.t; deps = f.settled.deps }) (said_itself x (record { t = f.settled.t; deps = f.settled.deps }))
        (taken_of cluster store items) (apply_at f store there)
    stable_by store there (Some a) is =
        let d = decided cluster items standing calm x a is in
        let own : Actor = actor_of (node_of its_home) 0 in
        let its : IsIn store (stores_used cluster.layout a.body) =
        subst (λ k. IsIn store (stores_used cluster.layout k)) (sym (same_body a.body (its_body cluster items standing calm x a is))) there in
        took_stable (Stable own store x zero_ballot a.body d.0.t d.0.deps) x (record { t = d.0.t; deps = d.0.deps }) (said_itself x (record { t = d.0.t; deps = d.0.deps }))
        (taken_of cluster store items)
        (taken_at cluster items standing calm x a is store (Stable own store x zero_ballot a.body d.0.t d.0.deps) refl
        (sent_one cluster items standing calm x a is (λ k. Stable own k x zero_ballot a.body d.0.t d.0.deps) store
        (phase_sent cluster items standing calm x a is (Executing d.0) d.1) its))

    -- it is stable at each of its stores
    stable_there : (store : Actor) → IsIn store (stores_used cluster.layout body) → (s : Settled) × (stable_of (taken_of cluster store items) x ≡ Some s)
    stable_there store there = stable_by store there (at_x cluster items standing.stands calm x deeds) refl

    finished_by : ((store : Actor) → IsIn store (stores_used cluster.layout body) → is_opened (shard_of store) (taken_of cluster store items) x ≡ true)
        → (o : Option Attempt) → at_x cluster items standing.stands calm x deeds ≡ o → Ended_well
    finished_by opened None is = over cluster items standing.stands calm x deeds (Whole deeds) its_begin is
    finished_by opened (Some a) is =
        absurd (still_running cluster items standing calm x a is
        (λ store there. opened store
        (subst (λ k. IsIn store (stores_used cluster.layout k)) (same_body a.body (its_body cluster items standing calm x a is)) there)))

    -- opened at each of its stores it has its outcome
    finished : ((store : Actor) → IsIn store (stores_used cluster.layout body) → is_opened (shard_of store) (taken_of cluster store items) x ≡ true) → Ended_well
    finished opened = finished_by opened (at_x cluster items standing.stands calm x deeds) refl

    kept_at : Ended_well → (store : Actor) → IsIn store (stores_used cluster.layout body) → is_some (kept_outcome (taken_of cluster store items) x) ≡ true
    kept_at f store there =
        took_outcome (Apply (actor_of (node_of its_home) 0) store x f.before.ballot f.before.body f.settled.t f.settled.deps f.outcome) x f.outcome
        (said_itself x f.outcome) (taken_of cluster store items) (apply_at f store there)

    begun_before : (past : List Deed) (a : Attempt) → IsPast past deeds → Origin cluster.layout (node_of its_home) (clock_start cluster.starts (node_of its_home)) x past a
        → BegunIn cluster items standing.stands calm x past
    begun_before past a within (FromBegin txn deed before at act_is drawn of_zero) =
        record { deed = deed; past = before; at = at; txn = txn; body = a.body; act_is = act_is; drawn = drawn }
    begun_before past a within (FromRecover deed before at act_is drawn) =
        absurd (subst IsCalmAct act_is (acts_are_calm cluster items standing.stands calm its_home deed before (StandsAt-whole deed before past deeds at within)))

    answered : Ended_well → list_any (replies x) (notes_of items) ≡ true
    answered f =
        let within = past_of f.deed f.past deeds f.at in
        ⊎_elim (open_replied cluster items standing calm x f)
        (closed_replied cluster items standing calm x f f.past within
        (EachEmits-past cluster.layout (node_of its_home) (clock_start cluster.starts (node_of its_home)) f.past deeds within
        (each_emits cluster its_home items standing.stands (home_is_node x zero_ballot)))
        (begun_before f.past f.before within (origin_of cluster.layout (node_of its_home) (clock_start cluster.starts (node_of its_home)) x f.past f.before f.before_is)))
        (cases_Bool (is_open x f.past))

  -- ---- by the timestamps

  -- what is stable at this timestamp at one of its stores is opened there
  IsOpenedAt : Stamp → Type 0
  IsOpenedAt t =
      (x : TxnId) (body : BodyParts) (a : Actor) (mine : Settled) → IsBody cluster items x body → IsIn a (stores_used cluster.layout body)
      → stable_of (taken_of cluster a items) x ≡ Some mine → mine.t ≡ t → is_opened (shard_of a) (taken_of cluster a items) x ≡ true

  store_of : (a : Actor) (body : BodyParts) → StorePlace cluster.layout body a → (y : TxnId) (u : UsesShard cluster items standing (shard_of a) y)
      → IsIn a (stores_used cluster.layout u.body)
  store_of a body place y u =
      subst (λ k. IsIn k (stores_used cluster.layout u.body)) (sym place.is)
      (flat_map-IsIn (stores_of_shard cluster.layout) (actor_of place.node place.shard) place.shard (shards_used cluster.layout u.body)
      (subst (λ s. IsIn s (shards_used cluster.layout u.body)) place.of_shard (among_in (shard_of a) (shards_used cluster.layout u.body) u.used))
      (map-IsIn (λ node. actor_of node place.shard) place.node (shard_at cluster.layout place.shard).replicas place.replica))

  next_opened : (t : Stamp) → ((s : Stamp) → stamp_lt s t ≡ true → IsOpenedAt s) → IsOpenedAt t
  unfolding IsOpenedAt
  next_opened t less x body a mine body_is there is time =
      opened_from (shard_of a) (taken_of cluster a items) x mine is
      (λ y has. let u = uses y has in ap is_some (stable_there y u.body u.is a (store_of a body place y u)).1)
      (λ y theirs has their_is first.
      let u = uses y has in
      let f = finished y u.body u.is
      (λ store there_too.
      let s = stable_there y u.body u.is store there_too in
      less theirs.t (ap (stamp_lt theirs.t) (sym time) ∙ first) y u.body store s.0 u.is there_too s.1
      (same_time y u.body store a s.0 theirs (store_place cluster.layout u.body store standing.valid.layout there_too).no_node place.no_node u.is s.1 their_is)) in
      kept_at y u.body u.is f a (store_of a body place y u))
      (λ y theirs has their_is first.
      let u = uses y has in
      less theirs.t (ap (stamp_lt theirs.t) (sym time) ∙ first) y u.body a theirs u.is (store_of a body place y u) their_is refl)
    where
      place : StorePlace cluster.layout body a
      place = store_place cluster.layout body a standing.valid.layout there

      uses : (y : TxnId) → id_among y (of_shard mine.deps (shard_of a)) ≡ true → UsesShard cluster items standing (shard_of a) y
      uses y has =
          record_named cluster items standing a x body mine (store_place cluster.layout body a standing.valid.layout there).no_node body_is is (shard_of a) y has

  opened_everywhere : (x : TxnId) (body : BodyParts) → IsBody cluster items x body → (store : Actor) → IsIn store (stores_used cluster.layout body)
      → is_opened (shard_of store) (taken_of cluster store items) x ≡ true
  unfolding IsOpenedAt
  opened_everywhere x body body_is store there =
      let s = stable_there x body body_is store there in
      by_stamp IsOpenedAt next_opened s.0.t x body store s.0 body_is there s.1 refl

  pub each_answered : EachBegunIsAnswered items
  each_answered x h =
      let p = passing (begins x) (notes_of items) h in
      let b = begun x (noting items (BeginNote x) (subst (λ n. IsIn n (notes_of items)) (begins_is x p.element p.passes) p.there)) in
      let body_is = begun_body x b in
      answered x b.body body_is (finished x b.body body_is (opened_everywhere x b.body body_is))

pub calm_runs_are_answered : (cluster : Cluster) (items : List Item) → IsValidCluster cluster → IsRun cluster items → IsCalm items → EachBegunIsAnswered items
calm_runs_are_answered cluster items valid run calm = each_answered cluster items (record { valid = valid; stands = run.stands }) calm
