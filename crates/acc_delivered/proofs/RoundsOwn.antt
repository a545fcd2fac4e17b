-- What a round sends belongs to its own attempt, but for answers to reads and what comes of them.
use Rattle.std.proofs.Common.{◌≡◌, ℕ, zero, suc, ◌+◌, ◌-◌, ◌≤◌, Bool, true, false, not, ◌&&◌, List, [], ◌∷◌, ◌++◌, length, Option, Some, map, refl, sym, ◌∙◌, ap, subst, arith, ◌⊎◌, inl, inr, ⊎_elim}
use Rattle.std.specs.List.{slice_get, list_all}
use Rattle.std.specs.Prelude.{nat_lt}
use Rattle.std.proofs.lemmas.Bool.{true≢false, and_parts, and_from}
use Rattle.std.proofs.lemmas.List.{append_assoc, append-nil}
use Rattle.acc_stamp.specs.declared.stamps.TxnId.{TxnId}
use Rattle.acc_stamp.specs.declared.stamps.Ballot.{Ballot}
use Rattle.acc_stamp.specs.declared.actors.Actor.{Actor}
use Rattle.acc_stamp.specs.Actor.{node_of, shard_of}
use Rattle.acc_topology.specs.Layout.{Layout}
use Rattle.acc_deps.specs.declared.records.Settled.{Settled}
use Rattle.acc_value.specs.declared.key.Key.{Key}
use Rattle.acc_value.specs.declared.value.Value.{Value}
use Rattle.acc_message.specs.declared.message.Message.{Message}
use Rattle.acc_message.specs.declared.message.Message.TheVariants.{PreAcceptOk, AcceptOk, CommitOk, ReadOk, Apply, RecoverOk, Inform}
use Rattle.acc_message.specs.declared.entry.Entry.{Entry}
use Rattle.acc_message.specs.declared.entry.Emitted.{Emitted}
use Rattle.acc_message.specs.declared.entry.Event.{Event}
use Rattle.acc_message.specs.declared.entry.Event.TheVariants.{Begin as BeginEvent, Recover as RecoverEvent, Slow as SlowEvent, Message as TakesMessage, Restart as RestartEvent}
use Rattle.acc_message.specs.declared.item.Item.{Item}
use Rattle.acc_message.specs.declared.item.Item.TheVariants.{Step, Skipped, Down}
use Rattle.acc_message.specs.Fields.{from_of, id_of, ballot_of}
use Rattle.acc_message.specs.Items.{sent_in, sent_of, message_at}
use Rattle.acc_message.specs.Shares.{is_store_of}
use Rattle.acc_message.specs.Taken.{Taken, taking, known, heard_body}
use Rattle.acc_message.specs.Opening.{Change, changes_of, cells_at}
use Rattle.acc_message.specs.Attempts.{Attempt, Phase, Voting, Recovering, Accepting, Committing, Executing, fits}
use Rattle.acc_message.specs.Coordinator.{with_answer}
use Rattle.acc_message.specs.StoreRules.{read_ok, read_by, stable_ballots, opening_of, release, store_answer}
use Rattle.acc_message.specs.Opening.{written_by}
use Rattle.acc_message.specs.NodeRules.{Act, Begins, Recovers, Slows, Takes, Deed}
use Rattle.acc_message.specs.Run.{Cluster, clock_start, act_of, deeds_of, taken_from, is_node, emits_by, StandsOn, EachStands}
use Rattle.acc_actor_laws.proofs.Standing.{not_none}
use Rattle.acc_actor_laws.proofs.OpeningFacts.{some_is}
use Rattle.acc_safety.specs.Places.{IsIn, First, Later, StandsAt, Here, Back}
use Rattle.acc_safety.specs.Histories.{Sending}
use Rattle.acc_safety.specs.NodeMoves.{Move, Propose, CommitTo, DecideBy, Moves, WaitsForMore, IsBlocked, HasOutcome, DecidesFast, SlowsDown, AdoptsStable, AdoptsCommitted, AdoptsAccepted, ProposesGreatest, ProposesOwn, CommitsIt, DecidesCommitted, Hears, Ignores, IsEnded, Counts, TakesOver, Reacts, ToSlow, ToMessage, NodeSends, AsksForVotes, AsksForViews, Proposes, Commits as CommitsTo, Decides, Finishes, Informs}
use Rattle.acc_safety.specs.StoreSends.{StoreSends, Votes, Accepts, Commits, Reveals, ReadsAtOnce, ReadsOnOpening, Refuses, Tells}
use Rattle.acc_safety.specs.Valid.{IsStanding}
use Rattle.acc_safety.proofs.PlaceOrder.{none_is_in, IsIn-map, IsIn-append_cases, IsIn-cond_cases}
use Rattle.acc_safety.proofs.Bridge.{sent_is_sending}
use Rattle.acc_safety.proofs.StoreSent.{store_sends}
use Rattle.acc_safety.proofs.NodeSent.{node_sends}
use Rattle.acc_calm.proofs.Delivered.{mapped}
use Rattle.acc_calm.proofs.Courses.{first_same, rest_same}
use Rattle.acc_delivered.specs.Stretches.{event_takes_from, item_takes_from}
use Rattle.acc_delivered.specs.Rounds.{is_taking, is_delivery, IsRecover}
use Rattle.acc_delivered.specs.Laws.{is_read_or_later, RoundsSendTheirOwn}
use Rattle.acc_delivered.proofs.Deliveries.{get_behind}
use Rattle.acc_delivered.proofs.Started.{sends_views}

-- ---- lists of messages

pub sent_append : (later base : List Item) → sent_of (later ++ base) ≡ sent_of base ++ sent_of later
sent_append [] base = sym (append-nil (sent_of base))
sent_append (item ∷ later) base =
    ap (λ ms. ms ++ sent_in item) (sent_append later base) ∙ append_assoc (sent_of base) (sent_of later) (sent_in item)

pub got_in : (ms : List Message) (n : ℕ) (m : Message) → slice_get ms n ≡ Some m → IsIn m ms
got_in [] n m is = absurd (not_none m is)
got_in (k ∷ ms) zero m is = subst (λ j. IsIn j (k ∷ ms)) (some_is k m is) (First k ms)
got_in (k ∷ ms) (suc n) m is = Later m k ms (got_in ms n m is)

-- a message with such a number was sent by the later items
pub sent_by_later : (later base : List Item) (n : ℕ) (m : Message) → length (sent_of base) ≤ n → message_at (later ++ base) n ≡ Some m → Sending later m
sent_by_later later base n m from is =
    let split : length (sent_of base) + (n - length (sent_of base)) ≡ n = omega (arith, from) in
    sent_is_sending later m
    (got_in (sent_of later) (n - length (sent_of base)) m
    (sym (get_behind (sent_of base) (sent_of later) (n - length (sent_of base)))
    ∙ ap (slice_get (sent_of base ++ sent_of later)) split ∙ ap (λ ms. slice_get ms n) (sym (sent_append later base)) ∙ is))

-- ---- what a message moves

pub unread_fit : (phase : Phase) (m : Message) → fits phase m ≡ true → ((s : Settled) → phase ≡ Executing s → ⊥) → is_read_or_later m ≡ false
unread_fit Voting (PreAcceptOk from to id ballot vote deps) h none = refl
unread_fit Voting m h none = absurd (true≢false (sym h))
unread_fit Recovering (RecoverOk from to id ballot view) h none = refl
unread_fit Recovering m h none = absurd (true≢false (sym h))
unread_fit (Accepting s) (AcceptOk from to id ballot deps) h none = refl
unread_fit (Accepting s) m h none = absurd (true≢false (sym h))
unread_fit (Committing s) (CommitOk from to id ballot) h none = refl
unread_fit (Committing s) m h none = absurd (true≢false (sym h))
unread_fit (Executing s) m h none = absurd (none s refl)

-- a move to a new phase
abbrev pub IsOnward : Move → Type 0
IsOnward (Propose s) = Unit {0}
IsOnward (CommitTo s) = Unit {0}
IsOnward (DecideBy path s) = Unit {0}
IsOnward _ = ⊥

other_phase : (phase one : Phase) (s : Settled) → phase ≡ one → phase ≡ Executing s → (one ≡ Executing s → ⊥) → ⊥
other_phase phase one s is executes none = none (sym is ∙ executes)

onward_phase : (layout : Layout) (x : TxnId) (a : Attempt) (move : Move) → Moves layout x a move → IsOnward move → (s : Settled) → a.phase ≡ Executing s → ⊥
onward_phase layout x a (DecideBy path r) (DecidesFast phase fast) o s is = other_phase a.phase Voting s phase is (no s)
  where
    no : (s : Settled) → Voting ≡ Executing s → ⊥
    no s e = cc
onward_phase layout x a (Propose r) (SlowsDown phase major) o s is = other_phase a.phase Voting s phase is (no s)
  where
    no : (s : Settled) → Voting ≡ Executing s → ⊥
    no s e = cc
onward_phase layout x a (DecideBy path r) (AdoptsStable k phase major is_least) o s is = other_phase a.phase Recovering s phase is (no s)
  where
    no : (s : Settled) → Recovering ≡ Executing s → ⊥
    no s e = cc
onward_phase layout x a (CommitTo r) (AdoptsCommitted c phase major highest committed) o s is = other_phase a.phase Recovering s phase is (no s)
  where
    no : (s : Settled) → Recovering ≡ Executing s → ⊥
    no s e = cc
onward_phase layout x a (Propose r) (AdoptsAccepted c phase major highest committed) o s is = other_phase a.phase Recovering s phase is (no s)
  where
    no : (s : Settled) → Recovering ≡ Executing s → ⊥
    no s e = cc
onward_phase layout x a (Propose r) (ProposesGreatest phase major none ruled) o s is = other_phase a.phase Recovering s phase is (no s)
  where
    no : (s : Settled) → Recovering ≡ Executing s → ⊥
    no s e = cc
onward_phase layout x a (Propose r) (ProposesOwn phase major none free) o s is = other_phase a.phase Recovering s phase is (no s)
  where
    no : (s : Settled) → Recovering ≡ Executing s → ⊥
    no s e = cc
onward_phase layout x a (CommitTo r) (CommitsIt k phase major) o s is = other_phase a.phase (Accepting k) s phase is (no k s)
  where
    no : (k s : Settled) → Accepting k ≡ Executing s → ⊥
    no k s e = cc
onward_phase layout x a (DecideBy path r) (DecidesCommitted k phase major) o s is = other_phase a.phase (Committing k) s phase is (no k s)
  where
    no : (k s : Settled) → Committing k ≡ Executing s → ⊥
    no k s e = cc
onward_phase layout x a move WaitsForMore o s is = absurd o
onward_phase layout x a move (IsBlocked by phase major) o s is = absurd o
onward_phase layout x a move (HasOutcome r outcome phase from) o s is = absurd o

-- what a message moves on is its own attempt, and it isn't an answer to a read
pub record MovesOwn (m : Message) (x : TxnId) (a : Attempt) : Type 0 where
  pub unread : is_read_or_later m ≡ false
  pub about : id_of m ≡ x
  pub of_ballot : ballot_of m ≡ a.ballot

hears_own : (layout : Layout) (x : TxnId) (before : Attempt) (m : Message) (a : Attempt) (move : Move) → id_of m ≡ x → Hears layout x before m a move → IsOnward move
    → MovesOwn m x a
hears_own layout x before m a move about (Counts n moved same counting moves) o =
    record {
      unread =
          unread_fit before.phase n
          (and_parts (fits before.phase n) (is_store_of layout before.body (from_of n)) (and_parts (fits before.phase n && is_store_of layout before.body (from_of n)) _ counting).0).0
          (onward_phase layout x (with_answer before n) moved moves o);
      about = about;
      of_ballot = same;
    }
hears_own layout x before m a move about (TakesOver from to id ballot t deps same undecided ready) o = record { unread = refl; about = about; of_ballot = same }
hears_own layout x before m a move about (Ignores n) o = absurd o
hears_own layout x before m a move about (IsEnded from to id ballot promised same above) o = absurd o

reacts_own : (layout : Layout) (node st : ℕ) (before : List Deed) (y : TxnId) (act : Act) (m : Message) (a : Attempt) (move : Move) → act ≡ Takes m
    → Reacts layout node st before y act a move → IsOnward move → MovesOwn m y a
reacts_own layout node st before y act m a move is (ToMessage was k n moved at about hears) o =
    subst (λ j. MovesOwn j y k) (same n m is) (hears_own layout y was n k moved about hears o)
  where
    same : (n m : Message) → Takes n ≡ Takes m → n ≡ m
    same n m e = cc
reacts_own layout node st before y act m a move is (ToSlow k moved at moves) o = absurd (slow_takes is)
  where
    slow_takes : Slows y ≡ Takes m → ⊥
    slow_takes e = cc

-- ---- what an actor sends when it takes a message of the attempt, or an answer to a read

abbrev pub Own : TxnId → Ballot → Message → Type 0
Own x b m = (is_read_or_later m ≡ true) ⊎ ((id_of m ≡ x) × (ballot_of m ≡ b))

own_moves : (x : TxnId) (b : Ballot) (m : Message) (y : TxnId) (a : Attempt) → Own x b m → MovesOwn m y a → (y ≡ x) × (a.ballot ≡ b)
own_moves x b m y a (inl read) k = absurd (true≢false (sym read ∙ k.unread))
own_moves x b m y a (inr own) k = (sym k.about ∙ own.0, sym k.of_ballot ∙ own.1)

node_own : (x : TxnId) (b : Ballot) (layout : Layout) (node st : ℕ) (before : List Deed) (act : Act) (m s : Message) → act ≡ Takes m → Own x b m
    → NodeSends layout node st before act s → Own x b s
node_own x b layout node st before act m s is own (AsksForVotes txn brought store) = absurd (begin_takes is)
  where
    begin_takes : Begins txn brought ≡ Takes m → ⊥
    begin_takes e = cc
node_own x b layout node st before act m s is own (AsksForViews y brought store) = absurd (recover_takes is)
  where
    recover_takes : Recovers y brought ≡ Takes m → ⊥
    recover_takes e = cc
node_own x b layout node st before act m s is own (Proposes on y a k store reacts) =
    inr (own_moves x b m y a own (reacts_own layout node st before y on m a (Propose k) is reacts tt))
node_own x b layout node st before act m s is own (CommitsTo on y a k store reacts) =
    inr (own_moves x b m y a own (reacts_own layout node st before y on m a (CommitTo k) is reacts tt))
node_own x b layout node st before act m s is own (Decides on y a path k store reacts noted) =
    inr (own_moves x b m y a own (reacts_own layout node st before y on m a (DecideBy path k) is reacts tt))
node_own x b layout node st before act m s is own (Finishes on y a k outcome store reacts) = inl refl
node_own x b layout node st before act m s is own (Informs on y a k outcome reacts) = inl refl

-- a store
opening_reads : (layout : Layout) (c : Actor) (now : List Taken) (change : Change) (cells : Key → Option Value) (s : Message) → IsIn s (opening_of layout c now change cells)
    → is_read_or_later s ≡ true
opening_reads layout c now change cells s there =
    ⊎_elim
    (λ opens.
    let k = IsIn-map (λ j. read_ok c change.id j (read_by layout (shard_of c) (heard_body change.id (known now)) cells)) s (stable_ballots now change.id) opens.1 in
    ap is_read_or_later k.is)
    (λ none. absurd (none_is_in s none.1))
    (IsIn-cond_cases s change.opens (map (λ j. read_ok c change.id j (read_by layout (shard_of c) (heard_body change.id (known now)) cells)) (stable_ballots now change.id)) [] there)

release_reads : (layout : Layout) (c : Actor) (now : List Taken) (changes : List Change) (cells : Key → Option Value) (s : Message) → IsIn s (release layout c now changes cells)
    → is_read_or_later s ≡ true
release_reads layout c now [] cells s there = absurd (none_is_in s there)
release_reads layout c now (change ∷ changes) cells s there =
    ⊎_elim (opening_reads layout c now change cells s) (release_reads layout c now changes (written_by layout (shard_of c) now change cells) s)
    (IsIn-append_cases s (opening_of layout c now change cells) (release layout c now changes (written_by layout (shard_of c) now change cells)) there)

later_answers : (layout : Layout) (c : Actor) (history : List Taken) (m s : Message) → is_read_or_later m ≡ true → IsIn s (store_answer layout c history m)
    → is_read_or_later s ≡ true
later_answers layout c history (Apply from to id ballot brought t deps outcome) s read there =
    let m : Message = Apply from to id ballot brought t deps outcome in
    release_reads layout c (taking m history) (changes_of (shard_of c) (record { message = m; sent = [] }) history) (cells_at layout (shard_of c) history) s there
later_answers layout c history (ReadOk from to id ballot answer) s read there = absurd (none_is_in s there)
later_answers layout c history (Inform from to id ballot outcome) s read there = absurd (none_is_in s there)
later_answers layout c history m s read there = absurd (true≢false (sym read))

pub sends_alike : (layout : Layout) (c : Actor) (history : List Taken) (m s : Message) → StoreSends layout c history m s
    → (is_read_or_later s ≡ true) ⊎ ((id_of s ≡ id_of m) × (ballot_of s ≡ ballot_of m))
sends_alike layout c history m s (Votes from to x b brought counting v k p n e) = inr (refl, refl)
sends_alike layout c history m s (Accepts from to x b brought counting t proposed deps k p n e) = inr (refl, refl)
sends_alike layout c history m s (Commits from to x b brought t deps k p) = inr (refl, refl)
sends_alike layout c history m s (Reveals from to x b brought counting view p n e) = inr (refl, refl)
sends_alike layout c history m s (ReadsAtOnce from to x b brought t deps answer p e) = inl refl
sends_alike layout c history m s (ReadsOnOpening n change b answer before among opens there e) = inl refl
sends_alike layout c history m s (Refuses n promised e) = inr (refl, refl)
sends_alike layout c history m s (Tells n k e) = inr (refl, refl)

store_own : (x : TxnId) (b : Ballot) (layout : Layout) (c : Actor) (history : List Taken) (m s : Message) → Own x b m → IsIn s (store_answer layout c history m) → Own x b s
store_own x b layout c history m s (inl read) there = inl (later_answers layout c history m s read there)
store_own x b layout c history m s (inr own) there =
    ⊎_elim (λ read. inl read) (λ alike. inr (alike.0 ∙ own.0, alike.1 ∙ own.1)) (sends_alike layout c history m s (store_sends layout c history m s there))

-- ---- one entry

pub taking_event : (event : Event) → is_taking event ≡ true → (n : ℕ) × (event ≡ TakesMessage n)
taking_event (TakesMessage n) h = (n, refl)
taking_event (BeginEvent txn) h = absurd (true≢false (sym h))
taking_event (RecoverEvent txn) h = absurd (true≢false (sym h))
taking_event (SlowEvent txn) h = absurd (true≢false (sym h))
taking_event (RestartEvent kept) h = absurd (true≢false (sym h))

pub not_less : (n k : ℕ) → not (nat_lt n k) ≡ true → k ≤ n
not_less n k h = below n k (nat_lt n k) refl h
  where
    below : (n k : ℕ) (o : Bool) → nat_lt n k ≡ o → not o ≡ true → k ≤ n
    below n k true less h = absurd (true≢false (sym h))
    below n k false less h = grind arith

module _ (cluster : Cluster) (x : TxnId) (b : Ballot) where
  by_actor : (c : Actor) (deeds : List Deed) (m s : Message) → (o : Bool) → is_node c ≡ o → Own x b m → IsIn s (emits_by o cluster c deeds (Takes m)).out → Own x b s
  by_actor c deeds m s true is own there =
      node_own x b cluster.layout (node_of c) (clock_start cluster.starts (node_of c)) deeds (Takes m) m s refl own
      (node_sends cluster.layout (node_of c) (clock_start cluster.starts (node_of c)) deeds (Takes m) s there)
  by_actor c deeds m s false is own there = store_own x b cluster.layout c (taken_from deeds) m s own there

  entry_own : (earlier base : List Item) (t : Entry) → EachStands cluster (Step t ∷ earlier ++ base) → is_taking t.event ≡ true
      → item_takes_from (length (sent_of base)) (Step t) ≡ true → ((m : Message) → Sending earlier m → Own x b m) → (s : Message) → IsIn s t.emitted.out → Own x b s
  entry_own earlier base t h takes from before s there =
      let on : StandsOn cluster (earlier ++ base) t = h.0 in
      let event = taking_event t.event takes in
      let found = mapped (message_at (earlier ++ base) event.0) on.act (subst (λ k. act_of cluster (earlier ++ base) k ≡ Some on.act) event.1 on.act_is) in
      let least = not_less event.0 (length (sent_of base)) (subst (λ k. event_from k ≡ true) event.1 from) in
      by_actor t.actor (deeds_of cluster t.actor (earlier ++ base)) found.0 s (is_node t.actor) refl
      (before found.0 (sent_by_later earlier base event.0 found.0 least found.1.0))
      (subst (λ act. IsIn s (emits_by (is_node t.actor) cluster t.actor (deeds_of cluster t.actor (earlier ++ base)) act).out) found.1.1
      (subst (λ (w : Emitted). IsIn s w.out) on.emitted there))
    where
      event_from : Event → Bool
      event_from event = event_takes_from (length (sent_of base)) event

-- ---- a round

sending_cases : (item : Item) (earlier : List Item) (m : Message) → Sending (item ∷ earlier) m → IsIn m (sent_in item) ⊎ Sending earlier m
sending_cases item earlier m s = by (Step s.entry) s.earlier (item ∷ earlier) s.at refl refl
  where
    by : (i : Item) (p all : List Item) → StandsAt i p all → i ≡ Step s.entry → all ≡ item ∷ earlier → IsIn m (sent_in item) ⊎ Sending earlier m
    by i p all (Here j rest) is same = inl (subst (λ k. IsIn m (sent_in k)) (sym is ∙ first_same same) s.sent)
    by i p all (Back j k rest others there) is same =
        inr (record { entry = s.entry; earlier = rest; at = subst (λ l. StandsAt l rest earlier) is (subst (StandsAt j rest) (rest_same same) there); sent = s.sent })

pub delivered_step : (item : Item) → is_delivery item ≡ true → (t : Entry) × (item ≡ Step t) × (is_taking t.event ≡ true)
delivered_step (Step t) h = (t, refl, (and_parts (is_taking t.event) (not t.lost) h).0)
delivered_step (Skipped step cause) h = absurd (true≢false (sym h))
delivered_step (Down actor) h = absurd (true≢false (sym h))

module _ (cluster : Cluster) (x : TxnId) (b : Ballot) (base : List Item) (e : Entry) (sends : (m : Message) → IsIn m e.emitted.out → Own x b m) where
  own_all : (ds : List Item) → EachStands cluster ((ds ++ Step e ∷ []) ++ base) → list_all is_delivery ds ≡ true
      → list_all (item_takes_from (length (sent_of base))) ds ≡ true → (m : Message) → Sending (ds ++ Step e ∷ []) m → Own x b m
  own_all [] h only own m s = ⊎_elim (sends m) (λ none. elim none.at [ ]) (sending_cases (Step e) [] m s)
  own_all (item ∷ ds) h only own m s =
      let these = and_parts (is_delivery item) (list_all is_delivery ds) only in
      let those = and_parts (item_takes_from (length (sent_of base)) item) (list_all (item_takes_from (length (sent_of base))) ds) own in
      let rest = own_all ds h.1 these.1 those.1 in
      ⊎_elim
      (λ now.
      let k = delivered_step item these.0 in
      entry_own cluster x b (ds ++ Step e ∷ []) base k.0 (subst (λ i. EachStands cluster (i ∷ (ds ++ Step e ∷ []) ++ base)) k.1 h) k.2
      (subst (λ i. item_takes_from (length (sent_of base)) i ≡ true) k.1 those.0) rest m (subst (λ i. IsIn m (sent_in i)) k.1 now))
      (rest m) (sending_cases item (ds ++ Step e ∷ []) m s)

pub front_all : {T : Type 0} (test : T → Bool) (xs ys : List T) → list_all test (xs ++ ys) ≡ true → list_all test xs ≡ true
front_all test [] ys h = refl
front_all test (x ∷ xs) ys h =
    let k = and_parts (test x) (list_all test (xs ++ ys)) h in and_from (test x) (list_all test xs) k.0 (front_all test xs ys k.1)

pub rounds_send_their_own : (cluster : Cluster) → RoundsSendTheirOwn cluster
rounds_send_their_own cluster a x b base later m standing round s =
    by round.items_are standing s (front_all (item_takes_from (length (sent_of base))) round.deliveries (Step round.entry ∷ [])
    (subst (λ l. list_all (item_takes_from (length (sent_of base))) l ≡ true) round.items_are round.own))
  where
    by : later ≡ round.deliveries ++ Step round.entry ∷ [] → IsStanding cluster (later ++ base) → Sending later m
        → list_all (item_takes_from (length (sent_of base))) round.deliveries ≡ true → Own x b m
    by is stands sending own =
        let k = subst (λ l. IsStanding cluster (l ++ base)) is stands in
        let recover : IsRecover round.entry.actor x b round.entry =
        record { txn = round.recover.txn; event_is = round.recover.event_is; actor_is = refl; noted = round.recover.noted } in
        own_all cluster x b base round.entry
        (λ n there.
        let r = sends_views cluster base round.deliveries round.entry x b k recover n there in
        inr (ap id_of r.1, ap ballot_of r.1))
        round.deliveries k.stands round.only own m (subst (λ l. Sending l m) is sending)
