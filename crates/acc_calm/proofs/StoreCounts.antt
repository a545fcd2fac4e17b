-- A store sends at most one message for each that it takes: what it sends for a Stable it sends at once, or once it opens the
-- transaction.
use Rattle.std.proofs.Common.{◌≡◌, ℕ, ◌+◌, ◌≤◌, Bool, true, false, not, ◌&&◌, ◌||◌, cond, List, [], ◌∷◌, ◌++◌, length, count_by, map, filter, Option, None, Some, is_some, refl, sym, ◌∙◌, ap, subst, arith, length-append}
use Rattle.std.specs.List.{list_any}
use Rattle.std.proofs.lemmas.Bool.{true≢false, not-true, and_parts, cond_both, false_from_ne_true}
use Rattle.std.proofs.lemmas.List.{length-map}
use Rattle.std.proofs.lemmas.List.Folds.{list_any-append}
use Rattle.acc_stamp.specs.declared.stamps.TxnId.{TxnId}
use Rattle.acc_stamp.specs.declared.stamps.Ballot.{Ballot}
use Rattle.acc_stamp.specs.declared.actors.Actor.{Actor}
use Rattle.acc_stamp.specs.Actor.{shard_of}
use Rattle.acc_stamp.specs.Stamp.{id_eq, ballot_lt, zero_ballot}
use Rattle.acc_stamp.specs.Rising.{id_among, rising_with}
use Rattle.acc_stamp.proofs.Order.{id_order, eq-sym}
use Rattle.acc_topology.specs.Layout.{Layout}
use Rattle.acc_topology.proofs.Bits.{one_if, count_by-cons}
use Rattle.acc_deps.specs.declared.records.Settled.{Settled}
use Rattle.acc_value.specs.declared.key.Key.{Key}
use Rattle.acc_value.specs.declared.value.Value.{Value}
use Rattle.acc_message.specs.declared.message.Message.{Message}
use Rattle.acc_message.specs.declared.message.Message.TheVariants.{PreAccept, PreAcceptOk, Accept, AcceptOk, Commit, CommitOk, Stable, ReadOk, Apply, Recover, RecoverOk, Nack, Decided, Inform}
use Rattle.acc_message.specs.Fields.{id_of}
use Rattle.acc_message.specs.Taken.{Taken, taking, known, heard_body}
use Rattle.acc_message.specs.BallotRules.{promise_of, stable_of, kept_outcome}
use Rattle.acc_message.specs.Opening.{Standing, stable_ones, in_turn, is_ready, Change, turn_of, with_applied, pass, is_change, changes_of, opened_by, opened_of, applied_of, cells_at, written_by}
use Rattle.acc_message.specs.StoreRules.{unless_stable, unless_promised, nack, stable_ballots_in, stable_ballots, opening_of, release, released, at_once, kept_or, read_by, read_ok, store_answer}
use Rattle.acc_safety.specs.Histories.{EachAnswers}
use Rattle.acc_actor_laws.proofs.TakenAlone.{taken_alone}
use Rattle.acc_safety_laws.proofs.Apart.{NotStanding, StandApart, turns-apart}

-- ---- Stables whose transaction isn't opened

abbrev pub is_stable : Message → Bool
is_stable (Stable from to id ballot body t deps) = true
is_stable _ = false

-- the step takes a Stable about a transaction that isn't among these
abbrev pub waits_behind : List TxnId → Taken → Bool
waits_behind opened step = is_stable step.message && not (id_among (id_of step.message) opened)

-- the step takes a Stable about x
abbrev pub asks_for : TxnId → Taken → Bool
asks_for x step = is_stable step.message && id_eq (id_of step.message) x

abbrev pub sent_in_all : List Taken → ℕ
sent_in_all [] = 0
sent_in_all (step ∷ past) = length step.sent + sent_in_all past

-- ---- ballots of Stables

length-cond : {T : Type 0} (b : Bool) (xs ys : List T) (k : ℕ) → length xs ≤ k → length ys ≤ k → length (cond b xs ys) ≤ k
length-cond true xs ys k h l = h
length-cond false xs ys k h l = l

length-rising_with : (b : Ballot) (xs : List Ballot) → length (rising_with ballot_lt b xs) ≤ 1 + length xs
length-rising_with b [] = omega arith
length-rising_with b (y ∷ ys) =
    length-cond (ballot_lt b y) (b ∷ y ∷ ys) (cond (ballot_lt y b) (y ∷ rising_with ballot_lt b ys) (y ∷ ys)) (1 + length (y ∷ ys)) (omega arith)
    (length-cond (ballot_lt y b) (y ∷ rising_with ballot_lt b ys) (y ∷ ys) (1 + length (y ∷ ys)) (omega (arith, length-rising_with b ys)) (omega arith))

one_asked : (x : TxnId) (m : Message) (ballots : List Ballot) → length (stable_ballots_in x m ballots) ≤ one_if (is_stable m && id_eq (id_of m) x) + length ballots
one_asked x (Stable from to id ballot body t deps) ballots =
    cond_both (id_eq id x) (rising_with ballot_lt ballot ballots) ballots (λ list. length list ≤ one_if (id_eq id x) + length ballots)
    (λ same. subst (λ b. length (rising_with ballot_lt ballot ballots) ≤ one_if b + length ballots) (sym same) (length-rising_with ballot ballots))
    (λ other. subst (λ b. length ballots ≤ one_if b + length ballots) (sym other) (omega arith))
one_asked x (PreAccept from to id ballot body) ballots = omega arith
one_asked x (PreAcceptOk from to id ballot vote deps) ballots = omega arith
one_asked x (Accept from to id ballot body t deps) ballots = omega arith
one_asked x (AcceptOk from to id ballot deps) ballots = omega arith
one_asked x (Commit from to id ballot body t deps) ballots = omega arith
one_asked x (CommitOk from to id ballot) ballots = omega arith
one_asked x (ReadOk from to id ballot answer) ballots = omega arith
one_asked x (Apply from to id ballot body t deps outcome) ballots = omega arith
one_asked x (Recover from to id ballot body) ballots = omega arith
one_asked x (RecoverOk from to id ballot view) ballots = omega arith
one_asked x (Nack from to id ballot promised) ballots = omega arith
one_asked x (Decided from to id ballot t deps) ballots = omega arith
one_asked x (Inform from to id ballot outcome) ballots = omega arith

all_asked : (x : TxnId) (history : List Taken) → length (stable_ballots history x) ≤ count_by (asks_for x) history
all_asked x [] = omega arith
all_asked x (step ∷ past) =
    omega (arith, one_asked x step.message (stable_ballots past x), all_asked x past, count_by-cons (asks_for x) step past)

-- ---- what the changes of a step send

abbrev asked_for_all : List TxnId → List Taken → ℕ
asked_for_all [] history = 0
asked_for_all (x ∷ ids) history = count_by (asks_for x) history + asked_for_all ids history

one_opening : (layout : Layout) (own : Actor) (now : List Taken) (c : Change) (rest : List TxnId) (cells : Key → Option Value)
    → length (opening_of layout own now c cells) + asked_for_all rest now ≤ asked_for_all (cond c.opens (c.id ∷ rest) rest) now
one_opening layout own now c rest cells = by c.opens
  where
    answer : Ballot → Message
    answer b = read_ok own c.id b (read_by layout (shard_of own) (heard_body c.id (known now)) cells)

    by : (b : Bool)
        → length (cond b (map (λ k. read_ok own c.id k (read_by layout (shard_of own) (heard_body c.id (known now)) cells)) (stable_ballots now c.id)) [])
        + asked_for_all rest now
        ≤ asked_for_all (cond b (c.id ∷ rest) rest) now
    by true =
        omega (arith, all_asked c.id now, length-map (stable_ballots now c.id) (λ k. read_ok own c.id k (read_by layout (shard_of own) (heard_body c.id (known now)) cells)))
    by false = omega arith

release_length : (layout : Layout) (own : Actor) (now : List Taken) (changes : List Change) (cells : Key → Option Value)
    → length (release layout own now changes cells) ≤ asked_for_all (opened_by changes) now
release_length layout own now [] cells = omega arith
release_length layout own now (c ∷ changes) cells =
    omega (
      arith,
      length-append (opening_of layout own now c cells) (release layout own now changes (written_by layout (shard_of own) now c cells)),
      release_length layout own now changes (written_by layout (shard_of own) now c cells),
      one_opening layout own now c (opened_by changes) cells,
    )

-- ---- what is opened is new, each once

-- none of the first is among those after it
abbrev AreNew : List TxnId → List TxnId → Type 0
AreNew [] before = Unit {0}
AreNew (x ∷ ids) before = (id_among x (ids ++ before) ≡ false) × AreNew ids before

among_none : (x : TxnId) (ids before : List TxnId) → id_among x ids ≡ false → id_among x before ≡ false → id_among x (ids ++ before) ≡ false
among_none x ids before h k = list_any-append (λ y. id_eq y x) ids before ∙ ap (λ b. b || list_any (λ y. id_eq y x) before) h ∙ k

module _ (shard : ℕ) (history : List Taken) (before applied_before : List TxnId) where
  abbrev opened_in : List TxnId → List Standing → List TxnId
  opened_in applied_ones list = opened_by (filter is_change (pass shard history before applied_before applied_ones list))

  -- with a change in front
  with_change : (P : List TxnId → Type 0) (c : Change) (changes : List Change) → (c.opens ≡ true → P (c.id ∷ opened_by (filter is_change changes)))
      → P (opened_by (filter is_change changes)) → P (opened_by (filter is_change (c ∷ changes)))
  with_change P c changes h k =
      cond_both (is_change c) (c ∷ filter is_change changes) (filter is_change changes) (λ list. P (opened_by list))
      (λ _. cond_both c.opens (c.id ∷ opened_by (filter is_change changes)) (opened_by (filter is_change changes)) P h (λ _. k))
      (λ _. k)

  not_opened : (x : TxnId) (applied_ones : List TxnId) (list : List Standing) → NotStanding x list → id_among x (opened_in applied_ones list) ≡ false
  not_opened x applied_ones [] h = refl
  not_opened x applied_ones (s ∷ rest) h =
      let turn = turn_of s.id (id_among s.id before) (id_among s.id applied_before) (is_ready shard history applied_ones s.settled) (is_some (kept_outcome history s.id)) in
      with_change (λ ids. id_among x ids ≡ false) turn.change (pass shard history before applied_before (with_applied turn.is_applied s.id applied_ones) rest)
      (λ _. ap (λ b. b || id_among x (opened_in (with_applied turn.is_applied s.id applied_ones) rest)) (false_from_ne_true (id_eq s.id x) (λ same. h.0 ((id_order.decides s.id x).0 same)))
      ∙ not_opened x (with_applied turn.is_applied s.id applied_ones) rest h.1)
      (not_opened x (with_applied turn.is_applied s.id applied_ones) rest h.1)

  opened_new : (applied_ones : List TxnId) (list : List Standing) → StandApart list → AreNew (opened_in applied_ones list) before
  opened_new applied_ones [] apart = tt
  opened_new applied_ones (s ∷ rest) apart =
      let turn = turn_of s.id (id_among s.id before) (id_among s.id applied_before) (is_ready shard history applied_ones s.settled) (is_some (kept_outcome history s.id)) in
      with_change (λ ids. AreNew ids before) turn.change (pass shard history before applied_before (with_applied turn.is_applied s.id applied_ones) rest)
      (λ opens. (
        among_none s.id (opened_in (with_applied turn.is_applied s.id applied_ones) rest) before (not_opened s.id (with_applied turn.is_applied s.id applied_ones) rest apart.0)
            (not-true (id_among s.id before) (and_parts (not (id_among s.id before)) (is_ready shard history applied_ones s.settled) opens).0),
        opened_new (with_applied turn.is_applied s.id applied_ones) rest apart.1,
      ))
      (opened_new (with_applied turn.is_applied s.id applied_ones) rest apart.1)

pub newly_opened : (shard : ℕ) (step : Taken) (past : List Taken) → AreNew (opened_by (changes_of shard step past)) (opened_of shard past)
newly_opened shard step past =
    opened_new shard (step ∷ past) (opened_of shard past) (applied_of shard past) [] (in_turn (stable_ones (step ∷ past) (known (step ∷ past)))) (turns-apart (step ∷ past))

-- ---- the Stables that wait, and those that are answered

waits_less : (s e among : Bool) → (e ≡ true → among ≡ false) → one_if (s && e) + one_if (s && not (e || among)) ≤ one_if (s && not among)
waits_less false e among h = omega arith
waits_less true true true h = absurd (true≢false (h refl))
waits_less true true false h = omega arith
waits_less true false among h = omega arith

one_answered : (x : TxnId) (ids : List TxnId) (history : List Taken) → id_among x ids ≡ false
    → count_by (asks_for x) history + count_by (waits_behind (x ∷ ids)) history ≤ count_by (waits_behind ids) history
one_answered x ids [] h = omega arith
one_answered x ids (step ∷ past) h =
    omega (
      arith,
      count_by-cons (asks_for x) step past,
      count_by-cons (waits_behind (x ∷ ids)) step past,
      count_by-cons (waits_behind ids) step past,
      one_answered x ids past h,
      here,
    )
  where
    here : one_if (asks_for x step) + one_if (waits_behind (x ∷ ids) step) ≤ one_if (waits_behind ids step)
    here =
        subst (λ e. one_if (asks_for x step) + one_if (is_stable step.message && not (e || id_among (id_of step.message) ids)) ≤ one_if (waits_behind ids step))
        (eq-sym id_order (id_of step.message) x)
        (waits_less (is_stable step.message) (id_eq (id_of step.message) x) (id_among (id_of step.message) ids)
        (λ same. subst (λ y. id_among y ids ≡ false) (sym ((id_order.decides (id_of step.message) x).0 same)) h))

all_answered : (ids before : List TxnId) (history : List Taken) → AreNew ids before
    → asked_for_all ids history + count_by (waits_behind (ids ++ before)) history ≤ count_by (waits_behind before) history
all_answered [] before history h = omega arith
all_answered (x ∷ ids) before history h = omega (arith, one_answered x (ids ++ before) history h.0, all_answered ids before history h.1)

-- ---- a step

nack_one : (own : Actor) (x : TxnId) (b promised least : Ballot) (answer : List Message) → length answer ≤ 1 → length (unless_promised own x b promised least answer) ≤ 1
nack_one own x b promised least answer h = length-cond (ballot_lt least promised) (nack own x b promised) answer 1 (omega arith) h

stable_one : (own : Actor) (x : TxnId) (b : Ballot) (o : Option Settled) (answer : List Message) → length answer ≤ 1 → length (unless_stable own x b o answer) ≤ 1
stable_one own x b None answer h = h
stable_one own x b (Some s) answer h = omega arith

module _ (layout : Layout) (own : Actor) (past : List Taken) where
  abbrev opened_before : List TxnId
  opened_before = opened_of (shard_of own) past

  abbrev opens : Message → List TxnId
  opens m = opened_by (changes_of (shard_of own) (record { message = m; sent = [] }) past)

  released_length : (m : Message) → length (released layout own past m) ≤ asked_for_all (opens m) (taking m past)
  released_length m = release_length layout own (taking m past) (changes_of (shard_of own) (record { message = m; sent = [] }) past) (cells_at layout (shard_of own) past)

  -- what a step sends, with the Stables that wait then, is at most one more than those that waited before
  Pays : Message → Type 0
  Pays m = length (store_answer layout own past m) + count_by (waits_behind (opens m ++ opened_before)) (taking m past) ≤ 1 + count_by (waits_behind opened_before) past

  answered_once : (m : Message) → length (store_answer layout own past m) ≤ 1 → is_stable m ≡ false → Pays m
  unfolding Pays
  answered_once m h other =
      omega (
        arith,
        h,
        all_answered (opens m) opened_before (taking m past) (newly_opened (shard_of own) (record { message = m; sent = [] }) past),
        count_by-cons (waits_behind opened_before) (record { message = m; sent = [] }) past,
        none,
      )
    where
      none : one_if (is_stable m && not (id_among (id_of m) opened_before)) ≡ 0
      none = ap (λ b. one_if (b && not (id_among (id_of m) opened_before))) other

  at_once_or_waits : (id : TxnId) (ballot : Ballot) → length (at_once layout own past id ballot) + one_if (not (id_among id opened_before)) ≡ 1
  at_once_or_waits id ballot = by (id_among id opened_before)
    where
      by : (b : Bool)
          → length (cond b (read_ok own id ballot (kept_or (kept_outcome past id) (read_by layout (shard_of own) (heard_body id (known past)) (cells_at layout (shard_of own) past))) ∷ []) [])
          + one_if (not b) ≡ 1
      by true = refl
      by false = refl

  pays : (m : Message) → Pays m
  unfolding Pays
  pays (PreAccept from to id ballot body) =
      answered_once (PreAccept from to id ballot body)
      (stable_one own id ballot (stable_of past id) _ (nack_one own id ballot (promise_of past id) zero_ballot _ (omega arith))) refl
  pays (Accept from to id ballot body t deps) =
      answered_once (Accept from to id ballot body t deps)
      (stable_one own id ballot (stable_of past id) _ (nack_one own id ballot (promise_of past id) ballot _ (omega arith))) refl
  pays (Commit from to id ballot body t deps) =
      answered_once (Commit from to id ballot body t deps)
      (stable_one own id ballot (stable_of past id) _ (nack_one own id ballot (promise_of past id) ballot _ (omega arith))) refl
  pays (Recover from to id ballot body) =
      answered_once (Recover from to id ballot body)
      (length-cond (ballot_lt (promise_of past id) ballot) _ (nack own id ballot (promise_of past id)) 1 (omega arith) (omega arith)) refl
  pays (Stable from to id ballot body t deps) =
      let m = Stable from to id ballot body t deps in
      omega (
        arith,
        length-append (at_once layout own past id ballot) (released layout own past m),
        released_length m,
        all_answered (opens m) opened_before (taking m past) (newly_opened (shard_of own) (record { message = m; sent = [] }) past),
        count_by-cons (waits_behind opened_before) (record { message = m; sent = [] }) past,
        at_once_or_waits id ballot,
      )
  pays (Apply from to id ballot body t deps outcome) =
      let m = Apply from to id ballot body t deps outcome in
      omega (
        arith,
        released_length m,
        all_answered (opens m) opened_before (taking m past) (newly_opened (shard_of own) (record { message = m; sent = [] }) past),
        count_by-cons (waits_behind opened_before) (record { message = m; sent = [] }) past,
      )
  pays (PreAcceptOk from to id ballot vote deps) = answered_once (PreAcceptOk from to id ballot vote deps) (omega arith) refl
  pays (AcceptOk from to id ballot deps) = answered_once (AcceptOk from to id ballot deps) (omega arith) refl
  pays (CommitOk from to id ballot) = answered_once (CommitOk from to id ballot) (omega arith) refl
  pays (ReadOk from to id ballot answer) = answered_once (ReadOk from to id ballot answer) (omega arith) refl
  pays (RecoverOk from to id ballot view) = answered_once (RecoverOk from to id ballot view) (omega arith) refl
  pays (Nack from to id ballot promised) = answered_once (Nack from to id ballot promised) (omega arith) refl
  pays (Decided from to id ballot t deps) = answered_once (Decided from to id ballot t deps) (omega arith) refl
  pays (Inform from to id ballot outcome) = answered_once (Inform from to id ballot outcome) (omega arith) refl

-- what a step sent doesn't matter to what waits
waits_alone : (opened : List TxnId) (step : Taken) (past : List Taken) → count_by (waits_behind opened) (step ∷ past) ≡ count_by (waits_behind opened) (taking step.message past)
waits_alone opened step past =
    count_by-cons (waits_behind opened) step past ∙ sym (count_by-cons (waits_behind opened) (record { message = step.message; sent = [] }) past)

pub history_pays : (layout : Layout) (own : Actor) (history : List Taken) → EachAnswers layout own history
    → sent_in_all history + count_by (waits_behind (opened_of (shard_of own) history)) history ≤ length history
unfolding Pays
history_pays layout own [] each = omega arith
history_pays layout own (step ∷ past) each =
    omega (arith, sent_is, pays_here, waits_alone (opened_of (shard_of own) (step ∷ past)) step past, opened_alone, history_pays layout own past each.1)
  where
    sent_is : length step.sent ≡ length (store_answer layout own past step.message)
    sent_is = ap length each.0

    pays_here : length (store_answer layout own past step.message)
        + count_by (waits_behind (opens layout own past step.message ++ opened_before layout own past)) (taking step.message past)
        ≤ 1 + count_by (waits_behind (opened_before layout own past)) past
    pays_here = pays layout own past step.message

    opened_alone : count_by (waits_behind (opened_of (shard_of own) (step ∷ past))) (taking step.message past)
        ≡ count_by (waits_behind (opened_of (shard_of own) (taking step.message past))) (taking step.message past)
    opened_alone =
        ap (λ ids. count_by (waits_behind ids) (taking step.message past))
        ((taken_alone (step ∷ past) (taking step.message past) refl).opened_is (shard_of own))
