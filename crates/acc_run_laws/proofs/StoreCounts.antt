-- How many messages a store sends in a step: at most one more than it has taken, with the one that it takes.
use Rattle.std.proofs.Common.{◌≡◌, ℕ, suc, ◌+◌, ◌≤◌, Bool, true, false, cond, List, [], ◌∷◌, length, map, Option, None, Some, refl, sym, ◌∙◌, ap, subst, arith, ⊎_elim, length-append}
use Rattle.std.specs.List.{AllByRecursion, IsDistinct}
use Rattle.std.specs.Ordering.{ordering_then, is_lt}
use Rattle.std.proofs.lemmas.Bool.{true≢false, cond_both, cases_Bool}
use Rattle.std.proofs.lemmas.Bool.Decides.{nat_tests}
use Rattle.acc_stamp.specs.declared.stamps.Stamp.{Stamp}
use Rattle.acc_stamp.specs.declared.stamps.TxnId.{TxnId}
use Rattle.acc_stamp.specs.declared.stamps.Ballot.{Ballot}
use Rattle.acc_stamp.specs.declared.actors.Actor.{Actor}
use Rattle.acc_stamp.specs.Actor.{shard_of}
use Rattle.acc_stamp.specs.Stamp.{stamp_cmp, id_cmp, id_eq, ballot_lt, zero_ballot}
use Rattle.acc_stamp.specs.Rising.{IsRisingBy, rising_with}
use Rattle.acc_stamp.proofs.Order.{id_order}
use Rattle.acc_topology.specs.Layout.{Layout}
use Rattle.acc_deps.specs.declared.records.Settled.{Settled}
use Rattle.acc_value.specs.declared.key.Key.{Key}
use Rattle.acc_value.specs.declared.value.Value.{Value}
use Rattle.acc_message.specs.declared.message.Message.{Message}
use Rattle.acc_message.specs.declared.message.Message.TheVariants.{PreAccept, PreAcceptOk, Accept, AcceptOk, Commit, CommitOk, Stable, ReadOk, Apply, Recover, RecoverOk, Nack, Decided, Inform}
use Rattle.acc_message.specs.Fields.{id_of}
use Rattle.acc_message.specs.Taken.{Taken, taking, known, heard_body}
use Rattle.acc_message.specs.VoteRule.{vote_for}
use Rattle.acc_message.specs.BallotRules.{promise_of, stable_of, kept_outcome}
use Rattle.acc_message.specs.Opening.{Standing, standing_lt, Change, changes_of, is_opened, cells_at, written_by}
use Rattle.acc_message.specs.StoreRules.{body_counting, unless_stable, unless_promised, voted, nack, read_ok, read_by, stable_ballots_in, stable_ballots, opening_of, release, released, kept_or, at_once, store_answer}
use Rattle.acc_message.specs.declared.entry.Entry.{Entry}
use Rattle.acc_message.specs.declared.entry.Emitted.{Emitted}
use Rattle.acc_message.specs.declared.item.Item.{Item}
use Rattle.acc_message.specs.declared.item.Item.TheVariants.{Step, Skipped, Down}
use Rattle.acc_message.specs.Items.{same_actor}
use Rattle.acc_message.specs.NodeRules.{Act, Begins, Recovers, Slows, Takes, Restarts, Deed}
use Rattle.acc_message.specs.Run.{Cluster, act_of, deed_with, deed_if, deeds_of, taken_with, taken_from, taken_of}
use Rattle.acc_actor_laws.specs.OpeningOrder.{AreInOrder}
use Rattle.acc_actor_laws.proofs.OpeningFacts.{some_is}
use Rattle.acc_actor_laws.proofs.OpeningOrder.{opens_in_order}

-- ---- the changes of a step have different transactions

same_not_lt : (a b : Standing) → a.id ≡ b.id → a.settled ≡ b.settled → standing_lt a b ≡ false
same_not_lt a b id settled =
    subst (λ (s : Settled). is_lt (ordering_then (stamp_cmp a.settled.t s.t) (id_cmp a.id b.id)) ≡ false) settled
    (subst (λ (x : TxnId). is_lt (ordering_then (stamp_cmp a.settled.t a.settled.t) (id_cmp a.id x)) ≡ false) id (itself a.settled.t a.id))
  where
    itself : (t : Stamp) (x : TxnId) → is_lt (ordering_then (stamp_cmp t t) (id_cmp x x)) ≡ false
    itself t x = grind (arith, nat_tests)

apart_ids : (history : List Taken) (a b : Standing) → stable_of history a.id ≡ Some a.settled → stable_of history b.id ≡ Some b.settled → standing_lt a b ≡ true → id_eq a.id b.id ≡ false
apart_ids history a b h k below =
    ⊎_elim
    (λ same.
    let id = (id_order.decides a.id b.id).0 same in
    absurd (true≢false (sym below ∙ same_not_lt a b id (some_is a.settled b.settled (sym h ∙ ap (stable_of history) id ∙ k)))))
    (λ other. other) (cases_Bool (id_eq a.id b.id))

apart_from : (history : List Taken) (s : Standing) (rest : List Standing) → stable_of history s.id ≡ Some s.settled → AllByRecursion (λ (r : Standing). stable_of history r.id ≡ Some r.settled) rest
    → AllByRecursion (λ r. standing_lt s r ≡ true) rest → AllByRecursion (λ y. id_eq s.id y ≡ false) (map (λ (r : Standing). r.id) rest)
apart_from history s [] h truly below = tt
apart_from history s (r ∷ rest) h truly below = (apart_ids history s r h truly.0 below.0, apart_from history s rest h truly.1 below.1)

distinct_standings : (history : List Taken) (list : List Standing) → AllByRecursion (λ (s : Standing). stable_of history s.id ≡ Some s.settled) list → IsRisingBy standing_lt list
    → IsDistinct id_eq (map (λ (s : Standing). s.id) list)
unfolding IsDistinct
distinct_standings history [] truly rising = tt
distinct_standings history (s ∷ rest) truly rising = (apart_from history s rest truly.0 truly.1 rising.0, distinct_standings history rest truly.1 rising.1)

distinct_changes : (shard : ℕ) (step : Taken) (past : List Taken) → IsDistinct id_eq (map (λ (c : Change). c.id) (changes_of shard step past))
distinct_changes shard step past =
    let order : AreInOrder (step ∷ past) (changes_of shard step past) = (opens_in_order shard step past).order in
    subst (IsDistinct id_eq) order.same (distinct_standings (step ∷ past) order.standings order.truly order.rising)

-- ---- the Stables of different transactions

asked : List TxnId → List Taken → ℕ
asked [] history = 0
asked (x ∷ ids) history = length (stable_ballots history x) + asked ids history

with_one : (b : Ballot) (ballots : List Ballot) → length (rising_with ballot_lt b ballots) ≤ length ballots + 1
with_one b [] = omega arith
with_one b (c ∷ ballots) =
    let rest = with_one b ballots in
    cond_both (ballot_lt b c) (b ∷ c ∷ ballots) _ (λ list. length list ≤ length (c ∷ ballots) + 1) (λ _. omega arith)
    (λ _. cond_both (ballot_lt c b) (c ∷ rising_with ballot_lt b ballots) (c ∷ ballots) (λ list. length list ≤ length (c ∷ ballots) + 1) (λ _. omega (arith, rest)) (λ _. omega arith))

one_more : (x : TxnId) (m : Message) (ballots : List Ballot) → length (stable_ballots_in x m ballots) ≤ length ballots + 1
one_more x (Stable from to id ballot body t deps) ballots =
    cond_both (id_eq id x) (rising_with ballot_lt ballot ballots) ballots (λ list. length list ≤ length ballots + 1) (λ _. with_one ballot ballots) (λ _. omega arith)
one_more x (PreAccept from to id ballot body) ballots = omega arith
one_more x (PreAcceptOk from to id ballot vote deps) ballots = omega arith
one_more x (Accept from to id ballot body t deps) ballots = omega arith
one_more x (AcceptOk from to id ballot deps) ballots = omega arith
one_more x (Commit from to id ballot body t deps) ballots = omega arith
one_more x (CommitOk from to id ballot) ballots = omega arith
one_more x (ReadOk from to id ballot answer) ballots = omega arith
one_more x (Apply from to id ballot body t deps outcome) ballots = omega arith
one_more x (Recover from to id ballot body) ballots = omega arith
one_more x (RecoverOk from to id ballot view) ballots = omega arith
one_more x (Nack from to id ballot promised) ballots = omega arith
one_more x (Decided from to id ballot t deps) ballots = omega arith
one_more x (Inform from to id ballot outcome) ballots = omega arith

no_more : (x : TxnId) (m : Message) (ballots : List Ballot) → id_eq (id_of m) x ≡ false → length (stable_ballots_in x m ballots) ≤ length ballots
no_more x (Stable from to id ballot body t deps) ballots other =
    subst (λ b. length (cond b (rising_with ballot_lt ballot ballots) ballots) ≤ length ballots) (sym other) (omega arith)
no_more x (PreAccept from to id ballot body) ballots other = omega arith
no_more x (PreAcceptOk from to id ballot vote deps) ballots other = omega arith
no_more x (Accept from to id ballot body t deps) ballots other = omega arith
no_more x (AcceptOk from to id ballot deps) ballots other = omega arith
no_more x (Commit from to id ballot body t deps) ballots other = omega arith
no_more x (CommitOk from to id ballot) ballots other = omega arith
no_more x (ReadOk from to id ballot answer) ballots other = omega arith
no_more x (Apply from to id ballot body t deps outcome) ballots other = omega arith
no_more x (Recover from to id ballot body) ballots other = omega arith
no_more x (RecoverOk from to id ballot view) ballots other = omega arith
no_more x (Nack from to id ballot promised) ballots other = omega arith
no_more x (Decided from to id ballot t deps) ballots other = omega arith
no_more x (Inform from to id ballot outcome) ballots other = omega arith

others_asked : (ids : List TxnId) (step : Taken) (past : List Taken) → AllByRecursion (λ y. id_eq (id_of step.message) y ≡ false) ids → asked ids (step ∷ past) ≤ asked ids past
unfolding asked
others_asked [] step past h = omega arith
others_asked (x ∷ ids) step past h =
    let here = no_more x step.message (stable_ballots past x) h.0 in let rest = others_asked ids step past h.1 in omega (arith, here, rest)

one_asked : (ids : List TxnId) (step : Taken) (past : List Taken) → IsDistinct id_eq ids → asked ids (step ∷ past) ≤ asked ids past + 1
unfolding asked IsDistinct
one_asked [] step past h = omega arith
one_asked (x ∷ ids) step past h =
    ⊎_elim
    (λ same.
    let here = one_more x step.message (stable_ballots past x) in
    let rest = others_asked ids step past (subst (λ z. AllByRecursion (λ y. id_eq z y ≡ false) ids) (sym ((id_order.decides (id_of step.message) x).0 same)) h.0) in
    omega (arith, here, rest))
    (λ other.
    let here = no_more x step.message (stable_ballots past x) other in let rest = one_asked ids step past h.1 in omega (arith, here, rest))
    (cases_Bool (id_eq (id_of step.message) x))

none_asked : (ids : List TxnId) → asked ids [] ≤ 0
unfolding asked
none_asked [] = omega arith
none_asked (x ∷ ids) = let rest = none_asked ids in omega (arith, rest)

all_asked : (ids : List TxnId) (history : List Taken) → IsDistinct id_eq ids → asked ids history ≤ length history
all_asked ids [] h = none_asked ids
all_asked ids (step ∷ past) h = let here = one_asked ids step past h in let rest = all_asked ids past h in omega (arith, here, rest)

-- ---- what the changes of a step send

length_mapped : {X Y : Type 0} (f : X → Y) (xs : List X) → length (map f xs) ≡ length xs
length_mapped f [] = refl
length_mapped f (x ∷ xs) = ap suc (length_mapped f xs)

opening_few : (layout : Layout) (own : Actor) (now : List Taken) (c : Change) (cells : Key → Option Value) → length (opening_of layout own now c cells) ≤ length (stable_ballots now c.id)
opening_few layout own now c cells =
    let answer : Ballot → Message = λ b. read_ok own c.id b (read_by layout (shard_of own) (heard_body c.id (known now)) cells) in
    let all = length_mapped answer (stable_ballots now c.id) in
    cond_both c.opens (map answer (stable_ballots now c.id)) [] (λ list. length list ≤ length (stable_ballots now c.id)) (λ _. omega (arith, all)) (λ _. omega arith)

release_few : (layout : Layout) (own : Actor) (now : List Taken) (changes : List Change) (cells : Key → Option Value)
    → length (release layout own now changes cells) ≤ asked (map (λ (c : Change). c.id) changes) now
unfolding asked
release_few layout own now [] cells = omega arith
release_few layout own now (c ∷ changes) cells =
    let here = opening_few layout own now c cells in
    let rest = release_few layout own now changes (written_by layout (shard_of own) now c cells) in
    omega (arith, length-append (opening_of layout own now c cells) (release layout own now changes (written_by layout (shard_of own) now c cells)), here, rest)

released_few : (layout : Layout) (own : Actor) (past : List Taken) (m : Message) → length (released layout own past m) ≤ length past + 1
released_few layout own past m =
    let step : Taken = record { message = m; sent = [] } in
    let all = release_few layout own (taking m past) (changes_of (shard_of own) step past) (cells_at layout (shard_of own) past) in
    let few = all_asked (map (λ (c : Change). c.id) (changes_of (shard_of own) step past)) (taking m past) (distinct_changes (shard_of own) step past) in
    omega (arith, all, few)

-- ---- a step

unless_stable_few : (own : Actor) (x : TxnId) (b : Ballot) (o : Option Settled) (answer : List Message) → length answer ≤ 1 → length (unless_stable own x b o answer) ≤ 1
unless_stable_few own x b None answer h = h
unless_stable_few own x b (Some s) answer h = omega arith

unless_promised_few : (own : Actor) (x : TxnId) (b promised least : Ballot) (answer : List Message) → length answer ≤ 1 → length (unless_promised own x b promised least answer) ≤ 1
unless_promised_few own x b promised least answer h =
    cond_both (ballot_lt least promised) (nack own x b promised) answer (λ list. length list ≤ 1) (λ _. omega arith) (λ _. h)

at_once_few : (layout : Layout) (own : Actor) (past : List Taken) (x : TxnId) (b : Ballot) → length (at_once layout own past x b) ≤ 1
at_once_few layout own past x b =
    cond_both (is_opened (shard_of own) past x) (read_ok own x b (kept_or (kept_outcome past x) (read_by layout (shard_of own) (heard_body x (known past)) (cells_at layout (shard_of own) past))) ∷ [])
    [] (λ list. length list ≤ 1) (λ _. omega arith) (λ _. omega arith)

one : (n k : ℕ) → n ≤ 1 → n ≤ k + 2
one n k h = omega (arith, h)

pub answer_few : (layout : Layout) (own : Actor) (past : List Taken) (m : Message) → length (store_answer layout own past m) ≤ length past + 2
answer_few layout own past (PreAccept from to id ballot body) =
    let now : List Taken = taking (PreAccept from to id ballot body) past in
    let vote = voted own id ballot (vote_for layout own past now id (body_counting now id body)) in
    one _ (length past)
    (unless_stable_few own id ballot (stable_of past id) (unless_promised own id ballot (promise_of past id) zero_ballot vote)
    (unless_promised_few own id ballot (promise_of past id) zero_ballot vote (omega arith)))
answer_few layout own past (Accept from to id ballot body t deps) =
    one _ (length past)
    (unless_stable_few own id ballot (stable_of past id) _ (unless_promised_few own id ballot (promise_of past id) ballot _ (omega arith)))
answer_few layout own past (Commit from to id ballot body t deps) =
    one _ (length past) (unless_stable_few own id ballot (stable_of past id) _ (unless_promised_few own id ballot (promise_of past id) ballot _ (omega arith)))
answer_few layout own past (Stable from to id ballot body t deps) =
    let all = released_few layout own past (Stable from to id ballot body t deps) in
    let first = at_once_few layout own past id ballot in
    omega (arith, length-append (at_once layout own past id ballot) (released layout own past (Stable from to id ballot body t deps)), all, first)
answer_few layout own past (Apply from to id ballot body t deps outcome) =
    let all = released_few layout own past (Apply from to id ballot body t deps outcome) in omega (arith, all)
answer_few layout own past (Recover from to id ballot body) =
    one _ (length past)
    (cond_both (ballot_lt (promise_of past id) ballot) _ (nack own id ballot (promise_of past id)) (λ (list : List Message). length list ≤ 1) (λ _. omega arith) (λ _. omega arith))
answer_few layout own past (PreAcceptOk from to id ballot vote deps) = omega arith
answer_few layout own past (AcceptOk from to id ballot deps) = omega arith
answer_few layout own past (CommitOk from to id ballot) = omega arith
answer_few layout own past (ReadOk from to id ballot answer) = omega arith
answer_few layout own past (RecoverOk from to id ballot view) = omega arith
answer_few layout own past (Nack from to id ballot promised) = omega arith
answer_few layout own past (Decided from to id ballot t deps) = omega arith
answer_few layout own past (Inform from to id ballot outcome) = omega arith

-- ---- what a store took

one_taken : (act : Act) (emitted : Emitted) → length (taken_with act emitted) ≤ 1
one_taken (Takes m) emitted = omega arith
one_taken (Begins txn body) emitted = omega arith
one_taken (Recovers x body) emitted = omega arith
one_taken (Slows x) emitted = omega arith
one_taken Restarts emitted = omega arith

taken_few : (deeds : List Deed) → length (taken_from deeds) ≤ length deeds
taken_few [] = omega arith
taken_few (deed ∷ past) =
    let here = one_taken deed.act deed.emitted in let rest = taken_few past in
    omega (arith, length-append (taken_with deed.act deed.emitted) (taken_from past), here, rest)

one_deed : (b : Bool) (cluster : Cluster) (earlier : List Item) (e : Entry) → length (deed_if b cluster earlier e) ≤ 1
one_deed true cluster earlier e = by (act_of cluster earlier e.event)
  where
    by : (o : Option Act) → length (deed_with o e.emitted) ≤ 1
    by None = omega arith
    by (Some act) = omega arith
one_deed false cluster earlier e = omega arith

deeds_few : (cluster : Cluster) (a : Actor) (items : List Item) → length (deeds_of cluster a items) ≤ length items
deeds_few cluster a [] = omega arith
deeds_few cluster a (Step e ∷ earlier) =
    let here = one_deed (same_actor e.actor a) cluster earlier e in let rest = deeds_few cluster a earlier in
    omega (arith, length-append (deed_if (same_actor e.actor a) cluster earlier e) (deeds_of cluster a earlier), here, rest)
deeds_few cluster a (Skipped step cause ∷ earlier) = let rest = deeds_few cluster a earlier in omega (arith, rest)
deeds_few cluster a (Down actor ∷ earlier) = let rest = deeds_few cluster a earlier in omega (arith, rest)

pub taken_of_few : (cluster : Cluster) (a : Actor) (items : List Item) → length (taken_of cluster a items) ≤ length items
taken_of_few cluster a items =
    let taken = taken_few (deeds_of cluster a items) in let deeds = deeds_few cluster a items in omega (arith, taken, deeds)
