-- Quorums of answers meet in a store that gave an answer to both; and conflicts are one both ways.
use Rattle.std.proofs.Common.{◌≡◌, ℕ, zero, suc, ◌*◌, ◌+◌, ◌%◌, ◌≤◌, ◌<◌, Bool, true, false, not, ◌==◌, ◌&&◌, List, [], ◌∷◌, length, filter, sym, ◌∙◌, ap, subst, ⊎_elim, arith}
use Rattle.std.specs.List.{list_any, range_with_len}
use Rattle.std.proofs.lemmas.Bool.{true≢false, or_cases, or_left, or_right, and_parts, eqb-true, eq-eqb, cond_both, cases_Bool}
use Rattle.acc_stamp.specs.declared.stamps.TxnId.{TxnId}
use Rattle.acc_stamp.specs.declared.actors.Actor.{Actor}
use Rattle.acc_stamp.specs.Actor.{actor_of, shard_of}
use Rattle.acc_stamp.specs.Stamp.{stamp_eq}
use Rattle.acc_stamp.proofs.Order.{stamp_order}
use Rattle.acc_topology.specs.Layout.{Layout, IsLayout, HasShard}
use Rattle.acc_topology.specs.Keys.{shard_of_key, shards_of, share_of}
use Rattle.acc_topology.specs.Sets.{is_among, numbers}
use Rattle.acc_topology.proofs.Ends.{shard_of-holds}
use Rattle.acc_quorum.specs.Answers.{Answer, is_from, has_answered, has_kept, has_changed}
use Rattle.acc_quorum.specs.Meetings.{MeetSomewhere, InCommon, AreShardsOf}
use Rattle.acc_quorum.proofs.Counted.{majorities, fast_and_majority, fast_and_fast, fast_and_possible_fast, lost_and_fast, impossible_and_fast}
use Rattle.acc_value.specs.declared.key.Key.{Key}
use Rattle.acc_value.proofs.Clash.{clashes-symm}
use Rattle.acc_txn.specs.declared.parts.BodyParts.{BodyParts}
use Rattle.acc_txn.specs.Uses.{footprint_of}
use Rattle.acc_message.specs.declared.message.Message.{Message}
use Rattle.acc_message.specs.declared.item.Item.{Item}
use Rattle.acc_message.specs.Fields.{from_of}
use Rattle.acc_message.specs.Shares.{shards_used, conflict_in}
use Rattle.acc_message.specs.Attempts.{vote_in_answer, plain, plainly, majority_everywhere, fast_everywhere, fast_lost_somewhere, may_be_fast_everywhere}
use Rattle.acc_message.specs.Run.{Cluster}
use Rattle.acc_safety.specs.Places.{IsIn, First, Later}
use Rattle.acc_safety.specs.Polls.{IsBody, Meeting, AreRivals, IsAny, Kept, Changed}
use Rattle.acc_safety.proofs.PlaceOrder.{passing}

-- ---- shards

among-filter : (test : ℕ → Bool) (ns : List ℕ) (n : ℕ) → is_among (filter test ns) n ≡ true → test n ≡ true
among-filter test [] n = λ h. absurd (true≢false (sym h))
among-filter test (m ∷ ns) n =
    cond_both (test m) (m ∷ filter test ns) (filter test ns) (λ list. is_among list n ≡ true → test n ≡ true)
    (λ passes h. ⊎_elim (λ same. subst (λ z. test z ≡ true) (eqb-true m n same) passes) (among-filter test ns n) (or_cases (m == n) (is_among (filter test ns) n) h))
    (λ _. among-filter test ns n)

filter-among : (test : ℕ → Bool) (ns : List ℕ) (n : ℕ) → is_among ns n ≡ true → test n ≡ true → is_among (filter test ns) n ≡ true
filter-among test [] n = λ h _. absurd (true≢false (sym h))
filter-among test (m ∷ ns) n =
    cond_both (test m) (m ∷ filter test ns) (filter test ns) (λ list. is_among (m ∷ ns) n ≡ true → test n ≡ true → is_among list n ≡ true)
    (λ passes h k. ⊎_elim (λ same. or_left (m == n) (is_among (filter test ns) n) same) (λ rest. or_right (m == n) (is_among (filter test ns) n) (filter-among test ns n rest k)) (or_cases (m == n) (is_among ns n) h))
    (λ fails h k. ⊎_elim (λ same. absurd (true≢false (sym k ∙ ap test (sym (eqb-true m n same)) ∙ fails))) (λ rest. filter-among test ns n rest k) (or_cases (m == n) (is_among ns n) h))

key-HasShard : (layout : Layout) (uses : List (Key × Bool)) (shard : ℕ) → IsLayout layout → is_among (shards_of layout uses) shard ≡ true
    → HasShard layout shard
key-HasShard layout [] shard is h = absurd (true≢false (sym h))
key-HasShard layout (pair ∷ uses) shard is h =
    ⊎_elim
    (λ same. subst (HasShard layout) (eqb-true (shard_of_key layout pair.0) shard same) (shard_of-holds layout pair.0.key is.ends).exists)
    (key-HasShard layout uses shard is)
    (or_cases (shard_of_key layout pair.0 == shard) (is_among (shards_of layout uses) shard) h)

-- the cluster has each shard that a body uses
pub used-HasShard : (layout : Layout) (body : BodyParts) (shard : ℕ) → IsLayout layout → is_among (shards_used layout body) shard ≡ true
    → HasShard layout shard
used-HasShard layout body shard is h =
    key-HasShard layout (footprint_of body) shard is (among-filter (is_among (shards_of layout (footprint_of body))) numbers shard h)

pub in_common : (layout : Layout) (body other : BodyParts) (shard : ℕ) → IsLayout layout → is_among (shards_used layout body) shard ≡ true
    → is_among (shards_used layout other) shard ≡ true → InCommon layout (shards_used layout body) (shards_used layout other) shard
in_common layout body other shard is used used_too =
    record { accepted = is; exists = used-HasShard layout body shard is used; used = used; used_too = used_too }

pub are_shards : (layout : Layout) (body : BodyParts) → IsLayout layout → AreShardsOf layout (shards_used layout body)
are_shards layout body is = record { accepted = is; exist = λ shard used. used-HasShard layout body shard is used }

-- a store is of its shard
store_shard : (layout : Layout) (node shard : ℕ) → IsLayout layout → HasShard layout shard → shard_of (actor_of node shard) ≡ shard
store_shard layout node shard is has = number is.few_shards has.1
  where
    number : length layout.shards ≤ 15 → shard ≤ length layout.shards → (node * 64 + shard) % 64 ≡ shard
    number few within = omega arith

-- ---- answers

-- an answer from there, of which this holds
record Found (P : Message → Type 0) (shard node : ℕ) (answers : List Message) : Type 0 where
  pub message : Message
  pub there : IsIn message answers
  pub from : from_of message ≡ actor_of node shard
  pub holds : P message

from_there : (a b : Actor) → (a.0 == b.0) ≡ true → a ≡ b
from_there a b h = place (eqb-true a.0 b.0 h)
  where
    place : a.0 ≡ b.0 → a ≡ b
    place p = λ i. record { 0 = p i }

found_in : (x : TxnId) (test : Answer → Bool) (P : Message → Type 0) (shard node : ℕ) (answers : List Message)
    → ((m : Message) → test (plain x m) ≡ true → (from_of m ≡ actor_of node shard) × P m)
    → list_any test (plainly x answers) ≡ true → Found P shard node answers
found_in x test P shard node [] tells h = absurd (true≢false (sym h))
found_in x test P shard node (m ∷ answers) tells h =
    ⊎_elim
    (λ here. let t = tells m here in record { message = m; there = First m answers; from = t.0; holds = t.1 })
    (λ rest.
    let f = found_in x test P shard node answers tells rest in
    record { message = f.message; there = Later f.message m answers f.there; from = f.from; holds = f.holds })
    (or_cases (test (plain x m)) (list_any test (plainly x answers)) h)

answered_there : (x : TxnId) (shard node : ℕ) (answers : List Message) → has_answered (plainly x answers) shard node ≡ true → Found IsAny shard node answers
answered_there x shard node answers h =
    found_in x (is_from shard node) IsAny shard node answers (λ m from. (from_there (from_of m) (actor_of node shard) from, tt)) h

kept_there : (x : TxnId) (shard node : ℕ) (answers : List Message) → has_kept (plainly x answers) shard node ≡ true → Found (Kept x) shard node answers
kept_there x shard node answers h =
    found_in x (λ a. is_from shard node a && a.unchanged) (Kept x) shard node answers
    (λ m both.
    let parts = and_parts (is_from shard node (plain x m)) (stamp_eq (vote_in_answer m) x.0) both in
    (from_there (from_of m) (actor_of node shard) parts.0, (stamp_order.decides (vote_in_answer m) x.0).0 parts.1))
    h

changed_there : (x : TxnId) (shard node : ℕ) (answers : List Message) → has_changed (plainly x answers) shard node ≡ true → Found (Changed x) shard node answers
changed_there x shard node answers h =
    found_in x (λ a. is_from shard node a && not a.unchanged) (Changed x) shard node answers
    (λ m both.
    let parts = and_parts (is_from shard node (plain x m)) (not (stamp_eq (vote_in_answer m) x.0)) both in (
      from_there (from_of m) (actor_of node shard) parts.0,
      λ same. true≢false (sym parts.1 ∙ ap not ((stamp_order.decides (vote_in_answer m) x.0).1 same)),
    ))
    h

meeting : (layout : Layout) (shard node : ℕ) (one other : Message → Type 0) (answers others : List Message) → IsLayout layout → HasShard layout shard
    → Found one shard node answers → Found other shard node others → Meeting shard one other answers others
meeting layout shard node one other answers others is has f g =
    record {
      store = actor_of node shard;
      of_shard = store_shard layout node shard is has;
      first = f.message;
      second = g.message;
      first_in = f.there;
      second_in = g.there;
      first_from = f.from;
      second_from = g.from;
      first_is = f.holds;
      second_is = g.holds;
    }

-- ---- quorums of two transactions, in a shard that both use

module _ (layout : Layout) (x y : TxnId) (body other : BodyParts) (answers others : List Message) (shard : ℕ) (is : IsLayout layout)
    (used : is_among (shards_used layout body) shard ≡ true) (used_too : is_among (shards_used layout other) shard ≡ true) where
  pub majorities_meet : majority_everywhere layout x body answers ≡ true → majority_everywhere layout y other others ≡ true
      → Meeting shard IsAny IsAny answers others
  majorities_meet m n =
      let c = in_common layout body other shard is used used_too in
      let at = majorities layout (shards_used layout body) (shards_used layout other) (plainly x answers) (plainly y others) shard c m n in
      meeting layout shard at.node IsAny IsAny answers others is c.exists (answered_there x shard at.node answers at.first) (answered_there y shard at.node others at.second)

  pub fast_meets_majority : fast_everywhere layout x body answers ≡ true → majority_everywhere layout y other others ≡ true
      → Meeting shard (Kept x) IsAny answers others
  fast_meets_majority f m =
      let c = in_common layout body other shard is used used_too in
      let at = fast_and_majority layout (shards_used layout body) (shards_used layout other) (plainly x answers) (plainly y others) shard c f m in
      meeting layout shard at.node (Kept x) IsAny answers others is c.exists (kept_there x shard at.node answers at.first) (answered_there y shard at.node others at.second)

  pub fast_meets_fast : fast_everywhere layout x body answers ≡ true → fast_everywhere layout y other others ≡ true
      → Meeting shard (Kept x) (Kept y) answers others
  fast_meets_fast f g =
      let c = in_common layout body other shard is used used_too in
      let at = fast_and_fast layout (shards_used layout body) (shards_used layout other) (plainly x answers) (plainly y others) shard c f g in
      meeting layout shard at.node (Kept x) (Kept y) answers others is c.exists (kept_there x shard at.node answers at.first) (kept_there y shard at.node others at.second)

  pub fast_meets_possible_fast : fast_everywhere layout x body answers ≡ true → majority_everywhere layout y other others ≡ true
      → may_be_fast_everywhere layout y other others ≡ true → Meeting shard (Kept x) (Kept y) answers others
  fast_meets_possible_fast f m possible =
      let c = in_common layout body other shard is used used_too in
      let at = fast_and_possible_fast layout (shards_used layout body) (shards_used layout other) (plainly x answers) (plainly y others) shard c f m possible in
      meeting layout shard at.node (Kept x) (Kept y) answers others is c.exists (kept_there x shard at.node answers at.first) (kept_there y shard at.node others at.second)

-- ---- two lists of answers to one transaction

module _ (layout : Layout) (x : TxnId) (body : BodyParts) (answers others : List Message) (is : IsLayout layout) where
  somewhere : MeetSomewhere layout (has_changed (plainly x answers)) (has_kept (plainly x others)) (shards_used layout body)
      → (shard : ℕ) × Meeting shard (Changed x) (Kept x) answers others
  somewhere m = (
    m.shard,
    meeting layout m.shard m.meet.node (Changed x) (Kept x) answers others is (used-HasShard layout body m.shard is m.used)
        (changed_there x m.shard m.meet.node answers m.meet.first) (kept_there x m.shard m.meet.node others m.meet.second),
  )

  pub lost_meets_fast : fast_lost_somewhere layout x body answers ≡ true → fast_everywhere layout x body others ≡ true
      → (shard : ℕ) × Meeting shard (Changed x) (Kept x) answers others
  lost_meets_fast lost fast =
      somewhere (lost_and_fast layout (shards_used layout body) (plainly x answers) (plainly x others) (are_shards layout body is) lost fast)

  pub impossible_meets_fast : may_be_fast_everywhere layout x body answers ≡ false → fast_everywhere layout x body others ≡ true
      → (shard : ℕ) × Meeting shard (Changed x) (Kept x) answers others
  impossible_meets_fast impossible fast =
      somewhere (impossible_and_fast layout (shards_used layout body) (plainly x answers) (plainly x others) (are_shards layout body is) impossible fast)

-- ---- conflicts

pub conflict-symm : (layout : Layout) (shard : ℕ) (a b : BodyParts) → conflict_in layout shard a b ≡ conflict_in layout shard b a
conflict-symm layout shard a b = clashes-symm (share_of layout (footprint_of a) shard) (share_of layout (footprint_of b) shard)

share_some : (layout : Layout) (uses : List (Key × Bool)) (shard : ℕ) (p : Key × Bool) → IsIn p (share_of layout uses shard) → is_among (shards_of layout uses) shard ≡ true
share_some layout [] shard p = λ h. elim h [ ]
share_some layout (q ∷ uses) shard p =
    cond_both (shard_of_key layout q.0 == shard) (q ∷ share_of layout uses shard) (share_of layout uses shard)
    (λ list. IsIn p list → is_among (shards_of layout (q ∷ uses)) shard ≡ true)
    (λ here _. or_left (shard_of_key layout q.0 == shard) (is_among (shards_of layout uses) shard) here)
    (λ _ h. or_right (shard_of_key layout q.0 == shard) (is_among (shards_of layout uses) shard) (share_some layout uses shard p h))

among_range : (start len n : ℕ) → start ≤ n → n < start + len → is_among (range_with_len start len) n ≡ true
among_range start zero n low high = absurd (omega arith)
among_range start (suc len) n low high =
    ⊎_elim
    (λ same. or_left (start == n) (is_among (range_with_len (start + 1) len) n) same)
    (λ apart.
    or_right (start == n) (is_among (range_with_len (start + 1) len) n)
    (among_range (start + 1) len n (further apart) (omega arith)))
    (cases_Bool (start == n))
  where
    further : (start == n) ≡ false → start + 1 ≤ n
    further apart =
        let differs : start ≡ n → ⊥ = λ same. true≢false (sym (eq-eqb start n same) ∙ apart) in omega arith

among_numbers : (n : ℕ) → n ≤ 15 → is_among numbers n ≡ true
unfolding numbers
among_numbers n le = among_range 0 16 n (omega arith) (omega arith)

uses_shard : (layout : Layout) (shard : ℕ) (a b : BodyParts) → IsLayout layout → conflict_in layout shard a b ≡ true → is_among (shards_used layout a) shard ≡ true
uses_shard layout shard a b is h =
    let p = passing _ (share_of layout (footprint_of a) shard) h in
    let among = share_some layout (footprint_of a) shard p.element p.there in
    filter-among (is_among (shards_of layout (footprint_of a))) numbers shard
    (among_numbers shard (small (key-HasShard layout (footprint_of a) shard is among).1 is.few_shards)) among
  where
    small : shard ≤ length layout.shards → length layout.shards ≤ 15 → shard ≤ 15
    small h k = omega arith

-- two transactions whose bodies conflict in a shard are rivals there
pub are_rivals : (cluster : Cluster) (items : List Item) (shard : ℕ) (x y : TxnId) (first second : BodyParts) → IsLayout cluster.layout
    → IsBody cluster items x first → IsBody cluster items y second → (x ≡ y → ⊥) → conflict_in cluster.layout shard first second ≡ true
    → AreRivals cluster items shard x y first second
are_rivals cluster items shard x y first second is first_is second_is different conflict =
    let back = sym (conflict-symm cluster.layout shard first second) ∙ conflict in
    record {
      first_is = first_is;
      second_is = second_is;
      different = different;
      conflict = conflict;
      conflict_back = back;
      first_uses = uses_shard cluster.layout shard first second is conflict;
      second_uses = uses_shard cluster.layout shard second first is back;
    }

pub rivals_back : (cluster : Cluster) (items : List Item) (shard : ℕ) (x y : TxnId) (first second : BodyParts)
    → AreRivals cluster items shard x y first second → AreRivals cluster items shard y x second first
rivals_back cluster items shard x y first second r =
    record {
      first_is = r.second_is;
      second_is = r.first_is;
      different = λ same. r.different (sym same);
      conflict = r.conflict_back;
      conflict_back = r.conflict;
      first_uses = r.second_uses;
      second_uses = r.first_uses;
    }
