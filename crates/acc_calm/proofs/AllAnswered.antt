-- Where every store has answered there are majorities, and a fast quorum everywhere or one that is lost somewhere.
use Rattle.std.proofs.Common.{◌≡◌, ℕ, ◌+◌, ◌*◌, ◌/◌, ◌≤◌, Bool, true, false, not, ◌&&◌, ◌||◌, List, [], ◌∷◌, length, count_by, refl, sym, ◌∙◌, ap, subst, arith, ◌⊎◌, inl, inr, ⊎_elim}
use Rattle.std.specs.List.{list_any}
use Rattle.std.specs.Prelude.{◌==◌}
use Rattle.std.proofs.lemmas.Bool.{true≢false, not-true, and_from, or_left, or_right, or_cases, leb-true, le-leb, eqb-true, eq-eqb, cases_Bool}
use Rattle.acc_stamp.specs.declared.stamps.TxnId.{TxnId}
use Rattle.acc_stamp.specs.declared.actors.Actor.{Actor}
use Rattle.acc_stamp.specs.Actor.{actor_of, actor_eq}
use Rattle.acc_topology.specs.Layout.{Layout, Shard, IsLayout, IsShard, shard_at}
use Rattle.acc_topology.specs.Sets.{is_among}
use Rattle.acc_topology.specs.Quorums.{majority_size, fast_size, is_majority, is_fast, fast_lost}
use Rattle.acc_topology.proofs.Bits.{one_if, count_by-cons}
use Rattle.acc_topology.proofs.Counts.{among_part, replica_count_odd, fast_lost-is, shard_of_layout}
use Rattle.acc_quorum.specs.Answers.{Answer, is_from, has_answered, has_kept, has_changed, majority_everywhere, fast_everywhere, fast_lost_somewhere}
use Rattle.acc_txn.specs.declared.parts.BodyParts.{BodyParts}
use Rattle.acc_message.specs.declared.message.Message.{Message}
use Rattle.acc_message.specs.Fields.{from_of}
use Rattle.acc_message.specs.Items.{same_actor}
use Rattle.acc_message.specs.Shares.{shards_used, stores_of_shard, stores_used}
use Rattle.acc_message.specs.Attempts.{plainly, majority_everywhere as majority_of, fast_everywhere as fast_of, fast_lost_somewhere as lost_of}
use Rattle.acc_safety.specs.Places.{IsIn, First, Later}
use Rattle.acc_safety.proofs.PlaceOrder.{passing, any_from, map-IsIn, flat_map-IsIn}
use Rattle.acc_safety.proofs.Meetings.{used-HasShard}

-- ---- counts

abbrev OnEach : (ℕ → Bool) → List ℕ → Type 0
OnEach p ns = (n : ℕ) → IsIn n ns → p n ≡ true

all_count : (p : ℕ → Bool) (ns : List ℕ) → OnEach p ns → count_by p ns ≡ length ns
all_count p [] h = refl
all_count p (n ∷ ns) h =
    let here : one_if (p n) ≡ 1 = ap one_if (h n (First n ns)) in
    omega (arith, count_by-cons p n ns, here, all_count p ns (λ m there. h m (Later m n ns there)))

one_fewer : (b c : Bool) → (b ≡ true → c ≡ true) → one_if b ≤ one_if c
one_fewer true c h = subst (λ d. one_if true ≤ one_if d) (sym (h refl)) (omega arith)
one_fewer false c h = omega arith

fewer : (p q : ℕ → Bool) (ns : List ℕ) → ((n : ℕ) → IsIn n ns → p n ≡ true → q n ≡ true) → count_by p ns ≤ count_by q ns
fewer p q [] h = omega arith
fewer p q (n ∷ ns) h =
    omega (arith, count_by-cons p n ns, count_by-cons q n ns, one_fewer (p n) (q n) (h n (First n ns)), fewer p q ns (λ m there. h m (Later m n ns there)))

pub among_in : (n : ℕ) (ns : List ℕ) → is_among ns n ≡ true → IsIn n ns
among_in n ns h = let p = passing (λ m. m == n) ns h in subst (λ m. IsIn m ns) (eqb-true p.element n p.passes) p.there

pub in_among : (n : ℕ) (ns : List ℕ) → IsIn n ns → is_among ns n ≡ true
in_among n ns there = any_from (λ m. m == n) n ns there (eq-eqb n n refl)

-- ---- one shard

kept_step : (f c has changed kept : Bool) → (f || has) ≡ true → ((f && not c) || changed) ≡ false → (has ≡ true → changed ≡ false → kept ≡ true)
    → ((f && c) || kept) ≡ true
kept_step true true has changed kept h k rest = refl
kept_step true false has changed kept h k rest = absurd (true≢false k)
kept_step false c has changed kept h k rest = rest h k

half_low : (n : ℕ) → n ≡ 2 * (n / 2) + 1 → n / 2 + 1 ≤ n
half_low n is = omega (arith, is)

module _ (nodes : List ℕ) (s : Shard) (is : IsShard nodes s) (answers : List Answer) (shard : ℕ) (each : OnEach (has_answered answers shard) s.replicas) where
  majority_there : is_majority s (has_answered answers shard) ≡ true
  majority_there =
      le-leb (majority_size s) (count_by (has_answered answers shard) s.replicas)
      (subst (λ k. majority_size s ≤ k) (sym (all_count (has_answered answers shard) s.replicas each)) (half_low (length s.replicas) (replica_count_odd (length s.replicas) is.count)))

  -- who answered and didn't change has kept
  kept_by : (list : List Answer) (n : ℕ) → list_any (is_from shard n) list ≡ true → list_any (λ a. is_from shard n a && not a.unchanged) list ≡ false
      → list_any (λ a. is_from shard n a && a.unchanged) list ≡ true
  kept_by [] n h k = absurd (true≢false (sym h))
  kept_by (a ∷ list) n h k =
      kept_step (is_from shard n a) a.unchanged (list_any (is_from shard n) list) (list_any (λ e. is_from shard n e && not e.unchanged) list)
      (list_any (λ e. is_from shard n e && e.unchanged) list) h k (kept_by list n)

  kept_there : (n : ℕ) → IsIn n s.electorate → not (has_changed answers shard n) ≡ true → has_kept answers shard n ≡ true
  kept_there n there unchanged =
      kept_by answers n
      (each n (among_in n s.replicas (among_part s.electorate s.replicas is.electorate n (in_among n s.electorate there))))
      (not-true (has_changed answers shard n) unchanged)

  unlost_fast : is_fast s (λ n. not (has_changed answers shard n)) ≡ true → is_fast s (has_kept answers shard) ≡ true
  unlost_fast h =
      le-leb (fast_size s) (count_by (has_kept answers shard) s.electorate)
      (up (leb-true (fast_size s) (count_by (λ n. not (has_changed answers shard n)) s.electorate) h)
      (fewer (λ n. not (has_changed answers shard n)) (has_kept answers shard) s.electorate kept_there))
    where
      up : {m n k : ℕ} → m ≤ n → n ≤ k → m ≤ k
      up p q = omega (arith, p, q)

  fast_or_lost : (is_fast s (has_kept answers shard) ≡ true) ⊎ (fast_lost s (has_changed answers shard) ≡ true)
  fast_or_lost =
      ⊎_elim (λ unlost. inl (unlost_fast unlost)) (λ lost. inr (fast_lost-is nodes s is (has_changed answers shard) ∙ ap not lost))
      (cases_Bool (is_fast s (λ n. not (has_changed answers shard n))))

-- ---- every shard

module _ (layout : Layout) (is : IsLayout layout) (body : BodyParts) (x : TxnId) (answers : List Message)
    (each : (store : Actor) → IsIn store (stores_used layout body) → list_any (λ m. same_actor (from_of m) store) answers ≡ true) where
  plain_answered : (a : Actor) (list : List Message) → list_any (λ m. same_actor (from_of m) a) list ≡ true → list_any (λ e. actor_eq e.store a) (plainly x list) ≡ true
  plain_answered a [] h = h
  plain_answered a (m ∷ list) h =
      ⊎_elim (λ here. or_left (actor_eq (from_of m) a) (list_any (λ e. actor_eq e.store a) (plainly x list)) here)
      (λ rest. or_right (actor_eq (from_of m) a) (list_any (λ e. actor_eq e.store a) (plainly x list)) (plain_answered a list rest))
      (or_cases (same_actor (from_of m) a) (list_any (λ k. same_actor (from_of k) a) list) h)

  replica_answered : (shard : ℕ) → IsIn shard (shards_used layout body) → (n : ℕ) → IsIn n (shard_at layout shard).replicas
      → has_answered (plainly x answers) shard n ≡ true
  replica_answered shard used n there =
      plain_answered (actor_of n shard) answers
      (each (actor_of n shard)
      (flat_map-IsIn (stores_of_shard layout) (actor_of n shard) shard (shards_used layout body) used
      (map-IsIn (λ node. actor_of node shard) n (shard_at layout shard).replicas there)))

  shard_there : (shard : ℕ) → IsIn shard (shards_used layout body) → IsShard layout.nodes (shard_at layout shard)
  shard_there shard used = shard_of_layout layout shard is (used-HasShard layout body shard is (in_among shard (shards_used layout body) used))

  all_major : (shards : List ℕ) → ((shard : ℕ) → IsIn shard shards → IsIn shard (shards_used layout body)) → majority_everywhere layout shards (plainly x answers) ≡ true
  all_major [] part = refl
  all_major (shard ∷ shards) part =
      let used = part shard (First shard shards) in
      and_from (is_majority (shard_at layout shard) (has_answered (plainly x answers) shard)) (majority_everywhere layout shards (plainly x answers))
      (majority_there layout.nodes (shard_at layout shard) (shard_there shard used) (plainly x answers) shard (replica_answered shard used))
      (all_major shards (λ k there. part k (Later k shard shards there)))

  all_fast_or_lost : (shards : List ℕ) → ((shard : ℕ) → IsIn shard shards → IsIn shard (shards_used layout body))
      → (fast_everywhere layout shards (plainly x answers) ≡ true) ⊎ (fast_lost_somewhere layout shards (plainly x answers) ≡ true)
  all_fast_or_lost [] part = inl refl
  all_fast_or_lost (shard ∷ shards) part =
      let used = part shard (First shard shards) in
      ⊎_elim
      (λ fast.
      ⊎_elim
      (λ rest. inl (and_from (is_fast (shard_at layout shard) (has_kept (plainly x answers) shard)) (fast_everywhere layout shards (plainly x answers)) fast rest))
      (λ lost. inr (or_right (fast_lost (shard_at layout shard) (has_changed (plainly x answers) shard)) (fast_lost_somewhere layout shards (plainly x answers)) lost))
      (all_fast_or_lost shards (λ k there. part k (Later k shard shards there))))
      (λ lost. inr (or_left (fast_lost (shard_at layout shard) (has_changed (plainly x answers) shard)) (fast_lost_somewhere layout shards (plainly x answers)) lost))
      (fast_or_lost layout.nodes (shard_at layout shard) (shard_there shard used) (plainly x answers) shard (replica_answered shard used))

  pub majorities_answered : majority_of layout x body answers ≡ true
  majorities_answered = all_major (shards_used layout body) (λ shard there. there)

  pub fast_or_lost_answered : (fast_of layout x body answers ≡ true) ⊎ (lost_of layout x body answers ≡ true)
  fast_or_lost_answered = all_fast_or_lost (shards_used layout body) (λ shard there. there)
