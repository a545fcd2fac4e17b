-- Quorums of answers meet.
use Rattle.std.proofs.Common.{◌≡◌, ℕ, ◌==◌, ◌+◌, ◌≤◌, Bool, true, false, not, ◌&&◌, ◌||◌, List, [], ◌∷◌, length, count_by, refl, sym, ◌∙◌, subst, ⊎_elim, arith}
use Rattle.std.specs.List.{list_any, list_all}
use Rattle.std.proofs.lemmas.Bool.{true≢false, or_cases, or_parts, and_parts, eqb-true, eq-eqb, leb-true, leb-false, or_left, or_right}
use Rattle.acc_topology.specs.Layout.{Layout, Shard, IsLayout, IsShard, HasShard, shard_at}
use Rattle.acc_topology.specs.Quorums.{is_majority, is_fast, fast_lost, may_be_fast, Meet}
use Rattle.acc_topology.specs.Sets.{is_among}
use Rattle.acc_topology.proofs.Counts.{count_by-not, count_by-both, found, among_part, shard_of_layout, fast_lost-is, may_be_fast-is}
use Rattle.acc_topology.proofs.Counts as counts
use Rattle.acc_quorum.specs.Answers.{Answer, is_from, has_answered, has_kept, has_changed, majority_everywhere, fast_everywhere, fast_lost_somewhere, may_be_fast_everywhere}
use Rattle.acc_quorum.specs.Meetings.{MeetAt, MeetSomewhere, InCommon, AreShardsOf}

-- ---- one shard of several

pub number_at : (test : ℕ → Bool) (ns : List ℕ) (n : ℕ) → list_all test ns ≡ true → is_among ns n ≡ true → test n ≡ true
number_at test [] n h k = absurd (true≢false (sym k))
number_at test (m ∷ ns) n h k =
    let parts = and_parts (test m) (list_all test ns) h in
    ⊎_elim (λ same. subst (λ z. test z ≡ true) (eqb-true m n same) parts.0) (number_at test ns n parts.1) (or_cases (m == n) (is_among ns n) k)

-- a number of the list that passes
record Passes (test : ℕ → Bool) (ns : List ℕ) : Type 0 where
  pub number : ℕ
  pub among : is_among ns number ≡ true
  pub passes : test number ≡ true

passing : (test : ℕ → Bool) (ns : List ℕ) → list_any test ns ≡ true → Passes test ns
passing test [] h = absurd (true≢false (sym h))
passing test (n ∷ ns) h =
    ⊎_elim
    (λ here. record { number = n; among = or_left (n == n) (is_among ns n) (eq-eqb n n refl); passes = here })
    (λ there.
    let p = passing test ns there in
    record { number = p.number; among = or_right (n == p.number) (is_among ns p.number) p.among; passes = p.passes })
    (or_cases (test n) (list_any test ns) h)

failing_by : (test : ℕ → Bool) (n : ℕ) (ns : List ℕ) (b : Bool) → test n ≡ b → (b && list_all test ns) ≡ false
    → (list_all test ns ≡ false → Passes (λ m. not (test m)) ns) → Passes (λ m. not (test m)) (n ∷ ns)
failing_by test n ns true is h rest =
    let p = rest h in
    record { number = p.number; among = or_right (n == p.number) (is_among ns p.number) p.among; passes = p.passes }
failing_by test n ns false is h rest =
    record { number = n; among = or_left (n == n) (is_among ns n) (eq-eqb n n refl); passes = subst (λ b. not b ≡ true) (sym is) refl }

failing : (test : ℕ → Bool) (ns : List ℕ) → list_all test ns ≡ false → Passes (λ n. not (test n)) ns
failing test [] h = absurd (true≢false h)
failing test (n ∷ ns) h = failing_by test n ns (test n) refl h (failing test ns)

shard_in : (layout : Layout) (shards others : List ℕ) (shard : ℕ) → InCommon layout shards others shard → IsShard layout.nodes (shard_at layout shard)
shard_in layout shards others shard c = shard_of_layout layout shard c.accepted c.exists

met : (layout : Layout) (one other : ℕ → ℕ → Bool) (shard : ℕ) → Meet (shard_at layout shard) (one shard) (other shard) → MeetAt layout one other shard
met layout one other shard m = record { node = m.0; replica = m.1; first = m.2; second = m.3 }

-- ---- quorums of two transactions

pub majorities : (layout : Layout) (shards others : List ℕ) (answers more : List Answer) (shard : ℕ) → InCommon layout shards others shard
    → majority_everywhere layout shards answers ≡ true → majority_everywhere layout others more ≡ true
    → MeetAt layout (has_answered answers) (has_answered more) shard
majorities layout shards others answers more shard c m n =
    met layout (has_answered answers) (has_answered more) shard
    (counts.majorities_meet layout.nodes (shard_at layout shard) (shard_in layout shards others shard c) (has_answered answers shard) (has_answered more shard)
    (number_at (λ s. is_majority (shard_at layout s) (has_answered answers s)) shards shard m c.used)
    (number_at (λ s. is_majority (shard_at layout s) (has_answered more s)) others shard n c.used_too))

pub fast_and_majority : (layout : Layout) (shards others : List ℕ) (answers more : List Answer) (shard : ℕ) → InCommon layout shards others shard
    → fast_everywhere layout shards answers ≡ true → majority_everywhere layout others more ≡ true
    → MeetAt layout (has_kept answers) (has_answered more) shard
fast_and_majority layout shards others answers more shard c f m =
    met layout (has_kept answers) (has_answered more) shard
    (counts.fast_meets_majority layout.nodes (shard_at layout shard) (shard_in layout shards others shard c) (has_kept answers shard) (has_answered more shard)
    (number_at (λ s. is_fast (shard_at layout s) (has_kept answers s)) shards shard f c.used)
    (number_at (λ s. is_majority (shard_at layout s) (has_answered more s)) others shard m c.used_too))

pub fast_and_fast : (layout : Layout) (shards others : List ℕ) (answers more : List Answer) (shard : ℕ) → InCommon layout shards others shard
    → fast_everywhere layout shards answers ≡ true → fast_everywhere layout others more ≡ true
    → MeetAt layout (has_kept answers) (has_kept more) shard
fast_and_fast layout shards others answers more shard c f g =
    met layout (has_kept answers) (has_kept more) shard
    (counts.fast_meets_fast layout.nodes (shard_at layout shard) (shard_in layout shards others shard c) (has_kept answers shard) (has_kept more shard)
    (number_at (λ s. is_fast (shard_at layout s) (has_kept answers s)) shards shard f c.used)
    (number_at (λ s. is_fast (shard_at layout s) (has_kept more s)) others shard g c.used_too))

answered_and_kept : (answered kept : Bool) → answered ≡ true → (not answered || kept) ≡ true → kept ≡ true
answered_and_kept true kept a h = h
answered_and_kept false kept a h = absurd (true≢false (sym a))

pub fast_and_possible_fast : (layout : Layout) (shards others : List ℕ) (answers more : List Answer) (shard : ℕ) → InCommon layout shards others shard
    → fast_everywhere layout shards answers ≡ true → majority_everywhere layout others more ≡ true
    → may_be_fast_everywhere layout others more ≡ true → MeetAt layout (has_kept answers) (has_kept more) shard
fast_and_possible_fast layout shards others answers more shard c f m possible =
    let s : Shard = shard_at layout shard in
    let meets =
    counts.fast_and_majority_meet layout.nodes s (shard_in layout shards others shard c) (has_kept answers shard)
    (λ n. not (has_answered more shard n) || has_kept more shard n) (has_answered more shard)
    (number_at (λ s. is_fast (shard_at layout s) (has_kept answers s)) shards shard f c.used)
    (sym (may_be_fast-is s (has_answered more shard) (has_kept more shard))
    ∙ number_at (λ s. may_be_fast (shard_at layout s) (has_answered more s) (has_kept more s)) others shard possible c.used_too)
    (number_at (λ s. is_majority (shard_at layout s) (has_answered more s)) others shard m c.used_too) in
    let both = and_parts (has_kept answers shard meets.0) (not (has_answered more shard meets.0) || has_kept more shard meets.0) meets.2 in
    record {
      node = meets.0;
      replica = meets.1;
      first = both.0;
      second = answered_and_kept (has_answered more shard meets.0) (has_kept more shard meets.0) meets.3 both.1;
    }

-- ---- two lists of answers to one transaction

-- where one set is fast and another isn't, some replica is in the one alone
fast_apart : (nodes : List ℕ) (s : Shard) → IsShard nodes s → (a b : ℕ → Bool) → is_fast s a ≡ true → is_fast s b ≡ false → Meet s (λ n. not (b n)) a
fast_apart nodes s is a b fa fb =
    let f =
    found (λ n. not (b n) && a n) s.electorate
    (omega (arith, leb-true _ _ fa, leb-false _ _ fb, count_by-both (λ n. not (b n)) a s.electorate, count_by-not b s.electorate)) in
    let both = and_parts (not (b f.number)) (a f.number) f.passes in
    (f.number, among_part s.electorate s.replicas is.electorate f.number f.among, both.0, both.1)

not_not : (b : Bool) → not (not b) ≡ true → b ≡ true
not_not true h = refl
not_not false h = h

not_is : (a b : Bool) → a ≡ not b → a ≡ true → b ≡ false
not_is a true e h = absurd (true≢false (sym h ∙ e))
not_is a false e h = refl

-- one that has answered and hasn't kept the timestamp has changed it
answer_changed : (answers : List Answer) (shard node : ℕ) → has_answered answers shard node ≡ true → has_kept answers shard node ≡ false
    → has_changed answers shard node ≡ true
answer_changed [] shard node a k = absurd (true≢false (sym a))
answer_changed (m ∷ answers) shard node a k =
    let kept = or_parts (is_from shard node m && m.unchanged) (has_kept answers shard node) k in
    ⊎_elim
    (λ here. or_left (is_from shard node m && not m.unchanged) (has_changed answers shard node) (by (is_from shard node m) m.unchanged here kept.0))
    (λ there. or_right (is_from shard node m && not m.unchanged) (has_changed answers shard node) (answer_changed answers shard node there kept.1))
    (or_cases (is_from shard node m) (has_answered answers shard node) a)
  where
    by : (from unchanged : Bool) → from ≡ true → (from && unchanged) ≡ false → (from && not unchanged) ≡ true
    by true unchanged h k = subst (λ b. not b ≡ true) (sym k) refl
    by false unchanged h k = absurd (true≢false (sym h))

silent_or_kept : (answered kept : Bool) → not (not answered || kept) ≡ true → (answered ≡ true) × (kept ≡ false)
silent_or_kept true kept h = (refl, by kept h)
  where
    by : (b : Bool) → not b ≡ true → b ≡ false
    by true h = absurd (true≢false (sym h))
    by false h = refl
silent_or_kept false kept h = absurd (true≢false (sym h))

pub lost_and_fast : (layout : Layout) (shards : List ℕ) (answers more : List Answer) → AreShardsOf layout shards
    → fast_lost_somewhere layout shards answers ≡ true → fast_everywhere layout shards more ≡ true
    → MeetSomewhere layout (has_changed answers) (has_kept more) shards
lost_and_fast layout shards answers more are lost fast =
    let p = passing (λ s. fast_lost (shard_at layout s) (has_changed answers s)) shards lost in
    let s : Shard = shard_at layout p.number in
    let is = shard_of_layout layout p.number are.accepted (are.exist p.number p.among) in
    let meets =
    fast_apart layout.nodes s is (has_kept more p.number) (λ n. not (has_changed answers p.number n))
    (number_at (λ s. is_fast (shard_at layout s) (has_kept more s)) shards p.number fast p.among)
    (not_is (fast_lost s (has_changed answers p.number)) (is_fast s (λ n. not (has_changed answers p.number n))) (fast_lost-is layout.nodes s is (has_changed answers p.number)) p.passes) in
    record {
      shard = p.number;
      used = p.among;
      meet = record { node = meets.0; replica = meets.1; first = not_not (has_changed answers p.number meets.0) meets.2; second = meets.3 };
    }

pub impossible_and_fast : (layout : Layout) (shards : List ℕ) (answers more : List Answer) → AreShardsOf layout shards
    → may_be_fast_everywhere layout shards answers ≡ false → fast_everywhere layout shards more ≡ true
    → MeetSomewhere layout (has_changed answers) (has_kept more) shards
impossible_and_fast layout shards answers more are impossible fast =
    let p = failing (λ s. may_be_fast (shard_at layout s) (has_answered answers s) (has_kept answers s)) shards impossible in
    let s : Shard = shard_at layout p.number in
    let is = shard_of_layout layout p.number are.accepted (are.exist p.number p.among) in
    let meets =
    fast_apart layout.nodes s is (has_kept more p.number) (λ n. not (has_answered answers p.number n) || has_kept answers p.number n)
    (number_at (λ s. is_fast (shard_at layout s) (has_kept more s)) shards p.number fast p.among)
    (sym (may_be_fast-is s (has_answered answers p.number) (has_kept answers p.number)) ∙ negated (may_be_fast s (has_answered answers p.number) (has_kept answers p.number)) p.passes) in
    let parts = silent_or_kept (has_answered answers p.number meets.0) (has_kept answers p.number meets.0) meets.2 in
    record {
      shard = p.number;
      used = p.among;
      meet = record { node = meets.0; replica = meets.1; first = answer_changed answers p.number meets.0 parts.0 parts.1; second = meets.3 };
    }
  where
    negated : (b : Bool) → not b ≡ true → b ≡ false
    negated true h = absurd (true≢false (sym h))
    negated false h = refl
