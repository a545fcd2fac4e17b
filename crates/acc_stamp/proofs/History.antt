-- What holds of a clock whatever happens to it.
use Rattle.std.proofs.Common.{◌≡◌, ◌≢◌, false, ℕ, ◌*◌, ◌<◌, ◌≤◌, max, true, List, [], ◌∷◌, ◌++◌, map, refl, ap, arith}
use Rattle.std.specs.List.{AllByRecursion}
use Rattle.acc_stamp.specs.declared.stamps.Stamp.{Stamp}
use Rattle.acc_stamp.specs.Stamp.{stamp_lt, stamp_eq}
use Rattle.acc_stamp.specs.Clock.{next_stamp}
use Rattle.acc_stamp.specs.History.{ClockEvent, Draw, See, Restart, clock_after, stamps_drawn, seen_since_restart, greatest, DrawsRise, DrawIsNext, DrawPassesSeen, DrawsAreOfNode, DrawsDiffer}
use Rattle.acc_stamp.specs.Rising.{is_among}
use Rattle.std.proofs.lemmas.Bool.{or_from, false_from_ne_true}
use Rattle.acc_stamp.proofs.Order.{stamp_lt-from_h, stamp_eq-Decides}
use Rattle.acc_stamp.proofs.Rising.{each_weaker}

greatest-append : (ms ns : List ℕ) → greatest (ms ++ ns) ≡ max (greatest ms) (greatest ns)
greatest-append [] ns = omega arith
greatest-append (m ∷ ms) ns = let rest = greatest-append ms ns in omega arith

each_upto_greatest : (ns : List ℕ) (m : ℕ) → greatest ns ≤ m → AllByRecursion (λ n. n ≤ m) ns
each_upto_greatest [] m h = tt
each_upto_greatest (n ∷ ns) m h = (omega arith, each_upto_greatest ns m (omega arith))

abbrev numbers_drawn : ℕ → ℕ → List ClockEvent → List ℕ
numbers_drawn node start past = map (λ (s : Stamp). s.h) (stamps_drawn node start past)

-- how the clock stands to what happened
record Stands (node start : ℕ) (past : List ClockEvent) : Type 0 where
  same_node : (clock_after node start past).node ≡ node
  drawn : (clock_after node start past).drawn ≡ max start (greatest (numbers_drawn node start past))
  seen : greatest (seen_since_restart past) ≤ (clock_after node start past).seen
  no_more_seen : (clock_after node start past).seen ≤ max (clock_after node start past).drawn (greatest (seen_since_restart past))

stands : (node start : ℕ) (past : List ClockEvent) → Stands node start past
stands node start [] = record { same_node = refl; drawn = omega arith; seen = omega arith; no_more_seen = omega arith }
stands node start (Draw ∷ past) =
    let s = stands node start past in
    record { same_node = s.same_node; drawn = omega arith; seen = s.seen; no_more_seen = omega arith }
stands node start (See h ∷ past) =
    let s = stands node start past in
    record { same_node = s.same_node; drawn = s.drawn; seen = omega arith; no_more_seen = omega arith }
stands node start (Restart ∷ past) =
    let s = stands node start past in
    record { same_node = s.same_node; drawn = s.drawn; seen = omega arith; no_more_seen = omega arith }

pub draw_is_next : (node start : ℕ) (past : List ClockEvent) → DrawIsNext node start past
draw_is_next node start past =
    let s = stands node start past in
    let joined = greatest-append (numbers_drawn node start past) (seen_since_restart past) in
    omega arith

pub draw_passes_seen : (node start : ℕ) (past : List ClockEvent) → DrawPassesSeen node start past
draw_passes_seen node start past =
    let s = stands node start past in
    let bound = (clock_after node start past).seen in
    let next = (next_stamp (clock_after node start past)).h in
    each_weaker (λ h. h ≤ bound) (λ h. h < next) (seen_since_restart past) (λ h p. omega arith) (each_upto_greatest (seen_since_restart past) bound s.seen)

each_drawn_upto : (node start : ℕ) (past : List ClockEvent) → AllByRecursion (λ (s : Stamp). s.h ≤ (clock_after node start past).drawn) (stamps_drawn node start past)
each_drawn_upto node start [] = tt
each_drawn_upto node start (Draw ∷ past) =
    let old = (clock_after node start past).drawn in
    let next = (next_stamp (clock_after node start past)).h in
    (omega arith, each_weaker (λ (s : Stamp). s.h ≤ old) (λ (s : Stamp). s.h ≤ next) (stamps_drawn node start past) (λ s p. omega arith) (each_drawn_upto node start past))
each_drawn_upto node start (See h ∷ past) = each_drawn_upto node start past
each_drawn_upto node start (Restart ∷ past) = each_drawn_upto node start past

pub draws_rise : (node start : ℕ) (past : List ClockEvent) → DrawsRise node start past
draws_rise node start [] = tt
draws_rise node start (Draw ∷ past) =
    let old = (clock_after node start past).drawn in
    let next = next_stamp (clock_after node start past) in
    (each_weaker (λ (s : Stamp). s.h ≤ old) (λ (s : Stamp). stamp_lt s next ≡ true) (stamps_drawn node start past) (λ s p. stamp_lt-from_h s next (omega arith)) (each_drawn_upto node start past), draws_rise node start past)
draws_rise node start (See h ∷ past) = draws_rise node start past
draws_rise node start (Restart ∷ past) = draws_rise node start past

pub draws_are_of_node : (node start : ℕ) (past : List ClockEvent) → DrawsAreOfNode node start past
draws_are_of_node node start [] = tt
draws_are_of_node node start (Draw ∷ past) = (ap (λ n. n * 64) (stands node start past).same_node, draws_are_of_node node start past)
draws_are_of_node node start (See h ∷ past) = draws_are_of_node node start past
draws_are_of_node node start (Restart ∷ past) = draws_are_of_node node start past

each_other_origin : (m n : ℕ) (s : Stamp) (ss : List Stamp) → m ≢ n → s.origin ≡ m * 64 → AllByRecursion (λ (t : Stamp). t.origin ≡ n * 64) ss → is_among stamp_eq s ss ≡ false
each_other_origin m n s [] h k f = refl
each_other_origin m n s (t ∷ ts) h k f =
    or_from (stamp_eq t s) _
    (false_from_ne_true (stamp_eq t s) (λ e. let one : t.origin ≡ s.origin = ap (λ (z : Stamp). z.origin) ((stamp_eq-Decides t s).0 e) in let first = f.0 in let same : m ≡ n = omega arith in h same))
    (each_other_origin m n s ts h k f.1)

pub draws_are_unique : (m n start begin : ℕ) (past others : List ClockEvent) → m ≢ n → DrawsDiffer m start past n begin others
draws_are_unique m n start begin past others h =
    each_weaker (λ (s : Stamp). s.origin ≡ m * 64) (λ s. is_among stamp_eq s (stamps_drawn n begin others) ≡ false) (stamps_drawn m start past)
    (λ s k. each_other_origin m n s (stamps_drawn n begin others) h k (draws_are_of_node n begin others))
    (draws_are_of_node m start past)
