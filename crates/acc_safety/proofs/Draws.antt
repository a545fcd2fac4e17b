-- What a node draws rises: a later draw differs from each earlier one.
use Rattle.std.proofs.Common.{◌≡◌, ℕ, ◌*◌, ◌/◌, true, false, if◌then◌else◌, List, [], ◌∷◌, ◌++◌, refl, sym, ◌∙◌, ap, arith}
use Rattle.std.proofs.lemmas.Bool.{true≢false, or_left, or_right, false_from_ne_true}
use Rattle.acc_stamp.specs.declared.stamps.Stamp.{Stamp}
use Rattle.acc_stamp.specs.declared.stamps.Ballot.{Ballot}
use Rattle.acc_stamp.specs.Actor.{actor_of, node_of_stamp, home_of}
use Rattle.acc_stamp.specs.Stamp.{stamp_eq, stamp_lt, ballot_eq, zero_ballot}
use Rattle.acc_stamp.specs.History.{Draw, stamps_drawn}
use Rattle.acc_stamp.specs.Rising.{is_among}
use Rattle.acc_stamp.proofs.Order.{stamp_order, ballot_order, eq_itself}
use Rattle.acc_stamp.proofs.Rising.{each_at, is_among-append}
use Rattle.acc_stamp.proofs.History.{draws_rise, draws_are_of_node}
use Rattle.acc_topology.specs.Layout.{Layout}
use Rattle.acc_txn.specs.declared.parts.BodyParts.{BodyParts}
use Rattle.acc_stamp.specs.declared.stamps.TxnId.{TxnId}
use Rattle.acc_message.specs.declared.entry.Emitted.{Emitted}
use Rattle.acc_message.specs.NodeRules.{Act, Begins, Recovers, Slows, Takes, Restarts, Deed, clock_events, next_draw, next_ballot}
use Rattle.acc_message.specs.Attempts.{Attempt}
use Rattle.acc_safety.specs.Places.{StandsAt, Here, Back}
use Rattle.acc_safety.specs.Attempted.{Origin, FromBegin, FromRecover}

-- the stamps that a step draws, in front of those that the clock drew before
abbrev draws_by : ℕ → ℕ → List Deed → Act → List Stamp
draws_by node start past (Begins txn body) = next_draw node start past ∷ []
draws_by node start past (Recovers x body) = next_draw node start past ∷ []
draws_by node start past _ = []

clock-drawn : (node start : ℕ) (past : List Deed) (act : Act) (emitted : Emitted)
    → stamps_drawn node start (clock_events (record { act = act; emitted = emitted } ∷ past))
    ≡ draws_by node start past act ++ stamps_drawn node start (clock_events past)
clock-drawn node start past (Begins txn body) emitted = refl
clock-drawn node start past (Recovers x body) emitted = refl
clock-drawn node start past (Slows x) emitted = refl
clock-drawn node start past (Takes m) emitted = refl
clock-drawn node start past Restarts emitted = refl

-- the step draws
pub data IsDraw : Act → Type 0 where
  DrawsId : (txn : ℕ) (body : BodyParts) → IsDraw (Begins txn body)
  DrawsBallot : (x : TxnId) (body : BodyParts) → IsDraw (Recovers x body)

drawn_by : (node start : ℕ) (past : List Deed) (act : Act) → IsDraw act → draws_by node start past act ≡ next_draw node start past ∷ []
drawn_by node start past act (DrawsId txn body) = refl
drawn_by node start past act (DrawsBallot x body) = refl

drawn_there : (node start : ℕ) (deed : Deed) (before past : List Deed) → StandsAt deed before past → IsDraw deed.act
    → is_among stamp_eq (next_draw node start before) (stamps_drawn node start (clock_events past)) ≡ true
drawn_there node start deed before past (Here d rest) draws =
    ap (is_among stamp_eq (next_draw node start rest)) (clock-drawn node start rest d.act d.emitted ∙ ap (λ new. new ++ stamps_drawn node start (clock_events rest)) (drawn_by node start rest d.act draws))
    ∙ or_left (stamp_eq (next_draw node start rest) (next_draw node start rest)) (is_among stamp_eq (next_draw node start rest) (stamps_drawn node start (clock_events rest)))
    (eq_itself stamp_order (next_draw node start rest))
drawn_there node start deed before past (Back d e rest others there) draws =
    ap (is_among stamp_eq (next_draw node start rest)) (clock-drawn node start others e.act e.emitted)
    ∙ is_among-append stamp_eq (next_draw node start rest) (draws_by node start others e.act) (stamps_drawn node start (clock_events others))
    ∙ or_right (is_among stamp_eq (next_draw node start rest) (draws_by node start others e.act)) (is_among stamp_eq (next_draw node start rest) (stamps_drawn node start (clock_events others)))
    (drawn_there node start d rest others there draws)

-- an earlier draw is below the next one
pub earlier_draw : (node start : ℕ) (deed : Deed) (before past : List Deed) → StandsAt deed before past → IsDraw deed.act
    → stamp_lt (next_draw node start before) (next_draw node start past) ≡ true
earlier_draw node start deed before past at draws =
    each_at stamp_order (λ s. stamp_lt s (next_draw node start past) ≡ true) (next_draw node start before) (stamps_drawn node start (clock_events past))
    (draws_rise node start (Draw ∷ clock_events past)).0 (drawn_there node start deed before past at draws)

pub draw_differs : (node start : ℕ) (deed : Deed) (before past : List Deed) → StandsAt deed before past → IsDraw deed.act
    → next_draw node start before ≡ next_draw node start past → ⊥
draw_differs node start deed before past at draws same =
    true≢false (sym (earlier_draw node start deed before past at draws) ∙ ap (λ s. stamp_lt s (next_draw node start past)) same ∙ stamp_order.irrefl (next_draw node start past))

-- ---- homes of draws

pub node_of_draw : (node start : ℕ) (past : List Deed) → node_of_stamp (next_draw node start past) ≡ node
node_of_draw node start past = number (next_draw node start past).origin (draws_are_of_node node start (Draw ∷ clock_events past)).0
  where
    number : (origin : ℕ) → origin ≡ node * 64 → origin / 64 ≡ node
    number origin is = omega arith

-- no drawn ballot is zero
pub not_zero : (node start : ℕ) (past : List Deed) → ballot_eq (next_ballot node start past) zero_ballot ≡ false
not_zero node start past =
    false_from_ne_true (ballot_eq (next_ballot node start past) zero_ballot)
    (λ same. above (ap (λ (b : Ballot). b.0.h) ((ballot_order.decides (next_ballot node start past) zero_ballot).0 same)))
  where
    above : (next_draw node start past).h ≡ 0 → ⊥
    above e = omega arith

-- an attempt's node is the home of its ballot
pub origin_home : (layout : Layout) (node start : ℕ) (past : List Deed) (x : TxnId) (a : Attempt) → Origin layout node start x past a
    → actor_of node 0 ≡ home_of x a.ballot
origin_home layout node start past x a (FromBegin txn deed before at act_is drawn of_zero) =
    ap (λ n. actor_of n 0) (sym (node_of_draw node start before)) ∙ ap (λ y. home_of y zero_ballot) drawn ∙ ap (home_of x) (sym of_zero)
origin_home layout node start past x a (FromRecover deed before at act_is drawn) =
    ap (λ n. actor_of n 0) (sym (node_of_draw node start before))
    ∙ ap (λ b. actor_of (if b then node_of_stamp x.0 else node_of_stamp (next_draw node start before)) 0) (sym (not_zero node start before))
    ∙ ap (home_of x) (sym drawn)
