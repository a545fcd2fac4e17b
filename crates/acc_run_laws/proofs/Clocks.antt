-- The clock of a node: what it drew, and that no step takes it back.
use Rattle.std.proofs.Common.{◌≡◌, ℕ, ◌+◌, ◌≤◌, ◌<◌, ◌*◌, max, List, [], ◌∷◌, refl, sym, subst, arith}
use Rattle.acc_stamp.specs.declared.stamps.TxnId.{TxnId}
use Rattle.acc_stamp.specs.Clock.{ClockState, after_draw, after_seeing, after_restart}
use Rattle.acc_stamp.specs.History.{ClockEvent, Draw, See, Restart as ClockRestart, clock_after}
use Rattle.acc_txn.specs.declared.parts.BodyParts.{BodyParts}
use Rattle.acc_message.specs.Fields.{top_of}
use Rattle.acc_message.specs.NodeRules.{Act, Begins, Recovers, Slows, Takes, Restarts, Deed, clock_events, clock_of, next_draw}
use Rattle.acc_message.specs.declared.entry.Emitted.{Emitted}
use Rattle.acc_safety.specs.Places.{StandsAt, Here, Back}
use Rattle.acc_run_laws.specs.Heights.{IsLowClock}
use Rattle.acc_run_laws.proofs.Bounded.{IsLow}

pub clock_node : (node start : ℕ) (events : List ClockEvent) → (clock_after node start events).node ≡ node
clock_node node start [] = refl
clock_node node start (Draw ∷ past) = clock_node node start past
clock_node node start (See h ∷ past) = clock_node node start past
clock_node node start (ClockRestart ∷ past) = clock_node node start past

-- no step takes back what was drawn
drawn_grows : (node start : ℕ) (act : Act) (emitted : Emitted) (past : List Deed)
    → (clock_of node start past).drawn ≤ (clock_of node start (record { act = act; emitted = emitted } ∷ past)).drawn
drawn_grows node start (Begins txn body) emitted past = omega arith
drawn_grows node start (Recovers x body) emitted past = omega arith
drawn_grows node start (Slows x) emitted past = omega arith
drawn_grows node start (Takes m) emitted past = omega arith
drawn_grows node start Restarts emitted past = omega arith

-- the ballot of a recovery was drawn
pub recover_drawn : (node start : ℕ) (deed : Deed) (before past : List Deed) (x : TxnId) (body : BodyParts) → StandsAt deed before past → deed.act ≡ Recovers x body
    → (next_draw node start before).h ≤ (clock_of node start past).drawn
recover_drawn node start deed before past x body (Here d rest) is =
    subst (λ act. (next_draw node start rest).h ≤ (clock_of node start (record { act = act; emitted = d.emitted } ∷ rest)).drawn) (sym is) (omega arith)
recover_drawn node start deed before past x body (Back d e rest all there) is =
    let grows = drawn_grows node start e.act e.emitted all in
    let behind = recover_drawn node start d rest all x body there is in
    omega (arith, grows, behind)

-- ---- bounds

pub low_start : (node start most : ℕ) → start ≤ most → IsLowClock most (clock_of node start [])
low_start node start most h = record { start = h; drawn = h; seen = h }

pub low_clock_more : (most more : ℕ) (c : ClockState) → most ≤ more → IsLowClock most c → IsLowClock more c
low_clock_more most more c le h = record { start = omega (arith, le, h.start); drawn = omega (arith, le, h.drawn); seen = omega (arith, le, h.seen) }

-- a message that is taken has a low top
abbrev pub HasLowTop : ℕ → Act → Type 0
HasLowTop most (Takes m) = top_of m ≤ most
HasLowTop most _ = Unit {0}

draw_low : (most : ℕ) (c : ClockState) → IsLowClock most c → IsLowClock (most + 1) (after_draw c)
draw_low most c h = record { start = omega (arith, h.start); drawn = omega (arith, h.drawn, h.seen); seen = omega (arith, h.seen) }

see_low : (most top : ℕ) (c : ClockState) → top ≤ most → IsLowClock most c → IsLowClock (most + 1) (after_seeing c top)
see_low most top c t h = record { start = omega (arith, h.start); drawn = omega (arith, h.drawn); seen = omega (arith, h.seen, t) }

restart_low : (most : ℕ) (c : ClockState) → IsLowClock most c → IsLowClock (most + 1) (after_restart c)
restart_low most c h = record { start = omega (arith, h.start); drawn = omega (arith, h.drawn); seen = omega (arith, h.drawn) }

pub low_after : (node start most : ℕ) (act : Act) (emitted : Emitted) (past : List Deed) → HasLowTop most act → IsLowClock most (clock_of node start past)
    → IsLowClock (most + 1) (clock_of node start (record { act = act; emitted = emitted } ∷ past))
low_after node start most (Begins txn body) emitted past top h = draw_low most (clock_of node start past) h
low_after node start most (Recovers x body) emitted past top h = draw_low most (clock_of node start past) h
low_after node start most (Slows x) emitted past top h = low_clock_more most (most + 1) (clock_of node start past) (omega arith) h
low_after node start most (Takes m) emitted past top h = see_low most (top_of m) (clock_of node start past) top h
low_after node start most Restarts emitted past top h = restart_low most (clock_of node start past) h

next_h : (most : ℕ) (c : ClockState) → IsLowClock most c → 1 + max c.drawn c.seen ≤ most + 1
next_h most c h = omega (arith, h.drawn, h.seen)

node_origin : (node n : ℕ) → n ≡ node → node ≤ 15 → n * 64 < 1024
node_origin node n e le = omega (arith, e, le)

pub next_low : (node start most : ℕ) (past : List Deed) → node ≤ 15 → IsLowClock most (clock_of node start past) → IsLow (most + 1) (next_draw node start past)
next_low node start most past le h = record {
  h = next_h most (clock_of node start past) h;
  origin = node_origin node (clock_of node start past).node (clock_node node start (clock_events past)) le;
}

-- a ballot that was drawn before is as low as the clock
pub ballot_low : (node start most : ℕ) (deed : Deed) (before past : List Deed) (x : TxnId) (body : BodyParts) → StandsAt deed before past → deed.act ≡ Recovers x body
    → node ≤ 15 → IsLowClock most (clock_of node start past) → IsLow most (next_draw node start before)
ballot_low node start most deed before past x body at is le h =
    let drawn = recover_drawn node start deed before past x body at is in
    record { h = omega (arith, drawn, h.drawn); origin = node_origin node (clock_of node start before).node (clock_node node start (clock_events before)) le }
