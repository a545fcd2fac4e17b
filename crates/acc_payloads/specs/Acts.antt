-- The draws of a node by what it did: those that its journal keeps, the oldest first.
use Rattle.std.specs.Prelude.{◌≡◌, ℕ, ◌^◌, ◌<◌, List, [], ◌∷◌, ◌++◌}
use Rattle.acc_stamp.specs.Clock.{ClockState, next_stamp}
use Rattle.acc_message.specs.NodeRules.{Act, Begins, Recovers, Slows, Takes, Restarts, Deed, clock_of, begun_id}
use Rattle.acc_payloads.specs.declared.draw.Purpose.{Purpose}
use Rattle.acc_payloads.specs.declared.draw.Purpose.TheVariants.{Begin, Recover}
use Rattle.acc_payloads.specs.declared.draw.Draw.{Draw}
use Rattle.acc_payloads.specs.Node.{greatest_drawn, begun_by}

-- what a clock draws next, for a transaction with this number
abbrev pub next_draw_of : ClockState → Purpose → ℕ → Draw
next_draw_of clock purpose txn = record { purpose = purpose; txn = txn; h = (next_stamp clock).h }

-- The draws once an act was taken, where `Before` tells those before it. An act that recovers doesn't tell the number of the
-- transaction, so it may be any.
abbrev pub DrawnAfter : ClockState → Act → (List Draw → Type 0) → List Draw → Type 0
DrawnAfter clock (Begins txn body) Before draws = (before : List Draw) × Before before × (draws ≡ before ++ next_draw_of clock Begin txn ∷ [])
DrawnAfter clock (Recovers x body) Before draws = (before : List Draw) × (txn : ℕ) × Before before × (draws ≡ before ++ next_draw_of clock Recover txn ∷ [])
DrawnAfter clock (Slows x) Before draws = Before draws
DrawnAfter clock (Takes m) Before draws = Before draws
DrawnAfter clock Restarts Before draws = Before draws

-- a node that did this, the newest first, has drawn these
abbrev pub AreDrawsOf : ℕ → ℕ → List Deed → List Draw → Type 0
AreDrawsOf number start [] draws = draws ≡ []
AreDrawsOf number start (deed ∷ past) draws = DrawnAfter (clock_of number start past) deed.act (AreDrawsOf number start past) draws

-- what the draws of a node tell of it: the greatest h that it drew, and the transactions that it began
pub record DrawsTell (number start : ℕ) (past : List Deed) (draws : List Draw) : Type 0 where
  pub drawn : (clock_of number start past).drawn ≡ greatest_drawn start draws
  pub begun : (txn : ℕ) → begun_id number start txn past ≡ begun_by number txn draws

-- a node may draw as long as its clock is below 2^62
pub record MayDraw (number start : ℕ) (past : List Deed) : Type 0 where
  pub drawn : (clock_of number start past).drawn < 2 ^ 62
  pub seen : (clock_of number start past).seen < 2 ^ 62
