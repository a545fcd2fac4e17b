-- What happens to a clock, as a list with the newest first.
use Rattle.std.specs.Prelude.{◌≡◌, false, ℕ, ◌+◌, ◌<◌, ◌*◌, max, List, [], ◌∷◌, ◌++◌, map}
use Rattle.std.specs.List.{AllByRecursion}
use Rattle.acc_stamp.specs.declared.stamps.Stamp.{Stamp}
use Rattle.acc_stamp.specs.Stamp.{stamp_lt, stamp_eq}
use Rattle.acc_stamp.specs.Clock.{ClockState, new_clock, next_stamp, after_draw, after_seeing, after_restart}
use Rattle.acc_stamp.specs.Rising.{IsRisingBy, is_among}

pub data ClockEvent : Type 0 where
  Draw : ClockEvent
  See : ℕ → ClockEvent
  Restart : ClockEvent

-- the clock of a node, begun at its start
abbrev pub clock_after : ℕ → ℕ → List ClockEvent → ClockState
clock_after node start [] = new_clock node start
clock_after node start (Draw ∷ past) = after_draw (clock_after node start past)
clock_after node start (See h ∷ past) = after_seeing (clock_after node start past) h
clock_after node start (Restart ∷ past) = after_restart (clock_after node start past)

-- the stamps that it drew
abbrev pub stamps_drawn : ℕ → ℕ → List ClockEvent → List Stamp
stamps_drawn node start [] = []
stamps_drawn node start (Draw ∷ past) = next_stamp (clock_after node start past) ∷ stamps_drawn node start past
stamps_drawn node start (See h ∷ past) = stamps_drawn node start past
stamps_drawn node start (Restart ∷ past) = stamps_drawn node start past

-- what it saw since the last restart
abbrev pub seen_since_restart : List ClockEvent → List ℕ
seen_since_restart [] = []
seen_since_restart (Draw ∷ past) = seen_since_restart past
seen_since_restart (See h ∷ past) = h ∷ seen_since_restart past
seen_since_restart (Restart ∷ past) = []

-- the greatest of some numbers, and 0 of none
abbrev pub greatest : List ℕ → ℕ
greatest [] = 0
greatest (n ∷ ns) = max n (greatest ns)

-- ---- the laws

-- each stamp is above all that were drawn before it
abbrev pub DrawsRise : ℕ → ℕ → List ClockEvent → Type 0
DrawsRise node start past = IsRisingBy (λ later earlier. stamp_lt earlier later) (stamps_drawn node start past)

-- the next stamp is one above the greatest of the start, of all that were drawn, and of all that was seen since the last restart
abbrev pub DrawIsNext : ℕ → ℕ → List ClockEvent → Type 0
DrawIsNext node start past =
    (next_stamp (clock_after node start past)).h
    ≡ 1 + greatest (start ∷ map (λ (s : Stamp). s.h) (stamps_drawn node start past) ++ seen_since_restart past)

-- the next stamp is above all that was seen since the last restart
abbrev pub DrawPassesSeen : ℕ → ℕ → List ClockEvent → Type 0
DrawPassesSeen node start past = AllByRecursion (λ h. h < (next_stamp (clock_after node start past)).h) (seen_since_restart past)

-- each stamp has the origin of the node
abbrev pub DrawsAreOfNode : ℕ → ℕ → List ClockEvent → Type 0
DrawsAreOfNode node start past = AllByRecursion (λ (s : Stamp). s.origin ≡ node * 64) (stamps_drawn node start past)

-- none of the stamps of one clock is among those of another
abbrev pub DrawsDiffer : ℕ → ℕ → List ClockEvent → ℕ → ℕ → List ClockEvent → Type 0
DrawsDiffer m start past n begin others = AllByRecursion (λ s. is_among stamp_eq s (stamps_drawn n begin others) ≡ false) (stamps_drawn m start past)
