-- The past of an actor: what it took, what its journal holds of that, and the steps that a fault of its disk stopped.
use Rattle.std.specs.Prelude.{◌≡◌, ◌⊎◌, ℕ, ◌-◌, ◌^◌, min, Bool, true, false, ◌&&◌, List, [], ◌∷◌, ◌++◌, Option, None, Some, length, map, Result, Ok, Err}
use Rattle.acc_base.specs.declared.memory.OutOfMemory.{OutOfMemory}
use Rattle.acc_message.specs.declared.entry.Event.{Event}
use Rattle.acc_message.specs.declared.entry.Emitted.{Emitted}
use Rattle.acc_journal.specs.Layout.{Reads}
use Rattle.acc_journal.specs.Journal.{keeps_group}
use Rattle.acc_payloads.specs.Items.{AreMarked, AreKept, without_marks}
use Rattle.acc_payloads.specs.declared.stops.Unsent.{Unsent}
use Rattle.acc_payloads.specs.declared.stops.Restarted.{Restarted}
use Rattle.acc_payloads.specs.declared.stops.Restarted.TheVariants.{Up, Down}

-- a step of a group that isn't on the disk yet, or that a fault stopped: its event, what the actor takes by it, and the payload of its append
pub record Stop (T : Type 0) : Type 0 where
  pub event : Event
  pub act : T
  pub payload : List ℕ

-- what an actor took, the newest first; the payloads of its journal, marks aside, the oldest first; and the steps that were stopped, the
-- oldest first. They are one group: a journal keeps all of them or none.
pub record Past (T : Type 0) : Type 0 where
  pub acts : List T
  pub held : List (List ℕ)
  pub stopped : List (Stop T)

-- how many payloads there are, marks aside, up to the greatest number of 64 bits
abbrev pub count_of : {T : Type 0} → Past T → ℕ
count_of past = min (length past.held) (2 ^ 64 - 1)

-- there is one at least
abbrev pub some : {A : Type 0} → List A → Bool
some [] = false
some (x ∷ xs) = true

-- their payloads, the oldest first
abbrev pub group_of : {T : Type 0} → List (Stop T) → List (List ℕ)
group_of stops = map (λ stop. stop.payload) stops

-- ---- what a step makes of a past

-- the step was given, and its payload is on the disk
abbrev pub with_step : {T : Type 0} → Past T → Stop T → Past T
with_step past stop = record { acts = stop.act ∷ past.acts; held = past.held ++ stop.payload ∷ []; stopped = [] }

-- a fault stopped the steps
abbrev pub with_stops : {T : Type 0} → Past T → List (Stop T) → Past T
with_stops past stops = record { acts = past.acts; held = past.held; stopped = stops }

-- by what the step answered
abbrev pub after_step : {T : Type 0} → Option Emitted → Past T → Stop T → Past T
after_step (Some emitted) past stop = with_step past stop
after_step None past stop = with_stops past (stop ∷ [])

-- something was taken that isn't journalled
abbrev pub with_act : {T : Type 0} → T → Past T → Past T
with_act act past = record { acts = act ∷ past.acts; held = past.held; stopped = past.stopped }

-- ---- what a group makes of a past

-- with these steps, the oldest first, and nothing stopped
abbrev pub kept_with : {T : Type 0} → List (Stop T) → Past T → Past T
kept_with [] past = record { acts = past.acts; held = past.held; stopped = [] }
kept_with (stop ∷ stops) past = kept_with stops (with_step past stop)

-- by what the group's one append answered
abbrev pub after_group : {T : Type 0} → Option (List Unsent) → Past T → List (Stop T) → Past T
after_group (Some given) past stops = kept_with stops past
after_group None past stops = with_stops past stops

-- ---- what a crash leaves of a past

-- by whether what was stopped was kept
abbrev pub kept_if : {T : Type 0} → Bool → Past T → Past T
kept_if true past = kept_with past.stopped past
kept_if false past = kept_with [] past

-- The bytes read as a journal of these acts, which holds these payloads besides its marks. `IsJournal` says of payloads that they are
-- the journal of an actor that took some acts.
pub record ReadsAs {T : Type 0} (IsJournal : List (List ℕ) → List T → Type 0) (acts : List T) (held : List (List ℕ)) (bytes : List ℕ) : Type 0 where
  pub payloads : List (List ℕ)
  pub reads : Reads bytes payloads
  pub journal : IsJournal payloads acts
  pub held_are : without_marks payloads ≡ held

-- They read as this past, with what was stopped if it was kept.
abbrev pub ReadsIf : {T : Type 0} → (List (List ℕ) → List T → Type 0) → Past T → Bool → List ℕ → Type 0
ReadsIf IsJournal past keeps bytes = ReadsAs IsJournal (kept_if keeps past).acts (kept_if keeps past).held bytes

-- They read as this past, with what was stopped or without it.
abbrev pub IsLeft : {T : Type 0} → (List (List ℕ) → List T → Type 0) → Past T → List ℕ → Type 0
IsLeft IsJournal past bytes = ReadsIf IsJournal past false bytes ⊎ ReadsIf IsJournal past true bytes

-- What is known of them apart from what the actor took: they break no rule on marks, and hold the payloads, or those and further ones.
pub record HoldsPayloads {T : Type 0} (version : ℕ) (past : Past T) (bytes : List ℕ) : Type 0 where
  pub payloads : List (List ℕ)
  pub reads : Reads bytes payloads
  pub marks : AreMarked version payloads
  pub kept : AreKept (some past.stopped) past.held (without_marks payloads)

-- ---- what didn't go out, as the actor keeps it

-- It is kept exactly where there are such steps, and in their order: the event of each, and what the rules give for it after the steps
-- before it.
abbrev pub IsUnsent : {T : Type 0} → (Past T → T → Emitted) → Past T → List (Stop T) → List Unsent → Type 0
IsUnsent rules past [] [] = Unit {0}
IsUnsent rules past [] (unsent ∷ others) = ⊥
IsUnsent rules past (stop ∷ stops) [] = ⊥
IsUnsent rules past (stop ∷ stops) (unsent ∷ others) =
    (unsent.event ≡ stop.event) × (unsent.emitted ≡ rules past stop.act) × IsUnsent rules (with_step past stop) stops others

-- nothing, or all that was stopped
abbrev pub IsKept : {T : Type 0} → (Past T → T → Emitted) → Past T → List Unsent → Type 0
IsKept rules past [] = Unit {0}
IsKept rules past (unsent ∷ others) = IsUnsent rules past past.stopped (unsent ∷ others)

-- ---- restarts

-- what a restart tells, and what is still stopped, by whether the journal has more payloads than were held; nothing is told of that
-- where the disk failed
abbrev pub told : Result (Option Bool) OutOfMemory → List Unsent → Result Restarted OutOfMemory × List Unsent
told (Ok (Some true)) stopped = (Ok (Up stopped), [])
told (Ok (Some false)) stopped = (Ok (Up []), [])
told (Ok None) stopped = (Ok Down, stopped)
told (Err e) stopped = (Err e, stopped)

-- The journal has more payloads than were held exactly where it kept what was stopped.
abbrev pub TellsByChoice : {T : Type 0} → Bool → List (Stop T) → Option Bool → Type 0
TellsByChoice keeps stopped (Some more) = (more && some stopped) ≡ (keeps && some stopped)
TellsByChoice keeps stopped None = ⊥

-- the past after a restart that found this
abbrev pub past_with : {T : Type 0} → List Unsent → Past T → Past T
past_with kept past = kept_if (some kept) past

-- It tells whether the actor is up.
abbrev pub is_up : Restarted → Bool
is_up (Up kept) = true
is_up Down = false

-- The journal kept what was stopped where the second sync of its append failed and the crash leaves what a read gives. The restart
-- doesn't fail.
abbrev pub KeepsByChoice : {T : Type 0} → Option ℕ → ℕ → List (Stop T) → Restarted → Type 0
KeepsByChoice passed choice stopped (Up kept) = some kept ≡ (keeps_group passed choice && some stopped)
KeepsByChoice passed choice stopped Down = ⊥
