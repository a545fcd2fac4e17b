-- Strict disks of actors, by what their journals do next. An append fails at the armed call, and a crash leaves nothing armed.
use Rattle.std.specs.Prelude.{ℕ, cond, Bool, true, false, Option, None, Some}
use Rattle.acc_stamp.specs.declared.actors.Actor.{Actor}
use Rattle.acc_message.specs.Items.{same_actor}
use Rattle.acc_journal.specs.Journal.{keeps_group}
use Rattle.acc_payloads.specs.Appends.{after_append, fails_append, passed_in}
use Rattle.acc_schedule_runs.specs.Moves.{Answers}

pub record Disks : Type 0 where
  -- how many calls of the actor's disk still pass before the armed one, where one is armed
  pub armed : Actor → Option ℕ
  -- how many calls passed of the append that failed, where the actor is down by one
  pub passed : Actor → Option ℕ

-- disks on which nothing is armed and nothing has failed
abbrev pub fresh_disks : Disks
fresh_disks = record { armed = λ a. None; passed = λ a. None }

-- the entry of one actor changed
abbrev pub with_entry : {T : Type 0} → Actor → T → (Actor → T) → Actor → T
with_entry a value entries other = cond (same_actor other a) value (entries other)

-- ---- what happens to the disks

-- a step of the actor, which is one append if it is journalled; the steps of a group are one append together
abbrev pub after_step : Bool → Actor → Disks → Disks
after_step true a disks =
    record { armed = with_entry a (after_append (disks.armed a)) disks.armed; passed = with_entry a (passed_in (disks.armed a)) disks.passed }
after_step false a disks = disks

-- a call is armed: so many pass, and the next one fails
abbrev pub after_fail : Actor → ℕ → Disks → Disks
after_fail a calls disks = record { armed = with_entry a (Some calls) disks.armed; passed = disks.passed }

-- A crash, after which nothing is armed, so that both reads of the reopening pass.
abbrev pub after_restart : Actor → Disks → Disks
after_restart a disks = record { armed = with_entry a None disks.armed; passed = with_entry a None disks.passed }

-- ---- what they answer

-- to the next step of the actor
abbrev pub step_answers : Disks → Actor → Answers
step_answers disks a = record { fails = λ place. fails_append (disks.armed a); keeps = λ place. false }

-- to a restart of the actor with a choice: the steps that were stopped are kept where the second sync of their append failed, and the crash
-- leaves what a read gives
abbrev pub restart_answers : Disks → Actor → ℕ → Answers
restart_answers disks a choice = record { fails = λ place. false; keeps = λ place. keeps_group (disks.passed a) choice }
