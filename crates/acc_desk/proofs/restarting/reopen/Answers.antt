use Rattle.std.proofs.Common.{◌≡◌, ℕ, ◌==◌, true, List, [], ◌∷◌, length, Result, Ok, Err, sym, ◌∙◌, ap, subst, arith, eqb-true}
use Rattle.std.specs.Prelude.{IfOk}
use Rattle.acc_base.specs.declared.memory.OutOfMemory.{OutOfMemory}
use Rattle.acc_stamp.specs.declared.actors.Actor.{Actor}
use Rattle.acc_ports.specs.declared.disk.Disk.{Ghosts}
use Rattle.acc_payloads.specs.declared.stops.Unsent.{Unsent}
use Rattle.acc_payloads.specs.declared.stops.Restarted.{Restarted}
use Rattle.acc_payloads.specs.declared.stops.Restarted.TheVariants.{Up, Down}
use Rattle.acc_schedule.specs.Content.{Content}
use Rattle.acc_pasts.specs.Stopped.{IsSound}
use Rattle.acc_schedule_runs.specs.Situations.{Situation}
use Rattle.acc_schedule_runs.specs.Moves.{reopened}
use Rattle.acc_schedule_runs.specs.Schedules.{cluster_of}
use Rattle.acc_schedule_runs.specs.Disks.{Disks, after_restart}
use Rattle.acc_actors.specs.declared.slot.Slot.{Slot}
use Rattle.acc_actors.specs.Slots.{SlotStands, IsStrictSlot}
use Rattle.acc_actors.specs.Asked.{over_disks, IsFew, HasRestartedAt, HasRestartedStrictlyAt}
use Rattle.acc_desk.proofs.restarting.reopen.Goals as goal

module _ {D : Type 0} (port : Ghosts D) (plan : Content) (a : Actor) (choice : ℕ) (new : Slot D) where
  abbrev OpensFrom : Slot D → Restarted → Type 0
  OpensFrom slot found =
      (s : Situation) (disks : Disks) → IsSound (cluster_of plan) s → SlotStands port plan s a slot → IsStrictSlot port plan s disks a slot
      → HasRestartedStrictlyAt port plan (over_disks s disks) a choice found new

  -- the slot that was restarted is the one that stood there
  opened : (slot taken : Slot D) (r : Result Restarted OutOfMemory) (found : Restarted) → taken ≡ slot → r ≡ Ok found → IfOk r (OpensFrom taken) → OpensFrom slot found
  opened slot taken r found same is all = subst (λ (x : Slot D). OpensFrom x found) same (subst (λ (x : Result Restarted OutOfMemory). IfOk x (OpensFrom taken)) is all)

pub returns-in-Down-clause-strict : goal.returns-in-Down-clause-strict
returns-in-Down-clause-strict g c = λ s disks sound stands strictly.
    opened g.D.Disk c.args.plan.now c.args.actor c.args.choice c.restart-reopened.result.0 c.args.slot.now c.replace.result c.restart-reopened.result.1 Down
    c.replace.ensures.value (c.in_ok-found.was ∙ ap Ok c.in-Down.is) c.restart-reopened.ensures.strict s disks sound stands strictly

-- it kept nothing
module _ {D : Type 0} (port : Ghosts D) (plan : Content) (a : Actor) (choice : ℕ) (new : Slot D) (s : Situation) where
  none_kept : (kept : List Unsent) → (length kept == 0) ≡ true → HasRestartedAt port plan s a (Up kept) new → SlotStands port plan (reopened (cluster_of plan) s a []) a new
  none_kept [] none h = h.1
  none_kept (one ∷ kept) none h = absurd (let e = eqb-true (length (one ∷ kept)) 0 none in omega arith)

  none_kept_strictly : (disks : Disks) (kept : List Unsent) → (length kept == 0) ≡ true → HasRestartedStrictlyAt port plan (over_disks s disks) a choice (Up kept) new
      → IsStrictSlot port plan (reopened (cluster_of plan) s a []) (after_restart a disks) a new
  none_kept_strictly disks [] none h = h.1
  none_kept_strictly disks (one ∷ kept) none h = absurd (let e = eqb-true (length (one ∷ kept)) 0 none in omega arith)

  abbrev StandsFrom : Slot D → Restarted → Type 0
  StandsFrom slot found = IsSound (cluster_of plan) s → IsFew s → SlotStands port plan s a slot → HasRestartedAt port plan s a found new

  stood : (slot taken : Slot D) (r : Result Restarted OutOfMemory) (found : Restarted) → taken ≡ slot → r ≡ Ok found → IfOk r (StandsFrom taken) → StandsFrom slot found
  stood slot taken r found same is all = subst (λ (x : Slot D). StandsFrom x found) same (subst (λ (x : Result Restarted OutOfMemory). IfOk x (StandsFrom taken)) is all)

  at_one : (taken : Slot D) (r : Result Restarted OutOfMemory) → IfOk r (λ found. (s : Situation) → IsSound (cluster_of plan) s → IsFew s → SlotStands port plan s a taken → HasRestartedAt port plan s a found new)
      → IfOk r (StandsFrom taken)
  at_one taken (Ok found) h = h s
  at_one taken (Err e) h = h

pub returns-else-not-is_empty-clause-ok : goal.returns-else-not-is_empty-clause-ok
returns-else-not-is_empty-clause-ok g c = λ s sound few stands. (
  c.silent.ensures,
  none_kept g.D.Disk c.args.plan.now c.args.actor c.args.choice c.restart-reopened.result.0 s c.in-Up.kept (sym c.is_empty.ensures ∙ c.if-not-is_empty.false)
      (stood g.D.Disk c.args.plan.now c.args.actor c.args.choice c.restart-reopened.result.0 s c.args.slot.now c.replace.result c.restart-reopened.result.1 (Up c.in-Up.kept)
      c.replace.ensures.value (c.in_ok-found.was ∙ ap Ok c.in-Up.is)
      (at_one g.D.Disk c.args.plan.now c.args.actor c.args.choice c.restart-reopened.result.0 s c.replace.result c.restart-reopened.result.1 c.restart-reopened.ensures.ok) sound few stands),
)

pub returns-else-not-is_empty-clause-strict : goal.returns-else-not-is_empty-clause-strict
returns-else-not-is_empty-clause-strict g c = λ s disks sound stands strictly.
    none_kept_strictly g.D.Disk c.args.plan.now c.args.actor c.args.choice c.restart-reopened.result.0 s disks c.in-Up.kept (sym c.is_empty.ensures ∙ c.if-not-is_empty.false)
    (opened g.D.Disk c.args.plan.now c.args.actor c.args.choice c.restart-reopened.result.0 c.args.slot.now c.replace.result c.restart-reopened.result.1 (Up c.in-Up.kept)
    c.replace.ensures.value (c.in_ok-found.was ∙ ap Ok c.in-Up.is) c.restart-reopened.ensures.strict s disks sound stands strictly)
