-- Which append meets the armed call, and what a crash keeps of it.
use Rattle.std.proofs.Common.{◌≡◌, ℕ, zero, suc, ◌+◌, ◌-◌, ◌*◌, ◌/◌, ◌%◌, ◌<◌, ◌≤◌, nat_lt, eqb, true, false, cond, Option, None, Some, refl, sym, ◌∙◌, ap, arith}
use Rattle.std.specs.Prelude.{◌↔◌}
use Rattle.std.proofs.lemmas.Bool.{ne_eqb, eq-eqb, and_parts, and_from}
use Rattle.std.proofs.lemmas.Bool.Decides.{nat_tests, Decides-eqb}
use Rattle.acc_journal.specs.Calls.{FailsWithin}
use Rattle.acc_ports.specs.Strict.{after_call}
use Rattle.acc_journal.specs.Journal.{keeps_group}
use Rattle.acc_stamp.specs.declared.actors.Actor.{Actor}
use Rattle.acc_message.specs.Items.{same_actor}
use Rattle.acc_safety.proofs.Bridge.{same_itself}
use Rattle.acc_payloads.specs.Appends.{after_append, fails_append, passed_in}
use Rattle.acc_schedule_runs.specs.Disks.{Disks, with_entry, after_step, after_fail, after_restart, step_answers, restart_answers}
use Rattle.acc_schedule_runs.specs.StrictLaws.{after_appends, after_steps, IsAsBefore}

call_passes : (n : ℕ) → after_call (Some (n + 1)) ≡ Some n
call_passes n =
    let some : eqb (n + 1) 0 ≡ false = ne_eqb (n + 1) 0 (λ e. omega arith) in
    let less : n + 1 - 1 ≡ n = omega arith in
    ap (λ b. cond b None (Some (n + 1 - 1))) some ∙ ap Some less

four_pass : (n : ℕ) → after_append (Some (n + 1 + 1 + 1 + 1)) ≡ Some n
four_pass n =
    ap (λ o. after_call (after_call (after_call o))) (call_passes (n + 1 + 1 + 1))
    ∙ ap (λ o. after_call (after_call o)) (call_passes (n + 1 + 1))
    ∙ ap after_call (call_passes (n + 1))
    ∙ call_passes n

append_passes : (calls : ℕ) → 4 ≤ calls → after_append (Some calls) ≡ Some (calls - 4)
append_passes calls enough =
    let back : calls ≡ (calls - 4) + 1 + 1 + 1 + 1 = omega arith in
    ap (λ n. after_append (Some n)) back ∙ four_pass (calls - 4)

appends_pass : (calls appends : ℕ) → 4 * appends ≤ calls → after_appends appends (Some calls) ≡ Some (calls - 4 * appends)
appends_pass calls zero enough =
    let all : calls ≡ calls - 4 * 0 = omega arith in ap Some all
appends_pass calls (suc appends) enough =
    let fewer : 4 * appends ≤ calls = omega arith in
    let four : 4 ≤ calls - 4 * appends = omega arith in
    let less : calls - 4 * appends - 4 ≡ calls - 4 * suc appends = omega arith in
    ap after_append (appends_pass calls appends fewer) ∙ append_passes (calls - 4 * appends) four ∙ ap Some less

not_below : (n : ℕ) → 4 ≤ n → nat_lt n 4 ≡ false
not_below n h = grind (arith, nat_tests)

is_below : (n : ℕ) → n < 4 → nat_lt n 4 ≡ true
is_below n h = grind (arith, nat_tests)

below : (n : ℕ) → nat_lt n 4 ≡ true → n < 4
below n h = grind (arith, nat_tests)

-- ---- laws

pub passing : (calls appends : ℕ) → appends < calls / 4 → fails_append (after_appends appends (Some calls)) ≡ false
passing calls appends less =
    let most : 4 * appends ≤ calls = omega arith in
    let enough : 4 ≤ calls - 4 * appends = omega arith in
    ap fails_append (appends_pass calls appends most) ∙ not_below (calls - 4 * appends) enough

pub left_over : (calls : ℕ) → after_appends (calls / 4) (Some calls) ≡ Some (calls % 4)
left_over calls =
    let most : 4 * (calls / 4) ≤ calls = omega arith in
    let rest : calls - 4 * (calls / 4) ≡ calls % 4 = omega arith in
    appends_pass calls (calls / 4) most ∙ ap Some rest

pub failing : (calls : ℕ) → fails_append (Some (calls % 4)) ≡ true
failing calls =
    let less : calls % 4 < 4 = omega arith in is_below (calls % 4) less

pub keeping : (calls choice : ℕ) → (keeps_group (Some (calls % 4)) choice ≡ true) ↔ ((calls % 4 ≡ 3) × (choice ≡ 1))
keeping calls choice = (
  λ kept. let parts = and_parts (eqb (calls % 4) 3) (eqb choice 1) kept in
      ((Decides-eqb (calls % 4) 3).0 parts.0, (Decides-eqb choice 1).0 parts.1),
  λ both. and_from (eqb (calls % 4) 3) (eqb choice 1) (eq-eqb (calls % 4) 3 both.0) (eq-eqb choice 1 both.1),
)

pub as_journals : (armed : Option ℕ) → (fails_append armed ≡ true) ↔ FailsWithin 4 armed
as_journals None = (λ h. absurd cc, λ h. absurd h)
as_journals (Some calls) = (below calls, is_below calls)

-- ---- disks of actors

at_itself : {T : Type 0} (a : Actor) (value : T) (entries : Actor → T) → with_entry a value entries a ≡ value
at_itself a value entries = ap (λ b. cond b value (entries a)) (same_itself a)

at_another : {T : Type 0} (a b : Actor) (value : T) (entries : Actor → T) → same_actor b a ≡ false → with_entry a value entries b ≡ entries b
at_another a b value entries apart = ap (λ t. cond t value (entries b)) apart

armed_after : (steps : ℕ) (a : Actor) (disks : Disks) → (after_steps steps a disks).armed a ≡ after_appends steps (disks.armed a)
armed_after zero a disks = refl
armed_after (suc steps) a disks =
    at_itself a (after_append ((after_steps steps a disks).armed a)) (after_steps steps a disks).armed
    ∙ ap after_append (armed_after steps a disks)

armed_then : (calls steps : ℕ) (a : Actor) (disks : Disks) → (after_steps steps a (after_fail a calls disks)).armed a ≡ after_appends steps (Some calls)
armed_then calls steps a disks =
    armed_after steps a (after_fail a calls disks) ∙ ap (after_appends steps) (at_itself a (Some calls) disks.armed)

pub steps_pass : (a : Actor) (disks : Disks) (calls steps place : ℕ) → steps < calls / 4
    → (step_answers (after_steps steps a (after_fail a calls disks)) a).fails place ≡ false
steps_pass a disks calls steps place less = ap fails_append (armed_then calls steps a disks) ∙ passing calls steps less

pub step_stops : (a : Actor) (disks : Disks) (calls place : ℕ) → (step_answers (after_steps (calls / 4) a (after_fail a calls disks)) a).fails place ≡ true
step_stops a disks calls place = ap fails_append (armed_then calls (calls / 4) a disks ∙ left_over calls) ∙ failing calls

passed_then : (a : Actor) (disks : Disks) (calls : ℕ) → (after_steps (suc (calls / 4)) a (after_fail a calls disks)).passed a ≡ Some (calls % 4)
passed_then a disks calls =
    let before : Disks = after_steps (calls / 4) a (after_fail a calls disks) in
    at_itself a (passed_in (before.armed a)) before.passed ∙ ap passed_in (armed_then calls (calls / 4) a disks ∙ left_over calls)
    ∙ ap (λ b. cond b (Some (calls % 4)) None) (failing calls)

pub step_kept : (a : Actor) (disks : Disks) (calls choice place : ℕ)
    → ((restart_answers (after_steps (suc (calls / 4)) a (after_fail a calls disks)) a choice).keeps place ≡ true)
    ↔ ((calls % 4 ≡ 3) × (choice ≡ 1))
step_kept a disks calls choice place =
    let is = ap (λ passed. keeps_group passed choice) (passed_then a disks calls) in
    (λ kept. (keeping calls choice).0 (sym is ∙ kept), λ both. is ∙ (keeping calls choice).1 both)

pub afresh : (a : Actor) (disks : Disks) (choice place : ℕ)
    → ((step_answers (after_restart a disks) a).fails place ≡ false) × ((restart_answers (after_restart a disks) a choice).keeps place ≡ false)
afresh a disks choice place =
    (ap fails_append (at_itself a None disks.armed), ap (λ passed. keeps_group passed choice) (at_itself a None disks.passed))

pub others_stay : (a b : Actor) (disks : Disks) (calls : ℕ) → same_actor b a ≡ false
    → IsAsBefore b disks (after_step true a disks) × IsAsBefore b disks (after_fail a calls disks) × IsAsBefore b disks (after_restart a disks)
others_stay a b disks calls apart = (
  record {
    armed = at_another a b (after_append (disks.armed a)) disks.armed apart;
    passed = at_another a b (passed_in (disks.armed a)) disks.passed apart;
  },
  record { armed = at_another a b (Some calls) disks.armed apart; passed = refl },
  record { armed = at_another a b None disks.armed apart; passed = at_another a b None disks.passed apart },
)
