-- Disks over a healing: no journalled step of an actor meets the armed call.
use Rattle.std.proofs.Common.{◌≡◌, ℕ, suc, ◌/◌, ◌<◌, ◌≤◌, Bool, true, false, cond, Option, None, Some, refl, sym, ◌∙◌, ap, subst, arith, ◌⊎◌, inl, inr}
use Rattle.std.proofs.lemmas.Bool.{true≢false}
use Rattle.acc_stamp.specs.declared.actors.Actor.{Actor}
use Rattle.acc_message.specs.Items.{same_actor}
use Rattle.acc_message.specs.Run.{is_node}
use Rattle.acc_safety.proofs.Bridge.{same, same_itself}
use Rattle.acc_payloads.specs.Appends.{after_append, fails_append}
use Rattle.acc_schedule_runs.specs.Disks.{Disks, fresh_disks, after_step, after_fail, after_restart, step_answers}
use Rattle.acc_schedule_runs.specs.StrictLaws.{after_steps}
use Rattle.acc_heal_laws.specs.Stages.{calls_let_pass}

-- the disk of an actor that was armed for the call that it never comes to, after so many journalled steps of it
abbrev pub spared : ℕ → Actor → Option ℕ
spared used a = (after_steps used a (after_fail a calls_let_pass fresh_disks)).armed a

-- a node's disk so, after no more than so many steps
pub record IsSpared (most : ℕ) (d : Disks) (a : Actor) : Type 0 where
  pub used : ℕ
  pub few : used ≤ most
  pub node : is_node a ≡ true
  pub armed : d.armed a ≡ spared used a

abbrev pub IsFine : ℕ → Disks → Actor → Type 0
IsFine most d a = (d.armed a ≡ None) ⊎ IsSpared most d a

abbrev pub AreFine : ℕ → Disks → Type 0
AreFine most d = (a : Actor) → IsFine most d a

-- most steps that a node takes in a healing
abbrev pub most_recovers : ℕ
most_recovers = 20000

next_few : {n k : ℕ} → n ≤ k → suc n ≤ suc k
next_few h = omega (arith, h)

more_few : {n k : ℕ} → n ≤ k → n ≤ suc k
more_few h = omega (arith, h)

fine_more : (most : ℕ) (d : Disks) (a : Actor) → IsFine most d a → IsFine (suc most) d a
fine_more most d a (inl none) = inl none
fine_more most d a (inr s) = inr (record { used = s.used; few = more_few s.few; node = s.node; armed = s.armed })

pub all_more : (most : ℕ) (d : Disks) → AreFine most d → AreFine (suc most) d
all_more most d fine a = fine_more most d a (fine a)

-- ---- one step

-- what is armed on the disk of an actor after a step of that same actor, and of another one
here_armed : (d : Disks) (a b : Actor) → same_actor a b ≡ true → (after_step true b d).armed a ≡ after_append (d.armed a)
here_armed d a b here =
    ap (λ t. cond t (after_append (d.armed b)) (d.armed a)) here ∙ ap (λ k. after_append (d.armed k)) (sym (same a b here))

there_armed : (d : Disks) (a b : Actor) → same_actor a b ≡ false → (after_step true b d).armed a ≡ d.armed a
there_armed d a b there = ap (λ t. cond t (after_append (d.armed b)) (d.armed a)) there

one_more : (used : ℕ) (a : Actor) → after_append (spared used a) ≡ spared (suc used) a
one_more used a = sym (here_armed (after_steps used a (after_fail a calls_let_pass fresh_disks)) a a (same_itself a))

elsewhere_fine : (most : ℕ) (d : Disks) (a b : Actor) → same_actor a b ≡ false → IsFine most d a → IsFine most (after_step true b d) a
elsewhere_fine most d a b there (inl none) = inl (there_armed d a b there ∙ none)
elsewhere_fine most d a b there (inr s) =
    inr (record { used = s.used; few = s.few; node = s.node; armed = there_armed d a b there ∙ s.armed })

pub step_fine : (most : ℕ) (d : Disks) (b : Actor) → AreFine most d → AreFine (suc most) (after_step true b d)
step_fine most d b fine a = by (same_actor a b) refl (fine a)
  where
    by : (o : Bool) → same_actor a b ≡ o → IsFine most d a → IsFine (suc most) (after_step true b d) a
    by true here (inl none) = inl (here_armed d a b here ∙ ap after_append none)
    by true here (inr s) =
        inr
        (record {
          used = suc s.used;
          few = next_few s.few;
          node = s.node;
          armed = here_armed d a b here ∙ ap after_append s.armed ∙ one_more s.used a;
        })
    by false there f = fine_more most (after_step true b d) a (elsewhere_fine most d a b there f)

-- of a store nothing is armed, so its steps use nothing up
pub store_fine : (most : ℕ) (d : Disks) (b : Actor) → is_node b ≡ false → AreFine most d → AreFine most (after_step true b d)
store_fine most d b store fine a = by (same_actor a b) refl (fine a)
  where
    by : (o : Bool) → same_actor a b ≡ o → IsFine most d a → IsFine most (after_step true b d) a
    by true here (inl none) = inl (here_armed d a b here ∙ ap after_append none)
    by true here (inr s) = absurd (true≢false (sym s.node ∙ ap is_node (same a b here) ∙ store))
    by false there f = elsewhere_fine most d a b there f

-- given that so many appends pass as a disk is armed for
pub passes :
    ((a : Actor) (disks : Disks) (calls steps place : ℕ) → steps < calls / 4
    → (step_answers (after_steps steps a (after_fail a calls disks)) a).fails place ≡ false)
    → (most : ℕ) (d : Disks) (a : Actor) → most ≤ most_recovers → IsFine most d a → fails_append (d.armed a) ≡ false
passes law most d a within (inl none) = ap fails_append none
passes law most d a within (inr s) = ap fails_append s.armed ∙ law a fresh_disks calls_let_pass s.used 0 (low s.used s.few)
  where
    low : (n : ℕ) → n ≤ most → n < calls_let_pass / 4
    low n h = let q : calls_let_pass / 4 ≡ 250000 = refl in subst (λ k. n < k) (sym q) (omega (arith, h, within))

-- ---- restarts and arms

pub restart_fine : (most : ℕ) (d : Disks) (a b : Actor) → (same_actor a b ≡ true) ⊎ IsFine most d a → IsFine most (after_restart b d) a
restart_fine most d a b known = by (same_actor a b) refl known
  where
    by : (o : Bool) → same_actor a b ≡ o → (same_actor a b ≡ true) ⊎ IsFine most d a → IsFine most (after_restart b d) a
    by true here k = inl (ap (λ t. cond t None (d.armed a)) here)
    by false there (inl here) = absurd (true≢false (sym here ∙ there))
    by false there (inr (inl none)) = inl (ap (λ t. cond t None (d.armed a)) there ∙ none)
    by false there (inr (inr s)) =
        inr (record { used = s.used; few = s.few; node = s.node; armed = ap (λ t. cond t None (d.armed a)) there ∙ s.armed })

pub arm_fine : (most : ℕ) (d : Disks) (a b : Actor) → is_node b ≡ true → (same_actor a b ≡ true) ⊎ IsFine most d a → IsFine most (after_fail b calls_let_pass d) a
arm_fine most d a b node known = by (same_actor a b) refl known
  where
    by : (o : Bool) → same_actor a b ≡ o → (same_actor a b ≡ true) ⊎ IsFine most d a → IsFine most (after_fail b calls_let_pass d) a
    by true here k =
        inr
        (record {
          used = 0;
          few = omega arith;
          node = ap is_node (same a b here) ∙ node;
          armed =
              ap (λ t. cond t (Some calls_let_pass) (d.armed a)) here
              ∙ sym (ap (λ t. cond t (Some calls_let_pass) None) (same_itself a));
        })
    by false there (inl here) = absurd (true≢false (sym here ∙ there))
    by false there (inr (inl none)) = inl (ap (λ t. cond t (Some calls_let_pass) (d.armed a)) there ∙ none)
    by false there (inr (inr s)) =
        inr
        (record { used = s.used; few = s.few; node = s.node; armed = ap (λ t. cond t (Some calls_let_pass) (d.armed a)) there ∙ s.armed })
