-- What each actor has in its journal, and did, once all of them are opened again in turn.
use Rattle.std.proofs.Common.{◌≡◌, ℕ, ◌<◌, Bool, true, false, List, [], ◌∷◌, ◌++◌, map, append-nil, Contains, refl, sym, ap, subst, ◌∙◌, ⊎_elim, arith}
use Rattle.std.specs.Prelude.{nat_lt}
use Rattle.std.specs.List.{AllByRecursion}
use Rattle.std.proofs.lemmas.Bool.{true≢false, ltb-true, ne_eqb}
use Rattle.acc_stamp.specs.declared.actors.Actor.{Actor}
use Rattle.acc_stamp.specs.Rising.{IsRisingBy}
use Rattle.acc_stamp.proofs.Rising.{each_weaker}
use Rattle.acc_message.specs.declared.entry.Event.{Event}
use Rattle.acc_message.specs.declared.item.Item.{Item}
use Rattle.acc_message.specs.Items.{same_actor}
use Rattle.acc_message.specs.NodeRules.{Act, Restarts}
use Rattle.acc_message.specs.Run.{Cluster, deeds_of}
use Rattle.acc_safety.specs.Places.{IsIn}
use Rattle.acc_safety.specs.RunLaws.{acts_done}
use Rattle.acc_safety.proofs.Bridge.{same, same_itself}
use Rattle.acc_safety.proofs.PlaceOrder.{none_is_in, IsIn-cases}
use Rattle.acc_payloads.specs.Items.{payloads_in}
use Rattle.acc_schedule.specs.Actors.{actors}
use Rattle.acc_schedule.specs.Content.{Content}
use Rattle.acc_schedule.specs.Plan.{IsPlan}
use Rattle.acc_schedule_runs.specs.Moves.{event_in, kept_if, reopened, with_kept}
use Rattle.acc_schedule_runs.specs.Schedules.{cluster_of}
use Rattle.acc_schedule_runs.specs.Situations.{Situation, whole}
use Rattle.acc_pasts.specs.Pasts.{IsUntouched}
use Rattle.acc_pasts.specs.Stopped.{CanAllGoOn, IsSound}
use Rattle.acc_pasts.proofs.Pasts.{nothing_new, untouched_on}
use Rattle.acc_pasts.proofs.Sound.{did_reopen_kept, reopened_apart, reopened_other, sound_restarted}
use Rattle.acc_left.specs.Leaves.{actors_rising}
use Rattle.acc_left.proofs.OrderFacts.{actors_rise}
use Rattle.acc_left_laws.specs.Left.{payloads_left, reopened_all, reopened_run}
use Rattle.acc_left_laws.proofs.InTurn.{in_turn}
use Rattle.acc_left_laws.proofs.Kept.{all_kept, put_by, put_reopened}

abbrev actor_lt : Actor → Actor → Bool
actor_lt a b = nat_lt a.0 b.0

lower_is_other : (a b : Actor) → actor_lt a b ≡ true → same_actor b a ≡ false
lower_is_other a b lower = let less : a.0 < b.0 = ltb-true a.0 b.0 lower in ne_eqb b.0 a.0 (λ equal. omega (arith, less, equal))

module _ (cluster : Cluster) (keeps : Actor → Bool) (a : Actor) where
  abbrev kept_of : Situation → Actor → List Event
  kept_of s b = kept_if (keeps b) b s

  abbrev next : Situation → Actor → Situation
  next s b = reopened cluster s b (kept_of s b)

  can_go_on : (keep : Bool) (s : Situation) (b : Actor) → IsSound cluster s → CanAllGoOn cluster s b (kept_if keep b s)
  can_go_on true s b sound = sound.stopped b
  can_go_on false s b sound = (tt, tt)

  same_kept : (keep : Bool) (s : Situation) (b : Actor) (kept : List Event) → same_actor b a ≡ false → kept_if keep a (reopened cluster s b kept) ≡ kept_if keep a s
  same_kept true s b kept apart = reopened_other cluster s b a kept apart
  same_kept false s b kept apart = refl

  -- nobody else changes it
  rest_untouched : (others : List Actor) (s : Situation) → AllByRecursion (λ (b : Actor). same_actor b a ≡ false) others
      → IsUntouched cluster (whole s) (whole (reopened_all cluster keeps s others)) a
  rest_untouched [] s apart = nothing_new cluster (whole s) a
  rest_untouched (b ∷ others) s apart =
      untouched_on cluster (whole s) (whole (next s b)) (whole (reopened_all cluster keeps (next s b) others)) a (reopened_apart cluster s b a (kept_of s b) apart.0)
      (rest_untouched others (next s b) apart.1)

  all_above : (others : List Actor) → AllByRecursion (λ (b : Actor). actor_lt a b ≡ true) others → AllByRecursion (λ (b : Actor). same_actor b a ≡ false) others
  all_above others above = each_weaker (λ (b : Actor). actor_lt a b ≡ true) (λ (b : Actor). same_actor b a ≡ false) others (λ b lower. lower_is_other a b lower) above

  -- ---- its journal

  own_turn : (others : List Actor) (s : Situation) → AllByRecursion (λ (b : Actor). actor_lt a b ≡ true) others
      → payloads_in a (whole (reopened_all cluster keeps (next s a) others)) ≡ payloads_in a (whole (with_kept cluster s a (kept_of s a)))
  own_turn others s above =
      (rest_untouched others (next s a) (all_above others above)).payloads ∙ (did_reopen_kept cluster s a (kept_of s a)).payloads
      ∙ append-nil (payloads_in a (whole (with_kept cluster s a (kept_of s a))))

  other_turn : (s : Situation) (b : Actor) → IsSound cluster s → same_actor b a ≡ false
      → payloads_in a (whole (with_kept cluster (next s b) a (kept_of (next s b) a))) ≡ payloads_in a (whole (with_kept cluster s a (kept_of s a)))
  other_turn s b sound apart =
      let own : List Event = kept_of s a in
      let untouched : IsUntouched cluster (whole s) (whole (next s b)) a = reopened_apart cluster s b a (kept_of s b) apart in
      ap (λ (events : List Event). payloads_in a (whole (with_kept cluster (next s b) a events))) (same_kept (keeps a) s b (kept_of s b) apart) ∙ all_kept cluster a own (next s b)
      ∙ ap (λ (l : List (List ℕ)). l ++ put_by cluster a (whole (next s b)) (map (event_in (next s b)) own)) untouched.payloads
      ∙ ap (λ (l : List (List ℕ)). payloads_in a (whole s) ++ l)
      (put_reopened cluster a b apart s (kept_of s b) own (can_go_on (keeps b) s b sound) (can_go_on (keeps a) s a sound))
      ∙ sym (all_kept cluster a own s)

  pub turn_payloads : (others : List Actor) (s : Situation) → IsSound cluster s → IsRisingBy actor_lt others → IsIn a others
      → payloads_in a (whole (reopened_all cluster keeps s others)) ≡ payloads_in a (whole (with_kept cluster s a (kept_of s a)))
  turn_payloads [] s sound rises there = absurd (none_is_in a there)
  turn_payloads (b ∷ others) s sound rises there =
      by (same_actor b a) refl (turn_payloads others (next s b) (sound_restarted cluster (keeps b) s b sound) rises.1)
    where
      by : (here : Bool) → same_actor b a ≡ here
          → (IsIn a others → payloads_in a (whole (reopened_all cluster keeps (next s b) others)) ≡ payloads_in a (whole (with_kept cluster (next s b) a (kept_of (next s b) a))))
          → payloads_in a (whole (reopened_all cluster keeps (next s b) others)) ≡ payloads_in a (whole (with_kept cluster s a (kept_of s a)))
      by true is rest =
          subst (λ (c : Actor). payloads_in a (whole (reopened_all cluster keeps (next s c) others)) ≡ payloads_in a (whole (with_kept cluster s a (kept_of s a)))) (sym (same b a is))
          (own_turn others s (subst (λ (c : Actor). AllByRecursion (λ (d : Actor). actor_lt c d ≡ true) others) (same b a is) rises.0))
      by false is rest =
          rest (⊎_elim (λ equal. absurd (true≢false (sym (ap (λ c. same_actor c a) (sym equal) ∙ same_itself a) ∙ is))) (λ later. later) (IsIn-cases a b others there))
          ∙ other_turn s b sound is

  -- ---- what it did

  -- its last act is its restart
  pub record EndsWithRestart (items : List Item) : Type 0 where
    pub acts : List Act
    pub done : acts_done (deeds_of cluster a items) ≡ Restarts ∷ acts

  own_end : (others : List Actor) (s : Situation) → AllByRecursion (λ (b : Actor). actor_lt a b ≡ true) others → EndsWithRestart (whole (reopened_all cluster keeps (next s a) others))
  own_end others s above = record {
    acts = acts_done (deeds_of cluster a (whole (with_kept cluster s a (kept_of s a))));
    done = ap acts_done ((rest_untouched others (next s a) (all_above others above)).deeds ∙ (did_reopen_kept cluster s a (kept_of s a)).deeds);
  }

  pub turn_ends : (others : List Actor) (s : Situation) → IsRisingBy actor_lt others → IsIn a others → EndsWithRestart (whole (reopened_all cluster keeps s others))
  turn_ends [] s rises there = absurd (none_is_in a there)
  turn_ends (b ∷ others) s rises there = by (same_actor b a) refl (turn_ends others (next s b) rises.1)
    where
      by : (here : Bool) → same_actor b a ≡ here → (IsIn a others → EndsWithRestart (whole (reopened_all cluster keeps (next s b) others)))
          → EndsWithRestart (whole (reopened_all cluster keeps (next s b) others))
      by true is rest =
          subst (λ (c : Actor). EndsWithRestart (whole (reopened_all cluster keeps (next s c) others))) (sym (same b a is))
          (own_end others s (subst (λ (c : Actor). AllByRecursion (λ (d : Actor). actor_lt c d ≡ true) others) (same b a is) rises.0))
      by false is rest =
          rest (⊎_elim (λ equal. absurd (true≢false (sym (ap (λ c. same_actor c a) (sym equal) ∙ same_itself a) ∙ is))) (λ later. later) (IsIn-cases a b others there))

-- ---- of the plan

module _ (plan : Content) (is : IsPlan plan) (s : Situation) (keeps : Actor → Bool) (a : Actor) (known : Contains (actors plan.topology) a) where
  pub reopened_payloads : IsSound (cluster_of plan) s → payloads_in a (reopened_run plan s keeps) ≡ payloads_left plan s (keeps a) a
  reopened_payloads sound =
      turn_payloads (cluster_of plan) keeps a (actors_rising plan.topology) s sound (actors_rise plan.topology is.layout) (in_turn plan.topology is.layout a known)

  pub reopened_ends : EndsWithRestart (cluster_of plan) keeps a (reopened_run plan s keeps)
  reopened_ends = turn_ends (cluster_of plan) keeps a (actors_rising plan.topology) s (actors_rise plan.topology is.layout) (in_turn plan.topology is.layout a known)
