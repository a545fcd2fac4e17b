-- Actors that are opened again in turn: the run stays sound, and whoever was down is up.
use Rattle.std.proofs.Common.{◌≡◌, Bool, true, false, not, ◌&&◌, ◌||◌, List, [], ◌∷◌, length, refl, sym, ◌∙◌, ap, subst, ◌⊎◌, inl, inr, ⊎_elim}
use Rattle.acc_stamp.specs.declared.actors.Actor.{Actor}
use Rattle.acc_message.specs.declared.entry.Event.{Event}
use Rattle.acc_message.specs.declared.entry.Event.TheVariants.{Restart as RestartEvent}
use Rattle.acc_message.specs.Items.{same_actor}
use Rattle.acc_message.specs.Run.{Cluster, is_down}
use Rattle.acc_safety.specs.Places.{IsIn}
use Rattle.acc_safety.proofs.Bridge.{same_itself}
use Rattle.acc_safety.proofs.PlaceOrder.{none_is_in, IsIn-cases}
use Rattle.acc_schedule.specs.Content.{Content}
use Rattle.acc_schedule.specs.Plan.{IsPlan}
use Rattle.acc_schedule_runs.specs.Moves.{entered, entered_all, kept_if, reopened, with_kept}
use Rattle.acc_schedule_runs.specs.Schedules.{cluster_of}
use Rattle.acc_schedule_runs.specs.Situations.{Situation, whole}
use Rattle.acc_pasts.specs.Stopped.{IsSound}
use Rattle.acc_pasts.proofs.Sound.{sound_restarted}
use Rattle.acc_left.specs.declared.image.Image.{Image}
use Rattle.acc_left.specs.Leaves.{actors_rising}
use Rattle.acc_left_laws.specs.Laws.{GoesOn}
use Rattle.acc_left_laws.specs.Left.{HasLeft, reopened_all, reopened_at}
use Rattle.acc_left_laws.proofs.InTurn.{in_turn}

abbrev IsUp : Actor → Situation → Type 0
IsUp a s = is_down a (whole s) ≡ false

never : (b : Bool) → (b && (not true || false)) ≡ false
never true = refl
never false = refl

module _ (cluster : Cluster) where
  -- an entry brings nobody down
  up_entered : (s : Situation) (a b : Actor) (event : Event) (lost : Bool) → IsUp b s → IsUp b (entered cluster s a event lost)
  up_entered s a b event lost up = ap (λ d. d && (not (same_actor a b) || lost)) up

  up_all : (events : List Event) (s : Situation) (a b : Actor) (lost : Bool) → IsUp b s → IsUp b (entered_all cluster s a events lost)
  up_all [] s a b lost up = up
  up_all (event ∷ events) s a b lost up = up_all events (entered cluster s a event lost) a b lost (up_entered s a b event lost up)

  stays_up : (s : Situation) (a b : Actor) (kept : List Event) → IsUp b s → IsUp b (reopened cluster s a kept)
  stays_up s a b kept up = up_entered (with_kept cluster s a kept) a b (RestartEvent (length kept)) false (up_all kept s a b true up)

  comes_up : (s : Situation) (a : Actor) (kept : List Event) → IsUp a (reopened cluster s a kept)
  comes_up s a kept =
      ap (λ o. is_down a (whole (with_kept cluster s a kept)) && (not o || false)) (same_itself a) ∙ never (is_down a (whole (with_kept cluster s a kept)))

  module _ (keeps : Actor → Bool) where
    abbrev next : Situation → Actor → Situation
    next s a = reopened cluster s a (kept_if (keeps a) a s)

    pub sound_all : (others : List Actor) (s : Situation) → IsSound cluster s → IsSound cluster (reopened_all cluster keeps s others)
    sound_all [] s sound = sound
    sound_all (a ∷ others) s sound = sound_all others (next s a) (sound_restarted cluster (keeps a) s a sound)

    -- who is reopened or was up is up
    pub all_up : (others : List Actor) (s : Situation) (b : Actor) → IsIn b others ⊎ IsUp b s → IsUp b (reopened_all cluster keeps s others)
    all_up [] s b h = ⊎_elim (λ there. absurd (none_is_in b there)) (λ up. up) h
    all_up (a ∷ others) s b h =
        all_up others (next s a) b
        (⊎_elim
        (λ there.
        ⊎_elim (λ here. inr (subst (λ c. IsUp c (next s a)) (sym here) (comes_up s a (kept_if (keeps a) a s)))) inl (IsIn-cases b a others there))
        (λ up. inr (stays_up s a b (kept_if (keeps a) a s) up)) h)

down_or_up : (b : Bool) → (b ≡ true) ⊎ (b ≡ false)
down_or_up true = inl refl
down_or_up false = inr refl

pub goes_on : (plan : Content) (s : Situation) (keeps : Actor → Bool) (images : List Image) → IsPlan plan → HasLeft plan s keeps images → GoesOn plan s keeps
goes_on plan s keeps images is left =
    let sound : IsSound (cluster_of plan) (reopened_at plan s keeps) = sound_all (cluster_of plan) keeps (actors_rising plan.topology) s left.sound in
    record {
      sound = sound;
      run = sound.run;
      up = λ a.
          all_up (cluster_of plan) keeps (actors_rising plan.topology) s a
          (⊎_elim (λ down. inl (in_turn plan.topology is.layout a (left.down a down))) inr (down_or_up (is_down a (whole s))));
    }
