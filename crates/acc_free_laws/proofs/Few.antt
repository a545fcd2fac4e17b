-- An actor that is down goes down again only with a command of its own.
use Rattle.std.proofs.Common.{◌≡◌, ℕ, ◌+◌, ◌≤◌, Bool, true, false, not, cond, ◌&&◌, ◌||◌, List, [], ◌∷◌, length, reverse, Option, refl, sym, ◌∙◌, ap, subst, arith}
use Rattle.std.proofs.lemmas.Bool.{true≢false, and_parts}
use Rattle.std.proofs.lemmas.List.{length-append, length-reverse}
use Rattle.acc_stamp.specs.declared.actors.Actor.{Actor}
use Rattle.acc_message.specs.declared.entry.Event.{Event}
use Rattle.acc_message.specs.declared.entry.Event.TheVariants.{Begin, Recover, Slow, Message as TakesMessage, Restart}
use Rattle.acc_message.specs.declared.item.Item.{Item}
use Rattle.acc_message.specs.declared.item.Item.TheVariants.{Step as StepItem, Down}
use Rattle.acc_message.specs.Items.{same_actor}
use Rattle.acc_message.specs.Run.{Cluster, is_down, is_restart_event, follows_downs, downs_end}
use Rattle.acc_safety.proofs.Bridge.{same}
use Rattle.acc_payloads.specs.Items.{downs_in}
use Rattle.acc_schedule.specs.Content.{Content}
use Rattle.acc_schedule.specs.declared.plan.Step.{Step}
use Rattle.acc_pasts.specs.Pasts.{IsUntouched}
use Rattle.acc_schedule_runs.specs.Situations.{Situation}
use Rattle.acc_schedule_runs.specs.Schedules.{cluster_of}
use Rattle.acc_free_laws.specs.Commands.{commands_of, is_message}
use Rattle.acc_free_laws.specs.Turns.{Went, begins, aside, delivered, took, came_up, stopped, stayed, went_down, kept, kept_message, passed}
use Rattle.acc_free_laws.specs.Serving.{IsServing, HasGone}
use Rattle.acc_free_laws.proofs.Others.{untouched_by}

-- so many, and one more where the actor is down
abbrev Few : ℕ → ℕ → Bool → Type 0
Few downs gone down = downs ≤ gone + cond down 1 0

one_gone : (downs : ℕ) (command : Step) (gone : List Step) (down now : Bool) → Few downs (length gone) down → Few downs (length (command ∷ gone)) now
one_gone downs command gone true true h = omega (arith, h)
one_gone downs command gone true false h = omega (arith, h)
one_gone downs command gone false true h = omega (arith, h)
one_gone downs command gone false false h = omega (arith, h)

came_down : (downs gone : ℕ) (down : Bool) → down ≡ false → Few downs gone down → Few (1 + downs) gone true
came_down downs gone true up h = absurd (true≢false up)
came_down downs gone false up h = omega (arith, h)

stayed_one : (downs : ℕ) (command : Step) (gone : List Step) (down : Bool) → Few downs (length gone) down → Few (1 + downs) (length (command ∷ gone)) true
stayed_one downs command gone true h = omega (arith, h)
stayed_one downs command gone false h = omega (arith, h)

at_most_one : (downs gone : ℕ) (down : Bool) → Few downs gone down → downs ≤ gone + 1
at_most_one downs gone true h = h
at_most_one downs gone false h = omega (arith, h)

no_restart : (event : Event) → is_message event ≡ true → is_restart_event event ≡ false
no_restart (Begin txn) is = refl
no_restart (Recover txn) is = refl
no_restart (Slow txn) is = refl
no_restart (TakesMessage number) is = refl
no_restart (Restart count) is = absurd (true≢false (sym is))

up_before : (down lost restarts : Bool) → lost ≡ false → restarts ≡ false → (not down || lost || restarts) ≡ true → down ≡ false
up_before false lost restarts p q h = refl
up_before true true restarts p q h = absurd (true≢false p)
up_before true false true p q h = absurd (true≢false q)
up_before true false false p q h = absurd (true≢false (sym h))

lost_few : (downs gone : ℕ) (down here lost : Bool) → lost ≡ true → Few downs gone down → Few downs gone (down && (not here || lost))
lost_few downs gone down here false is h = absurd (true≢false (sym is))
lost_few downs gone false here true is h = h
lost_few downs gone true true true is h = h
lost_few downs gone true false true is h = h

module _ (cluster : Cluster) (a : Actor) where
  -- its own down, and an entry of its own
  own_down : (actor : Actor) (items : List Item) (gone : ℕ) → same_actor actor a ≡ true → Few (1 + downs_in a items) gone true
      → Few (downs_in a (Down actor ∷ items)) gone (is_down a (Down actor ∷ items))
  own_down actor items gone own h =
      subst (λ b. Few (cond b (1 + downs_in a items) (downs_in a items)) gone (b || is_down a items)) (sym own) h

  pub few_downs : (items : List Item) (gone : List Step) (stop : Option Step) → Went a items gone stop → downs_end items ≡ true
      → Few (downs_in a items) (length gone) (is_down a items)
  few_downs _ _ _ begins ends = omega arith
  few_downs _ _ _ (aside item items gone stop apart went) ends =
      let past : IsUntouched cluster items (item ∷ items) a = untouched_by cluster items a (item ∷ []) (apart, tt) in
      let before = few_downs items gone stop went (and_parts (follows_downs items item) (downs_end items) ends).1 in
      subst (λ b. Few (downs_in a (item ∷ items)) (length gone) b) (sym past.down)
      (subst (λ n. Few n (length gone) (is_down a items)) (sym past.downs) before)
  few_downs _ _ _ (delivered e items gone stop is went) ends =
      let parts = and_parts (follows_downs items (StepItem e)) (downs_end items) ends in
      let up : is_down a items ≡ false =
      ap (λ b. is_down b items) (sym (same e.actor a is.0))
      ∙ up_before (is_down e.actor items) e.lost (is_restart_event e.event) is.2 (no_restart e.event is.1) parts.0 in
      let before = few_downs items gone stop went parts.1 in
      entry_few (downs_in a items) (length gone) (is_down a items) _ up before
    where
      entry_few : (downs gone : ℕ) (down now : Bool) → down ≡ false → Few downs gone down → Few downs gone now
      entry_few downs gone true now up h = absurd (true≢false up)
      entry_few downs gone false true up h = omega (arith, h)
      entry_few downs gone false false up h = h
  few_downs _ _ _ (took e command items gone stop is other went) ends =
      one_gone (downs_in a items) command gone (is_down a items) _
      (few_downs items gone stop went (and_parts (follows_downs items (StepItem e)) (downs_end items) ends).1)
  few_downs _ _ _ (came_up e command items gone stop is other went) ends =
      one_gone (downs_in a items) command gone (is_down a items) _
      (few_downs items gone stop went (and_parts (follows_downs items (StepItem e)) (downs_end items) ends).1)
  few_downs _ _ _ (stopped actor command items gone stop own other up went) ends =
      own_down actor items (length (command ∷ gone)) own (stayed_one (downs_in a items) command gone (is_down a items) (few_downs items gone stop went ends))
  few_downs _ _ _ (stayed actor command items gone stop own other went) ends =
      own_down actor items (length (command ∷ gone)) own (stayed_one (downs_in a items) command gone (is_down a items) (few_downs items gone stop went ends))
  few_downs _ _ _ (went_down actor items gone stop own up went) ends =
      own_down actor items (length gone) own (came_down (downs_in a items) (length gone) (is_down a items) up (few_downs items gone stop went ends))
  few_downs _ _ _ (kept e command items gone is went) ends =
      lost_few (downs_in a items) (length gone) (is_down a items) (same_actor e.actor a) e.lost is.2
      (few_downs items gone _ went (and_parts (follows_downs items (StepItem e)) (downs_end items) ends).1)
  few_downs _ _ _ (kept_message e items gone is went) ends =
      lost_few (downs_in a items) (length gone) (is_down a items) (same_actor e.actor a) e.lost is.2
      (few_downs items gone _ went (and_parts (follows_downs items (StepItem e)) (downs_end items) ends).1)
  few_downs _ _ _ (passed command items gone stop is went) ends =
      one_gone (downs_in a items) command gone (is_down a items) (is_down a items) (few_downs items gone stop went ends)

pub downs_left : (plan : Content) (s : Situation) (a : Actor) (left : List Step) → IsServing plan s → HasGone plan s a left
    → downs_in a s.own + length left ≤ length (commands_of plan a) + 1
downs_left plan s a left serving h =
    let few = at_most_one (downs_in a s.own) (length h.gone) (is_down a s.own) (few_downs (cluster_of plan) a s.own h.gone h.stop h.went serving.free.run.downs) in
    let all : length (commands_of plan a) ≡ length h.gone + length left =
    ap length h.split ∙ length-append (reverse h.gone) left ∙ ap (λ n. n + length left) (length-reverse h.gone) in
    omega (arith, few, all)
