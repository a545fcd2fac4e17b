-- The next command of a desk, and which commands went by.
use Rattle.std.proofs.Common.{◌≡◌, ℕ, zero, suc, ◌+◌, ◌≤◌, Bool, true, false, cond, ◌||◌, List, [], ◌∷◌, ◌++◌, length, reverse, take, drop, Some, refl, sym, ◌∙◌, ap, arith}
use Rattle.std.specs.List.{slice_get, list_any, filter}
use Rattle.std.proofs.lemmas.List.{reverse-append, take-append-drop, append_cancel_right}
use Rattle.std.proofs.lemmas.List.Folds.{list_any-append}
use Rattle.std.proofs.Math.Bool.{or-false}
use Rattle.acc_stamp.specs.declared.actors.Actor.{Actor}
use Rattle.acc_ports.specs.declared.disk.Disk.{Ghosts}
use Rattle.acc_message.specs.declared.item.Item.{Item}
use Rattle.acc_message.specs.Run.{is_down}
use Rattle.acc_schedule.specs.Content.{Content}
use Rattle.acc_schedule.specs.declared.plan.Step.{Step}
use Rattle.acc_schedule_runs.specs.Situations.{Situation, whole}
use Rattle.acc_schedule_runs.specs.Schedules.{cluster_of}
use Rattle.acc_actors.specs.declared.slot.Slot.{Slot}
use Rattle.acc_actors.specs.Slots.{SlotStands}
use Rattle.acc_free_laws.specs.Commands.{commands_of, is_command_of}
use Rattle.acc_free_laws.specs.FreeRun.{alone}
use Rattle.acc_free_laws.proofs.Alone.{alone_whole}
use Rattle.acc_desk.specs.Desks.{IsAt}

-- ---- the command at a place

pub drop_next : {X : Type 0} (xs : List X) (k : ℕ) (x : X) → slice_get xs k ≡ Some x → drop k xs ≡ x ∷ drop (k + 1) xs
drop_next [] k x e = absurd (cc)
drop_next (y ∷ xs) zero x e = let same : y ≡ x = cc in ap (λ z. z ∷ xs) same
drop_next (y ∷ xs) (suc k) x e = let n : suc (k + 1) ≡ suc k + 1 = omega arith in drop_next xs k x e ∙ ap (λ m. x ∷ drop m (y ∷ xs)) n

-- none stands past the end
pub none_left : {X : Type 0} (xs : List X) (k : ℕ) (x : X) (rest : List X) → length xs ≤ k → drop k xs ≡ x ∷ rest → ⊥
none_left [] zero x rest low is = absurd (cc)
none_left [] (suc k) x rest low is = absurd (cc)
none_left (y ∷ xs) zero x rest low is = absurd (omega (arith, low))
none_left (y ∷ xs) (suc k) x rest low is = none_left xs k x rest (omega (arith, low)) is

-- what passed the test is what is kept
kept_holds : {X : Type 0} (p : X → Bool) (xs : List X) (k : ℕ) (x : X) → slice_get (filter p xs) k ≡ Some x → p x ≡ true
kept_holds p [] k x e = absurd (cc)
kept_holds {X} p (y ∷ ys) k x e = by (kept_holds p ys) (p y) refl k e
  where
    by : ((n : ℕ) (z : X) → slice_get (filter p ys) n ≡ Some z → p z ≡ true) → (t : Bool) → p y ≡ t → (n : ℕ) → slice_get (cond t (y ∷ filter p ys) (filter p ys)) n ≡ Some x → p x ≡ true
    by later true is zero found = let same : y ≡ x = cc in ap p (sym same) ∙ is
    by later true is (suc n) found = later n x found
    by later false is n found = later n x found

pub own_command : (plan : Content) (a : Actor) (commands : List Step) (k : ℕ) (command : Step) → commands ≡ commands_of plan a → slice_get commands k ≡ Some command
    → is_command_of (cluster_of plan) a command ≡ true
own_command plan a commands k command all found =
    kept_holds (is_command_of (cluster_of plan) a) plan.steps k command (sym (ap (λ (l : List Step). slice_get l k) all) ∙ found)

-- ---- those that went by

either : (x y : Bool) → (x || y) ≡ (y || x)
either true true = refl
either true false = refl
either false true = refl
either false false = refl

pub any_reversed : {X : Type 0} (p : X → Bool) (xs : List X) → list_any p (reverse xs) ≡ list_any p xs
any_reversed p [] = refl
any_reversed p (x ∷ xs) =
    ap (list_any p) (reverse-append (x ∷ []) xs)
    ∙ list_any-append p (reverse xs) (x ∷ [])
    ∙ (λ i. any_reversed p xs i || or-false (p x) i)
    ∙ either (list_any p xs) (p x)

-- those up to the place, the newest first
pub gone_are : (commands gone : List Step) (n : ℕ) → commands ≡ reverse gone ++ drop n commands → take n commands ≡ reverse gone
gone_are commands gone n split = append_cancel_right (take n commands) (reverse gone) (drop n commands) (take-append-drop n commands ∙ split)

pub none_gone : (p : Step → Bool) (commands gone : List Step) (n : ℕ) → commands ≡ reverse gone ++ drop n commands → list_any p (take n commands) ≡ false → list_any p gone ≡ false
none_gone p commands gone n split none = sym (any_reversed p gone) ∙ sym (ap (list_any p) (gone_are commands gone n split)) ∙ none

-- ---- the slot

-- what a slot says of its actor holds of the items for which it stands
pub down_says : {D : Type 0} (port : Ghosts D) (strict_run : Bool) (plan : Content) (a : Actor) (items : List Item) (slot : Slot D) (left : List Step) → IsAt port strict_run plan a items slot left
    → (down : Bool) → ((p : Content) (s : Situation) (b : Actor) → SlotStands port p s b slot → down ≡ is_down b (whole s)) → down ≡ is_down a items
down_says port strict_run plan a items slot left at down says = says plan (alone items at.stopped) a at.stands ∙ ap (is_down a) (alone_whole items at.stopped)
