-- What others enter changes nothing for a desk.
use Rattle.std.proofs.Common.{◌≡◌, ◌==◌, Bool, true, false, cond, List, [], ◌∷◌, ◌++◌, length, reverse, refl, sym, ◌∙◌, ap, subst, arith, length-append}
use Rattle.std.proofs.lemmas.List.{reverse-append}
use Rattle.std.proofs.lemmas.List.Elements.{filter-append}
use mathlib.Core.List.{IsPrefix}
use Rattle.acc_stamp.specs.declared.actors.Actor.{Actor}
use Rattle.acc_ports.specs.declared.disk.Disk.{Ghosts}
use Rattle.acc_message.specs.declared.item.Item.{Item}
use Rattle.acc_message.specs.declared.item.Item.TheVariants.{Step as StepItem, Skipped, Down}
use Rattle.acc_message.specs.Run.{Cluster, EachStands}
use Rattle.acc_payloads.specs.Items.{is_item_of}
use Rattle.acc_schedule.specs.Content.{Content}
use Rattle.acc_schedule.specs.declared.plan.Step.{Step}
use Rattle.acc_schedule_runs.specs.Situations.{Stopped, whole}
use Rattle.acc_schedule_runs.specs.Schedules.{cluster_of}
use Rattle.acc_schedule_runs.specs.Disks.{fresh_disks}
use Rattle.acc_actors.specs.declared.slot.Slot.{Slot}
use Rattle.acc_actors.proofs.Apart.{IsApart, GoesOn, apart_itself, apart_on, apart_item, goes_item}
use Rattle.acc_actors.proofs.Slots.{slot_apart, strict_apart}
use Rattle.acc_free_laws.specs.FreeRun.{AreOthers, IsFreeRun, alone}
use Rattle.acc_free_laws.proofs.Alone.{alone_whole}
use Rattle.acc_free_laws.proofs.Over.{gone_over, serving_over}
use Rattle.acc_tape.specs.Lists.{items_of}
use Rattle.acc_tape.specs.ItemViews.{actor_of_item}
use Rattle.acc_desk.specs.Desks.{IsAt}

-- ---- items of others

append_others : (a : Actor) (xs ys : List Item) → AreOthers a xs → AreOthers a ys → AreOthers a (xs ++ ys)
append_others a [] ys one two = two
append_others a (x ∷ xs) ys one two = (one.0, append_others a xs ys one.1 two)

reverse_others : (a : Actor) (xs : List Item) → AreOthers a xs → AreOthers a (reverse xs)
reverse_others a [] h = tt
reverse_others a (x ∷ xs) h = subst (AreOthers a) (sym (reverse-append (x ∷ []) xs)) (append_others a (reverse xs) (x ∷ []) (reverse_others a xs h.1) (h.0, tt))

not_own : (a : Actor) (x : Item) → (actor_of_item x == a.0) ≡ false → is_item_of a x ≡ false
not_own a (StepItem e) h = h
not_own a (Skipped step cause) h = refl
not_own a (Down actor) h = h

no_own : (a : Actor) (xs : List Item) → items_of actor_of_item a.0 xs ≡ [] → AreOthers a xs
no_own a [] is = tt
no_own a (x ∷ xs) is = by (no_own a xs) (actor_of_item x == a.0) refl is
  where
    by : (items_of actor_of_item a.0 xs ≡ [] → AreOthers a xs) → (own : Bool) → (actor_of_item x == a.0) ≡ own → cond own (x ∷ items_of actor_of_item a.0 xs) (items_of actor_of_item a.0 xs) ≡ [] → AreOthers a (x ∷ xs)
    by later true e one = absurd (cc)
    by later false e none = (not_own a x e, later none)

nothing_long : {X : Type 0} (xs : List X) → length xs ≡ 0 → xs ≡ []
nothing_long [] e = refl
nothing_long (x ∷ xs) e = absurd (omega arith)

no_rest : {X : Type 0} (xs ys : List X) → xs ++ ys ≡ xs → ys ≡ []
no_rest xs ys e = nothing_long ys (let n = ap length e in let m = length-append xs ys in omega arith)

-- the items of others that stand after what a seat has seen
pub record Between (a : Actor) (seen before : List Item) : Type 0 where
  pub others : List Item
  pub apart : AreOthers a others
  pub items_are : reverse before ≡ others ++ reverse seen

pub between : (a : Actor) (seen before mine : List Item) → items_of actor_of_item a.0 seen ≡ mine → IsPrefix seen before → items_of actor_of_item a.0 before ≡ mine → Between a seen before
between a seen before mine had begins has =
    let rest : List Item = begins.0 in
    let none : items_of actor_of_item a.0 rest ≡ [] =
    no_rest (items_of actor_of_item a.0 seen) (items_of actor_of_item a.0 rest)
    (sym (filter-append (λ item. actor_of_item item == a.0) seen rest) ∙ ap (items_of actor_of_item a.0) begins.1 ∙ has ∙ sym had) in
    record {
      others = reverse rest;
      apart = reverse_others a rest (no_own a rest none);
      items_are = ap reverse (sym begins.1) ∙ reverse-append seen rest;
    }

-- ---- the actor

module _ (cluster : Cluster) (seen : List Item) (stopped : List Stopped) (a : Actor) (goes : GoesOn cluster (alone seen stopped) a) where
  pub record ApartOver (others : List Item) : Type 0 where
    pub apart : IsApart cluster (alone seen stopped) (alone (others ++ seen) stopped) a
    pub goes_on : GoesOn cluster (alone (others ++ seen) stopped) a

  apart_over : (others : List Item) → AreOthers a others → EachStands cluster (whole (alone (others ++ seen) stopped)) → ApartOver others
  apart_over [] apart stands = record { apart = apart_itself cluster (alone seen stopped) a; goes_on = goes }
  apart_over (item ∷ others) apart stands =
      let past = apart_over others apart.1 stands.1 in
      record {
        apart = apart_on cluster (alone seen stopped) (alone (others ++ seen) stopped) (alone (item ∷ others ++ seen) stopped) a past.apart
            (apart_item cluster (alone (others ++ seen) stopped) item a apart.0 past.goes_on stands.0);
        goes_on = goes_item cluster (alone (others ++ seen) stopped) item a apart.0 past.goes_on stands.0;
      }

module _ {D : Type 0} (port : Ghosts D) (strict_run : Bool) (plan : Content) (a : Actor) where
  -- others' items leave the actor where it was
  pub at_on : (seen others : List Item) (slot : Slot D) (left : List Step) → AreOthers a others → IsFreeRun plan (others ++ seen) → IsAt port strict_run plan a seen slot left
      → IsAt port strict_run plan a (others ++ seen) slot left
  at_on seen others slot left apart free at =
      let cluster = cluster_of plan in
      let st = at.stopped in
      let stands : EachStands cluster (whole (alone (others ++ seen) st)) = subst (EachStands cluster) (sym (alone_whole (others ++ seen) st)) free.run.stands in
      let over = apart_over cluster seen st a (at.serving.sound.stopped a) others apart stands in
      record {
        stopped = st;
        stands = slot_apart plan (alone seen st) (alone (others ++ seen) st) a over.apart port slot at.stands;
        serving = serving_over plan seen others a st apart at.stops free at.serving;
        stops = at.stops;
        gone = gone_over plan seen others a st left apart at.gone;
        stayed = λ on.
            let h = at.stayed on in
            record {
              unarmed = strict_apart plan (alone seen st) (alone (others ++ seen) st) a over.apart port fresh_disks fresh_disks slot refl refl h.unarmed;
              none = h.none;
              up = over.apart.downs ∙ h.up;
            };
      }
