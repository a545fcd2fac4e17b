-- Limits that end a step of one actor.
use Rattle.std.proofs.Common.{◌≡◌, ℕ, suc, ◌<◌, ◌≤◌, Bool, true, false, List, ◌∷◌, Option, None, Some, Result, Ok, Err, IfErr, IsErrAnd, length, refl, sym, subst, inl, arith}
use Rattle.acc_stamp.specs.declared.actors.Actor.{Actor}
use Rattle.acc_ports.specs.declared.disk.Disk.{Ghosts}
use Rattle.acc_message.specs.declared.entry.Event.{Event}
use Rattle.acc_message.specs.declared.error.Which.{Which}
use Rattle.acc_message.specs.declared.error.Which.TheVariants.{Items}
use Rattle.acc_message.specs.declared.error.RunError.{RunError}
use Rattle.acc_message.specs.declared.error.RunError.TheVariants.{Limit, OutOfMemory}
use Rattle.acc_message.specs.declared.item.Item.{Item}
use Rattle.acc_message.specs.declared.item.Item.TheVariants.{Skipped, Down}
use Rattle.acc_message.specs.declared.item.Skip.{Skip}
use Rattle.acc_schedule.specs.Content.{Content}
use Rattle.acc_schedule_runs.specs.Situations.{Situation}
use Rattle.acc_schedule_runs.specs.Moves.{entry_of}
use Rattle.acc_schedule_runs.specs.Schedules.{cluster_of}
use Rattle.acc_schedule_runs.specs.Limits.{IsWithin, WouldPass, EndsAt, most_items}
use Rattle.acc_cluster.specs.declared.cluster.Cluster.{Cluster}
use Rattle.acc_history.specs.Stands as history
use Rattle.acc_cluster.specs.Entering.{HasPlace}
use Rattle.acc_cluster.specs.Stands.{StandsFor}
use Rattle.acc_cluster.specs.Steps.{hit, IfLimit}
use Rattle.acc_cluster.specs.Tried.{scheduled, stepped_if, HitsLimit}
use Rattle.acc_cluster.proofs.Limited.{stops_here, none_falls}

pub map_limit : (P Q : Which → ℕ → Type 0) → ((which : Which) (limit : ℕ) → P which limit → Q which limit) → (e : RunError) → IfLimit P e → IfLimit Q e
map_limit P Q f (Limit which limit) h = f which limit h
map_limit P Q f OutOfMemory h = tt

above : (n : ℕ) → most_items ≤ n → most_items < suc n
above n high = omega (arith, high)

no_more : (n : ℕ) → n < most_items → most_items < suc n → ⊥
no_more n place passed = omega (arith, place, passed)

-- where there is a place for one more item, the limit of items ends nothing
pub not_full : (Front : List Item → Type 0) (s : Situation) (which : Which) (limit : ℕ) → EndsAt Front s.own which limit → HasPlace s → which ≡ Items → ⊥
not_full Front s which limit ends place is =
    let passed : WouldPass s.own ends.next Items limit = subst (λ (w : Which). WouldPass s.own ends.next w limit) is ends.passed in
    no_more (length s.own) place passed.1

-- no place for one more item
pub full_at : (s : Situation) (item : Item) → IsWithin s.own → most_items ≤ length s.own → EndsAt (λ front. front ≡ item ∷ s.own) s.own Items most_items
full_at s item within full = record { next = item; front = refl; within = within; passed = (refl, above (length s.own) full) }

module _ {D : Type 0} (port : Ghosts D) (plan : Content) (number : ℕ) (a : Actor) (event : Event) (old : Cluster D) (s : Situation) where
  pub hits_full : (skip : Option Skip) → StandsFor port plan old s → most_items ≤ length s.own → HitsLimit port plan (scheduled skip number a event) old old s (hit Items most_items)
  hits_full skip h full =
      record {
        reached = s;
        ends = inl (λ fails. by h.past.within skip fails, refl);
        first = λ is. refl;
        stops = stops_here port plan old s h;
        none_fell = none_falls port plan old;
      }
    where
      by : IsWithin s.own → (skip : Option Skip) (fails : Bool) → EndsAt (λ front. front ≡ (stepped_if skip fails (cluster_of plan) number s a event).own) s.own Items most_items
      by within (Some cause) fails = full_at s (Skipped number cause) within full
      by within None true = full_at s (Down a) within full
      by within None false = full_at s (entry_of (cluster_of plan) s a event false) within full

-- what the exit of a `?` returns
pub exit_is : {T : Type 0} (r : Result T RunError) (e : RunError) (P : RunError → Type 0) → IsErrAnd r (λ y. y ≡ e) → P e → IfErr r P
exit_is (Ok x) e P is h = absurd is
exit_is (Err y) e P is h = subst P (sym is) h

-- where the check of the place refuses, for whatever skip and actor
pub full_refused : {D T : Type 0} (port : Ghosts D) (plan : Content) (number : ℕ)
    (old : Cluster D) (skip : Situation → Option Skip) (actor : Situation → Actor) (event : Event) (r : Result T RunError) (e : RunError) → IsErrAnd r (λ y. y ≡ e)
    → (e ≡ Limit Items most_items) × ((s : Situation) → history.StandsFor old.history s → most_items ≤ length s.own)
    → IfErr r (IfLimit (λ which limit. (s : Situation) → StandsFor port plan old s → HitsLimit port plan (scheduled (skip s) number (actor s) event) old old s (hit which limit)))
full_refused port plan number old skip actor event r e is told =
    exit_is r e (IfLimit (λ which limit. (s : Situation) → StandsFor port plan old s → HitsLimit port plan (scheduled (skip s) number (actor s) event) old old s (hit which limit))) is
    (subst (IfLimit (λ which limit. (s : Situation) → StandsFor port plan old s → HitsLimit port plan (scheduled (skip s) number (actor s) event) old old s (hit which limit))) (sym told.0)
    (λ s h. hits_full port plan number (actor s) event old s (skip s) h (told.1 s h.past.stands)))
