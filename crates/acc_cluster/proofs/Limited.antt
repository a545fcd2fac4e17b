-- What a limit leaves of a cluster.
use Rattle.std.proofs.Common.{◌≡◌, ℕ, ◌≤◌, false, List, reverse, Option, None, Some, Result, Ok, Err, IfErr, refl, ◌∙◌, ap, inl, ⊎_elim, arith}
use Rattle.acc_stamp.specs.declared.actors.Actor.{Actor}
use Rattle.acc_ports.specs.declared.disk.Disk.{Ghosts}
use Rattle.acc_message.specs.declared.entry.Event.{Event}
use Rattle.acc_message.specs.declared.error.Which.{Which}
use Rattle.acc_message.specs.declared.error.RunError.{RunError}
use Rattle.acc_message.specs.declared.error.RunError.TheVariants.{Limit, OutOfMemory}
use Rattle.acc_message.specs.declared.item.Item.{Item}
use Rattle.acc_message.specs.declared.item.Skip.{Skip}
use Rattle.acc_message.specs.Run.{Cluster as RunCluster}
use Rattle.acc_payloads.specs.Items.{downs_in}
use Rattle.acc_schedule.specs.Content.{Content}
use Rattle.acc_schedule_runs.specs.Situations.{Situation}
use Rattle.acc_schedule_runs.specs.Schedules.{cluster_of}
use Rattle.acc_cluster.specs.declared.cluster.Cluster.{Cluster}
use Rattle.acc_cluster.specs.Stands.{StandsFor, faults_at}
use Rattle.acc_cluster.specs.Limits.{StopsAt, HasEntered, NoneFell}
use Rattle.acc_cluster.specs.Steps.{hit, IfLimit, LimitLeaves}
use Rattle.acc_cluster.specs.Tried.{scheduled, stepped_if, HitsLimit}

-- ---- results

pub both_limits : {T : Type 0} (P Q : Which → ℕ → Type 0) (r : Result T RunError) → IfErr r (IfLimit P) → IfErr r (IfLimit Q)
    → IfErr r (IfLimit (λ which limit. P which limit × Q which limit))
both_limits P Q (Ok x) p q = tt
both_limits P Q (Err (Limit which limit)) p q = (p, q)
both_limits P Q (Err OutOfMemory) p q = tt

-- ---- where no disk was asked

as_much : (n : ℕ) → n ≤ n
as_much n = omega arith

module _ {D : Type 0} (port : Ghosts D) (plan : Content) (cluster : Cluster D) where
  pub stops_here : (s : Situation) → StandsFor port plan cluster s → StopsAt port plan cluster s.own s
  stops_here s h = record { entered = s; past = h.past; items_are = refl; sound = h.sound; actors = h.actors; ahead = inl refl }

  pub none_falls : NoneFell port plan cluster cluster
  none_falls a known = as_much (faults_at port cluster a)

-- the items are those that it has entered
pub entered_there : {D : Type 0} (port : Ghosts D) (plan : Content) (cluster : Cluster D) (items : List Item) (reached : Situation) → StopsAt port plan cluster items reached
    → HasEntered cluster items
entered_there port plan cluster items reached stops = stops.past.stands.holds.items_are ∙ ap reverse stops.items_are

-- ---- where an actor took a step

-- nobody goes down by it
pub none_down : (cluster : RunCluster) (number : ℕ) (skip : Option Skip) (s : Situation) (a b : Actor) (event : Event)
    → downs_in b (stepped_if skip false cluster number s a event).own ≡ downs_in b s.own
none_down cluster number (Some cause) s a b event = refl
none_down cluster number None s a b event = refl

module _ {D : Type 0} (port : Ghosts D) (plan : Content) (skip : Option Skip) (number : ℕ) (a : Actor) (event : Event) (old new : Cluster D) (s : Situation)
    (which : Which) (limit : ℕ) (h : HitsLimit port plan (scheduled skip number a event) old new s (hit which limit)) where
  pub same_downs : (b : Actor) → downs_in b h.reached.own ≡ downs_in b s.own
  same_downs b =
      ⊎_elim (λ unasked. ap (λ (t : Situation). downs_in b t.own) unasked.1)
      (λ asked. ap (λ (t : Situation). downs_in b t.own) asked.2 ∙ none_down (cluster_of plan) number skip s a b event) h.ends

  pub limit_leaves : LimitLeaves port plan old new s s.own h.reached
  limit_leaves = record { stops = h.stops; rose = λ b known. inl (same_downs b) }
