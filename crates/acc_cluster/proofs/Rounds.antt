-- What a round of a drain asks and gives.
use Rattle.std.proofs.Common.{◌≡◌, ℕ, ◌-◌, ◌<◌, ◌≤◌, true, false, None, Result, Err, IfErr, IsTrue, length, sym, ◌∙◌, ap, subst, arith}
use Rattle.std.specs.Result.{IsErrAnd}
use Rattle.std.proofs.lemmas.Result.{err_from_is_err_and}
use Rattle.std.proofs.lemmas.List.{length-reverse}
use Rattle.acc_ports.specs.declared.disk.Disk.{Ghosts}
use Rattle.acc_message.specs.declared.entry.Event.TheVariants.{Message as MessageEvent}
use Rattle.acc_message.specs.declared.error.Which.{Which}
use Rattle.acc_message.specs.declared.error.Which.TheVariants.{Items}
use Rattle.acc_message.specs.declared.error.RunError.{RunError}
use Rattle.acc_message.specs.declared.error.RunError.TheVariants.{Limit, OutOfMemory}
use Rattle.acc_message.specs.Run.{Cluster as RunCluster}
use Rattle.acc_schedule.specs.Content.{Content}
use Rattle.acc_pasts.proofs.Skips.{deliver_skip_is, waiting_goes}
use Rattle.acc_schedule_runs.specs.Situations.{Situation, waits, IsOldestWaiting, receiver_in}
use Rattle.acc_schedule_runs.specs.Moves.{deliver_skip}
use Rattle.acc_schedule_runs.specs.Schedules.{cluster_of}
use Rattle.acc_schedule_runs.specs.Limits.{most_items}
use Rattle.acc_history.specs.declared.history.History.{History}
use Rattle.acc_history.specs.Stands as history
use Rattle.acc_cluster.specs.declared.cluster.Cluster.{Cluster}
use Rattle.acc_cluster.specs.Entering.{HasPlace, IsPastOf, HasGrown}
use Rattle.acc_cluster.specs.Stands.{StandsFor}
use Rattle.acc_cluster.specs.Steps.{hit, IfLimit, LimitLeaves}
use Rattle.acc_cluster.specs.Tried.{scheduled, HitsLimit, HitsLimitInDrain}
use Rattle.acc_cluster.proofs.Hits.{hits_full}
use Rattle.acc_cluster.proofs.Coming.{HasCome, hits_in_drain}

-- a message that waits isn't passed over
pub waiting_is_taken : (cluster : RunCluster) (s : Situation) (message : ℕ) → IsTrue (waits s message) → deliver_skip s message ≡ None
waiting_is_taken cluster s message waiting =
    let found = waiting_goes cluster s message waiting in
    deliver_skip_is cluster s message true false found.0 found.1

pub as_many : (h : History) (s : Situation) → history.StandsFor h s → length h.items.items ≡ length s.own
as_many h s stands = ap length stands.holds.items_are ∙ length-reverse s.own

-- ---- the room that is left gets smaller

less_room : (before now n k : ℕ) → before ≡ n → now ≡ k → n < k → n < most_items → most_items - now < most_items - before
less_room before now n k is grown longer place = omega (arith, is, grown, longer, place)

pub grown_smaller : (now new : History) (s : Situation) → IsPastOf now s → HasPlace s → ((s : Situation) → IsPastOf now s → HasPlace s → HasGrown new s)
    → most_items - length new.items.items < most_items - length now.items.items
grown_smaller now new s past place grows =
    let grown : HasGrown new s = grows s past place in
    less_room (length now.items.items) (length new.items.items) (length s.own) (length grown.next.own)
    (as_many now s past.stands) (as_many new grown.next grown.past.stands) grown.longer place

-- ---- limits

-- the limits that end a round, where its error is passed on
module _ {D : Type 0} (port : Ghosts D)
    (plan : Content) (old now : Cluster D) (message : ℕ) (come : (s : Situation) → StandsFor port plan old s → HasCome port plan old now s)
    (oldest : (s : Situation) → history.StandsFor now.history s → IsOldestWaiting s message) where
  abbrev Hits : Cluster D → Which → ℕ → Type 0
  Hits new which most =
      (s : Situation) → StandsFor port plan old s → (hits : HitsLimitInDrain port plan old s which most) × LimitLeaves port plan old new s hits.items hits.reached

  passed_on : (new : Cluster D) (e : RunError) → IfLimit (Hits new) e → (r : Result (Unit {0}) RunError) → IsErrAnd r (λ x. x ≡ e) → IfErr r (IfLimit (Hits new))
  passed_on new e h r is =
      let found = err_from_is_err_and r is in
      subst (λ (x : Result (Unit {0}) RunError). IfErr x (IfLimit (Hits new))) (sym (found.1 ∙ ap Err found.2)) h

  -- there is no place
  pub ends_full : (e : RunError) → (e ≡ Limit Items most_items) × ((s : Situation) → history.StandsFor now.history s → most_items ≤ length s.own)
      → (r : Result (Unit {0}) RunError) → IsErrAnd r (λ x. x ≡ e) → IfErr r (IfLimit (Hits now))
  ends_full e full = passed_on now e (subst (IfLimit (Hits now)) (sym full.0) hits)
    where
      hits : Hits now Items most_items
      hits s stands =
          let reached : HasCome port plan old now s = come s stands in
          hits_in_drain port plan old s now reached now message (oldest reached.reached reached.stands.past.stands) Items most_items
          (hits_full port plan 0 (receiver_in reached.reached message) (MessageEvent message) now reached.reached None reached.stands
          (full.1 reached.reached reached.stands.past.stands))

  -- the step hits one
  pub ends_taken : (new : Cluster D) (e : RunError)
      → IfLimit (λ which most. (number : ℕ) (s : Situation) → StandsFor port plan now s → HasPlace s → deliver_skip s message ≡ None
      → HitsLimit port plan (scheduled None number (receiver_in s message) (MessageEvent message)) now new s (hit which most)) e
      → ((s : Situation) → history.StandsFor now.history s → HasPlace s) → (r : Result (Unit {0}) RunError) → IsErrAnd r (λ x. x ≡ e) → IfErr r (IfLimit (Hits new))
  ends_taken new OutOfMemory h place = passed_on new OutOfMemory tt
  ends_taken new (Limit which most) h place = passed_on new (Limit which most) hits
    where
      hits : Hits new which most
      hits s stands =
          let reached : HasCome port plan old now s = come s stands in
          let first : IsOldestWaiting reached.reached message = oldest reached.reached reached.stands.past.stands in
          hits_in_drain port plan old s now reached new message first which most
          (h 0 reached.reached reached.stands (place reached.reached reached.stands.past.stands) (waiting_is_taken (cluster_of plan) reached.reached message first.0))
