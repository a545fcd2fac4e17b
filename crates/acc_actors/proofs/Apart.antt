-- What items of one actor leave of another.
use Rattle.std.proofs.Common.{◌≡◌, ℕ, ◌+◌, Bool, true, false, not, cond, List, [], ◌∷◌, ◌++◌, length, refl, sym, ◌∙◌, ap}
use Rattle.acc_stamp.specs.declared.actors.Actor.{Actor}
use Rattle.acc_stamp.proofs.Rising.{each_weaker}
use Rattle.acc_message.specs.declared.entry.Event.{Event}
use Rattle.acc_message.specs.declared.entry.Event.TheVariants.{Restart}
use Rattle.acc_message.specs.declared.item.Skip.{Skip}
use Rattle.acc_message.specs.declared.item.Item.{Item}
use Rattle.acc_message.specs.declared.item.Item.TheVariants.{Step, Skipped, Down}
use Rattle.acc_message.specs.Items.{same_actor, sent_of}
use Rattle.acc_message.specs.NodeRules.{Act, Restarts}
use Rattle.acc_message.specs.Run.{Cluster, Stands}
use Rattle.acc_actor_laws.specs.TakenAlone.{messages_taken}
use Rattle.acc_message.specs.Run.{taken_from}
use Rattle.acc_safety.specs.RunLaws.{acts_done}
use Rattle.acc_payloads.specs.Items.{is_item_of, downs_in}
use Rattle.acc_pasts.specs.Entries.{MayTake}
use Rattle.acc_pasts.specs.Pasts.{IsUntouched}
use Rattle.acc_pasts.specs.Stopped.{CanGoOn, CanAllGoOn, IsSound, is_other}
use Rattle.acc_pasts.proofs.Pasts.{untouched, untouched_on}
use Rattle.acc_pasts.proofs.Standing.{entry_stands, restart_may}
use Rattle.acc_pasts.proofs.Sound.{others_go_on}
use Rattle.acc_pasts.proofs.Stops.{still}
use Rattle.acc_schedule_runs.proofs.StopLists.{without_other, stopped_other, all_stopped}
use Rattle.acc_schedule_runs.specs.Situations.{Stopped, Situation, raised, whole, stopped_at, without, stops_of}
use Rattle.acc_schedule_runs.specs.Moves.{with_item, with_stopped, event_in, entry_of, entered, stopped_by, tried_if, with_kept, reopened}
use Rattle.acc_actors.specs.Pasts.{stops_in, stops_at, store_stops, node_past, store_past}
use Rattle.acc_actors.proofs.Pasts.{same_past, stops_same, stops_alike, known_on, acts_known}

-- nothing of the actor has changed
pub record IsApart (cluster : Cluster) (s next : Situation) (b : Actor) : Type 0 where
  pub untouched : IsUntouched cluster (whole s) (whole next) b
  pub stop : stops_at cluster next b ≡ stops_at cluster s b
  pub downs : downs_in b next.own ≡ downs_in b s.own

pub apart_itself : (cluster : Cluster) (s : Situation) (b : Actor) → IsApart cluster s s b
apart_itself cluster s b = record { untouched = record { deeds = refl; payloads = refl; downs = refl; down = refl; ends = refl }; stop = refl; downs = refl }

pub apart_on : (cluster : Cluster) (s between next : Situation) (b : Actor) → IsApart cluster s between b → IsApart cluster between next b → IsApart cluster s next b
apart_on cluster s between next b one two =
    record {
      untouched = untouched_on cluster (whole s) (whole between) (whole next) b one.untouched two.untouched;
      stop = two.stop ∙ one.stop;
      downs = two.downs ∙ one.downs;
    }

-- its stopped steps can go on
abbrev pub GoesOn : Cluster → Situation → Actor → Type 0
GoesOn cluster s b = CanAllGoOn cluster s b (stopped_at b s.stopped)

item_apart : (by : ℕ) (b : Actor) (item : Item) → is_item_of b item ≡ false → is_item_of b (raised by item) ≡ false
item_apart by b (Step e) apart = apart
item_apart by b (Skipped step cause) apart = apart
item_apart by b (Down actor) apart = apart

other_is : (by : ℕ) (b : Actor) (item : Item) → is_item_of b item ≡ false → is_other b (raised by item) ≡ true
other_is by b (Step e) apart = ap not apart
other_is by b (Skipped step cause) apart = refl
other_is by b (Down actor) apart = refl

downs_apart : (b : Actor) (own : List Item) (item : Item) → is_item_of b item ≡ false → downs_in b (item ∷ own) ≡ downs_in b own
downs_apart b own (Step e) apart = refl
downs_apart b own (Skipped step cause) apart = refl
downs_apart b own (Down actor) apart = ap (λ t. cond t (1 + downs_in b own) (downs_in b own)) apart

module _ (cluster : Cluster) (s : Situation) (item : Item) (b : Actor) (apart : is_item_of b item ≡ false) (goes : GoesOn cluster s b)
    (stands : Stands cluster (whole s) (raised (length (sent_of s.earlier)) item)) where
  abbrev by : ℕ
  by = length (sent_of s.earlier)

  pub goes_item : GoesOn cluster (with_item item s) b
  goes_item = (
    each_weaker _ (λ (event : Event). CanGoOn cluster (whole (with_item item s)) b (event_in s event)) (stopped_at b s.stopped)
        (λ event can. still cluster (whole s) (raised by item) b (event_in s event) stands (other_is by b item apart) can) goes.0,
    goes.1,
  )

  still_untouched : IsUntouched cluster (whole s) (whole (with_item item s)) b
  still_untouched = untouched cluster (whole s) (raised by item) b (item_apart by b item apart)

  stop_item : stops_at cluster (with_item item s) b ≡ stops_at cluster s b
  stop_item =
      stops_alike cluster b (stopped_at b s.stopped) s (item ∷ s.own) s.dropped s.stopped true true still_untouched.deeds
      (known_on cluster s item (stopped_at b s.stopped) (acts_known cluster s b (stopped_at b s.stopped) goes))

  pub apart_item : IsApart cluster s (with_item item s) b
  apart_item =
      record {
        untouched = still_untouched;
        stop = stop_item;
        downs = downs_apart b s.own item apart;
      }

-- other steps were stopped, or aren't any more
pub apart_stopped : (cluster : Cluster) (s : Situation) (stopped : List Stopped) (b : Actor) → stopped_at b stopped ≡ stopped_at b s.stopped
    → IsApart cluster s (with_stopped stopped s) b
apart_stopped cluster s stopped b is =
    record {
      untouched = record { deeds = refl; payloads = refl; downs = refl; down = refl; ends = refl };
      stop = stops_same cluster b (stopped_at b stopped) s s.dropped stopped true ∙ ap (λ events. stops_in cluster s b events true) is;
      downs = refl;
    }

-- ---- each move

module _ (cluster : Cluster) (s : Situation) (sound : IsSound cluster s) where
  abbrev goes_on : (b : Actor) → GoesOn cluster s b
  goes_on b = sound.stopped b

  pub apart_skip : (number : ℕ) (cause : Skip) (b : Actor) → IsApart cluster s (with_item (Skipped number cause) s) b
  apart_skip number cause b = apart_item cluster s (Skipped number cause) b refl (goes_on b) tt

  pub apart_down : (a b : Actor) → same_actor a b ≡ false → IsApart cluster s (with_item (Down a) s) b
  apart_down a b apart = apart_item cluster s (Down a) b apart (goes_on b) tt

  pub apart_tried : (fails : Bool) (a b : Actor) (event : Event) (act : Act) → same_actor a b ≡ false → MayTake cluster (whole s) a (event_in s event) act
      → IsApart cluster s (tried_if fails cluster s a event) b
  apart_tried true a b event act apart may =
      apart_on cluster s (with_item (Down a) s) (stopped_by a (event ∷ []) s) b (apart_down a b apart)
      (apart_stopped cluster (with_item (Down a) s) (stops_of a (event ∷ []) ++ without a s.stopped) b (stopped_other a b (event ∷ []) s.stopped apart))
  apart_tried false a b event act apart may =
      apart_item cluster s (entry_of cluster s a event false) b apart (goes_on b) (entry_stands cluster (whole s) a (event_in s event) act may false)

  -- a restart
  restarted_apart : (between : Situation) (kept : ℕ) (a b : Actor) → same_actor a b ≡ false → GoesOn cluster between b
      → IsApart cluster between (entered cluster between a (Restart kept) false) b
  restarted_apart between kept a b apart goes =
      apart_item cluster between (entry_of cluster between a (Restart kept) false) b apart goes
      (entry_stands cluster (whole between) a (Restart kept) Restarts (restart_may cluster (whole between) a kept) false)

  -- after steps that come back
  kept_apart : (a b : Actor) (kept : List Event) (s : Situation) → same_actor a b ≡ false → CanAllGoOn cluster s a kept → GoesOn cluster s b
      → IsApart cluster s (with_kept cluster s a kept) b × GoesOn cluster (with_kept cluster s a kept) b
  kept_apart a b [] s apart can goes = (apart_itself cluster s b, goes)
  kept_apart a b (event ∷ kept) s apart can goes =
      let first : CanGoOn cluster (whole s) a (event_in s event) = can.0.0 in
      let stands = entry_stands cluster (whole s) a (event_in s event) first.act first.may true in
      let next : Situation = entered cluster s a event true in
      let rest = kept_apart a b kept next apart (others_go_on cluster s a event kept can) (goes_item cluster s (entry_of cluster s a event true) b apart goes stands) in (
        apart_on cluster s next (with_kept cluster next a kept) b (apart_item cluster s (entry_of cluster s a event true) b apart goes stands) rest.0,
        rest.1,
      )

  pub apart_reopened : (a b : Actor) (kept : List Event) → same_actor a b ≡ false → CanAllGoOn cluster s a kept → IsApart cluster s (reopened cluster s a kept) b
  apart_reopened a b kept apart can =
      apart_on cluster s between (reopened cluster s a kept) b first.0
      (apart_on cluster between (entered cluster between a (Restart (length kept)) false) (reopened cluster s a kept) b
      (restarted_apart between (length kept) a b apart first.1)
      (apart_stopped cluster (entered cluster between a (Restart (length kept)) false) (without a s.stopped) b
      (without_other b a apart s.stopped ∙ sym (ap (stopped_at b) (all_stopped cluster a true s kept)))))
    where
      between : Situation
      between = with_kept cluster s a kept

      first : IsApart cluster s between b × GoesOn cluster between b
      first = kept_apart a b kept s apart can (goes_on b)

-- ---- pasts

pub node_apart : (cluster : Cluster) (s next : Situation) (b : Actor) → IsApart cluster s next b → node_past cluster next b ≡ node_past cluster s b
node_apart cluster s next b is = same_past _ _ _ _ _ _ (ap acts_done is.untouched.deeds) is.untouched.payloads is.stop

pub store_apart : (cluster : Cluster) (s next : Situation) (b : Actor) → IsApart cluster s next b → store_past cluster next b ≡ store_past cluster s b
store_apart cluster s next b is =
    same_past _ _ _ _ _ _ (ap (λ deeds. messages_taken (taken_from deeds)) is.untouched.deeds) is.untouched.payloads (ap store_stops is.stop)
