-- A message is dropped, or the step is passed over.
use Rattle.std.proofs.Common.{◌≡◌, ℕ, ◌<◌, ◌≤◌, nat_lt, Bool, true, false, List, ◌∷◌, Option, None, Some, Result, IfErr, IsErrAnd, length, refl, sym, ◌∙◌, ap, subst, inl, arith}
use Rattle.std.proofs.lemmas.Bool.Decides.{nat_tests}
use Rattle.acc_stamp.specs.declared.actors.Actor.{Actor}
use Rattle.acc_ports.specs.declared.disk.Disk.{Ghosts}
use Rattle.acc_message.specs.declared.entry.Event.{Event}
use Rattle.acc_message.specs.declared.error.Which.{Which}
use Rattle.acc_message.specs.declared.error.Which.TheVariants.{Items}
use Rattle.acc_message.specs.declared.error.RunError.{RunError}
use Rattle.acc_message.specs.declared.error.RunError.TheVariants.{Limit}
use Rattle.acc_message.specs.declared.item.Item.TheVariants.{Skipped}
use Rattle.acc_message.specs.declared.item.Skip.{Skip}
use Rattle.acc_message.specs.declared.item.Skip.TheVariants.{NoMessage}
use Rattle.acc_message.specs.Items.{sent_of}
use Rattle.acc_schedule.specs.Content.{Content}
use Rattle.acc_message.specs.Items.{message_at}
use Rattle.acc_message.specs.Run.{is_down}
use Rattle.acc_actor_laws.proofs.Standing.{not_none}
use Rattle.acc_pasts.proofs.Standing.{message_there}
use Rattle.acc_pasts.proofs.Skips.{message_skip_is, deliver_skip_is}
use Rattle.acc_pasts.proofs.Sound.{sound_dropped}
use Rattle.acc_schedule_runs.specs.Situations.{Situation, whole, receiver_in, stopped_at}
use Rattle.acc_schedule_runs.specs.Moves.{message_skip, deliver_skip, dropped_unless}
use Rattle.acc_schedule_runs.specs.Schedules.{cluster_of}
use Rattle.acc_schedule_runs.specs.Limits.{EndsAt, most_items}
use Rattle.acc_history.specs.Stands as history
use Rattle.acc_actors.specs.declared.slot.Slot.{Slot}
use Rattle.acc_actors.proofs.Apart.{IsApart}
use Rattle.acc_actors.proofs.Pasts.{stops_same}
use Rattle.acc_cluster.specs.declared.cluster.Cluster.{Cluster}
use Rattle.acc_cluster.specs.Stands.{StandsFor, AreActors, AreStrict}
use Rattle.acc_cluster.specs.Limits.{StopsAt}
use Rattle.acc_cluster.specs.Steps.{IfLimit}
use Rattle.acc_cluster.proofs.Limited.{stops_here}
use Rattle.acc_cluster.specs.Tried.{scheduled, HasStepped, HasChanged}
use Rattle.acc_cluster.proofs.Hits.{exit_is, full_at}
use Rattle.acc_cluster.proofs.Written.{actors_same, strict_same}

pub less_is : (n k : ℕ) → n < k → nat_lt n k ≡ true
less_is n k less = grind (arith, nat_tests)

not_less_is : (n k : ℕ) → k ≤ n → nat_lt n k ≡ false
not_less_is n k more = grind (arith, nat_tests)

-- both counts are of the same messages
pub few_more : {k : ℕ} (one other message : ℕ) → one ≡ k → other ≡ k → one ≤ message → other ≤ message
few_more one other message a b more = omega (arith, a, b, more)

-- so few were sent
pub none_sent : (plan : Content) (s : Situation) (message sent : ℕ) → sent ≡ length (sent_of s.own) → sent ≤ message → message_skip s message ≡ Some (NoMessage message sent)
none_sent plan s message sent is more =
    message_skip_is (cluster_of plan) s message false (not_less_is message (length (sent_of s.own)) (subst (λ n. n ≤ message) is more)) ∙ ap (λ n. Some (NoMessage message n)) (sym is)

-- no message has the number
pub nothing_sent : (plan : Content) (s : Situation) (message sent : ℕ) → sent ≡ length (sent_of s.own) → message_at s.own message ≡ None → deliver_skip s message ≡ Some (NoMessage message sent)
nothing_sent plan s message sent is none =
    deliver_skip_is (cluster_of plan) s message false (is_down (receiver_in s message) (whole s)) (not_sent (nat_lt message (length (sent_of s.own))) refl) refl ∙ ap (λ n. Some (NoMessage message n)) (sym is)
  where
    not_sent : (t : Bool) → nat_lt message (length (sent_of s.own)) ≡ t → nat_lt message (length (sent_of s.own)) ≡ false
    not_sent true e = let found = message_there s.own message e in absurd (not_none found.0 (sym none ∙ found.1))
    not_sent false e = e

module _ {D : Type 0} (port : Ghosts D)
    (plan : Content) (number message : ℕ) (old new : Cluster D) (s : Situation) where
  pub changed_dropped : StandsFor port plan old s → message < length (sent_of s.own) → history.StandsFor new.history (history.with_dropped message s)
      → history.IsWeighed new.history (history.with_dropped message s) → new.slots.items ≡ old.slots.items
      → HasChanged port plan old new s (dropped_unless (message_skip s message) number s message)
  changed_dropped h less stands weighed same =
      subst (λ (skip : Option Skip). HasChanged port plan old new s (dropped_unless skip number s message))
      (sym (message_skip_is (cluster_of plan) s message true (less_is message (length (sent_of s.own)) less)))
      (record {
        stands = record {
          sound = sound_dropped (cluster_of plan) s message h.sound;
          room = h.room;
          past = record { stands = stands; weighed = weighed; within = h.past.within };
          actors = actors_same plan new.slots.items s (history.with_dropped message s) apart port (subst (λ (slots : List (Slot D)). AreActors port plan slots s) (sym same) h.actors);
        };
        rose = λ b known. inl refl;
        strictly = λ disks are.
            strict_same plan new.slots.items s (history.with_dropped message s) apart port disks
            (subst (λ (slots : List (Slot D)). AreStrict port plan slots s disks) (sym same) are);
      })
    where
      apart : (b : Actor) → IsApart (cluster_of plan) s (history.with_dropped message s) b
      apart b = record { untouched = record { deeds = refl; payloads = refl; downs = refl; down = refl; ends = refl }; stop = stops_same (cluster_of plan) b (stopped_at b s.stopped) s (message ∷ s.dropped) s.stopped true; downs = refl }

  pub changed_skipped : (cause : Skip) (a : Actor) (event : Event) → message_skip s message ≡ Some cause
      → HasStepped port plan (scheduled (Some cause) number a event) old new s
      → HasChanged port plan old new s (dropped_unless (message_skip s message) number s message)
  changed_skipped cause a event is h =
      subst (λ (skip : Option Skip). HasChanged port plan old new s (dropped_unless skip number s message)) (sym is)
      (record { stands = h.stands; rose = h.rose; strictly = λ disks are. (h.strictly disks are).1 })

-- a limit ends the run before the skip
abbrev pub EndsDropped : {D : Type 0} → Ghosts D → Content → ℕ → ℕ → Cluster D → Which → ℕ → Type 0
EndsDropped port plan number message old which limit =
    (s : Situation) → StandsFor port plan old s
    → EndsAt (λ front. front ≡ (dropped_unless (message_skip s message) number s message).own) s.own which limit × StopsAt port plan old s.own s

-- no place for the skip
pub drop_refused : {D T : Type 0} (port : Ghosts D) (plan : Content) (number message sent : ℕ) (old : Cluster D) (r : Result T RunError) (e : RunError)
    → ((s : Situation) → history.StandsFor old.history s → sent ≡ length (sent_of s.own)) → sent ≤ message → IsErrAnd r (λ y. y ≡ e)
    → (e ≡ Limit Items most_items) × ((s : Situation) → history.StandsFor old.history s → most_items ≤ length s.own)
    → IfErr r (IfLimit (EndsDropped port plan number message old))
drop_refused port plan number message sent old r e sent_is more is told =
    exit_is r e (IfLimit (EndsDropped port plan number message old)) is (subst (IfLimit (EndsDropped port plan number message old)) (sym told.0) (λ s h. (
      subst (λ (skip : Option Skip). EndsAt (λ front. front ≡ (dropped_unless skip number s message).own) s.own Items most_items) (sym (none_sent plan s message sent (sent_is s h.past.stands) more))
          (full_at s (Skipped number (NoMessage message sent)) h.past.within (told.1 s h.past.stands)),
      stops_here port plan old s h,
    )))
