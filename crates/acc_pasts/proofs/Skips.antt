-- When a step of a schedule is passed over, computed from its tests; and what it takes where it isn't.
use Rattle.std.proofs.Common.{◌≡◌, ℕ, ◌+◌, nat_lt, Bool, true, false, not, ◌&&◌, length, Option, None, Some, refl, sym, ◌∙◌, ap, subst}
use Rattle.std.specs.List.{slice_get}
use Rattle.std.proofs.lemmas.Bool.{and_parts, not-false, not-true}
use Rattle.acc_base.specs.Faults.{or_else}
use Rattle.acc_stamp.specs.declared.stamps.TxnId.{TxnId}
use Rattle.acc_stamp.specs.declared.actors.Actor.{Actor}
use Rattle.acc_stamp.specs.Actor.{actor_of}
use Rattle.acc_topology.specs.Sets.{is_among}
use Rattle.acc_txn.specs.declared.parts.BodyParts.{BodyParts}
use Rattle.acc_message.specs.declared.message.Message.{Message}
use Rattle.acc_message.specs.declared.entry.Event.TheVariants.{Begin as BeginEvent, Recover as RecoverEvent, Slow as SlowEvent, Message as MessageEvent}
use Rattle.acc_message.specs.declared.item.Skip.{Skip}
use Rattle.acc_message.specs.declared.item.Skip.TheVariants.{NoMessage, Down as IsDown, Begun, Unknown}
use Rattle.acc_message.specs.Fields.{to_of}
use Rattle.acc_message.specs.Items.{sent_of, message_at, is_begun, id_of_txn}
use Rattle.acc_message.specs.NodeRules.{Begins, Recovers, Slows, Takes}
use Rattle.acc_message.specs.Run.{Cluster, EachStands, is_down}
use Rattle.acc_actor_laws.proofs.Standing.{not_none}
use Rattle.acc_safety.proofs.BegunFacts.{WasBegun, begun_has}
use Rattle.acc_run_laws.specs.Asks.{home_of_txn, receiver, skip_if, slow_skip}
use Rattle.acc_run_laws.specs.AskLaws.{HasTxn}
use Rattle.acc_run_laws.proofs.AskFacts.{skip_if-none}
use Rattle.acc_schedule_runs.specs.Situations.{Situation, whole, receiver_in, is_through, waits}
use Rattle.acc_schedule_runs.specs.Moves.{event_in, down_skip, begin_skip, recover_skip, slowing_skip, message_skip, deliver_skip}
use Rattle.acc_pasts.specs.Entries.{MayTake}
use Rattle.acc_pasts.proofs.Situations.{message_whole}
use Rattle.acc_pasts.proofs.Standing.{begin_may, recover_may, slow_may, slow_has_id, deliver_may, message_there}

-- ---- from the tests

module _ (cluster : Cluster) (s : Situation) where
  pub begin_skip_is : (txn : ℕ) (down begun : Bool) → is_down (home_of_txn cluster txn) (whole s) ≡ down → is_begun (whole s) txn ≡ begun
      → begin_skip cluster s txn ≡ or_else (skip_if down (IsDown (home_of_txn cluster txn))) (skip_if begun (Begun txn))
  begin_skip_is txn down begun d b =
      ap (λ t. or_else (skip_if t (IsDown (home_of_txn cluster txn))) (skip_if (is_begun (whole s) txn) (Begun txn))) d
      ∙ ap (λ t. or_else (skip_if down (IsDown (home_of_txn cluster txn))) (skip_if t (Begun txn))) b

  pub recover_skip_is : (txn node : ℕ) (down begun : Bool) → is_down (actor_of node 0) (whole s) ≡ down → is_begun (whole s) txn ≡ begun
      → recover_skip s txn node ≡ or_else (skip_if down (IsDown (actor_of node 0))) (skip_if (not begun) (Unknown txn))
  recover_skip_is txn node down begun d b =
      ap (λ t. or_else (skip_if t (IsDown (actor_of node 0))) (skip_if (not (is_begun (whole s) txn)) (Unknown txn))) d
      ∙ ap (λ t. or_else (skip_if down (IsDown (actor_of node 0))) (skip_if (not t) (Unknown txn))) b

  pub slowing_skip_is : (txn : ℕ) (down : Bool) (skip : Option Skip) → is_down (home_of_txn cluster txn) (whole s) ≡ down
      → slow_skip cluster (whole s) txn (id_of_txn (whole s) txn) ≡ skip
      → slowing_skip cluster s txn ≡ or_else (skip_if down (IsDown (home_of_txn cluster txn))) skip
  slowing_skip_is txn down skip d is =
      ap (λ t. or_else (skip_if t (IsDown (home_of_txn cluster txn))) (slow_skip cluster (whole s) txn (id_of_txn (whole s) txn))) d
      ∙ ap (or_else (skip_if down (IsDown (home_of_txn cluster txn)))) is

  pub message_skip_is : (message : ℕ) (sent : Bool) → nat_lt message (length (sent_of s.own)) ≡ sent
      → message_skip s message ≡ skip_if (not sent) (NoMessage message (length (sent_of s.own)))
  message_skip_is message sent is = ap (λ t. skip_if (not t) (NoMessage message (length (sent_of s.own)))) is

  pub deliver_skip_is : (message : ℕ) (sent down : Bool) → nat_lt message (length (sent_of s.own)) ≡ sent
      → is_down (receiver_in s message) (whole s) ≡ down
      → deliver_skip s message ≡ or_else (skip_if (not sent) (NoMessage message (length (sent_of s.own)))) (skip_if down (IsDown (receiver_in s message)))
  deliver_skip_is message sent down is d =
      ap (λ o. or_else o (skip_if (is_down (receiver_in s message) (whole s)) (IsDown (receiver_in s message)))) (message_skip_is message sent is)
      ∙ ap (λ t. or_else (skip_if (not sent) (NoMessage message (length (sent_of s.own)))) (skip_if t (IsDown (receiver_in s message)))) d

-- ---- what isn't passed over

or_else-none : (o other : Option Skip) → or_else o other ≡ None → (o ≡ None) × (other ≡ None)
or_else-none None other e = (refl, e)
or_else-none (Some cause) other e = absurd (not_none cause (sym e))

up_unless : (s : Situation) (a : Actor) → down_skip s a ≡ None → is_down a (whole s) ≡ false
up_unless s a none = skip_if-none (is_down a (whole s)) (IsDown a) none

module _ (cluster : Cluster) (s : Situation) where
  pub begin_goes : (txn : ℕ) (has : HasTxn cluster txn) → begin_skip cluster s txn ≡ None
      → (is_down (home_of_txn cluster txn) (whole s) ≡ false) × (is_begun (whole s) txn ≡ false)
      × MayTake cluster (whole s) (home_of_txn cluster txn) (event_in s (BeginEvent txn)) (Begins txn has.body)
  begin_goes txn has none =
      let parts = or_else-none (down_skip s (home_of_txn cluster txn)) (skip_if (is_begun (whole s) txn) (Begun txn)) none in
      let fresh = skip_if-none (is_begun (whole s) txn) (Begun txn) parts.1 in
      (up_unless s (home_of_txn cluster txn) parts.0, fresh, begin_may cluster (whole s) txn has fresh)

  pub recover_goes : (txn node : ℕ) → EachStands cluster (whole s) → is_among cluster.layout.nodes node ≡ true → recover_skip s txn node ≡ None
      → (x : TxnId) × (body : BodyParts) × (is_down (actor_of node 0) (whole s) ≡ false) × (id_of_txn (whole s) txn ≡ Some x)
      × (slice_get cluster.bodies txn ≡ Some body) × MayTake cluster (whole s) (actor_of node 0) (event_in s (RecoverEvent txn)) (Recovers x body)
  recover_goes txn node stands among none =
      let parts = or_else-none (down_skip s (actor_of node 0)) (skip_if (not (is_begun (whole s) txn)) (Unknown txn)) none in
      let is = not-false (is_begun (whole s) txn) (skip_if-none (not (is_begun (whole s) txn)) (Unknown txn) parts.1) in
      let begun : WasBegun cluster (whole s) txn = begun_has cluster (whole s) txn stands is in (
        begun.id,
        begun.body,
        up_unless s (actor_of node 0) parts.0,
        begun.id_is,
        begun.body_is,
        recover_may cluster (whole s) txn node begun.id begun.body among begun.id_is begun.body_is,
      )

  pub slow_goes : (txn : ℕ) → EachStands cluster (whole s) → slowing_skip cluster s txn ≡ None
      → (x : TxnId) × (is_down (home_of_txn cluster txn) (whole s) ≡ false) × (id_of_txn (whole s) txn ≡ Some x)
      × MayTake cluster (whole s) (home_of_txn cluster txn) (event_in s (SlowEvent txn)) (Slows x)
  slow_goes txn stands none =
      let parts = or_else-none (down_skip s (home_of_txn cluster txn)) (slow_skip cluster (whole s) txn (id_of_txn (whole s) txn)) none in
      let found = slow_has_id cluster (whole s) txn parts.1 in (
        found.0,
        up_unless s (home_of_txn cluster txn) parts.0,
        found.1,
        slow_may cluster (whole s) txn found.0 stands found.1 (ap (slow_skip cluster (whole s) txn) (sym found.1) ∙ parts.1),
      )

  -- a message that was sent goes to its actor
  pub take_goes : (message : ℕ) (m : Message) → message_at s.own message ≡ Some m
      → (receiver_in s message ≡ to_of m) × MayTake cluster (whole s) (to_of m) (event_in s (MessageEvent message)) (Takes m)
  take_goes message m is =
      (ap receiver is, deliver_may cluster (whole s) (length (sent_of s.earlier) + message) m (message_whole s message ∙ is))

  pub sent_goes : (message : ℕ) → nat_lt message (length (sent_of s.own)) ≡ true
      → (m : Message) × (message_at s.own message ≡ Some m) × (receiver_in s message ≡ to_of m)
      × MayTake cluster (whole s) (receiver_in s message) (event_in s (MessageEvent message)) (Takes m)
  sent_goes message sent =
      let found = message_there s.own message sent in
      let goes = take_goes message found.0 found.1 in (
        found.0,
        found.1,
        goes.0,
        subst (λ a. MayTake cluster (whole s) a (event_in s (MessageEvent message)) (Takes found.0)) (sym goes.0) goes.1,
      )

  pub deliver_goes : (message : ℕ) → deliver_skip s message ≡ None
      → (m : Message) × (message_at s.own message ≡ Some m) × (receiver_in s message ≡ to_of m)
      × MayTake cluster (whole s) (receiver_in s message) (event_in s (MessageEvent message)) (Takes m)
  deliver_goes message none =
      let parts = or_else-none (message_skip s message) (down_skip s (receiver_in s message)) none in
      let sent = skip_if-none (not (nat_lt message (length (sent_of s.own)))) (NoMessage message (length (sent_of s.own))) parts.0 in
      sent_goes message (not-false (nat_lt message (length (sent_of s.own))) sent)

  pub deliver_up : (message : ℕ) → deliver_skip s message ≡ None → is_down (receiver_in s message) (whole s) ≡ false
  deliver_up message none = up_unless s (receiver_in s message) (or_else-none (message_skip s message) (down_skip s (receiver_in s message)) none).1

  -- what waits isn't passed over
  pub waiting_goes : (message : ℕ) → waits s message ≡ true
      → (nat_lt message (length (sent_of s.own)) ≡ true) × (is_down (receiver_in s message) (whole s) ≡ false)
  waiting_goes message waiting =
      let parts = and_parts (nat_lt message (length (sent_of s.own))) (not (is_through s message) && not (is_down (receiver_in s message) (whole s))) waiting in
      let later = and_parts (not (is_through s message)) (not (is_down (receiver_in s message) (whole s))) parts.1 in
      (parts.0, not-true (is_down (receiver_in s message) (whole s)) later.1)
