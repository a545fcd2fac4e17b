-- Two steps of a turn, a whole turn, and all turns, one after another.
use Rattle.std.proofs.Common.{◌≡◌, ℕ, Bool, true, false, List, reverse, Option, None, Some, sym, ◌∙◌, ap, subst}
use Rattle.acc_stamp.specs.declared.stamps.TxnId.{TxnId}
use Rattle.acc_stamp.specs.declared.stamps.Ballot.{Ballot}
use Rattle.acc_ports.specs.declared.disk.Disk.{Ghosts}
use Rattle.acc_message.specs.declared.error.RunError.{RunError}
use Rattle.acc_message.specs.declared.item.Item.{Item}
use Rattle.acc_schedule.specs.Content.{Content}
use Rattle.acc_schedule.specs.declared.plan.Step.{Step}
use Rattle.acc_schedule.specs.declared.plan.Step.TheVariants.{Drain}
use Rattle.acc_schedule_runs.specs.Situations.{Situation}
use Rattle.acc_cluster.specs.declared.cluster.Cluster.{Cluster}
use Rattle.acc_cluster.specs.Stands.{StandsFor}
use Rattle.acc_cluster.specs.Steps.{IfLimit}
use Rattle.acc_heal_laws.specs.Stages.{Turn, newest_ballot}
use Rattle.acc_heal.specs.declared.seen.Seen.{Seen}
use Rattle.acc_heal.specs.Seen.{has_attempt, Tells, TellsOldest}
use Rattle.acc_heal.specs.Places.{Place, turn_in, recover_of, IsDue, TookDue, IsFirst, TookFirst, IsSecond, TookSecond, IsTurnOf, TookTurn, At, IsHealingAt, StandsIn, Leads, EndsWithin}
use Rattle.acc_heal.proofs.Turning.{Then, stands_next, leads_next, ends_next, weaker_leads, narrower_ends, narrower_stands, shown_is, first_is_due, drain_is_due, both_first, second_is_due, second_drain_is_due, both_second, turn_without, turn_once, ended_is_second, turn_twice, oldest_on}

same_turn : (one other : Turn) → Some one ≡ Some other → one ≡ other
same_turn one other e = cc

module _ {D : Type 0} (port : Ghosts D) (plan : Content) where
  -- what a cluster's items are, whatever situation it stands for
  abbrev pub Shows : Cluster D → List Item → Type 0
  Shows cluster items = (plan : Content) (s : Situation) → StandsFor port plan cluster s → items ≡ reverse s.own

  -- ---- the first recover and its drain

  module _ (number next : ℕ) (id : TxnId) (txn : ℕ) (step : Step) (step_is : step ≡ recover_of id txn) (old mid : Cluster D) where
    due_first : (place : Place) → IsFirst plan number id txn place → IsDue plan number step place
    due_first place f = subst (λ k. IsDue plan number k place) (sym step_is) (first_is_due plan number id txn place f)

    pub first_stands : StandsIn port plan old (IsFirst plan number id txn) → StandsIn port plan old (IsDue plan number step)
    first_stands standing = narrower_stands port plan old (IsDue plan number step) (IsFirst plan number id txn) due_first standing

    pub first_ends : (error : RunError) → IfLimit (EndsWithin port plan old (IsDue plan number step)) error → IfLimit (EndsWithin port plan old (IsFirst plan number id txn)) error
    first_ends = narrower_ends port plan old (IsDue plan number step) (IsFirst plan number id txn) due_first

    module _ (one : Leads port plan old mid (IsDue plan number step) (TookDue plan next)) where
      first_leads : Leads port plan old mid (IsFirst plan number id txn) (TookDue plan next)
      first_leads =
          weaker_leads port plan old mid (IsDue plan number step) (IsFirst plan number id txn) (TookDue plan next) (TookDue plan next) due_first (λ place now f t. t) one

      then_drain : Then port plan mid (IsFirst plan number id txn) (TookDue plan next) (IsDue plan next Drain)
      then_drain strictly between place now f t h = drain_is_due plan number id txn place now next f t

      pub first_drain_stands : StandsIn port plan old (IsFirst plan number id txn) → StandsIn port plan mid (IsDue plan next Drain)
      first_drain_stands = stands_next port plan old mid (IsFirst plan number id txn) (IsDue plan next Drain) (TookDue plan next) first_leads then_drain

      pub first_drain_ends : (error : RunError) → IfLimit (EndsWithin port plan mid (IsDue plan next Drain)) error
          → IfLimit (EndsWithin port plan old (IsFirst plan number id txn)) error
      first_drain_ends = ends_next port plan old mid (IsFirst plan number id txn) (IsDue plan next Drain) (TookDue plan next) first_leads then_drain

      pub first_taken : (new : Cluster D) (last : ℕ) (drawn : Option Ballot) (items : List Item) → drawn ≡ newest_ballot id (reverse items) → Shows mid items
          → Leads port plan mid new (IsDue plan next Drain) (TookDue plan last) → Leads port plan old new (IsFirst plan number id txn) (TookFirst plan last drawn)
      first_taken new last drawn items drawn_is shows two =
          leads_next port plan old mid (IsFirst plan number id txn) (IsDue plan next Drain) (TookDue plan next) first_leads then_drain new (TookDue plan last)
          (TookFirst plan last drawn) two
          (λ strictly between place now end f t h u.
          both_first plan number next last id txn drawn place now end f t
          (drawn_is ∙ ap (newest_ballot id) (shown_is port plan items strictly between mid now h shows)) u)

    -- ---- the second one

    due_second : (place : Place) → IsSecond number id txn place → IsDue plan number step place
    due_second place s = subst (λ k. IsDue plan number k place) (sym step_is) (second_is_due plan number id txn place s)

    pub second_stands : StandsIn port plan old (IsSecond number id txn) → StandsIn port plan old (IsDue plan number step)
    second_stands standing = narrower_stands port plan old (IsDue plan number step) (IsSecond number id txn) due_second standing

    pub second_ends : (error : RunError) → IfLimit (EndsWithin port plan old (IsDue plan number step)) error → IfLimit (EndsWithin port plan old (IsSecond number id txn)) error
    second_ends = narrower_ends port plan old (IsDue plan number step) (IsSecond number id txn) due_second

    module _ (one : Leads port plan old mid (IsDue plan number step) (TookDue plan next)) where
      second_leads : Leads port plan old mid (IsSecond number id txn) (TookDue plan next)
      second_leads =
          weaker_leads port plan old mid (IsDue plan number step) (IsSecond number id txn) (TookDue plan next) (TookDue plan next) due_second (λ place now s t. t) one

      then_second_drain : Then port plan mid (IsSecond number id txn) (TookDue plan next) (IsDue plan next Drain)
      then_second_drain strictly between place now s t h = second_drain_is_due plan number next id txn place now s t

      pub second_drain_stands : StandsIn port plan old (IsSecond number id txn) → StandsIn port plan mid (IsDue plan next Drain)
      second_drain_stands = stands_next port plan old mid (IsSecond number id txn) (IsDue plan next Drain) (TookDue plan next) second_leads then_second_drain

      pub second_drain_ends : (error : RunError) → IfLimit (EndsWithin port plan mid (IsDue plan next Drain)) error
          → IfLimit (EndsWithin port plan old (IsSecond number id txn)) error
      second_drain_ends = ends_next port plan old mid (IsSecond number id txn) (IsDue plan next Drain) (TookDue plan next) second_leads then_second_drain

      pub second_taken : (new : Cluster D) (last : ℕ) → Leads port plan mid new (IsDue plan next Drain) (TookDue plan last)
          → Leads port plan old new (IsSecond number id txn) (TookSecond last)
      second_taken new last two =
          leads_next port plan old mid (IsSecond number id txn) (IsDue plan next Drain) (TookDue plan next) second_leads then_second_drain new (TookDue plan last)
          (TookSecond last) two (λ strictly between place now end s t h u. both_second plan number next last id txn place now end s t u)

  -- ---- a whole turn

  module _ (number next : ℕ) (id : TxnId) (txn : ℕ) (seen : Seen) (old mid : Cluster D) where
    of_turn : (place : Place) → IsTurnOf plan number id txn seen place → IsFirst plan number id txn place
    of_turn place t = t.first

    of_id : (place : Place) → IsTurnOf plan number id txn seen place → (turn : Turn) → turn_in plan place ≡ Some turn → turn.id ≡ id
    of_id place t turn e =
        ap (λ (k : Turn). k.id) (same_turn turn (record { id = id; step = recover_of id txn; rest = t.first.rest }) (sym e ∙ t.first.turn_is))

    pub turn_stands : StandsIn port plan old (IsTurnOf plan number id txn seen) → StandsIn port plan old (IsFirst plan number id txn)
    turn_stands = narrower_stands port plan old (IsFirst plan number id txn) (IsTurnOf plan number id txn seen) of_turn

    pub turn_ends : (error : RunError) → IfLimit (EndsWithin port plan old (IsFirst plan number id txn)) error
        → IfLimit (EndsWithin port plan old (IsTurnOf plan number id txn seen)) error
    turn_ends = narrower_ends port plan old (IsFirst plan number id txn) (IsTurnOf plan number id txn seen) of_turn

    -- nothing was drawn
    pub turn_led_without : Leads port plan old mid (IsFirst plan number id txn) (TookFirst plan next None)
        → Leads port plan old mid (IsTurnOf plan number id txn seen) (TookTurn plan next seen)
    turn_led_without =
        weaker_leads port plan old mid (IsFirst plan number id txn) (IsTurnOf plan number id txn seen) (TookFirst plan next None) (TookTurn plan next seen) of_turn
        (λ place now t f. turn_without plan number next id txn seen place now t f)

    module _ (b : Ballot) (looked : Seen) (items : List Item) (shows : Shows mid items) (looks : TellsOldest seen (reverse items) → Tells looked (reverse items))
        (one : Leads port plan old mid (IsFirst plan number id txn) (TookFirst plan next (Some b))) where
      led : Leads port plan old mid (IsTurnOf plan number id txn seen) (TookFirst plan next (Some b))
      led =
          weaker_leads port plan old mid (IsFirst plan number id txn) (IsTurnOf plan number id txn seen) (TookFirst plan next (Some b)) (TookFirst plan next (Some b)) of_turn
          (λ place now t f. f) one

      -- the tables are those of all items now
      tells_now : (strictly : Bool) (between : At strictly) (place now : Place) → IsTurnOf plan number id txn seen place → TookFirst plan next (Some b) place now
          → IsHealingAt strictly port plan between mid now → Tells looked now.items
      tells_now strictly between place now t f h =
          let shown = shown_is port plan items strictly between mid now h shows in
          subst (Tells looked) shown
          (looks (subst (TellsOldest seen) (sym shown) (oldest_on plan seen f.later place.items now.items f.items_are t.tells)))

      pub turn_led_once : (ended : Bool) → ended ≡ has_attempt looked.ended.keys id b → ended ≡ false
          → Leads port plan old mid (IsTurnOf plan number id txn seen) (TookTurn plan next looked)
      turn_led_once ended told unended strictly between place t h =
          let l = led strictly between place t h in
          let tells = tells_now strictly between place l.0 t l.1 l.2 in
          (l.0, turn_once plan next id b looked place l.0 (of_id place t) l.1 tells (sym (tells.ended id b) ∙ sym told ∙ unended), l.2)

      module _ (ended : Bool) (told : ended ≡ has_attempt looked.ended.keys id b) (is : ended ≡ true) where
        then_second : Then port plan mid (IsTurnOf plan number id txn seen) (TookFirst plan next (Some b)) (IsSecond next id txn)
        then_second strictly between place now t f h =
            let tells = tells_now strictly between place now t f h in
            ended_is_second plan number next id txn b place now t.first f (sym (tells.ended id b) ∙ sym told ∙ is)

        pub turn_second_stands : StandsIn port plan old (IsTurnOf plan number id txn seen) → StandsIn port plan mid (IsSecond next id txn)
        turn_second_stands = stands_next port plan old mid (IsTurnOf plan number id txn seen) (IsSecond next id txn) (TookFirst plan next (Some b)) led then_second

        pub turn_second_ends : (error : RunError) → IfLimit (EndsWithin port plan mid (IsSecond next id txn)) error
            → IfLimit (EndsWithin port plan old (IsTurnOf plan number id txn seen)) error
        turn_second_ends = ends_next port plan old mid (IsTurnOf plan number id txn seen) (IsSecond next id txn) (TookFirst plan next (Some b)) led then_second

        pub turn_led_twice : (new : Cluster D) (last : ℕ) → Leads port plan mid new (IsSecond next id txn) (TookSecond last)
            → Leads port plan old new (IsTurnOf plan number id txn seen) (TookTurn plan last looked)
        turn_led_twice new last two =
            leads_next port plan old mid (IsTurnOf plan number id txn seen) (IsSecond next id txn) (TookFirst plan next (Some b)) led then_second new (TookSecond last)
            (TookTurn plan last looked) two
            (λ strictly between place now end t f h s.
            let tells = tells_now strictly between place now t f h in
            turn_twice plan next last id b looked place now end (of_id place t) f tells (sym (tells.ended id b) ∙ sym told ∙ is) s)
