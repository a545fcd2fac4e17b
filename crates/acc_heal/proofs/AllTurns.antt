-- All turns, one transaction after another.
use Rattle.std.proofs.Common.{◌≡◌, ℕ, Bool, true, false, not, List, [], ◌∷◌, map, reverse, Some, sym, ◌∙◌, ap, subst}
use Rattle.std.specs.List.{slice_get}
use Rattle.std.specs.List.Sorted.{IsStrictlySortedBy}
use Rattle.std.specs.Map.{keys_of}
use Rattle.std.proofs.lemmas.List.{append-nil}
use Rattle.acc_stamp.specs.declared.stamps.TxnId.{TxnId}
use Rattle.acc_stamp.specs.Stamp.{id_cmp}
use Rattle.acc_ports.specs.declared.disk.Disk.{Ghosts}
use Rattle.acc_message.specs.declared.error.RunError.{RunError}
use Rattle.acc_message.specs.declared.error.RunError.TheVariants.{Limit, OutOfMemory}
use Rattle.acc_message.specs.declared.item.Item.{Item}
use Rattle.acc_message.specs.Items.{txn_of}
use Rattle.acc_message.specs.Run.{EachStands}
use Rattle.acc_report.specs.Known.{Numbers, number_at}
use Rattle.acc_schedule.specs.Content.{Content}
use Rattle.acc_schedule_runs.specs.Schedules.{cluster_of}
use Rattle.acc_cluster.specs.declared.cluster.Cluster.{Cluster}
use Rattle.acc_cluster.specs.Steps.{IfLimit}
use Rattle.acc_heal_laws.specs.Stages.{all_took_apply, next_turn}
use Rattle.acc_heal.specs.declared.seen.Seen.{Seen}
use Rattle.acc_heal.specs.Seen.{Tells, TellsOldest}
use Rattle.acc_heal.specs.Places.{Place, turn_in, recover_of, IsTurning, IsTurnOf, TookTurn, IsLeft, At, IsHealingAt, StandsIn, Leads, EndsWithin}
use Rattle.acc_heal.proofs.BegunFacts.{keys_are_begun, each_numbered}
use Rattle.acc_heal.proofs.Rounds.{Shows}
use Rattle.acc_heal.proofs.DueSteps.{past_is}
use Rattle.acc_heal.proofs.Turning.{stands_found, shown_is, passed_over, turn_comes, turn_taken}

module _ {D : Type 0} (port : Ghosts D) (plan : Content) where
  -- the items of a place are a run
  items_stand : (strictly : Bool) (between : At strictly) (cluster : Cluster D) (place : Place) → IsHealingAt strictly port plan between cluster place
      → EachStands (cluster_of plan) place.items
  items_stand strictly between cluster place h =
      subst (EachStands (cluster_of plan)) (past_is port plan strictly between cluster place h) (stands_found port plan strictly between cluster place h).sound.run.stands

  -- ---- before the first turn

  module _ (cluster : Cluster D) (number : ℕ) (items : List Item) (entries : Numbers) (seen : Seen) (shows : Shows port plan cluster items)
      (numbers : (x : TxnId) → number_at entries x ≡ txn_of (reverse items) x) (sorted : IsStrictlySortedBy id_cmp (keys_of entries)) (tells : Tells seen []) where
    all_left : (strictly : Bool) (between : At strictly) (place : Place) → IsTurning number place → IsHealingAt strictly port plan between cluster place
        → IsLeft plan number entries seen place
    all_left strictly between place before h =
        let here : (x : TxnId) → number_at entries x ≡ txn_of place.items x =
        λ x. numbers x ∙ ap (λ l. txn_of l x) (shown_is port plan items strictly between cluster place h shows) in
        let stand = items_stand strictly between cluster place h in
        record {
          number_is = before.0;
          ids = _;
          stage_is = before.1;
          same = ap (next_turn (cluster_of plan) place.items) (keys_are_begun (cluster_of plan) place.items entries stand sorted here);
          numbers = each_numbered (cluster_of plan) place.items entries stand sorted here;
          tells = record { later = place.items; oldest = []; items_are = sym (append-nil place.items); tells = tells };
        }

    pub all_stand : StandsIn port plan cluster (IsTurning number) → StandsIn port plan cluster (IsLeft plan number entries seen)
    all_stand standing =
        record {
          between = standing.between;
          place = standing.place;
          before = all_left false standing.between standing.place standing.before standing.healing;
          healing = standing.healing;
        }

    pub all_led : Leads port plan cluster cluster (IsTurning number) (λ place now. IsLeft plan number entries seen now)
    all_led strictly between place before h = (place, all_left strictly between place before h, h)

  -- ---- one transaction more

  module _ (number : ℕ) (id : TxnId) (txn : ℕ) (left : List (TxnId × ℕ)) (seen looked : Seen) (cluster : Cluster D) (items : List Item)
      (shows : Shows port plan cluster items) (looks : TellsOldest seen (reverse items) → Tells looked (reverse items)) (lacks : Bool)
      (lacks_is : (items : List Item) → Tells looked items → lacks ≡ not (all_took_apply (cluster_of plan) items id (slice_get plan.bodies txn))) where
    abbrev Here : Place → Type 0
    Here place = IsLeft plan number ((id, txn) ∷ left) seen place

    tells_here : (strictly : Bool) (between : At strictly) (place : Place) → Here place → IsHealingAt strictly port plan between cluster place → Tells looked place.items
    tells_here strictly between place is h =
        let shown = shown_is port plan items strictly between cluster place h shows in
        subst (Tells looked) shown (looks (subst (TellsOldest seen) (sym shown) is.tells))

    -- a turn that is passed over
    module _ (none : lacks ≡ false) where
      passed : (strictly : Bool) (between : At strictly) (place : Place) → Here place → IsHealingAt strictly port plan between cluster place
          → IsLeft plan number left looked place
      passed strictly between place is h =
          let tells = tells_here strictly between place is h in
          passed_over plan number id txn left seen looked place is tells (sym (lacks_is place.items tells) ∙ none)

      pub passed_stands : StandsIn port plan cluster Here → StandsIn port plan cluster (IsLeft plan number left looked)
      passed_stands standing =
          record {
            between = standing.between;
            place = standing.place;
            before = passed false standing.between standing.place standing.before standing.healing;
            healing = standing.healing;
          }

      pub passed_leads : (c0 : Cluster D) (Before : Place → Type 0) → Leads port plan c0 cluster Before (λ place now. Here now)
          → Leads port plan c0 cluster Before (λ place now. IsLeft plan number left looked now)
      passed_leads c0 Before leads strictly between place before h =
          let led = leads strictly between place before h in (led.0, passed strictly between led.0 led.1 led.2, led.2)

    -- one that is taken
    module _ (some : lacks ≡ true) where
      comes : (strictly : Bool) (between : At strictly) (place : Place) → Here place → IsHealingAt strictly port plan between cluster place
          → (turn_in plan place ≡ Some (record { id = id; step = recover_of id txn; rest = map (λ (one : TxnId × ℕ). one.0) left }))
          × IsTurnOf plan number id txn looked place
      comes strictly between place is h =
          let tells = tells_here strictly between place is h in
          turn_comes plan number id txn left seen looked place is tells (sym (lacks_is place.items tells) ∙ some)

      pub turn_is_next : StandsIn port plan cluster Here → StandsIn port plan cluster (IsTurnOf plan number id txn looked)
      turn_is_next standing =
          record {
            between = standing.between;
            place = standing.place;
            before = (comes false standing.between standing.place standing.before standing.healing).1;
            healing = standing.healing;
          }

      pub turn_ends_all : (c0 : Cluster D) (Before : Place → Type 0) → Leads port plan c0 cluster Before (λ place now. Here now) → (error : RunError)
          → IfLimit (EndsWithin port plan cluster (IsTurnOf plan number id txn looked)) error → IfLimit (EndsWithin port plan c0 Before) error
      turn_ends_all c0 Before leads OutOfMemory ends = tt
      turn_ends_all c0 Before leads (Limit which most) ends = λ strictly between place before h.
          let led = leads strictly between place before h in ends strictly between led.0 (comes strictly between led.0 led.1 led.2).1 led.2

      module _ (new : Cluster D) (next : ℕ) (now_seen : Seen) (turn : Leads port plan cluster new (IsTurnOf plan number id txn looked) (TookTurn plan next now_seen)) where
        pub turn_left : (strictly : Bool) (between : At strictly) (place : Place) → Here place → IsHealingAt strictly port plan between cluster place
            → (now : Place) × IsLeft plan next left now_seen now × IsHealingAt strictly port plan between new now
        turn_left strictly between place is h =
            let k = comes strictly between place is h in
            let led = turn strictly between place k.1 h in
            (led.0, turn_taken plan next id txn left now_seen place led.0 k.0 is.numbers.1 led.1, led.2)

        pub turn_left_stands : StandsIn port plan cluster Here → StandsIn port plan new (IsLeft plan next left now_seen)
        turn_left_stands standing =
            let led = turn_left false standing.between standing.place standing.before standing.healing in
            record { between = standing.between; place = led.0; before = led.1; healing = led.2 }

        pub turn_left_leads : (c0 : Cluster D) (Before : Place → Type 0) → Leads port plan c0 cluster Before (λ place now. Here now)
            → Leads port plan c0 new Before (λ place now. IsLeft plan next left now_seen now)
        turn_left_leads c0 Before leads strictly between place before h =
            let led = leads strictly between place before h in turn_left strictly between led.0 led.1 led.2
