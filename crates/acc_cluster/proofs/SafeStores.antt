-- Stores in their slots stay safe in what they are asked for, with heights that are one more at most.
use Rattle.std.proofs.Common.{◌≡◌, ℕ, ◌+◌, ◌<◌, ◌≤◌, ◌^◌, max, Bool, true, false, IsTrue, is_some, List, [], ◌∷◌, Option, None, Some, Result, Ok, Err, IfOk, OnOk, sym, subst, arith}
use Rattle.acc_base.specs.declared.memory.OutOfMemory.{OutOfMemory}
use Rattle.acc_stamp.specs.declared.actors.Actor.{Actor}
use Rattle.acc_topology.specs.Layout.{Layout}
use Rattle.acc_ports.specs.declared.disk.Disk.{Ghosts}
use Rattle.acc_message.specs.declared.message.Message.{Message}
use Rattle.acc_message.specs.declared.entry.Emitted.{Emitted}
use Rattle.acc_message.specs.Fields.{top_of, to_of}
use Rattle.acc_message.specs.Taken.{body_in}
use Rattle.acc_message.specs.StoreRules.{replay}
use Rattle.acc_message.specs.VoteRule.{greatest_h}
use Rattle.acc_message_code.specs.Short.{IsShortMessage}
use Rattle.acc_store.proofs.Heights.{stays_low}
use Rattle.acc_payloads.specs.Texts.{has_text}
use Rattle.acc_payloads.specs.declared.stops.Restarted.{Restarted}
use Rattle.acc_payloads.specs.declared.stops.Restarted.TheVariants.{Up, Down}
use Rattle.acc_payloads.specs.Stops.{Stop, Past, some, kept_if, after_step, past_with}
use Rattle.acc_payloads.proofs.Left.{none_kept, none_after}
use Rattle.acc_schedule.specs.Content.{Content}
use Rattle.acc_durable_store.specs.declared.name.StoreName.{StoreName}
use Rattle.acc_durable_store.specs.declared.actor.StoreActor.{StoreActor}
use Rattle.acc_durable_store.specs.Actor as store
use Rattle.acc_actors.specs.Slots.{store_name}
use Rattle.acc_actors.specs.declared.slot.Slot.{Slot}
use Rattle.acc_actors.specs.declared.slot.Slot.TheVariants.{Store}
use Rattle.acc_cluster.specs.Safe.{most_opened, StoreIsSafe, IsSafe, MayBeTested}

module _ (layout : Layout) (most : ℕ) (own : Actor) where
  abbrev IsLowIn : ℕ → Past Message → Type 0
  IsLowIn height past = greatest_h own (replay layout own past.acts) ≤ height

  low_message : (past : Past Message) (m : Message) → top_of m ≤ most → IsLowIn most past → greatest_h own (replay layout own (m ∷ past.acts)) ≤ most + 1
  low_message past m top h =
      let step : greatest_h own (replay layout own (m ∷ past.acts)) ≤ 1 + max (top_of m) (greatest_h own (replay layout own past.acts)) = stays_low layout own m past.acts in
      omega (arith, step, top, h)

  low_one : (past : Past Message) → IsLowIn most past → IsLowIn (most + 1) past
  low_one past h = omega (arith, h)

  pub low_step : (past : Past Message) (stop : Stop Message) (given : Option Emitted) → top_of stop.act ≤ most → IsLowIn most past
      → (keeps : Bool) → IsLowIn (most + 1) (kept_if keeps (after_step given past stop))
  low_step past stop (Some emitted) top h true = low_message past stop.act top h
  low_step past stop (Some emitted) top h false = low_message past stop.act top h
  low_step past stop None top h true = low_message past stop.act top h
  low_step past stop None top h false = low_one past h

  pub low_restart : (past : Past Message) (found : Restarted) → ((keeps : Bool) → IsLowIn most (kept_if keeps past)) → (keeps : Bool) → IsLowIn (most + 1) (kept_if keeps (store.past_after found past))
  low_restart past (Up kept) h keeps =
      subst (IsLowIn (most + 1)) (none_kept false keeps (past_with kept past) (none_after (some kept) past)) (low_one (kept_if (some kept) past) (h (some kept)))
  low_restart past Down h keeps = low_one (kept_if keeps past) (h keeps)

module _ {D : Type 0} (port : Ghosts D) (plan : Content) (layout : Layout) (layout_is : layout ≡ plan.topology) (a : Actor) (slot : Slot D)
    (t : StoreActor D) (is : slot ≡ Store t) (new : StoreActor D) where
  there : (most : ℕ) → IsSafe port plan most a slot → StoreIsSafe port plan most a t
  there most h = subst (λ (x : Slot D). IsSafe port plan most a x) is h

  pub may_take : (m : Message) → top_of m ≤ most_opened → a ≡ to_of m → IsShortMessage m → IsTrue (is_some (body_in m)) → (has_text m ≡ true → plan.version ≡ 2)
      → MayBeTested port plan a slot → store.MayTake port layout t [] m
  may_take m top goes short brings texts may =
      let h : StoreIsSafe port plan may.most a t = there may.most may.safe in
      let low = h.low false in
      let high : top_of m < 2 ^ 62 = omega (arith, top) in
      subst (λ (l : Layout). store.MayTake port l t [] m) (sym layout_is) (record {
        name = store_name plan a;
        past = h.past;
        stands = h.stands;
        short = short;
        goes_here = record { goes_to = sym goes; brings = brings };
        top = high;
        greatest = omega (arith, low, may.low);
        texts = texts;
      })

  pub takes_on : (number : ℕ) (m : Message) → top_of m ≤ most_opened → (r : Result (Option Emitted) OutOfMemory)
      → IfOk r (λ given. (name : StoreName) (past : Past Message) → store.StandsFor port layout name past t → store.Steps port layout name past (store.message_stop number m) new given)
      → OnOk r ((most : ℕ) → most_opened ≤ most → IsSafe port plan most a slot → IsSafe port plan (most + 1) a (Store new))
  takes_on number m top (Err e) ok = tt
  takes_on number m top (Ok given) ok = λ most least safe.
      let h : StoreIsSafe port plan most a t = there most safe in
      let told =
      subst (λ (l : Layout). (name : StoreName) (past : Past Message) → store.StandsFor port l name past t → store.Steps port l name past (store.message_stop number m) new given)
      layout_is ok (store_name plan a) h.past h.stands in
      let low : top_of m ≤ most = omega (arith, top, least) in
      record {
        past = after_step given h.past (store.message_stop number m);
        stands = told.stands;
        low = low_step plan.topology most a h.past (store.message_stop number m) given low (h.low false);
      }

  pub restarts_on : (r : Result Restarted OutOfMemory)
      → IfOk r (λ found. (name : StoreName) (past : Past Message) → store.StandsFor port layout name past t
      → store.KeptIn layout name.actor past found × store.StandsFor port layout name (store.past_after found past) new)
      → OnOk r ((most : ℕ) → most_opened ≤ most → IsSafe port plan most a slot → IsSafe port plan (most + 1) a (Store new))
  restarts_on (Err e) ok = tt
  restarts_on (Ok found) ok = λ most least safe.
      let h : StoreIsSafe port plan most a t = there most safe in
      let told =
      subst (λ (l : Layout). (name : StoreName) (past : Past Message) → store.StandsFor port l name past t
      → store.KeptIn l name.actor past found × store.StandsFor port l name (store.past_after found past) new)
      layout_is ok (store_name plan a) h.past h.stands in
      record { past = store.past_after found h.past; stands = told.1; low = low_restart plan.topology most a h.past found h.low }

  pub arms_on : ((layout : Layout) (name : StoreName) (past : Past Message) (staged : List (Stop Message)) → store.IsStaging port layout name past staged t
      → store.IsStaging port layout name past staged new)
      → (most : ℕ) → IsSafe port plan most a slot → IsSafe port plan most a (Store new)
  arms_on stands most safe =
      let h : StoreIsSafe port plan most a t = there most safe in
      record { past = h.past; stands = stands plan.topology (store_name plan a) h.past [] h.stands; low = h.low }
