-- Actors in their slots stay safe in what they are asked for, with heights that are one more at most.
use Rattle.std.proofs.Common.{◌≡◌, ℕ, ◌+◌, ◌≤◌, Bool, true, false, List, [], ◌∷◌, Option, None, Some, Result, Ok, Err, IfOk, OnOk, OnErr, sym, subst, arith}
use Rattle.acc_base.specs.declared.memory.OutOfMemory.{OutOfMemory}
use Rattle.acc_stamp.specs.declared.actors.Actor.{Actor}
use Rattle.acc_topology.specs.Layout.{Layout}
use Rattle.acc_ports.specs.declared.disk.Disk.{Ghosts}
use Rattle.acc_message.specs.declared.message.Message.{Message}
use Rattle.acc_message.specs.declared.entry.Emitted.{Emitted}
use Rattle.acc_message.specs.Fields.{top_of}
use Rattle.acc_message.specs.NodeRules.{Act, Slows, Takes, Restarts, clock_of}
use Rattle.acc_node.specs.declared.error.NodeError.{NodeError}
use Rattle.acc_payloads.specs.declared.stops.Restarted.{Restarted}
use Rattle.acc_payloads.specs.declared.stops.Restarted.TheVariants.{Up, Down}
use Rattle.acc_payloads.specs.Stops.{Stop, Past, some, kept_if, after_step, with_act, past_with}
use Rattle.acc_payloads.proofs.Left.{none_kept, none_after}
use Rattle.acc_run_laws.specs.Heights.{IsLowClock}
use Rattle.acc_run_laws.proofs.Clocks.{HasLowTop, low_after, low_clock_more}
use Rattle.acc_schedule.specs.Content.{Content}
use Rattle.acc_durable_node.specs.declared.name.NodeName.{NodeName}
use Rattle.acc_durable_node.specs.Names.{deeds_by, emits_by, id_begun}
use Rattle.acc_durable_node.specs.declared.actor.NodeActor.{NodeActor}
use Rattle.acc_durable_node.specs.declared.state.NodeState.{NodeState}
use Rattle.acc_durable_node.specs.declared.state.NodeState.TheVariants.{Open, Shut}
use Rattle.acc_durable_node.specs.Actor as node
use Rattle.acc_actors.specs.declared.slot.Slot.{Slot}
use Rattle.acc_actors.specs.declared.slot.Slot.TheVariants.{Empty, Node, Store}
use Rattle.acc_cluster.specs.Safe.{most_opened, NodeIsSafe, IsSafe, MayBeTested}

one_more : (most : ℕ) → most ≤ most + 1
one_more most = omega arith

le_on : {a b c : ℕ} → a ≤ b → b ≤ c → a ≤ c
le_on p q = omega (arith, p, q)

pub safe_more : {D : Type 0} (port : Ghosts D) (plan : Content) (most more : ℕ) (a : Actor) (slot : Slot D) → most ≤ more → IsSafe port plan most a slot → IsSafe port plan more a slot
safe_more port plan most more a Empty le h = tt
safe_more port plan most more a (Node n) le h =
    record {
      name = h.name;
      past = h.past;
      stands = h.stands;
      low = λ keeps. low_clock_more most more (clock_of h.name.number h.name.start (deeds_by plan.topology h.name (kept_if keeps h.past).acts)) le (h.low keeps);
    }
safe_more port plan most more a (Store t) le h = record { past = h.past; stands = h.stands; low = λ keeps. le_on (h.low keeps) le }

-- ---- nodes

module _ (layout : Layout) (most : ℕ) (name : NodeName) where
  abbrev IsLowIn : ℕ → Past Act → Type 0
  IsLowIn height past = IsLowClock height (clock_of name.number name.start (deeds_by layout name past.acts))

  low_act : (acts : List Act) (act : Act) → HasLowTop most act → IsLowClock most (clock_of name.number name.start (deeds_by layout name acts))
      → IsLowClock (most + 1) (clock_of name.number name.start (deeds_by layout name (act ∷ acts)))
  low_act acts act top h =
      low_after name.number name.start most act (emits_by layout name acts act) (deeds_by layout name acts) top h

  low_one : (past : Past Act) → IsLowIn most past → IsLowIn (most + 1) past
  low_one past h = low_clock_more most (most + 1) (clock_of name.number name.start (deeds_by layout name past.acts)) (one_more most) h

  -- a step, which its disk may stop
  pub low_step : (past : Past Act) (stop : Stop Act) (given : Option Emitted) → HasLowTop most stop.act → IsLowIn most past
      → (keeps : Bool) → IsLowIn (most + 1) (kept_if keeps (after_step given past stop))
  low_step past stop (Some emitted) top h true = low_act past.acts stop.act top h
  low_step past stop (Some emitted) top h false = low_act past.acts stop.act top h
  low_step past stop None top h true = low_act past.acts stop.act top h
  low_step past stop None top h false = low_one past h

  -- an act that isn't journalled
  pub low_took : (past : Past Act) (act : Act) → past.stopped ≡ [] → HasLowTop most act → IsLowIn most past → (keeps : Bool) → IsLowIn (most + 1) (kept_if keeps (with_act act past))
  low_took past act none top h keeps =
      subst (IsLowIn (most + 1)) (none_kept false keeps (with_act act past) none) (low_act past.acts act top h)

  pub low_restart : (past : Past Act) (found : Restarted) → ((keeps : Bool) → IsLowIn most (kept_if keeps past)) → (keeps : Bool) → IsLowIn (most + 1) (kept_if keeps (node.past_after found past))
  low_restart past (Up kept) h keeps = low_took (past_with kept past) Restarts (none_after (some kept) past) tt (h (some kept)) keeps
  low_restart past Down h keeps = low_one (kept_if keeps past) (h keeps)

up_none : {D : Type 0} (layout : Layout) (name : NodeName) (past : Past Act) (state : NodeState D) → node.IsUpIn layout name past state → past.stopped ≡ []
up_none layout name past (Open n) is_up = is_up.none_stopped
up_none layout name past (Shut disk) is_up = absurd is_up

module _ {D : Type 0} (port : Ghosts D) (plan : Content) (layout : Layout) (layout_is : layout ≡ plan.topology) (a : Actor) (slot : Slot D) where
  module _ (n : NodeActor D) (is : slot ≡ Node n) (new : NodeActor D) where
    there : (most : ℕ) → IsSafe port plan most a slot → NodeIsSafe port plan most n
    there most h = subst (λ (x : Slot D). IsSafe port plan most a x) is h

    -- what a node that is up may be asked for
    pub may_recover : MayBeTested port plan a slot → node.MayRecover port layout n
    may_recover may =
        let h : NodeIsSafe port plan may.most n = there may.most may.safe in
        let low = h.low false in
        subst (λ (l : Layout). node.MayRecover port l n) (sym layout_is) (record {
          name = h.name;
          past = h.past;
          stands = h.stands;
          low = record { drawn = omega (arith, low.drawn, may.low); seen = omega (arith, low.seen, may.low) };
        })

    pub may_begin : (txn : ℕ)
        → ((layout : Layout) (name : NodeName) (past : Past Act) → node.StandsFor port layout name past n → id_begun layout name txn past.acts ≡ None)
        → MayBeTested port plan a slot → node.MayBegin port layout n txn
    may_begin txn fresh may =
        let h : NodeIsSafe port plan may.most n = there may.most may.safe in
        let low = h.low false in
        subst (λ (l : Layout). node.MayBegin port l n txn) (sym layout_is) (record {
          name = h.name;
          past = h.past;
          stands = h.stands;
          low = record { drawn = omega (arith, low.drawn, may.low); seen = omega (arith, low.seen, may.low) };
          fresh = fresh plan.topology h.name h.past h.stands;
        })

    pub steps_on : (stop : Layout → NodeName → Past Act → Stop Act) → ((most : ℕ) (name : NodeName) (past : Past Act) → HasLowTop most (stop plan.topology name past).act)
        → (r : Result (Option Emitted) OutOfMemory)
        → IfOk r (λ given. (name : NodeName) (past : Past Act) → node.StandsFor port layout name past n
        → node.Steps port layout name past (stop layout name past) new given)
        → OnOk r ((most : ℕ) → most_opened ≤ most → IsSafe port plan most a slot → IsSafe port plan (most + 1) a (Node new))
    steps_on stop top (Err e) ok = tt
    steps_on stop top (Ok given) ok = λ most least safe.
        let h : NodeIsSafe port plan most n = there most safe in
        let told =
        subst (λ (l : Layout). (name : NodeName) (past : Past Act) → node.StandsFor port l name past n
        → node.Steps port l name past (stop l name past) new given) layout_is ok h.name h.past h.stands in
        record {
          name = h.name;
          past = after_step given h.past (stop plan.topology h.name h.past);
          stands = told.stands;
          low = low_step plan.topology most h.name h.past (stop plan.topology h.name h.past) given (top most h.name h.past) (h.low false);
        }

    takes_safe : (most : ℕ) (act : Act) (emitted : Emitted) → HasLowTop most act → node.is_down n ≡ false → (h : NodeIsSafe port plan most n)
        → node.Takes port plan.topology h.name h.past act new emitted → NodeIsSafe port plan (most + 1) new
    takes_safe most act emitted top up h takes =
        record {
          name = h.name;
          past = with_act act h.past;
          stands = takes.stands;
          low = low_took plan.topology most h.name h.past act (up_none plan.topology h.name h.past n.state (h.stands.up up)) top (h.low false);
        }

    pub takes_on : (m : Message) (emitted : Emitted) → top_of m ≤ most_opened → node.is_down n ≡ false
        → ((name : NodeName) (past : Past Act) → node.StandsFor port layout name past n → node.Takes port layout name past (Takes m) new emitted)
        → (most : ℕ) → most_opened ≤ most → IsSafe port plan most a slot → IsSafe port plan (most + 1) a (Node new)
    takes_on m emitted top up ok most least safe =
        let h : NodeIsSafe port plan most n = there most safe in
        takes_safe most (Takes m) emitted (le_on top least) up h
        (subst (λ (l : Layout). (name : NodeName) (past : Past Act) → node.StandsFor port l name past n → node.Takes port l name past (Takes m) new emitted)
        layout_is ok h.name h.past h.stands)

    pub slows_on : (txn : ℕ) → node.is_down n ≡ false → (r : Result Emitted NodeError)
        → IfOk r (λ emitted. (name : NodeName) (past : Past Act) → node.StandsFor port layout name past n → node.HasSlowed port layout name past txn new emitted)
        → OnOk r ((most : ℕ) → most_opened ≤ most → IsSafe port plan most a slot → IsSafe port plan (most + 1) a (Node new))
    slows_on txn up (Err e) ok = tt
    slows_on txn up (Ok emitted) ok = λ most least safe.
        let h : NodeIsSafe port plan most n = there most safe in
        let slowed =
        subst (λ (l : Layout). (name : NodeName) (past : Past Act) → node.StandsFor port l name past n → node.HasSlowed port l name past txn new emitted)
        layout_is ok h.name h.past h.stands in
        takes_safe most (Slows slowed.id) emitted tt up h slowed.takes

    pub still_on : (r : Result Emitted NodeError)
        → OnErr r ((name : NodeName) (past : Past Act) → node.StandsFor port layout name past n → node.StandsFor port layout name past new)
        → OnErr r ((most : ℕ) → IsSafe port plan most a slot → IsSafe port plan most a (Node new))
    still_on (Ok emitted) err = tt
    still_on (Err e) err = λ most safe.
        let h : NodeIsSafe port plan most n = there most safe in
        record {
          name = h.name;
          past = h.past;
          stands =
              subst (λ (l : Layout). (name : NodeName) (past : Past Act) → node.StandsFor port l name past n → node.StandsFor port l name past new)
              layout_is err h.name h.past h.stands;
          low = h.low;
        }

    pub restarts_on : (r : Result Restarted OutOfMemory)
        → IfOk r (λ found. (layout : Layout) (name : NodeName) (past : Past Act) → node.StandsFor port layout name past n
        → node.KeptIn layout name past found × node.StandsFor port layout name (node.past_after found past) new)
        → OnOk r ((most : ℕ) → most_opened ≤ most → IsSafe port plan most a slot → IsSafe port plan (most + 1) a (Node new))
    restarts_on (Err e) ok = tt
    restarts_on (Ok found) ok = λ most least safe.
        let h : NodeIsSafe port plan most n = there most safe in
        record {
          name = h.name;
          past = node.past_after found h.past;
          stands = (ok plan.topology h.name h.past h.stands).1;
          low = low_restart plan.topology most h.name h.past found h.low;
        }

    pub arms_on : ((layout : Layout) (name : NodeName) (past : Past Act) → node.StandsFor port layout name past n → node.StandsFor port layout name past new)
        → (most : ℕ) → IsSafe port plan most a slot → IsSafe port plan most a (Node new)
    arms_on stands most safe =
        let h : NodeIsSafe port plan most n = there most safe in
        record { name = h.name; past = h.past; stands = stands plan.topology h.name h.past h.stands; low = h.low }
