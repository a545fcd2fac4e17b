-- A step of a node that is journalled: what it gives, and what a fault leaves.
use Rattle.std.proofs.Common.{◌≡◌, inl, inr, ℕ, true, false, List, [], ◌∷◌, ◌++◌, Vec, Option, None, Some, is_none, Result, Ok, Err, refl, sym, ap, subst, ◌∙◌}
use Rattle.std.specs.declared.alloc.Global.{Global}
use Rattle.std.specs.Prelude.{◌≤◌, IsTrue, IfOk, IfErr, OnOk, OnErr, IsErr, IsErrOf}
use Rattle.acc_base.specs.declared.memory.OutOfMemory.{OutOfMemory as NoMemory}
use Rattle.acc_topology.specs.Layout.{Layout}
use Rattle.acc_ports.specs.Disk.{CrashLeaves}
use Rattle.acc_ports.specs.declared.error.PortError.{PortError}
use Rattle.acc_ports.specs.declared.error.PortError.TheVariants.{Failed}
use Rattle.acc_ports.specs.Faults.{CountsFaults}
use Rattle.acc_ports.specs.declared.disk.Disk.{Ghosts}
use Rattle.acc_message.specs.declared.entry.Event.{Event}
use Rattle.acc_message.specs.declared.entry.Emitted.{Emitted}
use Rattle.acc_message.specs.NodeRules.{Act}
use Rattle.acc_journal.specs.Layout.{Reads}
use Rattle.acc_journal.specs.Journal.{ReadsAsEither, keeps_group, left_by_choice}
use Rattle.acc_journal.specs.Calls.{FailsWithin, Appends}
use Rattle.acc_journal.proofs.Appends.{either_now}
use Rattle.acc_payloads.specs.Items.{without_marks}
use Rattle.acc_payloads.specs.Appends.{fails_append, after_append, passed_in}
use Rattle.acc_durable_node.specs.declared.name.NodeName.{NodeName}
use Rattle.acc_durable_node.specs.Names.{emits_by}
use Rattle.acc_durable_node.specs.declared.node.DurableNode.{DurableNode}
use Rattle.acc_durable_node.specs.declared.error.DurableError.{DurableError}
use Rattle.acc_durable_node.specs.declared.error.DurableError.TheVariants.{Begun, DiskFault, OutOfMemory}
use Rattle.acc_durable_node.specs.Node as durable
use Rattle.acc_payloads.specs.declared.stops.Unsent.{Unsent}
use Rattle.acc_durable_node.specs.declared.state.NodeState.TheVariants.{Open}
use Rattle.acc_durable_node.specs.declared.actor.NodeActor.{NodeActor}
use Rattle.acc_payloads.specs.Stops.{Stop, Past, with_step, with_stops, after_step, IsUnsent}
use Rattle.acc_durable_node.specs.Actor.{disk_in, disk_of, is_shut, is_down, emits_next, IsJournal, IsUp, StandsFor, OfEachPast, IsAsBefore, Steps, IsSettled, IsStrictAt, HasStepped}
use Rattle.acc_payloads.proofs.Left.{if_err, on_err, not_err, not_ok, not_both, reads_if, left_with, left_up, none_items, none_unsent, passes, fails, passed_is}
use Rattle.acc_durable_node.proofs.Nodes.{journal_up, kept_up, up_in}

module _ {D : Type 0} (port : Ghosts D) (layout : Layout) (old : NodeActor D) (n after : DurableNode D) (is : old.state ≡ Open n) (sound : n.journal.broken ≡ false) (name : NodeName) (past : Past Act)
    (stands : StandsFor port layout name past old) (room : Vec Unsent Global) (room_is : room.items ≡ old.stopped.items) where
  up : IsUp layout name past n
  up = up_in layout name past old.state n is (stands.up (ap is_shut is ∙ sound))

  none_yet : room.items ≡ []
  none_yet = room_is ∙ none_items (emits_next layout name) past past.stopped old.stopped.items up.none_stopped stands.unsent

  abbrev mid : NodeActor D
  mid = record old { state = Open after; stopped = room }

  module _ (stop : Stop Act) (group : List (List ℕ)) (longer : IsJournal layout name (n.journal.payloads ++ group) (stop.act ∷ past.acts))
      (held_more : without_marks (n.journal.payloads ++ group) ≡ past.held ++ stop.payload ∷ []) (same : after.name ≡ n.name) where
    given_stands : after.journal.payloads ≡ n.journal.payloads ++ group → ((image : List ℕ) → port.is_image after.journal.disk image → Reads image after.journal.payloads)
        → durable.StandsFor layout after (stop.act ∷ past.acts) → StandsFor port layout name (with_step past stop) mid
    given_stands appended lasts d = record {
      name_is = stands.name_is;
      left = λ image i. left_up (IsJournal layout name) (with_step past stop) after.journal.payloads image (lasts image i)
          (subst (λ (l : List (List ℕ)). IsJournal layout name l (stop.act ∷ past.acts)) (sym appended) longer) (ap without_marks appended ∙ held_more);
      unsent = none_unsent (emits_next layout name) (with_step past stop) [] room.items refl none_yet;
      up = λ _. record {
        stands = d;
        name_is = same ∙ up.name_is;
        held_are = ap without_marks appended ∙ held_more;
        none_stopped = refl;
      };
      kept_is = λ broken. absurd (not_both after.journal.broken broken d.sound);
    }

    stopped_stands : (unsent : Emitted) (stopped : Vec Unsent Global) (kept : ℕ) → stopped.items ≡ room.items ++ record { event = stop.event; emitted = unsent } ∷ [] → after.journal.broken ≡ true → ((image : List ℕ) → port.is_image after.journal.disk image → ReadsAsEither n.journal.payloads group image)
        → unsent ≡ emits_next layout name past stop.act → kept ≡ n.kept
        → StandsFor port layout name (with_stops past (stop ∷ [])) (record mid { stopped = stopped; kept = kept })
    stopped_stands unsent stopped kept more broken either e k = record {
      name_is = stands.name_is;
      left = λ image i. left_with (IsJournal layout name) past (stop ∷ []) n.journal.payloads group (journal_up layout name past n up) up.held_are longer held_more image (either image i);
      unsent = subst (IsUnsent (emits_next layout name) (with_stops past (stop ∷ [])) (stop ∷ []))
          (sym (more ∙ ap (λ (l : List Unsent). l ++ record { event = stop.event; emitted = unsent } ∷ []) none_yet)) (refl, e, tt);
      up = λ sound. absurd (not_both after.journal.broken broken sound);
      kept_is = λ _. k ∙ kept_up layout name past n up;
    }

    own_emits : (emitted : Emitted) → emitted ≡ emits_by layout n.name past.acts stop.act → emitted ≡ emits_next layout name past stop.act
    own_emits emitted e = subst (λ (m : NodeName). emitted ≡ emits_by layout m past.acts stop.act) up.name_is e

    -- what the durable node answered
    pub steps : (kept : ℕ) (r : Result Emitted DurableError) (new : NodeActor D) (result : Result (Option Emitted) NoMemory) → kept ≡ n.kept → IsSettled stop.event kept r mid new result
        → IfOk r (durable.TakesOn layout n after stop.act)
        → IfErr r (durable.Refuses layout n after stop.act)
        → OnOk r (after.journal.payloads ≡ n.journal.payloads ++ group)
        → ((moment : ℕ) (image : List ℕ) → moment ≤ (port.state after.journal.disk).clock → port.is_image after.journal.disk image → port.was_image after.journal.disk moment image)
        → Appends port n.journal.disk after.journal.disk n.journal.payloads group (durable.draw_answer r)
        → IfOk result (λ given. Steps port layout name past stop new given)
    steps kept (Ok emitted) new result k settled ok err appended counts_now appends =
        let takes : durable.Takes layout n after past.acts stop.act emitted = ok past.acts up.stands in
        subst (λ (q : Result (Option Emitted) NoMemory). IfOk q (λ given. Steps port layout name past stop new given)) (sym settled.0)
        (subst (λ (a : NodeActor D). Steps port layout name past stop a (Some emitted)) (sym settled.1)
        (record { emits = own_emits emitted takes.emits; stands = given_stands appended (λ image i. subst (Reads image) (sym appended) (appends.lasts image i)) takes.stands }))
    steps kept (Err Begun) new result k settled ok err appended counts_now appends = if_err result _ settled.0
    steps kept (Err (DiskFault unsent)) new result k settled ok err appended counts_now appends =
        subst (λ (q : Result (Option Emitted) NoMemory). IfOk q (λ given. Steps port layout name past stop new given)) (sym settled.0)
        (subst (λ (a : NodeActor D). Steps port layout name past stop a None) (sym settled.1)
        (record { emits = tt; stands = stopped_stands unsent new.stopped kept settled.2 err.0 (either_now port n.journal.disk after.journal.disk n.journal.payloads group _ counts_now appends) (own_emits unsent (err.1 past.acts up.stands)) k }))
    steps kept (Err OutOfMemory) new result k settled ok err appended counts_now appends = if_err result _ settled.0

    -- over a strict disk
    module _ (armed passed : Option ℕ)
        (at : IsStrictAt port layout name armed passed past old) where
      abbrev IsStrictNow : Option Emitted → NodeActor D → Type 0
      IsStrictNow given new = IsStrictAt port layout name (after_append armed) (passed_in armed) (after_step given past stop) new

      disk_is : disk_of old ≡ n.journal.disk
      disk_is = ap disk_in is

      is_strict : IsTrue (port.state n.journal.disk).strict
      is_strict = subst (λ (d : D). IsTrue (port.state d).strict) disk_is at.is_strict

      armed_is : (port.state n.journal.disk).armed ≡ armed
      armed_is = ap (λ (d : D). (port.state d).armed) (sym disk_is) ∙ at.armed_is (ap is_shut is ∙ sound)

      still_strict : (port.state after.journal.disk).strict ≡ (port.state n.journal.disk).strict → IsTrue (port.state after.journal.disk).strict
      still_strict kind = subst IsTrue (sym kind) is_strict

      given_strictly : after.journal.broken ≡ false → (emitted : Emitted) → (port.state after.journal.disk).strict ≡ (port.state n.journal.disk).strict
          → (port.state after.journal.disk).armed ≡ after_append (port.state n.journal.disk).armed → IsStrictNow (Some emitted) mid
      given_strictly sound_now emitted kind counts = record {
        is_strict = still_strict kind;
        armed_is = λ _. counts ∙ ap after_append armed_is;
        left = λ broken. absurd (not_both after.journal.broken broken sound_now);
      }

      stopped_strictly : (unsent : Vec Unsent Global) (kept : ℕ) → after.journal.broken ≡ true → (port.state after.journal.disk).strict ≡ (port.state n.journal.disk).strict → ((FailsWithin 4 armed → ⊥) → ⊥)
          → ((choice : ℕ) (left : List ℕ) → CrashLeaves choice (port.state after.journal.disk) left → Reads left (left_by_choice (port.state n.journal.disk).armed choice n.journal.payloads group))
          → IsStrictNow None (record mid { stopped = unsent; kept = kept })
      stopped_strictly unsent kept broken kind never failed = record {
        is_strict = still_strict kind;
        armed_is = λ sound_now. absurd (not_both after.journal.broken broken sound_now);
        left = λ _ choice bytes by.
            reads_if (IsJournal layout name) past (stop ∷ []) n.journal.payloads group (journal_up layout name past n up) up.held_are longer held_more (keeps_group (passed_in armed) choice) bytes
            (subst (λ (o : Option ℕ). Reads bytes (left_by_choice o choice n.journal.payloads group)) (armed_is ∙ sym (passed_is armed never)) (failed choice bytes by));
      }

      pub strictly : (kept : ℕ) (r : Result Emitted DurableError) (new : NodeActor D) (result : Result (Option Emitted) NoMemory) → IsSettled stop.event kept r mid new result
          → IfOk r (durable.TakesOn layout n after stop.act)
          → IfErr r (durable.Refuses layout n after stop.act)
          → Appends port n.journal.disk after.journal.disk n.journal.payloads group (durable.draw_answer r)
          → IfOk result (λ given. (is_none given ≡ fails_append armed) × IsStrictNow given new)
      strictly kept (Ok emitted) new result settled ok err appends =
          let takes : durable.Takes layout n after past.acts stop.act emitted = ok past.acts up.stands in
          subst (λ (q : Result (Option Emitted) NoMemory). IfOk q (λ given. (is_none given ≡ fails_append armed) × IsStrictNow given new)) (sym settled.0) (
            passes armed (λ within. not_err {A = Unit {0}} PortError tt ((appends.calls.strict is_strict).early (subst (FailsWithin 4) (sym armed_is) within))),
            subst (IsStrictNow (Some emitted)) (sym settled.1) (given_strictly takes.stands.sound emitted appends.calls.kind (appends.calls.strict is_strict).counts),
          )
      strictly kept (Err Begun) new result settled ok err appends = if_err result _ settled.0
      strictly kept (Err (DiskFault unsent)) new result settled ok err appends =
          let never : (FailsWithin 4 armed → ⊥) → ⊥ = λ not. (appends.calls.strict is_strict).late (λ within. not (subst (FailsWithin 4) armed_is within)) refl in
          subst (λ (q : Result (Option Emitted) NoMemory). IfOk q (λ given. (is_none given ≡ fails_append armed) × IsStrictNow given new)) (sym settled.0)
          (fails armed never, subst (IsStrictNow None) (sym settled.1) (stopped_strictly new.stopped kept err.0 appends.calls.kind never (appends.failed is_strict refl)))
      strictly kept (Err OutOfMemory) new result settled ok err appends = if_err result _ settled.0

-- whatever it answered, the disk is that of the durable node
pub disk_settled : {D : Type 0} (event : Event) (kept : ℕ) (r : Result Emitted DurableError) (old new : NodeActor D) (result : Result (Option Emitted) NoMemory) → IsSettled event kept r old new result → disk_of new ≡ disk_of old
disk_settled event kept (Ok emitted) old new result settled = ap disk_of settled.1
disk_settled event kept (Err Begun) old new result settled = ap disk_of settled.1
disk_settled event kept (Err (DiskFault unsent)) old new result settled = ap disk_of settled.1
disk_settled event kept (Err OutOfMemory) old new result settled = ap disk_of settled.1

-- and its count of faults rose where the actor went down
pub faults_settled : {D : Type 0} (port : Ghosts D) (before : ℕ) (event : Event) (kept : ℕ) (r : Result Emitted DurableError) (old new : NodeActor D) (result : Result (Option Emitted) NoMemory) → IsSettled event kept r old new result
    → CountsFaults (IsErrOf (durable.draw_answer r) Failed) before (port.state (disk_of old)).faults → CountsFaults (result ≡ Ok None) before (port.state (disk_of new)).faults
faults_settled {D} port before event kept r old new result settled counts = of r settled counts
  where
    there : (before now : ℕ) → (P Q : Type 0) → (Q → P) → (P → Q) → CountsFaults P before now → CountsFaults Q before now
    there before now P Q back on counted = record { cause = λ q. counted.cause (back q); unfailed = λ not. counted.unfailed (λ p. not (on p)) }

    same : disk_of new ≡ disk_of old
    same = disk_settled event kept r old new result settled

    moved : (Q : Type 0) → CountsFaults Q before (port.state (disk_of old)).faults → CountsFaults Q before (port.state (disk_of new)).faults
    moved Q counted = subst (λ (d : D). CountsFaults Q before (port.state d).faults) (sym same) counted

    no_none : IsErr result → result ≡ Ok None → ⊥
    no_none err is = not_ok result None err is

    of : (r : Result Emitted DurableError) → IsSettled event kept r old new result → CountsFaults (IsErrOf (durable.draw_answer r) Failed) before (port.state (disk_of old)).faults → CountsFaults (result ≡ Ok None) before (port.state (disk_of new)).faults
    of (Ok emitted) settled counts = moved (result ≡ Ok None) (there before _ _ _ (λ is. absurd (cc (is, settled.0))) (λ none. absurd (cc none)) counts)
    of (Err Begun) settled counts = moved (result ≡ Ok None) (there before _ _ _ (λ is. absurd (no_none settled.0 is)) (λ none. absurd (cc none)) counts)
    of (Err (DiskFault unsent)) settled counts = moved (result ≡ Ok None) (there before _ _ _ (λ is. refl) (λ failed. settled.0) counts)
    of (Err OutOfMemory) settled counts = moved (result ≡ Ok None) (there before _ _ _ (λ is. absurd (no_none settled.0 is)) (λ none. absurd (cc none)) counts)

-- ---- the whole step

module _ {D : Type 0} (port : Ghosts D) (layout : Layout) (old new : NodeActor D) (n after : DurableNode D) (is : old.state ≡ Open n) (up : is_down old ≡ false) (room : Vec Unsent Global) (room_is : room.items ≡ old.stopped.items)
    (stop : NodeName → Past Act → Stop Act) (group : List (List ℕ)) (longer : OfEachPast port layout old (λ name past. IsJournal layout name (n.journal.payloads ++ group) ((stop name past).act ∷ past.acts)))
    (held_more : OfEachPast port layout old (λ name past. without_marks (n.journal.payloads ++ group) ≡ past.held ++ (stop name past).payload ∷ [])) (same : after.name ≡ n.name)
    (event : Event) (act : Act) (event_is : (name : NodeName) (past : Past Act) → (stop name past).event ≡ event) (act_is : (name : NodeName) (past : Past Act) → (stop name past).act ≡ act)
    (kept : ℕ) (kept_is : kept ≡ n.kept) (result : Result (Option Emitted) NoMemory) where
  sound : n.journal.broken ≡ false
  sound = ap is_shut (sym is) ∙ up

  abbrev middle : NodeActor D
  middle = record old { state = Open after; stopped = room }

  pub stepped : (r : Result Emitted DurableError) → IsSettled event kept r (record old { state = Open after; stopped = room }) new result → (name : NodeName) (past : Past Act) → StandsFor port layout name past old
      → IfOk r (durable.TakesOn layout n after act) → IfErr r (durable.Refuses layout n after act) → OnOk r (after.journal.payloads ≡ n.journal.payloads ++ group)
      → ((moment : ℕ) (image : List ℕ) → moment ≤ (port.state after.journal.disk).clock → port.is_image after.journal.disk image → port.was_image after.journal.disk moment image)
      → Appends port n.journal.disk after.journal.disk n.journal.payloads group (durable.draw_answer r) → HasStepped port layout old new stop result
  stepped r settled name past stands ok err appended counts_now appends = record {
    ok = all_ok;
    down = down_of r settled ok err;
    faults = faults_settled port (port.state (disk_of old)).faults event kept r middle new result settled
        (subst (λ (d : D). CountsFaults (IsErrOf (durable.draw_answer r) Failed) (port.state d).faults (port.state after.journal.disk).faults) (ap disk_in (sym is)) appends.calls.faults);
    refused = refused_by r settled err;
    strict = λ name armed passed past stands at.
        strictly port layout old n after is sound name past stands room room_is (stop name past) group (longer name past stands) (held_more name past stands) same armed passed at kept r new result
        (settled_by name past) (ok_by name past) (err_by name past) appends;
  }
    where
      settled_by : (name : NodeName) (past : Past Act) → IsSettled (stop name past).event kept r middle new result
      settled_by name past = subst (λ (e : Event). IsSettled e kept r middle new result) (sym (event_is name past)) settled

      ok_by : (name : NodeName) (past : Past Act) → IfOk r (durable.TakesOn layout n after (stop name past).act)
      ok_by name past = subst (λ (a : Act). IfOk r (durable.TakesOn layout n after a)) (sym (act_is name past)) ok

      err_by : (name : NodeName) (past : Past Act) → IfErr r (durable.Refuses layout n after (stop name past).act)
      err_by name past = subst (λ (a : Act). IfErr r (durable.Refuses layout n after a)) (sym (act_is name past)) err

      of_all : (q : Result (Option Emitted) NoMemory) → OfEachPast port layout old (λ name past. IfOk q (λ given. Steps port layout name past (stop name past) new given))
          → IfOk q (λ given. OfEachPast port layout old (λ name past. Steps port layout name past (stop name past) new given))
      of_all (Ok given) all = all
      of_all (Err e) all = tt

      all_ok : IfOk result (λ given. OfEachPast port layout old (λ name past. Steps port layout name past (stop name past) new given))
      all_ok = of_all result (λ name past stands.
          steps port layout old n after is sound name past stands room room_is (stop name past) group (longer name past stands) (held_more name past stands) same kept r new result kept_is
          (settled_by name past) (ok_by name past) (err_by name past) appended counts_now appends)

      down_of : (r : Result Emitted DurableError) → IsSettled event kept r middle new result → IfOk r (durable.TakesOn layout n after act) → IfErr r (durable.Refuses layout n after act)
          → IfOk result (λ given. is_down new ≡ is_none given)
      down_of (Ok emitted) settled ok err =
          subst (λ (q : Result (Option Emitted) NoMemory). IfOk q (λ given. is_down new ≡ is_none given)) (sym settled.0)
          (ap is_down settled.1 ∙ (ok past.acts (up_in layout name past old.state n is (stands.up up)).stands).stands.sound)
      down_of (Err Begun) settled ok err = if_err result _ settled.0
      down_of (Err (DiskFault unsent)) settled ok err =
          subst (λ (q : Result (Option Emitted) NoMemory). IfOk q (λ given. is_down new ≡ is_none given)) (sym settled.0) (ap is_down settled.1 ∙ err.0)
      down_of (Err OutOfMemory) settled ok err = if_err result _ settled.0

      as_before : durable.IsAsBefore layout n after → durable.KeepsJournal n after → IsAsBefore port layout old middle
      as_before standing kept name past stands =
          let held : IsUp layout name past n = up_in layout name past old.state n is (stands.up up) in
          record {
            name_is = stands.name_is;
            left = λ image i. stands.left image (subst (λ (d : D). port.is_image d image) (kept.0 ∙ sym (ap disk_in is)) i);
            unsent = subst (IsUnsent (emits_next layout name) past past.stopped) (sym room_is) stands.unsent;
            up = λ _. record {
              stands = standing past.acts held.stands;
              name_is = same ∙ held.name_is;
              held_are = ap without_marks kept.1 ∙ held.held_are;
              none_stopped = held.none_stopped;
            };
            kept_is = λ broken. absurd (not_both after.journal.broken broken (kept.2 ∙ sound));
          }

      left_so : new ≡ middle → durable.IsAsBefore layout n after × durable.KeepsJournal n after → OnErr result (is_down new ≡ false → IsAsBefore port layout old new × (disk_of new ≡ disk_of old))
      left_so is_new err =
          on_err result _ (λ _.
          (subst (IsAsBefore port layout old) (sym is_new) (as_before err.0 err.1), ap disk_of is_new ∙ err.1.0 ∙ sym (ap disk_in is)))

      refused_by : (r : Result Emitted DurableError) → IsSettled event kept r middle new result → IfErr r (durable.Refuses layout n after act)
          → OnErr result (is_down new ≡ false → IsAsBefore port layout old new × (disk_of new ≡ disk_of old))
      refused_by (Ok emitted) settled err = subst (λ (q : Result (Option Emitted) NoMemory). OnErr q (is_down new ≡ false → IsAsBefore port layout old new × (disk_of new ≡ disk_of old))) (sym settled.0) tt
      refused_by (Err Begun) settled err = left_so settled.1 err
      refused_by (Err (DiskFault unsent)) settled err = subst (λ (q : Result (Option Emitted) NoMemory). OnErr q (is_down new ≡ false → IsAsBefore port layout old new × (disk_of new ≡ disk_of old))) (sym settled.0) tt
      refused_by (Err OutOfMemory) settled (inl broken) = on_err result _ (λ still_up. absurd (not_both after.journal.broken broken (ap is_down (sym settled.1) ∙ still_up)))
      refused_by (Err OutOfMemory) settled (inr kept) = left_so settled.1 kept
