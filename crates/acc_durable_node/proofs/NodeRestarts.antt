-- A restart of a node: what the reopened journal tells.
use Rattle.std.proofs.Common.{◌≡◌, inl, inr, ℕ, ◌-◌, ◌^◌, ◌<◌, Bool, true, false, ltb, List, [], ◌∷◌, Option, None, Some, is_none, Vec, Result, Ok, Err, refl, sym, ap, subst, ◌∙◌}
use Rattle.std.specs.Prelude.{IsTrue, IfOk, OnOk}
use Rattle.std.specs.declared.alloc.Global.{Global}
use Rattle.acc_base.specs.declared.memory.OutOfMemory.{OutOfMemory as NoMemory}
use Rattle.acc_topology.specs.Layout.{Layout}
use Rattle.acc_ports.specs.Disk.{CrashLeaves}
use Rattle.acc_ports.specs.declared.disk.Disk.{Ghosts}
use Rattle.acc_message.specs.NodeRules.{Act, Restarts}
use Rattle.acc_journal.specs.Layout.{Reads}
use Rattle.acc_journal.specs.Journal.{keeps_group}
use Rattle.acc_journal.proofs.Unique.{one_list}
use Rattle.acc_payloads.specs.Items.{without_marks}
use Rattle.acc_durable_node.specs.declared.name.NodeName.{NodeName}
use Rattle.acc_durable_node.specs.declared.node.DurableNode.{DurableNode}
use Rattle.acc_durable_node.specs.Node as durable
use Rattle.acc_payloads.specs.declared.stops.Unsent.{Unsent}
use Rattle.acc_payloads.specs.declared.stops.Restarted.{Restarted}
use Rattle.acc_payloads.specs.declared.stops.Restarted.TheVariants.{Up}
use Rattle.acc_durable_node.specs.declared.state.NodeState.{NodeState}
use Rattle.acc_durable_node.specs.declared.state.NodeState.TheVariants.{Open, Shut}
use Rattle.acc_durable_node.specs.declared.actor.NodeActor.{NodeActor}
use Rattle.acc_payloads.specs.Stops.{Past, count_of, with_act, kept_if, ReadsAs, ReadsIf, IsLeft, IsUnsent, told, TellsByChoice, KeepsByChoice}
use Rattle.acc_durable_node.specs.Actor.{disk_in, disk_of, is_shut, is_down, emits_next, IsJournal, IsUp, IsUpIn, StandsFor, OfEachPast, IsFound, KeptIn, past_after, IsStrictAt}
use Rattle.acc_payloads.proofs.Left.{if_all, not_both, none_after, none_kept, more_is, tells, left_up, kept_is, told_past, told_some, none_unsent}
use Rattle.acc_durable_node.proofs.Nodes.{journal_up, kept_up}

-- ---- the reopened node

module _ {D : Type 0} (port : Ghosts D) (layout : Layout) (name : NodeName) (past : Past Act) (content : List ℕ) (n : DurableNode D) (kept : ℕ)
    (reads : Reads content n.journal.payloads) (given : n.name ≡ name)
    (restarts : (acts : List Act) (payloads : List (List ℕ)) → Reads content payloads → IsJournal layout name payloads acts → durable.StandsFor layout n (Restarts ∷ acts))
    (count : kept ≡ count_of past) (small : kept < 2 ^ 64 - 1) where
  module _ (keeps : Bool) (r : ReadsIf (IsJournal layout name) past keeps content) where
    abbrev now : Past Act
    now = with_act Restarts (kept_if keeps past)

    up : IsUp layout name now n
    up = record {
      stands = restarts (kept_if keeps past).acts r.payloads r.reads r.journal;
      name_is = given;
      held_are = ap without_marks (one_list content n.journal.payloads r.payloads reads r.reads) ∙ r.held_are;
      none_stopped = none_after keeps past;
    }

    many : n.kept ≡ count_of (kept_if keeps past)
    many = kept_up layout name now n up

    found_if : ((image : List ℕ) → port.is_image n.journal.disk image → Reads image n.journal.payloads) → IsFound port layout name past (Some (ltb kept n.kept)) (Open n)
    found_if lasts =
        let same : kept_if keeps past ≡ kept_if (ltb kept n.kept) past = sym (more_is keeps past kept n.kept count small many) in
        record {
          left = λ image i. subst (λ (p : Past Act). IsLeft (IsJournal layout name) (with_act Restarts p) image) same
              (left_up (IsJournal layout name) now n.journal.payloads image (lasts image i) (journal_up layout name now n up) up.held_are);
          up = λ _. subst (λ (p : Past Act). IsUp layout name (with_act Restarts p) n) same up;
        }

    pub tells_if : TellsByChoice keeps past.stopped (Some (ltb kept n.kept))
    tells_if = tells keeps past kept n.kept count small many

  pub found_up : IsLeft (IsJournal layout name) past content → ((image : List ℕ) → port.is_image n.journal.disk image → Reads image n.journal.payloads)
      → IsFound port layout name past (Some (ltb kept n.kept)) (Open n)
  found_up (inl r) lasts = found_if false r lasts
  found_up (inr r) lasts = found_if true r lasts

pub found_down : {D : Type 0} (port : Ghosts D) (layout : Layout) (name : NodeName) (past : Past Act) (content : List ℕ) (disk : D)
    → IsLeft (IsJournal layout name) past content → ((image : List ℕ) → port.is_image disk image → image ≡ content) → IsFound port layout name past None (Shut disk)
found_down port layout name past content disk left only = record {
  left = λ image i. subst (IsLeft (IsJournal layout name) past) (sym (only image i)) left;
  up = λ sound. absurd (let e : true ≡ false = sound in cc);
}

-- ---- the restart

none_up : {D : Type 0} (layout : Layout) (name : NodeName) (past : Past Act) (state : NodeState D) → IsUpIn layout name past state → past.stopped ≡ []
none_up layout name past (Open n) is_up = is_up.none_stopped
none_up layout name past (Shut disk) is_up = absurd is_up

module _ {D : Type 0} (port : Ghosts D) (layout : Layout) (old : NodeActor D) (name : NodeName) (past : Past Act) (stands : StandsFor port layout name past old) (state : NodeState D) (kept : ℕ) where
  abbrev new : Vec Unsent Global → NodeActor D
  new items = record old { state = state; stopped = items; kept = kept }

  module _ (p : Past Act) (none : p.stopped ≡ []) (shut : is_shut state ≡ false) (v : Vec Unsent Global) (empty : v.items ≡ [])
      (left : (image : List ℕ) → port.is_image (disk_in state) image → IsLeft (IsJournal layout name) p image) (up : is_shut state ≡ false → IsUpIn layout name p state) where
    up_stands : StandsFor port layout name p (new v)
    up_stands = record {
      name_is = stands.name_is;
      left = left;
      unsent = none_unsent (emits_next layout name) p p.stopped v.items none empty;
      up = up;
      kept_is = λ broken. absurd (not_both (is_shut state) broken shut);
    }

  found_stands : (more : Bool) → is_shut state ≡ false → IsFound port layout name past (Some more) state → (v : Vec Unsent Global) → v.items ≡ []
      → StandsFor port layout name (with_act Restarts (kept_if more past)) (new v)
  found_stands more shut f v empty = up_stands (with_act Restarts (kept_if more past)) (none_after more past) shut v empty f.left f.up

  pub restarts_ok : (found : Result (Option Bool) NoMemory) (v : Vec Unsent Global) → v.items ≡ (told found old.stopped.items).1 → IfOk found (λ f. is_shut state ≡ is_none f) → IfOk found (λ f. IsFound port layout name past f state) → kept ≡ count_of past
      → IfOk (told found old.stopped.items).0 (λ q. KeptIn layout name past q × StandsFor port layout name (past_after q past) (new v))
  restarts_ok (Ok (Some true)) v v_is shut f count = (
    kept_is (emits_next layout name) past old.stopped.items stands.unsent,
    subst (λ (p : Past Act). StandsFor port layout name (with_act Restarts p) (new v)) (told_past (emits_next layout name) past old.stopped.items stands.unsent) (found_stands true shut f v v_is),
  )
  restarts_ok (Ok (Some false)) v v_is shut f count = (tt, found_stands false shut f v v_is)
  restarts_ok (Ok None) v v_is shut f count = (
    tt,
    record {
      name_is = stands.name_is;
      left = f.left;
      unsent = subst (IsUnsent (emits_next layout name) past past.stopped) (sym v_is) stands.unsent;
      up = λ sound. absurd (not_both (is_shut state) shut sound);
      kept_is = λ _. count;
    },
  )
  restarts_ok (Err e) v v_is shut f count = tt

  -- with what the reopening tells
  pub restarted : (found : Result (Option Bool) NoMemory) (v : Vec Unsent Global) (disk : D) → v.items ≡ (told found old.stopped.items).1 → disk ≡ disk_of old → kept ≡ count_of past → IfOk found (λ f. is_shut state ≡ is_none f)
      → IfOk found (λ f. (l : Layout) (p : Past Act) → ((image : List ℕ) → port.is_image disk image → IsLeft (IsJournal l old.named.name) p image) → kept ≡ count_of p → IsFound port l old.named.name p f state)
      → IfOk (told found old.stopped.items).0 (λ q. KeptIn layout name past q × StandsFor port layout name (past_after q past) (new v))
  restarted found v disk v_is same count shut finds =
      let left : (image : List ℕ) → port.is_image disk image → IsLeft (IsJournal layout old.named.name) past image = λ image i.
      subst (λ (m : NodeName). IsLeft (IsJournal layout m) past image) (sym stands.name_is) (stands.left image (subst (λ (d : D). port.is_image d image) same i)) in
      restarts_ok found v v_is shut
      (if_all found _ _ (λ f found_by. subst (λ (m : NodeName). IsFound port layout m past f state) stands.name_is (found_by layout past left count)) finds) count

  -- over a strict disk
  module _ (armed passed : Option ℕ)
      (at : IsStrictAt port layout name armed passed past old) (choice : ℕ) where
    -- what the choice leaves
    pub by_choice : (bytes : List ℕ) → port.is_image (disk_of old) bytes → CrashLeaves choice (port.state (disk_of old)) bytes
        → ReadsIf (IsJournal layout name) past (keeps_group passed choice) bytes
    by_choice bytes i by = of (is_down old) refl
      where
        same : past.stopped ≡ [] → IsLeft (IsJournal layout name) past bytes → ReadsIf (IsJournal layout name) past (keeps_group passed choice) bytes
        same e (inl r) = subst (λ (p : Past Act). ReadsAs (IsJournal layout name) p.acts p.held bytes) (none_kept false (keeps_group passed choice) past e) r
        same e (inr r) = subst (λ (p : Past Act). ReadsAs (IsJournal layout name) p.acts p.held bytes) (none_kept true (keeps_group passed choice) past e) r

        of : (b : Bool) → is_down old ≡ b → ReadsIf (IsJournal layout name) past (keeps_group passed choice) bytes
        of true e = at.left e choice bytes by
        of false e = same (none_up layout name past old.state (stands.up e)) (stands.left bytes i)

    strict_now : (v : Vec Unsent Global) (p : Past Act) → is_shut state ≡ false → (port.state (disk_in state)).strict ≡ (port.state (disk_of old)).strict → (port.state (disk_in state)).armed ≡ None
        → IsStrictAt port layout name None None p (new v)
    strict_now v p shut kind unarmed = record {
      is_strict = subst IsTrue (sym kind) at.is_strict;
      armed_is = λ _. unarmed;
      left = λ broken. absurd (not_both (is_shut state) broken shut);
    }

    pub restarts_strictly : (found : Result (Option Bool) NoMemory) (v : Vec Unsent Global) → IfOk found (λ f. is_shut state ≡ is_none f) → (port.state (disk_in state)).strict ≡ (port.state (disk_of old)).strict
        → OnOk found ((port.state (disk_in state)).armed ≡ None) → IfOk found (TellsByChoice (keeps_group passed choice) past.stopped)
        → IfOk (told found old.stopped.items).0 (λ q. KeepsByChoice passed choice past.stopped q
        × IsStrictAt port layout name None None (past_after q past) (new v))
    restarts_strictly (Ok (Some true)) v shut kind unarmed by = (told_some (emits_next layout name) past past.stopped old.stopped.items stands.unsent ∙ by, strict_now v (past_after (Up old.stopped.items) past) shut kind unarmed)
    restarts_strictly (Ok (Some false)) v shut kind unarmed by = (by, strict_now v (past_after (Up []) past) shut kind unarmed)
    restarts_strictly (Ok None) v shut kind unarmed by = absurd by
    restarts_strictly (Err e) v shut kind unarmed by = tt

    -- with what the reopening tells
    pub restarted_strictly : (found : Result (Option Bool) NoMemory) (v : Vec Unsent Global) (disk : D) → disk ≡ disk_of old → kept ≡ count_of past → IfOk found (λ f. is_shut state ≡ is_none f) → (port.state (disk_in state)).strict ≡ (port.state disk).strict
        → (IsTrue (port.state disk).strict → OnOk found ((port.state (disk_in state)).armed ≡ None))
        → (IsTrue (port.state disk).strict → (l : Layout) (p : Past Act) (keeps : Bool) → ((bytes : List ℕ) → port.is_image disk bytes → CrashLeaves choice (port.state disk) bytes
        → ReadsIf (IsJournal l old.named.name) p keeps bytes) → kept ≡ count_of p → IfOk found (TellsByChoice keeps p.stopped))
        → IfOk (told found old.stopped.items).0 (λ q. KeepsByChoice passed choice past.stopped q
        × IsStrictAt port layout name None None (past_after q past) (new v))
    restarted_strictly found v disk same count shut kind unarmed tells_by =
        let is_strict : IsTrue (port.state disk).strict = subst (λ (d : D). IsTrue (port.state d).strict) (sym same) at.is_strict in
        let by : (bytes : List ℕ) → port.is_image disk bytes → CrashLeaves choice (port.state disk) bytes → ReadsIf (IsJournal layout old.named.name) past (keeps_group passed choice) bytes = λ bytes i chosen.
        subst (λ (m : NodeName). ReadsIf (IsJournal layout m) past (keeps_group passed choice) bytes) (sym stands.name_is)
        (by_choice bytes (subst (λ (d : D). port.is_image d bytes) same i) (subst (λ (d : D). CrashLeaves choice (port.state d) bytes) same chosen)) in
        restarts_strictly found v shut (kind ∙ ap (λ (d : D). (port.state d).strict) same) (unarmed is_strict) (tells_by is_strict layout past (keeps_group passed choice) by count)

-- for every past
pub for_all : {D : Type 0} (port : Ghosts D) (old new : NodeActor D) (result : Result Restarted NoMemory)
    → ((layout : Layout) → OfEachPast port layout old (λ name past. IfOk result (λ q. KeptIn layout name past q × StandsFor port layout name (past_after q past) new)))
    → IfOk result (λ q. (layout : Layout) → OfEachPast port layout old (λ name past. KeptIn layout name past q × StandsFor port layout name (past_after q past) new))
for_all port old new (Ok q) all = all
for_all port old new (Err e) all = tt
