-- A restart of a store: what the reopened journal tells.
use Rattle.std.proofs.Common.{◌≡◌, inl, inr, ℕ, ◌-◌, ◌^◌, ◌<◌, Bool, true, false, ltb, List, [], Option, None, Some, is_none, Vec, Result, Ok, Err, refl, sym, ap, subst, ◌∙◌}
use Rattle.std.specs.Prelude.{IsTrue, IfOk, OnOk}
use Rattle.std.specs.declared.alloc.Global.{Global}
use Rattle.acc_base.specs.declared.memory.OutOfMemory.{OutOfMemory as NoMemory}
use Rattle.acc_topology.specs.Layout.{Layout}
use Rattle.acc_ports.specs.Disk.{CrashLeaves}
use Rattle.acc_ports.specs.Faults.{CountsFaults}
use Rattle.acc_ports.specs.declared.disk.Disk.{Ghosts}
use Rattle.acc_message.specs.declared.message.Message.{Message}
use Rattle.acc_journal.specs.Layout.{Reads}
use Rattle.acc_journal.specs.Journal.{keeps_group}
use Rattle.acc_journal.proofs.Unique.{one_list}
use Rattle.acc_payloads.specs.Items.{without_marks}
use Rattle.acc_durable_store.specs.declared.name.StoreName.{StoreName}
use Rattle.acc_durable_store.specs.declared.store.DurableStore.{DurableStore}
use Rattle.acc_durable_store.specs.Store as durable
use Rattle.acc_payloads.specs.declared.stops.Unsent.{Unsent}
use Rattle.acc_payloads.specs.declared.stops.Restarted.{Restarted}
use Rattle.acc_payloads.specs.declared.stops.Restarted.TheVariants.{Up, Down}
use Rattle.acc_durable_store.specs.declared.actor.StoreState.{StoreState}
use Rattle.acc_durable_store.specs.declared.actor.StoreState.TheVariants.{Open, Shut}
use Rattle.acc_durable_store.specs.declared.actor.StoreActor.{StoreActor}
use Rattle.acc_payloads.specs.Stops.{Past, count_of, kept_if, ReadsAs, ReadsIf, IsLeft, IsUnsent, told, TellsByChoice, KeepsByChoice}
use Rattle.acc_durable_store.specs.Actor.{disk_in, disk_of, is_shut, is_down, emits_next, IsJournal, IsUp, IsUpIn, StandsFor, OfEachPast, IsFound, KeptIn, past_after, IsStrictAt}
use Rattle.acc_payloads.proofs.Left.{if_all, not_both, none_after, none_kept, more_is, tells, left_up, kept_is, told_past, told_some, none_unsent}
use Rattle.acc_durable_store.proofs.StoreActors.{one_past, journal_of, kept_up}

-- ---- the reopened store

-- its journal is the one that was read
journal_read : (layout : Layout) (name : StoreName) (content : List ℕ) (messages : List Message) (here payloads : List (List ℕ)) → Reads content here → Reads content payloads
    → IsJournal layout name payloads messages → IsJournal layout name here messages
journal_read layout name content messages here payloads reads given journal =
    subst (λ (l : List (List ℕ)). IsJournal layout name l messages) (one_list content payloads here given reads) journal

-- it stands for the messages that were read
stands_for_read : {D : Type 0} (layout : Layout) (name : StoreName) (s : DurableStore D) (messages : List Message)
    → durable.name_in s ≡ name → durable.IsReopened layout s s.journal.payloads → IsJournal layout name s.journal.payloads messages → durable.StandsFor layout s messages
stands_for_read layout name s messages name_is r journal =
    let read : IsJournal layout name s.journal.payloads r.messages =
    subst (λ (n : StoreName). IsJournal layout n s.journal.payloads r.messages) name_is (journal_of layout s r.messages r.stands r.none_staged) in
    subst (durable.StandsFor layout s) (one_past layout name s.journal.payloads r.messages messages read journal) r.stands

module _ {D : Type 0} (port : Ghosts D) (layout : Layout) (name : StoreName) (past : Past Message) (content : List ℕ) (s : DurableStore D) (kept : ℕ)
    (reads : Reads content s.journal.payloads) (given : durable.name_in s ≡ name) (reopened : durable.IsReopened layout s s.journal.payloads)
    (count : kept ≡ count_of past) (small : kept < 2 ^ 64 - 1) where
  module _ (keeps : Bool) (r : ReadsIf (IsJournal layout name) past keeps content) where
    abbrev now : Past Message
    now = kept_if keeps past

    journal : IsJournal layout name s.journal.payloads now.acts
    journal = journal_read layout name content now.acts s.journal.payloads r.payloads reads r.reads r.journal

    up : IsUp layout name now [] s
    up = record {
      stands = stands_for_read layout name s now.acts given reopened journal;
      name_is = given;
      journal = journal;
      staged_are = ap without_marks reopened.none_staged;
      none_staged = λ _. reopened.none_staged;
      held_are = ap without_marks (one_list content s.journal.payloads r.payloads reads r.reads) ∙ r.held_are;
      none_stopped = none_after keeps past;
    }

    many : s.kept ≡ count_of (kept_if keeps past)
    many = kept_up layout name now [] s up

    found_if : ((image : List ℕ) → port.is_image s.journal.disk image → Reads image s.journal.payloads) → IsFound port layout name past (Some (ltb kept s.kept)) (Open s)
    found_if lasts =
        let same : kept_if keeps past ≡ kept_if (ltb kept s.kept) past = sym (more_is keeps past kept s.kept count small many) in
        record {
          left = λ image i. subst (λ (p : Past Message). IsLeft (IsJournal layout name) p image) same
              (left_up (IsJournal layout name) now s.journal.payloads image (lasts image i) journal up.held_are);
          up = λ _. subst (λ (p : Past Message). IsUp layout name p [] s) same up;
        }

    pub tells_if : TellsByChoice keeps past.stopped (Some (ltb kept s.kept))
    tells_if = tells keeps past kept s.kept count small many

  pub found_up : IsLeft (IsJournal layout name) past content → ((image : List ℕ) → port.is_image s.journal.disk image → Reads image s.journal.payloads)
      → IsFound port layout name past (Some (ltb kept s.kept)) (Open s)
  found_up (inl r) lasts = found_if false r lasts
  found_up (inr r) lasts = found_if true r lasts

pub found_down : {D : Type 0} (port : Ghosts D) (layout : Layout) (name : StoreName) (past : Past Message) (content : List ℕ) (disk : D)
    → IsLeft (IsJournal layout name) past content → ((image : List ℕ) → port.is_image disk image → image ≡ content) → IsFound port layout name past None (Shut disk)
found_down port layout name past content disk left only = record {
  left = λ image i. subst (IsLeft (IsJournal layout name) past) (sym (only image i)) left;
  up = λ sound. absurd (let e : true ≡ false = sound in cc);
}

-- ---- the restart

none_up : {D : Type 0} (layout : Layout) (name : StoreName) (past : Past Message) (state : StoreState D) → IsUpIn layout name past [] state → past.stopped ≡ []
none_up layout name past (Open n) is_up = is_up.none_stopped
none_up layout name past (Shut disk) is_up = absurd is_up

module _ {D : Type 0} (port : Ghosts D) (layout : Layout) (old : StoreActor D) (name : StoreName) (past : Past Message) (stands : StandsFor port layout name past old) (state : StoreState D) (kept : ℕ) where
  abbrev new : Vec Unsent Global → StoreActor D
  new items = record old { state = state; unsent = items; kept = kept }

  module _ (p : Past Message) (none : p.stopped ≡ []) (shut : is_shut state ≡ false) (v : Vec Unsent Global) (empty : v.items ≡ [])
      (left : (image : List ℕ) → port.is_image (disk_in state) image → IsLeft (IsJournal layout name) p image) (up : is_shut state ≡ false → IsUpIn layout name p [] state) where
    up_stands : StandsFor port layout name p (new v)
    up_stands = record {
      name_is = stands.name_is;
      left = left;
      unsent = none_unsent (emits_next layout name.actor) p p.stopped v.items none empty;
      up = up;
      down = λ _. refl;
      kept_is = λ broken. absurd (not_both (is_shut state) broken shut);
    }

  found_stands : (more : Bool) → is_shut state ≡ false → IsFound port layout name past (Some more) state → (v : Vec Unsent Global) → v.items ≡ [] → StandsFor port layout name (kept_if more past) (new v)
  found_stands more shut f v empty = up_stands (kept_if more past) (none_after more past) shut v empty f.left f.up

  pub restarts_ok : (found : Result (Option Bool) NoMemory) (v : Vec Unsent Global) → v.items ≡ (told found old.unsent.items).1 → IfOk found (λ f. is_shut state ≡ is_none f) → IfOk found (λ f. IsFound port layout name past f state) → kept ≡ count_of past
      → IfOk (told found old.unsent.items).0 (λ q. KeptIn layout name.actor past q × StandsFor port layout name (past_after q past) (new v))
  restarts_ok (Ok (Some true)) v v_is shut f count = (
    kept_is (emits_next layout name.actor) past old.unsent.items stands.unsent,
    subst (λ (p : Past Message). StandsFor port layout name p (new v)) (told_past (emits_next layout name.actor) past old.unsent.items stands.unsent) (found_stands true shut f v v_is),
  )
  restarts_ok (Ok (Some false)) v v_is shut f count = (tt, found_stands false shut f v v_is)
  restarts_ok (Ok None) v v_is shut f count = (
    tt,
    record {
      name_is = stands.name_is;
      left = f.left;
      unsent = subst (IsUnsent (emits_next layout name.actor) past past.stopped) (sym v_is) stands.unsent;
      up = λ sound. absurd (not_both (is_shut state) shut sound);
      down = λ _. refl;
      kept_is = λ _. count;
    },
  )
  restarts_ok (Err e) v v_is shut f count = tt

  -- with what the reopening tells
  pub restarted : (found : Result (Option Bool) NoMemory) (v : Vec Unsent Global) (disk : D) → v.items ≡ (told found old.unsent.items).1 → disk ≡ disk_of old → kept ≡ count_of past → IfOk found (λ f. is_shut state ≡ is_none f)
      → IfOk found (λ f. (p : Past Message) → ((image : List ℕ) → port.is_image disk image → IsLeft (IsJournal layout old.name) p image) → kept ≡ count_of p → IsFound port layout old.name p f state)
      → IfOk (told found old.unsent.items).0 (λ q. KeptIn layout name.actor past q × StandsFor port layout name (past_after q past) (new v))
  restarted found v disk v_is same count shut finds =
      let left : (image : List ℕ) → port.is_image disk image → IsLeft (IsJournal layout old.name) past image = λ image i.
      subst (λ (n : StoreName). IsLeft (IsJournal layout n) past image) (sym stands.name_is) (stands.left image (subst (λ (d : D). port.is_image d image) same i)) in
      restarts_ok found v v_is shut (if_all found _ _ (λ f found_by. subst (λ (n : StoreName). IsFound port layout n past f state) stands.name_is (found_by past left count)) finds) count

  -- over a strict disk
  module _ (armed passed : Option ℕ)
      (at : IsStrictAt port layout name armed passed past old) (choice : ℕ) where
    -- what the choice leaves
    pub by_choice : (bytes : List ℕ) → port.is_image (disk_of old) bytes → CrashLeaves choice (port.state (disk_of old)) bytes
        → ReadsIf (IsJournal layout name) past (keeps_group passed choice) bytes
    by_choice bytes i by = of (is_down old) refl
      where
        same : past.stopped ≡ [] → IsLeft (IsJournal layout name) past bytes → ReadsIf (IsJournal layout name) past (keeps_group passed choice) bytes
        same e (inl r) = subst (λ (p : Past Message). ReadsAs (IsJournal layout name) p.acts p.held bytes) (none_kept false (keeps_group passed choice) past e) r
        same e (inr r) = subst (λ (p : Past Message). ReadsAs (IsJournal layout name) p.acts p.held bytes) (none_kept true (keeps_group passed choice) past e) r

        of : (b : Bool) → is_down old ≡ b → ReadsIf (IsJournal layout name) past (keeps_group passed choice) bytes
        of true e = at.left e choice bytes by
        of false e = same (none_up layout name past old.state (stands.up e)) (stands.left bytes i)

    strict_now : (v : Vec Unsent Global) (p : Past Message) → is_shut state ≡ false → (port.state (disk_in state)).strict ≡ (port.state (disk_of old)).strict → (port.state (disk_in state)).armed ≡ None
        → IsStrictAt port layout name None None p (new v)
    strict_now v p shut kind unarmed = record {
      is_strict = subst IsTrue (sym kind) at.is_strict;
      armed_is = λ _. unarmed;
      left = λ broken. absurd (not_both (is_shut state) broken shut);
    }

    pub restarts_strictly : (found : Result (Option Bool) NoMemory) (v : Vec Unsent Global) → IfOk found (λ f. is_shut state ≡ is_none f) → (port.state (disk_in state)).strict ≡ (port.state (disk_of old)).strict
        → OnOk found ((port.state (disk_in state)).armed ≡ None) → IfOk found (TellsByChoice (keeps_group passed choice) past.stopped)
        → IfOk (told found old.unsent.items).0 (λ q. KeepsByChoice passed choice past.stopped q
        × IsStrictAt port layout name None None (past_after q past) (new v))
    restarts_strictly (Ok (Some true)) v shut kind unarmed by = (told_some (emits_next layout name.actor) past past.stopped old.unsent.items stands.unsent ∙ by, strict_now v (past_after (Up old.unsent.items) past) shut kind unarmed)
    restarts_strictly (Ok (Some false)) v shut kind unarmed by = (by, strict_now v (past_after (Up []) past) shut kind unarmed)
    restarts_strictly (Ok None) v shut kind unarmed by = absurd by
    restarts_strictly (Err e) v shut kind unarmed by = tt

    -- with what the reopening tells
    pub restarted_strictly : (found : Result (Option Bool) NoMemory) (v : Vec Unsent Global) (disk : D) → disk ≡ disk_of old → kept ≡ count_of past → IfOk found (λ f. is_shut state ≡ is_none f) → (port.state (disk_in state)).strict ≡ (port.state disk).strict
        → (IsTrue (port.state disk).strict → OnOk found ((port.state (disk_in state)).armed ≡ None))
        → (IsTrue (port.state disk).strict → (p : Past Message) (keeps : Bool) → ((bytes : List ℕ) → port.is_image disk bytes → CrashLeaves choice (port.state disk) bytes
        → ReadsIf (IsJournal layout old.name) p keeps bytes) → kept ≡ count_of p → IfOk found (TellsByChoice keeps p.stopped))
        → IfOk (told found old.unsent.items).0 (λ q. KeepsByChoice passed choice past.stopped q
        × IsStrictAt port layout name None None (past_after q past) (new v))
    restarted_strictly found v disk same count shut kind unarmed tells_by =
        let is_strict : IsTrue (port.state disk).strict = subst (λ (d : D). IsTrue (port.state d).strict) (sym same) at.is_strict in
        let by : (bytes : List ℕ) → port.is_image disk bytes → CrashLeaves choice (port.state disk) bytes → ReadsIf (IsJournal layout old.name) past (keeps_group passed choice) bytes = λ bytes i chosen.
        subst (λ (n : StoreName). ReadsIf (IsJournal layout n) past (keeps_group passed choice) bytes) (sym stands.name_is)
        (by_choice bytes (subst (λ (d : D). port.is_image d bytes) same i) (subst (λ (d : D). CrashLeaves choice (port.state d) bytes) same chosen)) in
        restarts_strictly found v shut (kind ∙ ap (λ (d : D). (port.state d).strict) same) (unarmed is_strict) (tells_by is_strict past (keeps_group passed choice) by count)

-- it tells that it is down exactly where the disk failed
down_told : (found : Result (Option Bool) NoMemory) (stopped : List Unsent) → (told found stopped).0 ≡ Ok Down → found ≡ Ok None
down_told (Ok (Some true)) stopped e = absurd cc
down_told (Ok (Some false)) stopped e = absurd cc
down_told (Ok None) stopped e = refl
down_told (Err error) stopped e = absurd cc

pub restarts_counted : (found : Result (Option Bool) NoMemory) (stopped : List Unsent) (answer : Result Restarted NoMemory) (before later : ℕ) → answer ≡ (told found stopped).0
    → CountsFaults (found ≡ Ok None) before later → CountsFaults (answer ≡ Ok Down) before later
restarts_counted found stopped answer before later is counted = record {
  cause = λ down. counted.cause (down_told found stopped (sym is ∙ down));
  unfailed = λ up. counted.unfailed (λ none. up (is ∙ ap (λ (f : Result (Option Bool) NoMemory). (told f stopped).0) none));
}

-- for every past
pub for_all : {D : Type 0} (port : Ghosts D) (layout : Layout) (old new : StoreActor D) (result : Result Restarted NoMemory)
    → OfEachPast port layout old (λ name past. IfOk result (λ q. KeptIn layout name.actor past q × StandsFor port layout name (past_after q past) new))
    → IfOk result (λ q. OfEachPast port layout old (λ name past. KeptIn layout name.actor past q × StandsFor port layout name (past_after q past) new))
for_all port layout old new (Ok q) all = all
for_all port layout old new (Err e) all = tt
