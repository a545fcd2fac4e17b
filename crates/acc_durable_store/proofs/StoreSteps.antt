-- What a store is once it has staged a message, and once it has settled what was staged.
use Rattle.std.proofs.Common.{◌≡◌, ℕ, true, false, List, [], ◌∷◌, ◌++◌, Vec, Option, refl, sym, Err, ap, subst, ◌∙◌}
use Rattle.std.proofs.lemmas.List.{map-append}
use Rattle.std.specs.Prelude.{IsTrue}
use Rattle.std.specs.declared.alloc.Global.{Global}
use Rattle.acc_topology.specs.Layout.{Layout}
use Rattle.acc_ports.specs.declared.disk.Disk.{Ghosts}
use Rattle.acc_ports.specs.declared.error.PortError.TheVariants.{Failed}
use Rattle.acc_message.specs.declared.message.Message.{Message}
use Rattle.acc_message.specs.StoreRules.{store_answer, replay}
use Rattle.acc_message_code.specs.Fitting.{FitsMessage}
use Rattle.acc_message_code.specs.MessageSpelling.{message_bytes}
use Rattle.acc_journal.specs.Layout.{Reads}
use Rattle.acc_journal.specs.Journal.{ReadsAsEither, keeps_group, left_by_choice}
use Rattle.acc_journal.specs.Calls.{FailsWithin, Appends}
use Rattle.acc_payloads.specs.Journals.{appended}
use Rattle.acc_payloads.specs.Items.{without_marks}
use Rattle.acc_payloads.specs.Appends.{fails_append, after_append, passed_in}
use Rattle.acc_durable_store.specs.declared.name.StoreName.{StoreName}
use Rattle.acc_durable_store.specs.declared.store.DurableStore.{DurableStore}
use Rattle.acc_durable_store.specs.Staged.{StagedState}
use Rattle.acc_durable_store.specs.Store as durable
use Rattle.acc_payloads.specs.declared.stops.Unsent.{Unsent}
use Rattle.acc_durable_store.specs.declared.actor.StoreState.TheVariants.{Open}
use Rattle.acc_durable_store.specs.declared.actor.StoreActor.{StoreActor}
use Rattle.acc_payloads.specs.Stops.{Stop, Past, group_of, with_stops, kept_with, IsUnsent}
use Rattle.acc_durable_store.specs.Actor.{disk_in, disk_of, is_shut, sends, emits_next, message_stop, IsJournal, IsUp, IsStaging, StandsFor, IsStrictAt}
use Rattle.acc_payloads.proofs.Left.{not_both, kept_more, none_stopped, reads_if, left_with, left_up, none_unsent, fails, passed_is}
use Rattle.acc_payloads.proofs.Marks.{message_no_mark, held_with}
use Rattle.acc_durable_store.proofs.StoreActors.{journal_of, journal_up, held_up, kept_up, up_in, not_more, unsent_more, unsent_stopped, unsent_staged, staged_unsent}

module _ {D : Type 0} (port : Ghosts D) (layout : Layout) (old : StoreActor D) (s after : DurableStore D) (is : old.state ≡ Open s) (sound : s.journal.broken ≡ false) (name : StoreName) (past : Past Message)
    (staged : List (Stop Message)) (stands : IsStaging port layout name past staged old) (same : durable.IsTheSame s after) where
  up : IsUp layout name past staged s
  up = up_in layout name past staged old.state s is (stands.up (ap is_shut is ∙ sound))

  disk_is : disk_of old ≡ s.journal.disk
  disk_is = ap disk_in is

  name_now : durable.name_in after ≡ name
  name_now = (λ i. record { actor = same.actor i; version = same.version i }) ∙ up.name_is

  abbrev past_staged : Past Message
  past_staged = kept_with staged past

  waiting : IsUnsent (emits_next layout name.actor) past staged old.unsent.items
  waiting = unsent_staged layout name.actor past up.none_stopped staged old.unsent.items stands.unsent

  -- ---- it is staged

  -- nothing of the disk changed
  module _ (room : Vec Unsent Global) (sound_now : after.journal.broken ≡ false) (disk_same : after.journal.disk ≡ s.journal.disk) where
    abbrev now : StoreActor D
    now = record old { state = Open after; unsent = room }

    still_staging : (stops : List (Stop Message)) → IsUp layout name past stops after → IsUnsent (emits_next layout name.actor) past stops room.items
        → IsStaging port layout name past stops now
    still_staging stops is_up unsent = record {
      name_is = stands.name_is;
      left = λ image i. stands.left image (subst (λ (d : D). port.is_image d image) (disk_same ∙ sym disk_is) i);
      unsent = staged_unsent layout name.actor past up.none_stopped stops room.items unsent;
      up = λ _. is_up;
      down = λ broken. absurd (not_both after.journal.broken broken sound_now);
      kept_is = λ broken. absurd (not_both after.journal.broken broken sound_now);
    }

  module _ (number : ℕ) (m : Message) where
    abbrev stop : Stop Message
    stop = message_stop number m

    abbrev last : List Message → Unsent
    last out = record { event = stop.event; emitted = sends out }

    module _ (fits : FitsMessage m) (journal_is : after.journal ≡ record s.journal { group = s.journal.group ++ appended s.version s.marked (message_bytes m) }) where
      more_held : without_marks after.journal.group ≡ group_of (staged ++ stop ∷ [])
      more_held =
          ap (λ (j : StagedState D). without_marks j.group) journal_is ∙ held_with s.journal.group s.version s.marked (message_bytes m) (message_no_mark m fits)
          ∙ ap (λ (l : List (List ℕ)). l ++ message_bytes m ∷ []) up.staged_are ∙ sym (map-append (λ (x : Stop Message). x.payload) staged (stop ∷ []))

      more_up : durable.StandsFor layout after (m ∷ past_staged.acts) → IsUp layout name past (staged ++ stop ∷ []) after
      more_up d = record {
        stands = subst (λ (p : Past Message). durable.StandsFor layout after p.acts) (sym (kept_more staged stop past)) d;
        name_is = name_now;
        journal = subst (λ (l : List (List ℕ)). IsJournal layout name l past.acts) (sym (ap (λ (j : StagedState D). j.payloads) journal_is)) up.journal;
        held_are = ap (λ (j : StagedState D). without_marks j.payloads) journal_is ∙ up.held_are;
        staged_are = more_held;
        none_staged = λ none. absurd (not_more staged stop none);
        none_stopped = up.none_stopped;
      }

      -- what the durable store answered
      pub stages : (out : List Message) (room : Vec Unsent Global) → room.items ≡ old.unsent.items ++ last out ∷ [] → durable.Takes layout s after past_staged.acts m out
          → IsStaging port layout name past (staged ++ stop ∷ []) (record old { state = Open after; unsent = room })
      stages out room room_is takes =
          still_staging room takes.stands.sound (ap (λ (j : StagedState D). j.disk) journal_is) (staged ++ stop ∷ []) (more_up takes.stands)
          (subst (IsUnsent (emits_next layout name.actor) past (staged ++ stop ∷ [])) (sym room_is)
          (unsent_more layout name.actor staged past old.unsent.items stop (last out) waiting refl
          (ap sends (subst (λ (n : StoreName). out ≡ store_answer layout n.actor (replay layout n.actor past_staged.acts) m) up.name_is takes.answers))))

  -- ---- it is settled

  pub given_stands : (room : Vec Unsent Global) → room.items ≡ [] → durable.IsAsBefore s after → after.journal.group ≡ [] → after.journal.payloads ≡ s.journal.payloads ++ s.journal.group
      → ((image : List ℕ) → port.is_image after.journal.disk image → Reads image after.journal.payloads) → StandsFor port layout name past_staged (record old { state = Open after; unsent = room })
  given_stands room empty as_before none_staged appends lasts =
      let d : durable.StandsFor layout after past_staged.acts = as_before layout past_staged.acts up.stands in
      let journal : IsJournal layout name after.journal.payloads past_staged.acts =
      subst (λ (n : StoreName). IsJournal layout n after.journal.payloads past_staged.acts) name_now (journal_of layout after past_staged.acts d none_staged) in
      let held : without_marks after.journal.payloads ≡ past_staged.held = ap without_marks appends ∙ held_up layout name past staged s up in
      record {
        name_is = stands.name_is;
        left = λ image i. left_up (IsJournal layout name) past_staged after.journal.payloads image (lasts image i) journal held;
        unsent = none_unsent (emits_next layout name.actor) past_staged past_staged.stopped room.items (none_stopped staged past) empty;
        up = λ _. record {
          stands = d;
          name_is = name_now;
          journal = journal;
          held_are = held;
          staged_are = ap without_marks none_staged;
          none_staged = λ _. none_staged;
          none_stopped = none_stopped staged past;
        };
        down = λ _. refl;
        kept_is = λ broken. absurd (not_both after.journal.broken broken d.sound);
      }

  -- what is given may go out
  pub gives : (given : List Unsent) → given ≡ old.unsent.items → IsUnsent (emits_next layout name.actor) past staged given
  gives given e = subst (IsUnsent (emits_next layout name.actor) past staged) (sym e) waiting

  pub stopped_stands : (kept : ℕ) → kept ≡ s.kept → after.journal.broken ≡ true → ((image : List ℕ) → port.is_image after.journal.disk image → ReadsAsEither s.journal.payloads s.journal.group image)
      → StandsFor port layout name (with_stops past staged) (record old { state = Open after; kept = kept })
  stopped_stands kept k broken either = record {
    name_is = stands.name_is;
    left = λ image i.
        left_with (IsJournal layout name) past staged s.journal.payloads s.journal.group up.journal up.held_are (journal_up layout name past staged s up) (held_up layout name past staged s up) image (either image i);
    unsent = unsent_stopped layout name.actor staged staged past old.unsent.items waiting;
    up = λ sound. absurd (not_both after.journal.broken broken sound);
    down = λ _. refl;
    kept_is = λ _. k ∙ kept_up layout name past staged s up;
  }

  -- over a strict disk
  module _ (armed passed : Option ℕ)
      (at : IsStrictAt port layout name armed passed past old) (kind : (port.state after.journal.disk).strict ≡ (port.state s.journal.disk).strict) where
    abbrev IsStrictNow : Past Message → StoreActor D → Type 0
    IsStrictNow now new = IsStrictAt port layout name (after_append armed) (passed_in armed) now new

    is_strict : IsTrue (port.state s.journal.disk).strict
    is_strict = subst (λ (d : D). IsTrue (port.state d).strict) disk_is at.is_strict

    armed_is : (port.state s.journal.disk).armed ≡ armed
    armed_is = ap (λ (d : D). (port.state d).armed) (sym disk_is) ∙ at.armed_is (ap is_shut is ∙ sound)

    still_strict : IsTrue (port.state after.journal.disk).strict
    still_strict = subst IsTrue (sym kind) is_strict

    pub stopped_strictly : (kept : ℕ) → after.journal.broken ≡ true → Appends port s.journal.disk after.journal.disk s.journal.payloads s.journal.group (Err Failed)
        → (true ≡ fails_append armed) × IsStrictNow (with_stops past staged) (record old { state = Open after; kept = kept })
    stopped_strictly kept broken appends =
        let never : (FailsWithin 4 armed → ⊥) → ⊥ = λ not. (appends.calls.strict is_strict).late (λ within. not (subst (FailsWithin 4) armed_is within)) refl in (
          fails armed never,
          record {
            is_strict = still_strict;
            armed_is = λ sound_now. absurd (not_both after.journal.broken broken sound_now);
            left = λ _ choice bytes by.
                reads_if (IsJournal layout name) past staged s.journal.payloads s.journal.group up.journal up.held_are (journal_up layout name past staged s up) (held_up layout name past staged s up)
                (keeps_group (passed_in armed) choice) bytes
                (subst (λ (o : Option ℕ). Reads bytes (left_by_choice o choice s.journal.payloads s.journal.group)) (armed_is ∙ sym (passed_is armed never)) (appends.failed is_strict refl choice bytes by));
          },
        )
