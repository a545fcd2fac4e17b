-- What a durable store stands for after a message, and reopened.
use Rattle.std.proofs.Common.{◌≡◌, ℕ, ◌+◌, ◌-◌, ◌^◌, ◌<◌, ◌≤◌, min, Bool, true, false, ◌&&◌, eqb, inr, List, [], ◌∷◌, ◌++◌, length, append_assoc, refl, sym, ap, subst, ◌∙◌, arith}
use Rattle.std.specs.Prelude.{is_some}
use Rattle.std.proofs.lemmas.Bool.{eq-eqb}
use Rattle.std.proofs.lemmas.List.{append-nil}
use Rattle.acc_stamp.specs.declared.actors.Actor.{Actor}
use Rattle.acc_topology.specs.Layout.{Layout}
use Rattle.acc_message.specs.declared.message.Message.{Message}
use Rattle.acc_message.specs.Fields.{to_of, top_of}
use Rattle.acc_message.specs.Taken.{body_in}
use Rattle.acc_message.specs.VoteRule.{greatest_h}
use Rattle.acc_message.specs.StoreRules.{replay}
use Rattle.acc_message_code.specs.Fitting.{FitsMessage}
use Rattle.acc_message_code.specs.MessageSpelling.{message_bytes}
use Rattle.acc_record.specs.Stands.{IsFor}
use Rattle.acc_store.specs.Stands as store
use Rattle.acc_journal.specs.declared.error.JournalError.{JournalError}
use Rattle.acc_journal.specs.declared.error.JournalError.TheVariants as errors
use Rattle.acc_journal.specs.Layout.{Reads}
use Rattle.acc_journal.specs.Journal.{IsOfTheDisk}
use Rattle.acc_journal.proofs.Unique.{one_list}
use Rattle.acc_payloads.specs.declared.store.StorePayload.{StorePayload}
use Rattle.acc_payloads.specs.Journals.{IsRefusedAs, appended, marked_after}
use Rattle.acc_payloads.specs.Store.{store_bytes, StoreMay, IsStoreJournal, has_mark, taken_in, is_for, IsNextFor, GrowsBy}
use Rattle.acc_payloads.specs.Items.{without_marks}
use Rattle.acc_payloads.specs.Texts.{has_text}
use Rattle.acc_payloads.proofs.StoreJournals.{grows, never_bad}
use Rattle.acc_durable_store.specs.declared.store.DurableStore.{DurableStore}
use Rattle.acc_durable_store.specs.declared.replay.Replayed.{Replayed}
use Rattle.acc_durable_store.specs.Staged.{StagedState}
use Rattle.acc_durable_store.specs.Replay.{IsReplayOf}
use Rattle.acc_durable_store.specs.Store.{actor_in, Holds, StandsFor, Takes, IsAsBefore, IsReopened, IsRefusedBy}
use Rattle.acc_durable_store.proofs.Unmarked.{group_kept, both_kept, kept_at_most}

both_true : (a b : Bool) → a ≡ true → b ≡ true → (a && b) ≡ true
both_true true b e f = f
both_true false b e f = e

is_for_own : (own : Actor) (m : Message) → IsFor own m → is_for own m ≡ true
is_for_own own m is = both_true (eqb (to_of m).0 own.0) (is_some (body_in m)) (eq-eqb (to_of m).0 own.0 (ap (λ (a : Actor). a.0) is.goes_to)) is.brings

-- ---- a message is staged

-- what staging changes
pub record Stages {D : Type 0} (old new : DurableStore D) (m : Message) : Type 0 where
  pub version : new.version ≡ old.version
  pub journal : new.journal ≡ record old.journal { group = old.journal.group ++ appended old.version old.marked (message_bytes m) }
  pub marked : new.marked ≡ marked_after old.version old.marked
  pub kept : new.kept ≡ old.kept
  pub staged : new.staged ≡ min (old.staged + 1) (2 ^ 64 - 1)
  pub long : length new.journal.group < 2 ^ 64

-- a message that the store may take
pub record MayTake {D : Type 0} (s : DurableStore D) (m : Message) : Type 0 where
  pub fits : FitsMessage m
  pub goes_to : IsFor (actor_in s) m
  pub top : top_of m < 2 ^ 62
  pub greatest : store.greatest_in s.store < 2 ^ 62
  pub texts : has_text m ≡ true → s.version ≡ 2

counted_on : (staged old kept more all : ℕ) → staged ≡ min (old + 1) (2 ^ 64 - 1) → old ≡ kept → more ≡ kept + 1 → more ≤ all → all < 2 ^ 64 → staged ≡ more
counted_on staged old kept more all e f g h i = omega (arith, e, f, g, h, i)

module _ {D : Type 0} (layout : Layout) (old new : DurableStore D) (m : Message) (sent : List Message) (may : MayTake old m) (stages : Stages old new m)
    (answers : store.Answers layout old.store new.store m sent) (messages : List Message) (stands : StandsFor layout old messages) where
  next : IsNextFor layout old.version (actor_in old) (taken_in stands.held.items) m
  next = record {
    fits = may.fits;
    goes_to = is_for_own (actor_in old) m may.goes_to;
    top = may.top;
    greatest = subst (λ (h : ℕ). h < 2 ^ 62) (stands.stands.greatest ∙ ap (λ (l : List Message). greatest_h (actor_in old) (replay layout (actor_in old) l)) (sym stands.held.taken)) may.greatest;
    texts = may.texts;
  }

  grown : GrowsBy layout old.version (actor_in old) (old.journal.payloads ++ old.journal.group) stands.held.items m
  grown = grows layout old.version (actor_in old) (old.journal.payloads ++ old.journal.group) stands.held.items m stands.held.journal next

  abbrev more : List (List ℕ)
  more = appended old.version old.marked (message_bytes m)

  payloads_are : (old.journal.payloads ++ old.journal.group) ++ appended old.version (has_mark stands.held.items) (message_bytes m) ≡ new.journal.payloads ++ new.journal.group
  payloads_are =
      ap (λ (b : Bool). (old.journal.payloads ++ old.journal.group) ++ appended old.version b (message_bytes m)) (sym stands.held.marked)
      ∙ append_assoc old.journal.payloads old.journal.group more ∙ sym (ap (λ (j : StagedState D). j.payloads ++ j.group) stages.journal)

  group_is : new.journal.group ≡ old.journal.group ++ more
  group_is = ap (λ (j : StagedState D). j.group) stages.journal

  journal_now : IsStoreJournal layout new.version (actor_in new) (new.journal.payloads ++ new.journal.group) grown.later
  journal_now =
      subst (λ (v : ℕ). IsStoreJournal layout v (actor_in new) (new.journal.payloads ++ new.journal.group) grown.later) (sym stages.version)
      (subst (λ (a : Actor). IsStoreJournal layout old.version a (new.journal.payloads ++ new.journal.group) grown.later) (sym answers.actor)
      (subst (λ (l : List (List ℕ)). IsStoreJournal layout old.version (actor_in old) l grown.later) payloads_are grown.journal))

  held : Holds layout new (m ∷ messages)
  held = record {
    items = grown.later;
    journal = journal_now;
    taken = grown.taken ∙ ap (λ (l : List Message). m ∷ l) stands.held.taken;
    marked = stages.marked ∙ ap (marked_after old.version) stands.held.marked ∙ sym grown.marked;
    kept = stages.kept ∙ stands.held.kept ∙ ap (λ (l : List (List ℕ)). min (length (without_marks l)) (2 ^ 64 - 1)) (sym (ap (λ (j : StagedState D). j.payloads) stages.journal));
    staged = counted_on new.staged old.staged (length (without_marks old.journal.group)) (length (without_marks new.journal.group)) (length new.journal.group) stages.staged stands.held.staged
        (ap (λ (l : List (List ℕ)). length (without_marks l)) group_is ∙ group_kept old.journal.group old.version old.marked m may.fits) (kept_at_most new.journal.group) stages.long;
  }

  pub takes : Takes layout old new messages m sent
  takes = record {
    answers = answers.answers messages stands.stands;
    stands = record {
      sound = ap (λ (j : StagedState D). j.broken) stages.journal ∙ stands.sound;
      stands = subst (λ (a : Actor). store.StandsFor layout new.store (replay layout a (m ∷ messages))) (sym answers.actor) (answers.stands messages stands.stands);
      held = held;
    };
  }

-- ---- nothing changes that it stands for

pub record Keeps {D : Type 0} (old new : DurableStore D) : Type 0 where
  pub version : new.version ≡ old.version
  pub actor : actor_in new ≡ actor_in old
  pub stands : (layout : Layout) (messages : List Message) → store.StandsFor layout old.store (replay layout (actor_in old) messages) → store.StandsFor layout new.store (replay layout (actor_in old) messages)
  pub marked : new.marked ≡ old.marked

module _ {D : Type 0} (old new : DurableStore D) (keeps : Keeps old new) where
  same_journal : (layout : Layout) (items : List StorePayload) (was now : List (List ℕ)) → was ≡ now → IsStoreJournal layout old.version (actor_in old) was items → IsStoreJournal layout new.version (actor_in new) now items
  same_journal layout items was now e journal =
      subst (λ (v : ℕ). IsStoreJournal layout v (actor_in new) now items) (sym keeps.version)
      (subst (λ (a : Actor). IsStoreJournal layout old.version a now items) (sym keeps.actor)
      (subst (λ (l : List (List ℕ)). IsStoreJournal layout old.version (actor_in old) l items) e journal))

  same_stands : (layout : Layout) (messages : List Message) → StandsFor layout old messages → store.StandsFor layout new.store (replay layout (actor_in new) messages)
  same_stands layout messages stands =
      subst (λ (a : Actor). store.StandsFor layout new.store (replay layout a messages)) (sym keeps.actor) (keeps.stands layout messages stands.stands)

  -- another disk, or none
  pub as_before : new.journal.broken ≡ old.journal.broken → new.journal.payloads ≡ old.journal.payloads → new.journal.group ≡ old.journal.group → new.kept ≡ old.kept → new.staged ≡ old.staged → IsAsBefore old new
  as_before broken payloads group kept staged = λ layout messages stands. record {
    sound = broken ∙ stands.sound;
    stands = same_stands layout messages stands;
    held = record {
      items = stands.held.items;
      journal = same_journal layout stands.held.items (old.journal.payloads ++ old.journal.group) (new.journal.payloads ++ new.journal.group)
          (sym (ap (λ (l : List (List ℕ)). l ++ new.journal.group) payloads ∙ ap (λ (l : List (List ℕ)). old.journal.payloads ++ l) group)) stands.held.journal;
      taken = stands.held.taken;
      marked = keeps.marked ∙ stands.held.marked;
      kept = kept ∙ stands.held.kept ∙ ap (λ (l : List (List ℕ)). min (length (without_marks l)) (2 ^ 64 - 1)) (sym payloads);
      staged = staged ∙ stands.held.staged ∙ ap (λ (l : List (List ℕ)). length (without_marks l)) (sym group);
    };
  }

  all_kept : (now old_kept old_staged before group : ℕ) → now ≡ min (old_kept + old_staged) (2 ^ 64 - 1) → old_kept ≡ min before (2 ^ 64 - 1) → old_staged ≡ group → now ≡ min (before + group) (2 ^ 64 - 1)
  all_kept now old_kept old_staged before group e f g = omega (arith, e, f, g)

  -- what was staged is in the journal
  pub settled : new.journal.broken ≡ false → new.journal.payloads ≡ old.journal.payloads ++ old.journal.group → new.journal.group ≡ [] → new.kept ≡ min (old.kept + old.staged) (2 ^ 64 - 1) → new.staged ≡ 0 → IsAsBefore old new
  settled sound payloads group kept staged = λ layout messages stands. record {
    sound = sound;
    stands = same_stands layout messages stands;
    held = record {
      items = stands.held.items;
      journal = same_journal layout stands.held.items (old.journal.payloads ++ old.journal.group) (new.journal.payloads ++ new.journal.group)
          (sym (ap (λ (l : List (List ℕ)). new.journal.payloads ++ l) group ∙ append-nil new.journal.payloads ∙ payloads)) stands.held.journal;
      taken = stands.held.taken;
      marked = keeps.marked ∙ stands.held.marked;
      kept = all_kept new.kept old.kept old.staged (length (without_marks old.journal.payloads)) (length (without_marks old.journal.group)) kept stands.held.kept stands.held.staged
          ∙ ap (λ (n : ℕ). min n (2 ^ 64 - 1)) (sym (ap (λ (l : List (List ℕ)). length (without_marks l)) payloads ∙ both_kept old.journal.payloads old.journal.group));
      staged = staged ∙ ap (λ (l : List (List ℕ)). length (without_marks l)) (sym group);
    };
  }

-- ---- fresh and reopened

pub fresh_stands : {D : Type 0} (layout : Layout) (s : DurableStore D) → s.journal.broken ≡ false → s.journal.payloads ≡ [] → s.journal.group ≡ [] → s.marked ≡ false → s.kept ≡ 0 → s.staged ≡ 0
    → store.StandsFor layout s.store [] → StandsFor layout s []
fresh_stands layout s sound payloads group marked kept staged stands = record {
  sound = sound;
  stands = stands;
  held = record {
    items = [];
    journal = record { spelled = ap (λ (l : List (List ℕ)). l ++ s.journal.group) payloads ∙ group; each = tt };
    taken = refl;
    marked = marked;
    kept = kept ∙ ap (λ (l : List (List ℕ)). min (length (without_marks l)) (2 ^ 64 - 1)) (sym payloads);
    staged = staged ∙ ap (λ (l : List (List ℕ)). length (without_marks l)) (sym group);
  };
}

pub fresh_reads : {D : Type 0} (is_image : D → List ℕ → Type 0) (now disk : D) → now ≡ disk → ((image : List ℕ) → is_image disk image → image ≡ 1 ∷ 0 ∷ []) → (image : List ℕ) → is_image now image → Reads image []
fresh_reads {D = D} is_image now disk same only = λ image is.
    record { gate = 0; behind = []; closed = λ e. omega (arith, e); short = tt; spelled = only image (subst (λ (d : D). is_image d image) same is) }

module _ {D : Type 0} (layout : Layout) (s : DurableStore D) (own : Actor) (payloads : List (List ℕ)) (r : Replayed) (replayed : IsReplayOf layout s.version own payloads r)
    (is : s.store ≡ r.store) (sound : s.journal.broken ≡ false) (read : s.journal.payloads ≡ payloads) (none : s.journal.group ≡ []) (marked : s.marked ≡ r.marked) (kept : s.kept ≡ r.kept) (staged : s.staged ≡ 0)
    (long : length payloads < 2 ^ 64) where
  actor_is : actor_in s ≡ own
  actor_is = ap store.actor_of is ∙ replayed.actor

  least : (kept count all : ℕ) → kept ≡ count → count ≤ all → all < 2 ^ 64 → kept ≡ min count (2 ^ 64 - 1)
  least kept count all e f g = omega (arith, e, f, g)

  pub reopened : IsReopened layout s s.journal.payloads
  reopened = record {
    same = refl;
    none_staged = none;
    messages = taken_in replayed.items;
    stands = record {
      sound = sound;
      stands = subst (λ (a : Actor). store.StandsFor layout s.store (replay layout a (taken_in replayed.items))) (sym actor_is)
          (subst (λ (t : _). store.StandsFor layout t (replay layout own (taken_in replayed.items))) (sym is) replayed.stands);
      held = record {
        items = replayed.items;
        journal = subst (λ (a : Actor). IsStoreJournal layout s.version a (s.journal.payloads ++ s.journal.group) replayed.items) (sym actor_is)
            (subst (λ (l : List (List ℕ)). IsStoreJournal layout s.version own l replayed.items)
            (sym (ap (λ (l : List (List ℕ)). s.journal.payloads ++ l) none ∙ append-nil s.journal.payloads ∙ read)) replayed.journal);
        taken = refl;
        marked = marked ∙ replayed.marked;
        kept = least s.kept (length (without_marks payloads)) (length payloads) (kept ∙ replayed.kept) (kept_at_most payloads) long ∙ ap (λ (l : List (List ℕ)). min (length (without_marks l)) (2 ^ 64 - 1)) (sym read);
        staged = staged ∙ ap (λ (l : List (List ℕ)). length (without_marks l)) (sym none);
      };
    };
  }

-- the refusals of a replay
pub refused_by : (layout : Layout) (version : ℕ) (own : Actor) (content : List ℕ) (payloads : List (List ℕ)) (e : JournalError) → Reads content payloads
    → IsRefusedAs store_bytes (StoreMay layout version own) payloads e → IsRefusedBy layout content version own e
refused_by layout version own content payloads errors.DiskFault reads refused = tt
refused_by layout version own content payloads (errors.BadVersion byte) reads refused = absurd refused
refused_by layout version own content payloads (errors.BadRecord place) reads refused = inr (record { payloads = payloads; reads = reads; bad = refused })
refused_by layout version own content payloads errors.OutOfMemory reads refused = tt

pub refused_never : (layout : Layout) (version : ℕ) (own : Actor) (content : List ℕ) (read given : List (List ℕ)) (items : List StorePayload) (e : JournalError) → Reads content read → Reads content given
    → IsStoreJournal layout version own given items → IsRefusedAs store_bytes (StoreMay layout version own) read e → IsOfTheDisk e
refused_never layout version own content read given items errors.DiskFault r g journal refused = tt
refused_never layout version own content read given items (errors.BadVersion byte) r g journal refused = absurd refused
refused_never layout version own content read given items (errors.BadRecord place) r g journal refused =
    absurd (never_bad layout version own read items (subst (λ (l : List (List ℕ)). IsStoreJournal layout version own l items) (one_list content given read g r) journal) place refused)
refused_never layout version own content read given items errors.OutOfMemory r g journal refused = tt
