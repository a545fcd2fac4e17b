-- A store with its disk: its journal, what is staged beside it, and when it may take a message.
use Rattle.std.proofs.Common.{◌≡◌, ℕ, ◌-◌, ◌^◌, ◌<◌, min, false, List, [], ◌∷◌, ◌++◌, length, append-nil, sym, ap, subst, ◌∙◌}
use Rattle.acc_stamp.specs.declared.actors.Actor.{Actor}
use Rattle.acc_topology.specs.Layout.{Layout}
use Rattle.acc_ports.specs.declared.disk.Disk.{Ghosts}
use Rattle.acc_message.specs.declared.message.Message.{Message}
use Rattle.acc_message.specs.VoteRule.{greatest_h}
use Rattle.acc_message.specs.StoreRules.{replay}
use Rattle.acc_record.specs.Stands.{IsFor}
use Rattle.acc_payloads.specs.Store.{store_bytes, StoreMay, IsStoreJournal, taken_in}
use Rattle.acc_payloads.specs.Items.{AreMarked, without_marks}
use Rattle.acc_payloads.proofs.StoreJournals.{same_payload}
use Rattle.acc_store.specs.Stands as store
use Rattle.acc_durable_store.specs.declared.name.StoreName.{StoreName}
use Rattle.acc_durable_store.specs.declared.store.DurableStore.{DurableStore}
use Rattle.acc_durable_store.specs.Store as durable
use Rattle.acc_payloads.specs.declared.stops.Unsent.{Unsent}
use Rattle.acc_durable_store.specs.declared.actor.StoreActor.{StoreActor}
use Rattle.acc_durable_store.specs.declared.actor.StoreState.{StoreState}
use Rattle.acc_durable_store.specs.declared.actor.StoreState.TheVariants.{Open}
use Rattle.acc_payloads.specs.Stops.{Stop, Past, count_of, with_step, with_stops, kept_with, IsUnsent}
use Rattle.acc_durable_store.specs.Actor.{is_shut, is_down, emits_next, IsJournal, IsUp, IsUpIn, MayStage}
use Rattle.acc_payloads.proofs.Left.{held_kept}
use Rattle.acc_payloads.proofs.Marks.{without_joined, one_items}
use Rattle.acc_payloads.proofs.Marked.{store_marked}

pub marked_messages : (layout : Layout) (name : StoreName) (payloads : List (List ℕ)) (messages : List Message) → IsJournal layout name payloads messages → AreMarked name.version payloads
marked_messages layout name payloads messages j = store_marked layout name.version name.actor payloads j.items j.journal

-- a journal is of one list of messages
pub one_past : (layout : Layout) (name : StoreName) (payloads : List (List ℕ)) (messages others : List Message) → IsJournal layout name payloads messages → IsJournal layout name payloads others → messages ≡ others
one_past layout name payloads messages others j k =
    sym j.taken ∙ ap taken_in (one_items store_bytes (StoreMay layout name.version name.actor) (same_payload layout name.version name.actor) payloads j.items k.items j.journal k.journal) ∙ k.taken

-- the journal of a durable store with nothing staged
pub journal_of : {D : Type 0} (layout : Layout) (s : DurableStore D) (messages : List Message) → durable.StandsFor layout s messages → s.journal.group ≡ [] → IsJournal layout (durable.name_in s) s.journal.payloads messages
journal_of layout s messages d none = record {
  items = d.held.items;
  journal = subst (λ (l : List (List ℕ)). IsStoreJournal layout s.version (durable.actor_in s) l d.held.items) (ap (λ (l : List (List ℕ)). s.journal.payloads ++ l) none ∙ append-nil s.journal.payloads) d.held.journal;
  taken = d.held.taken;
}

-- ---- what is staged

-- there is something
pub not_more : {T : Type 0} (stops : List (Stop T)) (stop : Stop T) → stops ++ stop ∷ [] ≡ [] → ⊥
not_more [] stop e = absurd cc
not_more (first ∷ stops) stop e = absurd cc

module _ (layout : Layout) (own : Actor) where
  abbrev pub AreUnsent : Past Message → List (Stop Message) → List Unsent → Type 0
  AreUnsent past stops unsent = IsUnsent (emits_next layout own) past stops unsent

  -- one more
  pub unsent_more : (stops : List (Stop Message)) (past : Past Message) (unsent : List Unsent) (stop : Stop Message) (last : Unsent) → AreUnsent past stops unsent → last.event ≡ stop.event
      → last.emitted ≡ emits_next layout own (kept_with stops past) stop.act → AreUnsent past (stops ++ stop ∷ []) (unsent ++ last ∷ [])
  unsent_more [] past [] stop last h e f = (e, f, tt)
  unsent_more [] past (x ∷ xs) stop last h e f = absurd h
  unsent_more (first ∷ stops) past [] stop last h e f = absurd h
  unsent_more (first ∷ stops) past (x ∷ xs) stop last h e f = (h.0, h.1, unsent_more stops (with_step past first) xs stop last h.2 e f)

  -- a fault stops them
  pub unsent_stopped : (stops others : List (Stop Message)) (past : Past Message) (unsent : List Unsent) → AreUnsent past stops unsent → AreUnsent (with_stops past others) stops unsent
  unsent_stopped [] others past [] h = h
  unsent_stopped [] others past (x ∷ xs) h = h
  unsent_stopped (stop ∷ stops) others past [] h = h
  unsent_stopped (stop ∷ stops) others past (x ∷ xs) h = h

  -- where nothing was stopped
  module _ (past : Past Message) (none : past.stopped ≡ []) (staged : List (Stop Message)) where
    all_staged : staged ++ past.stopped ≡ staged
    all_staged = ap (λ (l : List (Stop Message)). staged ++ l) none ∙ append-nil staged

    pub unsent_staged : (unsent : List Unsent) → AreUnsent past (staged ++ past.stopped) unsent → AreUnsent past staged unsent
    unsent_staged unsent h = subst (λ (l : List (Stop Message)). AreUnsent past l unsent) all_staged h

    pub staged_unsent : (unsent : List Unsent) → AreUnsent past staged unsent → AreUnsent past (staged ++ past.stopped) unsent
    staged_unsent unsent h = subst (λ (l : List (Stop Message)). AreUnsent past l unsent) (sym all_staged) h

-- ---- a durable store that is up

module _ {D : Type 0} (layout : Layout) (name : StoreName) (past : Past Message) (staged : List (Stop Message)) (s : DurableStore D) (up : IsUp layout name past staged s) where
  -- the journal as it is once what is staged is appended
  pub journal_up : IsJournal layout name (s.journal.payloads ++ s.journal.group) (kept_with staged past).acts
  journal_up =
      subst (λ (n : StoreName). IsJournal layout n (s.journal.payloads ++ s.journal.group) (kept_with staged past).acts) up.name_is
      (record { items = up.stands.held.items; journal = up.stands.held.journal; taken = up.stands.held.taken })

  pub held_up : without_marks (s.journal.payloads ++ s.journal.group) ≡ (kept_with staged past).held
  held_up =
      without_joined s.journal.payloads s.journal.group ∙ ap (λ (l : List (List ℕ)). l ++ without_marks s.journal.group) up.held_are
      ∙ ap (λ (l : List (List ℕ)). past.held ++ l) up.staged_are ∙ sym (held_kept staged past)

  -- how many messages it has
  pub kept_up : s.kept ≡ count_of past
  kept_up = up.stands.held.kept ∙ ap (λ (l : List (List ℕ)). min (length l) (2 ^ 64 - 1)) up.held_are

  pub stands_up : store.StandsFor layout s.store (replay layout name.actor (kept_with staged past).acts)
  stands_up =
      subst (λ (n : StoreName). store.StandsFor layout s.store (replay layout n.actor (kept_with staged past).acts)) up.name_is up.stands.stands

  pub greatest_up : store.greatest_in s.store ≡ greatest_h name.actor (replay layout name.actor (kept_with staged past).acts)
  greatest_up =
      subst (λ (n : StoreName). store.greatest_in s.store ≡ greatest_h n.actor (replay layout n.actor (kept_with staged past).acts)) up.name_is up.stands.stands.greatest

pub up_in : {D : Type 0} (layout : Layout) (name : StoreName) (past : Past Message) (staged : List (Stop Message)) (state : StoreState D) (s : DurableStore D) → state ≡ Open s → IsUpIn layout name past staged state → IsUp layout name past staged s
up_in layout name past staged state s e up = subst (IsUpIn layout name past staged) e up

-- ---- a message that it may take

pub can_take : {D : Type 0} (port : Ghosts D) (layout : Layout) (old : StoreActor D) (s : DurableStore D) (m : Message) → old.state ≡ Open s → is_down old ≡ false → MayStage port layout old m → durable.CanTake layout s m
can_take port layout old s m is sound may =
    let up : IsUp layout may.1.name may.1.past may.0 s = up_in layout may.1.name may.1.past may.0 old.state s is (may.1.stands.up sound) in
    record {
      sound = ap is_shut (sym is) ∙ sound;
      short = may.1.short;
      goes_here = subst (λ (n : StoreName). IsFor n.actor m) (sym up.name_is) may.1.goes_here;
      top = may.1.top;
      greatest = subst (λ (h : ℕ). h < 2 ^ 62) (sym (greatest_up layout may.1.name may.1.past may.0 s up)) may.1.greatest;
      stands = ((kept_with may.0 may.1.past).acts, up.stands.stands);
      texts = λ text. ap (λ (n : StoreName). n.version) up.name_is ∙ may.1.texts text;
    }
