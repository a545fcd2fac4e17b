-- What steps of a healing add to the recovers of one transaction: a turn one at most, at the node of its id, and any other step none.
use Rattle.std.proofs.Common.{◌≡◌, ℕ, suc, ◌+◌, ◌≤◌, Bool, true, false, not, ◌&&◌, ◌||◌, cond, List, [], ◌∷◌, ◌++◌, length, Option, None, Some, refl, sym, ◌∙◌, ap, subst, arith, length-append}
use Rattle.std.specs.Prelude.{filter}
use Rattle.std.specs.List.{list_any, slice_get, AllByRecursion}
use Rattle.std.specs.Option.{option_map}
use Rattle.std.proofs.lemmas.List.{append_assoc, append_cancel_right}
use Rattle.std.proofs.lemmas.List.Elements.{filter-append}
use Rattle.acc_stamp.specs.declared.stamps.TxnId.{TxnId}
use Rattle.acc_stamp.specs.declared.actors.Actor.{Actor}
use Rattle.acc_stamp.specs.Actor.{node_of, node_of_stamp, actor_of}
use Rattle.acc_stamp.specs.Stamp.{id_eq}
use Rattle.acc_stamp.proofs.Order.{id_order}
use Rattle.acc_stamp.proofs.Rising.{each_append}
use Rattle.acc_topology.specs.Layout.{Layout}
use Rattle.acc_txn.specs.declared.parts.BodyParts.{BodyParts}
use Rattle.acc_message.specs.declared.message.Message.{Message}
use Rattle.acc_message.specs.declared.note.Note.{Note}
use Rattle.acc_message.specs.declared.note.Note.TheVariants.{Recover as RecoverNote}
use Rattle.acc_message.specs.declared.entry.Event.{Event}
use Rattle.acc_message.specs.declared.entry.Event.TheVariants.{Recover as RecoverEvent, Message as MessageEvent, Restart as RestartEvent}
use Rattle.acc_message.specs.declared.item.Item.{Item}
use Rattle.acc_message.specs.declared.item.Item.TheVariants.{Skipped, Down}
use Rattle.acc_message.specs.declared.item.Skip.{Skip}
use Rattle.acc_message.specs.Coordinator.{home_node}
use Rattle.acc_message.specs.Items.{message_at, id_of_txn}
use Rattle.acc_message.specs.NodeRules.{Act, Recovers, Takes, Restarts, Deed, next_ballot, node_emits}
use Rattle.acc_message.specs.Run.{Cluster, clock_start, taken_from, act_of, recovers, deeds_of, emits, emits_by, is_node}
use Rattle.acc_run_laws.specs.Asks.{emits_if}
use Rattle.acc_run_laws.proofs.Begun.{store_notes_none}
use Rattle.acc_safety.specs.Places.{IsIn, First, Later}
use Rattle.acc_safety.specs.NodeMoves.{NodeNotes, NotesBegin, NotesRecover, NotesDecision, NotesOutcome, NotesReply, NotesTold, NotesBlocked, NotesEnded}
use Rattle.acc_safety.proofs.DrawFacts.{is_node-node, node_is}
use Rattle.acc_safety.proofs.NodeSent.{node_notes}
use Rattle.acc_schedule.specs.declared.plan.Step.{Step}
use Rattle.acc_schedule.specs.declared.plan.Step.TheVariants.{Begin, Deliver, Drop, Recover, Slow, Restart, Fail, Drain}
use Rattle.acc_schedule_runs.specs.Situations.{Situation, whole, receiver_in}
use Rattle.acc_schedule_runs.specs.Moves.{Answers, fails_in, is_journalled, event_in, entry_of, entered, entered_all, tried_if, tried, stepped_unless, recover_skip, kept_if, with_kept, reopened, restarted_if, Drains, stops, delivers, IsNext}
use Rattle.acc_heal_laws.specs.Laws.{recovers_it, is_recover_of, is_at_home}

-- a step of a reopening
abbrev pub IsReopen : Step → Type 0
IsReopen (Restart actor choice) = Unit {0}
IsReopen (Fail actor calls) = Unit {0}
IsReopen _ = ⊥

module _ (x : TxnId) where
  -- ---- so many recovers of it

  -- the second items are the first ones and more, with so many recovers of x at most, all at its node
  pub record AddsFew (count : ℕ) (before after : List Item) : Type 0 where
    pub later : List Item
    pub items_are : after ≡ later ++ before
    pub few : length (filter (is_recover_of x) later) ≤ count
    pub home : AllByRecursion (is_at_home x) (filter (is_recover_of x) later)

  pub few_none : (before after : List Item) → after ≡ before → AddsFew 0 before after
  few_none before after is = record { later = []; items_are = is; few = omega arith; home = tt }

  pub few_weaker : (count more : ℕ) (before after : List Item) → count ≤ more → AddsFew count before after → AddsFew more before after
  few_weaker count more before after less a = record { later = a.later; items_are = a.items_are; few = omega (arith, less, a.few); home = a.home }

  pub few_chain : (count more : ℕ) (one two three : List Item) → AddsFew count one two → AddsFew more two three → AddsFew (count + more) one three
  few_chain count more one two three a b =
      let parts : filter (is_recover_of x) (b.later ++ a.later) ≡ filter (is_recover_of x) b.later ++ filter (is_recover_of x) a.later =
      filter-append (is_recover_of x) b.later a.later in
      record {
        later = b.later ++ a.later;
        items_are = b.items_are ∙ ap (λ k. b.later ++ k) a.items_are ∙ sym (append_assoc b.later a.later one);
        few =
            sum a.few b.few (ap length parts) (length-append (filter (is_recover_of x) b.later) (filter (is_recover_of x) a.later));
        home = subst (AllByRecursion (is_at_home x)) (sym parts) (each_append (is_at_home x) (filter (is_recover_of x) b.later) (filter (is_recover_of x) a.later) b.home a.home);
      }
    where
      sum : {i j k l : ℕ} → i ≤ count → j ≤ more → k ≡ l → l ≡ j + i → k ≤ count + more
      sum p q r s = omega (arith, p, q, r, s)

  few_other : (item : Item) (before after : List Item) → after ≡ item ∷ before → is_recover_of x item ≡ false → AddsFew 0 before after
  few_other item before after is other =
      let none : filter (is_recover_of x) (item ∷ []) ≡ [] = ap (λ o. cond o (item ∷ []) []) other in
      record {
        later = item ∷ [];
        items_are = is;
        few = subst (λ l. length l ≤ 0) (sym none) (omega arith);
        home = subst (AllByRecursion (is_at_home x)) (sym none) tt;
      }

  few_one : (item : Item) (before after : List Item) → after ≡ item ∷ before → is_at_home x item → AddsFew 1 before after
  few_one item before after is home = by (is_recover_of x item) refl
    where
      by : (o : Bool) → is_recover_of x item ≡ o → AddsFew 1 before after
      by false other = few_weaker 0 1 before after (omega arith) (few_other item before after is other)
      by true its =
          let one : filter (is_recover_of x) (item ∷ []) ≡ item ∷ [] = ap (λ o. cond o (item ∷ []) []) its in
          record {
            later = item ∷ [];
            items_are = is;
            few = subst (λ l. length l ≤ 1) (sym one) (omega arith);
            home = subst (AllByRecursion (is_at_home x)) (sym one) (home, tt);
          }

  -- what was added has no recover of x
  pub few_nothing : (before after later : List Item) → AddsFew 0 before after → after ≡ later ++ before → list_any (is_recover_of x) later ≡ false
  few_nothing before after later a is =
      subst (λ l. list_any (is_recover_of x) l ≡ false) (append_cancel_right a.later later before (sym a.items_are ∙ is)) (none a.later a.few)
    where
      none : (items : List Item) → length (filter (is_recover_of x) items) ≤ 0 → list_any (is_recover_of x) items ≡ false
      none [] few = refl
      none (item ∷ items) few = by (is_recover_of x item) few (none items)
        where
          never : {n : ℕ} → suc n ≤ 0 → ⊥
          never h = omega (arith, h)

          by : (o : Bool) → length (cond o (item ∷ filter (is_recover_of x) items) (filter (is_recover_of x) items)) ≤ 0
              → (length (filter (is_recover_of x) items) ≤ 0 → list_any (is_recover_of x) items ≡ false) → (o || list_any (is_recover_of x) items) ≡ false
          by true h rest = absurd (never h)
          by false h rest = rest h

  -- how often x is y
  abbrev pub one_of : TxnId → ℕ
  one_of y = cond (id_eq y x) 1 0

  -- ---- what acts note

  abbrev IsOther : Act → Type 0
  IsOther act = (y : TxnId) (body : BodyParts) → act ≡ Recovers y body → ⊥

  other_note : (layout : Layout) (node start : ℕ) (past : List Deed) (act : Act) (note : Note) → IsOther act → NodeNotes layout node start past act note → recovers_it x note ≡ false
  other_note layout node start past act note other (NotesBegin txn body) = refl
  other_note layout node start past act note other (NotesRecover y body) = absurd (other y body refl)
  other_note layout node start past act note other (NotesDecision on y a path s reacts) = refl
  other_note layout node start past act note other (NotesOutcome on y a s outcome reacts) = refl
  other_note layout node start past act note other (NotesReply on y a s outcome reacts client) = refl
  other_note layout node start past act note other (NotesTold from to y b outcome client) = refl
  other_note layout node start past act note other (NotesBlocked on y a by reacts) = refl
  other_note layout node start past act note other (NotesEnded on y a by reacts) = refl

  none_noted : (notes : List Note) → ((note : Note) → IsIn note notes → recovers_it x note ≡ false) → list_any (recovers_it x) notes ≡ false
  none_noted [] each = refl
  none_noted (note ∷ notes) each =
      ap (λ o. o || list_any (recovers_it x) notes) (each note (First note notes)) ∙ none_noted notes (λ k there. each k (Later k note notes there))

  other_act : (cluster : Cluster) (items : List Item) (a : Actor) (act : Act) → IsOther act → list_any (recovers_it x) (emits cluster items a act).notes ≡ false
  other_act cluster items a act other = by (is_node a)
    where
      by : (b : Bool) → list_any (recovers_it x) (emits_by b cluster a (deeds_of cluster a items) act).notes ≡ false
      by true =
          none_noted (emits_by true cluster a (deeds_of cluster a items) act).notes
          (λ note there.
          other_note cluster.layout (node_of a) (clock_start cluster.starts (node_of a)) (deeds_of cluster a items) act note other
          (node_notes cluster.layout (node_of a) (clock_start cluster.starts (node_of a)) (deeds_of cluster a items) act note there))
      by false = ap (list_any (recovers_it x)) (store_notes_none cluster.layout a (taken_from (deeds_of cluster a items)) act)

  other_acts : (cluster : Cluster) (items : List Item) (a : Actor) (o : Option Act) → ((act : Act) → o ≡ Some act → IsOther act)
      → list_any (recovers_it x) (emits_if cluster items a o).notes ≡ false
  other_acts cluster items a None other = refl
  other_acts cluster items a (Some act) other = other_act cluster items a act (other act refl)

  and_none : (o p : Bool) → p ≡ false → (o && p) ≡ false
  and_none true p h = h
  and_none false p h = refl

  other_entry : (cluster : Cluster) (s : Situation) (a : Actor) (event : Event) (lost : Bool)
      → ((act : Act) → act_of cluster (whole s) (event_in s event) ≡ Some act → IsOther act) → is_recover_of x (entry_of cluster s a event lost) ≡ false
  other_entry cluster s a event lost other =
      and_none (not lost) (list_any (recovers_it x) (emits_if cluster (whole s) a (act_of cluster (whole s) (event_in s event))).notes)
      (other_acts cluster (whole s) a (act_of cluster (whole s) (event_in s event)) other)

  same_act : (one two : Act) → Some one ≡ Some two → one ≡ two
  same_act one two e = cc

  no_act : (act : Act) → None ≡ Some act → ⊥
  no_act act e = cc

  taking_other : (o : Option Message) (act : Act) → option_map Takes o ≡ Some act → IsOther act
  taking_other None act e y body is = no_act act e
  taking_other (Some m) act e y body is = apart (same_act (Takes m) act e ∙ is)
    where
      apart : Takes m ≡ Recovers y body → ⊥
      apart f = cc

  restart_other : (act : Act) → Some Restarts ≡ Some act → IsOther act
  restart_other act e y body is = apart (same_act Restarts act e ∙ is)
    where
      apart : Restarts ≡ Recovers y body → ⊥
      apart f = cc

  -- ---- steps that recover nothing

  module _ (cluster : Cluster) (answers : Answers) where
    message_few : (s : Situation) (a : Actor) (n : ℕ) → AddsFew 0 s.own (tried cluster answers s a (MessageEvent n)).own
    message_few s a n = by (is_journalled a (MessageEvent n) && fails_in answers s)
      where
        by : (o : Bool) → AddsFew 0 s.own (tried_if o cluster s a (MessageEvent n)).own
        by true = few_other (Down a) s.own (tried_if true cluster s a (MessageEvent n)).own refl refl
        by false =
            few_other (entry_of cluster s a (MessageEvent n) false) s.own (tried_if false cluster s a (MessageEvent n)).own refl
            (other_entry cluster s a (MessageEvent n) false (taking_other (message_at (whole s) _)))

    pub drain_few : (last s : Situation) → Drains cluster answers last s → AddsFew 0 s.own last.own
    drain_few last s (stops _ none is) = few_none s.own last.own (ap (λ (t : Situation). t.own) is)
    drain_few last s (delivers _ n oldest rest) =
        let t : Situation = tried cluster answers s (receiver_in s n) (MessageEvent n) in
        few_chain 0 0 s.own t.own last.own (message_few s (receiver_in s n) n) (drain_few last t rest)

    lost_few : (s : Situation) (a : Actor) (events : List Event) → AddsFew 0 s.own (entered_all cluster s a events true).own
    lost_few s a [] = few_none s.own s.own refl
    lost_few s a (event ∷ events) =
        let t : Situation = entered cluster s a event true in
        few_chain 0 0 s.own t.own (entered_all cluster t a events true).own (few_other (entry_of cluster s a event true) s.own t.own refl refl)
        (lost_few t a events)

    restart_few : (fails : Bool) (s : Situation) (a : Actor) → AddsFew 0 s.own (restarted_if fails cluster answers s a).own
    restart_few true s a = few_other (Down a) s.own (restarted_if true cluster answers s a).own refl refl
    restart_few false s a =
        let kept : List Event = kept_if (answers.keeps (length s.own)) a s in
        let t : Situation = with_kept cluster s a kept in
        few_chain 0 0 s.own t.own (reopened cluster s a kept).own (lost_few s a kept)
        (few_other (entry_of cluster t a (RestartEvent (length kept)) false) t.own (reopened cluster s a kept).own refl
        (other_entry cluster t a (RestartEvent (length kept)) false restart_other))

    pub reopen_few : (number : ℕ) (step : Step) (s next : Situation) → IsReopen step → IsNext cluster answers number step s next → AddsFew 0 s.own next.own
    reopen_few number (Restart a choice) s next reopen is =
        subst (λ (t : Situation). AddsFew 0 s.own t.own) (sym is) (restart_few (fails_in answers s) s a)
    reopen_few number (Fail a calls) s next reopen is = few_none s.own next.own (ap (λ (t : Situation). t.own) is)
    reopen_few number (Begin txn) s next reopen is = absurd reopen
    reopen_few number (Deliver message) s next reopen is = absurd reopen
    reopen_few number (Drop message) s next reopen is = absurd reopen
    reopen_few number (Recover txn node) s next reopen is = absurd reopen
    reopen_few number (Slow txn) s next reopen is = absurd reopen
    reopen_few number Drain s next reopen is = absurd reopen

    -- ---- a recover

    recover_notes : (items : List Item) (node : ℕ) (y : TxnId) (body : BodyParts)
        → (emits cluster items (actor_of node 0) (Recovers y body)).notes
        ≡ RecoverNote y (next_ballot node (clock_start cluster.starts node) (deeds_of cluster (actor_of node 0) items)) ∷ []
    recover_notes items node y body =
        ap (λ o. (emits_by o cluster (actor_of node 0) (deeds_of cluster (actor_of node 0) items) (Recovers y body)).notes) (is_node-node node)
        ∙ ap (λ n. (node_emits cluster.layout n (clock_start cluster.starts n) (deeds_of cluster (actor_of node 0) items) (Recovers y body)).notes) (node_is node)

    other_recover : (items : List Item) (y : TxnId) (o : Option BodyParts) → id_eq y x ≡ false
        → list_any (recovers_it x) (emits_if cluster items (home_node y) (recovers (Some y) o)).notes ≡ false
    other_recover items y None other = refl
    other_recover items y (Some body) other =
        ap (list_any (recovers_it x)) (recover_notes items (node_of_stamp y.0) y body) ∙ ap (λ o. o || false) other

    pub recover_few : (number : ℕ) (s next : Situation) (y : TxnId) (txn : ℕ) → id_of_txn (whole s) txn ≡ Some y
        → IsNext cluster answers number (Recover txn (node_of_stamp y.0)) s next → AddsFew (one_of y) s.own next.own
    recover_few number s next y txn id_is is =
        subst (λ (t : Situation). AddsFew (one_of y) s.own t.own) (sym is) (by (recover_skip s txn (node_of_stamp y.0)))
      where
        none : (after : List Item) → AddsFew 0 s.own after → AddsFew (one_of y) s.own after
        none after few = few_weaker 0 (one_of y) s.own after (omega arith) few

        entry : (o : Bool) → id_eq y x ≡ o → AddsFew (one_of y) s.own (entered cluster s (home_node y) (RecoverEvent txn) false).own
        entry true same =
            subst (λ o. AddsFew (cond o 1 0) s.own (entered cluster s (home_node y) (RecoverEvent txn) false).own) (sym same)
            (few_one (entry_of cluster s (home_node y) (RecoverEvent txn) false) s.own (entered cluster s (home_node y) (RecoverEvent txn) false).own refl
            (ap home_node ((id_order.decides y x).0 same)))
        entry false other =
            none (entered cluster s (home_node y) (RecoverEvent txn) false).own
            (few_other (entry_of cluster s (home_node y) (RecoverEvent txn) false) s.own (entered cluster s (home_node y) (RecoverEvent txn) false).own refl
            (subst (λ o. list_any (recovers_it x) (emits_if cluster (whole s) (home_node y) (recovers o (slice_get cluster.bodies txn))).notes ≡ false)
            (sym id_is) (other_recover (whole s) y (slice_get cluster.bodies txn) other)))

        tries : (o : Bool) → AddsFew (one_of y) s.own (tried_if o cluster s (home_node y) (RecoverEvent txn)).own
        tries true =
            none (tried_if true cluster s (home_node y) (RecoverEvent txn)).own
            (few_other (Down (home_node y)) s.own (tried_if true cluster s (home_node y) (RecoverEvent txn)).own refl refl)
        tries false = entry (id_eq y x) refl

        by : (skip : Option Skip) → AddsFew (one_of y) s.own (stepped_unless skip cluster answers number s (home_node y) (RecoverEvent txn)).own
        by (Some cause) =
            none (Skipped number cause ∷ s.own) (few_other (Skipped number cause) s.own (Skipped number cause ∷ s.own) refl refl)
        by None = tries (fails_in answers s)
