-- A transaction is begun by its home alone, so the home knows its id, and a slow is passed over by the attempt of the home.
use Rattle.std.proofs.Common.{◌≡◌, ℕ, Bool, true, false, cond, List, [], ◌∷◌, ◌++◌, Option, None, Some, unwrap_or, is_some, refl, sym, ◌∙◌, ap, subst, ⊎_elim}
use Rattle.std.specs.List.{slice_get}
use Rattle.std.specs.Option.{option_map}
use Rattle.std.proofs.lemmas.Bool.{true≢false, or_parts, eqb-true, eq-eqb, cases_Bool}
use Rattle.acc_base.specs.Faults.{or_else}
use Rattle.acc_stamp.specs.declared.stamps.TxnId.{TxnId}
use Rattle.acc_stamp.specs.declared.actors.Actor.{Actor}
use Rattle.acc_stamp.specs.Actor.{actor_of}
use Rattle.acc_txn.specs.declared.parts.BodyParts.{BodyParts}
use Rattle.acc_message.specs.declared.message.Message.{Message}
use Rattle.acc_message.specs.declared.entry.Emitted.{Emitted}
use Rattle.acc_message.specs.declared.entry.Entry.{Entry}
use Rattle.acc_message.specs.declared.entry.Event.{Event}
use Rattle.acc_message.specs.declared.entry.Event.TheVariants.{Begin, Recover, Slow, Message as TakesMessage, Restart}
use Rattle.acc_message.specs.declared.item.Skip.TheVariants.{Unknown}
use Rattle.acc_message.specs.declared.item.Item.{Item}
use Rattle.acc_message.specs.declared.item.Item.TheVariants.{Step, Skipped, Down}
use Rattle.acc_message.specs.Items.{same_actor, message_at, event_begins, is_begun, id_drawn, id_of_txn}
use Rattle.acc_message.specs.NodeRules.{Act, Begins, Recovers, Slows, Takes, Restarts, Deed, next_id, id_if_begun, begun_id, attempt_of, node_emits}
use Rattle.acc_message.specs.Run.{Cluster, clock_start, act_of, recovers, deed_with, deed_if, deeds_of, emits_by, emits, attempt_at, IsHomeOf, MayStand, StandsOn, EachStands}
use Rattle.acc_actor_laws.proofs.Standing.{not_none}
use Rattle.acc_actor_laws.proofs.OpeningFacts.{some_is}
use Rattle.acc_safety.proofs.Bridge.{same_itself}
use Rattle.acc_safety.proofs.DrawFacts.{node_is, is_node-node}
use Rattle.acc_safety.proofs.BegunFacts.{WasBegun, begun_has, id_was_begun}
use Rattle.acc_run_laws.specs.Asks.{home_of_txn, slow_skip_at, slow_skip}
use Rattle.acc_pasts.proofs.Deeds.{deeds_more, deeds_same}

or_none : {A : Type 0} (o : Option A) → or_else o None ≡ o
or_none None = refl
or_none (Some x) = refl

-- ---- what begins no transaction with this number

module _ (node start txn : ℕ) (past : List Deed) where
  begins_none : (cluster : Cluster) (earlier : List Item) (event : Event) (act : Act) → act_of cluster earlier event ≡ Some act
      → event_begins txn event ≡ false → id_if_begun node start txn past act ≡ None
  begins_none cluster earlier (Begin number) act is other = by (slice_get cluster.bodies number) is
    where
      by : (o : Option BodyParts) → option_map (Begins number) o ≡ Some act → id_if_begun node start txn past act ≡ None
      by None e = absurd (not_none act e)
      by (Some body) e =
          ap (id_if_begun node start txn past) (sym (some_is (Begins number body) act e)) ∙ ap (λ b. cond b (Some (next_id node start past)) None) other
  begins_none cluster earlier (Recover number) act is other = by (id_of_txn earlier number) (slice_get cluster.bodies number) is
    where
      by : (x : Option TxnId) (o : Option BodyParts) → recovers x o ≡ Some act → id_if_begun node start txn past act ≡ None
      by None o e = absurd (not_none act e)
      by (Some x) None e = absurd (not_none act e)
      by (Some x) (Some body) e = ap (id_if_begun node start txn past) (sym (some_is (Recovers x body) act e))
  begins_none cluster earlier (Slow number) act is other = by (id_of_txn earlier number) is
    where
      by : (o : Option TxnId) → option_map Slows o ≡ Some act → id_if_begun node start txn past act ≡ None
      by None e = absurd (not_none act e)
      by (Some x) e = ap (id_if_begun node start txn past) (sym (some_is (Slows x) act e))
  begins_none cluster earlier (TakesMessage number) act is other = by (message_at earlier number) is
    where
      by : (o : Option Message) → option_map Takes o ≡ Some act → id_if_begun node start txn past act ≡ None
      by None e = absurd (not_none act e)
      by (Some m) e = ap (id_if_begun node start txn past) (sym (some_is (Takes m) act e))
  begins_none cluster earlier (Restart kept) act is other = ap (id_if_begun node start txn past) (sym (some_is Restarts act is))

-- ---- what is not begun has no id at any node

pub not_begun : (cluster : Cluster) (items : List Item) (a : Actor) (node start txn : ℕ) → is_begun items txn ≡ false
    → begun_id node start txn (deeds_of cluster a items) ≡ None
not_begun cluster [] a node start txn h = refl
not_begun cluster (Step e ∷ earlier) a node start txn h =
    let parts = or_parts (event_begins txn e.event) (is_begun earlier txn) h in
    by (same_actor e.actor a) (act_of cluster earlier e.event) refl parts.0 (not_begun cluster earlier a node start txn parts.1)
  where
    by : (here : Bool) (o : Option Act) → act_of cluster earlier e.event ≡ o → event_begins txn e.event ≡ false
        → begun_id node start txn (deeds_of cluster a earlier) ≡ None
        → begun_id node start txn (deed_if here cluster earlier e ++ deeds_of cluster a earlier) ≡ None
    by false o is other before = before
    by true None is other before = ap (λ p. begun_id node start txn (deed_with p e.emitted ++ deeds_of cluster a earlier)) is ∙ before
    by true (Some act) is other before =
        ap (λ p. begun_id node start txn (deed_with p e.emitted ++ deeds_of cluster a earlier)) is
        ∙ ap (λ p. or_else p (id_if_begun node start txn (deeds_of cluster a earlier) act)) before
        ∙ begins_none node start txn (deeds_of cluster a earlier) cluster earlier e.event act is other
not_begun cluster (Skipped step cause ∷ earlier) a node start txn h = not_begun cluster earlier a node start txn h
not_begun cluster (Down actor ∷ earlier) a node start txn h = not_begun cluster earlier a node start txn h

-- ---- the home has the id

begin_is : (txn : ℕ) (event : Event) → event_begins txn event ≡ true → event ≡ Begin txn
begin_is txn (Begin number) h = ap Begin (eqb-true number txn h)
begin_is txn (Recover number) h = absurd (true≢false (sym h))
begin_is txn (Slow number) h = absurd (true≢false (sym h))
begin_is txn (TakesMessage number) h = absurd (true≢false (sym h))
begin_is txn (Restart kept) h = absurd (true≢false (sym h))

module _ (cluster : Cluster) (txn node : ℕ) (home_is : slice_get cluster.homes txn ≡ Some node) where
  abbrev home : Actor
  home = actor_of node 0

  abbrev start : ℕ
  start = clock_start cluster.starts node

  -- only the home begins it
  begins_at_home : (earlier : List Item) (e : Entry) → StandsOn cluster earlier e → e.event ≡ Begin txn → e.actor ≡ home
  begins_at_home earlier e s is =
      let at : IsHomeOf cluster txn e.actor = (subst (λ event. MayStand cluster earlier e.actor s.act event) is s.place).0 in
      at.2 ∙ ap (λ n. actor_of n 0) (some_is at.0 node (sym at.1 ∙ home_is))

  -- what it draws
  drawn_here : (earlier : List Item) (e : Entry) (s : StandsOn cluster earlier e) → e.event ≡ Begin txn
      → id_if_begun node start txn (deeds_of cluster home earlier) s.act ≡ id_drawn e.emitted.notes
  drawn_here earlier e s is = by (slice_get cluster.bodies txn) (subst (λ event. act_of cluster earlier event ≡ Some s.act) is s.act_is)
    where
      past : List Deed
      past = deeds_of cluster home earlier

      by : (o : Option BodyParts) → option_map (Begins txn) o ≡ Some s.act → id_if_begun node start txn past s.act ≡ id_drawn e.emitted.notes
      by None act_is = absurd (not_none s.act act_is)
      by (Some body) act_is =
          let act : Begins txn body ≡ s.act = some_is (Begins txn body) s.act act_is in
          ap (id_if_begun node start txn past) (sym act)
          ∙ ap (λ b. cond b (Some (next_id node start past)) None) (eq-eqb txn txn refl)
          ∙ sym
          (ap (λ (m : Emitted). id_drawn m.notes) s.emitted
          ∙ ap (λ c. id_drawn (emits cluster earlier e.actor c).notes) (sym act)
          ∙ ap (λ a. id_drawn (emits cluster earlier a (Begins txn body)).notes) (begins_at_home earlier e s is)
          ∙ ap (λ b. id_drawn (emits_by b cluster home past (Begins txn body)).notes) (is_node-node node)
          ∙ ap (λ n. id_drawn (node_emits cluster.layout n (clock_start cluster.starts n) past (Begins txn body)).notes) (node_is node))

  pub begun_at_home : (items : List Item) → EachStands cluster items → begun_id node start txn (deeds_of cluster home items) ≡ id_of_txn items txn
  begun_at_home [] h = refl
  begun_at_home (Step e ∷ earlier) h = by (same_actor e.actor home) (event_begins txn e.event) refl refl (begun_at_home earlier h.1)
    where
      by : (here begins : Bool) → same_actor e.actor home ≡ here → event_begins txn e.event ≡ begins
          → begun_id node start txn (deeds_of cluster home earlier) ≡ id_of_txn earlier txn
          → begun_id node start txn (deeds_of cluster home (Step e ∷ earlier)) ≡ or_else (id_of_txn earlier txn) (cond (event_begins txn e.event) (id_drawn e.emitted.notes) None)
      by true begins here is before =
          ap (begun_id node start txn) (deeds_more cluster earlier e home h.0.act here h.0.act_is)
          ∙ ap (λ o. or_else o (id_if_begun node start txn (deeds_of cluster home earlier) h.0.act)) before
          ∙ ap (or_else (id_of_txn earlier txn)) (same_id begins is)
        where
          same_id : (begins : Bool) → event_begins txn e.event ≡ begins
              → id_if_begun node start txn (deeds_of cluster home earlier) h.0.act ≡ cond (event_begins txn e.event) (id_drawn e.emitted.notes) None
          same_id true is =
              drawn_here earlier e h.0 (begin_is txn e.event is) ∙ sym (ap (λ b. cond b (id_drawn e.emitted.notes) None) is)
          same_id false is =
              begins_none node start txn (deeds_of cluster home earlier) cluster earlier e.event h.0.act h.0.act_is is
              ∙ sym (ap (λ b. cond b (id_drawn e.emitted.notes) None) is)
      by false true apart is before =
          absurd (true≢false (sym (ap (λ a. same_actor a home) (begins_at_home earlier e h.0 (begin_is txn e.event is)) ∙ same_itself home) ∙ apart))
      by false false apart is before =
          ap (begun_id node start txn) (deeds_same cluster earlier e home apart) ∙ before ∙ sym (or_none (id_of_txn earlier txn))
          ∙ sym (ap (λ b. or_else (id_of_txn earlier txn) (cond b (id_drawn e.emitted.notes) None)) is)
  begun_at_home (Skipped step cause ∷ earlier) h = begun_at_home earlier h.1 ∙ sym (or_none (id_of_txn earlier txn))
  begun_at_home (Down actor ∷ earlier) h = begun_at_home earlier h.1 ∙ sym (or_none (id_of_txn earlier txn))

  -- it has one exactly where it is begun
  pub has_begun : (items : List Item) → EachStands cluster items → is_some (begun_id node start txn (deeds_of cluster home items)) ≡ is_begun items txn
  has_begun items h =
      ap is_some (begun_at_home items h)
      ∙ ⊎_elim (λ begun. let w : WasBegun cluster items txn = begun_has cluster items txn h begun in ap is_some w.id_is ∙ sym begun) (λ unbegun. none (id_of_txn items txn) refl unbegun)
      (cases_Bool (is_begun items txn))
    where
      none : (o : Option TxnId) → id_of_txn items txn ≡ o → is_begun items txn ≡ false → is_some (id_of_txn items txn) ≡ is_begun items txn
      none None is unbegun = ap is_some is ∙ sym unbegun
      none (Some x) is unbegun = absurd (true≢false (sym (id_was_begun items txn x is) ∙ unbegun))

  -- ---- a slow

  home_there : home_of_txn cluster txn ≡ home
  home_there = ap (λ o. actor_of (unwrap_or o 0) 0) home_is

  pub slow_unbegun : (items : List Item) → EachStands cluster items → begun_id node start txn (deeds_of cluster home items) ≡ None
      → slow_skip cluster items txn (id_of_txn items txn) ≡ Some (Unknown txn)
  slow_unbegun items h none = ap (slow_skip cluster items txn) (sym (begun_at_home items h) ∙ none)

  pub slow_begun : (items : List Item) (x : TxnId) → EachStands cluster items → begun_id node start txn (deeds_of cluster home items) ≡ Some x
      → slow_skip cluster items txn (id_of_txn items txn)
      ≡ slow_skip_at cluster.layout txn x (attempt_of cluster.layout node start x (deeds_of cluster home items))
  slow_begun items x h is =
      ap (slow_skip cluster items txn) (sym (begun_at_home items h) ∙ is)
      ∙ ap (λ a. slow_skip_at cluster.layout txn x (attempt_at cluster items a x)) home_there
      ∙ ap (λ n. slow_skip_at cluster.layout txn x (attempt_of cluster.layout n (clock_start cluster.starts n) x (deeds_of cluster home items))) (node_is node)
