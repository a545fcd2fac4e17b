-- The recover that starts an attempt, in its run: what it did, what comes of the attempt, and that each message of the attempt is sent by
-- later items.
use Rattle.std.proofs.Common.{◌≡◌, ℕ, suc, ◌≤◌, Bool, true, false, ◌||◌, ◌&&◌, List, [], ◌∷◌, ◌++◌, Option, None, Some, refl, sym, ◌∙◌, ap, subst, arith, ◌⊎◌, inl, inr, ⊎_elim, if◌then◌else◌}
use Rattle.std.specs.List.{list_any, flat_map, slice_get}
use Rattle.std.specs.Option.{option_map}
use Rattle.std.proofs.lemmas.Bool.{true≢false, false_from_ne_true}
use Rattle.std.proofs.lemmas.List.{append_assoc}
use Rattle.acc_stamp.specs.declared.stamps.Stamp.{Stamp}
use Rattle.acc_stamp.specs.declared.stamps.TxnId.{TxnId}
use Rattle.acc_stamp.specs.declared.stamps.Ballot.{Ballot}
use Rattle.acc_stamp.specs.declared.actors.Actor.{Actor}
use Rattle.acc_stamp.specs.Actor.{actor_of, node_of, node_of_stamp, home_of}
use Rattle.acc_stamp.specs.Stamp.{ballot_eq, stamp_eq, zero_ballot}
use Rattle.acc_stamp.proofs.Order.{stamp_order, eq_itself}
use Rattle.acc_txn.specs.declared.parts.BodyParts.{BodyParts}
use Rattle.acc_message.specs.declared.message.Message.{Message}
use Rattle.acc_message.specs.declared.message.Message.TheVariants.{Recover as RecoverMessage}
use Rattle.acc_message.specs.declared.entry.Entry.{Entry}
use Rattle.acc_message.specs.declared.entry.Emitted.{Emitted}
use Rattle.acc_message.specs.declared.entry.Event.{Event}
use Rattle.acc_message.specs.declared.entry.Event.TheVariants.{Begin, Recover, Slow, Message as TakesMessage, Restart}
use Rattle.acc_message.specs.declared.item.Item.{Item}
use Rattle.acc_message.specs.declared.item.Item.TheVariants.{Step}
use Rattle.acc_message.specs.declared.note.Note.{Note}
use Rattle.acc_message.specs.declared.note.Note.TheVariants.{Recover as RecoverNote}
use Rattle.acc_message.specs.Fields.{id_of, ballot_of}
use Rattle.acc_message.specs.Items.{same_actor, noted_in, id_of_txn, message_at}
use Rattle.acc_message.specs.Shares.{stores_used}
use Rattle.acc_message.specs.Coordinator.{ask_for_views}
use Rattle.acc_message.specs.NodeRules.{Act, Begins, Recovers, Slows, Takes, Deed, is_restart, next_ballot, node_emits}
use Rattle.acc_message.specs.Run.{Cluster, clock_start, recovers, act_of, deeds_of, is_node, emits_by, is_restart_event, MayStand, StandsOn}
use Rattle.acc_actor_laws.proofs.Standing.{not_none}
use Rattle.acc_actor_laws.proofs.OpeningFacts.{some_is}
use Rattle.acc_safety.specs.RunLaws.{drawn_in, drawn_of, AreDistinct}
use Rattle.acc_safety.specs.Places.{IsIn, First, StandsAt, Here, Back, IsPast, Whole}
use Rattle.acc_safety.specs.Histories.{Sending, Noting}
use Rattle.acc_safety.specs.Valid.{IsStanding}
use Rattle.acc_safety.proofs.PlaceOrder.{IsIn-map, map-IsIn, any_from, flat_map-IsIn, IsIn-append_left, IsIn-append_right, StandsAt-IsPast}
use Rattle.acc_safety.proofs.Bridge.{same_itself, EachStands-past, stands_at, node_step, each_emits, deeds_of-past, node_is_actor}
use Rattle.acc_safety.proofs.BodiesBegun.{distinct_draws}
use Rattle.acc_safety.proofs.DrawFacts.{is_node-node}
use Rattle.acc_safety.proofs.Frame.{past_of}
use Rattle.acc_safety.proofs.Draws.{node_of_draw, not_zero}
use Rattle.acc_calm.proofs.Delivered.{entry_deed}
use Rattle.acc_delivered.specs.Rounds.{IsRecover}
use Rattle.acc_delivered.specs.Ends.{starts, disturbs}
use Rattle.acc_delivered.proofs.Asked.{past_length}
use Rattle.acc_delivered.proofs.Drawn.{ballots_are_drawn}
use Rattle.acc_delivered.proofs.Deliveries.{place_append, append_is_past, place_cases}
use Rattle.acc_delivered.proofs.Overs.{Became, became}

-- ---- what a recover takes

recover_act : (o : Option TxnId) (p : Option BodyParts) (act : Act) → recovers o p ≡ Some act → (y : TxnId) × (body : BodyParts) × (act ≡ Recovers y body)
recover_act None p act is = absurd (not_none act is)
recover_act (Some y) None act is = absurd (not_none act is)
recover_act (Some y) (Some body) act is = (y, body, sym (some_is (Recovers y body) act is))

-- only a restart restarts
mapped_restart : {T : Type 0} (f : T → Act) (o : Option T) (act : Act) → ((t : T) → is_restart (f t) ≡ false) → option_map f o ≡ Some act → is_restart act ≡ false
mapped_restart f None act none is = absurd (not_none act is)
mapped_restart f (Some t) act none is = subst (λ k. is_restart k ≡ false) (some_is (f t) act is) (none t)

pub restarts_alone : (cluster : Cluster) (earlier : List Item) (event : Event) (act : Act) → act_of cluster earlier event ≡ Some act → is_restart_event event ≡ false
    → is_restart act ≡ false
restarts_alone cluster earlier (Begin txn) act is h = mapped_restart (Begins txn) (slice_get cluster.bodies txn) act (λ _. refl) is
restarts_alone cluster earlier (Recover txn) act is h =
    let r = recover_act (id_of_txn earlier txn) (slice_get cluster.bodies txn) act is in ap is_restart r.2
restarts_alone cluster earlier (Slow txn) act is h = mapped_restart Slows (id_of_txn earlier txn) act (λ _. refl) is
restarts_alone cluster earlier (TakesMessage number) act is h = mapped_restart Takes (message_at earlier number) act (λ _. refl) is
restarts_alone cluster earlier (Restart kept) act is h = absurd (true≢false h)

pub or_both : (b c : Bool) → (b || c) ≡ false → (b ≡ false) × (c ≡ false)
or_both true c h = absurd (true≢false h)
or_both false c h = (refl, h)

pub and_rest : (b c : Bool) → b ≡ true → (b && c) ≡ false → c ≡ false
and_rest true c h k = k
and_rest false c h k = absurd (true≢false (sym h))

pub none_of : {T : Type 0} (test : T → Bool) (x : T) (xs : List T) → list_any test xs ≡ false → IsIn x xs → test x ≡ false
none_of test x xs none there = false_from_ne_true (test x) (λ is. true≢false (sym (any_from test x xs there is) ∙ none))

pub last_place : {T : Type 0} (xs : List T) (x : T) → StandsAt x [] (xs ++ x ∷ [])
last_place [] x = Here x []
last_place (y ∷ xs) x = Back x y [] (xs ++ x ∷ []) (last_place xs x)

-- ---- drawn once

pub drawn_there : (items : List Item) (e : Entry) (earlier : List Item) (s : Stamp) (note : Note) → StandsAt (Step e) earlier items → IsIn note e.emitted.notes
    → IsIn s (drawn_in note) → IsIn s (drawn_of items)
drawn_there items e earlier s note at there draws = by (Step e) earlier items at there
  where
    by : (i : Item) (past all : List Item) → StandsAt i past all → IsIn note (noted_in i) → IsIn s (drawn_of all)
    by i past all (Here j rest) there =
        IsIn-append_left s (flat_map drawn_in (noted_in j)) (drawn_of rest) (flat_map-IsIn drawn_in s note (noted_in j) there draws)
    by i past all (Back j k rest others place) there = IsIn-append_right s (flat_map drawn_in (noted_in k)) (drawn_of others) (by j rest others place there)

module _ (cluster : Cluster) (base since : List Item) (e : Entry) (x : TxnId) (b : Ballot) (standing : IsStanding cluster ((since ++ Step e ∷ []) ++ base))
    (recover : IsRecover e.actor x b e) where
  abbrev pub later : List Item
  later = since ++ Step e ∷ []

  abbrev pub items : List Item
  items = later ++ base

  abbrev pub a : Actor
  a = e.actor

  abbrev pub start : ℕ
  start = clock_start cluster.starts (node_of a)

  abbrev pub past : List Deed
  past = deeds_of cluster a base

  abbrev pub deeds : List Deed
  deeds = deeds_of cluster a items

  pub e_at : StandsAt (Step e) base items
  e_at = place_append (Step e) [] later base (last_place since (Step e))

  pub on : StandsOn cluster base e
  on = stands_at cluster items base e e_at standing.stands

  pub acted : (y : TxnId) × (body : BodyParts) × (on.act ≡ Recovers y body)
  acted =
      recover_act (id_of_txn base recover.txn) (slice_get cluster.bodies recover.txn) on.act
      (subst (λ event. act_of cluster base event ≡ Some on.act) recover.event_is on.act_is)

  pub is_of_node : is_node a ≡ true
  is_of_node =
      let place = (subst (λ event. MayStand cluster base a on.act event) recover.event_is on.place).0 in
      subst (λ k. is_node k ≡ true) (sym place.2) (is_node-node place.0)

  emitted_is : e.emitted ≡ node_emits cluster.layout (node_of a) start past (Recovers acted.0 acted.1)
  emitted_is = on.emitted ∙ ap (λ o. emits_by o cluster a past on.act) is_of_node ∙ ap (node_emits cluster.layout (node_of a) start past) acted.2

  noted_is : RecoverNote acted.0 (next_ballot (node_of a) start past) ∷ [] ≡ RecoverNote x b ∷ []
  noted_is = sym (ap (λ (w : Emitted). w.notes) emitted_is) ∙ recover.noted

  id_is : acted.0 ≡ x
  id_is = by noted_is
    where
      by : {y z : TxnId} {c d : Ballot} → RecoverNote y c ∷ [] ≡ RecoverNote z d ∷ [] → y ≡ z
      by is = cc

  pub ballot_is : next_ballot (node_of a) start past ≡ b
  ballot_is = by noted_is
    where
      by : {y z : TxnId} {c d : Ballot} → RecoverNote y c ∷ [] ≡ RecoverNote z d ∷ [] → c ≡ d
      by is = cc

  abbrev pub body : BodyParts
  body = acted.1

  pub act_is : act_of cluster base e.event ≡ Some (Recovers x body)
  act_is = on.act_is ∙ ap Some (acted.2 ∙ ap (λ y. Recovers y body) id_is)

  abbrev pub it : Deed
  it = record { act = Recovers x body; emitted = e.emitted }

  pub it_at : StandsAt it past deeds
  it_at = entry_deed cluster items base e (Recovers x body) e_at act_is

  -- what it sends asks for views
  pub sends_views : (m : Message) → IsIn m e.emitted.out → (store : Actor) × (m ≡ RecoverMessage (actor_of (node_of a) 0) store x b body)
  sends_views m there =
      let k = IsIn-map (λ store. RecoverMessage (actor_of (node_of a) 0) store acted.0 (next_ballot (node_of a) start past) acted.1) m (stores_used cluster.layout acted.1)
      (subst (λ (w : Emitted). IsIn m w.out) emitted_is there) in (
        k.source,
        k.is ∙ ap (λ y. RecoverMessage (actor_of (node_of a) 0) k.source y (next_ballot (node_of a) start past) acted.1) id_is
            ∙ ap (λ c. RecoverMessage (actor_of (node_of a) 0) k.source x c acted.1) ballot_is,
      )

  pub views_sent : (store : Actor) → IsIn store (stores_used cluster.layout body) → IsIn (RecoverMessage (actor_of (node_of a) 0) store x b body) e.emitted.out
  views_sent store there =
      subst (λ (w : Emitted). IsIn (RecoverMessage (actor_of (node_of a) 0) store x b body) w.out) (sym emitted_is)
      (subst (λ y. IsIn (RecoverMessage (actor_of (node_of a) 0) store x b body)
      (ask_for_views cluster.layout (actor_of (node_of a) 0) y (next_ballot (node_of a) start past) body)) (sym id_is)
      (subst (λ c. IsIn (RecoverMessage (actor_of (node_of a) 0) store x b body) (ask_for_views cluster.layout (actor_of (node_of a) 0) x c body)) (sym ballot_is)
      (map-IsIn (λ k. RecoverMessage (actor_of (node_of a) 0) k x b body) store (stores_used cluster.layout body) there)))

  pub not_zero_ballot : ballot_eq b zero_ballot ≡ false
  not_zero_ballot = subst (λ c. ballot_eq c zero_ballot ≡ false) ballot_is (not_zero (node_of a) start past)

  -- messages of the attempt go to its node
  pub home_is : home_of x b ≡ a
  home_is =
      ap (λ o. actor_of (if o then node_of_stamp x.0 else node_of_stamp b.0) 0) not_zero_ballot
      ∙ ap (λ (c : Ballot). actor_of (node_of_stamp c.0) 0) (sym ballot_is)
      ∙ ap (λ n. actor_of n 0) (node_of_draw (node_of a) start past) ∙ node_is_actor a is_of_node

  -- ---- no message of it was sent before

  drawn_now : IsIn (RecoverNote x b) e.emitted.notes
  drawn_now = subst (IsIn (RecoverNote x b)) (sym recover.noted) (First (RecoverNote x b) [])

  not_noted : Noting base (RecoverNote x b) → ⊥
  not_noted n =
      true≢false
      (sym (any_from (λ s. stamp_eq s b.0) b.0 (drawn_of base) (drawn_there base n.entry n.earlier b.0 (RecoverNote x b) n.at n.noted (First b.0 [])) (eq_itself stamp_order b.0)) ∙ (distinct recover.noted).0)
    where
      distinct : e.emitted.notes ≡ RecoverNote x b ∷ [] → AreDistinct (b.0 ∷ drawn_of base)
      distinct is =
          subst (λ (notes : List Note). AreDistinct (flat_map drawn_in notes ++ drawn_of base)) is
          (distinct_draws cluster (Step e ∷ base) (EachStands-past cluster (Step e ∷ base) items (StandsAt-IsPast (Step e) base items e_at) standing.stands))

  pub sent_later : (m : Message) → id_of m ≡ x → ballot_of m ≡ b → (s : Sending items m) → IsPast base s.earlier
  sent_later m about of_ballot s = by (place_cases (Step s.entry) s.earlier later base s.at)
    where
      by : (IsIn (Step s.entry) later × IsPast base s.earlier) ⊎ StandsAt (Step s.entry) s.earlier base → IsPast base s.earlier
      by (inl now) = now.1
      by (inr before) =
          absurd (not_noted
          (subst (λ y. Noting base (RecoverNote y b)) about
          (subst (λ c. Noting base (RecoverNote (id_of m) c)) of_ballot
          (ballots_are_drawn cluster base (EachStands-past cluster base items (append_is_past later base) standing.stands) m
          (record { entry = s.entry; earlier = s.earlier; at = before; sent = s.sent })
          (ap (λ c. ballot_eq c zero_ballot) of_ballot ∙ not_zero_ballot)))))

  -- ---- what becomes of it

  module _ (alone : list_any (disturbs a x) since ≡ false) where
    undisturbed_by : (d : Deed) (p : List Deed) → StandsAt d p deeds → IsPast (it ∷ past) p → (is_restart d.act ≡ false) × (list_any (starts x) d.emitted.notes ≡ false)
    undisturbed_by d p at behind =
        let n = node_step cluster a items standing.stands d p at in
        ⊎_elim
        (λ now.
        let quiet = none_of (disturbs a x) (Step n.entry) since alone now.0 in
        let both = or_both (is_restart_event n.entry.event) (list_any (starts x) n.entry.emitted.notes)
        (and_rest (same_actor n.entry.actor a) _ (subst (λ k. same_actor k a ≡ true) (sym n.actor_is) (same_itself a)) quiet) in
        (restarts_alone cluster n.earlier n.entry.event d.act n.act_is both.0, subst (λ (w : Emitted). list_any (starts x) w.notes ≡ false) n.emitted_is both.1))
        (λ old. absurd (older n.earlier old (subst (λ k. IsPast (it ∷ past) k) (sym n.past_is) behind)))
        (place_cases (Step n.entry) n.earlier since (Step e ∷ base) (subst (StandsAt (Step n.entry) n.earlier) (append_assoc since (Step e ∷ []) base) n.at))
      where
        tail_past : (i j : Item) (earlier all : List Item) → StandsAt i earlier all → all ≡ j ∷ base → IsPast earlier base
        tail_past i j earlier all (Here k rest) same = subst (λ l. IsPast rest l) (rest_is same) (Whole rest)
          where
            rest_is : {u v : Item} {us vs : List Item} → u ∷ us ≡ v ∷ vs → us ≡ vs
            rest_is is = cc
        tail_past i j earlier all (Back k l rest others there) same = subst (λ m. IsPast rest m) (rest_is same) (past_of k rest others there)
          where
            rest_is : {u v : Item} {us vs : List Item} → u ∷ us ≡ v ∷ vs → us ≡ vs
            rest_is is = cc

        older : {i : Item} (earlier : List Item) → StandsAt i earlier (Step e ∷ base) → IsPast (it ∷ past) (deeds_of cluster a earlier) → ⊥
        older {i} earlier there behind =
            short (past_length (it ∷ past) (deeds_of cluster a earlier) behind)
            (past_length (deeds_of cluster a earlier) past (deeds_of-past cluster a earlier base (tail_past i (Step e) earlier (Step e ∷ base) there refl)))
          where
            short : {k l : ℕ} → suc k ≤ l → l ≤ k → ⊥
            short p q = omega (arith, p, q)

    pub becomes : Became cluster.layout (node_of a) start x it past body refl deeds
    becomes =
        became cluster.layout (node_of a) start x it past body refl deeds (StandsAt-IsPast it past deeds it_at) (each_emits cluster a items standing.stands is_of_node)
        undisturbed_by
