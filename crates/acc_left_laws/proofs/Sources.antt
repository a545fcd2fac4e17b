-- The draws that ids and ballots of a run come from: each id that was begun was drawn by a begin, and each ballot but
-- zero by a recover.
use Rattle.std.proofs.Common.{◌≡◌, ℕ, ◌*◌, true, List, [], ◌∷◌, Contains, Some, refl, sym, ap, subst, ◌∙◌, ◌⊎◌, inl, inr}
use Rattle.acc_stamp.specs.declared.actors.Actor.{Actor}
use Rattle.acc_stamp.specs.declared.stamps.Ballot.{Ballot}
use Rattle.acc_stamp.specs.declared.stamps.Stamp.{Stamp}
use Rattle.acc_stamp.specs.declared.stamps.TxnId.{TxnId}
use Rattle.acc_stamp.specs.Actor.{node_of}
use Rattle.acc_stamp.specs.History.{Draw as DrawEvent}
use Rattle.acc_stamp.specs.Stamp.{zero_ballot}
use Rattle.acc_stamp.proofs.History.{draws_are_of_node}
use Rattle.acc_topology.specs.Layout.{Layout}
use Rattle.acc_txn.specs.declared.parts.BodyParts.{BodyParts}
use Rattle.acc_message.specs.declared.message.Message.{Message}
use Rattle.acc_message.specs.declared.note.Note.TheVariants.{Begin as BeginNote}
use Rattle.acc_message.specs.declared.entry.Emitted.{Emitted}
use Rattle.acc_message.specs.declared.entry.Event.{Event}
use Rattle.acc_message.specs.declared.entry.Event.TheVariants.{Begin as BeginEvent, Recover as RecoverEvent}
use Rattle.acc_message.specs.declared.item.Item.{Item}
use Rattle.acc_message.specs.declared.item.Item.TheVariants.{Step}
use Rattle.acc_message.specs.Fields.{ballot_of, id_of}
use Rattle.acc_message.specs.Items.{same_actor, txn_begun, txn_of}
use Rattle.acc_message.specs.Attempts.{Attempt}
use Rattle.acc_message.specs.NodeRules.{Act, Begins, Recovers, Deed, clock_events, next_ballot, next_draw, node_emits}
use Rattle.acc_message.specs.Run.{Cluster, clock_start, deeds_of, is_node, EachStands, MayStand}
use Rattle.acc_safety.specs.Attempted.{Origin, FromBegin, FromRecover}
use Rattle.acc_safety.specs.Histories.{Noting, NodeStep, NotedBy}
use Rattle.acc_safety.specs.NodeMoves.{Move, Reacts, NodeSends, AsksForVotes, AsksForViews, Proposes, Commits as CommitsTo, Decides, Finishes, Informs}
use Rattle.acc_safety.specs.Places.{IsIn, First, StandsAt, IsPast}
use Rattle.acc_safety.specs.Valid.{IsValidCluster}
use Rattle.acc_safety.proofs.Attempted.{origin_of}
use Rattle.acc_safety.proofs.BodiesBegun.{begin_entry, distinct_draws, txn_begun_there, BeginEntry}
use Rattle.acc_safety.proofs.Bridge.{each_emits, emits_at, node_step, noted_by, same_itself}
use Rattle.acc_safety.proofs.Frame.{before_reacts, node_noted, past_of, Before}
use Rattle.acc_safety.proofs.PlaceOrder.{IsIn-Contains, StandsAt-behind, StandsAt-whole}
use Rattle.acc_run_laws.proofs.Layouts.{at_home, at_node}
use Rattle.acc_payloads.specs.declared.draw.Purpose.{Purpose}
use Rattle.acc_payloads.specs.declared.draw.Purpose.TheVariants.{Begin, Recover}
use Rattle.acc_payloads.specs.declared.draw.Draw.{Draw}
use Rattle.acc_schedule.specs.Actors.{actors}
use Rattle.acc_left_laws.proofs.Beginnings.{begin_event, begins_here, recover_event, BeginsHere, RecoversNumber}
use Rattle.acc_left_laws.proofs.Drawn.{draw_there, draws_by, draws_of}

-- an actor of the cluster drew the stamp for this, by its journal
pub record DrewStamp (cluster : Cluster) (items : List Item) (purpose : Purpose) (txn : ℕ) (stamp : Stamp) : Type 0 where
  pub actor : Actor
  pub node : is_node actor ≡ true
  pub known : Contains (actors cluster.layout) actor
  pub draw : Draw
  pub there : IsIn draw (draws_of actor items)
  pub purpose_is : draw.purpose ≡ purpose
  pub number : draw.txn ≡ txn
  pub stamp_is : stamp ≡ record { h = draw.h; origin = node_of actor * 64 }

-- the attempt with this ballot was begun, or recovered in this deed of the node
pub record DrewBallot (node start : ℕ) (deeds : List Deed) (x : TxnId) (b : Ballot) : Type 0 where
  pub deed : Deed
  pub past : List Deed
  pub body : BodyParts
  pub at : StandsAt deed past deeds
  pub act_is : deed.act ≡ Recovers x body
  pub ballot_is : b ≡ next_ballot node start past

-- ---- the ballot of what a node sends

module _ (layout : Layout) (node start : ℕ) (deeds : List Deed) where
  abbrev pub HasBallot : TxnId → Ballot → Type 0
  HasBallot x b = (b ≡ zero_ballot) ⊎ DrewBallot node start deeds x b

  of_attempt : (past : List Deed) (x : TxnId) (a : Attempt) → IsPast past deeds → Origin layout node start x past a → HasBallot x a.ballot
  of_attempt past x a within (FromBegin txn deed before place act_is drawn zero) = inl zero
  of_attempt past x a within (FromRecover deed before place act_is drawn) =
      inr (record { deed = deed; past = before; body = a.body; at = StandsAt-whole deed before past deeds place within; act_is = act_is; ballot_is = drawn })

  of_reaction : (past : List Deed) (x : TxnId) (act : Act) (a : Attempt) (move : Move) → IsPast past deeds → Reacts layout node start past x act a move → HasBallot x a.ballot
  of_reaction past x act a move within reacts =
      let before : Before layout node start past x a = before_reacts layout node start past x act a move reacts in
      subst (HasBallot x) before.same_ballot (of_attempt past x before.attempt within (origin_of layout node start x past before.attempt before.is))

  pub of_sending : (deed : Deed) (past : List Deed) (act : Act) (m : Message) → StandsAt deed past deeds → deed.act ≡ act → NodeSends layout node start past act m
      → HasBallot (id_of m) (ballot_of m)
  of_sending deed past act m at is (AsksForVotes txn body store) = inl refl
  of_sending deed past act m at is (AsksForViews x body store) = inr (record { deed = deed; past = past; body = body; at = at; act_is = is; ballot_is = refl })
  of_sending deed past act m at is (Proposes on x a s store reacts) = of_reaction past x on a _ (past_of deed past deeds at) reacts
  of_sending deed past act m at is (CommitsTo on x a s store reacts) = of_reaction past x on a _ (past_of deed past deeds at) reacts
  of_sending deed past act m at is (Decides on x a path s store reacts noted) = of_reaction past x on a _ (past_of deed past deeds at) reacts
  of_sending deed past act m at is (Finishes on x a s outcome store reacts) = of_reaction past x on a _ (past_of deed past deeds at) reacts
  of_sending deed past act m at is (Informs on x a s outcome reacts) = of_reaction past x on a _ (past_of deed past deeds at) reacts

-- ---- the draws that they come from

module _ (cluster : Cluster) (valid : IsValidCluster cluster) (items : List Item) (stands : EachStands cluster items) where
  origin_is : (node start : ℕ) (past : List Deed) → (next_draw node start past).origin ≡ node * 64
  origin_is node start past = (draws_are_of_node node start (DrawEvent ∷ clock_events past)).0

  module _ (a : Actor) (node : is_node a ≡ true) (deed : Deed) (past : List Deed) (at : StandsAt deed past (deeds_of cluster a items)) where
    abbrev start : ℕ
    start = clock_start cluster.starts (node_of a)

    step : NodeStep cluster a items deed past
    step = node_step cluster a items stands deed past at

    emitted : deed.emitted ≡ node_emits cluster.layout (node_of a) start past deed.act
    emitted = emits_at cluster.layout (node_of a) start (deeds_of cluster a items) deed past (each_emits cluster a items stands node) at

    own : same_actor step.entry.actor a ≡ true
    own = ap (λ (b : Actor). same_actor b a) step.actor_is ∙ same_itself a

    -- the draw of an event of this deed
    drew : (purpose : Purpose) (txn : ℕ) (event : Event) → step.entry.event ≡ event → Contains (actors cluster.layout) a
        → draws_by event (node_emits cluster.layout (node_of a) start past deed.act).notes ≡ record { purpose = purpose; txn = txn; h = (next_draw (node_of a) start past).h } ∷ []
        → DrewStamp cluster items purpose txn (next_draw (node_of a) start past)
    drew purpose txn event is known draws = record {
      actor = a;
      node = node;
      known = known;
      draw = record { purpose = purpose; txn = txn; h = (next_draw (node_of a) start past).h };
      there =
          draw_there a (record { purpose = purpose; txn = txn; h = (next_draw (node_of a) start past).h }) step.entry step.earlier items step.at own
          (subst (IsIn (record { purpose = purpose; txn = txn; h = (next_draw (node_of a) start past).h }))
          (sym
          (ap (λ (e : Event). draws_by e step.entry.emitted.notes) is ∙ ap (λ (e : Emitted). draws_by event e.notes) (step.emitted_is ∙ emitted) ∙ draws))
          (First (record { purpose = purpose; txn = txn; h = (next_draw (node_of a) start past).h }) []));
      purpose_is = refl;
      number = refl;
      stamp_is = ap (λ (o : ℕ). record { h = (next_draw (node_of a) start past).h; origin = o }) (origin_is (node_of a) start past);
    }

    begin_drew : (txn : ℕ) (body : BodyParts) → deed.act ≡ Begins txn body → DrewStamp cluster items Begin txn (next_draw (node_of a) start past)
    begin_drew txn body is =
        let event : step.entry.event ≡ BeginEvent txn = begin_event cluster step.earlier txn body step.entry.event (step.act_is ∙ ap Some is) in
        let place : MayStand cluster step.earlier a deed.act (BeginEvent txn) = subst (MayStand cluster step.earlier a deed.act) event step.place in
        drew Begin txn (BeginEvent txn) event (IsIn-Contains a (actors cluster.layout) (at_home cluster valid txn a place.0))
        (ap (λ (act : Act). draws_by (BeginEvent txn) (node_emits cluster.layout (node_of a) start past act).notes) is)

    recover_drew : (txn : ℕ) (x : TxnId) (body : BodyParts) → deed.act ≡ Recovers x body → step.entry.event ≡ RecoverEvent txn
        → DrewStamp cluster items Recover txn (next_draw (node_of a) start past)
    recover_drew txn x body is event =
        let place : MayStand cluster step.earlier a deed.act (RecoverEvent txn) = subst (MayStand cluster step.earlier a deed.act) event step.place in
        drew Recover txn (RecoverEvent txn) event (IsIn-Contains a (actors cluster.layout) (at_node cluster.layout a place.0))
        (ap (λ (act : Act). draws_by (RecoverEvent txn) (node_emits cluster.layout (node_of a) start past act).notes) is)

  -- a transaction that was begun has a number, and was drawn for it
  pub record WasDrawn (x : TxnId) : Type 0 where
    pub txn : ℕ
    pub numbered : txn_of items x ≡ Some txn
    pub drew : DrewStamp cluster items Begin txn x.0

  pub begin_was_drawn : (x : TxnId) → Noting items (BeginNote x) → WasDrawn x
  begin_was_drawn x noting =
      let by : NotedBy cluster items (BeginNote x) = noted_by cluster items (BeginNote x) stands noting in
      let here : BeginsHere (node_of by.actor) (clock_start cluster.starts (node_of by.actor)) by.past by.deed.act x =
      begins_here cluster.layout (node_of by.actor) (clock_start cluster.starts (node_of by.actor)) by.past by.deed.act (BeginNote x) x
      (node_noted cluster items (BeginNote x) stands by) refl in
      let n : NodeStep cluster by.actor items by.deed by.past = node_step cluster by.actor items stands by.deed by.past by.at in
      let event : n.entry.event ≡ BeginEvent here.txn = begin_event cluster n.earlier here.txn here.body n.entry.event (n.act_is ∙ ap Some here.act_is) in
      record {
        txn = here.txn;
        numbered =
            txn_begun_there x here.txn n.entry n.earlier items (distinct_draws cluster items stands) n.at
            (subst (λ (e : Emitted). IsIn (BeginNote x) e.notes) (sym n.emitted_is) by.noted) (ap txn_begun event);
        drew =
            subst (λ (y : TxnId). DrewStamp cluster items Begin here.txn y.0) here.drawn
            (begin_drew by.actor by.is_node by.deed by.past by.at here.txn here.body here.act_is);
      }

  -- a ballot that was drawn for a transaction with this number
  pub ballot_was_drawn : (a : Actor) → is_node a ≡ true → (x : TxnId) (b : Ballot) (txn : ℕ) → txn_of items x ≡ Some txn
      → DrewBallot (node_of a) (clock_start cluster.starts (node_of a)) (deeds_of cluster a items) x b → DrewStamp cluster items Recover txn b.0
  unfolding step
  ballot_was_drawn a node x b txn numbered drawn =
      let n : NodeStep cluster a items drawn.deed drawn.past = node_step cluster a items stands drawn.deed drawn.past drawn.at in
      let of : RecoversNumber cluster n.earlier x n.entry.event = recover_event cluster n.earlier x drawn.body n.entry.event (n.act_is ∙ ap Some drawn.act_is) in
      let begun : BeginEntry n.earlier of.txn x = begin_entry n.earlier of.txn x of.id_is in
      let also : txn_of items x ≡ Some of.txn =
      txn_begun_there x of.txn begun.entry begun.earlier items (distinct_draws cluster items stands)
      (StandsAt-behind (Step begun.entry) (Step n.entry) begun.earlier n.earlier items begun.at n.at) begun.noted begun.begins_it in
      let one : of.txn ≡ txn = same_number of.txn txn (sym also ∙ numbered) in
      subst (λ (k : ℕ). DrewStamp cluster items Recover k b.0) one
      (subst (λ (c : Ballot). DrewStamp cluster items Recover of.txn c.0) (sym drawn.ballot_is)
      (recover_drew a node drawn.deed drawn.past drawn.at of.txn x drawn.body drawn.act_is of.event_is))
    where
      same_number : (n m : ℕ) → Some n ≡ Some m → n ≡ m
      same_number n m e = cc
