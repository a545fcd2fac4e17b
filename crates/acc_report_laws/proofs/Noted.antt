-- Whatever an entry of a run notes is in bounds.
use Rattle.std.proofs.Common.{◌≡◌, ℕ, ◌≤◌, cond, Bool, true, false, List, [], ◌∷◌, length, Option, None, Some, refl, sym, ◌∙◌, ap, subst, ⊎_elim, arith}
use Rattle.std.specs.List.{AllByRecursion, flat_map}
use Rattle.acc_stamp.specs.declared.stamps.Stamp.{Stamp}
use Rattle.acc_stamp.specs.declared.stamps.TxnId.{TxnId}
use Rattle.acc_stamp.specs.declared.stamps.Ballot.{Ballot}
use Rattle.acc_stamp.specs.declared.actors.Actor.{Actor}
use Rattle.acc_stamp.specs.Actor.{node_of, actor_of}
use Rattle.acc_stamp.proofs.Rising.{each_parts}
use Rattle.acc_topology.specs.Layout.{Layout}
use Rattle.acc_message.specs.declared.message.Message.{Message}
use Rattle.acc_message.specs.declared.message.Message.TheVariants.{PreAccept, PreAcceptOk, Accept, AcceptOk, Commit, CommitOk, Stable, ReadOk, Apply, Recover, RecoverOk, Nack, Decided, Inform}
use Rattle.acc_message.specs.declared.note.Note.{Note}
use Rattle.acc_message.specs.declared.note.Note.TheVariants.{Begin as BeginNote, Recover as RecoverNote, Reply as ReplyNote}
use Rattle.acc_message.specs.declared.entry.Emitted.{Emitted}
use Rattle.acc_message.specs.declared.entry.Entry.{Entry}
use Rattle.acc_message.specs.declared.item.Item.{Item}
use Rattle.acc_message.specs.declared.item.Item.TheVariants.{Step}
use Rattle.acc_message.specs.Fields.{id_of}
use Rattle.acc_message.specs.Items.{noted_in}
use Rattle.acc_message.specs.Attempts.{Attempt}
use Rattle.acc_message.specs.Coordinator.{when, slow_down, reaction, slow_reaction}
use Rattle.acc_message.specs.NodeRules.{Act, Begins, Recovers, Slows, Takes, Restarts, Deed, is_open, clock_of, next_id, next_ballot, attempt_of, emitted_by, with_reply, on_taking, node_emits}
use Rattle.acc_message.specs.Run.{Cluster, clock_start, deeds_of, taken_from, is_node, emits_by, StandsOn, EachStands}
use Rattle.acc_safety.specs.Attempted.{Took, Origin, FromBegin, FromRecover}
use Rattle.acc_safety.specs.Places.{IsIn, First, Later, StandsAt, Here, Back, IsPast}
use Rattle.acc_safety.specs.RunLaws.{drawn_in, drawn_of}
use Rattle.acc_safety.specs.Valid.{IsStanding}
use Rattle.acc_safety.proofs.Attempted.{answers_of, origin_of}
use Rattle.acc_safety.proofs.BodiesBegun.{attempt_body}
use Rattle.acc_safety.proofs.Bridge.{EachStands-past, stands_at, deeds_of-past}
use Rattle.acc_safety.proofs.PlaceOrder.{StandsAt-IsIn, StandsAt-whole, each_at, IsIn-cases}
use Rattle.acc_safety_laws.proofs.Within.{begun_has_store}
use Rattle.acc_run_laws.specs.Heights.{most_h, IsLowClock}
use Rattle.acc_run_laws.proofs.Begun.{begun_of, noted_begun, store_notes_none}
use Rattle.acc_run_laws.proofs.Bounded.{IsLow, IsActor, zero_low, IsBounded}
use Rattle.acc_run_laws.proofs.Clocks.{ballot_low, low_clock_more}
use Rattle.acc_run_laws.proofs.Everywhere.{stage}
use Rattle.acc_run_laws.proofs.NodeBounds.{IsBoundedAct}
use Rattle.acc_run_laws.proofs.RunBounds.{Stage, earlier_is_past, low_number, act_bounded, acting}
use Rattle.acc_run_laws.proofs.Stages.{did_bounded, stage_of}
use Rattle.acc_report_laws.proofs.Reacting.{NoteIsBounded, AreBoundedNotes, IsReady, replied_bounded, waits_known, reaction_fits}

-- ---- lists

longer : (item : Item) (earlier items : List Item) → StandsAt item earlier items → length earlier ≤ length items
longer item earlier items (Here i past) = omega arith
longer item earlier items (Back i j past rest at) = omega (arith, longer i past rest at)

drawn_there : (P : Stamp → Type 0) (item : Item) (earlier items : List Item) → StandsAt item earlier items → AllByRecursion P (drawn_of items)
    → AllByRecursion P (flat_map drawn_in (noted_in item))
drawn_there P item earlier items (Here i past) h = (each_parts P (flat_map drawn_in (noted_in i)) (drawn_of past) h).0
drawn_there P item earlier items (Back i j past rest at) h = drawn_there P i past rest at (each_parts P (flat_map drawn_in (noted_in j)) (drawn_of rest) h).1

drawn_by : (P : Stamp → Type 0) (note : Note) (notes : List Note) → IsIn note notes → AllByRecursion P (flat_map drawn_in notes) → AllByRecursion P (drawn_in note)
drawn_by P note notes (First n rest) h = (each_parts P (drawn_in n) (flat_map drawn_in rest) h).0
drawn_by P note notes (Later n other rest there) h = drawn_by P n rest there (each_parts P (drawn_in other) (flat_map drawn_in rest) h).1

slow_notes_none : (b : Bool) (own : Actor) (x : TxnId) (layout : Layout) (a : Attempt) → (when b (slow_down layout own x) a).emitted.notes ≡ []
slow_notes_none true own x layout a = refl
slow_notes_none false own x layout a = refl

-- ---- an entry

module _ (cluster : Cluster) (items : List Item) (standing : IsStanding cluster items) (e : Entry) (earlier : List Item) (at : StandsAt (Step e) earlier items) where
  abbrev most : ℕ
  most = most_h items

  abbrev begun : List TxnId
  begun = begun_of items

  abbrev past : List Deed
  past = deeds_of cluster e.actor earlier

  abbrev node : ℕ
  node = node_of e.actor

  abbrev start : ℕ
  start = clock_start cluster.starts (node_of e.actor)

  before : IsPast earlier items
  before = earlier_is_past (Step e) earlier items at

  each : EachStands cluster earlier
  each = EachStands-past cluster earlier items before standing.stands

  s : StandsOn cluster earlier e
  s = stands_at cluster items earlier e at standing.stands

  all : Stage cluster items
  all = stage cluster items standing

  act_is_bounded : IsBoundedAct most begun s.act
  act_is_bounded = act_bounded cluster standing.valid items all earlier before e.event s.act s.act_is

  sent : (m : Message) → IsIn m e.emitted.out → IsBounded most begun m
  sent m there = all.messages m (record { entry = e; earlier = earlier; at = at; sent = there })

  within : IsPast past (deeds_of cluster e.actor items)
  within = deeds_of-past cluster e.actor earlier items before

  took : (m : Message) → Took past m → IsBounded most begun m
  took m t =
      subst (IsBoundedAct most begun) t.act_is
      (each_at (λ (deed : Deed). IsBoundedAct most begun deed.act) t.deed (deeds_of cluster e.actor items)
      (did_bounded cluster standing.valid items standing.stands all e.actor)
      (StandsAt-IsIn t.deed t.past (deeds_of cluster e.actor items) (StandsAt-whole t.deed t.past past (deeds_of cluster e.actor items) t.at within)))

  clock : IsLowClock most (clock_of node start past)
  clock =
      low_clock_more (most_h earlier) most (clock_of node start past) (omega (arith, longer (Step e) earlier items at))
      ((stage_of cluster standing.valid earlier each).clocks e.actor)

  -- ---- draws

  begin_bounded : (x : TxnId) → IsIn (BeginNote x) e.emitted.notes → NoteIsBounded most begun (BeginNote x)
  begin_bounded x there = (
    noted_begun items x (record { entry = e; earlier = earlier; at = at; noted = there }),
    (drawn_by (IsLow most) (BeginNote x) e.emitted.notes there (drawn_there (IsLow most) (Step e) earlier items at all.drawn)).0,
  )

  ballot_drawn : (x : TxnId) (b : Ballot) → IsIn (RecoverNote x b) e.emitted.notes → IsLow most b.0
  ballot_drawn x b there = (drawn_by (IsLow most) (RecoverNote x b) e.emitted.notes there (drawn_there (IsLow most) (Step e) earlier items at all.drawn)).0

  -- ---- attempts

  module _ (is : is_node e.actor ≡ true) (few : node_of e.actor ≤ 15) where
    abbrev own : Actor
    own = actor_of node 0

    emitted_is : e.emitted ≡ node_emits cluster.layout node start past s.act
    emitted_is = s.emitted ∙ ap (λ b. emits_by b cluster e.actor past s.act) is

    origin_low : (x : TxnId) (a : Attempt) → Origin cluster.layout node start x past a → IsLow most a.ballot.0
    origin_low x a (FromBegin txn deed old place act_is drawn zero) = subst (λ (b : Ballot). IsLow most b.0) (sym zero) (zero_low most)
    origin_low x a (FromRecover deed old place act_is drawn) =
        subst (λ (b : Ballot). IsLow most b.0) (sym drawn) (ballot_low node start most deed old past x a.body place act_is few clock)

    answers_took : (x : TxnId) (a : Attempt) → attempt_of cluster.layout node start x past ≡ Some a → (m : Message) → IsIn m a.answers → IsBounded most begun m
    answers_took x a found m there = took m (answers_of cluster.layout x node start past a found m there).took

    -- the attempt, with more answers
    ready : (x : TxnId) (a : Attempt) (answers : List Message) → attempt_of cluster.layout node start x past ≡ Some a
        → ((m : Message) → IsIn m answers → IsBounded most begun m)
        → IsReady most begun cluster.layout (record { ballot = a.ballot; body = a.body; phase = a.phase; answers = answers })
    ready x a answers found bounded =
        let body = attempt_body cluster items standing.stands e.actor is past x a within found in
        let store = begun_has_store cluster items x a.body standing.valid body in
        record {
          ballot = origin_low x a (origin_of cluster.layout node start x past a found);
          store = store.0;
          used = store.1;
          waits = waits_known most begun answers bounded;
        }

    attempt_notes : (m : Message) (o : Option Attempt) → attempt_of cluster.layout node start (id_of m) past ≡ o → IsBounded most begun m
        → ((n : Message) → IsIn n (emitted_by (λ a. reaction cluster.layout own (id_of m) a m) o).out → IsBounded most begun n)
        → AreBoundedNotes most begun (with_reply (is_open (id_of m) past) (emitted_by (λ a. reaction cluster.layout own (id_of m) a m) o)).notes
    attempt_notes m None found h out = tt
    attempt_notes m (Some a) found h out =
        replied_bounded most begun (is_open (id_of m) past) (reaction cluster.layout own (id_of m) a m).emitted.notes
        (reaction_fits most begun cluster.layout own (id_of m) h.id.there a m
        (ready (id_of m) a a.answers found (answers_took (id_of m) a found))
        (ready (id_of m) a (m ∷ a.answers) found (with_it a found))
        h.content out)
      where
        with_it : (a : Attempt) → attempt_of cluster.layout node start (id_of m) past ≡ Some a → (n : Message) → IsIn n (m ∷ a.answers) → IsBounded most begun n
        with_it a found n there =
            ⊎_elim (λ same. subst (IsBounded most begun) (sym same) h) (λ old. answers_took (id_of m) a found n old) (IsIn-cases n m a.answers there)

    told_notes : (b : Bool) (note : Note) → NoteIsBounded most begun note → AreBoundedNotes most begun (cond b (note ∷ []) [])
    told_notes true note h = (h, tt)
    told_notes false note h = tt

    taking_notes : (m : Message) → IsBounded most begun m
        → ((n : Message) → IsIn n (on_taking cluster.layout node start past m).out → IsBounded most begun n)
        → AreBoundedNotes most begun (on_taking cluster.layout node start past m).notes
    taking_notes (Inform from to id ballot outcome) h out = told_notes (is_open id past) (ReplyNote id outcome.reply) h.id.there
    taking_notes (PreAccept from to id ballot body) h out = attempt_notes (PreAccept from to id ballot body) _ refl h out
    taking_notes (PreAcceptOk from to id ballot vote deps) h out = attempt_notes (PreAcceptOk from to id ballot vote deps) _ refl h out
    taking_notes (Accept from to id ballot body t deps) h out = attempt_notes (Accept from to id ballot body t deps) _ refl h out
    taking_notes (AcceptOk from to id ballot deps) h out = attempt_notes (AcceptOk from to id ballot deps) _ refl h out
    taking_notes (Commit from to id ballot body t deps) h out = attempt_notes (Commit from to id ballot body t deps) _ refl h out
    taking_notes (CommitOk from to id ballot) h out = attempt_notes (CommitOk from to id ballot) _ refl h out
    taking_notes (Stable from to id ballot body t deps) h out = attempt_notes (Stable from to id ballot body t deps) _ refl h out
    taking_notes (ReadOk from to id ballot answer) h out = attempt_notes (ReadOk from to id ballot answer) _ refl h out
    taking_notes (Apply from to id ballot body t deps outcome) h out = attempt_notes (Apply from to id ballot body t deps outcome) _ refl h out
    taking_notes (Recover from to id ballot body) h out = attempt_notes (Recover from to id ballot body) _ refl h out
    taking_notes (RecoverOk from to id ballot view) h out = attempt_notes (RecoverOk from to id ballot view) _ refl h out
    taking_notes (Nack from to id ballot promised) h out = attempt_notes (Nack from to id ballot promised) _ refl h out
    taking_notes (Decided from to id ballot t deps) h out = attempt_notes (Decided from to id ballot t deps) _ refl h out

    slowing_notes : (x : TxnId) (o : Option Attempt) → AreBoundedNotes most begun (emitted_by (slow_reaction cluster.layout own x) o).notes
    slowing_notes x None = tt
    slowing_notes x (Some a) = subst (AreBoundedNotes most begun) (sym (slow_notes_none _ own x cluster.layout a)) tt

    act_notes : (act : Act) → IsBoundedAct most begun act
        → ((x : TxnId) → IsIn (BeginNote x) (node_emits cluster.layout node start past act).notes → NoteIsBounded most begun (BeginNote x))
        → ((x : TxnId) (b : Ballot) → IsIn (RecoverNote x b) (node_emits cluster.layout node start past act).notes → IsLow most b.0)
        → ((n : Message) → IsIn n (node_emits cluster.layout node start past act).out → IsBounded most begun n)
        → AreBoundedNotes most begun (node_emits cluster.layout node start past act).notes
    act_notes (Begins txn body) h begins recovers out = (begins (next_id node start past) (First (BeginNote (next_id node start past)) []), tt)
    act_notes (Recovers x body) h begins recovers out =
        ((h.0.there, recovers x (next_ballot node start past) (First (RecoverNote x (next_ballot node start past)) [])), tt)
    act_notes (Slows x) h begins recovers out = slowing_notes x (attempt_of cluster.layout node start x past)
    act_notes (Takes m) h begins recovers out = taking_notes m h out
    act_notes Restarts h begins recovers out = tt

    node_notes_bounded : AreBoundedNotes most begun e.emitted.notes
    node_notes_bounded =
        subst (λ (k : Emitted). AreBoundedNotes most begun k.notes) (sym emitted_is)
        (act_notes s.act act_is_bounded
        (λ x there. begin_bounded x (subst (λ (k : Emitted). IsIn (BeginNote x) k.notes) (sym emitted_is) there))
        (λ x b there. ballot_drawn x b (subst (λ (k : Emitted). IsIn (RecoverNote x b) k.notes) (sym emitted_is) there))
        (λ n there. sent n (subst (λ (k : Emitted). IsIn n k.out) (sym emitted_is) there)))

  -- ---- who steps

  restart_notes_none : (b : Bool) → (emits_by b cluster e.actor past Restarts).notes ≡ []
  restart_notes_none true = refl
  restart_notes_none false = refl

  by_kind : (b : Bool) → is_node e.actor ≡ b → IsActor e.actor → AreBoundedNotes most begun e.emitted.notes
  by_kind true is actor = node_notes_bounded is (low_number e.actor actor)
  by_kind false is actor =
      subst (λ (notes : List Note). AreBoundedNotes most begun notes)
      (sym (ap (λ (k : Emitted). k.notes) (s.emitted ∙ ap (λ b. emits_by b cluster e.actor past s.act) is) ∙ store_notes_none cluster.layout e.actor (taken_from past) s.act)) tt

  pub notes_bounded : AreBoundedNotes most begun e.emitted.notes
  notes_bounded =
      ⊎_elim (by_kind (is_node e.actor) refl)
      (λ restarts.
      subst (λ (notes : List Note). AreBoundedNotes most begun notes)
      (sym (ap (λ (k : Emitted). k.notes) (s.emitted ∙ ap (emits_by (is_node e.actor) cluster e.actor past) restarts) ∙ restart_notes_none (is_node e.actor))) tt)
      (acting cluster standing.valid earlier (stage_of cluster standing.valid earlier each) e.event e.actor s.act s.act_is s.place)
