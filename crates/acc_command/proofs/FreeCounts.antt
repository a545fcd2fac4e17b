-- Where nobody restarts, recovers or goes down, served items begin as many transactions as their schedule does.
use Rattle.std.proofs.Common.{◌≡◌, ℕ, ◌+◌, ◌-◌, ◌≤◌, ◌==◌, ◌||◌, Bool, true, false, not, List, [], ◌∷◌, ◌++◌, length, reverse, count_by, Option, None, Some, Contains, refl, sym, ◌∙◌, ap, ap₂, subst, arith}
use Rattle.std.specs.Prelude.{IsTrue}
use Rattle.std.specs.List.{slice_get, list_all, AllByRecursion}
use Rattle.std.specs.Option.{option_map}
use Rattle.std.proofs.lemmas.Bool.{true≢false, and_parts, or_parts, or_left, or_right, not-true, eq-eqb, eqb-true}
use Rattle.std.proofs.lemmas.List.{reverse-reverse}
use Rattle.std.proofs.lemmas.Option.{none-some, same_Some}
use Rattle.acc_stamp.specs.declared.actors.Actor.{Actor}
use Rattle.acc_stamp.specs.Actor.{node_of}
use Rattle.acc_topology.specs.Layout.{Layout}
use Rattle.acc_topology.specs.Sets.{is_among}
use Rattle.acc_topology.proofs.Bits.{one_if, count_by-cons}
use Rattle.acc_txn.specs.declared.parts.BodyParts.{BodyParts}
use Rattle.acc_message.specs.declared.message.Message.{Message}
use Rattle.acc_message.specs.declared.note.Note.{Note}
use Rattle.acc_message.specs.declared.entry.Emitted.{Emitted}
use Rattle.acc_message.specs.declared.entry.Entry.{Entry}
use Rattle.acc_message.specs.declared.entry.Event.{Event}
use Rattle.acc_message.specs.declared.entry.Event.TheVariants.{Begin as BeginEvent, Recover as RecoverEvent, Slow as SlowEvent, Message as MessageEvent, Restart as RestartEvent}
use Rattle.acc_message.specs.declared.item.Item.{Item}
use Rattle.acc_message.specs.declared.item.Item.TheVariants.{Step as StepItem, Skipped, Down}
use Rattle.acc_message.specs.Items.{noted_in, notes_of, event_begins, begins_txn, is_begun, message_at}
use Rattle.acc_message.specs.NodeRules.{Act, Begins, Takes, Deed}
use Rattle.acc_message.specs.Run.{Cluster, clock_start, deeds_of, is_node, emits_by, act_of, MayStand, StandsOn, EachStands}
use Rattle.acc_safety.specs.Calm.{is_calm_event}
use Rattle.acc_safety.specs.NodeMoves.{NodeNotes, NotesBegin, NotesRecover, NotesDecision, NotesOutcome, NotesReply, NotesTold, NotesBlocked, NotesEnded}
use Rattle.acc_safety.specs.Places.{IsIn, First, Later}
use Rattle.acc_safety.proofs.Bridge.{same_itself}
use Rattle.acc_safety.proofs.DrawFacts.{is_node-node}
use Rattle.acc_safety.proofs.NodeSent.{node_notes}
use Rattle.acc_run_laws.specs.AskLaws.{is_no_down}
use Rattle.acc_payloads.specs.Items.{is_item_of}
use Rattle.acc_schedule.specs.Actors.{actors}
use Rattle.acc_schedule.specs.Content.{Content}
use Rattle.acc_schedule.specs.declared.plan.Step.{Step}
use Rattle.acc_schedule.specs.declared.plan.Step.TheVariants.{Begin, Deliver, Drop, Recover, Slow, Restart, Fail, Drain}
use Rattle.acc_schedule_runs.specs.Schedules.{cluster_of}
use Rattle.acc_schedule_runs.specs.Laws.{NobodyIsDown, IsCalmStep, EndsWithDrain}
use Rattle.acc_report_line.specs.declared.line.Line.{Line}
use Rattle.acc_report_line.specs.declared.line.Line.TheVariants.{End}
use Rattle.acc_report.specs.Report.{is_begin, last_line}
use Rattle.acc_command_alone.specs.Counts.{begun_by, AreApart, begins_in, replies_in, AreAnswered}
use Rattle.acc_free_laws.specs.Commands.{is_command_of, is_event_of, is_message}
use Rattle.acc_free_laws.specs.Turns.{Went, begins, aside, delivered, took, came_up, stopped, stayed, went_down, kept, kept_message, passed}
use Rattle.acc_free_laws.specs.FreeRun.{AreKnown}
use Rattle.acc_free_laws.specs.Served.{HasServed, IsServed, is_quiet, IsQuiet, HasNoRecover, IsBegunIn}
use Rattle.acc_command.specs.Free.{HasNoRestart}
use Rattle.acc_command.proofs.FreeReports.{all_front, all_turned, all_filtered, nothing, no_down, no_stop}

-- ---- what an entry notes

count_append : (p : Note → Bool) (notes more : List Note) → count_by p (notes ++ more) ≡ count_by p notes + count_by p more
count_append p [] more = zero_front (count_by p more)
  where
    zero_front : (n : ℕ) → n ≡ 0 + n
    zero_front n = omega arith
count_append p (note ∷ notes) more =
    omega (arith, count_by-cons p note (notes ++ more), count_by-cons p note notes, count_append p notes more)

none_begun : (notes : List Note) → ((note : Note) → IsIn note notes → is_begin note ≡ false) → count_by is_begin notes ≡ 0
none_begun [] h = refl
none_begun (note ∷ notes) h =
    let none : one_if (is_begin note) ≡ 0 = ap one_if (h note (First note notes)) in
    omega (arith, count_by-cons is_begin note notes, none, none_begun notes (λ other there. h other (Later other note notes there)))

abbrev is_taking : Act → Bool
is_taking (Takes m) = true
is_taking _ = false

taking_begins_none : (layout : Layout) (node start : ℕ) (past : List Deed) (act : Act) (note : Note) → is_taking act ≡ true
    → NodeNotes layout node start past act note → is_begin note ≡ false
taking_begins_none layout node start past act note is (NotesBegin txn body) = nothing is
taking_begins_none layout node start past act note is (NotesRecover x body) = refl
taking_begins_none layout node start past act note is (NotesDecision act' x a path s reacts) = refl
taking_begins_none layout node start past act note is (NotesOutcome act' x a s outcome reacts) = refl
taking_begins_none layout node start past act note is (NotesReply act' x a s outcome reacts open_now) = refl
taking_begins_none layout node start past act note is (NotesTold from to x b outcome open_now) = refl
taking_begins_none layout node start past act note is (NotesBlocked act' x a by reacts) = refl
taking_begins_none layout node start past act note is (NotesEnded act' x a by reacts) = refl

module _ (cluster : Cluster) (a : Actor) (past : List Deed) where
  abbrev Notes : Bool → Act → ℕ
  Notes node act = count_by is_begin (emits_by node cluster a past act).notes

  taken_notes : (node : Bool) (m : Message) → Notes node (Takes m) ≡ 0
  taken_notes false m = refl
  taken_notes true m =
      let start = clock_start cluster.starts (node_of a) in
      none_begun _
      (λ note there.
      taking_begins_none cluster.layout (node_of a) start past (Takes m) note refl (node_notes cluster.layout (node_of a) start past (Takes m) note there))

  begun_notes : (node : Bool) (txn : ℕ) (body : BodyParts) → node ≡ true → Notes node (Begins txn body) ≡ 1
  begun_notes true txn body is = refl
  begun_notes false txn body is = nothing is

mapped : {X : Type 0} (f : X → Act) (o : Option X) (act : Act) → option_map f o ≡ Some act → (x : X) × (f x ≡ act)
mapped f None act is = absurd (none-some act is)
mapped f (Some x) act is = (x, same_Some (f x) act is)

module _ (cluster : Cluster) (earlier : List Item) (e : Entry) (stands : StandsOn cluster earlier e) where
  abbrev Acts : Event → Type 0
  Acts event = (act_of cluster earlier event ≡ Some stands.act) × MayStand cluster earlier e.actor stands.act event

  acts : (event : Event) → e.event ≡ event → Acts event
  acts event is = subst Acts is (stands.act_is, stands.place)

  made : (act : Act) → act ≡ stands.act → count_by is_begin e.emitted.notes ≡ Notes cluster e.actor (deeds_of cluster e.actor earlier) (is_node e.actor) act
  made act is =
      ap (λ (m : Emitted). count_by is_begin m.notes) stands.emitted
      ∙ ap (λ (one : Act). Notes cluster e.actor (deeds_of cluster e.actor earlier) (is_node e.actor) one) (sym is)

  begin_notes : (txn : ℕ) → e.event ≡ BeginEvent txn → count_by is_begin e.emitted.notes ≡ 1
  begin_notes txn is =
      let own = acts (BeginEvent txn) is in
      let body = mapped (Begins txn) (slice_get cluster.bodies txn) stands.act own.0 in
      let home = own.1.0 in
      made (Begins txn body.0) body.1
      ∙ begun_notes cluster e.actor (deeds_of cluster e.actor earlier) (is_node e.actor) txn body.0 (ap is_node home.2 ∙ is_node-node home.0)

  message_notes : (number : ℕ) → e.event ≡ MessageEvent number → count_by is_begin e.emitted.notes ≡ 0
  message_notes number is =
      let own = acts (MessageEvent number) is in
      let m = mapped Takes (message_at earlier number) stands.act own.0 in
      made (Takes m.0) m.1 ∙ taken_notes cluster e.actor (deeds_of cluster e.actor earlier) (is_node e.actor) m.0

  not_yet : (txn : ℕ) → e.event ≡ BeginEvent txn → is_begun earlier txn ≡ false
  not_yet txn is = not-true (is_begun earlier txn) (acts (BeginEvent txn) is).1.1

-- ---- how many of some transactions are begun

module _ (b : ℕ → Bool) (k : ℕ) where
  turned_false : (n : ℕ) → (n == k) ≡ false → (k == n) ≡ false
  turned_false n apart = by (k == n) refl
    where
      by : (test : Bool) → (k == n) ≡ test → test ≡ false
      by true is = absurd (true≢false (sym (eq-eqb n k (sym (eqb-true k n is))) ∙ apart))
      by false is = refl

  same_rest : (ns : List ℕ) → is_among ns k ≡ false → count_by (λ n. (k == n) || b n) ns ≡ count_by b ns
  same_rest [] none = refl
  same_rest (n ∷ ns) none =
      let parts = or_parts (n == k) (is_among ns k) none in
      let head : one_if ((k == n) || b n) ≡ one_if (b n) = ap (λ t. one_if (t || b n)) (turned_false n parts.0) in
      omega (arith, count_by-cons (λ m. (k == m) || b m) n ns, count_by-cons b n ns, head, same_rest ns parts.1)

  one_more : (ns : List ℕ) → AreApart ns → is_among ns k ≡ true → b k ≡ false → count_by (λ n. (k == n) || b n) ns ≡ count_by b ns + 1
  one_more [] apart there none = nothing there
  one_more (n ∷ ns) apart there none = by (n == k) refl (λ later. one_more ns apart.1 later none)
    where
      by : (test : Bool) → (n == k) ≡ test → (is_among ns k ≡ true → count_by (λ m. (k == m) || b m) ns ≡ count_by b ns + 1)
          → count_by (λ m. (k == m) || b m) (n ∷ ns) ≡ count_by b (n ∷ ns) + 1
      by true is more =
          let same : n ≡ k = eqb-true n k is in
          let now : one_if ((k == n) || b n) ≡ 1 = ap (λ t. one_if (t || b n)) (eq-eqb k n (sym same)) in
          let before : one_if (b n) ≡ 0 = ap one_if (ap b same ∙ none) in
          let rest = same_rest ns (sym (ap (is_among ns) same) ∙ apart.0) in
          omega (arith, count_by-cons (λ m. (k == m) || b m) n ns, count_by-cons b n ns, now, before, rest)
      by false is more =
          let head : one_if ((k == n) || b n) ≡ one_if (b n) = ap (λ t. one_if (t || b n)) (turned_false n is) in
          let rest = more (sym (ap (λ t. t || is_among ns k) is) ∙ there) in
          omega (arith, count_by-cons (λ m. (k == m) || b m) n ns, count_by-cons b n ns, head, rest)

none_counted : (ns : List ℕ) → count_by (λ n. false) ns ≡ 0
none_counted [] = refl
none_counted (n ∷ ns) = omega (arith, count_by-cons (λ m. false) n ns, none_counted ns)

all_counted : (b : ℕ → Bool) (ns : List ℕ) → AllByRecursion (λ n. b n ≡ true) ns → count_by b ns ≡ length ns
all_counted b [] all = refl
all_counted b (n ∷ ns) all = let head : one_if (b n) ≡ 1 = ap one_if all.0 in omega (arith, count_by-cons b n ns, head, all_counted b ns all.1)

-- ---- the items begin some of these transactions, and each once

module _ (ns : List ℕ) where
  -- what the item begins is among them
  abbrev IsAmongItem : Item → Type 0
  IsAmongItem item = (k : ℕ) → begins_txn k item ≡ true → is_among ns k ≡ true

  abbrev Begun : List Item → ℕ
  Begun items = count_by (λ n. is_begun items n) ns

  counted : (cluster : Cluster) (items : List Item) → AreApart ns → EachStands cluster items → IsQuiet items → AllByRecursion IsAmongItem items
      → begins_in items ≡ Begun items
  counted cluster [] apart stands quiet among = sym (none_counted ns)
  counted cluster (Skipped step cause ∷ items) apart stands quiet among =
      no_more _ _ _ (count_append is_begin (notes_of items) []) (counted cluster items apart stands.1 quiet among.1)
    where
      no_more : (n k b : ℕ) → n ≡ k + 0 → k ≡ b → n ≡ b
      no_more n k b p q = omega (arith, p, q)
  counted cluster (Down actor ∷ items) apart stands quiet among = absurd (true≢false (sym quiet))
  counted cluster (StepItem e ∷ items) apart stands quiet among =
      let parts = and_parts (is_calm_event e.event) (list_all is_quiet items) quiet in
      by e.event refl parts.0 (counted cluster items apart stands.1 parts.1 among.1)
    where
      summed : (n k c now b : ℕ) → n ≡ k + c → k ≡ b → now ≡ b + c → n ≡ now
      summed n k c now b p q r = omega (arith, p, q, r)

      by : (event : Event) → e.event ≡ event → is_calm_event event ≡ true → begins_in items ≡ Begun items → begins_in (StepItem e ∷ items) ≡ Begun (StepItem e ∷ items)
      by (BeginEvent k) is calm before =
          summed (begins_in (StepItem e ∷ items)) (begins_in items) 1 (Begun (StepItem e ∷ items)) (Begun items)
          (count_append is_begin (notes_of items) e.emitted.notes ∙ ap (λ c. begins_in items + c) (begin_notes cluster items e stands.0 k is)) before
          (ap (λ (event : Event). count_by (λ n. event_begins n event || is_begun items n) ns) is ∙ one_more (λ n. is_begun items n) k ns apart (among.0 k (ap (event_begins k) is ∙ eq-eqb k k refl)) (not_yet cluster items e stands.0 k is))
      by (MessageEvent number) is calm before =
          summed (begins_in (StepItem e ∷ items)) (begins_in items) 0 (Begun (StepItem e ∷ items)) (Begun items)
          (count_append is_begin (notes_of items) e.emitted.notes ∙ ap (λ c. begins_in items + c) (message_notes cluster items e stands.0 number is)) before
          (ap (λ (event : Event). count_by (λ n. event_begins n event || is_begun items n) ns) is ∙ plus_none (Begun items))
        where
          plus_none : (n : ℕ) → n ≡ n + 0
          plus_none n = omega arith
      by (RecoverEvent txn) is calm before = nothing calm
      by (SlowEvent txn) is calm before = nothing calm
      by (RestartEvent count) is calm before = nothing calm

  -- ---- by commands

  abbrev IsAmong : Step → Type 0
  IsAmong (Begin txn) = is_among ns txn ≡ true
  IsAmong _ = Unit {0}

  among_event : (command : Step) (event : Event) → is_event_of command event ≡ true → IsAmong command → (k : ℕ) → event_begins k event ≡ true
      → is_among ns k ≡ true
  among_event (Begin txn) (BeginEvent number) is among k begins_it =
      subst (λ n. is_among ns n ≡ true) (eqb-true txn number is ∙ eqb-true number k begins_it) among
  among_event (Deliver message) (BeginEvent number) is among k begins_it = nothing is
  among_event (Drop message) (BeginEvent number) is among k begins_it = nothing is
  among_event (Recover txn node) (BeginEvent number) is among k begins_it = nothing is
  among_event (Slow txn) (BeginEvent number) is among k begins_it = nothing is
  among_event (Restart actor choice) (BeginEvent number) is among k begins_it = nothing is
  among_event (Fail actor calls) (BeginEvent number) is among k begins_it = nothing is
  among_event Drain (BeginEvent number) is among k begins_it = nothing is
  among_event command (RecoverEvent txn) is among k begins_it = nothing begins_it
  among_event command (SlowEvent txn) is among k begins_it = nothing begins_it
  among_event command (MessageEvent number) is among k begins_it = nothing begins_it
  among_event command (RestartEvent count) is among k begins_it = nothing begins_it

  message_begins_none : (event : Event) → is_message event ≡ true → (k : ℕ) → event_begins k event ≡ true → is_among ns k ≡ true
  message_begins_none (BeginEvent txn) is k begins_it = nothing is
  message_begins_none (RecoverEvent txn) is k begins_it = nothing begins_it
  message_begins_none (SlowEvent txn) is k begins_it = nothing begins_it
  message_begins_none (MessageEvent number) is k begins_it = nothing begins_it
  message_begins_none (RestartEvent count) is k begins_it = nothing begins_it

  module _ (a : Actor) where
    abbrev IsAmongOwn : Item → Type 0
    IsAmongOwn item = is_item_of a item ≡ true → IsAmongItem item

    own_among : (items : List Item) (gone : List Step) (stop : Option Step) → Went a items gone stop → NobodyIsDown items → AllByRecursion IsAmong gone
        → AllByRecursion IsAmongOwn items
    own_among _ _ _ begins up among = tt
    own_among _ _ _ (aside item items gone stop apart went) up among = (
      λ own. absurd (true≢false (sym own ∙ apart)),
      own_among items gone stop went (and_parts (is_no_down item) (list_all is_no_down items) up).1 among,
    )
    own_among _ _ _ (delivered e items gone stop is went) up among = ((λ own. message_begins_none e.event is.1), own_among items gone stop went up among)
    own_among _ _ _ (took e command items gone stop is other went) up among =
        ((λ own. among_event command e.event is.1 among.0), own_among items gone stop went up among.1)
    own_among _ _ _ (came_up e command items gone stop is other went) up among =
        ((λ own. among_event command e.event is.1 among.0), own_among items gone stop went up among.1)
    own_among _ _ _ (stopped actor command items gone stop own other before went) up among = no_down actor items up
    own_among _ _ _ (stayed actor command items gone stop own other went) up among = no_down actor items up
    own_among _ _ _ (went_down actor items gone stop own before went) up among = no_down actor items up
    own_among _ _ _ (kept e command items gone is went) up among = absurd (none-some command (sym (no_stop a items gone (Some command) went up)))
    own_among _ _ _ (kept_message e items gone is went) up among = ((λ own. message_begins_none e.event is.1), own_among items gone None went up among)
    own_among _ _ _ (passed command items gone stop is went) up among = own_among items gone stop went up among.1

  all_among : (layout : Layout) (items : List Item) → AreKnown layout items → ((a : Actor) → Contains (actors layout) a → AllByRecursion (IsAmongOwn a) items)
      → AllByRecursion IsAmongItem items
  all_among layout [] known each = tt
  all_among layout (StepItem e ∷ items) known each = (
    (each e.actor known.0).0 (same_itself e.actor),
    all_among layout items known.1 (λ a there. (each a there).1),
  )
  all_among layout (Skipped step cause ∷ items) known each = ((λ k is. nothing is), all_among layout items known.1 (λ a there. (each a there).1))
  all_among layout (Down actor ∷ items) known each = ((λ k is. nothing is), all_among layout items known.1 (λ a there. (each a there).1))

-- ---- a schedule

more_among : (n : ℕ) (ns : List ℕ) (steps : List Step) → AllByRecursion (IsAmong ns) steps → AllByRecursion (IsAmong (n ∷ ns)) steps
more_among n ns [] all = tt
more_among n ns (Begin txn ∷ steps) all = (or_right (n == txn) (is_among ns txn) all.0, more_among n ns steps all.1)
more_among n ns (Deliver message ∷ steps) all = (tt, more_among n ns steps all.1)
more_among n ns (Drop message ∷ steps) all = (tt, more_among n ns steps all.1)
more_among n ns (Recover txn node ∷ steps) all = (tt, more_among n ns steps all.1)
more_among n ns (Slow txn ∷ steps) all = (tt, more_among n ns steps all.1)
more_among n ns (Restart actor choice ∷ steps) all = (tt, more_among n ns steps all.1)
more_among n ns (Fail actor calls ∷ steps) all = (tt, more_among n ns steps all.1)
more_among n ns (Drain ∷ steps) all = (tt, more_among n ns steps all.1)

steps_among : (steps : List Step) → AllByRecursion (IsAmong (begun_by steps)) steps
steps_among [] = tt
steps_among (Begin txn ∷ steps) =
    (or_left (txn == txn) (is_among (begun_by steps) txn) (eq-eqb txn txn refl), more_among txn (begun_by steps) steps (steps_among steps))
steps_among (Deliver message ∷ steps) = (tt, steps_among steps)
steps_among (Drop message ∷ steps) = (tt, steps_among steps)
steps_among (Recover txn node ∷ steps) = (tt, steps_among steps)
steps_among (Slow txn ∷ steps) = (tt, steps_among steps)
steps_among (Restart actor choice ∷ steps) = (tt, steps_among steps)
steps_among (Fail actor calls ∷ steps) = (tt, steps_among steps)
steps_among (Drain ∷ steps) = (tt, steps_among steps)

steps_begun : (items : List Item) (steps : List Step) → AllByRecursion (IsBegunIn items) steps → AllByRecursion (λ n. is_begun items n ≡ true) (begun_by steps)
steps_begun items [] all = tt
steps_begun items (Begin txn ∷ steps) all = (all.0, steps_begun items steps all.1)
steps_begun items (Deliver message ∷ steps) all = steps_begun items steps all.1
steps_begun items (Drop message ∷ steps) all = steps_begun items steps all.1
steps_begun items (Recover txn node ∷ steps) all = steps_begun items steps all.1
steps_begun items (Slow txn ∷ steps) all = steps_begun items steps all.1
steps_begun items (Restart actor choice ∷ steps) all = steps_begun items steps all.1
steps_begun items (Fail actor calls ∷ steps) all = steps_begun items steps all.1
steps_begun items (Drain ∷ steps) all = steps_begun items steps all.1

pub begins_counted : (plan : Content) (items : List Item) → AreApart (begun_by plan.steps) → IsServed plan items → NobodyIsDown items → IsQuiet items
    → AllByRecursion (IsBegunIn items) plan.steps → begins_in items ≡ length (begun_by plan.steps)
begins_counted plan items apart h up quiet begun =
    counted (begun_by plan.steps) (cluster_of plan) items apart h.free.run.stands quiet (all_among (begun_by plan.steps) plan.topology items h.free.known each)
    ∙ all_counted (λ n. is_begun items n) (begun_by plan.steps) (steps_begun items plan.steps begun)
  where
    each : (a : Actor) → Contains (actors plan.topology) a → AllByRecursion (IsAmongOwn (begun_by plan.steps) a) items
    each a there =
        let one : HasServed plan items a = h.commands a there in
        let all : AllByRecursion (IsAmong (begun_by plan.steps)) (reverse one.gone) =
        all_front (IsAmong (begun_by plan.steps)) (reverse one.gone) one.left
        (subst (AllByRecursion (IsAmong (begun_by plan.steps))) one.split (all_filtered (IsAmong (begun_by plan.steps)) (is_command_of (cluster_of plan) a) plan.steps (steps_among plan.steps))) in
        own_among (begun_by plan.steps) a items one.gone one.stop one.went up
        (subst (AllByRecursion (IsAmong (begun_by plan.steps))) (reverse-reverse one.gone) (all_turned (IsAmong (begun_by plan.steps)) (reverse one.gone) all))

-- ---- the last line

abbrev more_in : Line → ℕ
more_in (End txns replied more) = more
more_in _ = 0

pub free_answered : (plan : Content) (items : List Item) → AreApart (begun_by plan.steps) → IsServed plan items → NobodyIsDown items → IsQuiet items
    → AllByRecursion (IsBegunIn items) plan.steps → replies_in items ≤ begins_in items
    → last_line (notes_of items) ≡ End (begins_in items) (replies_in items) 0 → AreAnswered (length (begun_by plan.steps)) items
free_answered plan items apart h up quiet begun few none_open =
    let count : ℕ = length (begun_by plan.steps) in
    let begins_are : begins_in items ≡ count = begins_counted plan items apart h up quiet begun in
    let many : begins_in items - replies_in items ≡ 0 = ap more_in none_open in
    let replies_are : replies_in items ≡ count = omega (arith, begins_are, few, many) in
    record { begun = begins_are; replied = replies_are; last = none_open ∙ ap₂ (λ b r. End b r 0) begins_are replies_are }

-- a schedule of begins and drains
pub goes_forward : (steps : List Step) → EndsWithDrain steps → HasNoRecover steps × HasNoRestart steps
goes_forward [] ends = absurd ends
goes_forward (step ∷ []) ends = subst (λ s. HasNoRecover (s ∷ []) × HasNoRestart (s ∷ [])) (sym ends) (refl, refl)
goes_forward (step ∷ other ∷ steps) ends = by step ends.0 (goes_forward (other ∷ steps) ends.1)
  where
    by : (step : Step) → IsCalmStep step → HasNoRecover (other ∷ steps) × HasNoRestart (other ∷ steps)
        → HasNoRecover (step ∷ other ∷ steps) × HasNoRestart (step ∷ other ∷ steps)
    by (Begin txn) calm rest = rest
    by Drain calm rest = rest
    by (Deliver message) calm rest = absurd calm
    by (Drop message) calm rest = absurd calm
    by (Recover txn node) calm rest = absurd calm
    by (Slow txn) calm rest = absurd calm
    by (Restart actor choice) calm rest = absurd calm
    by (Fail actor calls) calm rest = absurd calm
