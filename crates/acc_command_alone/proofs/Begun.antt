-- Over disks that don't fail each begin of a calm schedule begins a transaction, as long as none is begun twice, and no drain does.
use Rattle.std.proofs.Common.{◌≡◌, ℕ, ◌+◌, ◌<◌, ◌≤◌, Bool, true, false, not, ◌&&◌, ◌||◌, eqb, List, [], ◌∷◌, length, count_by, Option, None, Some, unwrap_or, refl, sym, ◌∙◌, ap, subst, ⊎_elim, arith}
use Rattle.std.specs.List.{slice_get, list_all, AllByRecursion}
use Rattle.std.specs.Option.{option_map}
use Rattle.std.proofs.lemmas.Bool.{true≢false, ne_eqb, eq-eqb, or_parts}
use Rattle.std.proofs.lemmas.Option.{slice_get_cases}
use Rattle.acc_base.specs.Faults.{or_else}
use Rattle.acc_stamp.specs.declared.actors.Actor.{Actor}
use Rattle.acc_stamp.specs.Actor.{node_of}
use Rattle.acc_topology.specs.Layout.{Layout}
use Rattle.acc_topology.specs.Sets.{is_among}
use Rattle.acc_topology.proofs.Bits.{one_if, count_by-cons}
use Rattle.acc_txn.specs.declared.parts.BodyParts.{BodyParts}
use Rattle.acc_message.specs.declared.message.Message.{Message}
use Rattle.acc_message.specs.declared.note.Note.{Note}
use Rattle.acc_message.specs.declared.entry.Event.TheVariants.{Begin as BeginEvent, Message as MessageEvent}
use Rattle.acc_message.specs.declared.item.Skip.TheVariants.{Down as IsDown, Begun}
use Rattle.acc_message.specs.declared.item.Item.{Item}
use Rattle.acc_message.specs.declared.item.Item.TheVariants.{Step as StepItem, Skipped, Down}
use Rattle.acc_message.specs.Items.{same_actor, noted_in, notes_of, sent_of, is_begun, message_at}
use Rattle.acc_message.specs.NodeRules.{Act, Begins, Recovers, Slows, Takes, Restarts, Deed}
use Rattle.acc_message.specs.Run.{Cluster, clock_start, deeds_of, is_node, emits_by, is_down}
use Rattle.acc_run_laws.specs.Asks.{home_of_txn, skip_if, emits_if}
use Rattle.acc_run_laws.specs.AskLaws.{is_no_down}
use Rattle.acc_report.specs.Report.{is_begin}
use Rattle.acc_safety.specs.NodeMoves.{NodeNotes, NotesBegin, NotesRecover, NotesDecision, NotesOutcome, NotesReply, NotesTold, NotesBlocked, NotesEnded}
use Rattle.acc_safety.specs.Places.{IsIn, First, Later}
use Rattle.acc_safety.proofs.DrawFacts.{is_node-node}
use Rattle.acc_safety.proofs.NodeSent.{node_notes}
use Rattle.acc_schedule.specs.declared.plan.Step.{Step}
use Rattle.acc_schedule.specs.declared.plan.Step.TheVariants.{Begin, Deliver, Drop, Recover, Slow, Restart, Fail, Drain}
use Rattle.acc_schedule_runs.specs.Situations.{Situation, whole, receiver_in}
use Rattle.acc_schedule_runs.specs.Moves.{Answers, entry_of, entered, tried, stepped_unless, begin_skip, Drains, stops, delivers}
use Rattle.acc_schedule_runs.specs.Schedules.{Follows}
use Rattle.acc_schedule_runs.specs.Laws.{NeverFails, IsCalmStep}
use Rattle.acc_schedule_runs.proofs.NobodyDown.{Clean, clean_next, tried_is_entered}
use Rattle.acc_command_alone.specs.Counts.{begun_by, AreApart, begins_in}
use Rattle.acc_command_alone.proofs.FewReplies.{count_append}

-- ---- what an entry notes

none_begun : (notes : List Note) → ((note : Note) → IsIn note notes → is_begin note ≡ false) → count_by is_begin notes ≡ 0
none_begun [] h = refl
none_begun (note ∷ notes) h =
    let none : one_if (is_begin note) ≡ 0 = ap one_if (h note (First note notes)) in
    omega (arith, count_by-cons is_begin note notes, none, none_begun notes (λ other there. h other (Later other note notes there)))

abbrev is_taking : Act → Bool
is_taking (Begins txn body) = false
is_taking (Recovers x body) = false
is_taking (Slows x) = false
is_taking (Takes m) = true
is_taking Restarts = false

taking_begins_none : (layout : Layout) (node start : ℕ) (past : List Deed) (act : Act) (note : Note) → is_taking act ≡ true
    → NodeNotes layout node start past act note → is_begin note ≡ false
taking_begins_none layout node start past act note is (NotesBegin txn body) = absurd (true≢false (sym is))
taking_begins_none layout node start past act note is (NotesRecover x body) = refl
taking_begins_none layout node start past act note is (NotesDecision act' x a path s reacts) = refl
taking_begins_none layout node start past act note is (NotesOutcome act' x a s outcome reacts) = refl
taking_begins_none layout node start past act note is (NotesReply act' x a s outcome reacts open_now) = refl
taking_begins_none layout node start past act note is (NotesTold from to x b outcome open_now) = refl
taking_begins_none layout node start past act note is (NotesBlocked act' x a by reacts) = refl
taking_begins_none layout node start past act note is (NotesEnded act' x a by reacts) = refl

module _ (cluster : Cluster) (items : List Item) (a : Actor) where
  -- a message begins nothing
  taken_begins_none : (o : Option Message) → count_by is_begin (emits_if cluster items a (option_map Takes o)).notes ≡ 0
  taken_begins_none None = refl
  taken_begins_none (Some m) = by (is_node a)
    where
      by : (node : Bool) → count_by is_begin (emits_by node cluster a (deeds_of cluster a items) (Takes m)).notes ≡ 0
      by false = refl
      by true =
          let start = clock_start cluster.starts (node_of a) in
          none_begun _
          (λ note there.
          taking_begins_none cluster.layout (node_of a) start (deeds_of cluster a items) (Takes m) note refl
          (node_notes cluster.layout (node_of a) start (deeds_of cluster a items) (Takes m) note there))

  -- and a begin at a node one transaction
  begun_begins_one : (txn : ℕ) (o : Option BodyParts) (body : BodyParts) → o ≡ Some body → is_node a ≡ true
      → count_by is_begin (emits_if cluster items a (option_map (Begins txn) o)).notes ≡ 1
  begun_begins_one txn o body is node =
      ap (λ o. count_by is_begin (emits_if cluster items a (option_map (Begins txn) o)).notes) is
      ∙ ap (λ b. count_by is_begin (emits_by b cluster a (deeds_of cluster a items) (Begins txn body)).notes) node

one_more_item : (item : Item) (items : List Item) → begins_in (item ∷ items) ≡ begins_in items + count_by is_begin (noted_in item)
one_more_item item items = count_append is_begin (notes_of items) (noted_in item)

-- ---- nobody is down

nobody_down : (items : List Item) (a : Actor) → list_all is_no_down items ≡ true → is_down a items ≡ false
nobody_down [] a h = refl
nobody_down (StepItem e ∷ earlier) a h = ap (λ b. b && (not (same_actor e.actor a) || e.lost)) (nobody_down earlier a h)
nobody_down (Skipped step cause ∷ earlier) a h = nobody_down earlier a h
nobody_down (Down actor ∷ earlier) a h = absurd (true≢false (sym h))

-- ---- steps

-- none of the transactions was begun
abbrev NoneBegun : Situation → List ℕ → Type 0
NoneBegun s ns = AllByRecursion (λ n. is_begun (whole s) n ≡ false) ns

-- the transactions are those of the cluster
abbrev pub AreOf : Cluster → List ℕ → Type 0
AreOf cluster ns = AllByRecursion (λ n. n < length cluster.bodies) ns

-- the same transactions are begun
record BeginsNone (s last : Situation) : Type 0 where
  count : begins_in last.own ≡ begins_in s.own
  begun : (n : ℕ) → is_begun (whole last) n ≡ is_begun (whole s) n

there_is : {X : Type 0} (xs : List X) (i : ℕ) → i < length xs → (x : X) × (slice_get xs i ≡ Some x)
there_is xs i less = ⊎_elim (λ found. (found.0, found.2)) (λ past. absurd (beyond less past.0)) (slice_get_cases xs i).1
  where
    beyond : {n k : ℕ} → n < k → k ≤ n → ⊥
    beyond p q = omega arith

none_also : (s next : Situation) (txn : ℕ) (ns : List ℕ) → ((n : ℕ) → is_begun (whole next) n ≡ (eqb txn n || is_begun (whole s) n))
    → is_among ns txn ≡ false → NoneBegun s ns → NoneBegun next ns
none_also s next txn [] begun apart none = tt
none_also s next txn (n ∷ ns) begun apart none =
    let parts = or_parts (eqb n txn) (is_among ns txn) apart in
    (begun n ∙ both (eqb txn n) (is_begun (whole s) n) (other n parts.0) none.0, none_also s next txn ns begun parts.1 none.1)
  where
    both : (a b : Bool) → a ≡ false → b ≡ false → (a || b) ≡ false
    both true b h k = h
    both false b h k = k

    other : (n : ℕ) → eqb n txn ≡ false → eqb txn n ≡ false
    other n h = ne_eqb txn n (λ same. true≢false (sym (itself n txn same) ∙ h))
      where
        itself : (n txn : ℕ) → txn ≡ n → eqb n txn ≡ true
        itself n txn same = eq-eqb n txn (sym same)

module _ (cluster : Cluster) (answers : Answers) (never : NeverFails answers) where
  message_begins_none : (s : Situation) (a : Actor) (n : ℕ) → BeginsNone s (tried cluster answers s a (MessageEvent n))
  message_begins_none s a n =
      subst (BeginsNone s) (sym (tried_is_entered cluster answers never s a (MessageEvent n)))
      (record {
        count =
            one_more_item (entry_of cluster s a (MessageEvent n) false) s.own
            ∙ no_more (taken_begins_none cluster (whole s) a (message_at (whole s) (length (sent_of s.earlier) + n)));
        begun = λ k. refl;
      })
    where
      no_more : {n : ℕ} → n ≡ 0 → begins_in s.own + n ≡ begins_in s.own
      no_more h = omega arith

  drain_begins_none : (last s : Situation) → Drains cluster answers last s → BeginsNone s last
  drain_begins_none last s (stops _ none is) = subst (BeginsNone s) (sym is) (record { count = refl; begun = λ n. refl })
  drain_begins_none last s (delivers _ n oldest rest) =
      let first = message_begins_none s (receiver_in s n) n in
      let more = drain_begins_none last (tried cluster answers s (receiver_in s n) (MessageEvent n)) rest in
      record { count = more.count ∙ first.count; begun = λ k. more.begun k ∙ first.begun k }

  -- a begin that isn't passed over
  begin_is_entered : (number txn : ℕ) (s : Situation) → Clean s → is_begun (whole s) txn ≡ false
      → stepped_unless (begin_skip cluster s txn) cluster answers number s (home_of_txn cluster txn) (BeginEvent txn)
      ≡ entered cluster s (home_of_txn cluster txn) (BeginEvent txn) false
  begin_is_entered number txn s clean fresh =
      let home : Actor = home_of_txn cluster txn in
      ap (λ down. stepped_unless (or_else (skip_if down (IsDown home)) (skip_if (is_begun (whole s) txn) (Begun txn))) cluster answers number s home (BeginEvent txn))
      (nobody_down (whole s) home clean.no_downs)
      ∙ ap (λ begun. stepped_unless (skip_if begun (Begun txn)) cluster answers number s home (BeginEvent txn)) fresh
      ∙ tried_is_entered cluster answers never s home (BeginEvent txn)

  begin_counts : (txn : ℕ) (s : Situation) → txn < length cluster.bodies
      → begins_in (entered cluster s (home_of_txn cluster txn) (BeginEvent txn) false).own ≡ begins_in s.own + 1
  begin_counts txn s less =
      let body = there_is cluster.bodies txn less in
      let home : Actor = home_of_txn cluster txn in
      one_more_item (entry_of cluster s home (BeginEvent txn) false) s.own
      ∙ ap (λ (n : ℕ). begins_in s.own + n)
      (begun_begins_one cluster (whole s) home txn (slice_get cluster.bodies txn) body.0 body.1 (is_node-node (unwrap_or (slice_get cluster.homes txn) 0)))

  -- ---- schedules

  none_still : (s next : Situation) (ns : List ℕ) → BeginsNone s next → NoneBegun s ns → NoneBegun next ns
  none_still s next [] same none = tt
  none_still s next (n ∷ ns) same none = (same.begun n ∙ none.0, none_still s next ns same none.1)

  pub begins_counted : (number : ℕ) (steps : List Step) (s last : Situation) → AllByRecursion IsCalmStep steps → AreOf cluster (begun_by steps)
      → AreApart (begun_by steps) → NoneBegun s (begun_by steps) → Clean s → Follows cluster answers number steps s last
      → begins_in last.own ≡ begins_in s.own + length (begun_by steps)
  begins_counted number [] s last calm of apart none clean follows = same (ap (λ (t : Situation). begins_in t.own) follows)
    where
      same : begins_in last.own ≡ begins_in s.own → begins_in last.own ≡ begins_in s.own + 0
      same h = omega arith
  begins_counted number (Drain ∷ steps) s last calm of apart none clean follows =
      let next : Situation = follows.0 in
      let drained : BeginsNone s next = drain_begins_none next s follows.1 in
      begins_counted (number + 1) steps next last calm.1 of apart (none_still s next (begun_by steps) drained none)
      (clean_next cluster answers never number Drain s next follows.1 clean) follows.2
      ∙ ap (λ (n : ℕ). n + length (begun_by steps)) drained.count
  begins_counted number (Begin txn ∷ steps) s last calm of apart none clean follows =
      let next : Situation = follows.0 in
      let is : next ≡ entered cluster s (home_of_txn cluster txn) (BeginEvent txn) false = follows.1 ∙ begin_is_entered number txn s clean none.0 in
      let begun : (n : ℕ) → is_begun (whole next) n ≡ (eqb txn n || is_begun (whole s) n) = λ n. ap (λ (t : Situation). is_begun (whole t) n) is in
      let one : begins_in next.own ≡ begins_in s.own + 1 = ap (λ (t : Situation). begins_in t.own) is ∙ begin_counts txn s of.0 in
      let rest : begins_in last.own ≡ begins_in next.own + length (begun_by steps) =
      begins_counted (number + 1) steps next last calm.1 of.1 apart.1 (none_also s next txn (begun_by steps) begun apart.0 none.1)
      (clean_next cluster answers never number (Begin txn) s next follows.1 clean) follows.2 in
      omega (arith, one, rest)
  begins_counted number (Deliver message ∷ steps) s last calm of apart none clean follows = absurd calm.0
  begins_counted number (Drop message ∷ steps) s last calm of apart none clean follows = absurd calm.0
  begins_counted number (Recover txn node ∷ steps) s last calm of apart none clean follows = absurd calm.0
  begins_counted number (Slow txn ∷ steps) s last calm of apart none clean follows = absurd calm.0
  begins_counted number (Restart actor choice ∷ steps) s last calm of apart none clean follows = absurd calm.0
  begins_counted number (Fail actor calls ∷ steps) s last calm of apart none clean follows = absurd calm.0
