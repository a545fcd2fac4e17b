-- Each stamp is drawn once: the ids of transactions and the ballots of recoveries all differ.
use Rattle.std.proofs.Common.{◌≡◌, ◌≢◌, ℕ, ◌*◌, ◌+◌, ◌%◌, Bool, true, false, not, ◌||◌, ◌&&◌, ◌==◌, List, [], ◌∷◌, ◌++◌, Option, None, Some, refl, sym, ◌∙◌, ap, subst, ◌⊎◌, inl, inr, ⊎_elim, arith}
use Rattle.std.specs.List.{AllByRecursion, flat_map}
use Rattle.std.specs.Option.{option_map}
use Rattle.std.proofs.lemmas.Bool.{true≢false, or_left, or_right, or_from, false_from_ne_true, eqb-true, eq-eqb, cases_Bool, cond_both}
use Rattle.std.proofs.lemmas.List.Concat.{flat_map-append}
use Rattle.acc_stamp.specs.declared.stamps.Stamp.{Stamp}
use Rattle.acc_stamp.specs.declared.stamps.TxnId.{TxnId}
use Rattle.acc_stamp.specs.declared.actors.Actor.{Actor}
use Rattle.acc_stamp.specs.Stamp.{stamp_eq, stamp_lt, ballot_eq, ballot_lt, zero_ballot}
use Rattle.acc_stamp.specs.Actor.{actor_of, node_of}
use Rattle.acc_stamp.specs.Clock.{next_stamp}
use Rattle.acc_stamp.specs.History.{ClockEvent, Draw, clock_after, stamps_drawn, DrawsRise, DrawsAreOfNode}
use Rattle.acc_stamp.specs.Rising.{is_among}
use Rattle.acc_stamp.proofs.Order.{stamp_order, apart}
use Rattle.acc_stamp.proofs.Rising.{each_at, each_weaker, is_among-append}
use Rattle.acc_topology.specs.Layout.{Layout}
use Rattle.acc_deps.specs.declared.records.Settled.{Settled}
use Rattle.acc_deps.specs.declared.records.Choice.{Choice}
use Rattle.acc_deps.specs.declared.records.Choice.TheVariants.{Accept as GoAccept, Commit as GoCommit, Stable as GoStable}
use Rattle.acc_txn.specs.declared.outcome.Outcome.{Outcome}
use Rattle.acc_message.specs.declared.message.Message.{Message}
use Rattle.acc_message.specs.declared.message.Message.TheVariants.{PreAccept, PreAcceptOk, Accept, AcceptOk, Commit, CommitOk, Stable, ReadOk, Apply, Recover, RecoverOk, Nack, Decided, Inform}
use Rattle.acc_message.specs.declared.note.Path.TheVariants.{Adopted}
use Rattle.acc_message.specs.declared.note.Note.{Note}
use Rattle.acc_message.specs.declared.note.Note.TheVariants.{Begin as BeginNote, Recover as RecoverNote, Blocked, Ended, Decide, Outcome as OutcomeNote, Reply as ReplyNote}
use Rattle.acc_message.specs.declared.entry.Emitted.{Emitted}
use Rattle.acc_message.specs.declared.entry.Entry.{Entry}
use Rattle.acc_message.specs.declared.entry.Event.{Event}
use Rattle.acc_message.specs.declared.entry.Event.TheVariants.{Begin as BeginEvent, Recover as RecoverEvent, Slow as SlowEvent, Message as MessageEvent, Restart as RestartEvent}
use Rattle.acc_message.specs.declared.item.Item.{Item}
use Rattle.acc_message.specs.declared.item.Item.TheVariants.{Step, Skipped, Down}
use Rattle.acc_message.specs.Fields.{id_of, ballot_of}
use Rattle.acc_message.specs.Items.{same_actor, id_of_txn, message_at}
use Rattle.acc_message.specs.Attempts.{Attempt, Phase, Voting, Recovering, Accepting, Committing, Executing, counts, majority_everywhere, fast_everywhere, fast_lost_somewhere, outcome_from}
use Rattle.acc_message.specs.RecoveryDecision.{Ruling, Go, Blocks, recovery_decision}
use Rattle.acc_message.specs.Coordinator.{Reaction, when, either, slow_down, decide, go, follow_ruling, finish_with, after_answer, with_answer, on_message, reaction, may_slow_down, slow_reaction, is_decided, is_past_recover, end}
use Rattle.acc_message.specs.NodeRules.{Act, Begins, Recovers, Slows, Takes, Restarts, Deed, clock_events, next_draw, is_open, attempt_of, emitted_by, replied, with_reply, on_taking, node_emits}
use Rattle.acc_message.specs.Run.{Cluster, clock_start, act_of, deed_with, deed_if, deeds_of, taken_from, store_emits, is_node, emits_by, emits, MayStand, StandsOn, EachStands}
use Rattle.acc_safety.specs.RunLaws.{drawn_in, drawn_of, AreDistinct}
use Rattle.acc_actor_laws.proofs.Standing.{not_none}
use Rattle.acc_actor_laws.proofs.OpeningFacts.{some_is}

abbrev drawn : Emitted → List Stamp
drawn e = flat_map drawn_in e.notes

-- ---- reactions draw nothing

abbrev Draws_nothing : Reaction → Type 0
Draws_nothing r = drawn r.emitted ≡ []

when_nothing : (b : Bool) (go_on : Attempt → Reaction) (a : Attempt) → Draws_nothing (go_on a) → Draws_nothing (when b go_on a)
when_nothing true go_on a h = h
when_nothing false go_on a h = refl

either_nothing : (b : Bool) (one other : Attempt → Reaction) (a : Attempt) → Draws_nothing (one a) → Draws_nothing (other a) → Draws_nothing (either b one other a)
either_nothing true one other a h k = h
either_nothing false one other a h k = k

module _ (layout : Layout) (own : Actor) (x : TxnId) where
  go_nothing : (a : Attempt) (choice : Choice) → Draws_nothing (go layout own x a choice)
  go_nothing a (GoAccept s) = refl
  go_nothing a (GoCommit s) = refl
  go_nothing a (GoStable s) = refl

  ruling_nothing : (a : Attempt) (r : Ruling) → Draws_nothing (follow_ruling layout own x a r)
  ruling_nothing a (Go choice) = go_nothing a choice
  ruling_nothing a (Blocks by) = refl

  finish_nothing : (a : Attempt) (s : Settled) (o : Option Outcome) → Draws_nothing (finish_with layout own x a s o)
  finish_nothing a s None = refl
  finish_nothing a s (Some outcome) = refl

  answer_nothing : (a : Attempt) (phase : Phase) → Draws_nothing (after_answer layout own x a phase)
  answer_nothing a Voting =
      either_nothing (fast_everywhere layout x a.body a.answers) _ _ a refl
      (when_nothing (majority_everywhere layout x a.body a.answers && fast_lost_somewhere layout x a.body a.answers) (slow_down layout own x) a refl)
  answer_nothing a Recovering =
      when_nothing (majority_everywhere layout x a.body a.answers) _ a (ruling_nothing a (recovery_decision layout x a.body a.answers))
  answer_nothing a (Accepting s) = when_nothing (majority_everywhere layout x a.body a.answers) _ a refl
  answer_nothing a (Committing s) = when_nothing (majority_everywhere layout x a.body a.answers) _ a refl
  answer_nothing a (Executing s) = finish_nothing a s (outcome_from layout a.body a.answers)

  counted_nothing : (a : Attempt) (m : Message)
      → Draws_nothing (when (counts layout a m) (λ a. after_answer layout own x (with_answer a m) a.phase) a)
  counted_nothing a m = when_nothing (counts layout a m) _ a (answer_nothing (with_answer a m) a.phase)

  message_nothing : (a : Attempt) (m : Message) → Draws_nothing (on_message layout own x a m)
  message_nothing a (Nack from to id ballot promised) =
      when_nothing (not (is_decided a.phase) && ballot_lt a.ballot promised) (λ b. end x b promised) a refl
  message_nothing a (Decided from to id ballot t deps) =
      when_nothing (not (is_decided a.phase) && (is_past_recover a.phase || ballot_eq a.ballot zero_ballot))
      (λ b. decide layout own x b Adopted (record { t = t; deps = deps })) a refl
  message_nothing a (PreAccept from to id ballot body) = counted_nothing a (PreAccept from to id ballot body)
  message_nothing a (PreAcceptOk from to id ballot vote deps) = counted_nothing a (PreAcceptOk from to id ballot vote deps)
  message_nothing a (Accept from to id ballot body t deps) = counted_nothing a (Accept from to id ballot body t deps)
  message_nothing a (AcceptOk from to id ballot deps) = counted_nothing a (AcceptOk from to id ballot deps)
  message_nothing a (Commit from to id ballot body t deps) = counted_nothing a (Commit from to id ballot body t deps)
  message_nothing a (CommitOk from to id ballot) = counted_nothing a (CommitOk from to id ballot)
  message_nothing a (Stable from to id ballot body t deps) = counted_nothing a (Stable from to id ballot body t deps)
  message_nothing a (ReadOk from to id ballot answer) = counted_nothing a (ReadOk from to id ballot answer)
  message_nothing a (Apply from to id ballot body t deps outcome) = counted_nothing a (Apply from to id ballot body t deps outcome)
  message_nothing a (Recover from to id ballot body) = counted_nothing a (Recover from to id ballot body)
  message_nothing a (RecoverOk from to id ballot view) = counted_nothing a (RecoverOk from to id ballot view)
  message_nothing a (Inform from to id ballot outcome) = counted_nothing a (Inform from to id ballot outcome)

  reaction_nothing : (a : Attempt) (m : Message) → Draws_nothing (reaction layout own x a m)
  reaction_nothing a m = when_nothing (ballot_eq (ballot_of m) a.ballot) (λ b. on_message layout own x b m) a (message_nothing a m)

  slow_nothing : (a : Attempt) → Draws_nothing (slow_reaction layout own x a)
  slow_nothing a = when_nothing (may_slow_down layout x a a.phase) (slow_down layout own x) a refl

emitted_nothing : (react : Attempt → Reaction) (o : Option Attempt) → ((a : Attempt) → Draws_nothing (react a)) → drawn (emitted_by react o) ≡ []
emitted_nothing react None h = refl
emitted_nothing react (Some a) h = h a

replied-drawn : (is_open : Bool) (note : Note) → flat_map drawn_in (replied is_open note) ≡ drawn_in note
replied-drawn is_open (OutcomeNote id reply) = cond_both is_open _ [] (λ notes. flat_map drawn_in (OutcomeNote id reply ∷ notes) ≡ []) (λ _. refl) (λ _. refl)
replied-drawn is_open (BeginNote id) = refl
replied-drawn is_open (RecoverNote id ballot) = refl
replied-drawn is_open (Blocked id ballot by) = refl
replied-drawn is_open (Ended id ballot by) = refl
replied-drawn is_open (Decide id t path deps) = refl
replied-drawn is_open (ReplyNote id reply) = refl

with_reply-drawn : (is_open : Bool) (notes : List Note) → flat_map drawn_in (flat_map (replied is_open) notes) ≡ flat_map drawn_in notes
with_reply-drawn is_open [] = refl
with_reply-drawn is_open (note ∷ notes) =
    flat_map-append drawn_in (replied is_open note) (flat_map (replied is_open) notes)
    ∙ ap (λ stamps. stamps ++ flat_map drawn_in (flat_map (replied is_open) notes)) (replied-drawn is_open note)
    ∙ ap (λ stamps. drawn_in note ++ stamps) (with_reply-drawn is_open notes)

attempt_nothing : (layout : Layout) (node start : ℕ) (past : List Deed) (m : Message)
    → drawn (with_reply (is_open (id_of m) past)
    (emitted_by (λ a. reaction layout (actor_of node 0) (id_of m) a m) (attempt_of layout node start (id_of m) past))) ≡ []
attempt_nothing layout node start past m =
    with_reply-drawn (is_open (id_of m) past) (emitted_by (λ a. reaction layout (actor_of node 0) (id_of m) a m) (attempt_of layout node start (id_of m) past)).notes
    ∙ emitted_nothing (λ a. reaction layout (actor_of node 0) (id_of m) a m) (attempt_of layout node start (id_of m) past)
    (λ a. reaction_nothing layout (actor_of node 0) (id_of m) a m)

taking_nothing : (layout : Layout) (node start : ℕ) (past : List Deed) (m : Message) → drawn (on_taking layout node start past m) ≡ []
taking_nothing layout node start past (Inform from to id ballot outcome) =
    cond_both (is_open id past) _ [] (λ notes. flat_map drawn_in notes ≡ []) (λ _. refl) (λ _. refl)
taking_nothing layout node start past (PreAccept from to id ballot body) = attempt_nothing layout node start past (PreAccept from to id ballot body)
taking_nothing layout node start past (PreAcceptOk from to id ballot vote deps) = attempt_nothing layout node start past (PreAcceptOk from to id ballot vote deps)
taking_nothing layout node start past (Accept from to id ballot body t deps) = attempt_nothing layout node start past (Accept from to id ballot body t deps)
taking_nothing layout node start past (AcceptOk from to id ballot deps) = attempt_nothing layout node start past (AcceptOk from to id ballot deps)
taking_nothing layout node start past (Commit from to id ballot body t deps) = attempt_nothing layout node start past (Commit from to id ballot body t deps)
taking_nothing layout node start past (CommitOk from to id ballot) = attempt_nothing layout node start past (CommitOk from to id ballot)
taking_nothing layout node start past (Stable from to id ballot body t deps) = attempt_nothing layout node start past (Stable from to id ballot body t deps)
taking_nothing layout node start past (ReadOk from to id ballot answer) = attempt_nothing layout node start past (ReadOk from to id ballot answer)
taking_nothing layout node start past (Apply from to id ballot body t deps outcome) = attempt_nothing layout node start past (Apply from to id ballot body t deps outcome)
taking_nothing layout node start past (Recover from to id ballot body) = attempt_nothing layout node start past (Recover from to id ballot body)
taking_nothing layout node start past (RecoverOk from to id ballot view) = attempt_nothing layout node start past (RecoverOk from to id ballot view)
taking_nothing layout node start past (Nack from to id ballot promised) = attempt_nothing layout node start past (Nack from to id ballot promised)
taking_nothing layout node start past (Decided from to id ballot t deps) = attempt_nothing layout node start past (Decided from to id ballot t deps)

-- ---- a begin and a recover of a node draw, and nothing else does

-- the stamps that a step draws, in front of those that its clock drew before
abbrev draws_by : ℕ → ℕ → List Deed → Act → List Stamp
draws_by node start past (Begins txn body) = next_draw node start past ∷ []
draws_by node start past (Recovers x body) = next_draw node start past ∷ []
draws_by node start past _ = []

node-drawn : (layout : Layout) (node start : ℕ) (past : List Deed) (act : Act) → drawn (node_emits layout node start past act) ≡ draws_by node start past act
node-drawn layout node start past (Begins txn body) = refl
node-drawn layout node start past (Recovers x body) = refl
node-drawn layout node start past (Slows x) =
    emitted_nothing (slow_reaction layout (actor_of node 0) x) (attempt_of layout node start x past) (slow_nothing layout (actor_of node 0) x)
node-drawn layout node start past (Takes m) = taking_nothing layout node start past m
node-drawn layout node start past Restarts = refl

clock-drawn : (node start : ℕ) (past : List Deed) (act : Act) (emitted : Emitted)
    → stamps_drawn node start (clock_events (record { act = act; emitted = emitted } ∷ past))
    ≡ draws_by node start past act ++ stamps_drawn node start (clock_events past)
clock-drawn node start past (Begins txn body) emitted = refl
clock-drawn node start past (Recovers x body) emitted = refl
clock-drawn node start past (Slows x) emitted = refl
clock-drawn node start past (Takes m) emitted = refl
clock-drawn node start past Restarts emitted = refl

store_nothing : (layout : Layout) (a : Actor) (past : List Deed) (act : Act) → drawn (store_emits layout a (taken_from past) act) ≡ []
store_nothing layout a past (Takes m) = refl
store_nothing layout a past (Begins txn body) = refl
store_nothing layout a past (Recovers x body) = refl
store_nothing layout a past (Slows x) = refl
store_nothing layout a past Restarts = refl

-- ---- what each node drew in a run

-- the stamps that a node drew in these items, the newest first
abbrev node_stamps : Cluster → ℕ → List Item → List Stamp
node_stamps cluster node items =
    stamps_drawn node (clock_start cluster.starts node) (clock_events (deeds_of cluster (actor_of node 0) items))

-- a step leaves what a node drew before
abbrev AddsTo : List Stamp → List Stamp → Type 0
AddsTo before after = (new : List Stamp) × (after ≡ new ++ before)

deed_adds : (node start : ℕ) (past : List Deed) (o : Option Act) (emitted : Emitted)
    → AddsTo (stamps_drawn node start (clock_events past)) (stamps_drawn node start (clock_events (deed_with o emitted ++ past)))
deed_adds node start past None emitted = ([], refl)
deed_adds node start past (Some act) emitted = (draws_by node start past act, clock-drawn node start past act emitted)

entry_adds : (b : Bool) (cluster : Cluster) (earlier : List Item) (e : Entry) (node start : ℕ) (past : List Deed)
    → AddsTo (stamps_drawn node start (clock_events past)) (stamps_drawn node start (clock_events (deed_if b cluster earlier e ++ past)))
entry_adds true cluster earlier e node start past = deed_adds node start past (act_of cluster earlier e.event) e.emitted
entry_adds false cluster earlier e node start past = ([], refl)

item_adds : (cluster : Cluster) (node : ℕ) (item : Item) (earlier : List Item)
    → AddsTo (node_stamps cluster node earlier) (node_stamps cluster node (item ∷ earlier))
item_adds cluster node (Step e) earlier =
    entry_adds (same_actor e.actor (actor_of node 0)) cluster earlier e node (clock_start cluster.starts node) (deeds_of cluster (actor_of node 0) earlier)
item_adds cluster node (Skipped step cause) earlier = ([], refl)
item_adds cluster node (Down actor) earlier = ([], refl)

-- some node drew the stamp
abbrev Owned : Cluster → List Item → Stamp → Type 0
Owned cluster items s = (node : ℕ) × (is_among stamp_eq s (node_stamps cluster node items) ≡ true)

among_behind : (s : Stamp) (new before after : List Stamp) → after ≡ new ++ before → is_among stamp_eq s before ≡ true → is_among stamp_eq s after ≡ true
among_behind s new before after e h =
    ap (is_among stamp_eq s) e ∙ is_among-append stamp_eq s new before ∙ or_right (is_among stamp_eq s new) (is_among stamp_eq s before) h

Owned-kept : (cluster : Cluster) (item : Item) (earlier : List Item) (s : Stamp) → Owned cluster earlier s → Owned cluster (item ∷ earlier) s
Owned-kept cluster item earlier s h =
    let adds = item_adds cluster h.0 item earlier in
    (h.0, among_behind s adds.0 (node_stamps cluster h.0 earlier) (node_stamps cluster h.0 (item ∷ earlier)) adds.1 h.1)

-- ---- a new draw differs from all others

none_among : (s : Stamp) (stamps : List Stamp) → AllByRecursion (λ t. stamp_eq t s ≡ false) stamps → is_among stamp_eq s stamps ≡ false
none_among s [] h = refl
none_among s (t ∷ stamps) h = or_from (stamp_eq t s) (is_among stamp_eq s stamps) h.0 (none_among s stamps h.1)

other_origin : (m n : ℕ) (s t : Stamp) → m ≢ n → s.origin ≡ m * 64 → t.origin ≡ n * 64 → stamp_eq s t ≡ true → ⊥
other_origin m n s t apart mine theirs e =
    let same : s.origin ≡ t.origin = ap (λ (z : Stamp). z.origin) ((stamp_order.decides s t).0 e) in
    let one : m ≡ n = omega arith in
    apart one

-- what is known of clocks
pub record Clocks : Type 0 where
  pub rise : (node start : ℕ) (past : List ClockEvent) → DrawsRise node start past
  pub of_node : (node start : ℕ) (past : List ClockEvent) → DrawsAreOfNode node start past

differs : Clocks → (cluster : Cluster) (node : ℕ) (earlier : List Item) (t : Stamp) → Owned cluster earlier t
    → stamp_eq t (next_draw node (clock_start cluster.starts node) (deeds_of cluster (actor_of node 0) earlier)) ≡ false
differs clocks cluster node earlier t owned =
    ⊎_elim
    (λ same. apart stamp_order t next
    (each_at stamp_order (λ u. stamp_lt u next ≡ true) t (stamps_drawn node start events) (clocks.rise node start (Draw ∷ events)).0
    (subst (λ n. is_among stamp_eq t (node_stamps cluster n earlier) ≡ true) (eqb-true owned.0 node same) owned.1)))
    (λ apart. false_from_ne_true (stamp_eq t next) (other_origin owned.0 node t next (ne_from owned.0 node apart)
    (each_at stamp_order (λ (u : Stamp). u.origin ≡ owned.0 * 64) t (node_stamps cluster owned.0 earlier)
    (clocks.of_node owned.0 (clock_start cluster.starts owned.0) (clock_events (deeds_of cluster (actor_of owned.0 0) earlier))) owned.1)
    (clocks.of_node node start (Draw ∷ events)).0))
    (cases_Bool (owned.0 == node))
  where
    start : ℕ
    start = clock_start cluster.starts node

    events : List ClockEvent
    events = clock_events (deeds_of cluster (actor_of node 0) earlier)

    next : Stamp
    next = next_stamp (clock_after node start events)

    ne_from : (m n : ℕ) → (m == n) ≡ false → m ≢ n
    ne_from m n h e = true≢false (sym (eq-eqb m n e) ∙ h)

-- ---- what an entry draws

pub node_is : (node : ℕ) → node_of (actor_of node 0) ≡ node
node_is node = omega arith

pub is_node-node : (node : ℕ) → is_node (actor_of node 0) ≡ true
is_node-node node = eq-eqb ((node * 64 + 0) % 64) 0 (omega arith)

emits-drawn : (cluster : Cluster) (earlier : List Item) (node : ℕ) (act : Act)
    → drawn (emits cluster earlier (actor_of node 0) act)
    ≡ draws_by node (clock_start cluster.starts node) (deeds_of cluster (actor_of node 0) earlier) act
emits-drawn cluster earlier node act =
    let a : Actor = actor_of node 0 in
    let past : List Deed = deeds_of cluster a earlier in
    ap (λ b. drawn (emits_by b cluster a past act)) (is_node-node node)
    ∙ ap (λ n. drawn (node_emits cluster.layout n (clock_start cluster.starts n) past act)) (node_is node)
    ∙ node-drawn cluster.layout node (clock_start cluster.starts node) past act

-- an entry draws nothing, or one node draws its next stamp in it
abbrev DrawsNext : Cluster → List Item → Entry → Type 0
DrawsNext cluster earlier e =
    (node : ℕ) × (e.actor ≡ actor_of node 0)
    × (drawn e.emitted ≡ next_draw node (clock_start cluster.starts node) (deeds_of cluster (actor_of node 0) earlier) ∷ [])
    × (is_among stamp_eq (next_draw node (clock_start cluster.starts node) (deeds_of cluster (actor_of node 0) earlier))
    (node_stamps cluster node (Step e ∷ earlier)) ≡ true)

quiet : (b : Bool) (cluster : Cluster) (a : Actor) (past : List Deed) (act : Act)
    → ((node start : ℕ) → draws_by node start past act ≡ []) → drawn (emits_by b cluster a past act) ≡ []
quiet true cluster a past act h =
    node-drawn cluster.layout (node_of a) (clock_start cluster.starts (node_of a)) past act ∙ h (node_of a) (clock_start cluster.starts (node_of a))
quiet false cluster a past act h = store_nothing cluster.layout a past act

-- the stamps of a node that draws in its own entry
stamps_then : (cluster : Cluster) (earlier : List Item) (e : Entry) (node : ℕ) (act : Act) (s : Stamp) → e.actor ≡ actor_of node 0
    → act_of cluster earlier e.event ≡ Some act
    → draws_by node (clock_start cluster.starts node) (deeds_of cluster (actor_of node 0) earlier) act ≡ s ∷ []
    → is_among stamp_eq s (node_stamps cluster node (Step e ∷ earlier)) ≡ true
stamps_then cluster earlier e node act s here is draws =
    let start : ℕ = clock_start cluster.starts node in
    let past : List Deed = deeds_of cluster (actor_of node 0) earlier in
    ap (λ b. is_among stamp_eq s (stamps_drawn node start (clock_events (deed_if b cluster earlier e ++ past))))
    (eq-eqb (e.actor.0) ((actor_of node 0).0) (ap (λ (a : Actor). a.0) here))
    ∙ ap (λ o. is_among stamp_eq s (stamps_drawn node start (clock_events (deed_with o e.emitted ++ past)))) is
    ∙ ap (is_among stamp_eq s) (clock-drawn node start past act e.emitted ∙ ap (λ new. new ++ stamps_drawn node start (clock_events past)) draws)
    ∙ or_left (stamp_eq s s) _ ((stamp_order.decides s s).1 refl)

at_node : (cluster : Cluster) (earlier : List Item) (e : Entry) (act : Act) (node : ℕ) → e.actor ≡ actor_of node 0
    → act_of cluster earlier e.event ≡ Some act → e.emitted ≡ emits cluster earlier e.actor act
    → ((start : ℕ) (past : List Deed) → draws_by node start past act ≡ next_draw node start past ∷ []) → DrawsNext cluster earlier e
at_node cluster earlier e act node here is emitted draws =
    let start : ℕ = clock_start cluster.starts node in
    let past : List Deed = deeds_of cluster (actor_of node 0) earlier in (
      node,
      here,
      ap drawn emitted ∙ ap (λ a. drawn (emits cluster earlier a act)) here ∙ emits-drawn cluster earlier node act ∙ draws start past,
      stamps_then cluster earlier e node act (next_draw node start past) here is (draws start past),
    )

abbrev Draws : Cluster → List Item → Entry → Type 0
Draws cluster earlier e = (drawn e.emitted ≡ []) ⊎ DrawsNext cluster earlier e

by_act : (cluster : Cluster) (earlier : List Item) (e : Entry) (act : Act) → act_of cluster earlier e.event ≡ Some act
    → e.emitted ≡ emits cluster earlier e.actor act → ((node : ℕ) × (e.actor ≡ actor_of node 0)) ⊎ ((node start : ℕ) (past : List Deed) → draws_by node start past act ≡ [])
    → Draws cluster earlier e
by_act cluster earlier e (Begins txn body) is emitted h =
    ⊎_elim (λ home. inr (at_node cluster earlier e (Begins txn body) home.0 home.1 is emitted (λ start past. refl)))
    (λ none. inl (ap drawn emitted ∙ quiet (is_node e.actor) cluster e.actor (deeds_of cluster e.actor earlier) (Begins txn body) (λ node start. none node start (deeds_of cluster e.actor earlier)))) h
by_act cluster earlier e (Recovers x body) is emitted h =
    ⊎_elim (λ home. inr (at_node cluster earlier e (Recovers x body) home.0 home.1 is emitted (λ start past. refl)))
    (λ none. inl (ap drawn emitted ∙ quiet (is_node e.actor) cluster e.actor (deeds_of cluster e.actor earlier) (Recovers x body) (λ node start. none node start (deeds_of cluster e.actor earlier)))) h
by_act cluster earlier e (Slows x) is emitted h = inl (ap drawn emitted ∙ quiet (is_node e.actor) cluster e.actor (deeds_of cluster e.actor earlier) (Slows x) (λ node start. refl))
by_act cluster earlier e (Takes m) is emitted h = inl (ap drawn emitted ∙ quiet (is_node e.actor) cluster e.actor (deeds_of cluster e.actor earlier) (Takes m) (λ node start. refl))
by_act cluster earlier e Restarts is emitted h = inl (ap drawn emitted ∙ quiet (is_node e.actor) cluster e.actor (deeds_of cluster e.actor earlier) Restarts (λ node start. refl))

takes_nothing : (o : Option Message) (act : Act) → option_map Takes o ≡ Some act → (node start : ℕ) (past : List Deed) → draws_by node start past act ≡ []
takes_nothing None act e node start past = absurd (not_none act e)
takes_nothing (Some m) act e node start past = ap (draws_by node start past) (sym (some_is (Takes m) act e))

slows_nothing : (o : Option TxnId) (act : Act) → option_map Slows o ≡ Some act → (node start : ℕ) (past : List Deed) → draws_by node start past act ≡ []
slows_nothing None act e node start past = absurd (not_none act e)
slows_nothing (Some x) act e node start past = ap (draws_by node start past) (sym (some_is (Slows x) act e))

place_of : (cluster : Cluster) (earlier : List Item) (a : Actor) (act : Act) (event : Event) → act_of cluster earlier event ≡ Some act
    → MayStand cluster earlier a act event
    → ((node : ℕ) × (a ≡ actor_of node 0)) ⊎ ((node start : ℕ) (past : List Deed) → draws_by node start past act ≡ [])
place_of cluster earlier a act (BeginEvent txn) is place = inl (place.0.0, place.0.2)
place_of cluster earlier a act (RecoverEvent txn) is place = inl (place.0.0, place.0.2)
place_of cluster earlier a act (SlowEvent txn) is place = inr (slows_nothing (id_of_txn earlier txn) act is)
place_of cluster earlier a act (MessageEvent number) is place = inr (takes_nothing (message_at earlier number) act is)
place_of cluster earlier a act (RestartEvent kept) is place = inr (λ node start past. ap (draws_by node start past) (sym (some_is Restarts act is)))

entry_draws : (cluster : Cluster) (earlier : List Item) (e : Entry) → StandsOn cluster earlier e → Draws cluster earlier e
entry_draws cluster earlier e s =
    by_act cluster earlier e s.act s.act_is s.emitted (place_of cluster earlier e.actor s.act e.event s.act_is s.place)

-- ---- the whole

abbrev Distinctly : Cluster → List Item → List Stamp → Type 0
Distinctly cluster items stamps = AreDistinct stamps × AllByRecursion (Owned cluster items) stamps

skip_draws : (cluster : Cluster) (item : Item) (earlier : List Item) (stamps : List Stamp) → Distinctly cluster earlier stamps → Distinctly cluster (item ∷ earlier) stamps
skip_draws cluster item earlier stamps h =
    (h.0, each_weaker (Owned cluster earlier) (Owned cluster (item ∷ earlier)) stamps (Owned-kept cluster item earlier) h.1)

step_draws : Clocks → (cluster : Cluster) (e : Entry) (earlier : List Item) → Draws cluster earlier e → Distinctly cluster earlier (drawn_of earlier)
    → Distinctly cluster (Step e ∷ earlier) (drawn e.emitted ++ drawn_of earlier)
step_draws clocks cluster e earlier draws h =
    ⊎_elim
    (λ none. subst (λ new. Distinctly cluster (Step e ∷ earlier) (new ++ drawn_of earlier)) (sym none) (skip_draws cluster (Step e) earlier (drawn_of earlier) h))
    (λ one. subst (λ new. Distinctly cluster (Step e ∷ earlier) (new ++ drawn_of earlier)) (sym one.2) (with_next one.0 one.3))
    draws
  where
    with_next : (node : ℕ)
        → is_among stamp_eq (next_draw node (clock_start cluster.starts node) (deeds_of cluster (actor_of node 0) earlier)) (node_stamps cluster node (Step e ∷ earlier)) ≡ true
        → Distinctly cluster (Step e ∷ earlier) (next_draw node (clock_start cluster.starts node) (deeds_of cluster (actor_of node 0) earlier) ∷ drawn_of earlier)
    with_next node among =
        let next : Stamp = next_draw node (clock_start cluster.starts node) (deeds_of cluster (actor_of node 0) earlier) in
        let behind = skip_draws cluster (Step e) earlier (drawn_of earlier) h in (
          (none_among next (drawn_of earlier) (each_weaker (Owned cluster earlier) (λ t. stamp_eq t next ≡ false) (drawn_of earlier) (differs clocks cluster node earlier) h.1), h.0),
          ((node, among), behind.1),
        )

distinctly : Clocks → (cluster : Cluster) (items : List Item) → EachStands cluster items → Distinctly cluster items (drawn_of items)
distinctly clocks cluster [] h = (tt, tt)
distinctly clocks cluster (Step e ∷ earlier) h =
    step_draws clocks cluster e earlier (entry_draws cluster earlier e h.0) (distinctly clocks cluster earlier h.1)
distinctly clocks cluster (Skipped step cause ∷ earlier) h = skip_draws cluster (Skipped step cause) earlier (drawn_of earlier) (distinctly clocks cluster earlier h.1)
distinctly clocks cluster (Down actor ∷ earlier) h = skip_draws cluster (Down actor) earlier (drawn_of earlier) (distinctly clocks cluster earlier h.1)

pub stamps_are_drawn_once : Clocks → (cluster : Cluster) (items : List Item) → EachStands cluster items → AreDistinct (drawn_of items)
stamps_are_drawn_once clocks cluster items h = (distinctly clocks cluster items h).0
