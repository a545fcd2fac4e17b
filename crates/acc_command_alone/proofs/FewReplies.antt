-- A run gives at most as many replies as it begins transactions: each reply takes one of the clients that are open, and each begin
-- opens one.
use Rattle.std.proofs.Common.{◌≡◌, ℕ, suc, ◌+◌, ◌≤◌, Bool, true, false, not, ◌&&◌, ◌||◌, cond, ◌⊎◌, inl, inr, ⊎_elim, List, [], ◌∷◌, ◌++◌, length, filter, count_by, Option, None, Some, refl, sym, ◌∙◌, ap, subst, arith}
use Rattle.std.specs.List.{flat_map, list_any}
use Rattle.std.proofs.lemmas.Bool.{true≢false, and_parts, and_from, or_cases}
use Rattle.std.proofs.lemmas.List.{length-append}
use Rattle.std.proofs.lemmas.List.Sums.{sum_by-append, length-filter, count_by-le-length}
use Rattle.acc_stamp.specs.declared.stamps.TxnId.{TxnId}
use Rattle.acc_stamp.specs.declared.actors.Actor.{Actor}
use Rattle.acc_stamp.specs.Actor.{node_of, actor_of}
use Rattle.acc_stamp.proofs.Order.{id_order, eq_itself}
use Rattle.acc_topology.specs.Layout.{Layout}
use Rattle.acc_topology.proofs.Bits.{one_if, count_by-cons}
use Rattle.acc_message.specs.declared.message.Message.{Message}
use Rattle.acc_message.specs.declared.message.Message.TheVariants.{PreAccept, PreAcceptOk, Accept, AcceptOk, Commit, CommitOk, Stable, ReadOk, Apply, Recover, RecoverOk, Nack, Decided, Inform}
use Rattle.acc_message.specs.declared.note.Note.{Note}
use Rattle.acc_message.specs.declared.note.Note.TheVariants.{Begin as BeginNote, Recover as RecoverNote, Blocked, Ended, Decide, Outcome as OutcomeNote, Reply as ReplyNote}
use Rattle.acc_message.specs.declared.entry.Emitted.{Emitted}
use Rattle.acc_message.specs.declared.entry.Entry.{Entry}
use Rattle.acc_message.specs.declared.item.Item.{Item}
use Rattle.acc_message.specs.declared.item.Item.TheVariants.{Step, Skipped, Down}
use Rattle.acc_message.specs.Fields.{id_of}
use Rattle.acc_message.specs.Items.{same_actor, notes_of, begins, replies}
use Rattle.acc_message.specs.Attempts.{Attempt}
use Rattle.acc_message.specs.Coordinator.{reaction, slow_reaction}
use Rattle.acc_message.specs.NodeRules.{Act, Begins, Recovers, Slows, Takes, Restarts, Deed, is_restart, is_open, attempt_of, emitted_by, replied, with_reply, on_taking, node_emits}
use Rattle.acc_message.specs.Run.{Cluster, clock_start, deed_with, deed_if, deeds_of, is_node, emits_by, StandsOn, EachStands}
use Rattle.acc_report.specs.Report.{is_begin, is_reply}
use Rattle.acc_safety.specs.NodeMoves.{Move, Wait, Propose, CommitTo, DecideBy, FinishWith, BlockBy, EndBy, made, NodeNotes, NotesBegin, NotesRecover, NotesDecision, NotesOutcome, NotesReply, NotesTold, NotesBlocked, NotesEnded}
use Rattle.acc_safety.specs.Places.{IsIn, First, Later}
use Rattle.acc_safety.proofs.Bridge.{same, same_itself}
use Rattle.acc_safety.proofs.BodiesBegun.{begins_is}
use Rattle.acc_safety.proofs.NodeMoved.{hears_all, slow_moved}
use Rattle.acc_safety.proofs.NodeSent.{node_notes}
use Rattle.acc_safety.proofs.PlaceOrder.{passing, IsIn-append_left, IsIn-append_right, filter-IsIn, flat_map-IsIn}
use Rattle.acc_command_alone.specs.Counts.{begins_in, replies_in}

-- ---- an entry of a node gives one reply at most

module _ (layout : Layout) (own : Actor) (x : TxnId) (a : Attempt) where
  move_gives_none : (move : Move) → count_by is_reply (made layout own x a move).emitted.notes ≤ 1
  move_gives_none Wait = omega arith
  move_gives_none (Propose settled) = omega arith
  move_gives_none (CommitTo settled) = omega arith
  move_gives_none (DecideBy path settled) = omega arith
  move_gives_none (FinishWith settled outcome) = omega arith
  move_gives_none (BlockBy by) = omega arith
  move_gives_none (EndBy by) = omega arith

  move_gives_one : (is_open : Bool) (move : Move) → count_by is_reply (flat_map (replied is_open) (made layout own x a move).emitted.notes) ≤ 1
  move_gives_one is_open Wait = omega arith
  move_gives_one is_open (Propose settled) = omega arith
  move_gives_one is_open (CommitTo settled) = omega arith
  move_gives_one is_open (DecideBy path settled) = omega arith
  move_gives_one true (FinishWith settled outcome) = omega arith
  move_gives_one false (FinishWith settled outcome) = omega arith
  move_gives_one is_open (BlockBy by) = omega arith
  move_gives_one is_open (EndBy by) = omega arith

module _ (layout : Layout) (node start : ℕ) (past : List Deed) where
  slowing_gives_one : (x : TxnId) (o : Option Attempt) → count_by is_reply (emitted_by (slow_reaction layout (actor_of node 0) x) o).notes ≤ 1
  slowing_gives_one x None = omega arith
  slowing_gives_one x (Some a) =
      let m = slow_moved layout (actor_of node 0) x a in
      subst (λ r. count_by is_reply r.emitted.notes ≤ 1) (sym m.is) (move_gives_none layout (actor_of node 0) x a m.move)

  attempt_gives_one : (m : Message) (is_open : Bool) (o : Option Attempt)
      → count_by is_reply (with_reply is_open (emitted_by (λ a. reaction layout (actor_of node 0) (id_of m) a m) o)).notes ≤ 1
  attempt_gives_one m is_open None = omega arith
  attempt_gives_one m is_open (Some a) =
      let r = hears_all layout (actor_of node 0) (id_of m) a m in
      subst (λ r. count_by is_reply (flat_map (replied is_open) r.emitted.notes) ≤ 1) (sym r.is) (move_gives_one layout (actor_of node 0) (id_of m) r.moving is_open r.move)

  told_gives_one : (is_open : Bool) (note : Note) → count_by is_reply (cond is_open (note ∷ []) []) ≤ 1
  told_gives_one true note = count_by-le-length is_reply (note ∷ [])
  told_gives_one false note = omega arith

  taking_gives_one : (m : Message) → count_by is_reply (on_taking layout node start past m).notes ≤ 1
  taking_gives_one (Inform from to id ballot outcome) = told_gives_one (is_open id past) (ReplyNote id outcome.reply)
  taking_gives_one (PreAccept from to id ballot body) = attempt_gives_one (PreAccept from to id ballot body) _ _
  taking_gives_one (PreAcceptOk from to id ballot vote deps) = attempt_gives_one (PreAcceptOk from to id ballot vote deps) _ _
  taking_gives_one (Accept from to id ballot body t deps) = attempt_gives_one (Accept from to id ballot body t deps) _ _
  taking_gives_one (AcceptOk from to id ballot deps) = attempt_gives_one (AcceptOk from to id ballot deps) _ _
  taking_gives_one (Commit from to id ballot body t deps) = attempt_gives_one (Commit from to id ballot body t deps) _ _
  taking_gives_one (CommitOk from to id ballot) = attempt_gives_one (CommitOk from to id ballot) _ _
  taking_gives_one (Stable from to id ballot body t deps) = attempt_gives_one (Stable from to id ballot body t deps) _ _
  taking_gives_one (ReadOk from to id ballot answer) = attempt_gives_one (ReadOk from to id ballot answer) _ _
  taking_gives_one (Apply from to id ballot body t deps outcome) = attempt_gives_one (Apply from to id ballot body t deps outcome) _ _
  taking_gives_one (Recover from to id ballot body) = attempt_gives_one (Recover from to id ballot body) _ _
  taking_gives_one (RecoverOk from to id ballot view) = attempt_gives_one (RecoverOk from to id ballot view) _ _
  taking_gives_one (Nack from to id ballot promised) = attempt_gives_one (Nack from to id ballot promised) _ _
  taking_gives_one (Decided from to id ballot t deps) = attempt_gives_one (Decided from to id ballot t deps) _ _

  gives_one : (act : Act) → count_by is_reply (node_emits layout node start past act).notes ≤ 1
  gives_one (Begins txn body) = omega arith
  gives_one (Recovers x body) = omega arith
  gives_one (Slows x) = slowing_gives_one x (attempt_of layout node start x past)
  gives_one (Takes m) = taking_gives_one m
  gives_one Restarts = omega arith

  -- a reply closes an open client
  reply_is_open : (act : Act) (x : TxnId) (note : Note) → replies x note ≡ true → NodeNotes layout node start past act note → is_open x past ≡ true
  reply_is_open act x note is (NotesReply act' y a s outcome reacts open_now) = subst (λ z. is_open z past ≡ true) ((id_order.decides y x).0 is) open_now
  reply_is_open act x note is (NotesTold from to y b outcome open_now) = subst (λ z. is_open z past ≡ true) ((id_order.decides y x).0 is) open_now
  reply_is_open act x note is (NotesBegin txn body) = absurd (true≢false (sym is))
  reply_is_open act x note is (NotesRecover y body) = absurd (true≢false (sym is))
  reply_is_open act x note is (NotesDecision act' y a path s reacts) = absurd (true≢false (sym is))
  reply_is_open act x note is (NotesOutcome act' y a s outcome reacts) = absurd (true≢false (sym is))
  reply_is_open act x note is (NotesBlocked act' y a by reacts) = absurd (true≢false (sym is))
  reply_is_open act x note is (NotesEnded act' y a by reacts) = absurd (true≢false (sym is))

-- ---- an entry gives one reply at most, and only to an open client of its actor

noted_by : (node : Bool) (cluster : Cluster) (a : Actor) (past : List Deed) (act : Act) → count_by is_reply (emits_by node cluster a past act).notes ≤ 1
noted_by true cluster a past act = gives_one cluster.layout (node_of a) (clock_start cluster.starts (node_of a)) past act
noted_by false cluster a past (Begins txn body) = omega arith
noted_by false cluster a past (Recovers x body) = omega arith
noted_by false cluster a past (Slows x) = omega arith
noted_by false cluster a past (Takes m) = omega arith
noted_by false cluster a past Restarts = omega arith

open_by : (node : Bool) (cluster : Cluster) (a : Actor) (past : List Deed) (act : Act) (x : TxnId)
    → list_any (replies x) (emits_by node cluster a past act).notes ≡ true → is_open x past ≡ true
open_by true cluster a past act x h =
    let start = clock_start cluster.starts (node_of a) in
    let found = passing (replies x) (node_emits cluster.layout (node_of a) start past act).notes h in
    reply_is_open cluster.layout (node_of a) start past act x found.element found.passes
    (node_notes cluster.layout (node_of a) start past act found.element found.there)
open_by false cluster a past (Begins txn body) x h = absurd (true≢false (sym h))
open_by false cluster a past (Recovers y body) x h = absurd (true≢false (sym h))
open_by false cluster a past (Slows y) x h = absurd (true≢false (sym h))
open_by false cluster a past (Takes m) x h = absurd (true≢false (sym h))
open_by false cluster a past Restarts x h = absurd (true≢false (sym h))

module _ (cluster : Cluster) (earlier : List Item) (e : Entry) (s : StandsOn cluster earlier e) where
  entry_gives_one : count_by is_reply e.emitted.notes ≤ 1
  entry_gives_one =
      subst (λ (emitted : Emitted). count_by is_reply emitted.notes ≤ 1) (sym s.emitted)
      (noted_by (is_node e.actor) cluster e.actor (deeds_of cluster e.actor earlier) s.act)

  entry_is_open : (x : TxnId) → list_any (replies x) e.emitted.notes ≡ true → is_open x (deeds_of cluster e.actor earlier) ≡ true
  entry_is_open x h =
      open_by (is_node e.actor) cluster e.actor (deeds_of cluster e.actor earlier) s.act x
      (subst (λ (emitted : Emitted). list_any (replies x) emitted.notes ≡ true) s.emitted h)

-- ---- the clients that may be open

record Client : Type 0 where
  actor : Actor
  id : TxnId

abbrev opened_in : Actor → Note → List Client
opened_in a (BeginNote id) = record { actor = a; id = id } ∷ []
opened_in a (RecoverNote id ballot) = []
opened_in a (Blocked id ballot by) = []
opened_in a (Ended id ballot by) = []
opened_in a (Decide id t path deps) = []
opened_in a (OutcomeNote id reply) = []
opened_in a (ReplyNote id reply) = []

abbrev stays_open : Entry → Client → Bool
stays_open e client = not (same_actor e.actor client.actor && list_any (replies client.id) e.emitted.notes)

-- those that an item opens, and those that it doesn't close
abbrev open_after : Item → List Client → List Client
open_after (Step e) before = flat_map (opened_in e.actor) e.emitted.notes ++ filter (stays_open e) before
open_after (Skipped step cause) before = before
open_after (Down actor) before = before

abbrev open_of : List Item → List Client
open_of [] = []
open_of (item ∷ earlier) = open_after item (open_of earlier)

abbrev client_of : Actor → TxnId → Client
client_of a x = record { actor = a; id = x }

begun_opened : (a : Actor) (x : TxnId) (notes : List Note) → list_any (begins x) notes ≡ true → IsIn (client_of a x) (flat_map (opened_in a) notes)
begun_opened a x notes h =
    let found = passing (begins x) notes h in
    flat_map-IsIn (opened_in a) (client_of a x) (BeginNote x) notes
    (subst (λ note. IsIn note notes) (begins_is x found.element found.passes) found.there) (First (client_of a x) [])

module _ (cluster : Cluster) (a : Actor) (x : TxnId) where
  -- the client was opened in an entry of the actor, or before it
  open_or_before : (notes : List Note) (restarts : Bool) (past : List Deed)
      → (not restarts && not (list_any (replies x) notes) && (list_any (begins x) notes || is_open x past)) ≡ true
      → (list_any (replies x) notes ≡ false) × ((list_any (begins x) notes ≡ true) ⊎ (is_open x past ≡ true))
  open_or_before notes restarts past h =
      let outer = and_parts (not restarts && not (list_any (replies x) notes)) _ h in
      let inner = and_parts (not restarts) (not (list_any (replies x) notes)) outer.0 in
      (unset (list_any (replies x) notes) inner.1, or_cases (list_any (begins x) notes) (is_open x past) outer.1)
    where
      unset : (b : Bool) → not b ≡ true → b ≡ false
      unset true h = sym h
      unset false h = refl

  stays : (e : Entry) (earlier : List Item) → (same_actor e.actor a && list_any (replies x) e.emitted.notes) ≡ false
      → IsIn (client_of a x) (open_of earlier) → IsIn (client_of a x) (open_of (Step e ∷ earlier))
  stays e earlier none there =
      IsIn-append_right (client_of a x) (flat_map (opened_in e.actor) e.emitted.notes) (filter (stays_open e) (open_of earlier))
      (filter-IsIn (stays_open e) (client_of a x) (open_of earlier) there (ap not none))

  -- an open client is among those that may be
  open_there : (items : List Item) → EachStands cluster items → is_open x (deeds_of cluster a items) ≡ true → IsIn (client_of a x) (open_of items)
  open_there [] stands h = absurd (true≢false (sym h))
  open_there (Skipped step cause ∷ earlier) stands h = open_there earlier stands.1 h
  open_there (Down actor ∷ earlier) stands h = open_there earlier stands.1 h
  open_there (Step e ∷ earlier) stands h = by (same_actor e.actor a) refl h (λ before. open_there earlier stands.1 before)
    where
      none : (b : Bool) → (b && false) ≡ false
      none true = refl
      none false = refl

      by : (own : Bool) → same_actor e.actor a ≡ own → is_open x (deed_if own cluster earlier e ++ deeds_of cluster a earlier) ≡ true
          → (is_open x (deeds_of cluster a earlier) ≡ true → IsIn (client_of a x) (open_of earlier))
          → IsIn (client_of a x) (open_of (Step e ∷ earlier))
      by false other h rest = stays e earlier (ap (λ b. b && list_any (replies x) e.emitted.notes) other) (rest h)
      by true own h rest =
          let acted = subst (λ o. is_open x (deed_with o e.emitted ++ deeds_of cluster a earlier) ≡ true) stands.0.act_is h in
          let is = open_or_before e.emitted.notes (is_restart stands.0.act) (deeds_of cluster a earlier) acted in
          ⊎_elim
          (λ begun.
          IsIn-append_left (client_of a x) (flat_map (opened_in e.actor) e.emitted.notes) (filter (stays_open e) (open_of earlier))
          (subst (λ b. IsIn (client_of a x) (flat_map (opened_in b) e.emitted.notes)) (sym (same e.actor a own)) (begun_opened a x e.emitted.notes begun)))
          (λ before. stays e earlier (ap (λ b. same_actor e.actor a && b) is.0 ∙ none (same_actor e.actor a)) (rest before))
          is.1

-- ---- counts

-- some that fails the test is filtered out
fewer : {T : Type 0} (test : T → Bool) (x : T) (xs : List T) → IsIn x xs → test x ≡ false → suc (count_by test xs) ≤ length xs
fewer test x _ (First _ rest) fails =
    let none : one_if (test x) ≡ 0 = ap one_if fails in omega (arith, count_by-cons test x rest, none, count_by-le-length test rest)
fewer test x _ (Later _ y rest there) fails =
    omega (arith, count_by-cons test y rest, at_most (test y), fewer test x rest there fails)
  where
    at_most : (b : Bool) → one_if b ≤ 1
    at_most true = omega arith
    at_most false = omega arith

opened_counted : (a : Actor) (notes : List Note) → length (flat_map (opened_in a) notes) ≡ count_by is_begin notes
opened_counted a [] = refl
opened_counted a (note ∷ notes) =
    omega (arith, length-append (opened_in a note) (flat_map (opened_in a) notes), count_by-cons is_begin note notes, one note, opened_counted a notes)
  where
    one : (note : Note) → length (opened_in a note) ≡ one_if (is_begin note)
    one (BeginNote id) = refl
    one (RecoverNote id ballot) = refl
    one (Blocked id ballot by) = refl
    one (Ended id ballot by) = refl
    one (Decide id t path deps) = refl
    one (OutcomeNote id reply) = refl
    one (ReplyNote id reply) = refl

-- the transaction of the first reply
record Replied (notes : List Note) : Type 0 where
  id : TxnId
  replied_there : list_any (replies id) notes ≡ true

first_reply : (notes : List Note) → (count_by is_reply notes ≡ 0) ⊎ Replied notes
first_reply [] = inl refl
first_reply (note ∷ notes) = here note (first_reply notes)
  where
    later : (note : Note) → one_if (is_reply note) ≡ 0 → (count_by is_reply notes ≡ 0) ⊎ Replied notes → (count_by is_reply (note ∷ notes) ≡ 0) ⊎ Replied (note ∷ notes)
    later note none (inl zero) = inl (omega (arith, count_by-cons is_reply note notes, none, zero))
    later note none (inr more) =
        inr (record { id = more.id; replied_there = set (replies more.id note) more.replied_there })
      where
        set : (b : Bool) → list_any (replies more.id) notes ≡ true → (b || list_any (replies more.id) notes) ≡ true
        set true h = refl
        set false h = h

    here : (note : Note) → (count_by is_reply notes ≡ 0) ⊎ Replied notes → (count_by is_reply (note ∷ notes) ≡ 0) ⊎ Replied (note ∷ notes)
    here (BeginNote id) rest = later (BeginNote id) refl rest
    here (RecoverNote id ballot) rest = later (RecoverNote id ballot) refl rest
    here (Blocked id ballot by) rest = later (Blocked id ballot by) refl rest
    here (Ended id ballot by) rest = later (Ended id ballot by) refl rest
    here (Decide id t path deps) rest = later (Decide id t path deps) refl rest
    here (OutcomeNote id reply) rest = later (OutcomeNote id reply) refl rest
    here (ReplyNote id reply) rest =
        inr (record { id = id; replied_there = ap (λ b. b || list_any (replies id) notes) (eq_itself id_order id) })

-- an entry closes at least as many clients as it gives replies
module _ (cluster : Cluster) (earlier : List Item) (e : Entry) (stands : EachStands cluster (Step e ∷ earlier)) where
  closes : count_by is_reply e.emitted.notes + length (filter (stays_open e) (open_of earlier)) ≤ length (open_of earlier)
  closes =
      ⊎_elim
      (λ none. omega (arith, none, length-filter (stays_open e) (open_of earlier), count_by-le-length (stays_open e) (open_of earlier)))
      (λ reply.
      omega (
        arith,
        entry_gives_one cluster earlier e stands.0,
        length-filter (stays_open e) (open_of earlier),
        fewer (stays_open e) (client_of e.actor reply.id) (open_of earlier)
            (open_there cluster e.actor reply.id earlier stands.1 (entry_is_open cluster earlier e stands.0 reply.id reply.replied_there))
            (closed reply),
      ))
      (first_reply e.emitted.notes)
    where
      closed : (reply : Replied e.emitted.notes) → stays_open e (client_of e.actor reply.id) ≡ false
      closed reply = ap not (and_from (same_actor e.actor e.actor) _ (same_itself e.actor) reply.replied_there)

pub count_append : (p : Note → Bool) (notes more : List Note) → count_by p (notes ++ more) ≡ count_by p notes + count_by p more
count_append p notes more = sum_by-append (λ note. one_if (p note)) notes more

-- the replies and the open clients are no more than the begins
with_open : (cluster : Cluster) (items : List Item) → EachStands cluster items → replies_in items + length (open_of items) ≤ begins_in items
with_open cluster [] stands = omega arith
with_open cluster (Step e ∷ earlier) stands =
    omega (
      arith,
      with_open cluster earlier stands.1,
      closes cluster earlier e stands,
      length-append (flat_map (opened_in e.actor) e.emitted.notes) (filter (stays_open e) (open_of earlier)),
      opened_counted e.actor e.emitted.notes,
      count_append is_reply (notes_of earlier) e.emitted.notes,
      count_append is_begin (notes_of earlier) e.emitted.notes,
    )
with_open cluster (Skipped step cause ∷ earlier) stands =
    omega (arith, with_open cluster earlier stands.1, count_append is_reply (notes_of earlier) [], count_append is_begin (notes_of earlier) [])
with_open cluster (Down actor ∷ earlier) stands =
    omega (arith, with_open cluster earlier stands.1, count_append is_reply (notes_of earlier) [], count_append is_begin (notes_of earlier) [])

pub replies_few : (cluster : Cluster) (items : List Item) → EachStands cluster items → replies_in items ≤ begins_in items
replies_few cluster items stands = omega (arith, with_open cluster items stands)
