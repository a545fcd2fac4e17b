-- An entry has two notes at most.
use Rattle.std.proofs.Common.{ℕ, ◌*◌, ◌≤◌, cond, Bool, true, false, List, [], ◌∷◌, length, Option, None, Some, sym, subst, arith, length-append}
use Rattle.std.specs.List.{flat_map}
use Rattle.acc_stamp.specs.declared.stamps.TxnId.{TxnId}
use Rattle.acc_stamp.specs.declared.actors.Actor.{Actor}
use Rattle.acc_stamp.specs.Actor.{node_of, actor_of}
use Rattle.acc_topology.specs.Layout.{Layout}
use Rattle.acc_message.specs.declared.message.Message.{Message}
use Rattle.acc_message.specs.declared.message.Message.TheVariants.{PreAccept, PreAcceptOk, Accept, AcceptOk, Commit, CommitOk, Stable, ReadOk, Apply, Recover, RecoverOk, Nack, Decided, Inform}
use Rattle.acc_message.specs.declared.note.Note.{Note}
use Rattle.acc_message.specs.declared.note.Note.TheVariants.{Begin as BeginNote, Recover as RecoverNote, Blocked, Ended, Decide, Outcome as OutcomeNote, Reply as ReplyNote}
use Rattle.acc_message.specs.declared.entry.Emitted.{Emitted}
use Rattle.acc_message.specs.declared.item.Item.{Item}
use Rattle.acc_message.specs.declared.item.Item.TheVariants.{Step, Skipped, Down}
use Rattle.acc_message.specs.Fields.{id_of}
use Rattle.acc_message.specs.Items.{notes_of}
use Rattle.acc_message.specs.Attempts.{Attempt}
use Rattle.acc_message.specs.Coordinator.{reaction, slow_reaction}
use Rattle.acc_message.specs.NodeRules.{Act, Begins, Recovers, Slows, Takes, Restarts, Deed, is_open, attempt_of, emitted_by, replied, with_reply, on_taking, node_emits}
use Rattle.acc_message.specs.Run.{Cluster, clock_start, deeds_of, is_node, emits_by, EachStands}
use Rattle.acc_safety.specs.NodeMoves.{Move, Wait, Propose, CommitTo, DecideBy, FinishWith, BlockBy, EndBy, made}
use Rattle.acc_safety.proofs.NodeMoved.{hears_all, slow_moved}

move_notes_few : (layout : Layout) (own : Actor) (x : TxnId) (a : Attempt) (move : Move) → length (made layout own x a move).emitted.notes ≤ 1
move_notes_few layout own x a Wait = omega arith
move_notes_few layout own x a (Propose settled) = omega arith
move_notes_few layout own x a (CommitTo settled) = omega arith
move_notes_few layout own x a (DecideBy path settled) = omega arith
move_notes_few layout own x a (FinishWith settled outcome) = omega arith
move_notes_few layout own x a (BlockBy by) = omega arith
move_notes_few layout own x a (EndBy by) = omega arith

one_replied : (is_open : Bool) (note : Note) → length (replied is_open note) ≤ 2
one_replied true (OutcomeNote id reply) = omega arith
one_replied false (OutcomeNote id reply) = omega arith
one_replied is_open (BeginNote id) = omega arith
one_replied is_open (RecoverNote id ballot) = omega arith
one_replied is_open (Blocked id ballot by) = omega arith
one_replied is_open (Ended id ballot by) = omega arith
one_replied is_open (Decide id t path deps) = omega arith
one_replied is_open (ReplyNote id reply) = omega arith

all_replied : (is_open : Bool) (notes : List Note) → length (flat_map (replied is_open) notes) ≤ 2 * length notes
all_replied is_open [] = omega arith
all_replied is_open (note ∷ notes) =
    omega (arith, length-append (replied is_open note) (flat_map (replied is_open) notes), one_replied is_open note, all_replied is_open notes)

module _ (layout : Layout) (node start : ℕ) (past : List Deed) where
  slowing_few : (x : TxnId) (o : Option Attempt) → length (emitted_by (slow_reaction layout (actor_of node 0) x) o).notes ≤ 2
  slowing_few x None = omega arith
  slowing_few x (Some a) =
      let m = slow_moved layout (actor_of node 0) x a in
      subst (λ r. length r.emitted.notes ≤ 2) (sym m.is) (omega (arith, move_notes_few layout (actor_of node 0) x a m.move))

  attempt_few : (m : Message) (b : Bool) (o : Option Attempt) → length (with_reply b (emitted_by (λ a. reaction layout (actor_of node 0) (id_of m) a m) o)).notes ≤ 2
  attempt_few m b None = omega arith
  attempt_few m b (Some a) =
      let r = hears_all layout (actor_of node 0) (id_of m) a m in
      subst (λ k. length (flat_map (replied b) k.emitted.notes) ≤ 2) (sym r.is)
      (omega (arith, all_replied b (made layout (actor_of node 0) (id_of m) r.moving r.move).emitted.notes, move_notes_few layout (actor_of node 0) (id_of m) r.moving r.move))

  told_few : (b : Bool) (note : Note) → length (cond b (note ∷ []) []) ≤ 2
  told_few true note = omega arith
  told_few false note = omega arith

  taking_few : (m : Message) → length (on_taking layout node start past m).notes ≤ 2
  taking_few (Inform from to id ballot outcome) = told_few (is_open id past) (ReplyNote id outcome.reply)
  taking_few (PreAccept from to id ballot body) = attempt_few (PreAccept from to id ballot body) _ _
  taking_few (PreAcceptOk from to id ballot vote deps) = attempt_few (PreAcceptOk from to id ballot vote deps) _ _
  taking_few (Accept from to id ballot body t deps) = attempt_few (Accept from to id ballot body t deps) _ _
  taking_few (AcceptOk from to id ballot deps) = attempt_few (AcceptOk from to id ballot deps) _ _
  taking_few (Commit from to id ballot body t deps) = attempt_few (Commit from to id ballot body t deps) _ _
  taking_few (CommitOk from to id ballot) = attempt_few (CommitOk from to id ballot) _ _
  taking_few (Stable from to id ballot body t deps) = attempt_few (Stable from to id ballot body t deps) _ _
  taking_few (ReadOk from to id ballot answer) = attempt_few (ReadOk from to id ballot answer) _ _
  taking_few (Apply from to id ballot body t deps outcome) = attempt_few (Apply from to id ballot body t deps outcome) _ _
  taking_few (Recover from to id ballot body) = attempt_few (Recover from to id ballot body) _ _
  taking_few (RecoverOk from to id ballot view) = attempt_few (RecoverOk from to id ballot view) _ _
  taking_few (Nack from to id ballot promised) = attempt_few (Nack from to id ballot promised) _ _
  taking_few (Decided from to id ballot t deps) = attempt_few (Decided from to id ballot t deps) _ _

  node_few : (act : Act) → length (node_emits layout node start past act).notes ≤ 2
  node_few (Begins txn body) = omega arith
  node_few (Recovers x body) = omega arith
  node_few (Slows x) = slowing_few x (attempt_of layout node start x past)
  node_few (Takes m) = taking_few m
  node_few Restarts = omega arith

pub emitted_few : (b : Bool) (cluster : Cluster) (a : Actor) (past : List Deed) (act : Act) → length (emits_by b cluster a past act).notes ≤ 2
emitted_few true cluster a past act = node_few cluster.layout (node_of a) (clock_start cluster.starts (node_of a)) past act
emitted_few false cluster a past (Begins txn body) = omega arith
emitted_few false cluster a past (Recovers x body) = omega arith
emitted_few false cluster a past (Slows x) = omega arith
emitted_few false cluster a past (Takes m) = omega arith
emitted_few false cluster a past Restarts = omega arith

pub notes_few : (cluster : Cluster) (items : List Item) → EachStands cluster items → length (notes_of items) ≤ 2 * length items
notes_few cluster [] h = omega arith
notes_few cluster (Step e ∷ earlier) h =
    let here : length e.emitted.notes ≤ 2 =
    subst (λ (m : Emitted). length m.notes ≤ 2) (sym h.0.emitted) (emitted_few (is_node e.actor) cluster e.actor (deeds_of cluster e.actor earlier) h.0.act) in
    omega (arith, length-append (notes_of earlier) e.emitted.notes, here, notes_few cluster earlier h.1)
notes_few cluster (Skipped step cause ∷ earlier) h = omega (arith, length-append (notes_of earlier) [], notes_few cluster earlier h.1)
notes_few cluster (Down actor ∷ earlier) h = omega (arith, length-append (notes_of earlier) [], notes_few cluster earlier h.1)
