-- Whatever a node sends or notes belongs to a move of an attempt, or begins one, or tells an outcome to an open client.
use Rattle.std.proofs.Common.{◌≡◌, ℕ, cond, List, [], ◌∷◌, ◌++◌, Option, None, Some, map, refl, sym, subst, ⊎_elim}
use Rattle.std.specs.List.{flat_map}
use Rattle.acc_stamp.specs.declared.stamps.Stamp.{Stamp}
use Rattle.acc_stamp.specs.declared.stamps.TxnId.{TxnId}
use Rattle.acc_stamp.specs.declared.actors.Actor.{Actor}
use Rattle.acc_stamp.specs.Actor.{actor_of}
use Rattle.acc_stamp.specs.Stamp.{zero_ballot}
use Rattle.acc_topology.specs.Layout.{Layout}
use Rattle.acc_deps.specs.declared.shards.ShardDeps.{ShardDeps}
use Rattle.acc_txn.specs.declared.parts.BodyParts.{BodyParts}
use Rattle.acc_message.specs.declared.message.Message.{Message}
use Rattle.acc_message.specs.declared.message.Message.TheVariants.{PreAccept, PreAcceptOk, Accept, AcceptOk, Commit, CommitOk, Stable, ReadOk, Apply, Recover, RecoverOk, Nack, Decided, Inform}
use Rattle.acc_message.specs.declared.entry.Emitted.{Emitted}
use Rattle.acc_message.specs.declared.note.Path.{Path}
use Rattle.acc_message.specs.declared.note.Note.{Note}
use Rattle.acc_message.specs.declared.note.Note.TheVariants.{Begin as BeginNote, Recover as RecoverNote, Blocked, Ended, Decide as DecideNote, Outcome as OutcomeNote, Reply as ReplyNote}
use Rattle.acc_message.specs.Fields.{id_of}
use Rattle.acc_message.specs.Items.{same_actor}
use Rattle.acc_message.specs.Shares.{stores_used}
use Rattle.acc_message.specs.Attempts.{Attempt}
use Rattle.acc_message.specs.Coordinator.{Reaction, home_node, inform, reaction, slow_reaction}
use Rattle.acc_message.specs.NodeRules.{Act, Begins, Recovers, Slows, Takes, Restarts, Deed, next_id, next_ballot, is_open, attempt_of, emitted_by, replied, with_reply, on_taking, node_emits}
use Rattle.acc_safety.specs.Places.{IsIn, First}
use Rattle.acc_safety.specs.NodeMoves.{Move, Wait, Propose, CommitTo, DecideBy, FinishWith, BlockBy, EndBy, made, Reacts, ToSlow, ToMessage, NodeSends, AsksForVotes, AsksForViews, Proposes, Commits, Decides, Finishes, Informs, NodeNotes, NotesBegin, NotesRecover, NotesDecision, NotesOutcome, NotesReply, NotesTold, NotesBlocked, NotesEnded}
use Rattle.acc_safety.proofs.PlaceOrder.{only, none_is_in, IsIn-append_cases, IsIn-cond_cases, IsIn-map, IsIn-cases, flat_map-IsIn}
use Rattle.acc_safety.proofs.NodeMoved.{hears_all, slow_moved}

module _ (layout : Layout) (node start : ℕ) (past : List Deed) where
  -- ---- messages

  mapped : (act : Act) (body : BodyParts) (message_to : Actor → Message) (s : Message)
      → ((store : Actor) → NodeSends layout node start past act (message_to store))
      → IsIn s (map message_to (stores_used layout body)) → NodeSends layout node start past act s
  mapped act body message_to s each h =
      let from = IsIn-map message_to s (stores_used layout body) h in
      subst (NodeSends layout node start past act) (sym from.is) (each from.source)

  -- a decision that is noted stands among what is emitted in this step
  abbrev NotesDecisions : Act → Emitted → Type 0
  NotesDecisions act e =
      (x : TxnId) (t : Stamp) (path : Path) (deps : List ShardDeps) → IsIn (DecideNote x t path deps) e.notes
      → IsIn (DecideNote x t path deps) (node_emits layout node start past act).notes

  move_sends : (act : Act) (x : TxnId) (a : Attempt) (move : Move) (s : Message) → Reacts layout node start past x act a move
      → NotesDecisions act (made layout (actor_of node 0) x a move).emitted → IsIn s (made layout (actor_of node 0) x a move).emitted.out → NodeSends layout node start past act s
  move_sends act x a Wait s reacts noted h = absurd (none_is_in s h)
  move_sends act x a (Propose settled) s reacts noted h =
      mapped act a.body (λ store. Accept (actor_of node 0) store x a.ballot a.body settled.t settled.deps) s (λ store. Proposes act x a settled store reacts) h
  move_sends act x a (CommitTo settled) s reacts noted h =
      mapped act a.body (λ store. Commit (actor_of node 0) store x a.ballot a.body settled.t settled.deps) s (λ store. Commits act x a settled store reacts) h
  move_sends act x a (DecideBy path settled) s reacts noted h =
      mapped act a.body (λ store. Stable (actor_of node 0) store x a.ballot a.body settled.t settled.deps) s (λ store. Decides act x a path settled store reacts (noted x settled.t path settled.deps (First (DecideNote x settled.t path settled.deps) []))) h
  move_sends act x a (FinishWith settled outcome) s reacts noted h =
      ⊎_elim
      (mapped act a.body (λ store. Apply (actor_of node 0) store x a.ballot a.body settled.t settled.deps outcome) s (λ store. Finishes act x a settled outcome store reacts))
      (λ informs.
      ⊎_elim (λ none. absurd (none_is_in s none.1))
      (λ one. subst (NodeSends layout node start past act) (sym (only s _ one.1)) (Informs act x a settled outcome reacts))
      (IsIn-cond_cases s (same_actor (actor_of node 0) (home_node x)) [] _ informs))
      (IsIn-append_cases s (map (λ store. Apply (actor_of node 0) store x a.ballot a.body settled.t settled.deps outcome) (stores_used layout a.body))
      (inform (actor_of node 0) x a.ballot outcome) h)
  move_sends act x a (BlockBy by) s reacts noted h = absurd (none_is_in s h)
  move_sends act x a (EndBy by) s reacts noted h = absurd (none_is_in s h)

  slow_sends : (x : TxnId) (o : Option Attempt) (s : Message) → attempt_of layout node start x past ≡ o
      → IsIn s (emitted_by (slow_reaction layout (actor_of node 0) x) o).out → NodeSends layout node start past (Slows x) s
  slow_sends x None s is h = absurd (none_is_in s h)
  slow_sends x (Some a) s is h =
      let m = slow_moved layout (actor_of node 0) x a in
      move_sends (Slows x) x a m.move s (ToSlow a m.move is m.moves)
      (λ y t path deps there.
      subst (λ k. IsIn (DecideNote y t path deps) (emitted_by (slow_reaction layout (actor_of node 0) x) k).notes) (sym is)
      (subst (λ (r : Reaction). IsIn (DecideNote y t path deps) r.emitted.notes) (sym m.is) there))
      (subst (λ (r : Reaction). IsIn s r.emitted.out) m.is h)

  message_sends : (m : Message) (o : Option Attempt) (s : Message) → attempt_of layout node start (id_of m) past ≡ o
      → on_taking layout node start past m ≡ with_reply (is_open (id_of m) past) (emitted_by (λ a. reaction layout (actor_of node 0) (id_of m) a m) o)
      → IsIn s (emitted_by (λ a. reaction layout (actor_of node 0) (id_of m) a m) o).out → NodeSends layout node start past (Takes m) s
  message_sends m None s is taking h = absurd (none_is_in s h)
  message_sends m (Some a) s is taking h =
      let r = hears_all layout (actor_of node 0) (id_of m) a m in
      move_sends (Takes m) (id_of m) r.moving r.move s (ToMessage a r.moving m r.move is refl r.hears)
      (λ y t path deps there.
      let note : Note = DecideNote y t path deps in
      let notes : List Note = (reaction layout (actor_of node 0) (id_of m) a m).emitted.notes in
      subst (λ (e : Emitted). IsIn note e.notes) (sym taking)
      (flat_map-IsIn (replied (is_open (id_of m) past)) note note notes (subst (λ (k : Reaction). IsIn note k.emitted.notes) (sym r.is) there) (First note [])))
      (subst (λ (r : Reaction). IsIn s r.emitted.out) r.is h)

  taking_sends : (m s : Message) → IsIn s (on_taking layout node start past m).out → NodeSends layout node start past (Takes m) s
  taking_sends (Inform from to id ballot outcome) s h = absurd (none_is_in s h)
  taking_sends (PreAccept from to id ballot body) s h = message_sends (PreAccept from to id ballot body) _ s refl refl h
  taking_sends (PreAcceptOk from to id ballot vote deps) s h = message_sends (PreAcceptOk from to id ballot vote deps) _ s refl refl h
  taking_sends (Accept from to id ballot body t deps) s h = message_sends (Accept from to id ballot body t deps) _ s refl refl h
  taking_sends (AcceptOk from to id ballot deps) s h = message_sends (AcceptOk from to id ballot deps) _ s refl refl h
  taking_sends (Commit from to id ballot body t deps) s h = message_sends (Commit from to id ballot body t deps) _ s refl refl h
  taking_sends (CommitOk from to id ballot) s h = message_sends (CommitOk from to id ballot) _ s refl refl h
  taking_sends (Stable from to id ballot body t deps) s h = message_sends (Stable from to id ballot body t deps) _ s refl refl h
  taking_sends (ReadOk from to id ballot answer) s h = message_sends (ReadOk from to id ballot answer) _ s refl refl h
  taking_sends (Apply from to id ballot body t deps outcome) s h = message_sends (Apply from to id ballot body t deps outcome) _ s refl refl h
  taking_sends (Recover from to id ballot body) s h = message_sends (Recover from to id ballot body) _ s refl refl h
  taking_sends (RecoverOk from to id ballot view) s h = message_sends (RecoverOk from to id ballot view) _ s refl refl h
  taking_sends (Nack from to id ballot promised) s h = message_sends (Nack from to id ballot promised) _ s refl refl h
  taking_sends (Decided from to id ballot t deps) s h = message_sends (Decided from to id ballot t deps) _ s refl refl h

  pub node_sends : (act : Act) (s : Message) → IsIn s (node_emits layout node start past act).out → NodeSends layout node start past act s
  node_sends (Begins txn body) s h =
      mapped (Begins txn body) body (λ store. PreAccept (actor_of node 0) store (next_id node start past) zero_ballot body) s (AsksForVotes txn body) h
  node_sends (Recovers x body) s h =
      mapped (Recovers x body) body (λ store. Recover (actor_of node 0) store x (next_ballot node start past) body) s (AsksForViews x body) h
  node_sends (Slows x) s h = slow_sends x (attempt_of layout node start x past) s refl h
  node_sends (Takes m) s h = taking_sends m s h
  node_sends Restarts s h = absurd (none_is_in s h)

  -- ---- notes

  move_notes : (act : Act) (x : TxnId) (a : Attempt) (move : Move) (note : Note) → Reacts layout node start past x act a move
      → IsIn note (made layout (actor_of node 0) x a move).emitted.notes → NodeNotes layout node start past act note
  move_notes act x a Wait note reacts h = absurd (none_is_in note h)
  move_notes act x a (Propose settled) note reacts h = absurd (none_is_in note h)
  move_notes act x a (CommitTo settled) note reacts h = absurd (none_is_in note h)
  move_notes act x a (DecideBy path settled) note reacts h =
      subst (NodeNotes layout node start past act) (sym (only note (DecideNote x settled.t path settled.deps) h)) (NotesDecision act x a path settled reacts)
  move_notes act x a (FinishWith settled outcome) note reacts h =
      subst (NodeNotes layout node start past act) (sym (only note (OutcomeNote x outcome.reply) h)) (NotesOutcome act x a settled outcome reacts)
  move_notes act x a (BlockBy by) note reacts h =
      subst (NodeNotes layout node start past act) (sym (only note (Blocked x a.ballot by) h)) (NotesBlocked act x a by reacts)
  move_notes act x a (EndBy by) note reacts h =
      subst (NodeNotes layout node start past act) (sym (only note (Ended x a.ballot by) h)) (NotesEnded act x a by reacts)

  one_note : (act : Act) (note other : Note) → NodeNotes layout node start past act other → IsIn note (other ∷ []) → NodeNotes layout node start past act note
  one_note act note other k h = subst (NodeNotes layout node start past act) (sym (only note other h)) k

  -- after an outcome the reply stands, as long as the client is open
  move_replies : (act : Act) (x : TxnId) (a : Attempt) (move : Move) (note : Note) → Reacts layout node start past x act a move
      → IsIn note (flat_map (replied (is_open x past)) (made layout (actor_of node 0) x a move).emitted.notes) → NodeNotes layout node start past act note
  move_replies act x a Wait note reacts h = absurd (none_is_in note h)
  move_replies act x a (Propose settled) note reacts h = absurd (none_is_in note h)
  move_replies act x a (CommitTo settled) note reacts h = absurd (none_is_in note h)
  move_replies act x a (DecideBy path settled) note reacts h =
      one_note act note (DecideNote x settled.t path settled.deps) (NotesDecision act x a path settled reacts) h
  move_replies act x a (FinishWith settled outcome) note reacts h =
      ⊎_elim
      (λ first. subst (NodeNotes layout node start past act) (sym first) (NotesOutcome act x a settled outcome reacts))
      (λ rest.
      ⊎_elim
      (λ reply.
      ⊎_elim
      (λ open_now. one_note act note (ReplyNote x outcome.reply) (NotesReply act x a settled outcome reacts open_now.0) open_now.1)
      (λ closed. absurd (none_is_in note closed.1))
      (IsIn-cond_cases note (is_open x past) (ReplyNote x outcome.reply ∷ []) [] reply))
      (λ none. absurd (none_is_in note none))
      (IsIn-append_cases note (cond (is_open x past) (ReplyNote x outcome.reply ∷ []) []) [] rest))
      (IsIn-cases note (OutcomeNote x outcome.reply) (cond (is_open x past) (ReplyNote x outcome.reply ∷ []) [] ++ []) h)
  move_replies act x a (BlockBy by) note reacts h = one_note act note (Blocked x a.ballot by) (NotesBlocked act x a by reacts) h
  move_replies act x a (EndBy by) note reacts h = one_note act note (Ended x a.ballot by) (NotesEnded act x a by reacts) h

  slow_notes : (x : TxnId) (o : Option Attempt) (note : Note) → attempt_of layout node start x past ≡ o
      → IsIn note (emitted_by (slow_reaction layout (actor_of node 0) x) o).notes → NodeNotes layout node start past (Slows x) note
  slow_notes x None note is h = absurd (none_is_in note h)
  slow_notes x (Some a) note is h =
      let m = slow_moved layout (actor_of node 0) x a in
      move_notes (Slows x) x a m.move note (ToSlow a m.move is m.moves) (subst (λ (r : Reaction). IsIn note r.emitted.notes) m.is h)

  message_notes : (m : Message) (o : Option Attempt) (note : Note) → attempt_of layout node start (id_of m) past ≡ o
      → IsIn note (with_reply (is_open (id_of m) past) (emitted_by (λ a. reaction layout (actor_of node 0) (id_of m) a m) o)).notes
      → NodeNotes layout node start past (Takes m) note
  message_notes m None note is h = absurd (none_is_in note h)
  message_notes m (Some a) note is h =
      let r = hears_all layout (actor_of node 0) (id_of m) a m in
      move_replies (Takes m) (id_of m) r.moving r.move note (ToMessage a r.moving m r.move is refl r.hears)
      (subst (λ (r : Reaction). IsIn note (flat_map (replied (is_open (id_of m) past)) r.emitted.notes)) r.is h)

  taking_notes : (m : Message) (note : Note) → IsIn note (on_taking layout node start past m).notes → NodeNotes layout node start past (Takes m) note
  taking_notes (Inform from to id ballot outcome) note h =
      ⊎_elim
      (λ open_now. one_note (Takes (Inform from to id ballot outcome)) note (ReplyNote id outcome.reply) (NotesTold from to id ballot outcome open_now.0) open_now.1)
      (λ closed. absurd (none_is_in note closed.1))
      (IsIn-cond_cases note (is_open id past) (ReplyNote id outcome.reply ∷ []) [] h)
  taking_notes (PreAccept from to id ballot body) note h = message_notes (PreAccept from to id ballot body) _ note refl h
  taking_notes (PreAcceptOk from to id ballot vote deps) note h = message_notes (PreAcceptOk from to id ballot vote deps) _ note refl h
  taking_notes (Accept from to id ballot body t deps) note h = message_notes (Accept from to id ballot body t deps) _ note refl h
  taking_notes (AcceptOk from to id ballot deps) note h = message_notes (AcceptOk from to id ballot deps) _ note refl h
  taking_notes (Commit from to id ballot body t deps) note h = message_notes (Commit from to id ballot body t deps) _ note refl h
  taking_notes (CommitOk from to id ballot) note h = message_notes (CommitOk from to id ballot) _ note refl h
  taking_notes (Stable from to id ballot body t deps) note h = message_notes (Stable from to id ballot body t deps) _ note refl h
  taking_notes (ReadOk from to id ballot answer) note h = message_notes (ReadOk from to id ballot answer) _ note refl h
  taking_notes (Apply from to id ballot body t deps outcome) note h = message_notes (Apply from to id ballot body t deps outcome) _ note refl h
  taking_notes (Recover from to id ballot body) note h = message_notes (Recover from to id ballot body) _ note refl h
  taking_notes (RecoverOk from to id ballot view) note h = message_notes (RecoverOk from to id ballot view) _ note refl h
  taking_notes (Nack from to id ballot promised) note h = message_notes (Nack from to id ballot promised) _ note refl h
  taking_notes (Decided from to id ballot t deps) note h = message_notes (Decided from to id ballot t deps) _ note refl h

  pub node_notes : (act : Act) (note : Note) → IsIn note (node_emits layout node start past act).notes → NodeNotes layout node start past act note
  node_notes (Begins txn body) note h = one_note (Begins txn body) note (BeginNote (next_id node start past)) (NotesBegin txn body) h
  node_notes (Recovers x body) note h = one_note (Recovers x body) note (RecoverNote x (next_ballot node start past)) (NotesRecover x body) h
  node_notes (Slows x) note h = slow_notes x (attempt_of layout node start x past) note refl h
  node_notes (Takes m) note h = taking_notes m note h
  node_notes Restarts note h = absurd (none_is_in note h)
