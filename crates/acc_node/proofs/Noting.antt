-- What an attempt notes, and what it notes with the reply to its client.
use Rattle.std.proofs.Common.{◌≡◌, ◌&&◌, ◌||◌, Bool, true, false, cond, List, [], ◌∷◌, ◌++◌, Option, None, Some, refl, sym, ap, subst, ◌∙◌}
use Rattle.std.proofs.lemmas.Bool.{false≢true, true≢false}
use Rattle.std.specs.Prelude.{is_none}
use Rattle.std.specs.List.{list_any, flat_map}
use Rattle.acc_stamp.specs.declared.stamps.TxnId.{TxnId}
use Rattle.acc_stamp.specs.declared.actors.Actor.{Actor}
use Rattle.acc_stamp.specs.Stamp.{id_eq}
use Rattle.acc_stamp.proofs.Order.{id_order, eq_itself}
use Rattle.acc_topology.specs.Layout.{Layout}
use Rattle.acc_message.specs.declared.message.Message.{Message}
use Rattle.acc_message.specs.declared.note.Note.{Note}
use Rattle.acc_message.specs.declared.note.Note.TheVariants.{Outcome, Reply}
use Rattle.acc_message.specs.Items.{begins, replies}
use Rattle.acc_message.specs.Attempts.{Attempt}
use Rattle.acc_message.specs.Coordinator.{Reaction, reaction}
use Rattle.acc_message.specs.NodeRules.{replied}
use Rattle.acc_safety.specs.NodeMoves.{Move, Wait, Propose, CommitTo, DecideBy, FinishWith, BlockBy, EndBy, made}
use Rattle.acc_safety.proofs.NodeMoved.{hears_all}
use Rattle.acc_node.specs.Notes.{Noted, Silent, Decides, Finishes, Blocks, Ends, Replies, reply_behind}

-- ---- what an attempt notes

module _ (layout : Layout) (own : Actor) (x : TxnId) where
  move_noted : (a : Attempt) (move : Move) → Noted x (made layout own x a move).emitted.notes (is_none (made layout own x a move).next)
  move_noted a Wait = Silent
  move_noted a (Propose s) = Silent
  move_noted a (CommitTo s) = Silent
  move_noted a (DecideBy path s) = Decides s.t path s.deps
  move_noted a (FinishWith s outcome) = Finishes outcome.reply
  move_noted a (BlockBy by) = Blocks a.ballot by
  move_noted a (EndBy by) = Ends a.ballot by

  pub noted : (a : Attempt) (m : Message) → Noted x (reaction layout own x a m).emitted.notes (is_none (reaction layout own x a m).next)
  noted a m =
      let h = hears_all layout own x a m in
      subst (λ (r : Reaction). Noted x r.emitted.notes (is_none r.next)) (sym h.is) (move_noted h.moving h.move)

-- ---- with the reply

module _ (x : TxnId) where
  -- where the attempt goes on, or its client is closed, nothing comes in
  pub no_reply : (notes : List Note) (has_ended is_open : Bool) → Noted x notes has_ended → (has_ended && is_open) ≡ false → Replies x is_open notes notes false
  no_reply _ _ is_open Silent e = record { notes = refl; answers = refl }
  no_reply _ _ is_open (Decides t path deps) e = record { notes = refl; answers = refl }
  no_reply _ _ true (Finishes reply) e = absurd (true≢false e)
  no_reply _ _ false (Finishes reply) e = record { notes = refl; answers = refl }
  no_reply _ _ is_open (Blocks ballot by) e = record { notes = refl; answers = refl }
  no_reply _ _ is_open (Ends ballot by) e = record { notes = refl; answers = refl }

  itself : true ≡ (id_eq x x || false)
  itself = sym (ap (λ b. b || false) (eq_itself id_order x))

  pub with_reply_behind : (notes : List Note) (has_ended : Bool) (note : Note) → Noted x notes has_ended → reply_behind notes ≡ Some note
      → Replies x true notes (notes ++ (note ∷ [])) true
  with_reply_behind _ _ note Silent e = absurd (let f : Some note ≡ None = sym e in cc)
  with_reply_behind _ _ note (Decides t path deps) e = absurd (let f : Some note ≡ None = sym e in cc)
  with_reply_behind _ _ note (Finishes reply) e =
      let same : Reply x reply ≡ note = let f : Some (Reply x reply) ≡ Some note = e in cc in
      subst (λ n. Replies x true (Outcome x reply ∷ []) (Outcome x reply ∷ (n ∷ [])) true) same (record { notes = refl; answers = itself })
  with_reply_behind _ _ note (Blocks ballot by) e = absurd (let f : Some note ≡ None = sym e in cc)
  with_reply_behind _ _ note (Ends ballot by) e = absurd (let f : Some note ≡ None = sym e in cc)

  pub no_reply_behind : (notes : List Note) (has_ended : Bool) → Noted x notes has_ended → reply_behind notes ≡ None → Replies x true notes notes false
  no_reply_behind _ _ Silent e = record { notes = refl; answers = refl }
  no_reply_behind _ _ (Decides t path deps) e = record { notes = refl; answers = refl }
  no_reply_behind _ _ (Finishes reply) e = absurd (let f : Some (Reply x reply) ≡ None = e in cc)
  no_reply_behind _ _ (Blocks ballot by) e = record { notes = refl; answers = refl }
  no_reply_behind _ _ (Ends ballot by) e = record { notes = refl; answers = refl }

-- ---- of whom the notes speak

-- notes that begin nothing, and reply to x alone
pub record OfOnly (x : TxnId) (notes : List Note) : Type 0 where
  pub replies_to : (y : TxnId) → list_any (replies y) notes ≡ (list_any (replies x) notes && id_eq x y)
  pub begins_none : (y : TxnId) → list_any (begins y) notes ≡ false

or_false : (b c : Bool) → c ≡ true → (b || false) ≡ ((c || false) && b)
or_false true true e = refl
or_false false true e = refl
or_false b false e = absurd (false≢true e)

pub of_only : (x : TxnId) (notes : List Note) (has_ended is_open : Bool) → Noted x notes has_ended → OfOnly x (flat_map (replied is_open) notes)
of_only x _ _ is_open Silent = record { replies_to = λ y. refl; begins_none = λ y. refl }
of_only x _ _ is_open (Decides t path deps) = record { replies_to = λ y. refl; begins_none = λ y. refl }
of_only x _ _ true (Finishes reply) = record { replies_to = λ y. or_false (id_eq x y) (id_eq x x) (eq_itself id_order x); begins_none = λ y. refl }
of_only x _ _ false (Finishes reply) = record { replies_to = λ y. refl; begins_none = λ y. refl }
of_only x _ _ is_open (Blocks ballot by) = record { replies_to = λ y. refl; begins_none = λ y. refl }
of_only x _ _ is_open (Ends ballot by) = record { replies_to = λ y. refl; begins_none = λ y. refl }
