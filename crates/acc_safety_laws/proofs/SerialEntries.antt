-- What an entry of a node emits is right, and its notes are in order.
use Rattle.std.proofs.Common.{◌≡◌, ℕ, Bool, true, false, List, [], ◌∷◌, ◌++◌, Option, None, Some, refl, sym, ◌∙◌, ap, subst}
use Rattle.std.specs.List.{flat_map}
use Rattle.std.proofs.lemmas.Bool.{cond_both}
use Rattle.acc_stamp.specs.declared.stamps.TxnId.{TxnId}
use Rattle.acc_stamp.specs.declared.stamps.Ballot.{Ballot}
use Rattle.acc_stamp.specs.declared.actors.Actor.{Actor}
use Rattle.acc_stamp.specs.Actor.{actor_of}
use Rattle.acc_topology.specs.Layout.{Layout}
use Rattle.acc_deps.specs.declared.records.Settled.{Settled}
use Rattle.acc_txn.specs.declared.outcome.Outcome.{Outcome}
use Rattle.acc_message.specs.declared.message.Message.{Message}
use Rattle.acc_message.specs.declared.message.Message.TheVariants.{Inform}
use Rattle.acc_message.specs.declared.note.Note.{Note}
use Rattle.acc_message.specs.declared.note.Note.TheVariants.{Reply as ReplyNote}
use Rattle.acc_message.specs.declared.entry.Emitted.{Emitted}
use Rattle.acc_message.specs.declared.item.Item.{Item}
use Rattle.acc_message.specs.Fields.{id_of}
use Rattle.acc_message.specs.Attempts.{Attempt, Executing}
use Rattle.acc_message.specs.Coordinator.{when, may_slow_down, slow_down, reaction, slow_reaction}
use Rattle.acc_message.specs.NodeRules.{Act, Begins, Recovers, Slows, Takes, Restarts, Deed, next_id, attempt_of, is_open, emitted_by, replied, with_reply, on_taking, node_emits}
use Rattle.acc_message.specs.Run.{Cluster}
use Rattle.acc_safety.specs.Polls.{IsBody}
use Rattle.acc_safety_laws.proofs.Notions.{IsDecision, IsOutcome, IsRight}
use Rattle.acc_safety_laws.proofs.Facts.{Premises}
use Rattle.acc_safety_laws.proofs.Going.{Heard, Before, Counted, reaction_goes, slow_goes}
use Rattle.acc_safety_laws.proofs.Steps.{Told, Outcome_told, Other_told, told}
use Rattle.acc_safety_laws.proofs.NotesInOrder.{InOrder}
use Rattle.acc_safety_laws.proofs.NodeRight.{EachRight, heard_right, IsRightAttempt, requests_right, IsRightReaction, goes_right}

slow_is_silent : (layout : Layout) (own : Actor) (x : TxnId) (a : Attempt) → (slow_reaction layout own x a).emitted.notes ≡ []
slow_is_silent layout own x a = by (may_slow_down layout x a a.phase)
  where
    by : (b : Bool) → (when b (slow_down layout own x) a).emitted.notes ≡ []
    by true = refl
    by false = refl

module _ (cluster : Cluster) (whole : List Item) (given : Premises cluster whole) (notes more : List Note) (node start : ℕ) (past : List Deed)
    (before : (x : TxnId) (a : Attempt) → attempt_of cluster.layout node start x past ≡ Some a → IsRightAttempt cluster whole given notes x a) where
  abbrev layout : Layout
  layout = cluster.layout

  abbrev own : Actor
  own = actor_of node 0

  -- what the entry emits, and its notes
  pub record IsRightEntry (act : Act) : Type 0 where
    pub out : EachRight cluster whole given (notes ++ more) (node_emits cluster.layout node start past act).out
    pub noted : InOrder cluster whole notes (node_emits cluster.layout node start past act).notes

  -- ---- an attempt that is slowed down

  slow_right : (x : TxnId) (a : Attempt) → more ≡ (slow_reaction cluster.layout (actor_of node 0) x a).emitted.notes → attempt_of cluster.layout node start x past ≡ Some a
      → IsRightReaction cluster whole given notes more (actor_of node 0) x false (slow_reaction cluster.layout (actor_of node 0) x a)
  slow_right x a made is =
      goes_right cluster whole given notes more (actor_of node 0) x false (λ b. b ≡ a)
      (λ b same. subst (IsRightAttempt cluster whole given notes x) (sym same) (before x a is)) _ (slow_goes cluster.layout (actor_of node 0) x a)
      (made ∙ silent ∙ sym (ap (flat_map (replied false)) silent))
    where
      silent : (slow_reaction cluster.layout (actor_of node 0) x a).emitted.notes ≡ []
      silent = slow_is_silent cluster.layout (actor_of node 0) x a

  slows_right : (x : TxnId) → more ≡ (node_emits cluster.layout node start past (Slows x)).notes → IsRightEntry (Slows x)
  slows_right x made =
      record {
        out = out (attempt_of cluster.layout node start x past) refl made;
        noted = noted (attempt_of cluster.layout node start x past);
      }
    where
      out : (o : Option Attempt) → attempt_of cluster.layout node start x past ≡ o → more ≡ (emitted_by (slow_reaction cluster.layout (actor_of node 0) x) o).notes
          → EachRight cluster whole given (notes ++ more) (emitted_by (slow_reaction cluster.layout (actor_of node 0) x) o).out
      out None is e = tt
      out (Some a) is e = (slow_right x a e is).out

      noted : (o : Option Attempt) → InOrder cluster whole notes (emitted_by (slow_reaction cluster.layout (actor_of node 0) x) o).notes
      noted None = tt
      noted (Some a) = subst (InOrder cluster whole notes) (sym (slow_is_silent cluster.layout (actor_of node 0) x a)) tt

  -- ---- a message that an attempt hears

  reaction_right : (m : Message) (a : Attempt) (is_open : Bool) → IsRight cluster whole notes m → attempt_of cluster.layout node start (id_of m) past ≡ Some a
      → more ≡ flat_map (replied is_open) (reaction cluster.layout (actor_of node 0) (id_of m) a m).emitted.notes
      → IsRightReaction cluster whole given notes more (actor_of node 0) (id_of m) is_open (reaction cluster.layout (actor_of node 0) (id_of m) a m)
  reaction_right m a is_open right is made =
      goes_right cluster whole given notes more (actor_of node 0) (id_of m) is_open (Heard cluster.layout a m) now _ (reaction_goes cluster.layout (actor_of node 0) (id_of m) a m) made
    where
      was : IsRightAttempt cluster whole given notes (id_of m) a
      was = before (id_of m) a is

      now : (b : Attempt) → Heard cluster.layout a m b → IsRightAttempt cluster whole given notes (id_of m) b
      now b h = record { body = (same b h).0; begun = was.begun; decided = (same b h).1; reads = heard_right cluster whole given notes (id_of m) a m b was.reads refl right h }
        where
          same : (b : Attempt) → Heard cluster.layout a m b → IsBody cluster whole (id_of m) b.body × ((s : Settled) → b.phase ≡ Executing s → IsDecision cluster whole (id_of m) s.t s.deps)
          same b Before = (was.body, was.decided)
          same b (Counted is) = (was.body, was.decided)

  told_right : (from to : Actor) (id : TxnId) (b : Ballot) (o : Outcome) → IsOutcome cluster whole notes id o → IsRightEntry (Takes (Inform from to id b o))
  told_right from to id b o is =
      record {
        out = tt;
        noted = cond_both (is_open id past) (ReplyNote id o.reply ∷ []) [] (InOrder cluster whole notes)
            (λ _. ((is.noted, record { outcome = o; reply_is = refl; finished = is.finished }), tt)) (λ _. tt);
      }

  other_right : (m : Message) → IsRight cluster whole notes m
      → on_taking cluster.layout node start past m
      ≡ with_reply (is_open (id_of m) past) (emitted_by (λ a. reaction cluster.layout (actor_of node 0) (id_of m) a m) (attempt_of cluster.layout node start (id_of m) past))
      → more ≡ (node_emits cluster.layout node start past (Takes m)).notes → IsRightEntry (Takes m)
  other_right m right is made =
      let r = at (attempt_of cluster.layout node start (id_of m) past) refl in
      record {
        out = subst (λ (t : Emitted). EachRight cluster whole given (notes ++ more) t.out) (sym is) r.0;
        noted = subst (λ (t : Emitted). InOrder cluster whole notes t.notes) (sym is) r.1;
      }
    where
      made_by : (o : Option Attempt) → attempt_of cluster.layout node start (id_of m) past ≡ o
          → more ≡ flat_map (replied (is_open (id_of m) past)) (emitted_by (λ a. reaction cluster.layout (actor_of node 0) (id_of m) a m) o).notes
      made_by o at =
          made ∙ ap (λ (t : Emitted). t.notes) is
          ∙ ap (λ p. flat_map (replied (is_open (id_of m) past)) (emitted_by (λ a. reaction cluster.layout (actor_of node 0) (id_of m) a m) p).notes) at

      at : (o : Option Attempt) → attempt_of cluster.layout node start (id_of m) past ≡ o
          → EachRight cluster whole given (notes ++ more) (emitted_by (λ a. reaction cluster.layout (actor_of node 0) (id_of m) a m) o).out
          × InOrder cluster whole notes (flat_map (replied (is_open (id_of m) past)) (emitted_by (λ a. reaction cluster.layout (actor_of node 0) (id_of m) a m) o).notes)
      at None is' = (tt, tt)
      at (Some a) is' = let r = reaction_right m a (is_open (id_of m) past) right is' (made_by (Some a) is') in (r.out, r.noted)

  takes_right : (m : Message) → Told cluster.layout node start past m → IsRight cluster whole notes m → more ≡ (node_emits cluster.layout node start past (Takes m)).notes
      → IsRightEntry (Takes m)
  takes_right m (Outcome_told from to id b o) right made = told_right from to id b o right
  takes_right m (Other_told n is) right made = other_right m right is made

  pub entry_right : (act : Act) → ((m : Message) → act ≡ Takes m → IsRight cluster whole notes m) → more ≡ (node_emits cluster.layout node start past act).notes → IsRightEntry act
  entry_right (Begins txn body) right made =
      record { out = requests_right cluster whole given notes more (actor_of node 0) (next_id node start past) body _ (λ store. tt); noted = (tt, tt) }
  entry_right (Recovers x body) right made =
      record { out = requests_right cluster whole given notes more (actor_of node 0) x body _ (λ store. tt); noted = (tt, tt) }
  entry_right (Slows x) right made = slows_right x made
  entry_right (Takes m) right made = takes_right m (told cluster.layout node start past m) (right m refl) made
  entry_right Restarts right made = record { out = tt; noted = tt }
