-- What a node makes of right answers is right, and its notes are in order.
use Rattle.std.proofs.Common.{◌≡◌, Bool, true, false, ◌&&◌, cond, List, [], ◌∷◌, ◌++◌, refl, sym, ◌∙◌, ap, subst}
use Rattle.std.specs.List.{AllByRecursion, list_any, flat_map}
use Rattle.std.proofs.lemmas.Bool.{and_parts, cond_both}
use Rattle.acc_stamp.specs.declared.stamps.TxnId.{TxnId}
use Rattle.acc_stamp.specs.declared.stamps.Ballot.{Ballot}
use Rattle.acc_stamp.specs.declared.actors.Actor.{Actor}
use Rattle.acc_stamp.proofs.Rising.{each_append}
use Rattle.acc_deps.specs.declared.records.Settled.{Settled}
use Rattle.acc_txn.specs.declared.parts.BodyParts.{BodyParts}
use Rattle.acc_txn.specs.declared.outcome.Outcome.{Outcome}
use Rattle.acc_message.specs.declared.message.Message.{Message}
use Rattle.acc_message.specs.declared.message.Message.TheVariants.{Apply, Inform}
use Rattle.acc_message.specs.declared.note.Note.{Note}
use Rattle.acc_message.specs.declared.note.Note.TheVariants.{Outcome as OutcomeNote, Reply as ReplyNote}
use Rattle.acc_message.specs.declared.item.Item.{Item}
use Rattle.acc_message.specs.Fields.{id_of}
use Rattle.acc_message.specs.Items.{same_actor, begins}
use Rattle.acc_message.specs.Shares.{stores_used}
use Rattle.acc_message.specs.Attempts.{Attempt, Executing, fits, is_read_ok}
use Rattle.acc_message.specs.Coordinator.{Reaction, to_all, inform, home_node, begun}
use Rattle.acc_message.specs.NodeRules.{replied}
use Rattle.acc_message.specs.Run.{Cluster}
use Rattle.acc_safety.specs.Polls.{IsBody}
use Rattle.acc_safety_laws.proofs.Notions.{IsDecision, Answered, Finished, IsOutcome, IsRight}
use Rattle.acc_safety_laws.proofs.Facts.{Premises, decided_from}
use Rattle.acc_safety.specs.NodeMoves.{Move, Wait, Propose, CommitTo, DecideBy, FinishWith, BlockBy, EndBy, made}
use Rattle.acc_safety_laws.proofs.Going.{Finishing, Goes, Heard, Before, Counted}
use Rattle.acc_safety_laws.proofs.Frame.{each_map}
use Rattle.acc_safety_laws.proofs.NodeReads.{AreReads, outcome_is_right}
use Rattle.acc_safety_laws.proofs.NotesInOrder.{InOrder, answered_then, answered_now, finished_more}

module _ (cluster : Cluster) (whole : List Item) (given : Premises cluster whole) where
  abbrev pub EachRight : List Note → List Message → Type 0
  EachRight notes ms = AllByRecursion (IsRight cluster whole notes) ms

  -- the answers of an attempt of x that reads are right
  abbrev pub ReadsRight : List Note → TxnId → Attempt → Type 0
  ReadsRight notes x a = (s : Settled) → a.phase ≡ Executing s → AreReads cluster whole given notes x a.answers

  -- an answer more that is right
  pub heard_right : (notes : List Note) (x : TxnId) (before : Attempt) (m : Message) (a : Attempt) → ReadsRight notes x before → id_of m ≡ x
      → IsRight cluster whole notes m → Heard cluster.layout before m a → ReadsRight notes x a
  heard_right notes x before m a reads about right Before s executes = reads s executes
  heard_right notes x before m a reads about right (Counted is) s executes =
      (record { about = about; reads = read_ok; right = right }, reads s executes)
    where
      fitting : fits before.phase m ≡ true
      fitting = (and_parts (fits before.phase m) _ (and_parts (fits before.phase m && _) _ is).0).0

      read_ok : is_read_ok m ≡ true
      read_ok = subst (λ phase. fits phase m ≡ true) executes fitting

-- an attempt to which all of this applies
pub record IsRightAttempt (cluster : Cluster) (whole : List Item) (given : Premises cluster whole) (notes : List Note) (x : TxnId) (a : Attempt) : Type 0 where
  pub body : IsBody cluster whole x a.body
  pub begun : list_any (begins x) notes ≡ true
  pub decided : (s : Settled) → a.phase ≡ Executing s → IsDecision cluster whole x s.t s.deps
  pub reads : ReadsRight cluster whole given notes x a

module _ (cluster : Cluster) (whole : List Item) (given : Premises cluster whole) (notes more : List Note) (own : Actor) (x : TxnId) where
  pub requests_right : (body : BodyParts) (f : Actor → Message) → ((store : Actor) → IsRight cluster whole (notes ++ more) (f store))
      → EachRight cluster whole given (notes ++ more) (to_all cluster.layout body f)
  requests_right body f h = each_map (IsRight cluster whole (notes ++ more)) f (stores_used cluster.layout body) h

  inform_right : (b : Ballot) (o : Outcome) → IsOutcome cluster whole (notes ++ more) x o → EachRight cluster whole given (notes ++ more) (inform own x b o)
  inform_right b o is =
      cond_both (same_actor own (home_node x)) [] (Inform own (home_node x) x b o ∷ []) (EachRight cluster whole given (notes ++ more)) (λ _. tt) (λ _. (is, tt))

  -- what a reaction emits, and its notes, with the reply if the client is open
  pub record IsRightReaction (is_open : Bool) (r : Reaction) : Type 0 where
    pub out : EachRight cluster whole given (notes ++ more) r.emitted.out
    pub noted : InOrder cluster whole notes (flat_map (replied is_open) r.emitted.notes)

  outcome_in_order : (is_open : Bool) (o : Outcome) → list_any (begins x) notes ≡ true → Finished cluster whole notes x o
      → InOrder cluster whole notes (flat_map (replied is_open) (OutcomeNote x o.reply ∷ []))
  outcome_in_order false o begun f = ((begun, record { outcome = o; reply_is = refl; finished = f }), tt)
  outcome_in_order true o begun f = (
    (begun, record { outcome = o; reply_is = refl; finished = f }),
    (
      (
        answered_then notes (OutcomeNote x o.reply ∷ []) x (answered_now x o.reply []),
        record { outcome = o; reply_is = refl; finished = finished_more cluster whole notes (OutcomeNote x o.reply ∷ []) x o f },
      ),
      tt,
    ),
  )

  pub move_right : (is_open : Bool) (a : Attempt) (move : Move) → IsRightAttempt cluster whole given notes x a → Finishing cluster.layout a move
      → more ≡ flat_map (replied is_open) (made cluster.layout own x a move).emitted.notes → IsRightReaction is_open (made cluster.layout own x a move)
  move_right is_open a Wait right finishing made_of = record { out = tt; noted = tt }
  move_right is_open a (Propose s) right finishing made_of = record { out = requests_right a.body _ (λ store. tt); noted = tt }
  move_right is_open a (CommitTo s) right finishing made_of = record { out = requests_right a.body _ (λ store. tt); noted = tt }
  move_right is_open a (DecideBy path s) right finishing made_of = record { out = requests_right a.body _ (λ store. tt); noted = (tt, tt) }
  move_right is_open a (FinishWith s o) right finishing made_of =
      record {
        out = each_append (IsRight cluster whole (notes ++ more)) (to_all cluster.layout a.body (λ store. Apply own store x a.ballot a.body s.t s.deps o)) (inform own x a.ballot o)
            (requests_right a.body (λ store. Apply own store x a.ballot a.body s.t s.deps o) (λ store. outcome)) (inform_right a.ballot o outcome);
        noted = outcome_in_order is_open o right.begun finished;
      }
    where
      finished : Finished cluster whole notes x o
      finished =
          outcome_is_right cluster whole given notes x a.body a.answers o right.body
          (decided_from cluster whole given x s.t s.deps (right.decided s finishing.executes)) (right.reads s finishing.executes) finishing.found

      outcome : IsOutcome cluster whole (notes ++ more) x o
      outcome =
          record {
            finished = finished_more cluster whole notes more x o finished;
            noted = answered_then notes more x (subst (λ list. Answered list x) (sym made_of) (answered_now x o.reply (cond is_open (ReplyNote x o.reply ∷ []) [] ++ [])));
          }
  move_right is_open a (BlockBy by) right finishing made_of = record { out = tt; noted = (tt, tt) }
  move_right is_open a (EndBy by) right finishing made_of = record { out = tt; noted = (tt, tt) }

  -- the same of a reaction that goes by some move
  pub goes_right : (is_open : Bool) (Now : Attempt → Type 0) → ((a : Attempt) → Now a → IsRightAttempt cluster whole given notes x a)
      → (r : Reaction) → Goes cluster.layout own x Now r → more ≡ flat_map (replied is_open) r.emitted.notes → IsRightReaction is_open r
  goes_right is_open Now now r g made_of =
      subst (IsRightReaction is_open) (sym g.is)
      (move_right is_open g.attempt g.move (now g.attempt g.now) g.finishing (made_of ∙ ap (λ (t : Reaction). flat_map (replied is_open) t.emitted.notes) g.is))
