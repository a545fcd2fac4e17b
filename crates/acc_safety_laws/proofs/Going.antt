-- How an attempt goes on in a step: the attempt that moves, its move, and where it finishes the outcome that it found.
use Rattle.std.proofs.Common.{◌≡◌, true, refl}
use Rattle.acc_stamp.specs.declared.stamps.TxnId.{TxnId}
use Rattle.acc_stamp.specs.declared.actors.Actor.{Actor}
use Rattle.std.proofs.Common.{Some}
use Rattle.acc_topology.specs.Layout.{Layout}
use Rattle.acc_deps.specs.declared.records.Settled.{Settled}
use Rattle.acc_txn.specs.declared.outcome.Outcome.{Outcome}
use Rattle.acc_message.specs.declared.message.Message.{Message}
use Rattle.acc_message.specs.Attempts.{Attempt, Executing, counts, outcome_from}
use Rattle.acc_message.specs.Coordinator.{Reaction, with_answer, reaction, slow_reaction}
use Rattle.acc_safety.specs.NodeMoves.{Move, FinishWith, made, Moves, WaitsForMore, HasOutcome, Hears, Ignores, Counts}
use Rattle.acc_safety.proofs.NodeMoved.{hears_all, slow_moved}

-- an attempt that finishes was reading, and its answers give the outcome
pub record FinishesBy (layout : Layout) (a : Attempt) (s : Settled) (o : Outcome) : Type 0 where
  pub executes : a.phase ≡ Executing s
  pub found : outcome_from layout a.body a.answers ≡ Some o

abbrev pub Finishing : Layout → Attempt → Move → Type 0
Finishing layout a (FinishWith s o) = FinishesBy layout a s o
Finishing layout a _ = Unit {0}

-- a reaction is that of one of these attempts, by some move
pub record Goes (layout : Layout) (own : Actor) (x : TxnId) (Now : Attempt → Type 0) (r : Reaction) : Type 0 where
  pub attempt : Attempt
  pub now : Now attempt
  pub move : Move
  pub finishing : Finishing layout attempt move
  pub is : r ≡ made layout own x attempt move

-- the attempt as it was, or with the message as an answer that counts
pub data Heard (layout : Layout) (before : Attempt) (m : Message) : Attempt → Type 0 where
  Before : Heard layout before m before
  Counted : counts layout before m ≡ true → Heard layout before m (with_answer before m)

module _ (layout : Layout) (own : Actor) (x : TxnId) where
  move_finishing : (a : Attempt) (move : Move) → Moves layout x a move → Finishing layout a move
  move_finishing a move (HasOutcome s o is found) = record { executes = is; found = found }
  move_finishing a move WaitsForMore = tt
  move_finishing a move _ = tt

  hears_finishing : (before : Attempt) (m : Message) (a : Attempt) (move : Move) → Hears layout x before m a move → Finishing layout a move
  hears_finishing before m a move (Counts n moved ballot counted moves) = move_finishing (with_answer before m) moved moves
  hears_finishing before m a move (Ignores n) = tt
  hears_finishing before m a move _ = tt

  hears_heard : (before : Attempt) (m : Message) (a : Attempt) (move : Move) → Hears layout x before m a move → Heard layout before m a
  hears_heard before m a move (Counts n moved ballot counted moves) = Counted counted
  hears_heard before m a move (Ignores n) = Before
  hears_heard before m a move _ = Before

  pub reaction_goes : (before : Attempt) (m : Message) → Goes layout own x (Heard layout before m) (reaction layout own x before m)
  reaction_goes before m =
      let h = hears_all layout own x before m in
      record {
        attempt = h.moving;
        now = hears_heard before m h.moving h.move h.hears;
        move = h.move;
        finishing = hears_finishing before m h.moving h.move h.hears;
        is = h.is;
      }

  pub slow_goes : (a : Attempt) → Goes layout own x (λ b. b ≡ a) (slow_reaction layout own x a)
  slow_goes a =
      let h = slow_moved layout own x a in
      record { attempt = a; now = refl; move = h.move; finishing = move_finishing a h.move h.moves; is = h.is }
