-- A node that takes the answer which makes a fast quorum.
use Rattle.std.proofs.Common.{◌≡◌, ℕ, Bool, false, List, Some, Option, flat_map, refl, sym, ◌∙◌, ap}
use Rattle.std.proofs.lemmas.Bool.{true≢false, and_left}
use Rattle.acc_stamp.specs.declared.stamps.TxnId.{TxnId}
use Rattle.acc_stamp.specs.declared.stamps.Ballot.{Ballot}
use Rattle.acc_stamp.specs.declared.actors.Actor.{Actor}
use Rattle.acc_stamp.specs.Actor.{actor_of}
use Rattle.acc_topology.specs.Layout.{Layout}
use Rattle.acc_txn.specs.declared.outcome.Outcome.{Outcome}
use Rattle.acc_message.specs.declared.message.Message.{Message}
use Rattle.acc_message.specs.declared.message.Message.TheVariants.{PreAccept, Inform}
use Rattle.acc_message.specs.declared.note.Note.{Note}
use Rattle.acc_message.specs.declared.entry.Emitted.{Emitted}
use Rattle.acc_message.specs.Fields.{id_of}
use Rattle.acc_message.specs.Attempts.{Attempt, Phase, Voting, Recovering, Accepting, Committing, Executing, fits, counts}
use Rattle.acc_message.specs.Coordinator.{reaction}
use Rattle.acc_message.specs.NodeRules.{Takes, Deed, is_open, attempt_of, with_reply, replied, emitted_by, on_taking, node_emits}
use Rattle.acc_coord.specs.Stands.{MakesFastQuorum, DecidesFast}
use Rattle.acc_coord.proofs.Made.{decides_fast}
use Rattle.acc_node.specs.Weighing.{is_inform}

fits_no_inform : (phase : Phase) (from to : Actor) (id : TxnId) (b : Ballot) (o : Outcome) → fits phase (Inform from to id b o) ≡ false
fits_no_inform Voting from to id b o = refl
fits_no_inform Recovering from to id b o = refl
fits_no_inform (Accepting s) from to id b o = refl
fits_no_inform (Committing s) from to id b o = refl
fits_no_inform (Executing s) from to id b o = refl

counts_no_inform : (layout : Layout) (a : Attempt) (from to : Actor) (id : TxnId) (b : Ballot) (o : Outcome) → counts layout a (Inform from to id b o) ≡ false
counts_no_inform layout a from to id b o = and_left _ _ (and_left _ _ (fits_no_inform a.phase from to id b o))

other_taken : (layout : Layout) (number start : ℕ) (past : List Deed) (m : Message) → is_inform m ≡ false
    → on_taking layout number start past m
    ≡ with_reply (is_open (id_of m) past) (emitted_by (λ a. reaction layout (actor_of number 0) (id_of m) a m) (attempt_of layout number start (id_of m) past))
other_taken layout number start past (Inform from to id b outcome) e = absurd (true≢false e)
other_taken layout number start past (PreAccept from to id b body) e = refl
other_taken layout number start past m e = refl

fast_is_no_inform : (layout : Layout) (x : TxnId) (a : Attempt) (m : Message) → MakesFastQuorum layout x a m → is_inform m ≡ false
fast_is_no_inform layout x a (Inform from to id b outcome) q = absurd (true≢false (sym q.is_counted ∙ counts_no_inform layout a from to id b outcome))
fast_is_no_inform layout x a (PreAccept from to id b body) q = refl
fast_is_no_inform layout x a m q = refl

pub decides : (layout : Layout) (number start : ℕ) (past : List Deed) (m : Message) (emitted : Emitted) → emitted ≡ node_emits layout number start past (Takes m)
    → (a : Attempt) → attempt_of layout number start (id_of m) past ≡ Some a → MakesFastQuorum layout (id_of m) a m → DecidesFast (id_of m) a m emitted
decides layout number start past m emitted emits a is q =
    let open_now : Bool = is_open (id_of m) past in
    ap (λ (e : Emitted). e.notes) (emits ∙ other_taken layout number start past m (fast_is_no_inform layout (id_of m) a m q))
    ∙ ap (λ (o : Option Attempt). flat_map (replied open_now) (emitted_by (λ b. reaction layout (actor_of number 0) (id_of m) b m) o).notes) is
    ∙ ap (λ (notes : List Note). flat_map (replied open_now) notes) (decides_fast layout (actor_of number 0) (id_of m) a m q)
