-- The cells of a store have spellings, and so has what it answers, where each message that it took has one.
use Rattle.std.proofs.Common.{ℕ, ◌==◌, List, [], ◌∷◌, filter, Option, Some, None, sym, subst}
use Rattle.std.specs.Prelude.{IfSome}
use Rattle.std.specs.List.{AllByRecursion}
use Rattle.std.proofs.lemmas.Bool.{cond_both}
use Rattle.acc_stamp.specs.declared.stamps.TxnId.{TxnId}
use Rattle.acc_stamp.specs.declared.actors.Actor.{Actor}
use Rattle.acc_stamp.specs.Actor.{shard_of}
use Rattle.acc_stamp.specs.Stamp.{id_eq}
use Rattle.acc_stamp.proofs.Rising.{each_filter}
use Rattle.acc_topology.specs.Layout.{Layout}
use Rattle.acc_topology.specs.Keys.{shard_of_key}
use Rattle.acc_value.specs.declared.key.Key.{Key}
use Rattle.acc_value.specs.declared.value.Value.{Value}
use Rattle.acc_value.specs.Cells.{applied}
use Rattle.acc_txn.specs.declared.parts.BodyParts.{BodyParts}
use Rattle.acc_txn.specs.declared.outcome.Outcome.{Outcome}
use Rattle.acc_txn.specs.Uses.{read_keys}
use Rattle.acc_message.specs.declared.answer.ReadAnswer.{ReadAnswer}
use Rattle.acc_message.specs.declared.message.Message.{Message}
use Rattle.acc_message.specs.declared.message.Message.TheVariants.{PreAccept, PreAcceptOk, Accept, AcceptOk, Commit, CommitOk, Stable, ReadOk, Apply, Recover, RecoverOk, Nack, Decided, Inform}
use Rattle.acc_message.specs.Taken.{Taken, taking, known, heard_body}
use Rattle.acc_message.specs.BallotRules.{outcome_in, kept_outcome}
use Rattle.acc_message.specs.Opening.{Change, changes_of, writes_of, writes_in, written_by, written_by_all, cells_at}
use Rattle.acc_message.specs.StoreRules.{read_here, read_by, kept_or}
use Rattle.acc_safety.specs.StoreSends.{StoreSends, Votes, Accepts, Commits, Reveals, ReadsAtOnce, ReadsOnOpening, Refuses, Tells}
use Rattle.acc_run_laws.proofs.Unions.{or_else_if}
use Rattle.acc_code.specs.Short.{IsCell}
use Rattle.acc_left_laws.proofs.CellContents.{found_fits, put_each, AreCellsOf, AnswersCells, HasFittingCells}
use Rattle.acc_left_laws.proofs.WrittenKeys.{IsSpelled}

-- ---- outcomes that are kept

abbrev pub KeepsFitting : Option Outcome → Type 0
KeepsFitting o = IfSome o IsSpelled

outcome_in_fits : (x : TxnId) (m : Message) → HasFittingCells m → KeepsFitting (outcome_in x m)
outcome_in_fits x (Apply from to id ballot body t deps outcome) h = cond_both (id_eq id x) (Some outcome) None KeepsFitting (λ _. h.1) (λ _. tt)
outcome_in_fits x (PreAccept from to id ballot body) h = tt
outcome_in_fits x (PreAcceptOk from to id ballot vote deps) h = tt
outcome_in_fits x (Accept from to id ballot body t deps) h = tt
outcome_in_fits x (AcceptOk from to id ballot deps) h = tt
outcome_in_fits x (Commit from to id ballot body t deps) h = tt
outcome_in_fits x (CommitOk from to id ballot) h = tt
outcome_in_fits x (Stable from to id ballot body t deps) h = tt
outcome_in_fits x (ReadOk from to id ballot answer) h = tt
outcome_in_fits x (Recover from to id ballot body) h = tt
outcome_in_fits x (RecoverOk from to id ballot view) h = tt
outcome_in_fits x (Nack from to id ballot promised) h = tt
outcome_in_fits x (Decided from to id ballot t deps) h = tt
outcome_in_fits x (Inform from to id ballot outcome) h = tt

-- each message of the history has cells with spellings
abbrev pub TookFitting : List Taken → Type 0
TookFitting history = AllByRecursion (λ (step : Taken). HasFittingCells step.message) history

kept_fits : (history : List Taken) (x : TxnId) → TookFitting history → KeepsFitting (kept_outcome history x)
kept_fits [] x h = tt
kept_fits (step ∷ past) x h =
    or_else_if IsSpelled (kept_outcome past x) (outcome_in x step.message) (kept_fits past x h.1) (outcome_in_fits x step.message h.0)

-- ---- cells

abbrev AllCells : (Key → Option Value) → Type 0
AllCells cells = (key : Key) → IsCell (cells key)

writes_fits : (o : Option Outcome) → KeepsFitting o → AreCellsOf (writes_of o)
writes_fits None h = tt
writes_fits (Some outcome) h = h.fits.writes.cells

module _ (layout : Layout) (shard : ℕ) (history : List Taken) (took : TookFitting history) where
  written_fits : (c : Change) (cells : Key → Option Value) → AllCells cells → AllCells (written_by layout shard history c cells)
  written_fits c cells h =
      cond_both c.applies (applied cells (writes_in layout shard (kept_outcome history c.id))) cells AllCells
      (λ _ key.
      found_fits (writes_in layout shard (kept_outcome history c.id)) key (cells key)
      (each_filter (λ p. IsCell p.1) (λ w. shard_of_key layout w.0 == shard) (writes_of (kept_outcome history c.id))
      (writes_fits (kept_outcome history c.id) (kept_fits history c.id took)))
      (h key))
      (λ _. h)

  all_written_fits : (changes : List Change) (cells : Key → Option Value) → AllCells cells → AllCells (written_by_all layout shard history changes cells)
  all_written_fits [] cells h = h
  all_written_fits (c ∷ changes) cells h = all_written_fits changes (written_by layout shard history c cells) (written_fits c cells h)

cells_fits : (layout : Layout) (shard : ℕ) (history : List Taken) → TookFitting history → AllCells (cells_at layout shard history)
cells_fits layout shard [] took = λ key. tt
cells_fits layout shard (step ∷ past) took =
    all_written_fits layout shard (step ∷ past) took (changes_of shard step past) (cells_at layout shard past) (cells_fits layout shard past took.1)

-- ---- reads

with_cells : (cells : Key → Option Value) (keys : List Key) → AllCells cells → AllByRecursion (λ key. IsCell (cells key)) keys
with_cells cells [] h = tt
with_cells cells (key ∷ keys) h = (h key, with_cells cells keys h)

here_fits : (layout : Layout) (shard : ℕ) (body : BodyParts) (cells : Key → Option Value) → AllCells cells → AreCellsOf (read_here layout shard body cells)
here_fits layout shard body cells h =
    let keys : List Key = filter (λ key. shard_of_key layout key == shard) (read_keys body) in
    put_each (λ key. (key, cells key)) keys [] (with_cells cells keys h) tt

read_fits : (layout : Layout) (shard : ℕ) (o : Option BodyParts) (cells : Key → Option Value) → AllCells cells → AnswersCells (read_by layout shard o cells)
read_fits layout shard None cells h = tt
read_fits layout shard (Some body) cells h = here_fits layout shard body cells h

kept_or_fits : (o : Option Outcome) (other : ReadAnswer) → KeepsFitting o → AnswersCells other → AnswersCells (kept_or o other)
kept_or_fits None other h k = k
kept_or_fits (Some outcome) other h k = h

-- ---- answers

pub store_fits : (layout : Layout) (own : Actor) (past : List Taken) (taken m : Message) → TookFitting past → HasFittingCells taken → StoreSends layout own past taken m → HasFittingCells m
store_fits layout own past taken m took h (Votes from to x b body counting v s p k e) = tt
store_fits layout own past taken m took h (Accepts from to x b body counting t proposed deps s p k e) = tt
store_fits layout own past taken m took h (Commits from to x b body t deps s p) = tt
store_fits layout own past taken m took h (Reveals from to x b body counting view p k e) = tt
store_fits layout own past taken m took h (ReadsAtOnce from to x b body t deps answer p e) =
    subst AnswersCells (sym e)
    (kept_or_fits (kept_outcome past x) (read_by layout (shard_of own) (heard_body x (known past)) (cells_at layout (shard_of own) past)) (kept_fits past x took)
    (read_fits layout (shard_of own) (heard_body x (known past)) (cells_at layout (shard_of own) past) (cells_fits layout (shard_of own) past took)))
store_fits layout own past taken m took h (ReadsOnOpening n c b answer before among opens there e) =
    subst AnswersCells (sym e)
    (read_fits layout (shard_of own) (heard_body c.id (known (taking taken past))) _
    (all_written_fits layout (shard_of own) (taking taken past) (h, took) before (cells_at layout (shard_of own) past) (cells_fits layout (shard_of own) past took)))
store_fits layout own past taken m took h (Refuses n promised e) = tt
store_fits layout own past taken m took h (Tells n s e) = tt
