-- The cells of a store have no texts, nor what it answers, where no message that it took has one.
use Rattle.std.proofs.Common.{ℕ, ◌==◌, List, [], ◌∷◌, filter, Option, Some, None, refl, sym, subst}
use Rattle.std.specs.Prelude.{IfSome}
use Rattle.std.specs.List.{AllByRecursion}
use Rattle.std.proofs.lemmas.Bool.{cond_both}
use Rattle.acc_stamp.specs.declared.stamps.TxnId.{TxnId}
use Rattle.acc_stamp.specs.declared.actors.Actor.{Actor}
use Rattle.acc_stamp.specs.Actor.{shard_of}
use Rattle.acc_stamp.specs.Stamp.{id_eq}
use Rattle.acc_stamp.proofs.Rising.{each_filter}
use Rattle.acc_topology.specs.Layout.{Layout}
use Rattle.acc_topology.specs.Keys.{shard_of_key}
use Rattle.acc_value.specs.declared.key.Key.{Key}
use Rattle.acc_value.specs.declared.value.Value.{Value}
use Rattle.acc_value.specs.Cells.{applied}
use Rattle.acc_txn.specs.declared.parts.BodyParts.{BodyParts}
use Rattle.acc_txn.specs.declared.outcome.Outcome.{Outcome}
use Rattle.acc_txn.specs.Uses.{read_keys}
use Rattle.acc_message.specs.declared.answer.ReadAnswer.{ReadAnswer}
use Rattle.acc_message.specs.declared.message.Message.{Message}
use Rattle.acc_message.specs.declared.message.Message.TheVariants.{PreAccept, PreAcceptOk, Accept, AcceptOk, Commit, CommitOk, Stable, ReadOk, Apply, Recover, RecoverOk, Nack, Decided, Inform}
use Rattle.acc_message.specs.Taken.{Taken, taking, known, heard_body}
use Rattle.acc_message.specs.BallotRules.{outcome_in, kept_outcome}
use Rattle.acc_message.specs.Opening.{Change, changes_of, writes_of, writes_in, written_by, written_by_all, cells_at}
use Rattle.acc_message.specs.StoreRules.{read_here, read_by, kept_or}
use Rattle.acc_safety.specs.StoreSends.{StoreSends, Votes, Accepts, Commits, Reveals, ReadsAtOnce, ReadsOnOpening, Refuses, Tells}
use Rattle.acc_run_laws.proofs.Unions.{or_else_if}
use Rattle.acc_run_laws.proofs.AloneOutcomes.{IsPlain, ArePlainPairs, IsPlainOutcome, put_each, found_plain}
use Rattle.acc_run_laws.proofs.Contents.{IsPlainAnswer, HasPlainContent}

-- ---- outcomes that are kept

abbrev pub KeepsPlain : Option Outcome → Type 0
KeepsPlain o = IfSome o IsPlainOutcome

outcome_in_plain : (x : TxnId) (m : Message) → HasPlainContent m → KeepsPlain (outcome_in x m)
outcome_in_plain x (Apply from to id ballot body t deps outcome) h = cond_both (id_eq id x) (Some outcome) None KeepsPlain (λ _. h.1) (λ _. tt)
outcome_in_plain x (PreAccept from to id ballot body) h = tt
outcome_in_plain x (PreAcceptOk from to id ballot vote deps) h = tt
outcome_in_plain x (Accept from to id ballot body t deps) h = tt
outcome_in_plain x (AcceptOk from to id ballot deps) h = tt
outcome_in_plain x (Commit from to id ballot body t deps) h = tt
outcome_in_plain x (CommitOk from to id ballot) h = tt
outcome_in_plain x (Stable from to id ballot body t deps) h = tt
outcome_in_plain x (ReadOk from to id ballot answer) h = tt
outcome_in_plain x (Recover from to id ballot body) h = tt
outcome_in_plain x (RecoverOk from to id ballot view) h = tt
outcome_in_plain x (Nack from to id ballot promised) h = tt
outcome_in_plain x (Decided from to id ballot t deps) h = tt
outcome_in_plain x (Inform from to id ballot outcome) h = tt

-- no message of the history has a text
abbrev pub TookPlain : List Taken → Type 0
TookPlain history = AllByRecursion (λ (step : Taken). HasPlainContent step.message) history

kept_plain : (history : List Taken) (x : TxnId) → TookPlain history → KeepsPlain (kept_outcome history x)
kept_plain [] x h = tt
kept_plain (step ∷ past) x h =
    or_else_if IsPlainOutcome (kept_outcome past x) (outcome_in x step.message) (kept_plain past x h.1) (outcome_in_plain x step.message h.0)

-- ---- cells

abbrev ArePlain : (Key → Option Value) → Type 0
ArePlain cells = (key : Key) → IsPlain (cells key)

writes_plain : (o : Option Outcome) → KeepsPlain o → ArePlainPairs (writes_of o)
writes_plain None h = tt
writes_plain (Some outcome) h = h.writes

module _ (layout : Layout) (shard : ℕ) (history : List Taken) (took : TookPlain history) where
  written_plain : (c : Change) (cells : Key → Option Value) → ArePlain cells → ArePlain (written_by layout shard history c cells)
  written_plain c cells h =
      cond_both c.applies (applied cells (writes_in layout shard (kept_outcome history c.id))) cells ArePlain
      (λ _ key.
      found_plain (writes_in layout shard (kept_outcome history c.id)) key (cells key)
      (each_filter (λ p. IsPlain p.1) (λ w. shard_of_key layout w.0 == shard) (writes_of (kept_outcome history c.id))
      (writes_plain (kept_outcome history c.id) (kept_plain history c.id took)))
      (h key))
      (λ _. h)

  all_written_plain : (changes : List Change) (cells : Key → Option Value) → ArePlain cells → ArePlain (written_by_all layout shard history changes cells)
  all_written_plain [] cells h = h
  all_written_plain (c ∷ changes) cells h = all_written_plain changes (written_by layout shard history c cells) (written_plain c cells h)

cells_plain : (layout : Layout) (shard : ℕ) (history : List Taken) → TookPlain history → ArePlain (cells_at layout shard history)
cells_plain layout shard [] took = λ key. refl
cells_plain layout shard (step ∷ past) took =
    all_written_plain layout shard (step ∷ past) took (changes_of shard step past) (cells_at layout shard past) (cells_plain layout shard past took.1)

-- ---- reads

with_cells : (cells : Key → Option Value) (keys : List Key) → ArePlain cells → AllByRecursion (λ key. IsPlain (cells key)) keys
with_cells cells [] h = tt
with_cells cells (key ∷ keys) h = (h key, with_cells cells keys h)

here_plain : (layout : Layout) (shard : ℕ) (body : BodyParts) (cells : Key → Option Value) → ArePlain cells → ArePlainPairs (read_here layout shard body cells)
here_plain layout shard body cells h =
    let keys : List Key = filter (λ key. shard_of_key layout key == shard) (read_keys body) in
    put_each (λ key. (key, cells key)) keys [] (with_cells cells keys h) tt

read_plain : (layout : Layout) (shard : ℕ) (o : Option BodyParts) (cells : Key → Option Value) → ArePlain cells → IsPlainAnswer (read_by layout shard o cells)
read_plain layout shard None cells h = tt
read_plain layout shard (Some body) cells h = here_plain layout shard body cells h

kept_or_plain : (o : Option Outcome) (other : ReadAnswer) → KeepsPlain o → IsPlainAnswer other → IsPlainAnswer (kept_or o other)
kept_or_plain None other h k = k
kept_or_plain (Some outcome) other h k = h

-- ---- answers

pub store_plain : (layout : Layout) (own : Actor) (past : List Taken) (taken m : Message) → TookPlain past → HasPlainContent taken → StoreSends layout own past taken m → HasPlainContent m
store_plain layout own past taken m took h (Votes from to x b body counting v s p k e) = tt
store_plain layout own past taken m took h (Accepts from to x b body counting t proposed deps s p k e) = tt
store_plain layout own past taken m took h (Commits from to x b body t deps s p) = tt
store_plain layout own past taken m took h (Reveals from to x b body counting view p k e) = tt
store_plain layout own past taken m took h (ReadsAtOnce from to x b body t deps answer p e) =
    subst IsPlainAnswer (sym e)
    (kept_or_plain (kept_outcome past x) (read_by layout (shard_of own) (heard_body x (known past)) (cells_at layout (shard_of own) past)) (kept_plain past x took)
    (read_plain layout (shard_of own) (heard_body x (known past)) (cells_at layout (shard_of own) past) (cells_plain layout (shard_of own) past took)))
store_plain layout own past taken m took h (ReadsOnOpening n c b answer before among opens there e) =
    subst IsPlainAnswer (sym e)
    (read_plain layout (shard_of own) (heard_body c.id (known (taking taken past))) _
    (all_written_plain layout (shard_of own) (taking taken past) (h, took) before (cells_at layout (shard_of own) past) (cells_plain layout (shard_of own) past took)))
store_plain layout own past taken m took h (Refuses n promised e) = tt
store_plain layout own past taken m took h (Tells n s e) = tt
