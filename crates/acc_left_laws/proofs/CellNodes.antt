-- What a node sends has cells with spellings, where all that it did or took has.
use Rattle.std.proofs.Common.{◌≡◌, ℕ, ◌==◌, Bool, true, false, List, [], ◌∷◌, Some, None, subst}
use Rattle.std.specs.List.{AllByRecursion}
use Rattle.std.proofs.lemmas.Bool.{cond_both}
use Rattle.acc_stamp.specs.declared.stamps.TxnId.{TxnId}
use Rattle.acc_stamp.specs.Actor.{shard_of}
use Rattle.acc_topology.specs.Layout.{Layout}
use Rattle.acc_topology.specs.Keys.{shard_of_key}
use Rattle.acc_value.specs.declared.key.Key.{Key}
use Rattle.acc_txn.specs.declared.parts.BodyParts.{BodyParts}
use Rattle.acc_txn.specs.declared.outcome.Outcome.{Outcome}
use Rattle.acc_message.specs.declared.answer.ReadAnswer.{ReadAnswer}
use Rattle.acc_message.specs.declared.answer.ReadAnswer.TheVariants.{Values, Known}
use Rattle.acc_message.specs.declared.message.Message.{Message}
use Rattle.acc_message.specs.declared.message.Message.TheVariants.{PreAccept, PreAcceptOk, Accept, AcceptOk, Commit, CommitOk, Stable, ReadOk, Apply, Recover, RecoverOk, Nack, Decided, Inform}
use Rattle.acc_message.specs.declared.entry.Emitted.{Emitted}
use Rattle.acc_message.specs.Fields.{from_of}
use Rattle.acc_message.specs.Attempts.{Attempt, known_in_read, known_in, known_among, cell_in_read, cell_in, cell_read, read_everywhere, outcome_if, outcome_from}
use Rattle.acc_message.specs.Coordinator.{with_answer}
use Rattle.acc_message.specs.NodeRules.{Act, Slows, Takes, Deed}
use Rattle.acc_safety.specs.Places.{IsIn, First, Later, StandsAt}
use Rattle.acc_safety.specs.Attempted.{AreAnswersOf, Origin, FromBegin, FromRecover, Took}
use Rattle.acc_safety.specs.NodeMoves.{Move, Propose, CommitTo, DecideBy, FinishWith, Moves, WaitsForMore, DecidesFast, SlowsDown, AdoptsStable, AdoptsCommitted, AdoptsAccepted, ProposesGreatest, ProposesOwn, IsBlocked, CommitsIt, DecidesCommitted, HasOutcome, Hears, Ignores, Counts, IsEnded, TakesOver, Reacts, ToSlow, ToMessage, NodeSends, AsksForVotes, AsksForViews, Proposes, Commits, Decides, Finishes, Informs}
use Rattle.acc_safety.proofs.PlaceOrder.{StandsAt-IsIn, each_at}
use Rattle.acc_safety.proofs.Attempted.{doing, of_moving, answers_kept, origin_of}
use Rattle.acc_safety.proofs.Frame.{before_reacts}
use Rattle.acc_run_laws.proofs.Unions.{or_else_if}
use Rattle.acc_txn.specs.Short.{IsNumberedBody}
use Rattle.acc_code.specs.Short.{IsCell}
use Rattle.acc_left_laws.proofs.CellContents.{found_fits, AnswersCells, HasFittingCells, TakesFitting}
use Rattle.acc_left_laws.proofs.CellStores.{KeepsFitting}
use Rattle.acc_left_laws.proofs.WrittenKeys.{answer_spelled, IsSpelled}

-- ---- outcomes from answers

abbrev HaveFittingCells : List Message → Type 0
HaveFittingCells answers = (m : Message) → IsIn m answers → HasFittingCells m

read_known : (answer : ReadAnswer) → AnswersCells answer → KeepsFitting (known_in_read answer)
read_known (Values cells) h = tt
read_known (Known outcome) h = h

known_fits : (m : Message) → HasFittingCells m → KeepsFitting (known_in m)
known_fits (ReadOk from to id ballot answer) h = read_known answer h
known_fits (PreAccept from to id ballot body) h = tt
known_fits (PreAcceptOk from to id ballot vote deps) h = tt
known_fits (Accept from to id ballot body t deps) h = tt
known_fits (AcceptOk from to id ballot deps) h = tt
known_fits (Commit from to id ballot body t deps) h = tt
known_fits (CommitOk from to id ballot) h = tt
known_fits (Stable from to id ballot body t deps) h = tt
known_fits (Apply from to id ballot body t deps outcome) h = tt
known_fits (Recover from to id ballot body) h = tt
known_fits (RecoverOk from to id ballot view) h = tt
known_fits (Nack from to id ballot promised) h = tt
known_fits (Decided from to id ballot t deps) h = tt
known_fits (Inform from to id ballot outcome) h = tt

known_among_fits : (answers : List Message) → HaveFittingCells answers → KeepsFitting (known_among answers)
known_among_fits [] h = tt
known_among_fits (m ∷ answers) h =
    or_else_if IsSpelled (known_in m) (known_among answers) (known_fits m (h m (First m answers)))
    (known_among_fits answers (λ n there. h n (Later n m answers there)))

read_fits : (answer : ReadAnswer) (key : Key) → AnswersCells answer → IsCell (cell_in_read key answer)
read_fits (Values cells) key h = found_fits cells key None h tt
read_fits (Known outcome) key h = tt

cell_fits : (m : Message) (key : Key) → HasFittingCells m → IsCell (cell_in key m)
cell_fits (ReadOk from to id ballot answer) key h = read_fits answer key h
cell_fits (PreAccept from to id ballot body) key h = tt
cell_fits (PreAcceptOk from to id ballot vote deps) key h = tt
cell_fits (Accept from to id ballot body t deps) key h = tt
cell_fits (AcceptOk from to id ballot deps) key h = tt
cell_fits (Commit from to id ballot body t deps) key h = tt
cell_fits (CommitOk from to id ballot) key h = tt
cell_fits (Stable from to id ballot body t deps) key h = tt
cell_fits (Apply from to id ballot body t deps outcome) key h = tt
cell_fits (Recover from to id ballot body) key h = tt
cell_fits (RecoverOk from to id ballot view) key h = tt
cell_fits (Nack from to id ballot promised) key h = tt
cell_fits (Decided from to id ballot t deps) key h = tt
cell_fits (Inform from to id ballot outcome) key h = tt

cells_read_fits : (layout : Layout) (answers : List Message) → HaveFittingCells answers → (key : Key) → IsCell (cell_read layout answers key)
cells_read_fits layout [] h key = tt
cells_read_fits layout (m ∷ answers) h key =
    cond_both (shard_of (from_of m) == shard_of_key layout key) (cell_in key m) (cell_read layout answers key) IsCell
    (λ _. cell_fits m key (h m (First m answers)))
    (λ _. cells_read_fits layout answers (λ n there. h n (Later n m answers there)) key)

outcome_if_fits : (b : Bool) (layout : Layout) (body : BodyParts) (answers : List Message) → IsNumberedBody body → HaveFittingCells answers → KeepsFitting (outcome_if b layout body answers)
outcome_if_fits true layout body answers fit h = answer_spelled body (cell_read layout answers) fit (cells_read_fits layout answers h)
outcome_if_fits false layout body answers fit h = tt

outcome_from_fits : (layout : Layout) (body : BodyParts) (answers : List Message) (outcome : Outcome) → IsNumberedBody body → HaveFittingCells answers
    → outcome_from layout body answers ≡ Some outcome → IsSpelled outcome
outcome_from_fits layout body answers outcome fit h is =
    subst KeepsFitting is
    (or_else_if IsSpelled (known_among answers) (outcome_if (read_everywhere layout body answers) layout body answers) (known_among_fits answers h)
    (outcome_if_fits (read_everywhere layout body answers) layout body answers fit h))

-- ---- moves

abbrev pub DidFitting : List Deed → Type 0
DidFitting deeds = AllByRecursion (λ (deed : Deed). TakesFitting deed.act) deeds

took_fits : (deeds : List Deed) → DidFitting deeds → (m : Message) → Took deeds m → HasFittingCells m
took_fits deeds did m t = subst TakesFitting t.act_is (each_at (λ (deed : Deed). TakesFitting deed.act) t.deed deeds did (StandsAt-IsIn t.deed t.past deeds t.at))

abbrev FinishesFitting : Move → Type 0
FinishesFitting (FinishWith s outcome) = IsSpelled outcome
FinishesFitting _ = Unit {0}

module _ (layout : Layout) (x : TxnId) where
  moves_fits : (deeds : List Deed) (a : Attempt) (move : Move) → AreAnswersOf layout x deeds a → DidFitting deeds → IsNumberedBody a.body → Moves layout x a move → FinishesFitting move
  moves_fits deeds a move h did fit WaitsForMore = tt
  moves_fits deeds a move h did fit (DecidesFast phase fast) = tt
  moves_fits deeds a move h did fit (SlowsDown phase major) = tt
  moves_fits deeds a move h did fit (AdoptsStable s phase major is) = tt
  moves_fits deeds a move h did fit (AdoptsCommitted c phase major is kind) = tt
  moves_fits deeds a move h did fit (AdoptsAccepted c phase major is kind) = tt
  moves_fits deeds a move h did fit (ProposesGreatest phase major none ruled_out) = tt
  moves_fits deeds a move h did fit (ProposesOwn phase major none free) = tt
  moves_fits deeds a move h did fit (IsBlocked by phase major) = tt
  moves_fits deeds a move h did fit (CommitsIt s phase major) = tt
  moves_fits deeds a move h did fit (DecidesCommitted s phase major) = tt
  moves_fits deeds a move h did fit (HasOutcome s outcome phase is) =
      outcome_from_fits layout a.body a.answers outcome fit (λ m there. took_fits deeds did m (h m there).took) is

  hears_fits : (deeds : List Deed) (before : Attempt) (m : Message) (a : Attempt) (move : Move) → AreAnswersOf layout x deeds a → DidFitting deeds → IsNumberedBody a.body
      → Hears layout x before m a move → FinishesFitting move
  hears_fits deeds before m a move h did fit (Ignores n) = tt
  hears_fits deeds before m a move h did fit (Counts n moved same counting moves) = moves_fits deeds (with_answer before n) moved h did fit moves
  hears_fits deeds before m a move h did fit (IsEnded from to id ballot promised same above) = tt
  hears_fits deeds before m a move h did fit (TakesOver from to id ballot t deps same undecided ready) = tt

  reacts_fits : (node start : ℕ) (emitted : Emitted) (past : List Deed) (act : Act) (a : Attempt) (move : Move) → DidFitting (doing act emitted ∷ past) → IsNumberedBody a.body
      → Reacts layout node start past x act a move → FinishesFitting move
  reacts_fits node start emitted past act a move did fit reacts =
      by act a move did fit reacts (of_moving layout node start x (AreAnswersOf layout x) (answers_kept layout x node start) act emitted past a move reacts)
    where
      by : (act : Act) (a : Attempt) (move : Move) → DidFitting (doing act emitted ∷ past) → IsNumberedBody a.body → Reacts layout node start past x act a move
          → AreAnswersOf layout x (doing act emitted ∷ past) a → FinishesFitting move
      by act a move did fit (ToSlow b moved is moves) h = moves_fits (doing (Slows x) emitted ∷ past) b moved h did fit moves
      by act a move did fit (ToMessage before b m moved is about hears) h = hears_fits (doing (Takes m) emitted ∷ past) before m b moved h did fit hears

-- ---- what a node sends

module _ (layout : Layout) (node start : ℕ) (past : List Deed) (did : DidFitting past) where
  act_at : (deed : Deed) (before : List Deed) → StandsAt deed before past → TakesFitting deed.act
  act_at deed before at = each_at (λ (d : Deed). TakesFitting d.act) deed past did (StandsAt-IsIn deed before past at)

  origin_fits : (x : TxnId) (a : Attempt) → Origin layout node start x past a → IsNumberedBody a.body
  origin_fits x a (FromBegin txn deed before at act_is drawn zero) = subst TakesFitting act_is (act_at deed before at)
  origin_fits x a (FromRecover deed before at act_is drawn) = subst TakesFitting act_is (act_at deed before at)

  body_fits : (x : TxnId) (act : Act) (a : Attempt) (move : Move) → Reacts layout node start past x act a move → IsNumberedBody a.body
  body_fits x act a move reacts =
      let before = before_reacts layout node start past x act a move reacts in
      subst IsNumberedBody before.same_body (origin_fits x before.attempt (origin_of layout node start x past before.attempt before.is))

  module _ (act : Act) (fit : TakesFitting act) (emitted : Emitted) where
    outcome_fits : (x : TxnId) (a : Attempt) (move : Move) → Reacts layout node start past x act a move → FinishesFitting move
    outcome_fits x a move reacts = reacts_fits layout x node start emitted past act a move (fit, did) (body_fits x act a move reacts) reacts

  pub node_fits : (act : Act) (m : Message) → TakesFitting act → (emitted : Emitted) → NodeSends layout node start past act m → HasFittingCells m
  node_fits act m h emitted (AsksForVotes txn body store) = h
  node_fits act m h emitted (AsksForViews x body store) = h
  node_fits act m h emitted (Proposes on x a s store reacts) = body_fits x on a (Propose s) reacts
  node_fits act m h emitted (Commits on x a s store reacts) = body_fits x on a (CommitTo s) reacts
  node_fits act m h emitted (Decides on x a path s store reacts noted) = body_fits x on a (DecideBy path s) reacts
  node_fits act m h emitted (Finishes on x a s outcome store reacts) =
      (body_fits x on a (FinishWith s outcome) reacts, outcome_fits on h emitted x a (FinishWith s outcome) reacts)
  node_fits act m h emitted (Informs on x a s outcome reacts) = outcome_fits on h emitted x a (FinishWith s outcome) reacts
