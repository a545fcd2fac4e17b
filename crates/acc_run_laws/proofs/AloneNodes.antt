-- What a node sends has no texts, where nothing that it did or took has one.
use Rattle.std.proofs.Common.{◌≡◌, ℕ, ◌==◌, Bool, true, false, List, [], ◌∷◌, Some, None, refl, subst}
use Rattle.std.specs.List.{AllByRecursion}
use Rattle.std.proofs.lemmas.Bool.{cond_both}
use Rattle.acc_stamp.specs.declared.stamps.TxnId.{TxnId}
use Rattle.acc_stamp.specs.Actor.{shard_of}
use Rattle.acc_topology.specs.Layout.{Layout}
use Rattle.acc_topology.specs.Keys.{shard_of_key}
use Rattle.acc_value.specs.declared.key.Key.{Key}
use Rattle.acc_txn.specs.declared.parts.BodyParts.{BodyParts}
use Rattle.acc_txn.specs.declared.outcome.Outcome.{Outcome}
use Rattle.acc_message.specs.declared.answer.ReadAnswer.{ReadAnswer}
use Rattle.acc_message.specs.declared.answer.ReadAnswer.TheVariants.{Values, Known}
use Rattle.acc_message.specs.declared.message.Message.{Message}
use Rattle.acc_message.specs.declared.message.Message.TheVariants.{PreAccept, PreAcceptOk, Accept, AcceptOk, Commit, CommitOk, Stable, ReadOk, Apply, Recover, RecoverOk, Nack, Decided, Inform}
use Rattle.acc_message.specs.declared.entry.Emitted.{Emitted}
use Rattle.acc_message.specs.Fields.{from_of}
use Rattle.acc_message.specs.Attempts.{Attempt, known_in_read, known_in, known_among, cell_in_read, cell_in, cell_read, read_everywhere, outcome_if, outcome_from}
use Rattle.acc_message.specs.Coordinator.{with_answer}
use Rattle.acc_message.specs.NodeRules.{Act, Slows, Takes, Deed}
use Rattle.acc_safety.specs.Places.{IsIn, First, Later, StandsAt}
use Rattle.acc_safety.specs.Attempted.{AreAnswersOf, Origin, FromBegin, FromRecover, Took}
use Rattle.acc_safety.specs.NodeMoves.{Move, Propose, CommitTo, DecideBy, FinishWith, Moves, WaitsForMore, DecidesFast, SlowsDown, AdoptsStable, AdoptsCommitted, AdoptsAccepted, ProposesGreatest, ProposesOwn, IsBlocked, CommitsIt, DecidesCommitted, HasOutcome, Hears, Ignores, Counts, IsEnded, TakesOver, Reacts, ToSlow, ToMessage, NodeSends, AsksForVotes, AsksForViews, Proposes, Commits, Decides, Finishes, Informs}
use Rattle.acc_safety.proofs.PlaceOrder.{StandsAt-IsIn, each_at}
use Rattle.acc_safety.proofs.Attempted.{doing, of_moving, answers_kept, origin_of}
use Rattle.acc_safety.proofs.Frame.{before_reacts}
use Rattle.acc_run_laws.proofs.Unions.{or_else_if}
use Rattle.acc_run_laws.proofs.AloneOutcomes.{IsPlain, IsPlainOutcome, IsPlainBody, found_plain, answer_plain}
use Rattle.acc_run_laws.proofs.Contents.{IsPlainAnswer, HasPlainContent, IsPlainAct}
use Rattle.acc_run_laws.proofs.Stores.{KeepsPlain}

-- ---- outcomes from answers

abbrev ArePlainAnswers : List Message → Type 0
ArePlainAnswers answers = (m : Message) → IsIn m answers → HasPlainContent m

read_known : (answer : ReadAnswer) → IsPlainAnswer answer → KeepsPlain (known_in_read answer)
read_known (Values cells) h = tt
read_known (Known outcome) h = h

known_plain : (m : Message) → HasPlainContent m → KeepsPlain (known_in m)
known_plain (ReadOk from to id ballot answer) h = read_known answer h
known_plain (PreAccept from to id ballot body) h = tt
known_plain (PreAcceptOk from to id ballot vote deps) h = tt
known_plain (Accept from to id ballot body t deps) h = tt
known_plain (AcceptOk from to id ballot deps) h = tt
known_plain (Commit from to id ballot body t deps) h = tt
known_plain (CommitOk from to id ballot) h = tt
known_plain (Stable from to id ballot body t deps) h = tt
known_plain (Apply from to id ballot body t deps outcome) h = tt
known_plain (Recover from to id ballot body) h = tt
known_plain (RecoverOk from to id ballot view) h = tt
known_plain (Nack from to id ballot promised) h = tt
known_plain (Decided from to id ballot t deps) h = tt
known_plain (Inform from to id ballot outcome) h = tt

known_among_plain : (answers : List Message) → ArePlainAnswers answers → KeepsPlain (known_among answers)
known_among_plain [] h = tt
known_among_plain (m ∷ answers) h =
    or_else_if IsPlainOutcome (known_in m) (known_among answers) (known_plain m (h m (First m answers)))
    (known_among_plain answers (λ n there. h n (Later n m answers there)))

read_plain : (answer : ReadAnswer) (key : Key) → IsPlainAnswer answer → IsPlain (cell_in_read key answer)
read_plain (Values cells) key h = found_plain cells key None h refl
read_plain (Known outcome) key h = refl

cell_plain : (m : Message) (key : Key) → HasPlainContent m → IsPlain (cell_in key m)
cell_plain (ReadOk from to id ballot answer) key h = read_plain answer key h
cell_plain (PreAccept from to id ballot body) key h = refl
cell_plain (PreAcceptOk from to id ballot vote deps) key h = refl
cell_plain (Accept from to id ballot body t deps) key h = refl
cell_plain (AcceptOk from to id ballot deps) key h = refl
cell_plain (Commit from to id ballot body t deps) key h = refl
cell_plain (CommitOk from to id ballot) key h = refl
cell_plain (Stable from to id ballot body t deps) key h = refl
cell_plain (Apply from to id ballot body t deps outcome) key h = refl
cell_plain (Recover from to id ballot body) key h = refl
cell_plain (RecoverOk from to id ballot view) key h = refl
cell_plain (Nack from to id ballot promised) key h = refl
cell_plain (Decided from to id ballot t deps) key h = refl
cell_plain (Inform from to id ballot outcome) key h = refl

cells_read_plain : (layout : Layout) (answers : List Message) → ArePlainAnswers answers → (key : Key) → IsPlain (cell_read layout answers key)
cells_read_plain layout [] h key = refl
cells_read_plain layout (m ∷ answers) h key =
    cond_both (shard_of (from_of m) == shard_of_key layout key) (cell_in key m) (cell_read layout answers key) IsPlain
    (λ _. cell_plain m key (h m (First m answers)))
    (λ _. cells_read_plain layout answers (λ n there. h n (Later n m answers there)) key)

outcome_if_plain : (b : Bool) (layout : Layout) (body : BodyParts) (answers : List Message) → IsPlainBody body → ArePlainAnswers answers → KeepsPlain (outcome_if b layout body answers)
outcome_if_plain true layout body answers plain h = answer_plain body (cell_read layout answers) plain (cells_read_plain layout answers h)
outcome_if_plain false layout body answers plain h = tt

outcome_from_plain : (layout : Layout) (body : BodyParts) (answers : List Message) (outcome : Outcome) → IsPlainBody body → ArePlainAnswers answers
    → outcome_from layout body answers ≡ Some outcome → IsPlainOutcome outcome
outcome_from_plain layout body answers outcome plain h is =
    subst KeepsPlain is
    (or_else_if IsPlainOutcome (known_among answers) (outcome_if (read_everywhere layout body answers) layout body answers) (known_among_plain answers h)
    (outcome_if_plain (read_everywhere layout body answers) layout body answers plain h))

-- ---- moves

abbrev pub DidPlain : List Deed → Type 0
DidPlain deeds = AllByRecursion (λ (deed : Deed). IsPlainAct deed.act) deeds

took_plain : (deeds : List Deed) → DidPlain deeds → (m : Message) → Took deeds m → HasPlainContent m
took_plain deeds did m t = subst IsPlainAct t.act_is (each_at (λ (deed : Deed). IsPlainAct deed.act) t.deed deeds did (StandsAt-IsIn t.deed t.past deeds t.at))

abbrev HasPlainOutcome : Move → Type 0
HasPlainOutcome (FinishWith s outcome) = IsPlainOutcome outcome
HasPlainOutcome _ = Unit {0}

module _ (layout : Layout) (x : TxnId) where
  moves_plain : (deeds : List Deed) (a : Attempt) (move : Move) → AreAnswersOf layout x deeds a → DidPlain deeds → IsPlainBody a.body → Moves layout x a move → HasPlainOutcome move
  moves_plain deeds a move h did plain WaitsForMore = tt
  moves_plain deeds a move h did plain (DecidesFast phase fast) = tt
  moves_plain deeds a move h did plain (SlowsDown phase major) = tt
  moves_plain deeds a move h did plain (AdoptsStable s phase major is) = tt
  moves_plain deeds a move h did plain (AdoptsCommitted c phase major is kind) = tt
  moves_plain deeds a move h did plain (AdoptsAccepted c phase major is kind) = tt
  moves_plain deeds a move h did plain (ProposesGreatest phase major none ruled_out) = tt
  moves_plain deeds a move h did plain (ProposesOwn phase major none free) = tt
  moves_plain deeds a move h did plain (IsBlocked by phase major) = tt
  moves_plain deeds a move h did plain (CommitsIt s phase major) = tt
  moves_plain deeds a move h did plain (DecidesCommitted s phase major) = tt
  moves_plain deeds a move h did plain (HasOutcome s outcome phase is) =
      outcome_from_plain layout a.body a.answers outcome plain (λ m there. took_plain deeds did m (h m there).took) is

  hears_plain : (deeds : List Deed) (before : Attempt) (m : Message) (a : Attempt) (move : Move) → AreAnswersOf layout x deeds a → DidPlain deeds → IsPlainBody a.body
      → Hears layout x before m a move → HasPlainOutcome move
  hears_plain deeds before m a move h did plain (Ignores n) = tt
  hears_plain deeds before m a move h did plain (Counts n moved same counting moves) = moves_plain deeds (with_answer before n) moved h did plain moves
  hears_plain deeds before m a move h did plain (IsEnded from to id ballot promised same above) = tt
  hears_plain deeds before m a move h did plain (TakesOver from to id ballot t deps same undecided ready) = tt

  reacts_plain : (node start : ℕ) (emitted : Emitted) (past : List Deed) (act : Act) (a : Attempt) (move : Move) → DidPlain (doing act emitted ∷ past) → IsPlainBody a.body
      → Reacts layout node start past x act a move → HasPlainOutcome move
  reacts_plain node start emitted past act a move did plain reacts =
      by act a move did plain reacts (of_moving layout node start x (AreAnswersOf layout x) (answers_kept layout x node start) act emitted past a move reacts)
    where
      by : (act : Act) (a : Attempt) (move : Move) → DidPlain (doing act emitted ∷ past) → IsPlainBody a.body → Reacts layout node start past x act a move
          → AreAnswersOf layout x (doing act emitted ∷ past) a → HasPlainOutcome move
      by act a move did plain (ToSlow b moved is moves) h = moves_plain (doing (Slows x) emitted ∷ past) b moved h did plain moves
      by act a move did plain (ToMessage before b m moved is about hears) h = hears_plain (doing (Takes m) emitted ∷ past) before m b moved h did plain hears

-- ---- what a node sends

module _ (layout : Layout) (node start : ℕ) (past : List Deed) (did : DidPlain past) where
  act_at : (deed : Deed) (before : List Deed) → StandsAt deed before past → IsPlainAct deed.act
  act_at deed before at = each_at (λ (d : Deed). IsPlainAct d.act) deed past did (StandsAt-IsIn deed before past at)

  origin_plain : (x : TxnId) (a : Attempt) → Origin layout node start x past a → IsPlainBody a.body
  origin_plain x a (FromBegin txn deed before at act_is drawn zero) = subst IsPlainAct act_is (act_at deed before at)
  origin_plain x a (FromRecover deed before at act_is drawn) = subst IsPlainAct act_is (act_at deed before at)

  body_plain : (x : TxnId) (act : Act) (a : Attempt) (move : Move) → Reacts layout node start past x act a move → IsPlainBody a.body
  body_plain x act a move reacts =
      let before = before_reacts layout node start past x act a move reacts in
      subst IsPlainBody before.same_body (origin_plain x before.attempt (origin_of layout node start x past before.attempt before.is))

  module _ (act : Act) (plain : IsPlainAct act) (emitted : Emitted) where
    outcome_plain : (x : TxnId) (a : Attempt) (move : Move) → Reacts layout node start past x act a move → HasPlainOutcome move
    outcome_plain x a move reacts = reacts_plain layout x node start emitted past act a move (plain, did) (body_plain x act a move reacts) reacts

  pub node_plain : (act : Act) (m : Message) → IsPlainAct act → (emitted : Emitted) → NodeSends layout node start past act m → HasPlainContent m
  node_plain act m h emitted (AsksForVotes txn body store) = h
  node_plain act m h emitted (AsksForViews x body store) = h
  node_plain act m h emitted (Proposes on x a s store reacts) = body_plain x on a (Propose s) reacts
  node_plain act m h emitted (Commits on x a s store reacts) = body_plain x on a (CommitTo s) reacts
  node_plain act m h emitted (Decides on x a path s store reacts noted) = body_plain x on a (DecideBy path s) reacts
  node_plain act m h emitted (Finishes on x a s outcome store reacts) =
      (body_plain x on a (FinishWith s outcome) reacts, outcome_plain on h emitted x a (FinishWith s outcome) reacts)
  node_plain act m h emitted (Informs on x a s outcome reacts) = outcome_plain on h emitted x a (FinishWith s outcome) reacts
