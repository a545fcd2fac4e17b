-- What a node sends is bounded, where what it took is, and its clock is low.
use Rattle.std.proofs.Common.{◌≡◌, ℕ, ◌≤◌, ◌==◌, Bool, true, false, List, [], ◌∷◌, Option, None, Some, Contains, refl, sym, subst}
use Rattle.std.specs.Prelude.{IfSome}
use Rattle.std.specs.List.{AllByRecursion}
use Rattle.std.proofs.lemmas.Bool.{cond_both}
use Rattle.acc_stamp.specs.declared.stamps.TxnId.{TxnId}
use Rattle.acc_stamp.specs.declared.stamps.Ballot.{Ballot}
use Rattle.acc_stamp.specs.declared.actors.Actor.{Actor}
use Rattle.acc_stamp.specs.Actor.{actor_of, shard_of}
use Rattle.acc_stamp.specs.Stamp.{zero_ballot}
use Rattle.acc_topology.specs.Layout.{Layout}
use Rattle.acc_topology.specs.Keys.{shard_of_key}
use Rattle.acc_deps.specs.declared.records.Accepted.{Accepted}
use Rattle.acc_deps.specs.declared.records.Settled.{Settled}
use Rattle.acc_deps.specs.declared.records.View.{View}
use Rattle.acc_deps.specs.Records.{Stably, stably_all, least_stably, Claim, claims_of, highest_claim, record_of, shown_as}
use Rattle.acc_deps.proofs.Adopted.{stable_is_shown, claim_is_shown}
use Rattle.acc_quorum.specs.Answers.{Answer}
use Rattle.acc_value.specs.declared.key.Key.{Key}
use Rattle.acc_txn.specs.Rules.{IsBody}
use Rattle.acc_txn.specs.declared.parts.BodyParts.{BodyParts}
use Rattle.acc_txn.specs.declared.outcome.Outcome.{Outcome}
use Rattle.acc_code.specs.Short.{HoldsText, IsShortOutcome}
use Rattle.acc_message.specs.declared.answer.ReadAnswer.{ReadAnswer}
use Rattle.acc_message.specs.declared.answer.ReadAnswer.TheVariants.{Values, Known}
use Rattle.acc_message.specs.declared.message.Message.{Message}
use Rattle.acc_message.specs.declared.message.Message.TheVariants.{PreAccept, PreAcceptOk, Accept, AcceptOk, Commit, CommitOk, Stable, ReadOk, Apply, Recover, RecoverOk, Nack, Decided, Inform}
use Rattle.acc_message.specs.declared.entry.Emitted.{Emitted}
use Rattle.acc_message.specs.Fields.{from_of, id_of, ballot_of}
use Rattle.acc_message.specs.Attempts.{Attempt, Phase, Voting, Recovering, Accepting, Committing, Executing, vote_in_answer, deps_in_answer, plainly, greatest_vote, union_of, known_in_read, known_in, known_among, cell_in_read, cell_in, cell_read, read_everywhere, outcome_if, outcome_from}
use Rattle.acc_message.specs.RecoveryDecision.{view_in, views_in}
use Rattle.acc_message.specs.Coordinator.{with_answer, agreed, home_node}
use Rattle.acc_message.specs.NodeRules.{Act, Begins, Recovers, Slows, Takes, Restarts, Deed, clock_of, next_id, next_ballot}
use Rattle.acc_message_code.specs.Short.{IsShortAnswer}
use Rattle.acc_actor_laws.proofs.Standing.{not_none}
use Rattle.acc_actor_laws.proofs.OpeningFacts.{some_is}
use Rattle.acc_safety.specs.Places.{IsIn, First, Later, Here}
use Rattle.acc_safety.specs.NodeMoves.{Move, Wait, Propose, CommitTo, DecideBy, FinishWith, BlockBy, EndBy, Moves, WaitsForMore, DecidesFast, SlowsDown, AdoptsStable, AdoptsCommitted, AdoptsAccepted, ProposesGreatest, ProposesOwn, IsBlocked, CommitsIt, DecidesCommitted, HasOutcome, Hears, Ignores, Counts, IsEnded, TakesOver, Reacts, ToSlow, ToMessage, NodeSends, AsksForVotes, AsksForViews, Proposes, Commits, Decides, Finishes, Informs}
use Rattle.acc_safety.specs.Attempted.{Took, AreAnswersOf, Origin, FromBegin, FromRecover}
use Rattle.acc_safety.proofs.PlaceOrder.{StandsAt-IsIn, each_at, IsIn-filter_map, Contains-IsIn}
use Rattle.acc_safety.proofs.Attempted.{doing, IsKept, of_moving, no_answers, answers_kept, Took-back, origin_of}
use Rattle.acc_safety.proofs.Frame.{before_reacts}
use Rattle.acc_run_laws.specs.Heights.{IsLowClock}
use Rattle.acc_run_laws.proofs.Bounded.{IsLow, IsActor, zero_low, AreBegunDeps, IsBoundedSettled, IsBoundedAccepted, IsBoundedView, IsBoundedProposal, HasBoundedContent, IsKnownId, IsAddressed, IsBounded}
use Rattle.acc_run_laws.proofs.Unions.{or_else_if, union_begun, answers_begun, greatest_low}
use Rattle.acc_run_laws.proofs.Outcomes.{found_holds, answer_short}
use Rattle.acc_run_laws.proofs.Cells.{KeepsShort}
use Rattle.acc_run_laws.proofs.Clocks.{ballot_low}

module _ (most : ℕ) (begun : List TxnId) where
  -- ---- answers

  abbrev AreBounded : List Message → Type 0
  AreBounded answers = (m : Message) → IsIn m answers → IsBounded most begun m

  vote_low : (m : Message) → HasBoundedContent most begun m → IsLow most (vote_in_answer m)
  vote_low (PreAcceptOk from to id ballot vote deps) h = h.0
  vote_low (RecoverOk from to id ballot view) h = h.vote
  vote_low (PreAccept from to id ballot body) h = zero_low most
  vote_low (Accept from to id ballot body t deps) h = zero_low most
  vote_low (AcceptOk from to id ballot deps) h = zero_low most
  vote_low (Commit from to id ballot body t deps) h = zero_low most
  vote_low (CommitOk from to id ballot) h = zero_low most
  vote_low (Stable from to id ballot body t deps) h = zero_low most
  vote_low (ReadOk from to id ballot answer) h = zero_low most
  vote_low (Apply from to id ballot body t deps outcome) h = zero_low most
  vote_low (Recover from to id ballot body) h = zero_low most
  vote_low (Nack from to id ballot promised) h = zero_low most
  vote_low (Decided from to id ballot t deps) h = zero_low most
  vote_low (Inform from to id ballot outcome) h = zero_low most

  answer_begun : (m : Message) → HasBoundedContent most begun m → AreBegunDeps begun (deps_in_answer m)
  answer_begun (PreAcceptOk from to id ballot vote deps) h = h.1
  answer_begun (AcceptOk from to id ballot deps) h = h
  answer_begun (RecoverOk from to id ballot view) h = h.vote_deps
  answer_begun (PreAccept from to id ballot body) h = tt
  answer_begun (Accept from to id ballot body t deps) h = tt
  answer_begun (Commit from to id ballot body t deps) h = tt
  answer_begun (CommitOk from to id ballot) h = tt
  answer_begun (Stable from to id ballot body t deps) h = tt
  answer_begun (ReadOk from to id ballot answer) h = tt
  answer_begun (Apply from to id ballot body t deps outcome) h = tt
  answer_begun (Recover from to id ballot body) h = tt
  answer_begun (Nack from to id ballot promised) h = tt
  answer_begun (Decided from to id ballot t deps) h = tt
  answer_begun (Inform from to id ballot outcome) h = tt

  plain_low : (x : TxnId) (answers : List Message) → AreBounded answers → AllByRecursion (λ (a : Answer). IsLow most a.t) (plainly x answers)
  plain_low x [] h = tt
  plain_low x (m ∷ answers) h = (vote_low m (h m (First m answers)).content, plain_low x answers (λ n there. h n (Later n m answers there)))

  plain_begun : (x : TxnId) (answers : List Message) → AreBounded answers → AllByRecursion (λ (a : Answer). AreBegunDeps begun a.deps) (plainly x answers)
  plain_begun x [] h = tt
  plain_begun x (m ∷ answers) h = (answer_begun m (h m (First m answers)).content, plain_begun x answers (λ n there. h n (Later n m answers there)))

  union_of_begun : (x : TxnId) (answers : List Message) → AreBounded answers → AreBegunDeps begun (union_of x answers)
  union_of_begun x answers h = answers_begun begun (plainly x answers) (plain_begun x answers h)

  -- ---- what a recovery adopts

  view_is : (m : Message) (v : View) → view_in m ≡ Some v → HasBoundedContent most begun m → IsBoundedView most begun v
  view_is (RecoverOk from to id ballot view) v is h = subst (IsBoundedView most begun) (some_is view v is) h
  view_is (PreAccept from to id ballot body) v is h = absurd (not_none v is)
  view_is (PreAcceptOk from to id ballot vote deps) v is h = absurd (not_none v is)
  view_is (Accept from to id ballot body t deps) v is h = absurd (not_none v is)
  view_is (AcceptOk from to id ballot deps) v is h = absurd (not_none v is)
  view_is (Commit from to id ballot body t deps) v is h = absurd (not_none v is)
  view_is (CommitOk from to id ballot) v is h = absurd (not_none v is)
  view_is (Stable from to id ballot body t deps) v is h = absurd (not_none v is)
  view_is (ReadOk from to id ballot answer) v is h = absurd (not_none v is)
  view_is (Apply from to id ballot body t deps outcome) v is h = absurd (not_none v is)
  view_is (Recover from to id ballot body) v is h = absurd (not_none v is)
  view_is (Nack from to id ballot promised) v is h = absurd (not_none v is)
  view_is (Decided from to id ballot t deps) v is h = absurd (not_none v is)
  view_is (Inform from to id ballot outcome) v is h = absurd (not_none v is)

  shown_bounded : (answers : List Message) → AreBounded answers → (v : View) → Contains (views_in answers) v → IsBoundedView most begun v
  shown_bounded answers h v there =
      let from = IsIn-filter_map view_in v answers (Contains-IsIn v (views_in answers) there) in
      view_is from.source v from.gives (h from.source from.there).content

  stably_bounded : (answers : List Message) → AreBounded answers → (s : Stably) → least_stably (stably_all (views_in answers)) ≡ Some s → IsBoundedSettled most begun s.settled
  stably_bounded answers h s is =
      let shown = stable_is_shown (views_in answers) s is in
      subst (λ o. IfSome o (IsBoundedSettled most begun)) shown.shows (shown_bounded answers h shown.view shown.there).stable

  claim_bounded : (answers : List Message) → AreBounded answers → (c : Claim) → highest_claim (claims_of (views_in answers)) ≡ Some c → IsBoundedSettled most begun c.settled
  claim_bounded answers h c is =
      let shown = claim_is_shown (views_in answers) c is in
      let view = shown_bounded answers h shown.view shown.there in
      by shown.view view.accepted view.committed c.is_committed shown.shows
    where
      settled : (a : Accepted) → a ≡ record_of c → IsBoundedAccepted most begun a → IsBoundedSettled most begun c.settled
      settled a e k = let r : IsBoundedAccepted most begun (record_of c) = subst (IsBoundedAccepted most begun) e k in record { t = r.t; deps = r.deps }

      some : (o : Option Accepted) → o ≡ Some (record_of c) → IfSome o (IsBoundedAccepted most begun) → IsBoundedSettled most begun c.settled
      some None e k = absurd (not_none (record_of c) e)
      some (Some a) e k = settled a (some_is a (record_of c) e) k

      by : (v : View) → IfSome v.accepted (IsBoundedAccepted most begun) → IfSome v.committed (IsBoundedAccepted most begun) → (b : Bool)
          → shown_as v b ≡ Some (record_of c) → IsBoundedSettled most begun c.settled
      by v accepted committed true shows = some v.committed shows committed
      by v accepted committed false shows = some v.accepted shows accepted

  -- ---- outcomes

  read_known : (answer : ReadAnswer) → IsShortAnswer answer → KeepsShort (known_in_read answer)
  read_known (Values cells) h = tt
  read_known (Known outcome) h = h

  known_short : (m : Message) → HasBoundedContent most begun m → KeepsShort (known_in m)
  known_short (ReadOk from to id ballot answer) h = read_known answer h
  known_short (PreAccept from to id ballot body) h = tt
  known_short (PreAcceptOk from to id ballot vote deps) h = tt
  known_short (Accept from to id ballot body t deps) h = tt
  known_short (AcceptOk from to id ballot deps) h = tt
  known_short (Commit from to id ballot body t deps) h = tt
  known_short (CommitOk from to id ballot) h = tt
  known_short (Stable from to id ballot body t deps) h = tt
  known_short (Apply from to id ballot body t deps outcome) h = tt
  known_short (Recover from to id ballot body) h = tt
  known_short (RecoverOk from to id ballot view) h = tt
  known_short (Nack from to id ballot promised) h = tt
  known_short (Decided from to id ballot t deps) h = tt
  known_short (Inform from to id ballot outcome) h = tt

  known_among_short : (answers : List Message) → AreBounded answers → KeepsShort (known_among answers)
  known_among_short [] h = tt
  known_among_short (m ∷ answers) h =
      or_else_if IsShortOutcome (known_in m) (known_among answers) (known_short m (h m (First m answers)).content)
      (known_among_short answers (λ n there. h n (Later n m answers there)))

  read_holds : (answer : ReadAnswer) (key : Key) → IsShortAnswer answer → HoldsText (cell_in_read key answer)
  read_holds (Values cells) key h = found_holds cells key None h.texts tt
  read_holds (Known outcome) key h = tt

  cell_holds : (m : Message) (key : Key) → HasBoundedContent most begun m → HoldsText (cell_in key m)
  cell_holds (ReadOk from to id ballot answer) key h = read_holds answer key h
  cell_holds (PreAccept from to id ballot body) key h = tt
  cell_holds (PreAcceptOk from to id ballot vote deps) key h = tt
  cell_holds (Accept from to id ballot body t deps) key h = tt
  cell_holds (AcceptOk from to id ballot deps) key h = tt
  cell_holds (Commit from to id ballot body t deps) key h = tt
  cell_holds (CommitOk from to id ballot) key h = tt
  cell_holds (Stable from to id ballot body t deps) key h = tt
  cell_holds (Apply from to id ballot body t deps outcome) key h = tt
  cell_holds (Recover from to id ballot body) key h = tt
  cell_holds (RecoverOk from to id ballot view) key h = tt
  cell_holds (Nack from to id ballot promised) key h = tt
  cell_holds (Decided from to id ballot t deps) key h = tt
  cell_holds (Inform from to id ballot outcome) key h = tt

  cells_read_hold : (layout : Layout) (answers : List Message) → AreBounded answers → (key : Key) → HoldsText (cell_read layout answers key)
  cells_read_hold layout [] h key = tt
  cells_read_hold layout (m ∷ answers) h key =
      cond_both (shard_of (from_of m) == shard_of_key layout key) (cell_in key m) (cell_read layout answers key) HoldsText
      (λ _. cell_holds m key (h m (First m answers)).content)
      (λ _. cells_read_hold layout answers (λ n there. h n (Later n m answers there)) key)

  outcome_if_short : (b : Bool) (layout : Layout) (body : BodyParts) (answers : List Message) → IsBody body → AreBounded answers → KeepsShort (outcome_if b layout body answers)
  outcome_if_short true layout body answers rules h = answer_short body (cell_read layout answers) rules (cells_read_hold layout answers h)
  outcome_if_short false layout body answers rules h = tt

  outcome_from_short : (layout : Layout) (body : BodyParts) (answers : List Message) (outcome : Outcome) → IsBody body → AreBounded answers
      → outcome_from layout body answers ≡ Some outcome → IsShortOutcome outcome
  outcome_from_short layout body answers outcome rules h is =
      subst KeepsShort is
      (or_else_if IsShortOutcome (known_among answers) (outcome_if (read_everywhere layout body answers) layout body answers) (known_among_short answers h)
      (outcome_if_short (read_everywhere layout body answers) layout body answers rules h))

  -- ---- acts

  abbrev pub IsBoundedAct : Act → Type 0
  IsBoundedAct (Begins txn body) = IsBody body
  IsBoundedAct (Recovers x body) = IsKnownId most begun x × IsBody body
  IsBoundedAct (Slows x) = IsKnownId most begun x
  IsBoundedAct (Takes m) = IsBounded most begun m
  IsBoundedAct Restarts = Unit {0}

  abbrev pub DidBounded : List Deed → Type 0
  DidBounded deeds = AllByRecursion (λ (deed : Deed). IsBoundedAct deed.act) deeds

  -- ---- attempts

  took_now : (m : Message) (emitted : Emitted) (past : List Deed) → Took (doing (Takes m) emitted ∷ past) m
  took_now m emitted past = record { deed = doing (Takes m) emitted; past = past; at = Here (doing (Takes m) emitted) past; act_is = refl }

  abbrev TookAll : List Deed → Type 0
  TookAll deeds = (m : Message) → Took deeds m → IsBounded most begun m

  took_bounded : (deeds : List Deed) → DidBounded deeds → TookAll deeds
  took_bounded deeds did m t = subst IsBoundedAct t.act_is (each_at (λ (deed : Deed). IsBoundedAct deed.act) t.deed deeds did (StandsAt-IsIn t.deed t.past deeds t.at))

  abbrev IsBoundedPhase : Phase → Type 0
  IsBoundedPhase Voting = Unit {0}
  IsBoundedPhase Recovering = Unit {0}
  IsBoundedPhase (Accepting s) = IsBoundedSettled most begun s
  IsBoundedPhase (Committing s) = IsBoundedSettled most begun s
  IsBoundedPhase (Executing s) = IsBoundedSettled most begun s

  abbrev IsBoundedMove : Move → Type 0
  IsBoundedMove Wait = Unit {0}
  IsBoundedMove (Propose s) = IsBoundedSettled most begun s
  IsBoundedMove (CommitTo s) = IsBoundedSettled most begun s
  IsBoundedMove (DecideBy path s) = IsBoundedSettled most begun s
  IsBoundedMove (FinishWith s outcome) = IsBoundedSettled most begun s
  IsBoundedMove (BlockBy by) = Unit {0}
  IsBoundedMove (EndBy by) = Unit {0}

  abbrev HasShortOutcome : Move → Type 0
  HasShortOutcome (FinishWith s outcome) = IsShortOutcome outcome
  HasShortOutcome _ = Unit {0}

  module _ (layout : Layout) (x : TxnId) (low : IsLow most x.0) where
    record InBounds (deeds : List Deed) (a : Attempt) : Type 0 where
      pub answers : AreAnswersOf layout x deeds a
      pub phase : TookAll deeds → IsBoundedPhase a.phase

    answers_bounded : (deeds : List Deed) (a : Attempt) → InBounds deeds a → TookAll deeds → AreBounded a.answers
    answers_bounded deeds a h took m there = took m (h.answers m there).took

    own_bounded : (answers : List Message) → AreBounded answers → IsBoundedSettled most begun (record { t = x.0; deps = union_of x answers })
    own_bounded answers h = record { t = low; deps = union_of_begun x answers h }

    highest_bounded : (answers : List Message) → AreBounded answers → IsBoundedSettled most begun (record { t = greatest_vote x answers; deps = union_of x answers })
    highest_bounded answers h = record { t = greatest_low most (plainly x answers) (plain_low x answers h); deps = union_of_begun x answers h }

    agreed_bounded : (s : Settled) (a : Attempt) → IsBoundedSettled most begun s → AreBounded a.answers → IsBoundedSettled most begun (agreed x s a)
    agreed_bounded s a h k = record { t = h.t; deps = union_begun begun s.deps (union_of x a.answers) h.deps (union_of_begun x a.answers k) }

    moves_bounded : (deeds : List Deed) (a : Attempt) (move : Move) → InBounds deeds a → TookAll deeds → Moves layout x a move → IsBoundedMove move
    moves_bounded deeds a move h took WaitsForMore = tt
    moves_bounded deeds a move h took (DecidesFast phase fast) = own_bounded a.answers (answers_bounded deeds a h took)
    moves_bounded deeds a move h took (SlowsDown phase major) = highest_bounded a.answers (answers_bounded deeds a h took)
    moves_bounded deeds a move h took (AdoptsStable s phase major is) = stably_bounded a.answers (answers_bounded deeds a h took) s is
    moves_bounded deeds a move h took (AdoptsCommitted c phase major is kind) = claim_bounded a.answers (answers_bounded deeds a h took) c is
    moves_bounded deeds a move h took (AdoptsAccepted c phase major is kind) = claim_bounded a.answers (answers_bounded deeds a h took) c is
    moves_bounded deeds a move h took (ProposesGreatest phase major none ruled_out) = highest_bounded a.answers (answers_bounded deeds a h took)
    moves_bounded deeds a move h took (ProposesOwn phase major none free) = own_bounded a.answers (answers_bounded deeds a h took)
    moves_bounded deeds a move h took (IsBlocked by phase major) = tt
    moves_bounded deeds a move h took (CommitsIt s phase major) = agreed_bounded s a (subst IsBoundedPhase phase (h.phase took)) (answers_bounded deeds a h took)
    moves_bounded deeds a move h took (DecidesCommitted s phase major) = subst IsBoundedPhase phase (h.phase took)
    moves_bounded deeds a move h took (HasOutcome s outcome phase is) = subst IsBoundedPhase phase (h.phase took)

    moves_short : (deeds : List Deed) (a : Attempt) (move : Move) → InBounds deeds a → TookAll deeds → IsBody a.body → Moves layout x a move → HasShortOutcome move
    moves_short deeds a move h took rules WaitsForMore = tt
    moves_short deeds a move h took rules (DecidesFast phase fast) = tt
    moves_short deeds a move h took rules (SlowsDown phase major) = tt
    moves_short deeds a move h took rules (AdoptsStable s phase major is) = tt
    moves_short deeds a move h took rules (AdoptsCommitted c phase major is kind) = tt
    moves_short deeds a move h took rules (AdoptsAccepted c phase major is kind) = tt
    moves_short deeds a move h took rules (ProposesGreatest phase major none ruled_out) = tt
    moves_short deeds a move h took rules (ProposesOwn phase major none free) = tt
    moves_short deeds a move h took rules (IsBlocked by phase major) = tt
    moves_short deeds a move h took rules (CommitsIt s phase major) = tt
    moves_short deeds a move h took rules (DecidesCommitted s phase major) = tt
    moves_short deeds a move h took rules (HasOutcome s outcome phase is) = outcome_from_short layout a.body a.answers outcome rules (answers_bounded deeds a h took) is

    earlier_took : (deed : Deed) (past : List Deed) → TookAll (deed ∷ past) → TookAll past
    earlier_took deed past took m t = took m (Took-back deed past m t)

    bounds_kept : (node start : ℕ) → IsKept layout node start x InBounds
    bounds_kept node start =
        let answers = answers_kept layout x node start in
        record {
          stays = λ deed past a h. record { answers = answers.stays deed past a h.answers; phase = λ took. h.phase (earlier_took deed past took) };
          begins = λ txn body emitted past is. record { answers = answers.begins txn body emitted past is; phase = λ took. tt };
          recovers = λ body emitted past. record { answers = answers.recovers body emitted past; phase = λ took. tt };
          counts = λ m emitted past a is about of_ballot counting h.
              record {
                answers = answers.counts m emitted past a is about of_ballot counting h.answers;
                phase = λ took. h.phase (earlier_took (doing (Takes m) emitted) past took);
              };
          proposes = λ deeds a s h moves. record { answers = no_answers layout x deeds a (Accepting s); phase = λ took. moves_bounded deeds a (Propose s) h took moves };
          commits = λ deeds a s h moves. record { answers = no_answers layout x deeds a (Committing s); phase = λ took. moves_bounded deeds a (CommitTo s) h took moves };
          decides = λ deeds a path s h moves. record { answers = no_answers layout x deeds a (Executing s); phase = λ took. moves_bounded deeds a (DecideBy path s) h took moves };
          takes_over = λ from to id ballot t deps emitted past a is about h.
              let deed : Deed = doing (Takes (Decided from to id ballot t deps)) emitted in
              record {
                answers = no_answers layout x (deed ∷ past) a (Executing (record { t = t; deps = deps }));
                phase = λ took.
                    let c = (took (Decided from to id ballot t deps) (took_now (Decided from to id ballot t deps) emitted past)).content in
                    record { t = c.0; deps = c.1 };
              };
        }

    record IsMoveInBounds (move : Move) : Type 0 where
      pub settled : IsBoundedMove move
      pub outcome : HasShortOutcome move

    hears_bounded : (deeds : List Deed) (before : Attempt) (m : Message) (a : Attempt) (move : Move) → InBounds deeds a → TookAll deeds → IsBounded most begun m → IsBody a.body
        → Hears layout x before m a move → IsMoveInBounds move
    hears_bounded deeds before m a move h took now rules (Ignores n) = record { settled = tt; outcome = tt }
    hears_bounded deeds before m a move h took now rules (Counts n moved same counting moves) = record {
      settled = moves_bounded deeds (with_answer before n) moved h took moves;
      outcome = moves_short deeds (with_answer before n) moved h took rules moves;
    }
    hears_bounded deeds before m a move h took now rules (IsEnded from to id ballot promised same above) = record { settled = tt; outcome = tt }
    hears_bounded deeds before m a move h took now rules (TakesOver from to id ballot t deps same undecided ready) =
        record { settled = record { t = now.content.0; deps = now.content.1 }; outcome = tt }

    reacts_bounded : (node start : ℕ) (emitted : Emitted) (past : List Deed) (act : Act) (a : Attempt) (move : Move) → DidBounded (doing act emitted ∷ past) → IsBody a.body
        → Reacts layout node start past x act a move → IsMoveInBounds move
    reacts_bounded node start emitted past act a move did rules reacts =
        by act a move (took_bounded (doing act emitted ∷ past) did) rules reacts (of_moving layout node start x InBounds (bounds_kept node start) act emitted past a move reacts)
      where
        by : (act : Act) (a : Attempt) (move : Move) → TookAll (doing act emitted ∷ past) → IsBody a.body → Reacts layout node start past x act a move
            → InBounds (doing act emitted ∷ past) a → IsMoveInBounds move
        by act a move took rules (ToSlow b moved is moves) h = record {
          settled = moves_bounded (doing (Slows x) emitted ∷ past) b moved h took moves;
          outcome = moves_short (doing (Slows x) emitted ∷ past) b moved h took rules moves;
        }
        by act a move took rules (ToMessage before b m moved is about hears) h =
            hears_bounded (doing (Takes m) emitted ∷ past) before m b moved h took (took m (took_now m emitted past)) rules hears

  -- ---- what a node sends

  module _ (layout : Layout) (node start : ℕ) (few : node ≤ 15) (past : List Deed) (did : DidBounded past) (clock : IsLowClock most (clock_of node start past)) where
    record IsMover (x : TxnId) (a : Attempt) : Type 0 where
      pub id : IsKnownId most begun x
      pub rules : IsBody a.body
      pub ballot : IsLow most a.ballot.0

    origin_rules : (x : TxnId) (a : Attempt) → Origin layout node start x past a → IsBody a.body
    origin_rules x a (FromBegin txn deed before at act_is drawn zero) =
        subst IsBoundedAct act_is (each_at (λ (d : Deed). IsBoundedAct d.act) deed past did (StandsAt-IsIn deed before past at))
    origin_rules x a (FromRecover deed before at act_is drawn) = second (subst IsBoundedAct act_is (each_at (λ (d : Deed). IsBoundedAct d.act) deed past did (StandsAt-IsIn deed before past at)))
      where
        second : IsBoundedAct (Recovers x a.body) → IsBody a.body
        second h = h.1

    origin_low : (x : TxnId) (a : Attempt) → Origin layout node start x past a → IsLow most a.ballot.0
    origin_low x a (FromBegin txn deed before at act_is drawn zero) = subst (λ (b : Ballot). IsLow most b.0) (sym zero) (zero_low most)
    origin_low x a (FromRecover deed before at act_is drawn) =
        subst (λ (b : Ballot). IsLow most b.0) (sym drawn) (ballot_low node start most deed before past x a.body at act_is few clock)

    known_of : (x : TxnId) (act : Act) (a : Attempt) (move : Move) → IsBoundedAct act → Reacts layout node start past x act a move → IsKnownId most begun x
    known_of x act a move h (ToSlow b moved is moves) = h
    known_of x act a move h (ToMessage before b m moved is about hears) = subst (IsKnownId most begun) about h.id

    mover : (x : TxnId) (act : Act) (a : Attempt) (move : Move) → IsBoundedAct act → Reacts layout node start past x act a move → IsMover x a
    mover x act a move h reacts =
        let before = before_reacts layout node start past x act a move reacts in
        let origin = origin_of layout node start x past before.attempt before.is in
        record {
          id = known_of x act a move h reacts;
          rules = subst IsBody before.same_body (origin_rules x before.attempt origin);
          ballot = subst (λ (b : Ballot). IsLow most b.0) before.same_ballot (origin_low x before.attempt origin);
        }

    module _ (act : Act) (bounded : IsBoundedAct act) (emitted : Emitted) where
      moving : (x : TxnId) (a : Attempt) (move : Move) → (r : Reacts layout node start past x act a move) → IsMover x a × IsMoveInBounds layout x (known_of x act a move bounded r).low move
      moving x a move r =
          let by = mover x act a move bounded r in
          (by, reacts_bounded layout x (known_of x act a move bounded r).low node start emitted past act a move (bounded, did) by.rules r)

    -- a message to one of these stores or nodes, from the node
    sent_bounded : (own : Actor) (m : Message) (x : TxnId) (b : Ballot) → IsActor own → IsAddressed most begun m → from_of m ≡ own → id_of m ≡ x → ballot_of m ≡ b
        → IsKnownId most begun x → IsLow most b.0 → HasBoundedContent most begun m → IsBounded most begun m
    sent_bounded own m x b actor address from id ballot known low content = record {
      from = subst IsActor (sym from) actor;
      address = address;
      id = subst (IsKnownId most begun) (sym id) known;
      ballot = subst (λ (c : Ballot). IsLow most c.0) (sym ballot) low;
      content = content;
    }

    proposal : (a : Attempt) (s : Settled) → IsBody a.body → IsBoundedSettled most begun s → IsBoundedProposal most begun a.body s.t s.deps
    proposal a s rules h = record { rules = rules; t_low = h.t; deps_begun = h.deps }

    -- what a begin draws is begun, and low
    abbrev pub IsDrawn : Act → Type 0
    IsDrawn (Begins txn body) = IsKnownId most begun (next_id node start past)
    IsDrawn (Recovers x body) = IsLow most (next_ballot node start past).0
    IsDrawn _ = Unit {0}

    pub node_bounded : (act : Act) (m : Message) → IsBoundedAct act → IsDrawn act → IsActor (actor_of node 0) → IsAddressed most begun m → (emitted : Emitted)
        → NodeSends layout node start past act m → IsBounded most begun m
    node_bounded act m h drawn actor address emitted (AsksForVotes txn body store) =
        sent_bounded (actor_of node 0) (PreAccept (actor_of node 0) store (next_id node start past) zero_ballot body) (next_id node start past) zero_ballot actor address refl refl refl drawn (zero_low most) h
    node_bounded act m h drawn actor address emitted (AsksForViews x body store) =
        sent_bounded (actor_of node 0) (Recover (actor_of node 0) store x (next_ballot node start past) body) x (next_ballot node start past) actor address refl refl refl h.0 drawn h.1
    node_bounded act m h drawn actor address emitted (Proposes on x a s store reacts) =
        let by = moving on h emitted x a (Propose s) reacts in
        sent_bounded (actor_of node 0) (Accept (actor_of node 0) store x a.ballot a.body s.t s.deps) x a.ballot actor address refl refl refl by.0.id by.0.ballot (proposal a s by.0.rules by.1.settled)
    node_bounded act m h drawn actor address emitted (Commits on x a s store reacts) =
        let by = moving on h emitted x a (CommitTo s) reacts in
        sent_bounded (actor_of node 0) (Commit (actor_of node 0) store x a.ballot a.body s.t s.deps) x a.ballot actor address refl refl refl by.0.id by.0.ballot (proposal a s by.0.rules by.1.settled)
    node_bounded act m h drawn actor address emitted (Decides on x a path s store reacts noted) =
        let by = moving on h emitted x a (DecideBy path s) reacts in
        sent_bounded (actor_of node 0) (Stable (actor_of node 0) store x a.ballot a.body s.t s.deps) x a.ballot actor address refl refl refl by.0.id by.0.ballot (proposal a s by.0.rules by.1.settled)
    node_bounded act m h drawn actor address emitted (Finishes on x a s outcome store reacts) =
        let by = moving on h emitted x a (FinishWith s outcome) reacts in
        sent_bounded (actor_of node 0) (Apply (actor_of node 0) store x a.ballot a.body s.t s.deps outcome) x a.ballot actor address refl refl refl by.0.id by.0.ballot
        (proposal a s by.0.rules by.1.settled, by.1.outcome)
    node_bounded act m h drawn actor address emitted (Informs on x a s outcome reacts) =
        let by = moving on h emitted x a (FinishWith s outcome) reacts in
        sent_bounded (actor_of node 0) (Inform (actor_of node 0) (home_node x) x a.ballot outcome) x a.ballot actor address refl refl refl by.0.id by.0.ballot by.1.outcome
