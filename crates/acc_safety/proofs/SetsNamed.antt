-- Dependencies of every message and note are sets: each shard once, in order, and its transactions rising.
use Rattle.std.proofs.Common.{◌≡◌, ℕ, Bool, true, false, List, [], ◌∷◌, ◌++◌, Option, None, Some, map, filter, Contains, refl, sym, subst}
use Rattle.std.specs.List.{AllByRecursion}
use Rattle.acc_stamp.specs.declared.stamps.Stamp.{Stamp}
use Rattle.acc_stamp.specs.declared.stamps.TxnId.{TxnId}
use Rattle.acc_stamp.specs.declared.actors.Actor.{Actor}
use Rattle.acc_stamp.specs.Actor.{node_of, shard_of}
use Rattle.acc_stamp.specs.Stamp.{stamp_lt}
use Rattle.acc_stamp.specs.Rising.{ids_union}
use Rattle.acc_stamp.proofs.Order.{id_order}
use Rattle.acc_stamp.proofs.Rising.{IsRisingBy-union, each_append, each_parts}
use Rattle.acc_topology.specs.Layout.{Layout}
use Rattle.acc_deps.specs.declared.shards.ShardDeps.{ShardDeps}
use Rattle.acc_deps.specs.declared.records.Accepted.{Accepted}
use Rattle.acc_deps.specs.declared.records.Settled.{Settled}
use Rattle.acc_deps.specs.declared.records.View.{View}
use Rattle.acc_deps.specs.Deps.{AreDeps}
use Rattle.acc_deps.specs.Records.{Stably, stably_all, least_stably, Claim, claims_of, highest_claim, record_of, shown_as}
use Rattle.acc_deps.proofs.Adopted.{stable_is_shown, claim_is_shown}
use Rattle.acc_deps.proofs.ByShard.{AreDeps-nil, AreDeps-of, AreDeps-union}
use Rattle.acc_quorum.specs.Answers.{Answer}
use Rattle.acc_quorum.proofs.Together.{AreDeps-union_of}
use Rattle.acc_txn.specs.declared.parts.BodyParts.{BodyParts}
use Rattle.acc_message.specs.declared.message.Message.{Message}
use Rattle.acc_message.specs.declared.message.Message.TheVariants.{PreAccept, PreAcceptOk, Accept, AcceptOk, Commit, CommitOk, Stable, ReadOk, Apply, Recover, RecoverOk, Nack, Decided, Inform}
use Rattle.acc_message.specs.declared.note.Path.{Path}
use Rattle.acc_message.specs.declared.note.Note.TheVariants.{Decide as DecideNote}
use Rattle.acc_message.specs.declared.entry.Emitted.{Emitted}
use Rattle.acc_message.specs.declared.item.Item.{Item}
use Rattle.acc_message.specs.Fields.{from_of, id_of}
use Rattle.acc_message.specs.Taken.{Taken, Heard, taking, rivals}
use Rattle.acc_message.specs.VoteRule.{Vote, vote_of, vote_given, new_vote, known_below}
use Rattle.acc_message.specs.BallotRules.{accepted_of, committed_of, stable_of}
use Rattle.acc_message.specs.Evidence.{view_of}
use Rattle.acc_message.specs.Attempts.{Attempt, Phase, Voting, Recovering, Accepting, Committing, Executing, deps_in_answer, plainly, union_of}
use Rattle.acc_message.specs.RecoveryDecision.{view_in, views_in}
use Rattle.acc_message.specs.Coordinator.{with_answer}
use Rattle.acc_message.specs.NodeRules.{Act, Slows, Takes, Deed}
use Rattle.acc_message.specs.Run.{Cluster, clock_start, deeds_of, taken_of, EachStands}
use Rattle.acc_actor_laws.proofs.Standing.{not_none}
use Rattle.acc_actor_laws.proofs.OpeningFacts.{some_is}
use Rattle.acc_safety.specs.Places.{IsIn, First, Later, StandsAt, Here, IsPast}
use Rattle.acc_safety.specs.Histories.{EachAnswers, Sending, Sender, IsStore, IsNode, NotedBy}
use Rattle.acc_safety.specs.StoreSends.{StoreSends, Votes, Accepts, Commits, Reveals, ReadsAtOnce, ReadsOnOpening, Refuses, Tells}
use Rattle.acc_safety.specs.NodeMoves.{Move, Wait, Propose, CommitTo, DecideBy, FinishWith, BlockBy, EndBy, Moves, WaitsForMore, DecidesFast, SlowsDown, AdoptsStable, AdoptsCommitted, AdoptsAccepted, ProposesGreatest, ProposesOwn, IsBlocked, CommitsIt, DecidesCommitted, HasOutcome, Hears, Ignores, Counts, IsEnded, TakesOver, Reacts, ToSlow, ToMessage, NodeSends, AsksForVotes, AsksForViews, Proposes, Commits as CommitsTo, Decides, Finishes, Informs, NodeNotes, NotesDecision}
use Rattle.acc_safety.specs.Attempted.{Took, AreAnswersOf}
use Rattle.acc_safety.specs.Statements.{deps_accepted, deps_settled, deps_in_view, deps_named, DepsAreSets}
use Rattle.acc_safety.proofs.PlaceOrder.{StandsAt-behind, StandsAt-whole, StandsAt-IsPast, IsIn-filter_map, Contains-IsIn}
use Rattle.acc_safety.proofs.Bridge.{each_answers, EachAnswers-past, Sending-past, sender, noted_by}
use Rattle.acc_safety.proofs.Attempted.{doing, IsKept, of_moving, no_answers, answers_kept, Took-back}
use Rattle.acc_safety.proofs.Frame.{store_sent, node_sent, node_noted, past_of}
use Rattle.acc_safety.proofs.StoreNotions.{accepted_from, committed_from, Settling, ByStable, ByApply, stable_from, votes_are_made}
use Rattle.acc_safety.proofs.Prefixes.{IsBefore-past, SentBefore, store_took_before, node_took_before, each_message}

abbrev pub NamesSets : Message → Type 0
NamesSets m = AllByRecursion AreDeps (deps_named m)

-- ---- a store

known_below-sets : (layout : Layout) (own : Actor) (history : List Taken) (x : TxnId) (body : BodyParts) (bound : Stamp) → AreDeps (known_below layout own history x body bound)
known_below-sets layout own history x body bound =
    AreDeps-of (shard_of own)
    (ids_union [] (map (λ (k : Heard). k.id) (filter (λ (k : Heard). stamp_lt k.id.0 bound) (rivals layout (shard_of own) history x body))))
    (IsRisingBy-union id_order [] (map (λ (k : Heard). k.id) (filter (λ (k : Heard). stamp_lt k.id.0 bound) (rivals layout (shard_of own) history x body))) tt)

-- a vote that a store has given names a set
vote-sets : (layout : Layout) (own : Actor) (history : List Taken) → EachAnswers layout own history → (x : TxnId) (v : Vote) → vote_of history x ≡ Some v → AreDeps v.deps
vote-sets layout own history h x v is =
    let made = votes_are_made layout own history h x v is in
    subst (λ (w : Vote). AreDeps w.deps) (sym made.made) (known_below-sets layout own (taking made.step.message made.past) x made.body x.0)

given-sets : (layout : Layout) (own : Actor) (past now : List Taken) → EachAnswers layout own past → (x : TxnId) (body : BodyParts) (o : Option Vote) → vote_of past x ≡ o
    → AreDeps (vote_given o (new_vote layout own now x body)).deps
given-sets layout own past now h x body None is = known_below-sets layout own now x body x.0
given-sets layout own past now h x body (Some v) is = vote-sets layout own past h x v is

-- each message of a history names sets
abbrev pub TookSets : List Taken → Type 0
TookSets history = (step : Taken) (past : List Taken) → StandsAt step past history → NamesSets step.message

accepted-sets : (history : List Taken) → TookSets history → (x : TxnId) (o : Option Accepted) → accepted_of history x ≡ o → AllByRecursion AreDeps (deps_accepted o)
accepted-sets history took x None is = tt
accepted-sets history took x (Some a) is =
    let from = accepted_from history x a is in subst NamesSets from.message_is (took from.step from.past from.at)

committed-sets : (history : List Taken) → TookSets history → (x : TxnId) (o : Option Accepted) → committed_of history x ≡ o → AllByRecursion AreDeps (deps_accepted o)
committed-sets history took x None is = tt
committed-sets history took x (Some a) is =
    let from = committed_from history x a is in subst NamesSets from.message_is (took from.step from.past from.at)

settling-sets : (x : TxnId) (s : Settled) (m : Message) → Settling x s m → NamesSets m → AllByRecursion AreDeps (s.deps ∷ [])
settling-sets x s m (ByStable from to b body) h = h
settling-sets x s m (ByApply from to b body outcome) h = h

stable-sets : (history : List Taken) → TookSets history → (x : TxnId) (o : Option Settled) → stable_of history x ≡ o → AllByRecursion AreDeps (deps_settled o)
stable-sets history took x None is = tt
stable-sets history took x (Some s) is =
    let from = stable_from history x s is in settling-sets x s from.step.message from.settling (took from.step from.past from.at)

view-sets : (layout : Layout) (own : Actor) (past now : List Taken) → EachAnswers layout own past → TookSets past → (x : TxnId) (body : BodyParts)
    → AllByRecursion AreDeps (deps_in_view (view_of layout own past now x body))
view-sets layout own past now h took x body = (
  given-sets layout own past now h x body (vote_of past x) refl,
  each_append AreDeps (deps_accepted (accepted_of past x) ++ deps_accepted (committed_of past x)) (deps_settled (stable_of past x))
      (each_append AreDeps (deps_accepted (accepted_of past x)) (deps_accepted (committed_of past x))
      (accepted-sets past took x (accepted_of past x) refl) (committed-sets past took x (committed_of past x) refl))
      (stable-sets past took x (stable_of past x) refl),
)

store_names : (layout : Layout) (own : Actor) (past : List Taken) (taken m : Message) → EachAnswers layout own past → TookSets past
    → StoreSends layout own past taken m → NamesSets m
store_names layout own past taken m h took (Votes from to x b body counting v s p k e) =
    (subst (λ (w : Vote). AreDeps w.deps) (sym e) (given-sets layout own past (taking (PreAccept from to x b body) past) h x counting (vote_of past x) refl), tt)
store_names layout own past taken m h took (Accepts from to x b body counting t proposed deps s p k e) =
    (subst AreDeps (sym e) (known_below-sets layout own (taking (Accept from to x b body t proposed) past) x counting t), tt)
store_names layout own past taken m h took (Commits from to x b body t deps s p) = tt
store_names layout own past taken m h took (Reveals from to x b body counting view p k e) =
    subst (λ w. AllByRecursion AreDeps (deps_in_view w)) (sym e) (view-sets layout own past (taking (Recover from to x b body) past) h took x counting)
store_names layout own past taken m h took (ReadsAtOnce from to x b body t deps answer p e) = tt
store_names layout own past taken m h took (ReadsOnOpening n c b answer before among opens there e) = tt
store_names layout own past taken m h took (Refuses n promised e) = tt
store_names layout own past taken m h took (Tells n s e) = stable-sets past took (id_of n) (Some s) e

-- ---- answers

answer-sets : (m : Message) → NamesSets m → AreDeps (deps_in_answer m)
answer-sets (PreAcceptOk from to id ballot vote deps) h = h.0
answer-sets (AcceptOk from to id ballot deps) h = h.0
answer-sets (RecoverOk from to id ballot view) h = h.0
answer-sets (PreAccept from to id ballot body) h = AreDeps-nil
answer-sets (Accept from to id ballot body t deps) h = AreDeps-nil
answer-sets (Commit from to id ballot body t deps) h = AreDeps-nil
answer-sets (CommitOk from to id ballot) h = AreDeps-nil
answer-sets (Stable from to id ballot body t deps) h = AreDeps-nil
answer-sets (ReadOk from to id ballot answer) h = AreDeps-nil
answer-sets (Apply from to id ballot body t deps outcome) h = AreDeps-nil
answer-sets (Recover from to id ballot body) h = AreDeps-nil
answer-sets (Nack from to id ballot promised) h = AreDeps-nil
answer-sets (Decided from to id ballot t deps) h = AreDeps-nil
answer-sets (Inform from to id ballot outcome) h = AreDeps-nil

abbrev AnswerSets : List Message → Type 0
AnswerSets answers = (m : Message) → IsIn m answers → NamesSets m

plain-sets : (x : TxnId) (answers : List Message) → AnswerSets answers → AllByRecursion (λ (a : Answer). AreDeps a.deps) (plainly x answers)
plain-sets x [] h = tt
plain-sets x (m ∷ answers) h = (answer-sets m (h m (First m answers)), plain-sets x answers (λ n there. h n (Later n m answers there)))

-- the union of the dependencies of answers is a set
pub union-sets : (x : TxnId) (answers : List Message) → AnswerSets answers → AreDeps (union_of x answers)
union-sets x answers h = AreDeps-union_of (plainly x answers) (plain-sets x answers h)

-- an answer with a view
view_is : (m : Message) (v : View) → view_in m ≡ Some v → NamesSets m → AllByRecursion AreDeps (deps_in_view v)
view_is (RecoverOk from to id ballot view) v is h = subst (λ w. AllByRecursion AreDeps (deps_in_view w)) (some_is view v is) h
view_is (PreAccept from to id ballot body) v is h = absurd (not_none v is)
view_is (PreAcceptOk from to id ballot vote deps) v is h = absurd (not_none v is)
view_is (Accept from to id ballot body t deps) v is h = absurd (not_none v is)
view_is (AcceptOk from to id ballot deps) v is h = absurd (not_none v is)
view_is (Commit from to id ballot body t deps) v is h = absurd (not_none v is)
view_is (CommitOk from to id ballot) v is h = absurd (not_none v is)
view_is (Stable from to id ballot body t deps) v is h = absurd (not_none v is)
view_is (ReadOk from to id ballot answer) v is h = absurd (not_none v is)
view_is (Apply from to id ballot body t deps outcome) v is h = absurd (not_none v is)
view_is (Recover from to id ballot body) v is h = absurd (not_none v is)
view_is (Nack from to id ballot promised) v is h = absurd (not_none v is)
view_is (Decided from to id ballot t deps) v is h = absurd (not_none v is)
view_is (Inform from to id ballot outcome) v is h = absurd (not_none v is)

shown-sets : (answers : List Message) → AnswerSets answers → (v : View) → Contains (views_in answers) v → AllByRecursion AreDeps (deps_in_view v)
shown-sets answers h v there =
    let from = IsIn-filter_map view_in v answers (Contains-IsIn v (views_in answers) there) in
    view_is from.source v from.gives (h from.source from.there)

-- ---- what a recovery adopts

records_of : (view : View) → AllByRecursion AreDeps (deps_in_view view)
    → AllByRecursion AreDeps (deps_accepted view.accepted) × AllByRecursion AreDeps (deps_accepted view.committed) × AllByRecursion AreDeps (deps_settled view.stable)
records_of view h =
    let outer = each_parts AreDeps (deps_accepted view.accepted ++ deps_accepted view.committed) (deps_settled view.stable) h.1 in
    let inner = each_parts AreDeps (deps_accepted view.accepted) (deps_accepted view.committed) outer.0 in
    (inner.0, inner.1, outer.1)

stably-sets : (answers : List Message) → AnswerSets answers → (s : Stably) → least_stably (stably_all (views_in answers)) ≡ Some s → AreDeps s.settled.deps
stably-sets answers h s is =
    let shown = stable_is_shown (views_in answers) s is in
    (subst (λ o. AllByRecursion AreDeps (deps_settled o)) shown.shows (records_of shown.view (shown-sets answers h shown.view shown.there)).2).0

claim-sets : (answers : List Message) → AnswerSets answers → (c : Claim) → highest_claim (claims_of (views_in answers)) ≡ Some c → AreDeps c.settled.deps
claim-sets answers h c is =
    let shown = claim_is_shown (views_in answers) c is in
    let records = records_of shown.view (shown-sets answers h shown.view shown.there) in
    by shown.view records.0 records.1 c.is_committed shown.shows
  where
    by : (v : View) → AllByRecursion AreDeps (deps_accepted v.accepted) → AllByRecursion AreDeps (deps_accepted v.committed) → (b : Bool)
        → shown_as v b ≡ Some (record_of c) → AreDeps c.settled.deps
    by v accepted committed true shows = (subst (λ o. AllByRecursion AreDeps (deps_accepted o)) shows committed).0
    by v accepted committed false shows = (subst (λ o. AllByRecursion AreDeps (deps_accepted o)) shows accepted).0

-- ---- attempts

took_now : (m : Message) (emitted : Emitted) (past : List Deed) → Took (doing (Takes m) emitted ∷ past) m
took_now m emitted past = record { deed = doing (Takes m) emitted; past = past; at = Here (doing (Takes m) emitted) past; act_is = refl }

abbrev PhaseSets : Phase → Type 0
PhaseSets Voting = Unit {0}
PhaseSets Recovering = Unit {0}
PhaseSets (Accepting s) = AreDeps s.deps
PhaseSets (Committing s) = AreDeps s.deps
PhaseSets (Executing s) = AreDeps s.deps

abbrev MoveSets : Move → Type 0
MoveSets Wait = Unit {0}
MoveSets (Propose s) = AreDeps s.deps
MoveSets (CommitTo s) = AreDeps s.deps
MoveSets (DecideBy path s) = AreDeps s.deps
MoveSets (FinishWith s outcome) = AreDeps s.deps
MoveSets (BlockBy by) = Unit {0}
MoveSets (EndBy by) = Unit {0}

-- each message that a node took names sets
abbrev pub NodeTookSets : List Deed → Type 0
NodeTookSets deeds = (m : Message) → Took deeds m → NamesSets m

module _ (layout : Layout) (x : TxnId) where
  record InSets (deeds : List Deed) (a : Attempt) : Type 0 where
    pub answers : AreAnswersOf layout x deeds a
    pub phase : NodeTookSets deeds → PhaseSets a.phase

  attempt-sets : (deeds : List Deed) (a : Attempt) → InSets deeds a → NodeTookSets deeds → AnswerSets a.answers
  attempt-sets deeds a h took m there = took m (h.answers m there).took

  moves-sets : (deeds : List Deed) (a : Attempt) (move : Move) → InSets deeds a → NodeTookSets deeds → Moves layout x a move → MoveSets move
  moves-sets deeds a move h took WaitsForMore = tt
  moves-sets deeds a move h took (DecidesFast phase fast) = union-sets x a.answers (attempt-sets deeds a h took)
  moves-sets deeds a move h took (SlowsDown phase major) = union-sets x a.answers (attempt-sets deeds a h took)
  moves-sets deeds a move h took (AdoptsStable s phase major is) = stably-sets a.answers (attempt-sets deeds a h took) s is
  moves-sets deeds a move h took (AdoptsCommitted c phase major is kind) = claim-sets a.answers (attempt-sets deeds a h took) c is
  moves-sets deeds a move h took (AdoptsAccepted c phase major is kind) = claim-sets a.answers (attempt-sets deeds a h took) c is
  moves-sets deeds a move h took (ProposesGreatest phase major none ruled_out) = union-sets x a.answers (attempt-sets deeds a h took)
  moves-sets deeds a move h took (ProposesOwn phase major none free) = union-sets x a.answers (attempt-sets deeds a h took)
  moves-sets deeds a move h took (IsBlocked by phase major) = tt
  moves-sets deeds a move h took (CommitsIt s phase major) =
      AreDeps-union s.deps (union_of x a.answers) (subst PhaseSets phase (h.phase took)) (union-sets x a.answers (attempt-sets deeds a h took))
  moves-sets deeds a move h took (DecidesCommitted s phase major) = subst PhaseSets phase (h.phase took)
  moves-sets deeds a move h took (HasOutcome s outcome phase is) = subst PhaseSets phase (h.phase took)

  earlier_took : (deed : Deed) (past : List Deed) → NodeTookSets (deed ∷ past) → NodeTookSets past
  earlier_took deed past took m t = took m (Took-back deed past m t)

  sets_kept : (node start : ℕ) → IsKept layout node start x InSets
  sets_kept node start =
      let answers = answers_kept layout x node start in
      record {
        stays = λ deed past a h. record { answers = answers.stays deed past a h.answers; phase = λ took. h.phase (earlier_took deed past took) };
        begins = λ txn body emitted past is. record { answers = answers.begins txn body emitted past is; phase = λ took. tt };
        recovers = λ body emitted past. record { answers = answers.recovers body emitted past; phase = λ took. tt };
        counts = λ m emitted past a is about of_ballot counting h.
            record {
              answers = answers.counts m emitted past a is about of_ballot counting h.answers;
              phase = λ took. h.phase (earlier_took (doing (Takes m) emitted) past took);
            };
        proposes = λ deeds a s h moves. record { answers = no_answers layout x deeds a (Accepting s); phase = λ took. moves-sets deeds a (Propose s) h took moves };
        commits = λ deeds a s h moves. record { answers = no_answers layout x deeds a (Committing s); phase = λ took. moves-sets deeds a (CommitTo s) h took moves };
        decides = λ deeds a path s h moves. record { answers = no_answers layout x deeds a (Executing s); phase = λ took. moves-sets deeds a (DecideBy path s) h took moves };
        takes_over = λ from to id ballot t deps emitted past a is about h.
            let deed : Deed = doing (Takes (Decided from to id ballot t deps)) emitted in
            record {
              answers = no_answers layout x (deed ∷ past) a (Executing (record { t = t; deps = deps }));
              phase = λ took. (took (Decided from to id ballot t deps) (took_now (Decided from to id ballot t deps) emitted past)).0;
            };
      }

  hears-sets : (deeds : List Deed) (before : Attempt) (m : Message) (a : Attempt) (move : Move) → InSets deeds a → NodeTookSets deeds → NamesSets m
      → Hears layout x before m a move → MoveSets move
  hears-sets deeds before m a move h took now (Ignores n) = tt
  hears-sets deeds before m a move h took now (Counts n moved same counting moves) = moves-sets deeds (with_answer before n) moved h took moves
  hears-sets deeds before m a move h took now (IsEnded from to id ballot promised same above) = tt
  hears-sets deeds before m a move h took now (TakesOver from to id ballot t deps same undecided ready) = now.0

  pub reacts-sets : (node start : ℕ) (emitted : Emitted) (past : List Deed) (act : Act) (a : Attempt) (move : Move) → NodeTookSets (doing act emitted ∷ past)
      → Reacts layout node start past x act a move → MoveSets move
  reacts-sets node start emitted past act a move took reacts = by act a move took reacts (of_moving layout node start x InSets (sets_kept node start) act emitted past a move reacts)
    where
      by : (act : Act) (a : Attempt) (move : Move) → NodeTookSets (doing act emitted ∷ past) → Reacts layout node start past x act a move
          → InSets (doing act emitted ∷ past) a → MoveSets move
      by act a move took (ToSlow b moved is moves) h = moves-sets (doing (Slows x) emitted ∷ past) b moved h took moves
      by act a move took (ToMessage before b m moved is about hears) h =
          hears-sets (doing (Takes m) emitted ∷ past) before m b moved h took (took m (took_now m emitted past)) hears

node-names : (layout : Layout) (node start : ℕ) (emitted : Emitted) (past : List Deed) (act : Act) (m : Message) → NodeTookSets (doing act emitted ∷ past)
    → NodeSends layout node start past act m → NamesSets m
node-names layout node start emitted past act m took (AsksForVotes txn body store) = tt
node-names layout node start emitted past act m took (AsksForViews x body store) = tt
node-names layout node start emitted past act m took (Proposes on x at s store reacts) = (reacts-sets layout x node start emitted past on at (Propose s) took reacts, tt)
node-names layout node start emitted past act m took (CommitsTo on x at s store reacts) = (reacts-sets layout x node start emitted past on at (CommitTo s) took reacts, tt)
node-names layout node start emitted past act m took (Decides on x at path s store reacts noted) = (reacts-sets layout x node start emitted past on at (DecideBy path s) took reacts, tt)
node-names layout node start emitted past act m took (Finishes on x at s outcome store reacts) = (reacts-sets layout x node start emitted past on at (FinishWith s outcome) took reacts, tt)
node-names layout node start emitted past act m took (Informs on x at s outcome reacts) = tt

-- ---- the whole

took_whole : (past deeds : List Deed) (m : Message) → IsPast past deeds → Took past m → Took deeds m
took_whole past deeds m within t = record { deed = t.deed; past = t.past; at = StandsAt-whole t.deed t.past past deeds t.at within; act_is = t.act_is }

sender-names : (cluster : Cluster) (items : List Item) → EachStands cluster items → ((m : Message) → SentBefore items m → NamesSets m)
    → (m : Message) → Sender cluster items m → NamesSets m
sender-names cluster items h before m (IsStore f) =
    store_names cluster.layout (from_of m) f.past f.step.message m
    (EachAnswers-past cluster.layout (from_of m) f.past (taken_of cluster (from_of m) items) (past_of f.step f.past (taken_of cluster (from_of m) items) f.at)
    (each_answers cluster (from_of m) items h f.is_store))
    (λ step past at. before step.message (store_took_before cluster (from_of m) items h step past (StandsAt-behind step f.step past f.past (taken_of cluster (from_of m) items) at f.at)))
    (store_sent cluster items (from_of m) m h f)
sender-names cluster items h before m (IsNode f) =
    node-names cluster.layout (node_of (from_of m)) (clock_start cluster.starts (node_of (from_of m))) f.deed.emitted f.past f.deed.act m
    (λ n t. before n (node_took_before cluster (from_of m) items h n
    (took_whole (f.deed ∷ f.past) (deeds_of cluster (from_of m) items) n (StandsAt-IsPast f.deed f.past (deeds_of cluster (from_of m) items) f.at) t)))
    (node_sent cluster items (from_of m) m h f)

pub names_sets : (cluster : Cluster) (items : List Item) → EachStands cluster items → (m : Message) → Sending items m → NamesSets m
names_sets cluster items h =
    each_message cluster NamesSets (λ past stands before m s. sender-names cluster past stands before m (sender cluster past m stands s)) items h

-- a decision that is noted names a set
note-names : (layout : Layout) (node start : ℕ) (emitted : Emitted) (past : List Deed) (act : Act) (x : TxnId) (t : Stamp) (path : Path) (deps : List ShardDeps)
    → NodeTookSets (doing act emitted ∷ past) → NodeNotes layout node start past act (DecideNote x t path deps) → AreDeps deps
note-names layout node start emitted past act x t path deps took (NotesDecision on y at p s reacts) = reacts-sets layout y node start emitted past on at (DecideBy p s) took reacts

noted_sets : (cluster : Cluster) (items : List Item) → EachStands cluster items → (x : TxnId) (t : Stamp) (path : Path) (deps : List ShardDeps)
    → (f : NotedBy cluster items (DecideNote x t path deps)) → AreDeps deps
noted_sets cluster items h x t path deps f =
    note-names cluster.layout (node_of f.actor) (clock_start cluster.starts (node_of f.actor)) f.deed.emitted f.past f.deed.act x t path deps
    (λ n took. names_sets_before n (node_took_before cluster f.actor items h n
    (took_whole (f.deed ∷ f.past) (deeds_of cluster f.actor items) n (StandsAt-IsPast f.deed f.past (deeds_of cluster f.actor items) f.at) took)))
    (node_noted cluster items (DecideNote x t path deps) h f)
  where
    names_sets_before : (n : Message) → SentBefore items n → NamesSets n
    names_sets_before n b = names_sets cluster items h n (Sending-past b.past items n (IsBefore-past b.past items b.before) b.sending)

pub deps_are_sets : (cluster : Cluster) (items : List Item) → EachStands cluster items → DepsAreSets items
deps_are_sets cluster items h =
    record {
      messages = names_sets cluster items h;
      decisions = λ x t path deps s. noted_sets cluster items h x t path deps (noted_by cluster items (DecideNote x t path deps) h s);
    }
