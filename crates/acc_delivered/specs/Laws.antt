-- What the laws of delivered attempts say.
--     AttemptsLack      an attempt waits for what it lacks
--     BallotsAreDrawn      a ballot was drawn by a recover of the transaction
--     AttemptsEnd      an attempt all of whose messages are taken was ended, was blocked, or decided
--     OpenedAttemptsFinish      and where each store has opened the transaction it has finished
--     OpenedAttemptsReply      and where it is at the home of a client that is kept, the client has its reply
--     StablesAreAnswered      a store that has opened a transaction has answered each Stable about it
--     RoundsSendTheirOwn      what a round sends belongs to its own attempt, but for reads and what comes of them
--     RoundsStartOne, RoundsLeaveOthersAlone      a round starts one attempt, and ends or blocks none of another transaction
--     SecondsAreNotEnded      of two rounds one after the other the second isn't ended
--     AppliesAreTold      an applied transaction is decided and has its outcome
--     BlockedHaveWaited      a blocked attempt was told of a transaction that a store awaited
use Rattle.std.specs.Prelude.{◌≡◌, ℕ, Bool, true, false, ◌⊎◌, List, [], ◌∷◌, ◌++◌, None, Some}
use Rattle.acc_stamp.specs.declared.stamps.Stamp.{Stamp}
use Rattle.acc_stamp.specs.declared.stamps.TxnId.{TxnId}
use Rattle.acc_stamp.specs.declared.stamps.Ballot.{Ballot}
use Rattle.acc_stamp.specs.declared.actors.Actor.{Actor}
use Rattle.acc_stamp.specs.Actor.{shard_of, home_of}
use Rattle.acc_stamp.specs.Stamp.{id_eq, id_lt, ballot_eq, zero_ballot}
use Rattle.acc_topology.specs.Layout.{Layout}
use Rattle.acc_topology.specs.Sets.{is_among}
use Rattle.acc_deps.specs.declared.shards.ShardDeps.{ShardDeps}
use Rattle.acc_txn.specs.declared.parts.BodyParts.{BodyParts}
use Rattle.acc_txn.specs.declared.outcome.Outcome.{Outcome}
use Rattle.acc_message.specs.declared.answer.ReadAnswer.{ReadAnswer}
use Rattle.acc_message.specs.declared.message.Message.{Message}
use Rattle.acc_message.specs.declared.message.Message.TheVariants.{Stable, ReadOk, Apply, Recover, Inform}
use Rattle.acc_message.specs.declared.note.Note.TheVariants.{Recover as RecoverNote}
use Rattle.acc_message.specs.declared.item.Item.{Item}
use Rattle.std.specs.List.{list_any}
use Rattle.acc_message.specs.Fields.{id_of, ballot_of}
use Rattle.acc_message.specs.Items.{notes_of, begins}
use Rattle.acc_message.specs.Shares.{shards_used}
use Rattle.acc_message.specs.Coordinator.{home_node}
use Rattle.acc_message.specs.Taken.{Taken}
use Rattle.acc_message.specs.Evidence.{is_awaited}
use Rattle.acc_message.specs.Opening.{is_opened}
use Rattle.acc_message.specs.Attempts.{Attempt, Phase, Voting, Recovering, Accepting, Committing, Executing, majority_everywhere, outcome_from}
use Rattle.acc_message.specs.NodeRules.{Deed, attempt_of}
use Rattle.acc_message.specs.Run.{Cluster, taken_of, is_node}
use Rattle.acc_safety.specs.Places.{IsIn, StandsAt, IsPast}
use Rattle.acc_safety.specs.Histories.{Sending, Noting, EachEmits}
use Rattle.acc_safety.specs.Polls.{IsBody}
use Rattle.acc_safety.specs.Valid.{IsStanding}
use Rattle.acc_delivered.specs.Stretches.{TakesAll}
use Rattle.acc_delivered.specs.Rounds.{IsRound}
use Rattle.acc_delivered.specs.Ends.{disturbs, IsAttempt, was_decided, had_outcome, is_ended, is_blocked, AtEachStore, has_opened, IsFinished, KeepsClient, is_replied, HasEnd}

-- ---- what an attempt lacks

-- in this phase the answers are too few to go on
abbrev pub LacksIn : Layout → TxnId → Attempt → Phase → Type 0
LacksIn layout x a Voting = Unit {0}
LacksIn layout x a Recovering = majority_everywhere layout x a.body a.answers ≡ false
LacksIn layout x a (Accepting s) = majority_everywhere layout x a.body a.answers ≡ false
LacksIn layout x a (Committing s) = majority_everywhere layout x a.body a.answers ≡ false
LacksIn layout x a (Executing s) = outcome_from layout a.body a.answers ≡ None

-- it has no answers, or too few. In the first phase this says nothing
abbrev pub AttemptsLack : Layout → ℕ → ℕ → TxnId → List Deed → Type 0
AttemptsLack layout node start x deeds =
    (a : Attempt) → EachEmits layout node start deeds → attempt_of layout node start x deeds ≡ Some a → (a.answers ≡ []) ⊎ LacksIn layout x a a.phase

-- ---- ballots

-- a message has ballot zero, or a recover of its transaction has drawn its ballot
abbrev pub BallotsAreDrawn : List Item → Type 0
BallotsAreDrawn items =
    (m : Message) → Sending items m → ballot_eq (ballot_of m) zero_ballot ≡ false → Noting items (RecoverNote (id_of m) (ballot_of m))

-- ---- ends

abbrev pub AttemptsEnd : Cluster → Type 0
AttemptsEnd cluster =
    (a : Actor) (x : TxnId) (b : Ballot) (base later : List Item) → IsStanding cluster (later ++ base)
    → IsAttempt a x b later → TakesAll base later → HasEnd cluster (later ++ base) x b

abbrev pub OpenedAttemptsFinish : Cluster → Type 0
OpenedAttemptsFinish cluster =
    (a : Actor) (x : TxnId) (b : Ballot) (base later : List Item) → IsStanding cluster (later ++ base)
    → IsAttempt a x b later → TakesAll base later → is_ended x b (later ++ base) ≡ false → is_blocked x b (later ++ base) ≡ false
    → AtEachStore cluster (later ++ base) x (λ store. has_opened cluster (later ++ base) x store ≡ true)
    → IsFinished cluster (later ++ base) x

abbrev pub OpenedAttemptsReply : Cluster → Type 0
OpenedAttemptsReply cluster =
    (x : TxnId) (b : Ballot) (base later : List Item) → IsStanding cluster (later ++ base)
    → IsAttempt (home_node x) x b later → TakesAll base later → is_ended x b (later ++ base) ≡ false → is_blocked x b (later ++ base) ≡ false
    → AtEachStore cluster (later ++ base) x (λ store. has_opened cluster (later ++ base) x store ≡ true)
    → KeepsClient x (later ++ base) → is_replied x (later ++ base) ≡ true

-- ---- reads

-- after this step, or in it, the store sent a ReadOk about x for the ballot
pub record ReadWasSent (own : Actor) (step : Taken) (past history : List Taken) (x : TxnId) (b : Ballot) : Type 0 where
  pub reading : Taken
  pub before : List Taken
  pub at : StandsAt reading before history
  pub since : IsPast (step ∷ past) (reading ∷ before)
  pub answer : ReadAnswer
  pub sent : IsIn (ReadOk own (home_of x b) x b answer) reading.sent

abbrev pub StablesAreAnswered : Layout → Actor → List Taken → Type 0
StablesAreAnswered layout own history =
    (x : TxnId) (b : Ballot) (body : BodyParts) (t : Stamp) (deps : List ShardDeps) (from to : Actor) (step : Taken) (past : List Taken)
    → StandsAt step past history → step.message ≡ Stable from to x b body t deps → is_opened (shard_of own) history x ≡ true
    → ReadWasSent own step past history x b

-- ---- rounds

-- an answer to a read, or what an attempt sends when it has its outcome
abbrev pub is_read_or_later : Message → Bool
is_read_or_later (ReadOk from to id ballot answer) = true
is_read_or_later (Apply from to id ballot body t deps outcome) = true
is_read_or_later (Inform from to id ballot outcome) = true
is_read_or_later _ = false

abbrev pub RoundsSendTheirOwn : Cluster → Type 0
RoundsSendTheirOwn cluster =
    (a : Actor) (x : TxnId) (b : Ballot) (base later : List Item) (m : Message) → IsStanding cluster (later ++ base)
    → IsRound a x b base later → Sending later m → (is_read_or_later m ≡ true) ⊎ ((id_of m ≡ x) × (ballot_of m ≡ b))

-- the items begin with the recover that starts the attempt, which nothing disturbs; none begins a transaction, and none disturbs attempts
-- at other transactions
pub record StartsOne (a : Actor) (x : TxnId) (b : Ballot) (later : List Item) : Type 0 where
  pub attempt : IsAttempt a x b later
  pub begins_none : (y : TxnId) → list_any (begins y) (notes_of later) ≡ false
  pub disturbs_none : (c : Actor) (y : TxnId) → id_eq x y ≡ false → list_any (disturbs c y) later ≡ false

abbrev pub RoundsStartOne : Cluster → Type 0
RoundsStartOne cluster =
    (a : Actor) (x : TxnId) (b : Ballot) (base later : List Item) → IsStanding cluster (later ++ base) → IsRound a x b base later → StartsOne a x b later

-- a round ends and blocks no attempt at another transaction
abbrev pub RoundsLeaveOthersAlone : Cluster → Type 0
RoundsLeaveOthersAlone cluster =
    (a : Actor) (x : TxnId) (b : Ballot) (base later : List Item) (y : TxnId) (c : Ballot) → IsStanding cluster (later ++ base)
    → IsRound a x b base later → id_eq x y ≡ false
    → (is_ended y c base ≡ false → is_ended y c (later ++ base) ≡ false) × (is_blocked y c base ≡ false → is_blocked y c (later ++ base) ≡ false)

abbrev pub SecondsAreNotEnded : Cluster → Type 0
SecondsAreNotEnded cluster =
    (a : Actor) (x : TxnId) (b c : Ballot) (base first second : List Item) → IsStanding cluster (second ++ (first ++ base))
    → IsRound a x b base first → IsRound a x c (first ++ base) second → is_ended x c (second ++ (first ++ base)) ≡ false

-- ---- blocked attempts

-- A store took the Recover of x with the ballot while it awaited an older transaction that uses its shard.
pub record HasWaited (cluster : Cluster) (items : List Item) (x : TxnId) (b : Ballot) : Type 0 where
  pub store : Actor
  pub is_store : is_node store ≡ false
  pub step : Taken
  pub past : List Taken
  pub at : StandsAt step past (taken_of cluster store items)
  pub from : Actor
  pub to : Actor
  pub body : BodyParts
  pub message_is : step.message ≡ Recover from to x b body
  pub awaited : TxnId
  pub older : id_lt awaited x ≡ true
  pub their_body : BodyParts
  pub their_body_is : IsBody cluster items awaited their_body
  pub used : is_among (shards_used cluster.layout their_body) (shard_of store) ≡ true
  pub waits : is_awaited past x awaited ≡ true

abbrev pub BlockedHaveWaited : Cluster → Type 0
BlockedHaveWaited cluster =
    (items : List Item) (x : TxnId) (b : Ballot) → IsStanding cluster items → is_blocked x b items ≡ true → HasWaited cluster items x b

-- ---- applied transactions

-- what an Apply was sent for is decided and has its outcome
abbrev pub AppliesAreTold : Cluster → Type 0
AppliesAreTold cluster =
    (items : List Item) (x : TxnId) (from to : Actor) (b : Ballot) (body : BodyParts) (t : Stamp) (deps : List ShardDeps) (outcome : Outcome) → IsStanding cluster items
    → Sending items (Apply from to x b body t deps outcome) → (was_decided x items ≡ true) × (had_outcome x items ≡ true)
