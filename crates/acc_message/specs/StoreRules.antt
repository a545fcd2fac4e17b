-- The rules of a store: what it sends when it takes a message, as a function of its history.
use Rattle.std.specs.Prelude.{ℕ, Bool, true, false, cond, ◌==◌, List, [], ◌∷◌, ◌++◌, Option, None, Some, map, filter, if◌then◌else◌}
use Rattle.std.specs.List.{fold}
use Rattle.acc_stamp.specs.declared.stamps.Stamp.{Stamp}
use Rattle.acc_stamp.specs.declared.stamps.TxnId.{TxnId}
use Rattle.acc_stamp.specs.declared.stamps.Ballot.{Ballot}
use Rattle.acc_stamp.specs.declared.actors.Actor.{Actor}
use Rattle.acc_stamp.specs.Actor.{shard_of, home_of}
use Rattle.acc_stamp.specs.Stamp.{ballot_lt, id_eq, zero_ballot}
use Rattle.acc_stamp.specs.Rising.{ballots_with}
use Rattle.acc_topology.specs.Layout.{Layout}
use Rattle.acc_topology.specs.Keys.{shard_of_key}
use Rattle.acc_deps.specs.declared.records.Settled.{Settled}
use Rattle.acc_value.specs.declared.key.Key.{Key}
use Rattle.acc_value.specs.declared.value.Value.{Value}
use Rattle.acc_value.specs.Pairs.{put}
use Rattle.acc_txn.specs.declared.parts.BodyParts.{BodyParts}
use Rattle.acc_txn.specs.declared.outcome.Outcome.{Outcome}
use Rattle.acc_txn.specs.Uses.{read_keys}
use Rattle.acc_message.specs.declared.answer.ReadAnswer.{ReadAnswer}
use Rattle.acc_message.specs.declared.answer.ReadAnswer.TheVariants.{Values, Known}
use Rattle.acc_message.specs.declared.message.Message.{Message}
use Rattle.acc_message.specs.declared.message.Message.TheVariants.{PreAccept, PreAcceptOk, Accept, AcceptOk, Commit, CommitOk, Stable, ReadOk, Apply, Recover, RecoverOk, Nack, Decided, Inform}
use Rattle.acc_message.specs.Taken.{Taken, taking, known, heard_body}
use Rattle.acc_message.specs.VoteRule.{Vote, vote_for, known_below}
use Rattle.acc_message.specs.BallotRules.{promise_of, stable_of, kept_outcome}
use Rattle.acc_message.specs.Evidence.{view_of}
use Rattle.acc_message.specs.Opening.{Change, changes_of, is_opened, is_applied, cells_at, written_by}

-- the body that counts for a message: the one that the store heard first for its transaction
abbrev pub body_or : Option BodyParts → BodyParts → BodyParts
body_or None body = body
body_or (Some first) body = first

abbrev pub body_counting : List Taken → TxnId → BodyParts → BodyParts
body_counting history x body = body_or (heard_body x (known history)) body

-- ---- answers without reads

abbrev pub nack : Actor → TxnId → Ballot → Ballot → List Message
nack own x b promised = Nack own (home_of x b) x b promised ∷ []

-- a stable transaction is answered by Decided, every other one as said
abbrev pub unless_stable : Actor → TxnId → Ballot → Option Settled → List Message → List Message
unless_stable own x b None answer = answer
unless_stable own x b (Some s) answer = Decided own (home_of x b) x b s.t s.deps ∷ []

-- where a greater ballot is promised the answer is Nack
abbrev pub unless_promised : Actor → TxnId → Ballot → Ballot → Ballot → List Message → List Message
unless_promised own x b promised least answer = cond (ballot_lt least promised) (nack own x b promised) answer

abbrev pub voted : Actor → TxnId → Ballot → Vote → List Message
voted own x b v = PreAcceptOk own (home_of x b) x b v.vote v.deps ∷ []

-- The promise is read in the past, and of PreAccept, Accept and Commit also what is stable. Those that answer with
-- dependencies or a view have also this past with the message itself, which makes its transaction known.

-- on PreAccept: the vote, as long as the promise is zero
abbrev pub on_preaccept : Layout → Actor → List Taken → List Taken → TxnId → Ballot → BodyParts → List Message
on_preaccept layout own past now x b body =
    unless_stable own x b (stable_of past x)
    (unless_promised own x b (promise_of past x) zero_ballot (voted own x b (vote_for layout own past now x body)))

-- on Accept: the known conflicting transactions whose own timestamp is below the proposed one
abbrev pub on_accept : Layout → Actor → List Taken → List Taken → TxnId → Ballot → BodyParts → Stamp → List Message
on_accept layout own past now x b body t =
    unless_stable own x b (stable_of past x)
    (unless_promised own x b (promise_of past x) b (AcceptOk own (home_of x b) x b (known_below layout own now x body t) ∷ []))

abbrev pub on_commit : Actor → List Taken → TxnId → Ballot → List Message
on_commit own past x b =
    unless_stable own x b (stable_of past x)
    (unless_promised own x b (promise_of past x) b (CommitOk own (home_of x b) x b ∷ []))

-- on Recover: only a ballot above the promise is granted
abbrev pub on_recover : Layout → Actor → List Taken → List Taken → TxnId → Ballot → BodyParts → List Message
on_recover layout own past now x b body =
    cond (ballot_lt (promise_of past x) b)
    (RecoverOk own (home_of x b) x b (view_of layout own past now x body) ∷ [])
    (nack own x b (promise_of past x))

-- ---- reads

abbrev pub read_ok : Actor → TxnId → Ballot → ReadAnswer → Message
read_ok own x b answer = ReadOk own (home_of x b) x b answer

-- the cells of the keys of this shard that a body reads, in the order of the keys
abbrev pub read_here : Layout → ℕ → BodyParts → (Key → Option Value) → List (Key × Option Value)
read_here layout shard body cells =
    fold (λ so_far key. put so_far key (cells key)) [] (filter (λ key. shard_of_key layout key == shard) (read_keys body))

abbrev pub read_by : Layout → ℕ → Option BodyParts → (Key → Option Value) → ReadAnswer
read_by layout shard None cells = Values []
read_by layout shard (Some body) cells = Values (read_here layout shard body cells)

-- the ballots of the Stables about x that were taken, rising
abbrev pub stable_ballots_in : TxnId → Message → List Ballot → List Ballot
stable_ballots_in x (Stable from to id ballot body t deps) ballots = cond (id_eq id x) (ballots_with ballot ballots) ballots
stable_ballots_in x _ ballots = ballots

abbrev pub stable_ballots : List Taken → TxnId → List Ballot
stable_ballots [] x = []
stable_ballots (step ∷ past) x = stable_ballots_in x step.message (stable_ballots past x)

-- the waiters of x: as long as it isn't opened, the ballots of its Stables
abbrev pub waiters_of : ℕ → List Taken → TxnId → List Ballot
waiters_of shard history x = cond (is_opened shard history x) [] (stable_ballots history x)

-- when x is opened each of its Stables gets the cells, since up to then all of them wait
abbrev pub opening_of : Layout → Actor → List Taken → Change → (Key → Option Value) → List Message
opening_of layout own now c cells =
    cond c.opens
    (map (λ b. read_ok own c.id b (read_by layout (shard_of own) (heard_body c.id (known now)) cells)) (stable_ballots now c.id))
    []

-- what the changes of a step send, one after another, each with the cells of its turn
abbrev pub release : Layout → Actor → List Taken → List Change → (Key → Option Value) → List Message
release layout own now [] cells = []
release layout own now (c ∷ changes) cells =
    opening_of layout own now c cells ++ release layout own now changes (written_by layout (shard_of own) now c cells)

abbrev pub released : Layout → Actor → List Taken → Message → List Message
released layout own past m =
    release layout own (taking m past) (changes_of (shard_of own) (record { message = m; sent = [] }) past) (cells_at layout (shard_of own) past)

-- a Stable of an applied transaction is answered at once by the kept outcome, of an opened one by the present cells
abbrev pub kept_or : Option Outcome → ReadAnswer → ReadAnswer
kept_or None other = other
kept_or (Some outcome) other = Known outcome

abbrev pub at_once : Layout → Actor → List Taken → TxnId → Ballot → List Message
at_once layout own past x b =
    cond (is_opened (shard_of own) past x)
    (read_ok own x b
    (kept_or (kept_outcome past x)
    (read_by layout (shard_of own) (heard_body x (known past)) (cells_at layout (shard_of own) past))) ∷ [])
    []

-- ---- every message

-- what a store with this past sends when it takes a message
abbrev pub store_answer : Layout → Actor → List Taken → Message → List Message
store_answer layout own past (PreAccept from to id ballot body) =
    let now : List Taken = taking (PreAccept from to id ballot body) past in
    on_preaccept layout own past now id ballot (body_counting now id body)
store_answer layout own past (Accept from to id ballot body t deps) =
    let now : List Taken = taking (Accept from to id ballot body t deps) past in
    on_accept layout own past now id ballot (body_counting now id body) t
store_answer layout own past (Commit from to id ballot body t deps) = on_commit own past id ballot
store_answer layout own past (Stable from to id ballot body t deps) =
    at_once layout own past id ballot ++ released layout own past (Stable from to id ballot body t deps)
store_answer layout own past (Apply from to id ballot body t deps outcome) =
    released layout own past (Apply from to id ballot body t deps outcome)
store_answer layout own past (Recover from to id ballot body) =
    let now : List Taken = taking (Recover from to id ballot body) past in
    on_recover layout own past now id ballot (body_counting now id body)
store_answer layout own past _ = []

-- the history of a store that took these messages, the newest first
abbrev pub replay : Layout → Actor → List Message → List Taken
replay layout own [] = []
replay layout own (m ∷ ms) =
    let past : List Taken = replay layout own ms in
    record { message = m; sent = store_answer layout own past m } ∷ past
