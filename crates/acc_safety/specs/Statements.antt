-- What the lemmas of safety say of a run. Each is a premise of those after it.
--     BodiesAreBegun, HomesAreOne, DepsAreSets      the frame
--     OneProposal, OneCommit, NeverBoth      an attempt proposes once, commits once, and at ballot zero never also decides fast
--     ProposalsHaveRoots, CommitsHaveRoots, DecisionsHaveRoots, RecordsHaveRoots
--     AcceptedLast, AcceptedStays, CommittedLast, CommittedIsFinal      what a majority accepted or committed stays
--     FastIsFound      where x is decided fast, every proposal and every decision of it has its own timestamp
--     OneTimestamp, TimestampsDiffer, OneSetOfDeps      agreement
--     CoveredByFast, CoveredByCommits      coverage
use Rattle.std.specs.Prelude.{◌≡◌, ℕ, true, false, List, [], ◌∷◌, ◌++◌, Option, None, Some}
use Rattle.std.specs.List.{AllByRecursion}
use Rattle.acc_stamp.specs.declared.stamps.Stamp.{Stamp}
use Rattle.acc_stamp.specs.declared.stamps.TxnId.{TxnId}
use Rattle.acc_stamp.specs.declared.stamps.Ballot.{Ballot}
use Rattle.acc_stamp.specs.declared.actors.Actor.{Actor}
use Rattle.acc_stamp.specs.Actor.{home_of}
use Rattle.acc_stamp.specs.Stamp.{stamp_lt, ballot_lt, zero_ballot}
use Rattle.acc_deps.specs.declared.shards.ShardDeps.{ShardDeps}
use Rattle.acc_deps.specs.declared.records.Accepted.{Accepted}
use Rattle.acc_deps.specs.declared.records.Settled.{Settled}
use Rattle.acc_deps.specs.declared.records.View.{View}
use Rattle.acc_deps.specs.Deps.{AreDeps, deps_has}
use Rattle.acc_txn.specs.declared.parts.BodyParts.{BodyParts}
use Rattle.acc_message.specs.declared.message.Message.{Message}
use Rattle.acc_message.specs.declared.message.Message.TheVariants.{PreAccept, PreAcceptOk, Accept, AcceptOk, Commit, CommitOk, Stable, ReadOk, Apply, Recover, RecoverOk, Nack, Decided, Inform}
use Rattle.acc_message.specs.declared.note.Path.{Path}
use Rattle.acc_message.specs.declared.note.Path.TheVariants.{Fast}
use Rattle.acc_message.specs.declared.note.Note.TheVariants.{Decide as DecideNote}
use Rattle.acc_message.specs.declared.item.Item.{Item}
use Rattle.acc_message.specs.Fields.{from_of, id_of, ballot_of}
use Rattle.acc_message.specs.Taken.{body_in}
use Rattle.acc_message.specs.Attempts.{union_of}
use Rattle.acc_message.specs.BallotRules.{stable_of}
use Rattle.acc_message.specs.Run.{Cluster, taken_of, is_node}
use Rattle.acc_safety.specs.Histories.{Sending, Noting}
use Rattle.acc_safety.specs.Polls.{IsBody, AreRivals}
use Rattle.acc_safety.specs.Roots.{Proposed, Committed, Root, AcceptedBy, CommitRoot, CommittedBy, FastBy, DecisionRoot}

-- ---- the frame

-- every message that brings a body brings the one with which its transaction was begun
abbrev pub BodiesAreBegun : Cluster → List Item → Type 0
BodiesAreBegun cluster items = (m : Message) (body : BodyParts) → Sending items m → body_in m ≡ Some body → IsBody cluster items (id_of m) body

-- a message of a node comes from the home of its ballot
abbrev pub HomesAreOne : Cluster → List Item → Type 0
HomesAreOne cluster items = (m : Message) → Sending items m → is_node (from_of m) ≡ true → from_of m ≡ home_of (id_of m) (ballot_of m)

-- the sets of dependencies that a record has, and that a message names
abbrev pub deps_accepted : Option Accepted → List (List ShardDeps)
deps_accepted None = []
deps_accepted (Some a) = a.deps ∷ []

abbrev pub deps_settled : Option Settled → List (List ShardDeps)
deps_settled None = []
deps_settled (Some s) = s.deps ∷ []

abbrev pub deps_in_view : View → List (List ShardDeps)
deps_in_view view = view.vote_deps ∷ deps_accepted view.accepted ++ deps_accepted view.committed ++ deps_settled view.stable

abbrev pub deps_named : Message → List (List ShardDeps)
deps_named (PreAccept from to id ballot body) = []
deps_named (PreAcceptOk from to id ballot vote deps) = deps ∷ []
deps_named (Accept from to id ballot body t deps) = deps ∷ []
deps_named (AcceptOk from to id ballot deps) = deps ∷ []
deps_named (Commit from to id ballot body t deps) = deps ∷ []
deps_named (CommitOk from to id ballot) = []
deps_named (Stable from to id ballot body t deps) = deps ∷ []
deps_named (ReadOk from to id ballot answer) = []
deps_named (Apply from to id ballot body t deps outcome) = deps ∷ []
deps_named (Recover from to id ballot body) = []
deps_named (RecoverOk from to id ballot view) = deps_in_view view
deps_named (Nack from to id ballot promised) = []
deps_named (Decided from to id ballot t deps) = deps ∷ []
deps_named (Inform from to id ballot outcome) = []

-- they are sets: each shard once, in order, and its transactions rising
pub record DepsAreSets (items : List Item) : Type 0 where
  pub messages : (m : Message) → Sending items m → AllByRecursion AreDeps (deps_named m)
  pub decisions : (x : TxnId) (t : Stamp) (path : Path) (deps : List ShardDeps) → Noting items (DecideNote x t path deps) → AreDeps deps

-- ---- stages

-- the proposals of x at one ballot are one
abbrev pub OneProposal : List Item → Type 0
OneProposal items =
    (x : TxnId) (b : Ballot) (body other : BodyParts) (t s : Stamp) (deps more : List ShardDeps)
    → Proposed items x body b t deps → Proposed items x other b s more → (t ≡ s) × (deps ≡ more)

-- so are its commits
abbrev pub OneCommit : List Item → Type 0
OneCommit items =
    (x : TxnId) (b : Ballot) (body other : BodyParts) (t s : Stamp) (deps more : List ShardDeps)
    → Committed items x body b t deps → Committed items x other b s more → (t ≡ s) × (deps ≡ more)

-- at ballot zero x isn't both proposed and decided fast
abbrev pub NeverBoth : List Item → Type 0
NeverBoth items =
    (x : TxnId) (body : BodyParts) (t s : Stamp) (deps more : List ShardDeps)
    → Proposed items x body zero_ballot t deps → Noting items (DecideNote x s Fast more) → ⊥

-- ---- roots

abbrev pub ProposalsHaveRoots : Cluster → List Item → Type 0
ProposalsHaveRoots cluster items =
    (x : TxnId) (body : BodyParts) (b : Ballot) (t : Stamp) (deps : List ShardDeps)
    → Proposed items x body b t deps → Root cluster items x body t deps

abbrev pub CommitsHaveRoots : Cluster → List Item → Type 0
CommitsHaveRoots cluster items =
    (x : TxnId) (body : BodyParts) (b : Ballot) (t : Stamp) (deps : List ShardDeps)
    → Committed items x body b t deps → CommitRoot cluster items x body t deps

abbrev pub DecisionsHaveRoots : Cluster → List Item → Type 0
DecisionsHaveRoots cluster items =
    (x : TxnId) (body : BodyParts) (path : Path) (t : Stamp) (deps : List ShardDeps) → IsBody cluster items x body
    → Noting items (DecideNote x t path deps) → DecisionRoot cluster items x body t deps

-- a stable record is a decision too
abbrev pub RecordsHaveRoots : Cluster → List Item → Type 0
RecordsHaveRoots cluster items =
    (a : Actor) (x : TxnId) (body : BodyParts) (s : Settled) → is_node a ≡ false → IsBody cluster items x body
    → stable_of (taken_of cluster a items) x ≡ Some s → DecisionRoot cluster items x body s.t s.deps

-- ---- accepted and committed values last

-- every proposal at a greater ballot is the one that a majority accepted
abbrev pub AcceptedLast : Cluster → List Item → Type 0
AcceptedLast cluster items =
    (x : TxnId) (body : BodyParts) (b above : Ballot) (t s : Stamp) (deps more : List ShardDeps) (answers : List Message)
    → AcceptedBy cluster items x body b (record { t = t; deps = deps }) answers → Proposed items x body above s more → ballot_lt b above ≡ true
    → (s ≡ t) × (more ≡ deps)

-- every commit from its ballot on has its timestamp
abbrev pub AcceptedStays : Cluster → List Item → Type 0
AcceptedStays cluster items =
    (x : TxnId) (body : BodyParts) (b from_b : Ballot) (t s : Stamp) (deps more : List ShardDeps) (answers : List Message)
    → AcceptedBy cluster items x body b (record { t = t; deps = deps }) answers → Committed items x body from_b s more → ballot_lt from_b b ≡ false
    → s ≡ t

-- every commit at a greater ballot is the one that a majority committed
abbrev pub CommittedLast : Cluster → List Item → Type 0
CommittedLast cluster items =
    (x : TxnId) (body : BodyParts) (b above : Ballot) (t s : Stamp) (deps more : List ShardDeps) (answers : List Message)
    → CommittedBy cluster items x body b (record { t = t; deps = deps }) answers → Committed items x body above s more → ballot_lt b above ≡ true
    → (s ≡ t) × (more ≡ deps)

-- and nothing is proposed at a greater ballot
abbrev pub CommittedIsFinal : Cluster → List Item → Type 0
CommittedIsFinal cluster items =
    (x : TxnId) (body : BodyParts) (b above : Ballot) (t s : Stamp) (deps more : List ShardDeps) (answers : List Message)
    → CommittedBy cluster items x body b (record { t = t; deps = deps }) answers → Proposed items x body above s more → ballot_lt b above ≡ true → ⊥

-- ---- a fast decision is found

pub record FastIsFound (cluster : Cluster) (items : List Item) : Type 0 where
  pub proposals :
      (x : TxnId) (body : BodyParts) (answers : List Message) (b : Ballot) (t : Stamp) (deps : List ShardDeps)
      → FastBy cluster items x body answers → Proposed items x body b t deps → t ≡ x.0
  pub decisions :
      (x : TxnId) (body : BodyParts) (answers : List Message) (t : Stamp) (deps : List ShardDeps)
      → FastBy cluster items x body answers → DecisionRoot cluster items x body t deps → t ≡ x.0

-- ---- agreement

-- the decisions of one transaction have one timestamp
abbrev pub OneTimestamp : Cluster → List Item → Type 0
OneTimestamp cluster items =
    (x : TxnId) (body : BodyParts) (t s : Stamp) (deps more : List ShardDeps)
    → IsBody cluster items x body → DecisionRoot cluster items x body t deps → DecisionRoot cluster items x body s more → t ≡ s

-- those of different transactions have different ones
abbrev pub TimestampsDiffer : Cluster → List Item → Type 0
TimestampsDiffer cluster items =
    (x y : TxnId) (body other : BodyParts) (t : Stamp) (deps more : List ShardDeps)
    → IsBody cluster items x body → IsBody cluster items y other
    → DecisionRoot cluster items x body t deps → DecisionRoot cluster items y other t more → x ≡ y

-- the decisions of a transaction above its own timestamp have one set of dependencies
abbrev pub OneSetOfDeps : Cluster → List Item → Type 0
OneSetOfDeps cluster items =
    (x : TxnId) (body : BodyParts) (t s : Stamp) (deps more : List ShardDeps)
    → IsBody cluster items x body → DecisionRoot cluster items x body t deps → DecisionRoot cluster items x body s more
    → stamp_lt x.0 t ≡ true → deps ≡ more

-- ---- coverage

-- what is decided fast names each rival that is decided at a smaller timestamp
abbrev pub CoveredByFast : Cluster → List Item → Type 0
CoveredByFast cluster items =
    (shard : ℕ) (x y : TxnId) (body theirs : BodyParts) (answers : List Message) (t : Stamp) (deps : List ShardDeps)
    → AreRivals cluster items shard y x theirs body → FastBy cluster items x body answers
    → DecisionRoot cluster items y theirs t deps → stamp_lt t x.0 ≡ true → deps_has (union_of x answers) shard y ≡ true

-- so does what a majority committed
abbrev pub CoveredByCommits : Cluster → List Item → Type 0
CoveredByCommits cluster items =
    (shard : ℕ) (x y : TxnId) (body theirs : BodyParts) (b : Ballot) (t s : Stamp) (deps more : List ShardDeps) (answers : List Message)
    → AreRivals cluster items shard y x theirs body → CommittedBy cluster items x body b (record { t = t; deps = deps }) answers
    → DecisionRoot cluster items y theirs s more → stamp_lt s t ≡ true → deps_has deps shard y ≡ true
