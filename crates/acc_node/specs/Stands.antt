-- What a node stands for: what it did when it took some acts, the newest first.
--     StandsFor layout number start n acts      the node has this number and start, and took these acts
--     Takes      what a call emits, and that the node stands for one act more
use Rattle.std.specs.Prelude.{◌≡◌, ℕ, ◌==◌, ◌&&◌, ◌||◌, Bool, true, false, not, cond, List, [], ◌∷◌, Option, None, Some, is_none, is_some}
use Rattle.std.specs.List.{list_any}
use Rattle.std.specs.Ordering.{nat_cmp}
use Rattle.std.specs.BTreeMap.{get}
use Rattle.acc_stamp.specs.declared.stamps.TxnId.{TxnId}
use Rattle.acc_stamp.specs.Stamp.{id_cmp, id_eq, ballot_eq, zero_ballot}
use Rattle.acc_topology.specs.Layout.{Layout}
use Rattle.acc_message.specs.declared.entry.Emitted.{Emitted}
use Rattle.acc_message.specs.declared.message.Message.{Message}
use Rattle.acc_message.specs.Attempts.{Attempt, majority_everywhere}
use Rattle.acc_message.specs.declared.note.Note.TheVariants.{Reply as ReplyNote}
use Rattle.acc_message.specs.Fields.{id_of}
use Rattle.acc_message.specs.Items.{replies}
use Rattle.acc_message.specs.Coordinator.{Reaction, silence, reaction, slow_down}
use Rattle.acc_message.specs.NodeRules.{Act, Slows, Takes as TakesMessage, Deed, clock_of, begun_id, is_open, attempt_of, with_reply, node_emits, node_replay}
use Rattle.acc_stamp.specs.Actor.{home_of}
use Rattle.acc_coord.specs.Stands.{StandsFor as Coordinates, is_voting_phase, MakesFastQuorum, DecidesFast}
use Rattle.acc_recover.specs.Stands.{StandsFor as Recovers, JudgesAs}
use Rattle.acc_recover.specs.declared.recovery.Recovery.{Recovery}
use Rattle.acc_recover.specs.declared.judged.Judged.{Judged}
use Rattle.acc_recover.specs.declared.judged.Judged.TheVariants.{Wait, Go as Goes, Blocked as IsBlocked, Ended as IsEnded}
use Rattle.acc_coord.specs.declared.coord.Coord.{Coord}
use Rattle.acc_txn.specs.declared.outcome.Reply.{Reply as Answer}
use Rattle.acc_node.specs.declared.heard.Heard.{Heard}
use Rattle.acc_node.specs.declared.error.NodeError.{NodeError}
use Rattle.acc_node.specs.declared.error.NodeError.TheVariants.{Begun, Unknown, NoQuorum, OutOfMemory}
use Rattle.acc_node.specs.declared.node.Node.{Node}
use Rattle.acc_node.specs.declared.running.Running.{Running}
use Rattle.acc_node.specs.declared.running.Running.TheVariants.{Coordinating, Recovering as IsRecovering}

-- ---- an attempt

abbrev pub RunsAs : Layout → TxnId → Running → Attempt → Type 0
RunsAs layout x (Coordinating coord) a = Coordinates layout x coord a
RunsAs layout x (IsRecovering recovery) a = Recovers layout x recovery a

-- the node runs an attempt at x exactly where there is one
abbrev pub Runs : Layout → TxnId → Option Running → Option Attempt → Type 0
Runs layout x None None = Unit {0}
Runs layout x None (Some a) = ⊥
Runs layout x (Some running) None = ⊥
Runs layout x (Some running) (Some a) = RunsAs layout x running a

-- it runs what an attempt became, where this goes on
abbrev pub RunsOn : Layout → TxnId → Running → Option Attempt → Type 0
RunsOn layout x running None = Unit {0}
RunsOn layout x running (Some a) = RunsAs layout x running a

-- ---- the node

pub record StandsFor (layout : Layout) (number start : ℕ) (n : Node) (acts : List Act) : Type 0 where
  pub clock_is : n.clock ≡ clock_of number start (node_replay layout number start acts)
  pub begun : (txn : ℕ) → get nat_cmp n.begun txn ≡ begun_id number start txn (node_replay layout number start acts)
  pub clients : (x : TxnId) → is_some (get id_cmp n.clients x) ≡ is_open x (node_replay layout number start acts)
  pub attempts : (x : TxnId) → Runs layout x (get id_cmp n.attempts x) (attempt_of layout number start x (node_replay layout number start acts))

-- what a call does: it emits what the rules of a node say, and the node has then taken the act
pub record Takes (layout : Layout) (number start : ℕ) (after : Node) (acts : List Act) (act : Act) (emitted : Emitted) : Type 0 where
  pub emits : emitted ≡ node_emits layout number start (node_replay layout number start acts) act
  pub stands : StandsFor layout number start after (act ∷ acts)

-- ---- the event slow

-- an attempt waits for votes
abbrev pub is_voting_at : Option Attempt → Bool
is_voting_at None = false
is_voting_at (Some a) = is_voting_phase a.phase

-- it does so as the first one at its transaction
abbrev pub is_first_voting : Option Attempt → Bool
is_first_voting None = false
is_first_voting (Some a) = ballot_eq a.ballot zero_ballot && is_voting_phase a.phase

-- a majority of each shard has answered
abbrev pub has_majority : Layout → TxnId → Option Attempt → Bool
has_majority layout x None = false
has_majority layout x (Some a) = majority_everywhere layout x a.body a.answers

-- whether something holds of the attempt at a begun transaction: not where the node has not begun it
abbrev pub if_begun : Layout → ℕ → ℕ → List Deed → (TxnId → Option Attempt → Bool) → Option TxnId → Bool
if_begun layout number start past test None = false
if_begun layout number start past test (Some x) = test x (attempt_of layout number start x past)

-- the transaction of this number has an attempt at ballot zero that waits for votes
abbrev pub may_slow : Layout → ℕ → ℕ → ℕ → List Deed → Bool
may_slow layout number start txn past = if_begun layout number start past (λ x a. is_first_voting a) (begun_id number start txn past)

-- it has an attempt that a majority of each shard has answered
abbrev pub is_answered : Layout → ℕ → ℕ → ℕ → List Deed → Bool
is_answered layout number start txn past = if_begun layout number start past (has_majority layout) (begun_id number start txn past)

-- why the event is refused, by whether there is an attempt that waits for votes, and whether it has a majority
abbrev pub Refuses : Bool → Bool → NodeError → Type 0
Refuses waits majority Begun = ⊥
Refuses waits majority Unknown = waits ≡ false
Refuses waits majority NoQuorum = (waits ≡ true) × (majority ≡ false)
Refuses waits majority OutOfMemory = (waits ≡ true) × (majority ≡ true)

-- the node takes the event, with a majority, at a transaction that it has begun
pub record SlowsBegun (layout : Layout) (number start : ℕ) (after : Node) (acts : List Act) (txn : ℕ) (emitted : Emitted) : Type 0 where
  pub id : TxnId
  pub begun : begun_id number start txn (node_replay layout number start acts) ≡ Some id
  pub waits : is_first_voting (attempt_of layout number start id (node_replay layout number start acts)) ≡ true
  pub majority : has_majority layout id (attempt_of layout number start id (node_replay layout number start acts)) ≡ true
  pub takes : Takes layout number start after acts (Slows id) emitted

-- ---- what a node keeps, after a call

-- the same
pub record IsSame (old new : Node) : Type 0 where
  pub clock : new.clock ≡ old.clock
  pub begun : (txn : ℕ) → get nat_cmp new.begun txn ≡ get nat_cmp old.begun txn
  pub clients : (x : TxnId) → is_some (get id_cmp new.clients x) ≡ is_some (get id_cmp old.clients x)
  pub attempts : (x : TxnId) → get id_cmp new.attempts x ≡ get id_cmp old.attempts x

-- it has begun one transaction more, which it runs, and whose client waits
pub record Enters (old new : Node) (txn : ℕ) (x : TxnId) (running : Running) : Type 0 where
  pub clock : new.clock ≡ old.clock
  pub begun : (number : ℕ) → get nat_cmp new.begun number ≡ cond (txn == number) (Some x) (get nat_cmp old.begun number)
  pub clients : (y : TxnId) → is_some (get id_cmp new.clients y) ≡ (id_eq x y || is_some (get id_cmp old.clients y))
  pub attempts : (y : TxnId) → get id_cmp new.attempts y ≡ cond (id_eq x y) (Some running) (get id_cmp old.attempts y)

-- the same, without its number
pub record Opens (old new : Node) (x : TxnId) (running : Running) : Type 0 where
  pub clock : new.clock ≡ old.clock
  pub clients : (y : TxnId) → is_some (get id_cmp new.clients y) ≡ (id_eq x y || is_some (get id_cmp old.clients y))
  pub attempts : (y : TxnId) → get id_cmp new.attempts y ≡ cond (id_eq x y) (Some running) (get id_cmp old.attempts y)

-- ---- the slow path of an attempt

-- it gives the fast path up with a majority of each shard
pub record SlowsDown (layout : Layout) (x : TxnId) (new : Running) (out : List Message) (a : Attempt) : Type 0 where
  pub voting : is_voting_phase a.phase ≡ true
  pub majority : majority_everywhere layout x a.body a.answers ≡ true
  pub sends : out ≡ (slow_down layout (home_of x a.ballot) x a).emitted.out
  pub goes_on : Runs layout x (Some new) (slow_down layout (home_of x a.ballot) x a).next

-- the same of the attempt at x, where there is one, and other attempts stay
abbrev pub SlowsAt : Layout → TxnId → Option Running → List Message → Option Attempt → Type 0
SlowsAt layout x None out a = ⊥
SlowsAt layout x (Some new) out None = ⊥
SlowsAt layout x (Some new) out (Some a) = SlowsDown layout x new out a

pub record HasSlowed (layout : Layout) (old new : Node) (x : TxnId) (out : List Message) : Type 0 where
  pub clock : new.clock ≡ old.clock
  pub begun : new.begun ≡ old.begun
  pub clients : new.clients ≡ old.clients
  pub others : (y : TxnId) → id_eq x y ≡ false → get id_cmp new.attempts y ≡ get id_cmp old.attempts y
  pub here : (a : Option Attempt) → Runs layout x (get id_cmp old.attempts x) a → SlowsAt layout x (get id_cmp new.attempts x) out a

-- ---- messages

-- what an attempt emits, with the reply to an open client, whether it ends, and for what it stands then
pub record Hears (layout : Layout) (x : TxnId) (new : Running) (is_open : Bool) (heard : Heard) (r : Reaction) : Type 0 where
  pub emits : heard.emitted ≡ with_reply is_open r.emitted
  pub ends : heard.has_ended ≡ is_none r.next
  pub answers : heard.has_replied ≡ list_any (replies x) heard.emitted.notes
  pub goes_on : RunsOn layout x new r.next

-- what becomes of an attempt that asked for evidence
abbrev pub turned : Running → Option Coord → Running
turned running None = running
turned running (Some coord) = Coordinating coord

pub record FollowsIt (layout : Layout) (x : TxnId) (recovery : Recovery) (heard : Heard) (coord : Option Coord) (r : Reaction) : Type 0 where
  pub emits : heard.emitted ≡ r.emitted
  pub ends : heard.has_ended ≡ is_none r.next
  pub no_reply : heard.has_replied ≡ false
  pub goes_on : RunsOn layout x (turned (IsRecovering recovery) coord) r.next

-- a recovery that doesn't wait still stands for the attempt
abbrev pub StandsUnlessWaits : Layout → TxnId → Recovery → Attempt → Judged → Type 0
StandsUnlessWaits layout x recovery a Wait = Unit {0}
StandsUnlessWaits layout x recovery a (Goes choice) = Recovers layout x recovery a
StandsUnlessWaits layout x recovery a (IsBlocked by) = Recovers layout x recovery a
StandsUnlessWaits layout x recovery a (IsEnded by) = Recovers layout x recovery a

abbrev pub waits : Judged → Bool
waits Wait = true
waits (Goes choice) = false
waits (IsBlocked by) = false
waits (IsEnded by) = false

-- an attempt goes on as a recovery judged
abbrev pub JudgedAs : Layout → TxnId → Recovery → Judged → Heard → Option Coord → Type 0
JudgedAs layout x recovery judged heard coord =
    (a : Attempt) (r : Reaction) → StandsUnlessWaits layout x recovery a judged → JudgesAs layout x recovery a r judged
    → FollowsIt layout x recovery heard coord r

-- the node's maps, where only the attempt at x took the message
abbrev pub HearsOnly : Layout → TxnId → Option Running → Bool → Heard → Message → Option Attempt → Type 0
HearsOnly layout x None is_open heard m None = heard ≡ record { emitted = silence; has_ended = false; has_replied = false }
HearsOnly layout x None is_open heard m (Some a) = ⊥
HearsOnly layout x (Some new) is_open heard m None = ⊥
HearsOnly layout x (Some new) is_open heard m (Some a) = Hears layout x new is_open heard (reaction layout (home_of x a.ballot) x a m)

pub record HearsAt (layout : Layout) (old new : Node) (x : TxnId) (is_open : Bool) (m : Message) (heard : Heard) : Type 0 where
  pub clock : new.clock ≡ old.clock
  pub begun : new.begun ≡ old.begun
  pub clients : new.clients ≡ old.clients
  pub others : (y : TxnId) → id_eq x y ≡ false → get id_cmp new.attempts y ≡ get id_cmp old.attempts y
  pub here : (a : Option Attempt) → Runs layout x (get id_cmp old.attempts x) a → HearsOnly layout x (get id_cmp new.attempts x) is_open heard m a

-- the attempt that stands for what an attempt became
abbrev pub heard_emitted : Layout → TxnId → Bool → Message → Option Attempt → Emitted
heard_emitted layout x is_open m None = silence
heard_emitted layout x is_open m (Some a) = with_reply is_open (reaction layout (home_of x a.ballot) x a m).emitted

abbrev pub heard_next : Layout → TxnId → Message → Option Attempt → Option Attempt
heard_next layout x m None = None
heard_next layout x m (Some a) = (reaction layout (home_of x a.ballot) x a m).next

pub record HasHeard (layout : Layout) (old new : Node) (m : Message) (emitted : Emitted) : Type 0 where
  pub clock : new.clock ≡ old.clock
  pub begun : new.begun ≡ old.begun
  pub clients : (a : Option Attempt) → Runs layout (id_of m) (get id_cmp old.attempts (id_of m)) a → (y : TxnId)
      → is_some (get id_cmp new.clients y) ≡ (is_some (get id_cmp old.clients y) && not (list_any (replies (id_of m)) emitted.notes && id_eq (id_of m) y))
  pub others : (y : TxnId) → id_eq (id_of m) y ≡ false → get id_cmp new.attempts y ≡ get id_cmp old.attempts y
  pub emits : (a : Option Attempt) → Runs layout (id_of m) (get id_cmp old.attempts (id_of m)) a
      → emitted ≡ heard_emitted layout (id_of m) (is_some (get id_cmp old.clients (id_of m))) m a
  pub here : (a : Option Attempt) → Runs layout (id_of m) (get id_cmp old.attempts (id_of m)) a
      → Runs layout (id_of m) (get id_cmp new.attempts (id_of m)) (heard_next layout (id_of m) m a)

-- the attempt at x is dropped where it has ended
pub record Drops (old new : Node) (x : TxnId) (has_ended : Bool) : Type 0 where
  pub clock : new.clock ≡ old.clock
  pub begun : new.begun ≡ old.begun
  pub clients : new.clients ≡ old.clients
  pub attempts : (y : TxnId) → get id_cmp new.attempts y ≡ cond (has_ended && id_eq x y) None (get id_cmp old.attempts y)

-- the client of x is closed where it has its reply
pub record Closes (old new : Node) (x : TxnId) (has_replied : Bool) : Type 0 where
  pub clock : new.clock ≡ old.clock
  pub begun : new.begun ≡ old.begun
  pub attempts : new.attempts ≡ old.attempts
  pub clients : (y : TxnId) → is_some (get id_cmp new.clients y) ≡ (is_some (get id_cmp old.clients y) && not (has_replied && id_eq x y))

-- the client of x has the reply, where it was open, and is closed
pub record HasInformed (old new : Node) (x : TxnId) (reply : Answer) (emitted : Emitted) : Type 0 where
  pub clock : new.clock ≡ old.clock
  pub begun : new.begun ≡ old.begun
  pub attempts : new.attempts ≡ old.attempts
  pub clients : (y : TxnId) → is_some (get id_cmp new.clients y) ≡ (is_some (get id_cmp old.clients y) && not (id_eq x y))
  pub emits : emitted ≡ record { notes = cond (is_some (get id_cmp old.clients x)) (ReplyNote x reply ∷ []) []; out = [] }

-- the node before its clock sees the message: what it emits, and what it stands for once the clock has
pub record HasTaken (layout : Layout) (number start : ℕ) (new : Node) (acts : List Act) (m : Message) (emitted : Emitted) : Type 0 where
  pub clock : new.clock ≡ clock_of number start (node_replay layout number start acts)
  pub emits : emitted ≡ node_emits layout number start (node_replay layout number start acts) (TakesMessage m)
  pub begun : (txn : ℕ) → get nat_cmp new.begun txn ≡ begun_id number start txn (node_replay layout number start acts)
  pub clients : (x : TxnId) → is_some (get id_cmp new.clients x) ≡ is_open x (node_replay layout number start (TakesMessage m ∷ acts))
  pub attempts : (x : TxnId) → Runs layout x (get id_cmp new.attempts x) (attempt_of layout number start x (node_replay layout number start (TakesMessage m ∷ acts)))

abbrev pub TakesIt : Layout → Node → Node → Message → Emitted → Type 0
TakesIt layout old new m emitted =
    (number start : ℕ) (acts : List Act) → StandsFor layout number start old acts → HasTaken layout number start new acts m emitted

-- ---- a fast quorum

-- Where the node runs an attempt at ballot zero in its first phase, and this answer makes the votes for the transaction's own
-- timestamp a fast quorum in every shard, it decides that timestamp.
abbrev pub DecidesAtOnce : Layout → ℕ → ℕ → List Act → Message → Emitted → Type 0
DecidesAtOnce layout number start acts m emitted =
    (a : Attempt) → attempt_of layout number start (id_of m) (node_replay layout number start acts) ≡ Some a
    → MakesFastQuorum layout (id_of m) a m → DecidesFast (id_of m) a m emitted
