-- What the node of a name does by the rules: its number and the start of its clock decide that.
use Rattle.std.specs.Prelude.{◌≡◌, ◌↔◌, ◌≢◌, ℕ, ◌≤◌, ◌^◌, true, false, List, Option, Result, Err}
use Rattle.acc_stamp.specs.declared.stamps.TxnId.{TxnId}
use Rattle.acc_topology.specs.Layout.{Layout}
use Rattle.acc_message.specs.declared.entry.Emitted.{Emitted}
use Rattle.acc_message.specs.Attempts.{Attempt}
use Rattle.acc_message.specs.NodeRules.{Act, Deed, begun_id, attempt_of, node_emits, node_replay}
use Rattle.acc_node.specs.declared.error.NodeError.{NodeError}
use Rattle.acc_node.specs.declared.error.NodeError.TheVariants.{Begun, Unknown, NoQuorum}
use Rattle.acc_node.specs.Stands.{may_slow, is_answered}
use Rattle.acc_durable_node.specs.declared.name.NodeName.{NodeName}

-- a node may be opened as this
pub record IsNodeName (name : NodeName) : Type 0 where
  pub number_from : 1 ≤ name.number
  pub number_to : name.number ≤ 15
  pub start_in_range : name.start ≤ 10 ^ 12

-- what it did when it took these acts, the newest first
abbrev pub deeds_by : Layout → NodeName → List Act → List Deed
deeds_by layout name acts = node_replay layout name.number name.start acts

-- what it emits for one act more
abbrev pub emits_by : Layout → NodeName → List Act → Act → Emitted
emits_by layout name acts act = node_emits layout name.number name.start (deeds_by layout name acts) act

-- the id of the transaction of this number, where it has begun that
abbrev pub id_begun : Layout → NodeName → ℕ → List Act → Option TxnId
id_begun layout name txn acts = begun_id name.number name.start txn (deeds_by layout name acts)

-- the attempt that it runs at a transaction
abbrev pub attempt_by : Layout → NodeName → TxnId → List Act → Option Attempt
attempt_by layout name id acts = attempt_of layout name.number name.start id (deeds_by layout name acts)

-- Why it doesn't give the fast path of a transaction up: Unknown exactly where no first attempt at it waits for votes, NoQuorum exactly
-- where one does and some shard lacks a majority of answers.
pub record IsSlowAnswer (layout : Layout) (name : NodeName) (acts : List Act) (txn : ℕ) (result : Result Emitted NodeError) : Type 0 where
  pub unknown : (result ≡ Err Unknown) ↔ (may_slow layout name.number name.start txn (deeds_by layout name acts) ≡ false)
  pub no_quorum : (result ≡ Err NoQuorum) ↔ ((may_slow layout name.number name.start txn (deeds_by layout name acts) ≡ true)
      × (is_answered layout name.number name.start txn (deeds_by layout name acts) ≡ false))
  pub not_begun : result ≢ Err Begun
