-- What the changes of a step send and write, by the records.
use Rattle.std.specs.Prelude.{◌≡◌, ℕ, cond, List, [], ◌∷◌, ◌++◌, Option, None, Some, is_some, IsTrue, map}
use Rattle.acc_stamp.specs.declared.actors.Actor.{Actor}
use Rattle.acc_stamp.specs.declared.stamps.Ballot.{Ballot}
use Rattle.acc_stamp.specs.Actor.{shard_of}
use Rattle.acc_topology.specs.Layout.{Layout}
use Rattle.acc_txn.specs.declared.parts.BodyParts.{BodyParts}
use Rattle.acc_value.specs.declared.key.Key.{Key}
use Rattle.acc_value.specs.declared.value.Value.{Value}
use Rattle.acc_value.specs.Cells.{applied}
use Rattle.acc_message.specs.declared.message.Message.{Message}
use Rattle.acc_message.specs.Opening.{Change, writes_in}
use Rattle.acc_message.specs.StoreRules.{read_ok, read_by}
use Rattle.acc_record.specs.declared.record.Record.{Record}
use Rattle.acc_opening.specs.Plan.{Lookup}
use Rattle.acc_opening.specs.declared.turns.Turn.{Turn}
use Rattle.acc_opening.specs.declared.releasing.Released.{Released}

-- when a transaction with this record is opened each attempt that waits gets the cells
abbrev pub sent_by : Layout → Actor → Record → Change → (Key → Option Value) → List Message
sent_by layout own r c cells =
    cond c.opens (map (λ b. read_ok own c.id b (read_by layout (shard_of own) (Some r.body) cells)) r.waiters) []

-- when it is applied its writes to the shard are made
abbrev pub written_in : Layout → ℕ → Record → Change → List (Key × Option Value)
written_in layout shard r c = cond c.applies (writes_in layout shard r.outcome) []

abbrev pub opening_by : Layout → Actor → Option Record → Change → (Key → Option Value) → List Message
opening_by layout own None c cells = []
opening_by layout own (Some r) c cells = sent_by layout own r c cells

abbrev pub written_at : Layout → ℕ → Option Record → Change → (Key → Option Value) → Key → Option Value
written_at layout shard None c cells = cells
written_at layout shard (Some r) c cells = applied cells (written_in layout shard r c)

-- what the changes send, one after another, each with the cells of its turn
abbrev pub release_by : Layout → Actor → Lookup → List Change → (Key → Option Value) → List Message
release_by layout own at [] cells = []
release_by layout own at (c ∷ changes) cells =
    opening_by layout own (at c.id) c cells ++ release_by layout own at changes (written_at layout (shard_of own) (at c.id) c cells)

abbrev pub written_at_all : Layout → ℕ → Lookup → List Change → (Key → Option Value) → Key → Option Value
written_at_all layout shard at [] cells = cells
written_at_all layout shard at (c ∷ changes) cells = written_at_all layout shard at changes (written_at layout shard (at c.id) c cells)

-- the transaction of the turn has a record
abbrev pub IsKept : Lookup → Turn → Type 0
IsKept at turn = IsTrue (is_some (at turn.id))

-- what is sent, and what the cells come to with what is written
pub record IsReleased (layout : Layout) (own : Actor) (at : Lookup) (changes : List Change) (cells : Key → Option Value) (released : Released) : Type 0 where
  pub sent : released.sent ≡ release_by layout own at changes cells
  pub writes : (key : Key) → applied cells released.writes key ≡ written_at_all layout (shard_of own) at changes cells key
