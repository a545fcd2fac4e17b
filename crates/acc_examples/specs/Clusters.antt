-- Small clusters and transactions, for worked examples.
use Rattle.std.specs.Prelude.{ℕ, pos, true, false, List, [], ◌∷◌, Option, None, Some}
use Rattle.acc_value.specs.declared.value.Value.{Value}
use Rattle.acc_value.specs.declared.value.Value.TheVariants.{Number as NumberValue}
use Rattle.acc_stamp.specs.declared.stamps.Stamp.{Stamp}
use Rattle.acc_stamp.specs.declared.stamps.TxnId.{TxnId}
use Rattle.acc_stamp.specs.declared.stamps.Ballot.{Ballot}
use Rattle.acc_topology.specs.declared.given.NodeSpec.{NodeSpec}
use Rattle.acc_topology.specs.Layout.{Layout, Shard}
use Rattle.acc_deps.specs.declared.shards.ShardDeps.{ShardDeps}
use Rattle.acc_value.specs.declared.key.Key.{Key}
use Rattle.acc_txn.specs.declared.parts.Let.{Let}
use Rattle.acc_txn.specs.declared.parts.Select.{Select}
use Rattle.acc_txn.specs.declared.parts.Select.TheVariants.{Nothing, Names}
use Rattle.acc_txn.specs.declared.parts.Term.TheVariants.{Number, Name}
use Rattle.acc_txn.specs.declared.parts.Part.{Part}
use Rattle.acc_txn.specs.declared.parts.Operator.TheVariants.{AtLeast}
use Rattle.acc_txn.specs.declared.parts.Condition.{Condition}
use Rattle.acc_txn.specs.declared.parts.Condition.TheVariants.{Compare}
use Rattle.acc_txn.specs.declared.parts.Update.{Update}
use Rattle.acc_txn.specs.declared.parts.Update.TheVariants.{Set}
use Rattle.acc_txn.specs.declared.parts.BodyParts.{BodyParts}
use Rattle.acc_txn.specs.declared.outcome.Verdict.TheVariants.{Ok as Done}
use Rattle.acc_txn.specs.declared.outcome.Reply.{Reply}

-- ---- stamps as they are printed, h and origin

abbrev pub stamp : ℕ → ℕ → Stamp
stamp h origin = record { h = h; origin = origin }

abbrev pub id : ℕ → ℕ → TxnId
id h origin = record { 0 = stamp h origin }

abbrev pub ballot : ℕ → ℕ → Ballot
ballot h origin = record { 0 = stamp h origin }

abbrev pub deps_in : ℕ → List TxnId → List ShardDeps
deps_in shard ids = record { shard = shard; ids = ids } ∷ []

-- ---- layouts

-- nodes whose clocks start at 0
abbrev pub node : ℕ → NodeSpec
node number = record { id = number; clock = 0 }

-- the last shard, on these nodes
abbrev pub last_shard : List ℕ → Shard
last_shard replicas = record { end = None; replicas = replicas; electorate = replicas }

abbrev pub shard_to : List ℕ → List ℕ → Shard
shard_to end replicas = record { end = Some end; replicas = replicas; electorate = replicas }

abbrev pub layout : List ℕ → List Shard → Layout
layout nodes shards = record { nodes = nodes; shards = shards }

-- ---- transactions on the table t

abbrev pub key : List ℕ → Key
key text = record { table = 116 ∷ []; key = text }

abbrev pub x : List ℕ
x = 120 ∷ []

abbrev pub y : List ℕ
y = 121 ∷ []

abbrev pub m : List ℕ
m = 109 ∷ []

abbrev pub alice : List ℕ
alice = 97 ∷ 108 ∷ 105 ∷ 99 ∷ 101 ∷ []

abbrev pub zoe : List ℕ
zoe = 122 ∷ 111 ∷ 101 ∷ []

-- UPDATE t SET v = n WHERE k = 'text'
abbrev pub number : ℕ → Part
number n = record { minus = false; term = Number (pos n) }

abbrev pub setting : List ℕ → List Part → Update
setting text sum = Set (key text) sum

abbrev pub body : List Let → Select → List Condition → List Update → BodyParts
body lets select guards updates = record { lets = lets; select = select; guards = guards; updates = updates }

abbrev pub writing : List ℕ → ℕ → BodyParts
writing text n = body [] Nothing [] (setting text (number n ∷ []) ∷ [])

-- two such updates
abbrev pub writing_both : List ℕ → ℕ → List ℕ → ℕ → BodyParts
writing_both text n other k = body [] Nothing [] (setting text (number n ∷ []) ∷ setting other (number k ∷ []) ∷ [])

-- LET name = (SELECT v FROM t WHERE k = 'text')
abbrev pub p : List ℕ
p = 112 ∷ []

abbrev pub q : List ℕ
q = 113 ∷ []

abbrev pub binding : List ℕ → List ℕ → Let
binding name text = record { name = name; key = key text }

-- LET p = (SELECT v FROM t WHERE k = 'text'); SELECT p.v
abbrev pub reading : List ℕ → BodyParts
reading text = body (binding p text ∷ []) (Names (0 ∷ [])) [] []

-- the same of two keys, by the names p and q
abbrev pub reading_both : List ℕ → List ℕ → BodyParts
reading_both text other = body (binding p text ∷ binding q other ∷ []) (Names (0 ∷ 1 ∷ [])) [] []

-- that of two keys, with IF p.v >= n THEN UPDATE t SET v = p.v - n WHERE k = 'text'; UPDATE t SET v = q.v + n WHERE k = 'other'
abbrev pub name_of : ℕ → Part
name_of n = record { minus = false; term = Name n }

abbrev pub less : ℕ → Part
less n = record { minus = true; term = Number (pos n) }

abbrev pub transfer : List ℕ → List ℕ → ℕ → BodyParts
transfer text other n =
    body (binding p text ∷ binding q other ∷ []) (Names (0 ∷ 1 ∷ []))
    (Compare AtLeast (name_of 0 ∷ []) (number n ∷ []) ∷ [])
    (setting text (name_of 0 ∷ less n ∷ []) ∷ setting other (name_of 1 ∷ number n ∷ []) ∷ [])

-- the reply ok, with these values
abbrev pub ok : List (Option Value) → Reply
ok values = record { verdict = Done; values = values }

-- the cell with a number
abbrev pub number_cell : ℕ → Option Value
number_cell n = Some (NumberValue (pos n))
