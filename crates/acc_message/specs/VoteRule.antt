-- Vote rule: how a store votes for the timestamp of a transaction.
use Rattle.std.specs.Prelude.{ℕ, ◌+◌, Bool, cond, max, ◌==◌, List, [], ◌∷◌, ◌++◌, Option, None, Some, map, filter}
use Rattle.std.specs.List.{list_all, flat_map}
use Rattle.acc_stamp.specs.declared.stamps.Stamp.{Stamp}
use Rattle.acc_stamp.specs.declared.stamps.TxnId.{TxnId}
use Rattle.acc_stamp.specs.declared.actors.Actor.{Actor}
use Rattle.acc_stamp.specs.Actor.{shard_of}
use Rattle.acc_stamp.specs.Stamp.{stamp_lt, id_eq}
use Rattle.acc_stamp.specs.Rising.{ids_union}
use Rattle.acc_topology.specs.Layout.{Layout}
use Rattle.acc_deps.specs.declared.shards.ShardDeps.{ShardDeps}
use Rattle.acc_deps.specs.Deps.{deps_of}
use Rattle.acc_txn.specs.declared.parts.BodyParts.{BodyParts}
use Rattle.acc_message.specs.declared.message.Message.{Message}
use Rattle.acc_message.specs.declared.message.Message.TheVariants.{PreAccept, PreAcceptOk, Accept, AcceptOk, Commit, CommitOk, Stable, ReadOk, Apply, Recover, RecoverOk, Nack, Decided, Inform}
use Rattle.acc_message.specs.Fields.{top_of}
use Rattle.acc_base.specs.Faults.{or_else}
use Rattle.acc_message.specs.Taken.{Taken, Heard, rivals}

-- a vote: a timestamp, and the transactions that may have to come before
pub record Vote : Type 0 where
  pub vote : Stamp
  pub deps : List ShardDeps

-- ---- the vote of x, given by the store's earliest answer that has one

abbrev pub vote_in : TxnId → Message → Option Vote
vote_in x (PreAcceptOk from to id ballot vote deps) = cond (id_eq id x) (Some (record { vote = vote; deps = deps })) None
vote_in x (RecoverOk from to id ballot view) = cond (id_eq id x) (Some (record { vote = view.vote; deps = view.vote_deps })) None
vote_in x _ = None

abbrev pub first_vote : TxnId → List Message → Option Vote
first_vote x [] = None
first_vote x (m ∷ ms) = or_else (vote_in x m) (first_vote x ms)

abbrev pub vote_of : List Taken → TxnId → Option Vote
vote_of [] x = None
vote_of (step ∷ past) x = or_else (vote_of past x) (first_vote x step.sent)

-- ---- the stamps of x: its own, its vote, and those that Accepts, Commits, Stables and Applies brought as its timestamp

abbrev pub times_in : TxnId → Message → List Stamp
times_in x (Accept from to id ballot body t deps) = cond (id_eq id x) (t ∷ []) []
times_in x (Commit from to id ballot body t deps) = cond (id_eq id x) (t ∷ []) []
times_in x (Stable from to id ballot body t deps) = cond (id_eq id x) (t ∷ []) []
times_in x (Apply from to id ballot body t deps outcome) = cond (id_eq id x) (t ∷ []) []
times_in x _ = []

abbrev pub stamps_of_vote : Option Vote → List Stamp
stamps_of_vote None = []
stamps_of_vote (Some v) = v.vote ∷ []

abbrev pub stamps_of : List Taken → TxnId → List Stamp
stamps_of history x = x.0 ∷ flat_map (λ (step : Taken). times_in x step.message) history ++ stamps_of_vote (vote_of history x)

-- ---- the greatest h of a store: of the messages that it took, and of the votes that it drew

abbrev pub drawn_as : ℕ → Stamp → ℕ
drawn_as origin stamp = cond (stamp.origin == origin) stamp.h 0

abbrev pub drawn_in : ℕ → Message → ℕ
drawn_in origin (PreAcceptOk from to id ballot vote deps) = drawn_as origin vote
drawn_in origin (RecoverOk from to id ballot view) = drawn_as origin view.vote
drawn_in origin _ = 0

abbrev pub greatest_drawn : ℕ → List Message → ℕ
greatest_drawn origin [] = 0
greatest_drawn origin (m ∷ ms) = max (drawn_in origin m) (greatest_drawn origin ms)

abbrev pub greatest_h : Actor → List Taken → ℕ
greatest_h own [] = 0
greatest_h own (step ∷ past) = max (max (top_of step.message) (greatest_drawn own.0 step.sent)) (greatest_h own past)

-- ---- a new vote

-- every stamp of each of these is smaller than that of x
abbrev pub all_below : List Taken → TxnId → List Heard → Bool
all_below history x others = list_all (λ (k : Heard). list_all (λ s. stamp_lt s x.0) (stamps_of history k.id)) others

-- the timestamp of x, where every stamp of every known conflicting transaction is smaller, else one above all that the
-- store saw
abbrev pub new_stamp : Layout → Actor → List Taken → TxnId → BodyParts → Stamp
new_stamp layout own history x body =
    cond (all_below history x (rivals layout (shard_of own) history x body))
    x.0
    (record { h = 1 + greatest_h own history; origin = own.0 })

-- of these, those whose own timestamp is below a bound, rising
abbrev pub ids_below : Stamp → List Heard → List TxnId
ids_below bound others = ids_union [] (map (λ (k : Heard). k.id) (filter (λ (k : Heard). stamp_lt k.id.0 bound) others))

-- the known transactions that conflict with x and whose own timestamp is below a bound, as dependencies of this shard
abbrev pub known_below : Layout → Actor → List Taken → TxnId → BodyParts → Stamp → List ShardDeps
known_below layout own history x body bound =
    deps_of (shard_of own) (ids_below bound (rivals layout (shard_of own) history x body))

abbrev pub new_vote : Layout → Actor → List Taken → TxnId → BodyParts → Vote
new_vote layout own history x body =
    record { vote = new_stamp layout own history x body; deps = known_below layout own history x body x.0 }

abbrev pub vote_given : Option Vote → Vote → Vote
vote_given None made = made
vote_given (Some earlier) made = earlier

-- the vote that is given for x, with the message that asks for it: one that was made in the past is given again
abbrev pub vote_for : Layout → Actor → List Taken → List Taken → TxnId → BodyParts → Vote
vote_for layout own past now x body = vote_given (vote_of past x) (new_vote layout own now x body)
