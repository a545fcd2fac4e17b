-- What a tally stands for: the answers that were counted, the newest first, of the stores of some shards.
use Rattle.std.specs.Prelude.{◌≡◌, ℕ, ◌<◌, Bool, true, false, List, [], ◌∷◌, Option, None, Some, slice_index}
use Rattle.acc_stamp.specs.declared.stamps.Stamp.{Stamp}
use Rattle.acc_stamp.specs.declared.actors.Actor.{Actor}
use Rattle.acc_stamp.specs.Actor.{node_of, shard_of}
use Rattle.acc_topology.specs.Sets.{in_set, members, is_among}
use Rattle.acc_topology.specs.Layout.{Layout, HasShard}
use Rattle.acc_deps.specs.declared.shards.ShardDeps.{ShardDeps}
use Rattle.acc_quorum.specs.Answers.{Answer, has_answered, has_kept, has_changed, greatest, union_of}
use Rattle.acc_tally.specs.declared.tally.Tally.{Tally}

abbrev pub answer_of : Actor → Bool → Stamp → List ShardDeps → Answer
answer_of store unchanged t deps = record { store = store; unchanged = unchanged; t = t; deps = deps }

-- the greatest timestamp of answers, where there is one
abbrev pub greatest_if : List Answer → Option Stamp
greatest_if [] = None
greatest_if (a ∷ answers) = Some (greatest (a ∷ answers))

-- for each shard the set of those of its nodes that pass a test
abbrev pub AreMarked : List ℕ → (ℕ → ℕ → Bool) → Type 0
AreMarked sets test = (shard node : ℕ) → shard < 16 → in_set (slice_index sets shard) node ≡ test shard node

-- a tally over these shards stands for these answers
pub record StandsFor (tally : Tally) (shards : List ℕ) (answers : List Answer) : Type 0 where
  pub shards_are : members tally.shards ≡ shards
  pub answered : AreMarked tally.answered (has_answered answers)
  pub kept : AreMarked tally.kept (has_kept answers)
  pub changed : AreMarked tally.changed (has_changed answers)
  pub greatest_is : tally.greatest ≡ greatest_if answers
  pub deps_are : tally.deps ≡ union_of answers

-- the topology has each of these shards
abbrev pub HasShards : Layout → List ℕ → Type 0
HasShards layout shards = (shard : ℕ) → is_among shards shard ≡ true → HasShard layout shard

-- What becomes of a tally with one more answer: where the answer is the first of its store, the tally then stands for it with
-- those before; and else it stays.
abbrev pub Counts : Tally → Tally → List ℕ → List Answer → Answer → Bool → Type 0
Counts old new shards answers a true =
    (has_answered answers (shard_of a.store) (node_of a.store) ≡ false) × StandsFor new shards (a ∷ answers)
Counts old new shards answers a false =
    (has_answered answers (shard_of a.store) (node_of a.store) ≡ true) × (new ≡ old)
