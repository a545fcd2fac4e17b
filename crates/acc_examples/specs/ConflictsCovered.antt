-- Decisions that name each conflicting transaction with a smaller timestamp, and decisions that miss one. Items stand newest
-- first.
use Rattle.std.specs.Prelude.{List, [], ◌∷◌, ◌++◌}
use Rattle.acc_stamp.specs.declared.stamps.TxnId.{TxnId}
use Rattle.acc_message.specs.declared.item.Item.{Item}
use Rattle.acc_message.specs.Run.{Cluster}
use Rattle.acc_deps.specs.declared.shards.ShardDeps.{ShardDeps}
use Rattle.acc_examples.specs.Clusters.{stamp, id, deps_in, node, writing, writing_both, reading, alice, zoe}
use Rattle.acc_examples.specs.ConflictByShard.{two_shards}
use Rattle.acc_examples.specs.Noted.{begun, decided}

-- alice lies in the first shard and zoe in the second. Two write alice, two read it, one writes zoe, and two write both
abbrev pub cluster : Cluster
cluster =
    record {
      layout = two_shards;
      starts = node 1 ∷ node 2 ∷ node 3 ∷ [];
      homes = 1 ∷ 1 ∷ 1 ∷ 1 ∷ 1 ∷ 1 ∷ 1 ∷ [];
      bodies =
          writing alice 1 ∷ writing alice 2 ∷ reading alice ∷ reading alice ∷ writing zoe 3 ∷ writing_both alice 4 zoe 5
          ∷ writing_both alice 6 zoe 7 ∷ [];
    }

abbrev pub first_write : TxnId
first_write = id 1 64

abbrev pub second_write : TxnId
second_write = id 2 64

abbrev pub first_read : TxnId
first_read = id 3 64

abbrev pub second_read : TxnId
second_read = id 4 64

abbrev pub of_zoe : TxnId
of_zoe = id 5 64

abbrev pub first_of_both : TxnId
first_of_both = id 6 64

abbrev pub second_of_both : TxnId
second_of_both = id 7 64

-- these items, after the begins
abbrev pub behind_begins : List Item → List Item
behind_begins items =
    items
    ++ (begun 6 second_of_both ∷ begun 5 first_of_both ∷ begun 4 of_zoe ∷ begun 3 second_read ∷ begun 2 first_read
    ∷ begun 1 second_write ∷ begun 0 first_write ∷ [])

abbrev pub in_both : List TxnId → List ShardDeps
in_both ids = record { shard = 1; ids = ids } ∷ record { shard = 2; ids = ids } ∷ []

-- The later write names the earlier one, which needn't name it, whichever was decided first. Two reads need not know each
-- other, nor need writes of different keys. A transaction needn't name itself. Dependencies may have more. Two decisions of
-- one transaction both name it. What both shards share is named in both.
abbrev pub covered : List (List Item)
covered =
    behind_begins (decided second_write (stamp 2 64) (deps_in 1 (first_write ∷ [])) ∷ decided first_write (stamp 1 64) [] ∷ [])
    ∷ behind_begins (decided first_write (stamp 1 64) [] ∷ decided second_write (stamp 2 64) (deps_in 1 (first_write ∷ [])) ∷ [])
    ∷ behind_begins (decided first_write (stamp 3 65) (deps_in 1 (second_write ∷ [])) ∷ decided second_write (stamp 2 64) [] ∷ [])
    ∷ behind_begins (decided second_read (stamp 4 64) [] ∷ decided first_read (stamp 3 64) [] ∷ [])
    ∷ behind_begins (decided of_zoe (stamp 5 64) [] ∷ decided first_write (stamp 1 64) [] ∷ [])
    ∷ behind_begins (decided first_write (stamp 2 65) [] ∷ decided first_write (stamp 1 64) [] ∷ [])
    ∷ behind_begins (decided second_write (stamp 2 64) (deps_in 1 (first_write ∷ second_read ∷ [])) ∷ decided first_write (stamp 1 64) (deps_in 1 (second_write ∷ [])) ∷ [])
    ∷ behind_begins (decided second_write (stamp 2 64) (deps_in 1 (first_write ∷ of_zoe ∷ [])) ∷ decided second_write (stamp 2 64) (deps_in 1 (first_write ∷ [])) ∷ decided first_write (stamp 1 64) [] ∷ [])
    ∷ behind_begins (decided second_of_both (stamp 7 64) (in_both (first_of_both ∷ [])) ∷ decided first_of_both (stamp 6 64) [] ∷ [])
    ∷ (decided second_write (stamp 2 64) [] ∷ decided first_write (stamp 1 64) [] ∷ [])
    ∷ []

-- The later write misses the earlier one, whichever was decided first, and whatever the earlier one names. The later in
-- time isn't the later id. The first or the second of two decisions misses it. It is named in another shard alone, or in one
-- of two. A read misses a write, and a write a read.
abbrev pub uncovered : List (List Item)
uncovered =
    behind_begins (decided second_write (stamp 2 64) [] ∷ decided first_write (stamp 1 64) [] ∷ [])
    ∷ behind_begins (decided first_write (stamp 1 64) (deps_in 1 (second_write ∷ [])) ∷ decided second_write (stamp 2 64) [] ∷ [])
    ∷ behind_begins (decided first_write (stamp 3 65) [] ∷ decided second_write (stamp 2 64) (deps_in 1 (first_write ∷ [])) ∷ [])
    ∷ behind_begins (decided second_write (stamp 2 64) (deps_in 1 (first_write ∷ [])) ∷ decided second_write (stamp 2 64) [] ∷ decided first_write (stamp 1 64) [] ∷ [])
    ∷ behind_begins (decided second_write (stamp 2 64) [] ∷ decided first_write (stamp 1 64) [] ∷ decided second_write (stamp 2 64) (deps_in 1 (first_write ∷ [])) ∷ [])
    ∷ behind_begins (decided second_write (stamp 2 64) (deps_in 2 (first_write ∷ [])) ∷ decided first_write (stamp 1 64) [] ∷ [])
    ∷ behind_begins (decided second_of_both (stamp 7 64) (deps_in 1 (first_of_both ∷ [])) ∷ decided first_of_both (stamp 6 64) [] ∷ [])
    ∷ behind_begins (decided second_of_both (stamp 7 64) (deps_in 2 (first_of_both ∷ [])) ∷ decided first_of_both (stamp 6 64) [] ∷ [])
    ∷ behind_begins (decided first_read (stamp 3 64) [] ∷ decided first_write (stamp 1 64) [] ∷ [])
    ∷ behind_begins (decided second_write (stamp 9 65) [] ∷ decided first_read (stamp 3 64) [] ∷ [])
    ∷ []
