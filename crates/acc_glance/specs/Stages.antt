-- The visits of looks, moment by moment. There is a moment before each step of a schedule, and moments after the last step. In each of
-- them a look that has begun and not ended visits at most one store of the key's shard that is up. In its first phase it visits the first
-- replica, by node number, that it has not visited; each tells which writers of the key it knows, and the visit that makes a majority is the
-- last. In its second phase it visits the replicas going round, from after the one visited last, and the first that has applied all of these
-- writers shows the cell. After the last step each phase visits a replica at most once; a look that has no visit left there stays open.
--     has_ended stage      a look that stands so has no visit left
--     moved cluster look over number s stage      where a look stands after a moment
--     stage_of cluster look steps moments      where it stands after these moments
use Rattle.std.specs.Prelude.{ℕ, ◌==◌, nat_lt, nat_le, cond, Bool, not, true, false, ◌&&◌, List, [], ◌∷◌, ◌++◌, length, find, Option, Some, None}
use Rattle.acc_base.specs.Faults.{or_else}
use Rattle.acc_stamp.specs.declared.stamps.TxnId.{TxnId}
use Rattle.acc_stamp.specs.declared.actors.Actor.{Actor}
use Rattle.acc_stamp.specs.Actor.{actor_of}
use Rattle.acc_stamp.specs.Rising.{ids_union}
use Rattle.acc_topology.specs.Keys.{shard_of_key}
use Rattle.acc_topology.specs.Layout.{Shard, shard_at}
use Rattle.acc_topology.specs.Quorums.{is_majority}
use Rattle.acc_topology.specs.Sets.{is_among}
use Rattle.acc_value.specs.declared.key.Key.{Key}
use Rattle.acc_value.specs.declared.value.Value.{Value}
use Rattle.acc_message.specs.Run.{Cluster, taken_of, is_down}
use Rattle.acc_schedule_runs.specs.Situations.{Situation, whole}
use Rattle.acc_store.specs.Queries.{known_writers, cell_if_applied}
use Rattle.acc_glance.specs.declared.looks.Look.{Look}
use Rattle.acc_glance.specs.declared.stages.Course.{Course}
use Rattle.acc_glance.specs.declared.stages.Stage.{Stage}
use Rattle.acc_glance.specs.declared.stages.Stage.TheVariants.{Waiting, Visiting, Read, Open}

-- ---- the stores of a key

abbrev pub shard_for : Cluster → Key → Shard
shard_for cluster key = shard_at cluster.layout (shard_of_key cluster.layout key)

-- the store of the key's shard at a node
abbrev pub store_at : Cluster → Key → ℕ → Actor
store_at cluster key node = actor_of node (shard_of_key cluster.layout key)

abbrev pub is_up : Cluster → Situation → Key → ℕ → Bool
is_up cluster s key node = not (is_down (store_at cluster key node) (whole s))

-- the writers of the key that the store at a node knows, and its cell, where it has applied all of these
abbrev pub writers_at : Cluster → Situation → Key → ℕ → List TxnId
writers_at cluster s key node =
    known_writers cluster.layout (shard_of_key cluster.layout key) (taken_of cluster (store_at cluster key node) (whole s)) key

abbrev pub cell_at : Cluster → Situation → Key → List TxnId → ℕ → Option (Option Value)
cell_at cluster s key ids node =
    cell_if_applied cluster.layout (shard_of_key cluster.layout key) (taken_of cluster (store_at cluster key node) (whole s)) ids key

-- ---- which store is visited

-- the replica comes after a node, wasn't visited and is up
abbrev pub is_left : Cluster → Situation → Key → ℕ → List ℕ → ℕ → Bool
is_left cluster s key after visited node = nat_lt after node && (not (is_among visited node) && is_up cluster s key node)

-- the first such replica; nodes have numbers from 1
abbrev pub first_left : Cluster → Situation → Key → ℕ → List ℕ → Option ℕ
first_left cluster s key after visited = find (is_left cluster s key after visited) (shard_for cluster key).replicas

-- the first phase is over: a majority was asked
abbrev pub has_asked : Cluster → Key → Course → Bool
has_asked cluster key course = is_majority (shard_for cluster key) (is_among course.asked)

abbrev pub next_to_ask : Cluster → Situation → Key → Course → Option ℕ
next_to_ask cluster s key course = first_left cluster s key 0 course.asked

abbrev pub next_to_read : Cluster → Situation → Key → Course → Option ℕ
next_to_read cluster s key course =
    or_else (first_left cluster s key course.last course.late) (first_left cluster s key 0 course.late)

-- ---- a visit

abbrev pub begun_at : ℕ → Course
begun_at from = record { from = from; asked = []; told = []; last = 0; late = [] }

-- with one more store asked, which told these writers
abbrev pub after_asking : Course → ℕ → List TxnId → Course
after_asking course node writers = record {
  from = course.from;
  asked = course.asked ++ node ∷ [];
  told = ids_union [] (writers ++ course.told);
  last = course.last;
  late = course.late;
}

-- with one more store that has not applied all
abbrev pub after_reading : Bool → Course → ℕ → Course
after_reading over course node = record {
  from = course.from;
  asked = course.asked;
  told = course.told;
  last = node;
  late = cond over (course.late ++ node ∷ []) course.late;
}

-- with no store to visit
abbrev pub unvisited : Bool → Course → Stage
unvisited over course = cond over (Open course.from) (Visiting course)

abbrev pub asked_at : Cluster → Situation → Key → Bool → Course → Option ℕ → Stage
asked_at cluster s key over course None = unvisited over course
asked_at cluster s key over course (Some node) = Visiting (after_asking course node (writers_at cluster s key node))

abbrev pub shown_at : Situation → Bool → Course → ℕ → Option (Option Value) → Stage
shown_at s over course node None = Visiting (after_reading over course node)
shown_at s over course node (Some cell) = Read course.from (length s.own) cell

abbrev pub read_at : Cluster → Situation → Key → Bool → Course → Option ℕ → Stage
read_at cluster s key over course None = unvisited over course
read_at cluster s key over course (Some node) = shown_at s over course node (cell_at cluster s key course.told node)

abbrev pub visited : Cluster → Situation → Key → Bool → Course → Stage
visited cluster s key over course =
    cond (has_asked cluster key course) (read_at cluster s key over course (next_to_read cluster s key course))
    (asked_at cluster s key over course (next_to_ask cluster s key course))

-- ---- moments

-- After the moment with this number, in which the situation was this. It is one after the last step where it is over. A look begins in the
-- moment with its own number.
abbrev pub moved : Cluster → Look → Bool → ℕ → Situation → Stage → Stage
moved cluster look over number s Waiting = cond (number == look.at) (visited cluster s look.key over (begun_at (length s.own))) Waiting
moved cluster look over number s (Visiting course) = visited cluster s look.key over course
moved cluster look over number s (Read from to cell) = Read from to cell
moved cluster look over number s (Open from) = Open from

-- After these moments, the newest first, in each of which the situation was this; the moments before the steps are so many.
abbrev pub stage_of : Cluster → Look → ℕ → List Situation → Stage
stage_of cluster look steps [] = Waiting
stage_of cluster look steps (s ∷ earlier) =
    moved cluster look (nat_le steps (length earlier)) (length earlier) s (stage_of cluster look steps earlier)

-- ---- the end

-- the look has no visit left
abbrev pub has_ended : Stage → Bool
has_ended Waiting = false
has_ended (Visiting course) = false
has_ended (Read from to cell) = true
has_ended (Open from) = true
