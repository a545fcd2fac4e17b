-- What an actor leaves: its journal after some items, which stand with the newest first.
--     actors_rising layout      the actors of a cluster, rising: each node, and after it its stores
--     journal_bytes version payloads      the journal of these payloads, which an actor of this version wrote
--     leaves plan items a      the journal of an actor after some items
--     images_left plan items      those of all actors
--     AreApart images, DoRise images      no actor has two of these journals; they stand in the order of their actors
use Rattle.std.specs.Prelude.{◌≡◌, ℕ, nat_lt, false, List, [], ◌∷◌, ◌++◌, length, map, filter, flat_map}
use Rattle.std.specs.List.{range_with_len, AllPairs}
use Rattle.acc_stamp.specs.declared.actors.Actor.{Actor}
use Rattle.acc_stamp.specs.Actor.{actor_eq, actor_of}
use Rattle.acc_stamp.specs.Rising.{IsRisingBy}
use Rattle.acc_topology.specs.Layout.{Layout, shard_at}
use Rattle.acc_topology.specs.Sets.{is_among}
use Rattle.acc_journal.specs.Layout.{records}
use Rattle.acc_message.specs.declared.item.Item.{Item}
use Rattle.acc_payloads.specs.Items.{payloads_in}
use Rattle.acc_payloads.specs.Journals.{appended}
use Rattle.acc_schedule.specs.Content.{Content}
use Rattle.acc_left.specs.declared.image.Image.{Image}

-- the stores at a node, in the order of their shards
abbrev pub stores_at : Layout → ℕ → List Actor
stores_at layout node =
    map (actor_of node) (filter (λ shard. is_among (shard_at layout shard).replicas node) (range_with_len 1 (length layout.shards)))

abbrev pub actors_rising : Layout → List Actor
actors_rising layout = flat_map (λ node. actor_of node 0 ∷ stores_at layout node) layout.nodes

-- the payloads with the mark that this version puts in front of the first of them
abbrev pub marked : ℕ → List (List ℕ) → List (List ℕ)
marked version [] = []
marked version (payload ∷ payloads) = appended version false payload ++ payloads

-- the version of journals, the records of the payloads and a closed gate, with nothing after it
abbrev pub journal_bytes : ℕ → List (List ℕ) → List ℕ
journal_bytes version payloads = 1 ∷ (records (marked version payloads) ++ 0 ∷ [])

abbrev pub leaves : Content → List Item → Actor → List ℕ
leaves plan items a = journal_bytes plan.version (payloads_in a items)

abbrev pub images_left : Content → List Item → List Image
images_left plan items = map (λ a. record { actor = a; bytes = leaves plan items a }) (actors_rising plan.topology)

-- ---- the order of journals

-- no actor has two of these journals
abbrev pub AreApart : List Image → Type 0
AreApart images = AllPairs (λ (i j : Image). actor_eq i.actor j.actor ≡ false) images

-- they stand in the order of their actors
abbrev pub DoRise : List Image → Type 0
DoRise images = IsRisingBy (λ (i j : Image). nat_lt i.actor.0 j.actor.0) images
