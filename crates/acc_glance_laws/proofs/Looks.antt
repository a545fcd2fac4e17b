-- The laws of looks: a writer of the key that had an outcome when the look began was told to it, so the store that is read has applied it.
use Rattle.std.proofs.Common.{◌≡◌, ◌==◌, ℕ, ◌*◌, ◌+◌, ◌%◌, ◌≤◌, true, List, length, Option, Some, Contains, sym, ◌∙◌, ap, subst, arith}
use Rattle.std.specs.Prelude.{IsTrue}
use Rattle.std.specs.List.{list_all}
use Rattle.std.proofs.lemmas.Bool.{eqb-true}
use Rattle.std.proofs.lemmas.List.Concat.{flat_map-append}
use Rattle.std.proofs.lemmas.List.Elements.{Contains-append_left}
use Rattle.acc_stamp.specs.declared.stamps.TxnId.{TxnId}
use Rattle.acc_stamp.specs.Actor.{actor_of, shard_of}
use Rattle.acc_stamp.specs.Rising.{id_among}
use Rattle.acc_topology.specs.Keys.{shard_of_key, shards_of}
use Rattle.acc_topology.specs.Layout.{Layout, IsLayout}
use Rattle.acc_topology.specs.Sets.{is_among}
use Rattle.acc_topology.proofs.Ends.{shard_of-holds}
use Rattle.acc_topology.proofs.Listed.{is_among-in_order}
use Rattle.acc_value.specs.declared.key.Key.{Key}
use Rattle.acc_value.specs.declared.value.Value.{Value}
use Rattle.acc_txn.specs.declared.parts.BodyParts.{BodyParts}
use Rattle.acc_txn.specs.Uses.{is_updated, footprint_of}
use Rattle.acc_message.specs.declared.item.Item.{Item}
use Rattle.acc_message.specs.Items.{noted_in, notes_of}
use Rattle.acc_message.specs.Opening.{is_applied, cells_at}
use Rattle.acc_message.specs.Shares.{shards_used}
use Rattle.acc_message.specs.Taken.{body_known}
use Rattle.acc_message.specs.Run.{Cluster, IsRun, taken_of, EachStands}
use Rattle.acc_actor_laws.proofs.OpeningFacts.{some_is}
use Rattle.acc_safety.specs.Decisions.{Answered as Answer, outcomes_of, replies_in, replies_of, first_outcomes}
use Rattle.acc_safety.specs.Places.{IsPast, Whole, Behind}
use Rattle.acc_safety.specs.Valid.{IsValidCluster}
use Rattle.acc_safety.proofs.PlaceOrder.{IsPast-trans, each_at, Passing, passing}
use Rattle.acc_safety.proofs.Bridge.{EachStands-past, taken_of-past}
use Rattle.acc_safety_laws.proofs.Cell.{Cell}
use Rattle.acc_safety_laws.proofs.EveryRun.{agreement_holds, coverage_holds}
use Rattle.acc_safety_laws.proofs.Facts.{Premises, Wrote, wrote_tells}
use Rattle.acc_safety_laws.proofs.Knowing.{body_known-past}
use Rattle.acc_safety_laws.proofs.NodeReads.{shards_are_small, found_shard}
use Rattle.acc_safety_laws.proofs.Notions.{wrote, Answered, Finished}
use Rattle.acc_safety_laws.proofs.Outcomes.{replies_agree}
use Rattle.acc_safety_laws.proofs.Parts.{within_itself}
use Rattle.acc_safety_laws.proofs.SerialRuns.{run_serial}
use Rattle.acc_glance_laws.specs.SerialCells.{oldest, serial_cell}
use Rattle.acc_glance_laws.specs.Looks.{Visit, writers_told, history_at, is_visited, IsAsked, IsRead, WasThere, ShowsReplied}
use Rattle.acc_glance_laws.proofs.Moments.{oldest_is_past, oldest_past, length_oldest, past_length, past_is_oldest}
use Rattle.acc_glance_laws.proofs.Parts.{within_past, past_premises}
use Rattle.acc_glance_laws.proofs.Finished.{FinishedAmong, finished_in}
use Rattle.acc_glance_laws.proofs.Knows.{KnownThere, outcomes_are_known}
use Rattle.acc_glance_laws.proofs.Told.{written_is_found, known_is_told, read_tells, each_among}
use Rattle.acc_glance_laws.proofs.StoreCells.{Applied, applied_there, applied_is_answered}
use Rattle.acc_glance_laws.proofs.Moment.{Shown, shown, shows_serial_cell}

-- ---- shards

-- a body that writes a key uses its shard
uses_its_shard : (layout : Layout) (body : BodyParts) (key : Key) → IsLayout layout → is_updated body key ≡ true
    → is_among (shards_used layout body) (shard_of_key layout key) ≡ true
uses_its_shard layout body key is updates =
    is_among-in_order (shards_of layout (footprint_of body)) (shards_are_small layout (footprint_of body) is) (shard_of_key layout key)
    ∙ found_shard layout (footprint_of body) key true (written_is_found body key updates)

-- the store of a key's shard at a node is one of that shard
store_of_key : (layout : Layout) (node : ℕ) (key : Key) → IsLayout layout → shard_of_key layout key ≡ shard_of (actor_of node (shard_of_key layout key))
store_of_key layout node key is = sym (number (shard_of_key layout key) is.few_shards (shard_of-holds layout key.key is.ends).exists.1)
  where
    number : (shard : ℕ) → length layout.shards ≤ 15 → shard ≤ length layout.shards → (node * 64 + shard) % 64 ≡ shard
    number shard few within = omega arith

-- ---- replies

replies_later : (past items : List Item) (a : Answer) → IsPast past items → Contains (replies_of (notes_of past)) a → Contains (replies_of (notes_of items)) a
replies_later past items a (Whole xs) h = h
replies_later past items a (Behind item p rest there) h =
    subst (λ list. Contains list a) (sym (flat_map-append replies_in (notes_of rest) (noted_in item)))
    (Contains-append_left (replies_of (notes_of rest)) (replies_of (noted_in item)) a (replies_later p rest a there h))

module _ (cluster : Cluster) (items : List Item) (valid : IsValidCluster cluster) (run : IsRun cluster items) where
  stands_then : (past : List Item) → IsPast past items → EachStands cluster past
  stands_then past there = EachStands-past cluster past items there run.stands

  given_then : (past : List Item) → IsPast past items → Premises cluster past
  given_then past there =
      past_premises cluster past items there valid.layout (stands_then past there) (agreement_holds cluster items valid run) (coverage_holds cluster items valid run)

  module _ (key : Key) (from : ℕ) (visits : List Visit) (ids : List TxnId) (read : Visit) (cell : Option Value) (asked : IsAsked cluster items key from visits ids)
      (is_read : IsRead cluster items key from ids read cell) where
    begun_past : IsPast (oldest from items) items
    begun_past = oldest_is_past from items

    ended_past : IsPast (oldest read.moment items) items
    ended_past = oldest_is_past read.moment items

    begun_before : IsPast (oldest from items) (oldest read.moment items)
    begun_before = oldest_past from read.moment items is_read.since

    stands : EachStands cluster (oldest read.moment items)
    stands = stands_then (oldest read.moment items) ended_past

    given : Premises cluster (oldest read.moment items)
    given = given_then (oldest read.moment items) ended_past

    here : shard_of_key cluster.layout key ≡ shard_of (actor_of read.node (shard_of_key cluster.layout key))
    here = store_of_key cluster.layout read.node key valid.layout

    told : (list_all (is_applied (shard_of_key cluster.layout key) (history_at cluster items key read)) ids ≡ true)
        × (cells_at cluster.layout (shard_of_key cluster.layout key) (history_at cluster items key read) key ≡ cell)
    told = read_tells cluster.layout (shard_of_key cluster.layout key) (history_at cluster items key read) ids key cell is_read.told

    -- a visited store that knew a writer of the key when the look began told it
    known_was_told : (y : TxnId) (body : BodyParts) → is_updated body key ≡ true
        → KnownThere cluster (oldest from items) y body (shard_of_key cluster.layout key) (is_visited visits) → id_among y ids ≡ true
    known_was_told y body updates known =
        each_at (λ (w : Visit). (x : TxnId) → IsTrue (id_among x (writers_told cluster items key w)) → IsTrue (id_among x ids)) p.element visits asked.told p.there y
        (known_is_told cluster.layout (history_at cluster items key p.element) key y body now updates)
      where
        p : Passing (λ (w : Visit). w.node == known.node) visits
        p = passing (λ (w : Visit). w.node == known.node) visits known.passes

        later : IsPast (oldest from items) (oldest p.element.moment items)
        later = oldest_past from p.element.moment items (each_at (λ (w : Visit). from ≤ w.moment) p.element visits asked.since p.there)

        now : body_known (history_at cluster items key p.element) y ≡ Some body
        now =
            subst (λ n. body_known (taken_of cluster (actor_of n (shard_of_key cluster.layout key)) (oldest p.element.moment items)) y ≡ Some body)
            (sym (eqb-true p.element.node known.node p.passes))
            (body_known-past y body (taken_of cluster (actor_of known.node (shard_of_key cluster.layout key)) (oldest from items))
            (taken_of cluster (actor_of known.node (shard_of_key cluster.layout key)) (oldest p.element.moment items)) known.known
            (taken_of-past cluster (actor_of known.node (shard_of_key cluster.layout key)) (oldest from items) (oldest p.element.moment items) later))

    -- the store that is read has applied each writer that had an outcome when the look began
    answered_is_applied : (y : TxnId) (c : Cell) → Answered (notes_of (oldest from items)) y → wrote cluster (oldest read.moment items) y key ≡ Some c
        → Applied cluster (oldest read.moment items) given stands (actor_of read.node (shard_of_key cluster.layout key)) y
    answered_is_applied y c h w =
        applied_there cluster (oldest read.moment items) given stands (actor_of read.node (shard_of_key cluster.layout key)) y
        (subst (λ s. is_applied s (history_at cluster items key read) y ≡ true) here
        (each_among (is_applied (shard_of_key cluster.layout key) (history_at cluster items key read)) ids y told.0 (known_was_told y finished.body updates known)))
      where
        made : Wrote cluster (oldest read.moment items) given y key c
        made = wrote_tells cluster (oldest read.moment items) given y key c w

        among : FinishedAmong cluster (oldest from items) (outcomes_of (notes_of (oldest from items))) y
        among =
            finished_in cluster (oldest from items) (given_then (oldest from items) begun_past) (stands_then (oldest from items) begun_past) (oldest from items)
            (Whole (oldest from items)) y h

        finished : Finished cluster (oldest from items) among.notes y among.outcome
        finished = among.finished

        updates : is_updated finished.body key ≡ true
        updates =
            subst (λ b. is_updated b key ≡ true)
            (some_is made.body finished.body
            (sym made.body_is ∙ (within_past cluster (oldest from items) (oldest read.moment items) begun_before).body y finished.body finished.body_is)) made.updates

        known : KnownThere cluster (oldest from items) y finished.body (shard_of_key cluster.layout key) (is_visited visits)
        known =
            outcomes_are_known cluster (oldest from items) (record { valid = valid; stands = stands_then (oldest from items) begun_past })
            (given_then (oldest from items) begun_past) y finished.body (shard_of_key cluster.layout key) (is_visited visits) h finished.body_is
            (uses_its_shard cluster.layout finished.body key valid.layout updates) asked.majority

    moment : Shown cluster (oldest read.moment items) given stands (actor_of read.node (shard_of_key cluster.layout key)) key here (oldest from items)
    moment =
        shown cluster (oldest read.moment items) given stands (actor_of read.node (shard_of_key cluster.layout key)) key here (oldest from items) (oldest read.moment items)
        answered_is_applied begun_before (Whole (oldest read.moment items))
        (λ y c h w. applied_is_answered cluster (oldest read.moment items) given stands (actor_of read.node (shard_of_key cluster.layout key)) y h)

    shows : serial_cell cluster moment.part key ≡ cell
    shows =
        sym (shows_serial_cell cluster (oldest read.moment items) given stands (actor_of read.node (shard_of_key cluster.layout key)) key here (oldest from items) moment)
        ∙ ap (λ s. cells_at cluster.layout s (history_at cluster items key read) key) (sym here) ∙ told.1

    was_there : WasThere cluster items key from read.moment cell
    was_there =
        record {
          at = length moment.part;
          since = from_part (length_oldest from items (begun_within is_read.since is_read.within)) (past_length (oldest from items) moment.part moment.since);
          until = to_part (length_oldest read.moment items is_read.within) (past_length moment.part (oldest read.moment items) moment.until);
          shows =
              ap (λ part. serial_cell cluster part key)
              (past_is_oldest moment.part items (IsPast-trans moment.part (oldest read.moment items) items moment.until ended_past)) ∙ shows;
        }
      where
        begun_within : from ≤ read.moment → read.moment ≤ length items → from ≤ length items
        begun_within a b = omega arith

        from_part : length (oldest from items) ≡ from → length (oldest from items) ≤ length moment.part → from ≤ length moment.part
        from_part same le = subst (λ n. n ≤ length moment.part) same le

        to_part : length (oldest read.moment items) ≡ read.moment → length moment.part ≤ length (oldest read.moment items) → length moment.part ≤ read.moment
        to_part same le = subst (λ n. length moment.part ≤ n) same le

  pub what_is_read_was_there : (key : Key) (from : ℕ) (visits : List Visit) (ids : List TxnId) (read : Visit) (cell : Option Value) → IsAsked cluster items key from visits ids
      → IsRead cluster items key from ids read cell → WasThere cluster items key from read.moment cell
  what_is_read_was_there key from visits ids read cell asked is_read = was_there key from visits ids read cell asked is_read

  -- what was replied by then is among the first outcomes of every moment since
  replied_is_counted : (from at : ℕ) (a : Answer) → from ≤ at → Contains (replies_of (notes_of (oldest from items))) a
      → Contains (first_outcomes (notes_of (oldest at items))) a
  replied_is_counted from at a since h =
      replies_agree cluster (oldest at items) given (notes_of (oldest at items))
      (run_serial cluster (oldest at items) given (oldest at items) (within_itself cluster (oldest at items)) (stands_then (oldest at items) (oldest_is_past at items))).noted a
      (replies_later (oldest from items) (oldest at items) a (oldest_past from at items since) h)
    where
      given : Premises cluster (oldest at items)
      given = given_then (oldest at items) (oldest_is_past at items)

  pub a_look_sees_what_was_replied : (key : Key) (from : ℕ) (visits : List Visit) (ids : List TxnId) (read : Visit) (cell : Option Value) → IsAsked cluster items key from visits ids
      → IsRead cluster items key from ids read cell → (a : Answer) → Contains (replies_of (notes_of (oldest from items))) a
      → ShowsReplied cluster items key from read.moment cell a
  a_look_sees_what_was_replied key from visits ids read cell asked is_read a h =
      let there = what_is_read_was_there key from visits ids read cell asked is_read in
      record { there = there; counted = replied_is_counted from there.at a there.since h }
