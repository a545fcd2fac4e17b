-- A store's cell of a key is what the latest of the writers that it has applied wrote.
use Rattle.std.proofs.Common.{◌≡◌, true, List, Some, is_some, sym, subst}
use Rattle.std.proofs.lemmas.Bool.{and_parts, or_right}
use Rattle.acc_stamp.specs.declared.stamps.TxnId.{TxnId}
use Rattle.acc_stamp.specs.declared.actors.Actor.{Actor}
use Rattle.acc_stamp.specs.Actor.{shard_of}
use Rattle.acc_stamp.specs.Stamp.{stamp_lt}
use Rattle.acc_topology.specs.Keys.{shard_of_key}
use Rattle.acc_value.specs.declared.key.Key.{Key}
use Rattle.acc_value.specs.Pairs.{find}
use Rattle.acc_txn.specs.Uses.{is_read}
use Rattle.acc_message.specs.declared.item.Item.{Item}
use Rattle.acc_message.specs.Items.{notes_of}
use Rattle.acc_message.specs.BallotRules.{kept_outcome}
use Rattle.acc_message.specs.Opening.{is_opened, is_applied, cells_at}
use Rattle.acc_message.specs.Run.{Cluster, taken_of, EachStands}
use Rattle.acc_safety_laws.proofs.Cell.{Cell}
use Rattle.acc_safety_laws.proofs.Latest.{IsLatest}
use Rattle.acc_safety_laws.proofs.Timeline.{AppliedIn, below_is_applied, applied_is_opened, left_is_latest}
use Rattle.acc_safety_laws.proofs.StoreChanges.{timeline, EachCovered, Told, history_told, some_value}
use Rattle.acc_safety_laws.proofs.StoreReads.{writes, cells_are}
use Rattle.acc_safety_laws.proofs.StoreRight.{IsSound, AllSound, history_finished, each_covered, each_kept, writing}
use Rattle.acc_safety_laws.proofs.Notions.{time_of, outcome_first, wrote, Below, Answered}
use Rattle.acc_safety_laws.proofs.Facts.{Premises, wrote_tells, writer_below}
use Rattle.acc_safety_laws.proofs.Parts.{within_itself, each_taken}
use Rattle.acc_safety_laws.proofs.SerialRuns.{IsSerialRun, sound, run_serial}

module _ (cluster : Cluster) (whole : List Item) (given : Premises cluster whole) (stands : EachStands cluster whole) where
  -- ---- what a store took is right

  run : IsSerialRun cluster whole given whole
  run = run_serial cluster whole given whole (within_itself cluster whole) stands

  module _ (own : Actor) where
    each_sound : AllSound cluster whole (notes_of whole) (taken_of cluster own whole)
    each_sound = each_taken (IsSound cluster whole (notes_of whole)) cluster own whole stands (sound cluster whole given whole stands (within_itself cluster whole) run.messages)

    covered : EachCovered (shard_of own) (Below cluster whole (shard_of own)) (taken_of cluster own whole)
    covered = each_covered cluster whole given (notes_of whole) (shard_of own) (taken_of cluster own whole) each_sound

    told : Told (shard_of own) (Below cluster whole (shard_of own)) (taken_of cluster own whole)
    told = history_told (shard_of own) (Below cluster whole (shard_of own)) (taken_of cluster own whole) covered

    -- the store has applied x
    abbrev pub Applied : TxnId → Type 0
    Applied x = AppliedIn (timeline (shard_of own) (taken_of cluster own whole)) x

    pub applied_there : (x : TxnId) → is_applied (shard_of own) (taken_of cluster own whole) x ≡ true → Applied x
    applied_there x h =
        let parts = and_parts (is_opened (shard_of own) (taken_of cluster own whole) x) (is_some (kept_outcome (taken_of cluster own whole) x)) h in
        told.applied x parts.0 parts.1

    pub applied_is_answered : (x : TxnId) → Applied x → Answered (notes_of whole) x
    applied_is_answered x h =
        let o = some_value (kept_outcome (taken_of cluster own whole) x) (told.tells x h).1 in
        (history_finished cluster whole given (notes_of whole) (taken_of cluster own whole) x o.0 each_sound o.1).noted

    -- what is below an applied one is applied
    pub applied_below : (y x : TxnId) → Below cluster whole (shard_of own) y x → Applied x → Applied y
    applied_below y x b h =
        below_is_applied (Below cluster whole (shard_of own)) (timeline (shard_of own) (taken_of cluster own whole)) x y told.turns
        (applied_is_opened (Below cluster whole (shard_of own)) (timeline (shard_of own) (taken_of cluster own whole)) x told.turns h) b

    -- ---- cells

    -- what is applied writes what its outcome says
    applied_writes : (y : TxnId) (key : Key) → shard_of_key cluster.layout key ≡ shard_of own → Applied y
        → find (writes cluster.layout own (Below cluster whole (shard_of own)) (outcome_first cluster whole) y) key ≡ wrote cluster whole y key
    applied_writes y key here h = writing cluster whole given (notes_of whole) own (taken_of cluster own whole) each_sound y key here (told.tells y h).1

    -- of two that wrote a key of the shard the one with the smaller timestamp is below the other
    pub writers_meet : (key : Key) → shard_of_key cluster.layout key ≡ shard_of own → (y z : TxnId) (c d : Cell) → wrote cluster whole y key ≡ Some c
        → wrote cluster whole z key ≡ Some d → stamp_lt (time_of cluster whole y) (time_of cluster whole z) ≡ true → Below cluster whole (shard_of own) y z
    writers_meet key here y z c d v w earlier =
        let w' = wrote_tells cluster whole given z key d w in
        subst (λ s. Below cluster whole s y z) here
        (writer_below cluster whole given y z w'.body key c v w'.body_is (or_right (is_read w'.body key) _ w'.updates) w'.decided earlier)

    pub cell_is_latest : (key : Key) → shard_of_key cluster.layout key ≡ shard_of own
        → IsLatest (time_of cluster whole) (wrote cluster whole) Applied key (cells_at cluster.layout (shard_of own) (taken_of cluster own whole) key)
    cell_is_latest key here =
        subst (λ (cells : Key → Cell). IsLatest (time_of cluster whole) (wrote cluster whole) Applied key (cells key))
        (sym (cells_are cluster.layout own (Below cluster whole (shard_of own)) (outcome_first cluster whole) (taken_of cluster own whole)
        covered (each_kept cluster whole given (notes_of whole) own (taken_of cluster own whole) each_sound)))
        (left_is_latest (Below cluster whole (shard_of own)) (time_of cluster whole) (wrote cluster whole)
        (writes cluster.layout own (Below cluster whole (shard_of own)) (outcome_first cluster whole)) key
        (timeline (shard_of own) (taken_of cluster own whole)) told.turns (λ y h. applied_writes y key here h) (writers_meet key here))
