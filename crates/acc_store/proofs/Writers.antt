-- The writers that the index has are those that the rules know.
use Rattle.std.proofs.Common.{◌≡◌, ℕ, true, List, Result, Ok, Err, IfOk, map, refl, sym, ap, subst, ◌∙◌, arith}
use Rattle.std.specs.List.{Contains, filter}
use Rattle.acc_stamp.specs.declared.stamps.TxnId.{TxnId}
use Rattle.acc_stamp.specs.Actor.{shard_of}
use Rattle.acc_lanes.proofs.Members.{Contains-filter, Contains-from_filter, Contains-map, Contains-from_map}
use Rattle.acc_topology.specs.Layout.{Layout}
use Rattle.acc_topology.specs.Keys.{share_of}
use Rattle.acc_value.specs.declared.key.Key.{Key}
use Rattle.acc_value.specs.Footprint.{is_written}
use Rattle.acc_txn.specs.Uses.{footprint_of}
use Rattle.acc_index.specs.Noted.{Noted, writer_ids}
use Rattle.acc_index.proofs.Ids.{same_names}
use Rattle.acc_message.specs.declared.message.Message.{Message}
use Rattle.acc_message.specs.Taken.{Taken, Heard, known}
use Rattle.acc_message.specs.StoreRules.{replay}
use Rattle.acc_record.specs.declared.shelf.Shelf.{Shelf}
use Rattle.acc_record.specs.Stands.{IsStampOf, noted_as, IsCovered, AreStamps, StandsFor}
use Rattle.acc_record.proofs.KnownOnes.{heard_there, known_told}
use Rattle.acc_store.specs.Queries.{writes_here, known_writers}

module _ (layout : Layout) (shard : ℕ) (history : List Taken) (noted : List Noted) (stamps : AreStamps layout shard history noted) (key : Key) where
  abbrev from_noted : List Noted
  from_noted = filter (λ (t : Noted). is_written t.share key) noted

  abbrev from_heard : List Heard
  from_heard = filter (writes_here layout shard key) (known history)

  heard : (y : TxnId) → (n : Noted) × Contains from_noted n × (n.id ≡ y) → Contains (map (λ (k : Heard). k.id) from_heard) y
  heard y q =
      let f = Contains-from_filter (λ (t : Noted). is_written t.share key) noted q.0 q.1 in
      let s : IsStampOf layout shard history q.0 = stamps.only q.0 f.0 in
      let k : Heard = record { id = q.0.id; body = s.body } in
      let writes : writes_here layout shard key k ≡ true = ap (λ (z : Noted). is_written z.share key) (sym s.is) ∙ f.1 in
      subst (Contains (map (λ (k : Heard). k.id) from_heard)) q.2
      (Contains-map (λ (k : Heard). k.id) from_heard k
      (Contains-filter (writes_here layout shard key) (known history) k (heard_there q.0.id s.body (known history) s.known) writes))

  noted_one : (y : TxnId) → (k : Heard) × Contains from_heard k × (k.id ≡ y) → Contains (map (λ (t : Noted). t.id) from_noted) y
  noted_one y q =
      let f = Contains-from_filter (writes_here layout shard key) (known history) q.0 q.1 in
      let c : IsCovered noted q.0.id (share_of layout (footprint_of q.0.body) shard) q.0.id.0 = stamps.all q.0.id q.0.body q.0.id.0 (known_told history q.0 f.0) (0, omega arith, refl) in
      let n : Noted = noted_as layout shard q.0.id q.0.body c.by in
      subst (Contains (map (λ (t : Noted). t.id) from_noted)) q.2
      (Contains-map (λ (t : Noted). t.id) from_noted n (Contains-filter (λ (t : Noted). is_written t.share key) noted n c.there f.1))

  pub same_writers : writer_ids noted key ≡ known_writers layout shard history key
  same_writers =
      same_names (map (λ (t : Noted). t.id) from_noted) (map (λ (k : Heard). k.id) from_heard)
      ((λ y c. heard y (Contains-from_map (λ (t : Noted). t.id) from_noted y c)), (λ y c. noted_one y (Contains-from_map (λ (k : Heard). k.id) from_heard y c)))

pub told : {E : Type 0} (shelf : Shelf) (key : Key) (result : Result (List TxnId) E) → IfOk result (λ ids. ids ≡ writer_ids shelf.index key)
    → IfOk result (λ ids. (layout : Layout) (messages : List Message) → StandsFor layout shelf (replay layout shelf.actor messages)
    → ids ≡ known_writers layout (shard_of shelf.actor) (replay layout shelf.actor messages) key)
told shelf key (Ok ids) e =
    λ layout messages stands. e ∙ same_writers layout (shard_of shelf.actor) (replay layout shelf.actor messages) shelf.index stands.index key
told shelf key (Err e) h = tt
