-- What the records tell of applied transactions is what the rules tell.
use Rattle.std.proofs.Common.{◌≡◌, ℕ, Bool, ◌&&◌, cond, is_some, List, [], ◌∷◌, Option, None, Some, refl, sym, ap, ◌∙◌}
use Rattle.std.specs.List.{list_all}
use Rattle.std.specs.Option.{option_map}
use Rattle.acc_stamp.specs.declared.stamps.TxnId.{TxnId}
use Rattle.acc_stamp.specs.Actor.{shard_of}
use Rattle.acc_topology.specs.Layout.{Layout}
use Rattle.acc_value.specs.declared.key.Key.{Key}
use Rattle.acc_txn.specs.declared.parts.BodyParts.{BodyParts}
use Rattle.acc_message.specs.declared.message.Message.{Message}
use Rattle.acc_message.specs.Taken.{Taken, body_known}
use Rattle.acc_message.specs.BallotRules.{kept_outcome}
use Rattle.acc_message.specs.Opening.{is_applied}
use Rattle.acc_message.specs.StoreRules.{replay}
use Rattle.acc_record.specs.declared.shelf.Shelf.{Shelf}
use Rattle.acc_record.specs.Shelf.{record_at, cell_at}
use Rattle.acc_record.specs.Stands.{StandsFor, record_with}
use Rattle.acc_record.proofs.Resting.{IsUntouched, untouched, unstable_closed}
use Rattle.acc_store.specs.Queries.{applied_in, all_applied_at, cell_if_applied}

module _ (layout : Layout) (shelf : Shelf) (messages : List Message) (stands : StandsFor layout shelf (replay layout shelf.actor messages)) where
  abbrev history : List Taken
  history = replay layout shelf.actor messages

  abbrev shard : ℕ
  shard = shard_of shelf.actor

  applied_by : (y : TxnId) (o : Option BodyParts) → body_known history y ≡ o → applied_in (option_map (record_with shard history y) o) ≡ is_applied shard history y
  applied_by y (Some body) is = refl
  applied_by y None is =
      let u : IsUntouched history y = untouched layout shelf.actor messages y is in
      sym (ap (λ b. b && is_some (kept_outcome history y)) (unstable_closed shard history y u.stable))

  applied_one : (y : TxnId) → applied_in (record_at shelf.records y) ≡ is_applied shard history y
  applied_one y = ap applied_in (stands.records y) ∙ applied_by y (body_known history y) refl

  all_alike : (ids : List TxnId) → all_applied_at shelf ids ≡ list_all (is_applied shard history) ids
  all_alike [] = refl
  all_alike (y ∷ ids) = λ i. applied_one y i && all_alike ids i

  read_by_rules : (ids : List TxnId) (key : Key)
      → cond (all_applied_at shelf ids) (Some (cell_at shelf.cells key)) None ≡ cell_if_applied layout shard history ids key
  read_by_rules ids key = λ i. cond (all_alike ids i) (Some (stands.cells key i)) None

  pub told_if_applied : (ids : List TxnId) (key : Key) (b : Bool) → b ≡ all_applied_at shelf ids
      → cond b (Some (cell_at shelf.cells key)) None ≡ cell_if_applied layout shard history ids key
  told_if_applied ids key b e = ap (λ v. cond v (Some (cell_at shelf.cells key)) None) e ∙ read_by_rules ids key
