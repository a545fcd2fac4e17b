-- What a shelf answers at once is what the rules answer.
use Rattle.std.proofs.Common.{◌≡◌, ℕ, cond, List, [], ◌∷◌, Option, None, Some, refl, sym, ap, ◌∙◌}
use Rattle.acc_stamp.specs.declared.stamps.TxnId.{TxnId}
use Rattle.acc_stamp.specs.declared.stamps.Ballot.{Ballot}
use Rattle.acc_stamp.specs.Actor.{shard_of}
use Rattle.acc_topology.specs.Layout.{Layout}
use Rattle.acc_txn.specs.declared.parts.BodyParts.{BodyParts}
use Rattle.acc_value.specs.declared.key.Key.{Key}
use Rattle.acc_value.specs.declared.value.Value.{Value}
use Rattle.acc_message.specs.declared.message.Message.{Message}
use Rattle.acc_message.specs.Taken.{Taken, body_known}
use Rattle.acc_message.specs.BallotRules.{kept_outcome}
use Rattle.acc_message.specs.Opening.{is_opened, cells_at}
use Rattle.acc_message.specs.StoreRules.{replay, read_ok, read_by, kept_or, at_once}
use Rattle.acc_record.specs.declared.shelf.Shelf.{Shelf}
use Rattle.acc_record.specs.Shelf.{cell_at}
use Rattle.acc_record.specs.Stands.{StandsFor, record_with}
use Rattle.std.specs.Option.{option_map}
use Rattle.acc_record.proofs.Resting.{unstable_closed, untouched}
use Rattle.acc_execute.specs.Now.{at_once_by, at_once_of}

module _ (layout : Layout) (shelf : Shelf) (messages : List Message) (stands : StandsFor layout shelf (replay layout shelf.actor messages)) (x : TxnId) (b : Ballot) where
  abbrev past : List Taken
  past = replay layout shelf.actor messages

  abbrev shard : ℕ
  shard = shard_of shelf.actor

  abbrev answered : Option BodyParts → (Key → Option Value) → List Message
  answered body cells =
      cond (is_opened shard past x) (read_ok shelf.actor x b (kept_or (kept_outcome past x) (read_by layout shard body cells)) ∷ []) []

  cells_are : cell_at shelf.cells ≡ cells_at layout shard past
  cells_are = λ i key. stands.cells key i

  by_body : (o : Option BodyParts) → body_known past x ≡ o
      → at_once_by layout shelf x b (option_map (record_with shard past x) o) ≡ at_once layout shelf.actor past x b
  by_body (Some body) is = ap (answered (Some body)) cells_are ∙ ap (λ o. answered o (cells_at layout shard past)) (sym is)
  by_body None is =
      sym (ap (λ v. cond v (read_ok shelf.actor x b (kept_or (kept_outcome past x) (read_by layout shard (body_known past x) (cells_at layout shard past))) ∷ []) [])
      (unstable_closed shard past x (untouched layout shelf.actor messages x is).stable))

  pub now_is : at_once_of layout shelf x b ≡ at_once layout shelf.actor past x b
  now_is = ap (at_once_by layout shelf x b) (stands.records x) ∙ by_body (body_known past x) refl
