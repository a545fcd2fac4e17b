-- What a record tells of a transaction, where it is known, and where it isn't.
use Rattle.std.proofs.Common.{◌≡◌, ◌∙◌, ap, refl, List, Option, None, Some}
use Rattle.std.specs.Option.{option_map}
use Rattle.acc_stamp.specs.declared.stamps.TxnId.{TxnId}
use Rattle.acc_stamp.specs.Actor.{shard_of}
use Rattle.acc_topology.specs.Layout.{Layout}
use Rattle.acc_txn.specs.declared.parts.BodyParts.{BodyParts}
use Rattle.acc_message.specs.declared.message.Message.{Message}
use Rattle.acc_message.specs.Taken.{body_known}
use Rattle.acc_message.specs.StoreRules.{replay}
use Rattle.acc_record.specs.declared.record.Record.{Record}
use Rattle.acc_record.specs.declared.shelf.Shelf.{Shelf}
use Rattle.acc_record.specs.Shelf.{record_at}
use Rattle.acc_record.specs.Stands.{StandsFor, record_with}
use Rattle.acc_record.proofs.Resting.{IsUntouched, untouched}

pub kept_field : (layout : Layout) (shelf : Shelf) (messages : List Message) (stands : StandsFor layout shelf (replay layout shelf.actor messages))
    {T : Type 0} (of_record : Option Record → T) (rules : T) (y : TxnId)
    → ((body : BodyParts) → of_record (Some (record_with (shard_of shelf.actor) (replay layout shelf.actor messages) y body)) ≡ rules)
    → (IsUntouched (replay layout shelf.actor messages) y → of_record None ≡ rules) → of_record (record_at shelf.records y) ≡ rules
kept_field layout shelf messages stands of_record rules y known unknown =
    ap of_record (stands.records y) ∙ by (body_known (replay layout shelf.actor messages) y) refl
  where
    by : (o : Option BodyParts) → body_known (replay layout shelf.actor messages) y ≡ o
        → of_record (option_map (record_with (shard_of shelf.actor) (replay layout shelf.actor messages) y) o) ≡ rules
    by (Some body) is = known body
    by None is = unknown (untouched layout shelf.actor messages y is)
