-- Agreement: the decisions of one transaction have one timestamp, those of different ones different timestamps.
use Rattle.std.specs.Prelude.{◌≡◌, ◌≢◌, List, Contains}
use Rattle.acc_message.specs.declared.item.Item.{Item}
use Rattle.acc_message.specs.Items.{notes_of}
use Rattle.acc_safety.specs.Decisions.{Decision, decisions_of}

pub record Agrees (a b : Decision) : Type 0 where
  pub same : a.id ≡ b.id → a.t ≡ b.t
  pub different : a.id ≢ b.id → a.t ≢ b.t

abbrev pub Agreement : List Item → Type 0
Agreement items =
    (a b : Decision) → Contains (decisions_of (notes_of items)) a → Contains (decisions_of (notes_of items)) b → Agrees a b
