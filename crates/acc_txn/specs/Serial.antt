-- Bodies in turn, each on the cells that those before it have left.
use Rattle.std.specs.Prelude.{List, [], ◌∷◌, Option, None}
use Rattle.acc_value.specs.declared.key.Key.{Key}
use Rattle.acc_value.specs.declared.value.Value.{Value}
use Rattle.acc_value.specs.Cells.{applied}
use Rattle.acc_txn.specs.declared.parts.BodyParts.{BodyParts}
use Rattle.acc_txn.specs.declared.outcome.Reply.{Reply}
use Rattle.acc_txn.specs.Meaning.{outcome_of}

-- the cells after a body
abbrev pub map_after : (Key → Option Value) → BodyParts → Key → Option Value
map_after cells body = applied cells (outcome_of body cells).writes

-- the replies of bodies that are run one by one, from these cells on
abbrev pub replies_from : (Key → Option Value) → List BodyParts → List Reply
replies_from cells [] = []
replies_from cells (body ∷ bodies) = (outcome_of body cells).reply ∷ replies_from (map_after cells body) bodies

-- the replies of bodies in turn, from the map on which every cell is null
abbrev pub serial : List BodyParts → List Reply
serial bodies = replies_from (λ _. None) bodies
