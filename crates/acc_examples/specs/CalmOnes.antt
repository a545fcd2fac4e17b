-- Calm runs, and lists of items that aren't; and lists in which each begun transaction has a reply. Items stand newest first.
use Rattle.std.specs.Prelude.{false, List, [], ◌∷◌}
use Rattle.acc_message.specs.declared.message.Message.{Message}
use Rattle.acc_message.specs.declared.message.Message.TheVariants.{CommitOk}
use Rattle.acc_message.specs.declared.entry.Event.{Event}
use Rattle.acc_message.specs.declared.entry.Event.TheVariants.{Begin, Recover, Slow, Message as Takes, Restart}
use Rattle.acc_message.specs.declared.item.Item.{Item}
use Rattle.acc_message.specs.declared.item.Item.TheVariants.{Step, Skipped, Down}
use Rattle.acc_message.specs.declared.item.Skip.TheVariants.{Begun}
use Rattle.acc_examples.specs.Clusters.{ok}
use Rattle.acc_examples.specs.Actors.{a, b, zero, node_at, store_at}
use Rattle.acc_examples.specs.Noted.{begun, finished, answered, finished_and_answered}

-- a step with this event that sends so many messages
abbrev pub sending : Event → List Message → Item
sending event out =
    Step (record { actor = node_at 1; event = event; emitted = record { notes = []; out = out }; lost = false })

abbrev pub message : Message
message = CommitOk (store_at 1) (node_at 1) a zero

-- nothing; a begin whose two messages are taken, in any order, and one of them twice; a step that was passed over, and a down
abbrev pub calm_ones : List (List Item)
calm_ones =
    []
    ∷ (sending (Takes 0) [] ∷ sending (Takes 1) [] ∷ sending (Takes 0) [] ∷ sending (Begin 0) (message ∷ message ∷ []) ∷ [])
    ∷ (sending (Takes 1) [] ∷ sending (Takes 0) (message ∷ []) ∷ sending (Begin 0) (message ∷ []) ∷ [])
    ∷ (Skipped 0 (Begun 0) ∷ Down (node_at 1) ∷ sending (Begin 0) [] ∷ [])
    ∷ []

-- a restart, a recover or a slow, last or earlier; the first or the last of the messages isn't taken
abbrev pub not_calm_ones : List (List Item)
not_calm_ones =
    (sending (Restart 0) [] ∷ [])
    ∷ (sending (Recover 0) [] ∷ sending (Begin 0) [] ∷ [])
    ∷ (sending (Slow 0) [] ∷ sending (Begin 0) [] ∷ [])
    ∷ (sending (Takes 0) [] ∷ sending (Restart 0) [] ∷ sending (Begin 0) (message ∷ []) ∷ [])
    ∷ (sending (Begin 0) (message ∷ []) ∷ [])
    ∷ (sending (Takes 1) [] ∷ sending (Begin 0) (message ∷ message ∷ []) ∷ [])
    ∷ (sending (Takes 0) [] ∷ sending (Begin 0) (message ∷ message ∷ []) ∷ [])
    ∷ (sending (Takes 0) (message ∷ []) ∷ sending (Begin 0) (message ∷ []) ∷ [])
    ∷ []

-- nothing is begun; each begun one has its reply
abbrev pub answered_ones : List (List Item)
answered_ones =
    []
    ∷ (answered a (ok []) ∷ begun 0 a ∷ [])
    ∷ (answered a (ok []) ∷ finished_and_answered b (ok []) ∷ begun 1 b ∷ begun 0 a ∷ [])
    ∷ []

-- none has; only one has; it is decided alone, or has an outcome alone
abbrev pub unanswered_ones : List (List Item)
unanswered_ones =
    (begun 0 a ∷ [])
    ∷ (answered a (ok []) ∷ begun 1 b ∷ begun 0 a ∷ [])
    ∷ (answered b (ok []) ∷ begun 1 b ∷ begun 0 a ∷ [])
    ∷ (finished a (ok []) ∷ begun 0 a ∷ [])
    ∷ []
