-- Which entries of an actor may be marked lost, what may follow a down, and, where entries are lost, how messages are numbered
-- and what an actor took.
-- Items stand newest first.
use Rattle.std.specs.Prelude.{ℕ, Bool, true, false, List, [], ◌∷◌, Option, map}
use Rattle.acc_stamp.specs.declared.actors.Actor.{Actor}
use Rattle.acc_message.specs.declared.message.Message.{Message}
use Rattle.acc_message.specs.declared.message.Message.TheVariants.{CommitOk}
use Rattle.acc_message.specs.declared.entry.Event.{Event}
use Rattle.acc_message.specs.declared.entry.Event.TheVariants.{Message as Takes, Restart}
use Rattle.acc_message.specs.declared.item.Item.{Item}
use Rattle.acc_message.specs.declared.item.Item.TheVariants.{Step, Skipped, Down}
use Rattle.acc_message.specs.declared.item.Skip.TheVariants.{Begun}
use Rattle.acc_message.specs.Items.{message_at}
use Rattle.acc_message.specs.Taken.{Taken}
use Rattle.acc_message.specs.Run.{Cluster, taken_of, lost_fit, downs_end}
use Rattle.acc_examples.specs.Actors.{three, a, zero, node_at, store_at}

abbrev pub own : Actor
own = store_at 1

abbrev pub entry : Actor → Event → Bool → List Message → Item
entry actor event lost out = Step (record { actor = actor; event = event; emitted = record { notes = []; out = out }; lost = lost })

-- the actor took a message, and its messages went out, or were lost; and it came back
abbrev pub took : Item
took = entry own (Takes 0) false []

abbrev pub lost : Item
lost = entry own (Takes 0) true []

abbrev pub back : ℕ → Item
back kept = entry own (Restart kept) false []

abbrev pub went_down : Item
went_down = Down own

-- another actor took a message
abbrev pub other_took : Item
other_took = entry (store_at 2) (Takes 0) false []

-- the lost ones are those right in front of a restart that kept so many
abbrev pub marked_well : List (List Item)
marked_well =
    (took ∷ took ∷ [])
    ∷ (took ∷ back 1 ∷ lost ∷ took ∷ [])
    ∷ (back 2 ∷ lost ∷ lost ∷ [])
    ∷ (back 1 ∷ other_took ∷ lost ∷ other_took ∷ [])
    ∷ (back 1 ∷ Skipped 0 (Begun 0) ∷ lost ∷ went_down ∷ [])
    ∷ (back 0 ∷ back 1 ∷ lost ∷ [])
    ∷ []

abbrev pub marked_badly : List (List Item)
marked_badly =
    (lost ∷ [])
    ∷ (back 0 ∷ lost ∷ [])
    ∷ (back 1 ∷ took ∷ [])
    ∷ (back 2 ∷ lost ∷ [])
    ∷ (back 2 ∷ lost ∷ took ∷ lost ∷ [])
    ∷ (back 1 ∷ lost ∷ lost ∷ [])
    ∷ (back 1 ∷ went_down ∷ lost ∷ [])
    ∷ (back 0 ∷ took ∷ back 0 ∷ lost ∷ [])
    ∷ []

abbrev pub fits : List (List Item) → List Bool
fits lists = map (λ items. lost_fit own 0 items) lists

-- an actor that is down has downs, then lost entries, then its restart
abbrev pub down_well : List (List Item)
down_well =
    (went_down ∷ took ∷ [])
    ∷ (went_down ∷ went_down ∷ [])
    ∷ (took ∷ back 1 ∷ lost ∷ went_down ∷ went_down ∷ [])
    ∷ (other_took ∷ went_down ∷ [])
    ∷ []

abbrev pub down_badly : List (List Item)
down_badly =
    (took ∷ went_down ∷ [])
    ∷ (took ∷ other_took ∷ went_down ∷ [])
    ∷ (took ∷ lost ∷ went_down ∷ [])
    ∷ (took ∷ went_down ∷ back 0 ∷ went_down ∷ [])
    ∷ []

abbrev pub end_well : List (List Item) → List Bool
end_well lists = map downs_end lists

-- ---- numbers

abbrev pub message_of : ℕ → Message
message_of node = CommitOk (store_at node) (node_at 1) a zero

-- three messages, of which the second entry's was lost
abbrev pub sending : List Item
sending =
    entry own (Takes 0) false (message_of 3 ∷ [])
    ∷ back 1
    ∷ entry own (Takes 0) true (message_of 2 ∷ [])
    ∷ entry own (Takes 0) false (message_of 1 ∷ [])
    ∷ []

abbrev pub numbered : List (Option Message)
numbered = map (message_at sending) (0 ∷ 1 ∷ 2 ∷ 3 ∷ [])

-- ---- what the actor took

abbrev pub cluster : Cluster
cluster = record { layout = three; starts = []; homes = []; bodies = [] }

-- the messages that it took, those of lost entries too. The first entry's number stands for no message
abbrev pub taken : List Taken
taken = taken_of cluster own sending

abbrev pub took_both : List Taken
took_both =
    record { message = message_of 1; sent = message_of 3 ∷ [] }
    ∷ record { message = message_of 1; sent = message_of 2 ∷ [] }
    ∷ []
