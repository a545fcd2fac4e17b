-- Induction over the prefixes of a run: a message stands on those that were sent before it.
use Rattle.std.proofs.Common.{List, [], ◌∷◌}
use Rattle.acc_stamp.specs.declared.actors.Actor.{Actor}
use Rattle.acc_message.specs.declared.message.Message.{Message}
use Rattle.acc_message.specs.declared.item.Item.{Item}
use Rattle.acc_message.specs.Taken.{Taken}
use Rattle.acc_message.specs.Run.{Cluster, deeds_of, taken_of, EachStands}
use Rattle.acc_safety.specs.Places.{StandsAt, Here, Back, IsPast, Whole, Behind}
use Rattle.acc_safety.specs.Histories.{Sending}
use Rattle.acc_safety.specs.Attempted.{Took}
use Rattle.acc_safety.proofs.PlaceOrder.{StandsAt-IsPast, IsPast-rest}
use Rattle.acc_safety.proofs.Bridge.{store_step, node_step, taken_was_sent}

-- these items are those without at least the newest one
abbrev pub IsBefore : List Item → List Item → Type 0
IsBefore past [] = ⊥
IsBefore past (item ∷ rest) = IsPast past rest

pub IsBefore-past : (past items : List Item) → IsBefore past items → IsPast past items
IsBefore-past past [] h = absurd h
IsBefore-past past (item ∷ rest) h = Behind item past rest h

-- what stands in front of an item is before the whole
pub at_before : (item : Item) (earlier items : List Item) → StandsAt item earlier items → IsBefore earlier items
at_before item earlier items (Here i past) = Whole past
at_before item earlier items (Back i j past rest there) = IsPast-rest i past rest (StandsAt-IsPast i past rest there)

-- a message of an item that some items before the whole sent
pub record SentBefore (items : List Item) (m : Message) : Type 0 where
  pub past : List Item
  pub before : IsBefore past items
  pub sending : Sending past m

-- what a store took was sent before
pub store_took_before : (cluster : Cluster) (a : Actor) (items : List Item) → EachStands cluster items → (step : Taken) (past : List Taken)
    → StandsAt step past (taken_of cluster a items) → SentBefore items step.message
store_took_before cluster a items h step past at =
    let s = store_step cluster a items h step past at in
    record { past = s.earlier; before = at_before _ s.earlier items s.at; sending = s.sending }

-- what a node took was sent before
pub node_took_before : (cluster : Cluster) (a : Actor) (items : List Item) → EachStands cluster items → (m : Message)
    → Took (deeds_of cluster a items) m → SentBefore items m
node_took_before cluster a items h m t =
    let n = node_step cluster a items h t.deed t.past t.at in
    let was = taken_was_sent cluster a items t.deed t.past m n t.act_is in
    record { past = n.earlier; before = at_before _ n.earlier items n.at; sending = was.sending }

module _ (cluster : Cluster) (P : Message → Type 0)
    (step : (items : List Item) → EachStands cluster items → ((m : Message) → SentBefore items m → P m) → (m : Message) → Sending items m → P m) where
  no_sending : (m : Message) → Sending [] m → P m
  no_sending m s = elim s.at [ ]

  -- of all prefixes at once
  each_past : (items : List Item) → EachStands cluster items → (past : List Item) → IsPast past items → (m : Message) → Sending past m → P m
  each_past [] h past (Whole xs) m s = no_sending m s
  each_past (item ∷ rest) h past (Whole xs) m s =
      step (item ∷ rest) h (λ n b. each_past rest h.1 b.past b.before n b.sending) m s
  each_past (item ∷ rest) h past (Behind y ys xs there) m s = each_past rest h.1 ys there m s

  -- what holds of a message where it holds of all that was sent before holds of each
  pub each_message : (items : List Item) → EachStands cluster items → (m : Message) → Sending items m → P m
  each_message items h m s = each_past items h items (Whole items) m s
