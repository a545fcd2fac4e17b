-- The messages that the items of a list sent, in the order of their numbers, and which of them are still to be taken.
use Rattle.std.specs.Prelude.{◌≡◌, ℕ, ◌+◌, ◌<◌, ◌≤◌, ◌==◌, not, Bool, true, false, List, [], ◌∷◌, ◌++◌, length, map, Option, None, Some, slice_get, sum_by, take}
use Rattle.std.specs.List.{list_any}
use Rattle.acc_message_index.specs.declared.posting.Posting.{Posting}
use Rattle.acc_message_index.specs.declared.posting.Post.{Post}

-- a message with this number was taken
abbrev pub is_number : ℕ → Option ℕ → Bool
is_number n None = false
is_number n (Some m) = m == n

-- the messages of an item from the one at `index` on, open where they aren't lost
abbrev pub messages_from : ℕ → ℕ → Bool → List ℕ → List Posting
messages_from place index lost [] = []
messages_from place index lost (to ∷ others) = record { to = to; place = place; index = index; is_open = not lost } ∷ messages_from place (index + 1) lost others

-- the messages of items of which the first has this place
abbrev pub messages_of : {E : Type 0} → (E → List ℕ) → (E → Bool) → ℕ → List E → List Posting
messages_of sent_to is_lost place [] = []
messages_of sent_to is_lost place (item ∷ items) = messages_from place 0 (is_lost item) (sent_to item) ++ messages_of sent_to is_lost (place + 1) items

-- some item took the message with this number
abbrev pub is_taken : {E : Type 0} → (E → Option ℕ) → List E → ℕ → Bool
is_taken took items n = list_any (λ item. is_number n (took item)) items

module _ {E : Type 0} (took : E → Option ℕ) (sent_to : E → List ℕ) (is_lost : E → Bool) where
  -- the message with this number goes to the actor, isn't lost, and no item took it
  abbrev pub IsWaiting : List E → ℕ → ℕ → Type 0
  IsWaiting items actor n = (message : Posting) × (slice_get (messages_of sent_to is_lost 0 items) n ≡ Some message) × (message.to ≡ actor) × (message.is_open ≡ true) × (is_taken took items n ≡ false)

  -- no message waits for the actor whose number is at least `from`
  abbrev pub HasNone : List E → ℕ → ℕ → Type 0
  HasNone items actor from = (n : ℕ) → from ≤ n → ¬ IsWaiting items actor n

  -- this is the oldest message that waits for the actor and whose number is at least `from`: the item at its place sent it to the actor as its message `index`
  pub record IsOldest (items : List E) (actor from : ℕ) (post : Post) : Type 0 where
    pub late_enough : from ≤ post.number
    pub waits : IsWaiting items actor post.number
    pub oldest : (n : ℕ) → from ≤ n → n < post.number → ¬ IsWaiting items actor n
    pub stands : (item : E) × (slice_get items post.place ≡ Some item) × (slice_get (sent_to item) post.index ≡ Some actor) × (post.number ≡ sum_by (λ i. length (sent_to i)) (take post.place items) + post.index)

  -- these are the oldest such messages, in their order
  abbrev pub AreOldest : List E → ℕ → ℕ → List Post → Type 0
  AreOldest items actor from [] = Unit {0}
  AreOldest items actor from (post ∷ posts) = IsOldest items actor from post × AreOldest items actor (post.number + 1) posts

-- the number after the one of the last message, or `from` where there is none
abbrev pub behind_all : ℕ → List Post → ℕ
behind_all from [] = from
behind_all from (post ∷ posts) = behind_all (post.number + 1) posts

abbrev pub behind_last : Option ℕ → ℕ
behind_last None = 0
behind_last (Some number) = number + 1

-- messages with where they stand
abbrev pub posts_in : {M : Type 0} → List (Post × M) → List Post
posts_in found = map (λ pair. pair.0) found

-- the item at its place sent the message
abbrev pub IsSentBy : {E M : Type 0} → (E → ℕ → M → Type 0) → List E → Post × M → Type 0
IsSentBy {E} is_sent items pair = (item : E) × (slice_get items pair.0.place ≡ Some item) × is_sent item pair.0.index pair.1
