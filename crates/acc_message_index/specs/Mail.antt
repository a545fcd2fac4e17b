-- Messages in the order of their numbers, and which of them are open.
use Rattle.std.specs.Prelude.{◌≡◌, ℕ, ◌<◌, ◌≤◌, true, false, cond, List, [], ◌∷◌, ◌++◌, length, nat_lt}
use Rattle.std.specs.List.{slice_index_or, slice_set}
use Rattle.acc_message_index.specs.declared.posting.Posting.{Posting}
use Rattle.acc_message_index.specs.declared.posting.Post.{Post}

-- the messages that were sent, the numbers that were taken before they were sent, and the room for more messages and takings
pub record Mail : Type 0 where
  pub sent : List Posting
  pub early : List ℕ
  pub room : ℕ
  pub takings : ℕ

abbrev pub nothing : Posting
nothing = record { to = 0; place = 0; index = 0; is_open = false }

abbrev pub posting_at : List Posting → ℕ → Posting
posting_at sent number = slice_index_or sent number nothing

-- the messages after the one with this number, if there is one, was taken
abbrev pub taken : ℕ → List Posting → List Posting
taken number sent = slice_set sent number (record (posting_at sent number) { is_open = false })

-- the numbers that were taken before they were sent, after one more was taken
abbrev pub early_after : ℕ → Mail → List ℕ
early_after number mail = cond (nat_lt number (length mail.sent)) mail.early (mail.early ++ number ∷ [])

-- the message with this number goes to the actor and is open
abbrev pub IsOpenTo : List Posting → ℕ → ℕ → Type 0
IsOpenTo sent actor number = (number < length sent) × ((posting_at sent number).to ≡ actor) × ((posting_at sent number).is_open ≡ true)

-- no message to the actor whose number is at least `from` is open
abbrev pub HasNone : List Posting → ℕ → ℕ → Type 0
HasNone sent actor from = (number : ℕ) → from ≤ number → ¬ IsOpenTo sent actor number

-- this is the oldest open message to the actor whose number is at least `from`
pub record IsNext (sent : List Posting) (actor from : ℕ) (post : Post) : Type 0 where
  pub late_enough : from ≤ post.number
  pub is_open : IsOpenTo sent actor post.number
  pub oldest : (number : ℕ) → from ≤ number → number < post.number → ¬ IsOpenTo sent actor number
  pub stands : (post.place ≡ (posting_at sent post.number).place) × (post.index ≡ (posting_at sent post.number).index)
