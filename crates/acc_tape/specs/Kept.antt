-- What the parts of a board keep beside its items.
use Rattle.std.specs.Prelude.{◌≡◌, ℕ, ◌+◌, ◌-◌, ◌≤◌, ◌==◌, ◌&&◌, not, Bool, List, [], ◌∷◌, ◌++◌, length, Option, None, Some, sum_by}
use Rattle.std.specs.List.{list_any}
use Rattle.acc_message_index.specs.declared.posting.Posting.{Posting}
use Rattle.acc_message_index.specs.Mail.{Mail, taken, early_after}
use Rattle.acc_tape.specs.declared.content.Limits.{Limits}
use Rattle.acc_tape.specs.Messages.{messages_of, is_taken}

-- An item notes no more than this: of a run, a node's step that ends with an outcome has that and the reply, and every other step fewer notes.
abbrev pub most_notes : ℕ
most_notes = 2

-- messages of which the first has the number n, each closed where it is taken
abbrev pub closed_from : ℕ → (ℕ → Bool) → List Posting → List Posting
closed_from n taken [] = []
closed_from n taken (p ∷ ps) = record { to = p.to; place = p.place; index = p.index; is_open = p.is_open && not (taken n) } ∷ closed_from (n + 1) taken ps

-- the index after an item took this message, and after it sent these
abbrev pub after_taking : Option ℕ → Mail → Mail
after_taking None mail = record mail { takings = mail.takings - 1 }
after_taking (Some number) mail = record mail { sent = taken number mail.sent; early = early_after number mail; takings = mail.takings - 1 }

abbrev pub after_messages : List Posting → Mail → Mail
after_messages messages mail = record mail { sent = mail.sent ++ closed_from (length mail.sent) (λ n. list_any (λ m. m == n) mail.early) messages; room = mail.room - length messages }

module _ {E : Type 0} (took : E → Option ℕ) (sent_to : E → List ℕ) (is_lost : E → Bool) where
  -- the index has the items' messages, and knows which of them are taken and which numbers were taken ahead
  pub record IsIndexOf (items : List E) (mail : Mail) : Type 0 where
    pub sent : mail.sent ≡ closed_from 0 (is_taken took items) (messages_of sent_to is_lost 0 items)
    pub early : (n : ℕ) → length mail.sent ≤ n → list_any (λ m. m == n) mail.early ≡ is_taken took items n

  pub record IsKept (bytes : E → ℕ) (fits : List E → Type 0) (items : List E) (weight reserved reserved_weight : ℕ) (limits : Limits) (room : ℕ) (mail : Mail) : Type 0 where
    pub weighs : weight ≡ sum_by bytes items
    pub within_items : length items + reserved ≤ limits.items
    pub within_places : length items + reserved ≤ 4294967295
    pub within_weight : weight + reserved_weight ≤ limits.weight
    pub has_room : room ≡ reserved + reserved_weight
    pub messages : mail.room ≡ reserved_weight
    pub takings : mail.takings ≡ reserved
    pub index : IsIndexOf items mail
    pub fitting : fits items
