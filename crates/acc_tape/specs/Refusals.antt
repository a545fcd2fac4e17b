-- When a reservation is refused.
use Rattle.std.specs.Prelude.{◌≡◌, ℕ, ◌+◌, ◌<◌, ◌≤◌}
use Rattle.acc_message.specs.declared.error.Which.TheVariants.{Document, Items, Bytes}
use Rattle.acc_tape.specs.declared.error.TapeError.{TapeError}
use Rattle.acc_tape.specs.declared.error.TapeError.TheVariants.{Full, OutOfMemory}
use Rattle.acc_tape.specs.declared.content.Limits.{Limits}

-- No items that weigh so much are reserved for this reason, where so many, which weigh `bytes`, are entered or reserved: the items would pass the limit of items, or, where they wouldn't, the weight would pass the limit of bytes. Want of memory has no cause.
abbrev pub Refuses : Limits → ℕ → ℕ → ℕ → ℕ → TapeError → Type 0
Refuses limits count bytes items weight (Full Items number) = (number ≡ limits.items) × (limits.items < count + items)
Refuses limits count bytes items weight (Full Bytes number) = (number ≡ limits.weight) × (count + items ≤ limits.items) × (limits.weight < bytes + weight)
Refuses limits count bytes items weight (Full Document number) = ⊥
Refuses limits count bytes items weight OutOfMemory = Unit {0}
