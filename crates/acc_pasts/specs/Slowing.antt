-- Why a slow is passed over.
use Rattle.std.specs.Prelude.{ℕ, Bool, true, false, Option, None, Some}
use Rattle.acc_message.specs.declared.item.Skip.{Skip}
use Rattle.acc_message.specs.declared.item.Skip.TheVariants.{Unknown, NoQuorum}

-- by whether there is an attempt at ballot zero that waits for votes, and whether a majority of each shard has answered
abbrev pub slow_cause : ℕ → Bool → Bool → Option Skip
slow_cause txn false answered = Some (Unknown txn)
slow_cause txn true false = Some (NoQuorum txn)
slow_cause txn true true = None
