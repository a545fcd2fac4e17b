-- An attempt in the words of what its node did and noted: the last begin or recover of its transaction, with no restart since,
-- and no note that it was blocked, ended or had its outcome.
use Rattle.std.specs.Prelude.{ℕ, Bool, true, false, cond, ◌||◌, List, [], ◌∷◌, Option, None, Some}
use Rattle.std.specs.List.{list_any}
use Rattle.std.specs.Option.{option_map}
use Rattle.acc_base.specs.Faults.{or_else}
use Rattle.acc_stamp.specs.declared.stamps.TxnId.{TxnId}
use Rattle.acc_stamp.specs.declared.stamps.Ballot.{Ballot}
use Rattle.acc_stamp.specs.Stamp.{id_eq, zero_ballot}
use Rattle.acc_txn.specs.declared.parts.BodyParts.{BodyParts}
use Rattle.acc_message.specs.declared.note.Note.{Note}
use Rattle.acc_message.specs.declared.note.Note.TheVariants.{Begin as BeginNote, Recover as RecoverNote, Blocked, Ended, Decide as DecideNote, Outcome as OutcomeNote, Reply as ReplyNote}
use Rattle.acc_message.specs.Attempts.{Attempt}
use Rattle.acc_message.specs.NodeRules.{Act, Begins, Recovers, Slows, Takes, Restarts, Deed, is_restart, next_id, next_ballot}

-- with what an attempt starts: its ballot and its body
pub record Start : Type 0 where
  pub ballot : Ballot
  pub body : BodyParts

-- the step begins or recovers x
abbrev pub starts_with : ℕ → ℕ → TxnId → List Deed → Act → Option Start
starts_with node start x past (Begins txn body) = cond (id_eq (next_id node start past) x) (Some (record { ballot = zero_ballot; body = body })) None
starts_with node start x past (Recovers y body) = cond (id_eq y x) (Some (record { ballot = next_ballot node start past; body = body })) None
starts_with node start x past _ = None

-- the note tells that the attempt at x is over
abbrev pub ends_it : TxnId → Note → Bool
ends_it x (Blocked id ballot by) = id_eq id x
ends_it x (Ended id ballot by) = id_eq id x
ends_it x (OutcomeNote id reply) = id_eq id x
ends_it x _ = false

-- the start of the attempt at x, where it isn't over
abbrev pub underway : ℕ → ℕ → TxnId → List Deed → Option Start
underway node start x [] = None
underway node start x (deed ∷ past) =
    or_else (starts_with node start x past deed.act)
    (cond (is_restart deed.act || list_any (ends_it x) deed.emitted.notes) None (underway node start x past))

-- the start of an attempt
abbrev pub start_of : Attempt → Start
start_of a = record { ballot = a.ballot; body = a.body }

abbrev pub start_if : Option Attempt → Option Start
start_if o = option_map start_of o
