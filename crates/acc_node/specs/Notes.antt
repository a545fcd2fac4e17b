-- What an attempt notes in a step: nothing, a decision, or how it ends.
--     Noted x notes has_ended      an attempt at x may note this, and ends by it or not
--     Replies      the same with the reply to an open client
use Rattle.std.specs.Prelude.{◌≡◌, Bool, true, false, List, [], ◌∷◌, Option, None, Some}
use Rattle.std.specs.List.{list_any, flat_map}
use Rattle.acc_stamp.specs.declared.stamps.Stamp.{Stamp}
use Rattle.acc_stamp.specs.declared.stamps.TxnId.{TxnId}
use Rattle.acc_stamp.specs.declared.stamps.Ballot.{Ballot}
use Rattle.acc_deps.specs.declared.shards.ShardDeps.{ShardDeps}
use Rattle.acc_txn.specs.declared.outcome.Reply.{Reply as Answer}
use Rattle.acc_message.specs.declared.note.Path.{Path}
use Rattle.acc_message.specs.declared.note.Note.{Note}
use Rattle.acc_message.specs.declared.note.Note.TheVariants.{Begin, Recover, Blocked, Ended, Decide, Outcome, Reply}
use Rattle.acc_message.specs.Items.{replies}
use Rattle.acc_message.specs.NodeRules.{replied}

pub data Noted (x : TxnId) : List Note → Bool → Type 0 where
  Silent : Noted x [] false
  Decides : (t : Stamp) (path : Path) (deps : List ShardDeps) → Noted x (Decide x t path deps ∷ []) false
  Finishes : (reply : Answer) → Noted x (Outcome x reply ∷ []) true
  Blocks : (ballot : Ballot) (by : List TxnId) → Noted x (Blocked x ballot by ∷ []) true
  Ends : (ballot by : Ballot) → Noted x (Ended x ballot by ∷ []) true

-- the reply that stands right after an outcome, and after notes where they are an outcome alone
abbrev pub reply_to : Note → Option Note
reply_to (Begin id) = None
reply_to (Recover id ballot) = None
reply_to (Blocked id ballot by) = None
reply_to (Ended id ballot by) = None
reply_to (Decide id t path deps) = None
reply_to (Outcome id reply) = Some (Reply id reply)
reply_to (Reply id reply) = None

abbrev pub reply_behind : List Note → Option Note
reply_behind [] = None
reply_behind (note ∷ []) = reply_to note
reply_behind (note ∷ (other ∷ notes)) = None

-- each outcome has the reply right after it where the client is open, and whether the reply to x is there
pub record Replies (x : TxnId) (is_open : Bool) (before after : List Note) (has_replied : Bool) : Type 0 where
  pub notes : after ≡ flat_map (replied is_open) before
  pub answers : has_replied ≡ list_any (replies x) after
