-- Lines of a report in which all that was begun is finished.
use Rattle.std.specs.Prelude.{ℕ, List}
use Rattle.acc_stamp.specs.declared.stamps.Stamp.{Stamp}
use Rattle.acc_txn.specs.declared.outcome.Reply.{Reply as ReplyValue}
use Rattle.acc_message.specs.declared.note.Path.{Path}
use Rattle.acc_safety.specs.Places.{IsIn}
use Rattle.acc_report_line.specs.declared.line.Line.{Line}
use Rattle.acc_report_line.specs.declared.line.Line.TheVariants.{Begin, Decide, Outcome}

-- a line decides the transaction of this name, and one tells its outcome
pub record IsFinished (lines : List Line) (name : List ℕ) : Type 0 where
  pub t : Stamp
  pub path : Path
  pub deps : List (List ℕ)
  pub decided : IsIn (Decide name t path deps) lines
  pub reply : ReplyValue
  pub outcome : IsIn (Outcome name reply) lines

abbrev pub FinishesBegins : List Line → Type 0
FinishesBegins lines = (name : List ℕ) (id : Stamp) → IsIn (Begin name id) lines → IsFinished lines name
