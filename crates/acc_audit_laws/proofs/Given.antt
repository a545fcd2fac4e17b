-- A run of a plan's cluster whose items can be told, with its promises, and the pieces of which its report tells.
use Rattle.std.proofs.Common.{◌≡◌, ℕ, List, [], ◌∷◌, ◌++◌, sym, subst, ◌∙◌}
use Rattle.std.specs.List.{flat_map}
use Rattle.acc_stamp.specs.declared.stamps.TxnId.{TxnId}
use Rattle.acc_message.specs.declared.note.Note.{Note}
use Rattle.acc_message.specs.declared.note.Note.TheVariants.{Begin, Recover, Blocked, Ended, Decide, Outcome, Reply}
use Rattle.acc_message.specs.declared.item.Item.{Item}
use Rattle.acc_message.specs.Items.{id_of_note, notes_of}
use Rattle.acc_message.specs.Run.{EachStands}
use Rattle.acc_safety.specs.Agreement.{Agreement}
use Rattle.acc_safety.specs.Coverage.{Coverage}
use Rattle.acc_safety.specs.Places.{IsIn, First}
use Rattle.acc_safety.specs.SerialOutcomes.{SerialOutcomes}
use Rattle.acc_safety.specs.Valid.{IsValidCluster}
use Rattle.acc_safety.proofs.PlaceOrder.{each_at, IsIn-append_left, IsIn-append_right}
use Rattle.acc_schedule.specs.Content.{Content}
use Rattle.acc_schedule.specs.Plan.{IsPlan}
use Rattle.acc_schedule_runs.specs.Schedules.{cluster_of}
use Rattle.acc_report.specs.Report.{name_at, name_of, number_of}
use Rattle.acc_report_line.specs.declared.line.Line.{Line}
use Rattle.acc_report_laws.specs.Fits.{IsKnown, ItemsFit, NoteFits}
use Rattle.acc_audit_laws.proofs.Called as called
use Rattle.acc_audit_laws.proofs.Fronts.{note_of_split, notes_fit}
use Rattle.acc_audit_laws.proofs.Pieces as pieces
use Rattle.acc_audit_laws.proofs.Pieces.{Noted, Piece, notes_are, notes_at}

pub record Given (plan : Content) (items : List Item) : Type 0 where
  pub is_plan : IsPlan plan
  pub valid : IsValidCluster (cluster_of plan)
  pub stands : EachStands (cluster_of plan) items
  pub fit : ItemsFit plan.names [] items
  pub agreement : Agreement items
  pub coverage : Coverage (cluster_of plan) items
  pub serial : SerialOutcomes (cluster_of plan) items

abbrev pub name : Content → List Item → TxnId → List ℕ
name plan items = name_of plan.names [] items

abbrev pub line_of : Content → List Item → Piece → Line
line_of plan items = pieces.line_of (name plan items) (name_at plan.names)

abbrev pub pieces_of : Content → List Item → List Piece
pieces_of plan items = pieces.pieces_of (name plan items) (name_at plan.names) items

abbrev pub notes_in : List Piece → List Note
notes_in told = flat_map notes_at told

abbrev pub Known : Content → List Item → TxnId → Type 0
Known plan items x = IsKnown plan.names (number_of [] items) x

-- a piece, with those before it and those after it
abbrev pub Stands : Content → List Item → List Piece → Piece → List Piece → Type 0
Stands plan items front piece rest = pieces_of plan items ≡ front ++ piece ∷ rest

module _ (plan : Content) (items : List Item) (given : Given plan items) where
  id_known : (note : Note) → NoteFits plan.names (number_of [] items) note → Known plan items (id_of_note note)
  id_known (Begin id) h = h.0
  id_known (Recover id ballot) h = h.0
  id_known (Blocked id ballot by) h = h.0
  id_known (Ended id ballot by) h = h.0
  id_known (Decide id t path deps) h = h.0
  id_known (Outcome id reply) h = h.0
  id_known (Reply id reply) h = h.0

  -- each transaction that a note is about is known
  pub note_known : (note : Note) → IsIn note (notes_of items) → Known plan items (id_of_note note)
  note_known note there =
      id_known note (each_at (NoteFits plan.names (number_of [] items)) note (notes_of items) (notes_fit plan.names (number_of [] items) items given.fit) there)

  -- two known transactions with one name are one
  pub one_name : (x y : TxnId) → Known plan items x → Known plan items y → name plan items x ≡ name plan items y → x ≡ y
  one_name = called.same_id plan items given.is_plan given.valid given.stands

  -- the notes before a note, and after it
  pub whole_notes : (front rest : List Piece) (note : Note) → Stands plan items front (Noted note) rest → notes_of items ≡ notes_in front ++ note ∷ notes_in rest
  whole_notes front rest note at =
      sym (notes_are (name plan items) (name_at plan.names) items) ∙ note_of_split (pieces_of plan items) front rest note at

  pub here_noted : (front rest : List Piece) (note : Note) → Stands plan items front (Noted note) rest → IsIn note (notes_of items)
  here_noted front rest note at =
      subst (IsIn note) (sym (whole_notes front rest note at)) (IsIn-append_right note (notes_in front) (note ∷ notes_in rest) (First note (notes_in rest)))

  pub before_noted : (front rest : List Piece) (note other : Note) → Stands plan items front (Noted note) rest → IsIn other (notes_in front) → IsIn other (notes_of items)
  before_noted front rest note other at there =
      subst (IsIn other) (sym (whole_notes front rest note at)) (IsIn-append_left other (notes_in front) (note ∷ notes_in rest) there)
