-- Each item of a run within the limits can be told, where its parts besides the notes can.
use Rattle.std.proofs.Common.{ℕ, ◌<◌, ◌^◌, List, [], ◌∷◌, length, IsTrue, refl, sym, subst, arith}
use Rattle.std.specs.List.{list_all, AllByRecursion}
use Rattle.std.proofs.lemmas.Bool.{and_from}
use Rattle.acc_stamp.specs.declared.stamps.Stamp.{Stamp}
use Rattle.acc_stamp.specs.declared.stamps.TxnId.{TxnId}
use Rattle.acc_stamp.proofs.Rising.{each_weaker}
use Rattle.acc_deps.specs.Deps.{all_ids}
use Rattle.acc_message.specs.declared.note.Note.{Note}
use Rattle.acc_message.specs.declared.note.Note.TheVariants.{Begin as BeginNote, Recover as RecoverNote, Blocked as BlockedNote, Ended as EndedNote, Decide as DecideNote, Outcome as OutcomeNote, Reply as ReplyNote}
use Rattle.acc_message.specs.declared.item.Item.{Item}
use Rattle.acc_message.specs.declared.item.Item.TheVariants.{Step, Skipped, Down}
use Rattle.acc_message.specs.Items.{noted_in, notes_of}
use Rattle.acc_message.specs.Run.{Cluster, IsRun}
use Rattle.acc_schedule.specs.Content.{Content}
use Rattle.acc_schedule.specs.Transactions.{is_name}
use Rattle.acc_safety.specs.Places.{IsIn, First, Later, StandsAt, Here, Back}
use Rattle.acc_safety.specs.SerialOutcomes.{SerialOutcomes}
use Rattle.acc_safety.specs.Valid.{IsValidCluster, IsStanding}
use Rattle.acc_safety.proofs.PlaceOrder.{StandsAt-IsIn, each_at, IsIn-append_left, IsIn-append_right}
use Rattle.acc_schedule_runs.specs.Schedules.{cluster_of}
use Rattle.acc_schedule_runs.specs.Limits.{IsWithin}
use Rattle.acc_run_laws.specs.Heights.{most_h}
use Rattle.acc_run_laws.proofs.Begun.{begun_of}
use Rattle.acc_run_laws.proofs.Bounded.{IsLow}
use Rattle.acc_run_laws.proofs.RunBounds.{each_standing}
use Rattle.acc_report.specs.Report.{number_of}
use Rattle.acc_report_line.specs.Forms.{AreNames, IsStamp}
use Rattle.acc_report_laws.specs.Fits.{IsKnown, NoteFits, PartsFit, ItemFits, ItemsFit}
use Rattle.acc_report_laws.specs.Told.{CanBeTold}
use Rattle.acc_run_laws.proofs.FewNotes.{notes_few}
use Rattle.acc_report_laws.proofs.Known.{begun_known}
use Rattle.acc_report_laws.proofs.Noted.{notes_bounded}
use Rattle.acc_report_laws.proofs.Reacting.{AreBoundedNotes, NoteIsBounded, deps_known}
use Rattle.acc_report_laws.proofs.Replies.{outcome_formed, answer_formed}

pub are_names : (names : List (List ℕ)) → AllByRecursion (λ name. IsTrue (is_name name)) names → AreNames names
are_names [] h = refl
are_names (name ∷ names) h = and_from (is_name name) (list_all is_name names) h.0 (are_names names h.1)

noted_there : (item : Item) (earlier items : List Item) (note : Note) → StandsAt item earlier items → IsIn note (noted_in item) → IsIn note (notes_of items)
noted_there item earlier items note (Here i past) there = IsIn-append_right note (notes_of past) (noted_in i) there
noted_there item earlier items note (Back i j past rest at) there = IsIn-append_left note (notes_of rest) (noted_in j) (noted_there i past rest note at there)

module _ (plan : Content) (items : List Item) (h : CanBeTold plan items) (valid : IsValidCluster (cluster_of plan)) (serial : SerialOutcomes (cluster_of plan) items) where
  abbrev cluster : Cluster
  cluster = cluster_of plan

  standing : IsStanding cluster items
  standing = record { valid = valid; stands = h.run.stands }

  -- ---- notes

  stamp_fits : (s : Stamp) → IsLow (most_h items) s → IsStamp s
  stamp_fits s low = (omega (arith, low.h, h.within.few), omega (arith, low.origin))

  id_fits : (x : TxnId) → IsIn x (begun_of items) → IsKnown plan.names (number_of [] items) x
  id_fits x there = begun_known cluster items plan.names x h.run.stands h.is_plan.bodies_as_many there

  note_fits : (note : Note) → IsIn note (notes_of items) → NoteIsBounded (most_h items) (begun_of items) note → NoteFits plan.names (number_of [] items) note
  note_fits (BeginNote id) there b = (id_fits id b.0, stamp_fits id.0 b.1)
  note_fits (RecoverNote id ballot) there b = (id_fits id b.0, stamp_fits ballot.0 b.1)
  note_fits (BlockedNote id ballot by) there b =
      (id_fits id b.0, stamp_fits ballot.0 b.1, each_weaker (λ y. IsIn y (begun_of items)) (IsKnown plan.names (number_of [] items)) by id_fits b.2)
  note_fits (EndedNote id ballot by) there b = (id_fits id b.0, stamp_fits ballot.0 b.1, stamp_fits by.0 b.2)
  note_fits (DecideNote id t path deps) there b = (
    id_fits id b.0,
    stamp_fits t b.1,
    each_weaker (λ y. IsIn y (begun_of items)) (IsKnown plan.names (number_of [] items)) (all_ids deps) id_fits (deps_known (most_h items) (begun_of items) deps b.2),
  )
  note_fits (OutcomeNote id reply) there b = (id_fits id b, outcome_formed cluster items h.bodies serial id reply there)
  note_fits (ReplyNote id reply) there b = (id_fits id b, answer_formed cluster items h.bodies serial id reply there)

  notes_fit : (notes : List Note) → ((note : Note) → IsIn note notes → IsIn note (notes_of items)) → AreBoundedNotes (most_h items) (begun_of items) notes
      → AllByRecursion (NoteFits plan.names (number_of [] items)) notes
  notes_fit [] there b = tt
  notes_fit (note ∷ notes) there b =
      (note_fits note (there note (First note notes)) b.0, notes_fit notes (λ other in_it. there other (Later other note notes in_it)) b.1)

  -- ---- items

  item_fits : (item : Item) (earlier : List Item) → StandsAt item earlier items → PartsFit plan.names item → ItemFits plan.names (number_of [] items) item
  item_fits (Step e) earlier at placed =
      (placed, notes_fit e.emitted.notes (λ note there. noted_there (Step e) earlier items note at there) (notes_bounded cluster items standing e earlier at))
  item_fits (Skipped step cause) earlier at placed = placed
  item_fits (Down actor) earlier at placed = placed

  pub items_fit : ItemsFit plan.names [] items
  items_fit =
      each_standing (ItemFits plan.names (number_of [] items)) items
      (λ item earlier at. item_fits item earlier at (each_at (PartsFit plan.names) item items h.parts (StandsAt-IsIn item earlier items at)))

pub few_notes : (cluster : Cluster) (items : List Item) → IsRun cluster items → IsWithin items → length (notes_of items) < 2 ^ 64
few_notes cluster items run within = omega (arith, notes_few cluster items run.stands, within.few)
