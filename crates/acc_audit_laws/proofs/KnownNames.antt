-- Each name that a report of a run tells is that of a transaction.
use Rattle.std.proofs.Common.{◌≡◌, ℕ, List, [], ◌∷◌, map, true, false, not, refl, ap, subst}
use Rattle.std.specs.List.{list_all, AllByRecursion}
use Rattle.std.proofs.lemmas.Bool.{and_from}
use Rattle.acc_stamp.specs.declared.stamps.TxnId.{TxnId}
use Rattle.acc_stamp.specs.declared.actors.Actor.{Actor}
use Rattle.acc_stamp.proofs.Rising.{each_append, each_parts}
use Rattle.acc_deps.specs.Deps.{all_ids}
use Rattle.acc_message.specs.declared.note.Note.{Note}
use Rattle.acc_message.specs.declared.note.Note.TheVariants.{Begin, Recover, Blocked, Ended, Decide, Outcome, Reply}
use Rattle.acc_message.specs.declared.entry.Event.{Event}
use Rattle.acc_message.specs.declared.entry.Event.TheVariants.{Begin as Begins, Recover as Recovers, Slow as GoesSlow, Message as Takes, Restart as Restarts}
use Rattle.acc_message.specs.declared.item.Skip.{Skip}
use Rattle.acc_message.specs.declared.item.Skip.TheVariants.{NoMessage, Down as IsDown, Begun, Unknown, NoQuorum}
use Rattle.acc_message.specs.declared.item.Item.{Item}
use Rattle.acc_message.specs.declared.item.Item.TheVariants.{Step, Skipped, Down}
use Rattle.acc_schedule.specs.Content.{Content}
use Rattle.acc_report.specs.Report.{name_at, note_line, number_of, skip_line}
use Rattle.acc_report_laws.specs.Fits.{ItemFits, NoteFits, SkipFits}
use Rattle.acc_audit.specs.Fronts.{is_known}
use Rattle.acc_audit.specs.Rules.{names_another}
use Rattle.acc_audit_laws.proofs.Called.{called_known, name_known}
use Rattle.acc_audit_laws.proofs.Given.{Given, Known, line_of, name, Stands}
use Rattle.acc_audit_laws.proofs.Pieces as told
use Rattle.acc_audit_laws.proofs.Pieces.{event_pieces, Noted, Piece, Silent}

module _ (plan : Content) (items : List Item) (given : Given plan items) where
  abbrev named : TxnId → List ℕ
  named = name plan items

  abbrev Fits : Note → Type 0
  Fits note = NoteFits plan.names (number_of [] items) note

  known : (x : TxnId) → Known plan items x → is_known plan.names (named x) ≡ true
  known = name_known plan items given.is_plan given.valid given.stands

  all_known : (ids : List TxnId) → AllByRecursion (Known plan items) ids → list_all (is_known plan.names) (map named ids) ≡ true
  all_known [] h = refl
  all_known (x ∷ ids) h = and_from (is_known plan.names (named x)) (list_all (is_known plan.names) (map named ids)) (known x h.0) (all_known ids h.1)

  one_known : (x : TxnId) → Known plan items x → not (list_all (is_known plan.names) (named x ∷ [])) ≡ false
  one_known x h = ap not (and_from (is_known plan.names (named x)) true (known x h) refl)

  more_known : (x : TxnId) (ids : List TxnId) → Known plan items x → AllByRecursion (Known plan items) ids → not (list_all (is_known plan.names) (named x ∷ map named ids)) ≡ false
  more_known x ids h k = ap not (and_from (is_known plan.names (named x)) (list_all (is_known plan.names) (map named ids)) (known x h) (all_known ids k))

  note_names : (note : Note) → Fits note → names_another plan.names (note_line named note) ≡ false
  note_names (Begin id) h = one_known id h.0
  note_names (Recover id ballot) h = one_known id h.0
  note_names (Blocked id ballot by) h = more_known id by h.0 h.2
  note_names (Ended id ballot by) h = one_known id h.0
  note_names (Decide id t path deps) h = more_known id (all_ids deps) h.0 h.2
  note_names (Outcome id reply) h = one_known id h.0
  note_names (Reply id reply) h = one_known id h.0

  skip_names : (step : ℕ) (cause : Skip) → SkipFits plan.names cause → names_another plan.names (skip_line (name_at plan.names) step cause) ≡ false
  skip_names step (NoMessage number sent) h = refl
  skip_names step (IsDown actor) h = refl
  skip_names step (Begun txn) h = ap not (and_from (is_known plan.names (name_at plan.names txn)) true (called_known plan.names txn h) refl)
  skip_names step (Unknown txn) h = ap not (and_from (is_known plan.names (name_at plan.names txn)) true (called_known plan.names txn h) refl)
  skip_names step (NoQuorum txn) h = ap not (and_from (is_known plan.names (name_at plan.names txn)) true (called_known plan.names txn h) refl)

  abbrev IsNamed : Piece → Type 0
  IsNamed piece = names_another plan.names (line_of plan items piece) ≡ false

  notes_named : (notes : List Note) → AllByRecursion Fits notes → AllByRecursion IsNamed (map Noted notes)
  notes_named [] h = tt
  notes_named (note ∷ notes) h = (note_names note h.0, notes_named notes h.1)

  event_named : (actor : Actor) (event : Event) → AllByRecursion IsNamed (event_pieces actor event)
  event_named actor (Begins txn) = tt
  event_named actor (Recovers txn) = tt
  event_named actor (GoesSlow txn) = tt
  event_named actor (Takes number) = tt
  event_named actor (Restarts kept) = (refl, tt)

  item_named : (item : Item) → ItemFits plan.names (number_of [] items) item → AllByRecursion IsNamed (told.pieces_in named (name_at plan.names) item)
  item_named (Step e) h = each_append IsNamed (event_pieces e.actor e.event) (map Noted e.emitted.notes) (event_named e.actor e.event) (notes_named e.emitted.notes h.1)
  item_named (Skipped step cause) h = (skip_names step cause h.1, tt)
  item_named (Down actor) h = (refl, tt)

  all_named : (some : List Item) → AllByRecursion (ItemFits plan.names (number_of [] items)) some → AllByRecursion IsNamed (told.pieces_of named (name_at plan.names) some)
  all_named [] h = tt
  all_named (item ∷ earlier) h =
      each_append IsNamed (told.pieces_of named (name_at plan.names) earlier) (told.pieces_in named (name_at plan.names) item) (all_named earlier h.1) (item_named item h.0)

  pub names_none_other : (front rest : List Piece) (piece : Piece) → Stands plan items front piece rest → names_another plan.names (line_of plan items piece) ≡ false
  names_none_other front rest piece at = (each_parts IsNamed front (piece ∷ rest) (subst (AllByRecursion IsNamed) at (all_named items given.fit))).1.0
