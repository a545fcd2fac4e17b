-- The pieces of which a report tells, the oldest first: a note, or something besides the notes.
use Rattle.std.proofs.Common.{◌≡◌, ◌⊎◌, inl, inr, ℕ, zero, suc, List, [], ◌∷◌, ◌++◌, length, take, map, false, Some, None, slice_get, refl, sym, ap, ap₂, ◌∙◌}
use Rattle.std.specs.List.{flat_map}
use Rattle.std.proofs.lemmas.List.{map-append}
use Rattle.std.proofs.lemmas.Grind.{flat_map-append}
use Rattle.acc_stamp.specs.declared.stamps.TxnId.{TxnId}
use Rattle.acc_stamp.specs.declared.actors.Actor.{Actor}
use Rattle.acc_txn.specs.declared.parts.BodyParts.{BodyParts}
use Rattle.acc_message.specs.declared.note.Note.{Note}
use Rattle.acc_message.specs.declared.entry.Event.{Event}
use Rattle.acc_message.specs.declared.entry.Event.TheVariants.{Begin as Begins, Recover as Recovers, Slow as GoesSlow, Message as Takes, Restart as Restarts}
use Rattle.acc_message.specs.declared.item.Skip.{Skip}
use Rattle.acc_message.specs.declared.item.Skip.TheVariants.{NoMessage, Down as IsDown, Begun, Unknown, NoQuorum}
use Rattle.acc_message.specs.declared.item.Item.{Item}
use Rattle.acc_message.specs.declared.item.Item.TheVariants.{Step, Skipped, Down as WentDown}
use Rattle.acc_message.specs.Items.{noted_in, notes_of}
use Rattle.acc_report.specs.Report.{note_line, skip_line, event_lines, lines_in, lines_from}
use Rattle.acc_report_line.specs.declared.line.Line.{Line}
use Rattle.acc_report_line.specs.declared.line.Line.TheVariants.{Restart, Down}
use Rattle.acc_actor_laws.proofs.OpeningFacts.{some_is}
use Rattle.acc_actor_laws.proofs.Standing.{not_none}
use Rattle.acc_audit.specs.Said.{begins, decision_in, is_begin, is_reply, outcome_in}
use Rattle.acc_audit.specs.Fronts.{newly_in}
use Rattle.acc_audit.specs.Rules.{broken_by, names_another}

-- a line that says nothing of begins, decisions, outcomes and replies, and breaks no rule but the first
pub record IsSilent (line : Line) : Type 0 where
  pub begins : (name : List ℕ) → begins name line ≡ false
  pub outcome : (name : List ℕ) → outcome_in name line ≡ None
  pub decision : decision_in line ≡ None
  pub newly : (earlier : List Line) → newly_in earlier line ≡ []
  pub is_begin : is_begin line ≡ false
  pub is_reply : is_reply line ≡ false
  pub broken : (names : List (List ℕ)) (bodies : List BodyParts) (lines earlier : List Line)
      → broken_by names bodies lines earlier false line ≡ names_another names line ∷ false ∷ false ∷ false ∷ false ∷ false ∷ false ∷ []

pub data Piece : Type 0 where
  Noted : Note → Piece
  Silent : (line : Line) → IsSilent line → Piece

abbrev pub notes_at : Piece → List Note
notes_at (Noted note) = note ∷ []
notes_at (Silent line silent) = []

pub silent_skip : (called : ℕ → List ℕ) (step : ℕ) (cause : Skip) → IsSilent (skip_line called step cause)
silent_skip called step (NoMessage number sent) =
    record { begins = λ _. refl; outcome = λ _. refl; decision = refl; newly = λ _. refl; is_begin = refl; is_reply = refl; broken = λ _ _ _ _. refl }
silent_skip called step (IsDown actor) =
    record { begins = λ _. refl; outcome = λ _. refl; decision = refl; newly = λ _. refl; is_begin = refl; is_reply = refl; broken = λ _ _ _ _. refl }
silent_skip called step (Begun txn) =
    record { begins = λ _. refl; outcome = λ _. refl; decision = refl; newly = λ _. refl; is_begin = refl; is_reply = refl; broken = λ _ _ _ _. refl }
silent_skip called step (Unknown txn) =
    record { begins = λ _. refl; outcome = λ _. refl; decision = refl; newly = λ _. refl; is_begin = refl; is_reply = refl; broken = λ _ _ _ _. refl }
silent_skip called step (NoQuorum txn) =
    record { begins = λ _. refl; outcome = λ _. refl; decision = refl; newly = λ _. refl; is_begin = refl; is_reply = refl; broken = λ _ _ _ _. refl }

pub silent_restart : (actor : Actor) (kept : ℕ) → IsSilent (Restart actor kept)
silent_restart actor kept =
    record { begins = λ _. refl; outcome = λ _. refl; decision = refl; newly = λ _. refl; is_begin = refl; is_reply = refl; broken = λ _ _ _ _. refl }

pub silent_down : (actor : Actor) → IsSilent (Down actor)
silent_down actor =
    record { begins = λ _. refl; outcome = λ _. refl; decision = refl; newly = λ _. refl; is_begin = refl; is_reply = refl; broken = λ _ _ _ _. refl }

-- ---- the pieces of items

abbrev pub event_pieces : Actor → Event → List Piece
event_pieces actor (Begins txn) = []
event_pieces actor (Recovers txn) = []
event_pieces actor (GoesSlow txn) = []
event_pieces actor (Takes number) = []
event_pieces actor (Restarts kept) = Silent (Restart actor kept) (silent_restart actor kept) ∷ []

module _ (name : TxnId → List ℕ) (called : ℕ → List ℕ) where
  abbrev pub line_of : Piece → Line
  line_of (Noted note) = note_line name note
  line_of (Silent line silent) = line

  abbrev pub pieces_in : Item → List Piece
  pieces_in (Step e) = event_pieces e.actor e.event ++ map Noted e.emitted.notes
  pieces_in (Skipped step cause) = Silent (skip_line called step cause) (silent_skip called step cause) ∷ []
  pieces_in (WentDown actor) = Silent (Down actor) (silent_down actor) ∷ []

  abbrev pub pieces_of : List Item → List Piece
  pieces_of [] = []
  pieces_of (item ∷ earlier) = pieces_of earlier ++ pieces_in item

  noted_lines : (notes : List Note) → map line_of (map Noted notes) ≡ map (note_line name) notes
  noted_lines [] = refl
  noted_lines (note ∷ notes) = ap (λ (ls : List Line). note_line name note ∷ ls) (noted_lines notes)

  item_lines : (item : Item) → map line_of (pieces_in item) ≡ lines_in name called item
  item_lines (Step e) = by e.event
    where
      by : (event : Event) → map line_of (event_pieces e.actor event ++ map Noted e.emitted.notes) ≡ event_lines e.actor event ++ map (note_line name) e.emitted.notes
      by (Begins txn) = noted_lines e.emitted.notes
      by (Recovers txn) = noted_lines e.emitted.notes
      by (GoesSlow txn) = noted_lines e.emitted.notes
      by (Takes number) = noted_lines e.emitted.notes
      by (Restarts kept) = ap (λ (ls : List Line). Restart e.actor kept ∷ ls) (noted_lines e.emitted.notes)
  item_lines (Skipped step cause) = refl
  item_lines (WentDown actor) = refl

  -- their lines are those of the items
  pub lines_are : (items : List Item) → map line_of (pieces_of items) ≡ lines_from name called items
  lines_are [] = refl
  lines_are (item ∷ earlier) = map-append line_of (pieces_of earlier) (pieces_in item) ∙ ap₂ (λ (a b : List Line). a ++ b) (lines_are earlier) (item_lines item)

  noted_notes : (notes : List Note) → flat_map notes_at (map Noted notes) ≡ notes
  noted_notes [] = refl
  noted_notes (note ∷ notes) = ap (λ (ns : List Note). note ∷ ns) (noted_notes notes)

  item_notes : (item : Item) → flat_map notes_at (pieces_in item) ≡ noted_in item
  item_notes (Step e) = by e.event
    where
      by : (event : Event) → flat_map notes_at (event_pieces e.actor event ++ map Noted e.emitted.notes) ≡ e.emitted.notes
      by (Begins txn) = noted_notes e.emitted.notes
      by (Recovers txn) = noted_notes e.emitted.notes
      by (GoesSlow txn) = noted_notes e.emitted.notes
      by (Takes number) = noted_notes e.emitted.notes
      by (Restarts kept) = noted_notes e.emitted.notes
  item_notes (Skipped step cause) = refl
  item_notes (WentDown actor) = refl

  -- and their notes too
  pub notes_are : (items : List Item) → flat_map notes_at (pieces_of items) ≡ notes_of items
  notes_are [] = refl
  notes_are (item ∷ earlier) =
      flat_map-append notes_at (pieces_of earlier) (pieces_in item) ∙ ap₂ (λ (a b : List Note). a ++ b) (notes_are earlier) (item_notes item)

  -- ---- a line among them

  pub record Split (pieces : List Piece) (whole : List Line) (place : ℕ) (line : Line) : Type 0 where
    pub front : List Piece
    pub piece : Piece
    pub rest : List Piece
    pub are : pieces ≡ front ++ piece ∷ rest
    pub place_is : place ≡ length front
    pub before : take place whole ≡ map line_of front
    pub here : line ≡ line_of piece

  pub record IsEnd (pieces : List Piece) (last : Line) (place : ℕ) (line : Line) : Type 0 where
    pub place_is : place ≡ length pieces
    pub before : take place (map line_of pieces ++ last ∷ []) ≡ map line_of pieces
    pub here : line ≡ last

  -- of the lines of pieces with one line after them, each stands for a piece or is that line
  pub split : (pieces : List Piece) (last : Line) (place : ℕ) (line : Line) → slice_get (map line_of pieces ++ last ∷ []) place ≡ Some line
      → Split pieces (map line_of pieces ++ last ∷ []) place line ⊎ IsEnd pieces last place line
  split [] last zero line is = inr (record { place_is = refl; before = refl; here = sym (some_is last line is) })
  split [] last (suc n) line is = absurd (not_none line is)
  split (piece ∷ pieces) last zero line is =
      inl (record { front = []; piece = piece; rest = pieces; are = refl; place_is = refl; before = refl; here = sym (some_is (line_of piece) line is) })
  split (piece ∷ pieces) last (suc n) line is = by (split pieces last n line is)
    where
      by : Split pieces (map line_of pieces ++ last ∷ []) n line ⊎ IsEnd pieces last n line
          → Split (piece ∷ pieces) (line_of piece ∷ map line_of pieces ++ last ∷ []) (suc n) line ⊎ IsEnd (piece ∷ pieces) last (suc n) line
      by (inl s) =
          inl (record {
            front = piece ∷ s.front;
            piece = s.piece;
            rest = s.rest;
            are = ap (λ (ps : List Piece). piece ∷ ps) s.are;
            place_is = ap suc s.place_is;
            before = ap (λ (ls : List Line). line_of piece ∷ ls) s.before;
            here = s.here;
          })
      by (inr e) =
          inr (record { place_is = ap suc e.place_is; before = ap (λ (ls : List Line). line_of piece ∷ ls) e.before; here = e.here })
