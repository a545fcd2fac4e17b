-- The lines of the report of a run break no rule.
use Rattle.std.proofs.Common.{◌≡◌, ◌⊎◌, inl, inr, ℕ, zero, suc, ◌+◌, ◌-◌, ◌==◌, ◌≤◌, List, [], ◌∷◌, ◌++◌, length, take, map, reverse, get_or, count_by, Bool, true, false, Option, Some, None, slice_get, refl, sym, ap, ap₂, subst, ◌∙◌, arith}
use Rattle.std.proofs.lemmas.Bool.{eq-eqb, eqb-true, false_from_ne_true, true≢false}
use Rattle.std.proofs.lemmas.List.{length-append, length-map}
use Rattle.acc_message.specs.declared.item.Item.{Item}
use Rattle.acc_message.specs.Items.{notes_of}
use Rattle.acc_message.specs.Run.{IsRun}
use Rattle.acc_safety.specs.Agreement.{Agreement}
use Rattle.acc_safety.specs.Coverage.{Coverage}
use Rattle.acc_safety.specs.SerialOutcomes.{SerialOutcomes}
use Rattle.acc_safety.specs.Valid.{IsValidCluster}
use Rattle.acc_schedule.specs.Content.{Content}
use Rattle.acc_schedule.specs.Plan.{IsPlan}
use Rattle.acc_schedule.specs.declared.plan.Print.TheVariants.{Lines}
use Rattle.acc_schedule_runs.specs.Schedules.{cluster_of}
use Rattle.acc_report.specs.Report.{is_begin, is_reply, last_line, name_at, report_lines}
use Rattle.acc_report_line.specs.declared.line.Line.{Line}
use Rattle.acc_report_laws.specs.Fits.{ItemsFit}
use Rattle.acc_audit.specs.Rules.{broken_at, broken_by, is_last, KeepsRules, no_line}
use Rattle.acc_audit_laws.proofs.AgreedLines.{decisions_agree}
use Rattle.acc_audit_laws.proofs.BeginsOnce.{begins_none_again}
use Rattle.acc_audit_laws.proofs.CoveredLines.{decisions_cover}
use Rattle.acc_audit_laws.proofs.EndsWell.{end_is_right, note_ends_nothing}
use Rattle.acc_audit_laws.proofs.Given.{Given, line_of, name, pieces_of, Stands}
use Rattle.acc_audit_laws.proofs.KnownNames.{names_none_other}
use Rattle.acc_audit_laws.proofs.OutcomesRight.{answers_right}
use Rattle.acc_audit_laws.proofs.OutcomesStand.{none_early}
use Rattle.acc_audit_laws.proofs.Pieces.{IsEnd, lines_are, Noted, Piece, Silent, split, Split}

-- none of the seven
abbrev none_broken : List Bool
none_broken = false ∷ false ∷ false ∷ false ∷ false ∷ false ∷ false ∷ []

none_there : (n : ℕ) → get_or none_broken n false ≡ false
none_there zero = refl
none_there (suc zero) = refl
none_there (suc (suc zero)) = refl
none_there (suc (suc (suc zero))) = refl
none_there (suc (suc (suc (suc zero)))) = refl
none_there (suc (suc (suc (suc (suc zero))))) = refl
none_there (suc (suc (suc (suc (suc (suc zero)))))) = refl
none_there (suc (suc (suc (suc (suc (suc (suc n))))))) = refl

seven : (a b c d e f g : Bool) → a ≡ false → b ≡ false → c ≡ false → d ≡ false → e ≡ false → f ≡ false → g ≡ false → a ∷ b ∷ c ∷ d ∷ e ∷ f ∷ g ∷ [] ≡ none_broken
seven a b c d e f g p q r s t u v = λ i. p i ∷ q i ∷ r i ∷ s i ∷ t i ∷ u i ∷ v i ∷ []

module _ (plan : Content) (items : List Item) (given : Given plan items) (few : count_by is_reply (notes_of items) ≤ count_by is_begin (notes_of items)) where
  abbrev told : List Line
  told = map (line_of plan items) (pieces_of plan items)

  abbrev last : Line
  last = last_line (notes_of items)

  abbrev lines : List Line
  lines = told ++ last ∷ []

  long : length lines ≡ length (pieces_of plan items) + 1
  long =
      let as_many : length told ≡ length (pieces_of plan items) = length-map (pieces_of plan items) (line_of plan items) in
      omega (arith, length-append told (last ∷ []), as_many)

  -- a line that stands for a piece
  piece_keeps : (front rest : List Piece) (piece : Piece) → Stands plan items front piece rest
      → broken_by plan.names plan.bodies lines (reverse (map (line_of plan items) front)) false (line_of plan items piece) ≡ none_broken
  piece_keeps front rest (Noted note) at =
      seven _ _ _ _ _ _ _
      (names_none_other plan items given front rest (Noted note) at)
      (begins_none_again plan items given front rest note at)
      (decisions_agree plan items given front rest note at)
      (decisions_cover plan items given front rest note last refl at)
      (none_early plan items given front rest note at)
      (answers_right plan items given front rest note at)
      (note_ends_nothing (name plan items) lines note)
  piece_keeps front rest (Silent line silent) at =
      silent.broken plan.names plan.bodies lines (reverse (map (line_of plan items) front))
      ∙ ap (λ (b : Bool). b ∷ false ∷ false ∷ false ∷ false ∷ false ∷ false ∷ []) (names_none_other plan items given front rest (Silent line silent) at)

  -- the last line
  last_keeps : (earlier : List Line) → broken_by plan.names plan.bodies lines earlier true last ≡ none_broken
  last_keeps earlier = seven _ _ _ _ _ _ _ refl refl refl refl refl refl (end_is_right plan items few)

  line_keeps : (place : ℕ) (line : Line) → slice_get lines place ≡ Some line
      → broken_by plan.names plan.bodies lines (reverse (take place lines)) (is_last lines place) line ≡ none_broken
  line_keeps place line is = by (split (name plan items) (name_at plan.names) (pieces_of plan items) last place line is)
    where
      by : Split (name plan items) (name_at plan.names) (pieces_of plan items) lines place line ⊎ IsEnd (name plan items) (name_at plan.names) (pieces_of plan items) last place line → broken_by plan.names plan.bodies lines (reverse (take place lines)) (is_last lines place) line ≡ none_broken
      by (inl s) =
          let shorter : length (pieces_of plan items) ≡ length s.front + (length s.rest + 1) = ap length s.are ∙ length-append s.front (s.piece ∷ s.rest) ∙ omega arith in
          let not_last : is_last lines place ≡ false =
          false_from_ne_true (place + 1 == length lines) (λ same. let equal = eqb-true (place + 1) (length lines) same in absurd (omega (arith, equal, long, shorter, s.place_is))) in
          ap₂ (λ (earlier : List Line) (b : Bool). broken_by plan.names plan.bodies lines earlier b line) (ap reverse s.before) not_last
          ∙ ap (broken_by plan.names plan.bodies lines (reverse (map (line_of plan items) s.front)) false) s.here
          ∙ piece_keeps s.front s.rest s.piece s.are
      by (inr e) =
          let at_end : is_last lines place ≡ true = eq-eqb (place + 1) (length lines) (omega (arith, long, e.place_is)) in
          ap₂ (λ (earlier : List Line) (b : Bool). broken_by plan.names plan.bodies lines earlier b line) (ap reverse e.before) at_end
          ∙ ap (broken_by plan.names plan.bodies lines (reverse told) true) e.here
          ∙ last_keeps (reverse told)

  no_line_missing : (some : List Piece) (place : ℕ) → no_line (map (line_of plan items) some ++ last ∷ []) place ≡ []
  no_line_missing [] place = refl
  no_line_missing (piece ∷ some) place = refl

  keeps : KeepsRules plan.names plan.bodies lines
  keeps place rule breaks = by (slice_get lines place) refl
    where
      by : (o : Option Line) → slice_get lines place ≡ o → ⊥
      by (Some line) is =
          true≢false
          (sym breaks.1 ∙ ap (λ o. get_or (broken_at plan.names plan.bodies lines place o) (rule - 1) false) is
          ∙ ap (λ bs. get_or bs (rule - 1) false) (line_keeps place line is) ∙ none_there (rule - 1))
      by None is =
          true≢false
          (sym breaks.1 ∙ ap (λ o. get_or (broken_at plan.names plan.bodies lines place o) (rule - 1) false) is
          ∙ ap (λ bs. get_or bs (rule - 1) false) (no_line_missing (pieces_of plan items) place))

  pub report_keeps : KeepsRules plan.names plan.bodies (report_lines Lines plan.names [] items)
  report_keeps =
      subst (KeepsRules plan.names plan.bodies) (ap (λ (ls : List Line). ls ++ last ∷ []) (lines_are (name plan items) (name_at plan.names) items)) keeps

pub run_keeps : (plan : Content) (items : List Item) → IsPlan plan → IsValidCluster (cluster_of plan) → IsRun (cluster_of plan) items → ItemsFit plan.names [] items → Agreement items
    → Coverage (cluster_of plan) items → SerialOutcomes (cluster_of plan) items → count_by is_reply (notes_of items) ≤ count_by is_begin (notes_of items)
    → KeepsRules plan.names plan.bodies (report_lines Lines plan.names [] items)
run_keeps plan items is_plan valid run fit agreement coverage serial few =
    report_keeps plan items
    (record { is_plan = is_plan; valid = valid; stands = run.stands; fit = fit; agreement = agreement; coverage = coverage; serial = serial }) few
