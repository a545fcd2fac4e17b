-- The schedule of a generated document begins each of its transactions once, and ends with a drain.
use Rattle.std.proofs.Common.{◌≡◌, ℕ, zero, suc, ◌+◌, ◌%◌, ◌<◌, ◌==◌, true, false, ◌||◌, cond, List, [], ◌∷◌, ◌++◌, length, flat_map, codes, decimal, refl, sym, ◌∙◌, ap, subst, arith, append_assoc, append-nil}
use Rattle.std.specs.List.{range_with_len}
use Rattle.std.proofs.lemmas.Bool.{ne_eqb}
use Rattle.std.proofs.lemmas.Fmt.{decimal_digit}
use Rattle.std.proofs.lemmas.List.FromFn.{length-range_with_len}
use Rattle.acc_topology.specs.Sets.{is_among}
use Rattle.acc_message.specs.declared.item.Item.{Item}
use Rattle.acc_message.specs.Items.{notes_of}
use Rattle.acc_schedule.specs.declared.plan.Step.{Step}
use Rattle.acc_schedule.specs.declared.plan.Step.TheVariants.{Begin, Drain}
use Rattle.acc_schedule_runs.specs.Laws.{IsCalmStep, EndsWithDrain}
use Rattle.acc_report_line.specs.declared.line.Line.{Line}
use Rattle.acc_report_line.specs.declared.line.Line.TheVariants.{End}
use Rattle.acc_report_line.specs.Texts.{full_text}
use Rattle.acc_report.specs.Report.{decided_line, report_text}
use Rattle.acc_generator.specs.Plan.{plan, steps, steps_of}
use Rattle.acc_command_alone.specs.Counts.{begun_by, AreApart, AreAnswered, answered_text}

-- ---- the schedule

with_begin : (step : Step) (behind : List Step) → IsCalmStep step → EndsWithDrain behind → EndsWithDrain (step ∷ behind)
with_begin step [] calm ends = absurd ends
with_begin step (other ∷ behind) calm ends = (calm, ends)

piece_ends : (number : ℕ) (behind : List Step) → EndsWithDrain behind → EndsWithDrain (steps_of number ++ behind)
unfolding steps_of
piece_ends number behind ends =
    elim (number % 16 == 15) as (λ b. EndsWithDrain (cond b (Begin number ∷ Drain ∷ []) (Begin number ∷ []) ++ behind)) [
      | true ↦ with_begin (Begin number) (Drain ∷ behind) tt (with_begin Drain behind tt ends)
      | false ↦ with_begin (Begin number) behind tt ends
    ]

piece_begins : (number : ℕ) (behind : List Step) → begun_by (steps_of number ++ behind) ≡ number ∷ begun_by behind
unfolding steps_of
piece_begins number behind =
    elim (number % 16 == 15) as (λ b. begun_by (cond b (Begin number ∷ Drain ∷ []) (Begin number ∷ []) ++ behind) ≡ number ∷ begun_by behind) [ true ↦ refl | false ↦ refl ]

abbrev from : ℕ → ℕ → List Step
from a n = flat_map steps_of (range_with_len a n) ++ Drain ∷ []

from_more : (a n : ℕ) → from a (suc n) ≡ steps_of a ++ from (a + 1) n
from_more a n = append_assoc (steps_of a) (flat_map steps_of (range_with_len (a + 1) n)) (Drain ∷ [])

from_ends : (a n : ℕ) → EndsWithDrain (from a n)
from_ends a zero = refl
from_ends a (suc n) = subst EndsWithDrain (sym (from_more a n)) (piece_ends a (from (a + 1) n) (from_ends (a + 1) n))

from_begins : (a n : ℕ) → begun_by (from a n) ≡ range_with_len a n
from_begins a zero = refl
from_begins a (suc n) = ap begun_by (from_more a n) ∙ piece_begins a (from (a + 1) n) ∙ ap (λ (ns : List ℕ). a ∷ ns) (from_begins (a + 1) n)

not_among : (m a n : ℕ) → m < a → is_among (range_with_len a n) m ≡ false
not_among m a zero less = refl
not_among m a (suc n) less =
    ap (λ b. b || is_among (range_with_len (a + 1) n) m) (ne_eqb a m (λ e. omega arith)) ∙ not_among m (a + 1) n (omega arith)

range_apart : (a n : ℕ) → AreApart (range_with_len a n)
range_apart a zero = tt
range_apart a (suc n) = (not_among a (a + 1) n (omega arith), range_apart (a + 1) n)

pub steps_end : (count : ℕ) → EndsWithDrain (steps count)
steps_end count = from_ends 0 count

pub steps_begin_once : (count : ℕ) → AreApart (begun_by (steps count))
steps_begin_once count = subst AreApart (sym (from_begins 0 count)) (range_apart 0 count)

pub steps_begin_all : (count : ℕ) → length (begun_by (steps count)) ≡ count
steps_begin_all count = ap (λ (ns : List ℕ). length ns) (from_begins 0 count) ∙ length-range_with_len 0 count

-- ---- the report

last_text : (x c z n : List ℕ) → ((x ++ c) ++ z) ++ n ≡ x ++ (c ++ (z ++ n))
last_text x c z n = append_assoc (x ++ c) z n ∙ append_assoc x c (z ++ n)

no_more : (count : ℕ) → full_text (End count count 0) ≡ answered_text count
no_more count =
    let front : List ℕ = codes "end txns=" ++ decimal count ++ codes " replied=" ++ decimal count in
    ap (λ (left : List ℕ). ((front ++ codes " open=") ++ left) ++ codes "\n") (decimal_digit 0 (omega arith))
    ∙ last_text front (codes " open=") (48 ∷ []) (codes "\n")

pub text_ends : (seed count : ℕ) (items : List Item) → AreAnswered count items
    → (front : List ℕ) × (report_text (plan seed count).print (plan seed count).names [] items ≡ front ++ answered_text count)
text_ends seed count items answered = (
  full_text (decided_line (notes_of items)),
  ap (λ (line : Line). full_text (decided_line (notes_of items)) ++ (full_text line ++ [])) answered.last
      ∙ ap (λ (l : List ℕ). full_text (decided_line (notes_of items)) ++ l) (append-nil (full_text (End count count 0)) ∙ no_more count),
)
