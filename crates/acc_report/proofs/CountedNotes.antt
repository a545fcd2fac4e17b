-- What one more note adds to the counts, and the lines that give counts of notes.
use Rattle.std.proofs.Common.{arith, refl, ◌≡◌, ℕ, ◌+◌, ◌-◌, ◌<◌, List, [], ◌∷◌, ◌++◌, length, get_or, take, cond, ap, sym, ◌∙◌}
use Rattle.std.proofs.lemmas.List.{take_more}
use Rattle.std.proofs.lemmas.List.Sums.{sum_by-append}
use Rattle.std.specs.List.{count_by}
use Rattle.acc_report_line.specs.declared.line.Line.TheVariants.{Decided as DecidedLine, End as EndLine}
use Rattle.acc_message.specs.declared.note.Path.TheVariants.{Fast, Slow, Recovered, Adopted}
use Rattle.acc_message.specs.declared.note.Note.{Note}
use Rattle.acc_message.specs.declared.note.Note.TheVariants.{Begin, Recover, Blocked, Ended, Decide, Outcome, Reply}
use Rattle.acc_report.specs.declared.summary.Tally.{Tally}
use Rattle.acc_report.specs.declared.summary.Tally.TheVariants.{Begins, Replies, Decisions}
use Rattle.acc_report.specs.declared.summary.Counts.{Counts}
use Rattle.acc_report.specs.Counts.{is_counted, counted, counts_with, AreCounts, last_line_of, decided_line_of}
use Rattle.acc_report.specs.Report.{is_begin, decides_by, last_line, decided_line}

pub counted_with : (c : Counts) (note : Note) (what : Tally) → counted (counts_with c note) what ≡ counted c what + cond (is_counted what note) 1 0
counted_with c (Begin id) Begins = refl
counted_with c (Begin id) Replies = omega arith
counted_with c (Begin id) (Decisions Fast) = omega arith
counted_with c (Begin id) (Decisions Slow) = omega arith
counted_with c (Begin id) (Decisions Recovered) = omega arith
counted_with c (Begin id) (Decisions Adopted) = omega arith
counted_with c (Recover id ballot) Begins = omega arith
counted_with c (Recover id ballot) Replies = omega arith
counted_with c (Recover id ballot) (Decisions Fast) = omega arith
counted_with c (Recover id ballot) (Decisions Slow) = omega arith
counted_with c (Recover id ballot) (Decisions Recovered) = omega arith
counted_with c (Recover id ballot) (Decisions Adopted) = omega arith
counted_with c (Blocked id ballot by) Begins = omega arith
counted_with c (Blocked id ballot by) Replies = omega arith
counted_with c (Blocked id ballot by) (Decisions Fast) = omega arith
counted_with c (Blocked id ballot by) (Decisions Slow) = omega arith
counted_with c (Blocked id ballot by) (Decisions Recovered) = omega arith
counted_with c (Blocked id ballot by) (Decisions Adopted) = omega arith
counted_with c (Ended id ballot by) Begins = omega arith
counted_with c (Ended id ballot by) Replies = omega arith
counted_with c (Ended id ballot by) (Decisions Fast) = omega arith
counted_with c (Ended id ballot by) (Decisions Slow) = omega arith
counted_with c (Ended id ballot by) (Decisions Recovered) = omega arith
counted_with c (Ended id ballot by) (Decisions Adopted) = omega arith
counted_with c (Decide id t Fast deps) Begins = omega arith
counted_with c (Decide id t Fast deps) Replies = omega arith
counted_with c (Decide id t Fast deps) (Decisions Fast) = refl
counted_with c (Decide id t Fast deps) (Decisions Slow) = omega arith
counted_with c (Decide id t Fast deps) (Decisions Recovered) = omega arith
counted_with c (Decide id t Fast deps) (Decisions Adopted) = omega arith
counted_with c (Decide id t Slow deps) Begins = omega arith
counted_with c (Decide id t Slow deps) Replies = omega arith
counted_with c (Decide id t Slow deps) (Decisions Fast) = omega arith
counted_with c (Decide id t Slow deps) (Decisions Slow) = refl
counted_with c (Decide id t Slow deps) (Decisions Recovered) = omega arith
counted_with c (Decide id t Slow deps) (Decisions Adopted) = omega arith
counted_with c (Decide id t Recovered deps) Begins = omega arith
counted_with c (Decide id t Recovered deps) Replies = omega arith
counted_with c (Decide id t Recovered deps) (Decisions Fast) = omega arith
counted_with c (Decide id t Recovered deps) (Decisions Slow) = omega arith
counted_with c (Decide id t Recovered deps) (Decisions Recovered) = refl
counted_with c (Decide id t Recovered deps) (Decisions Adopted) = omega arith
counted_with c (Decide id t Adopted deps) Begins = omega arith
counted_with c (Decide id t Adopted deps) Replies = omega arith
counted_with c (Decide id t Adopted deps) (Decisions Fast) = omega arith
counted_with c (Decide id t Adopted deps) (Decisions Slow) = omega arith
counted_with c (Decide id t Adopted deps) (Decisions Recovered) = omega arith
counted_with c (Decide id t Adopted deps) (Decisions Adopted) = refl
counted_with c (Outcome id reply) Begins = omega arith
counted_with c (Outcome id reply) Replies = omega arith
counted_with c (Outcome id reply) (Decisions Fast) = omega arith
counted_with c (Outcome id reply) (Decisions Slow) = omega arith
counted_with c (Outcome id reply) (Decisions Recovered) = omega arith
counted_with c (Outcome id reply) (Decisions Adopted) = omega arith
counted_with c (Reply id reply) Begins = omega arith
counted_with c (Reply id reply) Replies = refl
counted_with c (Reply id reply) (Decisions Fast) = omega arith
counted_with c (Reply id reply) (Decisions Slow) = omega arith
counted_with c (Reply id reply) (Decisions Recovered) = omega arith
counted_with c (Reply id reply) (Decisions Adopted) = omega arith

-- the counts after one note more of some
pub counted_more : (first before after : Counts) (notes : List Note) (i : ℕ) (note : Note) (what : Tally) → i < length notes → note ≡ get_or notes i note →
    counted before what ≡ counted first what + count_by (is_counted what) (take i notes) → after ≡ counts_with before note →
    counted after what ≡ counted first what + count_by (is_counted what) (take (i + 1) notes)
counted_more first before after notes i note what h e so_far is =
    let split = ap (λ some. count_by (is_counted what) some) (take_more notes i note h ∙ ap (λ y. take i notes ++ y ∷ []) (sym e)) in
    let sum = sum_by-append (λ one. cond (is_counted what one) 1 0) (take i notes) (note ∷ []) in
    let now = ap (λ c. counted c what) is ∙ counted_with before note what in
    omega (arith, split, sum, now, so_far)

-- the last line
pub last_line_is : (c : Counts) (notes : List Note) → AreCounts c notes → last_line_of c ≡ last_line notes
last_line_is c notes are =
    ap (λ n. EndLine n c.replies (n - c.replies)) (are Begins)
    ∙ ap (λ n. EndLine (count_by is_begin notes) n (count_by is_begin notes - n)) (are Replies)

-- the line of decisions
pub decided_line_is : (c : Counts) (notes : List Note) → AreCounts c notes → decided_line_of c ≡ decided_line notes
decided_line_is c notes are =
    ap (λ n. DecidedLine n c.slow c.recovered c.adopted) (are (Decisions Fast))
    ∙ ap (λ n. DecidedLine (count_by (decides_by Fast) notes) n c.recovered c.adopted) (are (Decisions Slow))
    ∙ ap (λ n. DecidedLine (count_by (decides_by Fast) notes) (count_by (decides_by Slow) notes) n c.adopted) (are (Decisions Recovered))
    ∙ ap (λ n. DecidedLine (count_by (decides_by Fast) notes) (count_by (decides_by Slow) notes) (count_by (decides_by Recovered) notes) n) (are (Decisions Adopted))
