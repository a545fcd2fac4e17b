-- What of the notes is counted, and counts of notes.
use Rattle.std.specs.Prelude.{◌≡◌, ◌+◌, ◌-◌, ℕ, Bool, List, count_by}
use Rattle.acc_message.specs.declared.note.Path.{Path}
use Rattle.acc_message.specs.declared.note.Note.{Note}
use Rattle.acc_message.specs.declared.note.Note.TheVariants.{Begin, Recover, Blocked, Ended, Decide, Outcome, Reply}
use Rattle.acc_message.specs.declared.note.Path.TheVariants.{Fast, Slow, Recovered, Adopted}
use Rattle.acc_report.specs.declared.summary.Tally.{Tally}
use Rattle.acc_report.specs.declared.summary.Tally.TheVariants.{Begins, Replies, Decisions}
use Rattle.acc_report.specs.declared.summary.Counts.{Counts}
use Rattle.acc_report_line.specs.declared.line.Line.{Line}
use Rattle.acc_report_line.specs.declared.line.Line.TheVariants.{Decided, End}
use Rattle.acc_report.specs.Report.{is_begin, is_reply, decides_by}

abbrev pub is_counted : Tally → Note → Bool
is_counted Begins note = is_begin note
is_counted Replies note = is_reply note
is_counted (Decisions path) note = decides_by path note

abbrev pub counted : Counts → Tally → ℕ
counted c Begins = c.begins
counted c Replies = c.replies
counted c (Decisions Fast) = c.fast
counted c (Decisions Slow) = c.slow
counted c (Decisions Recovered) = c.recovered
counted c (Decisions Adopted) = c.adopted

-- the counts with one more note
abbrev pub counts_by : Counts → Path → Counts
counts_by c Fast = record c { fast = c.fast + 1 }
counts_by c Slow = record c { slow = c.slow + 1 }
counts_by c Recovered = record c { recovered = c.recovered + 1 }
counts_by c Adopted = record c { adopted = c.adopted + 1 }

abbrev pub counts_with : Counts → Note → Counts
counts_with c (Begin id) = record c { begins = c.begins + 1 }
counts_with c (Recover id ballot) = c
counts_with c (Blocked id ballot by) = c
counts_with c (Ended id ballot by) = c
counts_with c (Decide id t path deps) = counts_by c path
counts_with c (Outcome id reply) = c
counts_with c (Reply id reply) = record c { replies = c.replies + 1 }

-- the counts of these notes
abbrev pub AreCounts : Counts → List Note → Type 0
AreCounts c notes = (what : Tally) → counted c what ≡ count_by (is_counted what) notes

-- the lines that give these counts
abbrev pub last_line_of : Counts → Line
last_line_of c = End c.begins c.replies (c.begins - c.replies)

abbrev pub decided_line_of : Counts → Line
decided_line_of c = Decided c.fast c.slow c.recovered c.adopted
