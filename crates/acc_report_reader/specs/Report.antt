-- What reading a report tells: `IsReport`, `Faulty` and `Reads` speak of the lines and their texts alone.
use Rattle.std.specs.Prelude.{◌≡◌, ℕ, ◌+◌, List, [], ◌++◌, length, Option, Some, None, Result, Ok, Err}
use Rattle.acc_report_line.specs.declared.line.Line.{Line}
use Rattle.acc_report_line.specs.Forms.{HasForm, HaveForms}
use Rattle.acc_report_line.specs.Texts.{full_text, lines_text}
use Rattle.acc_report_reader.specs.declared.error.ReportError.{ReportError}
use Rattle.acc_report_reader.specs.declared.error.ReportError.TheVariants.{Line as AtLine, OutOfMemory}

-- the bytes are the text of these lines, each of which has its form
abbrev pub IsReport : List ℕ → List Line → Type 0
IsReport bytes lines = HaveForms lines × (lines_text lines ≡ bytes)

-- no line with its form and a line feed stands in front
abbrev pub BeginsNoLine : List ℕ → Type 0
BeginsNoLine bytes = (line : Line) (more : List ℕ) → HasForm line → full_text line ++ more ≡ bytes → ⊥

-- the lines before the one with this number, counted from 1, have their forms, and what stands from there on is something that
-- begins with no line
abbrev pub IsFaultyAt : List ℕ → ℕ → Type 0
IsFaultyAt bytes number =
    (before : List Line) × (rest : List ℕ) × HaveForms before × (lines_text before ++ rest ≡ bytes) × (length before + 1 ≡ number)
    × (rest ≡ [] → ⊥) × BeginsNoLine rest

abbrev pub Reads : Result (List Line) ReportError → List ℕ → Type 0
Reads (Ok lines) bytes = IsReport bytes lines
Reads (Err (AtLine number)) bytes = IsFaultyAt bytes number
Reads (Err OutOfMemory) bytes = Unit {0}

-- what a line of this number says, or that it has no form
abbrev pub Says : Result Line ReportError → Option Line → ℕ → Type 0
Says (Ok line) read number = read ≡ Some line
Says (Err (AtLine at)) read number = (read ≡ None) × (at ≡ number)
Says (Err OutOfMemory) read number = Unit {0}

-- no answer but these lines, or want of memory
abbrev pub GivesBack : List Line → Result (List Line) ReportError → Type 0
GivesBack lines (Ok read) = read ≡ lines
GivesBack lines (Err (AtLine number)) = ⊥
GivesBack lines (Err OutOfMemory) = Unit {0}
