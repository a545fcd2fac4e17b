-- Lines are read one after another, up to the first that has no form.
use Rattle.std.proofs.Common.{◌≡◌, ℕ, ◌+◌, ◌<◌, ◌≤◌, List, [], ◌∷◌, ◌++◌, length, Some, None, Result, Ok, Err, refl, sym, ap, ◌∙◌, subst, append_assoc, length-append, arith}
use Rattle.std.specs.Prelude.{codes}
use Rattle.std.specs.Result.{IsErrAnd}
use Rattle.std.proofs.lemmas.Result.{err_from_is_err_and}
use Rattle.std.proofs.lemmas.List.{append-nil}
use Rattle.std.proofs.lemmas.Grind.{flat_map-append}
use Rattle.acc_report_line.specs.declared.line.Line.{Line}
use Rattle.acc_report_line.specs.Forms.{HasForm, HaveForms}
use Rattle.acc_report_line.specs.Texts.{line_text, full_text, lines_text}
use Rattle.acc_report_reader.specs.Fields.{parts_at}
use Rattle.acc_report_reader.specs.Reading.{line_in}
use Rattle.acc_report_reader.specs.Report.{IsReport, BeginsNoLine, IsFaultyAt, Reads, Says, GivesBack}
use Rattle.acc_report_reader.specs.declared.error.ReportError.{ReportError}
use Rattle.acc_report_reader.specs.declared.error.ReportError.TheVariants.{Line as AtLine, OutOfMemory}
use Rattle.acc_report_reader.proofs.Slices.{parts-of, parts-is}
use Rattle.acc_report_reader.proofs.Feeds.{line_lacks}
use Rattle.acc_report_reader.proofs.LinesExact.{line-is}
use Rattle.acc_report_reader.proofs.LinesRead.{line-of}

-- these lines were read, and this is left
pub record IsRead (bytes : List ℕ) (lines : List Line) (rest : List ℕ) : Type 0 where
  pub forms : HaveForms lines
  pub text : lines_text lines ++ rest ≡ bytes
  pub few : length lines + length rest ≤ length bytes

all_more : (lines : List Line) (line : Line) → HaveForms lines → HasForm line → HaveForms (lines ++ line ∷ [])
all_more [] line h k = (k, tt)
all_more (l ∷ ls) line h k = (h.0, all_more ls line h.1 k)

ended : (lines : List Line) (last : Line) → lines_text (lines ++ last ∷ []) ≡ lines_text lines ++ full_text last
ended lines last = flat_map-append full_text lines (last ∷ []) ∙ ap (λ t. lines_text lines ++ t) (append-nil (full_text last))

pub nothing_read : (bytes : List ℕ) → IsRead bytes [] bytes
nothing_read bytes = record { forms = tt; text = refl; few = omega arith }

pub one_more : (bytes rest first others : List ℕ) (lines : List Line) (line : Line) → IsRead bytes lines rest → Some (first, others) ≡ parts_at 10 rest → line_in first ≡ Some line
    → IsRead bytes (lines ++ line ∷ []) others
one_more bytes rest first others lines line read cut says =
    let is = line-is first line says in
    let whole : first ++ 10 ∷ others ≡ rest = parts-is 10 rest (first, others) (sym cut) in
    let long : length first + length (10 ∷ others) ≡ length rest = sym (length-append first (10 ∷ others)) ∙ ap length whole in
    let longer : length (lines ++ line ∷ []) ≡ length lines + length (line ∷ []) = length-append lines (line ∷ []) in
    let few = read.few in
    record {
      forms = all_more lines line read.forms is.0;
      text =
          ap (λ t. t ++ others) (ended lines line) ∙ append_assoc (lines_text lines) (full_text line) others
          ∙ ap (λ t. lines_text lines ++ t) (append_assoc (line_text line) (codes "\n") others ∙ ap (λ t. t ++ 10 ∷ others) is.1 ∙ whole)
          ∙ read.text;
      few = omega arith;
    }

pub all_read : (bytes : List ℕ) (lines : List Line) (rest : List ℕ) → IsRead bytes lines rest → length rest ≡ 0 → IsReport bytes lines
all_read bytes lines [] read none = (read.forms, sym (append-nil (lines_text lines)) ∙ read.text)
all_read bytes lines (c ∷ cs) read none = absurd (omega arith)

-- where a line stands in front, it is cut there
cut_there : (rest : List ℕ) (line : Line) (more : List ℕ) → HasForm line → full_text line ++ more ≡ rest → parts_at 10 rest ≡ Some (line_text line, more)
cut_there rest line more h e =
    ap (parts_at 10) (sym e ∙ append_assoc (line_text line) (codes "\n") more) ∙ parts-of 10 (line_text line) more (line_lacks line h)

no_line : (rest first others : List ℕ) → Some (first, others) ≡ parts_at 10 rest → line_in first ≡ None → BeginsNoLine rest
no_line rest first others cut none line more h e =
    let there = cut_there rest line more h e in
    let both : Some (first, others) ≡ Some (line_text line, more) = cut ∙ there in
    let pair : (first, others) ≡ (line_text line, more) = cc in
    let front : List ℕ × List ℕ → List ℕ = λ p. p.0 in
    let same : first ≡ line_text line = ap front pair in
    let says = line-of line h in
    let wrong : None ≡ Some line = sym none ∙ ap line_in same ∙ says in cc

no_feed : (rest : List ℕ) → None ≡ parts_at 10 rest → BeginsNoLine rest
no_feed rest none line more h e =
    let there = cut_there rest line more h e in
    let wrong : None ≡ Some (line_text line, more) = none ∙ there in cc

some_left : (rest first others : List ℕ) → Some (first, others) ≡ parts_at 10 rest → rest ≡ [] → ⊥
some_left rest first others cut none =
    let wrong : Some (first, others) ≡ None = cut ∙ ap (parts_at 10) none in cc

pub faulty_line : (bytes rest first others : List ℕ) (lines : List Line) (number at : ℕ) → IsRead bytes lines rest → Some (first, others) ≡ parts_at 10 rest
    → line_in first ≡ None → at ≡ number → number ≡ length lines + 1 → IsFaultyAt bytes at
faulty_line bytes rest first others lines number at read cut none e f =
    (lines, rest, read.forms, read.text, sym (e ∙ f), some_left rest first others cut, no_line rest first others cut none)

pub unfinished_line : (bytes rest : List ℕ) (lines : List Line) (number : ℕ) → IsRead bytes lines rest → None ≡ parts_at 10 rest
    → (length rest ≡ 0 → ⊥) → number ≡ length lines + 1 → IsFaultyAt bytes number
unfinished_line bytes rest lines number read none some e =
    (lines, rest, read.forms, read.text, sym e, λ empty. some (ap length empty), no_feed rest none)

pub less_left : (rest first others : List ℕ) → Some (first, others) ≡ parts_at 10 rest → length others < length rest
less_left rest first others cut =
    let whole : first ++ 10 ∷ others ≡ rest = parts-is 10 rest (first, others) (sym cut) in
    let long : length first + length (10 ∷ others) ≡ length rest = sym (length-append first (10 ∷ others)) ∙ ap length whole in omega arith

fault_said : (bytes rest first others : List ℕ) (lines : List Line) (number : ℕ) (error : ReportError) → IsRead bytes lines rest → Some (first, others) ≡ parts_at 10 rest
    → Says (Err error) (line_in first) number → number ≡ length lines + 1 → Reads (Err error) bytes
fault_said bytes rest first others lines number (AtLine at) read cut says e = faulty_line bytes rest first others lines number at read cut says.0 says.1 e
fault_said bytes rest first others lines number OutOfMemory read cut says e = tt

pub fault_read : (answer : Result (List Line) ReportError) (bytes rest first others : List ℕ) (lines : List Line) (number : ℕ) (error : ReportError) → IsErrAnd answer (λ e. e ≡ error) → IsRead bytes lines rest
    → Some (first, others) ≡ parts_at 10 rest → Says (Err error) (line_in first) number → number ≡ length lines + 1 → Reads answer bytes
fault_read answer bytes rest first others lines number error is read cut says e =
    let P : Result (List Line) ReportError → Type 0 = λ r. Reads r bytes in
    let p = err_from_is_err_and answer is in
    let same : answer ≡ Err error = p.1 ∙ ap (λ e. Err e) p.2 in
    subst P (sym same) (fault_said bytes rest first others lines number error read cut says e)

-- ---- lines are read again

-- two reports of the same bytes have the same lines
same_lines : (a b : List Line) → HaveForms a → HaveForms b → lines_text a ≡ lines_text b → a ≡ b
same_lines [] [] h k e = refl
same_lines [] (l ∷ ls) h k e =
    let there = cut_there (lines_text []) l (lines_text ls) k.0 (sym e) in cc
same_lines (l ∷ ls) [] h k e =
    let there = cut_there (lines_text []) l (lines_text ls) h.0 e in cc
same_lines (a ∷ more) (b ∷ bs) h k e =
    let one = cut_there (lines_text (b ∷ bs)) a (lines_text more) h.0 e in
    let two = cut_there (lines_text (b ∷ bs)) b (lines_text bs) k.0 refl in
    let both : Some (line_text a, lines_text more) ≡ Some (line_text b, lines_text bs) = sym one ∙ two in
    let pair : (line_text a, lines_text more) ≡ (line_text b, lines_text bs) = cc in
    let front : List ℕ × List ℕ → List ℕ = λ p. p.0 in
    let back : List ℕ × List ℕ → List ℕ = λ p. p.1 in
    let first : Some a ≡ Some b = sym (line-of a h.0) ∙ ap line_in (ap front pair) ∙ line-of b k.0 in
    let here : a ≡ b = cc in
    ap (λ l. l ∷ more) here ∙ ap (λ ls. b ∷ ls) (same_lines more bs h.1 k.1 (ap back pair))

pub only_lines : (bytes : List ℕ) (a b : List Line) → IsReport bytes a → IsReport bytes b → a ≡ b
only_lines bytes a b h k = same_lines a b h.0 k.0 (h.1 ∙ sym k.1)

-- a report has no fault
no_fault_in : (lines before : List Line) (rest : List ℕ) → HaveForms lines → HaveForms before → lines_text before ++ rest ≡ lines_text lines → (rest ≡ [] → ⊥) → BeginsNoLine rest → ⊥
no_fault_in [] [] rest h k e some none = some e
no_fault_in (l ∷ ls) [] rest h k e some none = none l (lines_text ls) h.0 (sym e)
no_fault_in [] (b ∷ bs) rest h k e some none =
    let there = cut_there (lines_text []) b (lines_text bs ++ rest) k.0 (sym (append_assoc (full_text b) (lines_text bs) rest) ∙ e) in cc
no_fault_in (l ∷ ls) (b ∷ bs) rest h k e some none =
    let one = cut_there (lines_text (l ∷ ls)) b (lines_text bs ++ rest) k.0 (sym (append_assoc (full_text b) (lines_text bs) rest) ∙ e) in
    let two = cut_there (lines_text (l ∷ ls)) l (lines_text ls) h.0 refl in
    let both : Some (line_text b, lines_text bs ++ rest) ≡ Some (line_text l, lines_text ls) = sym one ∙ two in
    let pair : (line_text b, lines_text bs ++ rest) ≡ (line_text l, lines_text ls) = cc in
    let back : List ℕ × List ℕ → List ℕ = λ p. p.1 in
    no_fault_in ls bs rest h.1 k.1 (ap back pair) some none

pub no_fault : (bytes : List ℕ) (lines : List Line) (number : ℕ) → IsReport bytes lines → IsFaultyAt bytes number → ⊥
no_fault bytes lines number h f = no_fault_in lines f.0 f.1 h.0 f.2 (f.3 ∙ sym h.1) f.5 f.6

pub gives_back : (lines : List Line) (answer : Result (List Line) ReportError) → HaveForms lines → Reads answer (lines_text lines) → GivesBack lines answer
gives_back lines (Ok read) forms is = only_lines (lines_text lines) read lines is (forms, refl)
gives_back lines (Err (AtLine number)) forms fault = no_fault (lines_text lines) lines number (forms, refl) fault
gives_back lines (Err OutOfMemory) forms none = tt
