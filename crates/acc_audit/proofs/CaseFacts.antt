-- The transactions of a case, one after another, and why a case is refused.
use Rattle.std.proofs.Common.{◌≡◌, ℕ, ◌+◌, ◌<◌, ◌≤◌, List, [], ◌∷◌, ◌++◌, append_assoc, length, length-append, take, map, get_or, codes, Option, None, Some, Result, Ok, Err, IfOk, IfErr, refl, sym, ap, subst, ◌∙◌, inl, inr, arith}
use Rattle.std.specs.Prelude.{IsSome}
use Rattle.std.proofs.lemmas.List.{get_or_at, take-map, length-map}
use Rattle.std.proofs.lemmas.Option.{none-some, same_Some}
use Rattle.serde_json.specs.Data.{Data}
use Rattle.serde_json.specs.View.{view}
use Rattle.serde_json.specs.declared.value.Value.{Value}
use Rattle.acc_base.specs.Faults.{◌then◌, must, each}
use Rattle.acc_base.proofs.Faults.{both_none}
use Rattle.acc_txn.specs.declared.parts.BodyParts.{BodyParts}
use Rattle.acc_schedule.specs.declared.error.PlanKind.{PlanKind}
use Rattle.acc_schedule.specs.declared.error.PlanKind.TheVariants.{Shape}
use Rattle.acc_schedule.specs.declared.error.PlanError.{PlanError}
use Rattle.acc_schedule.specs.declared.error.PlanError.TheVariants.{Bad, OutOfMemory}
use Rattle.acc_schedule.specs.Document.{version_fault, IsRefused, Reads}
use Rattle.acc_schedule.specs.Faults.{bad, Fault, IsFault}
use Rattle.acc_schedule.specs.Fields.{field, is_text, items, object_fault}
use Rattle.acc_schedule.specs.Transactions.{bodies_of, body_of, name_of, names_of}
use Rattle.acc_schedule.proofs.AnswerFacts.{same_json}
use Rattle.acc_document_fields.proofs.EachFacts.{before, behind, AreRead, element_fails, list_read, none_read, one_more}
use Rattle.acc_report_line.specs.declared.line.Line.{Line}
use Rattle.acc_report_line.specs.Forms.{HasForm, HaveForms}
use Rattle.acc_report_line.specs.Texts.{full_text, line_text, lines_text}
use Rattle.acc_report_reader.specs.Fields.{parts_at}
use Rattle.acc_report_reader.specs.Report.{BeginsNoLine, IsFaultyAt, IsReport}
use Rattle.acc_report_reader.proofs.Feeds.{line_lacks}
use Rattle.acc_report_reader.proofs.Slices.{parts-of}
use Rattle.acc_report_reader.proofs.WholeReport.{no_fault, only_lines}
use Rattle.acc_audit.specs.declared.cases.Case.{Case}
use Rattle.acc_audit.specs.declared.judgement.Judgement.{Judgement}
use Rattle.acc_audit.specs.Cases.{case_fault, report_of, report_path, transaction_fault, transactions_fault, no_report, txns, version_of, BreaksCase, GivesCase, GivesLines, IsCaseCause, IsCauseIn, IsDueIn, IsDueOn, IsJudged, IsReadCase, IsUnreadable, MeansCase, SaysCase}

-- the rule of each transaction, with the names before it
abbrev pub rule_at : ℕ → List Data → ℕ → Data → Fault
rule_at version ds place = transaction_fault version (take place (map name_of ds)) place

-- the first i transactions are read
pub record AllRead (version : ℕ) (vs : List Value) (i : ℕ) (names : List (List ℕ)) (bodies : List BodyParts) : Type 0 where
  pub names_read : AreRead (rule_at version (map view vs)) name_of vs i names
  pub bodies_read : AreRead (rule_at version (map view vs)) (body_of version) vs i bodies

pub nothing_read : (version : ℕ) (vs : List Value) (names : List (List ℕ)) (bodies : List BodyParts) → names ≡ [] → bodies ≡ [] → AllRead version vs 0 names bodies
nothing_read version vs names bodies no_names no_bodies =
    let rule = rule_at version (map view vs) in
    record { names_read = none_read rule name_of vs names no_names; bodies_read = none_read rule (body_of version) vs bodies no_bodies }

names_before : (vs : List Value) (i : ℕ) (names : List (List ℕ)) → names ≡ map name_of (take i (map view vs)) → names ≡ take i (map name_of (map view vs))
names_before vs i names e = e ∙ sym (take-map name_of i (map view vs))

pub one_more_transaction : (version : ℕ) (vs : List Value) (i : ℕ) (names names' : List (List ℕ)) (bodies bodies' : List BodyParts) (v : Value) (body : BodyParts)
    → AllRead version vs i names bodies → i < length vs → v ≡ get_or vs i v → transaction_fault version names i (view v) ≡ None → body ≡ body_of version (view v)
    → names' ≡ names ++ name_of (view v) ∷ [] → bodies' ≡ bodies ++ body ∷ [] → AllRead version vs (i + 1) names' bodies'
one_more_transaction version vs i names names' bodies bodies' v body all within at holds means named said =
    let rule = rule_at version (map view vs) in
    let kept : rule i (view v) ≡ None = ap (λ (before : List (List ℕ)). transaction_fault version before i (view v)) (sym (names_before vs i names all.names_read.said)) ∙ holds in
    record {
      names_read = one_more rule name_of vs i names names' v (name_of (view v)) all.names_read within at kept refl named;
      bodies_read = one_more rule (body_of version) vs i bodies bodies' v body all.bodies_read within at kept means said;
    }

pub transaction_fails : (first : Fault) (version : ℕ) (vs : List Value) (ds : List Data) (i : ℕ) (names : List (List ℕ)) (bodies : List BodyParts) (v : Value) (e : PlanError) → first ≡ None → map view vs ≡ ds
    → AllRead version vs i names bodies → i < length vs → v ≡ get_or vs i v → IsFault (transaction_fault version names i (view v)) e → IsFault (first then each (rule_at version ds) 0 ds) e
transaction_fails first version vs ds i names bodies v e holds are all within at h =
    let here : IsFault (rule_at version (map view vs) i (view v)) e =
    subst (λ (before : List (List ℕ)). IsFault (transaction_fault version before i (view v)) e) (names_before vs i names all.names_read.said) h in
    subst (λ (xs : List Data). IsFault (first then each (rule_at version xs) 0 xs) e) are (element_fails first (rule_at version (map view vs)) name_of vs (map view vs) i names v e holds refl all.names_read within at here)

pub transactions_read : (first : Fault) (version : ℕ) (vs : List Value) (ds : List Data) (i : ℕ) (names : List (List ℕ)) (bodies : List BodyParts) → first ≡ None → map view vs ≡ ds
    → AllRead version vs i names bodies → length vs ≤ i
    → ((first then each (rule_at version ds) 0 ds) ≡ None) × (names ≡ map name_of ds) × (bodies ≡ map (body_of version) ds)
transactions_read first version vs ds i names bodies holds are all long =
    let rule = rule_at version (map view vs) in
    let n = list_read first rule name_of vs (map view vs) i names holds refl all.names_read long in
    let b = list_read first rule (body_of version) vs (map view vs) i bodies holds refl all.bodies_read long in (
      ap (λ (xs : List Data). first then each (rule_at version xs) 0 xs) (sym are) ∙ n.0,
      n.1 ∙ ap (map name_of) are,
      b.1 ∙ ap (map (body_of version)) are,
    )

-- ---- transactions that are taken out of their list

pub taken_more : (before : List Value) (v : Value) (left after vs : List Value) → before ++ left ≡ vs → left ≡ v ∷ after → (before ++ v ∷ []) ++ after ≡ vs
taken_more before v left after vs is next = append_assoc before (v ∷ []) after ∙ ap (λ l. before ++ l) (sym next) ∙ is

pub taken_within : (before : List Value) (v : Value) (left after vs : List Value) (i : ℕ) → before ++ left ≡ vs → left ≡ v ∷ after → i ≡ length before → i < length vs
taken_within before v left after vs i is next at =
    omega (arith, ap length is, ap length next, length-append before left, at)

pub taken_at : (before : List Value) (v : Value) (left after vs : List Value) (i : ℕ) → before ++ left ≡ vs → left ≡ v ∷ after → i ≡ length before → v ≡ get_or vs i v
taken_at before v left after vs i is next at =
    let split : before ++ v ∷ after ≡ vs = ap (λ l. before ++ l) (sym next) ∙ is in
    sym (get_or_at before v after v i (sym at)) ∙ ap (λ (l : List Value). get_or l i v) split

pub taken_all : (before left vs : List Value) (i : ℕ) → before ++ left ≡ vs → length left ≡ 0 → i ≡ length before → length vs ≤ i
taken_all before left vs i is none at = omega (arith, ap length is, length-append before left, none, at)

-- ---- a case

-- a fault of its rules is a reason to refuse it
pub refused : (d : Data) (e : PlanError) → IsFault (case_fault d) e → GivesCase d (Err e)
refused d OutOfMemory h = tt
refused d (Bad kind path detail at) h = inl h

-- and so is a line without a form
pub unread : (d : Data) (text : List ℕ) (e : PlanError) → case_fault d ≡ None → text ≡ report_of d → GivesLines text (Err e) → GivesCase d (Err e)
unread d text OutOfMemory keeps is h = tt
unread d text (Bad kind path detail at) keeps is h = inr (keeps, subst (λ (bytes : List ℕ). IsUnreadable bytes (Bad kind path detail at)) is h)

-- each transaction has a name and a body
pub as_many_of : (d : Data) (names : List (List ℕ)) (bodies : List BodyParts) (lines : List Line) → SaysCase d names bodies lines → length bodies ≡ length names
as_many_of d names bodies lines s =
    ap length s.says_bodies ∙ length-map (items (txns d)) (body_of (version_of d)) ∙ sym (length-map (items (txns d)) name_of) ∙ sym (ap length s.says_names)

-- ---- what bytes say

-- what is said of data is said of bytes that have these data
pub is_due : (bytes : List ℕ) (d : Data) (r : Result Judgement PlanError) → Reads bytes d → IfOk r (IsDueIn d) → IfOk r (IsDueOn bytes)
is_due bytes d (Ok said) reads h =
    record { names = h.names; bodies = h.bodies; lines = h.lines; means = record { utf8 = reads.utf8; json = d; reads = reads.reads; says = h.says }; judged = h.judged }
is_due bytes d (Err error) reads h = tt

pub is_cause : (bytes : List ℕ) (d : Data) (r : Result Judgement PlanError) → Reads bytes d → IfErr r (IsCauseIn d) → IfErr r (IsCaseCause bytes)
is_cause bytes d (Ok said) reads h = tt
is_cause bytes d (Err OutOfMemory) reads h = tt
is_cause bytes d (Err (Bad kind path detail at)) reads h = inr (record { utf8 = reads.utf8; json = d; reads = reads.reads; breaks = h })

pub many_in : (d : Data) (r : Result Case PlanError) → GivesCase d r → IfOk r (λ said. length said.bodies ≡ length said.names)
many_in d (Ok said) h = as_many_of d said.names said.bodies said.lines h
many_in d (Err error) h = tt

-- ---- all data have one answer

-- two lines without a form of the same bytes have one number
one_number : (before other : List Line) (rest more : List ℕ) → HaveForms before → HaveForms other → lines_text before ++ rest ≡ lines_text other ++ more → BeginsNoLine rest → BeginsNoLine more
    → length before ≡ length other
one_number [] [] rest more h k e here there = refl
one_number (b ∷ bs) [] rest more h k e here there = absurd (there b (lines_text bs ++ rest) h.0 (sym (append_assoc (full_text b) (lines_text bs) rest) ∙ e))
one_number [] (o ∷ os) rest more h k e here there = absurd (here o (lines_text os ++ more) k.0 (sym (append_assoc (full_text o) (lines_text os) more) ∙ sym e))
one_number (b ∷ bs) (o ∷ os) rest more h k e here there =
    let one = cut_there b (lines_text bs ++ rest) h.0 in
    let two = cut_there o (lines_text os ++ more) k.0 in
    let same : full_text b ++ (lines_text bs ++ rest) ≡ full_text o ++ (lines_text os ++ more) =
    sym (append_assoc (full_text b) (lines_text bs) rest) ∙ e ∙ append_assoc (full_text o) (lines_text os) more in
    let both : Some (line_text b, lines_text bs ++ rest) ≡ Some (line_text o, lines_text os ++ more) = sym one ∙ ap (parts_at 10) same ∙ two in
    let pair : (line_text b, lines_text bs ++ rest) ≡ (line_text o, lines_text os ++ more) = cc in
    let back : List ℕ × List ℕ → List ℕ = λ p. p.1 in
    let others : length bs ≡ length os = one_number bs os rest more h.1 k.1 (ap back pair) here there in
    omega (arith, others)
  where
    cut_there : (line : Line) (left : List ℕ) → HasForm line → parts_at 10 (full_text line ++ left) ≡ Some (line_text line, left)
    cut_there line left form = ap (parts_at 10) (append_assoc (line_text line) (codes "\n") left) ∙ parts-of 10 (line_text line) left (line_lacks line form)

one_fault_at : (bytes : List ℕ) (m n : ℕ) → IsFaultyAt bytes m → IsFaultyAt bytes n → m ≡ n
one_fault_at bytes m n f g =
    sym f.4 ∙ ap (λ (k : ℕ). k + 1) (one_number f.0 g.0 f.1 g.1 f.2 g.2 (f.3 ∙ sym g.3) f.6 g.6) ∙ g.4

unreadable_once : (text : List ℕ) (a b : PlanError) → IsUnreadable text a → IsUnreadable text b → a ≡ b
unreadable_once text a b f g = f.says ∙ ap no_report (one_fault_at text f.number g.number f.faulty g.faulty) ∙ sym g.says

-- data that say something are not refused
says_no_cause : (d : Data) (names : List (List ℕ)) (bodies : List BodyParts) (lines : List Line) (e : PlanError) → SaysCase d names bodies lines → BreaksCase d e → ⊥
says_no_cause d names bodies lines e s (inl broken) = none-some _ (sym s.keeps_rules ∙ broken)
says_no_cause d names bodies lines e s (inr unread) = no_fault (report_of d) lines unread.1.number s.says_lines unread.1.faulty

breaks_once : (d : Data) (a b : PlanError) → BreaksCase d a → BreaksCase d b → a ≡ b
breaks_once d a b (inl x) (inl y) = same_Some a b (sym x ∙ y)
breaks_once d a b (inl x) (inr y) = absurd (none-some _ (sym y.0 ∙ x))
breaks_once d a b (inr x) (inl y) = absurd (none-some _ (sym x.0 ∙ y))
breaks_once d a b (inr x) (inr y) = unreadable_once (report_of d) a b x.1 y.1

-- a case is not refused, and is refused in one way
pub case_no_cause : (bytes : List ℕ) (names : List (List ℕ)) (bodies : List BodyParts) (lines : List Line) (kind : PlanKind) (path : List ℕ) (detail at : ℕ) → MeansCase bytes names bodies lines
    → IsCaseCause bytes (Bad kind path detail at) → ⊥
case_no_cause bytes names bodies lines kind path detail at m (inl no_json) = no_json.broken (m.utf8, subst (λ (o : Option Data). IsSome o) (sym m.reads) refl)
case_no_cause bytes names bodies lines kind path detail at m (inr refused) =
    let json : refused.json ≡ m.json = same_json bytes refused.json m.json refused.reads m.reads in
    says_no_cause m.json names bodies lines (Bad kind path detail at) m.says (subst (λ (d : Data). BreaksCase d (Bad kind path detail at)) json refused.breaks)

-- a case says one thing
pub same_case : (bytes : List ℕ) (names other_names : List (List ℕ)) (bodies other_bodies : List BodyParts) (lines other_lines : List Line) → MeansCase bytes names bodies lines
    → MeansCase bytes other_names other_bodies other_lines → (names ≡ other_names) × (bodies ≡ other_bodies) × (lines ≡ other_lines)
same_case bytes names other_names bodies other_bodies lines other_lines a b =
    let json : a.json ≡ b.json = same_json bytes a.json b.json a.reads b.reads in (
      a.says.says_names ∙ ap (λ (d : Data). names_of (txns d)) json ∙ sym b.says.says_names,
      a.says.says_bodies ∙ ap (λ (d : Data). bodies_of (version_of d) (txns d)) json ∙ sym b.says.says_bodies,
      only_lines (report_of b.json) lines other_lines (subst (λ (d : Data). IsReport (report_of d) lines) json a.says.says_lines) b.says.says_lines,
    )

pub given_case : (d : Data) (r : Result Case PlanError) → GivesCase d r → (names : List (List ℕ)) (bodies : List BodyParts) (lines : List Line) → SaysCase d names bodies lines → IsReadCase names bodies lines r
given_case d (Ok said) gives names bodies lines s = (
  gives.says_names ∙ sym s.says_names,
  gives.says_bodies ∙ sym s.says_bodies,
  only_lines (report_of d) said.lines lines gives.says_lines s.says_lines,
)
given_case d (Err (Bad kind path detail at)) gives names bodies lines s = says_no_cause d names bodies lines (Bad kind path detail at) s gives
given_case d (Err OutOfMemory) gives names bodies lines s = tt

pub given_refusal : (d : Data) (r : Result Case PlanError) → GivesCase d r → (error : PlanError) → IsCauseIn d error → IsRefused error r
given_refusal d r gives OutOfMemory x = tt
given_refusal d (Ok said) gives (Bad kind path detail at) x = says_no_cause d said.names said.bodies said.lines (Bad kind path detail at) gives x
given_refusal d (Err OutOfMemory) gives (Bad kind path detail at) x = tt
given_refusal d (Err (Bad kind' path' detail' at')) gives (Bad kind path detail at) x = breaks_once d (Bad kind' path' detail' at') (Bad kind path detail at) gives x

-- ---- the rules of a case, of which those before keep

third_of_four : (f g h k : Fault) (e : PlanError) → f ≡ None → g ≡ None → IsFault h e → IsFault (f then g then h then k) e
third_of_four f g h k e first second fault = before (f then g then h) k e (behind (f then g) h e (both_none f g first second) fault)

fourth_of_four : (f g h k : Fault) (e : PlanError) → f ≡ None → g ≡ None → h ≡ None → IsFault k e → IsFault (f then g then h then k) e
fourth_of_four f g h k e first second third fault = behind (f then g then h) k e (both_none (f then g) h (both_none f g first second) third) fault

none_of_four : (f g h k : Fault) → f ≡ None → g ≡ None → h ≡ None → k ≡ None → (f then g then h then k) ≡ None
none_of_four f g h k first second third fourth = both_none (f then g then h) k (both_none (f then g) h (both_none f g first second) third) fourth

abbrev pub fields_rule : Data → Fault
fields_rule d = object_fault (codes "report" ∷ codes "txns" ∷ codes "version" ∷ []) [] [] d

abbrev pub version_rule : Data → Fault
version_rule d = version_fault (field (codes "version") d)

abbrev pub report_rule : Data → Fault
report_rule d = must (is_text (field (codes "report") d)) (bad Shape report_path)

pub transactions_fail : (d : Data) (version : ℕ) (e : PlanError) → fields_rule d ≡ None → version_rule d ≡ None → version ≡ version_of d
    → IsFault (transactions_fault version (txns d)) e → IsFault (case_fault d) e
transactions_fail d version e is_object is_version same fault =
    third_of_four (fields_rule d) (version_rule d) (transactions_fault (version_of d) (txns d)) (report_rule d) e is_object is_version
    (subst (λ (v : ℕ). IsFault (transactions_fault v (txns d)) e) same fault)

pub report_fails : (d : Data) (version : ℕ) (e : PlanError) → fields_rule d ≡ None → version_rule d ≡ None → version ≡ version_of d → transactions_fault version (txns d) ≡ None
    → IsFault (report_rule d) e → IsFault (case_fault d) e
report_fails d version e is_object is_version same are fault =
    fourth_of_four (fields_rule d) (version_rule d) (transactions_fault (version_of d) (txns d)) (report_rule d) e is_object is_version
    (ap (λ (v : ℕ). transactions_fault v (txns d)) (sym same) ∙ are) fault

pub keeps_all : (d : Data) (version : ℕ) → fields_rule d ≡ None → version_rule d ≡ None → version ≡ version_of d → transactions_fault version (txns d) ≡ None
    → report_rule d ≡ None → case_fault d ≡ None
keeps_all d version is_object is_version same are is_report =
    none_of_four (fields_rule d) (version_rule d) (transactions_fault (version_of d) (txns d)) (report_rule d) is_object is_version
    (ap (λ (v : ℕ). transactions_fault v (txns d)) (sym same) ∙ are) is_report

-- what is said of data
pub due_in : (d : Data) (judgement : Judgement) (names : List (List ℕ)) (bodies : List BodyParts) (lines : List Line) → SaysCase d names bodies lines → IsJudged judgement names bodies lines → IsDueIn d judgement
due_in d judgement names bodies lines says judged = record { names = names; bodies = bodies; lines = lines; says = says; judged = judged }
