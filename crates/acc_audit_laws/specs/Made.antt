-- A case that is made of a document and of a report of what it says.
--     case_of document report      the data of a case with the version of a document, the names and the texts of its transactions, and a report
--     IsMadeOf document report bytes      the bytes are JSON of that case
--     ReportsInLines document text plan items      the text is the report in lines of the items, and the document says their plan
--     WritesLines over document text      the text is what is written with status 0 for a document that prints lines
--     GetsYes report bytes      for the case that the bytes are, `audit` says yes, with the number of lines of the report
--     CasesGetYes document text      so it is for each case that is made of them and is no longer than a document may be
use Rattle.std.specs.Prelude.{◌≡◌, ◌≤◌, ℕ, List, [], length, map, codes, Some, IsUtf8}
use Rattle.serde_json.specs.Data.{Data, array, member, no_members, object, string}
use Rattle.serde_json.specs.Read.{read}
use Rattle.serde_json.specs.View.{items_of}
use Rattle.acc_message.specs.declared.item.Item.{Item}
use Rattle.acc_schedule.specs.Content.{Content}
use Rattle.acc_schedule.specs.Document.{txns, Means}
use Rattle.acc_schedule.specs.Fields.{field, items}
use Rattle.acc_schedule.specs.Plan.{IsPlan}
use Rattle.acc_schedule.specs.declared.plan.Print.TheVariants.{Lines}
use Rattle.acc_schedule_runs.specs.Limits.{IsWithin}
use Rattle.acc_report.specs.Report.{report_text}
use Rattle.acc_report_line.specs.declared.line.Line.{Line}
use Rattle.acc_report_reader.specs.Report.{IsReport}
use Rattle.acc_audit.specs.declared.judgement.Judgement.TheVariants.{Yes}
use Rattle.acc_command_alone.specs.Command.{IsReport as IsReportOver, Over}
use Rattle.acc_command_alone.specs.Ends.{document_limit}
use Rattle.acc_command_alone.specs.declared.status.Status.{Status}
use Rattle.acc_command_alone.specs.declared.status.Status.TheVariants.{Done}
use Rattle.acc_command_alone.specs.Judging.{judgement_text, IsAuditDue}
use Rattle.acc_command_alone.specs.Lines.{line}

-- ---- the case

-- a transaction of a document without its node
abbrev pub transaction_of : Data → Data
transaction_of d = object (member (codes "name") (field (codes "name") d) (member (codes "text") (field (codes "text") d) no_members))

-- JSON is read with the members of an object in the order of their bytes
abbrev pub case_of : Data → List ℕ → Data
case_of document report =
    object (member (codes "report") (string report)
    (member (codes "txns") (array (items_of (map transaction_of (items (txns document)))))
    (member (codes "version") (field (codes "version") document) no_members)))

pub record IsMadeOf (document report bytes : List ℕ) : Type 0 where
  pub said : Data
  pub document_reads : read document ≡ Some said
  pub utf8 : IsUtf8 bytes
  pub reads : read bytes ≡ Some (case_of said report)

-- ---- the report

pub record ReportsInLines (document text : List ℕ) (plan : Content) (items : List Item) : Type 0 where
  pub is_plan : IsPlan plan
  pub says : Means document plan
  pub in_lines : plan.print ≡ Lines
  pub within : IsWithin items
  pub prints : text ≡ report_text plan.print plan.names [] items

-- in the words of the command
pub record WritesLines (over : Over) (document text : List ℕ) : Type 0 where
  pub plan : Content
  pub is_plan : IsPlan plan
  pub says : Means document plan
  pub in_lines : plan.print ≡ Lines
  pub report : IsReportOver over document text

-- ---- what is said of it

abbrev pub yes_text : List Line → List ℕ
yes_text lines = line (judgement_text (Yes (length lines)))

-- The text is that of these lines. The command says yes with their number, and says nothing else of the case.
pub record GetsYes (report bytes : List ℕ) : Type 0 where
  pub lines : List Line
  pub are : IsReport report lines
  pub due : IsAuditDue bytes Done (yes_text lines)
  pub alone : (status : Status) (text : List ℕ) → IsAuditDue bytes status text → (status ≡ Done) × (text ≡ yes_text lines)

abbrev pub CasesGetYes : List ℕ → List ℕ → Type 0
CasesGetYes document text = (bytes : List ℕ) → IsMadeOf document text bytes → length bytes ≤ document_limit → GetsYes text bytes
