-- Over strict disks a document has one report.
use Rattle.std.proofs.Common.{◌≡◌, ℕ, ◌<◌, ◌≤◌, List, [], length, inl, inr, refl, sym, ◌∙◌, ap, subst, arith}
use Rattle.acc_message.specs.declared.error.Which.{Which}
use Rattle.acc_message.specs.declared.item.Item.{Item}
use Rattle.acc_schedule.specs.declared.error.PlanKind.{PlanKind}
use Rattle.acc_schedule.specs.declared.error.PlanError.TheVariants.{Bad}
use Rattle.acc_schedule.specs.Content.{Content}
use Rattle.acc_schedule.specs.Document.{Means}
use Rattle.acc_schedule.proofs.AnswerFacts.{same_plan, says_no_fault, one_fault}
use Rattle.acc_schedule_runs.specs.Limits.{IsWithin}
use Rattle.acc_report.specs.Report.{report_text}
use Rattle.acc_command_alone.specs.declared.status.Status.{Status}
use Rattle.acc_command_alone.specs.declared.status.Status.TheVariants.{Done, No, Usage, ReadFault, WriteFault, BadInput, Limit, OutOfMemory}
use Rattle.acc_command_alone.specs.declared.words.Command.TheVariants.{Run}
use Rattle.acc_command_alone.specs.Lines.{line, run_limit_text, refusal_text}
use Rattle.acc_command_alone.specs.Ends.{document_limit}
use Rattle.acc_command_alone.specs.Command.{IsDue, IsLimited, IsRefusal, IsReport, Over, Reports, TellsLimit}

-- What strict disks fix: one list of items of a plan that are run so, one limit that stops them, and never both.
pub record FixRuns (Runs : Content → List Item → Type 0) (Stops : Content → List Item → Which → ℕ → Type 0) : Type 0 where
  pub items : (plan : Content) (one other : List Item) → Runs plan one → Runs plan other → one ≡ other
  pub limit : (plan : Content) (one other : List Item) (which which_other : Which) (number number_other : ℕ) → Stops plan one which number
      → Stops plan other which_other number_other → (one ≡ other) × (which ≡ which_other) × (number ≡ number_other)
  pub not_both : (plan : Content) (items front : List Item) (which : Which) (number : ℕ) → Runs plan items → IsWithin items → Stops plan front which number → ⊥

-- what is reported is run and stopped so
pub record AreFixed (Runs : Content → List Item → Type 0) (Stops : Content → List Item → Which → ℕ → Type 0) (over : Over) : Type 0 where
  pub runs : (plan : Content) (items : List Item) → over.Items plan items → Runs plan items
  pub stops : (plan : Content) (items : List Item) (which : Which) (number : ℕ) → over.Limits plan items which number → Stops plan items which number

pub same_refusal : (kind : PlanKind) (path : List ℕ) (detail at : ℕ) (other_kind : PlanKind) (other_path : List ℕ) (other_detail other_at : ℕ)
    → Bad kind path detail at ≡ Bad other_kind other_path other_detail other_at
    → refusal_text kind path detail at ≡ refusal_text other_kind other_path other_detail other_at
same_refusal kind path detail at other_kind other_path other_detail other_at same = cc

-- ---- the reports of a plan

module _ (Runs : Content → List Item → Type 0) (Stops : Content → List Item → Which → ℕ → Type 0) (fixed : FixRuns Runs Stops) (one other : Over)
    (of_one : AreFixed Runs Stops one) (of_other : AreFixed Runs Stops other) (plan : Content) where
  pub same_reports : (text other_text : List ℕ) → Reports one plan text → Reports other plan other_text → text ≡ other_text
  same_reports text other_text a b =
      let items : a.items ≡ b.items = fixed.items plan a.items b.items (of_one.runs plan a.items a.also) (of_other.runs plan b.items b.also) in
      a.prints ∙ ap (λ own. report_text plan.print plan.names [] own) items ∙ sym b.prints

  pub same_limits : (text other_text : List ℕ) → TellsLimit one plan text → TellsLimit other plan other_text → text ≡ other_text
  same_limits text other_text a b =
      let all =
      fixed.limit plan a.items b.items a.which b.which a.number b.number (of_one.stops plan a.items a.which a.number a.also)
      (of_other.stops plan b.items b.which b.number b.also) in
      a.prints ∙ ap (λ which. line (run_limit_text which a.number)) all.1 ∙ ap (λ number. line (run_limit_text b.which number)) all.2 ∙ sym b.prints

  pub never_both : (text other_text : List ℕ) → Reports one plan text → TellsLimit other plan other_text → ⊥
  never_both text other_text a b =
      fixed.not_both plan a.items b.items b.which b.number (of_one.runs plan a.items a.also) a.within (of_other.stops plan b.items b.which b.number b.also)

-- ---- those of a document

module _ (Runs : Content → List Item → Type 0) (Stops : Content → List Item → Which → ℕ → Type 0) (fixed : FixRuns Runs Stops) (one other : Over)
    (of_one : AreFixed Runs Stops one) (of_other : AreFixed Runs Stops other) (bytes : List ℕ) where
  reports : (text other_text : List ℕ) → IsReport one bytes text → IsReport other bytes other_text → text ≡ other_text
  reports text other_text a b =
      same_reports Runs Stops fixed one other of_one of_other a.plan text other_text a.reports
      (subst (λ p. Reports other p other_text) (same_plan bytes b.plan a.plan b.says a.says) b.reports)

  limits : (text other_text : List ℕ) → IsLimited one bytes text → IsLimited other bytes other_text → text ≡ other_text
  limits text other_text a b =
      same_limits Runs Stops fixed one other of_one of_other a.plan text other_text a.tells
      (subst (λ p. TellsLimit other p other_text) (same_plan bytes b.plan a.plan b.says a.says) b.tells)

  refusals : (text other_text : List ℕ) → IsRefusal bytes text → IsRefusal bytes other_text → text ≡ other_text
  refusals text other_text a b =
      let same = one_fault bytes (Bad a.kind a.path a.detail a.at) (Bad b.kind b.path b.detail b.at) a.cause b.cause in
      a.prints ∙ ap line (same_refusal a.kind a.path a.detail a.at b.kind b.path b.detail b.at same) ∙ sym b.prints

  never_both_of : (one_over other_over : Over) (text other_text : List ℕ) → AreFixed Runs Stops one_over → AreFixed Runs Stops other_over
      → IsReport one_over bytes text → IsLimited other_over bytes other_text → ⊥
  never_both_of one_over other_over text other_text of_one_over of_other_over a b =
      never_both Runs Stops fixed one_over other_over of_one_over of_other_over a.plan text other_text a.reports
      (subst (λ p. TellsLimit other_over p other_text) (same_plan bytes b.plan a.plan b.says a.says) b.tells)

  refused_or_said : (plan : Content) (text : List ℕ) → Means bytes plan → IsRefusal bytes text → ⊥
  refused_or_said plan text says a = says_no_fault bytes plan a.kind a.path a.detail a.at says a.cause

  not_long : length bytes ≤ document_limit → document_limit < length bytes → ⊥
  not_long short long = omega (arith, short, long)

  abbrev Same : Status → Status → List ℕ → List ℕ → Type 0
  Same status other_status text other_text = (status ≡ other_status) × (text ≡ other_text)

  done_limit : (text other_text : List ℕ) → IsDue one Run bytes Done text → IsDue other Run bytes Limit other_text → ⊥
  done_limit text other_text a (inl long) = not_long a.0 long.0
  done_limit text other_text a (inr past) = never_both_of one other text other_text of_one of_other a.1 past.1

  limit_done : (text other_text : List ℕ) → IsDue one Run bytes Limit text → IsDue other Run bytes Done other_text → ⊥
  limit_done text other_text (inl long) b = not_long b.0 long.0
  limit_done text other_text (inr past) b = never_both_of other one other_text text of_other of_one b.1 past.1

  bad_limit : (over : Over) (text other_text : List ℕ) → (length bytes ≤ document_limit) × IsRefusal bytes text → IsDue over Run bytes Limit other_text → ⊥
  bad_limit over text other_text a (inl long) = not_long a.0 long.0
  bad_limit over text other_text a (inr past) = refused_or_said past.1.plan text past.1.says a.1

  limit_limit : (text other_text : List ℕ) → IsDue one Run bytes Limit text → IsDue other Run bytes Limit other_text → text ≡ other_text
  limit_limit text other_text (inl a) (inl b) = a.1 ∙ sym b.1
  limit_limit text other_text (inl a) (inr b) = absurd (not_long b.0 a.0)
  limit_limit text other_text (inr a) (inl b) = absurd (not_long a.0 b.0)
  limit_limit text other_text (inr a) (inr b) = limits text other_text a.1 b.1

  from_done : (other_status : Status) (text other_text : List ℕ) → IsDue one Run bytes Done text → IsDue other Run bytes other_status other_text → Same Done other_status text other_text
  from_done Done text other_text a b = (refl, reports text other_text a.1 b.1)
  from_done BadInput text other_text a b = absurd (refused_or_said a.1.plan other_text a.1.says b.1)
  from_done Limit text other_text a b = absurd (done_limit text other_text a b)
  from_done No text other_text a b = absurd b
  from_done Usage text other_text a b = absurd b
  from_done ReadFault text other_text a b = absurd b
  from_done WriteFault text other_text a b = absurd b
  from_done OutOfMemory text other_text a b = absurd b

  from_bad : (other_status : Status) (text other_text : List ℕ) → IsDue one Run bytes BadInput text → IsDue other Run bytes other_status other_text → Same BadInput other_status text other_text
  from_bad Done text other_text a b = absurd (refused_or_said b.1.plan text b.1.says a.1)
  from_bad BadInput text other_text a b = (refl, refusals text other_text a.1 b.1)
  from_bad Limit text other_text a b = absurd (bad_limit other text other_text a b)
  from_bad No text other_text a b = absurd b
  from_bad Usage text other_text a b = absurd b
  from_bad ReadFault text other_text a b = absurd b
  from_bad WriteFault text other_text a b = absurd b
  from_bad OutOfMemory text other_text a b = absurd b

  from_limit : (other_status : Status) (text other_text : List ℕ) → IsDue one Run bytes Limit text → IsDue other Run bytes other_status other_text → Same Limit other_status text other_text
  from_limit Done text other_text a b = absurd (limit_done text other_text a b)
  from_limit BadInput text other_text a b = absurd (bad_limit one other_text text b a)
  from_limit Limit text other_text a b = (refl, limit_limit text other_text a b)
  from_limit No text other_text a b = absurd b
  from_limit Usage text other_text a b = absurd b
  from_limit ReadFault text other_text a b = absurd b
  from_limit WriteFault text other_text a b = absurd b
  from_limit OutOfMemory text other_text a b = absurd b

  pub one_report : (text other_text : List ℕ) (status other_status : Status) → IsDue one Run bytes status text → IsDue other Run bytes other_status other_text
      → Same status other_status text other_text
  one_report text other_text Done other_status a b = from_done other_status text other_text a b
  one_report text other_text BadInput other_status a b = from_bad other_status text other_text a b
  one_report text other_text Limit other_status a b = from_limit other_status text other_text a b
  one_report text other_text No other_status a b = absurd a
  one_report text other_text Usage other_status a b = absurd a
  one_report text other_text ReadFault other_status a b = absurd a
  one_report text other_text WriteFault other_status a b = absurd a
  one_report text other_text OutOfMemory other_status a b = absurd a
