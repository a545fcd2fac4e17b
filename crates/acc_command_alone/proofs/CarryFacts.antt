-- What each line of words carries out. The first two letters of the commands differ in their sum, so a line is of one command alone.
use Rattle.std.proofs.Common.{◌≡◌, ◌≢◌, ◌<◌, ◌≤◌, ℕ, ◌+◌, List, [], ◌∷◌, length, Option, None, Some, inl, inr, refl, sym, ◌∙◌, ap, arith}
use Rattle.std.proofs.lemmas.List.{append-nil}
use Rattle.std.proofs.lemmas.List.Elements.{All-nil}
use Rattle.acc_ports.specs.Source.{without_first, ReadsOn}
use Rattle.acc_schedule.specs.Content.{Content}
use Rattle.acc_schedule.specs.Document.{Means}
use Rattle.acc_command_alone.specs.declared.status.Status.{Status}
use Rattle.acc_command_alone.specs.declared.status.Status.TheVariants.{Usage, ReadFault, OutOfMemory}
use Rattle.acc_command_alone.specs.declared.words.Command.{Command}
use Rattle.acc_command_alone.specs.declared.words.Command.TheVariants.{Run, Check}
use Rattle.acc_command_alone.specs.Words.{AsksForWorkers, IsAuditLine, IsCheckLine, IsGenerateLine, IsGlanceLine, IsHealLine, IsLeaveLine, IsLine, IsLineAlone, IsResumeLine, IsRunLine, ReadsDocument, RunsDocument}
use Rattle.acc_command_alone.specs.Streams.{Streams}
use Rattle.acc_command_alone.specs.Ends.{document_limit, Ends, EndsOnSome, TellsFaults, WithoutFaults}
use Rattle.acc_command_alone.specs.Responds.{Responds}
use Rattle.acc_command_alone.specs.Command.{DoesOn, EndsOnGiven, IsDone, IsDue, IsGenerated, IsUsage, no_run, Over}
use Rattle.acc_command_alone.specs.Glancing.{HasLooks, IsGlanceDue, LooksOn}
use Rattle.acc_command_alone.specs.Judging.{IsAnswered, IsAuditDue, IsCase, JudgesOn}
use Rattle.acc_command_alone.specs.Leaving.{IsLeaveDue}
use Rattle.acc_command_alone.specs.Resuming.{HasJournals, IsResumeDue, ResumesOn}
use Rattle.acc_command_alone.specs.CarriesOut.{CarriesOut, Overs}
use Rattle.acc_command_alone.proofs.CommandFacts.{makes}
use Rattle.acc_command_alone.proofs.ReadFacts.{all_bytes, given, mapped}

-- ---- the first two letters of a line

abbrev letters : List (List ℕ) → ℕ
letters [] = 0
letters ([] ∷ words) = 0
letters ((code ∷ []) ∷ words) = code
letters ((code ∷ next ∷ word) ∷ words) = code + next

module _ (words : List (List ℕ)) where
  of_run : IsRunLine words → letters words ≡ 231
  of_run is = ap letters is

  of_heal : IsHealLine words → letters words ≡ 205
  of_heal is = ap letters is

  of_leave : IsLeaveLine words → letters words ≡ 209
  of_leave is = ap letters is

  of_resume : IsResumeLine words → letters words ≡ 215
  of_resume is = ap letters is

  of_check : IsCheckLine words → letters words ≡ 203
  of_check is = ap letters is

  of_audit : IsAuditLine words → letters words ≡ 214
  of_audit is = ap letters is

  of_glance : IsGlanceLine words → letters words ≡ 211
  of_glance is = ap letters is

  of_free : AsksForWorkers words → letters words ≡ 216
  of_free is = ap letters is.1.words_are

  of_generate : (seed txns : ℕ) → IsGenerateLine words seed txns → letters words ≡ 204
  of_generate seed txns is = ap letters is.words_are

  module _ (k : ℕ) (is : letters words ≡ k) where
    never_runs : k ≢ 231 → k ≢ 205 → k ≢ 209 → k ≢ 216 → RunsDocument words → ⊥
    never_runs run heal leave free (inl (inl (inl line))) = run (sym is ∙ of_run line)
    never_runs run heal leave free (inl (inl (inr line))) = heal (sym is ∙ of_heal line)
    never_runs run heal leave free (inl (inr line)) = leave (sym is ∙ of_leave line)
    never_runs run heal leave free (inr line) = free (sym is ∙ of_free line)

    never_reads : k ≢ 231 → k ≢ 205 → k ≢ 203 → k ≢ 209 → k ≢ 215 → k ≢ 214 → k ≢ 211 → k ≢ 216
        → ReadsDocument words → ⊥
    never_reads run heal check leave resume audit glance free (inl (inl (inl (inl (inl (inl (inl line))))))) = run (sym is ∙ of_run line)
    never_reads run heal check leave resume audit glance free (inl (inl (inl (inl (inl (inl (inr line))))))) = check (sym is ∙ of_check line)
    never_reads run heal check leave resume audit glance free (inl (inl (inl (inl (inl (inr line)))))) = heal (sym is ∙ of_heal line)
    never_reads run heal check leave resume audit glance free (inl (inl (inl (inl (inr line))))) = leave (sym is ∙ of_leave line)
    never_reads run heal check leave resume audit glance free (inl (inl (inl (inr line)))) = resume (sym is ∙ of_resume line)
    never_reads run heal check leave resume audit glance free (inl (inl (inr line))) = audit (sym is ∙ of_audit line)
    never_reads run heal check leave resume audit glance free (inl (inr line)) = glance (sym is ∙ of_glance line)
    never_reads run heal check leave resume audit glance free (inr line) = free (sym is ∙ of_free line)

  is_line : ReadsDocument words → IsLine words
  is_line (inl document) = inl (inl document)
  is_line (inr free) = inr free

  reads_run : IsRunLine words → ReadsDocument words
  reads_run line = inl (inl (inl (inl (inl (inl (inl line))))))

  reads_check : IsCheckLine words → ReadsDocument words
  reads_check line = inl (inl (inl (inl (inl (inl (inr line))))))

  reads_heal : IsHealLine words → ReadsDocument words
  reads_heal line = inl (inl (inl (inl (inl (inr line)))))

  reads_leave : IsLeaveLine words → ReadsDocument words
  reads_leave line = inl (inl (inl (inl (inr line))))

  reads_resume : IsResumeLine words → ReadsDocument words
  reads_resume line = inl (inl (inl (inr line)))

  reads_audit : IsAuditLine words → ReadsDocument words
  reads_audit line = inl (inl (inr line))

  reads_glance : IsGlanceLine words → ReadsDocument words
  reads_glance line = inl (inr line)

  runs_line : RunsDocument words → ReadsDocument words
  runs_line (inl (inl (inl line))) = reads_run line
  runs_line (inl (inl (inr line))) = reads_heal line
  runs_line (inl (inr line)) = reads_leave line
  runs_line (inr line) = inr line

-- none of either kind
pub no_line : (words : List (List ℕ)) → ¬ (IsLineAlone words) → ¬ (AsksForWorkers words) → ¬ (IsLine words)
no_line words alone free (inl line) = alone line
no_line words alone free (inr asks) = free asks

-- ---- lines that read a document

module _ (words : List (List ℕ)) (over : Overs) (before after : Streams) (status : Status) where
  -- the work is done on each plan that the document says
  finished : (P : List ℕ → Status → List ℕ → Type 0) (command : Command) → Responds P (DoesOn command) before after status
      → WithoutFaults before after (λ bytes. (plan : Content) → Means bytes plan → length bytes ≤ document_limit → IsDone command status)
  finished P command a = λ no_read no_write.
      mapped before.left (λ bytes. length bytes ≤ document_limit → DoesOn command bytes status)
      (λ bytes. (plan : Content) → Means bytes plan → length bytes ≤ document_limit → IsDone command status) (a.complete no_read no_write)
      (λ bytes done plan means short. done short (plan, means))

  judged : Responds IsAuditDue JudgesOn before after status
      → WithoutFaults before after (λ bytes. IsCase bytes → length bytes ≤ document_limit → IsAnswered status)
  judged a = λ no_read no_write.
      mapped before.left (λ bytes. length bytes ≤ document_limit → JudgesOn bytes status) (λ bytes. IsCase bytes → length bytes ≤ document_limit → IsAnswered status)
      (a.complete no_read no_write) (λ bytes done case short. done short case)

  looked : (P : List ℕ → Status → List ℕ → Type 0) → Responds P LooksOn before after status
      → WithoutFaults before after (λ bytes. HasLooks bytes → length bytes ≤ document_limit → IsDone Run status)
  looked P a = λ no_read no_write.
      mapped before.left (λ bytes. length bytes ≤ document_limit → LooksOn bytes status) (λ bytes. HasLooks bytes → length bytes ≤ document_limit → IsDone Run status)
      (a.complete no_read no_write) (λ bytes done has short. done short has)

  resumed : (P : List ℕ → Status → List ℕ → Type 0) → Responds P ResumesOn before after status
      → WithoutFaults before after (λ bytes. HasJournals bytes → length bytes ≤ document_limit → IsDone Run status)
  resumed P a = λ no_read no_write.
      mapped before.left (λ bytes. length bytes ≤ document_limit → ResumesOn bytes status) (λ bytes. HasJournals bytes → length bytes ≤ document_limit → IsDone Run status)
      (a.complete no_read no_write) (λ bytes done has short. done short has)

  -- what no other document's line has
  record Own : Type 0 where
    pub run : IsRunLine words → EndsOnGiven over.run Run before after status
    pub heal : IsHealLine words → EndsOnGiven over.heal Run before after status
    pub leave : IsLeaveLine words → EndsOnSome (IsLeaveDue over.run) before after status
    pub resume : IsResumeLine words → EndsOnSome IsResumeDue before after status
    pub free : AsksForWorkers words → EndsOnGiven over.free Run before after status
    pub audit : IsAuditLine words → EndsOnSome IsAuditDue before after status
    pub glance : IsGlanceLine words → EndsOnSome (IsGlanceDue over.run over.sees) before after status
    pub check : IsCheckLine words → EndsOnGiven no_run Check before after status
    pub complete_run :
        RunsDocument words → WithoutFaults before after (λ bytes. (plan : Content) → Means bytes plan → length bytes ≤ document_limit → IsDone Run status)
    pub complete_check :
        IsCheckLine words → WithoutFaults before after (λ bytes. (plan : Content) → Means bytes plan → length bytes ≤ document_limit → IsDone Check status)
    pub complete_resume : IsResumeLine words → WithoutFaults before after (λ bytes. HasJournals bytes → length bytes ≤ document_limit → IsDone Run status)
    pub complete_audit : IsAuditLine words → WithoutFaults before after (λ bytes. IsCase bytes → length bytes ≤ document_limit → IsAnswered status)
    pub complete_glance : IsGlanceLine words → WithoutFaults before after (λ bytes. HasLooks bytes → length bytes ≤ document_limit → IsDone Run status)

  document : (P : List ℕ → Status → List ℕ → Type 0) (D : List ℕ → Status → Type 0) (k : ℕ) → letters words ≡ k → k ≢ 204 → ReadsDocument words
      → Responds P D before after status → Own → CarriesOut words over before after status
  document P D k is other line a own = record {
    usage = λ unlike. absurd (unlike (is_line words line));
    run = own.run;
    heal = own.heal;
    leave = own.leave;
    resume = own.resume;
    free = own.free;
    audit = own.audit;
    glance = own.glance;
    check = own.check;
    generate = λ seed txns made. absurd (other (sym is ∙ of_generate words seed txns made));
    usage_only = λ e. absurd (a.words e);
    unread = λ unlike. absurd (unlike line);
    leaves = λ _. a.leaves;
    faults = a.faults;
    complete_run = own.complete_run;
    complete_check = own.complete_check;
    complete_resume = own.complete_resume;
    complete_audit = own.complete_audit;
    complete_glance = own.complete_glance;
    complete_generate = λ seed txns made. absurd (other (sym is ∙ of_generate words seed txns made));
  }

  pub runs : IsRunLine words → Responds (IsDue over.run Run) (DoesOn Run) before after status → CarriesOut words over before after status
  runs line a =
      let is : letters words ≡ 231 = of_run words line in
      document (IsDue over.run Run) (DoesOn Run) 231 is (λ e. omega (arith, e)) (reads_run words line) a
      (record {
        run = λ _. a.ends;
        heal = λ l. let other : letters words ≡ 205 = of_heal words l in absurd (omega (arith, is, other));
        leave = λ l. let other : letters words ≡ 209 = of_leave words l in absurd (omega (arith, is, other));
        resume = λ l. let other : letters words ≡ 215 = of_resume words l in absurd (omega (arith, is, other));
        free = λ l. let other : letters words ≡ 216 = of_free words l in absurd (omega (arith, is, other));
        audit = λ l. let other : letters words ≡ 214 = of_audit words l in absurd (omega (arith, is, other));
        glance = λ l. let other : letters words ≡ 211 = of_glance words l in absurd (omega (arith, is, other));
        check = λ l. let other : letters words ≡ 203 = of_check words l in absurd (omega (arith, is, other));
        complete_run = λ _. finished (IsDue over.run Run) Run a;
        complete_check = λ l. let other : letters words ≡ 203 = of_check words l in absurd (omega (arith, is, other));
        complete_resume = λ l. let other : letters words ≡ 215 = of_resume words l in absurd (omega (arith, is, other));
        complete_audit = λ l. let other : letters words ≡ 214 = of_audit words l in absurd (omega (arith, is, other));
        complete_glance = λ l. let other : letters words ≡ 211 = of_glance words l in absurd (omega (arith, is, other));
      })

  pub heals : IsHealLine words → Responds (IsDue over.heal Run) (DoesOn Run) before after status → CarriesOut words over before after status
  heals line a =
      let is : letters words ≡ 205 = of_heal words line in
      document (IsDue over.heal Run) (DoesOn Run) 205 is (λ e. omega (arith, e)) (reads_heal words line) a
      (record {
        run = λ l. let other : letters words ≡ 231 = of_run words l in absurd (omega (arith, is, other));
        heal = λ _. a.ends;
        leave = λ l. let other : letters words ≡ 209 = of_leave words l in absurd (omega (arith, is, other));
        resume = λ l. let other : letters words ≡ 215 = of_resume words l in absurd (omega (arith, is, other));
        free = λ l. let other : letters words ≡ 216 = of_free words l in absurd (omega (arith, is, other));
        audit = λ l. let other : letters words ≡ 214 = of_audit words l in absurd (omega (arith, is, other));
        glance = λ l. let other : letters words ≡ 211 = of_glance words l in absurd (omega (arith, is, other));
        check = λ l. let other : letters words ≡ 203 = of_check words l in absurd (omega (arith, is, other));
        complete_run = λ _. finished (IsDue over.heal Run) Run a;
        complete_check = λ l. let other : letters words ≡ 203 = of_check words l in absurd (omega (arith, is, other));
        complete_resume = λ l. let other : letters words ≡ 215 = of_resume words l in absurd (omega (arith, is, other));
        complete_audit = λ l. let other : letters words ≡ 214 = of_audit words l in absurd (omega (arith, is, other));
        complete_glance = λ l. let other : letters words ≡ 211 = of_glance words l in absurd (omega (arith, is, other));
      })

  pub leaves_journals : IsLeaveLine words → Responds (IsLeaveDue over.run) (DoesOn Run) before after status → CarriesOut words over before after status
  leaves_journals line a =
      let is : letters words ≡ 209 = of_leave words line in
      document (IsLeaveDue over.run) (DoesOn Run) 209 is (λ e. omega (arith, e)) (reads_leave words line) a
      (record {
        run = λ l. let other : letters words ≡ 231 = of_run words l in absurd (omega (arith, is, other));
        heal = λ l. let other : letters words ≡ 205 = of_heal words l in absurd (omega (arith, is, other));
        leave = λ _. a.ends;
        resume = λ l. let other : letters words ≡ 215 = of_resume words l in absurd (omega (arith, is, other));
        free = λ l. let other : letters words ≡ 216 = of_free words l in absurd (omega (arith, is, other));
        audit = λ l. let other : letters words ≡ 214 = of_audit words l in absurd (omega (arith, is, other));
        glance = λ l. let other : letters words ≡ 211 = of_glance words l in absurd (omega (arith, is, other));
        check = λ l. let other : letters words ≡ 203 = of_check words l in absurd (omega (arith, is, other));
        complete_run = λ _. finished (IsLeaveDue over.run) Run a;
        complete_check = λ l. let other : letters words ≡ 203 = of_check words l in absurd (omega (arith, is, other));
        complete_resume = λ l. let other : letters words ≡ 215 = of_resume words l in absurd (omega (arith, is, other));
        complete_audit = λ l. let other : letters words ≡ 214 = of_audit words l in absurd (omega (arith, is, other));
        complete_glance = λ l. let other : letters words ≡ 211 = of_glance words l in absurd (omega (arith, is, other));
      })

  pub resumes : IsResumeLine words → Responds IsResumeDue ResumesOn before after status → CarriesOut words over before after status
  resumes line a =
      let is : letters words ≡ 215 = of_resume words line in
      document IsResumeDue ResumesOn 215 is (λ e. omega (arith, e)) (reads_resume words line) a
      (record {
        run = λ l. let other : letters words ≡ 231 = of_run words l in absurd (omega (arith, is, other));
        heal = λ l. let other : letters words ≡ 205 = of_heal words l in absurd (omega (arith, is, other));
        leave = λ l. let other : letters words ≡ 209 = of_leave words l in absurd (omega (arith, is, other));
        resume = λ _. a.ends;
        free = λ l. let other : letters words ≡ 216 = of_free words l in absurd (omega (arith, is, other));
        audit = λ l. let other : letters words ≡ 214 = of_audit words l in absurd (omega (arith, is, other));
        glance = λ l. let other : letters words ≡ 211 = of_glance words l in absurd (omega (arith, is, other));
        check = λ l. let other : letters words ≡ 203 = of_check words l in absurd (omega (arith, is, other));
        complete_run = λ l. absurd (never_runs words 215 is (λ e. omega (arith, e)) (λ e. omega (arith, e)) (λ e. omega (arith, e)) (λ e. omega (arith, e)) l);
        complete_check = λ l. let other : letters words ≡ 203 = of_check words l in absurd (omega (arith, is, other));
        complete_resume = λ _. resumed IsResumeDue a;
        complete_audit = λ l. let other : letters words ≡ 214 = of_audit words l in absurd (omega (arith, is, other));
        complete_glance = λ l. let other : letters words ≡ 211 = of_glance words l in absurd (omega (arith, is, other));
      })

  pub shares : AsksForWorkers words → Responds (IsDue over.free Run) (DoesOn Run) before after status → CarriesOut words over before after status
  shares line a =
      let is : letters words ≡ 216 = of_free words line in
      document (IsDue over.free Run) (DoesOn Run) 216 is (λ e. omega (arith, e)) (inr line) a
      (record {
        run = λ l. let other : letters words ≡ 231 = of_run words l in absurd (omega (arith, is, other));
        heal = λ l. let other : letters words ≡ 205 = of_heal words l in absurd (omega (arith, is, other));
        leave = λ l. let other : letters words ≡ 209 = of_leave words l in absurd (omega (arith, is, other));
        resume = λ l. let other : letters words ≡ 215 = of_resume words l in absurd (omega (arith, is, other));
        free = λ _. a.ends;
        audit = λ l. let other : letters words ≡ 214 = of_audit words l in absurd (omega (arith, is, other));
        glance = λ l. let other : letters words ≡ 211 = of_glance words l in absurd (omega (arith, is, other));
        check = λ l. let other : letters words ≡ 203 = of_check words l in absurd (omega (arith, is, other));
        complete_run = λ _. finished (IsDue over.free Run) Run a;
        complete_check = λ l. let other : letters words ≡ 203 = of_check words l in absurd (omega (arith, is, other));
        complete_resume = λ l. let other : letters words ≡ 215 = of_resume words l in absurd (omega (arith, is, other));
        complete_audit = λ l. let other : letters words ≡ 214 = of_audit words l in absurd (omega (arith, is, other));
        complete_glance = λ l. let other : letters words ≡ 211 = of_glance words l in absurd (omega (arith, is, other));
      })

  pub checks : IsCheckLine words → Responds (IsDue no_run Check) (DoesOn Check) before after status → CarriesOut words over before after status
  checks line a =
      let is : letters words ≡ 203 = of_check words line in
      document (IsDue no_run Check) (DoesOn Check) 203 is (λ e. omega (arith, e)) (reads_check words line) a
      (record {
        run = λ l. let other : letters words ≡ 231 = of_run words l in absurd (omega (arith, is, other));
        heal = λ l. let other : letters words ≡ 205 = of_heal words l in absurd (omega (arith, is, other));
        leave = λ l. let other : letters words ≡ 209 = of_leave words l in absurd (omega (arith, is, other));
        resume = λ l. let other : letters words ≡ 215 = of_resume words l in absurd (omega (arith, is, other));
        free = λ l. let other : letters words ≡ 216 = of_free words l in absurd (omega (arith, is, other));
        audit = λ l. let other : letters words ≡ 214 = of_audit words l in absurd (omega (arith, is, other));
        glance = λ l. let other : letters words ≡ 211 = of_glance words l in absurd (omega (arith, is, other));
        check = λ _. a.ends;
        complete_run = λ l. absurd (never_runs words 203 is (λ e. omega (arith, e)) (λ e. omega (arith, e)) (λ e. omega (arith, e)) (λ e. omega (arith, e)) l);
        complete_check = λ _. finished (IsDue no_run Check) Check a;
        complete_resume = λ l. let other : letters words ≡ 215 = of_resume words l in absurd (omega (arith, is, other));
        complete_audit = λ l. let other : letters words ≡ 214 = of_audit words l in absurd (omega (arith, is, other));
        complete_glance = λ l. let other : letters words ≡ 211 = of_glance words l in absurd (omega (arith, is, other));
      })

  pub judges : IsAuditLine words → Responds IsAuditDue JudgesOn before after status → CarriesOut words over before after status
  judges line a =
      let is : letters words ≡ 214 = of_audit words line in
      document IsAuditDue JudgesOn 214 is (λ e. omega (arith, e)) (reads_audit words line) a
      (record {
        run = λ l. let other : letters words ≡ 231 = of_run words l in absurd (omega (arith, is, other));
        heal = λ l. let other : letters words ≡ 205 = of_heal words l in absurd (omega (arith, is, other));
        leave = λ l. let other : letters words ≡ 209 = of_leave words l in absurd (omega (arith, is, other));
        resume = λ l. let other : letters words ≡ 215 = of_resume words l in absurd (omega (arith, is, other));
        free = λ l. let other : letters words ≡ 216 = of_free words l in absurd (omega (arith, is, other));
        audit = λ _. a.ends;
        glance = λ l. let other : letters words ≡ 211 = of_glance words l in absurd (omega (arith, is, other));
        check = λ l. let other : letters words ≡ 203 = of_check words l in absurd (omega (arith, is, other));
        complete_run = λ l. absurd (never_runs words 214 is (λ e. omega (arith, e)) (λ e. omega (arith, e)) (λ e. omega (arith, e)) (λ e. omega (arith, e)) l);
        complete_check = λ l. let other : letters words ≡ 203 = of_check words l in absurd (omega (arith, is, other));
        complete_resume = λ l. let other : letters words ≡ 215 = of_resume words l in absurd (omega (arith, is, other));
        complete_audit = λ _. judged a;
        complete_glance = λ l. let other : letters words ≡ 211 = of_glance words l in absurd (omega (arith, is, other));
      })

  pub looks : IsGlanceLine words → Responds (IsGlanceDue over.run over.sees) LooksOn before after status → CarriesOut words over before after status
  looks line a =
      let is : letters words ≡ 211 = of_glance words line in
      document (IsGlanceDue over.run over.sees) LooksOn 211 is (λ e. omega (arith, e)) (reads_glance words line) a
      (record {
        run = λ l. let other : letters words ≡ 231 = of_run words l in absurd (omega (arith, is, other));
        heal = λ l. let other : letters words ≡ 205 = of_heal words l in absurd (omega (arith, is, other));
        leave = λ l. let other : letters words ≡ 209 = of_leave words l in absurd (omega (arith, is, other));
        resume = λ l. let other : letters words ≡ 215 = of_resume words l in absurd (omega (arith, is, other));
        free = λ l. let other : letters words ≡ 216 = of_free words l in absurd (omega (arith, is, other));
        audit = λ l. let other : letters words ≡ 214 = of_audit words l in absurd (omega (arith, is, other));
        glance = λ _. a.ends;
        check = λ l. let other : letters words ≡ 203 = of_check words l in absurd (omega (arith, is, other));
        complete_run = λ l. absurd (never_runs words 211 is (λ e. omega (arith, e)) (λ e. omega (arith, e)) (λ e. omega (arith, e)) (λ e. omega (arith, e)) l);
        complete_check = λ l. let other : letters words ≡ 203 = of_check words l in absurd (omega (arith, is, other));
        complete_resume = λ l. let other : letters words ≡ 215 = of_resume words l in absurd (omega (arith, is, other));
        complete_audit = λ l. let other : letters words ≡ 214 = of_audit words l in absurd (omega (arith, is, other));
        complete_glance = λ _. looked (IsGlanceDue over.run over.sees) a;
      })

  -- ---- lines that read none

  -- the line of no command
  pub refuses : ¬ (IsLine words) → Ends IsUsage status before.written after.written → status ≢ ReadFault → TellsFaults before after status
      → CarriesOut words over before after status
  refuses unlike ends reads faults =
      let none : ReadsDocument words → ⊥ = λ l. unlike (is_line words l) in
      record {
        usage = λ _. ends;
        run = λ l. absurd (none (reads_run words l));
        heal = λ l. absurd (none (reads_heal words l));
        leave = λ l. absurd (none (reads_leave words l));
        resume = λ l. absurd (none (reads_resume words l));
        free = λ l. absurd (none (inr l));
        audit = λ l. absurd (none (reads_audit words l));
        glance = λ l. absurd (none (reads_glance words l));
        check = λ l. absurd (none (reads_check words l));
        generate = λ seed txns l. absurd (unlike (inl (inr (seed, txns, l))));
        usage_only = λ _. unlike;
        unread = λ _. reads;
        leaves = λ l. absurd (none l);
        faults = faults;
        complete_run = λ l. absurd (none (runs_line words l));
        complete_check = λ l. absurd (none (reads_check words l));
        complete_resume = λ l. absurd (none (reads_resume words l));
        complete_audit = λ l. absurd (none (reads_audit words l));
        complete_glance = λ l. absurd (none (reads_glance words l));
        complete_generate = λ seed txns l. absurd (unlike (inl (inr (seed, txns, l))));
      }

  -- a document is made
  pub generates : (seed txns : ℕ) → IsGenerateLine words seed txns
      → ((other_seed other_txns : ℕ) → IsGenerateLine words other_seed other_txns → Ends (IsGenerated other_seed other_txns) status before.written after.written)
      → status ≢ Usage → status ≢ ReadFault → TellsFaults before after status → CarriesOut words over before after status
  generates seed txns line ends usage reads faults =
      let is : letters words ≡ 204 = of_generate words seed txns line in
      let read_none : ReadsDocument words → ⊥ = never_reads words 204 is (λ e. omega (arith, e)) (λ e. omega (arith, e)) (λ e. omega (arith, e)) (λ e. omega (arith, e)) (λ e. omega (arith, e)) (λ e. omega (arith, e)) (λ e. omega (arith, e)) (λ e. omega (arith, e)) in
      record {
        usage = λ unlike. absurd (unlike (inl (inr (seed, txns, line))));
        run = λ l. absurd (read_none (reads_run words l));
        heal = λ l. absurd (read_none (reads_heal words l));
        leave = λ l. absurd (read_none (reads_leave words l));
        resume = λ l. absurd (read_none (reads_resume words l));
        free = λ l. absurd (read_none (inr l));
        audit = λ l. absurd (read_none (reads_audit words l));
        glance = λ l. absurd (read_none (reads_glance words l));
        check = λ l. absurd (read_none (reads_check words l));
        generate = ends;
        usage_only = λ e. absurd (usage e);
        unread = λ _. reads;
        leaves = λ l. absurd (read_none l);
        faults = faults;
        complete_run = λ l. absurd (read_none (runs_line words l));
        complete_check = λ l. absurd (read_none (reads_check words l));
        complete_resume = λ l. absurd (read_none (reads_resume words l));
        complete_audit = λ l. absurd (read_none (reads_audit words l));
        complete_glance = λ l. absurd (read_none (reads_glance words l));
        complete_generate = λ other_seed other_txns l no_write.
            makes other_seed other_txns status before.written after.written reads (λ e. no_write (faults.write_fault e)) (ends other_seed other_txns l);
      }

-- ---- want of memory before the words were read

no_reads : (reads : Option (List ℕ)) → ReadsOn reads reads
no_reads None = ([], All-nil (λ (n : ℕ). 0 < n), refl)
no_reads (Some counts) = ([], All-nil (λ (n : ℕ). 0 < n), ap (λ (c : List ℕ). Some c) (sym (append-nil counts)))

module _ (words : List (List ℕ)) (over : Overs) (before : Streams) where
  nothing_ends : (P : List ℕ → Status → List ℕ → Type 0) → EndsOnSome P before before OutOfMemory
  nothing_ends P = let some = given before.left in record { bytes = some.0; given = some.1; reads = inl (no_reads before.reads); ends = inl refl }

  pub forgets : CarriesOut words over before before OutOfMemory
  forgets = record {
    usage = λ _. inl refl;
    run = λ _. nothing_ends (IsDue over.run Run);
    heal = λ _. nothing_ends (IsDue over.heal Run);
    leave = λ _. nothing_ends (IsLeaveDue over.run);
    resume = λ _. nothing_ends IsResumeDue;
    free = λ _. nothing_ends (IsDue over.free Run);
    audit = λ _. nothing_ends IsAuditDue;
    glance = λ _. nothing_ends (IsGlanceDue over.run over.sees);
    check = λ _. nothing_ends (IsDue no_run Check);
    generate = λ seed txns _. inl refl;
    usage_only = λ e. cc;
    unread = λ _ e. cc;
    leaves = λ _. (0, omega arith, kept before.left);
    faults = record { read_fault = λ e. cc; read_first = λ _. refl; unwritten = λ _. refl; write_fault = λ e. cc; no_write_fault = λ _. refl };
    complete_run = λ _ _ _. all_bytes before.left (λ bytes. (plan : Content) → Means bytes plan → length bytes ≤ document_limit → IsDone Run OutOfMemory) (λ bytes plan means short. tt);
    complete_check = λ _ _ _. all_bytes before.left (λ bytes. (plan : Content) → Means bytes plan → length bytes ≤ document_limit → IsDone Check OutOfMemory) (λ bytes plan means short. tt);
    complete_resume = λ _ _ _. all_bytes before.left (λ bytes. HasJournals bytes → length bytes ≤ document_limit → IsDone Run OutOfMemory) (λ bytes has short. tt);
    complete_audit = λ _ _ _. all_bytes before.left (λ bytes. IsCase bytes → length bytes ≤ document_limit → IsAnswered OutOfMemory) (λ bytes case short. tt);
    complete_glance = λ _ _ _. all_bytes before.left (λ bytes. HasLooks bytes → length bytes ≤ document_limit → IsDone Run OutOfMemory) (λ bytes has short. tt);
    complete_generate = λ seed txns _ _. tt;
  } where
    kept : (left : Option (List ℕ)) → left ≡ without_first 0 left
    kept None = refl
    kept (Some bytes) = refl

-- ---- what is carried out without threads

-- is carried out so whatever `free` is over, where the words ask for none
pub alone : (words : List (List ℕ)) (over : Overs) (free : Over) (before after : Streams) (status : Status) → ¬ (AsksForWorkers words)
    → CarriesOut words over before after status → CarriesOut words (record over { free = free }) before after status
alone words over free before after status unasked does = record {
  usage = does.usage;
  run = does.run;
  heal = does.heal;
  leave = does.leave;
  resume = does.resume;
  free = λ asks. absurd (unasked asks);
  audit = does.audit;
  glance = does.glance;
  check = does.check;
  generate = does.generate;
  usage_only = does.usage_only;
  unread = does.unread;
  leaves = does.leaves;
  faults = does.faults;
  complete_run = does.complete_run;
  complete_check = does.complete_check;
  complete_resume = does.complete_resume;
  complete_audit = does.complete_audit;
  complete_glance = does.complete_glance;
  complete_generate = does.complete_generate;
}
