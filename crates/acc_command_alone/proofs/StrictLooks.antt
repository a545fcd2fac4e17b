-- Over strict disks a document with looks has one report.
use Rattle.std.proofs.Common.{◌≡◌, ℕ, ◌<◌, ◌≤◌, List, ◌++◌, length, inl, inr, refl, sym, ◌∙◌, ap, subst, arith}
use Rattle.acc_message.specs.declared.error.Which.{Which}
use Rattle.acc_message.specs.declared.item.Item.{Item}
use Rattle.acc_schedule.specs.declared.error.PlanError.TheVariants.{Bad}
use Rattle.acc_schedule.specs.Content.{Content}
use Rattle.acc_glance.specs.declared.looks.Look.{Look}
use Rattle.acc_glance.specs.declared.seen.Seen.{Seen}
use Rattle.acc_glance.specs.Runs.{AreSeenStrictly}
use Rattle.acc_glance.specs.Texts.{seens_text}
use Rattle.acc_glance.proofs.LookFacts.{one_fault, same_looks, same_plan, says_no_fault}
use Rattle.acc_command_alone.specs.declared.status.Status.{Status}
use Rattle.acc_command_alone.specs.declared.status.Status.TheVariants.{Done, No, Usage, ReadFault, WriteFault, BadInput, Limit, OutOfMemory}
use Rattle.acc_command_alone.specs.Lines.{line}
use Rattle.acc_command_alone.specs.Ends.{document_limit}
use Rattle.acc_command_alone.specs.Command.{Over}
use Rattle.acc_command_alone.specs.Glancing.{EndsWithLooks, IsGlanceDue, IsLooksRefusal, LooksEnd, ReportsLooks, Sees}
use Rattle.acc_command_alone.proofs.StrictReports.{AreFixed, FixRuns, never_both, same_limits, same_refusal, same_reports}

-- what strict disks fix of looks: what they see of a plan's items
abbrev pub FixSights : Type 0
FixSights = (plan : Content) (looks : List Look) (one other : List Item) (seens other_seens : List Seen) → AreSeenStrictly plan looks one seens
    → AreSeenStrictly plan looks other other_seens → seens ≡ other_seens

-- what is reported was seen over strict disks
abbrev pub SeesStrictly : Sees → Type 0
SeesStrictly sees = (plan : Content) (looks : List Look) (items : List Item) (seens : List Seen) → sees plan looks items seens → AreSeenStrictly plan looks items seens

abbrev Same : Status → Status → List ℕ → List ℕ → Type 0
Same status other_status text other_text = (status ≡ other_status) × (text ≡ other_text)

module _ (Runs : Content → List Item → Type 0) (Stops : Content → List Item → Which → ℕ → Type 0) (fixed : FixRuns Runs Stops) (sights : FixSights) (one other : Over)
    (sees other_sees : Sees) (of_one : AreFixed Runs Stops one) (of_other : AreFixed Runs Stops other) (seen : SeesStrictly sees) (other_seen : SeesStrictly other_sees) where
  -- ---- how the run of a plan with looks ends

  module _ (plan : Content) (looks : List Look) where
    reports : (text other_text : List ℕ) → ReportsLooks one sees plan looks text → ReportsLooks other other_sees plan looks other_text → text ≡ other_text
    reports text other_text a b =
        let report : a.report ≡ b.report = same_reports Runs Stops fixed one other of_one of_other plan a.report b.report a.reports b.reports in
        let saw : a.seens ≡ b.seens =
        sights plan looks a.reports.items b.reports.items a.seens b.seens (seen plan looks a.reports.items a.seens a.saw)
        (other_seen plan looks b.reports.items b.seens b.saw) in
        a.prints ∙ ap (λ (text : List ℕ). text ++ seens_text a.seens) report ∙ ap (λ (seens : List Seen). b.report ++ seens_text seens) saw ∙ sym b.prints

    from_report : (other_status : Status) (text other_text : List ℕ) → ReportsLooks one sees plan looks text → LooksEnd other other_sees plan looks other_status other_text
        → Same Done other_status text other_text
    from_report Done text other_text a b = (refl, reports text other_text a b)
    from_report Limit text other_text a b = absurd (never_both Runs Stops fixed one other of_one of_other plan a.report other_text a.reports b)
    from_report BadInput text other_text a b = absurd b
    from_report No text other_text a b = absurd b
    from_report Usage text other_text a b = absurd b
    from_report ReadFault text other_text a b = absurd b
    from_report WriteFault text other_text a b = absurd b
    from_report OutOfMemory text other_text a b = absurd b

    from_stop : (other_status : Status) (text other_text : List ℕ) → LooksEnd one sees plan looks Limit text → LooksEnd other other_sees plan looks other_status other_text
        → Same Limit other_status text other_text
    from_stop Done text other_text a b = absurd (never_both Runs Stops fixed other one of_other of_one plan b.report text b.reports a)
    from_stop Limit text other_text a b = (refl, same_limits Runs Stops fixed one other of_one of_other plan text other_text a b)
    from_stop BadInput text other_text a b = absurd b
    from_stop No text other_text a b = absurd b
    from_stop Usage text other_text a b = absurd b
    from_stop ReadFault text other_text a b = absurd b
    from_stop WriteFault text other_text a b = absurd b
    from_stop OutOfMemory text other_text a b = absurd b

    ends_alike : (status other_status : Status) (text other_text : List ℕ) → LooksEnd one sees plan looks status text
        → LooksEnd other other_sees plan looks other_status other_text → Same status other_status text other_text
    ends_alike Done other_status text other_text a b = from_report other_status text other_text a b
    ends_alike Limit other_status text other_text a b = from_stop other_status text other_text a b
    ends_alike BadInput other_status text other_text a b = absurd a
    ends_alike No other_status text other_text a b = absurd a
    ends_alike Usage other_status text other_text a b = absurd a
    ends_alike ReadFault other_status text other_text a b = absurd a
    ends_alike WriteFault other_status text other_text a b = absurd a
    ends_alike OutOfMemory other_status text other_text a b = absurd a

  -- ---- the command on a document

  module _ (bytes : List ℕ) where
    alike : (status other_status : Status) (text other_text : List ℕ) → EndsWithLooks one sees bytes status text → EndsWithLooks other other_sees bytes other_status other_text
        → Same status other_status text other_text
    alike status other_status text other_text a b =
        let plan : b.plan ≡ a.plan = same_plan bytes b.plan a.plan b.looks a.looks b.says a.says in
        let looks : b.looks ≡ a.looks = same_looks bytes b.plan a.plan b.looks a.looks b.says a.says in
        ends_alike a.plan a.looks status other_status text other_text a.ends
        (subst (λ (l : List Look). LooksEnd other other_sees a.plan l other_status other_text) looks
        (subst (λ (p : Content). LooksEnd other other_sees p b.looks other_status other_text) plan b.ends))

    refusals : (text other_text : List ℕ) → IsLooksRefusal bytes text → IsLooksRefusal bytes other_text → text ≡ other_text
    refusals text other_text a b =
        let same = one_fault bytes (Bad a.kind a.path a.detail a.at) (Bad b.kind b.path b.detail b.at) a.cause b.cause in
        a.prints ∙ ap line (same_refusal a.kind a.path a.detail a.at b.kind b.path b.detail b.at same) ∙ sym b.prints

    refused_or_said : (over : Over) (sees : Sees) (status : Status) (text other_text : List ℕ) → EndsWithLooks over sees bytes status text → IsLooksRefusal bytes other_text → ⊥
    refused_or_said over sees status text other_text a b = says_no_fault bytes a.plan a.looks b.kind b.path b.detail b.at a.says b.cause

    not_long : length bytes ≤ document_limit → document_limit < length bytes → ⊥
    not_long short long = omega (arith, short, long)

    from_done : (other_status : Status) (text other_text : List ℕ) → IsGlanceDue one sees bytes Done text → IsGlanceDue other other_sees bytes other_status other_text
        → Same Done other_status text other_text
    from_done Done text other_text a b = alike Done Done text other_text a.1 b.1
    from_done BadInput text other_text a b = absurd (refused_or_said one sees Done text other_text a.1 b.1)
    from_done Limit text other_text a (inl long) = absurd (not_long a.0 long.0)
    from_done Limit text other_text a (inr past) = alike Done Limit text other_text a.1 past.1
    from_done No text other_text a b = absurd b
    from_done Usage text other_text a b = absurd b
    from_done ReadFault text other_text a b = absurd b
    from_done WriteFault text other_text a b = absurd b
    from_done OutOfMemory text other_text a b = absurd b

    from_bad : (other_status : Status) (text other_text : List ℕ) → IsGlanceDue one sees bytes BadInput text → IsGlanceDue other other_sees bytes other_status other_text
        → Same BadInput other_status text other_text
    from_bad Done text other_text a b = absurd (refused_or_said other other_sees Done other_text text b.1 a.1)
    from_bad BadInput text other_text a b = (refl, refusals text other_text a.1 b.1)
    from_bad Limit text other_text a (inl long) = absurd (not_long a.0 long.0)
    from_bad Limit text other_text a (inr past) = absurd (refused_or_said other other_sees Limit other_text text past.1 a.1)
    from_bad No text other_text a b = absurd b
    from_bad Usage text other_text a b = absurd b
    from_bad ReadFault text other_text a b = absurd b
    from_bad WriteFault text other_text a b = absurd b
    from_bad OutOfMemory text other_text a b = absurd b

    from_limit : (other_status : Status) (text other_text : List ℕ) → IsGlanceDue one sees bytes Limit text → IsGlanceDue other other_sees bytes other_status other_text
        → Same Limit other_status text other_text
    from_limit Done text other_text (inl long) b = absurd (not_long b.0 long.0)
    from_limit Done text other_text (inr past) b = alike Limit Done text other_text past.1 b.1
    from_limit BadInput text other_text (inl long) b = absurd (not_long b.0 long.0)
    from_limit BadInput text other_text (inr past) b = absurd (refused_or_said one sees Limit text other_text past.1 b.1)
    from_limit Limit text other_text (inl long) (inl other_long) = (refl, long.1 ∙ sym other_long.1)
    from_limit Limit text other_text (inl long) (inr past) = absurd (not_long past.0 long.0)
    from_limit Limit text other_text (inr past) (inl long) = absurd (not_long past.0 long.0)
    from_limit Limit text other_text (inr past) (inr other_past) = alike Limit Limit text other_text past.1 other_past.1
    from_limit No text other_text a b = absurd b
    from_limit Usage text other_text a b = absurd b
    from_limit ReadFault text other_text a b = absurd b
    from_limit WriteFault text other_text a b = absurd b
    from_limit OutOfMemory text other_text a b = absurd b

    pub one_glance : (text other_text : List ℕ) (status other_status : Status) → IsGlanceDue one sees bytes status text
        → IsGlanceDue other other_sees bytes other_status other_text → Same status other_status text other_text
    one_glance text other_text Done other_status a b = from_done other_status text other_text a b
    one_glance text other_text BadInput other_status a b = from_bad other_status text other_text a b
    one_glance text other_text Limit other_status a b = from_limit other_status text other_text a b
    one_glance text other_text No other_status a b = absurd a
    one_glance text other_text Usage other_status a b = absurd a
    one_glance text other_text ReadFault other_status a b = absurd a
    one_glance text other_text WriteFault other_status a b = absurd a
    one_glance text other_text OutOfMemory other_status a b = absurd a
