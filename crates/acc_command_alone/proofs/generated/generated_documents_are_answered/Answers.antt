use Rattle.std.proofs.Common.{subst}
use Rattle.acc_generator.specs.Plan.{plan}
use Rattle.acc_command_alone.specs.Counts.{AreAnswered}
use Rattle.acc_command_alone.proofs.GeneratedFacts.{steps_end, steps_begin_once, steps_begin_all, text_ends}
use Rattle.acc_command_alone.proofs.generated.generated_documents_are_answered.Goals as goal

pub returns-clause-answered : goal.returns-clause-answered
returns-clause-answered c = λ seed count answers items few never obeys.
    subst (λ n. AreAnswered n items) (steps_begin_all count)
    (c.calm_plans_count_their_begins.ensures.answered (plan seed count) answers items (c.generated_plans_keep_the_rules.ensures seed count few) never (steps_end count) (steps_begin_once count) obeys)

pub returns-clause-strictly : goal.returns-clause-strictly
returns-clause-strictly c = λ seed count items few obeys.
    subst (λ n. AreAnswered n items) (steps_begin_all count)
    (c.calm_plans_count_their_begins.ensures.strictly (plan seed count) items (c.generated_plans_keep_the_rules.ensures seed count few) (steps_end count) (steps_begin_once count) obeys)

pub returns-clause-report : goal.returns-clause-report
returns-clause-report c = λ seed count items few obeys. text_ends seed count items (returns-clause-strictly c seed count items few obeys)
