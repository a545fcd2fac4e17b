use Rattle.std.proofs.Common.{◌≡◌, true, take, sym, subst}
use Rattle.std.proofs.lemmas.List.{take_all}
use Rattle.acc_glance.specs.declared.sights.Finding.{Finding}
use Rattle.acc_glance.specs.Stages.{has_ended}
use Rattle.acc_glance.specs.Sights.{AreEnded, HasMoment, IsSettled}
use Rattle.acc_glance.proofs.SightFacts.{ended_more, each_in}
use Rattle.acc_glance.proofs.sights.seens.Goals as goal

pub seen_by-requires-clause-moment : goal.seen_by-requires-clause-moment
seen_by-requires-clause-moment c =
    each_in HasMoment c.args.findings.now c.loop-finding.finding-index c.finding-item.result c.loop-finding-test.true c.finding-item.is c.requires.moments

pub seen_by-requires-clause-ended : goal.seen_by-requires-clause-ended
seen_by-requires-clause-ended c =
    each_in (λ (f : Finding). has_ended f.stage ≡ true) c.args.findings.now c.loop-finding.finding-index c.finding-item.result c.loop-finding-test.true c.finding-item.is
    c.requires.ended

pub loop-finding-preserved : goal.loop-finding-preserved
loop-finding-preserved c = λ cluster items next all.
    subst (AreEnded cluster items (take _ c.args.findings.now)) (sym c.in_ok-push.ensures.ok)
    (ended_more cluster items c.args.findings.now c.loop-finding.finding-index c.finding-item.result c.loop-finding.seens c.in_ok-seen_by.field-0 c.loop-finding-test.true c.finding-item.is
    (c.loop-finding.invariant cluster items next all)
    (c.in_ok-seen_by.ensures cluster items next
    (each_in (IsSettled cluster items next) c.args.findings.now c.loop-finding.finding-index c.finding-item.result c.loop-finding-test.true c.finding-item.is all)))

pub returns : goal.returns
returns c = λ cluster items next all.
    subst (λ fs. AreEnded cluster items fs c.loop-finding.seens) (take_all c.loop-finding.finding-index c.args.findings.now c.loop-finding-test.false)
    (c.loop-finding.invariant cluster items next all)
