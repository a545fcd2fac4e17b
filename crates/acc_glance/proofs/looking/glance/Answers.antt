use Rattle.std.proofs.Common.{◌+◌, true, false, List, length, map, reverse, sym, ◌∙◌, ap, subst}
use Rattle.std.specs.List.{AllByRecursion}
use Rattle.acc_schedule_runs.specs.Schedules.{cluster_of}
use Rattle.acc_glance.specs.declared.sights.Finding.{Finding}
use Rattle.acc_glance.specs.Documents.{AreInTime}
use Rattle.acc_glance.specs.Sights.{IsSettled}
use Rattle.acc_glance.proofs.Ended.{found_ended}
use Rattle.acc_glance.proofs.Looked.{all_have, looked}
use Rattle.acc_glance.proofs.looking.glance.Goals as goal

pub take_steps-requires-clause-begins : goal.take_steps-requires-clause-begins
take_steps-requires-clause-begins g c = c.in_ok-visitors.ensures.led

pub finish_visits-requires-clause-in_time : goal.finish_visits-requires-clause-in_time
finish_visits-requires-clause-in_time g c =
    subst (AreInTime c.args.plan.now) (sym (c.in_ok-take_steps.ensures.looks ∙ c.in_ok-visitors.ensures.looks)) c.requires.in_time

pub seens-requires-clause-ended : goal.seens-requires-clause-ended
seens-requires-clause-ended g c =
    found_ended c.as_slice.result.now c.finish_visits.new.visitors.items
    (ap (λ (fs : List Finding). map (λ (f : Finding). f.stage) fs) c.as_slice.ensures.value ∙ c.in_ok-find_moments.ensures.stages ∙ c.in_ok-findings.ensures.stages)
    (c.in_ok-finish_visits.ensures.ended c.in_ok-take_steps.ensures.ok)

pub seens-requires-clause-moments : goal.seens-requires-clause-moments
seens-requires-clause-moments g c =
    let cluster = cluster_of c.args.plan.now in
    let items = c.items.result.now.items in
    let bound = length items + 1 in
    all_have g.D.Disk c.args.plan.now
    (record { there = c.what_is_read_was_there.ensures; stay = c.oldest_items_stay.ensures.stay; present = c.oldest_items_stay.ensures.all })
    c.take_steps.new.cluster c.finish_visits.new.visitors.items c.as_slice.result.now items
    (ap (λ (fs : List Finding). map (λ (f : Finding). f.look) fs) c.as_slice.ensures.value ∙ c.in_ok-find_moments.ensures.looks ∙ c.in_ok-findings.ensures.looks)
    (ap (λ (fs : List Finding). map (λ (f : Finding). f.stage) fs) c.as_slice.ensures.value ∙ c.in_ok-find_moments.ensures.stages ∙ c.in_ok-findings.ensures.stages)
    c.items.ensures
    (subst (AllByRecursion (IsSettled cluster (reverse items) bound)) (sym c.as_slice.ensures.value)
    (c.in_ok-find_moments.ensures.settled (c.in_ok-findings.ensures.unsettled cluster (reverse items))))
    (c.in_ok-finish_visits.ensures.ok false c.in_ok-take_steps.ensures.ok)

pub returns-clause-ok : goal.returns-clause-ok
returns-clause-ok g c =
    looked g.D.Disk c.args.plan.now false c.take_steps.new.cluster c.args.looks.now c.finish_visits.new.visitors.items c.as_slice.result.now c.items.result.now.items
    c.in_ok-seens.field-0 (ap (λ (fs : List Finding). map (λ (f : Finding). f.look) fs) c.as_slice.ensures.value ∙ c.in_ok-find_moments.ensures.looks ∙ c.in_ok-findings.ensures.looks) (ap (λ (fs : List Finding). map (λ (f : Finding). f.stage) fs) c.as_slice.ensures.value ∙ c.in_ok-find_moments.ensures.stages ∙ c.in_ok-findings.ensures.stages)
    (c.in_ok-finish_visits.ensures.looks ∙ c.in_ok-take_steps.ensures.looks ∙ c.in_ok-visitors.ensures.looks) c.items.ensures
    (c.in_ok-seens.ensures (cluster_of c.args.plan.now) (reverse c.items.result.now.items) (length c.items.result.now.items + 1)
    (subst (AllByRecursion (IsSettled (cluster_of c.args.plan.now) (reverse c.items.result.now.items) (length c.items.result.now.items + 1))) (sym c.as_slice.ensures.value)
    (c.in_ok-find_moments.ensures.settled (c.in_ok-findings.ensures.unsettled (cluster_of c.args.plan.now) (reverse c.items.result.now.items)))))
    (c.in_ok-finish_visits.ensures.ok false c.in_ok-take_steps.ensures.ok)

pub returns-clause-strict : goal.returns-clause-strict
returns-clause-strict g c = λ stands.
    looked g.D.Disk c.args.plan.now true c.take_steps.new.cluster c.args.looks.now c.finish_visits.new.visitors.items c.as_slice.result.now c.items.result.now.items
    c.in_ok-seens.field-0 (ap (λ (fs : List Finding). map (λ (f : Finding). f.look) fs) c.as_slice.ensures.value ∙ c.in_ok-find_moments.ensures.looks ∙ c.in_ok-findings.ensures.looks) (ap (λ (fs : List Finding). map (λ (f : Finding). f.stage) fs) c.as_slice.ensures.value ∙ c.in_ok-find_moments.ensures.stages ∙ c.in_ok-findings.ensures.stages)
    (c.in_ok-finish_visits.ensures.looks ∙ c.in_ok-take_steps.ensures.looks ∙ c.in_ok-visitors.ensures.looks) c.items.ensures
    (c.in_ok-seens.ensures (cluster_of c.args.plan.now) (reverse c.items.result.now.items) (length c.items.result.now.items + 1)
    (subst (AllByRecursion (IsSettled (cluster_of c.args.plan.now) (reverse c.items.result.now.items) (length c.items.result.now.items + 1))) (sym c.as_slice.ensures.value)
    (c.in_ok-find_moments.ensures.settled (c.in_ok-findings.ensures.unsettled (cluster_of c.args.plan.now) (reverse c.items.result.now.items)))))
    (c.in_ok-finish_visits.ensures.ok true (c.in_ok-take_steps.ensures.strict stands))
