use Rattle.std.proofs.Common.{false, Option, None, Some, sym, subst}
use Rattle.acc_recover.specs.declared.judged.Judged.{Judged}
use Rattle.acc_node.specs.Stands.{JudgedAs}
use Rattle.acc_node.proofs.Hearing.{follows_choice, follows_blocked, follows_end}
use Rattle.acc_node.proofs.heard.follow.Goals as goal

pub returns-in_ok-coord-in-Go-clause-ok : goal.returns-in_ok-coord-in-Go-clause-ok
returns-in_ok-coord-in-Go-clause-ok c =
    let layout = c.args.topology.now in
    let r = c.args.recovery.now in
    let gone = c.in_ok-coord-in-Go in
    subst (λ (judged : Judged). JudgedAs layout c.args.id r judged (record { emitted = gone.emitted; has_ended = false; has_replied = false }) (Some gone.coord)) (sym c.in-Go.is)
    (follows_choice layout c.args.id r c.in-Go.choice c.ballot-ballot.result c.body-in-Go.result.now gone.coord gone.emitted
    (λ a s. c.ballot-ballot.ensures layout c.args.id a s) (λ a s. c.body-in-Go.ensures layout c.args.id a s) gone.ensures)

pub returns-in_ok-ended-in-Blocked-clause-ok : goal.returns-in_ok-ended-in-Blocked-clause-ok
returns-in_ok-ended-in-Blocked-clause-ok c =
    let layout = c.args.topology.now in
    let r = c.args.recovery.now in
    let e = c.in_ok-ended-in-Blocked in
    subst (λ (judged : Judged). JudgedAs layout c.args.id r judged e.field-0 None) (sym c.in-Blocked.is)
    (follows_blocked layout c.args.id r c.ballot-ballot.result c.in-Blocked.by e.field-0 (λ a s. c.ballot-ballot.ensures layout c.args.id a s) e.ensures)

pub returns-in_ok-ended-in-Ended-clause-ok : goal.returns-in_ok-ended-in-Ended-clause-ok
returns-in_ok-ended-in-Ended-clause-ok c =
    let layout = c.args.topology.now in
    let r = c.args.recovery.now in
    let e = c.in_ok-ended-in-Ended in
    subst (λ (judged : Judged). JudgedAs layout c.args.id r judged e.field-0 None) (sym c.in-Ended.is)
    (follows_end layout c.args.id r c.ballot-ballot.result c.in-Ended.by e.field-0 (λ a s. c.ballot-ballot.ensures layout c.args.id a s) e.ensures)
