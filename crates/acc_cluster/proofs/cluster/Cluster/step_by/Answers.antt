use Rattle.std.proofs.Common.{sym, subst}
use Rattle.acc_stamp.specs.Actor.{actor_of}
use Rattle.acc_message.specs.declared.entry.Event.TheVariants.{Begin as BeginEvent, Recover as RecoverEvent, Slow as SlowEvent, Message as MessageEvent}
use Rattle.acc_run_laws.specs.Asks.{home_of_txn}
use Rattle.acc_schedule.specs.declared.plan.Step.{Step}
use Rattle.acc_schedule.specs.declared.plan.Step.TheVariants.{Begin, Deliver, Recover, Slow}
use Rattle.acc_schedule_runs.specs.Situations.{receiver_in}
use Rattle.acc_schedule_runs.specs.Moves.{begin_skip, recover_skip, slowing_skip, deliver_skip}
use Rattle.acc_schedule_runs.specs.Schedules.{cluster_of}
use Rattle.acc_cluster.specs.Steps.{change, StepsTo, StepsStrictly}
use Rattle.acc_cluster.proofs.Next.{EndsHere, EndsStrictlyHere, steps_to, steps_strictly, ends_in, ends_strictly, restarts_to, restarts_strictly, restart_ends, restart_ends_strictly, drops_to, drops_strictly, drop_ends, drop_ends_strictly, fails_to, fails_strictly_to, drains_to, drains_strictly, drain_ends, drain_ends_strictly}
use Rattle.acc_cluster.proofs.Taken.{on_ok, if_limit, both_ok, never_limit}
use Rattle.acc_cluster.proofs.cluster.Cluster.step_by.Goals as goal

pub returns-in-Begin-clause-ok : goal.returns-in-Begin-clause-ok
returns-in-Begin-clause-ok g c =
    on_ok _ _ c.begin.result (λ f s answers h. subst (λ (st : Step). StepsTo g.D.Disk c.args.plan.now answers c.args.number st (change c.args.self.now c.begin.new.self) s) (sym c.in-Begin.is)
    (steps_to g.D.Disk c.args.plan.now c.args.number (Begin c.in-Begin.txn) c.args.self.now c.begin.new.self s (begin_skip (cluster_of c.args.plan.now) s c.in-Begin.txn) (home_of_txn (cluster_of c.args.plan.now) c.in-Begin.txn) (BeginEvent c.in-Begin.txn) (λ answers next is. is) (f s h) answers)) c.begin.ensures.ok

pub returns-in-Begin-clause-strict : goal.returns-in-Begin-clause-strict
returns-in-Begin-clause-strict g c =
    on_ok _ _ c.begin.result (λ f s h. subst (λ (st : Step). StepsStrictly g.D.Disk c.args.plan.now c.args.number st c.begin.new.self s) (sym c.in-Begin.is)
    (steps_strictly g.D.Disk c.args.plan.now c.args.number (Begin c.in-Begin.txn) c.args.self.now c.begin.new.self s (begin_skip (cluster_of c.args.plan.now) s.found c.in-Begin.txn) (home_of_txn (cluster_of c.args.plan.now) c.in-Begin.txn) (BeginEvent c.in-Begin.txn) (λ next is. is) (f s.found h.stands) h.strictly)) c.begin.ensures.ok

pub returns-in-Begin-clause-limit : goal.returns-in-Begin-clause-limit
returns-in-Begin-clause-limit g c =
    if_limit _ _ c.begin.result (λ which limit f s answers h. subst (λ (st : Step). EndsHere g.D.Disk c.args.plan.now c.args.number st c.args.self.now c.begin.new.self s which limit answers) (sym c.in-Begin.is)
    (ends_in g.D.Disk c.args.plan.now c.args.number (Begin c.in-Begin.txn) c.args.self.now c.begin.new.self s (begin_skip (cluster_of c.args.plan.now) s c.in-Begin.txn) (home_of_txn (cluster_of c.args.plan.now) c.in-Begin.txn) (BeginEvent c.in-Begin.txn) (λ answers next is. is) which limit (f s h) answers)) c.begin.ensures.limit

pub returns-in-Begin-clause-strict_limit : goal.returns-in-Begin-clause-strict_limit
returns-in-Begin-clause-strict_limit g c =
    if_limit _ _ c.begin.result (λ which limit f s h. subst (λ (st : Step). EndsStrictlyHere c.args.plan.now c.args.number st c.begin.new.self s which limit) (sym c.in-Begin.is)
    (ends_strictly g.D.Disk c.args.plan.now c.args.number (Begin c.in-Begin.txn) c.args.self.now c.begin.new.self s (begin_skip (cluster_of c.args.plan.now) s.found c.in-Begin.txn) (home_of_txn (cluster_of c.args.plan.now) c.in-Begin.txn) (BeginEvent c.in-Begin.txn) (λ next is. is) which limit (f s.found h.stands) h.strictly)) c.begin.ensures.limit

pub returns-in-Deliver-clause-ok : goal.returns-in-Deliver-clause-ok
returns-in-Deliver-clause-ok g c =
    on_ok _ _ c.deliver.result (λ f s answers h. subst (λ (st : Step). StepsTo g.D.Disk c.args.plan.now answers c.args.number st (change c.args.self.now c.deliver.new.self) s) (sym c.in-Deliver.is)
    (steps_to g.D.Disk c.args.plan.now c.args.number (Deliver c.in-Deliver.message) c.args.self.now c.deliver.new.self s (deliver_skip s c.in-Deliver.message) (receiver_in s c.in-Deliver.message) (MessageEvent c.in-Deliver.message) (λ answers next is. is) (f s h) answers)) c.deliver.ensures.ok

pub returns-in-Deliver-clause-strict : goal.returns-in-Deliver-clause-strict
returns-in-Deliver-clause-strict g c =
    on_ok _ _ c.deliver.result (λ f s h. subst (λ (st : Step). StepsStrictly g.D.Disk c.args.plan.now c.args.number st c.deliver.new.self s) (sym c.in-Deliver.is)
    (steps_strictly g.D.Disk c.args.plan.now c.args.number (Deliver c.in-Deliver.message) c.args.self.now c.deliver.new.self s (deliver_skip s.found c.in-Deliver.message) (receiver_in s.found c.in-Deliver.message) (MessageEvent c.in-Deliver.message) (λ next is. is) (f s.found h.stands) h.strictly)) c.deliver.ensures.ok

pub returns-in-Deliver-clause-limit : goal.returns-in-Deliver-clause-limit
returns-in-Deliver-clause-limit g c =
    if_limit _ _ c.deliver.result (λ which limit f s answers h. subst (λ (st : Step). EndsHere g.D.Disk c.args.plan.now c.args.number st c.args.self.now c.deliver.new.self s which limit answers) (sym c.in-Deliver.is)
    (ends_in g.D.Disk c.args.plan.now c.args.number (Deliver c.in-Deliver.message) c.args.self.now c.deliver.new.self s (deliver_skip s c.in-Deliver.message) (receiver_in s c.in-Deliver.message) (MessageEvent c.in-Deliver.message) (λ answers next is. is) which limit (f s h) answers)) c.deliver.ensures.limit

pub returns-in-Deliver-clause-strict_limit : goal.returns-in-Deliver-clause-strict_limit
returns-in-Deliver-clause-strict_limit g c =
    if_limit _ _ c.deliver.result (λ which limit f s h. subst (λ (st : Step). EndsStrictlyHere c.args.plan.now c.args.number st c.deliver.new.self s which limit) (sym c.in-Deliver.is)
    (ends_strictly g.D.Disk c.args.plan.now c.args.number (Deliver c.in-Deliver.message) c.args.self.now c.deliver.new.self s (deliver_skip s.found c.in-Deliver.message) (receiver_in s.found c.in-Deliver.message) (MessageEvent c.in-Deliver.message) (λ next is. is) which limit (f s.found h.stands) h.strictly)) c.deliver.ensures.limit

pub returns-in-Recover-clause-ok : goal.returns-in-Recover-clause-ok
returns-in-Recover-clause-ok g c =
    on_ok _ _ c.recover.result (λ f s answers h. subst (λ (st : Step). StepsTo g.D.Disk c.args.plan.now answers c.args.number st (change c.args.self.now c.recover.new.self) s) (sym c.in-Recover.is)
    (steps_to g.D.Disk c.args.plan.now c.args.number (Recover c.in-Recover.txn c.in-Recover.node) c.args.self.now c.recover.new.self s (recover_skip s c.in-Recover.txn c.in-Recover.node) (actor_of c.in-Recover.node 0) (RecoverEvent c.in-Recover.txn) (λ answers next is. is) (f s h) answers)) c.recover.ensures.ok

pub returns-in-Recover-clause-strict : goal.returns-in-Recover-clause-strict
returns-in-Recover-clause-strict g c =
    on_ok _ _ c.recover.result (λ f s h. subst (λ (st : Step). StepsStrictly g.D.Disk c.args.plan.now c.args.number st c.recover.new.self s) (sym c.in-Recover.is)
    (steps_strictly g.D.Disk c.args.plan.now c.args.number (Recover c.in-Recover.txn c.in-Recover.node) c.args.self.now c.recover.new.self s (recover_skip s.found c.in-Recover.txn c.in-Recover.node) (actor_of c.in-Recover.node 0) (RecoverEvent c.in-Recover.txn) (λ next is. is) (f s.found h.stands) h.strictly)) c.recover.ensures.ok

pub returns-in-Recover-clause-limit : goal.returns-in-Recover-clause-limit
returns-in-Recover-clause-limit g c =
    if_limit _ _ c.recover.result (λ which limit f s answers h. subst (λ (st : Step). EndsHere g.D.Disk c.args.plan.now c.args.number st c.args.self.now c.recover.new.self s which limit answers) (sym c.in-Recover.is)
    (ends_in g.D.Disk c.args.plan.now c.args.number (Recover c.in-Recover.txn c.in-Recover.node) c.args.self.now c.recover.new.self s (recover_skip s c.in-Recover.txn c.in-Recover.node) (actor_of c.in-Recover.node 0) (RecoverEvent c.in-Recover.txn) (λ answers next is. is) which limit (f s h) answers)) c.recover.ensures.limit

pub returns-in-Recover-clause-strict_limit : goal.returns-in-Recover-clause-strict_limit
returns-in-Recover-clause-strict_limit g c =
    if_limit _ _ c.recover.result (λ which limit f s h. subst (λ (st : Step). EndsStrictlyHere c.args.plan.now c.args.number st c.recover.new.self s which limit) (sym c.in-Recover.is)
    (ends_strictly g.D.Disk c.args.plan.now c.args.number (Recover c.in-Recover.txn c.in-Recover.node) c.args.self.now c.recover.new.self s (recover_skip s.found c.in-Recover.txn c.in-Recover.node) (actor_of c.in-Recover.node 0) (RecoverEvent c.in-Recover.txn) (λ next is. is) which limit (f s.found h.stands) h.strictly)) c.recover.ensures.limit

pub returns-in-Slow-clause-ok : goal.returns-in-Slow-clause-ok
returns-in-Slow-clause-ok g c =
    on_ok _ _ c.slow.result (λ f s answers h. subst (λ (st : Step). StepsTo g.D.Disk c.args.plan.now answers c.args.number st (change c.args.self.now c.slow.new.self) s) (sym c.in-Slow.is)
    (steps_to g.D.Disk c.args.plan.now c.args.number (Slow c.in-Slow.txn) c.args.self.now c.slow.new.self s (slowing_skip (cluster_of c.args.plan.now) s c.in-Slow.txn) (home_of_txn (cluster_of c.args.plan.now) c.in-Slow.txn) (SlowEvent c.in-Slow.txn) (λ answers next is. is) (f s h) answers)) c.slow.ensures.ok

pub returns-in-Slow-clause-strict : goal.returns-in-Slow-clause-strict
returns-in-Slow-clause-strict g c =
    on_ok _ _ c.slow.result (λ f s h. subst (λ (st : Step). StepsStrictly g.D.Disk c.args.plan.now c.args.number st c.slow.new.self s) (sym c.in-Slow.is)
    (steps_strictly g.D.Disk c.args.plan.now c.args.number (Slow c.in-Slow.txn) c.args.self.now c.slow.new.self s (slowing_skip (cluster_of c.args.plan.now) s.found c.in-Slow.txn) (home_of_txn (cluster_of c.args.plan.now) c.in-Slow.txn) (SlowEvent c.in-Slow.txn) (λ next is. is) (f s.found h.stands) h.strictly)) c.slow.ensures.ok

pub returns-in-Slow-clause-limit : goal.returns-in-Slow-clause-limit
returns-in-Slow-clause-limit g c =
    if_limit _ _ c.slow.result (λ which limit f s answers h. subst (λ (st : Step). EndsHere g.D.Disk c.args.plan.now c.args.number st c.args.self.now c.slow.new.self s which limit answers) (sym c.in-Slow.is)
    (ends_in g.D.Disk c.args.plan.now c.args.number (Slow c.in-Slow.txn) c.args.self.now c.slow.new.self s (slowing_skip (cluster_of c.args.plan.now) s c.in-Slow.txn) (home_of_txn (cluster_of c.args.plan.now) c.in-Slow.txn) (SlowEvent c.in-Slow.txn) (λ answers next is. is) which limit (f s h) answers)) c.slow.ensures.limit

pub returns-in-Slow-clause-strict_limit : goal.returns-in-Slow-clause-strict_limit
returns-in-Slow-clause-strict_limit g c =
    if_limit _ _ c.slow.result (λ which limit f s h. subst (λ (st : Step). EndsStrictlyHere c.args.plan.now c.args.number st c.slow.new.self s which limit) (sym c.in-Slow.is)
    (ends_strictly g.D.Disk c.args.plan.now c.args.number (Slow c.in-Slow.txn) c.args.self.now c.slow.new.self s (slowing_skip (cluster_of c.args.plan.now) s.found c.in-Slow.txn) (home_of_txn (cluster_of c.args.plan.now) c.in-Slow.txn) (SlowEvent c.in-Slow.txn) (λ next is. is) which limit (f s.found h.stands) h.strictly)) c.slow.ensures.limit

pub returns-in-Restart-clause-ok : goal.returns-in-Restart-clause-ok
returns-in-Restart-clause-ok g c =
    on_ok _ _ c.restart.result (λ f s answers h. subst (λ (st : Step). StepsTo g.D.Disk c.args.plan.now answers c.args.number st (change c.args.self.now c.restart.new.self) s) (sym c.in-Restart.is) (restarts_to g.D.Disk c.args.plan.now c.args.number c.in-Restart.actor c.in-Restart.choice c.args.self.now c.restart.new.self s (f s h) answers)) c.restart.ensures.ok

pub returns-in-Restart-clause-strict : goal.returns-in-Restart-clause-strict
returns-in-Restart-clause-strict g c =
    on_ok _ _ c.restart.result (λ f s h. subst (λ (st : Step). StepsStrictly g.D.Disk c.args.plan.now c.args.number st c.restart.new.self s) (sym c.in-Restart.is) (restarts_strictly g.D.Disk c.args.plan.now c.args.number c.in-Restart.actor c.in-Restart.choice c.args.self.now c.restart.new.self s (f s.found h.stands) h.strictly)) c.restart.ensures.ok

pub returns-in-Restart-clause-limit : goal.returns-in-Restart-clause-limit
returns-in-Restart-clause-limit g c =
    if_limit _ _ c.restart.result (λ which limit f s answers h. subst (λ (st : Step). EndsHere g.D.Disk c.args.plan.now c.args.number st c.args.self.now c.restart.new.self s which limit answers) (sym c.in-Restart.is) (restart_ends g.D.Disk c.args.plan.now c.args.number c.in-Restart.actor c.in-Restart.choice c.args.self.now c.restart.new.self s which limit (f s h).0 (f s h).1 answers)) c.restart.ensures.limit

pub returns-in-Restart-clause-strict_limit : goal.returns-in-Restart-clause-strict_limit
returns-in-Restart-clause-strict_limit g c =
    if_limit _ _ c.restart.result (λ which limit f s h. subst (λ (st : Step). EndsStrictlyHere c.args.plan.now c.args.number st c.restart.new.self s which limit) (sym c.in-Restart.is) (restart_ends_strictly g.D.Disk c.args.plan.now c.args.number c.in-Restart.actor c.in-Restart.choice c.args.self.now c.restart.new.self s which limit (f s.found h.stands).0 (f s.found h.stands).1 h.strictly)) c.restart.ensures.limit

pub returns-in-Drop-clause-ok : goal.returns-in-Drop-clause-ok
returns-in-Drop-clause-ok g c =
    on_ok _ _ c.drop_message.result (λ f s answers h. subst (λ (st : Step). StepsTo g.D.Disk c.args.plan.now answers c.args.number st (change c.args.self.now c.drop_message.new.self) s) (sym c.in-Drop.is) (drops_to g.D.Disk c.args.plan.now c.args.number c.args.self.now c.drop_message.new.self c.in-Drop.message s (f s h) answers)) c.drop_message.ensures.ok

pub returns-in-Drop-clause-strict : goal.returns-in-Drop-clause-strict
returns-in-Drop-clause-strict g c =
    on_ok _ _ c.drop_message.result (λ f s h. subst (λ (st : Step). StepsStrictly g.D.Disk c.args.plan.now c.args.number st c.drop_message.new.self s) (sym c.in-Drop.is) (drops_strictly g.D.Disk c.args.plan.now c.args.number c.args.self.now c.drop_message.new.self c.in-Drop.message s (f s.found h.stands) h.strictly)) c.drop_message.ensures.ok

pub returns-in-Drop-clause-limit : goal.returns-in-Drop-clause-limit
returns-in-Drop-clause-limit g c =
    if_limit _ _ c.drop_message.result (λ which limit f s answers h. subst (λ (st : Step). EndsHere g.D.Disk c.args.plan.now c.args.number st c.args.self.now c.drop_message.new.self s which limit answers) (sym c.in-Drop.is) (drop_ends g.D.Disk c.args.plan.now c.args.number c.args.self.now c.drop_message.new.self c.in-Drop.message s which limit (f s h).0 (f s h).1 answers)) c.drop_message.ensures.limit

pub returns-in-Drop-clause-strict_limit : goal.returns-in-Drop-clause-strict_limit
returns-in-Drop-clause-strict_limit g c =
    if_limit _ _ c.drop_message.result (λ which limit f s h. subst (λ (st : Step). EndsStrictlyHere c.args.plan.now c.args.number st c.drop_message.new.self s which limit) (sym c.in-Drop.is) (drop_ends_strictly g.D.Disk c.args.plan.now c.args.number c.args.self.now c.drop_message.new.self c.in-Drop.message s which limit (f s.found h.stands).0 (f s.found h.stands).1)) c.drop_message.ensures.limit

pub returns-in-Drain-clause-ok : goal.returns-in-Drain-clause-ok
returns-in-Drain-clause-ok g c =
    on_ok _ _ c.drain.result (λ f s answers h. subst (λ (st : Step). StepsTo g.D.Disk c.args.plan.now answers c.args.number st (change c.args.self.now c.drain.new.self) s) (sym c.in-Drain.is) (drains_to g.D.Disk c.args.plan.now c.args.number c.args.self.now c.drain.new.self s (f s h) answers)) c.drain.ensures.ok

pub returns-in-Drain-clause-strict : goal.returns-in-Drain-clause-strict
returns-in-Drain-clause-strict g c =
    on_ok _ _ c.drain.result (λ f s h. subst (λ (st : Step). StepsStrictly g.D.Disk c.args.plan.now c.args.number st c.drain.new.self s) (sym c.in-Drain.is) (drains_strictly g.D.Disk c.args.plan.now c.args.number c.args.self.now c.drain.new.self s (f s.found h.stands) h.strictly)) c.drain.ensures.ok

pub returns-in-Drain-clause-limit : goal.returns-in-Drain-clause-limit
returns-in-Drain-clause-limit g c =
    if_limit _ _ c.drain.result (λ which limit f s answers h. subst (λ (st : Step). EndsHere g.D.Disk c.args.plan.now c.args.number st c.args.self.now c.drain.new.self s which limit answers) (sym c.in-Drain.is) (drain_ends g.D.Disk c.args.plan.now c.args.number c.args.self.now c.drain.new.self s which limit (f s h).0 (f s h).1 answers)) c.drain.ensures.limit

pub returns-in-Drain-clause-strict_limit : goal.returns-in-Drain-clause-strict_limit
returns-in-Drain-clause-strict_limit g c =
    if_limit _ _ c.drain.result (λ which limit f s h. subst (λ (st : Step). EndsStrictlyHere c.args.plan.now c.args.number st c.drain.new.self s which limit) (sym c.in-Drain.is) (drain_ends_strictly g.D.Disk c.args.plan.now c.args.number c.args.self.now c.drain.new.self s which limit (f s.found h.stands).0 (f s.found h.stands).1 h.strictly)) c.drain.ensures.limit

pub returns-in-Fail-clause-ok : goal.returns-in-Fail-clause-ok
returns-in-Fail-clause-ok g c =
    on_ok _ _ c.fail.result (λ f s answers h. subst (λ (st : Step). StepsTo g.D.Disk c.args.plan.now answers c.args.number st (change c.args.self.now c.fail.new.self) s) (sym c.in-Fail.is)
    (fails_to g.D.Disk c.args.plan.now c.args.number c.args.self.now c.fail.new.self c.in-Fail.actor c.in-Fail.calls s (f s h) answers)) c.fail.ensures.ok

pub returns-in-Fail-clause-strict : goal.returns-in-Fail-clause-strict
returns-in-Fail-clause-strict g c =
    on_ok _ _ c.fail.result (λ f s h. subst (λ (st : Step). StepsStrictly g.D.Disk c.args.plan.now c.args.number st c.fail.new.self s) (sym c.in-Fail.is)
    (fails_strictly_to g.D.Disk c.args.plan.now c.args.number c.args.self.now c.fail.new.self c.in-Fail.actor c.in-Fail.calls s (f.0 s.found h.stands) (f.1 s.found s.disks h.stands h.strictly))) (both_ok _ _ c.fail.result c.fail.ensures.ok c.fail.ensures.strict)

pub returns-in-Fail-clause-limit : goal.returns-in-Fail-clause-limit
returns-in-Fail-clause-limit g c = never_limit _ c.fail.result c.fail.ensures.never

pub returns-in-Fail-clause-strict_limit : goal.returns-in-Fail-clause-strict_limit
returns-in-Fail-clause-strict_limit g c = never_limit _ c.fail.result c.fail.ensures.never
