-- The items after a healing in which nobody goes down are healed, and who waited for what it recovered is answered.
use Rattle.std.specs.Prelude.{List}
use Rattle.acc_message.specs.Run.{Cluster}
use Rattle.acc_schedule.specs.declared.plan.Step.{Step}
use Rattle.acc_safety.specs.Valid.{IsValidCluster}
use Rattle.acc_schedule.specs.Content.{Content}
use Rattle.acc_schedule.specs.Plan.{IsPlan}
use Rattle.acc_schedule_runs.specs.Situations.{Situation}
use Rattle.acc_schedule_runs.specs.Moves.{Answers}
use Rattle.acc_schedule_runs.specs.Schedules.{cluster_of}
use Rattle.acc_delivered.proofs.AppliesTold.{applies_are_told}
use Rattle.acc_delivered.proofs.BlockedWaits.{blocked_have_waited}
use Rattle.acc_delivered.proofs.DeliveredEnds.{attempts_end, opened_attempts_finish, opened_attempts_reply}
use Rattle.acc_delivered.proofs.OthersAlone.{rounds_start_one, rounds_leave_others_alone}
use Rattle.acc_delivered.proofs.RoundsOwn.{rounds_send_their_own}
use Rattle.acc_delivered.proofs.Seconds.{seconds_are_not_ended}
use Rattle.acc_heal_laws.specs.Laws.{TurnedIsHealed, IsHealingWithoutDowns, HealingTurns, HealingHeals, WhoWaitsIsAnswered}
use Rattle.acc_heal_laws.proofs.StableApplied.{stable_is_applied}
use Rattle.acc_heal_laws.proofs.NoWaits.{rounds_are_not_blocked}
use Rattle.acc_heal_laws.proofs.Turns.{turned_is_healed, replied}
use Rattle.acc_heal_laws.proofs.HealingTurns.{healing_stands, TurnedAlone}

-- by the laws of delivered attempts
pub each_turned_is_healed : (cluster : Cluster) → TurnedIsHealed cluster
each_turned_is_healed cluster =
    let sent = rounds_send_their_own cluster in
    turned_is_healed cluster (rounds_are_not_blocked cluster (blocked_have_waited cluster)) (stable_is_applied cluster) (attempts_end cluster)
    (opened_attempts_finish cluster) (seconds_are_not_ended cluster sent) (rounds_start_one cluster) (rounds_leave_others_alone cluster sent)
    (applies_are_told cluster)

pub healing_heals : ((plan : Content) → IsPlan plan → IsValidCluster (cluster_of plan)) → HealingTurns → HealingHeals
healing_heals valid_of turns plan answers steps between last h =
    let t = turns plan answers steps between last h in
    each_turned_is_healed (cluster_of plan) last.own t.base (healing_stands plan answers steps between last h.is_plan (valid_of plan h.is_plan) h.healing) t.turned

-- who waits for a transaction that a turn recovers is answered
pub who_waits_is_answered : (valid_of : (plan : Content) → IsPlan plan → IsValidCluster (cluster_of plan))
    → ((plan : Content) (answers : Answers) (steps : List Step) (between last : Situation) → IsHealingWithoutDowns plan answers steps between last
    → TurnedAlone (cluster_of plan) between.own last.own) → WhoWaitsIsAnswered
who_waits_is_answered valid_of turns plan answers steps between last h x recovered client =
    let t = turns plan answers steps between last h in
    let k = t.turned in
    let cluster : Cluster = cluster_of plan in
    let sent = rounds_send_their_own cluster in
    replied cluster (rounds_are_not_blocked cluster (blocked_have_waited cluster)) (stable_is_applied cluster) (attempts_end cluster)
    (opened_attempts_finish cluster) (seconds_are_not_ended cluster sent) (rounds_start_one cluster) (rounds_leave_others_alone cluster sent)
    (applies_are_told cluster) last.own k.base (healing_stands plan answers steps between last h.is_plan (valid_of plan h.is_plan) h.healing) k.turned
    (opened_attempts_reply cluster) x between.own k.begins.later h.later k.begins.items_are h.items_are (t.none x) recovered client
