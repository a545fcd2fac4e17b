use Rattle.acc_schedule_runs.specs.Schedules.{cluster_of}
use Rattle.acc_left_laws.proofs.Downs.{further_downs, known_down, more_downs, obeyed_downs}
use Rattle.acc_left_laws.proofs.joining.only_actors_of_plans_go_down.Goals as goal

pub returns-clause-schedule : goal.returns-clause-schedule
returns-clause-schedule c = λ plan answers items is obeys. obeyed_downs plan answers is (c.plans_are_valid.ensures plan is) items obeys

pub returns-clause-schedule_and_more : goal.returns-clause-schedule_and_more
returns-clause-schedule_and_more c = λ plan answers steps between last is follows on known.
    further_downs plan answers is (c.plans_are_valid.ensures plan is) steps between last follows on known

pub returns-clause-more : goal.returns-clause-more
returns-clause-more c = λ plan answers number steps before last is fine follows run known.
    more_downs plan answers is (c.plans_are_valid.ensures plan is) number steps before last fine follows run known

pub returns-clause-strictly : goal.returns-clause-strictly
returns-clause-strictly c = λ plan number steps before last is fine follows run known.
    let answered = c.strict_disks_give_answers.ensures.follows (cluster_of plan) number steps before last follows in
    more_downs plan answered.0 is (c.plans_are_valid.ensures plan is) number steps before.found last.found fine answered.1 run known

pub returns-clause-free : goal.returns-clause-free
returns-clause-free c = λ plan items free. known_down plan.topology items free.known
