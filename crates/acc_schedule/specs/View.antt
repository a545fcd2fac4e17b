-- A plan as contracts see it.
use Rattle.acc_schedule.specs.declared.plan.Plan.TheInside.{Inside}
use Rattle.acc_schedule.specs.Content.{Content}

abbrev pub content : Inside → Content
content p = record {
  version = p.version;
  topology = p.topology;
  starts = p.starts;
  names = p.names;
  homes = p.homes;
  bodies = p.bodies;
  steps = p.steps;
  print = p.print;
}
