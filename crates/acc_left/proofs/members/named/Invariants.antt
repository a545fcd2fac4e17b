-- The actors before this one are named.
use Rattle.std.proofs.Common.{◌≡◌, map, take, string_bytes}
use Rattle.acc_schedule.specs.Actors.{actor_text}
use Rattle.acc_left.specs.declared.members.NamedActor.{NamedActor}
use Rattle.acc_left.proofs.members.named.Given as goal

abbrev pub invariant-loop-actor : goal.invariant-loop-actor
invariant-loop-actor l = record {
  actors : map (λ (n : NamedActor). n.actor) l.all.items ≡ take l.actor-index l.actor-items;
  names : map (λ (n : NamedActor). string_bytes n.name) l.all.items ≡ map actor_text (take l.actor-index l.actor-items);
}
