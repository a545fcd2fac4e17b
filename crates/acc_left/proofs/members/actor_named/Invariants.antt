-- No actor before this place has the name.
use Rattle.std.proofs.Common.{◌≡◌, drop, string_bytes}
use Rattle.std.specs.List.{find}
use Rattle.std.specs.Str.{bytes_eq}
use Rattle.acc_left.specs.declared.members.NamedActor.{NamedActor}
use Rattle.acc_left.proofs.members.actor_named.Given as goal

abbrev pub invariant-loop-named : goal.invariant-loop-named
invariant-loop-named l =
    find (λ (n : NamedActor). bytes_eq l.name (string_bytes n.name)) l.all
    ≡ find (λ (n : NamedActor). bytes_eq l.name (string_bytes n.name)) (drop l.named-index l.all)
