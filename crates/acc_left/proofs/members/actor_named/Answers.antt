use Rattle.std.proofs.Common.{◌≡◌, true, false, sym, ap, ◌∙◌, string_bytes}
use Rattle.std.specs.Prelude.{option_map}
use Rattle.std.specs.Str.{bytes_eq}
use Rattle.acc_left.specs.declared.members.NamedActor.{NamedActor}
use Rattle.acc_left.proofs.MemberFacts.{named_here, named_later, named_never, named_same}
use Rattle.acc_left.proofs.members.actor_named.Goals as goal

pub returns-then-eq : goal.returns-then-eq
returns-then-eq c =
    let n : NamedActor = c.named-item.result in
    let is : bytes_eq c.args.name.now (string_bytes n.name) ≡ true = sym (c.if-eq.ensures ∙ ap (bytes_eq c.args.name.now) c.as_str.ensures.value) in
    let found = named_here c.args.all.now c.args.name.now c.loop-named.named-index n c.loop-named-test.true c.named-item.is c.loop-named.invariant is in
    λ actors own names. sym (ap (option_map (λ (n : NamedActor). n.actor)) found) ∙ named_same c.args.all.now actors c.args.name.now own names

pub loop-named-preserved : goal.loop-named-preserved
loop-named-preserved c =
    let n : NamedActor = c.named-item.result in
    let is : bytes_eq c.args.name.now (string_bytes n.name) ≡ false = sym (c.if-eq.ensures ∙ ap (bytes_eq c.args.name.now) c.as_str.ensures.value) in
    named_later c.args.all.now c.args.name.now c.loop-named.named-index n c.loop-named-test.true c.named-item.is c.loop-named.invariant is

pub returns : goal.returns
returns c =
    let none = named_never c.args.all.now c.args.name.now c.loop-named.named-index c.loop-named-test.false c.loop-named.invariant in
    λ actors own names. sym (ap (option_map (λ (n : NamedActor). n.actor)) none) ∙ named_same c.args.all.now actors c.args.name.now own names
