use Rattle.std.proofs.Common.{Ok, ◌≡◌, ◌+◌, length, arith, length-append, refl, ap}
use Rattle.acc_wire.specs.Spelling.{text_bytes}
use Rattle.acc_wire.proofs.Fields.{AreBytes-append_right, text_field, field_only_by, length-text_bytes}
use Rattle.acc_wire.proofs.Texts.{text_at_cut, text_passes}
use Rattle.acc_wire.proofs.reader.Reader.take_text.Goals as goal

pub returns-in_default-clause-exact : goal.returns-in_default-clause-exact
returns-in_default-clause-exact c =
    rw (c.short.ensures, ← c.self.view_is) (text_at_cut _ c.self.invariant.1 c.in_default.ensures.cut, refl)

pub overflow_add-self-2 : goal.overflow_add-self-2
overflow_add-self-2 c = omega (arith, c.self.invariant.0, ap length c.in-Some.ensures.whole.1, length-append (text_bytes c.in-Some.text.now) c.in-Some.rest.now, length-text_bytes c.in-Some.text.now)

pub returns-clause-found : goal.returns-clause-found
returns-clause-found c = text_passes c.args.self.now c.self.inside.ahead.now c.in-Some.text.now c.in-Some.rest.now c.self.inside.place c.self.view_is c.in-Some.ensures.whole.1

pub returns-clause-exact : goal.returns-clause-exact
returns-clause-exact c = text_field.again _ _ _ c.in-Some.ensures.whole.0 (returns-clause-found c)

pub returns-clause-only : goal.returns-clause-only
returns-clause-only c = field_only_by text_field (λ text. text) (Ok c.in-Some.text.now) _ _ (returns-clause-exact c)

pub invariant_of-self : goal.invariant_of-self
invariant_of-self c =
    let lengths : length c.self.inside.ahead.now ≡ length c.in-Some.text.now + 1 + length c.in-Some.rest.now = omega (arith, ap length c.in-Some.ensures.whole.1, length-append (text_bytes c.in-Some.text.now) c.in-Some.rest.now, length-text_bytes c.in-Some.text.now) in
    (omega (arith, c.self.invariant.0), AreBytes-append_right (text_bytes c.in-Some.text.now) _ (rw c.in-Some.ensures.whole.1 at c.self.invariant.1))
