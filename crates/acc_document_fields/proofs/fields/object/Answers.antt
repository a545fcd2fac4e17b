use Rattle.std.proofs.Common.{Some, None, map, sym, subst}
use Rattle.serde_json.specs.View.{view}
use Rattle.acc_schedule.specs.Faults.{Fault, IsFault}
use Rattle.acc_document_fields.specs.Parts.{part_text}
use Rattle.acc_schedule.proofs.FieldFacts.{object_fault-found, object_fault-missing, object_fault-named}
use Rattle.acc_document_fields.proofs.fields.object.Goals as goal

pub returns-then-are_named : goal.returns-then-are_named
returns-then-are_named c = (
  object_fault-named (view c.args.value.now) _ c.args.needed.now c.args.optional.now (map part_text c.args.path.now) c.in-Some.ensures c.if-are_named.ensures,
  tt,
)

pub returns-then-not-has_each : goal.returns-then-not-has_each
returns-then-not-has_each c =
    subst (λ (f : Fault). IsFault f c.wrong-then-not-has_each.result)
    (sym (object_fault-missing (view c.args.value.now) _ c.args.needed.now c.args.optional.now (map part_text c.args.path.now) c.in-Some.ensures c.if-not-has_each.ensures)) c.wrong-then-not-has_each.ensures

pub returns-in-Some-other_field : goal.returns-in-Some-other_field
returns-in-Some-other_field c =
    subst (λ (f : Fault). IsFault f c.unknown.result)
    (sym (object_fault-found (view c.args.value.now) _ c.args.needed.now c.args.optional.now (map part_text c.args.path.now) (Some c.in-Some-other_field.name) c.in-Some.ensures c.if-not-has_each.ensures c.in-Some-other_field.ensures))
    c.unknown.ensures

pub returns-in-None : goal.returns-in-None
returns-in-None c = (
  object_fault-found (view c.args.value.now) _ c.args.needed.now c.args.optional.now (map part_text c.args.path.now) None c.in-Some.ensures c.if-not-has_each.ensures c.in-None.ensures,
  tt,
)
