use Rattle.std.proofs.Common.{map, sym, ap, subst, ◌∙◌, arith}
use Rattle.serde_json.specs.View.{view}
use Rattle.acc_schedule.specs.Faults.{Fault, IsFault}
use Rattle.acc_schedule.specs.Parts.{part_text}
use Rattle.acc_schedule.specs.Shards.{id_of}
use Rattle.acc_schedule.proofs.ShardFacts.{items-elements, ids-few, ids-many, ids-not_whole}
use Rattle.acc_schedule.proofs.shards.ids.Goals as goal

pub returns-then-not-are_whole : goal.returns-then-not-are_whole
returns-then-not-are_whole c =
    subst (λ (f : Fault). IsFault f c.wrong-then-not-are_whole.result)
    (sym (ids-not_whole (map part_text c.args.path.now) (view c.args.value.now) c.in-Some.items.now c.in-Some.ensures c.if-not-are_whole.ensures)) c.wrong-then-not-are_whole.ensures

pub returns-then-items-gt-MOST_IDS : goal.returns-then-items-gt-MOST_IDS
returns-then-items-gt-MOST_IDS c =
    subst (λ (f : Fault). IsFault f c.wrong-then-items-gt-MOST_IDS.result)
    (sym (ids-many (map part_text c.args.path.now) (view c.args.value.now) c.in-Some.items.now c.in-Some.ensures c.if-not-are_whole.ensures (omega arith)))
    c.wrong-then-items-gt-MOST_IDS.ensures

pub returns : goal.returns
returns c = (
  ids-few (map part_text c.args.path.now) (view c.args.value.now) c.in-Some.items.now c.in-Some.ensures c.if-not-are_whole.ensures (omega arith),
  c.in_ok-ids_in.ensures ∙ ap (map id_of) (items-elements (view c.args.value.now) c.in-Some.items.now c.in-Some.ensures),
)
