use Rattle.std.proofs.Common.{◌≡◌, Bool, true, false, not, ◌||◌, Some, Ordering, rules, sym, ◌∙◌, refl}
use Rattle.std.specs.declared.cmp.Ordering.TheVariants.{Less, Equal, Greater}
use Rattle.std.specs.Ordering.{is_lt, is_ge, is_some_and, ordering_then, partial_ordering_then}
use Rattle.acc_stamp.specs.Stamp.{stamp_lt, id_eq}
use Rattle.acc_actor_laws.specs.OpeningOrder.{applies_in}
use Rattle.acc_record.specs.Shelf.{record_at}
use Rattle.acc_opening.specs.Lookup.{lookup}
use Rattle.acc_opening.specs.Turns.{changes_in}
use Rattle.acc_opening.proofs.ScanFacts.{past_value, past_over}
use Rattle.acc_opening.proofs.scan.is_past.Goals as goal

last : (a b r : Bool) → a ≡ true → b ≡ false → (not a || (b || r)) ≡ r
last false b r p q = absurd cc
last true true r p q = absurd cc
last true false r p q = refl

not_ge : (a b : Ordering) → false ≡ is_some_and is_ge (partial_ordering_then (Some a) (Some b)) → is_lt (ordering_then a b) ≡ true
not_ge Less b e = refl
not_ge Equal Less e = refl
not_ge Equal Equal e = absurd cc
not_ge Equal Greater e = absurd cc
not_ge Greater b e = absurd cc

pub returns-then-is_kept_over : goal.returns-then-is_kept_over
returns-then-is_kept_over c =
    sym (past_over (id_eq c.args.id c.args.own.now.id) c.args.own.now (record_at c.args.records.now c.args.id) c.args.t
    (applies_in c.args.id (changes_in c.args.turns.now)) (sym c.is_kept_over.ensures ∙ c.if-is_kept_over.true))

pub returns : goal.returns
returns c =
    let r = c.in-Some.record.now in
    let s = c.in-Some-stable.settled in
    let there : lookup c.args.records.now c.args.own.now c.args.id ≡ Some r = search (rules, c.in-Some.ensures) in
    let less : stamp_lt s.t c.args.t ≡ true = not_ge _ _ (sym c.if-ge.false ∙ c.ge.ensures) in
    c.is_applied_at.ensures
    ∙ sym (past_value _ c.args.turns.now c.args.t c.args.id r s there c.in-Some-stable.is c.requires.times
    ∙ last (stamp_lt s.t c.args.t) r.applied _ less c.if-record.false)
