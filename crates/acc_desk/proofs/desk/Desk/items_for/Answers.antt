use Rattle.std.proofs.Common.{◌≡◌, List, [], ◌∷◌, ◌++◌, length, map, refl, sym, ◌∙◌, ap, arith, length-append}
use Rattle.std.specs.Vec.Iter.{into_iter_items}
use Rattle.std.proofs.lemmas.List.{append-nil, append_assoc}
use Rattle.acc_payloads.specs.declared.stops.Unsent.{Unsent}
use Rattle.acc_message.specs.declared.item.Item.{Item}
use Rattle.acc_desk.specs.Groups.{item_of_unsent}
use Rattle.acc_desk.proofs.desk.Desk.items_for.Goals as goal

empty_is : {X : Type 0} (l : List X) → length l ≡ 0 → l ≡ []
empty_is [] none = refl
empty_is (x ∷ l) none = absurd (omega (arith, none))

pub loop-one-preserved : goal.loop-one-preserved
loop-one-preserved g c =
    let a = c.args.self.now.actor in
    let items = c.loop-one.items.items in
    let later = map (item_of_unsent a) (into_iter_items c.next.new.self) in
    record {
      can_next = tt;
      is_finite = tt;
      made =
          ap (λ (l : List Item). l ++ later) c.push_reserved.ensures.items
          ∙ append_assoc items (c.item_for.result ∷ []) later
          ∙ ap (λ (item : Item). items ++ item ∷ later) c.item_for.ensures
          ∙ sym (ap (λ (l : List Unsent). items ++ map (item_of_unsent a) l) c.in-Some.ensures.steps.0)
          ∙ c.loop-one.invariant.made;
      capacity = c.push_reserved.ensures.capacity ∙ c.loop-one.invariant.capacity;
      room =
          (let r = c.loop-one.invariant.room in
          let n = ap (λ (l : List Unsent). length l) c.in-Some.ensures.steps.0 in
          let m = ap (λ (l : List Item). length l) c.push_reserved.ensures.items in
          let k = length-append items (c.item_for.result ∷ []) in
          omega arith);
    }

pub push_reserved-requires : goal.push_reserved-requires
push_reserved-requires g c =
    let r = c.loop-one.invariant.room in
    let n = ap (λ (l : List Unsent). length l) c.in-Some.ensures.steps.0 in
    let k = c.loop-one.invariant.capacity in
    omega arith

pub returns : goal.returns
returns g c =
    let a = c.args.self.now.actor in
    let items = c.loop-one.items.items in
    let left = c.loop-one.one-iterator in
    let none = empty_is (into_iter_items left) (sym left.rest.ok.0 ∙ c.in-None.ensures.steps.0) in
    sym (append-nil items)
    ∙ sym (ap (λ (l : List Unsent). items ++ map (item_of_unsent a) l) none)
    ∙ c.loop-one.invariant.made
