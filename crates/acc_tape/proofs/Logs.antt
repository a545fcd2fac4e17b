-- Visits, after one more.
use Rattle.std.proofs.Common.{◌≡◌, ℕ, ◌+◌, ◌-◌, ◌≤◌, ◌==◌, List, [], ◌∷◌, ◌++◌, sym, ◌∙◌, arith}
use Rattle.std.proofs.lemmas.List.Sums.{sum_by_push}
use Rattle.std.proofs.lemmas.List.Elements.{filter-append}
use Rattle.acc_tape.specs.declared.view.Visit.{Visit}
use Rattle.acc_tape.specs.declared.content.Content.{Content}
use Rattle.acc_tape.specs.Turn.{held_after, visit_of}
use Rattle.acc_tape.specs.Visits.{visits_of, AreReserved, plain_visit, reserving, giving_up}
use Rattle.acc_tape.proofs.Weights.{item_of_actor}

abbrev pub whose : Visit → ℕ
whose visit = visit.actor

-- the seat's own visits are those of its actor
pub own_more : (actor : ℕ) (log own : List Visit) (visit : Visit) → visit.actor ≡ actor → own ≡ visits_of actor log → own ++ visit ∷ [] ≡ visits_of actor (log ++ visit ∷ [])
own_more actor log own visit is same = (λ i. same i ++ sym (item_of_actor whose actor visit is) i) ∙ sym (filter-append (λ x. whose x == actor) log (visit ∷ []))

reserved_more : (log : List Visit) (visit : Visit) (r w r' w' : ℕ) → AreReserved log r w → r + visit.items ≡ r' + visit.items_back → w + visit.weight ≡ w' + visit.weight_back → AreReserved (log ++ visit ∷ []) r' w'
reserved_more log visit r w r' w' is count bytes = record {
  items_are = (let a = sum_by_push (λ (x : Visit). x.items) log visit in let b = sum_by_push (λ (x : Visit). x.items_back) log visit in let i = is.items_are in omega arith);
  weight_is = (let a = sum_by_push (λ (x : Visit). x.weight) log visit in let b = sum_by_push (λ (x : Visit). x.weight_back) log visit in let i = is.weight_is in omega arith);
}

module _ {E : Type 0} (actor : ℕ) (log : List Visit) (before now : Content E) where
  -- what is reserved for all, after a turn that leaves this in the slot
  pub all_more : AreReserved log before.reserved before.reserved_weight → AreReserved (log ++ visit_of actor before now ∷ []) now.reserved now.reserved_weight
  all_more is = reserved_more log (visit_of actor before now) before.reserved before.reserved_weight now.reserved now.reserved_weight is
      (let e : before.reserved + (now.reserved - before.reserved) ≡ now.reserved + (before.reserved - now.reserved) = omega arith in e)
      (let e : before.reserved_weight + (now.reserved_weight - before.reserved_weight) ≡ now.reserved_weight + (before.reserved_weight - now.reserved_weight) = omega arith in e)

  -- and for the seat
  pub holds_more : (held weight : ℕ) → before.reserved ≤ held + now.reserved → before.reserved_weight ≤ weight + now.reserved_weight → AreReserved log held weight
      → AreReserved (log ++ visit_of actor before now ∷ []) (held_after held before.reserved now.reserved) (held_after weight before.reserved_weight now.reserved_weight)
  holds_more held weight low low' is =
      reserved_more log (visit_of actor before now) held weight (held_after held before.reserved now.reserved) (held_after weight before.reserved_weight now.reserved_weight) is
      (let e : held + (now.reserved - before.reserved) ≡ held + now.reserved - before.reserved + (before.reserved - now.reserved) = omega arith in e)
      (let e : weight + (now.reserved_weight - before.reserved_weight) ≡ weight + now.reserved_weight - before.reserved_weight + (before.reserved_weight - now.reserved_weight) = omega arith in e)

-- ---- what a visit was

visit_is : {E : Type 0} (actor : ℕ) (before now : Content E) (i w j u : ℕ) → now.reserved - before.reserved ≡ i → now.reserved_weight - before.reserved_weight ≡ w → before.reserved - now.reserved ≡ j → before.reserved_weight - now.reserved_weight ≡ u
    → visit_of actor before now ≡ record { actor = actor; items = i; weight = w; items_back = j; weight_back = u }
visit_is actor before now i w j u a b c d = λ k. record { actor = actor; items = a k; weight = b k; items_back = c k; weight_back = d k }

module _ {E : Type 0} (actor : ℕ) (before now : Content E) where
  pub plain_is : now.reserved ≡ before.reserved → now.reserved_weight ≡ before.reserved_weight → visit_of actor before now ≡ plain_visit actor
  plain_is r s = visit_is actor before now 0 0 0 0 (omega arith) (omega arith) (omega arith) (omega arith)

  pub reserving_is : (k w : ℕ) → now.reserved ≡ before.reserved + k → now.reserved_weight ≡ before.reserved_weight + w → visit_of actor before now ≡ reserving actor k w
  reserving_is k w r s = visit_is actor before now k w 0 0 (omega arith) (omega arith) (omega arith) (omega arith)

  pub giving_up_is : (k w : ℕ) → k ≤ before.reserved → w ≤ before.reserved_weight → now.reserved ≡ before.reserved - k → now.reserved_weight ≡ before.reserved_weight - w → visit_of actor before now ≡ giving_up actor k w
  giving_up_is k w low low' r s = visit_is actor before now 0 0 k w (omega arith) (omega arith) (omega arith) (omega arith)
