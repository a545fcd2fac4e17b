-- The outcome of a body depends on the cells of the keys that it reads, and on no others.
use Rattle.std.proofs.Common.{◌≡◌, Bool, true, false, ◌||◌, List, [], ◌∷◌, ◌++◌, map, Option, refl, ap, ◌∙◌}
use Rattle.acc_value.specs.declared.value.Value.{Value}
use Rattle.std.specs.List.{list_any}
use Rattle.acc_value.specs.declared.key.Key.{Key}
use Rattle.acc_value.specs.Key.{key_eq}
use Rattle.acc_value.proofs.KeyOrder.{key_eq-refl}
use Rattle.acc_txn.specs.declared.parts.Let.{Let}
use Rattle.acc_txn.specs.declared.parts.Select.{Select}
use Rattle.acc_txn.specs.declared.parts.Select.TheVariants.{Nothing, Names, Get}
use Rattle.acc_txn.specs.declared.parts.BodyParts.{BodyParts}
use Rattle.acc_txn.specs.Uses.{selected_keys, is_read}
use Rattle.acc_txn.specs.Meaning.{bound_cells, selected, decided, all_hold, writes_of, outcome_with, outcome_of}

left_or : (a b : Bool) → a ≡ true → (a || b) ≡ true
left_or true b h = refl
left_or false b h = cc

right_or : (a b : Bool) → b ≡ true → (a || b) ≡ true
right_or true b h = refl
right_or false b h = h

any_right : {X : Type 0} (p : X → Bool) (xs ys : List X) → list_any p ys ≡ true → list_any p (xs ++ ys) ≡ true
any_right p [] ys h = h
any_right p (x ∷ xs) ys h = right_or (p x) _ (any_right p xs ys h)

module _ (f g : Key → Option Value) where
  -- LETs are bound alike
  bound_alike : (lets : List Let) (more : List Key) → ((key : Key) → list_any (key_eq key) (map (λ l. l.key) lets ++ more) ≡ true → f key ≡ g key) → bound_cells lets f ≡ bound_cells lets g
  bound_alike [] more agree = refl
  bound_alike (l ∷ lets) more agree =
      let first : f l.key ≡ g l.key = agree l.key (left_or _ _ (key_eq-refl l.key)) in
      λ i. first i ∷ bound_alike lets more (λ key among. agree key (right_or (key_eq key l.key) _ among)) i

  -- a select sees alike
  selected_alike : (bound : List (Option Value)) (select : Select) → ((key : Key) → list_any (key_eq key) (selected_keys select) ≡ true → f key ≡ g key) → selected bound f select ≡ selected bound g select
  selected_alike bound Nothing agree = refl
  selected_alike bound (Names names) agree = refl
  selected_alike bound (Get key) agree = λ i. agree key (left_or _ _ (key_eq-refl key)) i ∷ []

  pub outcome_of-agree : (parts : BodyParts) → ((key : Key) → is_read parts key ≡ true → f key ≡ g key) → outcome_of parts f ≡ outcome_of parts g
  outcome_of-agree parts agree =
      let bound = bound_alike parts.lets (selected_keys parts.select) agree in
      let values = selected_alike (bound_cells parts.lets g) parts.select
      (λ key among. agree key (any_right (key_eq key) (map (λ l. l.key) parts.lets) (selected_keys parts.select) among)) in
      ap (λ cells. outcome_with cells parts f) bound
      ∙ ap (λ cells. decided cells (all_hold (bound_cells parts.lets g) parts.guards) (writes_of (bound_cells parts.lets g) parts.updates)) values
