-- Sets of actors by their keys: those that steps arm, and those of a topology, rising.
use Rattle.std.proofs.Common.{◌≡◌, ℕ, ◌+◌, ◌<◌, Bool, true, false, ◌||◌, List, [], ◌∷◌, ◌++◌, length, take, get_or, refl, sym, ◌∙◌, ap, subst, arith}
use Rattle.std.specs.Ordering.{is_eq}
use Rattle.std.specs.BTreeSet.{insert_key}
use Rattle.std.proofs.lemmas.Bool.Decides.{nat_tests}
use Rattle.std.proofs.lemmas.List.{take_more}
use Rattle.acc_stamp.specs.declared.actors.Actor.{Actor}
use Rattle.acc_stamp.specs.Actor.{actor_cmp}
use Rattle.acc_stamp.specs.Order.{IsStrictTotalOrder}
use Rattle.acc_stamp.specs.Rising.{IsRisingBy, is_among, rising_with, rising_union}
use Rattle.acc_stamp.proofs.Order.{number_order}
use Rattle.acc_stamp.proofs.Rising.{IsRisingBy-with, IsRisingBy-union, is_among-with, is_among-union, same_from_among}
use Rattle.acc_message.specs.Items.{same_actor}
use Rattle.acc_heal_laws.specs.Stages.{actor_lt}

pub armed_at : (a b : Actor) → is_eq (actor_cmp a b) ≡ same_actor a b
armed_at a b = grind (arith, nat_tests)

same_number : (a b : Actor) → a.0 ≡ b.0 → a ≡ b
same_number a b p = λ i. record { 0 = p i }

actor_order : IsStrictTotalOrder actor_lt same_actor
actor_order =
    record {
      irrefl = λ a. number_order.irrefl a.0;
      trans = λ a b c. number_order.trans a.0 b.0 c.0;
      connected = λ a b h k. same_number a b (number_order.connected a.0 b.0 h k);
      decides = λ a b. (λ same. same_number a b ((number_order.decides a.0 b.0).0 same), λ is. (number_order.decides a.0 b.0).1 (ap (λ (k : Actor). k.0) is));
    }

-- an insertion puts a key where it rises
pub inserted : (keys : List Actor) (a : Actor) → insert_key actor_cmp keys a ≡ rising_with actor_lt a keys
inserted [] a = refl
inserted (x ∷ keys) a = grind (arith, nat_tests, inserted keys a)

-- the keys of the actors so far
pub record AreEntered (keys listed : List Actor) : Type 0 where
  pub rising : IsRisingBy actor_lt keys
  pub among : (a : Actor) → is_among same_actor a keys ≡ is_among same_actor a listed

pub none_entered : AreEntered [] []
none_entered = record { rising = tt; among = λ a. refl }

pub one_entered : (keys listed : List Actor) (a : Actor) → AreEntered keys listed → AreEntered (insert_key actor_cmp keys a) (listed ++ a ∷ [])
one_entered keys listed a e =
    subst (λ l. AreEntered l (listed ++ a ∷ [])) (sym (inserted keys a))
    (record {
      rising = IsRisingBy-with actor_order a keys e.rising;
      among = λ b. is_among-with actor_order b a keys ∙ ap (λ o. same_actor a b || o) (e.among b) ∙ sym (last b listed);
    })
  where
    last : (b : Actor) (xs : List Actor) → is_among same_actor b (xs ++ a ∷ []) ≡ (same_actor a b || is_among same_actor b xs)
    last b [] = refl
    last b (x ∷ xs) = ap (λ o. same_actor x b || o) (last b xs) ∙ swap (same_actor x b) (same_actor a b) (is_among same_actor b xs)
      where
        swap : (o p q : Bool) → (o || (p || q)) ≡ (p || (o || q))
        swap true true q = refl
        swap true false q = refl
        swap false p q = refl

pub all_entered : (keys actors : List Actor) → AreEntered keys actors → keys ≡ rising_union actor_lt [] actors
all_entered keys actors e =
    same_from_among actor_order keys (rising_union actor_lt [] actors) e.rising (IsRisingBy-union actor_order [] actors tt)
    (λ a. e.among a ∙ sym (is_among-union actor_order a [] actors))

pub next_entered : (keys new listed : List Actor) (place : ℕ) (d : Actor) → place < length listed → new ≡ insert_key actor_cmp keys (get_or listed place d)
    → AreEntered keys (take place listed) → AreEntered new (take (place + 1) listed)
next_entered keys new listed place d within is e =
    let a = get_or listed place d in
    subst (λ l. AreEntered l (take (place + 1) listed)) (sym is)
    (subst (AreEntered (insert_key actor_cmp keys a)) (sym (take_more listed place d within)) (one_entered keys (take place listed) a e))
