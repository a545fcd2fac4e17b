-- Desks that come back from one worker more.
use Rattle.std.proofs.Common.{◌≡◌, Bool, false, List, [], ◌∷◌, ◌++◌, map, Result, Ok, Err, sym, ◌∙◌, ap, subst}
use Rattle.std.specs.Prelude.{All, IfOk, IsOk, Vec}
use Rattle.std.specs.List.{AllByRecursion}
use Rattle.std.proofs.lemmas.Bool.{true≢false}
use Rattle.std.proofs.lemmas.List.{map-append}
use Rattle.std.proofs.lemmas.List.Elements.{All-append, All-from_recursion, recursion_from_All}
use Rattle.acc_ports.specs.declared.disk.Disk.{Ghosts}
use Rattle.acc_schedule.specs.Content.{Content}
use Rattle.acc_tape.specs.Seats.{TapeName}
use Rattle.acc_desk.specs.declared.desk.Desk.{Desk}
use Rattle.acc_desk.specs.declared.serving.Served.{Served}
use Rattle.acc_desk.specs.Desks.{run_with, IsSound, AreSound, name_of, state_of}
use Rattle.acc_free.specs.Dealing.{all_in}
use Rattle.acc_free.specs.Workers.{KeepsSound}
use Rattle.acc_free.proofs.Hands.{all_in_more}

-- ---- both parts of a list

front_part : {X : Type 0} (P : X → Type 0) (xs ys : List X) → AllByRecursion P (xs ++ ys) → AllByRecursion P xs
front_part P [] ys h = tt
front_part P (x ∷ xs) ys h = (h.0, front_part P xs ys h.1)

back_part : {X : Type 0} (P : X → Type 0) (xs ys : List X) → AllByRecursion P (xs ++ ys) → AllByRecursion P ys
back_part P [] ys h = h
back_part P (x ∷ xs) ys h = back_part P xs ys h.1

module _ {X A : Type 0} (P : X → Type 0) (hands others : List (Vec X A)) (hand : Vec X A) (is : hands ≡ others ++ hand ∷ []) (all : All P (all_in hands)) where
  each_split : AllByRecursion P (all_in others ++ hand.items)
  each_split =
      subst (AllByRecursion P) (all_in_more others hand)
      (subst (λ (l : List (Vec X A)). AllByRecursion P (all_in l)) is (recursion_from_All P (all_in hands) all))

  -- those of the other hands, and those of the last one
  pub others_all : All P (all_in others)
  others_all = All-from_recursion P (all_in others) (front_part P (all_in others) hand.items each_split)

  pub last_all : All P hand.items
  last_all = All-from_recursion P hand.items (back_part P (all_in others) hand.items each_split)

-- ---- joined again

pub names_joined : {D J A : Type 0} (hands others : List (Vec (Desk D J) A)) (hand : Vec (Desk D J) A) (first more all : List (Desk D J)) → hands ≡ others ++ hand ∷ []
    → map name_of first ≡ map name_of (all_in others) → map name_of more ≡ map name_of hand.items → all ≡ first ++ more → map name_of all ≡ map name_of (all_in hands)
names_joined {D = D} {J = J} {A = A} hands others hand first more all is before last joined =
    ap (map name_of) joined ∙ map-append name_of first more ∙ (λ i. before i ++ last i) ∙ sym (map-append name_of (all_in others) hand.items)
    ∙ ap (map name_of) (sym (all_in_more others hand)) ∙ ap (λ (l : List (Vec (Desk D J) A)). map name_of (all_in l)) (sym is)

pub all_joined : {X : Type 0} (P : X → Type 0) (first more all : List X) → all ≡ first ++ more → All P first → All P more → All P all
all_joined P first more all is one two = subst (All P) (sym is) (All-append P first more one two)

-- what follows where both came back
pub both_ok : {X E : Type 0} (result served : Result X E) (Q : X → X → Type 0) (P R : X → Type 0) → IfOk result (λ all. IfOk served (λ first. Q first all)) → IfOk result (λ all. IsOk served)
    → IfOk served P → ((first all : X) → Q first all → P first → R all) → IfOk result R
both_ok (Ok all) (Ok first) Q P R joined ok p f = f first all joined p
both_ok (Ok all) (Err e) Q P R joined ok p f = absurd (true≢false (sym ok))
both_ok (Err e) served Q P R joined ok p f = tt

-- ---- sound desks

module _ {D J : Type 0} (port : Ghosts D) (strict_run : Bool) (plan : Content) (tape : TapeName) where
  abbrev pub Sound : Desk D J → Type 0
  Sound desk = IsSound port (run_with strict_run plan tape) (state_of desk)

  abbrev AllSound : List (Desk D J) → Type 0
  AllSound desks = AreSound port strict_run plan tape desks

  module _ {A : Type 0} (hands others : List (Vec (Desk D J) A)) (hand : Vec (Desk D J) A) (is : hands ≡ others ++ hand ∷ []) where
    pub others_sound : AllSound (all_in hands) → AllSound (all_in others)
    others_sound all = others_all Sound hands others hand is all

    pub last_sound : AllSound (all_in hands) → AllSound hand.items
    last_sound all = last_all Sound hands others hand is all

    module _ {E : Type 0} (result served : Result (Vec (Desk D J) A) E) (more : Served D J) (kept : KeepsSound port strict_run plan tape hand.items more)
        (joined : IfOk result (λ all. IfOk served (λ first. (more.refused ≡ false) × (all.items ≡ first.items ++ more.desks.items)))) (both : IfOk result (λ all. IsOk served)) where
      pub same_back : IfOk served (λ first. map name_of first.items ≡ map name_of (all_in others)) → IfOk result (λ all. map name_of all.items ≡ map name_of (all_in hands))
      same_back before =
          both_ok result served (λ first all. (more.refused ≡ false) × (all.items ≡ first.items ++ more.desks.items)) (λ first. map name_of first.items ≡ map name_of (all_in others))
          (λ all. map name_of all.items ≡ map name_of (all_in hands)) joined both before
          (λ first all came one. names_joined hands others hand first.items more.desks.items all.items is one kept.same came.1)

      pub sound_back : IfOk served (λ first. AllSound first.items) → IfOk result (λ all. AllSound all.items)
      sound_back before =
          both_ok result served (λ first all. (more.refused ≡ false) × (all.items ≡ first.items ++ more.desks.items)) (λ first. AllSound first.items) (λ all. AllSound all.items) joined both before
          (λ first all came one. all_joined Sound first.items more.desks.items all.items came.1 one (kept.sound came.0))
