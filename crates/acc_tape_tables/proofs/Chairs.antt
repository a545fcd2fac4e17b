-- Chairs in a list.
use Rattle.std.proofs.Common.{◌≡◌, ℕ, List, [], ◌∷◌, ◌++◌, length, slice_set, All, sym, ap, ◌∙◌, arith, length-append}
use Rattle.std.proofs.lemmas.List.{append_assoc}
use Rattle.std.proofs.lemmas.List.Elements.{All-set}
use Rattle.acc_tape.specs.Seats.{TapeName}
use Rattle.acc_tape.proofs.Visits.{of_next}
use Rattle.acc_tape_tables.specs.declared.chair.Chair.{Chair}
use Rattle.acc_tape_tables.specs.declared.threads.Worked.{Worked}
use Rattle.acc_tape_tables.specs.Halls.{IsChair}

-- ---- chairs in a list

pub chairs_written : (tape : TapeName) (xs : List Chair) (i : ℕ) (a : Chair) → IsChair tape a → All (IsChair tape) xs → All (IsChair tape) (slice_set xs i a)
chairs_written tape xs i a is all = All-set (IsChair tape) xs i a is all

pub next_chair : (tape : TapeName) (all before left after : List Chair) (x : Chair) → before ++ left ≡ all → left ≡ x ∷ after
    → All (IsChair tape) all → IsChair tape x
next_chair tape all before left after x is next holds = of_next (IsChair tape) all before left after x is next holds

pub next_worked : (tape : TapeName) (all before left after : List Worked) (x : Worked) → before ++ left ≡ all → left ≡ x ∷ after
    → All (λ work. IsChair tape work.chair) all → IsChair tape x.chair
next_worked tape all before left after x is next holds = of_next (λ work. IsChair tape work.chair) all before left after x is next holds

pub rest_behind : {X : Type 0} (before left after all : List X) (x : X) → before ++ left ≡ all → left ≡ x ∷ after → before ++ x ∷ [] ++ after ≡ all
rest_behind before left after all x is next = append_assoc before (x ∷ []) after ∙ ap (λ list. before ++ list) (sym next) ∙ is

pub count_behind : {X Y : Type 0} (new xs : List Y) (ys : List X) (y : Y) (x : X) → new ≡ xs ++ y ∷ [] → length xs ≡ length ys → length new ≡ length (ys ++ x ∷ [])
count_behind new xs ys y x e h =
    let a = ap length e ∙ length-append xs (y ∷ []) in
    let b = length-append ys (x ∷ []) in
    omega arith
