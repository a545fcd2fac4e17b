-- The oldest items of a run are a past of it, and each past is so many of its oldest items.
use Rattle.std.proofs.Common.{◌≡◌, ℕ, zero, suc, ◌+◌, ◌-◌, ◌≤◌, length, drop, List, [], ◌∷◌, ◌++◌, ◌∙◌, ap, arith}
use Rattle.std.proofs.lemmas.List.{length-drop, length-append}
use Rattle.std.proofs.Math.Seq.{drop-append-add}
use Rattle.acc_message.specs.declared.item.Item.{Item}
use Rattle.acc_safety.specs.Places.{IsPast, Whole, Behind}
use Rattle.acc_glance_laws.specs.SerialCells.{oldest}

past_of_all : {T : Type 0} (k : ℕ) (xs : List T) → IsPast (drop k xs) xs
past_of_all zero xs = Whole xs
past_of_all (suc k) [] = Whole []
past_of_all (suc k) (x ∷ xs) = Behind x (drop k xs) xs (past_of_all k xs)

past_of_more : {T : Type 0} (j k : ℕ) (xs : List T) → j ≤ k → IsPast (drop k xs) (drop j xs)
past_of_more zero k xs le = past_of_all k xs
past_of_more (suc j) zero xs le = absurd (omega arith)
past_of_more (suc j) (suc k) [] le = Whole []
past_of_more (suc j) (suc k) (x ∷ xs) le = past_of_more j k xs (omega arith)

pub oldest_is_past : (n : ℕ) (items : List Item) → IsPast (oldest n items) items
oldest_is_past n items = past_of_all (length items - n) items

pub oldest_past : (n m : ℕ) (items : List Item) → n ≤ m → IsPast (oldest n items) (oldest m items)
oldest_past n m items le = past_of_more (length items - m) (length items - n) items (omega arith)

pub length_oldest : (n : ℕ) (items : List Item) → n ≤ length items → length (oldest n items) ≡ n
length_oldest n items le = length-drop (length items - n) items ∙ back (length items) le
  where
    back : (m : ℕ) → n ≤ m → m - (m - n) ≡ n
    back m h = omega arith

pub past_length : {T : Type 0} (past items : List T) → IsPast past items → length past ≤ length items
past_length past items (Whole xs) = omega arith
past_length past items (Behind x p xs there) =
    let rest = past_length p xs there in omega arith

pub past_is_oldest : (past items : List Item) → IsPast past items → oldest (length past) items ≡ past
past_is_oldest past items (Whole xs) = ap (λ k. drop k xs) (none (length xs))
  where
    none : (n : ℕ) → n - n ≡ 0
    none n = omega arith
past_is_oldest past items (Behind x p xs there) =
    ap (λ k. drop k (x ∷ xs)) (one_more (length xs) (length p) (past_length p xs there)) ∙ past_is_oldest p xs there
  where
    one_more : (m n : ℕ) → n ≤ m → suc m - n ≡ suc (m - n)
    one_more m n h = omega arith

-- ---- a run that goes on

pub oldest_stays : (more items : List Item) (n : ℕ) → n ≤ length items → oldest n (more ++ items) ≡ oldest n items
oldest_stays more items n le =
    ap (λ k. drop k (more ++ items)) (ap (λ m. m - n) (length-append more items) ∙ later (length more) (length items) le)
    ∙ drop-append-add more items (length items - n)
  where
    later : (a b : ℕ) → n ≤ b → (a + b) - n ≡ a + (b - n)
    later a b h = omega arith

pub all_are_oldest : (items : List Item) → oldest (length items) items ≡ items
all_are_oldest items = past_is_oldest items items (Whole items)
