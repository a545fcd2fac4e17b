-- What a search for a byte cuts.
use Rattle.std.proofs.Common.{◌≡◌, ℕ, zero, suc, ◌+◌, ◌-◌, ◌<◌, Bool, true, false, cond, List, [], ◌∷◌, length, length-drop, take, drop, Option, Some, None, refl, sym, ap, ◌∙◌, add-one, arith}
use Rattle.std.proofs.lemmas.List.{take_all}
use Rattle.std.specs.Prelude.{option_map, ◌==◌}
use Rattle.memchr.specs.Find.{is_byte, NoneBefore, Nowhere, Passes}
use Rattle.acc_report_reader.specs.Fields.{parts_at}

abbrev onto : ℕ → List ℕ × List ℕ → List ℕ × List ℕ
onto b p = (b ∷ p.0, p.1)

-- bytes among which it isn't are not cut
pub uncut : (c : ℕ) (bytes : List ℕ) → Nowhere (Passes (is_byte c) bytes) 0 (length bytes) → parts_at c bytes ≡ None
uncut c [] nowhere = refl
uncut c (b ∷ bs) nowhere = by_test (b == c) refl (uncut c bs (λ k low high here. nowhere (suc k) (omega arith) (omega arith) here))
  where
    by_test : (t : Bool) → (b == c) ≡ t → parts_at c bs ≡ None → cond t (Some ([], bs)) (option_map (onto b) (parts_at c bs)) ≡ None
    by_test true is rest = absurd (nowhere 0 (omega arith) (omega arith) is)
    by_test false is rest = ap (option_map (onto b)) rest

cut_there : (c : ℕ) (bytes : List ℕ) (k : ℕ) → k < length bytes → Nowhere (Passes (is_byte c) bytes) 0 k → Passes (is_byte c) bytes k → parts_at c bytes ≡ Some (take k bytes, drop (suc k) bytes)
cut_there c [] k within none here = absurd (omega arith)
cut_there c (b ∷ bs) zero within none here = rw here refl
cut_there c (b ∷ bs) (suc k) within none here =
    by_test (b == c) refl (cut_there c bs k (omega arith) (λ j low high is. none (suc j) (omega arith) (omega arith) is) here)
  where
    by_test : (t : Bool) → (b == c) ≡ t → parts_at c bs ≡ Some (take k bs, drop (suc k) bs)
        → cond t (Some ([], bs)) (option_map (onto b) (parts_at c bs)) ≡ Some (b ∷ take k bs, drop (suc k) bs)
    by_test true is rest = absurd (none 0 (omega arith) (omega arith) is)
    by_test false is rest = ap (option_map (onto b)) rest

-- the others are cut where it stands first
pub cut_at : (c : ℕ) (bytes : List ℕ) (k : ℕ) → NoneBefore (Passes (is_byte c) bytes) 0 (length bytes) k → Passes (is_byte c) bytes k
    → parts_at c bytes ≡ Some (take k bytes, take (length bytes - (k + 1)) (drop (k + 1) bytes))
cut_at c bytes k first here =
    let all : take (length bytes - (k + 1)) (drop (k + 1) bytes) ≡ drop (k + 1) bytes = take_all (length bytes - (k + 1)) (drop (k + 1) bytes) (omega (arith, length-drop (k + 1) bytes)) in
    let found : parts_at c bytes ≡ Some (take k bytes, drop (k + 1) bytes) = rw add-one (cut_there c bytes k first.high first.before here) in
    found ∙ ap (λ (rest : List ℕ). Some (take k bytes, rest)) (sym all)
