-- Objects to which a member is put, or from which one is taken.
use Rattle.std.proofs.Common.{◌≡◌, ℕ, ◌≤◌, max, Bool, true, false, cond, List, [], ◌∷◌, find, Option, Some, None, refl, sym, ap, ◌∙◌, arith}
use Rattle.std.specs.Cmp.Lexicographic.{slice_cmp}
use Rattle.std.specs.declared.cmp.Ordering.{Ordering}
use Rattle.std.specs.declared.cmp.Ordering.TheVariants.{Less, Equal, Greater}
use Rattle.std.specs.List.{AllByRecursion}
use Rattle.std.specs.Ordering.{is_eq, match_ordering, nat_cmp}
use Rattle.std.specs.Str.{bytes_eq}
use Rattle.std.proofs.lemmas.Bool.{true≢false}
use Rattle.std.proofs.lemmas.Map.Text.{is_eq-slice_cmp}
use Rattle.std.proofs.lemmas.Slice.Eq.{bytes_eq-Decides}
use Rattle.serde_json.specs.Data.{depth, member, members_depth, no_members, put, Data, Members}
use Rattle.serde_json.specs.Find.{get_member}
use Rattle.acc_schedule.specs.Apart.{members_without}
use Rattle.acc_schedule.specs.Fields.{member_names}

-- ---- names

abbrev pub AllNamed : (List ℕ → Type 0) → Members → Type 0
AllNamed P ms = AllByRecursion P (member_names ms)

put_at : (P : List ℕ → Type 0) (o : Ordering) (k l : List ℕ) (d e : Data) (ms : Members) → P k → P l → AllNamed P ms → AllNamed P (put k d ms)
    → AllNamed P (match_ordering o (member k d (member l e ms)) (member l d ms) (member l e (put k d ms)))
put_at P Less k l d e ms new old rest more = (new, (old, rest))
put_at P Equal k l d e ms new old rest more = (old, rest)
put_at P Greater k l d e ms new old rest more = (old, more)

pub put_named : (P : List ℕ → Type 0) (k : List ℕ) (d : Data) (ms : Members) → P k → AllNamed P ms → AllNamed P (put k d ms)
put_named P k d no_members new all = (new, tt)
put_named P k d (member l e ms) new all = put_at P (slice_cmp nat_cmp k l) k l d e ms new all.0 all.1 (put_named P k d ms new all.1)

without_at : (P : List ℕ → Type 0) (b : Bool) (l : List ℕ) (e : Data) (ms : Members) → (b ≡ false → P l) → AllNamed P ms → AllNamed P (cond b ms (member l e ms))
without_at P true l e ms here rest = rest
without_at P false l e ms here rest = (here refl, rest)

-- the names of what is left are other names
pub without_named : (P : List ℕ → Type 0) (apart : List ℕ) (ms : Members) → AllNamed (λ name. bytes_eq name apart ≡ false → P name) ms → AllNamed P (members_without apart ms)
without_named P apart no_members all = tt
without_named P apart (member l e ms) all = without_at P (bytes_eq l apart) l e (members_without apart ms) all.0 (without_named P apart ms all.1)

pub none_found : (p : List ℕ → Bool) (names : List (List ℕ)) → AllByRecursion (λ name. p name ≡ false) names → find p names ≡ None
none_found p [] all = refl
none_found p (name ∷ names) all = ap (λ b. cond b (Some name) (find p names)) all.0 ∙ none_found p names all.1

pub found_none : (p : List ℕ → Bool) (names : List (List ℕ)) → find p names ≡ None → AllByRecursion (λ name. p name ≡ false) names
found_none p [] e = tt
found_none p (name ∷ names) e = by (p name) refl e (found_none p names)
  where
    by : (b : Bool) → p name ≡ b → cond b (Some name) (find p names) ≡ None → (find p names ≡ None → AllByRecursion (λ n. p n ≡ false) names)
        → AllByRecursion (λ n. p n ≡ false) (name ∷ names)
    by true is h rest = absurd cc
    by false is h rest = (is, rest h)

-- ---- values

passed : (o : Ordering) (a b : Option Data) → is_eq o ≡ false → match_ordering o a b a ≡ a
passed Less a b e = refl
passed Equal a b e = absurd (true≢false e)
passed Greater a b e = refl

differ : (xs ys : List ℕ) (b : Bool) → bytes_eq xs ys ≡ b → (xs ≡ ys → ⊥) → b ≡ false
differ xs ys true e other = absurd (other ((bytes_eq-Decides xs ys).0 e))
differ xs ys false e other = refl

skips : (q k : List ℕ) (d : Data) (ms : Members) → (q ≡ k → ⊥) → get_member q (member k d ms) ≡ get_member q ms
skips q k d ms other = passed (slice_cmp nat_cmp q k) (get_member q ms) (Some d) (is_eq-slice_cmp q k ∙ differ q k (bytes_eq q k) refl other)

-- other names keep their values
pub get_without : (q apart : List ℕ) (ms : Members) → (q ≡ apart → ⊥) → get_member q (members_without apart ms) ≡ get_member q ms
get_without q apart no_members other = refl
get_without q apart (member l e ms) other = by (bytes_eq l apart) refl (get_without q apart ms other)
  where
    by : (b : Bool) → bytes_eq l apart ≡ b → get_member q (members_without apart ms) ≡ get_member q ms
        → get_member q (cond b (members_without apart ms) (member l e (members_without apart ms))) ≡ get_member q (member l e ms)
    by true is rest = rest ∙ sym (skips q l e ms (λ same. other (same ∙ (bytes_eq-Decides l apart).0 is)))
    by false is rest = ap (λ r. match_ordering (slice_cmp nat_cmp q l) r (Some e) r) rest

-- ---- depths

depth_at : (o : Ordering) (k l : List ℕ) (d e : Data) (ms : Members) → members_depth (put k d ms) ≤ max (depth d) (members_depth ms)
    → members_depth (match_ordering o (member k d (member l e ms)) (member l d ms) (member l e (put k d ms))) ≤ max (depth d) (max (depth e) (members_depth ms))
depth_at Less k l d e ms rest = omega arith
depth_at Equal k l d e ms rest = omega arith
depth_at Greater k l d e ms rest = omega (arith, rest)

pub put_depth : (k : List ℕ) (d : Data) (ms : Members) → members_depth (put k d ms) ≤ max (depth d) (members_depth ms)
put_depth k d no_members = omega arith
put_depth k d (member l e ms) = depth_at (slice_cmp nat_cmp k l) k l d e ms (put_depth k d ms)
