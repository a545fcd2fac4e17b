-- The transactions that use a key: going through them, and one more.
use Rattle.std.proofs.Common.{◌≡◌, ℕ, zero, suc, ◌+◌, ◌<◌, ◌≤◌, ◌==◌, List, [], ◌∷◌, ◌++◌, length, take, get_or, Bool, true, false, not, ◌&&◌, ◌||◌, cond, Option, Some, None, is_some, refl, sym, ap, ap₂, ◌∙◌, arith}
use Rattle.std.specs.List.{list_any, list_all}
use Rattle.std.proofs.lemmas.Bool.{true≢false}
use Rattle.std.proofs.lemmas.List.Folds.{list_any-append, list_any_more, list_all-append}
use Rattle.acc_stamp.specs.declared.stamps.Stamp.{Stamp}
use Rattle.acc_stamp.specs.Stamp.{stamp_lt}
use Rattle.acc_stamp.proofs.Order.{stamp_order, le-trans}
use Rattle.acc_value.specs.declared.key.Key.{Key}
use Rattle.acc_value.specs.Key.{key_eq}
use Rattle.std.proofs.Math.ListN.{get_or-eq_default}
use Rattle.acc_txn.specs.declared.parts.BodyParts.{BodyParts}
use Rattle.acc_txn.specs.Uses.{footprint_of}
use Rattle.acc_audit.specs.Fronts.{no_body}
use Rattle.acc_audit.specs.declared.users.Users.{Users}
use Rattle.acc_audit.specs.Users.{Map, chosen, users_at, has_mark, is_lacking, rises, touches, NoneAbove, AreUsers, uses_at}

Entry : Type 0
Entry = Stamp × ℕ

pub both_false : (a b : Bool) → (a || b) ≡ false → (a ≡ false) × (b ≡ false)
both_false false b h = (refl, h)
both_false true b h = absurd (true≢false h)

pub both_true : (a b : Bool) → (a && b) ≡ true → (a ≡ true) × (b ≡ true)
both_true true b h = (refl, h)
both_true false b h = absurd (true≢false (sym h))

not_true : (a : Bool) → not a ≡ true → a ≡ false
not_true true h = absurd (true≢false (sym h))
not_true false h = refl

-- ---- lists that rise

-- none of the entries after one that is not below the timestamp is
none_after : (number : ℕ) (t : Stamp) (marks : List ℕ) (mark : ℕ) (u : Stamp) (entries : List (Stamp × ℕ)) → list_all (λ other. not (stamp_lt other.0 u)) entries ≡ true → stamp_lt u t ≡ false
    → list_any (is_lacking number t marks mark) entries ≡ false
none_after number t marks mark u [] above far = refl
none_after number t marks mark u (e ∷ es) above far =
    let parts = both_true (not (stamp_lt e.0 u)) (list_all (λ other. not (stamp_lt other.0 u)) es) above in
    let here : stamp_lt e.0 t ≡ false = le-trans stamp_order t u e.0 far (not_true (stamp_lt e.0 u) parts.0) in
    ap (λ b. (b && not (e.1 == number) && not (has_mark marks e.1 mark)) || list_any (is_lacking number t marks mark) es) here ∙ none_after number t marks mark u es parts.1 far

pub walk_ends : (number : ℕ) (t : Stamp) (marks : List ℕ) (mark : ℕ) (entries : List (Stamp × ℕ)) (i : ℕ) (d : Stamp × ℕ) → rises entries ≡ true → i < length entries → stamp_lt (get_or entries i d).0 t ≡ false
    → list_any (is_lacking number t marks mark) (take i entries) ≡ false → list_any (is_lacking number t marks mark) entries ≡ false
walk_ends number t marks mark [] i d rise within far none = refl
walk_ends number t marks mark (e ∷ es) zero d rise within far none =
    let parts = both_true (list_all (λ other. not (stamp_lt other.0 e.0)) es) (rises es) rise in
    ap (λ b. (b && not (e.1 == number) && not (has_mark marks e.1 mark)) || list_any (is_lacking number t marks mark) es) far ∙ none_after number t marks mark e.0 es parts.0 far
walk_ends number t marks mark (e ∷ es) (suc i) d rise within far none =
    let parts = both_true (list_all (λ other. not (stamp_lt other.0 e.0)) es) (rises es) rise in
    let nones = both_false (is_lacking number t marks mark e) (list_any (is_lacking number t marks mark) (take i es)) none in
    ap (λ b. b || list_any (is_lacking number t marks mark) es) nones.0 ∙ walk_ends number t marks mark es i d parts.1 (omega arith) far nones.1

-- an entry that none of them is above may stand after them
pub rises-push : (entries : List (Stamp × ℕ)) (e : Stamp × ℕ) → rises entries ≡ true → list_any (λ other. stamp_lt e.0 other.0) entries ≡ false → rises (entries ++ e ∷ []) ≡ true
rises-push [] e rise none = refl
rises-push (x ∷ xs) e rise none =
    let parts = both_true (list_all (λ other. not (stamp_lt other.0 x.0)) xs) (rises xs) rise in
    let nones = both_false (stamp_lt e.0 x.0) (list_any (λ other. stamp_lt e.0 other.0) xs) none in
    let above : list_all (λ other. not (stamp_lt other.0 x.0)) (xs ++ e ∷ []) ≡ true =
    list_all-append (λ (other : Stamp × ℕ). not (stamp_lt other.0 x.0)) xs (e ∷ []) ∙ ap₂ ◌&&◌ parts.0 (ap (λ b. not b && true) nones.0) in
    ap₂ ◌&&◌ above (rises-push xs e parts.1 nones.1)

-- the first ones are not above a later one
pub none_above-take : (entries : List (Stamp × ℕ)) (i : ℕ) (d : Stamp × ℕ) → rises entries ≡ true → i < length entries → list_any (λ other. stamp_lt (get_or entries i d).0 other.0) (take i entries) ≡ false
none_above-take [] i d rise within = absurd (omega arith)
none_above-take (e ∷ es) zero d rise within = refl
none_above-take (e ∷ es) (suc i) d rise within =
    let parts = both_true (list_all (λ other. not (stamp_lt other.0 e.0)) es) (rises es) rise in
    ap₂ ◌||◌ (at_place es i d parts.0 (omega arith)) (none_above-take es i d parts.1 (omega arith))
  where
    at_place : (xs : List (Stamp × ℕ)) (k : ℕ) (y : Stamp × ℕ) → list_all (λ other. not (stamp_lt other.0 e.0)) xs ≡ true → k < length xs → stamp_lt (get_or xs k y).0 e.0 ≡ false
    at_place [] k y all in_range = absurd (omega arith)
    at_place (x ∷ xs) zero y all in_range = not_true (stamp_lt x.0 e.0) (both_true (not (stamp_lt x.0 e.0)) (list_all (λ other. not (stamp_lt other.0 e.0)) xs) all).0
    at_place (x ∷ xs) (suc k) y all in_range = at_place xs k y (both_true (not (stamp_lt x.0 e.0)) (list_all (λ other. not (stamp_lt other.0 e.0)) xs) all).1 (omega arith)

pub rises_from : (entries : List (Stamp × ℕ)) → ((i j : ℕ) (d : Stamp × ℕ) → i ≤ j → j < length entries → stamp_lt (get_or entries j d).0 (get_or entries i d).0 ≡ false) → rises entries ≡ true
rises_from [] far = refl
rises_from (e ∷ es) far =
    ap₂ ◌&&◌ (all_from es (λ k within. far 0 (suc k) e (omega arith) (omega arith))) (rises_from es (λ i j d le within. far (suc i) (suc j) d (omega arith) (omega arith)))
  where
    all_from : (xs : List (Stamp × ℕ)) → ((k : ℕ) → k < length xs → stamp_lt (get_or xs k e).0 e.0 ≡ false) → list_all (λ other. not (stamp_lt other.0 e.0)) xs ≡ true
    all_from [] at = refl
    all_from (x ∷ xs) at = ap₂ ◌&&◌ (ap not (at 0 (omega arith))) (all_from xs (λ k within. at (suc k) (omega arith)))

-- ---- one entry more

-- a key that has a further entry
pub pushed : (writes : Bool) (e : Stamp × ℕ) (old new : Users) → new.all.items ≡ old.all.items ++ e ∷ [] → new.writers.items ≡ cond writes (old.writers.items ++ e ∷ []) old.writers.items
    → (w : Bool) → chosen w (Some new) ≡ cond (w || writes) (chosen w (Some old) ++ e ∷ []) (chosen w (Some old))
pushed writes e old new all writers true = all
pushed true e old new all writers false = writers
pushed false e old new all writers false = writers

pub pushed_at : (b w writes : Bool) (e : Stamp × ℕ) (old new : Users) (before after : Option Users) → new.all.items ≡ old.all.items ++ e ∷ [] → new.writers.items ≡ cond writes (old.writers.items ++ e ∷ []) old.writers.items
    → (b ≡ true → before ≡ Some old) → after ≡ cond b (Some new) before
    → chosen w after ≡ cond (b && (w || writes)) (chosen w before ++ e ∷ []) (chosen w before)
pushed_at true w writes e old new before after all writers was is =
    ap (chosen w) is ∙ pushed writes e old new all writers w ∙ ap (λ o. cond (w || writes) (chosen w o ++ e ∷ []) (chosen w o)) (sym (was refl))
pushed_at false w writes e old new before after all writers was is = ap (chosen w) is

-- a key that has no entries yet
pub begun_at : (b w writes : Bool) (e : Stamp × ℕ) (none new : Users) (before after : Option Users) → none.all.items ≡ [] → none.writers.items ≡ []
    → new.all.items ≡ none.all.items ++ e ∷ [] → new.writers.items ≡ cond writes (none.writers.items ++ e ∷ []) none.writers.items
    → (b ≡ true → before ≡ None) → after ≡ cond b (Some new) before
    → chosen w after ≡ cond (b && (w || writes)) (chosen w before ++ e ∷ []) (chosen w before)
begun_at true w writes e none new before after no_all no_writers all writers was is =
    ap (chosen w) is ∙ pushed writes e none new all writers w
    ∙ ap (λ (xs : List (Stamp × ℕ)). cond (w || writes) (xs ++ e ∷ []) xs) (empty w ∙ ap (chosen w) (sym (was refl)))
  where
    empty : (v : Bool) → chosen v (Some none) ≡ chosen v None
    empty true = no_all
    empty false = no_writers
begun_at false w writes e none new before after no_all no_writers all writers was is = ap (chosen w) is

pub missing : (o : Option Users) → is_some o ≡ false → o ≡ None
missing None h = refl
missing (Some x) h = absurd (true≢false h)

any_pushed : (test : Stamp × ℕ → Bool) (b : Bool) (xs : List (Stamp × ℕ)) (e : Stamp × ℕ) → list_any test (cond b (xs ++ e ∷ []) xs) ≡ (list_any test xs || (b && test e))
any_pushed test true xs e = list_any-append test xs (e ∷ []) ∙ ap (λ t. list_any test xs || t) (or_false (test e))
  where
    or_false : (a : Bool) → (a || false) ≡ a
    or_false true = refl
    or_false false = refl
any_pushed test false xs e = sym (or_false (list_any test xs))
  where
    or_false : (a : Bool) → (a || false) ≡ a
    or_false true = refl
    or_false false = refl

regroup : (a b c t : Bool) → ((a || (b && t)) || (c && t)) ≡ (a || ((b || c) && t))
regroup true b c t = refl
regroup false true true true = refl
regroup false true true false = refl
regroup false true false true = refl
regroup false true false false = refl
regroup false false c t = refl

-- the entry stands by one key more
pub one_use_more : (key : Key) (writes : Bool) (test : Stamp × ℕ → Bool) (uses : List (Key × Bool)) (i : ℕ) (d : Key × Bool) (e : Stamp × ℕ) (first old new : List (Stamp × ℕ)) → i < length uses
    → new ≡ cond (key_eq key (get_or uses i d).0 && (writes || (get_or uses i d).1)) (old ++ e ∷ []) old
    → list_any test old ≡ (list_any test first || (touches key writes (take i uses) && test e))
    → list_any test new ≡ (list_any test first || (touches key writes (take (i + 1) uses) && test e))
one_use_more key writes test uses i d e first old new within made so_far =
    let hit = λ (other : Key × Bool). key_eq key other.0 && (writes || other.1) in
    ap (list_any test) made
    ∙ any_pushed test (hit (get_or uses i d)) old e
    ∙ ap (λ b. b || (hit (get_or uses i d) && test e)) so_far
    ∙ regroup (list_any test first) (touches key writes (take i uses)) (hit (get_or uses i d)) (test e)
    ∙ ap (λ b. list_any test first || (b && test e)) (sym (list_any_more hit uses i d within))

-- the lists of the keys rise with one entry more
pub rise_more : (b : Bool) (e : Stamp × ℕ) (old new : List (Stamp × ℕ)) → new ≡ cond b (old ++ e ∷ []) old → rises old ≡ true → list_any (λ other. stamp_lt e.0 other.0) old ≡ false
    → (rises new ≡ true) × (list_any (λ other. stamp_lt e.0 other.0) new ≡ false)
rise_more true e old new made rise none = (
  ap rises made ∙ rises-push old e rise none,
  ap (list_any (λ (other : Stamp × ℕ). stamp_lt e.0 other.0)) made ∙ list_any-append (λ (other : Stamp × ℕ). stamp_lt e.0 other.0) old (e ∷ []) ∙ ap₂ ◌||◌ none (ap (λ b. b || false) (stamp_order.irrefl e.0)),
)
rise_more false e old new made rise none = (ap rises made ∙ rise, ap (list_any (λ (other : Stamp × ℕ). stamp_lt e.0 other.0)) made ∙ none)

any_weaker : {X : Type 0} (p q : X → Bool) (xs : List X) → list_any q xs ≡ false → list_any (λ x. p x && q x) xs ≡ false
any_weaker p q [] none = refl
any_weaker p q (x ∷ xs) none =
    let parts = both_false (q x) (list_any q xs) none in
    ap₂ ◌||◌ (ap (λ b. p x && b) parts.0 ∙ and_false (p x)) (any_weaker p q xs parts.1)
  where
    and_false : (a : Bool) → (a && false) ≡ false
    and_false true = refl
    and_false false = refl

-- no user of a key is above the next of the entries
pub none_above : (bodies : List BodyParts) (order : List (Stamp × ℕ)) (i : ℕ) (d : Stamp × ℕ) (users : Map) → rises order ≡ true → i < length order → AreUsers bodies (take i order) users → NoneAbove (get_or order i d).0 users
none_above bodies order i d users rise within are key writes =
    are key writes (λ other. stamp_lt (get_or order i d).0 other.0)
    ∙ any_weaker (λ other. touches key writes (uses_at bodies other.1)) (λ other. stamp_lt (get_or order i d).0 other.0) (take i order) (none_above-take order i d rise within)

-- one entry more stands by the keys that it uses
pub entry_more : (bodies : List BodyParts) (order : List (Stamp × ℕ)) (i : ℕ) (d : Stamp × ℕ) (old new : Map) → i < length order → AreUsers bodies (take i order) old
    → ((key : Key) (writes : Bool) (test : Stamp × ℕ → Bool) → list_any test (users_at new key writes) ≡ (list_any test (users_at old key writes) || (touches key writes (uses_at bodies (get_or order i d).1) && test (get_or order i d))))
    → AreUsers bodies (take (i + 1) order) new
entry_more bodies order i d old new within are added key writes test =
    added key writes test
    ∙ ap (λ b. b || (touches key writes (uses_at bodies (get_or order i d).1) && test (get_or order i d))) (are key writes test)
    ∙ sym (list_any_more (λ entry. touches key writes (uses_at bodies entry.1) && test entry) order i d within)

pub no_uses : (bodies : List BodyParts) (number : ℕ) (key : Key) (writes : Bool) (e test : Bool) → length bodies ≤ number → e ≡ (e || (touches key writes (uses_at bodies number) && test))
no_uses bodies number key writes e test gone =
    let none : uses_at bodies number ≡ [] = ap footprint_of (get_or-eq_default bodies no_body gone) in
    sym (ap (λ uses. e || (touches key writes uses && test)) none ∙ or_false e)
  where
    or_false : (a : Bool) → (a || false) ≡ a
    or_false true = refl
    or_false false = refl

-- what a use adds, by its place among the uses
pub use_at : (uses : List (Key × Bool)) (i : ℕ) (d : Key × Bool) (e : Stamp × ℕ) (old new : Map) → d ≡ get_or uses i d
    → ((key : Key) (writes : Bool) → users_at new key writes ≡ cond (key_eq key d.0 && (writes || d.1)) (users_at old key writes ++ e ∷ []) (users_at old key writes))
    → (key : Key) (writes : Bool) → users_at new key writes ≡ cond (key_eq key (get_or uses i d).0 && (writes || (get_or uses i d).1)) (users_at old key writes ++ e ∷ []) (users_at old key writes)
use_at uses i d e old new is added key writes =
    added key writes ∙ (λ j. cond (key_eq key (is j).0 && (writes || (is j).1)) (users_at old key writes ++ e ∷ []) (users_at old key writes))
