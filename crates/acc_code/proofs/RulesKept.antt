-- Parts that were read keep the rules of bodies, where they have a key.
use Rattle.std.proofs.Common.{◌≡◌, ℕ, ◌≤◌, Bool, true, false, not, ◌&&◌, ◌||◌, List, [], ◌∷◌, ◌++◌, length, append_assoc, map, None, refl, sym, ap, subst, arith, IsTrue}
use Rattle.std.specs.Prelude.{nat_lt, ◌==◌}
use Rattle.std.specs.List.{list_any, AllByRecursion}
use Rattle.std.specs.Str.{bytes_eq}
use Rattle.std.proofs.lemmas.Bool.{ltb-true, le-ltb, lt-leb, not-true, ne_eqb, or_parts, or_from}
use Rattle.std.proofs.lemmas.List.{append-nil}
use Rattle.std.proofs.lemmas.List.Folds.{list_any-append}
use Rattle.acc_value.proofs.Rising.{both}
use Rattle.acc_value.specs.declared.key.Key.{Key}
use Rattle.acc_value.specs.Footprint.{used}
use Rattle.acc_txn.specs.declared.parts.Let.{Let}
use Rattle.acc_txn.specs.declared.parts.Select.{Select}
use Rattle.acc_txn.specs.declared.parts.Select.TheVariants.{Nothing, Names, Get}
use Rattle.acc_txn.specs.declared.parts.Term.{Term}
use Rattle.acc_txn.specs.declared.parts.Term.TheVariants.{Number, Name, Null, Text}
use Rattle.acc_txn.specs.declared.parts.Part.{Part}
use Rattle.acc_txn.specs.declared.parts.Condition.{Condition}
use Rattle.acc_txn.specs.declared.parts.Condition.TheVariants.{Compare, IsNull, IsNotNull}
use Rattle.acc_txn.specs.declared.parts.Update.{Update}
use Rattle.acc_txn.specs.declared.parts.Update.TheVariants.{Set, Delete}
use Rattle.acc_txn.specs.declared.parts.BodyParts.{BodyParts}
use Rattle.acc_txn.specs.Words.{is_name, is_key, is_key_text}
use Rattle.acc_txn.specs.Uses.{with_keys, selected_keys, updated_key, footprint_of}
use Rattle.acc_txn.specs.Rules.{is_many, selected_names, condition_has, update_has, some_expression, is_long, has_too_many, is_unbound, term_is_unbound, mentions_unbound, asks_unbound, has_unbound_name, has_name_twice, has_no_key, has_bad_name, has_bad_key, is_malformed, selects_nothing, has_bad_shape, is_bad_text, mentions_bad_text, refusal_of}
use Rattle.acc_txn.specs.BodySpelling.{sign_number}
use Rattle.acc_code.specs.BodyReading.{let_uses, least_updates, read_uses}
use Rattle.acc_code.proofs.Formats.{EachFits}
use Rattle.acc_code.proofs.Uses.{with_keys-map}
use Rattle.acc_code.proofs.UseCounts.{Few, few_of, footprint_is}
use Rattle.acc_code.proofs.BodyFits.{FitsKey, FitsUse, FitsLet, FitsName, FitsSelect, FitsTerm, FitsSum, FitsCondition, FitsUpdate, FitsNextUpdate, FitsParts}

-- ---- tests over lists

any_false : {A : Type 0} (test : A → Bool) (P : A → Type 0) → ((x : A) → P x → test x ≡ false) → (xs : List A) → AllByRecursion P xs → list_any test xs ≡ false
any_false test P each [] h = refl
any_false test P each (x ∷ xs) h = or_from (test x) (list_any test xs) (each x h.0) (any_false test P each xs h.1)

each_false : {A : Type 0} {Fits : List A → A → Type 0} (test : A → Bool) → ((front : List A) (x : A) → Fits front x → test x ≡ false) → (front xs : List A) → EachFits Fits front xs → list_any test xs ≡ false
each_false test each front [] h = refl
each_false test each front (x ∷ xs) h = or_from (test x) (list_any test xs) (each front x h.0) (each_false test each (front ++ x ∷ []) xs h.1)

not_many : (n : ℕ) → n ≤ 16 → is_many n ≡ false
not_many n le = le-ltb 16 n le

not_unbound : (lets name : ℕ) → IsTrue (nat_lt name lets) → is_unbound lets name ≡ false
not_unbound lets name h = lt-leb lets name (ltb-true name lets h)

-- ---- sums

term_bound : (lets : ℕ) (term : Term) → FitsTerm lets term → term_is_unbound lets term ≡ false
term_bound lets (Number number) fits = refl
term_bound lets (Name name) fits = not_unbound lets name fits.1
term_bound lets Null fits = refl
term_bound lets (Text text) fits = refl

term_typed : (lets : ℕ) (term : Term) → FitsTerm lets term → is_bad_text term ≡ false
term_typed lets (Number number) fits = refl
term_typed lets (Name name) fits = refl
term_typed lets Null fits = refl
term_typed lets (Text text) fits = ap not fits

plus_first : (minus : Bool) → sign_number minus ≤ 0 → minus ≡ false
plus_first true h = absurd (omega arith)
plus_first false h = refl

well_formed : (lets : ℕ) (sum : List Part) → FitsSum lets sum → is_malformed sum ≡ false
well_formed lets [] fits = absurd (omega (arith, fits.0))
well_formed lets (part ∷ sum) fits = plus_first part.minus fits.2.0.0

pub record SumIsFine (lets : ℕ) (sum : List Part) : Type 0 where
  pub short : is_long sum ≡ false
  pub bound : mentions_unbound lets sum ≡ false
  pub formed : is_malformed sum ≡ false
  pub typed : mentions_bad_text sum ≡ false

fine : (lets : ℕ) (sum : List Part) → FitsSum lets sum → SumIsFine lets sum
fine lets sum fits = record {
  short = not_many (length sum) fits.1;
  bound = each_false (λ part. term_is_unbound lets part.term) (λ front part h. term_bound lets part.term h.1) [] sum fits.2;
  formed = well_formed lets sum fits;
  typed = each_false (λ part. is_bad_text part.term) (λ front part h. term_typed lets part.term h.1) [] sum fits.2;
}

-- a test that fine sums fail
abbrev Fails : ℕ → (List Part → Bool) → Type 0
Fails lets test = (sum : List Part) → SumIsFine lets sum → test sum ≡ false

condition_fails : (lets : ℕ) (test : List Part → Bool) → Fails lets test → (c : Condition) → FitsCondition lets c → condition_has test c ≡ false
condition_fails lets test fails (Compare op left right) fits = or_from (test left) (test right) (fails left (fine lets left fits.0)) (fails right (fine lets right fits.1))
condition_fails lets test fails (IsNull name) fits = refl
condition_fails lets test fails (IsNotNull name) fits = refl

update_fails : (lets : ℕ) (uses : List (Key × Bool)) (test : List Part → Bool) → Fails lets test → (u : Update) → FitsUpdate lets uses u → update_has test u ≡ false
update_fails lets uses test fails (Set key value) fits = fails value (fine lets value fits.1)
update_fails lets uses test fails (Delete key) fits = refl

some_fails : (parts : BodyParts) (test : List Part → Bool) → FitsParts parts → Fails (length parts.lets) test → some_expression test parts ≡ false
some_fails parts test fits fails =
    or_from (list_any (condition_has test) parts.guards) (list_any (update_has test) parts.updates)
    (any_false (condition_has test) (FitsCondition (length parts.lets)) (condition_fails (length parts.lets) test fails) parts.guards fits.guards.2)
    (each_false {Fits = FitsNextUpdate (length parts.lets) (read_uses parts.lets parts.select)} (update_has test) (λ front u h. update_fails (length parts.lets) _ test fails u h) [] parts.updates fits.updates.2)

-- ---- keys

use_few : (uses : List (Key × Bool)) (writes : Bool) (key : Key) → FitsUse uses writes key → Few (used uses key writes)
use_few uses writes key fits = few_of (used uses key writes) fits.1

update_few : (lets : ℕ) (uses : List (Key × Bool)) (u : Update) → FitsUpdate lets uses u → Few (used uses (updated_key u) true)
update_few lets uses (Set key value) fits = use_few uses true key fits.0
update_few lets uses (Delete key) fits = use_few uses true key fits

lets_few : (front xs : List Let) → Few (let_uses front) → EachFits FitsLet front xs → Few (let_uses (front ++ xs))
lets_few front [] few h = subst (λ (ls : List Let). Few (let_uses ls)) (sym (append-nil front)) few
lets_few front (x ∷ xs) few h =
    let next : Few (let_uses (front ++ x ∷ [])) = subst Few (sym (with_keys-map (λ l. l.key) false [] front x)) (use_few (let_uses front) false x.key h.0.1) in
    subst (λ (ls : List Let). Few (let_uses ls)) (append_assoc front (x ∷ []) xs) (lets_few (front ++ x ∷ []) xs next h.1)

select_few : (lets : List Let) (s : Select) → Few (let_uses lets) → FitsSelect lets s → Few (read_uses lets s)
select_few lets Nothing few fits = few
select_few lets (Names names) few fits = few
select_few lets (Get key) few fits = use_few (let_uses lets) false key fits

updates_few : (lets : ℕ) (uses : List (Key × Bool)) (front xs : List Update) → Few (with_keys true uses (map updated_key front)) → EachFits (FitsNextUpdate lets uses) front xs → Few (with_keys true uses (map updated_key (front ++ xs)))
updates_few lets uses front [] few h = subst (λ (us : List Update). Few (with_keys true uses (map updated_key us))) (sym (append-nil front)) few
updates_few lets uses front (x ∷ xs) few h =
    let next : Few (with_keys true uses (map updated_key (front ++ x ∷ []))) = subst Few (sym (with_keys-map updated_key true uses front x)) (update_few lets (with_keys true uses (map updated_key front)) x h.0) in
    subst (λ (us : List Update). Few (with_keys true uses (map updated_key us))) (append_assoc front (x ∷ []) xs) (updates_few lets uses (front ++ x ∷ []) xs next h.1)

footprint_few : (parts : BodyParts) → FitsParts parts → Few (footprint_of parts)
footprint_few parts fits =
    let none : Few (let_uses []) = omega arith in
    let read = select_few parts.lets parts.select (lets_few [] parts.lets none fits.lets.2) fits.select in
    subst Few (sym (footprint_is parts)) (updates_few (length parts.lets) (read_uses parts.lets parts.select) [] parts.updates read fits.updates.2)

names_few : (lets : List Let) (s : Select) → FitsSelect lets s → length (selected_names s) ≤ 16
names_few lets Nothing fits = omega arith
names_few lets (Names names) fits = fits.1
names_few lets (Get key) fits = omega arith

-- ---- names

names_bound : (lets : List Let) (s : Select) → FitsSelect lets s → list_any (is_unbound (length lets)) (selected_names s) ≡ false
names_bound lets Nothing fits = refl
names_bound lets (Names names) fits = any_false (is_unbound (length lets)) (FitsName (length lets)) (λ name h. not_unbound (length lets) name h.1) names fits.2
names_bound lets (Get key) fits = refl

asks_bound : (lets : ℕ) (c : Condition) → FitsCondition lets c → asks_unbound lets c ≡ false
asks_bound lets (Compare op left right) fits = refl
asks_bound lets (IsNull name) fits = not_unbound lets name fits.1
asks_bound lets (IsNotNull name) fits = not_unbound lets name fits.1

abbrev named_as : List ℕ → Let → Bool
named_as name l = bytes_eq l.name name

abbrev shares_name : Let → Let → Bool
shares_name l other = bytes_eq l.name other.name

twice_more : (front : List Let) (x : Let) → has_name_twice front ≡ false → list_any (named_as x.name) front ≡ false → has_name_twice (front ++ x ∷ []) ≡ false
twice_more [] x once new = refl
twice_more (l ∷ front) x once new =
    let o = or_parts (list_any (shares_name l) front) (has_name_twice front) once in
    let n = or_parts (shares_name l x) (list_any (named_as x.name) front) new in
    or_from (list_any (shares_name l) (front ++ x ∷ [])) (has_name_twice (front ++ x ∷ [])) (rw (list_any-append (shares_name l) front (x ∷ [])) (or_from (list_any (shares_name l) front) (shares_name l x || false) o.0 (or_from (shares_name l x) false n.0 refl))) (twice_more front x o.1 n.1)

never_twice : (front xs : List Let) → has_name_twice front ≡ false → EachFits FitsLet front xs → has_name_twice (front ++ xs) ≡ false
never_twice front [] once h = subst (λ (ls : List Let). has_name_twice ls ≡ false) (sym (append-nil front)) once
never_twice front (x ∷ xs) once h =
    subst (λ (ls : List Let). has_name_twice ls ≡ false) (append_assoc front (x ∷ []) xs)
    (never_twice (front ++ x ∷ []) xs (twice_more front x once (not-true (list_any (named_as x.name) front) h.0.0.1)) h.1)

-- ---- words

good_key : (key : Key) → FitsKey key → not (is_key key) ≡ false
good_key key fits = ap not (both (is_name key.table) (is_key_text key.key) fits.0.1 fits.1.1)

select_key : (lets : List Let) (s : Select) → FitsSelect lets s → list_any (λ key. not (is_key key)) (selected_keys s) ≡ false
select_key lets Nothing fits = refl
select_key lets (Names names) fits = refl
select_key lets (Get key) fits = or_from (not (is_key key)) false (good_key key fits.0) refl

update_key : (lets : ℕ) (uses : List (Key × Bool)) (u : Update) → FitsUpdate lets uses u → not (is_key (updated_key u)) ≡ false
update_key lets uses (Set key value) fits = good_key key fits.0.0
update_key lets uses (Delete key) fits = good_key key fits.0

-- ---- shapes

selects_some : (lets : List Let) (s : Select) → FitsSelect lets s → selects_nothing s ≡ false
selects_some lets Nothing fits = refl
selects_some lets (Names names) fits = ne_eqb (length names) 0 (λ e. omega (arith, e, fits.0))
selects_some lets (Get key) fits = refl

and_false : (a b : Bool) → b ≡ false → (a && b) ≡ false
and_false true b h = h
and_false false b h = refl

updates_follow : (guards : List Condition) (updates : List Update) → least_updates guards ≤ length updates → (nat_lt 0 (length guards) && length updates == 0) ≡ false
updates_follow [] updates h = refl
updates_follow (guard ∷ guards) [] h = absurd (omega (arith, h))
updates_follow (guard ∷ guards) (update ∷ updates) h = and_false (nat_lt 0 (length (guard ∷ guards))) (length (update ∷ updates) == 0) (ne_eqb (length (update ∷ updates)) 0 (λ e. omega (arith, e)))

-- ---- all rules

none_refused : (parts : BodyParts) → has_too_many parts ≡ false → has_unbound_name parts ≡ false → has_name_twice parts.lets ≡ false → has_no_key parts ≡ false → (has_bad_name parts.lets || has_bad_key parts) ≡ false → has_bad_shape parts ≡ false → some_expression mentions_bad_text parts ≡ false → refusal_of parts ≡ None
none_refused parts a b c d e f g = rw (a, b, c, d, e, f, g) refl

module _ (parts : BodyParts) (fits : FitsParts parts) where
  few_enough : has_too_many parts ≡ false
  few_enough =
      or_from _ (is_many (length (footprint_of parts)))
      (or_from _ (some_expression is_long parts)
      (or_from _ (is_many (length parts.updates))
      (or_from _ (is_many (length parts.guards))
      (or_from (is_many (length parts.lets)) (is_many (length (selected_names parts.select)))
      (not_many _ fits.lets.1) (not_many _ (names_few parts.lets parts.select fits.select)))
      (not_many _ fits.guards.1))
      (not_many _ fits.updates.1))
      (some_fails parts is_long fits (λ sum h. h.short)))
      (not_many _ (footprint_few parts fits))

  all_bound : has_unbound_name parts ≡ false
  all_bound =
      or_from _ (list_any (asks_unbound (length parts.lets)) parts.guards)
      (or_from (list_any (is_unbound (length parts.lets)) (selected_names parts.select)) (some_expression (mentions_unbound (length parts.lets)) parts)
      (names_bound parts.lets parts.select fits.select) (some_fails parts (mentions_unbound (length parts.lets)) fits (λ sum h. h.bound)))
      (any_false (asks_unbound (length parts.lets)) (FitsCondition (length parts.lets)) (asks_bound (length parts.lets)) parts.guards fits.guards.2)

  all_words : (has_bad_name parts.lets || has_bad_key parts) ≡ false
  all_words =
      or_from (has_bad_name parts.lets) (has_bad_key parts)
      (each_false (λ l. not (is_name l.name)) (λ front l h. ap not h.0.0.1) [] parts.lets fits.lets.2)
      (or_from _ (list_any (λ u. not (is_key (updated_key u))) parts.updates)
      (or_from (list_any (λ l. not (is_key l.key)) parts.lets) (list_any (λ key. not (is_key key)) (selected_keys parts.select))
      (each_false (λ l. not (is_key l.key)) (λ front l h. good_key l.key h.1.0) [] parts.lets fits.lets.2)
      (select_key parts.lets parts.select fits.select))
      (each_false {Fits = FitsNextUpdate (length parts.lets) (read_uses parts.lets parts.select)} (λ u. not (is_key (updated_key u))) (λ front u h. update_key (length parts.lets) _ u h) [] parts.updates fits.updates.2))

  all_shaped : has_bad_shape parts ≡ false
  all_shaped =
      or_from _ (nat_lt 0 (length parts.guards) && length parts.updates == 0)
      (or_from (some_expression is_malformed parts) (selects_nothing parts.select)
      (some_fails parts is_malformed fits (λ sum h. h.formed)) (selects_some parts.lets parts.select fits.select))
      (updates_follow parts.guards parts.updates fits.updates.0)

  -- parts that were read are refused for want of a key alone
  pub rules_kept : has_no_key parts ≡ false → refusal_of parts ≡ None
  rules_kept some = none_refused parts few_enough all_bound (never_twice [] parts.lets refl fits.lets.2) some all_words all_shaped
      (some_fails parts mentions_bad_text fits (λ sum h. h.typed))
