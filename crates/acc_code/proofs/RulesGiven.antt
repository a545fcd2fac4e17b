-- Parts that keep the rules of bodies are read, where their numbers have 64 bits.
use Rattle.std.proofs.Common.{◌≡◌, ℕ, ◌≤◌, Bool, true, false, not, ◌&&◌, List, [], ◌∷◌, ◌++◌, length, append_assoc, map, refl, sym, ap, subst, ◌∙◌, arith, IsTrue}
use Rattle.std.specs.Prelude.{nat_lt, ◌==◌}
use Rattle.std.specs.Cmp.{first_so, second_so}
use Rattle.std.specs.List.{list_any, AllByRecursion}
use Rattle.std.specs.Str.{bytes_eq}
use Rattle.std.proofs.lemmas.Bool.{leb-false, lt-ltb, eqb-false, not-false, or_parts}
use Rattle.std.proofs.lemmas.List.Folds.{list_any-append}
use Rattle.acc_value.specs.declared.key.Key.{Key}
use Rattle.acc_value.specs.Footprint.{used}
use Rattle.acc_txn.specs.declared.parts.Let.{Let}
use Rattle.acc_txn.specs.declared.parts.Select.{Select}
use Rattle.acc_txn.specs.declared.parts.Select.TheVariants.{Nothing, Names, Get}
use Rattle.acc_txn.specs.declared.parts.Term.{Term}
use Rattle.acc_txn.specs.declared.parts.Term.TheVariants.{Number, Name, Null, Text}
use Rattle.acc_txn.specs.declared.parts.Part.{Part}
use Rattle.acc_txn.specs.declared.parts.Condition.{Condition}
use Rattle.acc_txn.specs.declared.parts.Condition.TheVariants.{Compare, IsNull, IsNotNull}
use Rattle.acc_txn.specs.declared.parts.Update.{Update}
use Rattle.acc_txn.specs.declared.parts.Update.TheVariants.{Set, Delete}
use Rattle.acc_txn.specs.declared.parts.BodyParts.{BodyParts}
use Rattle.acc_txn.specs.Words.{is_name, is_key, is_key_text}
use Rattle.acc_txn.specs.Uses.{with_keys, selected_keys, updated_key, footprint_of}
use Rattle.acc_txn.specs.Rules.{is_many, selected_names, condition_has, update_has, some_expression, is_long, is_unbound, term_is_unbound, mentions_unbound, asks_unbound, has_name_twice, has_no_key, has_bad_name, has_bad_key, is_malformed, selects_nothing}
use Rattle.acc_txn.proofs.BodyShortness.{short_word, short_key_text}
pub use Rattle.acc_txn.proofs.BodyShortness.{few, KeepsRules, keeps}
use Rattle.acc_code.specs.Short.{IsTerm, AreTerms, HasTerms, SetsTerms, IsNumberedBody}
use Rattle.acc_txn.specs.BodySpelling.{sign_number}
use Rattle.acc_code.specs.BodyReading.{let_uses, greatest_sign, least_updates, read_uses}
use Rattle.acc_code.proofs.Formats.{EachFits}
use Rattle.acc_code.proofs.Uses.{with_keys-map}
use Rattle.acc_code.proofs.UseCounts.{Few, of_few, few_before, few_read, few_lets, footprint_is}
use Rattle.acc_code.proofs.BodyFits.{FitsWord, FitsKeyText, FitsKey, FitsUse, FitsLet, FitsName, FitsSelect, FitsTerm, FitsPart, FitsSum, FitsCondition, FitsUpdate, FitsNextUpdate, FitsParts}

-- ---- words and keys

pub word_fits : (word : List ℕ) → IsTrue (is_name word) → FitsWord word
word_fits word h = (short_word word h, h)

key_text_fits : (text : List ℕ) → IsTrue (is_key_text text) → FitsKeyText text
key_text_fits text h = (short_key_text text h, h)

pub key_fits : (key : Key) → not (is_key key) ≡ false → FitsKey key
key_fits key h =
    let k = not-false (is_key key) h in
    (word_fits key.table (first_so (is_name key.table) _ k), key_text_fits key.key (second_so (is_name key.table) _ k))

use_fits : (uses : List (Key × Bool)) (writes : Bool) (key : Key) → not (is_key key) ≡ false → Few (used uses key writes) → FitsUse uses writes key
use_fits uses writes key h few_uses = (key_fits key h, of_few (used uses key writes) few_uses)

name_fits : (lets name : ℕ) → lets ≤ 16 → is_unbound lets name ≡ false → FitsName lets name
name_fits lets name le h = let lt = leb-false lets name h in (omega (arith, lt), lt-ltb name lets lt)

names_fit : (lets : ℕ) (names : List ℕ) → lets ≤ 16 → list_any (is_unbound lets) names ≡ false → AllByRecursion (FitsName lets) names
names_fit lets [] le h = tt
names_fit lets (name ∷ names) le h =
    let o = or_parts (is_unbound lets name) (list_any (is_unbound lets) names) h in
    (name_fits lets name le o.0, names_fit lets names le o.1)

-- ---- LETs

abbrev named_as : List ℕ → Let → Bool
named_as name l = bytes_eq l.name name

abbrev shares_name : Let → Let → Bool
shares_name l other = bytes_eq l.name other.name

none_before : (front : List Let) (x : Let) (xs : List Let) → has_name_twice (front ++ x ∷ xs) ≡ false → list_any (named_as x.name) front ≡ false
none_before [] x xs h = refl
none_before (l ∷ front) x xs h =
    let o = or_parts (list_any (shares_name l) (front ++ x ∷ xs)) (has_name_twice (front ++ x ∷ xs)) h in
    let p = or_parts (list_any (shares_name l) front) (list_any (shares_name l) (x ∷ xs)) (sym (list_any-append (shares_name l) front (x ∷ xs)) ∙ o.0) in
    let q = or_parts (shares_name l x) (list_any (shares_name l) xs) p.1 in
    rw (q.0, none_before front x xs o.1) refl

lets_fit : (front xs : List Let) → has_name_twice (front ++ xs) ≡ false → has_bad_name xs ≡ false → list_any (λ l. not (is_key l.key)) xs ≡ false → Few (let_uses (front ++ xs)) → EachFits FitsLet front xs
lets_fit front [] once names keys few_uses = tt
lets_fit front (x ∷ xs) once names keys few_uses =
    let n = or_parts (not (is_name x.name)) (has_bad_name xs) names in
    let k = or_parts (not (is_key x.key)) (list_any (λ l. not (is_key l.key)) xs) keys in
    let regrouped = append_assoc front (x ∷ []) xs in
    let later : Few (let_uses ((front ++ x ∷ []) ++ xs)) = subst (λ (ls : List Let). Few (let_uses ls)) (sym regrouped) few_uses in
    let here : Few (used (let_uses front) x.key false) = subst Few (with_keys-map (λ l. l.key) false [] front x) (few_before (λ l. l.key) false [] (front ++ x ∷ []) xs later) in (
      ((word_fits x.name (not-false (is_name x.name) n.0), ap not (none_before front x xs once)), use_fits (let_uses front) false x.key k.0 here),
      lets_fit (front ++ x ∷ []) xs (subst (λ (ls : List Let). has_name_twice ls ≡ false) (sym regrouped) once) n.1 k.1 later,
    )

-- ---- the select

select_fits : (lets : List Let) (s : Select) → length lets ≤ 16 → length (selected_names s) ≤ 16 → list_any (is_unbound (length lets)) (selected_names s) ≡ false → list_any (λ key. not (is_key key)) (selected_keys s) ≡ false → selects_nothing s ≡ false → Few (read_uses lets s) → FitsSelect lets s
select_fits lets Nothing le size bound key some few_uses = tt
select_fits lets (Names names) le size bound key some few_uses =
    let most : 1 ≤ length names = omega (arith, eqb-false (length names) 0 some) in
    (most, size, names_fit (length lets) names le bound)
select_fits lets (Get key) le size bound k some few_uses = use_fits (let_uses lets) false key (or_parts (not (is_key key)) false k).0 few_uses

-- ---- sums

term_fits : (lets : ℕ) (term : Term) → lets ≤ 16 → term_is_unbound lets term ≡ false → IsTerm term → FitsTerm lets term
term_fits lets (Number number) le bound numbered = numbered
term_fits lets (Name name) le bound numbered = name_fits lets name le bound
term_fits lets Null le bound numbered = tt
term_fits lets (Text text) le bound numbered = numbered

any_sign : (minus : Bool) → sign_number minus ≤ 1
any_sign true = omega arith
any_sign false = omega arith

signs_after : (front : List Part) (x : Part) → greatest_sign (front ++ x ∷ []) ≡ 1
signs_after [] x = refl
signs_after (p ∷ front) x = refl

parts_fit : (lets : ℕ) (front xs : List Part) → lets ≤ 16 → greatest_sign front ≡ 1 → mentions_unbound lets xs ≡ false → AreTerms xs → EachFits (FitsPart lets) front xs
parts_fit lets front [] le signs bound numbered = tt
parts_fit lets front (x ∷ xs) le signs bound numbered =
    let o = or_parts (term_is_unbound lets x.term) (mentions_unbound lets xs) bound in
    let sign = any_sign x.minus in
    ((omega (arith, sign, signs), term_fits lets x.term le o.0 numbered.0), parts_fit lets (front ++ x ∷ []) xs le (signs_after front x) o.1 numbered.1)

plus_sign : (minus : Bool) → minus ≡ false → sign_number minus ≤ 0
plus_sign true h = absurd cc
plus_sign false h = omega arith

sum_fits : (lets : ℕ) (sum : List Part) → lets ≤ 16 → is_long sum ≡ false → mentions_unbound lets sum ≡ false → is_malformed sum ≡ false → AreTerms sum → FitsSum lets sum
sum_fits lets [] le short bound formed numbered = absurd cc
sum_fits lets (x ∷ xs) le short bound formed numbered =
    let o = or_parts (term_is_unbound lets x.term) (mentions_unbound lets xs) bound in
    (omega arith, few (length (x ∷ xs)) short, ((plus_sign x.minus formed, term_fits lets x.term le o.0 numbered.0), parts_fit lets (x ∷ []) xs le refl o.1 numbered.1))

-- ---- conditions and updates

condition_fits : (lets : ℕ) (c : Condition) → lets ≤ 16 → condition_has is_long c ≡ false → condition_has (mentions_unbound lets) c ≡ false → condition_has is_malformed c ≡ false → asks_unbound lets c ≡ false → HasTerms c → FitsCondition lets c
condition_fits lets (Compare op left right) le short bound formed asks numbered =
    let s = or_parts (is_long left) (is_long right) short in
    let b = or_parts (mentions_unbound lets left) (mentions_unbound lets right) bound in
    let f = or_parts (is_malformed left) (is_malformed right) formed in
    (sum_fits lets left le s.0 b.0 f.0 numbered.0, sum_fits lets right le s.1 b.1 f.1 numbered.1)
condition_fits lets (IsNull name) le short bound formed asks numbered = name_fits lets name le asks
condition_fits lets (IsNotNull name) le short bound formed asks numbered = name_fits lets name le asks

conditions_fit : (lets : ℕ) (cs : List Condition) → lets ≤ 16 → list_any (condition_has is_long) cs ≡ false → list_any (condition_has (mentions_unbound lets)) cs ≡ false → list_any (condition_has is_malformed) cs ≡ false → list_any (asks_unbound lets) cs ≡ false → AllByRecursion HasTerms cs → AllByRecursion (FitsCondition lets) cs
conditions_fit lets [] le short bound formed asks numbered = tt
conditions_fit lets (c ∷ cs) le short bound formed asks numbered =
    let s = or_parts (condition_has is_long c) (list_any (condition_has is_long) cs) short in
    let b = or_parts (condition_has (mentions_unbound lets) c) (list_any (condition_has (mentions_unbound lets)) cs) bound in
    let f = or_parts (condition_has is_malformed c) (list_any (condition_has is_malformed) cs) formed in
    let a = or_parts (asks_unbound lets c) (list_any (asks_unbound lets) cs) asks in
    (condition_fits lets c le s.0 b.0 f.0 a.0 numbered.0, conditions_fit lets cs le s.1 b.1 f.1 a.1 numbered.1)

update_fits : (lets : ℕ) (uses : List (Key × Bool)) (u : Update) → lets ≤ 16 → update_has is_long u ≡ false → update_has (mentions_unbound lets) u ≡ false → update_has is_malformed u ≡ false → not (is_key (updated_key u)) ≡ false → SetsTerms u → Few (used uses (updated_key u) true) → FitsUpdate lets uses u
update_fits lets uses (Set key value) le short bound formed k numbered few_uses = (use_fits uses true key k few_uses, sum_fits lets value le short bound formed numbered)
update_fits lets uses (Delete key) le short bound formed k numbered few_uses = use_fits uses true key k few_uses

updates_fit : (lets : ℕ) (uses : List (Key × Bool)) (front us : List Update) → lets ≤ 16 → list_any (update_has is_long) us ≡ false → list_any (update_has (mentions_unbound lets)) us ≡ false → list_any (update_has is_malformed) us ≡ false → list_any (λ u. not (is_key (updated_key u))) us ≡ false → AllByRecursion SetsTerms us → Few (with_keys true uses (map updated_key (front ++ us))) → EachFits (FitsNextUpdate lets uses) front us
updates_fit lets uses front [] le short bound formed keys numbered few_uses = tt
updates_fit lets uses front (u ∷ us) le short bound formed keys numbered few_uses =
    let s = or_parts (update_has is_long u) (list_any (update_has is_long) us) short in
    let b = or_parts (update_has (mentions_unbound lets) u) (list_any (update_has (mentions_unbound lets)) us) bound in
    let f = or_parts (update_has is_malformed u) (list_any (update_has is_malformed) us) formed in
    let k = or_parts (not (is_key (updated_key u))) (list_any (λ v. not (is_key (updated_key v))) us) keys in
    let later : Few (with_keys true uses (map updated_key ((front ++ u ∷ []) ++ us))) = subst (λ (vs : List Update). Few (with_keys true uses (map updated_key vs))) (sym (append_assoc front (u ∷ []) us)) few_uses in
    let here : Few (used (with_keys true uses (map updated_key front)) (updated_key u) true) = subst Few (with_keys-map updated_key true uses front u) (few_before updated_key true uses (front ++ u ∷ []) us later) in
    (update_fits lets (with_keys true uses (map updated_key front)) u le s.0 b.0 f.0 k.0 numbered.0 here, updates_fit lets uses (front ++ u ∷ []) us le s.1 b.1 f.1 k.1 numbered.1 later)

some_more : (a b : Bool) → (a && b) ≡ false → a ≡ true → b ≡ false
some_more true b h e = h
some_more false b h e = absurd cc

least_follow : (guards : List Condition) (updates : List Update) → (nat_lt 0 (length guards) && length updates == 0) ≡ false → least_updates guards ≤ length updates
least_follow [] updates h = omega arith
least_follow (guard ∷ guards) updates h =
    let none = some_more (nat_lt 0 (length (guard ∷ guards))) (length updates == 0) h (lt-ltb 0 (length (guard ∷ guards)) (omega arith)) in
    let ne = eqb-false (length updates) 0 none in
    omega (arith, ne)

-- ---- bodies

-- a body fits its format, and has a key
pub rules_given : (parts : BodyParts) → IsNumberedBody parts → FitsParts parts × IsTrue (not (has_no_key parts))
rules_given parts body =
    let k = keeps parts body.keeps_rules in
    let lets = length parts.lets in
    let uses = or_parts _ (is_many (length (footprint_of parts))) k.size in
    let long = or_parts _ (some_expression is_long parts) uses.0 in
    let many_updates = or_parts _ (is_many (length parts.updates)) long.0 in
    let many_guards = or_parts _ (is_many (length parts.guards)) many_updates.0 in
    let many = or_parts (is_many lets) (is_many (length (selected_names parts.select))) many_guards.0 in
    let le = few lets many.0 in
    let few_uses = few (length (footprint_of parts)) uses.1 in
    let long_parts = or_parts (list_any (condition_has is_long) parts.guards) (list_any (update_has is_long) parts.updates) long.1 in
    let asks = or_parts _ (list_any (asks_unbound lets) parts.guards) k.bound in
    let unbound = or_parts (list_any (is_unbound lets) (selected_names parts.select)) (some_expression (mentions_unbound lets) parts) asks.0 in
    let unbound_parts = or_parts (list_any (condition_has (mentions_unbound lets)) parts.guards) (list_any (update_has (mentions_unbound lets)) parts.updates) unbound.1 in
    let words = or_parts (has_bad_name parts.lets) (has_bad_key parts) k.words in
    let update_keys = or_parts _ (list_any (λ u. not (is_key (updated_key u))) parts.updates) words.1 in
    let read_keys = or_parts (list_any (λ l. not (is_key l.key)) parts.lets) (list_any (λ key. not (is_key key)) (selected_keys parts.select)) update_keys.0 in
    let follow = or_parts _ (nat_lt 0 (length parts.guards) && length parts.updates == 0) k.shape in
    let shapes = or_parts (some_expression is_malformed parts) (selects_nothing parts.select) follow.0 in
    let malformed = or_parts (list_any (condition_has is_malformed) parts.guards) (list_any (update_has is_malformed) parts.updates) shapes.0 in (
      record {
        lets = (omega arith, le, lets_fit [] parts.lets k.once words.0 read_keys.0 (few_lets parts few_uses));
        select = select_fits parts.lets parts.select le (few _ many.1) unbound.0 read_keys.1 shapes.1 (few_read parts few_uses);
        guards = (omega arith, few _ many_guards.1, conditions_fit lets parts.guards le long_parts.0 unbound_parts.0 malformed.0 asks.1 body.guards);
        updates = (least_follow parts.guards parts.updates follow.1, few _ many_updates.1, updates_fit lets (read_uses parts.lets parts.select) [] parts.updates le long_parts.1 unbound_parts.1 malformed.1 update_keys.1 body.updates (subst Few (footprint_is parts) few_uses));
      },
      ap not k.keys,
    )
