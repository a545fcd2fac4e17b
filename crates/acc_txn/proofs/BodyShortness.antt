-- Bodies are short enough for their spelling.
use Rattle.std.proofs.Common.{◌≡◌, ℕ, ◌<◌, ◌≤◌, Bool, true, false, cond, not, ◌||◌, List, [], ◌∷◌, length, Option, Some, refl, arith, IsTrue, is_none}
use Rattle.std.specs.Prelude.{nat_le}
use Rattle.std.specs.List.{list_all, list_any, AllByRecursion}
use Rattle.std.specs.Cmp.{first_so, second_so}
use Rattle.std.proofs.lemmas.Bool.{ltb-false, leb-true, not-false, or_parts}
use Rattle.acc_wire.specs.Spelling.{IsShortText}
use Rattle.acc_value.specs.declared.key.Key.{Key}
use Rattle.acc_txn.specs.declared.parts.Let.{Let}
use Rattle.acc_txn.specs.declared.parts.Select.{Select}
use Rattle.acc_txn.specs.declared.parts.Select.TheVariants.{Nothing, Names, Get}
use Rattle.acc_txn.specs.declared.parts.Term.{Term}
use Rattle.acc_txn.specs.declared.parts.Term.TheVariants.{Number, Name, Null, Text}
use Rattle.acc_txn.specs.declared.parts.Part.{Part}
use Rattle.acc_txn.specs.declared.parts.Condition.{Condition}
use Rattle.acc_txn.specs.declared.parts.Condition.TheVariants.{Compare, IsNull, IsNotNull}
use Rattle.acc_txn.specs.declared.parts.Update.{Update}
use Rattle.acc_txn.specs.declared.parts.Update.TheVariants.{Set, Delete}
use Rattle.acc_txn.specs.declared.parts.BodyParts.{BodyParts}
use Rattle.acc_txn.specs.declared.error.BodyError.{BodyError}
use Rattle.acc_txn.specs.Words.{is_printed, is_name, is_key, is_key_text, is_text_value}
use Rattle.acc_txn.specs.Uses.{selected_keys, updated_key, footprint_of}
use Rattle.acc_txn.specs.Rules.{is_many, selected_names, condition_has, update_has, some_expression, is_long, is_bad_text, mentions_bad_text, has_too_many, has_unbound_name, has_name_twice, has_no_key, has_bad_name, has_bad_key, has_bad_shape, IsBody}
use Rattle.acc_txn.specs.Short.{IsShortKey, IsShortLet, IsShortSelect, IsShortTerm, IsShortSum, IsShortCondition, IsShortUpdate, IsShortBody}

-- ---- what keeping the rules says

pub few : (n : ℕ) → is_many n ≡ false → n ≤ 16
few n h = ltb-false 16 n h

not_refused : (b : Bool) (e : BodyError) (rest : Option BodyError) → IsTrue (is_none (cond b (Some e) rest)) → (b ≡ false) × IsTrue (is_none rest)
not_refused true e rest h = absurd cc
not_refused false e rest h = (refl, h)

pub record KeepsRules (parts : BodyParts) : Type 0 where
  pub size : has_too_many parts ≡ false
  pub bound : has_unbound_name parts ≡ false
  pub once : has_name_twice parts.lets ≡ false
  pub keys : has_no_key parts ≡ false
  pub words : (has_bad_name parts.lets || has_bad_key parts) ≡ false
  pub shape : has_bad_shape parts ≡ false
  pub texts : some_expression mentions_bad_text parts ≡ false

pub keeps : (parts : BodyParts) → IsBody parts → KeepsRules parts
keeps parts h =
    let a = not_refused (has_too_many parts) _ _ h in
    let b = not_refused (has_unbound_name parts) _ _ a.1 in
    let c = not_refused (has_name_twice parts.lets) _ _ b.1 in
    let d = not_refused (has_no_key parts) _ _ c.1 in
    let e = not_refused (has_bad_name parts.lets || has_bad_key parts) _ _ d.1 in
    let f = not_refused (has_bad_shape parts) _ _ e.1 in
    let g = not_refused (some_expression mentions_bad_text parts) _ _ f.1 in
    record { size = a.0; bound = b.0; once = c.0; keys = d.0; words = e.0; shape = f.0; texts = g.0 }

-- ---- texts

-- a text that a cell may hold has at most 255 bytes
pub short_text : (text : List ℕ) → IsTrue (is_text_value text) → IsShortText text
short_text text h =
    let len = leb-true (length text) 255 (first_so (nat_le (length text) 255) (list_all is_printed text) (first_so _ _ h)) in
    omega (arith, len)

pub short_word : (word : List ℕ) → IsTrue (is_name word) → IsShortText word
short_word word h =
    let len = leb-true (length word) 32 (first_so (nat_le (length word) 32) _ (first_so _ _ h)) in
    omega (arith, len)

pub short_key_text : (text : List ℕ) → IsTrue (is_key_text text) → IsShortText text
short_key_text text h =
    let len = leb-true (length text) 64 (second_so (nat_le 1 (length text)) _ (first_so _ _ h)) in
    omega (arith, len)

-- ---- parts

short_key : (key : Key) → not (is_key key) ≡ false → IsShortKey key
short_key key h =
    let k = not-false (is_key key) h in
    record { table = short_word key.table (first_so (is_name key.table) _ k); key = short_key_text key.key (second_so (is_name key.table) _ k) }

short_lets : (lets : List Let) → has_bad_name lets ≡ false → list_any (λ l. not (is_key l.key)) lets ≡ false → AllByRecursion IsShortLet lets
short_lets [] names keys = tt
short_lets (l ∷ lets) names keys =
    let n = or_parts (not (is_name l.name)) (has_bad_name lets) names in
    let k = or_parts (not (is_key l.key)) (list_any (λ m. not (is_key m.key)) lets) keys in
    (record { name = short_word l.name (not-false (is_name l.name) n.0); key = short_key l.key k.0 }, short_lets lets n.1 k.1)

short_select : (s : Select) → length (selected_names s) ≤ 16 → list_any (λ key. not (is_key key)) (selected_keys s) ≡ false → IsShortSelect s
short_select Nothing size keys = tt
short_select (Names names) size keys = omega arith
short_select (Get key) size keys = short_key key (or_parts (not (is_key key)) false keys).0

short_term : (term : Term) → is_bad_text term ≡ false → IsShortTerm term
short_term (Number number) h = tt
short_term (Name name) h = tt
short_term Null h = tt
short_term (Text text) h = not-false (is_text_value text) h

short_terms : (sum : List Part) → mentions_bad_text sum ≡ false → AllByRecursion (λ part. IsShortTerm part.term) sum
short_terms [] h = tt
short_terms (part ∷ sum) h = let o = or_parts (is_bad_text part.term) (mentions_bad_text sum) h in (short_term part.term o.0, short_terms sum o.1)

short_sum : (sum : List Part) → is_long sum ≡ false → mentions_bad_text sum ≡ false → IsShortSum sum
short_sum sum h t = let l = few (length sum) h in record { count = omega (arith, l); terms = short_terms sum t }

short_condition : (c : Condition) → condition_has is_long c ≡ false → condition_has mentions_bad_text c ≡ false → IsShortCondition c
short_condition (Compare op left right) h t =
    let s = or_parts (is_long left) (is_long right) h in
    let u = or_parts (mentions_bad_text left) (mentions_bad_text right) t in (short_sum left s.0 u.0, short_sum right s.1 u.1)
short_condition (IsNull name) h t = tt
short_condition (IsNotNull name) h t = tt

short_conditions : (cs : List Condition) → list_any (condition_has is_long) cs ≡ false → list_any (condition_has mentions_bad_text) cs ≡ false → AllByRecursion IsShortCondition cs
short_conditions [] h t = tt
short_conditions (c ∷ cs) h t =
    let s = or_parts (condition_has is_long c) (list_any (condition_has is_long) cs) h in
    let u = or_parts (condition_has mentions_bad_text c) (list_any (condition_has mentions_bad_text) cs) t in
    (short_condition c s.0 u.0, short_conditions cs s.1 u.1)

short_update : (u : Update) → update_has is_long u ≡ false → update_has mentions_bad_text u ≡ false → not (is_key (updated_key u)) ≡ false → IsShortUpdate u
short_update (Set key value) h t k = (short_key key k, short_sum value h t)
short_update (Delete key) h t k = short_key key k

short_updates : (us : List Update) → list_any (update_has is_long) us ≡ false → list_any (update_has mentions_bad_text) us ≡ false → list_any (λ u. not (is_key (updated_key u))) us ≡ false → AllByRecursion IsShortUpdate us
short_updates [] h t k = tt
short_updates (u ∷ us) h t k =
    let s = or_parts (update_has is_long u) (list_any (update_has is_long) us) h in
    let v = or_parts (update_has mentions_bad_text u) (list_any (update_has mentions_bad_text) us) t in
    let w = or_parts (not (is_key (updated_key u))) (list_any (λ v. not (is_key (updated_key v))) us) k in
    (short_update u s.0 v.0 w.0, short_updates us s.1 v.1 w.1)

below_256 : (n : ℕ) → n ≤ 16 → n < 256
below_256 n le = omega arith

pub short_body : (parts : BodyParts) → IsBody parts → IsShortBody parts
short_body parts body =
    let k = keeps parts body in
    let uses = or_parts _ (is_many (length (footprint_of parts))) k.size in
    let long = or_parts _ (some_expression is_long parts) uses.0 in
    let many_updates = or_parts _ (is_many (length parts.updates)) long.0 in
    let many_guards = or_parts _ (is_many (length parts.guards)) many_updates.0 in
    let many = or_parts (is_many (length parts.lets)) (is_many (length (selected_names parts.select))) many_guards.0 in
    let long_parts = or_parts (list_any (condition_has is_long) parts.guards) (list_any (update_has is_long) parts.updates) long.1 in
    let typed = or_parts (list_any (condition_has mentions_bad_text) parts.guards) (list_any (update_has mentions_bad_text) parts.updates) k.texts in
    let words = or_parts (has_bad_name parts.lets) (has_bad_key parts) k.words in
    let update_keys = or_parts _ (list_any (λ u. not (is_key (updated_key u))) parts.updates) words.1 in
    let read_keys = or_parts (list_any (λ l. not (is_key l.key)) parts.lets) (list_any (λ key. not (is_key key)) (selected_keys parts.select)) update_keys.0 in
    record {
      lets_count = below_256 _ (few _ many.0);
      lets = short_lets parts.lets words.0 read_keys.0;
      select = short_select parts.select (few _ many.1) read_keys.1;
      guards_count = below_256 _ (few _ many_guards.1);
      guards = short_conditions parts.guards long_parts.0 typed.0;
      updates_count = below_256 _ (few _ many_updates.1);
      updates = short_updates parts.updates long_parts.1 typed.1 update_keys.1;
    }
