-- What keeps the rules of bodies fits.
use Rattle.std.proofs.Common.{◌≡◌, ◌≤◌, ◌==◌, ℕ, zero, suc, Bool, true, false, not, ◌||◌, ◌&&◌, List, [], ◌∷◌, ◌++◌, length, map, nat_le, nat_lt, Some, None, position, refl, sym, ap, ◌∙◌, subst, lt-ltb, arith}
use Rattle.std.specs.Prelude.{slice_get}
use Rattle.std.specs.List.{list_any, list_all, prefix_len}
use Rattle.std.specs.Str.{bytes_eq, is_utf8}
use Rattle.std.proofs.lemmas.List.Folds.{list_any-append}
use Rattle.std.proofs.lemmas.Option.{slice_get_within}
use Rattle.std.proofs.lemmas.Slice.Eq.{bytes_eq-Decides}
use Rattle.acc_token.specs.Tokens.{is_plain}
use Rattle.acc_value.specs.declared.key.Key.{Key}
use Rattle.acc_value.specs.Footprint.{used}
use Rattle.acc_txn.specs.declared.parts.Let.{Let}
use Rattle.acc_txn.specs.declared.parts.Select.{Select}
use Rattle.acc_txn.specs.declared.parts.Select.TheVariants.{Nothing, Names, Get}
use Rattle.acc_txn.specs.declared.parts.Term.{Term}
use Rattle.acc_txn.specs.declared.parts.Term.TheVariants.{Number, Name, Null, Text}
use Rattle.acc_txn.specs.declared.parts.Part.{Part}
use Rattle.acc_txn.specs.declared.parts.Condition.{Condition}
use Rattle.acc_txn.specs.declared.parts.Condition.TheVariants.{Compare, IsNull, IsNotNull}
use Rattle.acc_txn.specs.declared.parts.Update.{Update}
use Rattle.acc_txn.specs.declared.parts.Update.TheVariants.{Set, Delete}
use Rattle.acc_txn.specs.declared.parts.BodyParts.{BodyParts}
use Rattle.acc_txn.specs.Words.{is_reserved, is_lower_word, is_name, is_key, is_text_value}
use Rattle.acc_txn.specs.Uses.{selected_keys, updated_key, read_keys, written_keys, with_keys, footprint_of}
use Rattle.acc_txn.specs.Rules.{is_many, is_long, condition_has, update_has, some_expression, selected_names, has_name_twice, has_bad_name, has_bad_key, is_bad_text, mentions_bad_text, IsBody}
use Rattle.acc_txn.proofs.Keeps.{KeepsRules, IsBody-keeps}
use Rattle.acc_lang.specs.Reading.{key_written}
use Rattle.acc_lang.proofs.Fits.{ThisCondition, IsFreeWord, IsFitKey, IsFitLet, IsFitSelect, IsFitTerm, IsFitPart, IsFitSum, IsFitCondition, IsFitUpdate, IsFitBody, AreNamed, Uses, after, InTurn, at_end, with_let, with_update, uses_after_select}
use Rattle.acc_lang.proofs.Counts.{used_keeps, with_keys_keeps, with_keys_some, lets_uses, updates_uses, all_uses}

pub neither : (a b : Bool) → (a || b) ≡ false → (a ≡ false) × (b ≡ false)
neither true b is = cc
neither false b is = (refl, is)

pub each_of : (a b : Bool) → (a && b) ≡ true → (a ≡ true) × (b ≡ true)
each_of true b is = (refl, is)
each_of false b is = cc

pub not_false : (b : Bool) → not b ≡ false → b ≡ true
not_false true is = refl
not_false false is = cc

pub at_most : (n : ℕ) → is_many n ≡ false → n ≤ 16
at_most n few = grind arith

pub not_many : (n : ℕ) → n ≤ 16 → is_many n ≡ false
not_many n few = grind arith

-- what breaks no rule is the parts of a body
pub is_body : (parts : BodyParts) → KeepsRules parts → IsBody parts
is_body parts o = rw o.few (rw o.bound (rw o.once (rw o.keyed (rw o.worded (rw o.shaped (rw o.texts refl))))))

pub name_fits : (name : List ℕ) → is_name name ≡ true → IsFreeWord name
name_fits name is =
    let p = each_of (nat_le (length name) 32 && is_lower_word name) (not (is_reserved name)) is in
    let q = each_of (nat_le (length name) 32) (is_lower_word name) p.0 in
    record { free = free (is_reserved name) p.1; short = short (length name) q.0 } where
      free : (b : Bool) → not b ≡ true → b ≡ false
      free true is = cc
      free false is = refl

      short : (n : ℕ) → nat_le n 32 ≡ true → nat_lt 32 n ≡ false
      short n few = grind arith

pub key_fits : (writes : Bool) (uses : Uses) (key : Key) → is_key key ≡ true → length (used uses key writes) ≤ 16 → IsFitKey writes uses key
key_fits writes uses key is room =
    let p = each_of (is_name key.table) _ is in
    let q = each_of (nat_le 1 (length key.key) && nat_le (length key.key) 64) (is_utf8 key.key) p.1 in
    record { table = name_fits key.table p.0; form = q.0; room = not_many (length (used uses key writes)) room }

pub bytes_differ : (a b : List ℕ) → bytes_eq a b ≡ false → bytes_eq b a ≡ false
bytes_differ a b differ = tested (bytes_eq b a) refl where
  tested : (t : Bool) → bytes_eq b a ≡ t → t ≡ false
  tested true same = let e : bytes_eq a b ≡ true = (bytes_eq-Decides a b).1 (sym ((bytes_eq-Decides b a).0 same)) in cc
  tested false other = refl

-- where no element passes, none is first
pub none_passes : {X : Type 0} (p : X → Bool) (xs : List X) → list_any p xs ≡ false → prefix_len (λ x. not (p x)) xs ≡ length xs
none_passes p [] none = refl
none_passes p (x ∷ xs) none =
    let n = neither (p x) (list_any p xs) none in
    let rest = none_passes p xs n.1 in
    rw n.0 (omega arith)

pub no_position : {X : Type 0} (p : X → Bool) (xs : List X) → list_any p xs ≡ false → position p xs ≡ None
no_position p xs none = let e = none_passes p xs none in let f : nat_lt (prefix_len (λ x. not (p x)) xs) (length xs) ≡ false = grind arith in rw f refl

fresh_more : (so_far : List Let) (l : Let) (lets : List Let) → list_any (λ x. list_any (λ e. bytes_eq x.name e.name) so_far) lets ≡ false
    → list_any (λ x. bytes_eq l.name x.name) lets ≡ false → list_any (λ x. list_any (λ e. bytes_eq x.name e.name) (so_far ++ l ∷ [])) lets ≡ false
fresh_more so_far l [] fresh other = refl
fresh_more so_far l (x ∷ lets) fresh other =
    let f = neither (list_any (λ e. bytes_eq x.name e.name) so_far) _ fresh in
    let o = neither (bytes_eq l.name x.name) _ other in
    let rest = fresh_more so_far l lets f.1 o.1 in
    let here : list_any (λ e. bytes_eq x.name e.name) (so_far ++ l ∷ []) ≡ false =
    list_any-append (λ e. bytes_eq x.name e.name) so_far (l ∷ []) ∙ (rw f.0 (rw (bytes_differ l.name x.name o.0) refl)) in
    rw here rest

pub lets_fit : (lets so_far : List Let) (uses : Uses) → has_bad_name lets ≡ false → list_any (λ l. not (is_key l.key)) lets ≡ false
    → list_any (λ x. list_any (λ e. bytes_eq x.name e.name) so_far) lets ≡ false → has_name_twice lets ≡ false
    → length (after with_let (so_far, uses) lets).1 ≤ 16 → InTurn with_let IsFitLet (so_far, uses) lets
lets_fit [] so_far uses names keys fresh once room = tt
lets_fit (l ∷ lets) so_far uses names keys fresh once room =
    let n = neither (not (is_name l.name)) (has_bad_name lets) names in
    let k = neither (not (is_key l.key)) _ keys in
    let f = neither (list_any (λ e. bytes_eq l.name e.name) so_far) _ fresh in
    let o = neither (list_any (λ other. bytes_eq l.name other.name) lets) (has_name_twice lets) once in
    let more = with_keys_keeps false (map (λ l. l.key) lets) (used uses l.key false) in
    let all = ap length (lets_uses lets (so_far ++ l ∷ []) (used uses l.key false)) in (
      record {
        name = name_fits l.name (not_false (is_name l.name) n.0);
        new = no_position (λ e. bytes_eq l.name e.name) so_far f.0;
        key = key_fits false uses l.key (not_false (is_key l.key) k.0) (omega arith);
      },
      lets_fit lets (so_far ++ l ∷ []) (used uses l.key false) n.1 k.1 (fresh_more so_far l lets f.1 o.0) o.1 room,
    )

nothing_fresh : (lets : List Let) → list_any (λ (x : Let). list_any (λ (e : Let). bytes_eq x.name e.name) []) lets ≡ false
nothing_fresh [] = refl
nothing_fresh (l ∷ lets) = nothing_fresh lets

pub select_fits : (uses : Uses) (s : Select) → is_many (length (selected_names s)) ≡ false → list_any (λ key. not (is_key key)) (selected_keys s) ≡ false
    → length (uses_after_select uses s) ≤ 16 → IsFitSelect uses s
select_fits uses Nothing few keys room = tt
select_fits uses (Names names) few keys room = at_most (length names) few
select_fits uses (Get key) few keys room =
    let k = neither (not (is_key key)) false keys in
    key_fits false uses key (not_false (is_key key) k.0) room

term_fits : (t : Term) → is_bad_text t ≡ false → IsFitTerm t
term_fits (Number number) good = tt
term_fits (Name name) good = tt
term_fits Null good = tt
term_fits (Text text) good =
    let p = each_of (nat_le (length text) 255 && list_all is_plain text) (is_utf8 text) (not_false (is_text_value text) good) in
    p.0

parts_fit : (so_far parts : List Part) → mentions_bad_text parts ≡ false → InTurn at_end IsFitPart so_far parts
parts_fit so_far [] good = tt
parts_fit so_far (part ∷ parts) good =
    let g = neither (is_bad_text part.term) (mentions_bad_text parts) good in
    (term_fits part.term g.0, parts_fit (at_end so_far part) parts g.1)

sum_fits : (sum : List Part) → is_long sum ≡ false → mentions_bad_text sum ≡ false → IsFitSum sum
sum_fits sum short good = record { few = at_most (length sum) short; terms = parts_fit [] sum good }

guard_fits : (c : Condition) → condition_has is_long c ≡ false → condition_has mentions_bad_text c ≡ false → IsFitCondition c
guard_fits (Compare op left right) short good =
    let s = neither (is_long left) (is_long right) short in
    let g = neither (mentions_bad_text left) (mentions_bad_text right) good in
    (sum_fits left s.0 g.0, sum_fits right s.1 g.1)
guard_fits (IsNull name) short good = tt
guard_fits (IsNotNull name) short good = tt

pub guards_fit : (guards so_far : List Condition) → list_any (condition_has is_long) guards ≡ false → list_any (condition_has mentions_bad_text) guards ≡ false
    → InTurn at_end ThisCondition so_far guards
guards_fit [] so_far short good = tt
guards_fit (c ∷ guards) so_far short good =
    let s = neither (condition_has is_long c) _ short in
    let g = neither (condition_has mentions_bad_text c) _ good in
    (guard_fits c s.0 g.0, guards_fit guards (so_far ++ c ∷ []) s.1 g.1)

update_fits : (so_far : List Update × Uses) (u : Update) → is_key (updated_key u) ≡ true → update_has is_long u ≡ false → update_has mentions_bad_text u ≡ false
    → length (used so_far.1 (key_written u) true) ≤ 16 → IsFitUpdate so_far u
update_fits so_far (Set key value) good short valued room = (key_fits true so_far.1 key good room, sum_fits value short valued)
update_fits so_far (Delete key) good short valued room = key_fits true so_far.1 key good room

pub updates_fit : (updates so_far : List Update) (uses : Uses) → list_any (λ u. not (is_key (updated_key u))) updates ≡ false → list_any (update_has is_long) updates ≡ false
    → list_any (update_has mentions_bad_text) updates ≡ false → length (after with_update (so_far, uses) updates).1 ≤ 16 → InTurn with_update IsFitUpdate (so_far, uses) updates
updates_fit [] so_far uses keys short valued room = tt
updates_fit (u ∷ updates) so_far uses keys short valued room =
    let k = neither (not (is_key (updated_key u))) _ keys in
    let s = neither (update_has is_long u) _ short in
    let v = neither (update_has mentions_bad_text u) _ valued in
    let more = with_keys_keeps true (map updated_key updates) (used uses (key_written u) true) in
    let all = ap length (updates_uses updates (so_far ++ u ∷ []) (used uses (key_written u) true)) in (
      update_fits (so_far, uses) u (not_false (is_key (updated_key u)) k.0) s.0 v.0 (omega arith),
      updates_fit updates (so_far ++ u ∷ []) (used uses (key_written u) true) k.1 s.1 v.1 room,
    )

-- an element of a list of which none passes
passes_not : {X : Type 0} (p : X → Bool) (xs : List X) (n : ℕ) (x : X) → list_any p xs ≡ false → slice_get xs n ≡ Some x → p x ≡ false
passes_not p [] n x none at = cc
passes_not p (y ∷ xs) zero x none at = let same : y ≡ x = cc in subst (λ x. p x ≡ false) same (neither (p y) (list_any p xs) none).0
passes_not p (y ∷ xs) (suc n) x none at = passes_not p xs n x (neither (p y) (list_any p xs) none).1 at

first_of_name : (lets : List Let) (n : ℕ) (l : Let) → has_name_twice lets ≡ false → slice_get lets n ≡ Some l → prefix_len (λ e. not (bytes_eq l.name e.name)) lets ≡ n
first_of_name [] n l once at = cc
first_of_name (x ∷ lets) zero l once at =
    let same : x ≡ l = cc in
    let here : bytes_eq l.name x.name ≡ true = (bytes_eq-Decides l.name x.name).1 (ap (λ x. x.name) (sym same)) in
    rw here refl
first_of_name (x ∷ lets) (suc n) l once at =
    let o = neither (list_any (λ other. bytes_eq x.name other.name) lets) (has_name_twice lets) once in
    let here : bytes_eq l.name x.name ≡ false = bytes_differ x.name l.name (passes_not (λ other. bytes_eq x.name other.name) lets n l o.0 at) in
    let rest = first_of_name lets n l o.1 at in
    rw here (omega arith)

pub names_lead : (lets : List Let) → has_bad_name lets ≡ false → has_name_twice lets ≡ false → AreNamed lets
names_lead lets names once =
    record {
      free = λ number l at. name_fits l.name (not_false (is_name l.name) (passes_not (λ l. not (is_name l.name)) lets number l names at));
      leads = λ number l at.
          let first = first_of_name lets number l once at in
          let in_range : nat_lt (prefix_len (λ e. not (bytes_eq l.name e.name)) lets) (length lets) ≡ true = rw first (lt-ltb number (length lets) (slice_get_within lets number l at)) in
          rw in_range (ap Some first);
    }

pub some_keys : (n : ℕ) → (n == 0) ≡ false → 1 ≤ n
some_keys n is = grind arith

pub none_is_zero : (n : ℕ) → 1 ≤ n → (n == 0) ≡ false
none_is_zero n some = grind arith

pub fits_from_rules : (parts : BodyParts) → IsBody parts → AreNamed parts.lets × IsFitBody parts
fits_from_rules parts body =
    let o = IsBody-keeps parts body in
    let w = neither (has_bad_name parts.lets) (has_bad_key parts) o.worded in
    let many = neither _ (is_many (length (footprint_of parts))) o.few in
    let m4 = neither _ (some_expression is_long parts) many.0 in
    let m3 = neither _ (is_many (length parts.updates)) m4.0 in
    let m2 = neither _ (is_many (length parts.guards)) m3.0 in
    let m1 = neither (is_many (length parts.lets)) (is_many (length (selected_names parts.select))) m2.0 in
    let long = neither (list_any (condition_has is_long) parts.guards) (list_any (update_has is_long) parts.updates) m4.1 in
    let valued = neither (list_any (condition_has mentions_bad_text) parts.guards) (list_any (update_has mentions_bad_text) parts.updates) o.texts in
    let k2 = neither _ (list_any (λ update. not (is_key (updated_key update))) parts.updates) w.1 in
    let k1 = neither (list_any (λ l. not (is_key l.key)) parts.lets) (list_any (λ key. not (is_key key)) (selected_keys parts.select)) k2.0 in
    let uses = (after with_let ([], []) parts.lets).1 in
    let others = uses_after_select uses parts.select in
    let all = (after with_update ([], others) parts.updates).1 in
    let total : length all ≤ 16 = subst (λ uses. length uses ≤ 16) (sym (all_uses parts)) (at_most (length (footprint_of parts)) many.1) in
    let before_updates : length others ≤ 16 =
    (let e = ap length (updates_uses parts.updates [] others) in let h = with_keys_keeps true (map updated_key parts.updates) others in omega arith) in
    let before_select : length uses ≤ 16 =
    (let h = select_keeps uses parts.select in omega arith) in
    let keys : 1 ≤ length (read_keys parts ++ written_keys parts) = some_keys (length (read_keys parts ++ written_keys parts)) o.keyed in (
      names_lead parts.lets w.0 o.once,
      record {
        few_lets = at_most (length parts.lets) m1.0;
        lets = lets_fit parts.lets [] [] w.0 k1.0 (nothing_fresh parts.lets) o.once before_select;
        select = select_fits uses parts.select m1.1 k1.1 before_updates;
        few_guards = at_most (length parts.guards) m2.1;
        guards = guards_fit parts.guards [] long.0 valued.0;
        few_updates = at_most (length parts.updates) m3.1;
        updates = updates_fit parts.updates [] others k2.1 long.1 valued.1 total;
        some_key = none_is_zero (length all) (subst (λ uses. 1 ≤ length uses) (sym (all_uses parts)) (some_used (read_keys parts) (written_keys parts) keys));
      },
    ) where
      select_keeps : (uses : Uses) (s : Select) → length uses ≤ length (uses_after_select uses s)
      select_keeps uses Nothing = omega arith
      select_keeps uses (Names names) = omega arith
      select_keeps uses (Get key) = used_keeps uses key false

      some_used : (reads writes : List Key) → 1 ≤ length (reads ++ writes) → 1 ≤ length (with_keys true (with_keys false [] reads) writes)
      some_used [] writes some = with_keys_some true writes [] some
      some_used (key ∷ reads) writes some =
          let r = with_keys_some false (key ∷ reads) [] (omega arith) in
          let w = with_keys_keeps true writes (with_keys false [] (key ∷ reads)) in
          omega arith
