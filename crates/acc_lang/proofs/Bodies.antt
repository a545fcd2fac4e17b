-- What is read from a UTF-8 text keeps the rules of bodies.
use Rattle.std.proofs.Common.{◌≡◌, ◌≤◌, ◌+◌, ◌==◌, ℕ, Bool, true, false, not, ◌||◌, ◌&&◌, cond, List, [], ◌∷◌, ◌++◌, length, codes, nat_lt, Some, None, position, IsUtf8, Ok, refl, sym, ap, ◌∙◌, subst, arith}
use Rattle.std.proofs.Math.Bool.{and-false}
use Rattle.std.specs.List.{list_any, prefix_len}
use Rattle.std.specs.Str.{bytes_eq}
use Rattle.std.proofs.lemmas.List.Folds.{list_any-append}
use Rattle.acc_token.specs.Tokens.{Word}
use Rattle.acc_value.specs.declared.key.Key.{Key}
use Rattle.acc_value.specs.Footprint.{used}
use Rattle.acc_txn.specs.declared.parts.Let.{Let}
use Rattle.acc_txn.specs.declared.parts.Select.{Select}
use Rattle.acc_txn.specs.declared.parts.Select.TheVariants.{Nothing, Names, Get}
use Rattle.acc_txn.specs.declared.parts.Condition.{Condition}
use Rattle.acc_txn.specs.declared.parts.Condition.TheVariants.{Compare, IsNull, IsNotNull}
use Rattle.acc_txn.specs.declared.parts.Update.{Update}
use Rattle.acc_txn.specs.declared.parts.Update.TheVariants.{Set, Delete}
use Rattle.acc_txn.specs.declared.parts.BodyParts.{BodyParts}
use Rattle.acc_txn.specs.Uses.{read_keys, written_keys, with_keys, footprint_of}
use Rattle.acc_txn.specs.Rules.{is_many, is_long, condition_has, update_has, selected_names, has_name_twice, IsBody}
use Rattle.acc_lang.specs.Reading.{key_written, reading}
use Rattle.acc_lang.specs.Grammar.{ActionSpelled, Spelled, IsTextOf}
use Rattle.acc_lang.proofs.Fits.{ThisCondition, IsFitLet, IsFitSelect, IsFitCondition, IsFitUpdate, IsFitBody, Uses, after, InTurn, at_end, with_let, with_update, uses_after_select}
use Rattle.acc_lang.proofs.FoundBody.{reading_found}
use Rattle.acc_lang.proofs.Counts.{all_uses}
use Rattle.acc_lang.proofs.Obeys.{neither, not_many, at_most, is_body, bytes_differ, none_is_zero}
use Rattle.acc_lang.proofs.Saying.{all_say}
use Rattle.acc_lang.proofs.Sound.{AreSoundConditions, AreSoundUpdates, lets_sound, select_sound, condition_sound, guards_sound, update_sound, updates_sound}

-- where an element passes, one is first
first_passes : {X : Type 0} (p : X → Bool) (xs : List X) → list_any p xs ≡ true → nat_lt (prefix_len (λ x. not (p x)) xs) (length xs) ≡ true
first_passes p [] some = cc
first_passes p (x ∷ xs) some = tested (p x) refl some (first_passes p xs) where
  tested : (b : Bool) → p x ≡ b → (b || list_any p xs) ≡ true → (list_any p xs ≡ true → nat_lt (prefix_len (λ x. not (p x)) xs) (length xs) ≡ true)
      → nat_lt (cond (not b) (1 + prefix_len (λ x. not (p x)) xs) 0) (length (x ∷ xs)) ≡ true
  tested true passes some others = grind arith
  tested false fails some others = let h = others some in grind arith

none_any : {X : Type 0} (p : X → Bool) (xs : List X) → position p xs ≡ None → list_any p xs ≡ false
none_any p xs none = tested (list_any p xs) refl where
  tested : (b : Bool) → list_any p xs ≡ b → b ≡ false
  tested true some = let first = first_passes p xs some in let found : position p xs ≡ Some (prefix_len (λ x. not (p x)) xs) = rw first refl in cc
  tested false none = refl

merged : (so_far : List Let) (l : Let) (lets : List Let) → list_any (λ (e : Let). bytes_eq l.name e.name) so_far ≡ false
    → list_any (λ (e : Let). list_any (λ (x : Let). bytes_eq e.name x.name) lets) so_far ≡ false
    → list_any (λ (e : Let). bytes_eq e.name l.name || list_any (λ (x : Let). bytes_eq e.name x.name) lets) so_far ≡ false
merged [] l lets here others = refl
merged (e ∷ so_far) l lets here others =
    let h = neither (bytes_eq l.name e.name) _ here in
    let o = neither (list_any (λ (x : Let). bytes_eq e.name x.name) lets) _ others in
    rw (bytes_differ l.name e.name h.0) (rw o.0 (merged so_far l lets h.1 o.1))

nothing_any : (so_far : List Let) → list_any (λ (e : Let). list_any (λ (x : Let). bytes_eq e.name x.name) []) so_far ≡ false
nothing_any [] = refl
nothing_any (e ∷ so_far) = nothing_any so_far

lets_distinct : (so_far : List Let) (uses : Uses) (lets : List Let) → InTurn with_let IsFitLet (so_far, uses) lets
    → (has_name_twice lets ≡ false) × (list_any (λ (e : Let). list_any (λ (x : Let). bytes_eq e.name x.name) lets) so_far ≡ false)
lets_distinct so_far uses [] fit = (refl, nothing_any so_far)
lets_distinct so_far uses (l ∷ lets) fit =
    let others = lets_distinct (so_far ++ l ∷ []) (used uses l.key false) lets fit.1 in
    let split = neither (list_any (λ (e : Let). list_any (λ (x : Let). bytes_eq e.name x.name) lets) so_far) _
    (sym (list_any-append (λ (e : Let). list_any (λ (x : Let). bytes_eq e.name x.name) lets) so_far (l ∷ [])) ∙ others.1) in
    let here = neither (list_any (λ (x : Let). bytes_eq l.name x.name) lets) false split.1 in
    (rw here.0 others.0, merged so_far l lets (none_any (λ (e : Let). bytes_eq l.name e.name) so_far fit.0.new) split.0)

-- counts of keys
lets_room : (so_far : List Let × Uses) (lets : List Let) → InTurn with_let IsFitLet so_far lets → length so_far.1 ≤ 16 → length (after with_let so_far lets).1 ≤ 16
lets_room so_far [] fit few = few
lets_room so_far (l ∷ lets) fit few = lets_room (with_let so_far l) lets fit.1 (at_most (length (used so_far.1 l.key false)) fit.0.key.room)

select_room : (uses : Uses) (s : Select) → IsFitSelect uses s → length uses ≤ 16 → length (uses_after_select uses s) ≤ 16
select_room uses Nothing fit few = few
select_room uses (Names names) fit few = few
select_room uses (Get key) fit few = at_most (length (used uses key false)) fit.room

update_room : (so_far : List Update × Uses) (u : Update) → IsFitUpdate so_far u → length (used so_far.1 (key_written u) true) ≤ 16
update_room so_far (Set key value) fit = at_most (length (used so_far.1 key true)) fit.0.room
update_room so_far (Delete key) fit = at_most (length (used so_far.1 key true)) fit.room

updates_room : (so_far : List Update × Uses) (updates : List Update) → InTurn with_update IsFitUpdate so_far updates → length so_far.1 ≤ 16 → length (after with_update so_far updates).1 ≤ 16
updates_room so_far [] fit few = few
updates_room so_far (u ∷ updates) fit few = updates_room (with_update so_far u) updates fit.1 (update_room so_far u fit.0)

-- counts of terms
condition_short : (c : Condition) → IsFitCondition c → condition_has is_long c ≡ false
condition_short (Compare op left right) fit = rw (not_many (length left) fit.0.few) (not_many (length right) fit.1.few)
condition_short (IsNull name) fit = refl
condition_short (IsNotNull name) fit = refl

guards_short : (so_far guards : List Condition) → InTurn at_end ThisCondition so_far guards → list_any (condition_has is_long) guards ≡ false
guards_short so_far [] fit = refl
guards_short so_far (c ∷ guards) fit = rw (condition_short c fit.0) (guards_short (so_far ++ c ∷ []) guards fit.1)

update_short : (so_far : List Update × Uses) (u : Update) → IsFitUpdate so_far u → update_has is_long u ≡ false
update_short so_far (Set key value) fit = not_many (length value) fit.1.few
update_short so_far (Delete key) fit = refl

updates_short : (so_far : List Update × Uses) (updates : List Update) → InTurn with_update IsFitUpdate so_far updates → list_any (update_has is_long) updates ≡ false
updates_short so_far [] fit = refl
updates_short so_far (u ∷ updates) fit = rw (update_short so_far u fit.0) (updates_short (with_update so_far u) updates fit.1)

select_short : (uses : Uses) (s : Select) → IsFitSelect uses s → is_many (length (selected_names s)) ≡ false
select_short uses Nothing fit = refl
select_short uses (Names names) fit = not_many (length names) fit
select_short uses (Get key) fit = refl

no_keys : (reads writes : List Key) → (length (with_keys true (with_keys false [] reads) writes) == 0) ≡ false → (length (reads ++ writes) == 0) ≡ false
no_keys [] [] some = cc
no_keys [] (key ∷ writes) some = none_is_zero (length (key ∷ writes)) (omega arith)
no_keys (key ∷ reads) writes some = none_is_zero (length ((key ∷ reads) ++ writes)) (omega arith)

pub record IsSoundAction (lets : ℕ) (guards : List Condition) (updates : List Update) : Type 0 where
  pub conditions : AreSoundConditions lets guards
  pub changes : AreSoundUpdates lets updates
  pub shape : (nat_lt 0 (length guards) && length updates == 0) ≡ false

-- none of several
none : (a b : Bool) → a ≡ false → b ≡ false → (a || b) ≡ false
none a b left right = rw left right

module _ (texts : Bool) where
  action_sound : (lets : List Let) (uses : Uses) (guards : List Condition) (updates : List Update) (from to : List ℕ) → ActionSpelled texts lets guards updates from to
      → InTurn at_end ThisCondition [] guards → InTurn with_update IsFitUpdate ([], uses) updates → IsUtf8 from → IsSoundAction (length lets) guards updates
  action_sound lets uses [] updates from to spelled fits fit utf8 =
      let u = updates_sound texts lets ([], uses) updates from to spelled fit utf8 in
      record { conditions = record { mentions = refl; asks = refl; shape = refl; values = refl }; changes = u.0; shape = refl }
  action_sound lets uses (guard ∷ guards) [] from to spelled fits fit utf8 = absurd spelled
  action_sound lets uses (guard ∷ guards) (update ∷ updates) from to spelled fits fit utf8 =
      let a = all_say (Word (codes "if") ∷ []) from spelled.5.0 spelled.5.1 utf8 in
      let c = condition_sound texts lets guard spelled.5.0 spelled.0 spelled.5.2 fits.0 a.1 in
      let g = guards_sound texts lets (guard ∷ []) guards spelled.0 spelled.1 spelled.6 fits.1 c.1 in
      let t = all_say (Word (codes "then") ∷ []) spelled.1 spelled.7.0 spelled.7.1 g.1 in
      let f = update_sound texts lets ([], uses) update spelled.7.0 spelled.2 spelled.7.2 fit.0 t.1 in
      let u = updates_sound texts lets (with_update ([], uses) update) updates spelled.2 spelled.3 spelled.8 fit.1 f.1 in
      let some : (length (update ∷ updates) == 0) ≡ false = none_is_zero (length (update ∷ updates)) (omega arith) in
      record {
        conditions = record { mentions = rw c.0.mentions g.0.mentions; asks = rw c.0.asks g.0.asks; shape = rw c.0.shape g.0.shape; values = rw c.0.values g.0.values };
        changes = record { mentions = rw f.0.mentions u.0.mentions; shape = rw f.0.shape u.0.shape; values = rw f.0.values u.0.values; keys = rw f.0.key u.0.keys };
        shape = ap (λ b. nat_lt 0 (length (guard ∷ guards)) && b) some ∙ and-false (nat_lt 0 (length (guard ∷ guards)));
      }

  pub sound : (text : List ℕ) (parts : BodyParts) → IsUtf8 text → Spelled texts text parts → IsFitBody parts → IsBody parts
  sound text parts utf8 spelled fit =
      let begins = all_say (Word (codes "begin") ∷ Word (codes "transaction") ∷ []) text spelled.lets_place spelled.begins utf8 in
      let l = lets_sound ([], []) parts.lets spelled.lets_place spelled.select_place spelled.lets fit.lets begins.1 in
      let uses = (after with_let ([], []) parts.lets).1 in
      let others = uses_after_select uses parts.select in
      let s = select_sound parts.lets uses parts.select spelled.select_place spelled.action_place spelled.select fit.select l.1 in
      let a = action_sound parts.lets others parts.guards parts.updates spelled.action_place spelled.commit_place spelled.action fit.guards fit.updates s.1 in
      let all = (after with_update ([], others) parts.updates).1 in
      let room : length all ≤ 16 = updates_room ([], others) parts.updates fit.updates (select_room uses parts.select fit.select (lets_room ([], []) parts.lets fit.lets (omega arith))) in
      let total : is_many (length (footprint_of parts)) ≡ false = subst (λ uses. is_many (length uses) ≡ false) (all_uses parts) (not_many (length all) room) in
      let keyed : (length (footprint_of parts) == 0) ≡ false = subst (λ uses. (length uses == 0) ≡ false) (all_uses parts) fit.some_key in
      is_body parts record {
        few =
            none _ _
            (none _ _
            (none _ _ (none _ _ (none _ _ (not_many (length parts.lets) fit.few_lets) (select_short uses parts.select fit.select)) (not_many (length parts.guards) fit.few_guards)) (not_many (length parts.updates) fit.few_updates))
            (none _ _ (guards_short [] parts.guards fit.guards) (updates_short ([], others) parts.updates fit.updates)))
            total;
        bound = none _ _ (none _ _ s.0.bound (none _ _ a.conditions.mentions a.changes.mentions)) a.conditions.asks;
        once = (lets_distinct [] [] parts.lets fit.lets).0;
        keyed = no_keys (read_keys parts) (written_keys parts) keyed;
        worded = none _ _ l.0.names (none _ _ (none _ _ l.0.keys s.0.keys) a.changes.keys);
        shaped = none _ _ (none _ _ (none _ _ a.conditions.shape a.changes.shape) s.0.shape) a.shape;
        texts = none _ _ a.conditions.values a.changes.values;
      }

  pub read_sound : (text : List ℕ) (parts : BodyParts) → IsUtf8 text → reading texts text ≡ Ok parts → IsTextOf texts text parts
  read_sound text parts utf8 is = let f = reading_found texts text parts is in (f.0, sound text parts utf8 f.0 f.1)
