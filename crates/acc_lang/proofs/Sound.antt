-- What is spelled and fits keeps the rules of bodies.
use Rattle.std.proofs.Common.{◌≡◌, ℕ, Bool, true, false, not, cond, List, [], ◌∷◌, length, codes, nat_le, Some, IsUtf8, refl, ap, subst, ⊎_elim, arith}
use Rattle.std.specs.List.{list_any, list_all}
use Rattle.std.specs.Str.{is_utf8}
use Rattle.std.proofs.lemmas.Option.{slice_get_within}
use Rattle.std.proofs.lemmas.Bool.{and_parts}
use Rattle.acc_token.specs.Tokens.{Word, Mark, Number as Digits, Quoted, is_plain}
use Rattle.acc_value.specs.declared.key.Key.{Key}
use Rattle.acc_txn.specs.declared.parts.Let.{Let}
use Rattle.acc_txn.specs.declared.parts.Select.{Select}
use Rattle.acc_txn.specs.declared.parts.Select.TheVariants.{Nothing, Names, Get}
use Rattle.acc_txn.specs.declared.parts.Term.{Term}
use Rattle.acc_txn.specs.declared.parts.Term.TheVariants.{Number, Name, Null, Text}
use Rattle.acc_txn.specs.declared.parts.Part.{Part}
use Rattle.acc_txn.specs.declared.parts.Condition.{Condition}
use Rattle.acc_txn.specs.declared.parts.Condition.TheVariants.{Compare, IsNull, IsNotNull}
use Rattle.acc_txn.specs.declared.parts.Update.{Update}
use Rattle.acc_txn.specs.declared.parts.Update.TheVariants.{Set, Delete}
use Rattle.acc_txn.specs.Words.{is_lower_word, is_name, is_key, is_text_value}
use Rattle.acc_txn.specs.Uses.{selected_keys, updated_key}
use Rattle.acc_txn.specs.Rules.{is_unbound, term_is_unbound, is_bad_text, mentions_bad_text, mentions_unbound, asks_unbound, condition_has, update_has, is_malformed, selects_nothing, selected_names}
use Rattle.acc_lang.specs.Faults.{has_form}
use Rattle.acc_lang.specs.Grammar.{Each, Behind, LetSpelled, NameSpelled, SelectSpelled, TermSpelled, PartSpelled, ExpressionSpelled, operator_mark, ConditionSpelled, UpdateSpelled}
use Rattle.acc_lang.proofs.Fits.{IsFreeWord, IsFitKey, IsFitLet, IsFitSelect, IsFitTerm, IsFitPart, IsFitSum, IsFitCondition, IsFitUpdate, ThisCondition, Uses, InTurn, at_end, with_let, with_update}
use Rattle.acc_lang.proofs.Saying.{all_say}

-- names and keys
name_is : (name : List ℕ) → IsFreeWord name → is_lower_word name ≡ true → is_name name ≡ true
name_is name free lower =
    let few : nat_le (length name) 32 ≡ true = (let f = free.short in grind arith) in
    rw few (rw lower (rw free.free refl))

key_is : (writes : Bool) (uses : Uses) (key : Key) → IsFitKey writes uses key → is_lower_word key.table ≡ true → is_utf8 key.key ≡ true → is_key key ≡ true
key_is writes uses key fit lower utf8 =
    let p = and_parts (nat_le 1 (length key.key)) (nat_le (length key.key) 64) fit.form in
    rw (name_is key.table fit.table lower) (rw p.0 (rw p.1 (rw utf8 refl)))

value_is : (text : List ℕ) → has_form false text ≡ true → is_utf8 text ≡ true → is_text_value text ≡ true
value_is text form utf8 = let p = and_parts (nat_le (length text) 255) (list_all is_plain text) form in rw p.0 (rw p.1 (rw utf8 refl))

pub name_bound : (lets : List Let) (number : ℕ) (from to : List ℕ) → NameSpelled lets number from to → IsUtf8 from → (is_unbound (length lets) number ≡ false) × IsUtf8 to
name_bound lets number from to spelled utf8 =
    let within = slice_get_within lets number spelled.0 spelled.1 in
    let bound : is_unbound (length lets) number ≡ false = grind arith in
    (bound, (all_say (Word spelled.0.name ∷ Mark (codes ".") ∷ Word (codes "v") ∷ []) from to spelled.2 utf8).1)

-- a sum mentions bound names alone, is well formed, and its texts say what they may
pub record IsSoundSum (lets : ℕ) (sum : List Part) (to : List ℕ) : Type 0 where
  pub mentions : mentions_unbound lets sum ≡ false
  pub shape : is_malformed sum ≡ false
  pub values : mentions_bad_text sum ≡ false
  pub utf8 : IsUtf8 to

-- conditions mention bound names alone, and their sums are well formed
pub record IsSoundCondition (lets : ℕ) (c : Condition) : Type 0 where
  pub mentions : condition_has (mentions_unbound lets) c ≡ false
  pub asks : asks_unbound lets c ≡ false
  pub shape : condition_has is_malformed c ≡ false
  pub values : condition_has mentions_bad_text c ≡ false

pub record AreSoundConditions (lets : ℕ) (guards : List Condition) : Type 0 where
  pub mentions : list_any (condition_has (mentions_unbound lets)) guards ≡ false
  pub asks : list_any (asks_unbound lets) guards ≡ false
  pub shape : list_any (condition_has is_malformed) guards ≡ false
  pub values : list_any (condition_has mentions_bad_text) guards ≡ false

-- updates write good keys, mention bound names alone, and their sums are well formed
pub record IsSoundUpdate (lets : ℕ) (u : Update) : Type 0 where
  pub mentions : update_has (mentions_unbound lets) u ≡ false
  pub shape : update_has is_malformed u ≡ false
  pub values : update_has mentions_bad_text u ≡ false
  pub key : not (is_key (updated_key u)) ≡ false

pub record AreSoundUpdates (lets : ℕ) (updates : List Update) : Type 0 where
  pub mentions : list_any (update_has (mentions_unbound lets)) updates ≡ false
  pub shape : list_any (update_has is_malformed) updates ≡ false
  pub values : list_any (update_has mentions_bad_text) updates ≡ false
  pub keys : list_any (λ u. not (is_key (updated_key u))) updates ≡ false

-- LETs and the select
pub record AreSoundLets (lets : List Let) : Type 0 where
  pub names : list_any (λ (l : Let). not (is_name l.name)) lets ≡ false
  pub keys : list_any (λ (l : Let). not (is_key l.key)) lets ≡ false

names_sound : (lets : List Let) (names : List ℕ) (from to : List ℕ) → Each (Behind (Mark (codes ",") ∷ []) (NameSpelled lets)) names from to → IsUtf8 from
    → (list_any (is_unbound (length lets)) names ≡ false) × IsUtf8 to
names_sound lets [] from to spelled utf8 = (refl, subst IsUtf8 spelled utf8)
names_sound lets (name ∷ names) from to spelled utf8 =
    let a = all_say (Mark (codes ",") ∷ []) from spelled.1.0 spelled.1.1 utf8 in
    let n = name_bound lets name spelled.1.0 spelled.0 spelled.1.2 a.1 in
    let others = names_sound lets names spelled.0 to spelled.2 n.1 in
    (rw n.0 others.0, others.1)

pub record IsSoundSelect (lets : ℕ) (s : Select) : Type 0 where
  pub bound : list_any (is_unbound lets) (selected_names s) ≡ false
  pub keys : list_any (λ key. not (is_key key)) (selected_keys s) ≡ false
  pub shape : selects_nothing s ≡ false

pub lets_sound : (so_far : List Let × Uses) (lets : List Let) (from to : List ℕ) → Each LetSpelled lets from to → InTurn with_let IsFitLet so_far lets → IsUtf8 from
    → AreSoundLets lets × IsUtf8 to
lets_sound so_far [] from to spelled fit utf8 = (record { names = refl; keys = refl }, subst IsUtf8 spelled utf8)
lets_sound so_far (l ∷ lets) from to spelled fit utf8 =
    let a = all_say
    (Word (codes "let") ∷ Word l.name ∷ Mark (codes "=") ∷ Mark (codes "(") ∷ Word (codes "select") ∷ Word (codes "v") ∷ Word (codes "from")
    ∷ Word l.key.table ∷ Word (codes "where") ∷ Word (codes "k") ∷ Mark (codes "=") ∷ Quoted l.key.key true ∷ Mark (codes ")") ∷ Mark (codes ";") ∷ [])
    from spelled.0 spelled.1 utf8 in
    let t = a.0.1.1.1.1.1.1 in
    let name : not (is_name l.name) ≡ false = ap not (name_is l.name fit.0.name a.0.1.0) in
    let key : not (is_key l.key) ≡ false = ap not (key_is false so_far.1 l.key fit.0.key t.1.0 t.1.1.1.1.1.0) in
    let others = lets_sound (with_let so_far l) lets spelled.0 to spelled.2 fit.1 a.1 in
    (record { names = rw name others.0.names; keys = rw key others.0.keys }, others.1)

pub select_sound : (lets : List Let) (uses : Uses) (s : Select) (from to : List ℕ) → SelectSpelled lets s from to → IsFitSelect uses s → IsUtf8 from
    → IsSoundSelect (length lets) s × IsUtf8 to
select_sound lets uses Nothing from to spelled fit utf8 = (record { bound = refl; keys = refl; shape = refl }, subst IsUtf8 spelled utf8)
select_sound lets uses (Names []) from to spelled fit utf8 = absurd spelled
select_sound lets uses (Names (name ∷ names)) from to spelled fit utf8 =
    let w = all_say (Word (codes "select") ∷ []) from spelled.2.0 spelled.2.1 utf8 in
    let n = name_bound lets name spelled.2.0 spelled.0 spelled.2.2 w.1 in
    let others = names_sound lets names spelled.0 spelled.1 spelled.3 n.1 in
    let end = all_say (Mark (codes ";") ∷ []) spelled.1 to spelled.4 others.1 in
    (record { bound = rw n.0 others.0; keys = refl; shape = grind arith }, end.1)
select_sound lets uses (Get key) from to spelled fit utf8 =
    let a = all_say
    (Word (codes "select") ∷ Word (codes "v") ∷ Word (codes "from") ∷ Word key.table ∷ Word (codes "where") ∷ Word (codes "k") ∷ Mark (codes "=") ∷ Quoted key.key true ∷ Mark (codes ";") ∷ [])
    from to spelled utf8 in
    let t = a.0.1.1 in
    let key_good : not (is_key key) ≡ false = ap not (key_is false uses key fit t.1.0 t.1.1.1.1.1.0) in
    (record { bound = refl; keys = rw key_good refl; shape = refl }, a.1)

module _ (texts : Bool) where
  pub term_sound : (lets : List Let) (t : Term) (from to : List ℕ) → TermSpelled texts lets t from to → IsFitTerm t → IsUtf8 from
      → (term_is_unbound (length lets) t ≡ false) × (is_bad_text t ≡ false) × IsUtf8 to
  term_sound lets (Number number) from to spelled fit utf8 = (
    refl,
    refl,
    ⊎_elim
        (λ plainly. (all_say (Digits (Some plainly.0) ∷ []) from to plainly.3 utf8).1)
        (λ minus. (all_say (Mark (codes "-") ∷ Digits (Some minus.0) ∷ []) from to minus.3 utf8).1)
        spelled,
  )
  term_sound lets (Name name) from to spelled fit utf8 = let n = name_bound lets name from to spelled utf8 in (n.0, refl, n.1)
  term_sound lets Null from to spelled fit utf8 = (refl, refl, (all_say (Word (codes "null") ∷ []) from to spelled utf8).1)
  term_sound lets (Text t) from to spelled fit utf8 =
      let a = all_say (Quoted t true ∷ []) from to spelled.1 utf8 in
      (refl, ap not (value_is t fit a.0.0), a.1)

  parts_sound : (lets : List Let) (so_far parts : List Part) (from to : List ℕ) → Each (PartSpelled texts lets) parts from to → InTurn at_end IsFitPart so_far parts → IsUtf8 from
      → (mentions_unbound (length lets) parts ≡ false) × (mentions_bad_text parts ≡ false) × IsUtf8 to
  parts_sound lets so_far [] from to spelled fit utf8 = (refl, refl, subst IsUtf8 spelled utf8)
  parts_sound lets so_far (part ∷ parts) from to spelled fit utf8 =
      let p = spelled.1 in
      let sign = all_say (Mark (cond part.minus (codes "-") (codes "+")) ∷ []) from p.0 p.1 utf8 in
      let t = term_sound lets part.term p.0 spelled.0 p.2 fit.0 sign.1 in
      let others = parts_sound lets (at_end so_far part) parts spelled.0 to spelled.2 fit.1 t.2 in
      (rw t.0 others.0, rw t.1 others.1, others.2)

  pub expression_sound : (lets : List Let) (sum : List Part) (from to : List ℕ) → ExpressionSpelled texts lets sum from to → IsFitSum sum → IsUtf8 from
      → IsSoundSum (length lets) sum to
  expression_sound lets [] from to spelled fit utf8 = absurd spelled
  expression_sound lets (first ∷ parts) from to spelled fit utf8 =
      let t = term_sound lets first.term from spelled.0 spelled.2 fit.terms.0 utf8 in
      let others = parts_sound lets (first ∷ []) parts spelled.0 to spelled.3 fit.terms.1 t.2 in
      record { mentions = rw t.0 others.0; shape = spelled.1; values = rw t.1 others.1; utf8 = others.2 }

  pub condition_sound : (lets : List Let) (c : Condition) (from to : List ℕ) → ConditionSpelled texts lets c from to → IsFitCondition c → IsUtf8 from
      → IsSoundCondition (length lets) c × IsUtf8 to
  condition_sound lets (Compare op left right) from to spelled fit utf8 =
      let l = expression_sound lets left from spelled.0 spelled.1 fit.0 utf8 in
      let o = all_say (Mark (operator_mark op) ∷ []) spelled.0 spelled.2.0 spelled.2.1 l.utf8 in
      let r = expression_sound lets right spelled.2.0 to spelled.2.2 fit.1 o.1 in
      (record { mentions = rw l.mentions r.mentions; asks = refl; shape = rw l.shape r.shape; values = rw l.values r.values }, r.utf8)
  condition_sound lets (IsNull name) from to spelled fit utf8 =
      let n = name_bound lets name from spelled.0 spelled.1 utf8 in (
        record { mentions = refl; asks = n.0; shape = refl; values = refl },
        (all_say (Word (codes "is") ∷ Word (codes "null") ∷ []) spelled.0 to spelled.2 n.1).1,
      )
  condition_sound lets (IsNotNull name) from to spelled fit utf8 =
      let n = name_bound lets name from spelled.0 spelled.1 utf8 in (
        record { mentions = refl; asks = n.0; shape = refl; values = refl },
        (all_say (Word (codes "is") ∷ Word (codes "not") ∷ Word (codes "null") ∷ []) spelled.0 to spelled.2 n.1).1,
      )

  pub guards_sound : (lets : List Let) (so_far guards : List Condition) (from to : List ℕ) → Each (Behind (Word (codes "and") ∷ []) (ConditionSpelled texts lets)) guards from to
      → InTurn at_end ThisCondition so_far guards → IsUtf8 from → AreSoundConditions (length lets) guards × IsUtf8 to
  guards_sound lets so_far [] from to spelled fit utf8 = (record { mentions = refl; asks = refl; shape = refl; values = refl }, subst IsUtf8 spelled utf8)
  guards_sound lets so_far (c ∷ guards) from to spelled fit utf8 =
      let w = all_say (Word (codes "and") ∷ []) from spelled.1.0 spelled.1.1 utf8 in
      let s = condition_sound lets c spelled.1.0 spelled.0 spelled.1.2 fit.0 w.1 in
      let others = guards_sound lets (at_end so_far c) guards spelled.0 to spelled.2 fit.1 s.1 in (
        record {
          mentions = rw s.0.mentions others.0.mentions;
          asks = rw s.0.asks others.0.asks;
          shape = rw s.0.shape others.0.shape;
          values = rw s.0.values others.0.values;
        },
        others.1,
      )

  pub update_sound : (lets : List Let) (so_far : List Update × Uses) (u : Update) (from to : List ℕ) → UpdateSpelled texts lets u from to → IsFitUpdate so_far u → IsUtf8 from
      → IsSoundUpdate (length lets) u × IsUtf8 to
  update_sound lets so_far (Set key value) from to spelled fit utf8 =
      let a = all_say (Word (codes "update") ∷ Word key.table ∷ Word (codes "set") ∷ Word (codes "v") ∷ Mark (codes "=") ∷ []) from spelled.1.0 spelled.1.1 utf8 in
      let e = expression_sound lets value spelled.1.0 spelled.0 spelled.1.2 fit.1 a.1 in
      let b = all_say (Word (codes "where") ∷ Word (codes "k") ∷ Mark (codes "=") ∷ Quoted key.key true ∷ Mark (codes ";") ∷ []) spelled.0 to spelled.2 e.utf8 in
      (record { mentions = e.mentions; shape = e.shape; values = e.values; key = ap not (key_is true so_far.1 key fit.0 a.0.1.0 b.0.1.1.1.0) }, b.1)
  update_sound lets so_far (Delete key) from to spelled fit utf8 =
      let a = all_say
      (Word (codes "delete") ∷ Word (codes "from") ∷ Word key.table ∷ Word (codes "where") ∷ Word (codes "k") ∷ Mark (codes "=") ∷ Quoted key.key true ∷ Mark (codes ";") ∷ [])
      from to spelled utf8 in
      (record { mentions = refl; shape = refl; values = refl; key = ap not (key_is true so_far.1 key fit a.0.1.1.0 a.0.1.1.1.1.1.1.0) }, a.1)

  pub updates_sound : (lets : List Let) (so_far : List Update × Uses) (updates : List Update) (from to : List ℕ) → Each (UpdateSpelled texts lets) updates from to
      → InTurn with_update IsFitUpdate so_far updates → IsUtf8 from → AreSoundUpdates (length lets) updates × IsUtf8 to
  updates_sound lets so_far [] from to spelled fit utf8 = (record { mentions = refl; shape = refl; values = refl; keys = refl }, subst IsUtf8 spelled utf8)
  updates_sound lets so_far (u ∷ updates) from to spelled fit utf8 =
      let s = update_sound lets so_far u from spelled.0 spelled.1 fit.0 utf8 in
      let others = updates_sound lets (with_update so_far u) updates spelled.0 to spelled.2 fit.1 s.1 in
      (record { mentions = rw s.0.mentions others.0.mentions; shape = rw s.0.shape others.0.shape; values = rw s.0.values others.0.values; keys = rw s.0.key others.0.keys }, others.1)
