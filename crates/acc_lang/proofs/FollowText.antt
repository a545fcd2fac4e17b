-- Each production goes by the tokens from the left.
use Rattle.std.proofs.Common.{◌≡◌, ◌≤◌, ℕ, zero, suc, Bool, true, false, ◌&&◌, not, List, [], ◌∷◌, codes, is_some, unwrap_or, Result, Ok, refl, sym, ap, ◌∙◌, arith}
use Rattle.acc_token.specs.Tokens.{Token, token_at, behind, says_word, says_mark}
use Rattle.acc_value.specs.declared.key.Key.{Key}
use Rattle.acc_value.specs.Footprint.{used}
use Rattle.acc_txn.specs.declared.parts.Let.{Let}
use Rattle.acc_lang.specs.declared.fault.Fault.{Fault}
use Rattle.acc_lang.specs.declared.fault.Standing.{Standing}
use Rattle.acc_lang.specs.Reading.{Reads, ◌>>=◌, step, standing_of, take_word, take_mark, is_quoted, is_free, word_of, text_of, table, key_of, are_many, key_text, where_key, from_key, let_of, new_name, binding, one_let, more_lets, bound_name, named, one_item, more_items, items, begins_get, get}
use Rattle.acc_lang.specs.First.{SameTokens, Seen}
use Rattle.acc_lang.proofs.Following.{Shape, pairs, places, Follows, in_sight, in_turn, nothing, one_token, loose, repeats, same_first, seen_same}

abbrev pub Uses : Type 0
Uses = List (Key × Bool)

-- a value, and what is read after it
module _ {A S : Type 0} (F : List ℕ → Reads A) (t : Shape S) (G : A × List ℕ → Result S Fault) (second : (x : A) → Follows 0 t (λ a. G (x, a))) where
  pub value_then : Follows 1 pairs F → Follows 1 t (λ a. F a >>= G)
  value_then first = in_turn 1 pairs t F G first (λ y. second y.0)

  pub then_value : Follows 1 pairs F → Follows 0 t (λ a. F a >>= G)
  then_value first = loose t (λ a. F a >>= G) (value_then first)

  pub then_some : Follows 0 pairs F → Follows 0 t (λ a. F a >>= G)
  then_some first = in_turn 0 pairs t F G first (λ y. second y.0)

-- where the same two tokens begin a select, the same branch is read
begins_alike : (a b : List ℕ) → token_at a ≡ token_at b → token_at (behind a) ≡ token_at (behind b) → begins_get a ≡ begins_get b
begins_alike a b first second = λ i. says_word (codes "v") (first i) && says_word (codes "from") (second i)

pub begins_seen : (m : ℕ) (a b : List ℕ) → Seen m a b → begins_get a ≡ begins_get b
begins_seen (suc m) a b seen = begins_alike a b seen.0 (same_first m (behind a) (behind b) (seen_same m (behind a) (behind b) seen.1))
begins_seen zero a b seen = tested (says_word (codes "v") (token_at a)) refl where
  tested : (t : Bool) → says_word (codes "v") (token_at a) ≡ t → begins_get a ≡ begins_get b
  tested true is = begins_alike a b seen.0 (seen.1 is)
  tested false is =
      ap (λ t. t && says_word (codes "from") (token_at (behind a))) is
      ∙ ap (λ t. t && says_word (codes "from") (token_at (behind b))) (sym is ∙ ap (says_word (codes "v")) seen.0)

pub begins_same : (m : ℕ) (a b : List ℕ) → 1 ≤ m → SameTokens m a b → begins_get a ≡ begins_get b
begins_same zero a b some same = absurd (omega arith)
begins_same (suc m) a b some same = begins_alike a b same.0 (same_first m (behind a) (behind b) same.1)

-- one token, and what is read after it, which may go by it
module _ {S : Type 0} (as_key : Bool) (t : Shape S) (standing : Token → Standing) (G : Token → List ℕ → Result S Fault) (second : (token : Token) → Follows 0 t (G token)) where
  pub token_then : Follows 1 t (λ a. step as_key (standing (token_at a)) a >>= G (token_at a))
  token_then = in_sight 1 places t (λ a. step as_key (standing (token_at a)) a) G (one_token as_key standing) (λ token y. second token)

pub step_then : {S : Type 0} (as_key : Bool) (t : Shape S) (standing : Token → Standing) (G : List ℕ → Result S Fault) → Follows 0 t G
    → Follows 1 t (λ a. step as_key (standing (token_at a)) a >>= G)
step_then as_key t standing G second = token_then as_key t standing (λ token. G) (λ token. second)

module _ (texts : Bool) where
  pub word_follows : (word : List ℕ) → Follows 1 places (take_word texts word)
  unfolding take_word
  word_follows word = one_token (not texts) (λ token. standing_of (says_word word token) false true)

  mark_follows : (mark : List ℕ) → Follows 1 places (take_mark texts mark)
  unfolding take_mark
  mark_follows mark = one_token (not texts) (λ token. standing_of (says_mark mark token) false true)

  -- a word or a mark, and what is read after it
  module _ {S : Type 0} (t : Shape S) (G : List ℕ → Result S Fault) (second : Follows 0 t G) where
    pub word_then : (word : List ℕ) → Follows 1 t (λ a. take_word texts word a >>= G)
    word_then word = in_turn 1 places t (take_word texts word) G (word_follows word) (λ y. second)

    pub mark_then : (mark : List ℕ) → Follows 1 t (λ a. take_mark texts mark a >>= G)
    mark_then mark = in_turn 1 places t (take_mark texts mark) G (mark_follows mark) (λ y. second)

    pub then_word : (word : List ℕ) → Follows 0 t (λ a. take_word texts word a >>= G)
    then_word word = loose t (λ a. take_word texts word a >>= G) (word_then word)

    pub then_mark : (mark : List ℕ) → Follows 0 t (λ a. take_mark texts mark a >>= G)
    then_mark mark = loose t (λ a. take_mark texts mark a >>= G) (mark_then mark)

  pub table_follows : Follows 1 pairs (table texts)
  unfolding table
  table_follows = token_then (not texts) pairs (λ token. standing_of (is_free token) false true) (λ token rest. Ok (word_of token, rest)) (λ token. nothing (word_of token))

  key_text_follows : (writes : Bool) (uses : Uses) (name : List ℕ) → Follows 1 pairs (key_text texts writes uses name)
  unfolding key_text
  key_text_follows writes uses name =
      token_then true pairs (λ token. standing_of (is_quoted token) (are_many (used uses (key_of name (text_of token)) writes)) true)
      (λ token rest. Ok (key_of name (text_of token), rest)) (λ token. nothing (key_of name (text_of token)))

  pub where_key_follows : (writes : Bool) (uses : Uses) (name : List ℕ) → Follows 1 pairs (where_key texts writes uses name)
  unfolding where_key
  where_key_follows writes uses name =
      word_then pairs _ (then_word pairs _ (then_mark pairs _ (loose pairs (key_text texts writes uses name) (key_text_follows writes uses name)) (codes "=")) (codes "k")) (codes "where")

  pub from_key_follows : (writes : Bool) (uses : Uses) → Follows 1 pairs (from_key texts writes uses)
  unfolding from_key
  from_key_follows writes uses =
      word_then pairs _ (then_value (table texts) pairs _ (λ name. loose pairs (where_key texts writes uses name) (where_key_follows writes uses name)) table_follows) (codes "from")

  new_name_follows : (lets : List Let) → Follows 1 pairs (new_name texts lets)
  unfolding new_name
  new_name_follows lets =
      token_then (not texts) pairs (λ token. standing_of (is_free token) false (not (is_some (let_of lets (word_of token))))) (λ token rest. Ok (word_of token, rest)) (λ token. nothing (word_of token))

  binding_follows : (uses : Uses) (lets : List Let) → Follows 1 pairs (binding texts uses lets)
  unfolding binding
  binding_follows uses lets =
      value_then (new_name texts lets) pairs _
      (λ name. then_mark pairs _ (then_mark pairs _ (then_word pairs _ (then_word pairs _
      (then_value (from_key texts false uses) pairs _ (λ key. then_mark pairs _ (then_mark pairs _ (nothing _) (codes ";")) (codes ")")) (from_key_follows false uses))
      (codes "v")) (codes "select")) (codes "(")) (codes "="))
      (new_name_follows lets)

  one_let_follows : (extra : Bool) (so_far : List Let × Uses) → Follows 1 pairs (one_let texts extra so_far)
  unfolding one_let
  one_let_follows extra so_far =
      step_then (not texts) pairs (λ token. standing_of (says_word (codes "let") token) extra true) _
      (then_value (binding texts so_far.1 so_far.0) pairs _ (λ l. nothing _) (binding_follows so_far.1 so_far.0))

  pub lets_follow : (room : ℕ) (so_far : List Let × Uses) → Follows 0 pairs (more_lets texts room so_far)
  unfolding more_lets
  lets_follow room so_far = repeats (says_word (codes "let")) (one_let texts) (λ extra so_far. loose pairs (one_let texts extra so_far) (one_let_follows extra so_far)) room so_far

  bound_name_follows : (extra : Bool) (lets : List Let) → Follows 1 pairs (bound_name texts extra lets)
  unfolding bound_name
  bound_name_follows extra lets =
      token_then (not texts) pairs (λ token. standing_of (is_free token) extra (is_some (let_of lets (word_of token))))
      (λ token rest. Ok (unwrap_or (let_of lets (word_of token)) 0, rest)) (λ token. nothing (unwrap_or (let_of lets (word_of token)) 0))

  pub named_follows : (extra : Bool) (lets : List Let) → Follows 1 pairs (named texts extra lets)
  unfolding named
  named_follows extra lets =
      value_then (bound_name texts extra lets) pairs _ (λ number. then_mark pairs _ (then_word pairs _ (nothing number) (codes "v")) (codes ".")) (bound_name_follows extra lets)

  one_item_follows : (lets : List Let) (extra : Bool) (so_far : List ℕ) → Follows 1 pairs (one_item texts lets extra so_far)
  unfolding one_item
  one_item_follows lets extra so_far = mark_then pairs _ (then_value (named texts extra lets) pairs _ (λ name. nothing _) (named_follows extra lets)) (codes ",")

  more_items_follow : (lets : List Let) (room : ℕ) (so_far : List ℕ) → Follows 0 pairs (more_items texts lets room so_far)
  unfolding more_items
  more_items_follow lets room so_far =
      repeats (says_mark (codes ",")) (one_item texts lets) (λ extra so_far. loose pairs (one_item texts lets extra so_far) (one_item_follows lets extra so_far)) room so_far

  pub items_follow : (lets : List Let) → Follows 1 pairs (items texts lets)
  unfolding items
  items_follow lets =
      value_then (named texts false lets) pairs _
      (λ name. then_some (more_items texts lets 15 (name ∷ [])) pairs _ (λ names. then_mark pairs _ (nothing names) (codes ";")) (more_items_follow lets 15 (name ∷ [])))
      (named_follows false lets)

  pub get_follows : (uses : Uses) → Follows 1 pairs (get texts uses)
  unfolding get
  get_follows uses =
      word_then pairs _ (then_value (from_key texts false uses) pairs _ (λ key. then_mark pairs _ (nothing _) (codes ";")) (from_key_follows false uses)) (codes "v")
