-- What reading a text from the left gives: the parts of a body, or the first fault. Text values are allowed in version 2 alone, which
-- the flag `texts` tells.
use Rattle.std.specs.Prelude.{ℕ, zero, suc, ◌-◌, Bool, true, false, not, ◌&&◌, ◌||◌, ◌==◌, nat_lt, pos, neg_ℤ, List, [], ◌∷◌, ◌++◌, length, codes, Option, Some, None, is_some, unwrap_or, position, Result, Ok, Err, if◌then◌else◌}
use Rattle.std.specs.Str.{bytes_eq}
use Rattle.acc_token.specs.Tokens.{Token, Word, Number, Quoted, token_at, left_at, behind, says_word, says_mark}
use Rattle.acc_value.specs.declared.key.Key.{Key}
use Rattle.acc_value.specs.Footprint.{used}
use Rattle.acc_txn.specs.declared.parts.Let.{Let}
use Rattle.acc_txn.specs.declared.parts.Select.{Select}
use Rattle.acc_txn.specs.declared.parts.Select.TheVariants.{Nothing, Names, Get}
use Rattle.acc_txn.specs.declared.parts.Operator.{Operator}
use Rattle.acc_txn.specs.declared.parts.Operator.TheVariants.{Equal, Differs, Less, AtMost, More, AtLeast}
use Rattle.acc_txn.specs.declared.parts.Term.{Term}
use Rattle.acc_txn.specs.declared.parts.Term.TheVariants.{Number as NumberTerm, Name as NameTerm, Null, Text as TextTerm}
use Rattle.acc_txn.specs.declared.parts.Part.{Part}
use Rattle.acc_txn.specs.declared.parts.Condition.{Condition}
use Rattle.acc_txn.specs.declared.parts.Condition.TheVariants.{Compare, IsNull, IsNotNull}
use Rattle.acc_txn.specs.declared.parts.Update.{Update}
use Rattle.acc_txn.specs.declared.parts.Update.TheVariants.{Set, Delete}
use Rattle.acc_txn.specs.declared.parts.BodyParts.{BodyParts}
use Rattle.acc_txn.specs.Words.{is_reserved}
use Rattle.acc_lang.specs.declared.error.LangKind.{LangKind}
use Rattle.acc_lang.specs.declared.fault.Fault.{Fault}
use Rattle.acc_lang.specs.declared.fault.Standing.{Standing}
use Rattle.acc_lang.specs.declared.fault.Standing.TheVariants.{Misplaced, Fits, Unfit, Extra}
use Rattle.acc_lang.specs.Faults.{fault_of, fault_behind_minus, fault_behind_end}

-- a value and what follows it, or the first fault
abbrev pub Reads : Type 0 → Type 0
Reads A = Result (A × List ℕ) Fault

infixl 10 ◌>>=◌
abbrev pub ◌>>=◌ : {A B : Type 0} → Result A Fault → (A → Result B Fault) → Result B Fault
(Ok x) >>= next = next x
(Err fault) >>= next = Err fault

-- Tokens

abbrev pub is_number : Token → Bool
is_number (Number number) = true
is_number _ = false

abbrev pub is_quoted : Token → Bool
is_quoted (Quoted text closed) = true
is_quoted _ = false

-- the letters of a word, the number of digits and what a quoted text says; nothing for other tokens
abbrev pub word_of : Token → List ℕ
word_of (Word letters) = letters
word_of _ = []

abbrev pub number_of : Token → ℕ
number_of (Number number) = unwrap_or number 0
number_of _ = 0

abbrev pub text_of : Token → List ℕ
text_of (Quoted text closed) = text
text_of _ = []

-- a word that isn't reserved, so that it may name a LET or a table
abbrev pub is_free : Token → Bool
is_free (Word letters) = not (is_reserved letters)
is_free _ = false

-- One token

abbrev pub fault_at : LangKind → List ℕ → Fault
fault_at kind text = record { kind = kind; left = left_at text }

-- goes after the token that stands next, unless it is at fault
abbrev pub passed : Option LangKind → List ℕ → Result (List ℕ) Fault
passed None text = Ok (behind text)
passed (Some kind) text = Err (fault_at kind text)

-- the flag tells whether a quoted text would be measured as that of a key
unfoldable pub step : Bool → Standing → List ℕ → Result (List ℕ) Fault
step as_key standing text = passed (fault_of as_key standing (token_at text)) text

-- a token that is allowed or not, that is one too many or not, and that suits or not
unfoldable pub standing_of : Bool → Bool → Bool → Standing
standing_of allowed extra suits =
    if not allowed then Misplaced else (if extra then Extra else (if suits then Fits else Unfit))

-- a mark that may stand there or not
unfoldable pub skip_mark : List ℕ → List ℕ → List ℕ
skip_mark mark text = if says_mark mark (token_at text) then behind text else text

-- Repetitions

-- One more as long as the next token begins one, from what was read so far. The flag tells `one` that there is no room
-- for it, which makes it a fault
unfoldable pub each : {S : Type 0} → (Token → Bool) → (Bool → S → List ℕ → Reads S) → ℕ → S → List ℕ → Reads S
each again one zero so_far text = if again (token_at text) then one true so_far text else Ok (so_far, text)
each again one (suc room) so_far text =
    if again (token_at text) then one false so_far text >>= (λ x. each again one room x.0 x.1) else Ok (so_far, text)

abbrev pub key_of : List ℕ → List ℕ → Key
key_of table text = record { table = table; key = text }

-- there are more than 16 different keys
abbrev pub are_many : List (Key × Bool) → Bool
are_many uses = nat_lt 16 (length uses)

-- the number of the LET that binds a name
abbrev pub let_of : List Let → List ℕ → Option ℕ
let_of lets name = position (λ l. bytes_eq name l.name) lets

-- a word v that FROM follows
abbrev pub begins_get : List ℕ → Bool
begins_get text = says_word (codes "v") (token_at text) && says_word (codes "from") (token_at (behind text))

abbrev pub is_sign : Token → Bool
is_sign token = says_mark (codes "+") token || says_mark (codes "-") token

abbrev pub part_of : Bool → Term → Part
part_of minus term = record { minus = minus; term = term }

abbrev pub operator_of : Token → Option Operator
operator_of token =
    if says_mark (codes "=") token then Some Equal
    else (if says_mark (codes "!=") token then Some Differs
    else (if says_mark (codes "<") token then Some Less
    else (if says_mark (codes "<=") token then Some AtMost
    else (if says_mark (codes ">") token then Some More
    else (if says_mark (codes ">=") token then Some AtLeast
    else None)))))

abbrev pub begins_update : Token → Bool
begins_update token = says_word (codes "update") token || says_word (codes "delete") token

abbrev pub key_written : Update → Key
key_written (Set key value) = key
key_written (Delete key) = key

-- nothing follows
unfoldable pub finish : List ℕ → Result (List ℕ) Fault
finish text = passed (fault_behind_end (token_at text)) text

-- the kind of the fault of what was read from a text, and the byte where it stands
abbrev pub placed : List ℕ → Result BodyParts Fault → Option (LangKind × ℕ)
placed text (Ok parts) = None
placed text (Err fault) = Some (fault.kind, length text - fault.left)

module _ (texts : Bool) where
  unfoldable pub take_word : List ℕ → List ℕ → Result (List ℕ) Fault
  take_word word text = step (not texts) (standing_of (says_word word (token_at text)) false true) text

  unfoldable pub take_mark : List ℕ → List ℕ → Result (List ℕ) Fault
  take_mark mark text = step (not texts) (standing_of (says_mark mark (token_at text)) false true) text

  -- Keys and tables

  unfoldable pub table : List ℕ → Reads (List ℕ)
  table text = do
    rest ← step (not texts) (standing_of (is_free (token_at text)) false true) text
    Ok (word_of (token_at text), rest)

  -- the quoted text of a key that is read or written
  unfoldable pub key_text : Bool → List (Key × Bool) → List ℕ → List ℕ → Reads Key
  key_text writes uses table text =
      let key = key_of table (text_of (token_at text)) in
      step true (standing_of (is_quoted (token_at text)) (are_many (used uses key writes)) true) text >>= (λ rest. Ok (key, rest))

  -- WHERE k = 'key'
  unfoldable pub where_key : Bool → List (Key × Bool) → List ℕ → List ℕ → Reads Key
  where_key writes uses table text = do
    t ← take_word (codes "where") text
    t ← take_word (codes "k") t
    t ← take_mark (codes "=") t
    key_text writes uses table t

  -- FROM table WHERE k = 'key'
  unfoldable pub from_key : Bool → List (Key × Bool) → List ℕ → Reads Key
  from_key writes uses text = do
    t ← take_word (codes "from") text
    name ← table t
    where_key writes uses name.0 name.1

  -- LETs

  -- a name that no LET binds yet
  unfoldable pub new_name : List Let → List ℕ → Reads (List ℕ)
  new_name lets text = do
    rest ← step (not texts) (standing_of (is_free (token_at text)) false (not (is_some (let_of lets (word_of (token_at text)))))) text
    Ok (word_of (token_at text), rest)

  -- LET name = ( SELECT v FROM table WHERE k = 'key' ) ; after LET
  unfoldable pub binding : List (Key × Bool) → List Let → List ℕ → Reads Let
  binding uses lets text = do
    name ← new_name lets text
    t ← take_mark (codes "=") name.1
    t ← take_mark (codes "(") t
    t ← take_word (codes "select") t
    t ← take_word (codes "v") t
    key ← from_key false uses t
    t ← take_mark (codes ")") key.1
    t ← take_mark (codes ";") t
    Ok (record { name = name.0; key = key.0 }, t)

  unfoldable pub one_let : Bool → List Let × List (Key × Bool) → List ℕ → Reads (List Let × List (Key × Bool))
  one_let extra so_far text = do
    t ← step (not texts) (standing_of (says_word (codes "let") (token_at text)) extra true) text
    l ← binding so_far.1 so_far.0 t
    Ok ((so_far.0 ++ l.0 ∷ [], used so_far.1 l.0.key false), l.1)

  unfoldable pub more_lets : ℕ → List Let × List (Key × Bool) → List ℕ → Reads (List Let × List (Key × Bool))
  more_lets room so_far text = each (says_word (codes "let")) one_let room so_far text

  -- Names and the select

  -- a name that a LET binds, by the number of the LET
  unfoldable pub bound_name : Bool → List Let → List ℕ → Reads ℕ
  bound_name extra lets text =
      let number = let_of lets (word_of (token_at text)) in
      step (not texts) (standing_of (is_free (token_at text)) extra (is_some number)) text >>= (λ rest. Ok (unwrap_or number 0, rest))

  -- name . v
  unfoldable pub named : Bool → List Let → List ℕ → Reads ℕ
  named extra lets text = do
    number ← bound_name extra lets text
    t ← take_mark (codes ".") number.1
    t ← take_word (codes "v") t
    Ok (number.0, t)

  -- , name . v
  unfoldable pub one_item : List Let → Bool → List ℕ → List ℕ → Reads (List ℕ)
  one_item lets extra so_far text = do
    t ← take_mark (codes ",") text
    name ← named extra lets t
    Ok (so_far ++ name.0 ∷ [], name.1)

  unfoldable pub more_items : List Let → ℕ → List ℕ → List ℕ → Reads (List ℕ)
  more_items lets room so_far text = each (says_mark (codes ",")) (one_item lets) room so_far text

  -- name . v { , name . v } ;
  unfoldable pub items : List Let → List ℕ → Reads (List ℕ)
  items lets text = do
    name ← named false lets text
    names ← more_items lets 15 (name.0 ∷ []) name.1
    t ← take_mark (codes ";") names.1
    Ok (names.0, t)

  -- the select, after SELECT, with the keys up to there
  unfoldable pub get : List (Key × Bool) → List ℕ → Reads (Select × List (Key × Bool))
  get uses text = do
    t ← take_word (codes "v") text
    key ← from_key false uses t
    t ← take_mark (codes ";") key.1
    Ok ((Get key.0, used uses key.0 false), t)

  unfoldable pub selected : List (Key × Bool) → List Let → List ℕ → Reads (Select × List (Key × Bool))
  selected uses lets text =
      if begins_get text then get uses text else (items lets text >>= (λ names. Ok ((Names names.0, uses), names.1)))

  unfoldable pub select : List (Key × Bool) → List Let → List ℕ → Reads (Select × List (Key × Bool))
  select uses lets text = if says_word (codes "select") (token_at text) then selected uses lets (behind text) else Ok ((Nothing, uses), text)

  -- Expressions

  -- - number, from the minus sign on
  unfoldable pub negative : Bool → List ℕ → Reads Term
  negative extra text = do
    t ← step (not texts) (standing_of true extra true) text
    rest ← passed (fault_behind_minus (not texts) (token_at t)) t
    Ok (NumberTerm (neg_ℤ (pos (number_of (token_at t)))), rest)

  unfoldable pub plain : Bool → List ℕ → Reads Term
  plain extra text = do
    t ← step (not texts) (standing_of true extra true) text
    Ok (NumberTerm (pos (number_of (token_at text))), t)

  unfoldable pub null : Bool → List ℕ → Reads Term
  null extra text = do
    t ← step (not texts) (standing_of true extra true) text
    Ok (Null, t)

  -- a text value, which version 2 has
  unfoldable pub text_value : Bool → List ℕ → Reads Term
  text_value extra text = do
    t ← step false (standing_of true extra true) text
    Ok (TextTerm (text_of (token_at text)), t)

  -- [ - ] number | text | NULL | name . v
  unfoldable pub term : Bool → List Let → List ℕ → Reads Term
  term extra lets text =
      if says_mark (codes "-") (token_at text) then negative extra text
      else (if is_number (token_at text) then plain extra text
      else (if is_quoted (token_at text) && texts then text_value extra text
      else (if says_word (codes "null") (token_at text) then null extra text
      else (named extra lets text >>= (λ name. Ok (NameTerm name.0, name.1))))))

  -- ( + | - ) term
  unfoldable pub one_part : List Let → Bool → List Part → List ℕ → Reads (List Part)
  one_part lets extra so_far text = do
    t ← step (not texts) (standing_of (is_sign (token_at text)) false true) text
    next ← term extra lets t
    Ok (so_far ++ part_of (says_mark (codes "-") (token_at text)) next.0 ∷ [], next.1)

  -- the terms that follow the first
  unfoldable pub more_parts : List Let → ℕ → List Part → List ℕ → Reads (List Part)
  more_parts lets room so_far text = each is_sign (one_part lets) room so_far text

  unfoldable pub expression : List Let → List ℕ → Reads (List Part)
  expression lets text = do
    first ← term false lets text
    more_parts lets 15 (part_of false first.0 ∷ []) first.1

  -- Conditions

  unfoldable pub operator : List ℕ → Reads Operator
  operator text = do
    t ← step (not texts) (standing_of (is_some (operator_of (token_at text))) false true) text
    Ok (unwrap_or (operator_of (token_at text)) Equal, t)

  -- NULL or NOT NULL, after IS
  unfoldable pub null_test : ℕ → List ℕ → Reads Condition
  null_test name text =
      if says_word (codes "not") (token_at text) then (take_word (codes "null") (behind text) >>= (λ t. Ok (IsNotNull name, t)))
      else (take_word (codes "null") text >>= (λ t. Ok (IsNull name, t)))

  -- a comparison, after the first term of its left side
  unfoldable pub comparison : List Let → Term → List ℕ → Reads Condition
  comparison lets first text = do
    left ← more_parts lets 15 (part_of false first ∷ []) text
    op ← operator left.1
    right ← expression lets op.1
    Ok (Compare op.0 left.0 right.0, right.1)

  -- what follows the first term of a condition: IS NULL and IS NOT NULL only after a name
  unfoldable pub condition_from : List Let → Term → List ℕ → Reads Condition
  condition_from lets (NumberTerm number) text = comparison lets (NumberTerm number) text
  condition_from lets (NameTerm name) text =
      if says_word (codes "is") (token_at text) then null_test name (behind text) else comparison lets (NameTerm name) text
  condition_from lets Null text = comparison lets Null text
  condition_from lets (TextTerm t) text = comparison lets (TextTerm t) text

  unfoldable pub condition : Bool → List Let → List ℕ → Reads Condition
  condition extra lets text = do
    first ← term extra lets text
    condition_from lets first.0 first.1

  -- AND condition
  unfoldable pub one_condition : List Let → Bool → List Condition → List ℕ → Reads (List Condition)
  one_condition lets extra so_far text = do
    t ← take_word (codes "and") text
    next ← condition extra lets t
    Ok (so_far ++ next.0 ∷ [], next.1)

  unfoldable pub more_conditions : List Let → ℕ → List Condition → List ℕ → Reads (List Condition)
  more_conditions lets room so_far text = each (says_word (codes "and")) (one_condition lets) room so_far text

  -- condition { AND condition } THEN
  unfoldable pub conditions : List Let → List ℕ → Reads (List Condition)
  conditions lets text = do
    first ← condition false lets text
    all ← more_conditions lets 15 (first.0 ∷ []) first.1
    t ← take_word (codes "then") all.1
    Ok (all.0, t)

  -- Updates

  -- table SET v = expression WHERE k = 'key' ; after UPDATE
  unfoldable pub assignment : List (Key × Bool) → List Let → List ℕ → Reads Update
  assignment uses lets text = do
    name ← table text
    t ← take_word (codes "set") name.1
    t ← take_word (codes "v") t
    t ← take_mark (codes "=") t
    value ← expression lets t
    key ← where_key true uses name.0 value.1
    t ← take_mark (codes ";") key.1
    Ok (Set key.0 value.0, t)

  -- FROM table WHERE k = 'key' ; after DELETE
  unfoldable pub removal : List (Key × Bool) → List ℕ → Reads Update
  removal uses text = do
    key ← from_key true uses text
    t ← take_mark (codes ";") key.1
    Ok (Delete key.0, t)

  unfoldable pub update : Bool → List (Key × Bool) → List Let → List ℕ → Reads Update
  update extra uses lets text = do
    t ← step (not texts) (standing_of (begins_update (token_at text)) extra true) text
    if says_word (codes "update") (token_at text) then assignment uses lets t else removal uses t

  unfoldable pub one_update : List Let → Bool → List Update × List (Key × Bool) → List ℕ → Reads (List Update × List (Key × Bool))
  one_update lets extra so_far text = do
    next ← update extra so_far.1 lets text
    Ok ((so_far.0 ++ next.0 ∷ [], used so_far.1 (key_written next.0) true), next.1)

  unfoldable pub more_updates : List Let → ℕ → List Update × List (Key × Bool) → List ℕ → Reads (List Update × List (Key × Bool))
  more_updates lets room so_far text = each begins_update (one_update lets) room so_far text

  -- The whole

  -- conditions THEN update { update } END IF [ ; ] after IF: the conditions, the updates, and the keys up to there
  unfoldable pub guarded : List (Key × Bool) → List Let → List ℕ → Reads ((List Condition × List Update) × List (Key × Bool))
  guarded uses lets text = do
    guards ← conditions lets text
    first ← one_update lets false ([], uses) guards.1
    all ← more_updates lets 15 first.0 first.1
    t ← take_word (codes "end") all.1
    t ← take_word (codes "if") t
    Ok (((guards.0, all.0.0), all.0.1), skip_mark (codes ";") t)

  unfoldable pub unguarded : List (Key × Bool) → List Let → List ℕ → Reads ((List Condition × List Update) × List (Key × Bool))
  unguarded uses lets text = do
    all ← more_updates lets 16 ([], uses) text
    Ok ((([], all.0.0), all.0.1), all.1)

  unfoldable pub action : List (Key × Bool) → List Let → List ℕ → Reads ((List Condition × List Update) × List (Key × Bool))
  action uses lets text = if says_word (codes "if") (token_at text) then guarded uses lets (behind text) else unguarded uses lets text

  -- BEGIN TRANSACTION
  unfoldable pub opening : List ℕ → Result (List ℕ) Fault
  opening text = do
    t ← take_word (codes "begin") text
    take_word (codes "transaction") t

  -- COMMIT, where there is a key
  unfoldable pub commit_word : List (Key × Bool) → List ℕ → Result (List ℕ) Fault
  commit_word uses text = step (not texts) (standing_of (says_word (codes "commit") (token_at text)) (length uses == 0) true) text

  -- COMMIT, TRANSACTION and [ ; ]
  unfoldable pub commit : List (Key × Bool) → List ℕ → Result (List ℕ) Fault
  commit uses text = do
    t ← commit_word uses text
    t ← take_word (codes "transaction") t
    Ok (skip_mark (codes ";") t)

  unfoldable pub closing : List (Key × Bool) → List ℕ → Result (List ℕ) Fault
  closing uses text = do
    t ← commit uses text
    finish t

  -- what follows the LETs
  unfoldable pub behind_lets : List (Key × Bool) → List Let → List ℕ → Result BodyParts Fault
  behind_lets uses lets text = do
    selects ← select uses lets text
    acts ← action selects.0.1 lets selects.1
    t ← closing acts.0.1 acts.1
    Ok (record { lets = lets; select = selects.0.0; guards = acts.0.0.0; updates = acts.0.0.1 })

  -- BEGIN TRANSACTION { let } [ select ] action COMMIT TRANSACTION [ ; ]
  unfoldable pub reading : List ℕ → Result BodyParts Fault
  reading text = do
    t ← opening text
    lets ← more_lets 16 ([], []) t
    behind_lets lets.0.1 lets.0.0 lets.1

  -- the first fault of a text, if it has one
  unfoldable pub reading_fault : List ℕ → Option (LangKind × ℕ)
  reading_fault text = placed text (reading text)
