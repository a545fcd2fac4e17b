-- The grammar: which texts are transactions, and which body each of them says. A production relates two places of a text, each
-- given by what follows it: from the one to the other stands such a part, and nothing else but blanks. There are two versions of the
-- language: in version 2 a term may be a text, in version 1 it may not.
use Rattle.std.specs.Prelude.{◌≡◌, ◌⊎◌, ◌≤◌, ◌+◌, ℕ, Bool, true, false, ℤ, pos, neg_ℤ, List, [], ◌∷◌, codes, Some, slice_get, if◌then◌else◌}
use Rattle.acc_base.specs.Numbers.{greatest_i64}
use Rattle.acc_token.specs.Tokens.{Token, Word, Mark, Number as Digits, Quoted, End, token_at, behind}
use Rattle.acc_txn.specs.declared.parts.Let.{Let}
use Rattle.acc_txn.specs.declared.parts.Select.{Select}
use Rattle.acc_txn.specs.declared.parts.Select.TheVariants.{Nothing, Names, Get}
use Rattle.acc_txn.specs.declared.parts.Operator.{Operator}
use Rattle.acc_txn.specs.declared.parts.Operator.TheVariants.{Equal, Differs, Less, AtMost, More, AtLeast}
use Rattle.acc_txn.specs.declared.parts.Term.{Term}
use Rattle.acc_txn.specs.declared.parts.Term.TheVariants.{Number, Name, Null, Text}
use Rattle.acc_txn.specs.declared.parts.Part.{Part}
use Rattle.acc_txn.specs.declared.parts.Condition.{Condition}
use Rattle.acc_txn.specs.declared.parts.Condition.TheVariants.{Compare, IsNull, IsNotNull}
use Rattle.acc_txn.specs.declared.parts.Update.{Update}
use Rattle.acc_txn.specs.declared.parts.Update.TheVariants.{Set, Delete}
use Rattle.acc_txn.specs.declared.parts.BodyParts.{BodyParts}
use Rattle.acc_txn.specs.Rules.{IsBody}

-- these tokens
abbrev pub Spells : List Token → List ℕ → List ℕ → Type 0
Spells [] from to = from ≡ to
Spells (token ∷ tokens) from to = (token_at from ≡ token) × Spells tokens (behind from) to

-- such parts, one after the other
abbrev pub Each : {A : Type 0} → (A → List ℕ → List ℕ → Type 0) → List A → List ℕ → List ℕ → Type 0
Each One [] from to = from ≡ to
Each One (x ∷ xs) from to = (next : List ℕ) × One x from next × Each One xs next to

-- a part after these tokens
abbrev pub Behind : {A : Type 0} → List Token → (A → List ℕ → List ℕ → Type 0) → A → List ℕ → List ℕ → Type 0
Behind tokens One x from to = (next : List ℕ) × Spells tokens from next × One x next to

-- [ ; ]
abbrev pub MaybeSemicolon : List ℕ → List ℕ → Type 0
MaybeSemicolon from to = (from ≡ to) ⊎ Spells (Mark (codes ";") ∷ []) from to

-- LET name = ( SELECT v FROM table WHERE k = 'key' ) ;
abbrev pub LetSpelled : Let → List ℕ → List ℕ → Type 0
LetSpelled l from to =
    Spells
    (Word (codes "let") ∷ Word l.name ∷ Mark (codes "=") ∷ Mark (codes "(") ∷ Word (codes "select") ∷ Word (codes "v") ∷ Word (codes "from")
    ∷ Word l.key.table ∷ Word (codes "where") ∷ Word (codes "k") ∷ Mark (codes "=") ∷ Quoted l.key.key true ∷ Mark (codes ")") ∷ Mark (codes ";") ∷ [])
    from to

-- name . v
abbrev pub NameSpelled : List Let → ℕ → List ℕ → List ℕ → Type 0
NameSpelled lets number from to =
    (l : Let) × (slice_get lets number ≡ Some l) × Spells (Word l.name ∷ Mark (codes ".") ∷ Word (codes "v") ∷ []) from to

-- SELECT name . v { , name . v } ; | SELECT v FROM table WHERE k = 'key' ; | nothing
abbrev pub SelectSpelled : List Let → Select → List ℕ → List ℕ → Type 0
SelectSpelled lets Nothing from to = from ≡ to
SelectSpelled lets (Names []) from to = ⊥
SelectSpelled lets (Names (name ∷ names)) from to =
    (a : List ℕ) × (b : List ℕ) × Behind (Word (codes "select") ∷ []) (NameSpelled lets) name from a
    × Each (Behind (Mark (codes ",") ∷ []) (NameSpelled lets)) names a b × Spells (Mark (codes ";") ∷ []) b to
SelectSpelled lets (Get key) from to =
    Spells
    (Word (codes "select") ∷ Word (codes "v") ∷ Word (codes "from") ∷ Word key.table ∷ Word (codes "where") ∷ Word (codes "k") ∷ Mark (codes "=")
    ∷ Quoted key.key true ∷ Mark (codes ";") ∷ [])
    from to

-- [ - ] number, which with its sign fits 64 bits
abbrev pub NumberSpelled : ℤ → List ℕ → List ℕ → Type 0
NumberSpelled number from to =
    ((n : ℕ) × (n ≤ greatest_i64) × (number ≡ pos n) × Spells (Digits (Some n) ∷ []) from to)
    ⊎ ((n : ℕ) × (n ≤ greatest_i64 + 1) × (number ≡ neg_ℤ (pos n)) × Spells (Mark (codes "-") ∷ Digits (Some n) ∷ []) from to)

abbrev pub operator_mark : Operator → List ℕ
operator_mark Equal = codes "="
operator_mark Differs = codes "!="
operator_mark Less = codes "<"
operator_mark AtMost = codes "<="
operator_mark More = codes ">"
operator_mark AtLeast = codes ">="

-- Text values are allowed where the flag is set
module _ (texts : Bool) where
  -- [ - ] number | name . v | NULL | 'text', the last in version 2 alone
  abbrev pub TermSpelled : List Let → Term → List ℕ → List ℕ → Type 0
  TermSpelled lets (Number number) from to = NumberSpelled number from to
  TermSpelled lets (Name name) from to = NameSpelled lets name from to
  TermSpelled lets Null from to = Spells (Word (codes "null") ∷ []) from to
  TermSpelled lets (Text text) from to = (texts ≡ true) × Spells (Quoted text true ∷ []) from to

  -- ( + | - ) term
  abbrev pub PartSpelled : List Let → Part → List ℕ → List ℕ → Type 0
  PartSpelled lets part from to =
      Behind (Mark (if part.minus then codes "-" else codes "+") ∷ []) (TermSpelled lets) part.term from to

  -- term { ( + | - ) term }
  abbrev pub ExpressionSpelled : List Let → List Part → List ℕ → List ℕ → Type 0
  ExpressionSpelled lets [] from to = ⊥
  ExpressionSpelled lets (first ∷ parts) from to =
      (next : List ℕ) × (first.minus ≡ false) × TermSpelled lets first.term from next × Each (PartSpelled lets) parts next to

  -- expression ( = | != | < | <= | > | >= ) expression | name . v IS NULL | name . v IS NOT NULL
  abbrev pub ConditionSpelled : List Let → Condition → List ℕ → List ℕ → Type 0
  ConditionSpelled lets (Compare op left right) from to =
      (next : List ℕ) × ExpressionSpelled lets left from next
      × Behind (Mark (operator_mark op) ∷ []) (ExpressionSpelled lets) right next to
  ConditionSpelled lets (IsNull name) from to =
      (next : List ℕ) × NameSpelled lets name from next × Spells (Word (codes "is") ∷ Word (codes "null") ∷ []) next to
  ConditionSpelled lets (IsNotNull name) from to =
      (next : List ℕ) × NameSpelled lets name from next
      × Spells (Word (codes "is") ∷ Word (codes "not") ∷ Word (codes "null") ∷ []) next to

  -- UPDATE table SET v = expression WHERE k = 'key' ; | DELETE FROM table WHERE k = 'key' ;
  abbrev pub UpdateSpelled : List Let → Update → List ℕ → List ℕ → Type 0
  UpdateSpelled lets (Set key value) from to =
      (next : List ℕ)
      × Behind (Word (codes "update") ∷ Word key.table ∷ Word (codes "set") ∷ Word (codes "v") ∷ Mark (codes "=") ∷ []) (ExpressionSpelled lets) value from next
      × Spells (Word (codes "where") ∷ Word (codes "k") ∷ Mark (codes "=") ∷ Quoted key.key true ∷ Mark (codes ";") ∷ []) next to
  UpdateSpelled lets (Delete key) from to =
      Spells
      (Word (codes "delete") ∷ Word (codes "from") ∷ Word key.table ∷ Word (codes "where") ∷ Word (codes "k") ∷ Mark (codes "=")
      ∷ Quoted key.key true ∷ Mark (codes ";") ∷ [])
      from to

  -- IF condition { AND condition } THEN update { update } END IF [ ; ]
  abbrev pub GuardedSpelled : List Let → Condition → List Condition → List Update → List ℕ → List ℕ → Type 0
  GuardedSpelled lets guard guards [] from to = ⊥
  GuardedSpelled lets guard guards (update ∷ updates) from to =
      (a : List ℕ) × (b : List ℕ) × (c : List ℕ) × (d : List ℕ) × (e : List ℕ)
      × Behind (Word (codes "if") ∷ []) (ConditionSpelled lets) guard from a
      × Each (Behind (Word (codes "and") ∷ []) (ConditionSpelled lets)) guards a b
      × Behind (Word (codes "then") ∷ []) (UpdateSpelled lets) update b c
      × Each (UpdateSpelled lets) updates c d
      × Spells (Word (codes "end") ∷ Word (codes "if") ∷ []) d e × MaybeSemicolon e to

  -- { update } | IF condition { AND condition } THEN update { update } END IF [ ; ]
  abbrev pub ActionSpelled : List Let → List Condition → List Update → List ℕ → List ℕ → Type 0
  ActionSpelled lets [] updates from to = Each (UpdateSpelled lets) updates from to
  ActionSpelled lets (guard ∷ guards) updates from to = GuardedSpelled lets guard guards updates from to

  -- BEGIN TRANSACTION { let } [ select ] action COMMIT TRANSACTION [ ; ]
  pub record Spelled (text : List ℕ) (parts : BodyParts) : Type 0 where
    pub lets_place : List ℕ
    pub select_place : List ℕ
    pub action_place : List ℕ
    pub commit_place : List ℕ
    pub end_place : List ℕ
    pub last_place : List ℕ
    pub begins : Spells (Word (codes "begin") ∷ Word (codes "transaction") ∷ []) text lets_place
    pub lets : Each LetSpelled parts.lets lets_place select_place
    pub select : SelectSpelled parts.lets parts.select select_place action_place
    pub action : ActionSpelled parts.lets parts.guards parts.updates action_place commit_place
    pub commits : Spells (Word (codes "commit") ∷ Word (codes "transaction") ∷ []) commit_place end_place
    pub semicolon : MaybeSemicolon end_place last_place
    pub ends : token_at last_place ≡ End

  -- the text is spelled by the grammar, and says these parts, which keep the rules of bodies
  abbrev pub IsTextOf : List ℕ → BodyParts → Type 0
  IsTextOf text parts = Spelled text parts × IsBody parts
