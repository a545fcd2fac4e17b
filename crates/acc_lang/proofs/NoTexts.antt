-- What is spelled in version 1 has no text value.
use Rattle.std.proofs.Common.{◌≡◌, ℕ, Bool, false, ◌||◌, List, [], ◌∷◌, codes, Result, Ok, Err, IfOk, refl, true≢false, sym}
use Rattle.std.specs.List.{list_any}
use Rattle.acc_token.specs.Tokens.{Word}
use Rattle.acc_txn.specs.declared.parts.Let.{Let}
use Rattle.acc_txn.specs.declared.parts.Term.{Term}
use Rattle.acc_txn.specs.declared.parts.Term.TheVariants.{Number, Name, Null, Text}
use Rattle.acc_txn.specs.declared.parts.Part.{Part}
use Rattle.acc_txn.specs.declared.parts.Condition.{Condition}
use Rattle.acc_txn.specs.declared.parts.Condition.TheVariants.{Compare, IsNull, IsNotNull}
use Rattle.acc_txn.specs.declared.parts.Update.{Update}
use Rattle.acc_txn.specs.declared.parts.Update.TheVariants.{Set, Delete}
use Rattle.acc_txn.specs.declared.parts.BodyParts.{BodyParts}
use Rattle.acc_txn.specs.Rules.{condition_has, update_has}
use Rattle.acc_lang.specs.declared.error.LangError.{LangError}
use Rattle.acc_lang.specs.Texts.{is_text_term, has_text_term, has_text_value}
use Rattle.acc_lang.specs.Grammar.{Each, Behind, TermSpelled, PartSpelled, ExpressionSpelled, ConditionSpelled, UpdateSpelled, ActionSpelled, IsTextOf, Spelled}

none : (a b : Bool) → a ≡ false → b ≡ false → (a || b) ≡ false
none a b left right = rw left right

term_none : (lets : List Let) (t : Term) (from to : List ℕ) → TermSpelled false lets t from to → is_text_term t ≡ false
term_none lets (Number number) from to spelled = refl
term_none lets (Name name) from to spelled = refl
term_none lets Null from to spelled = refl
term_none lets (Text text) from to spelled = absurd (true≢false (sym spelled.0))

parts_none : (lets : List Let) (parts : List Part) (from to : List ℕ) → Each (PartSpelled false lets) parts from to → has_text_term parts ≡ false
parts_none lets [] from to spelled = refl
parts_none lets (part ∷ parts) from to spelled =
    none _ _ (term_none lets part.term spelled.1.0 spelled.0 spelled.1.2) (parts_none lets parts spelled.0 to spelled.2)

sum_none : (lets : List Let) (sum : List Part) (from to : List ℕ) → ExpressionSpelled false lets sum from to → has_text_term sum ≡ false
sum_none lets [] from to spelled = absurd spelled
sum_none lets (first ∷ parts) from to spelled = none _ _ (term_none lets first.term from spelled.0 spelled.2) (parts_none lets parts spelled.0 to spelled.3)

guard_none : (lets : List Let) (c : Condition) (from to : List ℕ) → ConditionSpelled false lets c from to → condition_has has_text_term c ≡ false
guard_none lets (Compare op left right) from to spelled = none _ _ (sum_none lets left from spelled.0 spelled.1) (sum_none lets right spelled.2.0 to spelled.2.2)
guard_none lets (IsNull name) from to spelled = refl
guard_none lets (IsNotNull name) from to spelled = refl

guards_none : (lets : List Let) (guards : List Condition) (from to : List ℕ) → Each (Behind (Word (codes "and") ∷ []) (ConditionSpelled false lets)) guards from to
    → list_any (condition_has has_text_term) guards ≡ false
guards_none lets [] from to spelled = refl
guards_none lets (c ∷ guards) from to spelled = none _ _ (guard_none lets c spelled.1.0 spelled.0 spelled.1.2) (guards_none lets guards spelled.0 to spelled.2)

update_none : (lets : List Let) (u : Update) (from to : List ℕ) → UpdateSpelled false lets u from to → update_has has_text_term u ≡ false
update_none lets (Set key value) from to spelled = sum_none lets value spelled.1.0 spelled.0 spelled.1.2
update_none lets (Delete key) from to spelled = refl

updates_none : (lets : List Let) (updates : List Update) (from to : List ℕ) → Each (UpdateSpelled false lets) updates from to → list_any (update_has has_text_term) updates ≡ false
updates_none lets [] from to spelled = refl
updates_none lets (u ∷ updates) from to spelled = none _ _ (update_none lets u from spelled.0 spelled.1) (updates_none lets updates spelled.0 to spelled.2)

action_none : (lets : List Let) (guards : List Condition) (updates : List Update) (from to : List ℕ) → ActionSpelled false lets guards updates from to
    → (list_any (condition_has has_text_term) guards || list_any (update_has has_text_term) updates) ≡ false
action_none lets [] updates from to spelled = updates_none lets updates from to spelled
action_none lets (guard ∷ guards) [] from to spelled = absurd spelled
action_none lets (guard ∷ guards) (u ∷ updates) from to spelled =
    none _ _
    (none _ _ (guard_none lets guard spelled.5.0 spelled.0 spelled.5.2) (guards_none lets guards spelled.0 spelled.1 spelled.6))
    (none _ _ (update_none lets u spelled.7.0 spelled.2 spelled.7.2) (updates_none lets updates spelled.2 spelled.3 spelled.8))

pub no_text : (text : List ℕ) (parts : BodyParts) → Spelled false text parts → has_text_value parts ≡ false
no_text text parts is = action_none parts.lets parts.guards parts.updates is.action_place is.commit_place is.action

pub no_text_read : (text : List ℕ) (result : Result BodyParts LangError) → IfOk result (λ body. IsTextOf false text body) → IfOk result (λ body. has_text_value body ≡ false)
no_text_read text (Ok body) is = no_text text body is.0
no_text_read text (Err error) is = tt
