-- The numbers of a body that is spelled in a text are those of 64 bits, and so are those of the bodies that a document
-- says.
use Rattle.std.proofs.Common.{◌≡◌, ℕ, zero, suc, ◌+◌, ◌≤◌, Bool, List, [], ◌∷◌, map, codes, Result, Ok, Err, pos, neg_ℤ, ℤ, inl, inr, refl, sym, subst, arith}
use Rattle.std.specs.List.{AllByRecursion}
use Rattle.std.specs.Int.{w64}
use Rattle.std.specs.Int.RustNames.{FitsSigned}
use Rattle.std.specs.Result.{result_unwrap_or}
use Rattle.acc_base.specs.Numbers.{greatest_i64}
use Rattle.acc_token.specs.Tokens.{Word}
use Rattle.acc_txn.specs.declared.parts.Let.{Let}
use Rattle.acc_txn.specs.declared.parts.Term.{Term}
use Rattle.acc_txn.specs.declared.parts.Term.TheVariants.{Number, Name, Null, Text}
use Rattle.acc_txn.specs.declared.parts.Part.{Part}
use Rattle.acc_txn.specs.declared.parts.Condition.{Condition}
use Rattle.acc_txn.specs.declared.parts.Condition.TheVariants.{Compare, IsNull, IsNotNull}
use Rattle.acc_txn.specs.declared.parts.Update.{Update}
use Rattle.acc_txn.specs.declared.parts.Update.TheVariants.{Set, Delete}
use Rattle.acc_txn.specs.declared.parts.BodyParts.{BodyParts}
use Rattle.acc_txn.specs.Rules.{IsBody}
use Rattle.acc_lang.specs.Grammar.{Each, Behind, NumberSpelled, TermSpelled, PartSpelled, ExpressionSpelled, ConditionSpelled, UpdateSpelled, ActionSpelled, Spelled}
use Rattle.acc_lang.specs.Reading.{reading}
use Rattle.acc_code.specs.Short.{IsShortTerm, IsShortSum, IsShortCondition, IsShortUpdate, IsTerm, AreTerms, HasTerms, SetsTerms, IsNumberedBody}
use Rattle.acc_code.proofs.BodyFacts.{short_body}
use Rattle.serde_json.specs.Data.{Data}
use Rattle.acc_schedule.specs.Fields.{field, text as text_said}
use Rattle.acc_schedule.specs.Texts.{has_texts, no_parts}
use Rattle.acc_schedule.specs.Transactions.{body_of}

negative_fits : (n : ℕ) → n ≤ greatest_i64 + 1 → FitsSigned w64 (neg_ℤ (pos n))
negative_fits zero h = omega arith
negative_fits (suc n) h = omega arith

number_fits : (number : ℤ) (from to : List ℕ) → NumberSpelled number from to → FitsSigned w64 number
number_fits number from to (inl plain) = subst (FitsSigned w64) (sym plain.2) (omega arith)
number_fits number from to (inr behind) = subst (FitsSigned w64) (sym behind.2) (negative_fits behind.0 behind.1)

module _ (texts : Bool) (lets : List Let) where
  term_fits : (t : Term) (from to : List ℕ) → IsShortTerm t → TermSpelled texts lets t from to → IsTerm t
  term_fits (Number number) from to short spelled = number_fits number from to spelled
  term_fits (Name name) from to short spelled = tt
  term_fits Null from to short spelled = tt
  term_fits (Text text) from to short spelled = short

  parts_fit : (parts : List Part) (from to : List ℕ) → AllByRecursion (λ part. IsShortTerm part.term) parts → Each (PartSpelled texts lets) parts from to → AreTerms parts
  parts_fit [] from to short spelled = tt
  parts_fit (part ∷ parts) from to short spelled = (
    term_fits part.term spelled.1.0 spelled.0 short.0 spelled.1.2,
    parts_fit parts spelled.0 to short.1 spelled.2,
  )

  sum_fits : (sum : List Part) (from to : List ℕ) → IsShortSum sum → ExpressionSpelled texts lets sum from to → AreTerms sum
  sum_fits [] from to short spelled = tt
  sum_fits (first ∷ parts) from to short spelled = (
    term_fits first.term from spelled.0 short.terms.0 spelled.2,
    parts_fit parts spelled.0 to short.terms.1 spelled.3,
  )

  guard_fits : (c : Condition) (from to : List ℕ) → IsShortCondition c → ConditionSpelled texts lets c from to → HasTerms c
  guard_fits (Compare op left right) from to short spelled = (
    sum_fits left from spelled.0 short.0 spelled.1,
    sum_fits right spelled.2.0 to short.1 spelled.2.2,
  )
  guard_fits (IsNull name) from to short spelled = tt
  guard_fits (IsNotNull name) from to short spelled = tt

  guards_fit : (guards : List Condition) (from to : List ℕ) → AllByRecursion IsShortCondition guards
      → Each (Behind (Word (codes "and") ∷ []) (ConditionSpelled texts lets)) guards from to → AllByRecursion HasTerms guards
  guards_fit [] from to short spelled = tt
  guards_fit (c ∷ guards) from to short spelled = (
    guard_fits c spelled.1.0 spelled.0 short.0 spelled.1.2,
    guards_fit guards spelled.0 to short.1 spelled.2,
  )

  update_fits : (u : Update) (from to : List ℕ) → IsShortUpdate u → UpdateSpelled texts lets u from to → SetsTerms u
  update_fits (Set key value) from to short spelled = sum_fits value spelled.1.0 spelled.0 short.1 spelled.1.2
  update_fits (Delete key) from to short spelled = tt

  updates_fit : (updates : List Update) (from to : List ℕ) → AllByRecursion IsShortUpdate updates → Each (UpdateSpelled texts lets) updates from to → AllByRecursion SetsTerms updates
  updates_fit [] from to short spelled = tt
  updates_fit (u ∷ updates) from to short spelled = (
    update_fits u from spelled.0 short.0 spelled.1,
    updates_fit updates spelled.0 to short.1 spelled.2,
  )

  action_fits : (guards : List Condition) (updates : List Update) (from to : List ℕ) → AllByRecursion IsShortCondition guards → AllByRecursion IsShortUpdate updates
      → ActionSpelled texts lets guards updates from to → AllByRecursion HasTerms guards × AllByRecursion SetsTerms updates
  action_fits [] updates from to g u spelled = (tt, updates_fit updates from to u spelled)
  action_fits (guard ∷ guards) [] from to g u spelled = absurd spelled
  action_fits (guard ∷ guards) (update ∷ updates) from to g u spelled =
      let a = spelled.0 in
      let b = spelled.1 in
      let c = spelled.2 in
      let d = spelled.3 in (
        (guard_fits guard spelled.5.0 a g.0 spelled.5.2, guards_fit guards a b g.1 spelled.6),
        (update_fits update spelled.7.0 c u.0 spelled.7.2, updates_fit updates c d u.1 spelled.8),
      )

spelled_fits : (texts : Bool) (text : List ℕ) (parts : BodyParts) → IsBody parts → Spelled texts text parts → IsNumberedBody parts
spelled_fits texts text parts h spelled =
    let short = short_body parts h in
    let terms = action_fits texts parts.lets parts.guards parts.updates spelled.action_place spelled.commit_place short.guards short.updates spelled.action in
    record { keeps_rules = h; guards = terms.0; updates = terms.1 }

-- what was read, and nothing where nothing was
kept : {E : Type 0} (r : Result BodyParts E) → ((parts : BodyParts) → r ≡ Ok parts → IsBody parts → IsNumberedBody parts) → IsBody (result_unwrap_or r no_parts)
    → IsNumberedBody (result_unwrap_or r no_parts)
kept (Ok parts) step h = step parts refl h
kept (Err e) step h = record { keeps_rules = h; guards = tt; updates = tt }

body_fits : (texts : Bool) → ((text : List ℕ) (parts : BodyParts) → reading texts text ≡ Ok parts → Spelled texts text parts) → (text : List ℕ)
    → IsBody (result_unwrap_or (reading texts text) no_parts) → IsNumberedBody (result_unwrap_or (reading texts text) no_parts)
body_fits texts said text h = kept (reading texts text) (λ parts is body. spelled_fits texts text parts body (said text parts is)) h

-- where what is read is spelled, the bodies of these transactions have such numbers if they keep the rules of bodies
pub bodies_fit : (said : (texts : Bool) (text : List ℕ) (parts : BodyParts) → reading texts text ≡ Ok parts → Spelled texts text parts) (version : ℕ) (ds : List Data)
    → AllByRecursion IsBody (map (body_of version) ds) → AllByRecursion IsNumberedBody (map (body_of version) ds)
bodies_fit said version [] h = tt
bodies_fit said version (d ∷ ds) h = (
  body_fits (has_texts version) (said (has_texts version)) (text_said (field (codes "text") d)) h.0,
  bodies_fit said version ds h.1,
)
