-- Bodies as a kind of field: those that keep the rules, with numbers of 64 bits.
use Rattle.std.proofs.Common.{ℕ, Bool, not, List, [], ◌∷◌, ◌++◌, length, refl, ap, IsTrue, is_none}
use Rattle.std.specs.List.{AllByRecursion}
use Rattle.std.proofs.lemmas.Bool.{not-true}
use Rattle.acc_wire.proofs.Fields.{IsField}
use Rattle.acc_value.specs.declared.key.Key.{Key}
use Rattle.acc_txn.specs.declared.parts.Term.{Term}
use Rattle.acc_txn.specs.declared.parts.Term.TheVariants.{Number, Name, Null, Text}
use Rattle.acc_txn.specs.declared.parts.Part.{Part}
use Rattle.acc_txn.specs.declared.parts.Condition.{Condition}
use Rattle.acc_txn.specs.declared.parts.Condition.TheVariants.{Compare, IsNull, IsNotNull}
use Rattle.acc_txn.specs.declared.parts.Update.{Update}
use Rattle.acc_txn.specs.declared.parts.Update.TheVariants.{Set, Delete}
use Rattle.acc_txn.specs.declared.parts.BodyParts.{BodyParts}
use Rattle.acc_txn.specs.Rules.{has_no_key}
use Rattle.acc_code.specs.Short.{IsTerm, AreTerms, HasTerms, SetsTerms, IsNumberedBody}
use Rattle.acc_txn.specs.BodySpelling.{body_bytes}
use Rattle.acc_code.specs.BodyReading.{body_at, read_uses}
use Rattle.acc_code.proofs.Formats.{EachFits, same_field}
use Rattle.acc_code.proofs.BodyFits.{FitsTerm, FitsPart, FitsSum, FitsCondition, FitsUpdate, FitsNextUpdate, FitsParts}
use Rattle.acc_code.proofs.PartsFormat.{body_field}
use Rattle.acc_code.proofs.RulesKept.{rules_kept}
use Rattle.acc_code.proofs.RulesGiven.{rules_given}

term_numbered : (lets : ℕ) (term : Term) → FitsTerm lets term → IsTerm term
term_numbered lets (Number number) fits = fits
term_numbered lets (Name name) fits = tt
term_numbered lets Null fits = tt
term_numbered lets (Text text) fits = fits

terms_numbered : (lets : ℕ) (front xs : List Part) → EachFits (FitsPart lets) front xs → AreTerms xs
terms_numbered lets front [] h = tt
terms_numbered lets front (x ∷ xs) h = (term_numbered lets x.term h.0.1, terms_numbered lets (front ++ x ∷ []) xs h.1)

sum_numbered : (lets : ℕ) (sum : List Part) → FitsSum lets sum → AreTerms sum
sum_numbered lets sum fits = terms_numbered lets [] sum fits.2

condition_numbered : (lets : ℕ) (c : Condition) → FitsCondition lets c → HasTerms c
condition_numbered lets (Compare op left right) fits = (sum_numbered lets left fits.0, sum_numbered lets right fits.1)
condition_numbered lets (IsNull name) fits = tt
condition_numbered lets (IsNotNull name) fits = tt

conditions_numbered : (lets : ℕ) (cs : List Condition) → AllByRecursion (FitsCondition lets) cs → AllByRecursion HasTerms cs
conditions_numbered lets [] h = tt
conditions_numbered lets (c ∷ cs) h = (condition_numbered lets c h.0, conditions_numbered lets cs h.1)

update_numbered : (lets : ℕ) (uses : List (Key × Bool)) (u : Update) → FitsUpdate lets uses u → SetsTerms u
update_numbered lets uses (Set key value) fits = sum_numbered lets value fits.1
update_numbered lets uses (Delete key) fits = tt

updates_numbered : (lets : ℕ) (uses : List (Key × Bool)) (front us : List Update) → EachFits (FitsNextUpdate lets uses) front us → AllByRecursion SetsTerms us
updates_numbered lets uses front [] h = tt
updates_numbered lets uses front (u ∷ us) h = (update_numbered lets _ u h.0, updates_numbered lets uses (front ++ u ∷ []) us h.1)

body_numbered : (parts : BodyParts) → FitsParts parts → IsTrue (not (has_no_key parts)) → IsNumberedBody parts
body_numbered parts fits some = record {
  keeps_rules = ap is_none (rules_kept parts fits (not-true (has_no_key parts) some));
  guards = conditions_numbered (length parts.lets) parts.guards fits.guards.2;
  updates = updates_numbered (length parts.lets) (read_uses parts.lets parts.select) [] parts.updates fits.updates.2;
}

pub numbered_field : IsField IsNumberedBody body_bytes body_at
numbered_field = same_field body_field (record {
  to = λ parts h. body_numbered parts h.0 h.1;
  from = λ parts h. rules_given parts h;
  bytes_are = λ parts h. refl;
})
