-- The spelling of a body is bytes.
use Rattle.std.proofs.Common.{ℕ, ◌<◌, ◌≤◌, Bool, true, false, List, [], ◌∷◌, ◌++◌, length, arith}
use Rattle.std.specs.List.{AllByRecursion}
use Rattle.acc_value.specs.declared.key.Key.{Key}
use Rattle.acc_wire.specs.Spelling.{text_bytes, u8_bytes}
use Rattle.acc_txn.specs.declared.parts.BodyParts.{BodyParts}
use Rattle.acc_txn.specs.declared.parts.Condition.{Condition}
use Rattle.acc_txn.specs.declared.parts.Condition.TheVariants.{Compare, IsNotNull, IsNull}
use Rattle.acc_txn.specs.declared.parts.Let.{Let}
use Rattle.acc_txn.specs.declared.parts.Operator.{Operator}
use Rattle.acc_txn.specs.declared.parts.Operator.TheVariants.{AtLeast, AtMost, Differs, Equal, Less, More}
use Rattle.acc_txn.specs.declared.parts.Part.{Part}
use Rattle.acc_txn.specs.declared.parts.Select.{Select}
use Rattle.acc_txn.specs.declared.parts.Select.TheVariants.{Get, Names, Nothing}
use Rattle.acc_txn.specs.declared.parts.Term.{Term}
use Rattle.acc_txn.specs.declared.parts.Term.TheVariants.{Name, Null, Number, Text}
use Rattle.acc_txn.specs.declared.parts.Update.{Update}
use Rattle.acc_txn.specs.declared.parts.Update.TheVariants.{Delete, Set}
use Rattle.acc_txn.specs.BodySpelling.{body_bytes, condition_bytes, key_bytes, let_bytes, listed, operator_number, part_bytes, select_bytes, sign_number, sum_bytes, term_bytes, update_bytes}
use Rattle.acc_txn.specs.Short.{IsNumberedBody}
use Rattle.acc_code.specs.BodyReading.{read_uses}
use Rattle.acc_code.proofs.BodyFits.{FitsCondition, FitsKey, FitsLet, FitsName, FitsNextUpdate, FitsPart, FitsParts, FitsSelect, FitsSum, FitsTerm}
use Rattle.acc_code.proofs.Formats.{EachFits}
use Rattle.acc_code.proofs.RulesGiven.{rules_given}
use Rattle.acc_left_laws.proofs.ByteLists.{joined_bytes, list_is_bytes, key_has_bytes, name_bytes, i64_are_bytes, text_value_bytes, AllBytes}

each_of : {X : Type 0} (Fits : List X → X → Type 0) (f : X → List ℕ) (front xs : List X) → ((before : List X) (x : X) → Fits before x → AllBytes (f x))
    → EachFits Fits front xs → AllByRecursion (λ (x : X). AllBytes (f x)) xs
each_of Fits f front [] one each = tt
each_of Fits f front (x ∷ xs) one each = (one front x each.0, each_of Fits f (front ++ x ∷ []) xs one each.1)

few : {n : ℕ} → n ≤ 16 → n < 256
few most = omega arith

key_fits : (key : Key) → FitsKey key → AllBytes (key_bytes key)
key_fits key fits = key_has_bytes key fits.0.1 fits.1.1

let_fits : (front : List Let) (l : Let) → FitsLet front l → AllBytes (let_bytes l)
unfolding let_bytes
let_fits front l fits = joined_bytes (text_bytes l.name) (key_bytes l.key) (name_bytes l.name fits.0.0.1) (key_fits l.key fits.1.0)

names_fit : (lets : ℕ) (names : List ℕ) → AllByRecursion (FitsName lets) names → AllByRecursion (λ (n : ℕ). AllBytes (u8_bytes n)) names
names_fit lets [] fit = tt
names_fit lets (n ∷ names) fit = ((fit.0.0, tt), names_fit lets names fit.1)

select_fits : (lets : List Let) (s : Select) → FitsSelect lets s → AllBytes (select_bytes s)
unfolding select_bytes
select_fits lets Nothing fits = (omega arith, tt)
select_fits lets (Names names) fits = (omega arith, list_is_bytes u8_bytes names (few fits.1) (names_fit (length lets) names fits.2))
select_fits lets (Get key) fits = (omega arith, key_fits key fits.0)

module _ (lets : ℕ) where
  term_fits : (t : Term) → FitsTerm lets t → AllBytes (term_bytes t)
  unfolding term_bytes
  term_fits (Number number) fits = (omega arith, i64_are_bytes number)
  term_fits (Name name) fits = (omega arith, (fits.0, tt))
  term_fits Null fits = (omega arith, tt)
  term_fits (Text text) fits = (omega arith, text_value_bytes text fits)

  sign_small : (minus : Bool) → sign_number minus < 256
  sign_small true = omega arith
  sign_small false = omega arith

  part_fits : (front : List Part) (part : Part) → FitsPart lets front part → AllBytes (part_bytes part)
  unfolding part_bytes
  part_fits front part fits = (sign_small part.minus, term_fits part.term fits.1)

  sum_fits : (sum : List Part) → FitsSum lets sum → AllBytes (sum_bytes sum)
  unfolding sum_bytes
  sum_fits sum fits = list_is_bytes part_bytes sum (few fits.1) (each_of (FitsPart lets) part_bytes [] sum part_fits fits.2)

  operator_small : (op : Operator) → operator_number op < 256
  operator_small Equal = omega arith
  operator_small Differs = omega arith
  operator_small Less = omega arith
  operator_small AtMost = omega arith
  operator_small More = omega arith
  operator_small AtLeast = omega arith

  condition_fits : (c : Condition) → FitsCondition lets c → AllBytes (condition_bytes c)
  unfolding condition_bytes
  condition_fits (Compare op left right) fits = (operator_small op, joined_bytes (sum_bytes left) (sum_bytes right) (sum_fits left fits.0) (sum_fits right fits.1))
  condition_fits (IsNull name) fits = (omega arith, (fits.0, tt))
  condition_fits (IsNotNull name) fits = (omega arith, (fits.0, tt))

  conditions_fit : (cs : List Condition) → AllByRecursion (FitsCondition lets) cs → AllByRecursion (λ (c : Condition). AllBytes (condition_bytes c)) cs
  conditions_fit [] fit = tt
  conditions_fit (c ∷ cs) fit = (condition_fits c fit.0, conditions_fit cs fit.1)

  update_fits : (uses : List (Key × Bool)) (front : List Update) (u : Update) → FitsNextUpdate lets uses front u → AllBytes (update_bytes u)
  unfolding update_bytes
  update_fits uses front (Set key value) fits = (omega arith, joined_bytes (key_bytes key) (sum_bytes value) (key_fits key fits.0.0) (sum_fits value fits.1))
  update_fits uses front (Delete key) fits = (omega arith, key_fits key fits.0)

pub body_is_bytes : (body : BodyParts) → IsNumberedBody body → AllBytes (body_bytes body)
unfolding body_bytes
body_is_bytes body numbered =
    let fits : FitsParts body = (rules_given body numbered).0 in
    let lets : ℕ = length body.lets in
    let uses : List (Key × Bool) = read_uses body.lets body.select in
    joined_bytes (listed let_bytes body.lets ++ select_bytes body.select ++ listed condition_bytes body.guards) (listed update_bytes body.updates)
    (joined_bytes (listed let_bytes body.lets ++ select_bytes body.select) (listed condition_bytes body.guards)
    (joined_bytes (listed let_bytes body.lets) (select_bytes body.select)
    (list_is_bytes let_bytes body.lets (few fits.lets.1) (each_of FitsLet let_bytes [] body.lets let_fits fits.lets.2)) (select_fits body.lets body.select fits.select))
    (list_is_bytes condition_bytes body.guards (few fits.guards.1) (conditions_fit lets body.guards fits.guards.2)))
    (list_is_bytes update_bytes body.updates (few fits.updates.1) (each_of (FitsNextUpdate lets uses) update_bytes [] body.updates (update_fits lets uses) fits.updates.2))
