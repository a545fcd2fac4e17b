-- The transactions of a document, one after another.
use Rattle.std.proofs.Common.{◌≡◌, ℕ, ◌+◌, ◌<◌, ◌≤◌, List, [], ◌∷◌, ◌++◌, length, take, map, get_or, Bool, None, append_assoc, length-append, refl, sym, ap, subst, ◌∙◌, arith}
use Rattle.std.specs.List.{AllByRecursion}
use Rattle.std.proofs.lemmas.List.{get_or_at, take-map, length-map, length-take}
use Rattle.serde_json.specs.Data.{Data}
use Rattle.serde_json.specs.View.{view}
use Rattle.serde_json.specs.declared.value.Value.{Value}
use Rattle.acc_txn.specs.declared.parts.BodyParts.{BodyParts}
use Rattle.acc_txn.specs.Rules.{IsBody}
use Rattle.acc_schedule.specs.declared.error.PlanError.{PlanError}
use Rattle.acc_base.specs.Faults.{◌then◌, each}
use Rattle.acc_schedule.specs.Faults.{Fault, IsFault}
use Rattle.acc_schedule.specs.Transactions.{body_of, home_of, name_of, transaction_fault}
use Rattle.acc_schedule.proofs.EachFacts.{AreRead, element_fails, list_read, none_read, one_more}

-- the rule of each transaction, with the names before it
abbrev pub rule_of : ℕ → (ℕ → Bool) → List Data → ℕ → Data → Fault
rule_of version is_node ds place = transaction_fault version is_node (take place (map name_of ds)) place

-- the first i transactions are read
pub record AllRead (version : ℕ) (is_node : ℕ → Bool) (vs : List Value) (i : ℕ) (names : List (List ℕ)) (homes : List ℕ) (bodies : List BodyParts) : Type 0 where
  pub names_read : AreRead (rule_of version is_node (map view vs)) name_of vs i names
  pub homes_read : AreRead (rule_of version is_node (map view vs)) home_of vs i homes
  pub bodies_read : AreRead (rule_of version is_node (map view vs)) (body_of version) vs i bodies

pub nothing_read : (version : ℕ) (is_node : ℕ → Bool) (vs : List Value) (names : List (List ℕ)) (homes : List ℕ) (bodies : List BodyParts) → names ≡ [] → homes ≡ [] → bodies ≡ [] → AllRead version is_node vs 0 names homes bodies
nothing_read version is_node vs names homes bodies no_names no_homes no_bodies =
    let rule = rule_of version is_node (map view vs) in
    record { names_read = none_read rule name_of vs names no_names; homes_read = none_read rule home_of vs homes no_homes; bodies_read = none_read rule (body_of version) vs bodies no_bodies }

names_before : (vs : List Value) (i : ℕ) (names : List (List ℕ)) → names ≡ map name_of (take i (map view vs)) → names ≡ take i (map name_of (map view vs))
names_before vs i names e = e ∙ sym (take-map name_of i (map view vs))

-- there are as many names as places before this one
pub few_names : (version : ℕ) (is_node : ℕ → Bool) (vs : List Value) (i : ℕ) (names : List (List ℕ)) (homes : List ℕ) (bodies : List BodyParts) → AllRead version is_node vs i names homes bodies → i < length vs → length vs ≤ 10000 → length names < 10000
few_names version is_node vs i names homes bodies all within few =
    omega (arith, ap length all.names_read.said, length-map (take i (map view vs)) name_of, length-take i (map view vs), length-map vs view, within, few)

pub one_more_transaction : (version : ℕ) (is_node : ℕ → Bool) (vs : List Value) (i : ℕ) (names names' : List (List ℕ)) (homes homes' : List ℕ) (bodies bodies' : List BodyParts) (v : Value) (home : ℕ) (body : BodyParts)
    → AllRead version is_node vs i names homes bodies → i < length vs → v ≡ get_or vs i v → transaction_fault version is_node names i (view v) ≡ None → home ≡ home_of (view v) → body ≡ body_of version (view v)
    → names' ≡ names ++ name_of (view v) ∷ [] → homes' ≡ homes ++ home ∷ [] → bodies' ≡ bodies ++ body ∷ [] → AllRead version is_node vs (i + 1) names' homes' bodies'
one_more_transaction version is_node vs i names names' homes homes' bodies bodies' v home body all within at holds at_home means named placed said =
    let rule = rule_of version is_node (map view vs) in
    let kept : rule i (view v) ≡ None = ap (λ (before : List (List ℕ)). transaction_fault version is_node before i (view v)) (sym (names_before vs i names all.names_read.said)) ∙ holds in
    record {
      names_read = one_more rule name_of vs i names names' v (name_of (view v)) all.names_read within at kept refl named;
      homes_read = one_more rule home_of vs i homes homes' v home all.homes_read within at kept at_home placed;
      bodies_read = one_more rule (body_of version) vs i bodies bodies' v body all.bodies_read within at kept means said;
    }

pub transaction_fails : (first : Fault) (version : ℕ) (is_node : ℕ → Bool) (vs : List Value) (ds : List Data) (i : ℕ) (names : List (List ℕ)) (homes : List ℕ) (bodies : List BodyParts) (v : Value) (e : PlanError) → first ≡ None → map view vs ≡ ds
    → AllRead version is_node vs i names homes bodies → i < length vs → v ≡ get_or vs i v → IsFault (transaction_fault version is_node names i (view v)) e → IsFault (first then each (rule_of version is_node ds) 0 ds) e
transaction_fails first version is_node vs ds i names homes bodies v e holds are all within at h =
    let here : IsFault (rule_of version is_node (map view vs) i (view v)) e =
    subst (λ (before : List (List ℕ)). IsFault (transaction_fault version is_node before i (view v)) e) (names_before vs i names all.names_read.said) h in
    subst (λ (xs : List Data). IsFault (first then each (rule_of version is_node xs) 0 xs) e) are (element_fails first (rule_of version is_node (map view vs)) name_of vs (map view vs) i names v e holds refl all.names_read within at here)

pub transactions_read : (first : Fault) (version : ℕ) (is_node : ℕ → Bool) (vs : List Value) (ds : List Data) (i : ℕ) (names : List (List ℕ)) (homes : List ℕ) (bodies : List BodyParts) → first ≡ None → map view vs ≡ ds
    → AllRead version is_node vs i names homes bodies → length vs ≤ i
    → ((first then each (rule_of version is_node ds) 0 ds) ≡ None) × (names ≡ map name_of ds) × (homes ≡ map home_of ds) × (bodies ≡ map (body_of version) ds)
transactions_read first version is_node vs ds i names homes bodies holds are all long =
    let rule = rule_of version is_node (map view vs) in
    let n = list_read first rule name_of vs (map view vs) i names holds refl all.names_read long in
    let h = list_read first rule home_of vs (map view vs) i homes holds refl all.homes_read long in
    let b = list_read first rule (body_of version) vs (map view vs) i bodies holds refl all.bodies_read long in (
      ap (λ (xs : List Data). first then each (rule_of version is_node xs) 0 xs) (sym are) ∙ n.0,
      n.1 ∙ ap (map name_of) are,
      h.1 ∙ ap (map home_of) are,
      b.1 ∙ ap (map (body_of version)) are,
    )

-- ---- transactions that are taken out of their list

pub taken_more : (before : List Value) (v : Value) (left after vs : List Value) → before ++ left ≡ vs → left ≡ v ∷ after → (before ++ v ∷ []) ++ after ≡ vs
taken_more before v left after vs is next = append_assoc before (v ∷ []) after ∙ ap (λ l. before ++ l) (sym next) ∙ is

pub taken_within : (before : List Value) (v : Value) (left after vs : List Value) (i : ℕ) → before ++ left ≡ vs → left ≡ v ∷ after → i ≡ length before → i < length vs
taken_within before v left after vs i is next at =
    omega (arith, ap length is, ap length next, length-append before left, at)

pub taken_at : (before : List Value) (v : Value) (left after vs : List Value) (i : ℕ) → before ++ left ≡ vs → left ≡ v ∷ after → i ≡ length before → v ≡ get_or vs i v
taken_at before v left after vs i is next at =
    let split : before ++ v ∷ after ≡ vs = ap (λ l. before ++ l) (sym next) ∙ is in
    sym (get_or_at before v after v i (sym at)) ∙ ap (λ (l : List Value). get_or l i v) split

pub taken_all : (before left vs : List Value) (i : ℕ) → before ++ left ≡ vs → length left ≡ 0 → i ≡ length before → length vs ≤ i
taken_all before left vs i is none at = omega (arith, ap length is, length-append before left, none, at)

-- ---- bodies that keep their rules

pub none_keep : (bodies : List BodyParts) → bodies ≡ [] → AllByRecursion IsBody bodies
none_keep bodies none = subst (AllByRecursion IsBody) (sym none) tt

all_keep : (bodies : List BodyParts) (body : BodyParts) → AllByRecursion IsBody bodies → IsBody body → AllByRecursion IsBody (bodies ++ body ∷ [])
all_keep [] body keep keeps = (keeps, tt)
all_keep (first ∷ bodies) body keep keeps = (keep.0, all_keep bodies body keep.1 keeps)

pub one_more_keeps : (bodies : List BodyParts) (body : BodyParts) (more : List BodyParts) → more ≡ bodies ++ body ∷ [] → AllByRecursion IsBody bodies
    → IsBody body → AllByRecursion IsBody more
one_more_keeps bodies body more is keep keeps = subst (AllByRecursion IsBody) (sym is) (all_keep bodies body keep keeps)
