-- Transactions of a run are called by names that differ.
use Rattle.std.proofs.Common.{◌≡◌, ℕ, ◌<◌, List, [], length, take, get_or, true, not, Option, Some, None, ⊎_elim, is_some, unwrap_or, slice_get, IsTrue, refl, sym, ap, ◌∙◌, arith}
use Rattle.std.specs.Prelude.{option_and_then}
use Rattle.std.specs.List.{list_any}
use Rattle.std.specs.Str.{bytes_eq}
use Rattle.std.proofs.lemmas.Bool.{cases_lt, true≢false}
use Rattle.std.proofs.lemmas.List.{length-take, get_or-take}
use Rattle.std.proofs.lemmas.List.Folds.{list_any_at}
use Rattle.std.proofs.lemmas.List.Quantifiers.{position-Some}
use Rattle.std.proofs.lemmas.Option.{slice_get-get_or, unwrap_or-slice_get}
use Rattle.std.proofs.lemmas.Slice.Eq.{bytes_eq-Decides}
use Rattle.acc_document_fields.proofs.PlaceFacts.{known_is}
use Rattle.acc_stamp.specs.declared.stamps.TxnId.{TxnId}
use Rattle.acc_txn.specs.declared.parts.BodyParts.{BodyParts}
use Rattle.acc_message.specs.declared.item.Item.{Item}
use Rattle.acc_message.specs.Items.{id_of_txn, txn_of}
use Rattle.acc_message.specs.Run.{EachStands}
use Rattle.acc_actor_laws.proofs.OpeningFacts.{some_is}
use Rattle.acc_heal_laws.proofs.Numbers.{numbered}
use Rattle.acc_safety.specs.Decisions.{body_at, body_of}
use Rattle.acc_safety.specs.Valid.{IsValidCluster}
use Rattle.acc_schedule.specs.Content.{Content}
use Rattle.acc_schedule.specs.Plan.{IsPlan}
use Rattle.acc_schedule.specs.Transactions.{is_new}
use Rattle.acc_schedule_runs.specs.Schedules.{cluster_of}
use Rattle.acc_report.specs.Report.{name_at, name_numbered, name_of, number_of}
use Rattle.acc_report_laws.specs.Fits.{IsKnown, IsNumbered}
use Rattle.acc_audit.specs.Fronts.{is_known, no_body, body_of as body_named, number_of as number_named}
use Rattle.acc_audit.specs.Rules.{Differ}

-- ---- names that differ

apart : (names : List (List ℕ)) (i j : ℕ) → ((n : ℕ) → n < length names → IsTrue (is_new (take n names) (get_or names n []))) → i < j → j < length names
    → get_or names i [] ≡ get_or names j [] → ⊥
apart names i j once before within same =
    let there : list_any (bytes_eq (get_or names j [])) (take j names) ≡ true =
    list_any_at (bytes_eq (get_or names j [])) (take j names) i [] (omega (arith, length-take j names, before, within))
    ((bytes_eq-Decides (get_or names j []) (get_or (take j names) i [])).1 (sym same ∙ sym (get_or-take j names i [] before))) in
    true≢false (sym (once j within) ∙ ap not there)

pub names_differ : (plan : Content) → IsPlan plan → Differ plan.names
names_differ plan is i j here there same =
    ⊎_elim (λ less. absurd (apart plan.names i j is.names_once less there same)) (λ most.
    ⊎_elim (λ less. absurd (apart plan.names j i is.names_once less here (sym same))) (λ least. omega (arith, most, least)) (cases_lt j i)) (cases_lt i j)

-- what is called by a number is known, and has that number
pub called_known : (names : List (List ℕ)) (txn : ℕ) → txn < length names → is_known names (name_at names txn) ≡ true
called_known names txn within =
    list_any_at (bytes_eq (name_at names txn)) names txn [] within ((bytes_eq-Decides (name_at names txn) (get_or names txn [])).1 (unwrap_or-slice_get names txn []))

called_number : (names : List (List ℕ)) (txn : ℕ) → Differ names → txn < length names → number_named names (name_at names txn) ≡ Some txn
called_number names txn differ within = by (number_named names (name_at names txn)) refl
  where
    by : (o : Option ℕ) → number_named names (name_at names txn) ≡ o → o ≡ Some txn
    by (Some i) is =
        let at = position-Some (bytes_eq (name_at names txn)) names i [] is in
        ap Some (differ i txn at.0 within (sym ((bytes_eq-Decides (name_at names txn) (get_or names i [])).0 at.1) ∙ unwrap_or-slice_get names txn []))
    by None is = absurd (true≢false (sym (called_known names txn within) ∙ known_is names (name_at names txn) ∙ ap is_some is))

same_number : (names : List (List ℕ)) (m n : ℕ) → Differ names → m < length names → n < length names → name_at names m ≡ name_at names n → m ≡ n
same_number names m n differ here there same =
    differ m n here there (sym (unwrap_or-slice_get names m []) ∙ same ∙ unwrap_or-slice_get names n [])

-- ---- transactions of a run

module _ (plan : Content) (items : List Item) (is_plan : IsPlan plan) (valid : IsValidCluster (cluster_of plan)) (stands : EachStands (cluster_of plan) items) where
  abbrev pub name : TxnId → List ℕ
  name = name_of plan.names [] items

  abbrev pub Known : TxnId → Type 0
  Known x = IsKnown plan.names (number_of [] items) x

  -- the number of a transaction that is known
  pub record Named (x : TxnId) : Type 0 where
    pub txn : ℕ
    pub txn_is : txn_of items x ≡ Some txn
    pub within : txn < length plan.names
    pub name_is : name x ≡ name_at plan.names txn

  pub named : (x : TxnId) → Known x → Named x
  named x known = by (txn_of items x) refl known
    where
      by : (o : Option ℕ) → txn_of items x ≡ o → IsNumbered plan.names o → Named x
      by None is h = absurd h
      by (Some txn) is h = record { txn = txn; txn_is = is; within = h; name_is = ap (name_numbered plan.names) is }

  pub name_known : (x : TxnId) → Known x → is_known plan.names (name x) ≡ true
  name_known x known =
      let n = named x known in
      ap (is_known plan.names) n.name_is ∙ called_known plan.names n.txn n.within

  -- two that have one name are one
  pub same_id : (x y : TxnId) → Known x → Known y → name x ≡ name y → x ≡ y
  same_id x y here there same =
      let m = named x here in
      let n = named y there in
      let number : m.txn ≡ n.txn = same_number plan.names m.txn n.txn (names_differ plan is_plan) m.within n.within (sym m.name_is ∙ same ∙ n.name_is) in
      some_is x y
      (sym (numbered (cluster_of plan) valid items x m.txn stands m.txn_is).id_is ∙ ap (id_of_txn items) number
      ∙ (numbered (cluster_of plan) valid items y n.txn stands n.txn_is).id_is)

  -- the body by its name is the one by its number
  pub same_body : (x : TxnId) (body : BodyParts) → Known x → body_of (cluster_of plan) items x ≡ Some body → body_named plan.names plan.bodies (name x) ≡ body
  same_body x body known is =
      let n = named x known in
      ap (body_named plan.names plan.bodies) n.name_is
      ∙ ap (λ o. unwrap_or (option_and_then (slice_get plan.bodies) o) no_body) (called_number plan.names n.txn (names_differ plan is_plan) n.within)
      ∙ ap (λ o. unwrap_or o no_body) (sym (ap (body_at (cluster_of plan)) n.txn_is) ∙ is)

  -- a transaction that is known has a body
  pub record HasBody (x : TxnId) : Type 0 where
    pub body : BodyParts
    pub is : body_of (cluster_of plan) items x ≡ Some body
    pub same : body_named plan.names plan.bodies (name x) ≡ body

  pub has_body : (x : TxnId) → Known x → HasBody x
  has_body x known =
      let n = named x known in
      let body : BodyParts = get_or plan.bodies n.txn no_body in
      let is : body_of (cluster_of plan) items x ≡ Some body =
      ap (body_at (cluster_of plan)) n.txn_is ∙ slice_get-get_or plan.bodies n.txn no_body (omega (arith, n.within, is_plan.bodies_as_many)) in
      record { body = body; is = is; same = same_body x body known is }
