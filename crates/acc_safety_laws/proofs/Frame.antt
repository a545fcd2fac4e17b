-- What is stable or applied is decided, and what is noted as an outcome is applied.
use Rattle.std.proofs.Common.{◌≡◌, ℕ, List, [], ◌∷◌, ◌++◌, Option, None, Some, Contains, map, refl, sym, ◌∙◌, ap, subst}
use Rattle.std.specs.List.{AllByRecursion}
use Rattle.std.proofs.lemmas.List.Elements.{Contains-append_left, Contains-append_right}
use Rattle.std.proofs.lemmas.List.Concat.{flat_map-append}
use Rattle.acc_stamp.specs.declared.stamps.TxnId.{TxnId}
use Rattle.acc_deps.specs.declared.records.Settled.{Settled}
use Rattle.acc_txn.specs.declared.parts.BodyParts.{BodyParts}
use Rattle.acc_txn.specs.declared.outcome.Outcome.{Outcome}
use Rattle.acc_base.specs.Faults.{or_else}
use Rattle.acc_message.specs.declared.message.Message.{Message}
use Rattle.acc_message.specs.declared.item.Item.{Item}
use Rattle.acc_message.specs.Items.{notes_of, noted_in, txn_in, txn_of}
use Rattle.acc_message.specs.Shares.{stores_used}
use Rattle.acc_message.specs.BallotRules.{outcome_in}
use Rattle.acc_message.specs.Attempts.{Attempt, Executing}
use Rattle.acc_message.specs.Run.{Cluster}
use Rattle.acc_safety.specs.Decisions.{Decision, decisions_in, decisions_of, body_at, body_of}
use Rattle.acc_actor_laws.proofs.Standing.{not_none}
use Rattle.acc_safety.specs.Polls.{IsBody}
use Rattle.acc_safety_laws.proofs.Notions.{first_apply, IsDecision, SettlesDecided}

-- an attempt that reads has a decision
abbrev pub ReadsDecided : Cluster → List Item → TxnId → Attempt → Type 0
ReadsDecided cluster part x a = (s : Settled) → a.phase ≡ Executing s → IsDecision cluster part x s.t s.deps

-- ---- what stays

pub number_kept : (item : Item) (earlier : List Item) (x : TxnId) (n : ℕ) → txn_of earlier x ≡ Some n → txn_of (item ∷ earlier) x ≡ Some n
number_kept item earlier x n e = ap (λ o. or_else o (txn_in x item)) e

module _ (cluster : Cluster) (item : Item) (earlier : List Item) where
  pub body_kept : (x : TxnId) (body : BodyParts) → body_of cluster earlier x ≡ Some body → body_of cluster (item ∷ earlier) x ≡ Some body
  body_kept x body = by (txn_of earlier x) refl
    where
      by : (o : Option ℕ) → txn_of earlier x ≡ o → body_at cluster o ≡ Some body → body_of cluster (item ∷ earlier) x ≡ Some body
      by None is e = absurd (not_none body e)
      by (Some n) is e = ap (body_at cluster) (number_kept item earlier x n is) ∙ e

  pub decision_kept : (d : Decision) → Contains (decisions_of (notes_of earlier)) d → Contains (decisions_of (notes_of (item ∷ earlier))) d
  decision_kept d h =
      subst (λ list. Contains list d) (sym (flat_map-append decisions_in (notes_of earlier) (noted_in item)))
      (Contains-append_left (decisions_of (notes_of earlier)) (decisions_of (noted_in item)) d h)

  pub decision_now : (d : Decision) → Contains (decisions_of (noted_in item)) d → Contains (decisions_of (notes_of (item ∷ earlier))) d
  decision_now d h =
      subst (λ list. Contains list d) (sym (flat_map-append decisions_in (notes_of earlier) (noted_in item)))
      (Contains-append_right (decisions_of (notes_of earlier)) (decisions_of (noted_in item)) d h)

  pub settles_still : (m : Message) → SettlesDecided cluster earlier m → SettlesDecided cluster (item ∷ earlier) m
  settles_still m f s e = decision_kept _ (f s e)

  pub reads_still : (x : TxnId) (a : Attempt) → ReadsDecided cluster earlier x a → ReadsDecided cluster (item ∷ earlier) x a
  reads_still x a f s e = decision_kept _ (f s e)

-- ---- applied outcomes

still_first : (k first more : Option Outcome) (o : Outcome) → (first ≡ Some o → more ≡ Some o) → or_else k first ≡ Some o → or_else k more ≡ Some o
still_first None first more o h e = h e
still_first (Some p) first more o h e = e

pub first_apply-more : (ms more : List Message) (x : TxnId) (o : Outcome) → first_apply ms x ≡ Some o → first_apply (ms ++ more) x ≡ Some o
first_apply-more [] more x o e = absurd (not_none o e)
first_apply-more (m ∷ ms) more x o e =
    still_first (outcome_in x m) (first_apply ms x) (first_apply (ms ++ more) x) o (first_apply-more ms more x o) e

later_first : (k first : Option Outcome) (o : Outcome) → first ≡ Some o → (p : Outcome) × (or_else k first ≡ Some p)
later_first None first o e = (o, e)
later_first (Some p) first o e = (p, refl)

first_apply-later : (ms more : List Message) (x : TxnId) (o : Outcome) → first_apply more x ≡ Some o → (p : Outcome) × (first_apply (ms ++ more) x ≡ Some p)
first_apply-later [] more x o e = (o, e)
first_apply-later (m ∷ ms) more x o e =
    let later = first_apply-later ms more x o e in
    later_first (outcome_in x m) (first_apply (ms ++ more) x) later.0 later.1

-- x has a body, and where this one has stores, these messages have an Apply about x
pub record HasApply (cluster : Cluster) (part : List Item) (ms : List Message) (x : TxnId) : Type 0 where
  pub body : BodyParts
  pub body_is : IsBody cluster part x body
  pub sent : (stores_used cluster.layout body ≡ [] → ⊥) → (o : Outcome) × (first_apply ms x ≡ Some o)

module _ (cluster : Cluster) (item : Item) (earlier : List Item) (ms more : List Message) (x : TxnId) where
  pub has_apply_kept : HasApply cluster earlier ms x → HasApply cluster (item ∷ earlier) (ms ++ more) x
  has_apply_kept h =
      record {
        body = h.body;
        body_is = body_kept cluster item earlier x h.body h.body_is;
        sent = λ some. let f = h.sent some in (f.0, first_apply-more ms more x f.0 f.1);
      }

  pub has_apply_now : HasApply cluster (item ∷ earlier) more x → HasApply cluster (item ∷ earlier) (ms ++ more) x
  has_apply_now h =
      record { body = h.body; body_is = h.body_is; sent = λ some. let f = h.sent some in first_apply-later ms more x f.0 f.1 }

pub each_map : {S T : Type 0} (P : T → Type 0) (f : S → T) (xs : List S) → ((x : S) → P (f x)) → AllByRecursion P (map f xs)
each_map P f [] h = tt
each_map P f (x ∷ xs) h = (h x, each_map P f xs h)
