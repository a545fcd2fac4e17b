-- What a store keeps of a transaction, and views: what is read is what is spelled.
use Rattle.std.proofs.Common.{◌≡◌, ℕ, zero, suc, ◌≤◌, Bool, true, false, cond, List, [], ◌++◌, length, append_assoc, Option, Some, None, refl, sym, ap, subst, ◌∙◌, arith}
use Rattle.std.specs.Prelude.{◌==◌, IfSome}
use Rattle.acc_wire.specs.Spelling.{u8_bytes}
use Rattle.acc_wire.specs.Reading.{Unread, Read}
use Rattle.acc_wire.proofs.Fields.{IsField}
use Rattle.acc_stamp.specs.declared.stamps.Stamp.{Stamp}
use Rattle.acc_stamp.specs.declared.stamps.TxnId.{TxnId}
use Rattle.acc_stamp.specs.declared.stamps.Ballot.{Ballot}
use Rattle.acc_stamp.specs.declared.actors.Actor.{Actor}
use Rattle.acc_deps.specs.declared.shards.ShardDeps.{ShardDeps}
use Rattle.acc_deps.specs.declared.records.Accepted.{Accepted}
use Rattle.acc_deps.specs.declared.records.Settled.{Settled}
use Rattle.acc_deps.specs.declared.records.View.{View}
use Rattle.acc_code.proofs.Formats.{made_field, made_of_two, done_field, tagged_field, same_field, between_field}
use Rattle.acc_message_code.specs.Spelling.{actor_bytes, stamp_bytes, ballot_bytes, ids_bytes, deps_bytes, settled_bytes, accepted_bytes, optional, flag_bytes, view_bytes}
use Rattle.acc_message_code.specs.Reading.{settled_at, accepted_at, optional_behind, optional_at, flag_at, voted_at, view_at}
use Rattle.acc_message_code.specs.Short.{IsShortActor}
use Rattle.acc_message_code.specs.Fitting.{FitIds, FitsSettled, FitsAccepted, FitsView}
use Rattle.acc_message_code.proofs.Known.{known_then, known_last, pair_field}
use Rattle.acc_message_code.proofs.DepsFormats.{actor_field, stamp_field, ballot_field, ids_field, deps_field}

abbrev make_settled : Stamp → List ShardDeps → Settled
make_settled t deps = record { t = t; deps = deps }

pub settled_field : IsField FitsSettled settled_bytes settled_at
unfolding settled_bytes settled_at
settled_field = same_field (made_of_two make_settled (λ s. stamp_bytes s.t ++ deps_bytes s.deps) (λ x y f g. refl) stamp_field (λ _ _. deps_field)) (record {
  to = λ s m. subst FitsSettled (sym m.4) (record { t = m.2; deps = m.3 });
  from = λ s h. (s.t, s.deps, h.t, h.deps, refl);
  bytes_are = λ s h. refl;
})

abbrev make_accepted : Ballot → Settled → Accepted
make_accepted ballot s = record { ballot = ballot; t = s.t; deps = s.deps }

accepted_bytes_are : (a : Accepted) → ballot_bytes a.ballot ++ settled_bytes (make_settled a.t a.deps) ≡ accepted_bytes a
unfolding settled_bytes accepted_bytes
accepted_bytes_are a = sym (append_assoc (ballot_bytes a.ballot) (stamp_bytes a.t) (deps_bytes a.deps))

pub accepted_field : IsField FitsAccepted accepted_bytes accepted_at
unfolding accepted_at
accepted_field = same_field (made_of_two make_accepted (λ a. ballot_bytes a.ballot ++ settled_bytes (make_settled a.t a.deps)) (λ x y f g. refl) ballot_field (λ _ _. settled_field)) (record {
  to = λ a m. subst FitsAccepted (sym m.4) (record { ballot = m.2; t = m.3.t; deps = m.3.deps });
  from = λ a h. (a.ballot, make_settled a.t a.deps, h.ballot, record { t = h.t; deps = h.deps }, refl);
  bytes_are = λ a h. accepted_bytes_are a;
})

-- ---- what may be missing

module _ {A : Type 0} {Fits : A → Type 0} {bytes : A → List ℕ} {at : Unread → Read A} (field : IsField Fits bytes at) where
  abbrev tag : Option A → ℕ
  tag None = 0
  tag (Some x) = 1

  abbrev tail : Option A → List ℕ
  tail None = []
  tail (Some x) = bytes x

  bytes_are : (o : Option A) → u8_bytes (tag o) ++ tail o ≡ optional bytes o
  unfolding optional
  bytes_are None = refl
  bytes_are (Some x) = refl

  within : (o : Option A) → (0 ≤ tag o) × (tag o ≤ 1)
  within None = (omega arith, omega arith)
  within (Some x) = (omega arith, omega arith)

  none_only : (o : Option A) → tag o ≡ 0 → o ≡ None
  none_only None e = refl
  none_only (Some x) e = absurd (omega (arith, e))

  some_only : (o : Option A) → IfSome o Fits → tag o ≡ 1 → (x : A) × Fits x × (o ≡ Some x)
  some_only None fits e = absurd (omega (arith, e))
  some_only (Some x) fits e = (x, fits, refl)

  behind_field : (n : ℕ) → (0 ≤ n) × (n ≤ 1) → IsField (λ o. IfSome o Fits × (tag o ≡ n)) tail (optional_behind at n)
  behind_field zero h = same_field (done_field None) (record {
    to = λ o e. subst (λ (x : Option A). IfSome x Fits × (tag x ≡ 0)) (sym e) (tt, refl);
    from = λ o f. none_only o f.1;
    bytes_are = λ o f. ap tail (sym (none_only o f.1));
  })
  behind_field (suc zero) h = same_field (made_field Some tail (λ x fits. refl) field) (record {
    to = λ o m. subst (λ (x : Option A). IfSome x Fits × (tag x ≡ 1)) (sym m.2) (m.1, refl);
    from = λ o f. some_only o f.0 f.1;
    bytes_are = λ o f. refl;
  })
  behind_field (suc (suc n)) h = absurd (omega (arith, h.1))

  pub optional_field : IsField (λ o. IfSome o Fits) (optional bytes) (optional_at at)
  unfolding optional_at
  optional_field = same_field (tagged_field 0 1 tag tail (omega arith) (λ o fits. within o) behind_field) (record { to = λ o h. h; from = λ o h. h; bytes_are = λ o h. bytes_are o })

abbrev flag_number : Bool → ℕ
flag_number flag = cond flag 1 0

abbrev flag_of : ℕ → Bool
flag_of n = n == 1

flag_of-number : (b : Bool) → flag_of (flag_number b) ≡ b
flag_of-number true = refl
flag_of-number false = refl

number-flag_of : (n : ℕ) → n ≤ 1 → flag_number (flag_of n) ≡ n
number-flag_of zero h = refl
number-flag_of (suc zero) h = refl
number-flag_of (suc (suc n)) h = absurd (omega arith)

flag_within : (b : Bool) → (0 ≤ flag_number b) × (flag_number b ≤ 1)
flag_within true = (omega arith, omega arith)
flag_within false = (omega arith, omega arith)

flag_field : IsField (λ _. Unit {0}) flag_bytes flag_at
unfolding flag_bytes flag_at
flag_field = same_field (made_field flag_of (λ b. u8_bytes (flag_number b)) (λ n fits. ap u8_bytes (number-flag_of n fits.1)) (between_field 0 1 (omega arith))) (record {
  to = λ b m. tt;
  from = λ b h. (flag_number b, flag_within b, sym (flag_of-number b));
  bytes_are = λ b h. refl;
})

-- ---- views

voted_field : IsField (λ p. IsShortActor p.0 × FitsSettled p.1) (λ p. actor_bytes p.0 ++ settled_bytes p.1) voted_at
unfolding voted_at
voted_field = pair_field actor_field settled_field

abbrev make_view : Actor × Settled → Option Accepted → Option Accepted → Option Settled → Bool → List TxnId → View
make_view voted accepted committed stable superseded waits = record {
  store = voted.0;
  vote = voted.1.t;
  vote_deps = voted.1.deps;
  accepted = accepted;
  committed = committed;
  stable = stable;
  superseded = superseded;
  waits = waits;
}

abbrev voted_of : View → Actor × Settled
voted_of v = (v.store, make_settled v.vote v.vote_deps)

same_view : (v : View) (voted : Actor × Settled) (accepted committed : Option Accepted) (stable : Option Settled) (superseded : Bool) → voted_of v ≡ voted → v.accepted ≡ accepted → v.committed ≡ committed → v.stable ≡ stable → v.superseded ≡ superseded → v ≡ make_view voted accepted committed stable superseded v.waits
same_view v voted accepted committed stable superseded a b c d e =
    ap (λ x. make_view x v.accepted v.committed v.stable v.superseded v.waits) a
    ∙ ap (λ x. make_view voted x v.committed v.stable v.superseded v.waits) b
    ∙ ap (λ x. make_view voted accepted x v.stable v.superseded v.waits) c
    ∙ ap (λ x. make_view voted accepted committed x v.superseded v.waits) d
    ∙ ap (λ x. make_view voted accepted committed stable x v.waits) e

abbrev FitParts : View → Type 0
FitParts v =
    ((IsShortActor v.store × FitsSettled (make_settled v.vote v.vote_deps))
    × (IfSome v.accepted FitsAccepted × (IfSome v.committed FitsAccepted × (IfSome v.stable FitsSettled × (Unit {0} × ((0 ≤ length v.waits) × FitIds v.waits))))))
    × Unit {0}

abbrev parts_bytes : View → List ℕ
parts_bytes v =
    (actor_bytes v.store ++ settled_bytes (make_settled v.vote v.vote_deps))
    ++ (optional accepted_bytes v.accepted ++ (optional accepted_bytes v.committed ++ (optional settled_bytes v.stable ++ (flag_bytes v.superseded ++ ids_bytes v.waits))))

parts_field : IsField FitParts parts_bytes view_at
unfolding view_at
parts_field =
    known_then voted_of voted_field {Known = λ _. Unit {0}} (λ voted _.
    known_then (λ v. v.accepted) (optional_field accepted_field) (λ accepted _.
    known_then (λ v. v.committed) (optional_field accepted_field) (λ committed _.
    known_then (λ v. v.stable) (optional_field settled_field) (λ stable _.
    known_then (λ v. v.superseded) flag_field (λ superseded _.
    known_last (λ v. v.waits) (ids_field 0) (make_view voted accepted committed stable superseded) (λ x. refl) (λ x. (((((tt, refl), refl), refl), refl), refl)) (λ v k. same_view v voted accepted committed stable superseded k.0.0.0.0.1 k.0.0.0.1 k.0.0.1 k.0.1 k.1))))))

grouped : (a b c d e f g h : List ℕ) → (a ++ (b ++ c)) ++ (d ++ (e ++ (f ++ (g ++ h)))) ≡ ((((((a ++ b) ++ c) ++ d) ++ e) ++ f) ++ g) ++ h
grouped a b c d e f g h = sym (simp append_assoc)

view_bytes_are : (v : View) → parts_bytes v ≡ view_bytes v
unfolding settled_bytes view_bytes
view_bytes_are v = grouped (actor_bytes v.store) (stamp_bytes v.vote) (deps_bytes v.vote_deps) (optional accepted_bytes v.accepted) (optional accepted_bytes v.committed) (optional (λ s. settled_bytes s) v.stable) (flag_bytes v.superseded) (ids_bytes v.waits)

pub view_field : IsField FitsView view_bytes view_at
view_field = same_field parts_field (record {
  to = λ v h. let f = h.0 in record { store = f.0.0; vote = f.0.1.t; vote_deps = f.0.1.deps; accepted = f.1.0; committed = f.1.1.0; stable = f.1.1.1.0; waits = f.1.1.1.1.1.1 };
  from = λ v h. (((h.store, record { t = h.vote; deps = h.vote_deps }), (h.accepted, (h.committed, (h.stable, (tt, (omega arith, h.waits)))))), tt);
  bytes_are = λ v h. view_bytes_are v;
})
