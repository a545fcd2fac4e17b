-- Messages whose body is known: what is read around it is what is spelled.
use Rattle.std.proofs.Common.{◌≡◌, ℕ, Bool, true, false, cond, List, [], ◌++◌, length, eqb, append_assoc, Option, Some, None, Result, Ok, Err, refl, sym, ap, subst, ◌∙◌, arith}
use Rattle.std.specs.Prelude.{IfOk, IfSome, MatchOption}
use Rattle.std.proofs.lemmas.Bool.{eqb-true}
use Rattle.std.proofs.lemmas.List.{append-nil, nil_from_length}
use Rattle.acc_wire.specs.declared.error.WireError.{WireError}
use Rattle.acc_wire.specs.declared.error.WireKind.TheVariants.{Trailing}
use Rattle.acc_wire.specs.Spelling.{u8_bytes}
use Rattle.acc_wire.specs.Reading.{Unread, AreBytes, fault_at, end_at}
use Rattle.acc_wire.proofs.Fields.{IsField, unread, AreBytes-passes, AreBytes-append_right}
use Rattle.acc_deps.specs.declared.records.Settled.{Settled}
use Rattle.acc_txn.specs.declared.parts.BodyParts.{BodyParts}
use Rattle.acc_txn.specs.declared.outcome.Outcome.{Outcome}
use Rattle.acc_txn.specs.BodySpelling.{body_bytes}
use Rattle.acc_message.specs.declared.envelope.Envelope.{Envelope}
use Rattle.acc_message.specs.declared.message.Message.{Message}
use Rattle.acc_message.specs.declared.message.Message.TheVariants.{PreAccept, Stable, Apply}
use Rattle.acc_message.specs.Fields.{envelope_of}
use Rattle.acc_code.specs.Spelling.{outcome_bytes}
use Rattle.acc_code.specs.Short.{IsOutcome, IsNumberedBody}
use Rattle.acc_code.specs.Reading.{between_at}
use Rattle.acc_code.proofs.Formats.{between_field}
use Rattle.acc_message_code.specs.declared.shared_parts.Head.{Head}
use Rattle.acc_message_code.specs.Spelling.{settled_bytes}
use Rattle.acc_message_code.specs.Fitting.{FitsEnvelope}
use Rattle.acc_message_code.specs.Reading.{settled_at}
use Rattle.acc_message_code.specs.MessageSpelling.{envelope_bytes, proposal_bytes, number_of, content_bytes, message_bytes}
use Rattle.acc_message_code.specs.MessageReading.{envelope_at, message_of}
use Rattle.acc_message_code.specs.SharedParts.{IsHead, AreSettled, IsBehind, IsWhole}
use Rattle.acc_message_code.proofs.PartFormats.{envelope_field}
use Rattle.acc_message_code.proofs.RecordFormats.{settled_field}
use Rattle.acc_message_code.proofs.MessageFormat.{message_again}

pub head_is : (before mid after : Unread) (n : ℕ) (e : Envelope) → AreBytes before.bytes → between_at 1 10 before ≡ Ok (n, mid) → envelope_at mid ≡ Ok (e, after) → IsHead before.bytes after.bytes (record { number = n; envelope = e })
head_is before mid after n e are_bytes a b =
    let f = (between_field 1 10 (omega arith)).takes before mid n are_bytes a in
    let left = AreBytes-passes before mid _ are_bytes f.0 in
    let g = envelope_field.takes mid after e left b in
    record {
      spelled = f.0.bytes ∙ ap (λ (l : List ℕ). u8_bytes n ++ l) g.0.bytes;
      fits = g.1;
      are_bytes = AreBytes-passes mid after _ left g.0;
    }

pub settled_is : (bytes : List ℕ) (after : Unread) (s : Settled) → AreBytes bytes → settled_at (unread bytes 0) ≡ Ok (s, after) → AreSettled bytes s after.bytes
settled_is bytes after s are_bytes e =
    let t = settled_field.takes (unread bytes 0) after s are_bytes e in
    record { spelled = t.0.bytes; fits = t.1 }

abbrev at_end : Result (Unit {0}) WireError
at_end = Ok tt

ends : (b : Bool) (d : WireError) → cond b at_end (Err d) ≡ at_end → b ≡ true
ends true d e = refl
ends false d e = absurd cc

pub nothing_left : (u : Unread) → end_at u ≡ at_end → u.bytes ≡ []
nothing_left u e = nil_from_length u.bytes (eqb-true (length u.bytes) 0 (ends (eqb (length u.bytes) 0) (fault_at Trailing u) e))

pub pre_accept_is : (e : Envelope) (body : BodyParts) (bytes : List ℕ) → IsNumberedBody body → bytes ≡ [] → IsBehind (record { number = 1; envelope = e }) body bytes (PreAccept e.from e.to e.id e.ballot body)
unfolding content_bytes
pre_accept_is e body bytes numbered none = record {
  number = refl;
  envelope = refl;
  spelled = sym (ap (λ (l : List ℕ). body_bytes body ++ l) none ∙ append-nil (body_bytes body));
  fits = numbered;
}

pub stable_is : (e : Envelope) (body : BodyParts) (bytes rest : List ℕ) (s : Settled) → IsNumberedBody body → AreSettled bytes s rest → rest ≡ [] → IsBehind (record { number = 7; envelope = e }) body bytes (Stable e.from e.to e.id e.ballot body s.t s.deps)
unfolding content_bytes proposal_bytes
stable_is e body bytes rest s numbered h none =
    let all : bytes ≡ settled_bytes s = h.spelled ∙ ap (λ (l : List ℕ). settled_bytes s ++ l) none ∙ append-nil (settled_bytes s) in
    record {
      number = refl;
      envelope = refl;
      spelled = ap (λ (l : List ℕ). body_bytes body ++ l) (sym all);
      fits = (numbered, h.fits);
    }

pub apply_is : (e : Envelope) (body : BodyParts) (bytes rest : List ℕ) (s : Settled) (outcome : Outcome) → IsNumberedBody body → AreSettled bytes s rest → rest ≡ outcome_bytes outcome → IsOutcome outcome → IsBehind (record { number = 9; envelope = e }) body bytes (Apply e.from e.to e.id e.ballot body s.t s.deps outcome)
unfolding content_bytes proposal_bytes
apply_is e body bytes rest s outcome numbered h last fits =
    let all : bytes ≡ settled_bytes s ++ outcome_bytes outcome = h.spelled ∙ ap (λ (l : List ℕ). settled_bytes s ++ l) last in
    record {
      number = refl;
      envelope = refl;
      spelled = append_assoc (body_bytes body) (settled_bytes s) (outcome_bytes outcome) ∙ ap (λ (l : List ℕ). body_bytes body ++ l) (sym all);
      fits = ((numbered, h.fits), fits);
    }

-- the bytes after the body are bytes
pub are_bytes_behind : (bytes rest front tail : List ℕ) (head : Head) → IsHead bytes rest head → rest ≡ front ++ tail → AreBytes tail
are_bytes_behind bytes rest front tail head h e = AreBytes-append_right front tail (subst AreBytes e h.are_bytes)

pub whole_is : (bytes rest tail : List ℕ) (head : Head) (body : BodyParts) (m : Message) → IsHead bytes rest head → rest ≡ body_bytes body ++ tail → IsBehind head body tail m → IsWhole bytes m
unfolding message_bytes
whole_is bytes rest tail head body m h e b =
    record {
      spelled =
          h.spelled
          ∙ ap (λ (l : List ℕ). u8_bytes head.number ++ (envelope_bytes head.envelope ++ l)) (e ∙ sym b.spelled)
          ∙ ap (λ (n : ℕ). u8_bytes n ++ (envelope_bytes head.envelope ++ content_bytes m)) (sym b.number)
          ∙ ap (λ (f : Envelope). u8_bytes (number_of m) ++ (envelope_bytes f ++ content_bytes m)) (sym b.envelope)
          ∙ sym (append_assoc (u8_bytes (number_of m)) (envelope_bytes (envelope_of m)) (content_bytes m));
      fits = record { envelope = subst FitsEnvelope (sym b.envelope) h.fits; content = b.fits };
    }

pub whole_if : {E : Type 0} (r : Result Message E) (bytes rest front tail : List ℕ) (head same : Head) (body : BodyParts) → IsHead bytes rest head → same ≡ head → front ≡ body_bytes body → rest ≡ front ++ tail → IfOk r (IsBehind same body tail) → IfOk r (IsWhole bytes)
whole_if (Err error) bytes rest front tail head same body h is spelled e b = tt
whole_if (Ok m) bytes rest front tail head same body h is spelled e b =
    whole_is bytes rest tail head body m h (e ∙ ap (λ (l : List ℕ). l ++ tail) spelled) (subst (λ (x : Head). IsBehind x body tail m) is b)

pub whole_is_read : (bytes : List ℕ) (m : Message) → IsWhole bytes m → message_of bytes ≡ Ok m
whole_is_read bytes m w = ap message_of w.spelled ∙ message_again m w.fits

pub where_some : {A : Type 0} (r : Option A) (P : A → Type 0) (Missing : Type 0) → MatchOption r Missing P → IfSome r P
where_some None P missing m = tt
where_some (Some x) P missing m = m
