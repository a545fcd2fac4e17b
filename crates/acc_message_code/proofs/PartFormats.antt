-- Envelopes, answers and proposals: what is read is what is spelled.
use Rattle.std.proofs.Common.{◌≡◌, ℕ, Option, zero, suc, ◌≤◌, List, ◌++◌, append_assoc, refl, sym, ap, subst, ◌∙◌, arith}
use Rattle.std.specs.Prelude.{◌==◌}
use Rattle.acc_wire.specs.Spelling.{u8_bytes}
use Rattle.acc_wire.proofs.Fields.{IsField}
use Rattle.acc_stamp.specs.declared.stamps.TxnId.{TxnId}
use Rattle.acc_stamp.specs.declared.stamps.Ballot.{Ballot}
use Rattle.acc_stamp.specs.declared.actors.Actor.{Actor}
use Rattle.acc_deps.specs.declared.records.Settled.{Settled}
use Rattle.acc_value.specs.declared.key.Key.{Key}
use Rattle.acc_value.specs.declared.value.Value.{Value}
use Rattle.acc_txn.specs.declared.parts.BodyParts.{BodyParts}
use Rattle.acc_txn.specs.declared.outcome.Outcome.{Outcome}
use Rattle.acc_message.specs.declared.answer.ReadAnswer.{ReadAnswer}
use Rattle.acc_message.specs.declared.answer.ReadAnswer.TheVariants.{Values, Known}
use Rattle.acc_message.specs.declared.envelope.Envelope.{Envelope}
use Rattle.acc_code.specs.Spelling.{cells_bytes, outcome_bytes}
use Rattle.acc_txn.specs.BodySpelling.{body_bytes}
use Rattle.acc_code.specs.Short.{AreCells, IsOutcome, IsNumberedBody}
use Rattle.acc_code.proofs.Formats.{made_field, tagged_field, same_field}
use Rattle.acc_code.proofs.CellFormats.{cells_field, outcome_field}
use Rattle.acc_code.proofs.NumberedBody.{numbered_field}
use Rattle.acc_message_code.specs.Spelling.{actor_bytes, id_bytes, ballot_bytes, settled_bytes}
use Rattle.acc_message_code.specs.Short.{IsShortActor}
use Rattle.acc_message_code.specs.Fitting.{FitsStamp, FitsSettled, FitsEnvelope, FitsAnswer}
use Rattle.acc_message_code.specs.MessageSpelling.{envelope_bytes, answer_bytes}
use Rattle.acc_message_code.specs.MessageReading.{envelope_at, answer_behind, answer_at, proposal_at}
use Rattle.acc_message_code.proofs.Known.{known_then, known_last, pair_field}
use Rattle.acc_message_code.proofs.DepsFormats.{actor_field, id_field, ballot_field}
use Rattle.acc_message_code.proofs.RecordFormats.{settled_field}

-- ---- envelopes

abbrev make_envelope : Actor → Actor → TxnId → Ballot → Envelope
make_envelope from to id ballot = record { from = from; to = to; id = id; ballot = ballot }

same_envelope : (e : Envelope) (from to : Actor) (id : TxnId) → e.from ≡ from → e.to ≡ to → e.id ≡ id → e ≡ make_envelope from to id e.ballot
same_envelope e from to id a b c =
    ap (λ x. make_envelope x e.to e.id e.ballot) a ∙ ap (λ x. make_envelope from x e.id e.ballot) b ∙ ap (λ x. make_envelope from to x e.ballot) c

abbrev FitParts : Envelope → Type 0
FitParts e = (IsShortActor e.from × (IsShortActor e.to × (FitsStamp e.id.0 × FitsStamp e.ballot.0))) × Unit {0}

abbrev parts_bytes : Envelope → List ℕ
parts_bytes e = actor_bytes e.from ++ (actor_bytes e.to ++ (id_bytes e.id ++ ballot_bytes e.ballot))

parts_field : IsField FitParts parts_bytes envelope_at
unfolding envelope_at
parts_field =
    known_then (λ (e : Envelope). e.from) actor_field {Known = λ _. Unit {0}} (λ from _.
    known_then (λ e. e.to) actor_field (λ to _.
    known_then (λ e. e.id) id_field (λ id _.
    known_last (λ e. e.ballot) ballot_field (make_envelope from to id) (λ x. refl) (λ x. (((tt, refl), refl), refl)) (λ e k. same_envelope e from to id k.0.0.1 k.0.1 k.1))))

grouped : (a b c d : List ℕ) → a ++ (b ++ (c ++ d)) ≡ ((a ++ b) ++ c) ++ d
grouped a b c d = sym (append_assoc a b (c ++ d)) ∙ sym (append_assoc (a ++ b) c d)

envelope_bytes_are : (e : Envelope) → parts_bytes e ≡ envelope_bytes e
unfolding envelope_bytes
envelope_bytes_are e = grouped (actor_bytes e.from) (actor_bytes e.to) (id_bytes e.id) (ballot_bytes e.ballot)

pub envelope_field : IsField FitsEnvelope envelope_bytes envelope_at
envelope_field = same_field parts_field (record {
  to = λ e h. record { from = h.0.0; to = h.0.1.0; id = h.0.1.1.0; ballot = h.0.1.1.1 };
  from = λ e h. ((h.from, (h.to, (h.id, h.ballot))), tt);
  bytes_are = λ e h. envelope_bytes_are e;
})

-- ---- answers

abbrev tag : ReadAnswer → ℕ
tag (Values cells) = 1
tag (Known outcome) = 2

abbrev tail : ReadAnswer → List ℕ
tail (Values cells) = cells_bytes cells
tail (Known outcome) = outcome_bytes outcome

answer_bytes_are : (a : ReadAnswer) → u8_bytes (tag a) ++ tail a ≡ answer_bytes a
unfolding answer_bytes
answer_bytes_are (Values cells) = refl
answer_bytes_are (Known outcome) = refl

within : (a : ReadAnswer) → (1 ≤ tag a) × (tag a ≤ 2)
within (Values cells) = (omega arith, omega arith)
within (Known outcome) = (omega arith, omega arith)

values_only : (a : ReadAnswer) → FitsAnswer a → tag a ≡ 1 → (cells : List (Key × Option Value)) × AreCells cells × (a ≡ Values cells)
values_only (Values cells) fits e = (cells, fits, refl)
values_only (Known outcome) fits e = absurd (omega (arith, e))

known_only : (a : ReadAnswer) → FitsAnswer a → tag a ≡ 2 → (outcome : Outcome) × IsOutcome outcome × (a ≡ Known outcome)
known_only (Values cells) fits e = absurd (omega (arith, e))
known_only (Known outcome) fits e = (outcome, fits, refl)

behind_field : (n : ℕ) → (1 ≤ n) × (n ≤ 2) → IsField (λ a. FitsAnswer a × (tag a ≡ n)) tail (answer_behind (n == 1))
behind_field zero h = absurd (omega (arith, h.0))
behind_field (suc zero) h = same_field (made_field Values tail (λ x fits. refl) cells_field) (record {
  to = λ a m. subst (λ (x : ReadAnswer). FitsAnswer x × (tag x ≡ 1)) (sym m.2) (m.1, refl);
  from = λ a f. values_only a f.0 f.1;
  bytes_are = λ a f. refl;
})
behind_field (suc (suc zero)) h = same_field (made_field Known tail (λ x fits. refl) outcome_field) (record {
  to = λ a m. subst (λ (x : ReadAnswer). FitsAnswer x × (tag x ≡ 2)) (sym m.2) (m.1, refl);
  from = λ a f. known_only a f.0 f.1;
  bytes_are = λ a f. refl;
})
behind_field (suc (suc (suc n))) h = absurd (omega (arith, h.1))

pub answer_field : IsField FitsAnswer answer_bytes answer_at
unfolding answer_at
answer_field = same_field (tagged_field {k = λ n. answer_behind (n == 1)} 1 2 tag tail (omega arith) (λ a fits. within a) behind_field) (record { to = λ a h. h; from = λ a h. h; bytes_are = λ a h. answer_bytes_are a })

-- ---- proposals

pub proposal_field : IsField (λ (p : BodyParts × Settled). IsNumberedBody p.0 × FitsSettled p.1) (λ p. body_bytes p.0 ++ settled_bytes p.1) proposal_at
unfolding proposal_at
proposal_field = pair_field numbered_field settled_field
