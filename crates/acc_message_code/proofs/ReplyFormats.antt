-- Messages to a node: what is read is what is spelled.
use Rattle.std.proofs.Common.{◌≡◌, List, [], Ok, refl, sym, ap, subst, ◌∙◌, arith}
use Rattle.acc_wire.proofs.Fields.{IsField}
use Rattle.acc_stamp.specs.declared.stamps.Stamp.{Stamp}
use Rattle.acc_stamp.specs.declared.stamps.Ballot.{Ballot}
use Rattle.acc_deps.specs.declared.shards.ShardDeps.{ShardDeps}
use Rattle.acc_deps.specs.declared.records.Settled.{Settled}
use Rattle.acc_deps.specs.declared.records.View.{View}
use Rattle.acc_txn.specs.declared.outcome.Outcome.{Outcome}
use Rattle.acc_message.specs.declared.answer.ReadAnswer.{ReadAnswer}
use Rattle.acc_message.specs.declared.envelope.Envelope.{Envelope}
use Rattle.acc_message.specs.declared.message.Message.{Message}
use Rattle.acc_message.specs.declared.message.Message.TheVariants.{PreAcceptOk, AcceptOk, CommitOk, ReadOk, RecoverOk, Nack, Decided, Inform}
use Rattle.acc_message.specs.Fields.{envelope_of}
use Rattle.acc_code.specs.Spelling.{outcome_bytes}
use Rattle.acc_code.specs.Short.{IsOutcome}
use Rattle.acc_code.proofs.Formats.{made_field, done_field, same_field}
use Rattle.acc_code.proofs.CellFormats.{outcome_field}
use Rattle.acc_message_code.specs.Spelling.{ballot_bytes, deps_bytes, settled_bytes, view_bytes}
use Rattle.acc_message_code.specs.Fitting.{FitsStamp, FitDeps, FitsSettled, FitsView, FitsAnswer, HasFittingContent}
use Rattle.acc_message_code.specs.MessageSpelling.{answer_bytes, number_of, content_bytes}
use Rattle.acc_message_code.specs.MessageReading.{pre_accept_ok_at, accept_ok_at, read_ok_at, recover_ok_at, nack_at, decided_at, inform_at}
use Rattle.acc_message_code.proofs.DepsFormats.{ballot_field, deps_field}
use Rattle.acc_message_code.proofs.RecordFormats.{settled_field, view_field}
use Rattle.acc_message_code.proofs.PartFormats.{answer_field}

abbrev make_settled : Stamp → List ShardDeps → Settled
make_settled t deps = record { t = t; deps = deps }

abbrev make_pre_accept_ok : Envelope → Settled → Message
make_pre_accept_ok e x = PreAcceptOk e.from e.to e.id e.ballot x.t x.deps

pre_accept_ok_bytes : (e : Envelope) (x : Settled) → content_bytes (make_pre_accept_ok e x) ≡ settled_bytes x
unfolding content_bytes
pre_accept_ok_bytes e x = refl

pre_accept_ok_only : (e : Envelope) (m : Message) → HasFittingContent m → envelope_of m ≡ e → number_of m ≡ 2 → (x : Settled) × (FitsSettled x) × (m ≡ make_pre_accept_ok e x)
pre_accept_ok_only e (PreAcceptOk from to id ballot vote deps) fits same number = (make_settled vote deps, fits, ap (λ (f : Envelope). make_pre_accept_ok f (make_settled vote deps)) same)
pre_accept_ok_only e _ fits same number = absurd (omega (arith, number))

pub pre_accept_ok_field : (e : Envelope) → IsField (λ m. HasFittingContent m × ((envelope_of m ≡ e) × (number_of m ≡ 2))) content_bytes (pre_accept_ok_at e)
unfolding pre_accept_ok_at
pre_accept_ok_field e = same_field (made_field (make_pre_accept_ok e) content_bytes (λ x fits. pre_accept_ok_bytes e x) settled_field) (record {
  to = λ m h. subst (λ (y : Message). HasFittingContent y × ((envelope_of y ≡ e) × (number_of y ≡ 2))) (sym h.2) (h.1, (refl, refl));
  from = λ m h. pre_accept_ok_only e m h.0 h.1.0 h.1.1;
  bytes_are = λ m h. refl;
})

abbrev make_accept_ok : Envelope → (List ShardDeps) → Message
make_accept_ok e x = AcceptOk e.from e.to e.id e.ballot x

accept_ok_bytes : (e : Envelope) (x : List ShardDeps) → content_bytes (make_accept_ok e x) ≡ deps_bytes x
unfolding content_bytes
accept_ok_bytes e x = refl

accept_ok_only : (e : Envelope) (m : Message) → HasFittingContent m → envelope_of m ≡ e → number_of m ≡ 4 → (x : List ShardDeps) × (FitDeps x) × (m ≡ make_accept_ok e x)
accept_ok_only e (AcceptOk from to id ballot deps) fits same number = (deps, fits, ap (λ (f : Envelope). make_accept_ok f deps) same)
accept_ok_only e _ fits same number = absurd (omega (arith, number))

pub accept_ok_field : (e : Envelope) → IsField (λ m. HasFittingContent m × ((envelope_of m ≡ e) × (number_of m ≡ 4))) content_bytes (accept_ok_at e)
unfolding accept_ok_at
accept_ok_field e = same_field (made_field (make_accept_ok e) content_bytes (λ x fits. accept_ok_bytes e x) deps_field) (record {
  to = λ m h. subst (λ (y : Message). HasFittingContent y × ((envelope_of y ≡ e) × (number_of y ≡ 4))) (sym h.2) (h.1, (refl, refl));
  from = λ m h. accept_ok_only e m h.0 h.1.0 h.1.1;
  bytes_are = λ m h. refl;
})

abbrev make_read_ok : Envelope → ReadAnswer → Message
make_read_ok e x = ReadOk e.from e.to e.id e.ballot x

read_ok_bytes : (e : Envelope) (x : ReadAnswer) → content_bytes (make_read_ok e x) ≡ answer_bytes x
unfolding content_bytes
read_ok_bytes e x = refl

read_ok_only : (e : Envelope) (m : Message) → HasFittingContent m → envelope_of m ≡ e → number_of m ≡ 8 → (x : ReadAnswer) × (FitsAnswer x) × (m ≡ make_read_ok e x)
read_ok_only e (ReadOk from to id ballot answer) fits same number = (answer, fits, ap (λ (f : Envelope). make_read_ok f answer) same)
read_ok_only e _ fits same number = absurd (omega (arith, number))

pub read_ok_field : (e : Envelope) → IsField (λ m. HasFittingContent m × ((envelope_of m ≡ e) × (number_of m ≡ 8))) content_bytes (read_ok_at e)
unfolding read_ok_at
read_ok_field e = same_field (made_field (make_read_ok e) content_bytes (λ x fits. read_ok_bytes e x) answer_field) (record {
  to = λ m h. subst (λ (y : Message). HasFittingContent y × ((envelope_of y ≡ e) × (number_of y ≡ 8))) (sym h.2) (h.1, (refl, refl));
  from = λ m h. read_ok_only e m h.0 h.1.0 h.1.1;
  bytes_are = λ m h. refl;
})

abbrev make_recover_ok : Envelope → View → Message
make_recover_ok e x = RecoverOk e.from e.to e.id e.ballot x

recover_ok_bytes : (e : Envelope) (x : View) → content_bytes (make_recover_ok e x) ≡ view_bytes x
unfolding content_bytes
recover_ok_bytes e x = refl

recover_ok_only : (e : Envelope) (m : Message) → HasFittingContent m → envelope_of m ≡ e → number_of m ≡ 11 → (x : View) × (FitsView x) × (m ≡ make_recover_ok e x)
recover_ok_only e (RecoverOk from to id ballot view) fits same number = (view, fits, ap (λ (f : Envelope). make_recover_ok f view) same)
recover_ok_only e _ fits same number = absurd (omega (arith, number))

pub recover_ok_field : (e : Envelope) → IsField (λ m. HasFittingContent m × ((envelope_of m ≡ e) × (number_of m ≡ 11))) content_bytes (recover_ok_at e)
unfolding recover_ok_at
recover_ok_field e = same_field (made_field (make_recover_ok e) content_bytes (λ x fits. recover_ok_bytes e x) view_field) (record {
  to = λ m h. subst (λ (y : Message). HasFittingContent y × ((envelope_of y ≡ e) × (number_of y ≡ 11))) (sym h.2) (h.1, (refl, refl));
  from = λ m h. recover_ok_only e m h.0 h.1.0 h.1.1;
  bytes_are = λ m h. refl;
})

abbrev make_nack : Envelope → Ballot → Message
make_nack e x = Nack e.from e.to e.id e.ballot x

nack_bytes : (e : Envelope) (x : Ballot) → content_bytes (make_nack e x) ≡ ballot_bytes x
unfolding content_bytes
nack_bytes e x = refl

nack_only : (e : Envelope) (m : Message) → HasFittingContent m → envelope_of m ≡ e → number_of m ≡ 12 → (x : Ballot) × (FitsStamp x.0) × (m ≡ make_nack e x)
nack_only e (Nack from to id ballot promised) fits same number = (promised, fits, ap (λ (f : Envelope). make_nack f promised) same)
nack_only e _ fits same number = absurd (omega (arith, number))

pub nack_field : (e : Envelope) → IsField (λ m. HasFittingContent m × ((envelope_of m ≡ e) × (number_of m ≡ 12))) content_bytes (nack_at e)
unfolding nack_at
nack_field e = same_field (made_field (make_nack e) content_bytes (λ x fits. nack_bytes e x) ballot_field) (record {
  to = λ m h. subst (λ (y : Message). HasFittingContent y × ((envelope_of y ≡ e) × (number_of y ≡ 12))) (sym h.2) (h.1, (refl, refl));
  from = λ m h. nack_only e m h.0 h.1.0 h.1.1;
  bytes_are = λ m h. refl;
})

abbrev make_decided : Envelope → Settled → Message
make_decided e x = Decided e.from e.to e.id e.ballot x.t x.deps

decided_bytes : (e : Envelope) (x : Settled) → content_bytes (make_decided e x) ≡ settled_bytes x
unfolding content_bytes
decided_bytes e x = refl

decided_only : (e : Envelope) (m : Message) → HasFittingContent m → envelope_of m ≡ e → number_of m ≡ 13 → (x : Settled) × (FitsSettled x) × (m ≡ make_decided e x)
decided_only e (Decided from to id ballot t deps) fits same number = (make_settled t deps, fits, ap (λ (f : Envelope). make_decided f (make_settled t deps)) same)
decided_only e _ fits same number = absurd (omega (arith, number))

pub decided_field : (e : Envelope) → IsField (λ m. HasFittingContent m × ((envelope_of m ≡ e) × (number_of m ≡ 13))) content_bytes (decided_at e)
unfolding decided_at
decided_field e = same_field (made_field (make_decided e) content_bytes (λ x fits. decided_bytes e x) settled_field) (record {
  to = λ m h. subst (λ (y : Message). HasFittingContent y × ((envelope_of y ≡ e) × (number_of y ≡ 13))) (sym h.2) (h.1, (refl, refl));
  from = λ m h. decided_only e m h.0 h.1.0 h.1.1;
  bytes_are = λ m h. refl;
})

abbrev make_inform : Envelope → Outcome → Message
make_inform e x = Inform e.from e.to e.id e.ballot x

inform_bytes : (e : Envelope) (x : Outcome) → content_bytes (make_inform e x) ≡ outcome_bytes x
unfolding content_bytes
inform_bytes e x = refl

inform_only : (e : Envelope) (m : Message) → HasFittingContent m → envelope_of m ≡ e → number_of m ≡ 14 → (x : Outcome) × (IsOutcome x) × (m ≡ make_inform e x)
inform_only e (Inform from to id ballot outcome) fits same number = (outcome, fits, ap (λ (f : Envelope). make_inform f outcome) same)
inform_only e _ fits same number = absurd (omega (arith, number))

pub inform_field : (e : Envelope) → IsField (λ m. HasFittingContent m × ((envelope_of m ≡ e) × (number_of m ≡ 14))) content_bytes (inform_at e)
unfolding inform_at
inform_field e = same_field (made_field (make_inform e) content_bytes (λ x fits. inform_bytes e x) outcome_field) (record {
  to = λ m h. subst (λ (y : Message). HasFittingContent y × ((envelope_of y ≡ e) × (number_of y ≡ 14))) (sym h.2) (h.1, (refl, refl));
  from = λ m h. inform_only e m h.0 h.1.0 h.1.1;
  bytes_are = λ m h. refl;
})

-- a message without content
abbrev make_commit_ok : Envelope → Message
make_commit_ok e = CommitOk e.from e.to e.id e.ballot

commit_ok_bytes : (e : Envelope) → content_bytes (make_commit_ok e) ≡ []
unfolding content_bytes
commit_ok_bytes e = refl

commit_ok_only : (e : Envelope) (m : Message) → envelope_of m ≡ e → number_of m ≡ 6 → m ≡ make_commit_ok e
commit_ok_only e (CommitOk from to id ballot) same number = ap make_commit_ok same
commit_ok_only e _ same number = absurd (omega (arith, number))

pub commit_ok_field : (e : Envelope) → IsField (λ m. HasFittingContent m × ((envelope_of m ≡ e) × (number_of m ≡ 6))) content_bytes (λ u. Ok (make_commit_ok e, u))
commit_ok_field e = same_field (done_field (make_commit_ok e)) (record {
  to = λ m h. subst (λ (y : Message). HasFittingContent y × ((envelope_of y ≡ e) × (number_of y ≡ 6))) (sym h) (tt, (refl, refl));
  from = λ m h. commit_ok_only e m h.1.0 h.1.1;
  bytes_are = λ m h. sym (ap content_bytes (commit_ok_only e m h.1.0 h.1.1) ∙ commit_ok_bytes e);
})
