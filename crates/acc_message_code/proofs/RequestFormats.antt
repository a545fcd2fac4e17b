-- Messages to a store: what is read is what is spelled.
use Rattle.std.proofs.Common.{◌≡◌, List, ◌++◌, refl, sym, ap, subst, arith}
use Rattle.acc_wire.proofs.Fields.{IsField}
use Rattle.acc_stamp.specs.declared.stamps.Stamp.{Stamp}
use Rattle.acc_deps.specs.declared.shards.ShardDeps.{ShardDeps}
use Rattle.acc_deps.specs.declared.records.Settled.{Settled}
use Rattle.acc_txn.specs.declared.parts.BodyParts.{BodyParts}
use Rattle.acc_txn.specs.declared.outcome.Outcome.{Outcome}
use Rattle.acc_message.specs.declared.envelope.Envelope.{Envelope}
use Rattle.acc_message.specs.declared.message.Message.{Message}
use Rattle.acc_message.specs.declared.message.Message.TheVariants.{PreAccept, Accept, Commit, Stable, Apply, Recover}
use Rattle.acc_message.specs.Fields.{envelope_of}
use Rattle.acc_code.specs.Spelling.{outcome_bytes}
use Rattle.acc_txn.specs.BodySpelling.{body_bytes}
use Rattle.acc_code.specs.Short.{IsOutcome, IsNumberedBody}
use Rattle.acc_code.proofs.Formats.{made_field, made_of_two, same_field}
use Rattle.acc_code.proofs.CellFormats.{outcome_field}
use Rattle.acc_code.proofs.NumberedBody.{numbered_field}
use Rattle.acc_message_code.specs.Spelling.{settled_bytes}
use Rattle.acc_message_code.specs.Fitting.{FitsSettled, HasFittingContent}
use Rattle.acc_message_code.specs.MessageSpelling.{proposal_bytes, number_of, content_bytes}
use Rattle.acc_message_code.specs.MessageReading.{pre_accept_at, accept_at, commit_at, stable_at, apply_at, recover_at}
use Rattle.acc_message_code.proofs.PartFormats.{proposal_field}

abbrev make_settled : Stamp → List ShardDeps → Settled
make_settled t deps = record { t = t; deps = deps }

abbrev make_pre_accept : Envelope → BodyParts → Message
make_pre_accept e x = PreAccept e.from e.to e.id e.ballot x

pre_accept_bytes : (e : Envelope) (x : BodyParts) → content_bytes (make_pre_accept e x) ≡ body_bytes x
unfolding content_bytes
pre_accept_bytes e x = refl

pre_accept_only : (e : Envelope) (m : Message) → HasFittingContent m → envelope_of m ≡ e → number_of m ≡ 1 → (x : BodyParts) × (IsNumberedBody x) × (m ≡ make_pre_accept e x)
pre_accept_only e (PreAccept from to id ballot body) fits same number = (body, fits, ap (λ (f : Envelope). make_pre_accept f body) same)
pre_accept_only e _ fits same number = absurd (omega (arith, number))

pub pre_accept_field : (e : Envelope) → IsField (λ m. HasFittingContent m × ((envelope_of m ≡ e) × (number_of m ≡ 1))) content_bytes (pre_accept_at e)
unfolding pre_accept_at
pre_accept_field e = same_field (made_field (make_pre_accept e) content_bytes (λ x fits. pre_accept_bytes e x) numbered_field) (record {
  to = λ m h. subst (λ (y : Message). HasFittingContent y × ((envelope_of y ≡ e) × (number_of y ≡ 1))) (sym h.2) (h.1, (refl, refl));
  from = λ m h. pre_accept_only e m h.0 h.1.0 h.1.1;
  bytes_are = λ m h. refl;
})

abbrev make_accept : Envelope → (BodyParts × Settled) → Message
make_accept e x = Accept e.from e.to e.id e.ballot x.0 x.1.t x.1.deps

accept_bytes : (e : Envelope) (x : BodyParts × Settled) → content_bytes (make_accept e x) ≡ body_bytes x.0 ++ settled_bytes x.1
unfolding content_bytes proposal_bytes
accept_bytes e x = refl

accept_only : (e : Envelope) (m : Message) → HasFittingContent m → envelope_of m ≡ e → number_of m ≡ 3 → (x : BodyParts × Settled) × (IsNumberedBody x.0 × FitsSettled x.1) × (m ≡ make_accept e x)
accept_only e (Accept from to id ballot body t deps) fits same number = ((body, make_settled t deps), fits, ap (λ (f : Envelope). make_accept f (body, make_settled t deps)) same)
accept_only e _ fits same number = absurd (omega (arith, number))

pub accept_field : (e : Envelope) → IsField (λ m. HasFittingContent m × ((envelope_of m ≡ e) × (number_of m ≡ 3))) content_bytes (accept_at e)
unfolding accept_at
accept_field e = same_field (made_field (make_accept e) content_bytes (λ x fits. accept_bytes e x) proposal_field) (record {
  to = λ m h. subst (λ (y : Message). HasFittingContent y × ((envelope_of y ≡ e) × (number_of y ≡ 3))) (sym h.2) (h.1, (refl, refl));
  from = λ m h. accept_only e m h.0 h.1.0 h.1.1;
  bytes_are = λ m h. refl;
})

abbrev make_commit : Envelope → (BodyParts × Settled) → Message
make_commit e x = Commit e.from e.to e.id e.ballot x.0 x.1.t x.1.deps

commit_bytes : (e : Envelope) (x : BodyParts × Settled) → content_bytes (make_commit e x) ≡ body_bytes x.0 ++ settled_bytes x.1
unfolding content_bytes proposal_bytes
commit_bytes e x = refl

commit_only : (e : Envelope) (m : Message) → HasFittingContent m → envelope_of m ≡ e → number_of m ≡ 5 → (x : BodyParts × Settled) × (IsNumberedBody x.0 × FitsSettled x.1) × (m ≡ make_commit e x)
commit_only e (Commit from to id ballot body t deps) fits same number = ((body, make_settled t deps), fits, ap (λ (f : Envelope). make_commit f (body, make_settled t deps)) same)
commit_only e _ fits same number = absurd (omega (arith, number))

pub commit_field : (e : Envelope) → IsField (λ m. HasFittingContent m × ((envelope_of m ≡ e) × (number_of m ≡ 5))) content_bytes (commit_at e)
unfolding commit_at
commit_field e = same_field (made_field (make_commit e) content_bytes (λ x fits. commit_bytes e x) proposal_field) (record {
  to = λ m h. subst (λ (y : Message). HasFittingContent y × ((envelope_of y ≡ e) × (number_of y ≡ 5))) (sym h.2) (h.1, (refl, refl));
  from = λ m h. commit_only e m h.0 h.1.0 h.1.1;
  bytes_are = λ m h. refl;
})

abbrev make_stable : Envelope → (BodyParts × Settled) → Message
make_stable e x = Stable e.from e.to e.id e.ballot x.0 x.1.t x.1.deps

stable_bytes : (e : Envelope) (x : BodyParts × Settled) → content_bytes (make_stable e x) ≡ body_bytes x.0 ++ settled_bytes x.1
unfolding content_bytes proposal_bytes
stable_bytes e x = refl

stable_only : (e : Envelope) (m : Message) → HasFittingContent m → envelope_of m ≡ e → number_of m ≡ 7 → (x : BodyParts × Settled) × (IsNumberedBody x.0 × FitsSettled x.1) × (m ≡ make_stable e x)
stable_only e (Stable from to id ballot body t deps) fits same number = ((body, make_settled t deps), fits, ap (λ (f : Envelope). make_stable f (body, make_settled t deps)) same)
stable_only e _ fits same number = absurd (omega (arith, number))

pub stable_field : (e : Envelope) → IsField (λ m. HasFittingContent m × ((envelope_of m ≡ e) × (number_of m ≡ 7))) content_bytes (stable_at e)
unfolding stable_at
stable_field e = same_field (made_field (make_stable e) content_bytes (λ x fits. stable_bytes e x) proposal_field) (record {
  to = λ m h. subst (λ (y : Message). HasFittingContent y × ((envelope_of y ≡ e) × (number_of y ≡ 7))) (sym h.2) (h.1, (refl, refl));
  from = λ m h. stable_only e m h.0 h.1.0 h.1.1;
  bytes_are = λ m h. refl;
})

abbrev make_recover : Envelope → BodyParts → Message
make_recover e x = Recover e.from e.to e.id e.ballot x

recover_bytes : (e : Envelope) (x : BodyParts) → content_bytes (make_recover e x) ≡ body_bytes x
unfolding content_bytes
recover_bytes e x = refl

recover_only : (e : Envelope) (m : Message) → HasFittingContent m → envelope_of m ≡ e → number_of m ≡ 10 → (x : BodyParts) × (IsNumberedBody x) × (m ≡ make_recover e x)
recover_only e (Recover from to id ballot body) fits same number = (body, fits, ap (λ (f : Envelope). make_recover f body) same)
recover_only e _ fits same number = absurd (omega (arith, number))

pub recover_field : (e : Envelope) → IsField (λ m. HasFittingContent m × ((envelope_of m ≡ e) × (number_of m ≡ 10))) content_bytes (recover_at e)
unfolding recover_at
recover_field e = same_field (made_field (make_recover e) content_bytes (λ x fits. recover_bytes e x) numbered_field) (record {
  to = λ m h. subst (λ (y : Message). HasFittingContent y × ((envelope_of y ≡ e) × (number_of y ≡ 10))) (sym h.2) (h.1, (refl, refl));
  from = λ m h. recover_only e m h.0 h.1.0 h.1.1;
  bytes_are = λ m h. refl;
})

abbrev make_apply : Envelope → BodyParts × Settled → Outcome → Message
make_apply e x outcome = Apply e.from e.to e.id e.ballot x.0 x.1.t x.1.deps outcome

apply_bytes : (e : Envelope) (x : BodyParts × Settled) (outcome : Outcome) → content_bytes (make_apply e x outcome) ≡ (body_bytes x.0 ++ settled_bytes x.1) ++ outcome_bytes outcome
unfolding content_bytes proposal_bytes
apply_bytes e x outcome = refl

apply_only : (e : Envelope) (m : Message) → HasFittingContent m → envelope_of m ≡ e → number_of m ≡ 9 → (x : BodyParts × Settled) × (outcome : Outcome) × (IsNumberedBody x.0 × FitsSettled x.1) × IsOutcome outcome × (m ≡ make_apply e x outcome)
apply_only e (Apply from to id ballot body t deps outcome) fits same number = ((body, make_settled t deps), outcome, fits.0, fits.1, ap (λ (f : Envelope). make_apply f (body, make_settled t deps) outcome) same)
apply_only e _ fits same number = absurd (omega (arith, number))

pub apply_field : (e : Envelope) → IsField (λ m. HasFittingContent m × ((envelope_of m ≡ e) × (number_of m ≡ 9))) content_bytes (apply_at e)
unfolding apply_at
apply_field e = same_field (made_of_two (make_apply e) content_bytes (λ x o f g. apply_bytes e x o) proposal_field (λ _ _. outcome_field)) (record {
  to = λ m h. subst (λ (y : Message). HasFittingContent y × ((envelope_of y ≡ e) × (number_of y ≡ 9))) (sym h.4) ((h.2, h.3), (refl, refl));
  from = λ m h. apply_only e m h.0 h.1.0 h.1.1;
  bytes_are = λ m h. refl;
})
