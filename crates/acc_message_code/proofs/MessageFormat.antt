-- Messages: what is read is what is spelled.
use Rattle.std.proofs.Common.{◌≡◌, ℕ, zero, suc, ◌≤◌, List, [], ◌∷◌, ◌++◌, length, append_assoc, Result, Ok, Err, refl, sym, ap, subst, ◌∙◌, arith, cond, Bool, true, false, eqb}
use Rattle.std.specs.Prelude.{IfOk}
use Rattle.std.proofs.lemmas.Bool.{eqb-true, ne_eqb}
use Rattle.std.proofs.lemmas.List.{append-nil, nil_from_length}
use Rattle.acc_wire.specs.declared.error.WireError.{WireError}
use Rattle.acc_wire.specs.declared.error.WireKind.TheVariants.{Trailing}
use Rattle.acc_wire.specs.Spelling.{u8_bytes}
use Rattle.acc_wire.specs.Reading.{Passes, AreBytes, ◌>>=◌, fault_at, end_at}
use Rattle.acc_wire.proofs.Fields.{IsField, unread, bind_ok}
use Rattle.acc_message.specs.declared.envelope.Envelope.{Envelope}
use Rattle.acc_message.specs.declared.message.Message.{Message}
use Rattle.acc_message.specs.declared.message.Message.TheVariants.{PreAccept, PreAcceptOk, Accept, AcceptOk, Commit, CommitOk, Stable, ReadOk, Apply, Recover, RecoverOk, Nack, Decided, Inform}
use Rattle.acc_message.specs.Fields.{envelope_of}
use Rattle.acc_code.specs.declared.error.CodeError.{CodeError}
use Rattle.acc_code.proofs.Formats.{IsThen, then_field, tagged_field, same_field}
use Rattle.acc_message_code.specs.Fitting.{FitsEnvelope, HasFittingContent, FitsMessage}
use Rattle.acc_message_code.specs.MessageSpelling.{envelope_bytes, number_of, content_bytes, message_bytes}
use Rattle.acc_message_code.specs.MessageReading.{envelope_at, content_at, message_at, message_of, Gives}
use Rattle.acc_message_code.proofs.PartFormats.{envelope_field}
use Rattle.acc_message_code.proofs.RequestFormats.{pre_accept_field, accept_field, commit_field, stable_field, apply_field, recover_field}
use Rattle.acc_message_code.proofs.ReplyFormats.{pre_accept_ok_field, accept_ok_field, commit_ok_field, read_ok_field, recover_ok_field, nack_field, decided_field, inform_field}

within : (m : Message) → (1 ≤ number_of m) × (number_of m ≤ 14)
within (PreAccept from to id ballot body) = (omega arith, omega arith)
within (PreAcceptOk from to id ballot vote deps) = (omega arith, omega arith)
within (Accept from to id ballot body t deps) = (omega arith, omega arith)
within (AcceptOk from to id ballot deps) = (omega arith, omega arith)
within (Commit from to id ballot body t deps) = (omega arith, omega arith)
within (CommitOk from to id ballot) = (omega arith, omega arith)
within (Stable from to id ballot body t deps) = (omega arith, omega arith)
within (ReadOk from to id ballot answer) = (omega arith, omega arith)
within (Apply from to id ballot body t deps outcome) = (omega arith, omega arith)
within (Recover from to id ballot body) = (omega arith, omega arith)
within (RecoverOk from to id ballot view) = (omega arith, omega arith)
within (Nack from to id ballot promised) = (omega arith, omega arith)
within (Decided from to id ballot t deps) = (omega arith, omega arith)
within (Inform from to id ballot outcome) = (omega arith, omega arith)

abbrev Behind : ℕ → Envelope → Message → Type 0
Behind n e m = HasFittingContent m × ((envelope_of m ≡ e) × (number_of m ≡ n))

content_field : (n : ℕ) → (1 ≤ n) × (n ≤ 14) → (e : Envelope) → IsField (Behind n e) content_bytes (content_at n e)
content_field zero h e = absurd (omega (arith, h.0))
content_field (suc zero) h e = pre_accept_field e
content_field (suc (suc zero)) h e = pre_accept_ok_field e
content_field (suc (suc (suc zero))) h e = accept_field e
content_field (suc (suc (suc (suc zero)))) h e = accept_ok_field e
content_field (suc (suc (suc (suc (suc zero))))) h e = commit_field e
content_field (suc (suc (suc (suc (suc (suc zero)))))) h e = commit_ok_field e
content_field (suc (suc (suc (suc (suc (suc (suc zero))))))) h e = stable_field e
content_field (suc (suc (suc (suc (suc (suc (suc (suc zero)))))))) h e = read_ok_field e
content_field (suc (suc (suc (suc (suc (suc (suc (suc (suc zero))))))))) h e = apply_field e
content_field (suc (suc (suc (suc (suc (suc (suc (suc (suc (suc zero)))))))))) h e = recover_field e
content_field (suc (suc (suc (suc (suc (suc (suc (suc (suc (suc (suc zero))))))))))) h e = recover_ok_field e
content_field (suc (suc (suc (suc (suc (suc (suc (suc (suc (suc (suc (suc zero)))))))))))) h e = nack_field e
content_field (suc (suc (suc (suc (suc (suc (suc (suc (suc (suc (suc (suc (suc zero))))))))))))) h e = decided_field e
content_field (suc (suc (suc (suc (suc (suc (suc (suc (suc (suc (suc (suc (suc (suc zero)))))))))))))) h e = inform_field e
content_field (suc (suc (suc (suc (suc (suc (suc (suc (suc (suc (suc (suc (suc (suc (suc n))))))))))))))) h e = absurd (omega (arith, h.1))

abbrev FitsBoth : Message → Type 0
FitsBoth m = FitsEnvelope (envelope_of m) × HasFittingContent m

abbrev both_bytes : Message → List ℕ
both_bytes m = envelope_bytes (envelope_of m) ++ content_bytes m

behind_field : (n : ℕ) → (1 ≤ n) × (n ≤ 14) → IsField (λ m. FitsBoth m × (number_of m ≡ n)) both_bytes (λ u. envelope_at u >>= λ e. content_at n e.0 e.1)
behind_field n h =
    let then : IsThen FitsEnvelope envelope_bytes (Behind n) (λ e m. content_bytes m) (λ m. FitsBoth m × (number_of m ≡ n)) both_bytes = record {
      fits = λ e m fits k. ((subst FitsEnvelope (sym k.1.0) fits, k.0), k.1.1);
      bytes = λ e m k. ap (λ (f : Envelope). envelope_bytes f ++ content_bytes m) k.1.0;
      parts = λ m k. (envelope_of m, k.0.0, (k.0.1, (refl, k.1)));
    } in
    then_field {k = λ e u. content_at n e u} envelope_field (λ e fits. content_field n h e) then

message_bytes_are : (m : Message) → u8_bytes (number_of m) ++ both_bytes m ≡ message_bytes m
unfolding message_bytes
message_bytes_are m = sym (append_assoc (u8_bytes (number_of m)) (envelope_bytes (envelope_of m)) (content_bytes m))

pub message_field : IsField FitsMessage message_bytes message_at
unfolding message_at
message_field = same_field (tagged_field {k = λ n u. envelope_at u >>= λ e. content_at n e.0 e.1} 1 14 number_of both_bytes (omega arith) (λ m fits. within m) behind_field) (record {
  to = λ m h. record { envelope = h.0; content = h.1 };
  from = λ m h. (h.envelope, h.content);
  bytes_are = λ m h. message_bytes_are m;
})

-- ---- all of the bytes

abbrev at_end : Result (Unit {0}) WireError
at_end = Ok tt

ended : {A : Type 0} (b : Bool) (d : WireError) (x y : A) → (cond b at_end (Err d) >>= λ _. Ok x) ≡ Ok y → (b ≡ true) × (x ≡ y)
ended true d x y e = (refl, cc)
ended false d x y e = absurd cc

message_takes : (bytes : List ℕ) (m : Message) → AreBytes bytes → message_of bytes ≡ Ok m → (bytes ≡ message_bytes m) × FitsMessage m
unfolding message_of
message_takes bytes m are_bytes e =
    let b = bind_ok (message_at (unread bytes 0)) (λ x. end_at x.1 >>= λ _. Ok x.0) m e in
    let g = ended (eqb (length b.0.1.bytes) 0) (fault_at Trailing b.0.1) b.0.0 m b.2 in
    let t = message_field.takes (unread bytes 0) b.0.1 b.0.0 are_bytes b.1 in
    let nothing : b.0.1.bytes ≡ [] = nil_from_length b.0.1.bytes (eqb-true _ _ g.0) in
    (t.0.bytes ∙ ap (λ (r : List ℕ). message_bytes b.0.0 ++ r) nothing ∙ append-nil (message_bytes b.0.0) ∙ ap message_bytes g.1, subst FitsMessage g.1 t.1)

pub message_again : (m : Message) → FitsMessage m → message_of (message_bytes m) ≡ Ok m
unfolding message_of
message_again m fits =
    let rest = unread [] (length (message_bytes m)) in
    let passes : Passes (unread (message_bytes m) 0) rest (message_bytes m) = record { bytes = sym (append-nil (message_bytes m)); place = omega arith } in
    rw (message_field.again (unread (message_bytes m) 0) rest m fits passes) refl

-- more stands after a message
pub message_trails : (m : Message) (x : ℕ) (xs : List ℕ) → FitsMessage m → message_of (message_bytes m ++ x ∷ xs) ≡ Err (record { kind = Trailing; place = length (message_bytes m) })
unfolding message_of
message_trails m x xs fits =
    let rest = unread (x ∷ xs) (length (message_bytes m)) in
    let passes : Passes (unread (message_bytes m ++ x ∷ xs) 0) rest (message_bytes m) = record { bytes = refl; place = omega arith } in
    let some : eqb (length (x ∷ xs)) 0 ≡ false = ne_eqb _ _ (λ e. omega (arith, e)) in
    rw (message_field.again (unread (message_bytes m ++ x ∷ xs) 0) rest m fits passes, some) refl

pub gives_found : (bytes : List ℕ) (r : Result Message CodeError) → AreBytes bytes → Gives r (message_of bytes) → IfOk r (λ m. bytes ≡ message_bytes m)
gives_found bytes (Ok m) are_bytes e = (message_takes bytes m are_bytes e).0
gives_found bytes (Err e) are_bytes h = tt

pub gives_fitting : (bytes : List ℕ) (r : Result Message CodeError) → AreBytes bytes → Gives r (message_of bytes) → IfOk r FitsMessage
gives_fitting bytes (Ok m) are_bytes e = (message_takes bytes m are_bytes e).1
gives_fitting bytes (Err e) are_bytes h = tt

pub gives_only : (bytes : List ℕ) (r : Result Message CodeError) → Gives r (message_of bytes) → (m : Message) → FitsMessage m → bytes ≡ message_bytes m → Gives r (Ok m)
gives_only bytes r h m fits e = subst (λ (answer : Result Message WireError). Gives r answer) (ap message_of e ∙ message_again m fits) h
