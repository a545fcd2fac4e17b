-- Draws: what is read is what is spelled.
use Rattle.std.proofs.Common.{◌≡◌, ℕ, zero, suc, ◌≤◌, Bool, true, false, cond, eqb, List, [], ◌++◌, length, append_assoc, Result, Ok, Err, refl, sym, ap, subst, ◌∙◌, arith}
use Rattle.std.specs.Prelude.{IfOk, OnErr}
use Rattle.std.proofs.lemmas.Bool.{eqb-true}
use Rattle.std.proofs.lemmas.List.{append-nil, nil_from_length}
use Rattle.acc_wire.specs.declared.error.WireError.{WireError}
use Rattle.acc_wire.specs.declared.error.WireKind.TheVariants.{Trailing}
use Rattle.acc_wire.specs.Spelling.{u8_bytes, u32_bytes, u64_bytes}
use Rattle.acc_wire.specs.Reading.{Passes, AreBytes, ◌>>=◌, fault_at, u32_at, u64_at, end_at}
use Rattle.acc_wire.proofs.Fields.{IsField, unread, bind_ok, ok_is, u32_field, u64_field}
use Rattle.acc_code.proofs.Formats.{made_of_two, tagged_field, same_field}
use Rattle.acc_payloads.specs.declared.draw.Purpose.{Purpose}
use Rattle.acc_payloads.specs.declared.draw.Purpose.TheVariants.{Begin, Recover}
use Rattle.acc_payloads.specs.declared.draw.Draw.{Draw}
use Rattle.acc_payloads.specs.Spelling.{purpose_number, draw_bytes, FitsDraw}
use Rattle.acc_payloads.specs.Reading.{purpose_of, draw_at, draw_of}

abbrev tag : Draw → ℕ
tag d = purpose_number d.purpose

abbrev tail : Draw → List ℕ
tail d = u32_bytes d.txn ++ u64_bytes d.h

within_for : (p : Purpose) → (1 ≤ purpose_number p) × (purpose_number p ≤ 2)
within_for Begin = (omega arith, omega arith)
within_for Recover = (omega arith, omega arith)

purpose_back : (p : Purpose) → p ≡ purpose_of (purpose_number p)
purpose_back Begin = refl
purpose_back Recover = refl

purpose_forth : (n : ℕ) → (1 ≤ n) × (n ≤ 2) → purpose_number (purpose_of n) ≡ n
purpose_forth zero h = absurd (omega (arith, h.0))
purpose_forth (suc zero) h = refl
purpose_forth (suc (suc zero)) h = refl
purpose_forth (suc (suc (suc n))) h = absurd (omega (arith, h.1))

abbrev make : Purpose → ℕ → ℕ → Draw
make purpose txn h = record { purpose = purpose; txn = txn; h = h }

rest_field : (n : ℕ) → (1 ≤ n) × (n ≤ 2) → IsField (λ d. FitsDraw d × (tag d ≡ n)) tail (λ u. u32_at u >>= λ txn. u64_at txn.1 >>= λ h. Ok (make (purpose_of n) txn.0 h.0, h.1))
rest_field n within = same_field (made_of_two (make (purpose_of n)) tail (λ x y f g. refl) u32_field (λ _ _. u64_field)) (record {
  to = λ d m. subst (λ (x : Draw). FitsDraw x × (tag x ≡ n)) (sym m.4) (record { txn = m.2; h = m.3 }, purpose_forth n within);
  from = λ d f. (d.txn, d.h, f.0.txn, f.0.h, ap (λ (p : Purpose). make p d.txn d.h) (purpose_back d.purpose ∙ ap purpose_of f.1));
  bytes_are = λ d f. refl;
})

draw_bytes_are : (d : Draw) → u8_bytes (tag d) ++ tail d ≡ draw_bytes d
unfolding draw_bytes
draw_bytes_are d = sym (append_assoc (u8_bytes (tag d)) (u32_bytes d.txn) (u64_bytes d.h))

draw_field : IsField FitsDraw draw_bytes draw_at
unfolding draw_at
draw_field = same_field (tagged_field {k = λ n u. u32_at u >>= λ txn. u64_at txn.1 >>= λ h. Ok (make (purpose_of n) txn.0 h.0, h.1)} 1 2 tag tail (omega arith) (λ d fits. within_for d.purpose) rest_field) (record {
  to = λ d f. f;
  from = λ d f. f;
  bytes_are = λ d f. draw_bytes_are d;
})

-- ---- all of the bytes

abbrev at_end : Result (Unit {0}) WireError
at_end = Ok tt

ended : {A : Type 0} (b : Bool) (d : WireError) (x y : A) → (cond b at_end (Err d) >>= λ _. Ok x) ≡ Ok y → (b ≡ true) × (x ≡ y)
ended true d x y e = (refl, cc)
ended false d x y e = absurd cc

draw_takes : (bytes : List ℕ) (d : Draw) → AreBytes bytes → draw_of bytes ≡ Ok d → (bytes ≡ draw_bytes d) × FitsDraw d
unfolding draw_of
draw_takes bytes d are_bytes e =
    let b = bind_ok (draw_at (unread bytes 0)) (λ x. end_at x.1 >>= λ _. Ok x.0) d e in
    let g = ended (eqb (length b.0.1.bytes) 0) (fault_at Trailing b.0.1) b.0.0 d b.2 in
    let t = draw_field.takes (unread bytes 0) b.0.1 b.0.0 are_bytes b.1 in
    let nothing : b.0.1.bytes ≡ [] = nil_from_length b.0.1.bytes (eqb-true _ _ g.0) in
    (t.0.bytes ∙ ap (λ (r : List ℕ). draw_bytes b.0.0 ++ r) nothing ∙ append-nil (draw_bytes b.0.0) ∙ ap draw_bytes g.1, subst FitsDraw g.1 t.1)

draw_again : (d : Draw) → FitsDraw d → draw_of (draw_bytes d) ≡ Ok d
unfolding draw_of
draw_again d fits =
    let rest = unread [] (length (draw_bytes d)) in
    let passes : Passes (unread (draw_bytes d) 0) rest (draw_bytes d) = record { bytes = sym (append-nil (draw_bytes d)); place = omega arith } in
    rw (draw_field.again (unread (draw_bytes d) 0) rest d fits passes) refl

-- ---- what the reader answers, which takes no memory

pub draw_found : (bytes : List ℕ) (r : Result Draw WireError) → AreBytes bytes → r ≡ draw_of bytes → IfOk r (λ d. (bytes ≡ draw_bytes d) × FitsDraw d)
draw_found bytes (Ok d) are_bytes e = draw_takes bytes d are_bytes (sym e)
draw_found bytes (Err e) are_bytes h = tt

abbrev failed : WireError → Result Draw WireError
failed e = Err e

differ : (e : WireError) (d : Draw) → failed e ≡ Ok d → ⊥
differ e d r = cc

pub draw_only : (bytes : List ℕ) (r : Result Draw WireError) → r ≡ draw_of bytes → OnErr r ((d : Draw) → FitsDraw d → bytes ≡ draw_bytes d → ⊥)
draw_only bytes (Ok d) e = tt
draw_only bytes (Err e) h = λ d fits is. differ e d (h ∙ ap draw_of is ∙ draw_again d fits)

-- two draws have different spellings
pub same_draw : (c d : Draw) → FitsDraw c → FitsDraw d → draw_bytes c ≡ draw_bytes d → c ≡ d
same_draw c d f g e = ok_is c d (sym (draw_again c f) ∙ ap draw_of e ∙ draw_again d g)
