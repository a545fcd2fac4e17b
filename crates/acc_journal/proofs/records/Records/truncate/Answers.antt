-- The first of them stay.
use Rattle.std.proofs.Common.{◌≡◌, ◌∙◌, ap, arith, List, ℕ, length, take}
use Rattle.std.proofs.lemmas.List.{length-take-le}
use Rattle.acc_journal.specs.Layout.{records}
use Rattle.acc_journal.specs.Records.{payloads_in}
use Rattle.acc_journal.proofs.Waiting.{own_records, payloads_in_records, first_are}
use Rattle.acc_journal.proofs.records.Records.truncate.Goals as goal

pub invariant_of-self : goal.invariant_of-self
invariant_of-self c =
    let bytes = c.self.inside.bytes.items in
    let kept = c.args.kept in
    let place : c.place_behind-place.result ≡ length (records (take kept (payloads_in bytes))) = c.place_behind-place.ensures ∙ ap (λ (l : List ℕ). length (records (take kept (payloads_in l)))) c.as_slice.ensures.value in
    let are = first_are kept bytes c.truncate.new.self.items (payloads_in bytes) c.self.invariant.records (c.truncate.ensures.items ∙ ap (λ (n : ℕ). take n bytes) place) in
    record {
      records = own_records _ _ are;
      count = omega (arith, ap length (payloads_in_records _ _ are), length-take-le kept (payloads_in bytes) (omega (arith, c.if-kept-self.true, c.self.invariant.count)));
      room = λ _. omega (arith, c.truncate.ensures.len, c.truncate.ensures.capacity, c.self.invariant.room (omega (arith, c.if-kept-self.true)));
    }

pub returns-then-kept-self : goal.returns-then-kept-self
returns-then-kept-self c =
    let bytes = c.self.inside.bytes.items in
    let kept = c.args.kept in
    let place : c.place_behind-place.result ≡ length (records (take kept (payloads_in bytes))) = c.place_behind-place.ensures ∙ ap (λ (l : List ℕ). length (records (take kept (payloads_in l)))) c.as_slice.ensures.value in
    let are = first_are kept bytes c.truncate.new.self.items (payloads_in bytes) c.self.invariant.records (c.truncate.ensures.items ∙ ap (λ (n : ℕ). take n bytes) place) in
    payloads_in_records _ _ are ∙ ap (λ (ps : List (List ℕ)). take kept ps) c.self.view_is
