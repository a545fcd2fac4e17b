-- After the body are the timestamp and the dependencies, then the outcome, and nothing else.
use Rattle.std.proofs.Common.{◌≡◌, ℕ, List, [], ◌++◌, sym, ap, subst, ◌∙◌}
use Rattle.std.proofs.lemmas.List.{append-nil}
use Rattle.acc_wire.specs.Reading.{Unread}
use Rattle.acc_message.specs.declared.message.Message.{Message}
use Rattle.acc_message.specs.declared.message.Message.TheVariants.{Apply}
use Rattle.acc_code.specs.Spelling.{outcome_bytes}
use Rattle.acc_message_code.specs.SharedParts.{IsBehind}
use Rattle.acc_message_code.proofs.Shared.{nothing_left, apply_is}
use Rattle.acc_message_code.proofs.shared_parts.apply.Goals as goal

pub returns : goal.returns
returns c =
    let e = c.args.envelope in
    let s = c.in_ok-t.field-0-0 in
    let o = c.in_ok-outcome.outcome in
    let none : c.take_outcome.new.reader.bytes ≡ [] = nothing_left c.take_outcome.new.reader (sym c.in_ok-finish.ensures) in
    let last : c.in_ok-t.rest.now ≡ outcome_bytes o =
    sym (ap (λ (u : Unread). u.bytes) c.new-reader.ensures) ∙ c.in_ok-outcome.ensures.found.bytes ∙ ap (λ (l : List ℕ). outcome_bytes o ++ l) none ∙ append-nil (outcome_bytes o) in
    let is : c.apply.result ≡ Apply e.from e.to e.id e.ballot c.args.body.now s.t s.deps o = cc (c.apply.ensures, c.in_ok-copy.ensures, c.in_ok-new.ensures) in
    subst (IsBehind (record { number = 9; envelope = e }) c.args.body.now c.args.bytes.now) (sym is)
    (apply_is e c.args.body.now c.args.bytes.now c.in_ok-t.rest.now s o c.requires.body c.in_ok-t.ensures last c.in_ok-outcome.ensures.fits)
