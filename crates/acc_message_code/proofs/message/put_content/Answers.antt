-- A body with a timestamp and dependencies is what several messages have.
use Rattle.std.proofs.Common.{inl, inr, Result, Ok, Err}
use Rattle.std.specs.Prelude.{OnOk}
use Rattle.acc_message_code.proofs.message.put_content.Goals as goal

ok_then : {A E : Type 0} {P Q : Type 0} (r : Result A E) → (P → Q) → OnOk r P → OnOk r Q
ok_then (Ok x) f h = f h
ok_then (Err e) f h = tt

pub returns-in_ok-put_proposal-in-Apply-clause-fits : goal.returns-in_ok-put_proposal-in-Apply-clause-fits
returns-in_ok-put_proposal-in-Apply-clause-fits c =
    rw c.in-Apply.is (ok_then c.put_outcome.result (λ o. (c.in_ok-put_proposal-in-Apply.ensures.fits, rw c.outcome.ensures at o)) c.put_outcome.ensures.fits)

pub returns-in-Accept-clause-fits : goal.returns-in-Accept-clause-fits
returns-in-Accept-clause-fits c =
    let fits = c.put_proposal-in-Accept.ensures.fits in
    elim c.in-Accept.is [
      | inl accept ↦ rw accept.4 fits
      | inr others ↦ elim others [
        | inl commit ↦ rw commit.4 fits
        | inr stable ↦ rw stable.4 fits
      ]
    ]
