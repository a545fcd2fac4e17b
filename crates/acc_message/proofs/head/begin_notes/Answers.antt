-- The notes of a head begin where those of the one before it end.
use Rattle.std.proofs.Common.{◌≡◌, suc, ap, ◌∙◌, arith}
use Rattle.acc_message.specs.Joined.{noted_of, begin_of}
use Rattle.acc_message.proofs.Joined.{begins_read}
use Rattle.acc_message.proofs.head.begin_notes.Goals as goal

pub returns-in-Some : goal.returns-in-Some
returns-in-Some c =
    let heads = c.args.heads.now in
    let before = c.in-Some.before in
    let place : suc before ≡ c.args.place = omega (arith, c.in-Some.ensures) in
    begins_read noted_of heads _ before c.noted.result (omega (arith, place, c.requires)) c.noted.ensures ∙ ap (begin_of noted_of 0 heads) place
