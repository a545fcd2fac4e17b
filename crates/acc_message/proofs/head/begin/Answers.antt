-- The messages of a head begin where those of the one before it end.
use Rattle.std.proofs.Common.{◌≡◌, suc, ap, ◌∙◌, arith}
use Rattle.acc_message.specs.Joined.{until_of, begin_of}
use Rattle.acc_message.proofs.Joined.{begins_read}
use Rattle.acc_message.proofs.head.begin.Goals as goal

pub returns-in-Some : goal.returns-in-Some
returns-in-Some c =
    let heads = c.args.heads.now in
    let before = c.in-Some.before in
    let place : suc before ≡ c.args.place = omega (arith, c.in-Some.ensures) in
    begins_read until_of heads _ before c.until.result (omega (arith, place, c.requires)) c.until.ensures ∙ ap (begin_of until_of 0 heads) place
