-- One payload more, or the first that may not stand there.
use Rattle.std.proofs.Common.{◌≡◌, ◌+◌, length, sym, ◌∙◌, arith}
use Rattle.acc_payloads.proofs.NodeReading.{read_none, read_more, bad_record, may_not}
use Rattle.acc_payloads.proofs.node.read_node_journal.Goals as goal

pub loop-payload-init : goal.loop-payload-init
loop-payload-init c = read_none c.args.node c.args.version c.args.start c.new-told.result (c.new-told.ensures c.args.node)

pub returns-in_default-clause-refused : goal.returns-in_default-clause-refused
returns-in_default-clause-refused c =
    bad_record c.args.node c.args.version c.args.start c.args.payloads.now c.loop-payload.payload-index c.loop-payload.told c.loop-payload.gate c.payload-item.result c.loop-payload.invariant c.loop-payload-test.true c.payload-item.is
    (λ p spelled may. c.in_default.ensures.none p may.0 (c.as_slice.ensures ∙ spelled))

pub returns-then-not-may_follow-clause-refused : goal.returns-then-not-may_follow-clause-refused
returns-then-not-may_follow-clause-refused c =
    let so_far = c.loop-payload.invariant in
    may_not c.args.node c.args.version c.args.start c.args.payloads.now c.loop-payload.payload-index c.loop-payload.told c.loop-payload.gate c.payload-item.result so_far c.loop-payload-test.true c.payload-item.is
    c.in-Some.read (sym c.as_slice.ensures ∙ c.in-Some.ensures.found) c.in-Some.ensures.fits (sym (c.may_follow.ensures c.args.node c.args.start so_far.items so_far.tells) ∙ c.if-not-may_follow.true)

pub loop-payload-preserved : goal.loop-payload-preserved
loop-payload-preserved c =
    let so_far = c.loop-payload.invariant in
    let may = sym (c.may_follow.ensures c.args.node c.args.start so_far.items so_far.tells) ∙ c.if-not-may_follow.false in
    let next_is : c.in-Some-checked_add.next ≡ c.loop-payload.gate + (5 + length c.payload-item.result) = omega (arith, c.in-Some-checked_add.ensures, c.len.ensures) in
    read_more c.args.node c.args.version c.args.start c.args.payloads.now c.loop-payload.payload-index c.loop-payload.told c.loop-payload.gate c.payload-item.result so_far c.loop-payload-test.true c.payload-item.is
    c.in-Some.read c.enter.new.self c.in-Some-checked_add.next (sym c.as_slice.ensures ∙ c.in-Some.ensures.found) c.in-Some.ensures.fits may
    (c.in_ok-enter.ensures c.args.version c.args.start so_far.items so_far.tells may) next_is
