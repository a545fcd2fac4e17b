-- One payload more, or the first that may not stand there.
use Rattle.std.proofs.Common.{◌≡◌, ◌+◌, length, sym, ◌∙◌, arith}
use Rattle.acc_left.specs.Told.{bytes_in}
use Rattle.acc_left.proofs.PayloadFacts.{next_in, payload_at}
use Rattle.acc_left.proofs.NodeWalk.{node_may_not, node_more, node_unread}
use Rattle.acc_left.proofs.nodes.enter_node.Goals as goal

pub returns-in_default : goal.returns-in_default
returns-in_default c =
    node_unread c.args.plan.now c.args.node (bytes_in c.args.payloads.now) c.loop-payload.payload-index c.loop-payload.told c.args.drawn.now.draws c.loop-payload.drawn.draws c.loop-payload.gate
    (payload_at c.args.payloads.now c.loop-payload.payload-index) c.loop-payload.invariant (next_in c.args.payloads.now c.loop-payload.payload-index c.loop-payload-test.true)
    (λ p fits spelled. c.in_default.ensures.none p fits spelled)

pub returns-then-not-may_follow : goal.returns-then-not-may_follow
returns-then-not-may_follow c =
    let so_far = c.loop-payload.invariant in
    node_may_not c.args.plan.now c.args.node (bytes_in c.args.payloads.now) c.loop-payload.payload-index c.loop-payload.told c.args.drawn.now.draws c.loop-payload.drawn.draws c.loop-payload.gate
    (payload_at c.args.payloads.now c.loop-payload.payload-index) so_far (next_in c.args.payloads.now c.loop-payload.payload-index c.loop-payload-test.true) c.in-Some.read c.in-Some.ensures.found c.in-Some.ensures.fits
    (sym (c.may_follow.ensures _ so_far.items so_far.tells) ∙ c.if-not-may_follow.true)

pub loop-payload-preserved : goal.loop-payload-preserved
loop-payload-preserved c =
    let so_far = c.loop-payload.invariant in
    let next_is : c.in-Some-checked_add.next ≡ c.loop-payload.gate + (5 + length (payload_at c.args.payloads.now c.loop-payload.payload-index)) = omega (arith, c.in-Some-checked_add.ensures) in
    node_more c.args.plan.now c.args.node (bytes_in c.args.payloads.now) c.loop-payload.payload-index c.loop-payload.told c.args.drawn.now.draws c.loop-payload.drawn.draws c.loop-payload.gate
    (payload_at c.args.payloads.now c.loop-payload.payload-index) so_far (next_in c.args.payloads.now c.loop-payload.payload-index c.loop-payload-test.true) c.in-Some.read c.enter.new.self c.enter_draw.new.drawn.draws c.in-Some-checked_add.next
    c.in-Some.ensures.found c.in-Some.ensures.fits (sym (c.may_follow.ensures _ so_far.items so_far.tells) ∙ c.if-not-may_follow.false)
    (c.in_ok-enter.ensures _ so_far.items so_far.tells) c.in_ok-enter_draw.ensures next_is
