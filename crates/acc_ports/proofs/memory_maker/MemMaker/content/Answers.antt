-- Behind the disk that is found there is none of its number.
use Rattle.std.proofs.Common.{arith, rules, ◌≡◌, ◌∙◌, sym, ◌+◌, ◌-◌, ◌<◌, length, drop, ap, Some, None}
use Rattle.acc_ports.specs.MemoryMaker.{last_content}
use Rattle.acc_ports.proofs.Makers.{last_content_at}
use Rattle.acc_ports.proofs.memory_maker.MemMaker.content.Goals as goal

pub returns-then-back-number : goal.returns-then-back-number
returns-then-back-number c =
    let given = c.as_slice-given.result.now in
    let place = c.loop-place.place - 1 in
    let inside : place < length given = omega arith in
    let behind : place + 1 ≡ c.loop-place.place = omega arith in
    let none : last_content c.args.number (drop (place + 1) given) ≡ None = rw behind c.loop-place.invariant.none in
    let content : c.content.result.now ≡ c.index-given-place.result.1.now.content = search rules in
    let same : given ≡ c.args.self.now.given = search rules in
    ap Some content ∙ sym (last_content_at c.args.number place given c.index-given-place.result inside c.index-given-place.is c.if-back-number.true none) ∙ ap (last_content c.args.number) same
