-- Each length is read where it stands.
use Rattle.std.proofs.Common.{arith, ◌<◌, length, length-drop}
use Rattle.acc_journal.specs.Records.{payloads_in}
use Rattle.acc_journal.proofs.Waiting.{next_size, next_room, next_place}
use Rattle.acc_journal.proofs.records.place_behind.Goals as goal

pub overflow_add-place : goal.overflow_add-place
overflow_add-place c = omega (arith, next_room _ _ _ (payloads_in c.args.bytes.now) (omega (arith, c.loop-test.true, c.requires.count)) c.requires.records c.loop.invariant)

pub slice_bounds-read_u32-count : goal.slice_bounds-read_u32-count
slice_bounds-read_u32-count c = omega (arith, next_room _ _ _ (payloads_in c.args.bytes.now) (omega (arith, c.loop-test.true, c.requires.count)) c.requires.records c.loop.invariant)

pub slice_bounds-read_u32-start : goal.slice_bounds-read_u32-start
slice_bounds-read_u32-start c = omega (arith, next_room _ _ _ (payloads_in c.args.bytes.now) (omega (arith, c.loop-test.true, c.requires.count)) c.requires.records c.loop.invariant)

pub read_u32-length-requires : goal.read_u32-length-requires
read_u32-length-requires c =
    let inside = next_room _ _ _ (payloads_in c.args.bytes.now) (omega (arith, c.loop-test.true, c.requires.count)) c.requires.records c.loop.invariant in
    grind (arith, length-drop, inside)

pub overflow_add-place-in-loop-2 : goal.overflow_add-place-in-loop-2
overflow_add-place-in-loop-2 c =
    let i : c.loop.counter < length (payloads_in c.args.bytes.now) = omega (arith, c.loop-test.true, c.requires.count) in
    omega (arith, c.read_u32-length.ensures, next_size _ _ _ (payloads_in c.args.bytes.now) i c.requires.records c.loop.invariant, next_room _ _ _ (payloads_in c.args.bytes.now) i c.requires.records c.loop.invariant)

pub loop-preserved : goal.loop-preserved
loop-preserved c =
    let i : c.loop.counter < length (payloads_in c.args.bytes.now) = omega (arith, c.loop-test.true, c.requires.count) in
    omega (arith, c.read_u32-length.ensures, c.loop.invariant, next_size _ _ _ (payloads_in c.args.bytes.now) i c.requires.records c.loop.invariant, next_place c.loop.counter (payloads_in c.args.bytes.now) i)
