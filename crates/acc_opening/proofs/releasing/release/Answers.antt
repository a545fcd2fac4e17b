use Rattle.std.proofs.Common.{◌≡◌, Some, sym, subst, get_or}
use Rattle.std.proofs.lemmas.Option.{get_or_from_slice_get, slice_get-get_or}
use Rattle.acc_opening.specs.Plan.{Lookup}
use Rattle.acc_opening.specs.declared.turns.Turn.{Turn}
use Rattle.acc_opening.specs.Lookup.{lookup}
use Rattle.acc_opening.specs.State.{no_turn}
use Rattle.acc_opening.specs.Turns.{change_of}
use Rattle.acc_record.specs.Shelf.{cell_at}
use Rattle.acc_opening.specs.Layer.{WritesOver}
use Rattle.acc_opening.specs.Release.{written_in}
use Rattle.acc_opening.proofs.ReleaseFacts.{turn_step}
use Rattle.acc_opening.proofs.releasing.release.Goals as goal

pub loop-turn-preserved : goal.loop-turn-preserved
loop-turn-preserved c =
    let layout = c.args.topology.now in
    let turns = c.args.turns.now in
    let i = c.loop-turn.turn-index in
    let turn : Turn = get_or turns i no_turn in
    let r = c.in-Some.there.now in
    let is : turn ≡ get_or turns i turn = sym (get_or_from_slice_get turns i turn turn (slice_get-get_or turns i no_turn c.loop-turn-test.true)) in
    let over = subst (λ s. WritesOver c.loop-turn.writes (written_in layout s r (change_of turn)) c.apply_turn.new.writes) c.shard.ensures c.in_ok-apply_turn.ensures in
    turn_step layout c.args.own (lookup c.args.known.now.records.now c.args.known.now.own.now) turns (cell_at c.args.cells.now)
    c.loop-turn.sent c.open_turn.new.sent c.loop-turn.writes c.apply_turn.new.writes i turn r c.loop-turn-test.true is (sym c.in-Some.ensures) c.in_ok-open_turn.ensures over
    c.loop-turn.invariant
