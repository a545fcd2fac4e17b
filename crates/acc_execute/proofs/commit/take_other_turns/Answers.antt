use Rattle.std.proofs.Common.{cond, get_or, take, sym, ap, ◌∙◌}
use Rattle.std.specs.Option.{option_map}
use Rattle.std.proofs.lemmas.List.{take_more}
use Rattle.acc_stamp.specs.Stamp.{id_eq}
use Rattle.acc_record.specs.Shelf.{record_at}
use Rattle.acc_opening.specs.declared.turns.Turn.{Turn}
use Rattle.acc_opening.specs.State.{no_turn}
use Rattle.acc_opening.specs.Turns.{changes_in}
use Rattle.acc_execute.specs.Opened.{executed}
use Rattle.acc_execute.proofs.Turns.{no_other_turns, one_other}
use Rattle.acc_execute.proofs.commit.take_other_turns.Goals as goal

pub loop-turn-init : goal.loop-turn-init
loop-turn-init c y = no_other_turns c.args.id y (record_at c.args.records.now y)

pub loop-turn-preserved : goal.loop-turn-preserved
loop-turn-preserved c y =
    let turns = c.args.turns.now in
    let i = c.loop-turn.turn-index in
    let turn : Turn = get_or turns i no_turn in
    c.take_if_other.ensures y
    ∙ one_other (take i turns) turn y c.args.id (record_at c.loop-turn.records) (record_at c.args.records.now) c.loop-turn.invariant
    ∙ ap (λ list. cond (id_eq c.args.id y) (record_at c.args.records.now y) (option_map (executed (changes_in list) y) (record_at c.args.records.now y)))
    (sym (take_more turns i no_turn c.loop-turn-test.true))
