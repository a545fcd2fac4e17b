use Rattle.std.proofs.Common.{cond, get_or, take, sym, ap, ◌∙◌}
use Rattle.std.proofs.lemmas.List.{take_more}
use Rattle.acc_stamp.specs.Stamp.{id_eq}
use Rattle.acc_record.specs.declared.record.Record.{Record}
use Rattle.acc_opening.specs.declared.turns.Turn.{Turn}
use Rattle.acc_opening.specs.State.{no_turn}
use Rattle.acc_opening.specs.Turns.{changes_in}
use Rattle.acc_execute.specs.Opened.{executed}
use Rattle.acc_execute.specs.Executed.{after_turn}
use Rattle.acc_execute.proofs.Turns.{no_own_turns, one_own}
use Rattle.acc_execute.proofs.commit.take_own_turns.Goals as goal

pub loop-turn-init : goal.loop-turn-init
loop-turn-init c = no_own_turns c.args.id c.args.own.now

pub loop-turn-preserved : goal.loop-turn-preserved
loop-turn-preserved c =
    let turns = c.args.turns.now in
    let i = c.loop-turn.turn-index in
    let turn : Turn = get_or turns i no_turn in
    c.take_if_own.ensures
    ∙ ap (λ (r : Record). cond (id_eq turn.id c.args.id) (after_turn turn r) r) c.loop-turn.invariant
    ∙ one_own (take i turns) turn c.args.id c.args.own.now
    ∙ ap (λ list. executed (changes_in list) c.args.id c.args.own.now) (sym (take_more turns i no_turn c.loop-turn-test.true))
