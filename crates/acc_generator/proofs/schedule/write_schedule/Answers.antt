use Rattle.std.proofs.Common.{◌≡◌, ℕ, List, [], ◌∷◌, ◌++◌, flat_map, refl, sym, ap, ◌∙◌, arith, append-nil}
use Rattle.std.proofs.lemmas.Result.{on_ok_weaker}
use Rattle.json.specs.Token.{begin_array}
use Rattle.serde_json.specs.Data.{Data}
use Rattle.acc_generator.specs.Document.{drain, numbers, schedule, steps_at}
use Rattle.acc_generator.proofs.PieceFacts.{pieces_more}
use Rattle.acc_generator.proofs.TokenFacts.{closed, grown, grown_by_one}
use Rattle.acc_generator.proofs.schedule.write_schedule.Goals as goal

pub loop-number-init : goal.loop-number-init
loop-number-init c = record {
  before = c.in_ok-begin_array.ensures.room.0;
  written = c.in_ok-begin_array.ensures.ok ∙ sym (append-nil (c.args.out.now.tokens ++ begin_array ∷ []));
}

pub loop-number-preserved : goal.loop-number-preserved
loop-number-preserved c =
    let number = c.loop-number.number in
    record {
      before = c.in_ok-write_steps.ensures.0 ∙ c.loop-number.invariant.before;
      written = grown (c.args.out.now.tokens ++ begin_array ∷ []) c.loop-number.out.tokens _ (flat_map steps_at (numbers number)) (steps_at number) _
          c.loop-number.invariant.written c.in_ok-write_steps.ensures.1 (pieces_more steps_at 0 number number (omega arith));
    }

pub returns : goal.returns
returns c =
    let whole : c.loop-number.number ≡ c.args.count = omega (arith, c.loop-number-test.false, c.loop-number.auto.number-end) in
    let start = c.args.out.now.tokens ++ begin_array ∷ [] in
    let filled = grown_by_one start c.loop-number.out.tokens c.write_drain.new.out.tokens (flat_map steps_at (numbers c.loop-number.number)) drain (schedule c.args.count)
    c.loop-number.invariant.written c.in_ok-write_drain.ensures.1 (ap (λ (n : ℕ). flat_map steps_at (numbers n) ++ drain ∷ []) (sym whole)) in
    on_ok_weaker c.end_array.result (λ e. (
      c.end_array.ensures.room.0 ∙ c.in_ok-write_drain.ensures.0 ∙ c.loop-number.invariant.before,
      closed c.args.out.now.tokens start c.write_drain.new.out.tokens _ (schedule c.args.count) refl filled e,
    )) c.end_array.ensures.ok
