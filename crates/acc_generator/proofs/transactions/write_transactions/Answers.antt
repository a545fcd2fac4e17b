use Rattle.std.proofs.Common.{◌≡◌, ℕ, List, [], ◌∷◌, ◌++◌, map, refl, sym, ap, ◌∙◌, arith, append-nil}
use Rattle.std.proofs.lemmas.List.FromFn.{map-range_with_len_more}
use Rattle.std.proofs.lemmas.Result.{on_ok_weaker}
use Rattle.json.specs.Token.{begin_array}
use Rattle.acc_generator.specs.Document.{numbers, transaction, transaction_with}
use Rattle.acc_generator.specs.Texts.{state_behind, text_from}
use Rattle.acc_generator.specs.Tokens.{data_tokens}
use Rattle.acc_generator.proofs.DrawFacts.{before_first, state_step}
use Rattle.acc_generator.proofs.TokenFacts.{closed, grown_by_one}
use Rattle.acc_generator.proofs.transactions.write_transactions.Goals as goal

pub loop-number-init : goal.loop-number-init
loop-number-init c = record {
  state = c.new-draws.ensures ∙ before_first c.args.seed;
  before = c.in_ok-begin_array.ensures.room.0;
  written = c.in_ok-begin_array.ensures.ok ∙ sym (append-nil (c.args.out.now.tokens ++ begin_array ∷ []));
}

pub loop-number-preserved : goal.loop-number-preserved
loop-number-preserved c =
    let number = c.loop-number.number in
    let text = c.in_ok-set_text.ensures.text ∙ ap (λ (state : ℕ). text_from state number) c.loop-number.invariant.state in
    record {
      state = c.set_text.ensures.behind ∙ ap (λ (state : ℕ). state_behind state number) c.loop-number.invariant.state ∙ state_step c.args.seed number;
      before = c.in_ok-write_transaction.ensures.0 ∙ c.loop-number.invariant.before;
      written = grown_by_one (c.args.out.now.tokens ++ begin_array ∷ []) c.loop-number.out.tokens _ (map (transaction c.args.seed) (numbers number)) (transaction c.args.seed number) _
          c.loop-number.invariant.written
          (c.in_ok-write_transaction.ensures.1 ∙ ap (λ (t : List ℕ). c.loop-number.out.tokens ++ data_tokens (transaction_with number t)) (c.as_str.ensures.value ∙ text))
          (map-range_with_len_more (transaction c.args.seed) 0 number number (omega arith));
    }

pub returns : goal.returns
returns c =
    let whole : c.loop-number.number ≡ c.args.count = omega (arith, c.loop-number-test.false, c.loop-number.auto.number-end) in
    let start = c.args.out.now.tokens ++ begin_array ∷ [] in
    let all = map (transaction c.args.seed) (numbers c.args.count) in
    let filled : c.loop-number.out.tokens ≡ start ++ _ = c.loop-number.invariant.written in
    on_ok_weaker c.end_array.result (λ e. (
      c.end_array.ensures.room.0 ∙ c.loop-number.invariant.before,
      rw (sym whole) (closed c.args.out.now.tokens start c.loop-number.out.tokens _ (map (transaction c.args.seed) (numbers c.loop-number.number)) refl c.loop-number.invariant.written e),
    )) c.end_array.ensures.ok
