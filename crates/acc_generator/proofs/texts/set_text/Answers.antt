use Rattle.std.proofs.Common.{◌≡◌, ℕ, ◌<◌, ◌≤◌, ◌%◌, List, ◌++◌, string_bytes, sym, ap, ◌∙◌, arith}
use Rattle.std.proofs.lemmas.Result.{on_ok_weaker}
use Rattle.acc_generator.specs.Texts.{first_text, later_text, text_from}
use Rattle.acc_generator.proofs.DrawFacts.{AreDraws, drawn_behind, drawn_text, first_behind, first_text_from}
use Rattle.acc_generator.proofs.texts.set_text.Goals as goal

pub returns-then-key-lt-KEYS-clause-text : goal.returns-then-key-lt-KEYS-clause-text
returns-then-key-lt-KEYS-clause-text c =
    let state = c.args.draws.now.state in
    let lt : c.args.number < 64 = omega (arith, c.if-key-lt-KEYS.true, c.from-key.ensures) in
    let same : first_text c.from-key.result ≡ text_from state c.args.number = ap first_text c.from-key.ensures ∙ sym (first_text_from state c.args.number lt) in
    on_ok_weaker c.push_first.result (λ e. e ∙ ap (λ (t : List ℕ). t ++ first_text c.from-key.result) c.clear.ensures.bytes ∙ same) c.push_first.ensures

pub returns-then-key-lt-KEYS-clause-behind : goal.returns-then-key-lt-KEYS-clause-behind
returns-then-key-lt-KEYS-clause-behind c = sym (first_behind c.args.draws.now.state c.args.number (omega (arith, c.if-key-lt-KEYS.true, c.from-key.ensures)))

pub returns-else-key-lt-KEYS-clause-text : goal.returns-else-key-lt-KEYS-clause-text
returns-else-key-lt-KEYS-clause-text c =
    let le : 64 ≤ c.args.number = omega (arith, c.if-key-lt-KEYS.false, c.from-key.ensures) in
    let is : AreDraws c.args.draws.now.state c.draw-read.new.self.state c.draw-written.new.self.state c.draw-added.new.self.state c.draw-read.result c.draw-written.result c.draw-added.result = record {
      first = c.draw-read.ensures.state;
      second = c.draw-written.ensures.state;
      third = c.draw-added.ensures.state;
      a_is = c.draw-read.ensures.number;
      b_is = c.draw-written.ensures.number;
      c_is = c.draw-added.ensures.number;
    } in
    let later = later_text (c.draw-read.result % 64) (c.draw-written.result % 64) (c.draw-added.result % 100) in
    on_ok_weaker c.push_later.result (λ e. e ∙ ap (λ (t : List ℕ). t ++ later) c.clear.ensures.bytes ∙ drawn_text _ _ _ _ _ _ _ c.args.number is le) c.push_later.ensures

pub returns-else-key-lt-KEYS-clause-behind : goal.returns-else-key-lt-KEYS-clause-behind
returns-else-key-lt-KEYS-clause-behind c =
    let le : 64 ≤ c.args.number = omega (arith, c.if-key-lt-KEYS.false, c.from-key.ensures) in
    let is : AreDraws c.args.draws.now.state c.draw-read.new.self.state c.draw-written.new.self.state c.draw-added.new.self.state c.draw-read.result c.draw-written.result c.draw-added.result = record {
      first = c.draw-read.ensures.state;
      second = c.draw-written.ensures.state;
      third = c.draw-added.ensures.state;
      a_is = c.draw-read.ensures.number;
      b_is = c.draw-written.ensures.number;
      c_is = c.draw-added.ensures.number;
    } in
    drawn_behind _ _ _ _ _ _ _ c.args.number is le
