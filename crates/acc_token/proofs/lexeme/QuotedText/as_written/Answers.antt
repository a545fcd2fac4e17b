use Rattle.std.proofs.Common.{◌≡◌, Some, sym}
use Rattle.std.proofs.lemmas.List.{length-take-le}
use Rattle.acc_token.specs.Tokens.{content_len}
use Rattle.acc_token.proofs.QuotedFacts.{as_written, content_within}
use Rattle.acc_token.proofs.lexeme.QuotedText.as_written.Goals as goal

pub slice_bounds-front-end : goal.slice_bounds-front-end
slice_bounds-front-end c =
    let is : content_len c.args.self.now.behind_quote.now ≡ Some c.in_ok-front.field-0 = cc in
    sym (length-take-le c.in_ok-front.field-0 c.args.self.now.behind_quote.now (content_within c.args.self.now.behind_quote.now c.in_ok-front.field-0 is))

pub returns-then-has_no_quote : goal.returns-then-has_no_quote
returns-then-has_no_quote c =
    let is : content_len c.args.self.now.behind_quote.now ≡ Some c.in_ok-front.field-0 = cc in
    as_written c.args.self.now.behind_quote.now c.in_ok-front.field-0 is (sym c.if-has_no_quote.ensures)
