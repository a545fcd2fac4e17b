-- The token that a piece of a text is.
use Rattle.std.specs.Prelude.{false, map, is_some}
use Rattle.std.specs.Char.{to_ascii_lowercase}
use Rattle.acc_token.specs.declared.lexeme.Lexeme.{Lexeme}
use Rattle.acc_token.specs.declared.lexeme.Lexeme.TheVariants.{Word as WordIs, Mark as MarkIs, Number as NumberIs, Quoted as QuotedIs, Strange as StrangeIs, End as EndIs}
use Rattle.acc_token.specs.Tokens.{Token, Word, Mark, Number, Quoted, Strange, End, content}

abbrev pub token_shown : Lexeme → Token
token_shown (WordIs letters) = Word (map to_ascii_lowercase letters.now)
token_shown (MarkIs mark) = Mark mark.now
token_shown (NumberIs number) = Number number
token_shown (QuotedIs text) = Quoted (content false text.behind_quote.now) (is_some text.len)
token_shown StrangeIs = Strange
token_shown EndIs = End
