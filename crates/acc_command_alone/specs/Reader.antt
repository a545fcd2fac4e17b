-- The command line of one number, as `clap` sees it.
use Rattle.std.specs.Prelude.{ℕ, true, List, [], ◌∷◌, Some, codes}
use Rattle.clap.specs.Simple.{App, new_app, new_rule, on_top, with_rule}
use Rattle.clap.specs.Walk.{Rule}
use Rattle.clap.specs.declared.builder.action.ArgAction.TheVariants.{Set}
use Rattle.clap.specs.declared.builder.value_parser.ValueParser.TheVariants.{Unsigned}

-- one argument, which must be there: a number of the range
abbrev pub number_rule : ℕ → ℕ → Rule
number_rule least most = record (new_rule (codes "number")) { action = Some Set; parser = Some (Unsigned least most); required = true }

abbrev pub number_app : ℕ → ℕ → App
number_app least most = with_rule (on_top (λ s. record s { no_binary_name = true }) (new_app (codes "option"))) (number_rule least most)

-- a word that stands for a value, whatever it looks like
abbrev pub words_of : List ℕ → List (List ℕ)
words_of word = codes "--" ∷ word ∷ []
