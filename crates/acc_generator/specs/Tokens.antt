-- The tokens of data, and what a writer has after some of them.
use Rattle.std.specs.Prelude.{◌≡◌, List, ◌++◌, flat_map}
use Rattle.json.specs.Token.{Token}
use Rattle.json.specs.Tree.{json_tokens}
use Rattle.json.specs.Written.{Written}
use Rattle.serde_json.specs.Data.{Data}
use Rattle.serde_json.specs.Written.{outline}

-- those that `serde_json` writes of data without floats
abbrev pub data_tokens : Data → List Token
data_tokens d = json_tokens (outline d)

-- the writer has the tokens of the data more
abbrev pub Adds : Written → Data → Written → Type 0
Adds old d new = (new.before ≡ old.before) × (new.tokens ≡ old.tokens ++ data_tokens d)

-- those of each of the data, one after another
abbrev pub AddsAll : Written → List Data → Written → Type 0
AddsAll old ds new = (new.before ≡ old.before) × (new.tokens ≡ old.tokens ++ flat_map data_tokens ds)
