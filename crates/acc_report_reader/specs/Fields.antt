-- What the fields of a line say.
use Rattle.std.specs.Prelude.{ℕ, ◌-◌, ◌==◌, Bool, true, false, not, ◌&&◌, ◌||◌, if◌then◌else◌, nat_lt, nat_le, List, [], ◌∷◌, codes, length, Option, Some, None, option_map, pos, negsuc}
use Rattle.std.specs.Borrow.{Bor}
use Rattle.std.specs.Char.{is_ascii_digit}
use Rattle.std.specs.List.{list_all, onto_first}
use Rattle.std.specs.Str.{bytes_eq}
use Rattle.acc_stamp.specs.declared.stamps.Stamp.{Stamp}
use Rattle.acc_stamp.specs.declared.actors.Actor.{Actor}
use Rattle.acc_stamp.specs.Actor.{actor_of}
use Rattle.acc_token.specs.Tokens.{number_of}
use Rattle.acc_value.specs.declared.value.Value.{Value}
use Rattle.acc_value.specs.declared.value.Value.TheVariants.{Number as NumberValue, Text as TextValue}
use Rattle.acc_txn.specs.declared.outcome.Verdict.{Verdict}
use Rattle.acc_txn.specs.declared.outcome.Verdict.TheVariants.{Ok as Done, Skipped, Overflow}
use Rattle.acc_txn.specs.declared.outcome.Reply.{Reply}
use Rattle.acc_txn.specs.Words.{is_text_value}
use Rattle.acc_message.specs.declared.note.Path.{Path}
use Rattle.acc_message.specs.declared.note.Path.TheVariants.{Fast, Slow, Recovered, Adopted}
use Rattle.acc_report_line.specs.Forms.{is_name}
use Rattle.acc_report_reader.specs.Gives.{◌>>=◌, guarded, with_found}

-- ---- parts

-- what stands before the first such byte, and what after it
abbrev pub parts_at : ℕ → List ℕ → Option (List ℕ × List ℕ)
parts_at c [] = None
parts_at c (b ∷ bs) = if b == c then Some ([], bs) else option_map (λ p. (b ∷ p.0, p.1)) (parts_at c bs)

-- what stands after a word and a space
unfoldable pub behind_word : List ℕ → List ℕ → Option (List ℕ)
behind_word word bytes = do
  parts ← parts_at 32 bytes
  guarded (bytes_eq parts.0 word) parts.1

-- whether what follows stands inside of quotes, by whether a quote is passed
abbrev pub turned : Bool → Bool → Bool
turned inside true = not inside
turned inside false = inside

-- what stands before the first comma outside of quotes, and what after it. The flag tells whether the bytes in front end
-- inside of quotes
abbrev pub piece_at : Bool → List ℕ → Option (List ℕ × List ℕ)
piece_at inside [] = None
piece_at inside (b ∷ bs) = if (b == 44) && not inside then Some ([], bs) else option_map (λ p. (b ∷ p.0, p.1)) (piece_at (turned inside (b == 39)) bs)

-- the pieces between such commas
abbrev pub pieces : Bool → List ℕ → List (List ℕ)
pieces inside [] = [] ∷ []
pieces inside (b ∷ bs) = if (b == 44) && not inside then [] ∷ pieces false bs else onto_first b (pieces (turned inside (b == 39)) bs)

-- those of a text, if there is one
abbrev pub pieces_of : Option (Bor (List ℕ)) → List (List ℕ)
pieces_of None = []
pieces_of (Some text) = pieces false text.now

-- what each of them says
abbrev pub each_in : {Y : Type 0} → (List ℕ → Option Y) → List (List ℕ) → Option (List Y)
each_in one [] = Some []
each_in one (x ∷ xs) = do
  y ← one x
  ys ← each_in one xs
  Some (y ∷ ys)

-- ---- names and numbers

unfoldable pub name_in : List ℕ → Option (List ℕ)
name_in bytes = guarded (is_name bytes) bytes

unfoldable pub list_in : {Y : Type 0} → (List ℕ → Option Y) → List ℕ → Option (List Y)
list_in one bytes = each_in one (pieces false bytes)

unfoldable pub names_in : List ℕ → Option (List (List ℕ))
names_in bytes = if bytes_eq bytes (codes "-") then Some [] else list_in name_in bytes

-- no zero stands in front of another digit
abbrev pub begins_plainly : List ℕ → Bool
begins_plainly [] = false
begins_plainly (c ∷ cs) = (length cs == 0) || not (c == 48)

abbrev pub is_numeral : List ℕ → Bool
is_numeral bytes = begins_plainly bytes && list_all is_ascii_digit bytes

unfoldable pub number_in : List ℕ → Option ℕ
number_in bytes = if is_numeral bytes then number_of bytes else None

unfoldable pub small_number_in : List ℕ → Option ℕ
small_number_in bytes = do
  n ← number_in bytes
  guarded (nat_lt n 4294967296) n

-- a number after its label
unfoldable pub count_in : List ℕ → List ℕ → Option ℕ
count_in label bytes = do
  parts ← parts_at 61 bytes
  n ← number_in parts.1
  guarded (bytes_eq parts.0 label) n

unfoldable pub stamp_in : List ℕ → Option Stamp
stamp_in bytes = do
  parts ← parts_at 46 bytes
  h ← number_in parts.0
  origin ← small_number_in parts.1
  Some (record { h = h; origin = origin })

-- the number of a node, or of a shard
unfoldable pub place_in : List ℕ → Option ℕ
place_in bytes = do
  n ← number_in bytes
  guarded (nat_le 1 n && nat_le n 15) n

unfoldable pub store_in : List ℕ × List ℕ → Option Actor
store_in parts = do
  node ← place_in parts.0
  shard ← place_in parts.1
  Some (actor_of node shard)

unfoldable pub node_in : List ℕ → Option Actor
node_in bytes = do
  node ← place_in bytes
  Some (actor_of node 0)

unfoldable pub actor_in : List ℕ → Option Actor
actor_in bytes = with_found (parts_at 46 bytes) store_in (node_in bytes)

unfoldable pub path_in : List ℕ → Option Path
path_in bytes =
    if bytes_eq bytes (codes "fast") then Some Fast
    else (if bytes_eq bytes (codes "slow") then Some Slow
    else (if bytes_eq bytes (codes "recovered") then Some Recovered
    else guarded (bytes_eq bytes (codes "adopted")) Adopted))

-- ---- replies

-- what a text in quotes says, from after its opening quote on. The flag tells whether the byte in front is a quote that waits
-- for what follows it
abbrev pub content_in : Bool → List ℕ → Option (List ℕ)
content_in false [] = None
content_in true [] = Some []
content_in false (c ∷ cs) = if c == 39 then content_in true cs else option_map (λ said. c ∷ said) (content_in false cs)
content_in true (c ∷ cs) = if c == 39 then option_map (λ said. c ∷ said) (content_in false cs) else None

unfoldable pub text_in : List ℕ → Option (Option Value)
text_in bytes = do
  text ← content_in false bytes
  guarded (is_text_value text) (Some (TextValue text))

-- a number after its minus sign
unfoldable pub negative_in : List ℕ → Option (Option Value)
negative_in bytes = do
  n ← number_in bytes
  guarded (nat_le 1 n && nat_le n 9223372036854775808) (Some (NumberValue (negsuc (n - 1))))

unfoldable pub positive_in : List ℕ → Option (Option Value)
positive_in bytes = do
  n ← number_in bytes
  guarded (nat_lt n 9223372036854775808) (Some (NumberValue (pos n)))

unfoldable pub plain_in : List ℕ → Option (Option Value)
plain_in bytes = if bytes_eq bytes (codes "null") then Some None else positive_in bytes

unfoldable pub cell_in : List ℕ → Option (Option Value)
cell_in [] = None
cell_in (c ∷ cs) = if c == 39 then text_in cs else (if c == 45 then negative_in cs else plain_in (c ∷ cs))

-- a verdict that values may follow
unfoldable pub verdict_in : List ℕ → Option Verdict
verdict_in bytes = if bytes_eq bytes (codes "ok") then Some Done else guarded (bytes_eq bytes (codes "skipped")) Skipped

unfoldable pub bare_in : List ℕ → Option Reply
bare_in bytes = do
  verdict ← (if bytes_eq bytes (codes "overflow") then Some Overflow else verdict_in bytes)
  Some (record { verdict = verdict; values = [] })

unfoldable pub valued_in : List ℕ × List ℕ → Option Reply
valued_in parts = do
  verdict ← verdict_in parts.0
  values ← list_in cell_in parts.1
  Some (record { verdict = verdict; values = values })

unfoldable pub reply_in : List ℕ → Option Reply
reply_in bytes = with_found (parts_at 32 bytes) valued_in (bare_in bytes)
