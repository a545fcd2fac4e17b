-- JSON data without floats that is written as compact text, with a line feed after it, is read as the same data.
use Rattle.std.proofs.Common.{◌≡◌, ℕ, zero, suc, ◌+◌, ◌<◌, ◌≤◌, ◌^◌, Bool, true, false, ◌||◌, List, [], ◌∷◌, ◌++◌, Some, option_map, option_and_then, map, IsUtf8, refl, sym, ap, ◌∙◌, arith, append-nil}
use Rattle.std.specs.List.{range_with_len}
use Rattle.std.proofs.lemmas.Str.{IsUtf8-append, IsUtf8-from_ascii}
use Rattle.std.proofs.lemmas.Fmt.{IsAscii-decimal}
use Rattle.json.specs.Json as json
use Rattle.json.specs.Lex.{tokens}
use Rattle.json.specs.Tree as tree
use Rattle.json.proofs.Printed.Decimals.{IsNumber-decimal}
use Rattle.json.proofs.Printed.Trees.{value-json_tokens, ArePrintable-json_tokens}
use Rattle.json.proofs.Printed.Utf8.{IsUtf8-are_ascii, IsUtf8-quoted}
use Rattle.serde_json.specs.Data.{Data, null, number, unsigned, string, array, object, item, Members, no_members, member, put}
use Rattle.serde_json.specs.Read.{read, of_json, of_items, of_members, max_depth}
use Rattle.serde_json.specs.View.{items_of}
use Rattle.serde_json.specs.Written.{comma_if, compact_text, has_float, items_have_float, items_outline, items_text, members_have_float, members_outline, members_text, outline}
use Rattle.serde_json.proofs.Numbers.{number_of-decimal}
use Rattle.serde_json.proofs.Texts.{print-outline}
use Rattle.acc_generator.proofs.Feed.{tokens_with_feed}

-- the data has no float, nests at most so many levels, and its text is UTF-8 and says it
pub record IsWritten (levels : ℕ) (d : Data) : Type 0 where
  pub numbers : tree.HasNumbers (outline d)
  pub back : of_json (outline d) ≡ Some d
  pub utf8 : IsUtf8 (compact_text d)
  pub exact : has_float d ≡ false
  pub shallow : tree.depth (outline d) ≤ levels

-- so do the items of a list
pub record AreWritten (levels : ℕ) (ds : List Data) : Type 0 where
  pub numbers : tree.ItemsHaveNumbers (items_outline (items_of ds))
  pub back : of_items (items_outline (items_of ds)) ≡ Some (items_of ds)
  pub utf8 : (later : Bool) → IsUtf8 (items_text later (items_of ds))
  pub exact : items_have_float (items_of ds) ≡ false
  pub shallow : tree.items_depth (items_outline (items_of ds)) ≤ levels

-- the members, one put in after another
abbrev put_all : Members → Members → Members
put_all no_members found = found
put_all (member k d ms) found = put_all ms (put k d found)

-- and so do the members of an object, which is read as their members put in one after another
pub record MembersWritten (levels : ℕ) (ms : Members) : Type 0 where
  pub numbers : tree.MembersHaveNumbers (members_outline ms)
  pub back : (found : Members) → of_members (members_outline ms) found ≡ Some (put_all ms found)
  pub utf8 : (later : Bool) → IsUtf8 (members_text later ms)
  pub exact : members_have_float ms ≡ false
  pub shallow : tree.members_depth (members_outline ms) ≤ levels

-- ---- leaves

pub null_written : (levels : ℕ) → IsWritten levels null
null_written levels = record { numbers = tt; back = refl; utf8 = IsUtf8-are_ascii _ refl; exact = refl; shallow = omega arith }

pub number_written : (levels n : ℕ) → n < 2 ^ 64 → IsWritten levels (number (unsigned n))
number_written levels n h = record {
  numbers = IsNumber-decimal n h;
  back = ap (option_map number) (number_of-decimal n h);
  utf8 = IsUtf8-from_ascii _ (IsAscii-decimal n h);
  exact = refl;
  shallow = omega arith;
}

pub string_written : (levels : ℕ) (s : List ℕ) → IsUtf8 s → IsWritten levels (string s)
string_written levels s h = record { numbers = tt; back = refl; utf8 = IsUtf8-quoted s h; exact = refl; shallow = omega arith }

-- ---- lists

comma_utf8 : (later : Bool) → IsUtf8 (comma_if later)
comma_utf8 true = IsUtf8-are_ascii _ refl
comma_utf8 false = IsUtf8-are_ascii _ refl

pub nil_written : (levels : ℕ) → AreWritten levels []
nil_written levels = record { numbers = tt; back = refl; utf8 = λ later. IsUtf8-are_ascii _ refl; exact = refl; shallow = omega arith }

pub cons_written : (levels : ℕ) (d : Data) (ds : List Data) → IsWritten levels d → AreWritten levels ds → AreWritten levels (d ∷ ds)
cons_written levels d ds h hs = record {
  numbers = (h.numbers, hs.numbers);
  back = ap (option_and_then (λ e. option_map (item e) (of_items (items_outline (items_of ds))))) h.back ∙ ap (option_map (item d)) hs.back;
  utf8 = λ later. IsUtf8-append _ _ (comma_utf8 later) (IsUtf8-append _ _ h.utf8 (hs.utf8 true));
  exact = ap (λ b. b || items_have_float (items_of ds)) h.exact ∙ hs.exact;
  shallow = omega (arith, h.shallow, hs.shallow);
}

pub map_written : (levels : ℕ) (made : ℕ → Data) (a n : ℕ) → ((i : ℕ) → i < a + n → IsWritten levels (made i)) → AreWritten levels (map made (range_with_len a n))
map_written levels made a zero each = nil_written levels
map_written levels made a (suc n) each =
    cons_written levels (made a) _ (each a (omega arith)) (map_written levels made (a + 1) n (λ i lt. each i (omega arith)))

pub array_written : (levels : ℕ) (ds : List Data) → AreWritten levels ds → IsWritten (suc levels) (array (items_of ds))
array_written levels ds h = record {
  numbers = h.numbers;
  back = ap (option_map array) h.back;
  utf8 = IsUtf8-append (91 ∷ []) _ (IsUtf8-are_ascii _ refl) (h.utf8 false);
  exact = h.exact;
  shallow = omega (arith, h.shallow);
}

-- ---- objects

pub no_members_written : (levels : ℕ) → MembersWritten levels no_members
no_members_written levels = record { numbers = tt; back = λ found. refl; utf8 = λ later. IsUtf8-are_ascii _ refl; exact = refl; shallow = omega arith }

pub member_written : (levels : ℕ) (k : List ℕ) (d : Data) (ms : Members) → IsUtf8 k → IsWritten levels d → MembersWritten levels ms → MembersWritten levels (member k d ms)
member_written levels k d ms key h hs = record {
  numbers = (h.numbers, hs.numbers);
  back = λ found. ap (option_and_then (λ e. of_members (members_outline ms) (put k e found))) h.back ∙ hs.back (put k d found);
  utf8 = λ later. IsUtf8-append _ _ (comma_utf8 later) (IsUtf8-append _ _ (IsUtf8-quoted k key) (IsUtf8-append (58 ∷ []) _ (IsUtf8-are_ascii _ refl) (IsUtf8-append _ _ h.utf8 (hs.utf8 true))));
  exact = ap (λ b. b || members_have_float ms) h.exact ∙ hs.exact;
  shallow = omega (arith, h.shallow, hs.shallow);
}

-- the members are those that they give when they are put in
pub object_written : (levels : ℕ) (ms : Members) → put_all ms no_members ≡ ms → MembersWritten levels ms → IsWritten (suc levels) (object ms)
object_written levels ms same h = record {
  numbers = h.numbers;
  back = ap (option_map object) (h.back no_members ∙ ap Some same);
  utf8 = IsUtf8-append (123 ∷ []) _ (IsUtf8-are_ascii _ refl) (h.utf8 false);
  exact = h.exact;
  shallow = omega (arith, h.shallow);
}

-- ---- the whole text

abbrev with_feed : Data → List ℕ
with_feed d = compact_text d ++ 10 ∷ []

pub read_with_feed : (levels : ℕ) (d : Data) → levels ≤ max_depth → IsWritten levels d → read (with_feed d) ≡ Some d
read_with_feed levels d few h =
    let ts = tree.json_tokens (outline d) in
    let lexed : tokens (with_feed d) ≡ ts = ap (λ text. tokens (text ++ 10 ∷ [])) (sym (print-outline d)) ∙ tokens_with_feed ts (ArePrintable-json_tokens (outline d) h.numbers) in
    let parsed = value-json_tokens (outline d) max_depth [] (omega (arith, h.shallow)) in
    ap (λ us. option_and_then of_json (option_and_then (λ p. json.if_last p.0 p.1) (json.value max_depth us))) (lexed ∙ sym (append-nil ts))
    ∙ ap (λ r. option_and_then of_json (option_and_then (λ p. json.if_last p.0 p.1) r)) parsed
    ∙ h.back

pub utf8_with_feed : (levels : ℕ) (d : Data) → IsWritten levels d → IsUtf8 (with_feed d)
utf8_with_feed levels d h = IsUtf8-append _ _ h.utf8 (IsUtf8-are_ascii _ refl)
