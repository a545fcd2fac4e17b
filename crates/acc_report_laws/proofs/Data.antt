-- The whole numbers of data that are read from JSON are those of 64 bits, where they aren't negative.
use Rattle.std.proofs.Common.{◌≡◌, ℕ, ◌<◌, ◌^◌, List, Bool, true, false, cond, ◌&&◌, Option, Some, None, IfSome, option_map, option_and_then, unwrap_or, inl, inr, subst, arith, nat_le, nat_lt, ◌==◌, drop, slice_index}
use Rattle.std.specs.List.{AllByRecursion}
use Rattle.std.specs.Ordering.{nat_cmp, match_ordering}
use Rattle.std.specs.Cmp.Lexicographic.{slice_cmp}
use Rattle.std.specs.declared.cmp.Ordering.TheVariants.{Less, Equal, Greater}
use Rattle.std.specs.Float.{binary64, float_is_finite}
use Rattle.std.proofs.lemmas.Bool.{and_parts, cases_Bool, ltb-true}
use Rattle.fast_float.specs.Text.{Parts, nearest, digits_of, with_sign, minus, scan}
use Rattle.json.specs.Json as json
use Rattle.json.specs.Lex.{tokens}
use Rattle.serde_json.specs.Data.{Num, unsigned, negative, float, Data, null, boolean, number, string, array, object, Items, no_items, item, Members, no_members, member, put}
use Rattle.serde_json.specs.Find.{get, get_member}
use Rattle.serde_json.specs.Read.{is_integer, float_of, number_from, number_of, of_json, of_items, of_members, read, max_depth}
use Rattle.acc_schedule.specs.Fields.{field, items, items_list, number as number_in}

abbrev pub Fits : Num → Type 0
Fits (unsigned n) = n < 2 ^ 64
Fits (negative z) = Unit {0}
Fits (float x) = Unit {0}

abbrev mutual
  pub AllFit : Data → Type 0
  AllFit null = Unit {0}
  AllFit (boolean b) = Unit {0}
  AllFit (number n) = Fits n
  AllFit (string s) = Unit {0}
  AllFit (array ds) = ItemsFit ds
  AllFit (object ms) = MembersFit ms

  pub ItemsFit : Items → Type 0
  ItemsFit no_items = Unit {0}
  ItemsFit (item d ds) = AllFit d × ItemsFit ds

  pub MembersFit : Members → Type 0
  MembersFit no_members = Unit {0}
  MembersFit (member k d ms) = AllFit d × MembersFit ms

-- ---- options

pub mapped : {A B : Type 0} (P : A → Type 0) (Q : B → Type 0) (f : A → B) (o : Option A) → IfSome o P → ((a : A) → P a → Q (f a)) → IfSome (option_map f o) Q
mapped P Q f None h step = tt
mapped P Q f (Some a) h step = step a h

pub followed : {A B : Type 0} (P : A → Type 0) (Q : B → Type 0) (f : A → Option B) (o : Option A) → IfSome o P → ((a : A) → P a → IfSome (f a) Q) → IfSome (option_and_then f o) Q
followed P Q f None h step = tt
followed P Q f (Some a) h step = step a h

-- whatever it is
pub anyway : {A B : Type 0} (Q : B → Type 0) (f : A → Option B) (o : Option A) → ((a : A) → IfSome (f a) Q) → IfSome (option_and_then f o) Q
anyway Q f None step = tt
anyway Q f (Some a) step = step a

-- ---- numbers

float_fits : (sign : Bool) (p : Parts) → IfSome (float_of sign p) Fits
float_fits sign p = elim (float_is_finite (nearest binary64 sign p)) as (λ b. IfSome (cond b (Some (float (nearest binary64 sign p))) None) Fits) [ true ↦ tt | false ↦ tt ]

from_fits : (sign : Bool) (p : Parts) → IfSome (number_from sign p) Fits
from_fits false p =
    elim (cases_Bool (is_integer p && nat_lt (digits_of p) (2 ^ 64))) [
      | inl is ↦ rw is (ltb-true (digits_of p) (2 ^ 64) (and_parts (is_integer p) (nat_lt (digits_of p) (2 ^ 64)) is).1)
      | inr other ↦ rw other (float_fits false p)
    ]
from_fits true p =
    elim (is_integer p && nat_lt 0 (digits_of p) && nat_le (digits_of p) (2 ^ 63)) as (λ b. IfSome (cond b (Some (negative (with_sign true (digits_of p)))) (float_of true p)) Fits) [
      | true ↦ tt
      | false ↦ float_fits true p
    ]

number_fits : (s : List ℕ) → IfSome (number_of s) Fits
unfolding number_of
number_fits s =
    elim (slice_index s 0 == minus) as (λ b. IfSome (cond b (number_from true (scan (drop 1 s))) (number_from false (scan s))) Fits) [
      | true ↦ from_fits true (scan (drop 1 s))
      | false ↦ from_fits false (scan s)
    ]

-- ---- what is read

put_fits : (k : List ℕ) (d : Data) (ms : Members) → AllFit d → MembersFit ms → MembersFit (put k d ms)
put_fits k d no_members h hs = (h, tt)
put_fits k d (member l e ms) h hs =
    elim (slice_cmp nat_cmp k l) as (λ o. MembersFit (match_ordering o (member k d (member l e ms)) (member l d ms) (member l e (put k d ms)))) [
      | Less ↦ (h, hs)
      | Equal ↦ (h, hs.1)
      | Greater ↦ (hs.0, put_fits k d ms h hs.1)
    ]

mutual
  json_fits : (j : json.Json) → IfSome (of_json j) AllFit
  json_fits json.null = tt
  json_fits (json.boolean b) = tt
  json_fits (json.number s) = mapped Fits AllFit number (number_of s) (number_fits s) (λ n h. h)
  json_fits (json.string s) = tt
  json_fits (json.array js) = mapped ItemsFit AllFit array (of_items js) (items_fit js) (λ ds h. h)
  json_fits (json.object ms) = mapped MembersFit AllFit object (of_members ms no_members) (members_fit ms no_members tt) (λ ms h. h)

  items_fit : (js : json.Items) → IfSome (of_items js) ItemsFit
  items_fit json.no_items = tt
  items_fit (json.item j js) =
      followed AllFit ItemsFit (λ d. option_map (item d) (of_items js)) (of_json j) (json_fits j)
      (λ d h. mapped ItemsFit ItemsFit (item d) (of_items js) (items_fit js) (λ ds hs. (h, hs)))

  members_fit : (ms : json.Members) (found : Members) → MembersFit found → IfSome (of_members ms found) MembersFit
  members_fit json.no_members found h = h
  members_fit (json.member k j ms) found h =
      followed AllFit MembersFit (λ d. of_members ms (put k d found)) (of_json j) (json_fits j) (λ d hd. members_fit ms (put k d found) (put_fits k d found hd h))

some_fits : (o : Option Data) (d : Data) → IfSome o AllFit → o ≡ Some d → AllFit d
some_fits o d h is = subst (λ o. IfSome o AllFit) is h

pub read_fits : (bytes : List ℕ) (d : Data) → read bytes ≡ Some d → AllFit d
read_fits bytes d is = some_fits (read bytes) d (anyway AllFit of_json (option_and_then (λ p. json.if_last p.0 p.1) (json.value max_depth (tokens bytes))) json_fits) is

-- ---- what is looked up in it

member_fits : (k : List ℕ) (ms : Members) → MembersFit ms → IfSome (get_member k ms) AllFit
member_fits k no_members h = tt
member_fits k (member l e ms) h =
    elim (slice_cmp nat_cmp k l) as (λ o. IfSome (match_ordering o (get_member k ms) (Some e) (get_member k ms)) AllFit) [
      | Less ↦ member_fits k ms h.1
      | Equal ↦ h.0
      | Greater ↦ member_fits k ms h.1
    ]

get_fits : (k : List ℕ) (d : Data) → AllFit d → IfSome (get k d) AllFit
get_fits k null h = tt
get_fits k (boolean b) h = tt
get_fits k (number n) h = tt
get_fits k (string s) h = tt
get_fits k (array ds) h = tt
get_fits k (object ms) h = member_fits k ms h

given_or : (o : Option Data) → IfSome o AllFit → AllFit (unwrap_or o null)
given_or None h = tt
given_or (Some d) h = h

pub field_fits : (name : List ℕ) (d : Data) → AllFit d → AllFit (field name d)
field_fits name d h = given_or (get name d) (get_fits name d h)

listed_fit : (ds : Items) → ItemsFit ds → AllByRecursion AllFit (items_list ds)
listed_fit no_items h = tt
listed_fit (item d ds) h = (h.0, listed_fit ds h.1)

pub items_all_fit : (d : Data) → AllFit d → AllByRecursion AllFit (items d)
items_all_fit null h = tt
items_all_fit (boolean b) h = tt
items_all_fit (number n) h = tt
items_all_fit (string s) h = tt
items_all_fit (array ds) h = listed_fit ds h
items_all_fit (object ms) h = tt

pub number_in_fits : (d : Data) → AllFit d → number_in d < 2 ^ 64
number_in_fits null h = omega arith
number_in_fits (boolean b) h = omega arith
number_in_fits (number (unsigned n)) h = h
number_in_fits (number (negative z)) h = omega arith
number_in_fits (number (float x)) h = omega arith
number_in_fits (string s) h = omega arith
number_in_fits (array ds) h = omega arith
number_in_fits (object ms) h = omega arith
