-- The fields of each object that is read from JSON have names that rise.
use Rattle.std.proofs.Common.{◌≡◌, ℕ, List, Option, None, Some, IfSome, option_map, option_and_then, refl, ap, subst, ◌∙◌}
use Rattle.std.specs.Cmp.Lexicographic.{slice_cmp}
use Rattle.std.specs.declared.cmp.Ordering.{Ordering}
use Rattle.std.specs.declared.cmp.Ordering.TheVariants.{Less, Equal, Greater}
use Rattle.std.specs.Ordering.{match_ordering, nat_cmp, ordering_reverse}
use Rattle.std.proofs.lemmas.Cmp.{nat_list_cmp_total}
use Rattle.json.specs.Json as json
use Rattle.json.specs.Lex.{tokens}
use Rattle.serde_json.specs.Data.{array, boolean, item, member, no_items, no_members, null, number, object, put, string, Data, Items, Members}
use Rattle.serde_json.specs.Find.{get, get_member}
use Rattle.serde_json.specs.Read.{max_depth, number_of, of_items, of_json, of_members, read}
use Rattle.acc_stamp.proofs.Rising.{each_weaker}
use Rattle.acc_schedule.specs.Fields.{member_names}
use Rattle.acc_report_laws.proofs.Data.{anyway, followed, mapped}
use Rattle.acc_left_laws.proofs.PutFacts.{put_named, AllNamed}

abbrev pub IsBelow : List ℕ → List ℕ → Type 0
IsBelow name other = slice_cmp nat_cmp name other ≡ Less

abbrev mutual
  pub AllRise : Data → Type 0
  AllRise null = Unit {0}
  AllRise (boolean b) = Unit {0}
  AllRise (number n) = Unit {0}
  AllRise (string s) = Unit {0}
  AllRise (array ds) = ItemsRise ds
  AllRise (object ms) = MembersRise ms

  pub ItemsRise : Items → Type 0
  ItemsRise no_items = Unit {0}
  ItemsRise (item d ds) = AllRise d × ItemsRise ds

  pub MembersRise : Members → Type 0
  MembersRise no_members = Unit {0}
  MembersRise (member k d ms) = AllNamed (IsBelow k) ms × AllRise d × MembersRise ms

-- ---- what is read

below_all : (k l : List ℕ) (ms : Members) → IsBelow k l → AllNamed (IsBelow l) ms → AllNamed (IsBelow k) ms
below_all k l ms less all = each_weaker (IsBelow l) (IsBelow k) (member_names ms) (λ x more. nat_list_cmp_total.trans k l x less more) all

turned : (k l : List ℕ) → slice_cmp nat_cmp k l ≡ Greater → IsBelow l k
turned k l is = nat_list_cmp_total.antisymm l k ∙ ap ordering_reverse is

put_rises : (k : List ℕ) (d : Data) (ms : Members) → AllRise d → MembersRise ms → MembersRise (put k d ms)
put_rises k d no_members h hs = (tt, h, tt)
put_rises k d (member l e ms) h hs = by (slice_cmp nat_cmp k l) refl (put_rises k d ms h hs.2)
  where
    by : (o : Ordering) → slice_cmp nat_cmp k l ≡ o → MembersRise (put k d ms)
        → MembersRise (match_ordering o (member k d (member l e ms)) (member l d ms) (member l e (put k d ms)))
    by Less is more = ((is, below_all k l ms is hs.0), h, hs)
    by Equal is more = (hs.0, h, hs.2)
    by Greater is more = (put_named (IsBelow l) k d ms (turned k l is) hs.0, hs.1, more)

mutual
  json_rises : (j : json.Json) → IfSome (of_json j) AllRise
  json_rises json.null = tt
  json_rises (json.boolean b) = tt
  json_rises (json.number s) = number_rises (number_of s)
    where
      number_rises : (o : Option _) → IfSome (option_map number o) AllRise
      number_rises None = tt
      number_rises (Some n) = tt
  json_rises (json.string s) = tt
  json_rises (json.array js) = mapped ItemsRise AllRise array (of_items js) (items_rise js) (λ ds h. h)
  json_rises (json.object ms) = mapped MembersRise AllRise object (of_members ms no_members) (members_rise ms no_members tt) (λ found h. h)

  items_rise : (js : json.Items) → IfSome (of_items js) ItemsRise
  items_rise json.no_items = tt
  items_rise (json.item j js) =
      followed AllRise ItemsRise (λ d. option_map (item d) (of_items js)) (of_json j) (json_rises j)
      (λ d h. mapped ItemsRise ItemsRise (item d) (of_items js) (items_rise js) (λ ds hs. (h, hs)))

  members_rise : (ms : json.Members) (found : Members) → MembersRise found → IfSome (of_members ms found) MembersRise
  members_rise json.no_members found h = h
  members_rise (json.member k j ms) found h =
      followed AllRise MembersRise (λ d. of_members ms (put k d found)) (of_json j) (json_rises j) (λ d hd. members_rise ms (put k d found) (put_rises k d found hd h))

some_rises : (o : Option Data) (d : Data) → IfSome o AllRise → o ≡ Some d → AllRise d
some_rises o d h is = subst (λ (p : Option Data). IfSome p AllRise) is h

pub read_rises : (bytes : List ℕ) (d : Data) → read bytes ≡ Some d → AllRise d
read_rises bytes d is =
    some_rises (read bytes) d (anyway AllRise of_json (option_and_then (λ p. json.if_last p.0 p.1) (json.value max_depth (tokens bytes))) json_rises) is

-- ---- what is looked up in it

member_rises : (k : List ℕ) (ms : Members) → MembersRise ms → IfSome (get_member k ms) AllRise
member_rises k no_members h = tt
member_rises k (member l e ms) h = by (slice_cmp nat_cmp k l) (member_rises k ms h.2)
  where
    by : (o : Ordering) → IfSome (get_member k ms) AllRise → IfSome (match_ordering o (get_member k ms) (Some e) (get_member k ms)) AllRise
    by Less rest = rest
    by Equal rest = h.1
    by Greater rest = rest

pub found_rises : (k : List ℕ) (d : Data) → AllRise d → IfSome (get k d) AllRise
found_rises k null h = tt
found_rises k (boolean b) h = tt
found_rises k (number n) h = tt
found_rises k (string s) h = tt
found_rises k (array ds) h = tt
found_rises k (object ms) h = member_rises k ms h
