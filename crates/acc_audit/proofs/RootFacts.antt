-- The root of a case, from which its transactions are taken.
use Rattle.std.proofs.Common.{◌≡◌, ℕ, BTreeMap, Bool, true, false, cond, List, [], ◌∷◌, Option, Some, None, option_map, unwrap_or, String, Global, string_bytes, nat_cmp, refl, sym, ap, ◌∙◌, rules}
use Rattle.std.specs.BTreeMap.{is_at}
use Rattle.std.specs.Map.{lookup, remove_entry}
use Rattle.std.specs.Cmp.Lexicographic.{slice_cmp}
use Rattle.std.specs.Ordering.{match_ordering}
use Rattle.std.specs.Str.{bytes_eq}
use Rattle.std.proofs.lemmas.Bool.{true≢false}
use Rattle.std.proofs.lemmas.Map.Text.{is_eq-slice_cmp}
use Rattle.std.proofs.lemmas.Slice.Eq.{bytes_eq-Decides}
use Rattle.serde_json.specs.Data.{null}
use Rattle.serde_json.specs.Find.{get, get_member}
use Rattle.serde_json.specs.View.{view, members_view}
use Rattle.serde_json.specs.declared.value.Value.{Value, Null, Object, the_lemmas}
use Rattle.serde_json.proofs.Views.{member_later, view-lookup, view-Object}
use Rattle.acc_schedule.specs.Fields.{field}

abbrev pub Entry : Type 0
Entry = String Global × Value

-- whether a key is this name
abbrev pub is_named : List ℕ → String Global → Bool
is_named name = is_at (λ key. slice_cmp nat_cmp name (string_bytes key))

-- the other fields stay
get_member-removed : (name k : List ℕ) (es : List Entry) → bytes_eq k name ≡ false → get_member k (members_view (remove_entry (is_named name) es)) ≡ get_member k (members_view es)
get_member-removed name k [] other = refl
get_member-removed name k (e ∷ es) other = by_test (is_named name e.0) refl (get_member-removed name k es other)
  where
    by_test : (b : Bool) → is_named name e.0 ≡ b → get_member k (members_view (remove_entry (is_named name) es)) ≡ get_member k (members_view es)
        → get_member k (members_view (cond b es (e ∷ remove_entry (is_named name) es)))
        ≡ match_ordering (slice_cmp nat_cmp k (string_bytes e.0)) (get_member k (members_view es)) (Some (view e.1)) (get_member k (members_view es))
    by_test true same rest =
        let it : name ≡ string_bytes e.0 = (bytes_eq-Decides name (string_bytes e.0)).0 (sym (is_eq-slice_cmp name (string_bytes e.0)) ∙ same) in
        sym (member_later k e es (λ h. true≢false (sym ((bytes_eq-Decides k name).1 (h ∙ sym it)) ∙ other)))
    by_test false same rest = ap (λ x. match_ordering (slice_cmp nat_cmp k (string_bytes e.0)) x (Some (view e.1)) x) rest

pub same_field : (m n : BTreeMap (String Global) Value) (name k : List ℕ) → n.entries ≡ remove_entry (is_named name) m.entries → bytes_eq k name ≡ false → field k (view (Object n)) ≡ field k (view (Object m))
same_field m n name k removed other =
    let same : get k (view (Object n)) ≡ get k (view (Object m)) =
    ap (get k) (view-Object n) ∙ ap (λ es. get_member k (members_view es)) removed ∙ get_member-removed name k m.entries other ∙ sym (ap (get k) (view-Object m)) in
    ap (λ d. unwrap_or d null) same

view_or : (found : Option Value) → view (unwrap_or found Null) ≡ unwrap_or (option_map view found) null
view_or None = search (rules, the_lemmas)
view_or (Some v) = refl

-- what is taken out is what the field was, and null where there was none
pub taken_field : (m : BTreeMap (String Global) Value) (name : List ℕ) (found : Option Value) → found ≡ lookup (is_named name) m.entries → view (unwrap_or found Null) ≡ field name (view (Object m))
taken_field m name found there =
    let seen : option_map view found ≡ get name (view (Object m)) = ap (option_map view) there ∙ view-lookup name m.entries ∙ sym (ap (get name) (view-Object m)) in
    view_or found ∙ ap (λ d. unwrap_or d null) seen
