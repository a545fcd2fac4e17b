-- A root without its transactions, and these.
use Rattle.std.proofs.Common.{◌≡◌, ℕ, BTreeMap, Bool, true, false, cond, List, [], ◌∷◌, Option, Some, None, option_map, unwrap_or, codes, String, Global, string_bytes, nat_cmp, refl, sym, ap, ◌∙◌}
use Rattle.std.specs.BTreeMap.{is_at}
use Rattle.std.specs.Map.{lookup, remove_entry}
use Rattle.std.specs.Cmp.Lexicographic.{slice_cmp}
use Rattle.std.specs.Ordering.{match_ordering}
use Rattle.std.specs.Str.{bytes_eq}
use Rattle.std.proofs.lemmas.Map.Text.{is_eq-slice_cmp}
use Rattle.std.proofs.lemmas.Slice.Eq.{bytes_eq-Decides}
use Rattle.serde_json.specs.Data.{Data, null}
use Rattle.serde_json.specs.Find.{get, get_member}
use Rattle.serde_json.specs.View.{view, members_view}
use Rattle.serde_json.specs.declared.value.Value.{Value, Object}
use Rattle.serde_json.proofs.Views.{view-lookup, view-Object}
use Rattle.acc_schedule.specs.Document.{Root, root_of, root_with, printed}
use Rattle.acc_schedule.specs.Fields.{field}
use Rattle.acc_schedule.proofs.ApartFacts.{passed_by}

abbrev pub Entry : Type 0
Entry = String Global × Value

-- whether a key is this name
abbrev pub is_named : List ℕ → String Global → Bool
is_named name = is_at (λ key. slice_cmp nat_cmp name (string_bytes key))

-- the other fields stay
get_member-removed : (name k : List ℕ) (es : List Entry) → bytes_eq k name ≡ false → get_member k (members_view (remove_entry (is_named name) es)) ≡ get_member k (members_view es)
get_member-removed name k [] other = refl
get_member-removed name k (e ∷ es) other = by_test (is_named name e.0) refl (get_member-removed name k es other)
  where
    by_test : (b : Bool) → is_named name e.0 ≡ b → get_member k (members_view (remove_entry (is_named name) es)) ≡ get_member k (members_view es)
        → get_member k (members_view (cond b es (e ∷ remove_entry (is_named name) es)))
        ≡ match_ordering (slice_cmp nat_cmp k (string_bytes e.0)) (get_member k (members_view es)) (Some (view e.1)) (get_member k (members_view es))
    by_test true same rest =
        let it : name ≡ string_bytes e.0 = (bytes_eq-Decides name (string_bytes e.0)).0 (sym (is_eq-slice_cmp name (string_bytes e.0)) ∙ same) in
        sym (passed_by _ _ _ (is_eq-slice_cmp k (string_bytes e.0) ∙ ap (bytes_eq k) (sym it) ∙ other))
    by_test false same rest = ap (λ x. match_ordering (slice_cmp nat_cmp k (string_bytes e.0)) x (Some (view e.1)) x) rest

-- the fields of the root are those of what is left, with the transactions that were taken out
module _ (m n : BTreeMap (String Global) Value) (removed : n.entries ≡ remove_entry (is_named (codes "txns")) m.entries) where
  pub same_get : (k : List ℕ) → bytes_eq k (codes "txns") ≡ false → get k (view (Object n)) ≡ get k (view (Object m))
  same_get k other =
      ap (get k) (view-Object n) ∙ ap (λ es. get_member k (members_view es)) removed ∙ get_member-removed (codes "txns") k m.entries other ∙ sym (ap (get k) (view-Object m))

  same_field : (k : List ℕ) → bytes_eq k (codes "txns") ≡ false → field k (view (Object n)) ≡ field k (view (Object m))
  same_field k other = ap (λ d. unwrap_or d null) (same_get k other)

  pub taken_root : (found : Option Value) (print : Option Data) → found ≡ lookup (is_named (codes "txns")) m.entries → lookup (is_named (codes "txns")) n.entries ≡ None
      → root_with (view (Object n)) (option_map view found) print ≡ root_of (view (Object m)) print
  taken_root found print there gone =
      let seen : option_map view found ≡ get (codes "txns") (view (Object m)) = ap (option_map view) there ∙ view-lookup (codes "txns") m.entries ∙ sym (ap (get (codes "txns")) (view-Object m)) in
      let lacks : get (codes "txns") (view (Object n)) ≡ None = ap (get (codes "txns")) (view-Object n) ∙ sym (view-lookup (codes "txns") n.entries) ∙ ap (option_map view) gone in
      λ i. root_by (same_field (codes "version") refl i) (same_field (codes "nodes") refl i) (same_field (codes "shards") refl i) (unwrap_or (seen i) (unwrap_or (lacks i) null)) (same_field (codes "schedule") refl i)
    where
      root_by : Data → Data → Data → Data → Data → Root
      root_by version nodes shards txns schedule = record { version = version; nodes = nodes; shards = shards; txns = txns; schedule = schedule; print = printed print }
