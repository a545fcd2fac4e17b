-- The lists of nodes of a shard.
use Rattle.std.proofs.Common.{◌≡◌, ◌<◌, ◌≤◌, List, [], length, map, true, false, Some, None, unwrap_or, nat_le, refl, sym, ap, ◌∙◌}
use Rattle.std.specs.List.{list_all}
use Rattle.std.proofs.lemmas.Bool.{le-leb, lt-leb}
use Rattle.std.proofs.lemmas.List.{length-map}
use Rattle.std.proofs.lemmas.List.Folds.{list_all-map}
use Rattle.serde_json.specs.Data.{Data}
use Rattle.serde_json.specs.View.{view}
use Rattle.serde_json.specs.declared.value.Value.{Value}
use Rattle.acc_schedule.specs.declared.error.PlanKind.TheVariants.{Shape, Limit}
use Rattle.acc_schedule.specs.Paths.{Path}
use Rattle.acc_base.specs.Faults.{◌then◌, must}
use Rattle.acc_schedule.specs.Faults.{bad, fault}
use Rattle.acc_schedule.specs.Fields.{elements, is_whole, items}
use Rattle.acc_schedule.specs.Shards.{ids_fault}

-- an array whose elements are these
ids-elements : (path : Path) (d : Data) (vs : List Value) → Some (map view vs) ≡ elements d
    → ids_fault path d ≡ (must (list_all (λ v. is_whole (view v)) vs) (bad Shape path) then must (nat_le (length vs) 15) (bad Limit path))
ids-elements path d vs e = rw (← e, list_all-map, length-map) refl

pub ids-not_whole : (path : Path) (d : Data) (vs : List Value) → Some (map view vs) ≡ elements d → false ≡ list_all (λ v. is_whole (view v)) vs → ids_fault path d ≡ fault Shape path
ids-not_whole path d vs e h = ids-elements path d vs e ∙ ap (λ b. must b (bad Shape path) then must (nat_le (length vs) 15) (bad Limit path)) (sym h)

pub ids-many : (path : Path) (d : Data) (vs : List Value) → Some (map view vs) ≡ elements d → true ≡ list_all (λ v. is_whole (view v)) vs → 15 < length vs → ids_fault path d ≡ fault Limit path
ids-many path d vs e h many =
    ids-elements path d vs e ∙ ap (λ b. must b (bad Shape path) then must (nat_le (length vs) 15) (bad Limit path)) (sym h) ∙ ap (λ b. must b (bad Limit path)) (lt-leb (length vs) 15 many)

pub ids-few : (path : Path) (d : Data) (vs : List Value) → Some (map view vs) ≡ elements d → true ≡ list_all (λ v. is_whole (view v)) vs → length vs ≤ 15 → ids_fault path d ≡ None
ids-few path d vs e h few =
    ids-elements path d vs e ∙ ap (λ b. must b (bad Shape path) then must (nat_le (length vs) 15) (bad Limit path)) (sym h) ∙ ap (λ b. must b (bad Limit path)) (le-leb (length vs) 15 few)

pub items-elements : (d : Data) (vs : List Value) → Some (map view vs) ≡ elements d → map view vs ≡ items d
items-elements d vs e = ap (λ o. unwrap_or o []) e
