-- A document that is written with journals breaks no rule but those on journals, and says its plan without steps.
use Rattle.std.proofs.Common.{◌≡◌, ℕ, ◌+◌, ◌≤◌, max, Bool, true, false, not, List, [], ◌∷◌, ◌++◌, Option, Some, None, is_some, unwrap_or, codes, refl, sym, ap, ◌∙◌, arith}
use Rattle.std.specs.List.{list_any, AllByRecursion}
use Rattle.std.specs.Str.{bytes_eq}
use Rattle.std.proofs.lemmas.Bool.{and_from, and_parts, true≢false}
use Rattle.std.proofs.lemmas.Slice.Eq.{bytes_eq-Decides}
use Rattle.serde_json.specs.Data.{array, boolean, depth, no_items, null, number, object, put, string, Data, Members, members_depth}
use Rattle.serde_json.specs.Find.{as_object, get}
use Rattle.serde_json.proofs.Views.{get_member-put, get_member-put_other}
use Rattle.acc_base.specs.Faults.{must}
use Rattle.acc_base.proofs.Faults.{both_none, must_kept, must_none, then_none}
use Rattle.acc_schedule.specs.Apart.{members_without, without}
use Rattle.acc_schedule.specs.Document.{cast_of, document_fault, fields_fault, needed_fields, plan_in, plan_of, print_fault, printed, root_fault, root_of, schedule, Root}
use Rattle.acc_schedule.specs.Faults.{bad}
use Rattle.acc_schedule.specs.Fields.{field, has_each, member_names, other_fault, other_field}
use Rattle.acc_schedule.specs.Paths.{Path}
use Rattle.acc_schedule.specs.Steps.{schedule_fault}
use Rattle.acc_schedule.specs.declared.error.PlanKind.TheVariants.{Shape}
use Rattle.acc_left.specs.Documents.{without_steps}
use Rattle.acc_left_laws.proofs.PutFacts.{found_none, get_without, none_found, put_depth, put_named, without_named, AllNamed}

pub names_differ : (a b : List ℕ) → bytes_eq a b ≡ false → a ≡ b → ⊥
names_differ a b apart same = true≢false (sym ((bytes_eq-Decides a b).1 same) ∙ apart)

-- the document is an object
pub record IsObject (d : Data) : Type 0 where
  pub members : Members
  pub is : d ≡ object members

pub is_object : (d : Data) → root_fault d ≡ None → IsObject d
is_object null h = absurd cc
is_object (boolean b) h = absurd cc
is_object (number n) h = absurd cc
is_object (string s) h = absurd cc
is_object (array items) h = absurd cc
is_object (object members) h = record { members = members; is = refl }

no_other : (path : Path) (o : Option (List ℕ)) → other_fault path o ≡ None → o ≡ None
no_other path None h = refl
no_other path (Some name) h = absurd cc

-- the same with no steps
abbrev pub without_schedule : Root → Root
without_schedule r = record { version = r.version; nodes = r.nodes; shards = r.shards; txns = r.txns; schedule = array no_items; print = r.print }

module _ (ms journals : Members) where
  abbrev old : Data
  old = object ms

  abbrev pub written : Data
  written = without_steps old journals

  abbrev left : Data
  left = without (codes "journals") written

  abbrev with_steps : Members
  with_steps = put (codes "schedule") (array no_items) ms

  abbrev with_both : Members
  with_both = put (codes "journals") (object journals) with_steps

  pub has_journals : get (codes "journals") written ≡ Some (object journals)
  has_journals = get_member-put (codes "journals") (object journals) with_steps

  -- ---- fields

  kept : (q : List ℕ) → bytes_eq q (codes "journals") ≡ false → bytes_eq q (codes "schedule") ≡ false → get q left ≡ get q old
  kept q other another =
      get_without q (codes "journals") with_both (names_differ q (codes "journals") other)
      ∙ get_member-put_other q (codes "journals") (object journals) with_steps (names_differ q (codes "journals") other)
      ∙ get_member-put_other q (codes "schedule") (array no_items) ms (names_differ q (codes "schedule") another)

  no_steps : get (codes "schedule") left ≡ Some (array no_items)
  no_steps =
      get_without (codes "schedule") (codes "journals") with_both (names_differ (codes "schedule") (codes "journals") refl)
      ∙ get_member-put_other (codes "schedule") (codes "journals") (object journals) with_steps (names_differ (codes "schedule") (codes "journals") refl)
      ∙ get_member-put (codes "schedule") (array no_items) ms

  same_field : (q : List ℕ) → bytes_eq q (codes "journals") ≡ false → bytes_eq q (codes "schedule") ≡ false → field q left ≡ field q old
  same_field q other another = ap (λ (o : Option Data). unwrap_or o null) (kept q other another)

  pub root_is : root_of left (get (codes "print") left) ≡ without_schedule (root_of old (get (codes "print") old))
  root_is =
      let version = same_field (codes "version") refl refl in
      let nodes = same_field (codes "nodes") refl refl in
      let shards = same_field (codes "shards") refl refl in
      let txns = same_field (codes "txns") refl refl in
      let steps : schedule left ≡ array no_items = ap (λ (o : Option Data). unwrap_or o null) no_steps in
      let print : printed (get (codes "print") left) ≡ printed (get (codes "print") old) = ap printed (kept (codes "print") refl refl) in
      λ i. record { version = version i; nodes = nodes i; shards = shards i; txns = txns i; schedule = steps i; print = print i }

  -- ---- rules

  still_there : (q : List ℕ) → bytes_eq q (codes "journals") ≡ false → bytes_eq q (codes "schedule") ≡ false → is_some (get q old) ≡ true → is_some (get q left) ≡ true
  still_there q other another there = ap is_some (kept q other another) ∙ there

  has_needed : has_each needed_fields old ≡ true → has_each needed_fields left ≡ true
  has_needed h =
      let a = and_parts (is_some (get (codes "version") old)) _ h in
      let b = and_parts (is_some (get (codes "nodes") old)) _ a.1 in
      let c = and_parts (is_some (get (codes "shards") old)) _ b.1 in
      let d = and_parts (is_some (get (codes "txns") old)) _ c.1 in
      and_from (is_some (get (codes "version") left)) _ (still_there (codes "version") refl refl a.0)
      (and_from (is_some (get (codes "nodes") left)) _ (still_there (codes "nodes") refl refl b.0)
      (and_from (is_some (get (codes "shards") left)) _ (still_there (codes "shards") refl refl c.0)
      (and_from (is_some (get (codes "txns") left)) _ (still_there (codes "txns") refl refl d.0)
      (and_from (is_some (get (codes "schedule") left)) true (ap is_some no_steps) refl))))

  abbrev known : List (List ℕ)
  known = needed_fields ++ codes "print" ∷ []

  abbrev is_unknown : List ℕ → Bool
  is_unknown name = not (list_any (bytes_eq name) known)

  names_known : other_field known old ≡ None → other_field known left ≡ None
  names_known h =
      let before : AllNamed (λ name. is_unknown name ≡ false) ms = found_none is_unknown (member_names ms) h in
      let steps : AllNamed (λ name. is_unknown name ≡ false) with_steps = put_named (λ name. is_unknown name ≡ false) (codes "schedule") (array no_items) ms refl before in
      let both : AllNamed (λ name. bytes_eq name (codes "journals") ≡ false → is_unknown name ≡ false) with_both =
      put_named (λ name. bytes_eq name (codes "journals") ≡ false → is_unknown name ≡ false) (codes "journals") (object journals) with_steps (λ other. absurd cc)
      (weaker (member_names with_steps) steps) in
      none_found is_unknown (member_names (members_without (codes "journals") with_both)) (without_named (λ name. is_unknown name ≡ false) (codes "journals") with_both both)
    where
      weaker : (names : List (List ℕ)) → AllByRecursion (λ name. is_unknown name ≡ false) names
          → AllByRecursion (λ name. bytes_eq name (codes "journals") ≡ false → is_unknown name ≡ false) names
      weaker [] all = tt
      weaker (name ∷ names) all = (λ other. all.0, weaker names all.1)

  root_keeps : root_fault old ≡ None → root_fault left ≡ None
  root_keeps h =
      let first = then_none _ (other_fault [] (other_field known old)) h in
      let needed : has_each needed_fields old ≡ true = must_none (has_each needed_fields old) (bad Shape []) (then_none (must (is_some (as_object old)) (bad Shape [])) (must (has_each needed_fields old) (bad Shape [])) first.0).1 in
      both_none _ (other_fault [] (other_field known left)) (must_kept (has_each needed_fields left) (bad Shape []) (has_needed needed))
      (ap (other_fault []) (names_known (no_other [] (other_field known old) first.1)))

  fields_keep : (r : Root) → fields_fault r ≡ None → fields_fault (without_schedule r) ≡ None
  fields_keep r h =
      let last = then_none _ (print_fault r.print) h in
      let steps = then_none _ (schedule_fault (cast_of r) r.schedule) last.0 in
      both_none _ (print_fault r.print) (both_none _ (schedule_fault (cast_of r) (array no_items)) steps.0 refl) last.1

  pub document_keeps : document_fault old ≡ None → document_fault left ≡ None
  document_keeps h =
      let parts = then_none (root_fault old) (fields_fault (root_of old (get (codes "print") old))) h in
      both_none (root_fault left) (fields_fault (root_of left (get (codes "print") left))) (root_keeps parts.0)
      (ap fields_fault root_is ∙ fields_keep (root_of old (get (codes "print") old)) parts.1)

  pub plan_is : plan_of left ≡ record (plan_of old) { steps = [] }
  plan_is = ap plan_in root_is

  -- ---- how deep it is

  pub written_depth : (most : ℕ) → 2 ≤ most → depth old ≤ most → depth (object journals) + 1 ≤ most → depth written ≤ most
  written_depth most two shallow low =
      let first : members_depth with_steps ≤ max 1 (members_depth ms) = put_depth (codes "schedule") (array no_items) ms in
      let second : members_depth with_both ≤ max (depth (object journals)) (members_depth with_steps) = put_depth (codes "journals") (object journals) with_steps in
      omega (arith, first, second, two, shallow, low)
