-- Coverage is decided by a test of each two decisions in the shards of the first.
use Rattle.std.proofs.Common.{◌≡◌, ◌==◌, ℕ, Bool, true, false, not, ◌&&◌, ◌||◌, List, [], ◌∷◌, Option, None, Some, map, refl, sym, ◌∙◌, ap, subst, ⊎_elim}
use Rattle.std.specs.List.{list_any, list_all}
use Rattle.std.proofs.lemmas.Bool.{true≢false, or_left, or_right, and_parts, false_from_ne_true, eqb-true, cases_Bool, cond_both}
use Rattle.std.proofs.lemmas.List.Folds.{list_all-map}
use Rattle.acc_stamp.specs.Stamp.{stamp_lt, id_eq}
use Rattle.acc_stamp.proofs.Order.{id_order}
use Rattle.acc_topology.specs.Layout.{Layout}
use Rattle.acc_topology.specs.Keys.{shard_of_key, shards_of, share_of}
use Rattle.acc_deps.specs.Deps.{deps_has}
use Rattle.acc_value.specs.declared.key.Key.{Key}
use Rattle.acc_value.specs.Key.{key_eq}
use Rattle.acc_txn.specs.declared.parts.BodyParts.{BodyParts}
use Rattle.acc_txn.specs.Uses.{footprint_of}
use Rattle.acc_message.specs.declared.item.Item.{Item}
use Rattle.acc_message.specs.Items.{notes_of}
use Rattle.acc_message.specs.Shares.{conflict_in}
use Rattle.acc_message.specs.Run.{Cluster}
use Rattle.acc_safety.specs.Decisions.{Decision, decisions_of, body_of}
use Rattle.acc_safety.specs.Coverage.{Conflict, Coverage}
use Rattle.acc_examples.specs.Refusals.{HoldsOfEach, HoldsOfNone}
use Rattle.acc_examples.specs.ConflictsCovered.{cluster as small, covered, uncovered}
use Rattle.acc_examples.proofs.Tested.{all_sound, all_complete, each_by, none_by}

-- ---- two transactions conflict in a shard of the first

in_some_share : (layout : Layout) (shard : ℕ) (test : Key × Bool → Bool) (q : ℕ → Bool) (uses : List (Key × Bool))
    → list_any test (share_of layout uses shard) ≡ true → list_all q (shards_of layout uses) ≡ true → q shard ≡ true
in_some_share layout shard test q [] h k = absurd (true≢false (sym h))
in_some_share layout shard test q (pair ∷ uses) h k =
    let parts = and_parts (q (shard_of_key layout pair.0)) (list_all q (shards_of layout uses)) k in
    cond_both (shard_of_key layout pair.0 == shard) (pair ∷ share_of layout uses shard) (share_of layout uses shard)
    (λ list. list_any test list ≡ true → q shard ≡ true)
    (λ here _. subst (λ s. q s ≡ true) (eqb-true (shard_of_key layout pair.0) shard here) parts.0)
    (λ _ rest. in_some_share layout shard test q uses rest parts.1)
    h

-- ---- the test

-- a decision with the body of its transaction
pub record Bodied : Type 0 where
  pub decision : Decision
  pub body : Option BodyParts

abbrev pub bodied : Cluster → List Item → Decision → Bodied
bodied cluster items d = record { decision = d; body = body_of cluster items d.id }

abbrev names_where : Layout → Decision → Decision → BodyParts → BodyParts → ℕ → Bool
names_where layout a b first second shard = not (conflict_in layout shard first second) || deps_has b.deps shard a.id

abbrev covers_by : Layout → Decision → Decision → Option BodyParts → Option BodyParts → Bool
covers_by layout a b None other = true
covers_by layout a b (Some first) None = true
covers_by layout a b (Some first) (Some second) =
    id_eq a.id b.id
    || (not (stamp_lt a.t b.t) || list_all (names_where layout a b first second) (shards_of layout (footprint_of first)))

abbrev pub covers : Layout → Bodied → Bodied → Bool
covers layout a b = covers_by layout a.decision b.decision a.body b.body

abbrev pub all_cover : Layout → List Bodied → Bool
all_cover layout list = list_all (λ a. list_all (covers layout a) list) list

abbrev pub coverage_test : Cluster → List Item → Bool
coverage_test cluster items = all_cover cluster.layout (map (bodied cluster items) (decisions_of (notes_of items)))

-- ---- it is right

not_first : (b c : Bool) → b ≡ false → (b || c) ≡ true → c ≡ true
not_first true c e h = absurd (true≢false e)
not_first false c e h = h

covers-sound : (cluster : Cluster) (items : List Item) (a b : Decision) → covers cluster.layout (bodied cluster items a) (bodied cluster items b) ≡ true
    → (shard : ℕ) → Conflict cluster items shard a.id b.id → stamp_lt a.t b.t ≡ true → deps_has b.deps shard a.id ≡ true
covers-sound cluster items a b h shard c earlier =
    let layout : Layout = cluster.layout in
    let both : covers_by layout a b (Some c.first) (Some c.second) ≡ true =
    sym (ap (λ o. covers_by layout a b o (body_of cluster items b.id)) c.first_is ∙ ap (covers_by layout a b (Some c.first)) c.second_is) ∙ h in
    let apart : id_eq a.id b.id ≡ false = false_from_ne_true (id_eq a.id b.id) (λ k. c.different ((id_order.decides a.id b.id).0 k)) in
    let named = not_first (not (stamp_lt a.t b.t)) _ (ap not earlier) (not_first (id_eq a.id b.id) _ apart both) in
    not_first (not (conflict_in layout shard c.first c.second)) (deps_has b.deps shard a.id) (ap not c.conflict)
    (in_some_share layout shard
    (λ p. list_any (λ q. key_eq p.0 q.0 && (p.1 || q.1)) (share_of layout (footprint_of c.second) shard))
    (names_where layout a b c.first c.second) (footprint_of c.first) c.conflict named)

covers-complete : (cluster : Cluster) (items : List Item) (a b : Decision)
    → ((shard : ℕ) → Conflict cluster items shard a.id b.id → stamp_lt a.t b.t ≡ true → deps_has b.deps shard a.id ≡ true)
    → covers cluster.layout (bodied cluster items a) (bodied cluster items b) ≡ true
covers-complete cluster items a b h = by (body_of cluster items a.id) (body_of cluster items b.id) refl refl
  where
    layout : Layout
    layout = cluster.layout

    by : (o p : Option BodyParts) → body_of cluster items a.id ≡ o → body_of cluster items b.id ≡ p → covers_by layout a b o p ≡ true
    by None p e f = refl
    by (Some first) None e f = refl
    by (Some first) (Some second) e f =
        ⊎_elim (λ same. or_left (id_eq a.id b.id) _ same)
        (λ apart. or_right (id_eq a.id b.id) _
        (⊎_elim (λ earlier. or_right (not (stamp_lt a.t b.t)) _ (named apart earlier)) (λ later. or_left (not (stamp_lt a.t b.t)) _ (ap not later))
        (cases_Bool (stamp_lt a.t b.t))))
        (cases_Bool (id_eq a.id b.id))
      where
        named : id_eq a.id b.id ≡ false → stamp_lt a.t b.t ≡ true
            → list_all (names_where layout a b first second) (shards_of layout (footprint_of first)) ≡ true
        named apart earlier =
            all_complete (names_where layout a b first second) (shards_of layout (footprint_of first))
            (λ shard there. ⊎_elim
            (λ conflict. or_right (not (conflict_in layout shard first second)) _
            (h shard (record { first = first; second = second; first_is = e; second_is = f; different = λ k. true≢false (sym ((id_order.decides a.id b.id).1 k) ∙ apart); conflict = conflict }) earlier))
            (λ none. or_left (not (conflict_in layout shard first second)) _ (ap not none))
            (cases_Bool (conflict_in layout shard first second)))

pub coverage-sound : (cluster : Cluster) (items : List Item) → coverage_test cluster items ≡ true → Coverage cluster items
coverage-sound cluster items h shard a b a_in b_in conflict earlier =
    let ds : List Decision = decisions_of (notes_of items) in
    let g : Decision → Bodied = bodied cluster items in
    let of_a : list_all (covers cluster.layout (g a)) (map g ds) ≡ true =
    all_sound (λ d. list_all (covers cluster.layout (g d)) (map g ds)) ds a
    (sym (list_all-map (λ u. list_all (covers cluster.layout u) (map g ds)) g ds) ∙ h) a_in in
    covers-sound cluster items a b
    (all_sound (λ d. covers cluster.layout (g a) (g d)) ds b (sym (list_all-map (covers cluster.layout (g a)) g ds) ∙ of_a) b_in)
    shard conflict earlier

coverage-complete : (cluster : Cluster) (items : List Item) → Coverage cluster items → coverage_test cluster items ≡ true
coverage-complete cluster items h =
    let ds : List Decision = decisions_of (notes_of items) in
    let g : Decision → Bodied = bodied cluster items in
    list_all-map (λ u. list_all (covers cluster.layout u) (map g ds)) g ds
    ∙ all_complete (λ d. list_all (covers cluster.layout (g d)) (map g ds)) ds
    (λ a a_in. list_all-map (covers cluster.layout (g a)) g ds
    ∙ all_complete (λ d. covers cluster.layout (g a) (g d)) ds
    (λ b b_in. covers-complete cluster items a b (λ shard conflict earlier. h shard a b a_in b_in conflict earlier)))

-- ---- the examples

pub covered-hold : HoldsOfEach (Coverage small) covered
covered-hold = each_by (coverage_test small) (Coverage small) (coverage-sound small) covered refl

pub uncovered-refused : HoldsOfNone (Coverage small) uncovered
uncovered-refused = none_by (coverage_test small) (Coverage small) (coverage-complete small) uncovered refl
