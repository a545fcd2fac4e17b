-- The rivals that the index has are those of the rules, with as great stamps.
use Rattle.std.proofs.Common.{◌≡◌, ℕ, Bool, true, false, not, ◌&&◌, List, [], ◌∷◌, ◌++◌, None, Some, is_some, map, refl, sym, ap, subst, ◌∙◌, arith}
use Rattle.std.specs.List.{Contains, filter, list_all, flat_map}
use Rattle.std.proofs.lemmas.Bool.{and_from, and_parts}
use Rattle.std.proofs.lemmas.List.Sums.{AllPass-from_list_all, list_all-from_AllPass}
use Rattle.acc_stamp.specs.declared.stamps.Stamp.{Stamp}
use Rattle.acc_stamp.specs.declared.stamps.TxnId.{TxnId}
use Rattle.acc_stamp.specs.Stamp.{id_eq, stamp_lt, stamp_le}
use Rattle.acc_stamp.specs.Rising.{ids_union}
use Rattle.acc_stamp.proofs.Order.{id_order, eq-sym}
use Rattle.acc_lanes.proofs.Members.{each_element, of_element, Contains-filter, Contains-from_filter, Contains-map, Contains-from_map}
use Rattle.acc_topology.specs.Layout.{Layout}
use Rattle.acc_topology.specs.Keys.{share_of}
use Rattle.acc_value.specs.declared.key.Key.{Key}
use Rattle.acc_value.specs.Footprint.{clashes}
use Rattle.acc_txn.specs.declared.parts.BodyParts.{BodyParts}
use Rattle.acc_txn.specs.Uses.{footprint_of}
use Rattle.acc_index.specs.Noted.{Noted, is_rival, rivals as noted_rivals, rival_stamps}
use Rattle.acc_index.proofs.Ids.{same_names}
use Rattle.acc_message.specs.declared.message.Message.{Message}
use Rattle.acc_message.specs.Fields.{id_of}
use Rattle.acc_message.specs.Shares.{conflict_in}
use Rattle.acc_message.specs.Taken.{Taken, Heard, taking, body_in, known, body_known, rivals}
use Rattle.acc_message.specs.VoteRule.{vote_of, stamps_of, stamps_of_vote, times_in, all_below}
use Rattle.acc_base.specs.Faults.{or_else}
use Rattle.acc_record.specs.Stands.{IsStampOf, noted_as, IsCovered, AreStamps}
use Rattle.acc_record.proofs.Greatest.{not_of, le_lt}
use Rattle.acc_record.proofs.Apart.{concerns, or_else-none, times_apart, known_apart}
use Rattle.acc_record.proofs.KnownOnes.{heard_there, known_told}

and_no : (b : Bool) → (b && false) ≡ false
and_no true = refl
and_no false = refl

passes : {X : Type 0} (p : X → Bool) (xs : List X) (x : X) → list_all p xs ≡ true → Contains xs x → p x ≡ true
passes p xs x h c = of_element (λ y. p y ≡ true) xs x (AllPass-from_list_all p xs h) c

all_pass : {X : Type 0} (p : X → Bool) (xs : List X) → ((x : X) → Contains xs x → p x ≡ true) → list_all p xs ≡ true
all_pass p xs f = list_all-from_AllPass p xs (each_element (λ y. p y ≡ true) xs f)

both_ways : (a b : Bool) → (a ≡ true → b ≡ true) → (b ≡ true → a ≡ true) → a ≡ b
both_ways true b f g = sym (f refl)
both_ways false true f g = g refl
both_ways false false f g = refl

abbrev pub share_in : Layout → ℕ → BodyParts → List (Key × Bool)
share_in layout shard body = share_of layout (footprint_of body) shard

-- the past of a store, and a message that it is taking
module _ (layout : Layout) (shard : ℕ) (noted : List Noted) (past : List Taken) (stamps : AreStamps layout shard past noted) (m : Message) (body : BodyParts) where
  apart_from : (y : TxnId) → id_eq y (id_of m) ≡ false → concerns y m ≡ false
  apart_from y other = ap (λ b. is_some (body_in m) && b) (eq-sym id_order (id_of m) y ∙ other) ∙ and_no (is_some (body_in m))

  -- what is known of another one
  pub known_now : (y : TxnId) → id_eq y (id_of m) ≡ false → body_known (taking m past) y ≡ body_known past y
  known_now y other = known_apart (record { message = m; sent = [] }) past y (apart_from y other)

  pub stamps_now : (y : TxnId) → id_eq y (id_of m) ≡ false → stamps_of (taking m past) y ≡ stamps_of past y
  stamps_now y other =
      ap (λ (s : List Stamp). y.0 ∷ (s ++ flat_map (λ (t : Taken). times_in y t.message) past) ++ stamps_of_vote (or_else (vote_of past y) None)) (times_apart y m (apart_from y other))
      ∙ ap (λ v. y.0 ∷ flat_map (λ (t : Taken). times_in y t.message) past ++ stamps_of_vote v) (or_else-none (vote_of past y))

  abbrev now : List Taken
  now = taking m past

  abbrev share : List (Key × Bool)
  share = share_in layout shard body

  -- from a rival that was noted to one of the rules
  pub record Found (n : Noted) : Type 0 where
    pub body_of : BodyParts
    pub there : Contains (rivals layout shard now (id_of m) body) (record { id = n.id; body = body_of })
    pub stamp : Contains (stamps_of now n.id) n.stamp

  pub to_heard : (n : Noted) → Contains (noted_rivals noted (id_of m) share) n → Found n
  to_heard n c =
      let p = Contains-from_filter (is_rival (id_of m) share) noted n c in
      let s : IsStampOf layout shard past n = stamps.only n p.0 in
      let parts = and_parts (not (id_eq n.id (id_of m))) (clashes n.share share) p.1 in
      let other : id_eq n.id (id_of m) ≡ false = not_of (id_eq n.id (id_of m)) parts.0 in
      let conflict : clashes (share_in layout shard s.body) share ≡ true = ap (λ (z : Noted). clashes z.share share) (sym s.is) ∙ parts.1 in
      record {
        body_of = s.body;
        there =
            Contains-filter (λ (k : Heard). not (id_eq k.id (id_of m)) && conflict_in layout shard k.body body) (known now) (record { id = n.id; body = s.body })
            (heard_there n.id s.body (known now) (known_now n.id other ∙ s.known)) (and_from _ _ parts.0 conflict);
        stamp = subst (λ (l : List Stamp). Contains l n.stamp) (sym (stamps_now n.id other)) s.stamp;
      }

  -- and back, for each of its stamps
  pub record Covers (k : Heard) (s : Stamp) : Type 0 where
    pub by : Stamp
    pub there : Contains (noted_rivals noted (id_of m) share) (noted_as layout shard k.id k.body by)
    pub above : stamp_le s by ≡ true

  pub to_noted : (k : Heard) (s : Stamp) → Contains (rivals layout shard now (id_of m) body) k → Contains (stamps_of now k.id) s → Covers k s
  to_noted k s c d =
      let p = Contains-from_filter (λ (k : Heard). not (id_eq k.id (id_of m)) && conflict_in layout shard k.body body) (known now) k c in
      let parts = and_parts (not (id_eq k.id (id_of m))) (conflict_in layout shard k.body body) p.1 in
      let other : id_eq k.id (id_of m) ≡ false = not_of (id_eq k.id (id_of m)) parts.0 in
      let is : body_known past k.id ≡ Some k.body = sym (known_now k.id other) ∙ known_told now k p.0 in
      let cover : IsCovered noted k.id (share_in layout shard k.body) s = stamps.all k.id k.body s is (subst (λ (l : List Stamp). Contains l s) (stamps_now k.id other) d) in
      record {
        by = cover.by;
        there = Contains-filter (is_rival (id_of m) share) noted (noted_as layout shard k.id k.body cover.by) cover.there p.1;
        above = cover.above;
      }

  -- all stamps of all rivals are below
  pub below : all_below now (id_of m) (rivals layout shard now (id_of m) body) ≡ list_all (λ s. stamp_lt s (id_of m).0) (rival_stamps noted (id_of m) share)
  below =
      both_ways _ _
      (λ h. all_pass _ (rival_stamps noted (id_of m) share) (λ s c. noted_below h s (Contains-from_map (λ (t : Noted). t.stamp) (noted_rivals noted (id_of m) share) s c)))
      (λ h. all_pass _ (rivals layout shard now (id_of m) body) (λ k c. all_pass _ (stamps_of now k.id) (λ s d. heard_below h k s (to_noted k s c d))))
    where
      noted_below : all_below now (id_of m) (rivals layout shard now (id_of m) body) ≡ true → (s : Stamp) → (n : Noted) × Contains (noted_rivals noted (id_of m) share) n × (n.stamp ≡ s) → stamp_lt s (id_of m).0 ≡ true
      noted_below h s q =
          let f : Found q.0 = to_heard q.0 q.1 in
          subst (λ z. stamp_lt z (id_of m).0 ≡ true) q.2
          (passes (λ s. stamp_lt s (id_of m).0) (stamps_of now q.0.id) q.0.stamp
          (passes (λ (k : Heard). list_all (λ s. stamp_lt s (id_of m).0) (stamps_of now k.id)) (rivals layout shard now (id_of m) body) (record { id = q.0.id; body = f.body_of }) h f.there)
          f.stamp)

      heard_below : list_all (λ s. stamp_lt s (id_of m).0) (rival_stamps noted (id_of m) share) ≡ true → (k : Heard) (s : Stamp) → Covers k s → stamp_lt s (id_of m).0 ≡ true
      heard_below h k s f =
          le_lt s f.by (id_of m).0 f.above
          (passes (λ s. stamp_lt s (id_of m).0) (rival_stamps noted (id_of m) share) f.by h
          (Contains-map (λ (t : Noted). t.stamp) (noted_rivals noted (id_of m) share) (noted_as layout shard k.id k.body f.by) f.there))

  abbrev from_noted : (TxnId → Bool) → List Noted
  from_noted p = filter (λ (t : Noted). p t.id) (noted_rivals noted (id_of m) share)

  abbrev from_heard : (TxnId → Bool) → List Heard
  from_heard p = filter (λ (k : Heard). p k.id) (rivals layout shard now (id_of m) body)

  -- the names of the rivals that pass a test of their names
  pub names_by : (p : TxnId → Bool)
      → ids_union [] (map (λ (t : Noted). t.id) (filter (λ (t : Noted). p t.id) (noted_rivals noted (id_of m) share)))
      ≡ ids_union [] (map (λ (k : Heard). k.id) (filter (λ (k : Heard). p k.id) (rivals layout shard now (id_of m) body)))
  names_by p =
      same_names (map (λ (t : Noted). t.id) (from_noted p)) (map (λ (k : Heard). k.id) (from_heard p))
      ((λ y c. to y (Contains-from_map (λ (t : Noted). t.id) (from_noted p) y c)), (λ y c. from y (Contains-from_map (λ (k : Heard). k.id) (from_heard p) y c)))
    where
      to : (y : TxnId) → (n : Noted) × Contains (from_noted p) n × (n.id ≡ y) → Contains (map (λ (k : Heard). k.id) (from_heard p)) y
      to y q =
          let f = Contains-from_filter (λ (t : Noted). p t.id) (noted_rivals noted (id_of m) share) q.0 q.1 in
          let h : Found q.0 = to_heard q.0 f.0 in
          let k : Heard = record { id = q.0.id; body = h.body_of } in
          subst (Contains (map (λ (k : Heard). k.id) (from_heard p))) q.2
          (Contains-map (λ (k : Heard). k.id) (from_heard p) k (Contains-filter (λ (k : Heard). p k.id) (rivals layout shard now (id_of m) body) k h.there f.1))

      from : (y : TxnId) → (k : Heard) × Contains (from_heard p) k × (k.id ≡ y) → Contains (map (λ (t : Noted). t.id) (from_noted p)) y
      from y q =
          let f = Contains-from_filter (λ (k : Heard). p k.id) (rivals layout shard now (id_of m) body) q.0 q.1 in
          let h : Covers q.0 q.0.id.0 = to_noted q.0 q.0.id.0 f.0 (0, omega arith, refl) in
          let n : Noted = noted_as layout shard q.0.id q.0.body h.by in
          subst (Contains (map (λ (t : Noted). t.id) (from_noted p))) q.2
          (Contains-map (λ (t : Noted). t.id) (from_noted p) n (Contains-filter (λ (t : Noted). p t.id) (noted_rivals noted (id_of m) share) n h.there f.1))
