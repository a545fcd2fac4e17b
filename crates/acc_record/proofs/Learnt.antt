-- A step that learns of its transaction and changes its record is a quiet one.
use Rattle.std.proofs.Common.{◌≡◌, ℕ, max, Bool, true, false, ◌||◌, cond, List, [], ◌∷◌, ◌++◌, Option, None, Some, Contains, ◌⊎◌, inl, inr, ⊎_elim, refl, sym, ◌∙◌, ap, subst, arith}
use Rattle.std.proofs.lemmas.Bool.{true≢false, false_from_ne_true, cond_both}
use Rattle.std.proofs.lemmas.Bool.Decides.{nat_tests}
use Rattle.std.proofs.lemmas.List.Elements.{Contains-append_left, Contains-append_right, Contains-append_cases, Contains-push, Contains-push_cases}
use Rattle.acc_stamp.specs.declared.stamps.Stamp.{Stamp}
use Rattle.acc_stamp.specs.declared.stamps.TxnId.{TxnId}
use Rattle.acc_stamp.specs.Actor.{shard_of}
use Rattle.acc_stamp.specs.Stamp.{stamp_lt, stamp_le, id_eq}
use Rattle.acc_stamp.proofs.Order.{id_order, eq_itself}
use Rattle.acc_topology.specs.Layout.{Layout}
use Rattle.acc_topology.specs.Keys.{share_of}
use Rattle.acc_deps.specs.declared.records.Accepted.{Accepted}
use Rattle.acc_deps.specs.declared.records.Settled.{Settled}
use Rattle.acc_txn.specs.declared.parts.BodyParts.{BodyParts}
use Rattle.acc_txn.specs.Uses.{footprint_of}
use Rattle.acc_value.specs.declared.key.Key.{Key}
use Rattle.acc_index.specs.Noted.{Noted}
use Rattle.acc_message.specs.declared.message.Message.{Message}
use Rattle.acc_message.specs.Fields.{id_of, top_of}
use Rattle.acc_message.specs.Taken.{body_in}
use Rattle.acc_message.specs.VoteRule.{greatest_drawn}
use Rattle.acc_record.specs.declared.record.Record.{Record}
use Rattle.acc_record.specs.declared.shelf.Shelf.{Shelf}
use Rattle.acc_record.specs.Shelf.{record_at, cell_at, watchers}
use Rattle.acc_record.specs.Stands.{IsCovered, noted_as}
use Rattle.acc_record.specs.Steps.{record_from, record_after, stamps_in, time_accepted, time_settled, stamps_told, stamps_shown, NotesTold, QuietStep}
use Rattle.acc_record.specs.Learning.{body_of, known_or_fresh, later_of, is_below_accepted, is_below_settled, is_covered_by, stamp_to_note, notes_with, IsLearnt}
use Rattle.acc_actor_laws.proofs.Standing.{not_none}
use Rattle.acc_actor_laws.proofs.OpeningFacts.{some_is}
use Rattle.acc_record.specs.LearntAs.{IsLearntAs}
use Rattle.acc_record.proofs.NotedRecords.{first_is_in}

-- ---- orders of stamps

le_itself : (a : Stamp) → stamp_le a a ≡ true
le_itself a = grind (arith, nat_tests)

le_from_lt : (a b : Stamp) → stamp_lt a b ≡ true → stamp_le a b ≡ true
le_from_lt a b h = grind (arith, nat_tests)

le_from_not : (a b : Stamp) → stamp_lt a b ≡ false → stamp_le b a ≡ true
le_from_not a b h = grind (arith, nat_tests)

own_below_later : (s : Stamp) (o : Option Stamp) → stamp_le s (later_of s o) ≡ true
own_below_later s None = le_itself s
own_below_later s (Some t) = cond_both (stamp_lt t s) s t (λ z. stamp_le s z ≡ true) (λ _. le_itself s) (λ h. le_from_not t s h)

other_below_later : (s t : Stamp) → stamp_le t (later_of s (Some t)) ≡ true
other_below_later s t = cond_both (stamp_lt t s) s t (λ z. stamp_le t z ≡ true) (λ h. le_from_lt t s h) (λ _. le_itself t)

-- ---- a stamp after one that is shown

-- some stamp of the list is as great
pub record IsBehind (list : List Stamp) (s : Stamp) : Type 0 where
  pub by : Stamp
  pub there : Contains list by
  pub above : stamp_le s by ≡ true

behind_left : (xs ys : List Stamp) (s : Stamp) → IsBehind xs s → IsBehind (xs ++ ys) s
behind_left xs ys s b = record { by = b.by; there = Contains-append_left xs ys b.by b.there; above = b.above }

behind_right : (xs ys : List Stamp) (s : Stamp) → IsBehind ys s → IsBehind (xs ++ ys) s
behind_right xs ys s b = record { by = b.by; there = Contains-append_right xs ys b.by b.there; above = b.above }

either : (a b : Bool) → (a || b) ≡ true → (a ≡ true) ⊎ (b ≡ true)
either true b h = inl refl
either false b h = inr h

behind_later : (own s : Stamp) (vote : Option Stamp) → stamp_le s (later_of own vote) ≡ true → IsBehind (own ∷ stamps_in vote) s
behind_later own s None h = record { by = own; there = first_is_in own []; above = h }
behind_later own s (Some v) h =
    cond_both (stamp_lt v own) own v (λ z. stamp_le s z ≡ true → IsBehind (own ∷ v ∷ []) s)
    (λ _ k. record { by = own; there = first_is_in own (v ∷ []); above = k })
    (λ _ k. record { by = v; there = Contains-append_right (own ∷ []) (v ∷ []) v (first_is_in v []); above = k })
    h

behind_accepted : (s : Stamp) (o : Option Accepted) → is_below_accepted s o ≡ true → IsBehind (time_accepted o) s
behind_accepted s None h = absurd (true≢false (sym h))
behind_accepted s (Some a) h = record { by = a.t; there = first_is_in a.t []; above = h }

behind_settled : (s : Stamp) (o : Option Settled) → is_below_settled s o ≡ true → IsBehind (time_settled o) s
behind_settled s None h = absurd (true≢false (sym h))
behind_settled s (Some a) h = record { by = a.t; there = first_is_in a.t []; above = h }

covered_behind : (x : TxnId) (r : Record) (s : Stamp) → is_covered_by x r s ≡ true → IsBehind (stamps_shown x (Some r)) s
covered_behind x r s h =
    let vote : List Stamp = x.0 ∷ stamps_in r.vote in
    let accepted : List Stamp = time_accepted r.accepted in
    let committed : List Stamp = time_accepted r.committed in
    let stable : List Stamp = time_settled r.stable in
    ⊎_elim
    (λ k. behind_left ((vote ++ accepted) ++ committed) stable s
    (⊎_elim
    (λ l. behind_left (vote ++ accepted) committed s
    (⊎_elim (λ n. behind_left vote accepted s (behind_later x.0 s r.vote n)) (λ n. behind_right vote accepted s (behind_accepted s r.accepted n)) (either _ _ l)))
    (λ l. behind_right (vote ++ accepted) committed s (behind_accepted s r.committed l))
    (either _ _ k)))
    (λ k. behind_right ((vote ++ accepted) ++ committed) stable s (behind_settled s r.stable k))
    (either _ _ h)

-- ---- what learning notes

-- the stamp that is learnt is told, and what else is told is shown by the record already
pub record Tells (x : TxnId) (before : Option Record) (told : List Stamp) (stamp : Option Stamp) : Type 0 where
  pub own : Contains told x.0
  pub learnt : (s : Stamp) → stamp ≡ Some s → Contains told s
  pub other : (s : Stamp) → Contains told s → (x.0 ≡ s) ⊎ ((stamp ≡ Some s) ⊎ Contains (stamps_shown x before) s)

module _ (x : TxnId) (share : List (Key × Bool)) (told : List Stamp) where
  unless_covered : (b : Bool) (s t : Stamp) → cond b None (Some t) ≡ Some s → t ≡ s
  unless_covered true s t e = absurd (not_none s e)
  unless_covered false s t e = some_is t s e

  noted_is_told : (before : Option Record) (stamp : Option Stamp) (s : Stamp) → Tells x before told stamp
      → stamp_to_note before x stamp ≡ Some s → Contains told s
  noted_is_told None None s t e = subst (Contains told) (some_is x.0 s e) t.own
  noted_is_told None (Some given) s t e =
      subst (Contains told) (some_is (later_of x.0 (Some given)) s e)
      (cond_both (stamp_lt given x.0) x.0 given (Contains told) (λ _. t.own) (λ _. t.learnt given refl))
  noted_is_told (Some r) None s t e = absurd (not_none s e)
  noted_is_told (Some r) (Some given) s t e = t.learnt s (ap Some (unless_covered (is_covered_by x r given) s given e))

  only_noted : (o : Option Stamp) (n : Noted) → Contains (notes_with x share o) n
      → (s : Stamp) × (o ≡ Some s) × (n ≡ record { id = x; share = share; stamp = s })
  only_noted None n h = absurd (omega (arith, h.1))
  only_noted (Some s) n h =
      (s, refl, ⊎_elim (λ k. absurd (omega (arith, k.1))) (λ e. sym e) (Contains-push_cases [] (record { id = x; share = share; stamp = s }) n h))

  covered_by : (o : Option Stamp) (old new : List Noted) (s by : Stamp) → new ≡ old ++ notes_with x share o → o ≡ Some by → stamp_le s by ≡ true
      → IsCovered new x share s
  covered_by o old new s by is noted above =
      let note : Noted = record { id = x; share = share; stamp = by } in
      record {
        by = by;
        there =
            subst (λ list. Contains list note) (sym (is ∙ ap (λ z. old ++ notes_with x share z) noted))
            (Contains-append_right old (note ∷ []) note (Contains-push [] note));
        above = above;
      }

  known_or_noted : (b : Bool) (r : Record) (old new : List Noted) (s : Stamp) → is_covered_by x r s ≡ b
      → new ≡ old ++ notes_with x share (cond b None (Some s)) → IsCovered new x share s ⊎ IsBehind (stamps_shown x (Some r)) s
  known_or_noted true r old new s covered is = inr (covered_behind x r s covered)
  known_or_noted false r old new s covered is = inl (covered_by (Some s) old new s s is refl (le_itself s))

  told_by : (before : Option Record) (stamp : Option Stamp) (old new : List Noted) (s : Stamp)
      → new ≡ old ++ notes_with x share (stamp_to_note before x stamp)
      → (x.0 ≡ s) ⊎ ((stamp ≡ Some s) ⊎ Contains (stamps_shown x before) s) → IsCovered new x share s ⊎ IsBehind (stamps_shown x before) s
  told_by None stamp old new s is h =
      inl
      (⊎_elim
      (λ e. subst (IsCovered new x share) e (covered_by (Some (later_of x.0 stamp)) old new x.0 (later_of x.0 stamp) is refl (own_below_later x.0 stamp)))
      (λ k. ⊎_elim
      (λ e. covered_by (Some (later_of x.0 stamp)) old new s (later_of x.0 stamp) is refl
      (subst (λ o. stamp_le s (later_of x.0 o) ≡ true) (sym e) (other_below_later x.0 s)))
      (λ c. absurd (omega (arith, c.1)))
      k)
      h)
  told_by (Some r) stamp old new s is h =
      ⊎_elim
      (λ e. inr (subst (IsBehind (stamps_shown x (Some r))) e (record { by = x.0; there = first_is_in x.0 _; above = le_itself x.0 })))
      (λ k. ⊎_elim
      (λ e. known_or_noted (is_covered_by x r s) r old new s refl (is ∙ ap (λ o. old ++ notes_with x share (stamp_to_note (Some r) x o)) e))
      (λ c. inr (record { by = s; there = c; above = le_itself s }))
      k)
      h

-- ---- the shelf

-- what is learnt leaves the record as it was, or a fresh one
pub learnt_as : (old new : Shelf) (x : TxnId) (body : BodyParts) (share : List (Key × Bool)) (stamp : Option Stamp) (top : ℕ)
    → IsLearnt old new x body share stamp top → IsLearntAs old new x share stamp top (known_or_fresh (record_at old.records x) x body)
learnt_as old new x body share stamp top l =
    record { actor = l.actor; records = l.records; index = l.index; cells = l.cells; waits = l.waits; greatest = l.greatest }

begins_by : (before : Option Record) (x : TxnId) (body : BodyParts) → record_from before x (Some body) ≡ Some (known_or_fresh before x body)
begins_by None x body = refl
begins_by (Some r) x body = refl

body_counts : (before : Option Record) (x : TxnId) (body : BodyParts) → (known_or_fresh before x body).body ≡ body_of before body
body_counts None x body = refl
body_counts (Some r) x body = refl

module _ (layout : Layout) (old new : Shelf) (m : Message) (sent : List Message) (body : BodyParts) (share : List (Key × Bool))
    (stamp : Option Stamp) (top : ℕ) where
  abbrev x : TxnId
  x = id_of m

  abbrev before : Option Record
  before = record_at old.records x

  abbrev after : Record
  after = record_after (known_or_fresh before x body) m sent

  notes_told : share ≡ share_of layout (footprint_of after.body) (shard_of old.actor)
      → new.index ≡ old.index ++ notes_with x share (stamp_to_note before x stamp) → Tells x before (stamps_told after m) stamp
      → NotesTold layout (shard_of old.actor) m before after old.index new.index
  notes_told shared noted tells =
      record {
        kept = λ n there. subst (λ list. Contains list n) (sym noted) (Contains-append_left old.index (notes_with x share (stamp_to_note before x stamp)) n there);
        only = only;
        told = told;
      }
    where
      only : (n : Noted) → Contains new.index n
          → Contains old.index n ⊎ ((s : Stamp) × Contains (stamps_told after m) s × (n ≡ noted_as layout (shard_of old.actor) x after.body s))
      only n there =
          ⊎_elim (λ was. inl was)
          (λ now.
          let found = only_noted x share (stamps_told after m) (stamp_to_note before x stamp) n now in
          inr (
            found.0,
            noted_is_told x share (stamps_told after m) before stamp found.0 tells found.1,
            found.2 ∙ ap (λ z. record { id = x; share = z; stamp = found.0 }) shared,
          ))
          (Contains-append_cases old.index (notes_with x share (stamp_to_note before x stamp)) n (subst (λ list. Contains list n) noted there))

      told : (s : Stamp) → Contains (stamps_told after m) s
          → IsCovered new.index x (share_of layout (footprint_of after.body) (shard_of old.actor)) s
          ⊎ ((shown : Stamp) × Contains (stamps_shown x before) shown × (stamp_le s shown ≡ true))
      told s among =
          ⊎_elim (λ c. inl (subst (λ z. IsCovered new.index x z s) shared c)) (λ b. inr (b.by, b.there, b.above))
          (told_by x share (stamps_told after m) before stamp old.index new.index s noted (tells.other s among))

  pub quiet_from_learnt : body_in m ≡ Some body → share ≡ share_of layout (footprint_of (body_of before body)) (shard_of old.actor)
      → max old.greatest top ≡ max (max (top_of m) (greatest_drawn old.actor.0 sent)) old.greatest
      → Tells x before (stamps_told after m) stamp → IsLearntAs old new x share stamp top after → QuietStep layout old new m sent
  quiet_from_learnt brings shared raised tells learnt =
      record {
        actor = learnt.actor;
        begins = known_or_fresh before x body;
        from = ap (λ b. record_from before x b) brings ∙ begins_by before x body;
        after = learnt.records x ∙ ap (λ b. cond b (Some after) (record_at old.records x)) (eq_itself id_order x);
        others =
            λ y isnt. learnt.records y
            ∙ ap (λ b. cond b (Some after) (record_at old.records y)) (false_from_ne_true (id_eq x y) (λ e. isnt (sym ((id_order.decides x y).0 e))));
        notes = notes_told (shared ∙ ap (λ b. share_of layout (footprint_of b) (shard_of old.actor)) (sym (body_counts before x body))) learnt.index tells;
        cells = λ key. ap (λ c. cell_at c key) learnt.cells;
        waits = λ y. ap (λ w. watchers w y) learnt.waits;
        greatest = learnt.greatest ∙ raised;
      }
