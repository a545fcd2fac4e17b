-- Who waits for whom depends on what is stable, opened and applied alone.
use Rattle.std.proofs.Common.{◌≡◌, ℕ, true, false, Option, None, Some, is_some, IsTrue, Contains, refl, sym, ◌∙◌, ap, subst}
use Rattle.std.proofs.lemmas.Bool.{true≢false}
use Rattle.acc_stamp.specs.declared.stamps.Stamp.{Stamp}
use Rattle.acc_stamp.specs.declared.stamps.TxnId.{TxnId}
use Rattle.acc_deps.specs.declared.records.Settled.{Settled}
use Rattle.acc_message.specs.Opening.{is_past}
use Rattle.acc_record.specs.declared.record.Record.{Record}
use Rattle.acc_record.specs.declared.shelf.Watch.{Watch}
use Rattle.acc_record.specs.Shelf.{Waits, watchers}
use Rattle.acc_record.specs.Waits.{is_past_record, IsWatch, AreWaits}
use Rattle.acc_actor_laws.proofs.Standing.{not_none}
use Rattle.acc_actor_laws.proofs.OpeningFacts.{some_is}

-- the second record has what is stable, opened and applied as the first
pub record StandsAs (r s : Record) : Type 0 where
  pub stable : s.stable ≡ r.stable
  pub opened : s.opened ≡ r.opened
  pub applied : s.applied ≡ r.applied

-- what there is before and after: where nothing was, what there is now isn't stable
pub data Alike : Option Record → Option Record → Type 0 where
  Neither : Alike None None
  Both : (r s : Record) → StandsAs r s → Alike (Some r) (Some s)
  Newly : (s : Record) → s.stable ≡ None → Alike None (Some s)

pub alike_itself : (o : Option Record) → Alike o o
alike_itself None = Neither
alike_itself (Some r) = Both r r (record { stable = refl; opened = refl; applied = refl })

past_alike : (t : Stamp) (o n : Option Record) → Alike o n → is_past_record t n ≡ is_past_record t o
past_alike t _ _ Neither = refl
past_alike t _ _ (Both r s alike) = ap (λ b. is_past t b s.stable) alike.applied ∙ ap (is_past t r.applied) alike.stable
past_alike t _ _ (Newly s none) = ap (is_past t s.applied) none

-- the record after one that is there
pub record Behind (n : Option Record) (r : Record) : Type 0 where
  pub other : Record
  pub there : n ≡ Some other
  pub stands : StandsAs r other

forth : (o n : Option Record) (r : Record) → Alike o n → o ≡ Some r → Behind n r
forth _ _ r Neither is = absurd (not_none r is)
forth _ _ r (Both q s alike) is = record { other = s; there = refl; stands = subst (λ z. StandsAs z s) (some_is q r is) alike }
forth _ _ r (Newly s none) is = absurd (not_none r is)

stable_back : (o : Option Settled) → o ≡ None → is_some o ≡ true → ⊥
stable_back o e h = true≢false (sym h ∙ ap is_some e)

back : (o n : Option Record) (s : Record) → Alike o n → n ≡ Some s → is_some s.stable ≡ true
    → (r : Record) × (o ≡ Some r) × StandsAs r s
back _ _ s Neither is h = absurd (not_none s is)
back _ _ s (Both r q alike) is h = (r, refl, subst (StandsAs r) (some_is q s is) alike)
back _ _ s (Newly q none) is h = absurd (stable_back s.stable (sym (ap (λ (z : Record). z.stable) (some_is q s is)) ∙ none) h)

module _ (shard : ℕ) (old new : TxnId → Option Record) (alike : (y : TxnId) → Alike (old y) (new y)) where
  watch_stays : (y : TxnId) (w : Watch) → IsWatch shard old y w → IsWatch shard new y w
  watch_stays y w i =
      let b : Behind (new w.id) i.record_of = forth (old w.id) (new w.id) i.record_of (alike w.id) i.there in
      record {
        record_of = b.other;
        there = b.there;
        closed = b.stands.opened ∙ i.closed;
        settled = i.settled;
        stable = b.stands.stable ∙ i.stable;
        waits_for = i.waits_for;
        held_back = past_alike i.settled.t (old y) (new y) (alike y) ∙ i.held_back;
        others = λ k z lt is. past_alike i.settled.t (old z) (new z) (alike z) ∙ i.others k z lt is;
      }

  pub waits_stay : (before after : Waits) → ((y : TxnId) → watchers after y ≡ watchers before y) → AreWaits shard old before
      → AreWaits shard new after
  waits_stay before after same are =
      record {
        true = λ y w among. watch_stays y w (are.true y w (subst (λ ws. Contains ws w) (same y) among));
        all = all;
      }
    where
      all : (x : TxnId) (r : Record) → new x ≡ Some r → IsTrue (is_some r.stable) → r.opened ≡ false
          → (y : TxnId) × (w : Watch) × Contains (watchers after y) w × (w.id ≡ x)
      all x r is stable closed =
          let b = back (old x) (new x) r (alike x) is stable in
          let found = are.all x b.0 b.1 (sym (ap is_some b.2.stable) ∙ stable) (sym b.2.opened ∙ closed) in
          (found.0, found.1, subst (λ ws. Contains ws found.1) (sym (same found.0)) found.2, found.3)
