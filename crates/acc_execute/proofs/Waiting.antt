-- Who waits for whom after a step, told by the records that it leaves.
use Rattle.std.proofs.Common.{◌≡◌, ℕ, true, false, List, Option, None, Some, is_some, refl, sym, ap, ◌∙◌}
use Rattle.std.specs.List.{Contains}
use Rattle.std.specs.Option.{option_map}
use Rattle.acc_stamp.specs.declared.stamps.Stamp.{Stamp}
use Rattle.acc_stamp.specs.declared.stamps.TxnId.{TxnId}
use Rattle.acc_message.specs.Opening.{Change}
use Rattle.acc_record.specs.declared.record.Record.{Record}
use Rattle.acc_record.specs.declared.shelf.Watch.{Watch}
use Rattle.acc_record.specs.Shelf.{Waits, watchers}
use Rattle.acc_record.specs.Waits.{is_past_record, IsWatch, AreWaits}
use Rattle.acc_actor_laws.proofs.Standing.{not_none}
use Rattle.acc_actor_laws.proofs.OpeningFacts.{some_is}
use Rattle.acc_opening.specs.Plan.{Lookup}
use Rattle.acc_opening.specs.Planned.{changed, after_changes, AreWatches}
use Rattle.acc_execute.specs.Opened.{executed}

-- a record that is opened, applied and stable as this one is
record IsLike (o : Option Record) (r : Record) : Type 0 where
  like : Record
  there : o ≡ Some like
  opened : like.opened ≡ r.opened
  stable : like.stable ≡ r.stable

module _ (shard : ℕ) (at : Lookup) (changes : List Change) (now : Lookup) (is : (x : TxnId) → now x ≡ option_map (executed changes x) (at x)) where
  past_by : (t : Stamp) (z : TxnId) (o : Option Record) → is_past_record t (option_map (changed changes z) o) ≡ is_past_record t (option_map (executed changes z) o)
  past_by t z None = refl
  past_by t z (Some r) = refl

  past_same : (t : Stamp) (z : TxnId) → is_past_record t (after_changes at changes z) ≡ is_past_record t (now z)
  past_same t z = past_by t z (at z) ∙ ap (is_past_record t) (sym (is z))

  forth_by : (x : TxnId) (o : Option Record) (r : Record) → option_map (changed changes x) o ≡ Some r → IsLike (option_map (executed changes x) o) r
  forth_by x None r e = absurd (not_none r e)
  forth_by x (Some before) r e =
      let same : changed changes x before ≡ r = some_is (changed changes x before) r e in
      record { like = executed changes x before; there = refl; opened = ap (λ (q : Record). q.opened) same; stable = ap (λ (q : Record). q.stable) same }

  back_by : (x : TxnId) (o : Option Record) (r : Record) → option_map (executed changes x) o ≡ Some r → IsLike (option_map (changed changes x) o) r
  back_by x None r e = absurd (not_none r e)
  back_by x (Some before) r e =
      let same : executed changes x before ≡ r = some_is (executed changes x before) r e in
      record { like = changed changes x before; there = refl; opened = ap (λ (q : Record). q.opened) same; stable = ap (λ (q : Record). q.stable) same }

  watch_now : (y : TxnId) (w : Watch) → IsWatch shard (after_changes at changes) y w → IsWatch shard now y w
  watch_now y w h =
      let l : IsLike (option_map (executed changes w.id) (at w.id)) h.record_of = forth_by w.id (at w.id) h.record_of h.there in
      record {
        record_of = l.like;
        there = is w.id ∙ l.there;
        closed = l.opened ∙ h.closed;
        settled = h.settled;
        stable = l.stable ∙ h.stable;
        waits_for = h.waits_for;
        held_back = sym (past_same h.settled.t y) ∙ h.held_back;
        others = λ i z before at_i. sym (past_same h.settled.t z) ∙ h.others i z before at_i;
      }

  pub waits_now : (waits : Waits) → AreWatches shard (after_changes at changes) (watchers waits) → AreWaits shard now waits
  waits_now waits w = record { true = λ y v there. watch_now y v (w.true y v there); all = every }
    where
      every : (x : TxnId) (r : Record) → now x ≡ Some r → is_some r.stable ≡ true → r.opened ≡ false
          → (y : TxnId) × (v : Watch) × Contains (watchers waits y) v × (v.id ≡ x)
      every x r there stable closed =
          let l : IsLike (option_map (changed changes x) (at x)) r = back_by x (at x) r (sym (is x) ∙ there) in
          w.all x l.like l.there (ap is_some l.stable ∙ stable) (l.opened ∙ closed)
