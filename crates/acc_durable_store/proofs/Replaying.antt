-- Entering the payloads of a store, one after another.
use Rattle.std.proofs.Common.{◌≡◌, ℕ, ◌+◌, ◌^◌, ◌<◌, ◌≤◌, Bool, true, false, not, Result, Ok, Err, ◌&&◌, ◌||◌, eqb, ltb, List, [], ◌∷◌, ◌++◌, length, map, take, drop, get_or, length-take, refl, sym, ap, subst, ◌∙◌, arith}
use Rattle.std.specs.Prelude.{is_some, Option, Some, IfSome, IfOk}
use Rattle.std.proofs.lemmas.Bool.{eqb-true, ltb-true}
use Rattle.std.proofs.lemmas.List.{map-append, take-append-drop, drop_more, take_more}
use Rattle.std.proofs.lemmas.List.Folds.{list_any-append}
use Rattle.acc_stamp.specs.declared.actors.Actor.{Actor}
use Rattle.acc_topology.specs.Layout.{Layout}
use Rattle.acc_message.specs.declared.message.Message.{Message}
use Rattle.acc_message.specs.Fields.{to_of, top_of}
use Rattle.acc_message.specs.Taken.{body_in}
use Rattle.acc_message.specs.VoteRule.{greatest_h}
use Rattle.acc_message.specs.StoreRules.{replay}
use Rattle.acc_message_code.specs.Fitting.{FitsMessage}
use Rattle.acc_message_code.specs.MessageSpelling.{message_bytes}
use Rattle.acc_record.specs.Stands.{IsFor}
use Rattle.acc_store.specs.Stands as store
use Rattle.acc_journal.specs.Layout.{records}
use Rattle.acc_journal.proofs.Readings.{one_more_long}
use Rattle.acc_payloads.specs.declared.store.StorePayload.{StorePayload}
use Rattle.acc_payloads.specs.declared.store.StorePayload.TheVariants.{Mark, Takes}
use Rattle.acc_payloads.specs.Spelling.{mark_bytes}
use Rattle.acc_payloads.specs.Journals.{IsBadRecord}
use Rattle.acc_payloads.specs.Store.{store_bytes, FitsStore, StoreMay, store_may, is_mark, has_mark, is_for, taken_in}
use Rattle.acc_payloads.specs.Texts.{has_text}
use Rattle.acc_payloads.specs.Items.{without_marks}
use Rattle.acc_payloads.proofs.Journals.{each_snoc}
use Rattle.acc_payloads.proofs.StoreJournals.{no_mark, same_message, taken_more, taken_marked}
use Rattle.acc_durable_store.specs.declared.replay.Replayed.{Replayed}
use Rattle.acc_durable_store.specs.Replay.{IsReplayOf, IsBad, MayTake, IsTooHigh, TakesMessage, HasTaken}
use Rattle.acc_durable_store.proofs.Unmarked.{message_kept, mark_not_kept, kept_at_most}

differ : {b : Bool} → b ≡ false → b ≡ true → ⊥
differ e f = cc

both_left : (a b : Bool) → (a && b) ≡ true → a ≡ true
both_left true b e = refl
both_left false b e = e

both_right : (a b : Bool) → (a && b) ≡ true → b ≡ true
both_right true b e = e
both_right false b e = absurd (differ refl e)

or_true : (b : Bool) → (b || true) ≡ true
or_true true = refl
or_true false = refl

or_false : (b : Bool) → (b || false) ≡ b
or_false true = refl
or_false false = refl

same_actor : (a b : Actor) → a.0 ≡ b.0 → a ≡ b
same_actor a b e = ap (λ (n : ℕ). let x : Actor = record { 0 = n } in x) e

-- two payloads have different spellings
same_item : (p q : StorePayload) → FitsStore p → FitsStore q → store_bytes p ≡ store_bytes q → p ≡ q
same_item Mark Mark f g e = refl
same_item Mark (Takes m) f g e = absurd (no_mark m g e)
same_item (Takes m) Mark f g e = absurd (no_mark m f (sym e))
same_item (Takes m) (Takes n) f g e = ap Takes (same_message m n f g e)

-- ---- what may be taken

is_for_it : (own : Actor) (m : Message) → is_for own m ≡ true → IsFor own m
is_for_it own m e = record {
  goes_to = same_actor (to_of m) own (eqb-true (to_of m).0 own.0 (both_left (eqb (to_of m).0 own.0) (is_some (body_in m)) e));
  brings = both_right (eqb (to_of m).0 own.0) (is_some (body_in m)) e;
}

pub may_be_taken : (own : Actor) (version : ℕ) (r : Replayed) (p : StorePayload) → store.actor_of r.store ≡ own → store_may version own r.marked p ≡ true → MayTake r p
may_be_taken own version r Mark same may = tt
may_be_taken own version r (Takes m) same may =
    let low : Bool = ltb (top_of m) (2 ^ 62) in
    let text : Bool = not (has_text m) || r.marked in
    let both : (is_for own m && low) ≡ true = both_left (is_for own m && low) text may in
    (subst (λ (a : Actor). IsFor a m) (sym same) (is_for_it own m (both_left (is_for own m) low both)), ltb-true (top_of m) (2 ^ 62) (both_right (is_for own m) low both))

-- ---- one payload more, or the first that may not stand there

module _ (layout : Layout) (version : ℕ) (own : Actor) (before : List (List ℕ)) (old new : Replayed) (payload : List ℕ) (r : IsReplayOf layout version own before old) where
  may_stand : (p : StorePayload) → store_may version own old.marked p ≡ true → store_may version own (has_mark r.items) p ≡ true
  may_stand p may = subst (λ (b : Bool). store_may version own b p ≡ true) r.marked may

  spelled_with : (p : StorePayload) → payload ≡ store_bytes p → before ++ payload ∷ [] ≡ map store_bytes (r.items ++ p ∷ [])
  spelled_with p spelled =
      ap (λ (l : List (List ℕ)). l ++ payload ∷ []) r.journal.spelled ∙ ap (λ (b : List ℕ). map store_bytes r.items ++ b ∷ []) spelled ∙ sym (map-append store_bytes r.items (p ∷ []))

  greatest_is : store.greatest_in old.store ≡ greatest_h own (replay layout own (taken_in r.items))
  greatest_is = r.stands.greatest ∙ ap (λ (a : Actor). greatest_h a (replay layout own (taken_in r.items))) r.actor

  own_stands : store.StandsFor layout old.store (replay layout (store.actor_of old.store) (taken_in r.items))
  own_stands = subst (λ (a : Actor). store.StandsFor layout old.store (replay layout a (taken_in r.items))) (sym r.actor) r.stands

  pub is_standing : store.IsStanding layout old.store
  is_standing = (taken_in r.items, own_stands)

  mark_more : payload ≡ mark_bytes → store_may version own old.marked Mark ≡ true → new ≡ record old { marked = true } → IsReplayOf layout version own (before ++ payload ∷ []) new
  mark_more spelled may taken = record {
    items = r.items ++ Mark ∷ [];
    journal = record { spelled = spelled_with Mark spelled; each = each_snoc (StoreMay layout version own) [] r.items Mark r.journal.each (tt, may_stand Mark may, tt) };
    actor = ap (λ (n : Replayed). store.actor_of n.store) taken ∙ r.actor;
    stands = subst (λ (n : Replayed). store.StandsFor layout n.store (replay layout own (taken_in (r.items ++ Mark ∷ [])))) (sym taken)
        (subst (λ (l : List Message). store.StandsFor layout old.store (replay layout own l)) (sym (taken_marked r.items)) r.stands);
    marked = ap (λ (n : Replayed). n.marked) taken ∙ sym (list_any-append is_mark r.items (Mark ∷ []) ∙ or_true (has_mark r.items));
    kept = ap (λ (n : Replayed). n.kept) taken ∙ r.kept ∙ sym (ap (λ (l : List ℕ). length (without_marks (before ++ l ∷ []))) spelled ∙ mark_not_kept before);
  }

  message_more : (m : Message) → payload ≡ message_bytes m → FitsMessage m → store_may version own old.marked (Takes m) ≡ true → TakesMessage layout old new m → IsReplayOf layout version own (before ++ payload ∷ []) new
  message_more m spelled fits may t = record {
    items = r.items ++ Takes m ∷ [];
    journal = record {
      spelled = spelled_with (Takes m) spelled;
      each = each_snoc (StoreMay layout version own) [] r.items (Takes m) r.journal.each (fits, may_stand (Takes m) may, subst (λ (h : ℕ). h < 2 ^ 62) greatest_is t.low);
    };
    actor = t.answers.actor ∙ r.actor;
    stands = subst (λ (l : List Message). store.StandsFor layout new.store (replay layout own l)) (sym (taken_more r.items m))
        (subst (λ (a : Actor). store.StandsFor layout new.store (replay layout a (m ∷ taken_in r.items))) r.actor (t.answers.stands (taken_in r.items) own_stands));
    marked = t.marked ∙ r.marked ∙ sym (list_any-append is_mark r.items (Takes m ∷ []) ∙ or_false (has_mark r.items));
    kept = omega (arith, t.kept, r.kept, ap (λ (l : List ℕ). length (without_marks (before ++ l ∷ []))) spelled, message_kept before m fits);
  }

  pub one_more : (p : StorePayload) → payload ≡ store_bytes p → FitsStore p → store_may version own old.marked p ≡ true → HasTaken layout old new p → IsReplayOf layout version own (before ++ payload ∷ []) new
  one_more Mark spelled fits may taken = mark_more spelled may taken
  one_more (Takes m) spelled fits may taken = message_more m spelled fits may taken

  pub unread : ((p : StorePayload) → FitsStore p → payload ≡ store_bytes p → ⊥) → IsBad layout version own r.items payload
  unread none = λ p spelled may. none p may.0 spelled

  pub may_not : (p : StorePayload) → payload ≡ store_bytes p → FitsStore p → store_may version own old.marked p ≡ false → IsBad layout version own r.items payload
  may_not p spelled fits refused = λ q q_spelled may.
      let same : p ≡ q = same_item p q fits may.0 (sym spelled ∙ q_spelled) in
      let yes : store_may version own old.marked p ≡ true = ap (store_may version own old.marked) same ∙ ap (λ (b : Bool). store_may version own b q) r.marked ∙ may.1 in
      differ refused yes

  pub too_high : (p : StorePayload) → payload ≡ store_bytes p → FitsStore p → IsTooHigh old p → IsBad layout version own r.items payload
  too_high Mark spelled fits high = absurd high
  too_high (Takes m) spelled fits high = λ q q_spelled may.
      let same : Takes m ≡ q = same_item (Takes m) q fits may.0 (sym spelled ∙ q_spelled) in
      let low : greatest_h own (replay layout own (taken_in r.items)) < 2 ^ 62 = (subst (StoreMay layout version own r.items) (sym same) may).2 in
      omega (arith, low, high, greatest_is)

-- ---- what is read

pub at_some : {A : Type 0} (P : A → Type 0) (o : Option A) (x : A) → o ≡ Some x → IfSome o P → P x
at_some {A = A} P o x is holds = subst (λ (v : Option A). IfSome v P) is holds

module _ {E : Type 0} (layout : Layout) (version : ℕ) (own : Actor) (old new : Replayed) (payload : List ℕ) (p : StorePayload) (spelled : payload ≡ store_bytes p) (fits : FitsStore p)
    (may : store_may version own old.marked p ≡ true) where
  pub entered : (r : Result Bool E) → IfOk r (λ taken. taken ≡ true → HasTaken layout old new p)
      → IfOk r (λ taken. taken ≡ true → (before : List (List ℕ)) → IsReplayOf layout version own before old → IsReplayOf layout version own (before ++ payload ∷ []) new)
  entered (Ok taken) has = λ e before r. one_more layout version own before old new payload r p spelled fits may (has e)
  entered (Err error) has = tt

  pub not_entered : (r : Result Bool E) → IfOk r (λ taken. taken ≡ false → IsTooHigh old p)
      → IfOk r (λ taken. taken ≡ false → (before : List (List ℕ)) (r : IsReplayOf layout version own before old) → IsBad layout version own r.items payload)
  not_entered (Ok taken) high = λ e before r. too_high layout version own before old new payload r p spelled fits (high e)
  not_entered (Err error) high = tt

-- ---- all of them

-- these payloads are entered, and after them stands the next gate
pub record EnteredSoFar (layout : Layout) (version : ℕ) (own : Actor) (payloads : List (List ℕ)) (r : Replayed) (gate : ℕ) : Type 0 where
  pub replayed : IsReplayOf layout version own payloads r
  pub gate_is : gate ≡ 1 + length (records payloads)

pub enter_none : (layout : Layout) (version : ℕ) (own : Actor) (r : Replayed) → store.actor_of r.store ≡ own → store.StandsFor layout r.store [] → r.marked ≡ false → r.kept ≡ 0 → EnteredSoFar layout version own [] r 1
enter_none layout version own r actor stands marked kept = record {
  replayed = record { items = []; journal = record { spelled = refl; each = tt }; actor = actor; stands = stands; marked = marked; kept = kept };
  gate_is = omega arith;
}

module _ (layout : Layout) (version : ℕ) (own : Actor) (payloads : List (List ℕ)) (i : ℕ) (r : Replayed) (gate : ℕ) (payload : List ℕ)
    (so_far : EnteredSoFar layout version own (take i payloads) r gate) (lt : i < length payloads) (is : payload ≡ get_or payloads i payload) where
  more : take (i + 1) payloads ≡ take i payloads ++ payload ∷ []
  more = take_more payloads i payload lt ∙ ap (λ (p : List ℕ). take i payloads ++ p ∷ []) (sym is)

  whole : payloads ≡ take i payloads ++ payload ∷ drop (i + 1) payloads
  whole = sym (take-append-drop i payloads) ∙ ap (λ (l : List (List ℕ)). take i payloads ++ l) (drop_more payloads i payload lt ∙ ap (λ (p : List ℕ). p ∷ drop (i + 1) payloads) (sym is))

  pub enter_more : (after : Replayed) (next : ℕ) → IsReplayOf layout version own (take i payloads ++ payload ∷ []) after → next ≡ gate + (5 + length payload) → EnteredSoFar layout version own (take (i + 1) payloads) after next
  enter_more after next entered next_is = record {
    replayed = subst (λ (l : List (List ℕ)). IsReplayOf layout version own l after) (sym more) entered;
    gate_is = omega (arith, so_far.gate_is, next_is, one_more_long (take i payloads) (take (i + 1) payloads) payload more);
  }

  pub bad_record : IsBad layout version own so_far.replayed.items payload → IsBadRecord store_bytes (StoreMay layout version own) payloads gate
  bad_record bad = record {
    before = so_far.replayed.items;
    payload = payload;
    behind = drop (i + 1) payloads;
    whole = whole ∙ ap (λ (l : List (List ℕ)). l ++ payload ∷ drop (i + 1) payloads) so_far.replayed.journal.spelled;
    each = so_far.replayed.journal.each;
    bad = bad;
    at = so_far.gate_is ∙ ap (λ (l : List (List ℕ)). 1 + length (records l)) so_far.replayed.journal.spelled;
  }

  pub kept_below : r.kept ≤ i
  kept_below = omega (arith, so_far.replayed.kept, kept_at_most (take i payloads), length-take i payloads)
