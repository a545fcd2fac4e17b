-- The moment that a store's cell shows: the first one since the look began at which all writers that the store has applied are answered.
-- What is answered by then it has applied.
use Rattle.std.proofs.Common.{◌≡◌, Bool, true, false, not, ◌&&◌, List, [], ◌∷◌, Some, is_some, refl, sym, ◌∙◌, ap, subst, inl, inr, ⊎_elim}
use Rattle.std.specs.List.{list_any}
use Rattle.std.proofs.lemmas.Bool.{true≢false, false≢true, and_parts, and_from, or_right, cases_Bool}
use Rattle.acc_stamp.specs.declared.stamps.TxnId.{TxnId}
use Rattle.acc_stamp.specs.declared.actors.Actor.{Actor}
use Rattle.acc_stamp.specs.Actor.{shard_of}
use Rattle.acc_stamp.proofs.Order.{stamp_order, trichotomy}
use Rattle.acc_topology.specs.Keys.{shard_of_key}
use Rattle.acc_value.specs.declared.key.Key.{Key}
use Rattle.acc_txn.specs.Uses.{is_read}
use Rattle.acc_message.specs.declared.item.Item.{Item}
use Rattle.acc_message.specs.Items.{noted_in, notes_of}
use Rattle.acc_message.specs.Opening.{Change, cells_at}
use Rattle.acc_message.specs.Run.{Cluster, taken_of, EachStands}
use Rattle.acc_safety.specs.Decisions.{outcomes_of, is_answered}
use Rattle.acc_safety.specs.Places.{IsIn, First, Later, IsPast, Whole, Behind}
use Rattle.acc_safety.proofs.PlaceOrder.{passing, any_from, IsPast-rest}
use Rattle.acc_safety.proofs.Bridge.{EachStands-past}
use Rattle.acc_safety_laws.proofs.Cell.{Cell}
use Rattle.acc_safety_laws.proofs.Facts.{Premises, own_times, wrote_tells, writer_below}
use Rattle.acc_safety_laws.proofs.Latest.{same_latest, one_latest}
use Rattle.acc_safety_laws.proofs.Notions.{time_of, wrote, Answered}
use Rattle.acc_safety_laws.proofs.Steps.{answered_cases}
use Rattle.acc_safety_laws.proofs.StoreChanges.{timeline, some_value}
use Rattle.acc_safety_laws.proofs.Timeline.{AppliedIn}
use Rattle.acc_glance_laws.specs.SerialCells.{serial_cell}
use Rattle.acc_glance_laws.proofs.Finished.{below_is_answered, in_order}
use Rattle.acc_glance_laws.proofs.OneOutcome.{one_is_answered}
use Rattle.acc_glance_laws.proofs.SerialLatest.{serial_is_latest}
use Rattle.acc_glance_laws.proofs.StoreCells.{Applied, applied_below, writers_meet, cell_is_latest}

-- ---- what changes apply

applied_by : (changes : List Change) (c : Change) → IsIn c changes → c.applies ≡ true → AppliedIn changes c.id
applied_by changes c (First d rest) is = inl (is, refl)
applied_by changes c (Later d e rest there) is = inr (applied_by rest d there is)

applied_from : (changes : List Change) (x : TxnId) → AppliedIn changes x → (c : Change) × IsIn c changes × (c.applies ≡ true) × (c.id ≡ x)
applied_from [] x h = absurd h
applied_from (d ∷ changes) x h =
    ⊎_elim (λ now. (d, First d changes, now.0, now.1))
    (λ before. let c = applied_from changes x before in (c.0, Later c.0 d changes c.1, c.2, c.3)) h

negated : (b : Bool) → not b ≡ true → b ≡ false
negated true h = absurd (false≢true h)
negated false h = refl

module _ (cluster : Cluster) (whole : List Item) (given : Premises cluster whole) (stands : EachStands cluster whole) (own : Actor) (key : Key)
    (here : shard_of_key cluster.layout key ≡ shard_of own) where
  -- these items answered each writer of the key that the store has applied, and it has applied each that they answered
  abbrev pub AllAnswered : List Item → Type 0
  AllAnswered part =
      (y : TxnId) (c : Cell) → Applied cluster whole given stands own y → wrote cluster whole y key ≡ Some c → Answered (notes_of part) y

  abbrev pub AllApplied : List Item → Type 0
  AllApplied part =
      (y : TxnId) (c : Cell) → Answered (notes_of part) y → wrote cluster whole y key ≡ Some c → Applied cluster whole given stands own y

  pub record Shown (from : List Item) : Type 0 where
    pub part : List Item
    pub since : IsPast from part
    pub until : IsPast part whole
    pub answered : AllAnswered part
    pub applied : AllApplied part

  -- an applied writer of the key that these items didn't answer
  record Lacks (part : List Item) : Type 0 where
    pub writer : TxnId
    pub cell : Cell
    pub applied : Applied cluster whole given stands own writer
    pub wrote_it : wrote cluster whole writer key ≡ Some cell
    pub unanswered : is_answered writer (outcomes_of (notes_of part)) ≡ false

  abbrev is_lacking : List Item → Change → Bool
  is_lacking part c = c.applies && (is_some (wrote cluster whole c.id key) && not (is_answered c.id (outcomes_of (notes_of part))))

  lacks : (part : List Item) → list_any (is_lacking part) (timeline (shard_of own) (taken_of cluster own whole)) ≡ true → Lacks part
  lacks part h =
      let p = passing (is_lacking part) (timeline (shard_of own) (taken_of cluster own whole)) h in
      let one = and_parts p.element.applies (is_some (wrote cluster whole p.element.id key) && not (is_answered p.element.id (outcomes_of (notes_of part)))) p.passes in
      let two = and_parts (is_some (wrote cluster whole p.element.id key)) (not (is_answered p.element.id (outcomes_of (notes_of part)))) one.1 in
      let w = some_value (wrote cluster whole p.element.id key) two.0 in
      record {
        writer = p.element.id;
        cell = w.0;
        applied = applied_by (timeline (shard_of own) (taken_of cluster own whole)) p.element p.there one.0;
        wrote_it = w.1;
        unanswered = negated (is_answered p.element.id (outcomes_of (notes_of part))) two.1;
      }

  lacks_none : (part : List Item) → list_any (is_lacking part) (timeline (shard_of own) (taken_of cluster own whole)) ≡ false → AllAnswered part
  lacks_none part none y c h w =
      ⊎_elim (λ is. is)
      (λ isnt. absurd (true≢false (sym (any_from (is_lacking part) change.0 (timeline (shard_of own) (taken_of cluster own whole)) change.1
      (subst (λ z. (change.0.applies && (is_some (wrote cluster whole z key) && not (is_answered z (outcomes_of (notes_of part))))) ≡ true) (sym change.3)
      (and_from change.0.applies _ change.2 (and_from (is_some (wrote cluster whole y key)) _ (ap is_some w) (ap not isnt))))) ∙ none)))
      (cases_Bool (is_answered y (outcomes_of (notes_of part))))
    where
      change : (d : Change) × IsIn d (timeline (shard_of own) (taken_of cluster own whole)) × (d.applies ≡ true) × (d.id ≡ y)
      change = applied_from (timeline (shard_of own) (taken_of cluster own whole)) y h

  -- ---- the first moment

  module _ (item : Item) (rest : List Item) (until : IsPast (item ∷ rest) whole) (lack : Lacks rest) (all : AllAnswered (item ∷ rest)) where
    -- the item answers it
    answered_now : Answered (noted_in item) lack.writer
    answered_now =
        ⊎_elim (λ old. absurd (true≢false (sym old ∙ lack.unanswered))) (λ new. new)
        (answered_cases (notes_of rest) (noted_in item) lack.writer (all lack.writer lack.cell lack.applied lack.wrote_it))

    -- what was answered before is below it
    before_is_applied : (y : TxnId) (c : Cell) → Answered (notes_of rest) y → wrote cluster whole y key ≡ Some c → Applied cluster whole given stands own y
    before_is_applied y c h w =
        let made = wrote_tells cluster whole given y key c w in
        let theirs = wrote_tells cluster whole given lack.writer key lack.cell lack.wrote_it in
        ⊎_elim
        (λ earlier. applied_below cluster whole given stands own y lack.writer (writers_meet cluster whole given stands own key here y lack.writer c lack.cell w lack.wrote_it earlier) lack.applied)
        (λ others. ⊎_elim
        (λ same. subst (Applied cluster whole given stands own) (sym (own_times cluster whole given y lack.writer made.decided theirs.decided same)) lack.applied)
        (λ later. absurd (true≢false (sym (below_is_answered cluster whole (outcomes_of (notes_of rest)) y lack.writer made.body key
        (in_order cluster whole given stands rest (IsPast-rest item rest whole until)) h made.body_is (or_right (is_read made.body key) _ made.updates)
        (writer_below cluster whole given lack.writer y made.body key lack.cell lack.wrote_it made.body_is (or_right (is_read made.body key) _ made.updates) made.decided later))
        ∙ lack.unanswered)))
        others)
        (trichotomy stamp_order (time_of cluster whole y) (time_of cluster whole lack.writer))

    all_applied : AllApplied (item ∷ rest)
    all_applied y c h w =
        ⊎_elim (λ old. before_is_applied y c old w)
        (λ new. subst (Applied cluster whole given stands own)
        (sym (one_is_answered cluster rest item (EachStands-past cluster (item ∷ rest) whole until stands) y lack.writer new answered_now)) lack.applied)
        (answered_cases (notes_of rest) (noted_in item) y h)

  pub shown : (from part : List Item) → AllApplied from → IsPast from part → IsPast part whole → AllAnswered part → Shown from
  shown from part known (Whole xs) until all = record { part = xs; since = Whole xs; until = until; answered = all; applied = known }
  shown from part known (Behind item p rest there) until all =
      ⊎_elim
      (λ some. record {
        part = item ∷ rest;
        since = Behind item p rest there;
        until = until;
        answered = all;
        applied = all_applied item rest until (lacks rest some) all;
      })
      (λ none. shown p rest known there (IsPast-rest item rest whole until) (lacks_none rest none))
      (cases_Bool (list_any (is_lacking rest) (timeline (shard_of own) (taken_of cluster own whole))))

  -- there the store's cell is the serial one
  pub shows_serial_cell : (from : List Item) (s : Shown from) → cells_at cluster.layout (shard_of own) (taken_of cluster own whole) key ≡ serial_cell cluster s.part key
  shows_serial_cell from s =
      one_latest (time_of cluster whole) (wrote cluster whole) key (Applied cluster whole given stands own)
      (cells_at cluster.layout (shard_of own) (taken_of cluster own whole) key) (serial_cell cluster s.part key)
      (λ y z c d v w same. own_times cluster whole given y z (wrote_tells cluster whole given y key c v).decided (wrote_tells cluster whole given z key d w).decided same)
      (cell_is_latest cluster whole given stands own key here)
      (same_latest (time_of cluster whole) (wrote cluster whole) key (Answered (notes_of s.part)) (Applied cluster whole given stands own) (serial_cell cluster s.part key)
      (λ y c h w. s.applied y c h w) (λ y c h w. s.answered y c h w) (serial_is_latest cluster whole given stands s.part s.until key))
