-- A quiet step keeps a shelf at its history.
use Rattle.std.proofs.Common.{◌≡◌, ◌≢◌, ℕ, Bool, true, false, max, is_some, List, ◌∷◌, Option, Some, refl, sym, ◌∙◌, ap, subst}
use Rattle.std.specs.Option.{option_map}
use Rattle.std.proofs.lemmas.Bool.{true≢false}
use Rattle.acc_stamp.specs.declared.stamps.TxnId.{TxnId}
use Rattle.acc_stamp.specs.declared.actors.Actor.{Actor}
use Rattle.acc_stamp.specs.Actor.{shard_of}
use Rattle.acc_stamp.specs.Stamp.{id_eq}
use Rattle.acc_stamp.proofs.Order.{id_order}
use Rattle.acc_topology.specs.Layout.{Layout}
use Rattle.acc_value.specs.declared.key.Key.{Key}
use Rattle.acc_message.specs.declared.message.Message.{Message}
use Rattle.acc_message.specs.Fields.{id_of, top_of}
use Rattle.acc_message.specs.Taken.{Taken, body_in}
use Rattle.acc_message.specs.VoteRule.{greatest_drawn, greatest_h}
use Rattle.acc_message.specs.Opening.{may_open, cells_at}
use Rattle.acc_message.specs.StoreRules.{store_answer, replay}
use Rattle.acc_record.specs.declared.record.Record.{Record}
use Rattle.acc_record.specs.declared.shelf.Shelf.{Shelf}
use Rattle.acc_record.specs.Shelf.{record_at, cell_at}
use Rattle.acc_record.specs.Waits.{AreWaits}
use Rattle.acc_record.specs.Stands.{record_with, record_for, AreStamps, StandsFor, AnswersByRules}
use Rattle.acc_record.specs.Steps.{record_after, NotesTold, QuietStep}
use Rattle.acc_record.proofs.Apart.{concerns}
use Rattle.acc_record.proofs.Resting.{StaysAt, stays_at, untouched}
use Rattle.acc_record.proofs.Waiting.{Alike, Both, Newly, alike_itself, waits_stay}
use Rattle.acc_record.proofs.Quiet.{cells_stay}
use Rattle.acc_record.proofs.Index.{and_false, index_next}
use Rattle.acc_record.proofs.Records.{record_next, Began, Known, Unknown, Begun, begun, record_elsewhere}

module _ (layout : Layout) (old new : Shelf) (messages : List Message) (m : Message) (sent : List Message) (quiet : may_open m ≡ false)
    (stands : StandsFor layout old (replay layout old.actor messages))
    (answers : sent ≡ store_answer layout old.actor (replay layout old.actor messages) m) (q : QuietStep layout old new m sent) where
  abbrev past : List Taken
  past = replay layout old.actor messages

  abbrev step : Taken
  step = record { message = m; sent = sent }

  abbrev x : TxnId
  x = id_of m

  abbrev shard : ℕ
  shard = shard_of old.actor

  b : Begun shard step past (record_at old.records x) q.begins
  b = begun layout old.actor shard messages step (record_at old.records x) q.begins (stands.records x) q.from

  elsewhere : (y : TxnId) → concerns y m ≡ false → StaysAt step past y
  elsewhere y apart = stays_at layout old.actor past m sent y answers apart

  -- ---- records

  record_here : record_after q.begins m sent ≡ record_with shard (step ∷ past) x b.body
  record_here = ap (λ r. record_after r m sent) b.is ∙ record_next shard step past b.body quiet

  apart_from : (y : TxnId) → id_eq x y ≡ false → concerns y m ≡ false
  apart_from y other = and_false (is_some (body_in m)) (id_eq x y) other

  isnt : (y : TxnId) → id_eq x y ≡ false → y ≢ x
  isnt y other e = true≢false (sym ((id_order.decides x y).1 (sym e)) ∙ other)

  record_by : (y : TxnId) (same : Bool) → id_eq x y ≡ same → record_at new.records y ≡ record_for shard (step ∷ past) y
  record_by y true is =
      let e : x ≡ y = (id_order.decides x y).0 is in
      subst (λ z. record_at new.records z ≡ record_for shard (step ∷ past) z) e
      (q.after ∙ ap Some record_here ∙ sym (ap (λ o. option_map (record_with shard (step ∷ past) x) o) b.known))
  record_by y false other =
      q.others y (isnt y other) ∙ stands.records y ∙ sym (record_elsewhere shard step past y quiet (elsewhere y (apart_from y other)))

  records : (y : TxnId) → record_at new.records y ≡ record_for shard (step ∷ past) y
  records y = record_by y (id_eq x y) refl

  -- ---- waits

  alike_began : (before : Option Record) → Began shard past x b.body before → Alike before (Some (record_after q.begins m sent))
  alike_began _ (Known known) =
      Both (record_with shard past x b.body) (record_after q.begins m sent)
      (record { stable = ap (λ (r : Record). r.stable) b.is; opened = ap (λ (r : Record). r.opened) b.is; applied = ap (λ (r : Record). r.applied) b.is })
  alike_began _ (Unknown unknown) =
      Newly (record_after q.begins m sent) (ap (λ (r : Record). r.stable) b.is ∙ (untouched layout old.actor messages x unknown).stable)

  alike_by : (y : TxnId) (same : Bool) → id_eq x y ≡ same → Alike (record_at old.records y) (record_at new.records y)
  alike_by y true is =
      subst (λ z. Alike (record_at old.records z) (record_at new.records z)) ((id_order.decides x y).0 is)
      (subst (Alike (record_at old.records x)) (sym q.after) (alike_began (record_at old.records x) b.began))
  alike_by y false other = subst (Alike (record_at old.records y)) (sym (q.others y (isnt y other))) (alike_itself (record_at old.records y))

  waits : AreWaits shard (record_at new.records) new.waits
  waits = waits_stay shard (record_at old.records) (record_at new.records) (λ y. alike_by y (id_eq x y) refl) old.waits new.waits q.waits stands.waits

  -- ---- the index

  index : AreStamps layout shard (step ∷ past) new.index
  index =
      index_next layout old.actor shard messages step (record_at old.records x) q.begins old.index new.index b elsewhere
      (subst (λ r. NotesTold layout shard m (record_at old.records x) r old.index new.index) record_here q.notes) stands.index

  -- ---- the whole

  abbrev StandsAt : Actor → Type 0
  StandsAt own =
      ((y : TxnId) → record_at new.records y ≡ record_for (shard_of own) (step ∷ past) y)
      × AreStamps layout (shard_of own) (step ∷ past) new.index
      × ((key : Key) → cell_at new.cells key ≡ cells_at layout (shard_of own) (step ∷ past) key)
      × (new.greatest ≡ greatest_h own (step ∷ past))
      × AreWaits (shard_of own) (record_at new.records) new.waits

  at_old : StandsAt old.actor
  at_old = (
    records,
    index,
    (λ key. q.cells key ∙ stands.cells key ∙ sym (cells_stay shard step past quiet layout key)),
    q.greatest ∙ ap (max (max (top_of m) (greatest_drawn old.actor.0 sent))) stands.greatest,
    waits,
  )

  stands_after : StandsFor layout new (step ∷ past)
  stands_after =
      let all = subst StandsAt (sym q.actor) at_old in
      record { records = all.0; index = all.1; cells = all.2; greatest = all.3; waits = all.4 }

pub quiet_stands : (layout : Layout) (old new : Shelf) (messages : List Message) (m : Message) (sent : List Message) → may_open m ≡ false
    → StandsFor layout old (replay layout old.actor messages) → sent ≡ store_answer layout old.actor (replay layout old.actor messages) m
    → QuietStep layout old new m sent → StandsFor layout new (replay layout old.actor (m ∷ messages))
quiet_stands layout old new messages m sent quiet stands answers q =
    subst (λ s. StandsFor layout new (record { message = m; sent = s } ∷ replay layout old.actor messages)) answers
    (stands_after layout old new messages m sent quiet stands answers q)

-- the same as a step's whole clause
pub quiet_answers : (layout : Layout) (old new : Shelf) (m : Message) (sent : List Message) → may_open m ≡ false
    → ((messages : List Message) → StandsFor layout old (replay layout old.actor messages)
    → sent ≡ store_answer layout old.actor (replay layout old.actor messages) m)
    → QuietStep layout old new m sent → AnswersByRules layout old new m sent
quiet_answers layout old new m sent quiet answers q =
    record {
      actor = q.actor;
      answers = answers;
      stands = λ messages stands. quiet_stands layout old new messages m sent quiet stands (answers messages stands) q;
    }
