-- A shelf that has what another has stands for what that one stands for.
use Rattle.std.proofs.Common.{◌≡◌, ℕ, List, Option, Result, Ok, Err, OnErr, refl, sym, ap, ◌∙◌, subst}
use Rattle.std.specs.List.{Contains}
use Rattle.acc_stamp.specs.declared.stamps.TxnId.{TxnId}
use Rattle.acc_stamp.specs.Actor.{shard_of}
use Rattle.acc_topology.specs.Layout.{Layout}
use Rattle.acc_message.specs.Taken.{Taken}
use Rattle.acc_message.specs.VoteRule.{greatest_h}
use Rattle.acc_message.specs.Opening.{cells_at}
use Rattle.acc_record.specs.declared.record.Record.{Record}
use Rattle.acc_record.specs.declared.shelf.Shelf.{Shelf}
use Rattle.acc_record.specs.Shelf.{Waits, IsSame, record_at, watchers}
use Rattle.acc_record.specs.Stands.{StandsFor, AreStamps, record_for}
use Rattle.acc_record.specs.Waits.{AreWaits}
use Rattle.acc_store.specs.declared.store.Store.{Store}
use Rattle.acc_store.specs.Stands.{IsAsBefore}

same_waits : (shard : ℕ) (at : TxnId → Option Record) (old new : Waits) → ((y : TxnId) → watchers new y ≡ watchers old y)
    → AreWaits shard at old → AreWaits shard at new
same_waits shard at old new same w =
    record {
      true = λ y v there. w.true y v (subst (λ list. Contains list v) (same y) there);
      all = λ x r there stable closed.
          let q = w.all x r there stable closed in
          (q.0, q.1, subst (λ list. Contains list q.1) (sym (same q.0)) q.2, q.3);
    }

module _ (old new : Shelf) (q : IsSame old new) (layout : Layout) (history : List Taken) (stands : StandsFor layout old history) where
  same_records : record_at new.records ≡ record_at old.records
  same_records = λ i x. q.records x i

  pub still_stands : StandsFor layout new history
  still_stands =
      record {
        records = λ x. q.records x ∙ stands.records x ∙ ap (λ actor. record_for (shard_of actor) history x) (sym q.actor);
        index =
            subst (λ actor. AreStamps layout (shard_of actor) history new.index) (sym q.actor)
            (subst (AreStamps layout (shard_of old.actor) history) (sym q.index) stands.index);
        cells = λ key. q.cells key ∙ stands.cells key ∙ ap (λ actor. cells_at layout (shard_of actor) history key) (sym q.actor);
        greatest = q.greatest ∙ stands.greatest ∙ ap (λ actor. greatest_h actor history) (sym q.actor);
        waits =
            subst (λ actor. AreWaits (shard_of actor) (record_at new.records) new.waits) (sym q.actor)
            (subst (λ at. AreWaits (shard_of old.actor) at new.waits) (sym same_records)
            (same_waits (shard_of old.actor) (record_at old.records) old.waits new.waits q.waits stands.waits));
      }

pub as_before : {T E : Type 0} (old new : Store) (result : Result T E) → OnErr result (IsSame old.shelf new.shelf) → OnErr result (IsAsBefore old new)
as_before old new (Ok t) q = q
as_before old new (Err e) q = record { same = q; stands = λ layout history stands. still_stands old.shelf new.shelf q layout history stands }

pub unchanged : {T E : Type 0} (store : Store) (result : Result T E) → OnErr result (IsAsBefore store store)
unchanged store (Ok t) = tt
unchanged store (Err e) =
    record {
      same = record { actor = refl; records = λ x. refl; index = refl; cells = λ key. refl; waits = λ y. refl; greatest = refl };
      stands = λ layout history stands. stands;
    }
