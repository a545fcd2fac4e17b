-- Journals in another order keep the same rules.
use Rattle.std.proofs.Common.{ℕ, List, [], Contains, inl, inr, ⊎_elim}
use Rattle.acc_stamp.specs.declared.actors.Actor.{Actor}
use Rattle.acc_stamp.specs.declared.stamps.Ballot.{Ballot}
use Rattle.acc_stamp.specs.declared.stamps.Stamp.{Stamp}
use Rattle.acc_stamp.specs.declared.stamps.TxnId.{TxnId}
use Rattle.acc_deps.specs.declared.shards.ShardDeps.{ShardDeps}
use Rattle.acc_message.specs.declared.message.Message.{Message}
use Rattle.acc_message.specs.Fields.{ballot_of, id_of}
use Rattle.acc_payloads.specs.declared.draw.Draw.{Draw}
use Rattle.acc_payloads.specs.declared.store.StorePayload.{StorePayload}
use Rattle.acc_payloads.specs.declared.store.StorePayload.TheVariants.{Mark, Takes}
use Rattle.acc_payloads.proofs.Journals.{each_alike}
use Rattle.acc_schedule.specs.Content.{Content}
use Rattle.acc_left.specs.declared.image.Image.{Image}
use Rattle.acc_left.specs.Rules.{AreBegun, AreLeft, Begins, HasDrawn, IsMessageOf, IsStoreImage, IsTakenOf, Recovers, StoreMayLeave, deps_brought}

module _ (plan : Content) (xs ys : List Image) (to : (image : Image) → Contains xs image → Contains ys image) where
  drawn_to : (stamp : Stamp) (d : Draw) → HasDrawn plan xs stamp d → HasDrawn plan ys stamp d
  drawn_to stamp d h = record {
    image = h.image;
    among = to h.image h.among;
    node = h.node;
    items = h.items;
    journal = h.journal;
    draws = h.draws;
    stamp_is = h.stamp_is;
  }

  begins_to : (id : TxnId) (txn : ℕ) → Begins plan xs id txn → Begins plan ys id txn
  begins_to id txn b = record { draw = b.draw; drawn = drawn_to id.0 b.draw b.drawn; begins = b.begins; number = b.number }

  recovers_to : (ballot : Ballot) (txn : ℕ) → Recovers plan xs ballot txn → Recovers plan ys ballot txn
  recovers_to ballot txn r = record { draw = r.draw; drawn = drawn_to ballot.0 r.draw r.drawn; recovers = r.recovers; number = r.number }

  begun_to : (deps : List ShardDeps) → AreBegun plan xs deps → AreBegun plan ys deps
  begun_to deps begun shard x there within = let b = begun shard x there within in (b.0, begins_to x b.0 b.1)

  message_to : (own : Actor) (m : Message) → IsMessageOf plan xs own m → IsMessageOf plan ys own m
  message_to own m of = record {
    txn = of.txn;
    begun = begins_to (id_of m) of.txn of.begun;
    body = of.body;
    planned = of.planned;
    brings = of.brings;
    store = of.store;
    sender = of.sender;
    ballot = ⊎_elim inl (λ recovers. inr (recovers_to (ballot_of m) of.txn recovers)) of.ballot;
    deps = begun_to (deps_brought m) of.deps;
    height = of.height;
  }

  taken_to : (own : Actor) (p : StorePayload) → IsTakenOf plan xs own p → IsTakenOf plan ys own p
  taken_to own Mark taken = tt
  taken_to own (Takes m) taken = message_to own m taken

  may_to : (own : Actor) (before : List StorePayload) (p : StorePayload) → StoreMayLeave plan xs own before p → StoreMayLeave plan ys own before p
  may_to own before p may = (may.0, may.1, taken_to own p may.2)

  store_to : (image : Image) → IsStoreImage plan xs image → IsStoreImage plan ys image
  store_to image is = record {
    payloads = is.payloads;
    items = is.items;
    reads = is.reads;
    journal = record {
      spelled = is.journal.spelled;
      each = each_alike (StoreMayLeave plan xs image.actor) (StoreMayLeave plan ys image.actor) (may_to image.actor) [] is.items is.journal.each;
    };
  }

pub left_alike : (plan : Content) (xs ys : List Image) → ((image : Image) → Contains xs image → Contains ys image) → ((image : Image) → Contains ys image → Contains xs image)
    → AreLeft plan xs → AreLeft plan ys
left_alike plan xs ys to from left = record {
  nodes = λ image there node. left.nodes image (from image there) node;
  stores = λ image there store. store_to plan xs ys to image (left.stores image (from image there) store);
}
