-- The rules on journals don't see the steps of a plan.
use Rattle.std.proofs.Common.{ℕ, List, [], inl, inr, ⊎_elim}
use Rattle.acc_stamp.specs.declared.actors.Actor.{Actor}
use Rattle.acc_stamp.specs.declared.stamps.Ballot.{Ballot}
use Rattle.acc_stamp.specs.declared.stamps.Stamp.{Stamp}
use Rattle.acc_stamp.specs.declared.stamps.TxnId.{TxnId}
use Rattle.acc_message.specs.declared.message.Message.{Message}
use Rattle.acc_message.specs.Fields.{ballot_of, id_of}
use Rattle.acc_payloads.specs.declared.draw.Draw.{Draw}
use Rattle.acc_payloads.specs.declared.node.NodePayload.{NodePayload}
use Rattle.acc_payloads.specs.declared.store.StorePayload.{StorePayload}
use Rattle.acc_payloads.specs.declared.store.StorePayload.TheVariants.{Mark, Takes}
use Rattle.acc_payloads.proofs.Journals.{each_alike}
use Rattle.acc_schedule.specs.Content.{Content}
use Rattle.acc_left.specs.declared.image.Image.{Image}
use Rattle.acc_left.specs.Rules.{AreLeft, Begins, HasDrawn, IsMessageOf, IsNodeImage, IsStoreImage, IsTakenOf, Recovers, StoreMayLeave}

abbrev pub without_plan_steps : Content → Content
without_plan_steps plan = record plan { steps = [] }

module _ (plan : Content) (images : List Image) where
  abbrev now : Content
  now = without_plan_steps plan

  node_alike : (image : Image) (items : List NodePayload) → IsNodeImage plan image items → IsNodeImage now image items
  node_alike image items is = record { payloads = is.payloads; reads = is.reads; journal = is.journal }

  drawn_alike : (stamp : Stamp) (d : Draw) → HasDrawn plan images stamp d → HasDrawn now images stamp d
  drawn_alike stamp d h = record {
    image = h.image;
    among = h.among;
    node = h.node;
    items = h.items;
    journal = node_alike h.image h.items h.journal;
    draws = h.draws;
    stamp_is = h.stamp_is;
  }

  begins_alike : (x : TxnId) (txn : ℕ) → Begins plan images x txn → Begins now images x txn
  begins_alike x txn h = record { draw = h.draw; drawn = drawn_alike x.0 h.draw h.drawn; begins = h.begins; number = h.number }

  recovers_alike : (b : Ballot) (txn : ℕ) → Recovers plan images b txn → Recovers now images b txn
  recovers_alike b txn h = record { draw = h.draw; drawn = drawn_alike b.0 h.draw h.drawn; recovers = h.recovers; number = h.number }

  message_alike : (own : Actor) (m : Message) → IsMessageOf plan images own m → IsMessageOf now images own m
  message_alike own m of = record {
    txn = of.txn;
    begun = begins_alike (id_of m) of.txn of.begun;
    body = of.body;
    planned = of.planned;
    brings = of.brings;
    store = of.store;
    sender = of.sender;
    ballot = ⊎_elim inl (λ drew. inr (recovers_alike (ballot_of m) of.txn drew)) of.ballot;
    deps = λ shard x there within. let b = of.deps shard x there within in (b.0, begins_alike x b.0 b.1);
    height = of.height;
  }

  taken_alike : (own : Actor) (p : StorePayload) → IsTakenOf plan images own p → IsTakenOf now images own p
  taken_alike own Mark taken = tt
  taken_alike own (Takes m) taken = message_alike own m taken

  store_alike : (image : Image) → IsStoreImage plan images image → IsStoreImage now images image
  store_alike image is = record {
    payloads = is.payloads;
    items = is.items;
    reads = is.reads;
    journal =
        record {
          spelled = is.journal.spelled;
          each =
              each_alike (StoreMayLeave plan images image.actor) (StoreMayLeave now images image.actor)
              (λ before p may. (may.0, may.1, taken_alike image.actor p may.2)) [] is.items is.journal.each;
        };
  }

  pub left_without_steps : AreLeft plan images → AreLeft now images
  left_without_steps left = record {
    nodes = λ image there node. let k = left.nodes image there node in (k.0, node_alike image k.0 k.1);
    stores = λ image there store. store_alike image (left.stores image there store);
  }
