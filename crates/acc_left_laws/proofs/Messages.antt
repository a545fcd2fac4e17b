-- A message that a store of a run took is one of the plan, by what the journals of nodes tell.
use Rattle.std.proofs.Common.{◌≡◌, ℕ, true, false, List, Option, None, Some, is_some, refl, sym, ap, subst, ◌∙◌, ◌⊎◌, inl, inr}
use Rattle.std.specs.List.{slice_get}
use Rattle.std.proofs.lemmas.Bool.{le-leb, true≢false}
use Rattle.acc_stamp.specs.declared.actors.Actor.{Actor}
use Rattle.acc_stamp.specs.declared.stamps.Ballot.{Ballot}
use Rattle.acc_stamp.specs.declared.stamps.TxnId.{TxnId}
use Rattle.acc_stamp.specs.Actor.{node_of}
use Rattle.acc_stamp.specs.Stamp.{zero_ballot}
use Rattle.acc_txn.specs.declared.parts.BodyParts.{BodyParts}
use Rattle.acc_message.specs.declared.message.Message.{Message}
use Rattle.acc_message.specs.declared.message.Message.TheVariants.{PreAccept, PreAcceptOk, Accept, AcceptOk, Commit, CommitOk, Stable, ReadOk, Apply, Recover as RecoverMessage, RecoverOk, Nack, Decided, Inform}
use Rattle.acc_message.specs.declared.entry.Emitted.{Emitted}
use Rattle.acc_message.specs.declared.item.Item.{Item}
use Rattle.acc_message.specs.Fields.{ballot_of, from_of, id_of, to_of, top_of}
use Rattle.acc_message.specs.Items.{txn_of}
use Rattle.acc_message.specs.Run.{Cluster, clock_start, deeds_of, is_node, EachStands}
use Rattle.acc_message.specs.Shares.{is_store_of, stores_used}
use Rattle.acc_message.specs.Taken.{body_in}
use Rattle.acc_actor_laws.proofs.Standing.{not_none}
use Rattle.acc_calm.proofs.Undecided.{used_is_store}
use Rattle.acc_delivered.proofs.Addressed.{to_store}
use Rattle.acc_safety.specs.Decisions.{body_at}
use Rattle.acc_safety.specs.Histories.{FromNode, Sender, IsNode, IsStore}
use Rattle.acc_safety.specs.Places.{IsIn}
use Rattle.acc_safety.specs.Valid.{IsValidCluster}
use Rattle.acc_safety.proofs.Bridge.{each_emits, emits_at, sender}
use Rattle.acc_safety.proofs.Frame.{bodies_are_begun, homes_are_one, node_sent}
use Rattle.acc_safety.proofs.PlaceOrder.{each_at, Contains-IsIn}
use Rattle.acc_run_laws.specs.Heights.{most_h}
use Rattle.acc_run_laws.proofs.Begun.{begun_of}
use Rattle.acc_run_laws.proofs.Bounded.{AreBegunDeps, HasBoundedContent, IsBegunShard, IsBounded}
use Rattle.acc_run_laws.proofs.Everywhere.{stage}
use Rattle.acc_run_laws.proofs.ReceiverFacts.{routes_of, IsRouted}
use Rattle.acc_payloads.specs.declared.draw.Purpose.TheVariants.{Begin, Recover}
use Rattle.acc_schedule.specs.Content.{Content}
use Rattle.acc_schedule_runs.specs.Schedules.{cluster_of}
use Rattle.acc_left.specs.declared.image.Image.{Image}
use Rattle.acc_left.specs.Rules.{deps_brought, greatest_height, AreBegun, Begins, IsMessageOf, Recovers}
use Rattle.acc_left_laws.proofs.Beginnings.{begun_noted}
use Rattle.acc_left_laws.proofs.Sources.{ballot_was_drawn, begin_was_drawn, of_sending, DrewStamp, HasBallot, WasDrawn}
use Rattle.acc_left_laws.proofs.StoreTakes.{NextMessage}

-- ---- what a message brings

record Brings (m : Message) : Type 0 where
  body : BodyParts
  is : body_in m ≡ Some body

brought_by : (m : Message) (o : Option BodyParts) → body_in m ≡ o → is_some o ≡ true → Brings m
brought_by m None is some = absurd (true≢false (sym some))
brought_by m (Some body) is some = record { body = body; is = is }

-- the transactions that a message depends on were begun
deps_begun : (most : ℕ) (begun : List TxnId) (m : Message) → HasBoundedContent most begun m → AreBegunDeps begun (deps_brought m)
deps_begun most begun (PreAccept from to id ballot body) h = tt
deps_begun most begun (PreAcceptOk from to id ballot vote deps) h = tt
deps_begun most begun (Accept from to id ballot body t deps) h = h.deps_begun
deps_begun most begun (AcceptOk from to id ballot deps) h = tt
deps_begun most begun (Commit from to id ballot body t deps) h = h.deps_begun
deps_begun most begun (CommitOk from to id ballot) h = tt
deps_begun most begun (Stable from to id ballot body t deps) h = h.deps_begun
deps_begun most begun (ReadOk from to id ballot answer) h = tt
deps_begun most begun (Apply from to id ballot body t deps outcome) h = h.0.deps_begun
deps_begun most begun (RecoverMessage from to id ballot body) h = tt
deps_begun most begun (RecoverOk from to id ballot view) h = tt
deps_begun most begun (Nack from to id ballot promised) h = tt
deps_begun most begun (Decided from to id ballot t deps) h = tt
deps_begun most begun (Inform from to id ballot outcome) h = tt

-- the number of a transaction with this body
record Numbered (plan : Content) (items : List Item) (x : TxnId) (body : BodyParts) : Type 0 where
  txn : ℕ
  numbered : txn_of items x ≡ Some txn
  planned : slice_get plan.bodies txn ≡ Some body

number_of : (plan : Content) (items : List Item) (x : TxnId) (body : BodyParts) (o : Option ℕ) → txn_of items x ≡ o → body_at (cluster_of plan) o ≡ Some body
    → Numbered plan items x body
number_of plan items x body None is found = absurd (not_none body found)
number_of plan items x body (Some txn) is found = record { txn = txn; numbered = is; planned = found }

same_number : (n m : ℕ) → Some n ≡ Some m → n ≡ m
same_number n m e = cc

module _ (plan : Content) (valid : IsValidCluster (cluster_of plan)) (items : List Item) (stands : EachStands (cluster_of plan) items) (images : List Image)
    (begins : (x : TxnId) (txn : ℕ) → DrewStamp (cluster_of plan) items Begin txn x.0 → Begins plan images x txn)
    (recovers : (b : Ballot) (txn : ℕ) → DrewStamp (cluster_of plan) items Recover txn b.0 → Recovers plan images b txn) where
  abbrev cluster : Cluster
  cluster = cluster_of plan

  abbrev Drawn : TxnId → Type 0
  Drawn x = WasDrawn cluster valid items stands x

  drawn : (x : TxnId) → IsIn x (begun_of items) → Drawn x
  drawn x there = begin_was_drawn cluster valid items stands x (begun_noted items x there)

  begun_in_journals : (x : TxnId) → IsIn x (begun_of items) → (number : ℕ) × Begins plan images x number
  begun_in_journals x there = let was : Drawn x = drawn x there in (was.txn, begins x was.txn was.drew)

  module _ (own : Actor) (store : is_node own ≡ false) (before : List Message) (m : Message) (next : NextMessage plan items own before m) where
    bounded : IsBounded (most_h items) (begun_of items) m
    bounded = (stage cluster items (record { valid = valid; stands = stands })).messages m next.sending

    at_store : is_node (to_of m) ≡ false
    at_store = ap is_node next.addressed ∙ store

    brought : Brings m
    brought = let b : IsBounded (most_h items) (begun_of items) m = bounded in brought_by m (body_in m) refl (b.address.brings at_store)

    routed : IsRouted plan.topology m
    routed = (routes_of cluster valid items stands).messages m next.sending

    from_node : is_node (from_of m) ≡ true
    from_node = let r : IsRouted plan.topology m = routed in r.asked at_store

    abbrev sender_start : ℕ
    sender_start = clock_start plan.starts (node_of (from_of m))

    node_of_sender : Sender cluster items m → FromNode cluster items (from_of m) m
    node_of_sender (IsNode f) = f
    node_of_sender (IsStore f) = absurd (true≢false (sym from_node ∙ f.is_store))

    from : FromNode cluster items (from_of m) m
    from = node_of_sender (sender cluster items m stands next.sending)

    module _ (b : Brings m) (f : FromNode cluster items (from_of m) m) where
      numbered : Numbered plan items (id_of m) b.body
      numbered = number_of plan items (id_of m) b.body (txn_of items (id_of m)) refl (bodies_are_begun cluster items stands m b.body next.sending b.is)

      goes_to_store : IsIn (to_of m) (stores_used plan.topology b.body)
      goes_to_store =
          to_store plan.topology (node_of (from_of m)) sender_start f.past f.deed.act m b.body
          (subst (λ (e : Emitted). IsIn m e.out)
          (emits_at plan.topology (node_of (from_of m)) sender_start (deeds_of cluster (from_of m) items) f.deed f.past (each_emits cluster (from_of m) items stands f.is_node) f.at)
          f.sent)
          b.is

      at_its_store : is_store_of plan.topology b.body own ≡ true
      at_its_store = used_is_store plan.topology b.body own (subst (λ (a : Actor). IsIn a (stores_used plan.topology b.body)) next.addressed goes_to_store)

      module _ (n : Numbered plan items (id_of m) b.body) where
        begun : Begins plan images (id_of m) n.txn
        begun =
            let known : IsBounded (most_h items) (begun_of items) m = bounded in
            let was : Drawn (id_of m) = drawn (id_of m) known.id.there in
            subst (Begins plan images (id_of m)) (same_number was.txn n.txn (sym was.numbered ∙ n.numbered)) (begins (id_of m) was.txn was.drew)

        ballot : (ballot_of m ≡ zero_ballot) ⊎ Recovers plan images (ballot_of m) n.txn
        ballot = by (of_sending plan.topology (node_of (from_of m)) sender_start (deeds_of cluster (from_of m) items) f.deed f.past f.deed.act m f.at refl (node_sent cluster items (from_of m) m stands f))
          where
            by : HasBallot plan.topology (node_of (from_of m)) sender_start (deeds_of cluster (from_of m) items) (id_of m) (ballot_of m)
                → (ballot_of m ≡ zero_ballot) ⊎ Recovers plan images (ballot_of m) n.txn
            by (inl zero) = inl zero
            by (inr drew) =
                inr (recovers (ballot_of m) n.txn (ballot_was_drawn cluster valid items stands (from_of m) f.is_node (id_of m) (ballot_of m) n.txn n.numbered drew))

        depends : AreBegun plan images (deps_brought m)
        depends shard x there within =
            let known : IsBounded (most_h items) (begun_of items) m = bounded in
            let one : IsBegunShard (begun_of items) shard =
            each_at (IsBegunShard (begun_of items)) shard (deps_brought m) (deps_begun (most_h items) (begun_of items) m known.content) (Contains-IsIn shard (deps_brought m) there) in
            begun_in_journals x (each_at (λ (id : TxnId). IsIn id (begun_of items)) x shard.ids one.ids (Contains-IsIn x shard.ids within))

        is_message : IsMessageOf plan images own m
        is_message = record {
          txn = n.txn;
          begun = begun;
          body = b.body;
          planned = n.planned;
          brings = b.is;
          store = at_its_store;
          sender = homes_are_one cluster items stands m next.sending from_node;
          ballot = ballot;
          deps = depends;
          height = le-leb (top_of m) greatest_height next.top;
        }

    pub message_left : IsMessageOf plan images own m
    message_left = let b : Brings m = brought in let f : FromNode cluster items (from_of m) m = from in is_message b f (numbered b f)
