-- What is noted after a step are the stamps of the known transactions.
use Rattle.std.proofs.Common.{◌≡◌, ℕ, Bool, true, false, ◌&&◌, is_some, List, ◌∷◌, Option, Some, Contains, ⊎_elim, refl, sym, ◌∙◌, subst, arith}
use Rattle.acc_stamp.specs.declared.stamps.Stamp.{Stamp}
use Rattle.acc_stamp.specs.declared.stamps.TxnId.{TxnId}
use Rattle.acc_stamp.specs.declared.actors.Actor.{Actor}
use Rattle.acc_stamp.specs.Stamp.{stamp_le, id_eq}
use Rattle.acc_stamp.proofs.Order.{id_order}
use Rattle.acc_topology.specs.Layout.{Layout}
use Rattle.acc_topology.specs.Keys.{share_of}
use Rattle.acc_txn.specs.declared.parts.BodyParts.{BodyParts}
use Rattle.acc_txn.specs.Uses.{footprint_of}
use Rattle.acc_value.specs.declared.key.Key.{Key}
use Rattle.acc_index.specs.Noted.{Noted}
use Rattle.acc_message.specs.declared.message.Message.{Message}
use Rattle.acc_message.specs.Fields.{id_of}
use Rattle.acc_message.specs.Taken.{Taken, body_in, body_known}
use Rattle.acc_message.specs.VoteRule.{stamps_of}
use Rattle.acc_message.specs.StoreRules.{replay}
use Rattle.acc_record.specs.declared.record.Record.{Record}
use Rattle.acc_record.specs.Stands.{record_with, noted_as, IsStampOf, IsCovered, AreStamps}
use Rattle.acc_record.specs.Steps.{stamps_told, stamps_shown, NotesTold}
use Rattle.acc_actor_laws.proofs.OpeningFacts.{some_is}
use Rattle.acc_record.proofs.Apart.{concerns}
use Rattle.acc_record.proofs.Resting.{StaysAt, untouched}
use Rattle.acc_record.proofs.NotedRecords.{stamp_le-trans, first_is_in, only_is, shown_is_in, stamp_stays, told_is_in, told_or_before}
use Rattle.acc_record.proofs.Records.{Began, Known, Unknown, Begun, known_stays}

pub and_false : (a b : Bool) → b ≡ false → (a && b) ≡ false
and_false true b h = h
and_false false b h = refl

module _ (layout : Layout) (own : Actor) (shard : ℕ) (messages : List Message) (step : Taken) (before : Option Record) (begins : Record)
    (old new : List Noted) (b : Begun shard step (replay layout own messages) before begins)
    (elsewhere : (y : TxnId) → concerns y step.message ≡ false → StaysAt step (replay layout own messages) y)
    (notes : NotesTold layout shard step.message before (record_with shard (step ∷ replay layout own messages) (id_of step.message) b.body) old new)
    (stamps : AreStamps layout shard (replay layout own messages) old) where
  abbrev past : List Taken
  past = replay layout own messages

  abbrev x : TxnId
  x = id_of step.message

  apart_from : (y : TxnId) → id_eq x y ≡ false → concerns y step.message ≡ false
  apart_from y other = and_false (is_some (body_in step.message)) (id_eq x y) other

  abbrev told : List Stamp
  told = stamps_told (record_with shard (step ∷ past) x b.body) step.message

  kept_stamp : (n : Noted) → IsStampOf layout shard past n → IsStampOf layout shard (step ∷ past) n
  kept_stamp n i = record { body = i.body; known = known_stays step past n.id i.body i.known; stamp = stamp_stays step past n.id n.stamp i.stamp; is = i.is }

  told_stamp : (stamp : Stamp) → Contains told stamp → IsStampOf layout shard (step ∷ past) (noted_as layout shard x b.body stamp)
  told_stamp stamp among = record { body = b.body; known = b.known; stamp = told_is_in shard step past b.body stamp among; is = refl }

  only : (n : Noted) → Contains new n → IsStampOf layout shard (step ∷ past) n
  only n there =
      ⊎_elim (λ was. kept_stamp n (stamps.only n was))
      (λ t. subst (IsStampOf layout shard (step ∷ past)) (sym t.2) (told_stamp t.0 t.1))
      (notes.only n there)

  abbrev share : BodyParts → List (Key × Bool)
  share body = share_of layout (footprint_of body) shard

  kept_cover : (y : TxnId) (body : BodyParts) (stamp : Stamp) → IsCovered old y (share body) stamp → IsCovered new y (share body) stamp
  kept_cover y body stamp c = record { by = c.by; there = notes.kept _ c.there; above = c.above }

  covered_shown : (stamp : Stamp) (before : Option Record) → Began shard past x b.body before
      → ((shown : Stamp) × Contains (stamps_shown x before) shown × (stamp_le stamp shown ≡ true)) → IsCovered new x (share b.body) stamp
  covered_shown stamp _ (Known known) s =
      let c : IsCovered old x (share b.body) s.0 = stamps.all x b.body s.0 known (shown_is_in x s.0 shard past b.body s.1) in
      record { by = c.by; there = notes.kept _ c.there; above = stamp_le-trans stamp s.0 c.by s.2 c.above }
  covered_shown stamp _ (Unknown unknown) s = absurd (omega (arith, s.1.1))

  covered_told : (stamp : Stamp) → Contains told stamp → IsCovered new x (share b.body) stamp
  covered_told stamp among =
      ⊎_elim (λ c. c) (λ s. covered_shown stamp before b.began s) (notes.told stamp among)

  covered_before : (stamp : Stamp) (before : Option Record) → Began shard past x b.body before → Contains (stamps_of past x) stamp
      → IsCovered new x (share b.body) stamp
  covered_before stamp _ (Known known) among = kept_cover x b.body stamp (stamps.all x b.body stamp known among)
  covered_before stamp _ (Unknown unknown) among =
      let e : x.0 ≡ stamp = only_is x.0 stamp (subst (λ list. Contains list stamp) (untouched layout own messages x unknown).stamps among) in
      covered_told stamp (subst (Contains told) e (first_is_in x.0 _))

  covered_here : (body : BodyParts) (stamp : Stamp) → body_known (step ∷ past) x ≡ Some body → Contains (stamps_of (step ∷ past) x) stamp
      → IsCovered new x (share body) stamp
  covered_here body stamp known among =
      subst (λ z. IsCovered new x (share z) stamp) (some_is b.body body (sym b.known ∙ known))
      (⊎_elim (covered_told stamp) (covered_before stamp before b.began) (told_or_before shard step past b.body stamp among))

  all_by : (y : TxnId) (body : BodyParts) (stamp : Stamp) (same : Bool) → id_eq x y ≡ same → body_known (step ∷ past) y ≡ Some body
      → Contains (stamps_of (step ∷ past) y) stamp → IsCovered new y (share body) stamp
  all_by y body stamp true is known among =
      let e : y ≡ x = sym ((id_order.decides x y).0 is) in
      subst (λ z. IsCovered new z (share body) stamp) (sym e)
      (covered_here body stamp (subst (λ z. body_known (step ∷ past) z ≡ Some body) e known) (subst (λ z. Contains (stamps_of (step ∷ past) z) stamp) e among))
  all_by y body stamp false other known among =
      let s : StaysAt step past y = elsewhere y (apart_from y other) in
      kept_cover y body stamp
      (stamps.all y body stamp (sym s.known ∙ known) (subst (λ list. Contains list stamp) s.stamps among))

  pub index_next : AreStamps layout shard (step ∷ past) new
  index_next = record { only = only; all = λ y body stamp known among. all_by y body stamp (id_eq x y) refl known among }
