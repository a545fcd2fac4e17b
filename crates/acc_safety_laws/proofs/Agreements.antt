-- Agreement of a run: each decision is noted, and goes back to a root.
use Rattle.std.proofs.Common.{◌≡◌, List, Some, Contains, refl, sym, ◌∙◌, subst}
use Rattle.acc_stamp.specs.declared.stamps.Stamp.{Stamp}
use Rattle.acc_stamp.specs.declared.stamps.TxnId.{TxnId}
use Rattle.acc_deps.specs.declared.shards.ShardDeps.{ShardDeps}
use Rattle.acc_txn.specs.declared.parts.BodyParts.{BodyParts}
use Rattle.acc_message.specs.declared.note.Note.TheVariants.{Begin as BeginNote, Decide}
use Rattle.acc_message.specs.declared.item.Item.{Item}
use Rattle.acc_message.specs.declared.item.Item.TheVariants.{Step}
use Rattle.acc_message.specs.Items.{notes_of}
use Rattle.acc_message.specs.Run.{Cluster}
use Rattle.acc_actor_laws.proofs.OpeningFacts.{some_is}
use Rattle.acc_safety.specs.Decisions.{Decision, decisions_of}
use Rattle.acc_safety.specs.Agreement.{Agreement}
use Rattle.acc_safety.specs.Histories.{Noting}
use Rattle.acc_safety.specs.Polls.{IsBody}
use Rattle.acc_safety.specs.Roots.{DecisionRoot}
use Rattle.acc_safety.specs.Valid.{IsStanding}
use Rattle.acc_safety.proofs.PlaceOrder.{StandsAt-IsPast, IsPast-rest}
use Rattle.acc_safety.proofs.Bridge.{Noting-past}
use Rattle.acc_safety.proofs.BegunBefore.{begun_before}
use Rattle.acc_safety_laws.proofs.Noted.{DecisionNoted, decision_noted}
use Rattle.acc_safety_laws.specs.AgreementPremises.{Premises}
use Rattle.acc_safety_laws.proofs.Agreed.{one_timestamp, timestamps_differ}
use Rattle.acc_safety_laws.proofs.BegunIds.{BegunBy, was_begun}

module _ (cluster : Cluster) (items : List Item) (s : IsStanding cluster items) (p : Premises cluster items) where
  -- a decision of a transaction that was begun, with its root
  record Rooted (d : Decision) : Type 0 where
    pub body : BodyParts
    pub is : IsBody cluster items d.id body
    pub root : DecisionRoot cluster items d.id body d.t d.deps

  rooted : (d : Decision) → Contains (decisions_of (notes_of items)) d → Rooted d
  rooted d there =
      let n : DecisionNoted items d = decision_noted items d there in
      let begun : Noting n.noted.earlier (BeginNote d.id) =
      begun_before cluster items n.noted.earlier n.noted.entry (Decide d.id d.t n.path d.deps) s.stands n.noted.at n.noted.noted refl in
      let b : BegunBy cluster items d.id =
      was_begun cluster items d.id s.stands
      (Noting-past n.noted.earlier items (BeginNote d.id)
      (IsPast-rest (Step n.noted.entry) n.noted.earlier items (StandsAt-IsPast (Step n.noted.entry) n.noted.earlier items n.noted.at)) begun) in
      record { body = b.body; is = b.is; root = p.decisions d.id b.body n.path d.t d.deps b.is n.noted }

  same_time : (a b : Decision) → Rooted a → Rooted b → a.id ≡ b.id → a.t ≡ b.t
  same_time a b one two same =
      one_timestamp cluster items s p b.id two.body a.t b.t a.deps b.deps two.is
      (at_id a.id b.id one.body two.body a.t a.deps same one.is two.is one.root) two.root
    where
      at_id : (x y : TxnId) (body other : BodyParts) (t : Stamp) (deps : List ShardDeps) → x ≡ y → IsBody cluster items x body → IsBody cluster items y other
          → DecisionRoot cluster items x body t deps → DecisionRoot cluster items y other t deps
      at_id x y body other t deps e is_x is_y root =
          subst (λ z. DecisionRoot cluster items y z t deps) (bodies_same (sym (subst (λ z. IsBody cluster items z body) e is_x) ∙ is_y))
          (subst (λ z. DecisionRoot cluster items z body t deps) e root)
        where
          bodies_same : Some body ≡ Some other → body ≡ other
          bodies_same g = some_is body other g

  pub agreement : Agreement items
  agreement a b a_is b_is =
      let one = rooted a a_is in
      let two = rooted b b_is in
      record {
        same = same_time a b one two;
        different = λ apart same.
            apart
            (timestamps_differ cluster items s p a.id b.id one.body two.body a.t a.deps b.deps one.is two.is one.root
            (subst (λ z. DecisionRoot cluster items b.id two.body z b.deps) (sym same) two.root));
      }
