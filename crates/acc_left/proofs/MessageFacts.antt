-- What journals of nodes tell of a message, by the table of their draws.
use Rattle.std.proofs.Common.{◌≡◌, ℕ, Bool, true, false, cond, ◌&&◌, ◌||◌, not, List, [], ◌∷◌, Contains, Option, None, Some, refl, sym, ap, subst, ◌∙◌, ◌⊎◌, inl, inr, ⊎_elim}
use Rattle.std.specs.Prelude.{◌↔◌, ◌==◌, nat_le, slice_get, option_and_then, is_some}
use Rattle.std.specs.List.{list_all}
use Rattle.std.proofs.lemmas.Bool.{true≢false, and_parts, eq-eqb, eqb-true}
use Rattle.std.proofs.lemmas.Option.{none-some, same_Some}
use Rattle.acc_stamp.specs.declared.actors.Actor.{Actor}
use Rattle.acc_stamp.specs.declared.stamps.Ballot.{Ballot}
use Rattle.acc_stamp.specs.declared.stamps.TxnId.{TxnId}
use Rattle.acc_stamp.specs.Actor.{actor_eq, home_of}
use Rattle.acc_stamp.specs.Stamp.{ballot_eq, zero_ballot}
use Rattle.acc_deps.specs.declared.shards.ShardDeps.{ShardDeps}
use Rattle.acc_txn.specs.declared.parts.BodyParts.{BodyParts}
use Rattle.acc_message.specs.declared.message.Message.{Message}
use Rattle.acc_message.specs.Fields.{ballot_of, from_of, id_of, top_of}
use Rattle.acc_message.specs.Shares.{is_store_of}
use Rattle.acc_message.specs.Taken.{body_in}
use Rattle.acc_payloads.specs.declared.draw.Draw.{Draw}
use Rattle.acc_payloads.specs.declared.draw.Purpose.{Purpose}
use Rattle.acc_payloads.specs.declared.draw.Purpose.TheVariants.{Begin, Recover}
use Rattle.acc_payloads.specs.declared.store.StorePayload.{StorePayload}
use Rattle.acc_payloads.specs.declared.store.StorePayload.TheVariants.{Mark, Takes}
use Rattle.acc_payloads.specs.Node.{is_begin}
use Rattle.acc_payloads.specs.Store.{FitsStore, has_mark, store_may}
use Rattle.acc_schedule.specs.Content.{Content}
use Rattle.acc_left.specs.declared.image.Image.{Image}
use Rattle.acc_left.specs.Rules.{AreBegun, Begins, IsMessageOf, IsTakenOf, Recovers, StoreMayLeave, deps_brought, greatest_height}
use Rattle.acc_left.specs.Told.{Draws, TellDraws, are_begun, begun_with, comes_of, draw_at, is_from_attempt, number_begun, recovers_with}
use Rattle.acc_left.proofs.TableFacts.{at_head, behind_head, head_or_behind, no_element}

begins_by : (p : Purpose) → is_begin p ≡ true → p ≡ Begin
begins_by Begin e = refl
begins_by Recover e = absurd cc

recovers_by : (p : Purpose) → is_begin p ≡ false → p ≡ Recover
recovers_by Begin e = absurd cc
recovers_by Recover e = refl

both_true : (a b : Bool) → a ≡ true → b ≡ true → (a && b) ≡ true
both_true a b x y = ap (λ (t : Bool). t && b) x ∙ y

-- a test whose second part is made only where the first holds
pub then_and : (a b r : Bool) → a ≡ true → r ≡ b → r ≡ (a && b)
then_and a b r is same = same ∙ sym (ap (λ (x : Bool). x && b) is)

pub else_and : (a b r : Bool) → a ≡ false → r ≡ a → r ≡ (a && b)
else_and a b r is same = same ∙ is ∙ sym (ap (λ (x : Bool). x && b) is)

-- ---- tests of all elements

all_true : {A : Type 0} (p : A → Bool) (xs : List A) (y : A) → list_all p xs ≡ true → Contains xs y → p y ≡ true
all_true p [] y all there = absurd (no_element y there)
all_true p (x ∷ xs) y all there =
    let parts = and_parts (p x) (list_all p xs) all in
    ⊎_elim (λ same. ap p (sym same) ∙ parts.0) (λ rest. all_true p xs y parts.1 rest) (head_or_behind x xs y there)

all_from : {A : Type 0} (p : A → Bool) (xs : List A) → ((y : A) → Contains xs y → p y ≡ true) → list_all p xs ≡ true
all_from p [] each = refl
all_from p (x ∷ xs) each = both_true (p x) (list_all p xs) (each x (at_head x xs)) (all_from p xs (λ y there. each y (behind_head x xs y there)))

-- ---- what is begun and recovered

module _ (plan : Content) (draws : Draws) (images : List Image) (tells : TellDraws plan draws images) where
  begun_by : (id : TxnId) (txn : ℕ) (o : Option Draw) → draw_at draws id.0 ≡ o → option_and_then begun_with o ≡ Some txn → Begins plan images id txn
  begun_by id txn None found e = absurd cc
  begun_by id txn (Some d) found e = by (is_begin d.purpose) refl e
    where
      by : (b : Bool) → is_begin d.purpose ≡ b → cond b (Some d.txn) None ≡ Some txn → Begins plan images id txn
      by true is h = record { draw = d; drawn = (tells id.0 d).0 found; begins = begins_by d.purpose is; number = same_Some d.txn txn h }
      by false is h = absurd cc

  pub begins_is : (id : TxnId) (txn : ℕ) → (number_begun draws id ≡ Some txn) ↔ Begins plan images id txn
  begins_is id txn = (
    λ e. begun_by id txn (draw_at draws id.0) refl e,
    λ b.
        ap (option_and_then begun_with) ((tells id.0 b.draw).1 b.drawn) ∙ ap (λ (p : Purpose). cond (is_begin p) (Some b.draw.txn) None) b.begins ∙ ap Some b.number,
  )

  recovered_by : (ballot : Ballot) (txn : ℕ) (o : Option Draw) → draw_at draws ballot.0 ≡ o → recovers_with txn o ≡ true → Recovers plan images ballot txn
  recovered_by ballot txn None found e = absurd cc
  recovered_by ballot txn (Some d) found e =
      let parts = and_parts (not (is_begin d.purpose)) (d.txn == txn) e in
      record { draw = d; drawn = (tells ballot.0 d).0 found; recovers = recovers_by d.purpose (not_begin (is_begin d.purpose) parts.0); number = eqb-true d.txn txn parts.1 }
    where
      not_begin : (b : Bool) → not b ≡ true → b ≡ false
      not_begin true h = absurd cc
      not_begin false h = refl

  recovers_is : (ballot : Ballot) (txn : ℕ) → (recovers_with txn (draw_at draws ballot.0) ≡ true) ↔ Recovers plan images ballot txn
  recovers_is ballot txn = (
    λ e. recovered_by ballot txn (draw_at draws ballot.0) refl e,
    λ r.
        ap (recovers_with txn) ((tells ballot.0 r.draw).1 r.drawn)
        ∙ both_true (not (is_begin r.draw.purpose)) (r.draw.txn == txn) (ap (λ (p : Purpose). not (is_begin p)) r.recovers) (eq-eqb r.draw.txn txn r.number),
  )

  some_begun : (id : TxnId) (o : Option ℕ) → number_begun draws id ≡ o → is_some o ≡ true → (number : ℕ) × Begins plan images id number
  some_begun id None found e = absurd cc
  some_begun id (Some number) found e = (number, (begins_is id number).0 found)

  are_begun_is : (deps : List ShardDeps) → (are_begun draws deps ≡ true) ↔ AreBegun plan images deps
  are_begun_is deps = (
    λ all shard x there within.
        some_begun x (number_begun draws x) refl
        (all_true (λ (id : TxnId). is_some (number_begun draws id)) shard.ids x
        (all_true (λ (d : ShardDeps). list_all (λ (id : TxnId). is_some (number_begun draws id)) d.ids) deps shard all there) within),
    λ begun.
        all_from (λ (d : ShardDeps). list_all (λ (id : TxnId). is_some (number_begun draws id)) d.ids) deps
        (λ shard there.
        all_from (λ (id : TxnId). is_some (number_begun draws id)) shard.ids
        (λ x within. let b = begun shard x there within in ap is_some ((begins_is x b.0).1 b.1))),
  )

  -- ---- messages

  same_actor : (a b : Actor) → actor_eq a b ≡ true → a ≡ b
  same_actor a b e = let number : a.0 ≡ b.0 = eqb-true a.0 b.0 e in λ k. record { 0 = number k }

  zero_is : (b : Ballot) → ballot_eq b zero_ballot ≡ true → b ≡ zero_ballot
  zero_is b e =
      let parts = and_parts (b.0.h == 0) (b.0.origin == 0) e in
      let h : b.0.h ≡ 0 = eqb-true b.0.h 0 parts.0 in
      let origin : b.0.origin ≡ 0 = eqb-true b.0.origin 0 parts.1 in
      λ k. record { 0 = record { h = h k; origin = origin k } }

  either_true : (a b : Bool) → (a || b) ≡ true → (a ≡ true) ⊎ (b ≡ true)
  either_true true b e = inl refl
  either_true false b e = inr e

  or_right : (a b : Bool) → b ≡ true → (a || b) ≡ true
  or_right true b e = refl
  or_right false b e = e

  module _ (own : Actor) (m : Message) (txn : ℕ) (body : BodyParts) where
    comes : comes_of plan draws own m txn body ≡ true → number_begun draws (id_of m) ≡ Some txn → slice_get plan.bodies txn ≡ Some body → body_in m ≡ Some body
        → IsMessageOf plan images own m
    comes e begun planned brings =
        let first = and_parts _ (nat_le (top_of m) greatest_height) e in
        let second = and_parts _ (are_begun draws (deps_brought m)) first.0 in
        let third = and_parts (is_store_of plan.topology body own) (is_from_attempt draws m txn) second.0 in
        let fourth = and_parts (actor_eq (from_of m) (home_of (id_of m) (ballot_of m))) (ballot_eq (ballot_of m) zero_ballot || recovers_with txn (draw_at draws (ballot_of m).0)) third.1 in
        record {
          txn = txn;
          begun = (begins_is (id_of m) txn).0 begun;
          body = body;
          planned = planned;
          brings = brings;
          store = third.0;
          sender = same_actor (from_of m) (home_of (id_of m) (ballot_of m)) fourth.0;
          ballot =
              ⊎_elim (λ zero. inl (zero_is (ballot_of m) zero)) (λ drawn. inr ((recovers_is (ballot_of m) txn).0 drawn))
              (either_true (ballot_eq (ballot_of m) zero_ballot) (recovers_with txn (draw_at draws (ballot_of m).0)) fourth.1);
          deps = (are_begun_is (deps_brought m)).0 second.1;
          height = first.1;
        }

    came : IsMessageOf plan images own m → number_begun draws (id_of m) ≡ Some txn → slice_get plan.bodies txn ≡ Some body
        → (body_in m ≡ Some body) × (comes_of plan draws own m txn body ≡ true)
    came of begun planned =
        let same : of.txn ≡ txn = same_Some of.txn txn (sym ((begins_is (id_of m) of.txn).1 of.begun) ∙ begun) in
        let one : of.body ≡ body = same_Some of.body body (sym of.planned ∙ ap (slice_get plan.bodies) same ∙ planned) in
        let store : is_store_of plan.topology body own ≡ true = ap (λ (b : BodyParts). is_store_of plan.topology b own) (sym one) ∙ of.store in
        let sender : actor_eq (from_of m) (home_of (id_of m) (ballot_of m)) ≡ true = eq-eqb (from_of m).0 (home_of (id_of m) (ballot_of m)).0 (ap (λ (a : Actor). a.0) of.sender) in
        let drawn : (ballot_eq (ballot_of m) zero_ballot || recovers_with txn (draw_at draws (ballot_of m).0)) ≡ true =
        ⊎_elim
        (λ zero. ap (λ (b : Ballot). ballot_eq b zero_ballot || recovers_with txn (draw_at draws b.0)) zero)
        (λ recovers.
        or_right (ballot_eq (ballot_of m) zero_ballot) (recovers_with txn (draw_at draws (ballot_of m).0))
        ((recovers_is (ballot_of m) txn).1 (subst (λ (n : ℕ). Recovers plan images (ballot_of m) n) same recovers))) of.ballot in (
          of.brings ∙ ap Some one,
          both_true _ _
              (both_true _ _ (both_true _ _ store (both_true _ _ sender drawn)) ((are_begun_is (deps_brought m)).1 of.deps))
              of.height,
        )

    -- a test of the body, and a test of the rest
    pub message_tested : (first rest : Bool) → number_begun draws (id_of m) ≡ Some txn → slice_get plan.bodies txn ≡ Some body → (first ≡ true) ↔ (body_in m ≡ Some body)
        → rest ≡ comes_of plan draws own m txn body → ((first && rest) ≡ true) ↔ IsMessageOf plan images own m
    message_tested first rest begun planned brings is = (
      λ e. let parts = and_parts first rest e in comes (sym is ∙ parts.1) begun planned (brings.0 parts.0),
      λ of. let all = came of begun planned in both_true first rest (brings.1 all.0) (is ∙ all.1),
    )

  pub message_not_begun : (own : Actor) (m : Message) → number_begun draws (id_of m) ≡ None → (false ≡ true) ↔ IsMessageOf plan images own m
  message_not_begun own m none = (λ e. absurd cc, λ of. absurd (none-some of.txn (sym none ∙ (begins_is (id_of m) of.txn).1 of.begun)))

  pub message_not_planned : (own : Actor) (m : Message) (txn : ℕ) → number_begun draws (id_of m) ≡ Some txn → slice_get plan.bodies txn ≡ None → (false ≡ true) ↔ IsMessageOf plan images own m
  message_not_planned own m txn begun none = (
    λ e. absurd cc,
    λ of.
        let same : of.txn ≡ txn = same_Some of.txn txn (sym ((begins_is (id_of m) of.txn).1 of.begun) ∙ begun) in
        absurd (none-some of.body (sym none ∙ ap (slice_get plan.bodies) (sym same) ∙ of.planned)),
  )

-- ---- payloads

module _ (plan : Content) (images : List Image) (own : Actor) (before : List StorePayload) (p : StorePayload) (marked : Bool) (known : has_mark before ≡ marked) (fits : FitsStore p) where
  may : Bool → Type 0
  may b = store_may plan.version own b p ≡ true

  pub payload_refused : store_may plan.version own marked p ≡ false → (false ≡ true) ↔ StoreMayLeave plan images own before p
  payload_refused refused = (
    λ e. absurd cc,
    λ leaves. absurd (true≢false (sym leaves.1 ∙ ap (λ (b : Bool). store_may plan.version own b p) known ∙ refused)),
  )

  pub payload_tested : (result : Bool) → store_may plan.version own marked p ≡ true → (result ≡ true) ↔ IsTakenOf plan images own p → (result ≡ true) ↔ StoreMayLeave plan images own before p
  payload_tested result allowed tested = (
    λ e. (fits, ap (λ (b : Bool). store_may plan.version own b p) known ∙ allowed, tested.0 e),
    λ leaves. tested.1 leaves.2,
  )

pub mark_taken : (plan : Content) (images : List Image) (own : Actor) (p : StorePayload) → p ≡ Mark → (true ≡ true) ↔ IsTakenOf plan images own p
mark_taken plan images own p is = (λ e. subst (IsTakenOf plan images own) (sym is) tt, λ taken. refl)

pub message_taken : (plan : Content) (images : List Image) (own : Actor) (p : StorePayload) (m : Message) (result : Bool) → p ≡ Takes m → (result ≡ true) ↔ IsMessageOf plan images own m
    → (result ≡ true) ↔ IsTakenOf plan images own p
message_taken plan images own p m result is tested = (
  λ e. subst (IsTakenOf plan images own) (sym is) (tested.0 e),
  λ taken. tested.1 (subst (IsTakenOf plan images own) is taken),
)
