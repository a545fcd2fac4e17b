-- The first answers of stores stand for the same stores as all answers.
use Rattle.std.proofs.Common.{◌≡◌, ℕ, Bool, true, false, not, ◌&&◌, ◌||◌, cond, eqb, List, [], ◌∷◌, refl, ◌∙◌, ap}
use Rattle.std.specs.List.{list_any}
use Rattle.std.proofs.lemmas.Bool.{and_parts, and_from, eq-eqb}
use Rattle.std.proofs.lemmas.Bool.Decides.{Decides-eqb}
use Rattle.acc_stamp.specs.declared.stamps.TxnId.{TxnId}
use Rattle.acc_stamp.specs.declared.stamps.Ballot.{Ballot}
use Rattle.acc_stamp.specs.declared.actors.Actor.{Actor}
use Rattle.acc_stamp.specs.Actor.{shard_of}
use Rattle.acc_topology.specs.Layout.{Layout}
use Rattle.acc_txn.specs.declared.parts.BodyParts.{BodyParts}
use Rattle.acc_message.specs.declared.message.Message.{Message}
use Rattle.acc_message.specs.Fields.{from_of}
use Rattle.acc_message.specs.Attempts.{Phase, Voting, Recovering, Accepting, Committing, Executing, same_seat}
use Rattle.acc_safety.proofs.PlaceOrder.{Passing, passing, any_from}
use Rattle.acc_world.specs.Told.{is_answer_to, first_answers}

same_number : (a b c : ℕ) → eqb a b ≡ true → eqb b c ≡ true → eqb a c ≡ true
same_number a b c h k = eq-eqb a c ((Decides-eqb a b).0 h ∙ (Decides-eqb b c).0 k)

one_seat : (phase : Phase) (a b c : Actor) → same_seat phase a b ≡ true → same_seat phase b c ≡ true → same_seat phase a c ≡ true
one_seat Voting a b c h k = same_number a.0 b.0 c.0 h k
one_seat Recovering a b c h k = same_number a.0 b.0 c.0 h k
one_seat (Accepting s) a b c h k = same_number a.0 b.0 c.0 h k
one_seat (Committing s) a b c h k = same_number a.0 b.0 c.0 h k
one_seat (Executing s) a b c h k = same_number (shard_of a) (shard_of b) (shard_of c) h k

module _ (layout : Layout) (x : TxnId) (ballot : Ballot) (body : BodyParts) (phase : Phase) where
  -- some answer among them stands for the actor's store
  abbrev seated : List Message → Actor → Bool
  seated messages s = list_any (λ m. is_answer_to layout x ballot body phase m && same_seat phase (from_of m) s) messages

  -- where a store has an answer, so has another actor of the same seat
  also_seated : (messages : List Message) (a s : Actor) → seated messages a ≡ true → same_seat phase a s ≡ true → seated messages s ≡ true
  also_seated messages a s there same =
      let found : Passing (λ m. is_answer_to layout x ballot body phase m && same_seat phase (from_of m) a) messages =
      passing (λ m. is_answer_to layout x ballot body phase m && same_seat phase (from_of m) a) messages there in
      let parts = and_parts (is_answer_to layout x ballot body phase found.element) (same_seat phase (from_of found.element) a) found.passes in
      any_from (λ m. is_answer_to layout x ballot body phase m && same_seat phase (from_of m) s) found.element messages found.there
      (and_from (is_answer_to layout x ballot body phase found.element) (same_seat phase (from_of found.element) s) parts.0
      (one_seat phase (from_of found.element) a s parts.1 same))

  pub same_seats : (messages : List Message) (s : Actor)
      → list_any (λ m. same_seat phase (from_of m) s) (first_answers layout x ballot body phase messages) ≡ seated messages s
  same_seats [] s = refl
  same_seats (m ∷ earlier) s =
      by (is_answer_to layout x ballot body phase m) (seated earlier (from_of m)) refl (same_seats earlier s)
    where
      by : (answers taken : Bool) → seated earlier (from_of m) ≡ taken
          → list_any (λ n. same_seat phase (from_of n) s) (first_answers layout x ballot body phase earlier) ≡ seated earlier s
          → list_any (λ n. same_seat phase (from_of n) s)
          (cond (answers && not taken) (m ∷ first_answers layout x ballot body phase earlier) (first_answers layout x ballot body phase earlier))
          ≡ ((answers && same_seat phase (from_of m) s) || seated earlier s)
      by false taken is rest = rest
      by true false is rest = ap (λ b. same_seat phase (from_of m) s || b) rest
      by true true is rest = rest ∙ with_seat (same_seat phase (from_of m) s) refl
        where
          with_seat : (same : Bool) → same_seat phase (from_of m) s ≡ same → seated earlier s ≡ (same || seated earlier s)
          with_seat false h = refl
          with_seat true h = also_seated earlier (from_of m) s is h
