-- What an attempt asked for last, and which answers it has, by induction over what its node did.
use Rattle.std.proofs.Common.{◌≡◌, ℕ, ◌<◌, Bool, true, false, not, ◌&&◌, cond, List, [], ◌∷◌, ◌++◌, length, Option, None, Some, refl, sym, ◌∙◌, ap, subst}
use Rattle.std.specs.List.{list_any}
use Rattle.acc_base.specs.Faults.{or_else}
use Rattle.acc_stamp.specs.declared.stamps.TxnId.{TxnId}
use Rattle.acc_stamp.specs.declared.stamps.Ballot.{Ballot}
use Rattle.acc_stamp.specs.Actor.{actor_of}
use Rattle.acc_stamp.specs.Stamp.{id_eq, ballot_eq, zero_ballot}
use Rattle.acc_stamp.proofs.Order.{id_order}
use Rattle.acc_topology.specs.Layout.{Layout}
use Rattle.acc_txn.specs.declared.parts.BodyParts.{BodyParts}
use Rattle.acc_message.specs.declared.message.Message.{Message}
use Rattle.acc_message.specs.declared.message.Message.TheVariants.{PreAccept, PreAcceptOk, Accept, AcceptOk, Commit, CommitOk, Stable, ReadOk, Apply, Recover, RecoverOk, Nack, Decided, Inform}
use Rattle.acc_message.specs.declared.entry.Emitted.{Emitted}
use Rattle.acc_message.specs.Fields.{from_of, id_of, ballot_of, is_about}
use Rattle.acc_message.specs.Shares.{stores_used, is_store_of}
use Rattle.acc_message.specs.Attempts.{Attempt, Phase, Voting, Recovering, fits, same_seat, counts}
use Rattle.acc_message.specs.Coordinator.{Reaction, in_phase, begun, recovering, reaction, slow_reaction}
use Rattle.acc_message.specs.NodeRules.{Act, Begins, Recovers, Slows, Takes, Restarts, Deed, next_id, next_ballot, next_by, where_about, attempt_after, attempt_of, emitted_by, on_taking, node_emits}
use Rattle.acc_safety.specs.Histories.{EachEmits}
use Rattle.acc_safety.specs.Attempted.{OnAttempt}
use Rattle.acc_safety.proofs.Attempted.{doing, on_attempt}
use Rattle.acc_world.specs.Told.{asked_in, last_asked, taken_in, taken_unless, taken_since, is_answer_to, has_answer_of, first_answers}
use Rattle.acc_world.proofs.Seats.{same_seats}
use Rattle.acc_world.proofs.Asked.{asked_all, asked_none}
use Rattle.acc_world.proofs.Goings.{Goes, Stays, Turns, IsOver, counting, reacts, inform_stays, slows, reaction_none, slow_none}

-- the attempt is the one that the steps tell
record Told (layout : Layout) (x : TxnId) (deeds : List Deed) (a : Attempt) : Type 0 where
  last : last_asked x deeds ≡ Some a.phase
  answers : a.answers ≡ first_answers layout x a.ballot a.body a.phase (taken_since x deeds)

-- as long as the transaction has a store
abbrev Tells : Layout → TxnId → List Deed → Attempt → Type 0
Tells layout x deeds a = 0 < length (stores_used layout a.body) → Told layout x deeds a

-- ---- which message counts

regroup : (ballot fit rest : Bool) → (ballot && (fit && rest)) ≡ ((ballot && fit) && rest)
regroup true fit rest = refl
regroup false fit rest = refl

-- a message that isn't about x
not_counted : (layout : Layout) (x : TxnId) (ballot : Ballot) (body : BodyParts) (phase : Phase) (m : Message) (earlier : List Message)
    → is_about x m ≡ false → first_answers layout x ballot body phase (m ∷ earlier) ≡ first_answers layout x ballot body phase earlier
not_counted layout x ballot body phase m earlier apart =
    ap (λ b. cond ((b && (ballot_eq (ballot_of m) ballot && (fits phase m && is_store_of layout body (from_of m)))) && not (has_answer_of layout x ballot body phase earlier m))
    (m ∷ first_answers layout x ballot body phase earlier) (first_answers layout x ballot body phase earlier)) apart

-- one that is about x counts for the attempt just where it is a first answer
counted_is_first : (layout : Layout) (x : TxnId) (a : Attempt) (m : Message) (earlier : List Message) → is_about x m ≡ true
    → a.answers ≡ first_answers layout x a.ballot a.body a.phase earlier
    → (counting a m (ballot_eq (ballot_of m) a.ballot && counts layout a m)).answers
    ≡ first_answers layout x a.ballot a.body a.phase (m ∷ earlier)
counted_is_first layout x a m earlier about answers =
    ap (λ test. cond test (m ∷ a.answers) a.answers) same_test
    ∙ ap (λ (others : List Message). cond (is_answer_to layout x a.ballot a.body a.phase m && not (has_answer_of layout x a.ballot a.body a.phase earlier m)) (m ∷ others) others) answers
  where
    same_test : (ballot_eq (ballot_of m) a.ballot && counts layout a m)
        ≡ (is_answer_to layout x a.ballot a.body a.phase m && not (has_answer_of layout x a.ballot a.body a.phase earlier m))
    same_test =
        ap (λ (others : List Message). ballot_eq (ballot_of m) a.ballot && ((fits a.phase m && is_store_of layout a.body (from_of m))
        && not (list_any (λ other. same_seat a.phase (from_of other) (from_of m)) others))) answers
        ∙ ap (λ b. ballot_eq (ballot_of m) a.ballot && ((fits a.phase m && is_store_of layout a.body (from_of m)) && not b))
        (same_seats layout x a.ballot a.body a.phase earlier (from_of m))
        ∙ regroup (ballot_eq (ballot_of m) a.ballot) (fits a.phase m && is_store_of layout a.body (from_of m)) (not (has_answer_of layout x a.ballot a.body a.phase earlier m))
        ∙ ap (λ b. (b && (ballot_eq (ballot_of m) a.ballot && (fits a.phase m && is_store_of layout a.body (from_of m)))) && not (has_answer_of layout x a.ballot a.body a.phase earlier m))
        (sym about)

module _ (layout : Layout) (node start : ℕ) (x : TxnId) (past : List Deed) where
  -- ---- one step more

  -- that doesn't concern x
  passes : (act : Act) (emitted : Emitted) → asked_in x emitted.out ≡ None
      → ((ballot : Ballot) (body : BodyParts) (phase : Phase) → first_answers layout x ballot body phase (taken_in act ++ taken_since x past)
      ≡ first_answers layout x ballot body phase (taken_since x past))
      → (o : Option Attempt) → OnAttempt (Tells layout x past) o → OnAttempt (Tells layout x (doing act emitted ∷ past)) o
  passes act emitted none same None tells = tt
  passes act emitted none same (Some a) tells = λ some.
      let before : Told layout x past a = tells some in
      record {
        last = ap (λ o. or_else o (last_asked x past)) none ∙ before.last;
        answers = before.answers ∙ sym (same a.ballot a.body a.phase)
            ∙ ap (λ o. first_answers layout x a.ballot a.body a.phase (taken_unless o act (taken_since x past))) (sym none);
      }

  -- that asks for the phase of the attempt, which has no answers then
  asks : (act : Act) (emitted : Emitted) (a : Attempt) → a.answers ≡ []
      → (0 < length (stores_used layout a.body) → asked_in x emitted.out ≡ Some a.phase) → Tells layout x (doing act emitted ∷ past) a
  asks act emitted a none asked = λ some.
      record {
        last = ap (λ o. or_else o (last_asked x past)) (asked some);
        answers = none ∙ ap (λ o. first_answers layout x a.ballot a.body a.phase (taken_unless o act (taken_since x past))) (sym (asked some));
      }

  -- to which the attempt reacts
  goes : (act : Act) (emitted : Emitted) (a : Attempt) (r : Reaction) → asked_in x emitted.out ≡ asked_in x r.emitted.out
      → (0 < length (stores_used layout a.body) → (last_asked x past ≡ Some a.phase)
      × (a.answers ≡ first_answers layout x a.ballot a.body a.phase (taken_in act ++ taken_since x past)))
      → Goes layout x a r → OnAttempt (Tells layout x (doing act emitted ∷ past)) r.next
  goes act emitted a r out before (Stays is) =
      subst (λ (s : Reaction). OnAttempt (Tells layout x (doing act emitted ∷ past)) s.next) (sym is) (λ some. told some)
    where
      none : asked_in x emitted.out ≡ None
      none = out ∙ ap (λ (s : Reaction). asked_in x s.emitted.out) is

      told : 0 < length (stores_used layout a.body) → Told layout x (doing act emitted ∷ past) a
      told some =
          record {
            last = ap (λ o. or_else o (last_asked x past)) none ∙ (before some).0;
            answers = (before some).1
                ∙ ap (λ o. first_answers layout x a.ballot a.body a.phase (taken_unless o act (taken_since x past))) (sym none);
          }
  goes act emitted a r out before (Turns phase next asked) =
      subst (OnAttempt (Tells layout x (doing act emitted ∷ past))) (sym next)
      (asks act emitted (in_phase a phase) refl (λ some. out ∙ asked some))
  goes act emitted a r out before (IsOver next) = subst (OnAttempt (Tells layout x (doing act emitted ∷ past))) (sym next) tt

  -- ---- a slow event

  slowed : (y : TxnId) (emitted : Emitted) (o : Option Attempt) → asked_in x emitted.out ≡ asked_in x (emitted_by (slow_reaction layout (actor_of node 0) x) o).out
      → OnAttempt (Tells layout x past) o
      → OnAttempt (Tells layout x (doing (Slows y) emitted ∷ past)) (next_by (slow_reaction layout (actor_of node 0) x) o)
  slowed y emitted None out tells = tt
  slowed y emitted (Some a) out tells =
      goes (Slows y) emitted a (slow_reaction layout (actor_of node 0) x a) out
      (λ some. ((tells some).last, (tells some).answers)) (slows layout (actor_of node 0) x a)

  slow_is_none : (y : TxnId) → id_eq y x ≡ false → (o : Option Attempt) → asked_in x (emitted_by (slow_reaction layout (actor_of node 0) y) o).out ≡ None
  slow_is_none y apart None = refl
  slow_is_none y apart (Some a) = slow_none layout (actor_of node 0) y x apart a

  -- ---- a message

  heard : (emitted : Emitted) (m : Message) (o : Option Attempt) → is_about x m ≡ true
      → asked_in x emitted.out ≡ asked_in x (emitted_by (λ a. reaction layout (actor_of node 0) x a m) o).out
      → OnAttempt (Tells layout x past) o
      → OnAttempt (Tells layout x (doing (Takes m) emitted ∷ past)) (next_by (λ a. reaction layout (actor_of node 0) x a m) o)
  heard emitted m None about out tells = tt
  heard emitted m (Some a) about out tells =
      goes (Takes m) emitted (counting a m (ballot_eq (ballot_of m) a.ballot && counts layout a m))
      (reaction layout (actor_of node 0) x a m) out
      (λ some. ((tells some).last, counted_is_first layout x a m (taken_since x past) about (tells some).answers))
      (reacts layout (actor_of node 0) x a m)

  heard_is_none : (y : TxnId) (m : Message) → id_eq y x ≡ false → (o : Option Attempt)
      → asked_in x (emitted_by (λ a. reaction layout (actor_of node 0) y a m) o).out ≡ None
  heard_is_none y m apart None = refl
  heard_is_none y m apart (Some a) = reaction_none layout (actor_of node 0) y x apart a m

  -- an outcome that is told is none for an attempt; every other message is
  taking_same : (m : Message)
      → asked_in x (on_taking layout node start past m).out
      ≡ asked_in x (emitted_by (λ a. reaction layout (actor_of node 0) (id_of m) a m) (attempt_of layout node start (id_of m) past)).out
  taking_same (Inform from to id ballot outcome) = by (attempt_of layout node start id past)
    where
      by : (o : Option Attempt) → None ≡ asked_in x (emitted_by (λ a. reaction layout (actor_of node 0) id a (Inform from to id ballot outcome)) o).out
      by None = refl
      by (Some a) =
          sym (ap (λ (r : Reaction). asked_in x r.emitted.out) (inform_stays layout (actor_of node 0) id a from to id ballot outcome))
  taking_same (PreAccept from to id ballot body) = refl
  taking_same (PreAcceptOk from to id ballot vote deps) = refl
  taking_same (Accept from to id ballot body t deps) = refl
  taking_same (AcceptOk from to id ballot deps) = refl
  taking_same (Commit from to id ballot body t deps) = refl
  taking_same (CommitOk from to id ballot) = refl
  taking_same (Stable from to id ballot body t deps) = refl
  taking_same (ReadOk from to id ballot answer) = refl
  taking_same (Apply from to id ballot body t deps outcome) = refl
  taking_same (Recover from to id ballot body) = refl
  taking_same (RecoverOk from to id ballot view) = refl
  taking_same (Nack from to id ballot promised) = refl
  taking_same (Decided from to id ballot t deps) = refl

  -- ---- every step

  step : (act : Act) (emitted : Emitted) → emitted ≡ node_emits layout node start past act
      → OnAttempt (Tells layout x past) (attempt_of layout node start x past)
      → OnAttempt (Tells layout x (doing act emitted ∷ past)) (attempt_after layout node start x past (attempt_of layout node start x past) act)
  step (Begins txn body) emitted is tells = by (id_eq (next_id node start past) x) refl
    where
      by : (b : Bool) → id_eq (next_id node start past) x ≡ b
          → OnAttempt (Tells layout x (doing (Begins txn body) emitted ∷ past)) (cond b (Some (begun body)) (attempt_of layout node start x past))
      by true same =
          asks (Begins txn body) emitted (begun body) refl
          (λ some. ap (λ (e : Emitted). asked_in x e.out) is
          ∙ asked_all x (λ store. PreAccept (actor_of node 0) store (next_id node start past) zero_ballot body) Voting (λ store. same) (λ store. refl)
          (stores_used layout body) some)
      by false apart =
          passes (Begins txn body) emitted
          (ap (λ (e : Emitted). asked_in x e.out) is
          ∙ asked_none x (λ store. PreAccept (actor_of node 0) store (next_id node start past) zero_ballot body) (λ store. apart) (stores_used layout body))
          (λ ballot its_body phase. refl) (attempt_of layout node start x past) tells
  step (Recovers y body) emitted is tells = by (id_eq y x) refl
    where
      by : (b : Bool) → id_eq y x ≡ b
          → OnAttempt (Tells layout x (doing (Recovers y body) emitted ∷ past))
          (cond b (Some (recovering (next_ballot node start past) body)) (attempt_of layout node start x past))
      by true same =
          asks (Recovers y body) emitted (recovering (next_ballot node start past) body) refl
          (λ some. ap (λ (e : Emitted). asked_in x e.out) is
          ∙ asked_all x (λ store. Recover (actor_of node 0) store y (next_ballot node start past) body) Recovering (λ store. same) (λ store. refl)
          (stores_used layout body) some)
      by false apart =
          passes (Recovers y body) emitted
          (ap (λ (e : Emitted). asked_in x e.out) is
          ∙ asked_none x (λ store. Recover (actor_of node 0) store y (next_ballot node start past) body) (λ store. apart) (stores_used layout body))
          (λ ballot its_body phase. refl) (attempt_of layout node start x past) tells
  step (Slows y) emitted is tells = by (id_eq y x) refl
    where
      by : (b : Bool) → id_eq y x ≡ b
          → OnAttempt (Tells layout x (doing (Slows y) emitted ∷ past))
          (where_about b (next_by (slow_reaction layout (actor_of node 0) x)) (attempt_of layout node start x past))
      by true same =
          slowed y emitted (attempt_of layout node start x past)
          (ap (λ (e : Emitted). asked_in x e.out) is
          ∙ ap (λ z. asked_in x (emitted_by (slow_reaction layout (actor_of node 0) z) (attempt_of layout node start z past)).out)
          ((id_order.decides y x).0 same)) tells
      by false apart =
          passes (Slows y) emitted
          (ap (λ (e : Emitted). asked_in x e.out) is ∙ slow_is_none y apart (attempt_of layout node start y past))
          (λ ballot its_body phase. refl) (attempt_of layout node start x past) tells
  step (Takes m) emitted is tells = by (id_eq (id_of m) x) refl
    where
      by : (b : Bool) → id_eq (id_of m) x ≡ b
          → OnAttempt (Tells layout x (doing (Takes m) emitted ∷ past))
          (where_about b (next_by (λ a. reaction layout (actor_of node 0) x a m)) (attempt_of layout node start x past))
      by true same =
          heard emitted m (attempt_of layout node start x past) same
          (ap (λ (e : Emitted). asked_in x e.out) is ∙ taking_same m
          ∙ ap (λ z. asked_in x (emitted_by (λ a. reaction layout (actor_of node 0) z a m) (attempt_of layout node start z past)).out)
          ((id_order.decides (id_of m) x).0 same)) tells
      by false apart =
          passes (Takes m) emitted
          (ap (λ (e : Emitted). asked_in x e.out) is ∙ taking_same m
          ∙ heard_is_none (id_of m) m apart (attempt_of layout node start (id_of m) past))
          (λ ballot its_body phase. not_counted layout x ballot its_body phase m (taken_since x past) apart)
          (attempt_of layout node start x past) tells
  step Restarts emitted is tells = tt

module _ (layout : Layout) (node start : ℕ) (x : TxnId) where
  each : (deeds : List Deed) → EachEmits layout node start deeds → OnAttempt (Tells layout x deeds) (attempt_of layout node start x deeds)
  each [] h = tt
  each (deed ∷ past) h = step layout node start x past deed.act deed.emitted h.0 (each past h.1)

  told : (deeds : List Deed) (a : Attempt) → EachEmits layout node start deeds → attempt_of layout node start x deeds ≡ Some a
      → 0 < length (stores_used layout a.body) → Told layout x deeds a
  told deeds a h is some = on_attempt (Tells layout x deeds) (attempt_of layout node start x deeds) a is (each deeds h) some

  pub asked_last : (deeds : List Deed) (a : Attempt) → EachEmits layout node start deeds → attempt_of layout node start x deeds ≡ Some a
      → 0 < length (stores_used layout a.body) → last_asked x deeds ≡ Some a.phase
  asked_last deeds a h is some = (told deeds a h is some).last

  pub first_since : (deeds : List Deed) (a : Attempt) → EachEmits layout node start deeds → attempt_of layout node start x deeds ≡ Some a
      → 0 < length (stores_used layout a.body) → a.answers ≡ first_answers layout x a.ballot a.body a.phase (taken_since x deeds)
  first_since deeds a h is some = (told deeds a h is some).answers
