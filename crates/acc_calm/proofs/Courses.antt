-- The course of the one attempt at a transaction in a calm run: it has heard every message that it took, waits only for answers
-- that aren't enough so far, and ends only with the outcome.
use Rattle.std.proofs.Common.{◌≡◌, ℕ, suc, ◌≤◌, Bool, true, false, cond, List, [], ◌∷◌, Option, None, Some, refl, sym, ◌∙◌, ap, subst, arith, ◌⊎◌, inl, inr, ⊎_elim}
use Rattle.std.proofs.lemmas.Bool.{true≢false, or_left, or_right, eq-eqb}
use Rattle.acc_stamp.specs.declared.stamps.TxnId.{TxnId}
use Rattle.acc_stamp.specs.declared.actors.Actor.{Actor}
use Rattle.acc_stamp.specs.Actor.{actor_of, node_of, shard_of, home_of}
use Rattle.acc_stamp.specs.Stamp.{id_eq, zero_ballot}
use Rattle.acc_stamp.proofs.Order.{id_order}
use Rattle.acc_deps.specs.declared.records.Settled.{Settled}
use Rattle.acc_txn.specs.declared.parts.BodyParts.{BodyParts}
use Rattle.acc_txn.specs.declared.outcome.Outcome.{Outcome}
use Rattle.acc_message.specs.declared.message.Message.{Message}
use Rattle.acc_message.specs.declared.message.Message.TheVariants.{PreAcceptOk, AcceptOk, CommitOk, ReadOk, Nack, Decided}
use Rattle.acc_message.specs.declared.item.Item.{Item}
use Rattle.acc_message.specs.declared.item.Item.TheVariants.{Step}
use Rattle.acc_message.specs.Fields.{from_of, id_of}
use Rattle.acc_message.specs.Attempts.{Attempt, Phase, Voting, Recovering, Accepting, Committing, Executing, fits, same_seat}
use Rattle.acc_message.specs.Coordinator.{Reaction, begun, in_phase, with_answer, is_decided, finish, reaction}
use Rattle.acc_message.specs.NodeRules.{Act, Begins, Recovers, Slows, Takes, Restarts, Deed, next_id, next_by, where_about, attempt_after, attempt_of}
use Rattle.acc_message.specs.Run.{Cluster, clock_start, deeds_of, EachStands}
use Rattle.acc_actor_laws.proofs.Standing.{not_none}
use Rattle.acc_actor_laws.proofs.OpeningFacts.{some_is}
use Rattle.acc_safety.specs.Calm.{IsCalm}
use Rattle.acc_safety.specs.Places.{StandsAt, Here, Back, IsPast, Whole}
use Rattle.acc_safety.specs.Histories.{Sending}
use Rattle.acc_safety.specs.Attempted.{Took}
use Rattle.acc_safety.proofs.PlaceOrder.{StandsAt-whole, IsPast-rest, IsPast-trans}
use Rattle.acc_safety.proofs.Bridge.{same_itself, node_step, taken_was_sent, Sending-past}
use Rattle.acc_safety.proofs.Frame.{past_of}
use Rattle.acc_safety.proofs.Attempted.{origin_of}
use Rattle.acc_safety_laws.proofs.Ranks.{rank, advances}
use Rattle.acc_calm.proofs.AttemptCounts.{rank_most, started_from, not_begun_again}
use Rattle.acc_calm.proofs.Delivered.{IsCalmAct, acts_are_calm}
use Rattle.acc_calm.proofs.ZeroBallots.{all_zero, attempt_zero, nack_zero}
use Rattle.acc_calm.proofs.Reactions.{IsCalmPhase, is_told, RefusesZero, NotReady, IsHeard, Result, Stays, Adds, Enters, Ends, result}
use Rattle.acc_calm.proofs.Reached.{is_answering, answer_rank, ReachedIn, answer_reached}

-- ---- answers and phases

fit_rank : (phase : Phase) (m : Message) → IsCalmPhase phase → fits phase m ≡ true → (is_answering m ≡ true) × (answer_rank m ≡ rank phase)
fit_rank Voting (PreAcceptOk from to id ballot vote deps) calm h = (refl, refl)
fit_rank Voting m calm h = absurd (true≢false (sym h))
fit_rank Recovering m calm h = absurd calm
fit_rank (Accepting s) (AcceptOk from to id ballot deps) calm h = (refl, refl)
fit_rank (Accepting s) m calm h = absurd (true≢false (sym h))
fit_rank (Committing s) (CommitOk from to id ballot) calm h = (refl, refl)
fit_rank (Committing s) m calm h = absurd (true≢false (sym h))
fit_rank (Executing s) (ReadOk from to id ballot answer) calm h = (refl, refl)
fit_rank (Executing s) m calm h = absurd (true≢false (sym h))

told_answers : (m : Message) → is_told m ≡ true → is_answering m ≡ true
told_answers (Decided from to id ballot t deps) h = refl
told_answers m h = absurd (true≢false (sym h))

pub decided_rank : (phase : Phase) → is_decided phase ≡ true → rank phase ≡ 3
decided_rank Voting h = absurd (true≢false (sym h))
decided_rank Recovering h = absurd (true≢false (sym h))
decided_rank (Accepting s) h = absurd (true≢false (sym h))
decided_rank (Committing s) h = absurd (true≢false (sym h))
decided_rank (Executing s) h = refl

seat_itself : (phase : Phase) (a : Actor) → same_seat phase a a ≡ true
seat_itself Voting a = same_itself a
seat_itself Recovering a = same_itself a
seat_itself (Accepting s) a = same_itself a
seat_itself (Committing s) a = same_itself a
seat_itself (Executing s) a = eq-eqb (shard_of a) (shard_of a) refl

same_taken : (n m : Message) → Takes n ≡ Takes m → n ≡ m
same_taken n m e = cc

begin_is_no_taking : (txn : ℕ) (body : BodyParts) (m : Message) → Begins txn body ≡ Takes m → ⊥
begin_is_no_taking txn body m e = cc

some_is_not_none : {T : Type 0} (t : T) → Some t ≡ None → ⊥
some_is_not_none t e = not_none t (sym e)

pub first_same : {T : Type 0} {x y : T} {xs ys : List T} → x ∷ xs ≡ y ∷ ys → x ≡ y
first_same e = cc

pub rest_same : {T : Type 0} {x y : T} {xs ys : List T} → x ∷ xs ≡ y ∷ ys → xs ≡ ys
rest_same e = cc

-- the message was taken in the newest step, or before
pub took_cases : (deed : Deed) (past : List Deed) (m : Message) → Took (deed ∷ past) m → (deed.act ≡ Takes m) ⊎ Took past m
took_cases deed past m t = by t.deed t.past (deed ∷ past) t.at t.act_is refl
  where
    by : (d : Deed) (p deeds : List Deed) → StandsAt d p deeds → d.act ≡ Takes m → deeds ≡ deed ∷ past → (deed.act ≡ Takes m) ⊎ Took past m
    by d p deeds (Here e rest) act_is is = inl (subst (λ k. k.act ≡ Takes m) (first_same is) act_is)
    by d p deeds (Back e f rest others there) act_is is =
        inr (record { deed = e; past = rest; at = subst (λ k. StandsAt e rest k) (rest_same is) there; act_is = act_is })

-- what stood after a step of these is a past of what stands after the newest
behind_first : (d : Deed) (p : List Deed) (deed : Deed) (past : List Deed) → StandsAt d p (deed ∷ past) → IsPast p past
behind_first d p deed past at = by d p (deed ∷ past) at refl
  where
    by : (d : Deed) (p deeds : List Deed) → StandsAt d p deeds → deeds ≡ deed ∷ past → IsPast p past
    by d p deeds (Here e rest) is = subst (IsPast rest) (rest_same is) (Whole rest)
    by d p deeds (Back e f rest others there) is = subst (IsPast rest) (rest_same is) (past_of e rest others there)

module _ (cluster : Cluster) (items : List Item) (h : EachStands cluster items) (calm : IsCalm items) where
  refuses_zero : (m : Message) → Sending items m → RefusesZero m
  refuses_zero (Nack from to id ballot promised) s = nack_zero cluster items h calm from to id ballot promised s
  refuses_zero m s = tt

  module _ (x : TxnId) where
    abbrev pub home : Actor
    home = home_of x zero_ballot

    abbrev pub all : List Deed
    all = deeds_of cluster home items

    abbrev start : ℕ
    start = clock_start cluster.starts (node_of home)

    abbrev pub own : Actor
    own = actor_of (node_of home) 0

    abbrev pub at_x : List Deed → Option Attempt
    at_x past = attempt_of cluster.layout (node_of home) (clock_start cluster.starts (node_of home)) x past

    taken_sending : (m : Message) (deed : Deed) (past : List Deed) → StandsAt deed past all → deed.act ≡ Takes m → Sending items m
    taken_sending m deed past at act_is =
        let n = node_step cluster home items h deed past at in
        Sending-past n.earlier items m (past_of (Step n.entry) n.earlier items n.at) (taken_was_sent cluster home items deed past m n act_is).sending

    -- an answer was taken only after a step that brought the attempt to its phase
    was_reached : (m : Message) (deed : Deed) (past : List Deed) → StandsAt deed past all → deed.act ≡ Takes m → id_of m ≡ x → is_answering m ≡ true
        → ReachedIn cluster home x (answer_rank m) past
    was_reached m deed past at act_is about answering =
        let n = node_step cluster home items h deed past at in
        let r = answer_reached cluster items h calm n.earlier (past_of (Step n.entry) n.earlier items n.at) m
        (taken_was_sent cluster home items deed past m n act_is).sending answering in
        subst (λ deeds. ReachedIn cluster home x (answer_rank m) deeds) n.past_is
        (subst (λ y. ReachedIn cluster (home_of y zero_ballot) y (answer_rank m) (deeds_of cluster (home_of y zero_ballot) n.earlier)) about r)

    -- so was one that was taken with the newest step
    was_within : (deed : Deed) (past : List Deed) → IsPast (deed ∷ past) all → (m : Message) → Took (deed ∷ past) m → id_of m ≡ x → is_answering m ≡ true
        → ReachedIn cluster home x (answer_rank m) past
    was_within deed past within m t about answering =
        let r = was_reached m t.deed t.past (StandsAt-whole t.deed t.past (deed ∷ past) all t.at within) t.act_is about answering in
        record {
          past = r.past;
          within = IsPast-trans r.past t.past past r.within (behind_first t.deed t.past deed past t.at);
          attempt = r.attempt;
          is = r.is;
          high = r.high;
        }

    early_rank : (deed : Deed) (past : List Deed) → IsPast (deed ∷ past) all → (before : Attempt) → at_x past ≡ Some before → (m : Message)
        → Took (deed ∷ past) m → id_of m ≡ x → is_answering m ≡ true → answer_rank m ≤ rank before.phase
    early_rank deed past within before is m t about answering =
        let r = was_within deed past within m t about answering in
        let past_within = IsPast-rest deed past all within in
        up r.high
        (advances cluster.layout (node_of home) start x r.past past r.attempt before r.within r.is is
        (attempt_zero cluster items h calm home past x before past_within is
        ∙ sym (attempt_zero cluster items h calm home r.past x r.attempt (IsPast-trans r.past past all r.within past_within) r.is)))
      where
        up : {m n k : ℕ} → m ≤ n → n ≤ k → m ≤ k
        up p q = omega (arith, p, q)

    begun_late : (deed : Deed) (past : List Deed) → IsPast (deed ∷ past) all → next_id (node_of home) start past ≡ x → (m : Message)
        → Took (deed ∷ past) m → id_of m ≡ x → is_answering m ≡ true → ⊥
    begun_late deed past within drawn m t about answering =
        let r = was_within deed past within m t about answering in
        let s = started_from cluster.layout (node_of home) start x r.attempt.ballot r.past r.attempt refl
        (origin_of cluster.layout (node_of home) start x r.past r.attempt r.is) in
        not_begun_again cluster.layout (node_of home) start x r.attempt.ballot past
        (record { deed = s.deed; past = s.past; at = StandsAt-whole s.deed s.past r.past past s.at r.within; draws = s.draws; by = s.by }) drawn
        (attempt_zero cluster items h calm home r.past x r.attempt (IsPast-trans r.past past all r.within (IsPast-rest deed past all within)) r.is)

    -- ---- the course

    pub record Course (deeds : List Deed) (a : Attempt) : Type 0 where
      pub heard : (m : Message) → Took deeds m → id_of m ≡ x → IsHeard cluster.layout own x a m
      pub ready : (a.answers ≡ []) ⊎ NotReady cluster.layout own x a
      pub calm_phase : IsCalmPhase a.phase

    kept_course : (deed : Deed) (past : List Deed) (a : Attempt) → ((m : Message) → deed.act ≡ Takes m → id_of m ≡ x → ⊥) → Course past a → Course (deed ∷ past) a
    kept_course deed past a none c =
        record {
          heard = λ m t about. ⊎_elim (λ now. absurd (none m now about)) (λ old. c.heard m old about) (took_cases deed past m t);
          ready = c.ready;
          calm_phase = c.calm_phase;
        }

    begun_course : (deed : Deed) (past : List Deed) (body : BodyParts) → IsPast (deed ∷ past) all → next_id (node_of home) start past ≡ x → Course (deed ∷ past) (begun body)
    begun_course deed past body within drawn =
        record {
          heard = λ m t about.
              record {
                told = λ is. absurd (begun_late deed past within drawn m t about (told_answers m is));
                seated = λ fit store. absurd (begun_late deed past within drawn m t about (fit_rank Voting m tt fit).0);
              };
          ready = inl refl;
          calm_phase = tt;
        }

    module _ (deed : Deed) (past : List Deed) (within : IsPast (deed ∷ past) all) (n : Message) (act_is : deed.act ≡ Takes n) (before : Attempt)
        (before_is : at_x past ≡ Some before) (c : Course past before) where
      stays_course : IsHeard cluster.layout own x before n → Course (deed ∷ past) before
      stays_course now_heard =
          record {
            heard = λ m t about.
                ⊎_elim (λ now. subst (IsHeard cluster.layout own x before) (same_taken n m (sym act_is ∙ now)) now_heard) (λ old. c.heard m old about) (took_cases deed past m t);
            ready = c.ready;
            calm_phase = c.calm_phase;
          }

      adds_course : is_told n ≡ false → NotReady cluster.layout own x (with_answer before n) → Course (deed ∷ past) (with_answer before n)
      adds_course untold waits =
          record {
            heard = λ m t about.
                ⊎_elim
                (λ now. subst (IsHeard cluster.layout own x (with_answer before n)) (same_taken n m (sym act_is ∙ now))
                (record {
                  told = λ is. absurd (true≢false (sym is ∙ untold));
                  seated = λ fit store. or_left (same_seat before.phase (from_of n) (from_of n)) _ (seat_itself before.phase (from_of n));
                }))
                (λ old.
                let heard = c.heard m old about in
                record { told = heard.told; seated = λ fit store. or_right (same_seat before.phase (from_of n) (from_of m)) _ (heard.seated fit store) })
                (took_cases deed past m t);
            ready = inr waits;
            calm_phase = c.calm_phase;
          }

      enters_course : (phase : Phase) → suc (rank before.phase) ≤ rank phase → (is_told n ≡ true → is_decided phase ≡ true) → IsCalmPhase phase
          → Course (deed ∷ past) (in_phase before phase)
      enters_course phase further tells calm_phase =
          record {
            heard = λ m t about.
                record {
                  told = λ is.
                      ⊎_elim (λ now. tells (subst (λ k. is_told k ≡ true) (sym (same_taken n m (sym act_is ∙ now))) is))
                      (λ old. absurd (full (rank before.phase) (rank phase) (decided_rank before.phase ((c.heard m old about).told is)) further (rank_most phase)))
                      (took_cases deed past m t);
                  seated = λ fit store.
                      let r = fit_rank phase m calm_phase fit in
                      absurd (late (answer_rank m) (rank before.phase) (rank phase) (early_rank deed past within before before_is m t about r.0) r.1 further);
                };
            ready = inl refl;
            calm_phase = calm_phase;
          }
        where
          full : (r q : ℕ) → r ≡ 3 → suc r ≤ q → q ≤ 3 → ⊥
          full r q e f g = omega (arith, e, f, g)

          late : (k r q : ℕ) → k ≤ r → k ≡ q → suc r ≤ q → ⊥
          late k r q e f g = omega (arith, e, f, g)

      result_course : (r : Reaction) → Result cluster.layout own x before n r → (a : Attempt) → r.next ≡ Some a → Course (deed ∷ past) a
      result_course r (Stays heard) a next = subst (Course (deed ∷ past)) (some_is before a next) (stays_course heard)
      result_course r (Adds counting untold waits) a next = subst (Course (deed ∷ past)) (some_is (with_answer before n) a next) (adds_course untold waits)
      result_course r (Enters s phase is further tells calm_phase) a next =
          subst (Course (deed ∷ past)) (some_is (in_phase before phase) a (sym is ∙ next)) (enters_course phase further tells calm_phase)
      result_course r (Ends s outcome is) a next = absurd (not_none a next)

      reacted : Result cluster.layout own x before n (reaction cluster.layout own x before n)
      reacted =
          let there = StandsAt-whole deed past (deed ∷ past) all (Here deed past) within in
          let s = taken_sending n deed past there act_is in
          result cluster.layout own x before n (all_zero cluster items h calm n s)
          (attempt_zero cluster items h calm home past x before (IsPast-rest deed past all within) before_is) c.calm_phase (refuses_zero n s)

    taken_course : (deed : Deed) (past : List Deed) → IsPast (deed ∷ past) all → (n : Message) → deed.act ≡ Takes n
        → ((before : Attempt) → at_x past ≡ Some before → Course past before)
        → (a : Attempt) → where_about (id_eq (id_of n) x) (next_by (λ k. reaction cluster.layout own x k n)) (at_x past) ≡ Some a → Course (deed ∷ past) a
    taken_course deed past within n act_is old a is = by (id_eq (id_of n) x) refl (at_x past) refl is
      where
        by : (b : Bool) → id_eq (id_of n) x ≡ b → (o : Option Attempt) → at_x past ≡ o → where_about b (next_by (λ k. reaction cluster.layout own x k n)) o ≡ Some a
            → Course (deed ∷ past) a
        by false other o before_is next =
            kept_course deed past a
            (λ m now about. true≢false (sym ((id_order.decides (id_of n) x).1 (ap id_of (same_taken n m (sym act_is ∙ now)) ∙ about)) ∙ other))
            (old a (before_is ∙ next))
        by true about None before_is next = absurd (not_none a next)
        by true about (Some before) before_is next =
            result_course deed past within n act_is before before_is (old before before_is) (reaction cluster.layout own x before n)
            (reacted deed past within n act_is before before_is (old before before_is)) a next

    act_course : (deed : Deed) (past : List Deed) → IsPast (deed ∷ past) all → (act : Act) → IsCalmAct act → deed.act ≡ act
        → ((before : Attempt) → at_x past ≡ Some before → Course past before)
        → (a : Attempt) → attempt_after cluster.layout (node_of home) start x past (at_x past) act ≡ Some a → Course (deed ∷ past) a
    act_course deed past within (Begins txn body) c act_is old a = by (id_eq (next_id (node_of home) start past) x) refl
      where
        by : (b : Bool) → id_eq (next_id (node_of home) start past) x ≡ b → cond b (Some (begun body)) (at_x past) ≡ Some a → Course (deed ∷ past) a
        by true drawn next =
            subst (Course (deed ∷ past)) (some_is (begun body) a next)
            (begun_course deed past body within ((id_order.decides (next_id (node_of home) start past) x).0 drawn))
        by false other next = kept_course deed past a (λ m now about. begin_is_no_taking txn body m (sym act_is ∙ now)) (old a next)
    act_course deed past within (Takes n) c act_is old a = taken_course deed past within n act_is old a
    act_course deed past within (Recovers y body) c act_is old a = absurd c
    act_course deed past within (Slows y) c act_is old a = absurd c
    act_course deed past within Restarts c act_is old a = absurd c

    pub course : (deeds : List Deed) → IsPast deeds all → (a : Attempt) → at_x deeds ≡ Some a → Course deeds a
    course [] within a is = absurd (not_none a is)
    course (deed ∷ past) within a is =
        act_course deed past within deed.act
        (acts_are_calm cluster items h calm home deed past (StandsAt-whole deed past (deed ∷ past) all (Here deed past) within)) refl
        (λ before before_is. course past (IsPast-rest deed past all within) before before_is) a is

    -- ---- the end

    pub record BegunIn (deeds : List Deed) : Type 0 where
      pub deed : Deed
      pub past : List Deed
      pub at : StandsAt deed past deeds
      pub txn : ℕ
      pub body : BodyParts
      pub act_is : deed.act ≡ Begins txn body
      pub drawn : next_id (node_of home) (clock_start cluster.starts (node_of home)) past ≡ x

    -- the step in which the attempt has its outcome
    pub record Finishing (deeds : List Deed) : Type 0 where
      pub deed : Deed
      pub past : List Deed
      pub at : StandsAt deed past deeds
      pub message : Message
      pub act_is : deed.act ≡ Takes message
      pub about : id_of message ≡ x
      pub before : Attempt
      pub before_is : at_x past ≡ Some before
      pub settled : Settled
      pub outcome : Outcome
      pub reaction_is : reaction cluster.layout own x before message ≡ finish cluster.layout own x (with_answer before message) settled outcome

    finishing_back : (deed : Deed) (past : List Deed) → Finishing past → Finishing (deed ∷ past)
    finishing_back deed past f =
        record {
          deed = f.deed;
          past = f.past;
          at = Back f.deed deed f.past past f.at;
          message = f.message;
          act_is = f.act_is;
          about = f.about;
          before = f.before;
          before_is = f.before_is;
          settled = f.settled;
          outcome = f.outcome;
          reaction_is = f.reaction_is;
        }

    -- the begin is the newest step, or an older one
    pub begun_cases : (deed : Deed) (past : List Deed) → BegunIn (deed ∷ past)
        → ((txn : ℕ) × ((body : BodyParts) × ((deed.act ≡ Begins txn body) × (next_id (node_of home) start past ≡ x)))) ⊎ BegunIn past
    begun_cases deed past b = by b.deed b.past (deed ∷ past) b.at b.act_is b.drawn refl
      where
        by : (d : Deed) (p deeds : List Deed) → StandsAt d p deeds → d.act ≡ Begins b.txn b.body → next_id (node_of home) start p ≡ x → deeds ≡ deed ∷ past
            → ((txn : ℕ) × ((body : BodyParts) × ((deed.act ≡ Begins txn body) × (next_id (node_of home) start past ≡ x)))) ⊎ BegunIn past
        by d p deeds (Here e rest) act_is drawn is =
            inl (b.txn, (b.body, (subst (λ k. k.act ≡ Begins b.txn b.body) (first_same is) act_is, subst (λ k. next_id (node_of home) start k ≡ x) (rest_same is) drawn)))
        by d p deeds (Back e f rest others there) act_is drawn is =
            inr (record { deed = e; past = rest; at = subst (λ k. StandsAt e rest k) (rest_same is) there; txn = b.txn; body = b.body; act_is = act_is; drawn = drawn })

    ends_there : (deed : Deed) (past : List Deed) (n : Message) → deed.act ≡ Takes n → id_of n ≡ x → (before : Attempt) → at_x past ≡ Some before
        → (r : Reaction) → Result cluster.layout own x before n r → reaction cluster.layout own x before n ≡ r → r.next ≡ None → Finishing (deed ∷ past)
    ends_there deed past n act_is about before before_is r (Stays heard) is next = absurd (some_is_not_none before next)
    ends_there deed past n act_is about before before_is r (Adds counting untold waits) is next = absurd (some_is_not_none (with_answer before n) next)
    ends_there deed past n act_is about before before_is r (Enters s phase next_is further tells calm_phase) is next =
        absurd (some_is_not_none (in_phase before phase) (sym next_is ∙ next))
    ends_there deed past n act_is about before before_is r (Ends s outcome phase) is next =
        record {
          deed = deed;
          past = past;
          at = Here deed past;
          message = n;
          act_is = act_is;
          about = about;
          before = before;
          before_is = before_is;
          settled = s;
          outcome = outcome;
          reaction_is = is;
        }

    act_over : (deed : Deed) (past : List Deed) → IsPast (deed ∷ past) all → (act : Act) → IsCalmAct act → deed.act ≡ act → BegunIn (deed ∷ past)
        → (BegunIn past → at_x past ≡ None → Finishing past)
        → attempt_after cluster.layout (node_of home) start x past (at_x past) act ≡ None → Finishing (deed ∷ past)
    act_over deed past within (Begins txn body) c act_is begins old next = by (id_eq (next_id (node_of home) start past) x) refl next
      where
        by : (b : Bool) → id_eq (next_id (node_of home) start past) x ≡ b → cond b (Some (begun body)) (at_x past) ≡ None → Finishing (deed ∷ past)
        by true drawn next = absurd (some_is_not_none (begun body) next)
        by false other next =
            ⊎_elim (λ now. absurd (true≢false (sym ((id_order.decides (next_id (node_of home) start past) x).1 now.1.1.1) ∙ other)))
            (λ earlier. finishing_back deed past (old earlier next)) (begun_cases deed past begins)
    act_over deed past within (Takes n) c act_is begins old next =
        ⊎_elim (λ now. absurd (begin_is_no_taking now.0 now.1.0 n (sym now.1.1.0 ∙ act_is)))
        (λ earlier. by earlier (id_eq (id_of n) x) refl (at_x past) refl next) (begun_cases deed past begins)
      where
        by : BegunIn past → (b : Bool) → id_eq (id_of n) x ≡ b → (o : Option Attempt) → at_x past ≡ o
            → where_about b (next_by (λ k. reaction cluster.layout own x k n)) o ≡ None → Finishing (deed ∷ past)
        by earlier false other o before_is next = finishing_back deed past (old earlier (before_is ∙ next))
        by earlier true about None before_is next = finishing_back deed past (old earlier before_is)
        by earlier true about (Some before) before_is next =
            ends_there deed past n act_is ((id_order.decides (id_of n) x).0 about) before before_is (reaction cluster.layout own x before n)
            (reacted deed past within n act_is before before_is (course past (IsPast-rest deed past all within) before before_is)) refl next
    act_over deed past within (Recovers y body) c act_is begins old next = absurd c
    act_over deed past within (Slows y) c act_is begins old next = absurd c
    act_over deed past within Restarts c act_is begins old next = absurd c

    pub over : (deeds : List Deed) → IsPast deeds all → BegunIn deeds → at_x deeds ≡ None → Finishing deeds
    over [] within begins is = elim begins.at [ ]
    over (deed ∷ past) within begins is =
        act_over deed past within deed.act
        (acts_are_calm cluster items h calm home deed past (StandsAt-whole deed past (deed ∷ past) all (Here deed past) within)) refl begins
        (over past (IsPast-rest deed past all within)) is
