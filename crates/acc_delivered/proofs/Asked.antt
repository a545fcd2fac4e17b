-- In every history of a node each attempt has asked all stores of its transaction for its phase, and it knows what it took since.
use Rattle.std.proofs.Common.{◌≡◌, ℕ, ◌<◌, ◌≤◌, Bool, true, false, cond, List, [], ◌∷◌, length, Option, None, Some, refl, sym, ◌∙◌, ap, subst, arith, ◌⊎◌, inl, inr}
use Rattle.std.proofs.lemmas.Bool.{true≢false}
use Rattle.acc_stamp.specs.declared.stamps.TxnId.{TxnId}
use Rattle.acc_stamp.specs.declared.actors.Actor.{Actor}
use Rattle.acc_stamp.specs.Actor.{actor_of}
use Rattle.acc_stamp.specs.Stamp.{id_eq, ballot_eq, zero_ballot}
use Rattle.acc_stamp.proofs.Order.{id_order, ballot_order}
use Rattle.acc_topology.specs.Layout.{Layout}
use Rattle.acc_deps.specs.declared.records.Settled.{Settled}
use Rattle.acc_txn.specs.declared.parts.BodyParts.{BodyParts}
use Rattle.acc_message.specs.declared.message.Message.{Message}
use Rattle.acc_message.specs.declared.message.Message.TheVariants.{Inform}
use Rattle.acc_message.specs.declared.note.Note.TheVariants.{Decide as DecideNote}
use Rattle.acc_message.specs.declared.note.Path.{Path}
use Rattle.acc_message.specs.declared.entry.Emitted.{Emitted}
use Rattle.acc_message.specs.Fields.{id_of, ballot_of}
use Rattle.acc_message.specs.Shares.{stores_used}
use Rattle.acc_message.specs.Attempts.{Attempt, Phase, Voting, Recovering, Accepting, Executing, counts}
use Rattle.acc_message.specs.Coordinator.{Reaction, in_phase, begun, recovering, ask_for_votes, ask_for_views, when, slow_down, highest_vote, with_answer, reaction, may_slow_down, slow_reaction}
use Rattle.acc_message.specs.NodeRules.{Act, Begins, Recovers, Slows, Takes, Restarts, Deed, next_id, next_ballot, next_by, where_about, attempt_after, attempt_of, is_open, emitted_by, replied, with_reply, on_taking, node_emits}
use Rattle.acc_actor_laws.proofs.Standing.{not_none}
use Rattle.acc_actor_laws.proofs.OpeningFacts.{some_is}
use Rattle.acc_safety.specs.Places.{IsIn, First, StandsAt, Here, Back, IsPast, Whole, Behind}
use Rattle.acc_safety.specs.Histories.{EachEmits}
use Rattle.acc_safety.proofs.PlaceOrder.{flat_map-IsIn, map-IsIn}
use Rattle.acc_calm.proofs.Courses.{first_same, rest_same}
use Rattle.acc_delivered.specs.Laws.{LacksIn, AttemptsLack}
use Rattle.acc_delivered.proofs.Courses.{request, is_inform, Knows, Enters, Result, Stays, Adds, Moves, Ends, result, of_another, adds_knows, knows_more, proposes}

-- ---- places

pub past_length : {T : Type 0} (past xs : List T) → IsPast past xs → length past ≤ length xs
past_length past xs (Whole ys) = omega arith
past_length past xs (Behind y ys zs there) = omega (arith, past_length ys zs there)

pub place_length : {T : Type 0} (x : T) (past xs : List T) → StandsAt x past xs → length past < length xs
place_length x past xs (Here y ys) = omega arith
place_length x past xs (Back y z ys zs there) = omega (arith, place_length y ys zs there)

same_taken : (n m : Message) → Takes n ≡ Takes m → n ≡ m
same_taken n m e = cc

module _ (layout : Layout) (node start : ℕ) (x : TxnId) where
  abbrev pub own : Actor
  own = actor_of node 0

  abbrev pub at_x : List Deed → Option Attempt
  at_x past = attempt_of layout node start x past

  -- the message was taken in a step after this one
  pub record TookSince (deed : Deed) (before deeds : List Deed) (m : Message) : Type 0 where
    pub taking : Deed
    pub past : List Deed
    pub at : StandsAt taking past deeds
    pub act_is : taking.act ≡ Takes m
    pub since : IsPast (deed ∷ before) past

  -- the step that brought the attempt to its phase, what it sent and noted, what is known of what was taken since, and what lacks
  pub record Asked (deeds : List Deed) (a : Attempt) : Type 0 where
    pub deed : Deed
    pub before : List Deed
    pub at : StandsAt deed before deeds
    pub asks : (store : Actor) → IsIn store (stores_used layout a.body) → IsIn (request own x a.ballot a.body a.phase store) deed.emitted.out
    pub notes : (s : Settled) → a.phase ≡ Executing s → (path : Path) × IsIn (DecideNote x s.t path s.deps) deed.emitted.notes
    pub knows : (m : Message) → TookSince deed before deeds m → id_of m ≡ x → ballot_of m ≡ a.ballot → Knows layout a m
    pub lacks : (a.answers ≡ []) ⊎ LacksIn layout x a a.phase
    pub recovers : a.phase ≡ Recovering → (deed.act ≡ Recovers x a.body) × (a.ballot ≡ next_ballot node start before)

  none_since : (deed : Deed) (past : List Deed) (m : Message) → TookSince deed past (deed ∷ past) m → ⊥
  none_since deed past m t = short (place_length t.taking t.past (deed ∷ past) t.at) (past_length (deed ∷ past) t.past t.since)
    where
      short : {n k : ℕ} → n < k → k ≤ n → ⊥
      short p q = omega (arith, p, q)

  -- taken in the newest step, or before
  since_cases : (first : Deed) (before : List Deed) (deed : Deed) (past : List Deed) (m : Message) → TookSince first before (deed ∷ past) m
      → (deed.act ≡ Takes m) ⊎ TookSince first before past m
  since_cases first before deed past m t = by t.taking t.past (deed ∷ past) t.at t.act_is t.since refl
    where
      by : (d : Deed) (p deeds : List Deed) → StandsAt d p deeds → d.act ≡ Takes m → IsPast (first ∷ before) p → deeds ≡ deed ∷ past
          → (deed.act ≡ Takes m) ⊎ TookSince first before past m
      by d p deeds (Here e rest) act_is since is = inl (subst (λ k. k.act ≡ Takes m) (first_same is) act_is)
      by d p deeds (Back e f rest others there) act_is since is =
          inr (record { taking = e; past = rest; at = subst (λ k. StandsAt e rest k) (rest_same is) there; act_is = act_is; since = since })

  -- ---- one step

  module _ (deed : Deed) (past : List Deed) where
    kept : (a : Attempt) → Asked past a → ((m : Message) → deed.act ≡ Takes m → id_of m ≡ x → ballot_of m ≡ a.ballot → Knows layout a m) → Asked (deed ∷ past) a
    kept a k news =
        record {
          deed = k.deed;
          before = k.before;
          at = Back k.deed deed k.before past k.at;
          asks = k.asks;
          notes = k.notes;
          knows = λ m t about of_ballot.
              ⊎-by (news m) (λ old. k.knows m old about of_ballot) (since_cases k.deed k.before deed past m t) about of_ballot;
          lacks = k.lacks;
          recovers = k.recovers;
        }
      where
        ⊎-by : {A B C D E : Type 0} → (A → C → D → E) → (B → E) → A ⊎ B → C → D → E
        ⊎-by f g (inl p) c d = f p c d
        ⊎-by f g (inr p) c d = g p

    counted : (a : Attempt) (n : Message) → Asked past a → deed.act ≡ Takes n → counts layout a n ≡ true → LacksIn layout x (with_answer a n) a.phase
        → Asked (deed ∷ past) (with_answer a n)
    counted a n k act_is counting lack =
        record {
          deed = k.deed;
          before = k.before;
          at = Back k.deed deed k.before past k.at;
          asks = k.asks;
          notes = k.notes;
          knows = λ m t about of_ballot. by m about of_ballot (since_cases k.deed k.before deed past m t);
          lacks = inr lack;
          recovers = k.recovers;
        }
      where
        by : (m : Message) → id_of m ≡ x → ballot_of m ≡ a.ballot → (deed.act ≡ Takes m) ⊎ TookSince k.deed k.before past m → Knows layout (with_answer a n) m
        by m about of_ballot (inl now) = subst (Knows layout (with_answer a n)) (same_taken n m (sym act_is ∙ now)) (adds_knows layout own x a n counting)
        by m about of_ballot (inr old) = knows_more layout a n m (k.knows m old about of_ballot)

    -- a step that asks for a new phase
    fresh : (a : Attempt) (phase : Phase) (r : Reaction) → Enters layout own x a phase r → deed.emitted.out ≡ r.emitted.out
        → ((s : Settled) (path : Path) → IsIn (DecideNote x s.t path s.deps) r.emitted.notes → IsIn (DecideNote x s.t path s.deps) deed.emitted.notes)
        → Asked (deed ∷ past) (in_phase a phase)
    fresh a phase r enters out_is notes_are =
        record {
          deed = deed;
          before = past;
          at = Here deed past;
          asks = λ store there.
              subst (λ out. IsIn (request own x a.ballot a.body phase store) out) (sym (out_is ∙ enters.out_is))
              (map-IsIn (request own x a.ballot a.body phase) store (stores_used layout a.body) there);
          notes = λ s is. let noted = enters.notes_are s is in (noted.0, notes_are s noted.0 noted.1);
          knows = λ m t about of_ballot. absurd (none_since deed past m t);
          lacks = inl refl;
          recovers = λ is. absurd (enters.further is);
        }

    -- ---- what a step emits

    pub taking_emits : (m : Message) → is_inform m ≡ false
        → on_taking layout node start past m
        ≡ with_reply (is_open (id_of m) past) (emitted_by (λ a. reaction layout own (id_of m) a m) (attempt_of layout node start (id_of m) past))
    taking_emits (Inform from to id ballot outcome) h = absurd (true≢false h)
    taking_emits m h = refl

    pub taking_reacts : (m : Message) (a : Attempt) → is_inform m ≡ false → id_of m ≡ x → at_x past ≡ Some a
        → on_taking layout node start past m ≡ with_reply (is_open (id_of m) past) (reaction layout own x a m).emitted
    taking_reacts m a h about is =
        taking_emits m h
        ∙ ap (λ y. with_reply (is_open (id_of m) past) (emitted_by (λ k. reaction layout own y k m) (attempt_of layout node start y past))) about
        ∙ ap (λ o. with_reply (is_open (id_of m) past) (emitted_by (λ k. reaction layout own x k m) o)) is

    -- a note of a decision isn't touched by replies
    pub decision_stays : (client : Bool) (r : Emitted) (s : Settled) (path : Path) → IsIn (DecideNote x s.t path s.deps) r.notes → IsIn (DecideNote x s.t path s.deps) (with_reply client r).notes
    decision_stays client r s path there =
        flat_map-IsIn (replied client) (DecideNote x s.t path s.deps) (DecideNote x s.t path s.deps) r.notes there (First (DecideNote x s.t path s.deps) [])

    -- ---- steps by their acts

    some_other : (a b : Attempt) → Asked past a → Some a ≡ Some b → ((m : Message) → deed.act ≡ Takes m → id_of m ≡ x → ballot_of m ≡ a.ballot → Knows layout a m) → Asked (deed ∷ past) b
    some_other a b k is news = subst (Asked (deed ∷ past)) (some_is a b is) (kept a k news)

    begins_one : (txn : ℕ) (body : BodyParts) → deed.act ≡ Begins txn body → deed.emitted ≡ node_emits layout node start past (Begins txn body)
        → ((a : Attempt) → at_x past ≡ Some a → Asked past a) → (a : Attempt)
        → attempt_after layout node start x past (at_x past) (Begins txn body) ≡ Some a → Asked (deed ∷ past) a
    begins_one txn body act_is emits old a is = by (id_eq (next_id node start past) x) refl is
      where
        fresh_one : next_id node start past ≡ x → Asked (deed ∷ past) (begun body)
        fresh_one drawn =
            record {
              deed = deed;
              before = past;
              at = Here deed past;
              asks = λ store there.
                  subst (λ (e : Emitted). IsIn (request own x zero_ballot body Voting store) e.out) (sym emits)
                  (subst (λ y. IsIn (request own x zero_ballot body Voting store) (ask_for_votes layout own y body)) (sym drawn)
                  (map-IsIn (request own x zero_ballot body Voting) store (stores_used layout body) there));
              notes = λ s e. absurd (no_execution s e);
              knows = λ m t about of_ballot. absurd (none_since deed past m t);
              lacks = inl refl;
              recovers = λ is. absurd (no_view is);
            }
          where
            no_execution : (s : Settled) → Voting ≡ Executing s → ⊥
            no_execution s e = cc

            no_view : Voting ≡ Recovering → ⊥
            no_view e = cc

        by : (b : Bool) → id_eq (next_id node start past) x ≡ b → cond b (Some (begun body)) (at_x past) ≡ Some a → Asked (deed ∷ past) a
        by true drawn e = subst (Asked (deed ∷ past)) (some_is (begun body) a e) (fresh_one ((id_order.decides (next_id node start past) x).0 drawn))
        by false other e = kept a (old a e) (λ m now about of_ballot. absurd (begin_is_no_taking m (sym act_is ∙ now)))
          where
            begin_is_no_taking : (m : Message) → Begins txn body ≡ Takes m → ⊥
            begin_is_no_taking m e = cc

    recovers_one : (y : TxnId) (body : BodyParts) → deed.act ≡ Recovers y body → deed.emitted ≡ node_emits layout node start past (Recovers y body)
        → ((a : Attempt) → at_x past ≡ Some a → Asked past a) → (a : Attempt)
        → attempt_after layout node start x past (at_x past) (Recovers y body) ≡ Some a → Asked (deed ∷ past) a
    recovers_one y body act_is emits old a is = by (id_eq y x) refl is
      where
        fresh_one : y ≡ x → Asked (deed ∷ past) (recovering (next_ballot node start past) body)
        fresh_one same =
            record {
              deed = deed;
              before = past;
              at = Here deed past;
              asks = λ store there.
                  subst (λ (e : Emitted). IsIn (request own x (next_ballot node start past) body Recovering store) e.out) (sym emits)
                  (subst (λ z. IsIn (request own x (next_ballot node start past) body Recovering store) (ask_for_views layout own z (next_ballot node start past) body)) (sym same)
                  (map-IsIn (request own x (next_ballot node start past) body Recovering) store (stores_used layout body) there));
              notes = λ s e. absurd (no_execution s e);
              knows = λ m t about of_ballot. absurd (none_since deed past m t);
              lacks = inl refl;
              recovers = λ _. (act_is ∙ ap (λ z. Recovers z body) same, refl);
            }
          where
            no_execution : (s : Settled) → Recovering ≡ Executing s → ⊥
            no_execution s e = cc

        by : (b : Bool) → id_eq y x ≡ b → cond b (Some (recovering (next_ballot node start past) body)) (at_x past) ≡ Some a → Asked (deed ∷ past) a
        by true same e = subst (Asked (deed ∷ past)) (some_is (recovering (next_ballot node start past) body) a e) (fresh_one ((id_order.decides y x).0 same))
        by false other e = kept a (old a e) (λ m now about of_ballot. absurd (recover_is_no_taking m (sym act_is ∙ now)))
          where
            recover_is_no_taking : (m : Message) → Recovers y body ≡ Takes m → ⊥
            recover_is_no_taking m e = cc

    slows_one : (y : TxnId) → deed.act ≡ Slows y → deed.emitted ≡ node_emits layout node start past (Slows y)
        → ((a : Attempt) → at_x past ≡ Some a → Asked past a) → (a : Attempt)
        → attempt_after layout node start x past (at_x past) (Slows y) ≡ Some a → Asked (deed ∷ past) a
    slows_one y act_is emits old a is = by (id_eq y x) refl (at_x past) refl is
      where
        slow_is_no_taking : (m : Message) → Slows y ≡ Takes m → ⊥
        slow_is_no_taking m e = cc

        news : (k : Attempt) (m : Message) → deed.act ≡ Takes m → id_of m ≡ x → ballot_of m ≡ k.ballot → Knows layout k m
        news k m now about of_ballot = absurd (slow_is_no_taking m (sym act_is ∙ now))

        slowed : (k : Attempt) → y ≡ x → at_x past ≡ Some k → (b : Bool) → may_slow_down layout x k k.phase ≡ b → (when b (slow_down layout own x) k).next ≡ Some a → Asked (deed ∷ past) a
        slowed k same before true may e =
            subst (Asked (deed ∷ past)) (some_is (in_phase k (Accepting (highest_vote x k))) a e)
            (fresh k (Accepting (highest_vote x k)) (slow_down layout own x k) (proposes layout own x k (highest_vote x k)) (ap (λ (r : Emitted). r.out) emitted_is)
            (λ s path there. subst (λ (r : Emitted). IsIn (DecideNote x s.t path s.deps) r.notes) (sym emitted_is) there))
          where
            emitted_is : deed.emitted ≡ (slow_down layout own x k).emitted
            emitted_is =
                emits
                ∙ ap (λ z. emitted_by (slow_reaction layout own z) (attempt_of layout node start z past)) same
                ∙ ap (emitted_by (slow_reaction layout own x)) before
                ∙ ap (λ b. (when b (slow_down layout own x) k).emitted) may
        slowed k same before false may e = some_other k a (old k before) e (news k)

        by : (b : Bool) → id_eq y x ≡ b → (o : Option Attempt) → at_x past ≡ o → where_about b (next_by (slow_reaction layout own x)) o ≡ Some a → Asked (deed ∷ past) a
        by false other o before e = kept a (old a (before ∙ e)) (news a)
        by true same None before e = absurd (not_none a e)
        by true same (Some k) before e = slowed k ((id_order.decides y x).0 same) before (may_slow_down layout x k k.phase) refl e

    takes_one : (n : Message) → deed.act ≡ Takes n → deed.emitted ≡ node_emits layout node start past (Takes n)
        → ((a : Attempt) → at_x past ≡ Some a → Asked past a) → (a : Attempt)
        → attempt_after layout node start x past (at_x past) (Takes n) ≡ Some a → Asked (deed ∷ past) a
    takes_one n act_is emits old a is = by (id_eq (id_of n) x) refl (at_x past) refl is
      where
        reacted : (k : Attempt) → id_of n ≡ x → at_x past ≡ Some k → (r : Reaction) → Result layout own x k n r → reaction layout own x k n ≡ r → r.next ≡ Some a → Asked (deed ∷ past) a
        reacted k about before r (Stays known) same e =
            some_other k a (old k before) e (λ m now of_x of_ballot. subst (Knows layout k) (same_taken n m (sym act_is ∙ now)) known)
        reacted k about before r (Adds counting lack) same e =
            subst (Asked (deed ∷ past)) (some_is (with_answer k n) a e) (counted k n (old k before) act_is counting lack)
        reacted k about before r (Moves q moving phase tells of_ballot of_body enters) same e =
            subst (Asked (deed ∷ past)) (some_is (in_phase moving phase) a (sym enters.next_is ∙ e))
            (fresh moving phase q enters (ap (λ (w : Emitted). w.out) emitted_is) noted)
          where
            emitted_is : deed.emitted ≡ with_reply (is_open (id_of n) past) q.emitted
            emitted_is = emits ∙ taking_reacts n k tells about before ∙ ap (λ (w : Reaction). with_reply (is_open (id_of n) past) w.emitted) same

            noted : (s : Settled) (path : Path) → IsIn (DecideNote x s.t path s.deps) q.emitted.notes → IsIn (DecideNote x s.t path s.deps) deed.emitted.notes
            noted s path there =
                subst (λ (w : Emitted). IsIn (DecideNote x s.t path s.deps) w.notes) (sym emitted_is) (decision_stays (is_open (id_of n) past) q.emitted s path there)
        reacted k about before r (Ends q none) same e = absurd (not_none a (sym none ∙ e))

        of_ballot_or_not : (k : Attempt) → id_of n ≡ x → at_x past ≡ Some k → (b : Bool) → ballot_eq (ballot_of n) k.ballot ≡ b → (reaction layout own x k n).next ≡ Some a → Asked (deed ∷ past) a
        of_ballot_or_not k about before true same e =
            reacted k about before (reaction layout own x k n) (result layout own x k n ((ballot_order.decides (ballot_of n) k.ballot).0 same)) refl e
        of_ballot_or_not k about before false other e =
            some_other k a (old k before) (sym (ap (λ (w : Reaction). w.next) (of_another layout own x k n other)) ∙ e)
            (λ m now of_x of_ballot.
            absurd (true≢false (sym ((ballot_order.decides (ballot_of n) k.ballot).1 (ap ballot_of (same_taken n m (sym act_is ∙ now)) ∙ of_ballot)) ∙ other)))

        by : (b : Bool) → id_eq (id_of n) x ≡ b → (o : Option Attempt) → at_x past ≡ o → where_about b (next_by (λ k. reaction layout own x k n)) o ≡ Some a → Asked (deed ∷ past) a
        by false other o before e =
            kept a (old a (before ∙ e))
            (λ m now about of_ballot. absurd (true≢false (sym ((id_order.decides (id_of n) x).1 (ap id_of (same_taken n m (sym act_is ∙ now)) ∙ about)) ∙ other)))
        by true about None before e = absurd (not_none a e)
        by true about (Some k) before e = of_ballot_or_not k ((id_order.decides (id_of n) x).0 about) before (ballot_eq (ballot_of n) k.ballot) refl e

    by_act : (act : Act) → deed.act ≡ act → deed.emitted ≡ node_emits layout node start past act → ((a : Attempt) → at_x past ≡ Some a → Asked past a)
        → (a : Attempt) → attempt_after layout node start x past (at_x past) act ≡ Some a → Asked (deed ∷ past) a
    by_act (Begins txn body) act_is emits old a is = begins_one txn body act_is emits old a is
    by_act (Recovers y body) act_is emits old a is = recovers_one y body act_is emits old a is
    by_act (Slows y) act_is emits old a is = slows_one y act_is emits old a is
    by_act (Takes n) act_is emits old a is = takes_one n act_is emits old a is
    by_act Restarts act_is emits old a is = absurd (not_none a is)

  pub asked : (deeds : List Deed) → EachEmits layout node start deeds → (a : Attempt) → at_x deeds ≡ Some a → Asked deeds a
  asked [] h a is = absurd (not_none a is)
  asked (deed ∷ past) h a is = by_act deed past deed.act refl h.0 (asked past h.1) a is

pub attempts_lack : (layout : Layout) (node start : ℕ) (x : TxnId) (deeds : List Deed) → AttemptsLack layout node start x deeds
attempts_lack layout node start x deeds a each is = (asked layout node start x deeds each a is).lacks
