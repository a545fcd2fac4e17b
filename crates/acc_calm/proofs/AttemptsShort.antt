-- In a run an attempt sends at most five messages to each store of its transaction, and one more.
use Rattle.std.proofs.Common.{◌≡◌, ℕ, suc, ◌+◌, ◌*◌, ◌≤◌, Bool, true, false, ◌&&◌, cond, List, [], ◌∷◌, ◌++◌, length, count_by, map, Option, None, Some, refl, sym, ◌∙◌, ap, subst, arith, ◌⊎◌, inl, inr, ⊎_elim}
use Rattle.std.proofs.lemmas.Bool.{true≢false, and_parts, false_from_ne_true}
use Rattle.acc_stamp.specs.declared.stamps.TxnId.{TxnId}
use Rattle.acc_stamp.specs.declared.stamps.Ballot.{Ballot}
use Rattle.acc_stamp.specs.declared.actors.Actor.{Actor}
use Rattle.acc_stamp.specs.Actor.{actor_of, node_of, home_of}
use Rattle.acc_stamp.specs.Stamp.{id_eq, ballot_eq, zero_ballot}
use Rattle.acc_stamp.proofs.Order.{id_order, ballot_order, eq_itself}
use Rattle.acc_topology.specs.Layout.{Layout}
use Rattle.acc_topology.proofs.Bits.{one_if, count_by-cons}
use Rattle.acc_txn.specs.declared.parts.BodyParts.{BodyParts}
use Rattle.acc_txn.specs.declared.outcome.Outcome.{Outcome}
use Rattle.acc_message.specs.declared.message.Message.{Message}
use Rattle.acc_message.specs.declared.message.Message.TheVariants.{PreAccept, Accept, Commit, Stable, Recover, Inform}
use Rattle.acc_message.specs.declared.entry.Emitted.{Emitted}
use Rattle.acc_message.specs.declared.entry.Entry.{Entry}
use Rattle.acc_message.specs.declared.item.Item.{Item}
use Rattle.acc_message.specs.declared.item.Item.TheVariants.{Step, Skipped, Down}
use Rattle.acc_message.specs.Fields.{from_of, id_of, ballot_of}
use Rattle.acc_message.specs.Items.{same_actor}
use Rattle.acc_message.specs.Shares.{stores_used}
use Rattle.acc_message.specs.Attempts.{Attempt, Accepting, Committing, Executing}
use Rattle.acc_message.specs.Coordinator.{Reaction, begun, recovering, in_phase, reaction, slow_reaction}
use Rattle.acc_message.specs.NodeRules.{Act, Begins, Recovers, Slows, Takes, Restarts, Deed, next_id, next_ballot, next_by, where_about, attempt_after, attempt_of, emitted_by, on_taking, node_emits}
use Rattle.acc_message.specs.Run.{Cluster, clock_start, deed_with, deed_if, deeds_of, is_node, StandsOn, EachStands}
use Rattle.acc_actor_laws.proofs.Standing.{not_none}
use Rattle.acc_actor_laws.proofs.OpeningFacts.{some_is}
use Rattle.acc_safety.specs.Places.{IsIn, First, Later, StandsAt, Here, IsPast, Whole}
use Rattle.acc_safety.specs.Histories.{EachEmits}
use Rattle.acc_safety.specs.NodeMoves.{Move, Wait, Propose, CommitTo, DecideBy, FinishWith, BlockBy, EndBy, made, NodeSends, AsksForVotes, AsksForViews, Proposes, Commits, Decides, Finishes, Informs}
use Rattle.acc_safety.specs.Polls.{IsBody}
use Rattle.acc_safety.proofs.PlaceOrder.{IsPast-rest, StandsAt-whole}
use Rattle.acc_safety.proofs.NodeMoved.{hears_all, slow_moved}
use Rattle.acc_safety.proofs.NodeSent.{node_sends}
use Rattle.acc_safety.proofs.Attempted.{origin_of}
use Rattle.acc_safety.proofs.BodiesBegun.{begin_body, recover_body, attempt_body}
use Rattle.acc_safety.proofs.Bridge.{same, same_itself, each_emits, node_is_actor}
use Rattle.acc_safety.proofs.Frame.{homes_are_one}
use Rattle.acc_safety_laws.proofs.Ranks.{rank}
use Rattle.acc_safety.proofs.Draws.{IsDraw, DrawsId, DrawsBallot}
use Rattle.acc_safety_laws.proofs.Steps.{Told, Outcome_told, Other_told, told, told_stays, node_emitted}
use Rattle.acc_calm.proofs.ZeroBallots.{home_is_node}
use Rattle.acc_calm.specs.MessageCounts.{is_of_attempt, sent_for_attempt, AttemptsAreShort}
use Rattle.acc_calm.proofs.AttemptCounts.{none_counted, at_most_all, allowed, allowed_less, rank_most, GoesOn, moves_room, hears_room, other_made, finish_made, Started, started_back, started_from, not_begun_again, not_recovered_again}

abbrev spent : TxnId → Ballot → List Deed → ℕ
spent x b [] = 0
spent x b (deed ∷ past) = count_by (is_of_attempt x b) deed.emitted.out + spent x b past

-- so many messages c were sent so far, where n go to all stores, by the attempt that has this state now
record Allows (n : ℕ) (b : Ballot) (c : ℕ) (o : Option Attempt) (Begun : Type 0) : Type 0 where
  pub most : c ≤ allowed n 4 + 1
  pub now : (a : Attempt) → o ≡ Some a → a.ballot ≡ b → c ≤ allowed n (rank a.phase)
  pub begun_once : (c ≡ 0) ⊎ Begun

module _ (n : ℕ) (b : Ballot) where
  keeps : (c d : ℕ) (o : Option Attempt) (Begun More : Type 0) → d ≡ c → (Begun → More) → Allows n b c o Begun → Allows n b d o More
  keeps c d o Begun More same more a =
      record {
        most = subst (λ k. k ≤ allowed n 4 + 1) (sym same) a.most;
        now = λ at is ballot. subst (λ k. k ≤ allowed n (rank at.phase)) (sym same) (a.now at is ballot);
        begun_once = ⊎_elim (λ zero_is. inl (same ∙ zero_is)) (λ h. inr (more h)) a.begun_once;
      }

  ends : (c d : ℕ) (o next : Option Attempt) (Begun More : Type 0) → d ≡ c → (Begun → More)
      → ((a : Attempt) → next ≡ Some a → a.ballot ≡ b → ⊥) → Allows n b c o Begun → Allows n b d next More
  ends c d o next Begun More same more none a =
      record {
        most = subst (λ k. k ≤ allowed n 4 + 1) (sym same) a.most;
        now = λ at is ballot. absurd (none at is ballot);
        begun_once = ⊎_elim (λ zero_is. inl (same ∙ zero_is)) (λ h. inr (more h)) a.begun_once;
      }

  sum_low : (c d m r q : ℕ) → c ≤ m → d ≤ allowed n r → r ≤ q → m ≡ n → c + d ≤ allowed n (suc q)
  sum_low c d m r q h k l same = omega (arith, h, k, same, allowed_less n r q l)

  below_most : (d r : ℕ) → r ≤ 4 → d ≤ allowed n r → d ≤ allowed n 4 + 1
  below_most d r l h = omega (arith, h, allowed_less n r 4 l)

  last_low : (c d m r : ℕ) → c ≤ m + 1 → d ≤ allowed n r → r ≤ 3 → m ≡ n → c + d ≤ allowed n 4 + 1
  last_low c d m r h k l same = omega (arith, h, k, same, allowed_less n r 3 l)

none_started : (m n : ℕ) → m ≤ n → (k : ℕ) → k ≡ 0 → m + k ≤ n
none_started m n h k same = omega (arith, h, same)

more_rank : (r : ℕ) → r ≤ 3 → r ≤ 4
more_rank r h = omega (arith, h)

module _ (cluster : Cluster) (items : List Item) (h : EachStands cluster items) (actor : Actor) (node : is_node actor ≡ true) (x : TxnId) (b : Ballot)
    (body : BodyParts) (body_is : IsBody cluster items x body) where
  abbrev start : ℕ
  start = clock_start cluster.starts (node_of actor)

  abbrev own : Actor
  own = actor_of (node_of actor) 0

  abbrev n : ℕ
  n = length (stores_used cluster.layout body)

  abbrev at_x : List Deed → Option Attempt
  at_x past = attempt_of cluster.layout (node_of actor) start x past

  abbrev Begun : List Deed → Type 0
  Begun deeds = Started (node_of actor) start x b deeds

  abbrev Spends : List Deed → Type 0
  Spends deeds = Allows n b (spent x b deeds) (at_x deeds) (Begun deeds)

  abbrev counted : List Message → ℕ
  counted out = count_by (is_of_attempt x b) out

  same_body : (other : BodyParts) → IsBody cluster items x other → other ≡ body
  same_body other is = some_is other body (sym is ∙ body_is)

  as_many : (other : BodyParts) → other ≡ body → length (stores_used cluster.layout other) ≡ n
  as_many other same = ap (λ (k : BodyParts). length (stores_used cluster.layout k)) same

  kept_ballot : (a : Attempt) (move : Move) (next : Attempt) → (made cluster.layout own x a move).next ≡ Some next → next.ballot ≡ a.ballot
  kept_ballot a Wait next is = ap (λ (k : Attempt). k.ballot) (sym (some_is a next is))
  kept_ballot a (Propose s) next is = ap (λ (k : Attempt). k.ballot) (sym (some_is (in_phase a (Accepting s)) next is))
  kept_ballot a (CommitTo s) next is = ap (λ (k : Attempt). k.ballot) (sym (some_is (in_phase a (Committing s)) next is))
  kept_ballot a (DecideBy path s) next is = ap (λ (k : Attempt). k.ballot) (sym (some_is (in_phase a (Executing s)) next is))
  kept_ballot a (FinishWith s outcome) next is = absurd (not_none next is)
  kept_ballot a (BlockBy by) next is = absurd (not_none next is)
  kept_ballot a (EndBy by) next is = absurd (not_none next is)

  -- a new phase, to which one message went to each store
  new_phase : (c d r q : ℕ) (after : Attempt) (More : Type 0) → c ≤ n → d ≤ allowed n r → r ≤ q → suc q ≡ rank after.phase → q ≤ 2 → More
      → Allows n b (c + d) (Some after) More
  new_phase c d r q after More few spent_low up is low begun_now =
      let all : c + d ≤ allowed n (suc q) = sum_low n b c d n r q few spent_low up refl in
      record {
        most = below_most n b (c + d) (suc q) (omega arith) all;
        now = λ at same ballot. subst (λ (k : Attempt). c + d ≤ allowed n (rank k.phase)) (some_is after at same) (subst (λ k. c + d ≤ allowed n k) is all);
        begun_once = inr begun_now;
      }

  -- nothing is sent, and the attempt is at most as far
  nothing : (d r : ℕ) (next : Option Attempt) (More : Type 0) → d ≤ allowed n r → r ≤ 3 → ((a : Attempt) → next ≡ Some a → rank a.phase ≡ r) → More
      → Allows n b (0 + d) next More
  nothing d r next More low small at_most begun_now =
      record {
        most = zero_more (allowed n 4 + 1) (below_most n b d r (more_rank r small) low);
        now = λ at is ballot. zero_more (allowed n (rank at.phase)) (subst (λ k. d ≤ allowed n k) (sym (at_most at is)) low);
        begun_once = inr begun_now;
      }
    where
      zero_more : (k : ℕ) → d ≤ k → 0 + d ≤ k
      zero_more k l = omega (arith, l)

  by_move : (d : ℕ) (before a : Attempt) (move : Move) (More : Type 0) → GoesOn cluster.layout x before a move
      → before.body ≡ body → d ≤ allowed n (rank before.phase) → More
      → Allows n b (counted (made cluster.layout own x a move).emitted.out + d) (made cluster.layout own x a move).next More
  by_move d before a Wait More on its low begun_now =
      nothing d (rank before.phase) (Some a) More low (rank_most before.phase)
      (λ at is. ap (λ (k : Attempt). rank k.phase) (sym (some_is a at is)) ∙ ap rank on.same_phase) begun_now
  by_move d before a (Propose s) More on its low begun_now =
      new_phase (counted (map (λ store. Accept own store x a.ballot a.body s.t s.deps) (stores_used cluster.layout a.body))) d (rank before.phase) 0 (in_phase a (Accepting s)) More
      (subst (λ k. counted (map (λ store. Accept own store x a.ballot a.body s.t s.deps) (stores_used cluster.layout a.body)) ≤ k) (as_many a.body (on.same_body ∙ its))
      (at_most_all (is_of_attempt x b) (λ store. Accept own store x a.ballot a.body s.t s.deps) (stores_used cluster.layout a.body)))
      low on.room refl (omega arith) begun_now
  by_move d before a (CommitTo s) More on its low begun_now =
      new_phase (counted (map (λ store. Commit own store x a.ballot a.body s.t s.deps) (stores_used cluster.layout a.body))) d (rank before.phase) 1 (in_phase a (Committing s)) More
      (subst (λ k. counted (map (λ store. Commit own store x a.ballot a.body s.t s.deps) (stores_used cluster.layout a.body)) ≤ k) (as_many a.body (on.same_body ∙ its))
      (at_most_all (is_of_attempt x b) (λ store. Commit own store x a.ballot a.body s.t s.deps) (stores_used cluster.layout a.body)))
      low on.room refl (omega arith) begun_now
  by_move d before a (DecideBy path s) More on its low begun_now =
      new_phase (counted (map (λ store. Stable own store x a.ballot a.body s.t s.deps) (stores_used cluster.layout a.body))) d (rank before.phase) 2 (in_phase a (Executing s)) More
      (subst (λ k. counted (map (λ store. Stable own store x a.ballot a.body s.t s.deps) (stores_used cluster.layout a.body)) ≤ k) (as_many a.body (on.same_body ∙ its))
      (at_most_all (is_of_attempt x b) (λ store. Stable own store x a.ballot a.body s.t s.deps) (stores_used cluster.layout a.body)))
      low on.room refl (omega arith) begun_now
  by_move d before a (FinishWith s outcome) More on its low begun_now =
      record {
        most =
            last_low n b (counted (made cluster.layout own x a (FinishWith s outcome)).emitted.out) d (length (stores_used cluster.layout a.body)) (rank before.phase)
            (finish_made cluster.layout own x b a s outcome) low (rank_most before.phase) (as_many a.body (on.same_body ∙ its));
        now = λ at is ballot. absurd (not_none at is);
        begun_once = inr begun_now;
      }
  by_move d before a (BlockBy by) More on its low begun_now =
      nothing d (rank before.phase) None More low (rank_most before.phase) (λ at is. absurd (not_none at is)) begun_now
  by_move d before a (EndBy by) More on its low begun_now =
      nothing d (rank before.phase) None More low (rank_most before.phase) (λ at is. absurd (not_none at is)) begun_now

  -- the attempt at x makes a move
  reacts : (deed : Deed) (past : List Deed) (before a : Attempt) (move : Move) → IsPast past (deeds_of cluster actor items) → at_x past ≡ Some before
      → GoesOn cluster.layout x before a move → Spends past
      → Allows n b (counted (made cluster.layout own x a move).emitted.out + spent x b past) (made cluster.layout own x a move).next (Begun (deed ∷ past))
  reacts deed past before a move within is on spends = by (ballot_eq before.ballot b) refl
    where
      by : (c : Bool) → ballot_eq before.ballot b ≡ c
          → Allows n b (counted (made cluster.layout own x a move).emitted.out + spent x b past) (made cluster.layout own x a move).next (Begun (deed ∷ past))
      by true its =
          let ballot = (ballot_order.decides before.ballot b).0 its in
          by_move (spent x b past) before a move (Begun (deed ∷ past)) on (same_body before.body (attempt_body cluster items h actor node past x before within is)) (spends.now before is ballot)
          (started_back cluster.layout (node_of actor) start x b deed past
          (started_from cluster.layout (node_of actor) start x b past before ballot (origin_of cluster.layout (node_of actor) start x past before is)))
      by false other =
          let apart : ballot_eq a.ballot b ≡ false = ap (λ k. ballot_eq k b) on.same_ballot ∙ other in
          let none : counted (made cluster.layout own x a move).emitted.out ≡ 0 =
          other_made cluster.layout own x b x a move (ap (λ c. c && ballot_eq a.ballot b) (eq_itself id_order x) ∙ apart) in
          ends n b (spent x b past) (counted (made cluster.layout own x a move).emitted.out + spent x b past) (at_x past) (made cluster.layout own x a move).next (Begun past) (Begun (deed ∷ past))
          (omega (arith, none)) (started_back cluster.layout (node_of actor) start x b deed past)
          (λ at next ballot. true≢false (sym ((ballot_order.decides a.ballot b).1 (sym (kept_ballot a move at next) ∙ ballot)) ∙ apart)) spends

  -- nothing about x is sent
  passes : (deed : Deed) (past : List Deed) (c : ℕ) → c ≡ 0 → Spends past → Allows n b (c + spent x b past) (at_x past) (Begun (deed ∷ past))
  passes deed past c none spends =
      keeps n b (spent x b past) (c + spent x b past) (at_x past) (Begun past) (Begun (deed ∷ past)) (omega (arith, none))
      (started_back cluster.layout (node_of actor) start x b deed past) spends

  abbrev Goes : Deed → List Deed → Act → Type 0
  Goes deed past act =
      Allows n b (counted (node_emits cluster.layout (node_of actor) start past act).out + spent x b past)
      (attempt_after cluster.layout (node_of actor) start x past (at_x past) act) (Begun (deed ∷ past))

  -- a first message for each store, of an attempt that wasn't there before
  first_sent : (c d : ℕ) (after : Attempt) (More : Type 0) → c ≤ n → d ≡ 0 → rank after.phase ≡ 0 → More → Allows n b (c + d) (Some after) More
  first_sent c d after More few none is begun_now =
      record {
        most = omega (arith, few, none);
        now = λ at same ballot.
            subst (λ (k : Attempt). c + d ≤ allowed n (rank k.phase)) (some_is after at same) (subst (λ k. c + d ≤ allowed n k) (sym is) (none_started c n few d none));
        begun_once = inr begun_now;
      }

  no_more : (d : ℕ) (S : Type 0) → (d ≡ 0) ⊎ S → (S → ⊥) → d ≡ 0
  no_more d S h k = ⊎_elim (λ is. is) (λ s. absurd (k s)) h

  begins : (deed : Deed) (past : List Deed) (txn : ℕ) (sent : BodyParts) → IsPast (deed ∷ past) (deeds_of cluster actor items) → deed.act ≡ Begins txn sent
      → IsBody cluster items (next_id (node_of actor) start past) sent → Spends past → Goes deed past (Begins txn sent)
  begins deed past txn sent within act_is sent_is spends = by (id_eq (next_id (node_of actor) start past) x) refl (ballot_eq zero_ballot b) refl
    where
      by : (c : Bool) → id_eq (next_id (node_of actor) start past) x ≡ c → (z : Bool) → ballot_eq zero_ballot b ≡ z
          → Allows n b (counted (map (λ store. PreAccept own store (next_id (node_of actor) start past) zero_ballot sent) (stores_used cluster.layout sent)) + spent x b past)
          (cond c (Some (begun sent)) (at_x past)) (Begun (deed ∷ past))
      by false other z is =
          passes deed past (counted (map (λ store. PreAccept own store (next_id (node_of actor) start past) zero_ballot sent) (stores_used cluster.layout sent)))
          (none_counted (is_of_attempt x b) (λ store. PreAccept own store (next_id (node_of actor) start past) zero_ballot sent) (stores_used cluster.layout sent)
          (λ store. ap (λ c. c && ballot_eq zero_ballot b) other)) spends
      by true drawn false is =
          let none : counted (map (λ store. PreAccept own store (next_id (node_of actor) start past) zero_ballot sent) (stores_used cluster.layout sent)) ≡ 0 =
          none_counted (is_of_attempt x b) (λ store. PreAccept own store (next_id (node_of actor) start past) zero_ballot sent) (stores_used cluster.layout sent)
          (λ store. ap (λ c. c && ballot_eq zero_ballot b) drawn ∙ is) in
          ends n b (spent x b past) (counted (map (λ store. PreAccept own store (next_id (node_of actor) start past) zero_ballot sent) (stores_used cluster.layout sent)) + spent x b past)
          (at_x past) (Some (begun sent)) (Begun past) (Begun (deed ∷ past)) (omega (arith, none)) (started_back cluster.layout (node_of actor) start x b deed past)
          (λ at next ballot. true≢false
          (sym ((ballot_order.decides zero_ballot b).1 (ap (λ (k : Attempt). k.ballot) (some_is (begun sent) at next) ∙ ballot)) ∙ is)) spends
      by true drawn true is =
          let its = (id_order.decides (next_id (node_of actor) start past) x).0 drawn in
          let at_zero = sym ((ballot_order.decides zero_ballot b).0 is) in
          first_sent (counted (map (λ store. PreAccept own store (next_id (node_of actor) start past) zero_ballot sent) (stores_used cluster.layout sent))) (spent x b past) (begun sent) (Begun (deed ∷ past))
          (subst (λ k. counted (map (λ store. PreAccept own store (next_id (node_of actor) start past) zero_ballot sent) (stores_used cluster.layout sent)) ≤ k)
          (as_many sent (same_body sent (subst (λ y. IsBody cluster items y sent) its sent_is)))
          (at_most_all (is_of_attempt x b) (λ store. PreAccept own store (next_id (node_of actor) start past) zero_ballot sent) (stores_used cluster.layout sent)))
          (no_more (spent x b past) (Begun past) spends.begun_once (λ s. not_begun_again cluster.layout (node_of actor) start x b past s its at_zero)) refl
          (record { deed = deed; past = past; at = Here deed past; draws = subst IsDraw (sym act_is) (DrawsId txn sent); by = inl (ap (λ (y : TxnId). y.0) its, at_zero) })

  recovers : (deed : Deed) (past : List Deed) (y : TxnId) (sent : BodyParts) → deed.act ≡ Recovers y sent
      → IsBody cluster items y sent → Spends past → Goes deed past (Recovers y sent)
  recovers deed past y sent act_is sent_is spends = by (id_eq y x) refl (ballot_eq (next_ballot (node_of actor) start past) b) refl
    where
      by : (c : Bool) → id_eq y x ≡ c → (z : Bool) → ballot_eq (next_ballot (node_of actor) start past) b ≡ z
          → Allows n b (counted (map (λ store. Recover own store y (next_ballot (node_of actor) start past) sent) (stores_used cluster.layout sent)) + spent x b past)
          (cond c (Some (recovering (next_ballot (node_of actor) start past) sent)) (at_x past)) (Begun (deed ∷ past))
      by false other z is =
          passes deed past (counted (map (λ store. Recover own store y (next_ballot (node_of actor) start past) sent) (stores_used cluster.layout sent)))
          (none_counted (is_of_attempt x b) (λ store. Recover own store y (next_ballot (node_of actor) start past) sent) (stores_used cluster.layout sent)
          (λ store. ap (λ c. c && ballot_eq (next_ballot (node_of actor) start past) b) other)) spends
      by true about false is =
          let none : counted (map (λ store. Recover own store y (next_ballot (node_of actor) start past) sent) (stores_used cluster.layout sent)) ≡ 0 =
          none_counted (is_of_attempt x b) (λ store. Recover own store y (next_ballot (node_of actor) start past) sent) (stores_used cluster.layout sent)
          (λ store. ap (λ c. c && ballot_eq (next_ballot (node_of actor) start past) b) about ∙ is) in
          ends n b (spent x b past) (counted (map (λ store. Recover own store y (next_ballot (node_of actor) start past) sent) (stores_used cluster.layout sent)) + spent x b past)
          (at_x past) (Some (recovering (next_ballot (node_of actor) start past) sent)) (Begun past) (Begun (deed ∷ past)) (omega (arith, none))
          (started_back cluster.layout (node_of actor) start x b deed past)
          (λ at next ballot. true≢false
          (sym ((ballot_order.decides (next_ballot (node_of actor) start past) b).1
          (ap (λ (k : Attempt). k.ballot) (some_is (recovering (next_ballot (node_of actor) start past) sent) at next) ∙ ballot)) ∙ is)) spends
      by true about true is =
          let its = (id_order.decides y x).0 about in
          let drawn = sym ((ballot_order.decides (next_ballot (node_of actor) start past) b).0 is) in
          first_sent (counted (map (λ store. Recover own store y (next_ballot (node_of actor) start past) sent) (stores_used cluster.layout sent))) (spent x b past)
          (recovering (next_ballot (node_of actor) start past) sent) (Begun (deed ∷ past))
          (subst (λ k. counted (map (λ store. Recover own store y (next_ballot (node_of actor) start past) sent) (stores_used cluster.layout sent)) ≤ k)
          (as_many sent (same_body sent (subst (λ z. IsBody cluster items z sent) its sent_is)))
          (at_most_all (is_of_attempt x b) (λ store. Recover own store y (next_ballot (node_of actor) start past) sent) (stores_used cluster.layout sent)))
          (no_more (spent x b past) (Begun past) spends.begun_once (λ s. not_recovered_again cluster.layout (node_of actor) start x b past s drawn)) refl
          (record { deed = deed; past = past; at = Here deed past; draws = subst IsDraw (sym act_is) (DrawsBallot y sent); by = inr drawn })

  -- a message, or a slow event, is about x or about another transaction
  attempted : (deed : Deed) (past : List Deed) (y : TxnId) (react : TxnId → Attempt → Reaction) (out : List Message)
      → IsPast past (deeds_of cluster actor items)
      → out ≡ (emitted_by (react y) (attempt_of cluster.layout (node_of actor) start y past)).out
      → ((z : TxnId) (k : Attempt) → (a : Attempt) × ((move : Move) × ((react z k ≡ made cluster.layout own z a move) × GoesOn cluster.layout z k a move)))
      → Spends past
      → Allows n b (counted out + spent x b past) (where_about (id_eq y x) (next_by (react x)) (at_x past)) (Begun (deed ∷ past))
  attempted deed past y react out within out_is moved spends = by (id_eq y x) refl
    where
      other : id_eq y x ≡ false → (o : Option Attempt) → counted (emitted_by (react y) o).out ≡ 0
      other apart None = refl
      other apart (Some k) =
          let m = moved y k in
          ap (λ (r : Reaction). counted r.emitted.out) m.1.1.0
          ∙ other_made cluster.layout own x b y m.0 m.1.0 (ap (λ c. c && ballot_eq m.0.ballot b) apart)

      mine : (o : Option Attempt) → at_x past ≡ o → Allows n b (counted (emitted_by (react x) o).out + spent x b past) (next_by (react x) o) (Begun (deed ∷ past))
      mine None is = subst (λ o. Allows n b (0 + spent x b past) o (Begun (deed ∷ past))) is (passes deed past 0 refl spends)
      mine (Some k) is =
          let m = moved x k in
          subst (λ (r : Reaction). Allows n b (counted r.emitted.out + spent x b past) r.next (Begun (deed ∷ past))) (sym m.1.1.0)
          (reacts deed past k m.0 m.1.0 within is m.1.1.1 spends)

      by : (c : Bool) → id_eq y x ≡ c → Allows n b (counted out + spent x b past) (where_about c (next_by (react x)) (at_x past)) (Begun (deed ∷ past))
      by false apart = passes deed past (counted out) (ap counted out_is ∙ other apart (attempt_of cluster.layout (node_of actor) start y past)) spends
      by true about =
          subst (λ list. Allows n b (counted list + spent x b past) (next_by (react x) (at_x past)) (Begun (deed ∷ past)))
          (sym (out_is ∙ ap (λ z. (emitted_by (react z) (attempt_of cluster.layout (node_of actor) start z past)).out) ((id_order.decides y x).0 about)))
          (mine (at_x past) refl)

  told_silent : (from to : Actor) (id : TxnId) (ballot : Ballot) (o : Outcome) (before : Option Attempt)
      → [] ≡ (emitted_by (λ a. reaction cluster.layout own id a (Inform from to id ballot o)) before).out
  told_silent from to id ballot o None = refl
  told_silent from to id ballot o (Some a) = sym (ap (λ (r : Reaction). r.emitted.out) (told_stays cluster.layout own id a from to id ballot o))

  taking_out : (past : List Deed) (m : Message) → Told cluster.layout (node_of actor) start past m
      → (on_taking cluster.layout (node_of actor) start past m).out
      ≡ (emitted_by (λ a. reaction cluster.layout own (id_of m) a m) (attempt_of cluster.layout (node_of actor) start (id_of m) past)).out
  taking_out past m (Outcome_told from to id ballot o) = told_silent from to id ballot o (attempt_of cluster.layout (node_of actor) start id past)
  taking_out past m (Other_told n is) = ap (λ (e : Emitted). e.out) is

  goes : (deed : Deed) (past : List Deed) (act : Act) → IsPast (deed ∷ past) (deeds_of cluster actor items)
      → StandsAt deed past (deeds_of cluster actor items) → deed.act ≡ act → Spends past → Goes deed past act
  goes deed past (Begins txn sent) within at act_is spends =
      begins deed past txn sent within act_is (begin_body cluster items h actor node deed past txn sent at act_is) spends
  goes deed past (Recovers y sent) within at act_is spends =
      recovers deed past y sent act_is (recover_body cluster items h actor node deed past y sent at act_is) spends
  goes deed past (Slows y) within at act_is spends =
      attempted deed past y (λ z. slow_reaction cluster.layout own z) (node_emits cluster.layout (node_of actor) start past (Slows y)).out
      (IsPast-rest deed past (deeds_of cluster actor items) within) refl
      (λ z k. let r = slow_moved cluster.layout own z k in
      (k, (r.move, (r.is, record { same_ballot = refl; same_body = refl; same_phase = refl; room = moves_room cluster.layout z k r.move r.moves }))))
      spends
  goes deed past (Takes m) within at act_is spends =
      attempted deed past (id_of m) (λ z a. reaction cluster.layout own z a m) (on_taking cluster.layout (node_of actor) start past m).out
      (IsPast-rest deed past (deeds_of cluster actor items) within)
      (taking_out past m (told cluster.layout (node_of actor) start past m))
      (λ z k. let r = hears_all cluster.layout own z k m in (r.moving, (r.move, (r.is, hears_room cluster.layout z k m r.moving r.move r.hears))))
      spends
  goes deed past Restarts within at act_is spends =
      ends n b (spent x b past) (0 + spent x b past) (at_x past) None (Begun past) (Begun (deed ∷ past)) (omega arith)
      (started_back cluster.layout (node_of actor) start x b deed past) (λ at next ballot. not_none at next) spends

  spends_all : (deeds : List Deed) → IsPast deeds (deeds_of cluster actor items) → EachEmits cluster.layout (node_of actor) start deeds → Spends deeds
  spends_all [] within each = record { most = omega arith; now = λ at is ballot. absurd (not_none at is); begun_once = inl refl }
  spends_all (deed ∷ past) within each =
      subst (λ (e : Emitted). Allows n b (counted e.out + spent x b past) (at_x (deed ∷ past)) (Begun (deed ∷ past))) (sym each.0)
      (goes deed past deed.act within
      (StandsAt-whole deed past (deed ∷ past) (deeds_of cluster actor items) (Here deed past) within) refl
      (spends_all past (IsPast-rest deed past (deeds_of cluster actor items) within) each.1))

-- ---- all that nodes sent for the attempt, its home sent

from_node : (layout : Layout) (node begin : ℕ) (past : List Deed) (act : Act) (m : Message) → NodeSends layout node begin past act m → from_of m ≡ actor_of node 0
from_node layout node begin past act m (AsksForVotes txn body store) = refl
from_node layout node begin past act m (AsksForViews x body store) = refl
from_node layout node begin past act m (Proposes on x a s store r) = refl
from_node layout node begin past act m (Commits on x a s store r) = refl
from_node layout node begin past act m (Decides on x a path s store r noted) = refl
from_node layout node begin past act m (Finishes on x a s outcome store r) = refl
from_node layout node begin past act m (Informs on x a s outcome r) = refl

none_passes : (p : Message → Bool) (ms : List Message) → ((m : Message) → IsIn m ms → p m ≡ true → ⊥) → count_by p ms ≡ 0
none_passes p [] h = refl
none_passes p (m ∷ ms) h =
    let here : one_if (p m) ≡ 0 = ap one_if (false_from_ne_true (p m) (h m (First m ms))) in
    omega (arith, count_by-cons p m ms, here, none_passes p ms (λ k there. h k (Later k m ms there)))

module _ (cluster : Cluster) (x : TxnId) (b : Ballot) where
  abbrev home : Actor
  home = home_of x b

  -- a node that isn't the home sends nothing for it
  others_silent : (earlier : List Item) (e : Entry) → EachStands cluster (Step e ∷ earlier) → is_node e.actor ≡ true → same_actor e.actor home ≡ false
      → count_by (is_of_attempt x b) e.emitted.out ≡ 0
  others_silent earlier e h node other = none_passes (is_of_attempt x b) e.emitted.out none
    where
      sent_by_it : (m : Message) → IsIn m e.emitted.out → from_of m ≡ e.actor
      sent_by_it m there =
          let on : StandsOn cluster earlier e = h.0 in
          from_node cluster.layout (node_of e.actor) (clock_start cluster.starts (node_of e.actor)) (deeds_of cluster e.actor earlier) on.act m
          (node_sends cluster.layout (node_of e.actor) (clock_start cluster.starts (node_of e.actor)) (deeds_of cluster e.actor earlier) on.act m
          (subst (λ (k : Emitted). IsIn m k.out) (node_emitted cluster earlier e on e.actor on.act node refl on.act_is) there))
          ∙ node_is_actor e.actor node

      none : (m : Message) → IsIn m e.emitted.out → is_of_attempt x b m ≡ true → ⊥
      none m there its =
          let parts = and_parts (id_eq (id_of m) x) (ballot_eq (ballot_of m) b) its in
          let from_it = sent_by_it m there in
          let at_home = homes_are_one cluster (Step e ∷ earlier) h m
          (record { entry = e; earlier = earlier; at = Here (Step e) earlier; sent = there })
          (ap is_node from_it ∙ node) in
          true≢false
          (sym (same_itself home)
          ∙ ap (λ a. same_actor a home)
          (ap (λ y. home_of y b) (sym ((id_order.decides (id_of m) x).0 parts.0))
          ∙ ap (home_of (id_of m)) (sym ((ballot_order.decides (ballot_of m) b).0 parts.1)) ∙ sym at_home ∙ from_it)
          ∙ other)

  own_entry : (earlier : List Item) (e : Entry) → StandsOn cluster earlier e → is_node e.actor ≡ true → sent_for_attempt x b earlier ≡ spent x b (deeds_of cluster home earlier)
      → cond (is_node e.actor) (count_by (is_of_attempt x b) e.emitted.out) 0 + sent_for_attempt x b earlier
      ≡ spent x b (deed_if true cluster earlier e ++ deeds_of cluster home earlier)
  own_entry earlier e on node rest =
      subst (λ c. cond c (count_by (is_of_attempt x b) e.emitted.out) 0 + sent_for_attempt x b earlier ≡ spent x b (deed_if true cluster earlier e ++ deeds_of cluster home earlier)) (sym node)
      (subst (λ o. count_by (is_of_attempt x b) e.emitted.out + sent_for_attempt x b earlier ≡ spent x b (deed_with o e.emitted ++ deeds_of cluster home earlier)) (sym on.act_is)
      (ap (λ k. count_by (is_of_attempt x b) e.emitted.out + k) rest))

  entry_spent : (earlier : List Item) (e : Entry) → EachStands cluster (Step e ∷ earlier) → sent_for_attempt x b earlier ≡ spent x b (deeds_of cluster home earlier)
      → sent_for_attempt x b (Step e ∷ earlier) ≡ spent x b (deeds_of cluster home (Step e ∷ earlier))
  entry_spent earlier e h rest = by (is_node e.actor) refl (same_actor e.actor home) refl
    where
      by : (node : Bool) → is_node e.actor ≡ node → (its : Bool) → same_actor e.actor home ≡ its
          → cond (is_node e.actor) (count_by (is_of_attempt x b) e.emitted.out) 0 + sent_for_attempt x b earlier
          ≡ spent x b (deed_if its cluster earlier e ++ deeds_of cluster home earlier)
      by node is true its = own_entry earlier e h.0 (ap is_node (same e.actor home its) ∙ home_is_node x b) rest
      by true is false other =
          let none : cond (is_node e.actor) (count_by (is_of_attempt x b) e.emitted.out) 0 ≡ 0 =
          ap (λ c. cond c (count_by (is_of_attempt x b) e.emitted.out) 0) is ∙ others_silent earlier e h is other in
          omega (arith, none, rest)
      by false is false other =
          let none : cond (is_node e.actor) (count_by (is_of_attempt x b) e.emitted.out) 0 ≡ 0 = ap (λ c. cond c (count_by (is_of_attempt x b) e.emitted.out) 0) is in
          omega (arith, none, rest)

  sent_is_spent : (items : List Item) → EachStands cluster items → sent_for_attempt x b items ≡ spent x b (deeds_of cluster home items)
  sent_is_spent [] h = refl
  sent_is_spent (Skipped step cause ∷ earlier) h = omega (arith, sent_is_spent earlier h.1)
  sent_is_spent (Down actor ∷ earlier) h = omega (arith, sent_is_spent earlier h.1)
  sent_is_spent (Step e ∷ earlier) h = entry_spent earlier e h (sent_is_spent earlier h.1)

pub attempts_are_short : (cluster : Cluster) (items : List Item) → EachStands cluster items → AttemptsAreShort cluster items
attempts_are_short cluster items h x b body is =
    let a : Actor = home_of x b in
    let node = home_is_node x b in
    let spends = spends_all cluster items h a node x b body is (deeds_of cluster a items) (Whole (deeds_of cluster a items)) (each_emits cluster a items h node) in
    five (length (stores_used cluster.layout body)) (spent x b (deeds_of cluster a items)) (sent_for_attempt x b items) (sent_is_spent cluster x b items h) spends.most
  where
    five : (n c d : ℕ) → d ≡ c → c ≤ allowed n 4 + 1 → d ≤ 5 * n + 1
    five n c d same h = omega (arith, same, h)
