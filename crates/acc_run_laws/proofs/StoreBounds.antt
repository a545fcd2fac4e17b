-- What a store sends is bounded, where what it took and sent before is, and its greatest height is below the bound.
use Rattle.std.proofs.Common.{◌≡◌, ℕ, zero, suc, ◌+◌, ◌≤◌, ◌<◌, ◌/◌, ◌*◌, ◌%◌, ◌==◌, max, Bool, true, false, not, cond, ◌&&◌, List, [], ◌∷◌, Option, None, Some, map, filter, refl, sym, ◌∙◌, subst, arith}
use Rattle.std.specs.Prelude.{IfSome}
use Rattle.std.specs.List.{AllByRecursion}
use Rattle.std.proofs.lemmas.Bool.{true≢false, cond_both}
use Rattle.acc_stamp.specs.declared.stamps.Stamp.{Stamp}
use Rattle.acc_stamp.specs.declared.stamps.TxnId.{TxnId}
use Rattle.acc_stamp.specs.declared.stamps.Ballot.{Ballot}
use Rattle.acc_stamp.specs.declared.actors.Actor.{Actor}
use Rattle.acc_stamp.specs.Actor.{actor_of, shard_of, node_of_stamp, home_of}
use Rattle.acc_stamp.specs.Stamp.{ballot_lt, ballot_eq, stamp_lt, id_eq, id_lt, zero_ballot}
use Rattle.acc_stamp.specs.Rising.{ids_union}
use Rattle.acc_stamp.proofs.Order.{id_order}
use Rattle.acc_stamp.proofs.Rising.{IsRisingBy-union, each_filter}
use Rattle.acc_topology.specs.Layout.{Layout}
use Rattle.acc_deps.specs.declared.records.Accepted.{Accepted}
use Rattle.acc_deps.specs.declared.records.Settled.{Settled}
use Rattle.acc_txn.specs.Rules.{IsBody}
use Rattle.acc_txn.specs.declared.parts.BodyParts.{BodyParts}
use Rattle.acc_message.specs.declared.message.Message.{Message}
use Rattle.acc_message.specs.declared.message.Message.TheVariants.{PreAccept, PreAcceptOk, Accept, AcceptOk, Commit, CommitOk, Stable, ReadOk, Apply, Recover, RecoverOk, Nack, Decided, Inform}
use Rattle.acc_message.specs.Fields.{from_of, to_of, id_of, ballot_of, top_of}
use Rattle.acc_message.specs.Shares.{conflict_in}
use Rattle.acc_message.specs.Taken.{Taken, taking, body_in, Heard, is_heard, learnt, known, heard_body, rivals}
use Rattle.acc_message.specs.VoteRule.{Vote, vote_in, first_vote, vote_of, drawn_as, drawn_in, greatest_drawn, greatest_h, all_below, ids_below, known_below, new_vote, vote_given, vote_for}
use Rattle.acc_message.specs.BallotRules.{grants, granted_by, promise_of, accepted_of, committed_of, stable_of, kept_outcome}
use Rattle.acc_message.specs.Evidence.{is_awaited, view_of}
use Rattle.acc_message.specs.Opening.{cells_at}
use Rattle.acc_message.specs.StoreRules.{read_by, stable_ballots_in, stable_ballots}
use Rattle.acc_message.specs.Run.{is_node}
use Rattle.acc_message_code.specs.Short.{IsShortAnswer}
use Rattle.acc_safety.specs.Places.{IsIn, StandsAt}
use Rattle.acc_safety.specs.StoreSends.{StoreSends, Votes, Accepts, Commits, Reveals, ReadsAtOnce, ReadsOnOpening, Refuses, Tells}
use Rattle.acc_safety.proofs.PlaceOrder.{StandsAt-IsIn, each_at}
use Rattle.acc_safety.proofs.DrawFacts.{is_node-node}
use Rattle.acc_safety.proofs.StoreNotions.{accepted_from, committed_from, Settling, ByStable, ByApply, stable_from}
use Rattle.acc_run_laws.proofs.Bounded.{IsLow, IsActor, zero_low, AreBegunDeps, IsBoundedSettled, IsBoundedAccepted, IsBoundedView, HasBoundedContent, IsKnownId, IsAddressed, IsBounded, bounded_top, bounded_body}
use Rattle.acc_run_laws.proofs.Unions.{or_else_if, each_mapped, each_with, each_union, of_begun}
use Rattle.acc_run_laws.proofs.Cells.{TookBounded, kept_short, cells_hold, all_written_hold, read_short, kept_or_short}

-- ---- nodes and stores

node_actor : (origin : ℕ) → origin < 1024 → IsActor (actor_of (origin / 64) 0)
node_actor origin lt = record { number = number origin lt; shard = shard origin }
  where
    number : (origin : ℕ) → origin < 1024 → origin / 64 * 64 + 0 < 1024
    number origin lt = omega (arith, lt)

    shard : (origin : ℕ) → (origin / 64 * 64 + 0) % 64 ≤ 15
    shard origin = omega arith

pub home_actor : (most : ℕ) (x : TxnId) (b : Ballot) → IsLow most x.0 → IsLow most b.0 → IsActor (home_of x b)
home_actor most x b h k =
    cond_both (ballot_eq b zero_ballot) (node_of_stamp x.0) (node_of_stamp b.0) (λ node. IsActor (actor_of node 0))
    (λ _. node_actor x.0.origin h.origin) (λ _. node_actor b.0.origin k.origin)

pub stamp_actor : (most : ℕ) (s : Stamp) → IsLow most s → IsActor (actor_of (node_of_stamp s) 0)
stamp_actor most s h = node_actor s.origin h.origin

module _ (most : ℕ) (begun : List TxnId) where
  -- what it sent before
  abbrev pub SentBounded : List Taken → Type 0
  SentBounded history = AllByRecursion (λ (step : Taken). AllByRecursion (IsBounded most begun) step.sent) history

  -- ---- what is known

  record IsKnownHeard (k : Heard) : Type 0 where
    pub there : IsIn k.id begun
    pub rules : IsBody k.body

  learnt_known : (b : Bool) (x : TxnId) (o : Option BodyParts) (before : List Heard) → AllByRecursion IsKnownHeard before
      → IsIn x begun → IfSome o IsBody → AllByRecursion IsKnownHeard (learnt b x o before)
  learnt_known true x o before h there rules = h
  learnt_known false x None before h there rules = h
  learnt_known false x (Some body) before h there rules = (record { there = there; rules = rules }, h)

  body_if : (m : Message) → IsBounded most begun m → (o : Option BodyParts) → body_in m ≡ o → IfSome o IsBody
  body_if m h None is = tt
  body_if m h (Some body) is = bounded_body most begun m body h is

  known_each : (history : List Taken) → TookBounded most begun history → AllByRecursion IsKnownHeard (known history)
  known_each [] h = tt
  known_each (step ∷ past) h =
      learnt_known (is_heard (id_of step.message) (known past)) (id_of step.message) (body_in step.message) (known past) (known_each past h.1)
      h.0.id.there (body_if step.message h.0 (body_in step.message) refl)

  heard_rules : (x : TxnId) (heard : List Heard) → AllByRecursion IsKnownHeard heard → IfSome (heard_body x heard) IsBody
  heard_rules x [] h = tt
  heard_rules x (k ∷ heard) h = cond_both (id_eq k.id x) (Some k.body) (heard_body x heard) (λ o. IfSome o IsBody) (λ _. h.0.rules) (λ _. heard_rules x heard h.1)

  abbrev AreBegun : List TxnId → Type 0
  AreBegun ids = AllByRecursion (λ id. IsIn id begun) ids

  rival_ids : (layout : Layout) (shard : ℕ) (history : List Taken) (x : TxnId) (body : BodyParts) (test : Heard → Bool) → TookBounded most begun history
      → AreBegun (ids_union [] (map (λ (k : Heard). k.id) (filter test (rivals layout shard history x body))))
  rival_ids layout shard history x body test took =
      each_union (λ id. IsIn id begun) id_lt [] (map (λ (k : Heard). k.id) (filter test (rivals layout shard history x body))) tt
      (each_mapped IsKnownHeard (λ id. IsIn id begun) (λ (k : Heard). k.id) (filter test (rivals layout shard history x body)) (λ k h. h.there)
      (each_filter IsKnownHeard test (rivals layout shard history x body)
      (each_filter IsKnownHeard (λ (k : Heard). not (id_eq k.id x) && conflict_in layout shard k.body body) (known history) (known_each history took))))

  -- ---- promises and records

  promise_low : (history : List Taken) (x : TxnId) → TookBounded most begun history → IsLow most (promise_of history x).0
  promise_low [] x h = zero_low most
  promise_low (step ∷ past) x h =
      cond_both (ballot_lt (promise_of past x) (granted_by x step.message step.sent)) (granted_by x step.message step.sent) (promise_of past x) (λ (b : Ballot). IsLow most b.0)
      (λ _. cond_both (grants x step.message step.sent) (ballot_of step.message) zero_ballot (λ (b : Ballot). IsLow most b.0) (λ _. h.0.ballot) (λ _. zero_low most))
      (λ _. promise_low past x h.1)

  took_at : (history : List Taken) → TookBounded most begun history → (step : Taken) (past : List Taken) → StandsAt step past history → IsBounded most begun step.message
  took_at history took step past at = each_at (λ (s : Taken). IsBounded most begun s.message) step history took (StandsAt-IsIn step past history at)

  accepted_bounded : (history : List Taken) → TookBounded most begun history → (x : TxnId) (o : Option Accepted) → accepted_of history x ≡ o → IfSome o (IsBoundedAccepted most begun)
  accepted_bounded history took x None is = tt
  accepted_bounded history took x (Some a) is =
      let from = accepted_from history x a is in
      let m = subst (IsBounded most begun) from.message_is (took_at history took from.step from.past from.at) in
      record { ballot = m.ballot; t = m.content.t_low; deps = m.content.deps_begun }

  committed_bounded : (history : List Taken) → TookBounded most begun history → (x : TxnId) (o : Option Accepted) → committed_of history x ≡ o → IfSome o (IsBoundedAccepted most begun)
  committed_bounded history took x None is = tt
  committed_bounded history took x (Some a) is =
      let from = committed_from history x a is in
      let m = subst (IsBounded most begun) from.message_is (took_at history took from.step from.past from.at) in
      record { ballot = m.ballot; t = m.content.t_low; deps = m.content.deps_begun }

  settling_bounded : (x : TxnId) (s : Settled) (m : Message) → Settling x s m → IsBounded most begun m → IsBoundedSettled most begun s
  settling_bounded x s m (ByStable from to b body) h = record { t = h.content.t_low; deps = h.content.deps_begun }
  settling_bounded x s m (ByApply from to b body outcome) h = record { t = h.content.0.t_low; deps = h.content.0.deps_begun }

  stable_bounded : (history : List Taken) → TookBounded most begun history → (x : TxnId) (o : Option Settled) → stable_of history x ≡ o → IfSome o (IsBoundedSettled most begun)
  stable_bounded history took x None is = tt
  stable_bounded history took x (Some s) is =
      let from = stable_from history x s is in settling_bounded x s from.step.message from.settling (took_at history took from.step from.past from.at)

  -- ---- votes

  record IsBoundedVote (v : Vote) : Type 0 where
    pub vote : IsLow most v.vote
    pub deps : AreBegunDeps begun v.deps

  vote_if : (x id : TxnId) (v : Vote) → IsBoundedVote v → IfSome (cond (id_eq id x) (Some v) None) IsBoundedVote
  vote_if x id v h = cond_both (id_eq id x) (Some v) None (λ o. IfSome o IsBoundedVote) (λ _. h) (λ _. tt)

  vote_in_bounded : (x : TxnId) (m : Message) → HasBoundedContent most begun m → IfSome (vote_in x m) IsBoundedVote
  vote_in_bounded x (PreAcceptOk from to id ballot vote deps) h = vote_if x id (record { vote = vote; deps = deps }) (record { vote = h.0; deps = h.1 })
  vote_in_bounded x (RecoverOk from to id ballot view) h = vote_if x id (record { vote = view.vote; deps = view.vote_deps }) (record { vote = h.vote; deps = h.vote_deps })
  vote_in_bounded x (PreAccept from to id ballot body) h = tt
  vote_in_bounded x (Accept from to id ballot body t deps) h = tt
  vote_in_bounded x (AcceptOk from to id ballot deps) h = tt
  vote_in_bounded x (Commit from to id ballot body t deps) h = tt
  vote_in_bounded x (CommitOk from to id ballot) h = tt
  vote_in_bounded x (Stable from to id ballot body t deps) h = tt
  vote_in_bounded x (ReadOk from to id ballot answer) h = tt
  vote_in_bounded x (Apply from to id ballot body t deps outcome) h = tt
  vote_in_bounded x (Recover from to id ballot body) h = tt
  vote_in_bounded x (Nack from to id ballot promised) h = tt
  vote_in_bounded x (Decided from to id ballot t deps) h = tt
  vote_in_bounded x (Inform from to id ballot outcome) h = tt

  first_vote_bounded : (x : TxnId) (sent : List Message) → AllByRecursion (IsBounded most begun) sent → IfSome (first_vote x sent) IsBoundedVote
  first_vote_bounded x [] h = tt
  first_vote_bounded x (m ∷ ms) h = or_else_if IsBoundedVote (vote_in x m) (first_vote x ms) (vote_in_bounded x m h.0.content) (first_vote_bounded x ms h.1)

  vote_bounded : (history : List Taken) (x : TxnId) → SentBounded history → IfSome (vote_of history x) IsBoundedVote
  vote_bounded [] x h = tt
  vote_bounded (step ∷ past) x h = or_else_if IsBoundedVote (vote_of past x) (first_vote x step.sent) (vote_bounded past x h.1) (first_vote_bounded x step.sent h.0)

  given_bounded : (o : Option Vote) (made : Vote) → IfSome o IsBoundedVote → IsBoundedVote made → IsBoundedVote (vote_given o made)
  given_bounded None made h k = k
  given_bounded (Some earlier) made h k = h

  -- ---- the greatest height

  drawn_as_low : (origin : ℕ) (s : Stamp) → IsLow most s → drawn_as origin s ≤ most
  drawn_as_low origin s h = cond_both (s.origin == origin) s.h 0 (λ n. n ≤ most) (λ _. h.h) (λ _. omega arith)

  drawn_low : (origin : ℕ) (m : Message) → HasBoundedContent most begun m → drawn_in origin m ≤ most
  drawn_low origin (PreAcceptOk from to id ballot vote deps) h = drawn_as_low origin vote h.0
  drawn_low origin (RecoverOk from to id ballot view) h = drawn_as_low origin view.vote h.vote
  drawn_low origin (PreAccept from to id ballot body) h = omega arith
  drawn_low origin (Accept from to id ballot body t deps) h = omega arith
  drawn_low origin (AcceptOk from to id ballot deps) h = omega arith
  drawn_low origin (Commit from to id ballot body t deps) h = omega arith
  drawn_low origin (CommitOk from to id ballot) h = omega arith
  drawn_low origin (Stable from to id ballot body t deps) h = omega arith
  drawn_low origin (ReadOk from to id ballot answer) h = omega arith
  drawn_low origin (Apply from to id ballot body t deps outcome) h = omega arith
  drawn_low origin (Recover from to id ballot body) h = omega arith
  drawn_low origin (Nack from to id ballot promised) h = omega arith
  drawn_low origin (Decided from to id ballot t deps) h = omega arith
  drawn_low origin (Inform from to id ballot outcome) h = omega arith

  both_low : (p q : ℕ) → p ≤ most → q ≤ most → max p q ≤ most
  both_low p q h k = omega (arith, h, k)

  greatest_drawn_low : (origin : ℕ) (sent : List Message) → AllByRecursion (IsBounded most begun) sent → greatest_drawn origin sent ≤ most
  greatest_drawn_low origin [] h = omega arith
  greatest_drawn_low origin (m ∷ ms) h = both_low (drawn_in origin m) (greatest_drawn origin ms) (drawn_low origin m h.0.content) (greatest_drawn_low origin ms h.1)

  pub greatest_h_low : (own : Actor) (history : List Taken) → TookBounded most begun history → SentBounded history → greatest_h own history ≤ most
  greatest_h_low own [] took sent = omega arith
  greatest_h_low own (step ∷ past) took sent =
      both_low (max (top_of step.message) (greatest_drawn own.0 step.sent)) (greatest_h own past)
      (both_low (top_of step.message) (greatest_drawn own.0 step.sent) (bounded_top most begun step.message took.0) (greatest_drawn_low own.0 step.sent sent.0))
      (greatest_h_low own past took.1 sent.1)

  -- ---- waiters

  record IsKnownBallot (x : TxnId) (b : Ballot) : Type 0 where
    pub id : IsKnownId most begun x
    pub ballot : IsLow most b.0

  ballots_in_known : (x : TxnId) (m : Message) (ballots : List Ballot) → IsBounded most begun m → AllByRecursion (IsKnownBallot x) ballots
      → AllByRecursion (IsKnownBallot x) (stable_ballots_in x m ballots)
  ballots_in_known x (Stable from to id ballot body t deps) ballots h k =
      cond_both (id_eq id x) _ ballots (AllByRecursion (IsKnownBallot x))
      (λ same. each_with (IsKnownBallot x) ballot_lt ballot ballots (record { id = subst (IsKnownId most begun) ((id_order.decides id x).0 same) h.id; ballot = h.ballot }) k)
      (λ _. k)
  ballots_in_known x (PreAccept from to id ballot body) ballots h k = k
  ballots_in_known x (PreAcceptOk from to id ballot vote deps) ballots h k = k
  ballots_in_known x (Accept from to id ballot body t deps) ballots h k = k
  ballots_in_known x (AcceptOk from to id ballot deps) ballots h k = k
  ballots_in_known x (Commit from to id ballot body t deps) ballots h k = k
  ballots_in_known x (CommitOk from to id ballot) ballots h k = k
  ballots_in_known x (ReadOk from to id ballot answer) ballots h k = k
  ballots_in_known x (Apply from to id ballot body t deps outcome) ballots h k = k
  ballots_in_known x (Recover from to id ballot body) ballots h k = k
  ballots_in_known x (RecoverOk from to id ballot view) ballots h k = k
  ballots_in_known x (Nack from to id ballot promised) ballots h k = k
  ballots_in_known x (Decided from to id ballot t deps) ballots h k = k
  ballots_in_known x (Inform from to id ballot outcome) ballots h k = k

  ballots_known : (history : List Taken) (x : TxnId) → TookBounded most begun history → AllByRecursion (IsKnownBallot x) (stable_ballots history x)
  ballots_known [] x h = tt
  ballots_known (step ∷ past) x h = ballots_in_known x step.message (stable_ballots past x) h.0 (ballots_known past x h.1)

  -- ---- what a store sends

  module _ (layout : Layout) (own : Actor) (is_actor : IsActor own) (is_store : is_node own ≡ false) where
    least_shard : 1 ≤ shard_of own
    least_shard = above (shard_of own) is_store
      where
        above : (shard : ℕ) → (shard == 0) ≡ false → 1 ≤ shard
        above zero e = absurd (true≢false e)
        above (suc shard) e = omega arith

    known_below_begun : (history : List Taken) (x : TxnId) (body : BodyParts) (bound : Stamp) → TookBounded most begun history
        → AreBegunDeps begun (known_below layout own history x body bound)
    known_below_begun history x body bound took =
        of_begun begun (shard_of own) (ids_below bound (rivals layout (shard_of own) history x body)) least_shard is_actor.shard
        (rival_ids layout (shard_of own) history x body (λ (k : Heard). stamp_lt k.id.0 bound) took)

    new_vote_bounded : (history : List Taken) (x : TxnId) (body : BodyParts) → TookBounded most begun history → 1 + greatest_h own history ≤ most → IsLow most x.0
        → IsBoundedVote (new_vote layout own history x body)
    new_vote_bounded history x body took great low = record {
      vote =
          cond_both (all_below history x (rivals layout (shard_of own) history x body)) x.0 (record { h = 1 + greatest_h own history; origin = own.0 }) (IsLow most)
          (λ _. low) (λ _. record { h = great; origin = is_actor.number });
      deps = known_below_begun history x body x.0 took;
    }

    home_address : (m : Message) (x : TxnId) (b : Ballot) → to_of m ≡ home_of x b → IsLow most x.0 → IsLow most b.0 → IsAddressed most begun m
    home_address m x b is h k = record {
      to = subst IsActor (sym is) (home_actor most x b h k);
      brings = λ store. absurd (true≢false (sym (is_node-node _) ∙ subst (λ a. is_node a ≡ false) is store));
    }

    answer_bounded : (m : Message) (x : TxnId) (b : Ballot) → from_of m ≡ own → to_of m ≡ home_of x b → id_of m ≡ x → ballot_of m ≡ b → IsKnownId most begun x → IsLow most b.0
        → HasBoundedContent most begun m → IsBounded most begun m
    answer_bounded m x b from to id ballot known low content = record {
      from = subst IsActor (sym from) is_actor;
      address = home_address m x b to known.low low;
      id = subst (IsKnownId most begun) (sym id) known;
      ballot = subst (λ (c : Ballot). IsLow most c.0) (sym ballot) low;
      content = content;
    }

    module _ (past : List Taken) (took : TookBounded most begun past) (sent : SentBounded past) where
      vote_for_bounded : (taken : Message) (x : TxnId) (body : BodyParts) → IsBounded most begun taken → IsLow most x.0 → 1 + greatest_h own (taking taken past) ≤ most
          → IsBoundedVote (vote_for layout own past (taking taken past) x body)
      vote_for_bounded taken x body h low great =
          given_bounded (vote_of past x) (new_vote layout own (taking taken past) x body) (vote_bounded past x sent)
          (new_vote_bounded (taking taken past) x body (h, took) great low)

      view_bounded : (taken : Message) (x : TxnId) (body : BodyParts) → IsBounded most begun taken → IsLow most x.0 → 1 + greatest_h own (taking taken past) ≤ most
          → IsBoundedView most begun (view_of layout own past (taking taken past) x body)
      view_bounded taken x body h low great =
          let vote = vote_for_bounded taken x body h low great in
          record {
            store = is_actor;
            vote = vote.vote;
            vote_deps = vote.deps;
            accepted = accepted_bounded past took x (accepted_of past x) refl;
            committed = committed_bounded past took x (committed_of past x) refl;
            stable = stable_bounded past took x (stable_of past x) refl;
            waits = rival_ids layout (shard_of own) (taking taken past) x body (λ (k : Heard). is_awaited past x k.id) (h, took);
            waits_rise = IsRisingBy-union id_order [] (map (λ (k : Heard). k.id) (filter (λ (k : Heard). is_awaited past x k.id) (rivals layout (shard_of own) (taking taken past) x body))) tt;
          }

      pub store_bounded : (taken m : Message) → IsBounded most begun taken → 1 + greatest_h own (taking taken past) ≤ most → StoreSends layout own past taken m → IsBounded most begun m
      store_bounded taken m h great (Votes from to x b body counting v s p k e) =
          let vote = vote_for_bounded (PreAccept from to x b body) x counting h h.id.low great in
          let mine : IsBoundedVote v = subst IsBoundedVote (sym e) vote in
          answer_bounded (PreAcceptOk own (home_of x b) x b v.vote v.deps) x b refl refl refl refl h.id h.ballot (mine.vote, mine.deps)
      store_bounded taken m h great (Accepts from to x b body counting t proposed deps s p k e) =
          answer_bounded (AcceptOk own (home_of x b) x b deps) x b refl refl refl refl h.id h.ballot
          (subst (AreBegunDeps begun) (sym e) (known_below_begun (taking (Accept from to x b body t proposed) past) x counting t (h, took)))
      store_bounded taken m h great (Commits from to x b body t deps s p) = answer_bounded (CommitOk own (home_of x b) x b) x b refl refl refl refl h.id h.ballot tt
      store_bounded taken m h great (Reveals from to x b body counting view p k e) =
          answer_bounded (RecoverOk own (home_of x b) x b view) x b refl refl refl refl h.id h.ballot
          (subst (IsBoundedView most begun) (sym e) (view_bounded (Recover from to x b body) x counting h h.id.low great))
      store_bounded taken m h great (ReadsAtOnce from to x b body t deps answer p e) =
          answer_bounded (ReadOk own (home_of x b) x b answer) x b refl refl refl refl h.id h.ballot
          (subst IsShortAnswer (sym e)
          (kept_or_short most begun (kept_outcome past x) (read_by layout (shard_of own) (heard_body x (known past)) (cells_at layout (shard_of own) past))
          (kept_short most begun past x took)
          (read_short most begun layout (shard_of own) (heard_body x (known past)) (cells_at layout (shard_of own) past) (heard_rules x (known past) (known_each past took))
          (cells_hold most begun layout (shard_of own) past took))))
      store_bounded taken m h great (ReadsOnOpening n c b answer before among opens there e) =
          let b_known = each_at (IsKnownBallot c.id) b (stable_ballots (taking taken past) c.id) (ballots_known (taking taken past) c.id (h, took)) there in
          answer_bounded (ReadOk own (home_of c.id b) c.id b answer) c.id b refl refl refl refl b_known.id b_known.ballot
          (subst IsShortAnswer (sym e)
          (read_short most begun layout (shard_of own) (heard_body c.id (known (taking taken past))) _ (heard_rules c.id (known (taking taken past)) (known_each (taking taken past) (h, took)))
          (all_written_hold most begun layout (shard_of own) (taking taken past) (h, took) before (cells_at layout (shard_of own) past) (cells_hold most begun layout (shard_of own) past took))))
      store_bounded taken m h great (Refuses n promised e) =
          answer_bounded (Nack own (home_of (id_of taken) (ballot_of taken)) (id_of taken) (ballot_of taken) promised) (id_of taken) (ballot_of taken) refl refl refl refl h.id h.ballot
          (subst (λ (b : Ballot). IsLow most b.0) (sym e) (promise_low past (id_of taken) took))
      store_bounded taken m h great (Tells n s e) =
          let settled : IsBoundedSettled most begun s = stable_bounded past took (id_of taken) (Some s) e in
          answer_bounded (Decided own (home_of (id_of taken) (ballot_of taken)) (id_of taken) (ballot_of taken) s.t s.deps) (id_of taken) (ballot_of taken) refl refl refl refl h.id h.ballot
          (settled.t, settled.deps)
