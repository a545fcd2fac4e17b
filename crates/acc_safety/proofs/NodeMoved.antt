-- However an attempt moves, it is one of the moves, with its reason.
use Rattle.std.proofs.Common.{◌≡◌, ℕ, Bool, true, false, not, ◌&&◌, ◌||◌, cond, List, [], ◌∷◌, Option, None, Some, refl, sym, subst, inl, inr}
use Rattle.std.specs.List.{list_any}
use Rattle.std.proofs.lemmas.Bool.{true≢false, and_parts}
use Rattle.acc_stamp.specs.declared.stamps.Stamp.{Stamp}
use Rattle.acc_stamp.specs.declared.stamps.TxnId.{TxnId}
use Rattle.acc_stamp.specs.declared.stamps.Ballot.{Ballot}
use Rattle.acc_stamp.specs.declared.actors.Actor.{Actor}
use Rattle.acc_stamp.specs.Actor.{actor_of}
use Rattle.acc_stamp.specs.Stamp.{id_eq, ballot_eq, ballot_lt, zero_ballot}
use Rattle.acc_stamp.proofs.Order.{id_order, ballot_order}
use Rattle.acc_topology.specs.Layout.{Layout}
use Rattle.acc_deps.specs.declared.shards.ShardDeps.{ShardDeps}
use Rattle.acc_deps.specs.declared.records.Settled.{Settled}
use Rattle.acc_deps.specs.declared.records.View.{View}
use Rattle.acc_deps.specs.declared.records.Choice.TheVariants.{Accept as GoAccept, Commit as GoCommit}
use Rattle.acc_deps.specs.Records.{Stably, stably_all, least_stably, Claim, claims_of, highest_claim, choice_of_claim, waits_of}
use Rattle.acc_txn.specs.declared.outcome.Outcome.{Outcome}
use Rattle.acc_message.specs.declared.message.Message.{Message}
use Rattle.acc_message.specs.declared.message.Message.TheVariants.{PreAccept, PreAcceptOk, Accept, AcceptOk, Commit, CommitOk, Stable, ReadOk, Apply, Recover, RecoverOk, Nack, Decided, Inform}
use Rattle.acc_message.specs.declared.note.Path.TheVariants.{Fast, Adopted}
use Rattle.acc_message.specs.Fields.{id_of, ballot_of}
use Rattle.acc_message.specs.Attempts.{Attempt, Phase, Voting, Recovering, Accepting, Committing, Executing, counts, majority_everywhere, fast_everywhere, fast_lost_somewhere, may_be_fast_everywhere, outcome_from}
use Rattle.acc_message.specs.RecoveryDecision.{Go, views_in, by_stable, by_claim, without_records, unless_blocked}
use Rattle.acc_message.specs.Coordinator.{Reaction, stay, when, either, begun, recovering, own_stamp, highest_vote, agreed, path_of, decide, slow_down, go, follow_ruling, finish_with, after_answer, with_answer, end, is_decided, is_past_recover, on_message, reaction, may_slow_down, slow_reaction}
use Rattle.acc_message.specs.NodeRules.{Act, Begins, Recovers, Slows, Takes, Restarts, Deed, next_id, next_ballot, next_by, where_about, attempt_after, attempt_of}
use Rattle.acc_safety.specs.NodeMoves.{NoRecords, Move, Wait, Propose, CommitTo, DecideBy, FinishWith, BlockBy, EndBy, made, Moves, WaitsForMore, DecidesFast, SlowsDown, AdoptsStable, AdoptsCommitted, AdoptsAccepted, ProposesGreatest, ProposesOwn, IsBlocked, CommitsIt, DecidesCommitted, HasOutcome, Hears, Ignores, Counts, IsEnded, TakesOver, ToSlow, ToMessage, AttemptMoves, Keeps, BeginsIt, RecoversIt, MovesOn, Forgets}

-- a reaction is that of a move
pub record Moved (layout : Layout) (own : Actor) (x : TxnId) (a : Attempt) (r : Reaction) : Type 0 where
  pub move : Move
  pub moves : Moves layout x a move
  pub is : r ≡ made layout own x a move

-- a reaction to a message is that of a move, of this attempt or of this with the message among its answers
pub record Heard (layout : Layout) (own : Actor) (x : TxnId) (a : Attempt) (m : Message) (r : Reaction) : Type 0 where
  pub moving : Attempt
  pub move : Move
  pub hears : Hears layout x a m moving move
  pub is : r ≡ made layout own x moving move

module _ (layout : Layout) (own : Actor) (x : TxnId) where
  moved : (a : Attempt) (move : Move) → Moves layout x a move → Moved layout own x a (made layout own x a move)
  moved a move moves = record { move = move; moves = moves; is = refl }

  waits : (a : Attempt) → Moved layout own x a (stay a)
  waits a = moved a Wait WaitsForMore

  when_moved : (b : Bool) (go_on : Attempt → Reaction) (a : Attempt) → (b ≡ true → Moved layout own x a (go_on a)) → Moved layout own x a (when b go_on a)
  when_moved true go_on a h = h refl
  when_moved false go_on a h = waits a

  either_moved : (b : Bool) (one other : Attempt → Reaction) (a : Attempt) → (b ≡ true → Moved layout own x a (one a))
      → (b ≡ false → Moved layout own x a (other a)) → Moved layout own x a (either b one other a)
  either_moved true one other a h k = h refl
  either_moved false one other a h k = k refl

  -- ---- a recovery

  claim_moved : (a : Attempt) (c : Claim) (b : Bool) → c.is_committed ≡ b → a.phase ≡ Recovering → majority_everywhere layout x a.body a.answers ≡ true
      → highest_claim (claims_of (views_in a.answers)) ≡ Some c
      → Moved layout own x a (follow_ruling layout own x a (Go (choice_of_claim c)))
  claim_moved a c true is phase major h =
      subst (λ b. Moved layout own x a (go layout own x a (cond b (GoCommit c.settled) (GoAccept c.settled)))) (sym is) (moved a (CommitTo c.settled) (AdoptsCommitted c phase major h is))
  claim_moved a c false is phase major h =
      subst (λ b. Moved layout own x a (go layout own x a (cond b (GoCommit c.settled) (GoAccept c.settled)))) (sym is) (moved a (Propose c.settled) (AdoptsAccepted c phase major h is))

  free_moved : (a : Attempt) (ids : List TxnId) → waits_of (views_in a.answers) ≡ ids → a.phase ≡ Recovering → majority_everywhere layout x a.body a.answers ≡ true
      → NoRecords a.answers → (may_be_fast_everywhere layout x a.body a.answers ≡ true)
      → (list_any (λ (v : View). v.superseded) (views_in a.answers) ≡ false)
      → Moved layout own x a (follow_ruling layout own x a (unless_blocked x a.answers ids))
  free_moved a [] is phase major none possible not_superseded =
      moved a (Propose (own_stamp x a)) (ProposesOwn phase major none (record { may_be_fast = possible; not_superseded = not_superseded; no_waits = is }))
  free_moved a (y ∷ ids) is phase major none possible not_superseded = moved a (BlockBy (y ∷ ids)) (IsBlocked (y ∷ ids) phase major)

  bare_moved : (a : Attempt) (possible superseded : Bool) → may_be_fast_everywhere layout x a.body a.answers ≡ possible
      → list_any (λ (v : View). v.superseded) (views_in a.answers) ≡ superseded
      → a.phase ≡ Recovering → majority_everywhere layout x a.body a.answers ≡ true → NoRecords a.answers
      → Moved layout own x a (follow_ruling layout own x a (cond (not possible || superseded)
      (Go (GoAccept (highest_vote x a)))
      (unless_blocked x a.answers (waits_of (views_in a.answers)))))
  bare_moved a false superseded is is_too phase major none = moved a (Propose (highest_vote x a)) (ProposesGreatest phase major none (inl is))
  bare_moved a true true is is_too phase major none = moved a (Propose (highest_vote x a)) (ProposesGreatest phase major none (inr is_too))
  bare_moved a true false is is_too phase major none = free_moved a (waits_of (views_in a.answers)) refl phase major none is is_too

  claims_moved : (a : Attempt) (o : Option Claim) → highest_claim (claims_of (views_in a.answers)) ≡ o
      → least_stably (stably_all (views_in a.answers)) ≡ None
      → a.phase ≡ Recovering → majority_everywhere layout x a.body a.answers ≡ true
      → Moved layout own x a (follow_ruling layout own x a (by_claim o (without_records layout x a.body a.answers)))
  claims_moved a (Some c) is no_stable phase major = claim_moved a c c.is_committed refl phase major is
  claims_moved a None is no_stable phase major =
      bare_moved a (may_be_fast_everywhere layout x a.body a.answers) (list_any (λ (v : View). v.superseded) (views_in a.answers)) refl refl phase major
      (record { no_stable = no_stable; no_claim = is })

  stables_moved : (a : Attempt) (o : Option Stably) → least_stably (stably_all (views_in a.answers)) ≡ o
      → a.phase ≡ Recovering → majority_everywhere layout x a.body a.answers ≡ true
      → Moved layout own x a (follow_ruling layout own x a
      (by_stable o (by_claim (highest_claim (claims_of (views_in a.answers))) (without_records layout x a.body a.answers))))
  stables_moved a (Some s) is phase major = moved a (DecideBy Adopted s.settled) (AdoptsStable s phase major is)
  stables_moved a None is phase major = claims_moved a (highest_claim (claims_of (views_in a.answers))) refl is phase major

  -- ---- an answer that counts

  outcome_moved : (a : Attempt) (s : Settled) (o : Option Outcome) → outcome_from layout a.body a.answers ≡ o → a.phase ≡ Executing s
      → Moved layout own x a (finish_with layout own x a s o)
  outcome_moved a s None is phase = waits a
  outcome_moved a s (Some outcome) is phase = moved a (FinishWith s outcome) (HasOutcome s outcome phase is)

  answer_moved : (a : Attempt) (phase : Phase) → a.phase ≡ phase → Moved layout own x a (after_answer layout own x a phase)
  answer_moved a Voting is =
      either_moved (fast_everywhere layout x a.body a.answers) _ _ a (λ fast. moved a (DecideBy Fast (own_stamp x a)) (DecidesFast is fast))
      (λ _. when_moved (majority_everywhere layout x a.body a.answers && fast_lost_somewhere layout x a.body a.answers) (slow_down layout own x) a
      (λ both. moved a (Propose (highest_vote x a)) (SlowsDown is (and_parts (majority_everywhere layout x a.body a.answers) (fast_lost_somewhere layout x a.body a.answers) both).0)))
  answer_moved a Recovering is =
      when_moved (majority_everywhere layout x a.body a.answers) _ a
      (λ major. stables_moved a (least_stably (stably_all (views_in a.answers))) refl is major)
  answer_moved a (Accepting s) is =
      when_moved (majority_everywhere layout x a.body a.answers) _ a (λ major. moved a (CommitTo (agreed x s a)) (CommitsIt s is major))
  answer_moved a (Committing s) is =
      when_moved (majority_everywhere layout x a.body a.answers) _ a (λ major. moved a (DecideBy (path_of a.ballot) s) (DecidesCommitted s is major))
  answer_moved a (Executing s) is = outcome_moved a s (outcome_from layout a.body a.answers) refl is

  -- ---- a message

  ignored : (a : Attempt) (m : Message) → Heard layout own x a m (stay a)
  ignored a m = record { moving = a; move = Wait; hears = Ignores m; is = refl }

  counted_heard : (a : Attempt) (m : Message) (b : Bool) → ballot_of m ≡ a.ballot → counts layout a m ≡ b
      → Heard layout own x a m (when b (λ a. after_answer layout own x (with_answer a m) a.phase) a)
  counted_heard a m false same is = ignored a m
  counted_heard a m true same is =
      let h = answer_moved (with_answer a m) a.phase refl in
      record { moving = with_answer a m; move = h.move; hears = Counts m h.move same is h.moves; is = h.is }

  nack_heard : (a : Attempt) (from to : Actor) (id : TxnId) (ballot promised : Ballot) (b : Bool) → ballot ≡ a.ballot
      → (not (is_decided a.phase) && ballot_lt a.ballot promised) ≡ b
      → Heard layout own x a (Nack from to id ballot promised) (when b (λ a. end x a promised) a)
  nack_heard a from to id ballot promised false same is = ignored a (Nack from to id ballot promised)
  nack_heard a from to id ballot promised true same is =
      record {
        moving = a;
        move = EndBy promised;
        hears = IsEnded from to id ballot promised same (and_parts (not (is_decided a.phase)) (ballot_lt a.ballot promised) is).1;
        is = refl;
      }

  not_true : (b : Bool) → not b ≡ true → b ≡ false
  not_true true h = absurd (true≢false (sym h))
  not_true false h = refl

  decided_heard : (a : Attempt) (from to : Actor) (id : TxnId) (ballot : Ballot) (t : Stamp) (deps : List ShardDeps) (b : Bool) → ballot ≡ a.ballot
      → (not (is_decided a.phase) && (is_past_recover a.phase || ballot_eq a.ballot zero_ballot)) ≡ b
      → Heard layout own x a (Decided from to id ballot t deps) (when b (λ a. decide layout own x a Adopted (record { t = t; deps = deps })) a)
  decided_heard a from to id ballot t deps false same is = ignored a (Decided from to id ballot t deps)
  decided_heard a from to id ballot t deps true same is =
      let parts = and_parts (not (is_decided a.phase)) (is_past_recover a.phase || ballot_eq a.ballot zero_ballot) is in
      record {
        moving = a;
        move = DecideBy Adopted (record { t = t; deps = deps });
        hears = TakesOver from to id ballot t deps same (not_true (is_decided a.phase) parts.0) parts.1;
        is = refl;
      }

  message_heard : (a : Attempt) (m : Message) → ballot_of m ≡ a.ballot → Heard layout own x a m (on_message layout own x a m)
  message_heard a (Nack from to id ballot promised) same = nack_heard a from to id ballot promised (not (is_decided a.phase) && ballot_lt a.ballot promised) same refl
  message_heard a (Decided from to id ballot t deps) same =
      decided_heard a from to id ballot t deps (not (is_decided a.phase) && (is_past_recover a.phase || ballot_eq a.ballot zero_ballot)) same refl
  message_heard a (PreAccept from to id ballot body) same = counted_heard a (PreAccept from to id ballot body) _ same refl
  message_heard a (PreAcceptOk from to id ballot vote deps) same = counted_heard a (PreAcceptOk from to id ballot vote deps) _ same refl
  message_heard a (Accept from to id ballot body t deps) same = counted_heard a (Accept from to id ballot body t deps) _ same refl
  message_heard a (AcceptOk from to id ballot deps) same = counted_heard a (AcceptOk from to id ballot deps) _ same refl
  message_heard a (Commit from to id ballot body t deps) same = counted_heard a (Commit from to id ballot body t deps) _ same refl
  message_heard a (CommitOk from to id ballot) same = counted_heard a (CommitOk from to id ballot) _ same refl
  message_heard a (Stable from to id ballot body t deps) same = counted_heard a (Stable from to id ballot body t deps) _ same refl
  message_heard a (ReadOk from to id ballot answer) same = counted_heard a (ReadOk from to id ballot answer) _ same refl
  message_heard a (Apply from to id ballot body t deps outcome) same = counted_heard a (Apply from to id ballot body t deps outcome) _ same refl
  message_heard a (Recover from to id ballot body) same = counted_heard a (Recover from to id ballot body) _ same refl
  message_heard a (RecoverOk from to id ballot view) same = counted_heard a (RecoverOk from to id ballot view) _ same refl
  message_heard a (Inform from to id ballot outcome) same = counted_heard a (Inform from to id ballot outcome) _ same refl

  reaction_heard : (a : Attempt) (m : Message) (b : Bool) → ballot_eq (ballot_of m) a.ballot ≡ b → Heard layout own x a m (when b (λ a. on_message layout own x a m) a)
  reaction_heard a m true is = message_heard a m ((ballot_order.decides (ballot_of m) a.ballot).0 is)
  reaction_heard a m false is = ignored a m

  pub hears_all : (a : Attempt) (m : Message) → Heard layout own x a m (reaction layout own x a m)
  hears_all a m = reaction_heard a m (ballot_eq (ballot_of m) a.ballot) refl

  slow_by : (a : Attempt) (phase : Phase) → a.phase ≡ phase → may_slow_down layout x a phase ≡ true → Moved layout own x a (slow_down layout own x a)
  slow_by a Voting is h = moved a (Propose (highest_vote x a)) (SlowsDown is h)
  slow_by a Recovering is h = absurd (true≢false (sym h))
  slow_by a (Accepting s) is h = absurd (true≢false (sym h))
  slow_by a (Committing s) is h = absurd (true≢false (sym h))
  slow_by a (Executing s) is h = absurd (true≢false (sym h))

  pub slow_moved : (a : Attempt) → Moved layout own x a (slow_reaction layout own x a)
  slow_moved a = when_moved (may_slow_down layout x a a.phase) (slow_down layout own x) a (slow_by a a.phase refl)

-- ---- the attempt after a step

module _ (layout : Layout) (node start : ℕ) (past : List Deed) where
  kept : (x : TxnId) (act : Act) (before : Option Attempt) → attempt_of layout node start x past ≡ before → AttemptMoves layout node start past x act before
  kept x act before is = subst (AttemptMoves layout node start past x act) is (Keeps act)

  slow_after : (x : TxnId) (before : Option Attempt) → attempt_of layout node start x past ≡ before
      → AttemptMoves layout node start past x (Slows x) (next_by (slow_reaction layout (actor_of node 0) x) before)
  slow_after x None is = kept x (Slows x) None is
  slow_after x (Some a) is =
      let h = slow_moved layout (actor_of node 0) x a in
      subst (λ (r : Reaction). AttemptMoves layout node start past x (Slows x) r.next) (sym h.is)
      (MovesOn (Slows x) a h.move (ToSlow a h.move is h.moves))

  message_after : (x : TxnId) (m : Message) (before : Option Attempt) → attempt_of layout node start x past ≡ before → id_of m ≡ x
      → AttemptMoves layout node start past x (Takes m) (next_by (λ a. reaction layout (actor_of node 0) x a m) before)
  message_after x m None is about = kept x (Takes m) None is
  message_after x m (Some a) is about =
      let h = hears_all layout (actor_of node 0) x a m in
      subst (λ (r : Reaction). AttemptMoves layout node start past x (Takes m) r.next) (sym h.is)
      (MovesOn (Takes m) h.moving h.move (ToMessage a h.moving m h.move is about h.hears))

  pub attempt_moves : (x : TxnId) (act : Act) → AttemptMoves layout node start past x act (attempt_after layout node start x past (attempt_of layout node start x past) act)
  attempt_moves x (Begins txn body) = by (id_eq (next_id node start past) x) refl
    where
      by : (b : Bool) → id_eq (next_id node start past) x ≡ b
          → AttemptMoves layout node start past x (Begins txn body) (cond b (Some (begun body)) (attempt_of layout node start x past))
      by true is = BeginsIt txn body ((id_order.decides (next_id node start past) x).0 is)
      by false is = Keeps (Begins txn body)
  attempt_moves x (Recovers y body) = by (id_eq y x) refl
    where
      by : (b : Bool) → id_eq y x ≡ b
          → AttemptMoves layout node start past x (Recovers y body) (cond b (Some (recovering (next_ballot node start past) body)) (attempt_of layout node start x past))
      by true is =
          subst (λ z. AttemptMoves layout node start past x (Recovers z body) (Some (recovering (next_ballot node start past) body)))
          (sym ((id_order.decides y x).0 is)) (RecoversIt body)
      by false is = Keeps (Recovers y body)
  attempt_moves x (Slows y) = by (id_eq y x) refl
    where
      by : (b : Bool) → id_eq y x ≡ b
          → AttemptMoves layout node start past x (Slows y) (where_about b (next_by (slow_reaction layout (actor_of node 0) x)) (attempt_of layout node start x past))
      by true is =
          subst (λ z. AttemptMoves layout node start past x (Slows z) (next_by (slow_reaction layout (actor_of node 0) x) (attempt_of layout node start x past)))
          (sym ((id_order.decides y x).0 is)) (slow_after x (attempt_of layout node start x past) refl)
      by false is = Keeps (Slows y)
  attempt_moves x (Takes m) = by (id_eq (id_of m) x) refl
    where
      by : (b : Bool) → id_eq (id_of m) x ≡ b
          → AttemptMoves layout node start past x (Takes m)
          (where_about b (next_by (λ a. reaction layout (actor_of node 0) x a m)) (attempt_of layout node start x past))
      by true is = message_after x m (attempt_of layout node start x past) refl ((id_order.decides (id_of m) x).0 is)
      by false is = Keeps (Takes m)
  attempt_moves x Restarts = Forgets
