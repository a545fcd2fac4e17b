-- The phases of an attempt only advance.
use Rattle.std.proofs.Common.{◌≡◌, ℕ, suc, ◌≤◌, false, List, ◌∷◌, Option, Some, refl, sym, ◌∙◌, ap, subst, ◌⊎◌, inl, inr, ⊎_elim, arith}
use Rattle.std.proofs.lemmas.Bool.{true≢false}
use Rattle.acc_stamp.specs.declared.stamps.TxnId.{TxnId}
use Rattle.acc_stamp.specs.declared.stamps.Ballot.{Ballot}
use Rattle.acc_stamp.specs.Actor.{actor_of}
use Rattle.acc_stamp.specs.Stamp.{zero_ballot}
use Rattle.acc_stamp.proofs.Order.{ballot_order}
use Rattle.acc_topology.specs.Layout.{Layout}
use Rattle.acc_deps.specs.declared.records.Settled.{Settled}
use Rattle.acc_message.specs.declared.message.Message.{Message}
use Rattle.acc_message.specs.declared.note.Path.{Path}
use Rattle.acc_message.specs.Attempts.{Attempt, Phase, Voting, Recovering, Accepting, Committing, Executing}
use Rattle.acc_message.specs.Coordinator.{begun, recovering, in_phase, with_answer, is_decided}
use Rattle.acc_message.specs.NodeRules.{Act, Deed, next_id, next_ballot, attempt_of}
use Rattle.acc_actor_laws.proofs.Standing.{not_none}
use Rattle.acc_actor_laws.proofs.OpeningFacts.{some_is}
use Rattle.acc_safety.specs.Places.{IsPast, Whole, Behind}
use Rattle.acc_safety.specs.NodeMoves.{Move, Wait, Propose, CommitTo, DecideBy, FinishWith, BlockBy, EndBy, made, Moves, DecidesFast, SlowsDown, AdoptsStable, AdoptsCommitted, AdoptsAccepted, ProposesGreatest, ProposesOwn, CommitsIt, DecidesCommitted, Hears, Ignores, Counts, IsEnded, TakesOver, Reacts, ToSlow, ToMessage, AttemptMoves, Keeps, BeginsIt, RecoversIt, MovesOn, Forgets}
use Rattle.acc_safety.specs.Attempted.{Origin, FromBegin, FromRecover}
use Rattle.acc_safety.proofs.PlaceOrder.{StandsAt-whole}
use Rattle.acc_safety.proofs.NodeMoved.{attempt_moves}
use Rattle.acc_safety.proofs.Attempted.{origin_of}
use Rattle.acc_safety.proofs.Draws.{IsDraw, DrawsId, DrawsBallot, draw_differs, not_zero}

abbrev pub rank : Phase → ℕ
rank Voting = 0
rank Recovering = 0
rank (Accepting s) = 1
rank (Committing s) = 2
rank (Executing s) = 3

low : (phase other : Phase) (n : ℕ) → phase ≡ other → rank other ≤ n → rank phase ≤ n
low phase other n same h = subst (λ p. rank p ≤ n) (sym same) h

-- what proposes has no proposal yet, and what commits has no commit
pub proposes_low : (layout : Layout) (x : TxnId) (a : Attempt) (s : Settled) → Moves layout x a (Propose s) → rank a.phase ≤ 0
proposes_low layout x a s (SlowsDown phase major) = low a.phase Voting 0 phase (omega arith)
proposes_low layout x a s (AdoptsAccepted c phase major is kind) = low a.phase Recovering 0 phase (omega arith)
proposes_low layout x a s (ProposesGreatest phase major none ruled_out) = low a.phase Recovering 0 phase (omega arith)
proposes_low layout x a s (ProposesOwn phase major none free) = low a.phase Recovering 0 phase (omega arith)

pub commits_low : (layout : Layout) (x : TxnId) (a : Attempt) (s : Settled) → Moves layout x a (CommitTo s) → rank a.phase ≤ 1
commits_low layout x a s (AdoptsCommitted c phase major is kind) = low a.phase Recovering 1 phase (omega arith)
commits_low layout x a s (CommitsIt p phase major) = low a.phase (Accepting p) 1 phase (omega arith)

module _ (layout : Layout) (node start : ℕ) (x : TxnId) where
  -- an attempt that follows a move has the same ballot, and is as far or further
  record Follows (a next : Attempt) : Type 0 where
    pub same_ballot : next.ballot ≡ a.ballot
    pub onward : (next.phase ≡ a.phase) ⊎ (suc (rank a.phase) ≤ rank next.phase)

  further : (a next : Attempt) → Follows a next → rank a.phase ≤ rank next.phase
  further a next f =
      ⊎_elim (λ same. subst (λ p. rank a.phase ≤ rank p) (sym same) (omega arith)) (λ more. down (rank a.phase) (rank next.phase) more) f.onward
    where
      down : (m n : ℕ) → suc m ≤ n → m ≤ n
      down m n h = omega arith

  decides_low : (a : Attempt) (path : Path) (s : Settled) → Moves layout x a (DecideBy path s) → suc (rank a.phase) ≤ 3
  decides_low a path s (DecidesFast phase fast) = subst (λ p. suc (rank p) ≤ 3) (sym phase) (omega arith)
  decides_low a path s (AdoptsStable r phase major is) = subst (λ p. suc (rank p) ≤ 3) (sym phase) (omega arith)
  decides_low a path s (DecidesCommitted r phase major) = subst (λ p. suc (rank p) ≤ 3) (sym phase) (omega arith)

  undecided_low : (phase : Phase) → is_decided phase ≡ false → suc (rank phase) ≤ 3
  undecided_low Voting h = omega arith
  undecided_low Recovering h = omega arith
  undecided_low (Accepting s) h = omega arith
  undecided_low (Committing s) h = omega arith
  undecided_low (Executing s) h = absurd (true≢false h)

  one_more : (m n : ℕ) → m ≤ n → suc m ≤ suc n
  one_more m n h = omega arith

  follows_move : (a next : Attempt) (move : Move) → Moves layout x a move → (made layout (actor_of node 0) x a move).next ≡ Some next → Follows a next
  follows_move a next Wait moves is = subst (Follows a) (some_is a next is) (record { same_ballot = refl; onward = inl refl })
  follows_move a next (Propose s) moves is =
      subst (Follows a) (some_is (in_phase a (Accepting s)) next is)
      (record { same_ballot = refl; onward = inr (one_more (rank a.phase) 0 (proposes_low layout x a s moves)) })
  follows_move a next (CommitTo s) moves is =
      subst (Follows a) (some_is (in_phase a (Committing s)) next is)
      (record { same_ballot = refl; onward = inr (one_more (rank a.phase) 1 (commits_low layout x a s moves)) })
  follows_move a next (DecideBy path s) moves is =
      subst (Follows a) (some_is (in_phase a (Executing s)) next is) (record { same_ballot = refl; onward = inr (decides_low a path s moves) })
  follows_move a next (FinishWith s outcome) moves is = absurd (not_none next is)
  follows_move a next (BlockBy by) moves is = absurd (not_none next is)
  follows_move a next (EndBy by) moves is = absurd (not_none next is)

  follows_hears : (before : Attempt) (m : Message) (a next : Attempt) (move : Move) → Hears layout x before m a move
      → (made layout (actor_of node 0) x a move).next ≡ Some next → Follows before next
  follows_hears before m a next move (Ignores n) is = subst (Follows before) (some_is before next is) (record { same_ballot = refl; onward = inl refl })
  follows_hears before m a next move (Counts n moved same counting moves) is =
      let f = follows_move (with_answer before n) next moved moves is in record { same_ballot = f.same_ballot; onward = f.onward }
  follows_hears before m a next move (IsEnded from to id ballot promised same above) is = absurd (not_none next is)
  follows_hears before m a next move (TakesOver from to id ballot t deps same undecided ready) is =
      subst (Follows before) (some_is (in_phase before (Executing (record { t = t; deps = deps }))) next is)
      (record { same_ballot = refl; onward = inr (undecided_low before.phase undecided) })

  -- the attempt before
  record Followed (past : List Deed) (next : Attempt) : Type 0 where
    pub attempt : Attempt
    pub is : attempt_of layout node start x past ≡ Some attempt
    pub follows : Follows attempt next

  followed_reacts : (past : List Deed) (act : Act) (a next : Attempt) (move : Move) → Reacts layout node start past x act a move
      → (made layout (actor_of node 0) x a move).next ≡ Some next → Followed past next
  followed_reacts past act a next move (ToSlow b moved is moves) next_is = record { attempt = b; is = is; follows = follows_move b next moved moves next_is }
  followed_reacts past act a next move (ToMessage before b m moved is about hears) next_is =
      record { attempt = before; is = is; follows = follows_hears before m b next moved hears next_is }

  -- ---- from an older to a newer attempt of one ballot

  again_begun : (old past : List Deed) (a : Attempt) → IsPast old past → Origin layout node start x old a → next_id node start past ≡ x → a.ballot ≡ zero_ballot → ⊥
  again_begun old past a within (FromBegin txn deed before at act_is drawn at_zero) is same =
      draw_differs node start deed before past (StandsAt-whole deed before old past at within) (subst IsDraw (sym act_is) (DrawsId txn a.body))
      (ap (λ (y : TxnId). y.0) (drawn ∙ sym is))
  again_begun old past a within (FromRecover deed before at act_is drawn) is same =
      true≢false (sym ((ballot_order.decides (next_ballot node start before) zero_ballot).1 (sym drawn ∙ same)) ∙ not_zero node start before)

  again_recovered : (old past : List Deed) (a : Attempt) → IsPast old past → Origin layout node start x old a → a.ballot ≡ next_ballot node start past → ⊥
  again_recovered old past a within (FromBegin txn deed before at act_is drawn at_zero) same =
      true≢false (sym ((ballot_order.decides (next_ballot node start past) zero_ballot).1 (sym same ∙ at_zero)) ∙ not_zero node start past)
  again_recovered old past a within (FromRecover deed before at act_is drawn) same =
      draw_differs node start deed before past (StandsAt-whole deed before old past at within) (subst IsDraw (sym act_is) (DrawsBallot x a.body))
      (ap (λ (b : Ballot). b.0) (sym drawn ∙ same))

  advance_by : (old past : List Deed) (act : Act) (a next : Attempt) (o : Option Attempt) → IsPast old past → Origin layout node start x old a
      → AttemptMoves layout node start past x act o → o ≡ Some next → next.ballot ≡ a.ballot
      → ((before : Attempt) → attempt_of layout node start x past ≡ Some before → before.ballot ≡ a.ballot → rank a.phase ≤ rank before.phase)
      → rank a.phase ≤ rank next.phase
  advance_by old past act a next o within origin (Keeps done) is same earlier = earlier next is same
  advance_by old past act a next o within origin (BeginsIt txn body drawn) is same earlier =
      absurd (again_begun old past a within origin drawn (sym same ∙ ap (λ (b : Attempt). b.ballot) (sym (some_is (begun body) next is))))
  advance_by old past act a next o within origin (RecoversIt body) is same earlier =
      absurd (again_recovered old past a within origin (sym same ∙ ap (λ (b : Attempt). b.ballot) (sym (some_is (recovering (next_ballot node start past) body) next is))))
  advance_by old past act a next o within origin (MovesOn done moving move reacts) is same earlier =
      let f = followed_reacts past done moving next move reacts is in
      up (earlier f.attempt f.is (sym f.follows.same_ballot ∙ same)) (further f.attempt next f.follows)
    where
      up : {m n k : ℕ} → m ≤ n → n ≤ k → m ≤ k
      up h k = omega arith
  advance_by old past act a next o within origin Forgets is same earlier = absurd (not_none next is)

  -- of one ballot, a later attempt is as far or further
  pub advances : (old deeds : List Deed) (a next : Attempt) → IsPast old deeds → attempt_of layout node start x old ≡ Some a
      → attempt_of layout node start x deeds ≡ Some next → next.ballot ≡ a.ballot → rank a.phase ≤ rank next.phase
  advances old deeds a next (Whole xs) is next_is same = subst (λ (b : Attempt). rank a.phase ≤ rank b.phase) (some_is a next (sym is ∙ next_is)) (omega arith)
  advances old deeds a next (Behind deed past rest there) is next_is same =
      advance_by past rest deed.act a next (attempt_of layout node start x (deed ∷ rest)) there (origin_of layout node start x past a is)
      (attempt_moves layout node start rest x deed.act) next_is same
      (λ before before_is same_before. advances past rest a before there is before_is same_before)

  -- where it is no further, it is in the same phase
  keeps_by : (old past : List Deed) (act : Act) (a next : Attempt) (o : Option Attempt) → IsPast old past → Origin layout node start x old a
      → attempt_of layout node start x old ≡ Some a
      → AttemptMoves layout node start past x act o → o ≡ Some next → next.ballot ≡ a.ballot → rank next.phase ≤ rank a.phase
      → ((before : Attempt) → attempt_of layout node start x past ≡ Some before → before.ballot ≡ a.ballot → rank before.phase ≤ rank a.phase → before.phase ≡ a.phase)
      → next.phase ≡ a.phase
  keeps_by old past act a next o within origin is (Keeps done) next_is same low earlier = earlier next next_is same low
  keeps_by old past act a next o within origin is (BeginsIt txn body drawn) next_is same low earlier =
      absurd (again_begun old past a within origin drawn (sym same ∙ ap (λ (b : Attempt). b.ballot) (sym (some_is (begun body) next next_is))))
  keeps_by old past act a next o within origin is (RecoversIt body) next_is same low earlier =
      absurd (again_recovered old past a within origin (sym same ∙ ap (λ (b : Attempt). b.ballot) (sym (some_is (recovering (next_ballot node start past) body) next next_is))))
  keeps_by old past act a next o within origin is (MovesOn done moving move reacts) next_is same low earlier =
      let f = followed_reacts past done moving next move reacts next_is in
      let ballot = sym f.follows.same_ballot ∙ same in
      ⊎_elim
      (λ kept. kept ∙ earlier f.attempt f.is ballot (subst (λ p. rank p ≤ rank a.phase) kept low))
      (λ more. absurd (stuck (rank a.phase) (rank f.attempt.phase) (rank next.phase) (advances old past a f.attempt within is f.is ballot) more low))
      f.follows.onward
    where
      stuck : (m n k : ℕ) → m ≤ n → suc n ≤ k → k ≤ m → ⊥
      stuck m n k h l r = omega arith
  keeps_by old past act a next o within origin is Forgets next_is same low earlier = absurd (not_none next next_is)

  pub keeps_phase : (old deeds : List Deed) (a next : Attempt) → IsPast old deeds → attempt_of layout node start x old ≡ Some a
      → attempt_of layout node start x deeds ≡ Some next → next.ballot ≡ a.ballot → rank next.phase ≤ rank a.phase → next.phase ≡ a.phase
  keeps_phase old deeds a next (Whole xs) is next_is same low = ap (λ (b : Attempt). b.phase) (sym (some_is a next (sym is ∙ next_is)))
  keeps_phase old deeds a next (Behind deed past rest there) is next_is same low =
      keeps_by past rest deed.act a next (attempt_of layout node start x (deed ∷ rest)) there (origin_of layout node start x past a is) is
      (attempt_moves layout node start rest x deed.act) next_is same low
      (λ before before_is same_before low_before. keeps_phase past rest a before there is before_is same_before low_before)
