-- An attempt proposes once and commits once, and at ballot zero never also decides fast.
use Rattle.std.proofs.Common.{◌≡◌, ℕ, suc, ◌≤◌, Bool, true, false, if◌then◌else◌, List, ◌∷◌, Option, Some, refl, sym, ◌∙◌, ap, subst, arith}
use Rattle.acc_stamp.specs.declared.stamps.Stamp.{Stamp}
use Rattle.acc_stamp.specs.declared.stamps.TxnId.{TxnId}
use Rattle.acc_stamp.specs.declared.stamps.Ballot.{Ballot}
use Rattle.acc_stamp.specs.declared.actors.Actor.{Actor}
use Rattle.acc_stamp.specs.Actor.{actor_of, node_of, home_of}
use Rattle.acc_stamp.specs.Stamp.{ballot_eq, zero_ballot}
use Rattle.acc_topology.specs.Layout.{Layout}
use Rattle.acc_deps.specs.declared.shards.ShardDeps.{ShardDeps}
use Rattle.acc_deps.specs.declared.records.Settled.{Settled}
use Rattle.acc_txn.specs.declared.parts.BodyParts.{BodyParts}
use Rattle.acc_message.specs.declared.message.Message.{Message}
use Rattle.acc_message.specs.declared.message.Message.TheVariants.{Accept, Commit}
use Rattle.acc_message.specs.declared.note.Path.{Path}
use Rattle.acc_message.specs.declared.note.Path.TheVariants.{Fast, Slow, Recovered, Adopted}
use Rattle.acc_message.specs.declared.note.Note.TheVariants.{Decide as DecideNote}
use Rattle.acc_message.specs.declared.entry.Emitted.{Emitted}
use Rattle.acc_message.specs.declared.item.Item.{Item}
use Rattle.acc_message.specs.Fields.{from_of}
use Rattle.acc_message.specs.Taken.{Taken}
use Rattle.acc_message.specs.Attempts.{Attempt, Phase, Voting, Accepting, Committing, Executing}
use Rattle.acc_message.specs.Coordinator.{in_phase, with_answer, path_of}
use Rattle.acc_message.specs.NodeRules.{Act, Deed, attempt_of, node_emits}
use Rattle.acc_message.specs.Run.{Cluster, clock_start, deeds_of, is_node, EachStands}
use Rattle.acc_actor_laws.proofs.OpeningFacts.{some_is}
use Rattle.acc_actor_laws.proofs.PhaseFacts.{first_has_zero}
use Rattle.acc_safety.specs.Places.{IsIn, StandsAt, IsPast, InOrder, IsOlder, IsSame, IsNewer}
use Rattle.acc_safety.specs.Histories.{Sending, Noting, Sender, IsStore, IsNode}
use Rattle.acc_safety.specs.StoreSends.{StoreSends, Votes, Accepts, Commits, Reveals, ReadsAtOnce, ReadsOnOpening, Refuses, Tells}
use Rattle.acc_safety.specs.NodeMoves.{Move, Wait, Propose, CommitTo, DecideBy, FinishWith, BlockBy, EndBy, made, Moves, WaitsForMore, DecidesFast, SlowsDown, AdoptsStable, AdoptsCommitted, AdoptsAccepted, ProposesGreatest, ProposesOwn, IsBlocked, CommitsIt, DecidesCommitted, HasOutcome, Hears, Ignores, Counts, IsEnded, TakesOver, Reacts, ToSlow, ToMessage}
use Rattle.acc_safety.specs.Statements.{OneProposal, OneCommit, NeverBoth}
use Rattle.acc_safety.proofs.PlaceOrder.{in_order, StandsAt-IsPast, StandsAt-whole}
use Rattle.acc_safety.proofs.Bridge.{each_emits, emits_at, deeds_of-past, sender, noted_by, node_is_actor}
use Rattle.acc_safety.proofs.Attempted.{origin_of}
use Rattle.acc_safety.proofs.Frame.{store_sent, homes_are_one}
use Rattle.acc_safety.proofs.Draws.{origin_home}
use Rattle.acc_safety_laws.proofs.Acts.{Acts, IsLater, IsAccept, IsCommit, accept_sent, commit_sent, later_acts, IsDecision, decided_acts}
use Rattle.acc_safety_laws.proofs.Ranks.{rank, proposes_low, commits_low, advances}

-- the attempt of an actor at x with the ballot came to the phase in this step
pub record StageAt (cluster : Cluster) (items : List Item) (x : TxnId) (b : Ballot) (phase : Phase) (a : Actor) : Type 0 where
  pub deed : Deed
  pub past : List Deed
  pub at : StandsAt deed past (deeds_of cluster a items)
  pub before : Attempt
  pub before_is : attempt_of cluster.layout (node_of a) (clock_start cluster.starts (node_of a)) x past ≡ Some before
  pub before_ballot : before.ballot ≡ b
  pub after : Attempt
  pub after_is : attempt_of cluster.layout (node_of a) (clock_start cluster.starts (node_of a)) x (deed ∷ past) ≡ Some after
  pub after_ballot : after.ballot ≡ b
  pub after_phase : after.phase ≡ phase

pub stage_whole : (cluster : Cluster) (past items : List Item) (x : TxnId) (b : Ballot) (phase : Phase) (a : Actor) → IsPast past items
    → StageAt cluster past x b phase a → StageAt cluster items x b phase a
stage_whole cluster past items x b phase a within s =
    record {
      deed = s.deed;
      past = s.past;
      at = StandsAt-whole s.deed s.past (deeds_of cluster a past) (deeds_of cluster a items) s.at (deeds_of-past cluster a past items within);
      before = s.before;
      before_is = s.before_is;
      before_ballot = s.before_ballot;
      after = s.after;
      after_is = s.after_is;
      after_ballot = s.after_ballot;
      after_phase = s.after_phase;
    }

-- so did the attempt at the home of the ballot, which was no further than this before
pub record Stage (cluster : Cluster) (items : List Item) (x : TxnId) (b : Ballot) (phase : Phase) (most : ℕ) : Type 0 where
  pub stage : StageAt cluster items x b phase (home_of x b)
  pub low : rank stage.before.phase ≤ most

-- ---- two stages of one attempt

stage_apart : (low mid high : ℕ) → high ≤ low → suc low ≤ high → ⊥
stage_apart low mid high h k = omega arith

below_both : (n m k : ℕ) → n ≤ m → suc m ≤ k → suc n ≤ k
below_both n m k h l = omega arith

module _ (cluster : Cluster) (items : List Item) (x : TxnId) (b : Ballot) where
  abbrev at_home : List Deed → Option Attempt
  at_home past = attempt_of cluster.layout (node_of (home_of x b)) (clock_start cluster.starts (node_of (home_of x b))) x past

  stage_order : (one other : Phase) (p : StageAt cluster items x b one (home_of x b)) (q : StageAt cluster items x b other (home_of x b))
      → suc (rank p.before.phase) ≤ rank other → suc (rank q.before.phase) ≤ rank one → InOrder p.deed q.deed p.past q.past → one ≡ other
  stage_order one other p q low high (IsOlder older) =
      absurd (stage_apart (rank q.before.phase) 0 (rank one)
      (subst (λ phase. rank phase ≤ rank q.before.phase) p.after_phase
      (advances cluster.layout (node_of (home_of x b)) (clock_start cluster.starts (node_of (home_of x b))) x (p.deed ∷ p.past) q.past p.after q.before
      (StandsAt-IsPast p.deed p.past q.past older) p.after_is q.before_is (q.before_ballot ∙ sym p.after_ballot)))
      high)
  stage_order one other p q low high (IsSame same same_past) =
      sym p.after_phase
      ∙ ap (λ (k : Attempt). k.phase)
      (some_is p.after q.after (sym p.after_is ∙ ap (λ d. at_home (d ∷ p.past)) same ∙ ap (λ past. at_home (q.deed ∷ past)) same_past ∙ q.after_is))
      ∙ q.after_phase
  stage_order one other p q low high (IsNewer newer) =
      absurd (stage_apart (rank p.before.phase) 0 (rank other)
      (subst (λ phase. rank phase ≤ rank p.before.phase) q.after_phase
      (advances cluster.layout (node_of (home_of x b)) (clock_start cluster.starts (node_of (home_of x b))) x (q.deed ∷ q.past) p.past q.after p.before
      (StandsAt-IsPast q.deed q.past p.past newer) q.after_is p.before_is (p.before_ballot ∙ sym q.after_ballot)))
      low)

  -- where neither was as far before as the stage of the other, the two are one
  pub one_stage : (one other : Phase) (most least : ℕ) → Stage cluster items x b one most → Stage cluster items x b other least
      → suc most ≤ rank other → suc least ≤ rank one → one ≡ other
  one_stage one other most least p q low high =
      stage_order one other p.stage q.stage (below_both (rank p.stage.before.phase) most (rank other) p.low low)
      (below_both (rank q.stage.before.phase) least (rank one) q.low high)
      (in_order p.stage.deed q.stage.deed p.stage.past q.stage.past (deeds_of cluster (home_of x b) items) p.stage.at q.stage.at)

-- ---- the attempt before a move

-- the attempt before, no further than the one that moves
pub record Earlier (layout : Layout) (node start : ℕ) (past : List Deed) (x : TxnId) (a : Attempt) : Type 0 where
  pub attempt : Attempt
  pub is : attempt_of layout node start x past ≡ Some attempt
  pub same_ballot : attempt.ballot ≡ a.ballot
  pub same_phase : attempt.phase ≡ a.phase

earlier_hears : (layout : Layout) (node start : ℕ) (past : List Deed) (x : TxnId) (before : Attempt) (m : Message) (a : Attempt) (move : Move)
    → attempt_of layout node start x past ≡ Some before → Hears layout x before m a move → Earlier layout node start past x a
earlier_hears layout node start past x before m a move is (Ignores n) = record { attempt = before; is = is; same_ballot = refl; same_phase = refl }
earlier_hears layout node start past x before m a move is (Counts n moved same counting moves) = record { attempt = before; is = is; same_ballot = refl; same_phase = refl }
earlier_hears layout node start past x before m a move is (IsEnded from to id ballot promised same above) =
    record { attempt = before; is = is; same_ballot = refl; same_phase = refl }
earlier_hears layout node start past x before m a move is (TakesOver from to id ballot t deps same undecided ready) =
    record { attempt = before; is = is; same_ballot = refl; same_phase = refl }

pub earlier : (layout : Layout) (node start : ℕ) (past : List Deed) (x : TxnId) (act : Act) (a : Attempt) (move : Move)
    → Reacts layout node start past x act a move → Earlier layout node start past x a
earlier layout node start past x act a move (ToSlow b moved is moves) = record { attempt = b; is = is; same_ballot = refl; same_phase = refl }
earlier layout node start past x act a move (ToMessage before b m moved is about hears) = earlier_hears layout node start past x before m b moved is hears

-- a proposal and a commitment are moves of an answer that counts, or of a slow event
pub proposal_moves : (layout : Layout) (node start : ℕ) (past : List Deed) (x : TxnId) (act : Act) (a : Attempt) (s : Settled)
    → Reacts layout node start past x act a (Propose s) → Moves layout x a (Propose s)
proposal_moves layout node start past x act a s (ToSlow b moved is moves) = moves
proposal_moves layout node start past x act a s (ToMessage before b m moved is about (Counts n moving same counting moves)) = moves

pub commitment_moves : (layout : Layout) (node start : ℕ) (past : List Deed) (x : TxnId) (act : Act) (a : Attempt) (s : Settled)
    → Reacts layout node start past x act a (CommitTo s) → Moves layout x a (CommitTo s)
commitment_moves layout node start past x act a s (ToSlow b moved is moves) = moves
commitment_moves layout node start past x act a s (ToMessage before b m moved is about (Counts n moving same counting moves)) = moves

-- ---- the stage of a message

-- no store sends an Accept or a Commit
pub store_sends_none : (layout : Layout) (own : Actor) (past : List Taken) (taken m : Message) → IsLater m → StoreSends layout own past taken m → ⊥
store_sends_none layout own past taken m later (Votes from to x b body counting v s p k e) = elim later [ ]
store_sends_none layout own past taken m later (Accepts from to x b body counting t proposed deps s p k e) = elim later [ ]
store_sends_none layout own past taken m later (Commits from to x b body t deps s p) = elim later [ ]
store_sends_none layout own past taken m later (Reveals from to x b body counting view p k e) = elim later [ ]
store_sends_none layout own past taken m later (ReadsAtOnce from to x b body t deps answer p e) = elim later [ ]
store_sends_none layout own past taken m later (ReadsOnOpening n c b answer before among opens there e) = elim later [ ]
store_sends_none layout own past taken m later (Refuses n promised e) = elim later [ ]
store_sends_none layout own past taken m later (Tells n s e) = elim later [ ]

-- the move of an attempt by which a later message was sent
pub record SentByMove (cluster : Cluster) (items : List Item) (a : Actor) (m : Message) : Type 0 where
  pub is_node : is_node a ≡ true
  pub deed : Deed
  pub past : List Deed
  pub at : StandsAt deed past (deeds_of cluster a items)
  pub about : TxnId
  pub acts : Acts cluster.layout (node_of a) (clock_start cluster.starts (node_of a)) past deed.act about
  pub sent : IsIn m (made cluster.layout (actor_of (node_of a) 0) about acts.moving acts.move).emitted.out

pub later_by : (cluster : Cluster) (items : List Item) (m : Message) → EachStands cluster items → IsLater m → Sender cluster items m → SentByMove cluster items (from_of m) m
later_by cluster items m h later (IsStore f) = absurd (store_sends_none cluster.layout (from_of m) f.past f.step.message m later (store_sent cluster items (from_of m) m h f))
later_by cluster items m h later (IsNode f) =
    let emitted = emits_at cluster.layout (node_of (from_of m)) (clock_start cluster.starts (node_of (from_of m))) (deeds_of cluster (from_of m) items) f.deed f.past
    (each_emits cluster (from_of m) items h f.is_node) f.at in
    let there : IsIn m (node_emits cluster.layout (node_of (from_of m)) (clock_start cluster.starts (node_of (from_of m))) f.past f.deed.act).out =
    subst (λ (e : Emitted). IsIn m e.out) emitted f.sent in
    let s = later_acts cluster.layout (node_of (from_of m)) (clock_start cluster.starts (node_of (from_of m))) f.past f.deed.act m later there in
    record {
      is_node = f.is_node;
      deed = f.deed;
      past = f.past;
      at = f.at;
      about = s.about;
      acts = s.acts;
      sent = subst (IsIn m) s.acts.out_is there;
    }

module _ (cluster : Cluster) (items : List Item) (h : EachStands cluster items) where
  -- the stage of a move at x to another phase, by an actor
  pub stage_of : (a : Actor) (deed : Deed) (past : List Deed) (x : TxnId) (b : Ballot) (phase : Phase) (most : ℕ)
      → StandsAt deed past (deeds_of cluster a items) → (acts : Acts cluster.layout (node_of a) (clock_start cluster.starts (node_of a)) past deed.act x)
      → (made cluster.layout (actor_of (node_of a) 0) x acts.moving acts.move).next ≡ Some (in_phase acts.moving phase)
      → acts.moving.ballot ≡ b → rank acts.moving.phase ≤ most → a ≡ home_of x b → Stage cluster items x b phase most
  stage_of a deed past x b phase most at acts next ballot low home =
      let e = earlier cluster.layout (node_of a) (clock_start cluster.starts (node_of a)) past x deed.act acts.moving acts.move acts.reacts in
      let here : (s : StageAt cluster items x b phase a) × (rank s.before.phase ≤ most) = (
        record {
          deed = deed;
          past = past;
          at = at;
          before = e.attempt;
          before_is = e.is;
          before_ballot = e.same_ballot ∙ ballot;
          after = in_phase acts.moving phase;
          after_is = acts.next_is ∙ next;
          after_ballot = ballot;
          after_phase = refl;
        },
        subst (λ p. rank p ≤ most) (sym e.same_phase) low,
      ) in
      let there = subst (λ c. (s : StageAt cluster items x b phase c) × (rank s.before.phase ≤ most)) home here in
      record { stage = there.0; low = there.1 }

  -- and the attempt before was in the phase of the one that moves
  pub stage_of_phase : (a : Actor) (deed : Deed) (past : List Deed) (x : TxnId) (b : Ballot) (phase : Phase)
      → StandsAt deed past (deeds_of cluster a items) → (acts : Acts cluster.layout (node_of a) (clock_start cluster.starts (node_of a)) past deed.act x)
      → (made cluster.layout (actor_of (node_of a) 0) x acts.moving acts.move).next ≡ Some (in_phase acts.moving phase)
      → acts.moving.ballot ≡ b → a ≡ home_of x b
      → (s : Stage cluster items x b phase (rank acts.moving.phase)) × (s.stage.before.phase ≡ acts.moving.phase)
  stage_of_phase a deed past x b phase at acts next ballot home =
      let e = earlier cluster.layout (node_of a) (clock_start cluster.starts (node_of a)) past x deed.act acts.moving acts.move acts.reacts in
      let here : (s : StageAt cluster items x b phase a) × (s.before.phase ≡ acts.moving.phase) = (
        record {
          deed = deed;
          past = past;
          at = at;
          before = e.attempt;
          before_is = e.is;
          before_ballot = e.same_ballot ∙ ballot;
          after = in_phase acts.moving phase;
          after_is = acts.next_is ∙ next;
          after_ballot = ballot;
          after_phase = refl;
        },
        e.same_phase,
      ) in
      let there = subst (λ c. (s : StageAt cluster items x b phase c) × (s.before.phase ≡ acts.moving.phase)) home here in
      (record { stage = there.0; low = subst (λ p. rank there.0.before.phase ≤ rank p) there.1 (omega arith) }, there.1)

  pub accept_stage : (f g : Actor) (x : TxnId) (b : Ballot) (body : BodyParts) (t : Stamp) (deps : List ShardDeps) → Sending items (Accept f g x b body t deps)
      → Stage cluster items x b (Accepting (record { t = t; deps = deps })) 0
  accept_stage f g x b body t deps s =
      let m : Message = Accept f g x b body t deps in
      let l = later_by cluster items m h (IsAccept f g x b body t deps) (sender cluster items m h s) in
      let p = accept_sent cluster.layout (actor_of (node_of f) 0) l.about l.acts.moving l.acts.move f g x b body t deps l.sent in
      by l.is_node l.deed l.past l.at l.about l.acts p.move_is p.about p.of_ballot
    where
      by : is_node f ≡ true → (deed : Deed) (past : List Deed) → StandsAt deed past (deeds_of cluster f items) → (y : TxnId)
          → (acts : Acts cluster.layout (node_of f) (clock_start cluster.starts (node_of f)) past deed.act y)
          → acts.move ≡ Propose (record { t = t; deps = deps }) → y ≡ x → acts.moving.ballot ≡ b
          → Stage cluster items x b (Accepting (record { t = t; deps = deps })) 0
      by node deed past at y acts move_is about ballot =
          subst (λ z. Stage cluster items z b (Accepting (record { t = t; deps = deps })) 0) about
          (stage_of f deed past y b (Accepting (record { t = t; deps = deps })) 0 at acts
          (ap (λ move. (made cluster.layout (actor_of (node_of f) 0) y acts.moving move).next) move_is) ballot
          (proposes_low cluster.layout y acts.moving (record { t = t; deps = deps })
          (proposal_moves cluster.layout (node_of f) (clock_start cluster.starts (node_of f)) past y deed.act acts.moving (record { t = t; deps = deps })
          (subst (Reacts cluster.layout (node_of f) (clock_start cluster.starts (node_of f)) past y deed.act acts.moving) move_is acts.reacts)))
          (homes_are_one cluster items h (Accept f g x b body t deps) s node ∙ ap (λ z. home_of z b) (sym about)))

  pub commit_stage : (f g : Actor) (x : TxnId) (b : Ballot) (body : BodyParts) (t : Stamp) (deps : List ShardDeps) → Sending items (Commit f g x b body t deps)
      → Stage cluster items x b (Committing (record { t = t; deps = deps })) 1
  commit_stage f g x b body t deps s =
      let m : Message = Commit f g x b body t deps in
      let l = later_by cluster items m h (IsCommit f g x b body t deps) (sender cluster items m h s) in
      let p = commit_sent cluster.layout (actor_of (node_of f) 0) l.about l.acts.moving l.acts.move f g x b body t deps l.sent in
      by l.is_node l.deed l.past l.at l.about l.acts p.move_is p.about p.of_ballot
    where
      by : is_node f ≡ true → (deed : Deed) (past : List Deed) → StandsAt deed past (deeds_of cluster f items) → (y : TxnId)
          → (acts : Acts cluster.layout (node_of f) (clock_start cluster.starts (node_of f)) past deed.act y)
          → acts.move ≡ CommitTo (record { t = t; deps = deps }) → y ≡ x → acts.moving.ballot ≡ b
          → Stage cluster items x b (Committing (record { t = t; deps = deps })) 1
      by node deed past at y acts move_is about ballot =
          subst (λ z. Stage cluster items z b (Committing (record { t = t; deps = deps })) 1) about
          (stage_of f deed past y b (Committing (record { t = t; deps = deps })) 1 at acts
          (ap (λ move. (made cluster.layout (actor_of (node_of f) 0) y acts.moving move).next) move_is) ballot
          (commits_low cluster.layout y acts.moving (record { t = t; deps = deps })
          (commitment_moves cluster.layout (node_of f) (clock_start cluster.starts (node_of f)) past y deed.act acts.moving (record { t = t; deps = deps })
          (subst (Reacts cluster.layout (node_of f) (clock_start cluster.starts (node_of f)) past y deed.act acts.moving) move_is acts.reacts)))
          (homes_are_one cluster items h (Commit f g x b body t deps) s node ∙ ap (λ z. home_of z b) (sym about)))

  accepting_same : (s r : Settled) → Accepting s ≡ Accepting r → s ≡ r
  accepting_same s r e = cc

  committing_same : (s r : Settled) → Committing s ≡ Committing r → s ≡ r
  committing_same s r e = cc

  pub one_proposal : OneProposal items
  one_proposal x b body other t s deps more p q =
      let same =
      accepting_same (record { t = t; deps = deps }) (record { t = s; deps = more })
      (one_stage cluster items x b (Accepting (record { t = t; deps = deps })) (Accepting (record { t = s; deps = more })) 0 0
      (accept_stage p.from p.to x b body t deps p.sending) (accept_stage q.from q.to x b other s more q.sending) (omega arith) (omega arith)) in
      (ap (λ (r : Settled). r.t) same, ap (λ (r : Settled). r.deps) same)

  pub one_commit : OneCommit items
  one_commit x b body other t s deps more p q =
      let same =
      committing_same (record { t = t; deps = deps }) (record { t = s; deps = more })
      (one_stage cluster items x b (Committing (record { t = t; deps = deps })) (Committing (record { t = s; deps = more })) 1 1
      (commit_stage p.from p.to x b body t deps p.sending) (commit_stage q.from q.to x b other s more q.sending) (omega arith) (omega arith)) in
      (ap (λ (r : Settled). r.t) same, ap (λ (r : Settled). r.deps) same)

-- ---- the stage of a fast decision

slow_or_recovered : (b : Ballot) → path_of b ≡ Fast → ⊥
slow_or_recovered b = by (ballot_eq b zero_ballot)
  where
    by : (c : Bool) → (if c then Slow else Recovered) ≡ Fast → ⊥
    by true e = cc
    by false e = cc

adopted_apart : Adopted ≡ Fast → ⊥
adopted_apart e = cc

decided_path : (path other : Path) (s r : Settled) → DecideBy path s ≡ DecideBy other r → path ≡ other
decided_path path other s r e = cc

other_move : (a : Attempt) (s : Settled) → Wait ≡ DecideBy Fast s → ⊥
other_move a s e = cc

-- a move that decides fast is one in the first phase
fast_phase : (layout : Layout) (x : TxnId) (a : Attempt) (move : Move) (s : Settled) → Moves layout x a move → move ≡ DecideBy Fast s → a.phase ≡ Voting
fast_phase layout x a move s WaitsForMore is = absurd (other_move a s is)
fast_phase layout x a move s (DecidesFast phase fast) is = phase
fast_phase layout x a move s (SlowsDown phase major) is = phase
fast_phase layout x a move s (AdoptsStable r phase major found) is = absurd (adopted_apart (decided_path Adopted Fast r.settled s is))
fast_phase layout x a move s (AdoptsCommitted c phase major found kind) is = absurd (apart is)
  where
    apart : CommitTo c.settled ≡ DecideBy Fast s → ⊥
    apart e = cc
fast_phase layout x a move s (AdoptsAccepted c phase major found kind) is = absurd (apart is)
  where
    apart : Propose c.settled ≡ DecideBy Fast s → ⊥
    apart e = cc
fast_phase layout x a move s (ProposesGreatest phase major none ruled_out) is = absurd (apart is)
  where
    apart : {r : Settled} → Propose r ≡ DecideBy Fast s → ⊥
    apart e = cc
fast_phase layout x a move s (ProposesOwn phase major none free) is = absurd (apart is)
  where
    apart : {r : Settled} → Propose r ≡ DecideBy Fast s → ⊥
    apart e = cc
fast_phase layout x a move s (IsBlocked by phase major) is = absurd (apart is)
  where
    apart : BlockBy by ≡ DecideBy Fast s → ⊥
    apart e = cc
fast_phase layout x a move s (CommitsIt r phase major) is = absurd (apart is)
  where
    apart : {q : Settled} → CommitTo q ≡ DecideBy Fast s → ⊥
    apart e = cc
fast_phase layout x a move s (DecidesCommitted r phase major) is = absurd (slow_or_recovered a.ballot (decided_path (path_of a.ballot) Fast r s is))
fast_phase layout x a move s (HasOutcome r outcome phase found) is = absurd (apart is)
  where
    apart : FinishWith r outcome ≡ DecideBy Fast s → ⊥
    apart e = cc

fast_hears : (layout : Layout) (x : TxnId) (before : Attempt) (m : Message) (a : Attempt) (move : Move) (s : Settled) → Hears layout x before m a move
    → move ≡ DecideBy Fast s → a.phase ≡ Voting
fast_hears layout x before m a move s (Ignores n) is = absurd (other_move before s is)
fast_hears layout x before m a move s (Counts n moved same counting moves) is = fast_phase layout x (with_answer before n) moved s moves is
fast_hears layout x before m a move s (IsEnded from to id ballot promised same above) is = absurd (apart is)
  where
    apart : EndBy promised ≡ DecideBy Fast s → ⊥
    apart e = cc
fast_hears layout x before m a move s (TakesOver from to id ballot t deps same undecided ready) is =
    absurd (adopted_apart (decided_path Adopted Fast (record { t = t; deps = deps }) s is))

fast_reacts : (layout : Layout) (node start : ℕ) (past : List Deed) (x : TxnId) (act : Act) (a : Attempt) (move : Move) (s : Settled)
    → Reacts layout node start past x act a move → move ≡ DecideBy Fast s → a.phase ≡ Voting
fast_reacts layout node start past x act a move s (ToSlow b moved found moves) is = fast_phase layout x b moved s moves is
fast_reacts layout node start past x act a move s (ToMessage before b m moved found about hears) is = fast_hears layout x before m b moved s hears is

zero_rank : (phase : Phase) → phase ≡ Voting → rank phase ≤ 0
zero_rank phase is = subst (λ p. rank p ≤ 0) (sym is) (omega arith)

module _ (cluster : Cluster) (items : List Item) (h : EachStands cluster items) where
  pub fast_stage : (x : TxnId) (t : Stamp) (deps : List ShardDeps) → Noting items (DecideNote x t Fast deps)
      → Stage cluster items x zero_ballot (Executing (record { t = t; deps = deps })) 0
  fast_stage x t deps s =
      let f = noted_by cluster items (DecideNote x t Fast deps) h s in
      by f.actor f.is_node f.deed f.past f.at
      (subst (λ (e : Emitted). IsIn (DecideNote x t Fast deps) e.notes)
      (emits_at cluster.layout (node_of f.actor) (clock_start cluster.starts (node_of f.actor)) (deeds_of cluster f.actor items) f.deed f.past (each_emits cluster f.actor items h f.is_node) f.at)
      f.noted)
    where
      by : (a : Actor) → is_node a ≡ true → (deed : Deed) (past : List Deed) → StandsAt deed past (deeds_of cluster a items)
          → IsIn (DecideNote x t Fast deps) (node_emits cluster.layout (node_of a) (clock_start cluster.starts (node_of a)) past deed.act).notes
          → Stage cluster items x zero_ballot (Executing (record { t = t; deps = deps })) 0
      by a node deed past at noted =
          let some = decided_acts cluster.layout (node_of a) (clock_start cluster.starts (node_of a)) past deed.act x t Fast deps noted in
          staged a node deed past at some.about some.acts (some.acts.decides x t Fast deps noted)
        where
          staged : (a : Actor) → is_node a ≡ true → (deed : Deed) (past : List Deed) → StandsAt deed past (deeds_of cluster a items) → (y : TxnId)
              → (acts : Acts cluster.layout (node_of a) (clock_start cluster.starts (node_of a)) past deed.act y)
              → IsDecision y acts.moving acts.move x t Fast deps → Stage cluster items x zero_ballot (Executing (record { t = t; deps = deps })) 0
          staged a node deed past at y acts d =
              let start : ℕ = clock_start cluster.starts (node_of a) in
              let phase = fast_reacts cluster.layout (node_of a) start past y deed.act acts.moving acts.move (record { t = t; deps = deps }) acts.reacts d.move_is in
              let e = earlier cluster.layout (node_of a) start past y deed.act acts.moving acts.move acts.reacts in
              let ballot : acts.moving.ballot ≡ zero_ballot =
              sym e.same_ballot ∙ first_has_zero cluster.layout (node_of a) start y past e.attempt e.is (e.same_phase ∙ phase) in
              let home : a ≡ home_of y zero_ballot =
              sym (node_is_actor a node) ∙ origin_home cluster.layout (node_of a) start past y e.attempt (origin_of cluster.layout (node_of a) start y past e.attempt e.is)
              ∙ ap (home_of y) (e.same_ballot ∙ ballot) in
              subst (λ z. Stage cluster items z zero_ballot (Executing (record { t = t; deps = deps })) 0) d.about
              (stage_of cluster items h a deed past y zero_ballot (Executing (record { t = t; deps = deps })) 0 at acts
              (ap (λ move. (made cluster.layout (actor_of (node_of a) 0) y acts.moving move).next) d.move_is) ballot (zero_rank acts.moving.phase phase) home)

  accepting_executing : (s r : Settled) → Accepting s ≡ Executing r → ⊥
  accepting_executing s r e = cc

  pub never_both : NeverBoth items
  never_both x body t s deps more p noted =
      accepting_executing (record { t = t; deps = deps }) (record { t = s; deps = more })
      (one_stage cluster items x zero_ballot (Accepting (record { t = t; deps = deps })) (Executing (record { t = s; deps = more })) 0 0
      (accept_stage cluster items h p.from p.to x zero_ballot body t deps p.sending) (fast_stage x s more noted) (omega arith) (omega arith))
