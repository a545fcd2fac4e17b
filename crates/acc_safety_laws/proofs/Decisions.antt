-- Every decision and every stable record goes back to fast votes or to a commit that a majority in every shard committed, by
-- induction over prefixes: a decision is of these very answers, or of a stable record that some store showed or told.
use Rattle.std.proofs.Common.{◌≡◌, ℕ, List, refl, sym, ◌∙◌, ap, subst, ⊎_elim, ◌⊎◌, inl, inr}
use Rattle.acc_stamp.specs.declared.stamps.Stamp.{Stamp}
use Rattle.acc_stamp.specs.declared.stamps.TxnId.{TxnId}
use Rattle.acc_stamp.specs.declared.stamps.Ballot.{Ballot}
use Rattle.acc_stamp.specs.declared.actors.Actor.{Actor}
use Rattle.acc_stamp.specs.Actor.{node_of, actor_of}
use Rattle.acc_topology.specs.Layout.{Layout}
use Rattle.acc_deps.specs.declared.shards.ShardDeps.{ShardDeps}
use Rattle.acc_deps.specs.declared.records.Settled.{Settled}
use Rattle.acc_txn.specs.declared.parts.BodyParts.{BodyParts}
use Rattle.acc_txn.specs.declared.outcome.Outcome.{Outcome}
use Rattle.acc_message.specs.declared.message.Message.{Message}
use Rattle.acc_message.specs.declared.message.Message.TheVariants.{Commit, Stable, Apply, Decided}
use Rattle.acc_message.specs.declared.note.Path.{Path}
use Rattle.acc_message.specs.declared.note.Note.TheVariants.{Decide as DecideNote}
use Rattle.acc_message.specs.declared.entry.Emitted.{Emitted}
use Rattle.acc_message.specs.declared.item.Item.{Item}
use Rattle.acc_message.specs.Taken.{Taken}
use Rattle.acc_message.specs.Attempts.{Attempt, Voting, Recovering, Committing, Executing}
use Rattle.acc_message.specs.NodeRules.{Act, Takes, Deed, node_emits}
use Rattle.acc_message.specs.Run.{Cluster, clock_start, taken_of, deeds_of, EachStands}
use Rattle.acc_actor_laws.proofs.OpeningFacts.{some_is}
use Rattle.acc_safety.specs.Places.{IsIn, StandsAt, IsPast, Whole}
use Rattle.acc_safety.specs.Histories.{Sending, Noting, NodeStep, NotedBy, Sender, IsStore, IsNode}
use Rattle.acc_safety.specs.StoreSends.{StoreSends}
use Rattle.acc_safety.specs.NodeMoves.{DecideBy, FinishWith, Moves, DecidesFast, AdoptsStable, DecidesCommitted, HasOutcome, Counts, TakesOver, Reacts, ToSlow, ToMessage, NodeSends, Decides, Finishes, NodeNotes, NotesDecision}
use Rattle.acc_safety.specs.Attempted.{Took, kind_of}
use Rattle.acc_safety.specs.Polls.{IsBody, AreAnswers}
use Rattle.acc_safety.specs.Roots.{DecisionRoot, ByFastVotes, ByCommits}
use Rattle.acc_safety.specs.Statements.{DecisionsHaveRoots, RecordsHaveRoots}
use Rattle.acc_safety.specs.Valid.{IsStanding}
use Rattle.acc_safety.proofs.PlaceOrder.{IsPast-trans, StandsAt-whole}
use Rattle.acc_safety.proofs.Bridge.{Sending-past, Noting-past, EachStands-past, deeds_of-past, each_emits, emits_at, node_step, noted_by, sender}
use Rattle.acc_safety.proofs.Frame.{store_sent, node_sent, node_noted, bodies_are_begun}
use Rattle.acc_safety.proofs.StoreNotions.{Settling, ByStable, ByApply}
use Rattle.acc_safety.proofs.Prefixes.{IsBefore-past, SentBefore, node_took_before}
use Rattle.acc_safety_laws.proofs.Phased.{Entered}
use Rattle.acc_safety_laws.proofs.Within.{each_within, sent_before_trans}
use Rattle.acc_safety_laws.proofs.ShownBefore.{SettledBefore, settled_before, stable_before, told_before}
use Rattle.acc_safety_laws.proofs.Moving.{Moving, moving, answers_in, one_sent}

-- ---- who sends a Stable or an Apply

store_settles_none : (layout : Layout) (own : Actor) (past : List Taken) (taken : Message) (from to : Actor) (x : TxnId) (b : Ballot) (body : BodyParts) (t : Stamp) (deps : List ShardDeps)
    → StoreSends layout own past taken (Stable from to x b body t deps) → ⊥
store_settles_none layout own past taken from to x b body t deps h = elim h [ ]

store_applies_none : (layout : Layout) (own : Actor) (past : List Taken) (taken : Message) (from to : Actor) (x : TxnId) (b : Ballot) (body : BodyParts) (t : Stamp) (deps : List ShardDeps) (outcome : Outcome)
    → StoreSends layout own past taken (Apply from to x b body t deps outcome) → ⊥
store_applies_none layout own past taken from to x b body t deps outcome h = elim h [ ]

-- the attempt that has an outcome
record Finishing (layout : Layout) (node start : ℕ) (past : List Deed) (act : Act) (x : TxnId) (s : Settled) : Type 0 where
  pub attempt : Attempt
  pub outcome : Outcome
  pub reacts : Reacts layout node start past x act attempt (FinishWith s outcome)

finishing : (layout : Layout) (node start : ℕ) (past : List Deed) (act : Act) (from to : Actor) (x : TxnId) (b : Ballot) (body : BodyParts) (t : Stamp) (deps : List ShardDeps) (outcome : Outcome)
    → NodeSends layout node start past act (Apply from to x b body t deps outcome) → Finishing layout node start past act x (record { t = t; deps = deps })
finishing layout node start past act from to x b body t deps outcome (Finishes on y a s o store reacts) = record { attempt = a; outcome = o; reacts = reacts }

finish_phase : (layout : Layout) (x : TxnId) (a : Attempt) (s : Settled) (outcome : Outcome) → Moves layout x a (FinishWith s outcome) → a.phase ≡ Executing s
finish_phase layout x a s outcome (HasOutcome r o phase found) = phase

finish_moves : (layout : Layout) (node start : ℕ) (past : List Deed) (x : TxnId) (act : Act) (a : Attempt) (s : Settled) (outcome : Outcome)
    → Reacts layout node start past x act a (FinishWith s outcome) → Moves layout x a (FinishWith s outcome)
finish_moves layout node start past x act a s outcome (ToSlow b moved is moves) = moves
finish_moves layout node start past x act a s outcome (ToMessage before b m moved is about (Counts n moving same counting moves)) = moves

-- ---- the attempt that decides

record Deciding (layout : Layout) (node start : ℕ) (past : List Deed) (act : Act) (x : TxnId) (path : Path) (s : Settled) : Type 0 where
  pub attempt : Attempt
  pub reacts : Reacts layout node start past x act attempt (DecideBy path s)

deciding : (layout : Layout) (node start : ℕ) (past : List Deed) (act : Act) (x : TxnId) (path : Path) (t : Stamp) (deps : List ShardDeps)
    → NodeNotes layout node start past act (DecideNote x t path deps) → Deciding layout node start past act x path (record { t = t; deps = deps })
deciding layout node start past act x path t deps (NotesDecision on y a p s reacts) = record { attempt = a; reacts = reacts }

-- the note of a decision that stands with a Stable
record Stating (layout : Layout) (node start : ℕ) (past : List Deed) (act : Act) (x : TxnId) (t : Stamp) (deps : List ShardDeps) : Type 0 where
  pub path : Path
  pub there : IsIn (DecideNote x t path deps) (node_emits layout node start past act).notes

stating : (layout : Layout) (node start : ℕ) (past : List Deed) (act : Act) (from to : Actor) (x : TxnId) (b : Ballot) (body : BodyParts) (t : Stamp) (deps : List ShardDeps)
    → NodeSends layout node start past act (Stable from to x b body t deps) → Stating layout node start past act x t deps
stating layout node start past act from to x b body t deps (Decides on y a path s store reacts noted) = record { path = path; there = noted }

-- what a store told it
record Told (act : Act) (x : TxnId) (s : Settled) : Type 0 where
  pub from : Actor
  pub to : Actor
  pub ballot : Ballot
  pub act_is : act ≡ Takes (Decided from to x ballot s.t s.deps)

-- it decides by its answers, or by what a store told it
decide_moves : (layout : Layout) (node start : ℕ) (past : List Deed) (x : TxnId) (act : Act) (a : Attempt) (path : Path) (s : Settled)
    → Reacts layout node start past x act a (DecideBy path s) → Moves layout x a (DecideBy path s) ⊎ Told act x s
decide_moves layout node start past x act a path s (ToSlow b moved is moves) = inl moves
decide_moves layout node start past x act a path s (ToMessage before b m moved is about (Counts n moving same counting moves)) = inl moves
decide_moves layout node start past x act a path s (ToMessage before b m moved is about (TakesOver from to id ballot t deps same undecided ready)) =
    inr (record { from = from; to = to; ballot = ballot; act_is = ap (λ y. Takes (Decided from to y ballot t deps)) about })

-- ---- an Apply stands on a Stable

record StableSent (items : List Item) (x : TxnId) (s : Settled) : Type 0 where
  pub from : Actor
  pub to : Actor
  pub ballot : Ballot
  pub body : BodyParts
  pub sending : Sending items (Stable from to x ballot body s.t s.deps)

module _ (cluster : Cluster) (all : List Item) (whole : IsStanding cluster all) where
  stable_of_apply : (items : List Item) → EachStands cluster items → (from to : Actor) (x : TxnId) (b : Ballot) (body : BodyParts) (t : Stamp) (deps : List ShardDeps) (outcome : Outcome)
      → Sender cluster items (Apply from to x b body t deps outcome) → StableSent items x (record { t = t; deps = deps })
  stable_of_apply items h from to x b body t deps outcome (IsStore f) =
      absurd (store_applies_none cluster.layout from f.past f.step.message from to x b body t deps outcome (store_sent cluster items from (Apply from to x b body t deps outcome) h f))
  stable_of_apply items h from to x b body t deps outcome (IsNode f) =
      let start : ℕ = clock_start cluster.starts (node_of from) in
      let own : Actor = actor_of (node_of from) 0 in
      let s : Settled = record { t = t; deps = deps } in
      let c =
      finishing cluster.layout (node_of from) start f.past f.deed.act from to x b body t deps outcome (node_sent cluster items from (Apply from to x b body t deps outcome) h f) in
      let m = moving cluster items h from f.is_node f.deed f.past f.at x c.attempt (FinishWith s c.outcome) c.reacts in
      let phase =
      finish_phase cluster.layout x c.attempt s c.outcome (finish_moves cluster.layout (node_of from) start f.past x f.deed.act c.attempt s c.outcome c.reacts) in
      let one =
      one_sent cluster items h whole.valid from f.past x c.attempt (λ store. Stable own store x c.attempt.ballot c.attempt.body t deps) m
      (subst (Entered cluster.layout (node_of from) start x f.past c.attempt.ballot c.attempt.body) phase m.entered) in
      record { from = own; to = one.0; ballot = c.attempt.ballot; body = c.attempt.body; sending = one.1 }

  -- ---- roots

  -- a Stable has its root
  abbrev Rooted : Message → Type 0
  Rooted m =
      (from to : Actor) (x : TxnId) (b : Ballot) (body : BodyParts) (t : Stamp) (deps : List ShardDeps)
      → m ≡ Stable from to x b body t deps → DecisionRoot cluster all x body t deps

  module _ (items : List Item) (h : EachStands cluster items) (within : IsPast items all) (earlier : (m : Message) → SentBefore items m → Rooted m) where
    stable_rooted : (from to : Actor) (x : TxnId) (b : Ballot) (body other : BodyParts) (s : Settled) → IsBody cluster all x body
        → SentBefore items (Stable from to x b other s.t s.deps) → DecisionRoot cluster all x body s.t s.deps
    stable_rooted from to x b body other s begun sent =
        let m : Message = Stable from to x b other s.t s.deps in
        let sending : Sending all m = Sending-past sent.past all m (IsPast-trans sent.past items all (IsBefore-past sent.past items sent.before) within) sent.sending in
        subst (λ k. DecisionRoot cluster all x k s.t s.deps)
        (some_is other body (sym (bodies_are_begun cluster all whole.stands m other sending refl) ∙ begun))
        (earlier m sent from to x b other s.t s.deps refl)

    settling_rooted : (x : TxnId) (body : BodyParts) (s : Settled) (m : Message) → IsBody cluster all x body → Settling x s m → SentBefore items m
        → DecisionRoot cluster all x body s.t s.deps
    settling_rooted x body s m begun (ByStable from to b other) sent = stable_rooted from to x b body other s begun sent
    settling_rooted x body s m begun (ByApply from to b other outcome) sent =
        let stands : EachStands cluster sent.past = EachStands-past cluster sent.past items (IsBefore-past sent.past items sent.before) h in
        let k =
        stable_of_apply sent.past stands from to x b other s.t s.deps outcome (sender cluster sent.past (Apply from to x b other s.t s.deps outcome) stands sent.sending) in
        stable_rooted k.from k.to x k.ballot body k.body s begun (record { past = sent.past; before = sent.before; sending = k.sending })

    -- what settled x before has its root
    pub settled_rooted : (x : TxnId) (body : BodyParts) (s : Settled) → IsBody cluster all x body → SettledBefore items x s → DecisionRoot cluster all x body s.t s.deps
    settled_rooted x body s begun b = settling_rooted x body s b.message begun b.settling b.sent

    root_of_move : (a : Actor) (past : List Deed) (x : TxnId) (at : Attempt) (path : Path) (s : Settled) → Moving cluster items a past x at → IsBody cluster all x at.body
        → Noting all (DecideNote x s.t path s.deps) → Moves cluster.layout x at (DecideBy path s) → DecisionRoot cluster all x at.body s.t s.deps
    root_of_move a past x at path s m begun noted (DecidesFast phase fast) =
        ByFastVotes at.answers
        (record {
          are =
              subst (λ b. AreAnswers cluster all x at.body b (kind_of Voting) at.answers) (m.first phase) (answers_in cluster all items x at Voting within m.are phase);
          fast = fast;
          noted = noted;
        })
    root_of_move a past x at path s m begun noted (AdoptsStable r phase major is) =
        settled_rooted x at.body r.settled begun
        (stable_before cluster items h x at.body at.ballot at.answers m.begun (answers_in cluster items items x at Recovering (Whole items) m.are phase) r is)
    root_of_move a past x at path s m begun noted (DecidesCommitted p phase major) =
        let start : ℕ = clock_start cluster.starts (node_of a) in
        let own : Actor = actor_of (node_of a) 0 in
        let one =
        one_sent cluster items h whole.valid a past x at (λ store. Commit own store x at.ballot at.body p.t p.deps) m
        (subst (Entered cluster.layout (node_of a) start x past at.ballot at.body) phase m.entered) in
        ByCommits at.ballot p.t p.deps at.answers
        (record {
          commit = record { from = own; to = one.0; sending = Sending-past items all (Commit own one.0 x at.ballot at.body p.t p.deps) within one.1 };
          are = answers_in cluster all items x at (Committing p) within m.are phase;
          majority = major;
        })

    told_rooted : (a : Actor) (deed : Deed) (past : List Deed) (x : TxnId) (body : BodyParts) (s : Settled) → StandsAt deed past (deeds_of cluster a items)
        → IsBody cluster all x body → Told deed.act x s → DecisionRoot cluster all x body s.t s.deps
    told_rooted a deed past x body s there begun t =
        let m : Message = Decided t.from t.to x t.ballot s.t s.deps in
        let took : Took (deeds_of cluster a items) m = record { deed = deed; past = past; at = there; act_is = t.act_is } in
        let was = node_took_before cluster a items h m took in
        let stands : EachStands cluster was.past = EachStands-past cluster was.past items (IsBefore-past was.past items was.before) h in
        let k = told_before cluster was.past t.from t.to x t.ballot s.t s.deps stands was.sending in
        settled_rooted x body s begun (record { message = k.message; settling = k.settling; sent = sent_before_trans was.past items k.message k.sent was.before })

    -- a decision that is noted in the prefix has its root
    pub noted_rooted : (x : TxnId) (body : BodyParts) (path : Path) (t : Stamp) (deps : List ShardDeps) → IsBody cluster all x body
        → NotedBy cluster items (DecideNote x t path deps) → Noting all (DecideNote x t path deps) → DecisionRoot cluster all x body t deps
    noted_rooted x body path t deps begun n noted =
        subst (λ k. DecisionRoot cluster all x k t deps) same
        (⊎_elim (root_of_move n.actor n.past x d.attempt path s m begun_too noted) (told_rooted n.actor n.deed n.past x d.attempt.body s n.at begun_too)
        (decide_moves cluster.layout (node_of n.actor) start n.past x n.deed.act d.attempt path s d.reacts))
      where
        s : Settled
        s = record { t = t; deps = deps }

        start : ℕ
        start = clock_start cluster.starts (node_of n.actor)

        d : Deciding cluster.layout (node_of n.actor) start n.past n.deed.act x path s
        d = deciding cluster.layout (node_of n.actor) start n.past n.deed.act x path t deps (node_noted cluster items (DecideNote x t path deps) h n)

        m : Moving cluster items n.actor n.past x d.attempt
        m = moving cluster items h n.actor n.is_node n.deed n.past n.at x d.attempt (DecideBy path s) d.reacts

        begun_too : IsBody cluster all x d.attempt.body
        begun_too =
            (moving cluster all whole.stands n.actor n.is_node n.deed n.past
            (StandsAt-whole n.deed n.past (deeds_of cluster n.actor items) (deeds_of cluster n.actor all) n.at (deeds_of-past cluster n.actor items all within)) x d.attempt
            (DecideBy path s) d.reacts).begun

        same : d.attempt.body ≡ body
        same = some_is d.attempt.body body (sym begun_too ∙ begun)

    -- a Stable that a node sent has the root of the decision that stands with it
    root_of_sender : (from to : Actor) (x : TxnId) (b : Ballot) (body : BodyParts) (t : Stamp) (deps : List ShardDeps)
        → IsBody cluster all x body → Sender cluster items (Stable from to x b body t deps) → DecisionRoot cluster all x body t deps
    root_of_sender from to x b body t deps begun (IsStore f) =
        absurd (store_settles_none cluster.layout from f.past f.step.message from to x b body t deps (store_sent cluster items from (Stable from to x b body t deps) h f))
    root_of_sender from to x b body t deps begun (IsNode f) =
        noted_rooted x body notes.path t deps begun by (Noting-past items all (DecideNote x t notes.path deps) within noting)
      where
        start : ℕ
        start = clock_start cluster.starts (node_of from)

        emitted : f.deed.emitted ≡ node_emits cluster.layout (node_of from) start f.past f.deed.act
        emitted = emits_at cluster.layout (node_of from) start (deeds_of cluster from items) f.deed f.past (each_emits cluster from items h f.is_node) f.at

        notes : Stating cluster.layout (node_of from) start f.past f.deed.act x t deps
        notes = stating cluster.layout (node_of from) start f.past f.deed.act from to x b body t deps (node_sent cluster items from (Stable from to x b body t deps) h f)

        there : IsIn (DecideNote x t notes.path deps) f.deed.emitted.notes
        there = subst (λ (e : Emitted). IsIn (DecideNote x t notes.path deps) e.notes) (sym emitted) notes.there

        by : NotedBy cluster items (DecideNote x t notes.path deps)
        by = record { actor = from; is_node = f.is_node; deed = f.deed; past = f.past; at = f.at; noted = there }

        n : NodeStep cluster from items f.deed f.past
        n = node_step cluster from items h f.deed f.past f.at

        noting : Noting items (DecideNote x t notes.path deps)
        noting =
            record {
              entry = n.entry;
              earlier = n.earlier;
              at = n.at;
              noted = subst (λ (e : Emitted). IsIn (DecideNote x t notes.path deps) e.notes) (sym n.emitted_is) there;
            }

    rooted : (m : Message) → Sending items m → Rooted m
    rooted m sent from to x b body t deps is =
        let stable : Message = Stable from to x b body t deps in
        let sending : Sending items stable = subst (Sending items) is sent in
        root_of_sender from to x b body t deps
        (bodies_are_begun cluster all whole.stands stable body (Sending-past items all stable within sending) refl)
        (sender cluster items stable h sending)

  -- every Stable has its root
  all_rooted : (m : Message) → SentBefore all m → Rooted m
  all_rooted m b = each_within cluster all Rooted rooted whole.stands m (Sending-past b.past all m (IsBefore-past b.past all b.before) b.sending)

  pub decisions_have_roots : DecisionsHaveRoots cluster all
  decisions_have_roots x body path t deps begun noted =
      noted_rooted all whole.stands (Whole all) all_rooted x body path t deps begun (noted_by cluster all (DecideNote x t path deps) whole.stands noted) noted

  pub records_have_roots : RecordsHaveRoots cluster all
  records_have_roots a x body s store begun is =
      settled_rooted all whole.stands (Whole all) all_rooted x body s begun
      (settled_before cluster all whole.stands a (taken_of cluster a all) x s (Whole (taken_of cluster a all)) is)
