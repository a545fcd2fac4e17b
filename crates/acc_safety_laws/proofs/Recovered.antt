-- What stands after a proposal and a commit: the move of an attempt, its answers, and the record that a recovery adopts.
use Rattle.std.proofs.Common.{◌≡◌, ℕ, ◌≤◌, Bool, true, false, ◌==◌, List, [], ◌∷◌, Some, Contains, refl, sym, ◌∙◌, ap, subst}
use Rattle.std.proofs.lemmas.Bool.{eq-eqb}
use Rattle.acc_stamp.specs.declared.stamps.Stamp.{Stamp}
use Rattle.acc_stamp.specs.declared.stamps.TxnId.{TxnId}
use Rattle.acc_stamp.specs.declared.stamps.Ballot.{Ballot}
use Rattle.acc_stamp.specs.declared.actors.Actor.{Actor}
use Rattle.acc_stamp.specs.Actor.{actor_of, node_of, home_of}
use Rattle.acc_stamp.specs.Stamp.{zero_ballot}
use Rattle.acc_topology.specs.Layout.{Layout}
use Rattle.acc_topology.specs.Sets.{is_among}
use Rattle.acc_deps.specs.declared.shards.ShardDeps.{ShardDeps}
use Rattle.acc_deps.specs.declared.records.Accepted.{Accepted}
use Rattle.acc_deps.specs.declared.records.View.{View}
use Rattle.acc_deps.specs.Records.{Claim, claim_in, claims_in, claims_of, highest_claim, record_of, shown_as}
use Rattle.acc_deps.proofs.Adopted.{claim_is_shown}
use Rattle.acc_txn.specs.declared.parts.BodyParts.{BodyParts}
use Rattle.acc_message.specs.declared.message.Message.{Message}
use Rattle.acc_message.specs.declared.message.Message.TheVariants.{PreAccept, PreAcceptOk, Accept, AcceptOk, Commit, CommitOk, Stable, ReadOk, Apply, Recover, RecoverOk, Nack, Decided, Inform}
use Rattle.acc_message.specs.declared.item.Item.{Item}
use Rattle.acc_message.specs.Fields.{from_of, id_of, ballot_of}
use Rattle.acc_message.specs.Shares.{shards_used, stores_of_shard, stores_used}
use Rattle.acc_message.specs.Taken.{Taken}
use Rattle.acc_message.specs.Attempts.{Attempt, Voting, Committing}
use Rattle.acc_message.specs.BallotRules.{is_recover_ok, accepted_of, committed_of}
use Rattle.acc_message.specs.RecoveryDecision.{view_in, views_in}
use Rattle.acc_message.specs.NodeRules.{Deed}
use Rattle.acc_message.specs.Run.{Cluster, clock_start, deeds_of, taken_of, is_node, EachStands}
use Rattle.acc_actor_laws.proofs.Standing.{not_none}
use Rattle.acc_actor_laws.proofs.OpeningFacts.{some_is}
use Rattle.acc_actor_laws.proofs.PhaseFacts.{first_has_zero}
use Rattle.acc_safety.specs.Places.{IsIn, First, StandsAt, IsPast, Whole, Behind}
use Rattle.acc_safety.specs.Histories.{Sending, FromStore}
use Rattle.acc_safety.specs.StoreSends.{StoreSends, Reveals}
use Rattle.acc_safety.specs.NodeMoves.{Propose, CommitTo, made, Moves, Reacts}
use Rattle.acc_safety.specs.Attempted.{kind_of}
use Rattle.acc_safety.specs.Polls.{IsAnswer, AreAnswers}
use Rattle.acc_safety.proofs.PlaceOrder.{any_from, IsIn-flat_map, IsIn-filter_map, Contains-IsIn, IsIn-Contains, IsIn-append_left, IsIn-append_right, flat_map-IsIn, IsPast-rest, StandsAt-whole, StandsAt-behind}
use Rattle.acc_safety.proofs.Bridge.{taken_of-past, sender}
use Rattle.acc_safety.proofs.Frame.{store_sent, homes_are_one}
use Rattle.acc_safety.proofs.Polled.{moving_polled}
use Rattle.acc_safety.proofs.Prefixes.{SentBefore, store_took_before}
use Rattle.acc_safety.proofs.StoreNotions.{accepted_from, committed_from}
use Rattle.acc_safety_laws.proofs.Acts.{Acts, IsAccept, IsCommit, IsProposal, accept_sent, IsCommitment, commit_sent}
use Rattle.acc_safety_laws.proofs.Ranks.{rank}
use Rattle.acc_safety_laws.proofs.Stages.{Stage, stage_of, stage_of_phase, later_by, earlier, proposal_moves, commitment_moves}

-- ---- answers of a prefix are answers of the whole

pub answer_whole : (cluster : Cluster) (past items : List Item) (x : TxnId) (body : BodyParts) (b : Ballot) (kind : Message → Bool) (m : Message)
    → IsPast past items → IsAnswer cluster past x body b kind m → IsAnswer cluster items x body b kind m
answer_whole cluster past items x body b kind m within a =
    record {
      is = a.is;
      about = a.about;
      of_ballot = a.of_ballot;
      of_store = a.of_store;
      place =
          record {
            is_store = a.place.is_store;
            step = a.place.step;
            past = a.place.past;
            at =
                StandsAt-whole a.place.step a.place.past (taken_of cluster (from_of m) past) (taken_of cluster (from_of m) items) a.place.at
                (taken_of-past cluster (from_of m) past items within);
            sent = a.place.sent;
          };
    }

pub answers_whole : (cluster : Cluster) (past items : List Item) (x : TxnId) (body : BodyParts) (b : Ballot) (kind : Message → Bool) (answers : List Message)
    → IsPast past items → AreAnswers cluster past x body b kind answers → AreAnswers cluster items x body b kind answers
answers_whole cluster past items x body b kind answers within are m there = answer_whole cluster past items x body b kind m within (are m there)

-- ---- a shard that a sent message's body uses

pub Uses : Layout → BodyParts → Type 0
Uses layout body = (shard : ℕ) × (is_among (shards_used layout body) shard ≡ true)

store_uses : (layout : Layout) (body : BodyParts) (store : Actor) → IsIn store (stores_used layout body) → Uses layout body
unfolding Uses
store_uses layout body store there =
    let f = IsIn-flat_map (stores_of_shard layout) store (shards_used layout body) there in
    (f.source, any_from (λ n. n == f.source) f.source (shards_used layout body) f.there (eq-eqb f.source f.source refl))

pub used_shard : (layout : Layout) (body : BodyParts) → Uses layout body → (shard : ℕ) × (is_among (shards_used layout body) shard ≡ true)
unfolding Uses
used_shard layout body u = u

-- ---- the move after a proposal

-- the attempt that proposed this, with its move and its answers
pub record Proposal (cluster : Cluster) (items : List Item) (x : TxnId) (b : Ballot) (body : BodyParts) (t : Stamp) (deps : List ShardDeps) : Type 0 where
  pub moving : Attempt
  pub moves : Moves cluster.layout x moving (Propose (record { t = t; deps = deps }))
  pub of_ballot : moving.ballot ≡ b
  pub of_body : moving.body ≡ body
  pub are : AreAnswers cluster items x moving.body moving.ballot (kind_of moving.phase) moving.answers
  pub first_zero : moving.phase ≡ Voting → b ≡ zero_ballot
  pub uses : Uses cluster.layout body

-- and the one that committed this
pub record Commitment (cluster : Cluster) (items : List Item) (x : TxnId) (b : Ballot) (body : BodyParts) (t : Stamp) (deps : List ShardDeps) : Type 0 where
  pub moving : Attempt
  pub moves : Moves cluster.layout x moving (CommitTo (record { t = t; deps = deps }))
  pub of_ballot : moving.ballot ≡ b
  pub of_body : moving.body ≡ body
  pub are : AreAnswers cluster items x moving.body moving.ballot (kind_of moving.phase) moving.answers
  pub uses : Uses cluster.layout body
  pub stage : (most : ℕ) → rank moving.phase ≤ most → Stage cluster items x b (Committing (record { t = t; deps = deps })) most
  pub before_phase : (s : Stage cluster items x b (Committing (record { t = t; deps = deps })) (rank moving.phase)) × (s.stage.before.phase ≡ moving.phase)

module _ (cluster : Cluster) (items : List Item) (h : EachStands cluster items) where
  pub proposing : (f g : Actor) (x : TxnId) (b : Ballot) (body : BodyParts) (t : Stamp) (deps : List ShardDeps) → Sending items (Accept f g x b body t deps)
      → Proposal cluster items x b body t deps
  proposing f g x b body t deps s =
      let m : Message = Accept f g x b body t deps in
      let l = later_by cluster items m h (IsAccept f g x b body t deps) (sender cluster items m h s) in
      let p = accept_sent cluster.layout (actor_of (node_of f) 0) l.about l.acts.moving l.acts.move f g x b body t deps l.sent in
      by l.is_node l.deed l.past l.at l.about l.acts p
    where
      by : is_node f ≡ true → (deed : Deed) (past : List Deed) → StandsAt deed past (deeds_of cluster f items) → (y : TxnId)
          → (acts : Acts cluster.layout (node_of f) (clock_start cluster.starts (node_of f)) past deed.act y)
          → IsProposal cluster.layout y acts.moving acts.move x b body t deps → Proposal cluster items x b body t deps
      by node deed past at y acts p =
          let start : ℕ = clock_start cluster.starts (node_of f) in
          let e = earlier cluster.layout (node_of f) start past y deed.act acts.moving acts.move acts.reacts in
          subst (λ z. Proposal cluster items z b body t deps) p.about
          (record {
            moving = acts.moving;
            moves =
                proposal_moves cluster.layout (node_of f) start past y deed.act acts.moving (record { t = t; deps = deps })
                (subst (Reacts cluster.layout (node_of f) start past y deed.act acts.moving) p.move_is acts.reacts);
            of_ballot = p.of_ballot;
            of_body = p.of_body;
            are = moving_polled cluster items h f node deed past y acts.moving acts.move at acts.reacts;
            first_zero = λ phase. sym p.of_ballot ∙ sym e.same_ballot ∙ first_has_zero cluster.layout (node_of f) start y past e.attempt e.is (e.same_phase ∙ phase);
            uses = subst (Uses cluster.layout) p.of_body (store_uses cluster.layout acts.moving.body p.store p.store_in);
          })

  pub committing : (f g : Actor) (x : TxnId) (b : Ballot) (body : BodyParts) (t : Stamp) (deps : List ShardDeps) → Sending items (Commit f g x b body t deps)
      → Commitment cluster items x b body t deps
  committing f g x b body t deps s =
      let m : Message = Commit f g x b body t deps in
      let l = later_by cluster items m h (IsCommit f g x b body t deps) (sender cluster items m h s) in
      let p = commit_sent cluster.layout (actor_of (node_of f) 0) l.about l.acts.moving l.acts.move f g x b body t deps l.sent in
      by l.is_node l.deed l.past l.at l.about l.acts p
    where
      by : is_node f ≡ true → (deed : Deed) (past : List Deed) → StandsAt deed past (deeds_of cluster f items) → (y : TxnId)
          → (acts : Acts cluster.layout (node_of f) (clock_start cluster.starts (node_of f)) past deed.act y)
          → IsCommitment cluster.layout y acts.moving acts.move x b body t deps → Commitment cluster items x b body t deps
      by node deed past at y acts p =
          let start : ℕ = clock_start cluster.starts (node_of f) in
          let home : f ≡ home_of y b = homes_are_one cluster items h (Commit f g x b body t deps) s node ∙ ap (λ z. home_of z b) (sym p.about) in
          let next = ap (λ move. (made cluster.layout (actor_of (node_of f) 0) y acts.moving move).next) p.move_is in
          subst (λ z. Commitment cluster items z b body t deps) p.about
          (record {
            moving = acts.moving;
            moves =
                commitment_moves cluster.layout (node_of f) start past y deed.act acts.moving (record { t = t; deps = deps })
                (subst (Reacts cluster.layout (node_of f) start past y deed.act acts.moving) p.move_is acts.reacts);
            of_ballot = p.of_ballot;
            of_body = p.of_body;
            are = moving_polled cluster items h f node deed past y acts.moving acts.move at acts.reacts;
            uses = subst (Uses cluster.layout) p.of_body (store_uses cluster.layout acts.moving.body p.store p.store_in);
            stage = λ most low. stage_of cluster items h f deed past y b (Committing (record { t = t; deps = deps })) most at acts next p.of_ballot low home;
            before_phase = stage_of_phase cluster items h f deed past y b (Committing (record { t = t; deps = deps })) at acts next p.of_ballot home;
          })

-- ---- the records of a view

-- the view of an answer, from its store's history
pub record HasView (cluster : Cluster) (items : List Item) (x : TxnId) (b : Ballot) (m : Message) (view : View) : Type 0 where
  pub f : Actor
  pub g : Actor
  pub is : m ≡ RecoverOk f g x b view
  pub store : Actor
  pub place : FromStore cluster items store m
  pub accepted_is : view.accepted ≡ accepted_of place.past x
  pub committed_is : view.committed ≡ committed_of place.past x

revealed : (layout : Layout) (own : Actor) (past : List Taken) (taken : Message) (f g : Actor) (x : TxnId) (b : Ballot) (view : View)
    → StoreSends layout own past taken (RecoverOk f g x b view) → (view.accepted ≡ accepted_of past x) × (view.committed ≡ committed_of past x)
revealed layout own past taken f g x b view (Reveals from to y c body counting shown p k e) = (ap (λ (v : View). v.accepted) e, ap (λ (v : View). v.committed) e)

has_view_of : (cluster : Cluster) (items : List Item) (x : TxnId) (b : Ballot) (m : Message) (view : View) → EachStands cluster items
    → view_in m ≡ Some view → id_of m ≡ x → ballot_of m ≡ b → FromStore cluster items (from_of m) m → HasView cluster items x b m view
has_view_of cluster items x b (RecoverOk f g id ballot shown) view h is about of_ballot place =
    let same : shown ≡ view = some_is shown view is in
    let told = revealed cluster.layout f place.past place.step.message f g id ballot shown (store_sent cluster items f (RecoverOk f g id ballot shown) h place) in
    record {
      f = f;
      g = g;
      is = ap (λ y. RecoverOk f g y ballot shown) about ∙ ap (λ c. RecoverOk f g x c shown) of_ballot ∙ ap (RecoverOk f g x b) same;
      store = f;
      place = place;
      accepted_is = sym (ap (λ (v : View). v.accepted) same) ∙ told.0 ∙ ap (accepted_of place.past) about;
      committed_is = sym (ap (λ (v : View). v.committed) same) ∙ told.1 ∙ ap (committed_of place.past) about;
    }
has_view_of cluster items x b (PreAccept from to id ballot body) view h is about of_ballot place = absurd (not_none view is)
has_view_of cluster items x b (PreAcceptOk from to id ballot vote deps) view h is about of_ballot place = absurd (not_none view is)
has_view_of cluster items x b (Accept from to id ballot body t deps) view h is about of_ballot place = absurd (not_none view is)
has_view_of cluster items x b (AcceptOk from to id ballot deps) view h is about of_ballot place = absurd (not_none view is)
has_view_of cluster items x b (Commit from to id ballot body t deps) view h is about of_ballot place = absurd (not_none view is)
has_view_of cluster items x b (CommitOk from to id ballot) view h is about of_ballot place = absurd (not_none view is)
has_view_of cluster items x b (Stable from to id ballot body t deps) view h is about of_ballot place = absurd (not_none view is)
has_view_of cluster items x b (ReadOk from to id ballot answer) view h is about of_ballot place = absurd (not_none view is)
has_view_of cluster items x b (Apply from to id ballot body t deps outcome) view h is about of_ballot place = absurd (not_none view is)
has_view_of cluster items x b (Recover from to id ballot body) view h is about of_ballot place = absurd (not_none view is)
has_view_of cluster items x b (Nack from to id ballot promised) view h is about of_ballot place = absurd (not_none view is)
has_view_of cluster items x b (Decided from to id ballot t deps) view h is about of_ballot place = absurd (not_none view is)
has_view_of cluster items x b (Inform from to id ballot outcome) view h is about of_ballot place = absurd (not_none view is)

-- the highest claim is a record that was sent before
pub data ClaimSent (items : List Item) (x : TxnId) (c : Claim) : Bool → Type 0 where
  WasAccept : (f g : Actor) (body : BodyParts) → SentBefore items (Accept f g x c.ballot body c.settled.t c.settled.deps) → ClaimSent items x c false
  WasCommit : (f g : Actor) (body : BodyParts) → SentBefore items (Commit f g x c.ballot body c.settled.t c.settled.deps) → ClaimSent items x c true

module _ (cluster : Cluster) (items : List Item) (h : EachStands cluster items) (x : TxnId) (body : BodyParts) (b : Ballot) (answers : List Message)
    (are : AreAnswers cluster items x body b is_recover_ok answers) where
  -- each view is that of an answer
  pub view_place : (view : View) → IsIn view (views_in answers) → (m : Message) × IsIn m answers × HasView cluster items x b m view
  view_place view there =
      let from = IsIn-filter_map view_in view answers there in
      let a = are from.source from.there in
      (from.source, from.there, has_view_of cluster items x b from.source view h from.gives a.about a.of_ballot a.place)

  claim_by : (c : Claim) (view : View) (m : Message) → HasView cluster items x b m view → (kind : Bool) → shown_as view kind ≡ Some (record_of c) → ClaimSent items x c kind
  claim_by c view m v false shows =
      let a = accepted_from v.place.past x (record_of c) (sym v.accepted_is ∙ shows) in
      let at = StandsAt-behind a.step v.place.step a.past v.place.past (taken_of cluster v.store items) a.at v.place.at in
      WasAccept a.from a.to a.body (subst (SentBefore items) a.message_is (store_took_before cluster v.store items h a.step a.past at))
  claim_by c view m v true shows =
      let a = committed_from v.place.past x (record_of c) (sym v.committed_is ∙ shows) in
      let at = StandsAt-behind a.step v.place.step a.past v.place.past (taken_of cluster v.store items) a.at v.place.at in
      WasCommit a.from a.to a.body (subst (SentBefore items) a.message_is (store_took_before cluster v.store items h a.step a.past at))

  pub claim_sent : (c : Claim) → highest_claim (claims_of (views_in answers)) ≡ Some c → ClaimSent items x c c.is_committed
  claim_sent c is =
      let shown = claim_is_shown (views_in answers) c is in
      let v = view_place shown.view (Contains-IsIn shown.view (views_in answers) shown.there) in
      claim_by c shown.view v.0 v.2 c.is_committed shown.shows

-- ---- claims of a view

pub accepted_claim : (answers : List View) (v : View) (found : Accepted) → IsIn v answers → v.accepted ≡ Some found
    → Contains (claims_of answers) (record { store = v.store; ballot = found.ballot; is_committed = false; settled = record { t = found.t; deps = found.deps } })
accepted_claim answers v found there is =
    let c : Claim = record { store = v.store; ballot = found.ballot; is_committed = false; settled = record { t = found.t; deps = found.deps } } in
    IsIn-Contains c (claims_of answers)
    (flat_map-IsIn claims_in c v answers there
    (IsIn-append_right c (claim_in v.store true v.committed) (claim_in v.store false v.accepted)
    (subst (λ o. IsIn c (claim_in v.store false o)) (sym is) (First c []))))

pub committed_claim : (answers : List View) (v : View) (found : Accepted) → IsIn v answers → v.committed ≡ Some found
    → Contains (claims_of answers) (record { store = v.store; ballot = found.ballot; is_committed = true; settled = record { t = found.t; deps = found.deps } })
committed_claim answers v found there is =
    let c : Claim = record { store = v.store; ballot = found.ballot; is_committed = true; settled = record { t = found.t; deps = found.deps } } in
    IsIn-Contains c (claims_of answers)
    (flat_map-IsIn claims_in c v answers there
    (IsIn-append_left c (claim_in v.store true v.committed) (claim_in v.store false v.accepted)
    (subst (λ o. IsIn c (claim_in v.store true o)) (sym is) (First c []))))

-- ---- induction over the prefixes of one run

module _ (cluster : Cluster) (whole : List Item) (P : Message → Type 0)
    (step : (past : List Item) → IsPast past whole → EachStands cluster past → ((m : Message) → SentBefore past m → P m) → (m : Message) → Sending past m → P m) where
  no_sending : (m : Message) → Sending [] m → P m
  no_sending m s = elim s.at [ ]

  each_within : (items : List Item) → IsPast items whole → EachStands cluster items → (past : List Item) → IsPast past items → (m : Message) → Sending past m → P m
  each_within [] within h past (Whole xs) m s = no_sending m s
  each_within (item ∷ rest) within h past (Whole xs) m s =
      step (item ∷ rest) within h (λ n b. each_within rest (IsPast-rest item rest whole within) h.1 b.past b.before n b.sending) m s
  each_within (item ∷ rest) within h past (Behind y ys xs there) m s = each_within rest (IsPast-rest item rest whole within) h.1 ys there m s

  pub each_of_run : EachStands cluster whole → (m : Message) → Sending whole m → P m
  each_of_run h m s = each_within whole (Whole whole) h whole (Whole whole) m s
