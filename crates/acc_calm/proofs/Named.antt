-- What a stable record names in a shard was begun, and uses the shard.
use Rattle.std.proofs.Common.{◌≡◌, ℕ, Bool, true, false, not, ◌&&◌, cond, List, [], ◌∷◌, map, filter, Some, refl, sym, ◌∙◌, ap, subst, ⊎_elim}
use Rattle.std.specs.List.{AllByRecursion}
use Rattle.std.specs.Prelude.{◌==◌}
use Rattle.std.proofs.lemmas.Bool.{true≢false, and_parts, or_cases, eqb-true}
use Rattle.acc_stamp.specs.declared.stamps.Stamp.{Stamp}
use Rattle.acc_stamp.specs.declared.stamps.TxnId.{TxnId}
use Rattle.acc_stamp.specs.declared.stamps.Ballot.{Ballot}
use Rattle.acc_stamp.specs.declared.actors.Actor.{Actor}
use Rattle.acc_stamp.specs.Actor.{shard_of}
use Rattle.acc_stamp.specs.Stamp.{id_eq, stamp_lt, zero_ballot}
use Rattle.acc_stamp.specs.Rising.{id_among}
use Rattle.acc_stamp.proofs.Order.{id_order}
use Rattle.acc_stamp.proofs.Rising.{is_among-union}
use Rattle.acc_topology.specs.Sets.{is_among}
use Rattle.acc_deps.specs.declared.shards.ShardDeps.{ShardDeps}
use Rattle.acc_deps.specs.declared.records.Settled.{Settled}
use Rattle.acc_deps.specs.Deps.{AreDeps, deps_has}
use Rattle.acc_deps.proofs.ByShard.{AreDeps-nil, deps_has-union, of_shard-of}
use Rattle.acc_txn.specs.declared.parts.BodyParts.{BodyParts}
use Rattle.acc_message.specs.declared.message.Message.{Message}
use Rattle.acc_message.specs.declared.message.Message.TheVariants.{PreAcceptOk, Accept, AcceptOk, RecoverOk}
use Rattle.acc_message.specs.declared.item.Item.{Item}
use Rattle.acc_message.specs.Fields.{from_of, to_of, id_of, ballot_of}
use Rattle.acc_message.specs.Shares.{shards_used, conflict_in}
use Rattle.acc_message.specs.Taken.{Taken, taking, Heard, known, rivals, body_known}
use Rattle.acc_message.specs.VoteRule.{Vote, ids_below, known_below}
use Rattle.acc_message.specs.BallotRules.{stable_of, is_accept_ok, is_recover_ok}
use Rattle.acc_message.specs.Attempts.{is_preaccept_ok, deps_in_answer, union_of}
use Rattle.acc_message.specs.Run.{Cluster, taken_of, is_node}
use Rattle.acc_safety.specs.Places.{First, Later, StandsAt}
use Rattle.acc_safety.specs.Polls.{IsBody, IsAnswer, AreAnswers}
use Rattle.acc_safety.specs.Roots.{Root, GreatestOfVotes, GreatestOfViews, Own, CommitRoot, DecisionRoot, ByFastVotes, ByCommits}
use Rattle.acc_safety.specs.Histories.{Sending}
use Rattle.acc_safety.specs.StoreSends.{StoreSends}
use Rattle.acc_safety.specs.Statements.{BodiesAreBegun, DepsAreSets, deps_named}
use Rattle.acc_safety.specs.Valid.{IsStanding}
use Rattle.acc_safety.proofs.PlaceOrder.{passing, IsIn-map, IsIn-filter, StandsAt-IsPast}
use Rattle.acc_safety.proofs.Bridge.{each_answers}
use Rattle.acc_safety.proofs.Frame.{bodies_are_begun, store_sent}
use Rattle.acc_safety.proofs.Meetings.{are_rivals}
use Rattle.acc_safety.proofs.SetsNamed.{deps_are_sets}
use Rattle.acc_safety.proofs.StoreNotions.{votes_are_made}
use Rattle.acc_safety_laws.proofs.Knowing.{known_itself, body_known-past}
use Rattle.acc_safety_laws.proofs.Polled.{vote_said, HaveVotes, preaccept_oks_vote, recover_oks_vote, answer_votes, known_body, answers_union, store_sent as answer_sent}
use Rattle.acc_safety_laws.proofs.Sent.{sent_accept_ok}
use Rattle.acc_safety_laws.proofs.Unheard.{accept_ok_is}
use Rattle.acc_safety_laws.proofs.Proposals.{proposals_have_roots}
use Rattle.acc_safety_laws.proofs.Commits.{commits_have_roots}
use Rattle.acc_safety_laws.proofs.Decisions.{records_have_roots}

module _ (cluster : Cluster) (items : List Item) (standing : IsStanding cluster items) where
  begun : BodiesAreBegun cluster items
  begun = bodies_are_begun cluster items standing.stands

  sets : DepsAreSets items
  sets = deps_are_sets cluster items standing.stands

  -- y was begun, and its body uses the shard
  pub record UsesShard (shard : ℕ) (y : TxnId) : Type 0 where
    pub body : BodyParts
    pub is : IsBody cluster items y body
    pub used : is_among (shards_used cluster.layout body) shard ≡ true

  abbrev Named : List ShardDeps → Type 0
  Named deps = (shard : ℕ) (y : TxnId) → deps_has deps shard y ≡ true → UsesShard shard y

  -- ---- what a store names

  known_named : (a : Actor) (step : Taken) (past : List Taken) → StandsAt step past (taken_of cluster a items) → (x : TxnId) (body : BodyParts) (bound : Stamp)
      → IsBody cluster items x body → (y : TxnId) → id_among y (ids_below bound (rivals cluster.layout (shard_of a) (taking step.message past) x body)) ≡ true
      → UsesShard (shard_of a) y
  known_named a step past at x body bound body_is y h =
      let others : List Heard = rivals cluster.layout (shard_of a) (taking step.message past) x body in
      let p = passing (λ z. id_eq z y) (map (λ (k : Heard). k.id) (filter (λ (k : Heard). stamp_lt k.id.0 bound) others))
      (sym (is_among-union id_order y [] (map (λ (k : Heard). k.id) (filter (λ (k : Heard). stamp_lt k.id.0 bound) others))) ∙ h) in
      let from = IsIn-map (λ (k : Heard). k.id) p.element (filter (λ (k : Heard). stamp_lt k.id.0 bound) others) p.there in
      let below = IsIn-filter (λ (k : Heard). stamp_lt k.id.0 bound) from.source others from.there in
      let rival = IsIn-filter (λ (k : Heard). not (id_eq k.id x) && conflict_in cluster.layout (shard_of a) k.body body) from.source (known (taking step.message past)) below.0 in
      let parts = and_parts (not (id_eq from.source.id x)) (conflict_in cluster.layout (shard_of a) from.source.body body) rival.1 in
      let is = known_body cluster items standing.stands begun a from.source.id from.source.body
      (body_known-past from.source.id from.source.body (step ∷ past) (taken_of cluster a items) (known_itself from.source (step ∷ past) rival.0)
      (StandsAt-IsPast step past (taken_of cluster a items) at)) in
      let r = are_rivals cluster items (shard_of a) from.source.id x from.source.body body standing.valid.layout is body_is
      (λ same. true≢false (sym parts.0 ∙ ap not ((id_order.decides from.source.id x).1 same))) parts.1 in
      subst (UsesShard (shard_of a)) (sym from.is ∙ (id_order.decides p.element y).0 p.passes)
      (record { body = from.source.body; is = is; used = r.first_uses })

  known_below_named : (a : Actor) (step : Taken) (past : List Taken) → StandsAt step past (taken_of cluster a items) → (x : TxnId) (body : BodyParts) (bound : Stamp)
      → IsBody cluster items x body → Named (known_below cluster.layout a (taking step.message past) x body bound)
  known_below_named a step past at x body bound body_is shard y h =
      by (shard_of a == shard) refl
      (sym (ap (id_among y) (of_shard-of (shard_of a) shard (ids_below bound (rivals cluster.layout (shard_of a) (taking step.message past) x body)))) ∙ h)
    where
      by : (b : Bool) → (shard_of a == shard) ≡ b
          → id_among y (cond b (ids_below bound (rivals cluster.layout (shard_of a) (taking step.message past) x body)) []) ≡ true → UsesShard shard y
      by true same k = subst (λ s. UsesShard s y) (eqb-true (shard_of a) shard same) (known_named a step past at x body bound body_is y k)
      by false other k = absurd (true≢false (sym k))

  counting_begun : (a : Actor) (step : Taken) (past : List Taken) → StandsAt step past (taken_of cluster a items) → (x : TxnId) (body : BodyParts)
      → body_known (step ∷ past) x ≡ Some body → IsBody cluster items x body
  counting_begun a step past at x body is =
      known_body cluster items standing.stands begun a x body
      (body_known-past x body (step ∷ past) (taken_of cluster a items) is (StandsAt-IsPast step past (taken_of cluster a items) at))

  -- ---- what an answer names

  vote_named : (x : TxnId) (body : BodyParts) (b : Ballot) (kind : Message → Bool) (m : Message) → HaveVotes kind → IsAnswer cluster items x body b kind m → Named (deps_in_answer m)
  vote_named x body b kind m have answer =
      let a : Actor = from_of m in
      let made = votes_are_made cluster.layout a (taken_of cluster a items) (each_answers cluster a items standing.stands answer.place.is_store) x (vote_said m)
      (answer_votes cluster items standing.stands x body b kind m have answer) in
      subst (λ (v : Vote). Named v.deps) (sym made.made)
      (known_below_named a made.step made.past made.at x made.body x.0 (counting_begun a made.step made.past made.at x made.body made.body_is))

  accept_named : (x : TxnId) (body : BodyParts) (b : Ballot) (m : Message) → IsAnswer cluster items x body b is_accept_ok m → Named (deps_in_answer m)
  accept_named x body b m answer =
      let f = answer.place in
      let a : Actor = from_of m in
      let s = sent_accept_ok cluster.layout a f.past f.step.message (from_of m) (to_of m) (id_of m) (ballot_of m) (deps_in_answer m)
      (subst (StoreSends cluster.layout a f.past f.step.message) (accept_ok_is m answer.is) (store_sent cluster items a m standing.stands f)) in
      subst Named (sym s.deps_are)
      (known_below_named a f.step f.past f.at (id_of m) s.counting s.t (counting_begun a f.step f.past f.at (id_of m) s.counting s.known))

  -- ---- what answers name together

  answer_set : (m : Message) → AllByRecursion AreDeps (deps_named m) → AreDeps (deps_in_answer m)
  answer_set (PreAcceptOk from to id ballot vote deps) h = h.0
  answer_set (AcceptOk from to id ballot deps) h = h.0
  answer_set (RecoverOk from to id ballot view) h = h.0
  answer_set _ h = AreDeps-nil

  union_named : (x : TxnId) (body : BodyParts) (b : Ballot) (kind : Message → Bool) (answers : List Message) → AreAnswers cluster items x body b kind answers
      → ((m : Message) → IsAnswer cluster items x body b kind m → Named (deps_in_answer m)) → Named (union_of x answers)
  union_named x body b kind [] are each shard y h = absurd (true≢false (sym h))
  union_named x body b kind (m ∷ answers) are each shard y h =
      let rest : AreAnswers cluster items x body b kind answers = λ k there. are k (Later k m answers there) in
      let answer = are m (First m answers) in
      ⊎_elim (union_named x body b kind answers rest each shard y) (each m answer shard y)
      (or_cases (deps_has (union_of x answers) shard y) (deps_has (deps_in_answer m) shard y)
      (sym (deps_has-union (union_of x answers) (deps_in_answer m) shard y (answers_union cluster items standing.stands sets x body b kind answers rest)
      (answer_set m (sets.messages m (answer_sent cluster items standing.stands (from_of m) m answer.place)))) ∙ h))

  -- ---- roots

  votes_named : (x : TxnId) (body : BodyParts) (b : Ballot) (kind : Message → Bool) (answers : List Message) → HaveVotes kind → AreAnswers cluster items x body b kind answers
      → Named (union_of x answers)
  votes_named x body b kind answers have are = union_named x body b kind answers are (λ m answer. vote_named x body b kind m have answer)

  proposal_named : (x : TxnId) (body : BodyParts) (t : Stamp) (deps : List ShardDeps) → Root cluster items x body t deps → Named deps
  proposal_named x body t deps (GreatestOfVotes answers are major proposed) = votes_named x body zero_ballot is_preaccept_ok answers preaccept_oks_vote are
  proposal_named x body t deps (GreatestOfViews b answers are major ruled) = votes_named x body b is_recover_ok answers recover_oks_vote are
  proposal_named x body t deps (Own b answers are major free) = votes_named x body b is_recover_ok answers recover_oks_vote are

  commit_named : (x : TxnId) (body : BodyParts) (t : Stamp) (deps : List ShardDeps) → CommitRoot cluster items x body t deps → Named deps
  commit_named x body t deps r shard y h =
      let a = r.accepted in
      ⊎_elim
      (proposal_named x body t r.proposed (proposals_have_roots cluster items standing x body r.ballot t r.proposed a.proposal) shard y)
      (union_named x body r.ballot is_accept_ok r.answers a.are (λ m answer. accept_named x body r.ballot m answer) shard y)
      (or_cases (deps_has r.proposed shard y) (deps_has (union_of x r.answers) shard y)
      (sym (deps_has-union r.proposed (union_of x r.answers) shard y (proposed_set a.proposal.from a.proposal.to r.ballot r.proposed a.proposal.sending)
      (answers_union cluster items standing.stands sets x body r.ballot is_accept_ok r.answers a.are))
      ∙ ap (λ d. deps_has d shard y) (sym r.deps_are) ∙ h))
    where
      proposed_set : (from to : Actor) (b : Ballot) (more : List ShardDeps) → Sending items (Accept from to x b body t more) → AreDeps more
      proposed_set from to b more s = (sets.messages (Accept from to x b body t more) s).0

  root_named : (x : TxnId) (body : BodyParts) (t : Stamp) (deps : List ShardDeps) → DecisionRoot cluster items x body t deps → Named deps
  root_named x body t deps (ByFastVotes answers fast) = votes_named x body zero_ballot is_preaccept_ok answers preaccept_oks_vote fast.are
  root_named x body t deps (ByCommits b s more answers by) = commit_named x body s more (commits_have_roots cluster items standing x body b s more by.commit)

  -- a stable record names what was begun and uses the shard
  pub record_named : (a : Actor) (x : TxnId) (body : BodyParts) (s : Settled) → is_node a ≡ false → IsBody cluster items x body
      → stable_of (taken_of cluster a items) x ≡ Some s → Named s.deps
  record_named a x body s store body_is is = root_named x body s.t s.deps (records_have_roots cluster items standing a x body s store body_is is)
