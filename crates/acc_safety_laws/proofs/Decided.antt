-- At which timestamps a transaction is decided, and what its rivals that weren't heard are voted for.
use Rattle.std.proofs.Common.{◌≡◌, ℕ, Bool, true, false, List, refl, sym, ◌∙◌, ap, subst, ⊎_elim}
use Rattle.std.proofs.lemmas.Bool.{true≢false}
use Rattle.acc_stamp.specs.declared.stamps.Stamp.{Stamp}
use Rattle.acc_stamp.specs.declared.stamps.TxnId.{TxnId}
use Rattle.acc_stamp.specs.declared.stamps.Ballot.{Ballot}
use Rattle.acc_stamp.specs.Actor.{shard_of}
use Rattle.acc_stamp.specs.Stamp.{stamp_lt, zero_ballot}
use Rattle.acc_stamp.proofs.Order.{stamp_order, asym, lt-le-trans, le-trans}
use Rattle.acc_topology.specs.Layout.{IsLayout}
use Rattle.acc_topology.specs.Sets.{is_among}
use Rattle.acc_deps.specs.declared.shards.ShardDeps.{ShardDeps}
use Rattle.acc_txn.specs.declared.parts.BodyParts.{BodyParts}
use Rattle.acc_message.specs.declared.message.Message.{Message}
use Rattle.acc_message.specs.declared.item.Item.{Item}
use Rattle.acc_message.specs.Fields.{from_of}
use Rattle.acc_message.specs.Shares.{shards_used}
use Rattle.acc_message.specs.Attempts.{is_preaccept_ok, vote_in_answer, greatest_vote, majority_everywhere}
use Rattle.acc_message.specs.BallotRules.{is_recover_ok}
use Rattle.acc_message.specs.Run.{Cluster, taken_of, EachStands}
use Rattle.acc_safety.specs.Places.{IsIn}
use Rattle.acc_safety.specs.Polls.{AreAnswers, IsAnswer, Meeting, AreRivals, IsAny, Kept}
use Rattle.acc_safety.specs.Roots.{Root, GreatestOfVotes, GreatestOfViews, Own, FastBy, DecisionRoot, ByFastVotes, ByCommits}
use Rattle.acc_safety.specs.Statements.{ProposalsHaveRoots, CommitsHaveRoots}
use Rattle.acc_safety.proofs.Bridge.{each_answers}
use Rattle.acc_safety_laws.proofs.Drawn.{own_or_drawn}
use Rattle.acc_safety.proofs.Meetings.{majorities_meet}
use Rattle.acc_safety_laws.proofs.Polled.{vote_said, HaveVotes, preaccept_oks_vote, recover_oks_vote, greatest_vote-above, answer_votes}
use Rattle.acc_safety_laws.proofs.Unheard.{Unheard, votes_above}

-- ---- what is below doesn't go above

pub not_both : (a b : Stamp) → stamp_lt a b ≡ true → stamp_lt b a ≡ true → ⊥
not_both a b h k = true≢false (sym k ∙ asym stamp_order a b h)

-- ---- where a timestamp goes back to

-- fast votes, or a proposal
pub data Based (cluster : Cluster) (items : List Item) (y : TxnId) (theirs : BodyParts) (t : Stamp) : Type 0 where
  OnFast : (answers : List Message) → FastBy cluster items y theirs answers → t ≡ y.0 → Based cluster items y theirs t
  OnRoot : (deps : List ShardDeps) → Root cluster items y theirs t deps → Based cluster items y theirs t

pub based : (cluster : Cluster) (items : List Item) (y : TxnId) (theirs : BodyParts) (t : Stamp) (deps : List ShardDeps)
    → ProposalsHaveRoots cluster items → CommitsHaveRoots cluster items → DecisionRoot cluster items y theirs t deps → Based cluster items y theirs t
based cluster items y theirs t deps proposals commits (ByFastVotes answers fast) = OnFast answers fast refl
based cluster items y theirs t deps proposals commits (ByCommits b u ds answers committed) =
    let r = commits y theirs b u ds committed.commit in
    OnRoot r.proposed (proposals y theirs r.ballot u r.proposed r.accepted.proposal)

module _ (cluster : Cluster) (items : List Item) (h : EachStands cluster items) where
  -- ---- a timestamp isn't below the own one

  voted_not_below : (y : TxnId) (theirs : BodyParts) (b : Ballot) (kind : Message → Bool) (m : Message) → HaveVotes kind
      → IsAnswer cluster items y theirs b kind m → stamp_lt (vote_in_answer m) y.0 ≡ false
  voted_not_below y theirs b kind m have a =
      ⊎_elim
      (λ own. ap (λ s. stamp_lt s y.0) own ∙ stamp_order.irrefl y.0)
      (λ drawn. asym stamp_order y.0 (vote_in_answer m) drawn.1)
      (own_or_drawn cluster.layout (from_of m) y (vote_said m) (taken_of cluster (from_of m) items) (each_answers cluster (from_of m) items h a.place.is_store)
      (answer_votes cluster items h y theirs b kind m have a))

  greatest_not_below : (y : TxnId) (theirs : BodyParts) (b : Ballot) (kind : Message → Bool) (answers : List Message) (shard : ℕ) → IsLayout cluster.layout
      → is_among (shards_used cluster.layout theirs) shard ≡ true → HaveVotes kind → AreAnswers cluster items y theirs b kind answers
      → majority_everywhere cluster.layout y theirs answers ≡ true → stamp_lt (greatest_vote y answers) y.0 ≡ false
  greatest_not_below y theirs b kind answers shard is used have are majority =
      le-trans stamp_order y.0 (vote_in_answer m.first) (greatest_vote y answers)
      (voted_not_below y theirs b kind m.first have (are m.first m.first_in)) (greatest_vote-above y answers m.first m.first_in)
    where
      m : Meeting shard IsAny IsAny answers answers
      m = majorities_meet cluster.layout y y theirs theirs answers answers shard is used used majority majority

  pub root_not_below : (y : TxnId) (theirs : BodyParts) (t : Stamp) (deps : List ShardDeps) (shard : ℕ) → IsLayout cluster.layout
      → is_among (shards_used cluster.layout theirs) shard ≡ true → Root cluster items y theirs t deps → stamp_lt t y.0 ≡ false
  root_not_below y theirs t deps shard is used (GreatestOfVotes answers are majority proposed) =
      greatest_not_below y theirs zero_ballot is_preaccept_ok answers shard is used preaccept_oks_vote are majority
  root_not_below y theirs t deps shard is used (GreatestOfViews b answers are majority ruled_out) =
      greatest_not_below y theirs b is_recover_ok answers shard is used recover_oks_vote are majority
  root_not_below y theirs t deps shard is used (Own b answers are majority free) = stamp_order.irrefl y.0

  pub based_not_below : (y : TxnId) (theirs : BodyParts) (t : Stamp) (shard : ℕ) → IsLayout cluster.layout
      → is_among (shards_used cluster.layout theirs) shard ≡ true → Based cluster items y theirs t → stamp_lt t y.0 ≡ false
  based_not_below y theirs t shard is used (OnFast answers fast own) = ap (λ s. stamp_lt s y.0) own ∙ stamp_order.irrefl y.0
  based_not_below y theirs t shard is used (OnRoot deps root) = root_not_below y theirs t deps shard is used root

-- ---- a quorum that hadn't heard of y

module _ (cluster : Cluster) (items : List Item) (h : EachStands cluster items) (shard : ℕ) (x y : TxnId) (body theirs : BodyParts) (r : AreRivals cluster items shard y x theirs body) where
  -- at no store of the shard with an answer was y heard when x had the stamp
  abbrev pub AreUnheard : List Message → Stamp → Type 0
  AreUnheard answers s = (m : Message) → IsIn m answers → shard_of (from_of m) ≡ shard → Unheard cluster items h (from_of m) x y body s

  -- so where an answer about y meets them it has a vote above the stamp
  pub met_above : (s : Stamp) (one other : Message → Type 0) (answers more : List Message) (b : Ballot) (kind : Message → Bool) → HaveVotes kind
      → AreUnheard answers s → AreAnswers cluster items y theirs b kind more → stamp_lt s y.0 ≡ false
      → (m : Meeting shard one other answers more) → stamp_lt s (vote_in_answer m.second) ≡ true
  met_above s one other answers more b kind have unheard are over m =
      votes_above cluster items h (from_of m.second) shard x y body theirs s (vote_said m.second) a.place.is_store (ap shard_of m.second_from ∙ m.of_shard) r
      (subst (λ c. Unheard cluster items h c x y body s) (m.first_from ∙ sym m.second_from)
      (unheard m.first m.first_in (ap shard_of m.first_from ∙ m.of_shard)))
      over (answer_votes cluster items h y theirs b kind m.second have a)
    where
      a : IsAnswer cluster items y theirs b kind m.second
      a = are m.second m.second_in

  -- and the greatest vote isn't below it
  pub met_greatest : (s : Stamp) (one other : Message → Type 0) (answers more : List Message) (b : Ballot) (kind : Message → Bool) → HaveVotes kind
      → AreUnheard answers s → AreAnswers cluster items y theirs b kind more → stamp_lt s y.0 ≡ false
      → Meeting shard one other answers more → stamp_lt (greatest_vote y more) s ≡ true → ⊥
  met_greatest s one other answers more b kind have unheard are over m below =
      not_both (greatest_vote y more) s below
      (lt-le-trans stamp_order s (vote_in_answer m.second) (greatest_vote y more) (met_above s one other answers more b kind have unheard are over m)
      (greatest_vote-above y more m.second m.second_in))

  -- nor is a vote for the own timestamp
  pub met_kept : (s : Stamp) (one : Message → Type 0) (answers more : List Message) (b : Ballot) (kind : Message → Bool) → HaveVotes kind
      → AreUnheard answers s → AreAnswers cluster items y theirs b kind more → stamp_lt y.0 s ≡ true
      → Meeting shard one (Kept y) answers more → ⊥
  met_kept s one answers more b kind have unheard are below m =
      not_both y.0 s below
      (ap (stamp_lt s) (sym m.second_is)
      ∙ met_above s one (Kept y) answers more b kind have unheard are (asym stamp_order y.0 s below) m)
