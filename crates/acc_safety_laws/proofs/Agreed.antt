-- The decisions of a transaction have one timestamp, and above its own one set of dependencies; those of two have two timestamps.
use Rattle.std.proofs.Common.{◌≡◌, ℕ, ◌%◌, ◌*◌, Bool, true, false, cond, List, [], ◌∷◌, Some, refl, sym, ◌∙◌, ap, subst, ◌⊎◌, inl, inr, ⊎_elim, arith}
use Rattle.std.proofs.lemmas.Bool.{true≢false, cases_Bool, eq-eqb}
use Rattle.std.proofs.lemmas.Bool.Decides.{nat_tests}
use Rattle.acc_stamp.specs.declared.stamps.Stamp.{Stamp}
use Rattle.acc_stamp.specs.declared.stamps.TxnId.{TxnId}
use Rattle.acc_stamp.specs.declared.stamps.Ballot.{Ballot}
use Rattle.acc_stamp.specs.declared.actors.Actor.{Actor}
use Rattle.acc_stamp.specs.Stamp.{stamp_lt, zero_stamp, zero_ballot}
use Rattle.acc_stamp.proofs.Order.{stamp_order, ballot_order, trichotomy}
use Rattle.acc_topology.specs.Sets.{is_among}
use Rattle.acc_deps.specs.declared.shards.ShardDeps.{ShardDeps}
use Rattle.acc_quorum.specs.Answers.{Answer, later_stamp, greatest}
use Rattle.acc_txn.specs.declared.parts.BodyParts.{BodyParts}
use Rattle.acc_message.specs.declared.message.Message.{Message}
use Rattle.acc_message.specs.declared.item.Item.{Item}
use Rattle.acc_message.specs.Fields.{from_of}
use Rattle.acc_message.specs.Shares.{shards_used}
use Rattle.acc_message.specs.VoteRule.{Vote, vote_of}
use Rattle.acc_message.specs.Attempts.{is_preaccept_ok, vote_in_answer, plain, plainly, greatest_vote, majority_everywhere}
use Rattle.acc_message.specs.BallotRules.{is_recover_ok}
use Rattle.acc_message.specs.Run.{Cluster, taken_of, is_node}
use Rattle.acc_safety.specs.Places.{IsIn, First, Later}
use Rattle.acc_safety.specs.Polls.{IsBody, IsAnswer, AreAnswers, Meeting, IsAny}
use Rattle.acc_safety.specs.Roots.{Committed, Root, GreatestOfVotes, GreatestOfViews, Own, CommittedBy, ByFastVotes, ByCommits}
use Rattle.acc_safety.specs.Statements.{OneTimestamp, TimestampsDiffer, OneSetOfDeps}
use Rattle.acc_safety.specs.Valid.{IsStanding}
use Rattle.acc_safety.proofs.PlaceOrder.{From, IsIn-map, map-IsIn}
use Rattle.acc_safety.proofs.Bridge.{each_answers}
use Rattle.acc_safety.proofs.Meetings.{majorities_meet}
use Rattle.acc_safety_laws.proofs.Drawn.{own_or_drawn, votes_differ}
use Rattle.acc_safety_laws.proofs.Polled.{vote_said, HaveVotes, preaccept_oks_vote, recover_oks_vote, answer_votes}
use Rattle.acc_safety_laws.proofs.Decided.{Based, OnFast, OnRoot, based}
use Rattle.acc_safety_laws.specs.AgreementPremises.{Premises}
use Rattle.acc_safety_laws.proofs.FastFound.{fast_is_found}
use Rattle.acc_safety_laws.proofs.BegunIds.{uses_some, body_keeps, begin_noted, BegunBy, was_begun}

-- ---- one transaction

module _ (cluster : Cluster) (items : List Item) (s : IsStanding cluster items) (p : Premises cluster items) where
  -- what two majorities committed is one
  one_committed : (x : TxnId) (body : BodyParts) (b c : Ballot) (t u : Stamp) (deps more : List ShardDeps) (answers others : List Message)
      → CommittedBy cluster items x body b (record { t = t; deps = deps }) answers → CommittedBy cluster items x body c (record { t = u; deps = more }) others → (t ≡ u) × (deps ≡ more)
  one_committed x body b c t u deps more answers others one other =
      ⊎_elim
      (λ below.
      let e = p.committed_last x body b c t u deps more answers one other.commit below in
      (sym e.0, sym e.1))
      (⊎_elim
      (λ same. p.one_commit x b body body t u deps more one.commit (subst (λ z. Committed items x body z u more) (sym same) other.commit))
      (λ above. p.committed_last x body c b u t more deps others other one.commit above))
      (trichotomy ballot_order b c)

  pub one_timestamp : OneTimestamp cluster items
  one_timestamp x body t u deps more is (ByFastVotes answers fast) other =
      sym ((fast_is_found cluster items s p).decisions x body answers u more fast other)
  one_timestamp x body t u deps more is (ByCommits b v ds answers c) (ByFastVotes others fast) =
      (fast_is_found cluster items s p).decisions x body others v ds fast (ByCommits b v ds answers c)
  one_timestamp x body t u deps more is (ByCommits b v ds answers c) (ByCommits e w es others d) =
      (one_committed x body b e v w ds es answers others c d).0

  pub one_set_of_deps : OneSetOfDeps cluster items
  one_set_of_deps x body t u deps more is (ByFastVotes answers fast) other above = absurd (true≢false (sym above ∙ stamp_order.irrefl x.0))
  one_set_of_deps x body t u deps more is (ByCommits b v ds answers c) (ByFastVotes others fast) above =
      absurd
      (true≢false
      (sym above
      ∙ ap (stamp_lt x.0) ((fast_is_found cluster items s p).decisions x body others v ds fast (ByCommits b v ds answers c))
      ∙ stamp_order.irrefl x.0))
  one_set_of_deps x body t u deps more is (ByCommits b v ds answers c) (ByCommits e w es others d) above =
      (one_committed x body b e v w ds es answers others c d).1

-- ---- a timestamp is the own one, or a vote

nothing_below_zero : (a : Stamp) → stamp_lt a zero_stamp ≡ false
nothing_below_zero a = grind (arith, nat_tests)

later_is : (a b : Stamp) → (later_stamp a b ≡ a) ⊎ (later_stamp a b ≡ b)
later_is a b = ⊎_elim (λ above. inr (ap (λ c. cond c b a) above)) (λ not_above. inl (ap (λ c. cond c b a) not_above)) (cases_Bool (stamp_lt a b))

later_zero : (b : Stamp) → later_stamp zero_stamp b ≡ b
later_zero b =
    ⊎_elim (λ above. ap (λ c. cond c b zero_stamp) above)
    (λ not_above. ap (λ c. cond c b zero_stamp) not_above ∙ stamp_order.connected zero_stamp b not_above (nothing_below_zero b)) (cases_Bool (stamp_lt zero_stamp b))

-- the greatest of some answers is that of one
record IsOf (answers : List Answer) (t : Stamp) : Type 0 where
  pub answer : Answer
  pub there : IsIn answer answers
  pub is : t ≡ answer.t

greatest_of : (a : Answer) (answers : List Answer) → IsOf (a ∷ answers) (greatest (a ∷ answers))
greatest_of a [] = record { answer = a; there = First a []; is = later_zero a.t }
greatest_of a (b ∷ answers) = by (greatest_of b answers) (later_is (greatest (b ∷ answers)) a.t)
  where
    by : IsOf (b ∷ answers) (greatest (b ∷ answers)) → (later_stamp (greatest (b ∷ answers)) a.t ≡ greatest (b ∷ answers)) ⊎ (later_stamp (greatest (b ∷ answers)) a.t ≡ a.t)
        → IsOf (a ∷ b ∷ answers) (later_stamp (greatest (b ∷ answers)) a.t)
    by f (inl old) = record { answer = f.answer; there = Later f.answer a (b ∷ answers) f.there; is = old ∙ f.is }
    by f (inr new) = record { answer = a; there = First a (b ∷ answers); is = new }

greatest_in : (a : Answer) (answers : List Answer) → IsIn a answers → IsOf answers (greatest answers)
greatest_in a answers (First b rest) = greatest_of b rest
greatest_in a answers (Later b c rest there) = greatest_of c rest

-- it is the own one, or some store drew it
data TimeOf (cluster : Cluster) (items : List Item) (x : TxnId) (t : Stamp) : Type 0 where
  IsOwn : t ≡ x.0 → TimeOf cluster items x t
  IsVote : (a : Actor) (v : Vote) → is_node a ≡ false → vote_of (taken_of cluster a items) x ≡ Some v → v.vote ≡ t → t.origin ≡ a.0 → TimeOf cluster items x t

module _ (cluster : Cluster) (items : List Item) (s : IsStanding cluster items) where
  voted_time : (x : TxnId) (body : BodyParts) (b : Ballot) (kind : Message → Bool) (answers : List Message) → HaveVotes kind → IsBody cluster items x body
      → AreAnswers cluster items x body b kind answers → majority_everywhere cluster.layout x body answers ≡ true
      → TimeOf cluster items x (greatest_vote x answers)
  voted_time x body b kind answers have is are majority =
      ⊎_elim (λ own. IsOwn (t_is ∙ own)) (λ drawn. IsVote (from_of from.source) (vote_said from.source) a.place.is_store voted (sym t_is) (ap (λ (z : Stamp). z.origin) t_is ∙ drawn.0))
      (own_or_drawn cluster.layout (from_of from.source) x (vote_said from.source) (taken_of cluster (from_of from.source) items)
      (each_answers cluster (from_of from.source) items s.stands a.place.is_store) voted)
    where
      shard : (n : ℕ) × (is_among (shards_used cluster.layout body) n ≡ true)
      shard = uses_some cluster.layout body s.valid.layout (body_keeps cluster items x body s.valid is)

      m : Meeting shard.0 IsAny IsAny answers answers
      m = majorities_meet cluster.layout x x body body answers answers shard.0 s.valid.layout shard.1 shard.1 majority majority

      found : IsOf (plainly x answers) (greatest (plainly x answers))
      found = greatest_in (plain x m.first) (plainly x answers) (map-IsIn (plain x) m.first answers m.first_in)

      from : From (plain x) found.answer answers
      from = IsIn-map (plain x) found.answer answers found.there

      t_is : greatest_vote x answers ≡ vote_in_answer from.source
      t_is = found.is ∙ ap (λ (z : Answer). z.t) from.is

      a : IsAnswer cluster items x body b kind from.source
      a = are from.source from.there

      voted : vote_of (taken_of cluster (from_of from.source) items) x ≡ Some (vote_said from.source)
      voted = answer_votes cluster items s.stands x body b kind from.source have a

  root_time : (x : TxnId) (body : BodyParts) (t : Stamp) (deps : List ShardDeps) → IsBody cluster items x body → Root cluster items x body t deps → TimeOf cluster items x t
  root_time x body t deps is (GreatestOfVotes answers are majority proposed) =
      voted_time x body zero_ballot is_preaccept_ok answers preaccept_oks_vote is are majority
  root_time x body t deps is (GreatestOfViews b answers are majority ruled_out) = voted_time x body b is_recover_ok answers recover_oks_vote is are majority
  root_time x body t deps is (Own b answers are majority free) = IsOwn refl

  based_time : (x : TxnId) (body : BodyParts) (t : Stamp) → IsBody cluster items x body → Based cluster items x body t → TimeOf cluster items x t
  based_time x body t is (OnFast answers fast own) = IsOwn own
  based_time x body t is (OnRoot deps root) = root_time x body t deps is root

  -- ---- two transactions

  -- no store drew the own timestamp of a begun transaction
  not_drawn : (x : TxnId) (body : BodyParts) (a : Actor) → IsBody cluster items x body → is_node a ≡ false → x.0.origin ≡ a.0 → ⊥
  not_drawn x body a is store same = true≢false (sym (eq-eqb (a.0 % 64) 0 (rest (sym b.origin ∙ same))) ∙ store)
    where
      b : BegunBy cluster items x
      b = was_begun cluster items x s.stands (begin_noted cluster items x body is)

      rest : b.node * 64 ≡ a.0 → a.0 % 64 ≡ 0
      rest e = omega arith

  same_actors : (a b : Actor) → a.0 ≡ b.0 → a ≡ b
  same_actors a b e = λ i. record { 0 = e i }

  times_differ : (x y : TxnId) (body other : BodyParts) (t : Stamp) → IsBody cluster items x body → IsBody cluster items y other
      → TimeOf cluster items x t → TimeOf cluster items y t → x ≡ y
  times_differ x y body other t is_x is_y (IsOwn e) (IsOwn f) = same_ids (sym e ∙ f)
    where
      same_ids : x.0 ≡ y.0 → x ≡ y
      same_ids g = λ i. record { 0 = g i }
  times_differ x y body other t is_x is_y (IsOwn e) (IsVote a v store voted is origin) =
      absurd (not_drawn x body a is_x store (ap (λ (z : Stamp). z.origin) (sym e) ∙ origin))
  times_differ x y body other t is_x is_y (IsVote a v store voted is origin) (IsOwn f) =
      absurd (not_drawn y other a is_y store (ap (λ (z : Stamp). z.origin) (sym f) ∙ origin))
  times_differ x y body other t is_x is_y (IsVote a v store voted is origin) (IsVote b w store' voted' is' origin') =
      votes_differ cluster.layout a x y v w (taken_of cluster a items) (each_answers cluster a items s.stands store) voted
      (subst (λ c. vote_of (taken_of cluster c items) y ≡ Some w) (same_actors b a (sym origin' ∙ origin)) voted')
      (not_drawn x body a is_x store) (not_drawn y other a is_y store) (is ∙ sym is')

pub timestamps_differ : (cluster : Cluster) (items : List Item) → IsStanding cluster items → Premises cluster items → TimestampsDiffer cluster items
timestamps_differ cluster items s p x y body other t deps more is_x is_y one two =
    times_differ cluster items s x y body other t is_x is_y
    (based_time cluster items s x body t is_x (based cluster items x body t deps p.proposals p.commits one))
    (based_time cluster items s y other t is_y (based cluster items y other t more p.proposals p.commits two))
