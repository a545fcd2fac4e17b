-- What is decided fast names each rival that is decided at a smaller timestamp.
use Rattle.std.proofs.Common.{◌≡◌, ℕ, true, List}
use Rattle.std.proofs.lemmas.Bool.{true_from_ne_false}
use Rattle.acc_stamp.specs.declared.stamps.Stamp.{Stamp}
use Rattle.acc_stamp.specs.declared.stamps.TxnId.{TxnId}
use Rattle.acc_stamp.specs.Stamp.{stamp_lt, zero_ballot}
use Rattle.acc_stamp.proofs.Order.{stamp_order, asym, le-lt-trans}
use Rattle.acc_deps.specs.declared.shards.ShardDeps.{ShardDeps}
use Rattle.acc_deps.specs.Deps.{deps_has}
use Rattle.acc_txn.specs.declared.parts.BodyParts.{BodyParts}
use Rattle.acc_message.specs.declared.message.Message.{Message}
use Rattle.acc_message.specs.declared.item.Item.{Item}
use Rattle.acc_message.specs.Attempts.{is_preaccept_ok, union_of}
use Rattle.acc_message.specs.BallotRules.{is_recover_ok}
use Rattle.acc_message.specs.Run.{Cluster}
use Rattle.acc_safety.specs.Polls.{AreRivals, IsAny, Kept}
use Rattle.acc_safety.specs.Roots.{Root, GreatestOfVotes, GreatestOfViews, Own, FastBy}
use Rattle.acc_safety.specs.Statements.{CoveredByFast}
use Rattle.acc_safety.specs.Valid.{IsStanding}
use Rattle.acc_safety.proofs.Meetings.{fast_meets_majority, fast_meets_fast, fast_meets_possible_fast}
use Rattle.acc_safety_laws.proofs.Polled.{preaccept_oks_vote, recover_oks_vote}
use Rattle.acc_safety_laws.specs.CoveragePremises.{Premises}
use Rattle.acc_safety_laws.proofs.Lacking.{votes_unheard}
use Rattle.acc_safety_laws.proofs.Decided.{Based, OnFast, OnRoot, based, based_not_below, AreUnheard, met_greatest, met_kept}

module _ (cluster : Cluster) (items : List Item) (s : IsStanding cluster items) (p : Premises cluster items) (shard : ℕ) (x y : TxnId) (body theirs : BodyParts) (answers : List Message) (r : AreRivals cluster items shard y x theirs body) (f : FastBy cluster items x body answers) where
  -- without y no decision of it at a smaller timestamp goes back to anything
  root_is_late : (t : Stamp) (deps : List ShardDeps) → Root cluster items y theirs t deps → AreUnheard cluster items s.stands shard x y body theirs r answers x.0
      → stamp_lt y.0 x.0 ≡ true → stamp_lt t x.0 ≡ true → ⊥
  root_is_late t deps (GreatestOfVotes more are majority proposed) unheard under below =
      met_greatest cluster items s.stands shard x y body theirs r x.0 (Kept x) IsAny answers more zero_ballot is_preaccept_ok preaccept_oks_vote unheard are
      (asym stamp_order y.0 x.0 under)
      (fast_meets_majority cluster.layout x y body theirs answers more shard s.valid.layout r.second_uses r.first_uses f.fast majority) below
  root_is_late t deps (GreatestOfViews b more are majority ruled_out) unheard under below =
      met_greatest cluster items s.stands shard x y body theirs r x.0 (Kept x) IsAny answers more b is_recover_ok recover_oks_vote unheard are
      (asym stamp_order y.0 x.0 under)
      (fast_meets_majority cluster.layout x y body theirs answers more shard s.valid.layout r.second_uses r.first_uses f.fast majority) below
  root_is_late t deps (Own b more are majority free) unheard under below =
      met_kept cluster items s.stands shard x y body theirs r x.0 (Kept x) answers more b is_recover_ok recover_oks_vote unheard are under
      (fast_meets_possible_fast cluster.layout x y body theirs answers more shard s.valid.layout r.second_uses r.first_uses f.fast majority free.may_be_fast)

  is_late : (t : Stamp) → Based cluster items y theirs t → AreUnheard cluster items s.stands shard x y body theirs r answers x.0
      → stamp_lt y.0 x.0 ≡ true → stamp_lt t x.0 ≡ true → ⊥
  is_late t (OnFast more fast own) unheard under below =
      met_kept cluster items s.stands shard x y body theirs r x.0 (Kept x) answers more zero_ballot is_preaccept_ok preaccept_oks_vote unheard fast.are under
      (fast_meets_fast cluster.layout x y body theirs answers more shard s.valid.layout r.second_uses r.first_uses f.fast fast.fast)
  is_late t (OnRoot deps root) unheard under below = root_is_late t deps root unheard under below

  pub names_smaller : (t : Stamp) → Based cluster items y theirs t → stamp_lt t x.0 ≡ true → deps_has (union_of x answers) shard y ≡ true
  names_smaller t base below =
      let under : stamp_lt y.0 x.0 ≡ true =
      le-lt-trans stamp_order y.0 t x.0 (based_not_below cluster items s.stands y theirs t shard s.valid.layout r.first_uses base) below in
      true_from_ne_false (deps_has (union_of x answers) shard y)
      (λ lacks. is_late t base (votes_unheard cluster items s.stands shard x y body theirs r zero_ballot is_preaccept_ok answers preaccept_oks_vote f.are lacks under) under below)

pub covered_by_fast : (cluster : Cluster) (items : List Item) → IsStanding cluster items → Premises cluster items → CoveredByFast cluster items
covered_by_fast cluster items s p shard x y body theirs answers t deps r f root below =
    names_smaller cluster items s p shard x y body theirs answers r f t (based cluster items y theirs t deps p.proposals p.commits root) below
