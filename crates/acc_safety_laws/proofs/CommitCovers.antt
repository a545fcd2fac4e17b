-- What a majority committed names each rival that is decided at a smaller timestamp.
use Rattle.std.proofs.Common.{◌≡◌, ℕ, true, false, List, Some, sym, ◌∙◌, ap, subst}
use Rattle.std.proofs.lemmas.Bool.{true≢false, true_from_ne_false, false_from_ne_true}
use Rattle.acc_stamp.specs.declared.stamps.Stamp.{Stamp}
use Rattle.acc_stamp.specs.declared.stamps.TxnId.{TxnId}
use Rattle.acc_stamp.specs.declared.stamps.Ballot.{Ballot}
use Rattle.acc_stamp.specs.Actor.{shard_of}
use Rattle.acc_stamp.specs.Stamp.{stamp_lt, zero_ballot}
use Rattle.acc_stamp.specs.Rising.{id_among}
use Rattle.acc_stamp.proofs.Order.{stamp_order, asym, le-lt-trans}
use Rattle.acc_deps.specs.declared.shards.ShardDeps.{ShardDeps}
use Rattle.acc_deps.specs.declared.records.Settled.{Settled}
use Rattle.acc_deps.specs.declared.records.View.{View}
use Rattle.acc_deps.specs.Deps.{deps_has}
use Rattle.acc_txn.specs.declared.parts.BodyParts.{BodyParts}
use Rattle.acc_message.specs.declared.message.Message.{Message}
use Rattle.acc_message.specs.declared.item.Item.{Item}
use Rattle.acc_message.specs.Fields.{from_of}
use Rattle.acc_message.specs.Attempts.{is_preaccept_ok, deps_in_answer, union_of}
use Rattle.acc_message.specs.BallotRules.{is_accept_ok, is_recover_ok, stable_of}
use Rattle.acc_message.specs.RecoveryDecision.{views_in}
use Rattle.acc_message.specs.Run.{Cluster, taken_of, is_node}
use Rattle.acc_safety.specs.Places.{IsIn}
use Rattle.acc_safety.specs.NodeMoves.{IsFree}
use Rattle.acc_safety.specs.Polls.{IsAnswer, AreAnswers, Meeting, AreRivals, IsAny, Kept}
use Rattle.acc_safety.specs.Roots.{Root, GreatestOfVotes, GreatestOfViews, Own, CommitRoot, DecisionRoot, ByCommits}
use Rattle.acc_safety.specs.Statements.{CoveredByCommits}
use Rattle.acc_safety.specs.Valid.{IsStanding}
use Rattle.acc_safety.proofs.PlaceOrder.{any_from}
use Rattle.acc_safety.proofs.Meetings.{majorities_meet, fast_meets_majority}
use Rattle.acc_safety_laws.proofs.Polled.{preaccept_oks_vote, recover_oks_vote}
use Rattle.acc_safety_laws.specs.CoveragePremises.{Premises}
use Rattle.acc_safety_laws.proofs.Unheard.{AcceptedThere, accept_unknown}
use Rattle.acc_safety_laws.proofs.Decided.{Based, OnFast, OnRoot, based, based_not_below, AreUnheard, met_greatest, met_kept}
use Rattle.acc_safety_laws.proofs.Lacking.{turned, there_accepted, answer_lacking, accepts_unheard, root_lacks}
use Rattle.acc_safety_laws.proofs.Revealed.{ViewThere, view_there, HasView, has_view, views_in-IsIn, waits_of-has}
use Rattle.acc_safety_laws.proofs.OwnIsFound.{own_is_found}

module _ (cluster : Cluster) (items : List Item) (s : IsStanding cluster items) (p : Premises cluster items) (shard : ℕ) (x y : TxnId) (body theirs : BodyParts) (t : Stamp) (deps : List ShardDeps) (r : AreRivals cluster items shard y x theirs body) (decided : DecisionRoot cluster items x body t deps) (root : CommitRoot cluster items x body t deps) where
  accepting : (m : Message) → IsIn m root.answers → AcceptedThere cluster items s.stands (from_of m) x body root.ballot t (deps_in_answer m)
  accepting = there_accepted cluster items s.stands shard x y body theirs r p.one_proposal root.ballot t root.proposed root.answers root.accepted

  lacking : deps_has deps shard y ≡ false → (deps_has root.proposed shard y ≡ false) × (deps_has (union_of x root.answers) shard y ≡ false)
  lacking = root_lacks cluster items s.stands shard x y body theirs r t deps root

  accept_all_unheard : deps_has deps shard y ≡ false → stamp_lt y.0 t ≡ true → AreUnheard cluster items s.stands shard x y body theirs r root.answers t
  accept_all_unheard lacks =
      accepts_unheard cluster items s.stands shard x y body theirs r p.one_proposal root.ballot t root.proposed root.answers root.accepted (lacking lacks).1

  -- ---- a decision of y at its own timestamp by a recovery

  settled_lacks : deps_has deps shard y ≡ false → (d : Settled) (m : Message) → is_node (from_of m) ≡ false
      → stable_of (taken_of cluster (from_of m) items) x ≡ Some d → stamp_lt x.0 t ≡ true → (d.t ≡ t) × (deps_has d.deps shard y ≡ false)
  settled_lacks lacks d m store stable above =
      let stood : DecisionRoot cluster items x body d.t d.deps = p.records (from_of m) x body d store r.second_is stable in (
        p.one_timestamp x body d.t t d.deps deps r.second_is stood decided,
        ap (λ e. deps_has e shard y) (sym (p.one_set x body t d.t deps d.deps r.second_is decided stood above)) ∙ lacks,
      )

  own_is_late : (b : Ballot) (more : List Message) → AreAnswers cluster items y theirs b is_recover_ok more → IsFree cluster.layout y theirs more
      → Meeting shard IsAny IsAny root.answers more → deps_has deps shard y ≡ false → stamp_lt y.0 t ≡ true → ⊥
  own_is_late b more are free m lacks under =
      own_is_found cluster items s.stands p shard x y body theirs r (from_of m.first) root.ballot b t root.proposed (deps_in_answer m.first) root.answers v.view
      a.place.is_store in_shard root.accepted (accepting m.first m.first_in)
      (accept_unknown cluster items s.stands (from_of m.first) shard x y body theirs root.ballot t (deps_in_answer m.first) a.place.is_store in_shard r
      (accepting m.first m.first_in) (answer_lacking cluster items s.stands shard x y body theirs r p.one_proposal root.ballot t root.proposed root.answers root.accepted (lacking lacks).1 m.first m.first_in) under)
      (subst (λ c. ViewThere cluster items s.stands c y theirs b v.view) (m.second_from ∙ sym m.first_from)
      (view_there cluster items s.stands y theirs b m.second v.view r.first_is (are m.second m.second_in) v.is))
      (lacking lacks).0 under
      (λ d. settled_lacks lacks d m.first a.place.is_store)
      (false_from_ne_true v.view.superseded
      (λ k. true≢false (sym (any_from (λ (w : View). w.superseded) v.view (views_in more) seen k) ∙ free.not_superseded)))
      (false_from_ne_true (id_among x v.view.waits)
      (λ k. true≢false (sym (waits_of-has x v.view (views_in more) seen k) ∙ ap (id_among x) free.no_waits)))
    where
      a : IsAnswer cluster items x body root.ballot is_accept_ok m.first
      a = root.accepted.are m.first m.first_in

      in_shard : shard_of (from_of m.first) ≡ shard
      in_shard = ap shard_of m.first_from ∙ m.of_shard

      v : HasView m.second
      v = has_view m.second (are m.second m.second_in).is

      seen : IsIn v.view (views_in more)
      seen = views_in-IsIn v.view m.second more m.second_in v.in_answer

  -- ---- every decision of y

  root_is_late : (u : Stamp) (ds : List ShardDeps) → Root cluster items y theirs u ds → deps_has deps shard y ≡ false
      → stamp_lt y.0 t ≡ true → stamp_lt u t ≡ true → ⊥
  root_is_late u ds (GreatestOfVotes more are majority proposed) lacks under below =
      met_greatest cluster items s.stands shard x y body theirs r t IsAny IsAny root.answers more zero_ballot is_preaccept_ok preaccept_oks_vote
      (accept_all_unheard lacks under) are (asym stamp_order y.0 t under)
      (majorities_meet cluster.layout x y body theirs root.answers more shard s.valid.layout r.second_uses r.first_uses root.accepted.majority majority) below
  root_is_late u ds (GreatestOfViews b more are majority ruled_out) lacks under below =
      met_greatest cluster items s.stands shard x y body theirs r t IsAny IsAny root.answers more b is_recover_ok recover_oks_vote
      (accept_all_unheard lacks under) are (asym stamp_order y.0 t under)
      (majorities_meet cluster.layout x y body theirs root.answers more shard s.valid.layout r.second_uses r.first_uses root.accepted.majority majority) below
  root_is_late u ds (Own b more are majority free) lacks under below =
      own_is_late b more are free (majorities_meet cluster.layout x y body theirs root.answers more shard s.valid.layout r.second_uses r.first_uses root.accepted.majority majority) lacks under

  is_late : (u : Stamp) → Based cluster items y theirs u → deps_has deps shard y ≡ false → stamp_lt y.0 t ≡ true → stamp_lt u t ≡ true → ⊥
  is_late u (OnFast more fast own) lacks under below =
      met_kept cluster items s.stands shard x y body theirs r t IsAny root.answers more zero_ballot is_preaccept_ok preaccept_oks_vote
      (accept_all_unheard lacks under) fast.are under
      (turned shard (Kept y) IsAny more root.answers
      (fast_meets_majority cluster.layout y x theirs body more root.answers shard s.valid.layout r.first_uses r.second_uses fast.fast root.accepted.majority))
  is_late u (OnRoot ds base) lacks under below = root_is_late u ds base lacks under below

  pub commit_names_smaller : (u : Stamp) → Based cluster items y theirs u → stamp_lt u t ≡ true → deps_has deps shard y ≡ true
  commit_names_smaller u base below =
      let under : stamp_lt y.0 t ≡ true =
      le-lt-trans stamp_order y.0 u t (based_not_below cluster items s.stands y theirs u shard s.valid.layout r.first_uses base) below in
      true_from_ne_false (deps_has deps shard y) (λ lacks. is_late u base lacks under below)

pub covered_by_commits : (cluster : Cluster) (items : List Item) → IsStanding cluster items → Premises cluster items → CoveredByCommits cluster items
covered_by_commits cluster items s p shard x y body theirs b t u deps more answers r c root below =
    commit_names_smaller cluster items s p shard x y body theirs t deps r (ByCommits b t deps answers c) (p.commits x body b t deps c.commit)
    u (based cluster items y theirs u more p.proposals p.commits root) below
