-- A recovery that would propose a transaction at its own timestamp hears a store that accepted a rival above it without it: the
-- rival supersedes it there, or is awaited. So it doesn't propose it.
use Rattle.std.proofs.Common.{◌≡◌, ℕ, true, false, List, [], ◌∷◌, Option, None, Some, refl, sym, ◌∙◌, ap, subst, ◌⊎◌, inl, inr}
use Rattle.std.proofs.lemmas.Bool.{true≢false, cases_Bool}
use Rattle.acc_stamp.specs.declared.stamps.Stamp.{Stamp}
use Rattle.acc_stamp.specs.declared.stamps.TxnId.{TxnId}
use Rattle.acc_stamp.specs.declared.stamps.Ballot.{Ballot}
use Rattle.acc_stamp.specs.declared.actors.Actor.{Actor}
use Rattle.acc_stamp.specs.Actor.{shard_of}
use Rattle.acc_stamp.specs.Stamp.{id_lt, stamp_lt, ballot_lt}
use Rattle.acc_stamp.specs.Rising.{id_among}
use Rattle.acc_stamp.proofs.Order.{stamp_order, id_order, ballot_order, trichotomy}
use Rattle.acc_deps.specs.declared.shards.ShardDeps.{ShardDeps}
use Rattle.acc_deps.specs.declared.records.Accepted.{Accepted}
use Rattle.acc_deps.specs.declared.records.Settled.{Settled}
use Rattle.acc_deps.specs.declared.records.View.{View}
use Rattle.acc_deps.specs.Deps.{deps_has}
use Rattle.acc_txn.specs.declared.parts.BodyParts.{BodyParts}
use Rattle.acc_message.specs.declared.message.Message.{Message}
use Rattle.acc_message.specs.declared.item.Item.{Item}
use Rattle.acc_message.specs.Shares.{conflict_in}
use Rattle.acc_message.specs.Taken.{Taken, taking, body_known}
use Rattle.acc_message.specs.BallotRules.{accepted_by, accepted_of, stable_of, settled_in}
use Rattle.acc_message.specs.Evidence.{supersedes}
use Rattle.acc_message.specs.Run.{Cluster, taken_of, is_node, EachStands}
use Rattle.acc_base.specs.Faults.{or_else}
use Rattle.acc_safety.specs.Places.{StandsAt, IsPast, Whole, Behind}
use Rattle.acc_safety.specs.Histories.{EachAnswers}
use Rattle.acc_safety.specs.Polls.{IsBody, AreRivals}
use Rattle.acc_safety.specs.Roots.{Proposed, AcceptedBy}
use Rattle.acc_safety.specs.StoreFactStatements.{IsKnownRival}
use Rattle.acc_safety.proofs.PlaceOrder.{StandsAt-IsPast}
use Rattle.acc_safety.proofs.Bridge.{each_answers}
use Rattle.acc_safety.proofs.Frame.{past_of}
use Rattle.acc_safety_laws.proofs.Knowing.{body_known-past, step_answers}
use Rattle.acc_safety_laws.proofs.Late.{before_heard}
use Rattle.acc_safety_laws.proofs.Shown.{stable_of-past, HasFrom, accepted_kind, accepted_now, from_past}
use Rattle.acc_safety_laws.specs.CoveragePremises.{Premises}
use Rattle.acc_safety_laws.proofs.Unheard.{AcceptedThere, proposed_there}
use Rattle.acc_safety_laws.proofs.Revealed.{ViewThere, rival_supersedes, rival_is_awaited, superseded_by_accepted, superseded_by_stable, awaited_by_accepted}

-- ---- the accepted record that the store has then

module _ (cluster : Cluster) (items : List Item) (h : EachStands cluster items) (p : Premises cluster items) where
  -- a record of x from the ballot on at which a majority accepted it has the same
  pub record_same : (a : Actor) (x : TxnId) (body : BodyParts) (b : Ballot) (t : Stamp) (proposed : List ShardDeps) (answers : List Message) (past : List Taken) (found : Accepted)
      → IsBody cluster items x body → AcceptedBy cluster items x body b (record { t = t; deps = proposed }) answers → IsPast past (taken_of cluster a items)
      → accepted_of past x ≡ Some found → ballot_lt found.ballot b ≡ false → (found.t ≡ t) × (found.deps ≡ proposed)
  record_same a x body b t proposed answers past found is accepted within found_is from_b = by (cases_Bool (ballot_lt b found.ballot))
    where
      found_proposed : Proposed items x body found.ballot found.t found.deps
      found_proposed = proposed_there cluster items h a x body past found is within found_is

      by : (ballot_lt b found.ballot ≡ true) ⊎ (ballot_lt b found.ballot ≡ false) → (found.t ≡ t) × (found.deps ≡ proposed)
      by (inl above) = p.accepted_last x body b found.ballot t found.t proposed found.deps answers accepted found_proposed above
      by (inr not_above) =
          p.one_proposal x found.ballot body body found.t t found.deps proposed found_proposed
          (subst (λ z. Proposed items x body z t proposed) (ballot_order.connected b found.ballot not_above from_b) accepted.proposal)

-- ---- the rival in the view

module _ (cluster : Cluster) (items : List Item) (h : EachStands cluster items) (p : Premises cluster items) (shard : ℕ) (x y : TxnId) (body theirs : BodyParts) (r : AreRivals cluster items shard y x theirs body) where
  pub own_is_found :
      (a : Actor) (b ballot : Ballot) (t : Stamp) (proposed named : List ShardDeps) (answers : List Message) (view : View)
      → is_node a ≡ false → shard_of a ≡ shard → AcceptedBy cluster items x body b (record { t = t; deps = proposed }) answers
      → (s : AcceptedThere cluster items h a x body b t named) → body_known (s.step ∷ s.past) y ≡ None
      → ViewThere cluster items h a y theirs ballot view
      → deps_has proposed shard y ≡ false → stamp_lt y.0 t ≡ true
      → ((d : Settled) → stable_of (taken_of cluster a items) x ≡ Some d → stamp_lt x.0 t ≡ true → (d.t ≡ t) × (deps_has d.deps shard y ≡ false))
      → view.superseded ≡ false → id_among x view.waits ≡ false → ⊥
  own_is_found a b ballot t proposed named answers view store in_shard accepted s unknown v lacks above settled not_superseded not_awaited =
      by (trichotomy id_order x y)
    where
      each : EachAnswers cluster.layout a (taken_of cluster a items)
      each = each_answers cluster a items h store

      before : StandsAt s.step s.past v.past
      before = before_heard y v.answer.counting s.step v.step s.past v.past (taken_of cluster a items) s.at v.at unknown v.answer.known

      within : IsPast v.past (taken_of cluster a items)
      within = past_of v.step v.past (taken_of cluster a items) v.at

      kept : HasFrom (accepted_of v.past x) b
      kept =
          from_past accepted_by accepted_of accepted_kind cluster.layout a x b (s.step ∷ s.past) v.past
          (step_answers cluster.layout a v.step v.past (taken_of cluster a items) each v.at).1
          (accepted_now cluster.layout a s.step s.past a s.to_node x b named s.answer s.sent)
          (StandsAt-IsPast s.step s.past v.past before)

      same : (kept.found.t ≡ t) × (kept.found.deps ≡ proposed)
      same = record_same cluster items h p a x body b t proposed answers v.past kept.found r.second_is accepted within kept.found_is kept.from_b

      rival : IsKnownRival cluster.layout a (taking v.step.message v.past) x body y v.answer.counting
      rival =
          record {
            different = λ e. r.different (sym e);
            known = body_known-past x body (s.step ∷ s.past) (taking v.step.message v.past) s.knows
                (Behind (record { message = v.step.message; sent = [] }) (s.step ∷ s.past) v.past (StandsAt-IsPast s.step s.past v.past before));
            conflict =
                ap (conflict_in cluster.layout (shard_of a) body) v.counting_is
                ∙ ap (λ n. conflict_in cluster.layout n body theirs) in_shard ∙ r.conflict_back;
          }

      superseded : supersedes shard v.past y x ≡ true → ⊥
      superseded k =
          true≢false
          (sym (rival_supersedes cluster.layout a v.past v.step.message x y ballot body view v.answer rival (ap (λ n. supersedes n v.past y x) in_shard ∙ k))
          ∙ not_superseded)

      kept_lacks : deps_has kept.found.deps shard y ≡ false
      kept_lacks = ap (λ d. deps_has d shard y) same.1 ∙ lacks

      -- y is the younger one, or x is stable there, or is awaited
      older : id_lt x y ≡ true → (o : Option Settled) → stable_of v.past x ≡ o → ⊥
      older x_first None unstable =
          true≢false
          (sym (rival_is_awaited cluster.layout a v.past v.step.message x y ballot body view v.answer rival
          (awaited_by_accepted v.past x y kept.found kept.found_is x_first (ap (stamp_lt y.0) same.0 ∙ above) unstable))
          ∙ not_awaited)
      older x_first (Some d) stable =
          let known = settled d (stable_of-past x d v.past (taken_of cluster a items) stable within) (stamp_order.trans x.0 y.0 t x_first above) in
          superseded (superseded_by_stable shard v.past x y d stable (ap (stamp_lt y.0) known.0 ∙ above) known.1)

      by : (id_lt x y ≡ true) ⊎ ((x ≡ y) ⊎ (id_lt y x ≡ true)) → ⊥
      by (inl x_first) = older x_first (stable_of v.past x) refl
      by (inr (inl one)) = r.different (sym one)
      by (inr (inr y_first)) = superseded (superseded_by_accepted shard v.past x y kept.found kept.found_is y_first kept_lacks)
