-- The known rivals below a bound are just what an answer names.
use Rattle.std.proofs.Common.{◌≡◌, ℕ, true, false, not, ◌&&◌, cond, List, [], ◌∷◌, Some, map, filter, refl, sym, ◌∙◌, ap}
use Rattle.std.proofs.lemmas.Bool.{and_from, not_from_false, eq-eqb, false_from_ne_true}
use Rattle.acc_stamp.specs.declared.stamps.Stamp.{Stamp}
use Rattle.acc_stamp.specs.declared.stamps.TxnId.{TxnId}
use Rattle.acc_stamp.specs.declared.stamps.Ballot.{Ballot}
use Rattle.acc_stamp.specs.declared.actors.Actor.{Actor}
use Rattle.acc_stamp.specs.Actor.{shard_of}
use Rattle.acc_stamp.specs.Stamp.{id_eq, stamp_lt}
use Rattle.acc_stamp.specs.Rising.{id_among}
use Rattle.acc_stamp.proofs.Order.{id_order, eq_itself}
use Rattle.acc_stamp.proofs.Rising.{is_among-union}
use Rattle.acc_topology.specs.Layout.{Layout}
use Rattle.acc_deps.specs.declared.shards.ShardDeps.{ShardDeps}
use Rattle.acc_deps.specs.Deps.{deps_has, deps_of}
use Rattle.acc_deps.proofs.ByShard.{of_shard-of}
use Rattle.acc_txn.specs.declared.parts.BodyParts.{BodyParts}
use Rattle.acc_message.specs.declared.message.Message.TheVariants.{Accept, AcceptOk}
use Rattle.acc_message.specs.Shares.{conflict_in}
use Rattle.acc_message.specs.Taken.{Taken, taking, Heard, known, rivals, body_known}
use Rattle.acc_message.specs.VoteRule.{Vote, ids_below, known_below}
use Rattle.acc_actor_laws.proofs.OpeningFacts.{some_is}
use Rattle.acc_safety.specs.Places.{IsIn, StandsAt}
use Rattle.acc_safety.specs.Histories.{EachAnswers}
use Rattle.acc_safety.specs.StoreFactStatements.{VoteMade, IsKnownRival}
use Rattle.acc_safety.proofs.PlaceOrder.{any_from, filter-IsIn, map-IsIn}
use Rattle.acc_safety_laws.proofs.Knowing.{heard_body-IsIn, step_answers, step_sends}
use Rattle.acc_safety_laws.proofs.Sent.{SentAcceptOk, sent_accept_ok}

pub other_id : (x y : TxnId) → (x ≡ y → ⊥) → id_eq x y ≡ false
other_id x y h = false_from_ne_true (id_eq x y) (λ same. h ((id_order.decides x y).0 same))

-- a known rival is among the rivals
pub rival_is_in : (layout : Layout) (own : Actor) (history : List Taken) (y : TxnId) (theirs : BodyParts) (x : TxnId) (body : BodyParts)
    → IsKnownRival layout own history y theirs x body
    → IsIn (record { id = y; body = theirs }) (rivals layout (shard_of own) history x body)
rival_is_in layout own history y theirs x body r =
    filter-IsIn (λ (k : Heard). not (id_eq k.id x) && conflict_in layout (shard_of own) k.body body) (record { id = y; body = theirs }) (known history)
    (heard_body-IsIn y (known history) theirs r.known)
    (and_from (not (id_eq y x)) (conflict_in layout (shard_of own) theirs body) (not_from_false (id_eq y x) (other_id y x r.different)) r.conflict)

among_ids_below : (bound : Stamp) (k : Heard) (others : List Heard) → IsIn k others → stamp_lt k.id.0 bound ≡ true
    → id_among k.id (ids_below bound others) ≡ true
among_ids_below bound k others there below =
    is_among-union id_order k.id [] (map (λ (j : Heard). j.id) (filter (λ (j : Heard). stamp_lt j.id.0 bound) others))
    ∙ any_from (λ z. id_eq z k.id) k.id (map (λ (j : Heard). j.id) (filter (λ (j : Heard). stamp_lt j.id.0 bound) others))
    (map-IsIn (λ (j : Heard). j.id) k (filter (λ (j : Heard). stamp_lt j.id.0 bound) others)
    (filter-IsIn (λ (j : Heard). stamp_lt j.id.0 bound) k others there below))
    (eq_itself id_order k.id)

deps_of-has : (shard : ℕ) (id : TxnId) (ids : List TxnId) → deps_has (deps_of shard ids) shard id ≡ id_among id ids
deps_of-has shard id ids =
    ap (id_among id) (of_shard-of shard shard ids ∙ ap (λ b. cond b ids []) (eq-eqb shard shard refl))

pub known_below-has : (layout : Layout) (own : Actor) (history : List Taken) (y : TxnId) (theirs : BodyParts) (x : TxnId) (body : BodyParts) (bound : Stamp)
    → IsKnownRival layout own history y theirs x body → stamp_lt y.0 bound ≡ true
    → deps_has (known_below layout own history x body bound) (shard_of own) y ≡ true
known_below-has layout own history y theirs x body bound r below =
    deps_of-has (shard_of own) y (ids_below bound (rivals layout (shard_of own) history x body))
    ∙ among_ids_below bound (record { id = y; body = theirs }) (rivals layout (shard_of own) history x body)
    (rival_is_in layout own history y theirs x body r) below

module _ (layout : Layout) (own : Actor) where
  pub votes_name_known : (history : List Taken) (x y : TxnId) (v : Vote) (theirs : BodyParts) (made : VoteMade layout own history x v)
      → IsKnownRival layout own (made.step ∷ made.past) y theirs x made.body → stamp_lt y.0 x.0 ≡ true
      → deps_has v.deps (shard_of own) y ≡ true
  votes_name_known history x y v theirs made r below =
      ap (λ (w : Vote). deps_has w.deps (shard_of own) y) made.made
      ∙ known_below-has layout own (taking made.step.message made.past) y theirs x made.body x.0
      (record { different = r.different; known = r.known; conflict = r.conflict }) below

  pub accepts_name_known : (step : Taken) (past history : List Taken) (from to f g : Actor) (x y : TxnId) (b : Ballot) (sent body theirs : BodyParts)
      (t : Stamp) (proposed deps : List ShardDeps)
      → EachAnswers layout own history → StandsAt step past history → step.message ≡ Accept from to x b sent t proposed
      → IsIn (AcceptOk f g x b deps) step.sent → body_known (step ∷ past) x ≡ Some body
      → IsKnownRival layout own (step ∷ past) y theirs x body → stamp_lt y.0 t ≡ true → deps_has deps (shard_of own) y ≡ true
  accepts_name_known step past history from to f g x y b sent body theirs t proposed deps each at is there known r below =
      ap (λ d. deps_has d (shard_of own) y) s.deps_are
      ∙ known_below-has layout own (taking step.message past) y theirs x s.counting s.t
      (record {
        different = r.different;
        known = r.known;
        conflict = ap (conflict_in layout (shard_of own) theirs) (some_is s.counting body (sym s.known ∙ known)) ∙ r.conflict;
      })
      (ap (stamp_lt y.0) (t_is (sym s.message_is ∙ is)) ∙ below)
    where
      s : SentAcceptOk layout own past step.message x b deps
      s =
          sent_accept_ok layout own past step.message f g x b deps
          (step_sends layout own step past (AcceptOk f g x b deps) (step_answers layout own step past history each at) there)

      t_is : Accept s.from s.to x b s.body s.t s.proposed ≡ Accept from to x b sent t proposed → s.t ≡ t
      t_is e = cc
