-- The stamps that a store draws are above all that it met.
use Rattle.std.proofs.Common.{◌≡◌, ℕ, ◌+◌, ◌<◌, ◌≤◌, Bool, true, false, cond, List, [], ◌∷◌, Option, None, Some, refl, sym, ◌∙◌, ap, ◌⊎◌, inl, inr, ⊎_elim, arith}
use Rattle.std.proofs.lemmas.Bool.{eq-eqb}
use Rattle.acc_stamp.specs.declared.stamps.Stamp.{Stamp}
use Rattle.acc_stamp.specs.declared.stamps.TxnId.{TxnId}
use Rattle.acc_stamp.specs.declared.actors.Actor.{Actor}
use Rattle.acc_stamp.specs.Actor.{shard_of}
use Rattle.acc_stamp.specs.Stamp.{id_eq, stamp_lt}
use Rattle.acc_stamp.proofs.Order.{stamp_lt-from_h}
use Rattle.acc_topology.specs.Layout.{Layout}
use Rattle.acc_txn.specs.declared.parts.BodyParts.{BodyParts}
use Rattle.acc_message.specs.declared.message.Message.{Message}
use Rattle.acc_message.specs.declared.message.Message.TheVariants.{PreAcceptOk, RecoverOk}
use Rattle.acc_message.specs.Fields.{id_of, top_of}
use Rattle.acc_message.specs.Taken.{Taken, taking, rivals, body_known}
use Rattle.acc_message.specs.VoteRule.{Vote, vote_in, vote_of, drawn_as, drawn_in, greatest_drawn, greatest_h, all_below, new_vote}
use Rattle.acc_actor_laws.proofs.Standing.{not_none}
use Rattle.acc_actor_laws.proofs.OpeningFacts.{some_is}
use Rattle.acc_safety.specs.Places.{IsIn, First, Later, IsPast, Whole, Behind}
use Rattle.acc_safety.specs.Histories.{EachAnswers}
use Rattle.acc_safety.specs.StoreFactStatements.{VoteMade}
use Rattle.acc_safety.proofs.StoreNotions.{votes_are_made}
use Rattle.acc_safety_laws.proofs.Knowing.{Learns, body_known-new}
use Rattle.acc_safety_laws.proofs.VoteFacts.{VoteIs, WasGiven, IsNew, vote_is, MadeIn, made_in}

-- ---- the greatest h

pub greatest_h-past : (own : Actor) (past history : List Taken) → IsPast past history → greatest_h own past ≤ greatest_h own history
greatest_h-past own past history (Whole xs) = omega arith
greatest_h-past own past history (Behind step xs ys there) =
    let h : greatest_h own xs ≤ greatest_h own ys = greatest_h-past own xs ys there in
    omega arith

-- a message that was taken
message_top : (own : Actor) (step : Taken) (past : List Taken) → top_of step.message ≤ greatest_h own (step ∷ past)
message_top own step past = omega arith

id_top : (m : Message) → (id_of m).0.h ≤ top_of m
id_top m = omega arith

-- a vote that was drawn
drawn_as-same : (origin : ℕ) (stamp : Stamp) → stamp.origin ≡ origin → drawn_as origin stamp ≡ stamp.h
drawn_as-same origin stamp is = ap (λ b. cond b stamp.h 0) (eq-eqb stamp.origin origin is)

vote_drawn : (origin : ℕ) (id x : TxnId) (b : Bool) (v w : Vote) → cond b (Some w) None ≡ Some v → v.vote.origin ≡ origin
    → v.vote.h ≤ drawn_as origin w.vote
vote_drawn origin id x true v w e is =
    let same : w ≡ v = some_is w v e in
    let drawn : drawn_as origin w.vote ≡ v.vote.h = ap (λ (u : Vote). drawn_as origin u.vote) same ∙ drawn_as-same origin v.vote is in
    omega arith
vote_drawn origin id x false v w e is = absurd (not_none v e)

vote_in-drawn : (origin : ℕ) (x : TxnId) (v : Vote) (m : Message) → vote_in x m ≡ Some v → v.vote.origin ≡ origin → v.vote.h ≤ drawn_in origin m
vote_in-drawn origin x v (PreAcceptOk from to id ballot vote deps) e is =
    vote_drawn origin id x (id_eq id x) v (record { vote = vote; deps = deps }) e is
vote_in-drawn origin x v (RecoverOk from to id ballot view) e is =
    vote_drawn origin id x (id_eq id x) v (record { vote = view.vote; deps = view.vote_deps }) e is
vote_in-drawn origin x v _ e is = absurd (not_none v e)

greatest_drawn-each : (origin : ℕ) (m : Message) (ms : List Message) → IsIn m ms → drawn_in origin m ≤ greatest_drawn origin ms
greatest_drawn-each origin m ms (First a rest) = omega arith
greatest_drawn-each origin m ms (Later a b rest there) =
    let h : drawn_in origin a ≤ greatest_drawn origin rest = greatest_drawn-each origin a rest there in
    omega arith

-- the vote of a transaction, where the store drew it
pub vote_of-below : (own : Actor) (x : TxnId) (v : Vote) (history : List Taken) → vote_of history x ≡ Some v → v.vote.origin ≡ own.0
    → v.vote.h ≤ greatest_h own history
vote_of-below own x v [] e is = absurd (not_none v e)
vote_of-below own x v (step ∷ past) e is = by (vote_is step past x v e) (λ was. vote_of-below own x v past was is)
  where
    by : VoteIs step past x v → (vote_of past x ≡ Some v → v.vote.h ≤ greatest_h own past) → v.vote.h ≤ greatest_h own (step ∷ past)
    by (WasGiven was) rest =
        let h : v.vote.h ≤ greatest_h own past = rest was in
        omega arith
    by (IsNew unvoted voted) rest =
        let h : v.vote.h ≤ drawn_in own.0 voted.message = vote_in-drawn own.0 x v voted.message voted.votes is in
        let k : drawn_in own.0 voted.message ≤ greatest_drawn own.0 step.sent = greatest_drawn-each own.0 voted.message step.sent voted.there in
        omega arith

-- a known transaction
pub known-below : (own : Actor) (x : TxnId) (body : BodyParts) (history : List Taken) → body_known history x ≡ Some body → x.0.h ≤ greatest_h own history
known-below own x body [] e = absurd (not_none body e)
known-below own x body (step ∷ past) e = by (body_known past x) refl (λ b known. known-below own x b past known)
  where
    by : (o : Option BodyParts) → body_known past x ≡ o → ((b : BodyParts) → body_known past x ≡ Some b → x.0.h ≤ greatest_h own past)
        → x.0.h ≤ greatest_h own (step ∷ past)
    by None unknown rest =
        let l : Learns step.message x body = body_known-new step past x body unknown e in
        let h : (id_of step.message).0.h ≤ top_of step.message = id_top step.message in
        let k : (id_of step.message).0.h ≡ x.0.h = ap (λ (z : TxnId). z.0.h) l.about in
        omega arith
    by (Some b) known rest =
        let h : x.0.h ≤ greatest_h own past = rest b known in
        omega arith

-- ---- a vote is for the own timestamp, or drawn

module _ (layout : Layout) (own : Actor) where
  -- which of the two
  pub data Stamped (past : List Taken) (x : TxnId) (v : Vote) : Type 0 where
    IsOwn : v.vote ≡ x.0 → Stamped past x v
    IsDrawn : v.vote.origin ≡ own.0 → greatest_h own past < v.vote.h → x.0.h < v.vote.h → Stamped past x v

  stamped_by : (step : Taken) (past : List Taken) (x : TxnId) (v : Vote) (body : BodyParts) (b : Bool) → id_of step.message ≡ x
      → v.vote ≡ cond b x.0 (record { h = 1 + greatest_h own (taking step.message past); origin = own.0 }) → Stamped past x v
  stamped_by step past x v body true about is = IsOwn is
  stamped_by step past x v body false about is =
      let h : v.vote.h ≡ 1 + greatest_h own (taking step.message past) = ap (λ (s : Stamp). s.h) is in
      let k : (id_of step.message).0.h ≤ top_of step.message = id_top step.message in
      let l : (id_of step.message).0.h ≡ x.0.h = ap (λ (z : TxnId). z.0.h) about in
      IsDrawn (ap (λ (s : Stamp). s.origin) is) (omega arith) (omega arith)

  pub stamped : (step : Taken) (past : List Taken) (x : TxnId) (v : Vote) (body : BodyParts) → id_of step.message ≡ x
      → v ≡ new_vote layout own (taking step.message past) x body → Stamped past x v
  stamped step past x v body about made =
      stamped_by step past x v body
      (all_below (taking step.message past) x (rivals layout (shard_of own) (taking step.message past) x body)) about
      (ap (λ (w : Vote). w.vote) made)

  pub own_or_drawn : (x : TxnId) (v : Vote) (history : List Taken) → EachAnswers layout own history → vote_of history x ≡ Some v
      → (v.vote ≡ x.0) ⊎ ((v.vote.origin ≡ own.0) × (stamp_lt x.0 v.vote ≡ true))
  own_or_drawn x v history each e = by (stamped made.step made.past x v made.body made.about made.made)
    where
      made : VoteMade layout own history x v
      made = votes_are_made layout own history each x v e

      by : Stamped made.past x v → (v.vote ≡ x.0) ⊎ ((v.vote.origin ≡ own.0) × (stamp_lt x.0 v.vote ≡ true))
      by (IsOwn is) = inl is
      by (IsDrawn origin above over) = inr (origin, stamp_lt-from_h x.0 v.vote over)

  -- ---- votes for two transactions differ

  same_by_stamp : (x y : TxnId) → x.0 ≡ y.0 → x ≡ y
  same_by_stamp x y e = λ i. record { 0 = e i }

  -- a new vote that is an earlier one is for the own timestamp, and so is that
  new_differs : (x y : TxnId) (v w : Vote) (step : Taken) (past : List Taken) → EachAnswers layout own past → vote_of past x ≡ Some v
      → Stamped past y w → (x.0.origin ≡ own.0 → ⊥) → (y.0.origin ≡ own.0 → ⊥) → v.vote ≡ w.vote → x ≡ y
  new_differs x y v w step past each e (IsOwn is) notx noty same =
      ⊎_elim (λ mine. same_by_stamp x y (sym mine ∙ same ∙ is))
      (λ drawn. absurd (noty (sym (ap (λ (s : Stamp). s.origin) (same ∙ is)) ∙ drawn.0)))
      (own_or_drawn x v past each e)
  new_differs x y v w step past each e (IsDrawn origin above over) notx noty same =
      ⊎_elim (λ mine. absurd (notx (ap (λ (s : Stamp). s.origin) (sym mine ∙ same) ∙ origin)))
      (λ drawn.
      let h : v.vote.h ≤ greatest_h own past = vote_of-below own x v past e drawn.0 in
      let k : v.vote.h ≡ w.vote.h = ap (λ (s : Stamp). s.h) same in
      absurd (omega arith))
      (own_or_drawn x v past each e)

  pub votes_differ : (x y : TxnId) (v w : Vote) (history : List Taken) → EachAnswers layout own history → vote_of history x ≡ Some v
      → vote_of history y ≡ Some w → (x.0.origin ≡ own.0 → ⊥) → (y.0.origin ≡ own.0 → ⊥) → v.vote ≡ w.vote → x ≡ y
  votes_differ x y v w [] each e f notx noty same = absurd (not_none v e)
  votes_differ x y v w (step ∷ past) each e f notx noty same =
      by (vote_is step past x v e) (vote_is step past y w f) (λ was were. votes_differ x y v w past each.1 was were notx noty same)
    where
      new_stamped : (z : TxnId) (u : Vote) → MadeIn layout own step past z u → Stamped past z u
      new_stamped z u m = stamped step past z u m.body m.about m.made

      by : VoteIs step past x v → VoteIs step past y w → (vote_of past x ≡ Some v → vote_of past y ≡ Some w → x ≡ y) → x ≡ y
      by (WasGiven was) (WasGiven were) rest = rest was were
      by (WasGiven was) (IsNew unvoted voted) rest =
          new_differs x y v w step past each.1 was (new_stamped y w (made_in layout own step past y w each unvoted voted)) notx noty same
      by (IsNew unvoted voted) (WasGiven were) rest =
          sym (new_differs y x w v step past each.1 were (new_stamped x v (made_in layout own step past x v each unvoted voted)) noty notx (sym same))
      by (IsNew unvoted voted) (IsNew unasked asked) rest =
          sym (made_in layout own step past x v each unvoted voted).about ∙ (made_in layout own step past y w each unasked asked).about
