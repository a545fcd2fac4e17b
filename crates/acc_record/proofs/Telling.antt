-- What a step tells, for each kind of answer; and the kinds of refusals.
use Rattle.std.proofs.Common.{◌≡◌, Bool, true, false, cond, List, [], ◌∷◌, ◌++◌, Option, None, Some, refl, ap, subst, arith, inl, inr, ⊎_elim}
use Rattle.std.specs.List.{Contains}
use Rattle.std.proofs.lemmas.List.Elements.{Contains-append_left}
use Rattle.acc_base.specs.Faults.{or_else}
use Rattle.acc_stamp.specs.declared.stamps.Stamp.{Stamp}
use Rattle.acc_stamp.specs.declared.stamps.TxnId.{TxnId}
use Rattle.acc_stamp.specs.declared.stamps.Ballot.{Ballot}
use Rattle.acc_stamp.specs.declared.actors.Actor.{Actor}
use Rattle.acc_stamp.specs.Actor.{home_of}
use Rattle.acc_stamp.specs.Stamp.{ballot_lt}
use Rattle.acc_lanes.proofs.Members.{there, first_or_rest, in_nothing}
use Rattle.acc_deps.specs.declared.records.Settled.{Settled}
use Rattle.acc_deps.specs.declared.shards.ShardDeps.{ShardDeps}
use Rattle.acc_txn.specs.declared.parts.BodyParts.{BodyParts}
use Rattle.acc_message.specs.declared.message.Message.{Message}
use Rattle.acc_message.specs.declared.message.Message.TheVariants.{Nack, Decided}
use Rattle.acc_record.specs.declared.record.Record.{Record}
use Rattle.acc_record.specs.declared.vote.Vote.{Vote}
use Rattle.acc_record.specs.Steps.{stamps_in, time_accepted, time_settled, stamps_shown}
use Rattle.acc_record.specs.Learning.{vote_with, earlier_vote, given, known_or_fresh}
use Rattle.acc_actor_laws.proofs.Standing.{not_none}
use Rattle.acc_actor_laws.proofs.OpeningFacts.{some_is}
use Rattle.acc_record.proofs.Learnt.{Tells}
use Rattle.acc_record.specs.Refusal.{refusal_with, refusal_of}

-- ---- refusals

module _ (own : Actor) (x : TxnId) (b least : Ballot) (P : Option Message → Type 0) (none : P None)
    (decided : (t : Stamp) (deps : List ShardDeps) → P (Some (Decided own (home_of x b) x b t deps)))
    (nack : (promised : Ballot) → P (Some (Nack own (home_of x b) x b promised))) where
  by_promise : (c : Bool) (promised : Ballot) → P (cond c (Some (Nack own (home_of x b) x b promised)) None)
  by_promise true promised = nack promised
  by_promise false promised = none

  by_stable : (o : Option Settled) (promised : Ballot) → P (refusal_with own x b least o promised)
  by_stable (Some s) promised = decided s.t s.deps
  by_stable None promised = by_promise (ballot_lt least promised) promised

  pub refusal_cases : (o : Option Record) → P (refusal_of own x b least o)
  refusal_cases None = none
  refusal_cases (Some r) = by_stable r.stable r.promised

-- ---- what is told

at_first : (s : Stamp) (rest : List Stamp) → Contains (s ∷ rest) s
at_first s rest = (0, omega arith, refl)

only_one : (s t : Stamp) → Contains (t ∷ []) s → t ≡ s
only_one s t c = ⊎_elim (λ e. e) (λ r. absurd (in_nothing s r)) (first_or_rest t [] s c)

module _ (x : TxnId) (body : BodyParts) where
  -- the vote that was kept is shown
  vote_shown : (before : Option Record) (s : Stamp) → Contains (stamps_in (known_or_fresh before x body).vote) s → Contains (stamps_shown x before) s
  vote_shown None s c = absurd (in_nothing s c)
  vote_shown (Some r) s c =
      there x.0 (stamps_in r.vote ++ time_accepted r.accepted ++ time_accepted r.committed ++ time_settled r.stable) s
      (Contains-append_left (stamps_in r.vote ++ time_accepted r.accepted ++ time_accepted r.committed) (time_settled r.stable) s
      (Contains-append_left (stamps_in r.vote ++ time_accepted r.accepted) (time_accepted r.committed) s
      (Contains-append_left (stamps_in r.vote) (time_accepted r.accepted) s c)))

  -- a step that brings no stamp
  pub tells_nothing : (before : Option Record) → Tells x before (x.0 ∷ stamps_in (known_or_fresh before x body).vote) None
  tells_nothing before =
      record {
        own = at_first x.0 (stamps_in (known_or_fresh before x body).vote);
        learnt = λ s e. absurd (not_none s e);
        other = λ s c. ⊎_elim (λ e. inl e) (λ r. inr (inr (vote_shown before s r))) (first_or_rest x.0 (stamps_in (known_or_fresh before x body).vote) s c);
      }

  -- a step that brings a timestamp
  pub tells_time : (before : Option Record) (t : Stamp) → Tells x before (x.0 ∷ t ∷ stamps_in (known_or_fresh before x body).vote) (Some t)
  tells_time before t =
      record {
        own = at_first x.0 (t ∷ stamps_in (known_or_fresh before x body).vote);
        learnt = λ s e. subst (Contains (x.0 ∷ t ∷ stamps_in (known_or_fresh before x body).vote)) (some_is t s e) (there x.0 (t ∷ stamps_in (known_or_fresh before x body).vote) t (at_first t (stamps_in (known_or_fresh before x body).vote)));
        other = λ s c. ⊎_elim (λ e. inl e)
            (λ r. ⊎_elim (λ e. inr (inl (ap Some e))) (λ q. inr (inr (vote_shown before s q))) (first_or_rest t (stamps_in (known_or_fresh before x body).vote) s r))
            (first_or_rest x.0 (t ∷ stamps_in (known_or_fresh before x body).vote) s c);
      }

  -- a step that gives a vote
  tells_given : (before : Option Record) (v : Stamp) → Tells x before (x.0 ∷ v ∷ []) (Some v)
  tells_given before v =
      record {
        own = at_first x.0 (v ∷ []);
        learnt = λ s e. subst (Contains (x.0 ∷ v ∷ [])) (some_is v s e) (there x.0 (v ∷ []) v (at_first v []));
        other = λ s c. ⊎_elim (λ e. inl e) (λ r. inr (inl (ap Some (only_one s v r)))) (first_or_rest x.0 (v ∷ []) s c);
      }

  tells_vote_of : (before : Option Record) (o : Option Stamp) (deps : List ShardDeps) (made : Vote)
      → Tells x before (x.0 ∷ stamps_in (or_else o (Some (given (vote_with o deps) made).stamp))) (Some (given (vote_with o deps) made).stamp)
  tells_vote_of before None deps made = tells_given before made.stamp
  tells_vote_of before (Some v) deps made = tells_given before v

  pub tells_vote : (before : Option Record) (made : Vote)
      → Tells x before (x.0 ∷ stamps_in (or_else (known_or_fresh before x body).vote (Some (given (earlier_vote before) made).stamp))) (Some (given (earlier_vote before) made).stamp)
  tells_vote None made = tells_vote_of None None [] made
  tells_vote (Some r) made = tells_vote_of (Some r) r.vote r.vote_deps made
