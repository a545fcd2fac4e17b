-- What stores answer to the requests of an attempt: a refusal by a greater ballot, a decision, or the answer that is asked for.
use Rattle.std.proofs.Common.{◌≡◌, Bool, true, false, ◌&&◌, cond, if◌then◌else◌, List, [], ◌∷◌, Option, None, Some, refl, sym, ◌∙◌, ◌⊎◌, inl, inr, ⊎_elim}
use Rattle.std.specs.List.{list_any}
use Rattle.std.proofs.lemmas.Bool.{true≢false, or_cases}
use Rattle.acc_stamp.specs.declared.stamps.TxnId.{TxnId}
use Rattle.acc_stamp.specs.declared.stamps.Ballot.{Ballot}
use Rattle.acc_stamp.specs.declared.actors.Actor.{Actor}
use Rattle.acc_stamp.specs.Actor.{home_of}
use Rattle.acc_stamp.specs.Stamp.{id_eq, ballot_eq, ballot_lt, zero_ballot}
use Rattle.acc_stamp.proofs.Order.{ballot_order, trichotomy}
use Rattle.acc_deps.specs.declared.records.Settled.{Settled}
use Rattle.acc_message.specs.declared.message.Message.{Message}
use Rattle.acc_message.specs.declared.message.Message.TheVariants.{Recover, Nack, Decided}
use Rattle.acc_message.specs.Fields.{from_of, to_of, id_of, ballot_of}
use Rattle.acc_message.specs.Taken.{Taken}
use Rattle.acc_message.specs.BallotRules.{grants, granted_by, promise_of}
use Rattle.acc_message.specs.StoreRules.{nack, unless_stable, unless_promised}
use Rattle.acc_safety.specs.Places.{IsIn, First, StandsAt, Here, Back}
use Rattle.acc_calm.proofs.Reactions.{is_told}
use Rattle.acc_delivered.proofs.Courses.{refuses}

-- ---- answers

-- A message of the attempt to its node among these. Where it tells of a decision this holds.
pub record StoreAnswer (own : Actor) (x : TxnId) (b : Ballot) (Told : Type 0) (kind : Message → Bool) (sent : List Message) : Type 0 where
  pub message : Message
  pub there : IsIn message sent
  pub from_is : from_of message ≡ own
  pub to_is : to_of message ≡ home_of x b
  pub about : id_of message ≡ x
  pub of_ballot : ballot_of message ≡ b
  pub kind_is : (refuses b message ≡ true) ⊎ (((is_told message ≡ true) × Told) ⊎ (kind message ≡ true))

-- what a store sends is of the kind
pub record IsPlain (own : Actor) (x : TxnId) (b : Ballot) (kind : Message → Bool) (ok : Message) : Type 0 where
  pub from_is : from_of ok ≡ own
  pub to_is : to_of ok ≡ home_of x b
  pub about : id_of ok ≡ x
  pub of_ballot : ballot_of ok ≡ b
  pub kind_is : kind ok ≡ true

module _ (own : Actor) (x : TxnId) (b : Ballot) (kind : Message → Bool) (promised : Ballot) (ok : Message) (plain : IsPlain own x b kind ok) where
  plainly_answered : (Told : Type 0) → StoreAnswer own x b Told kind (ok ∷ [])
  plainly_answered Told =
      record {
        message = ok;
        there = First ok [];
        from_is = plain.from_is;
        to_is = plain.to_is;
        about = plain.about;
        of_ballot = plain.of_ballot;
        kind_is = inr (inr plain.kind_is);
      }

  refused : (Told : Type 0) → ballot_lt b promised ≡ true → StoreAnswer own x b Told kind (nack own x b promised)
  refused Told above =
      record {
        message = Nack own (home_of x b) x b promised;
        there = First (Nack own (home_of x b) x b promised) [];
        from_is = refl;
        to_is = refl;
        about = refl;
        of_ballot = refl;
        kind_is = inl above;
      }

  pub proposal_answered : (o : Option Settled) → StoreAnswer own x b (Unit {0}) kind (unless_stable own x b o (unless_promised own x b promised b (ok ∷ [])))
  proposal_answered (Some s) =
      record {
        message = Decided own (home_of x b) x b s.t s.deps;
        there = First (Decided own (home_of x b) x b s.t s.deps) [];
        from_is = refl;
        to_is = refl;
        about = refl;
        of_ballot = refl;
        kind_is = inr (inl (refl, tt));
      }
  proposal_answered None = by (ballot_lt b promised) refl
    where
      by : (o : Bool) → ballot_lt b promised ≡ o → StoreAnswer own x b (Unit {0}) kind (cond o (nack own x b promised) (ok ∷ []))
      by true above = refused (Unit {0}) above
      by false low = plainly_answered (Unit {0})

  pub recover_answered : (promised ≡ b → ⊥) → StoreAnswer own x b ⊥ kind (cond (ballot_lt promised b) (ok ∷ []) (nack own x b promised))
  recover_answered differs = by (ballot_lt promised b) refl
    where
      by : (o : Bool) → ballot_lt promised b ≡ o → StoreAnswer own x b ⊥ kind (cond o (ok ∷ []) (nack own x b promised))
      by true below = plainly_answered ⊥
      by false not_below =
          refused ⊥
          (⊎_elim (λ below. absurd (true≢false (sym below ∙ not_below))) (λ rest. ⊎_elim (λ same. absurd (differs same)) (λ above. above) rest)
          (trichotomy ballot_order promised b))

-- ---- the first Recover with a ballot

abbrev pub is_recover_with : TxnId → Ballot → Message → Bool
is_recover_with x b (Recover from to id ballot body) = id_eq id x && ballot_eq ballot b
is_recover_with x b _ = false

pub record FirstRecover (x : TxnId) (b : Ballot) (history : List Taken) : Type 0 where
  pub step : Taken
  pub past : List Taken
  pub at : StandsAt step past history
  pub is : is_recover_with x b step.message ≡ true
  pub none : list_any (λ (s : Taken). is_recover_with x b s.message) past ≡ false

pub first_recover : (x : TxnId) (b : Ballot) (history : List Taken) → list_any (λ (s : Taken). is_recover_with x b s.message) history ≡ true → FirstRecover x b history
first_recover x b [] h = absurd (true≢false (sym h))
first_recover x b (step ∷ past) h = by (list_any (λ (s : Taken). is_recover_with x b s.message) past) refl (first_recover x b past)
  where
    by : (o : Bool) → list_any (λ (s : Taken). is_recover_with x b s.message) past ≡ o
        → (list_any (λ (s : Taken). is_recover_with x b s.message) past ≡ true → FirstRecover x b past) → FirstRecover x b (step ∷ past)
    by true before rest =
        let r = rest before in record { step = r.step; past = r.past; at = Back r.step step r.past past r.at; is = r.is; none = r.none }
    by false none rest =
        record {
          step = step;
          past = past;
          at = Here step past;
          is =
              ⊎_elim (λ now. now) (λ old. absurd (true≢false (sym old ∙ none)))
              (or_cases (is_recover_with x b step.message) (list_any (λ (s : Taken). is_recover_with x b s.message) past) h);
          none = none;
        }

-- ---- what was promised

-- a step granted the ballot
pub record GrantedIn (x : TxnId) (b : Ballot) (history : List Taken) : Type 0 where
  pub step : Taken
  pub past : List Taken
  pub at : StandsAt step past history
  pub granted : grants x step.message step.sent ≡ true
  pub of_ballot : ballot_of step.message ≡ b

granted_back : (x : TxnId) (b : Ballot) (step : Taken) (past : List Taken) → GrantedIn x b past → GrantedIn x b (step ∷ past)
granted_back x b step past g = record { step = g.step; past = g.past; at = Back g.step step g.past past g.at; granted = g.granted; of_ballot = g.of_ballot }

pub promise_granted : (x : TxnId) (b : Ballot) (history : List Taken) → promise_of history x ≡ b → ballot_eq b zero_ballot ≡ false → GrantedIn x b history
promise_granted x b [] is above = absurd (true≢false (sym ((ballot_order.decides b zero_ballot).1 (sym is)) ∙ above))
promise_granted x b (step ∷ past) is above =
    by (ballot_lt (promise_of past x) (granted_by x step.message step.sent)) (grants x step.message step.sent) refl is
    (λ old. granted_back x b step past (promise_granted x b past old above))
  where
    by : (higher granted : Bool) → grants x step.message step.sent ≡ granted
        → (if higher then cond granted (ballot_of step.message) zero_ballot else promise_of past x) ≡ b
        → (promise_of past x ≡ b → GrantedIn x b (step ∷ past)) → GrantedIn x b (step ∷ past)
    by false granted g same old = old same
    by true true g same old = record { step = step; past = past; at = Here step past; granted = g; of_ballot = same }
    by true false g same old = absurd (true≢false (sym ((ballot_order.decides b zero_ballot).1 (sym same)) ∙ above))
