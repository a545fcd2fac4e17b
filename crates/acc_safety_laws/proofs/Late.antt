-- A store that hears of a conflicting transaction late votes for it above what it met before.
use Rattle.std.proofs.Common.{◌≡◌, ℕ, ◌+◌, ◌≤◌, Bool, true, false, cond, List, [], ◌∷◌, ◌++◌, Option, None, Some, refl, sym, ◌∙◌, ap, subst, ◌⊎◌, ⊎_elim, arith}
use Rattle.std.specs.List.{list_all, flat_map}
use Rattle.std.proofs.lemmas.Bool.{and_left, and_right}
use Rattle.acc_stamp.specs.declared.stamps.Stamp.{Stamp}
use Rattle.acc_stamp.specs.declared.stamps.TxnId.{TxnId}
use Rattle.acc_stamp.specs.declared.actors.Actor.{Actor}
use Rattle.acc_stamp.specs.Actor.{shard_of}
use Rattle.acc_stamp.specs.Stamp.{id_eq, stamp_lt}
use Rattle.acc_stamp.proofs.Order.{stamp_lt-from_h}
use Rattle.acc_topology.specs.Layout.{Layout}
use Rattle.acc_txn.specs.declared.parts.BodyParts.{BodyParts}
use Rattle.acc_message.specs.declared.message.Message.{Message}
use Rattle.acc_message.specs.declared.message.Message.TheVariants.{Accept, Commit, Stable, Apply}
use Rattle.acc_message.specs.Fields.{top_of}
use Rattle.acc_message.specs.Shares.{conflict_in}
use Rattle.acc_message.specs.Taken.{Taken, taking, Heard, rivals, body_known}
use Rattle.acc_message.specs.VoteRule.{Vote, vote_of, greatest_h, new_vote, times_in, stamps_of_vote, stamps_of}
use Rattle.acc_actor_laws.proofs.Standing.{not_none}
use Rattle.acc_actor_laws.proofs.OpeningFacts.{some_is}
use Rattle.acc_safety.specs.Places.{IsIn, First, Later, StandsAt, IsPast, Whole, Behind, InOrder, IsOlder, IsSame, IsNewer}
use Rattle.acc_safety.specs.Histories.{EachAnswers}
use Rattle.acc_safety.specs.StoreFactStatements.{VoteMade}
use Rattle.acc_safety.proofs.PlaceOrder.{in_order, StandsAt-IsPast, only, none_is_in, IsIn-cases, IsIn-append_cases, IsIn-append_left, IsIn-append_right, IsIn-cond_cases, flat_map-IsIn, IsIn-flat_map}
use Rattle.acc_safety.proofs.StoreNotions.{votes_are_made}
use Rattle.acc_safety_laws.proofs.Knowing.{body_known-past, step_answers}
use Rattle.acc_safety_laws.proofs.VoteFacts.{VoteIs, WasGiven, IsNew, vote_is, vote_of-past}
use Rattle.acc_safety_laws.proofs.Drawn.{vote_of-below, known-below, own_or_drawn}
use Rattle.acc_safety_laws.proofs.Named.{rival_is_in}

-- ---- the stamps of a transaction stay

-- where a stamp of x comes from
pub data StampOf (history : List Taken) (x : TxnId) (s : Stamp) : Type 0 where
  IsOwn : s ≡ x.0 → StampOf history x s
  IsTime : (step : Taken) → IsIn step history → IsIn s (times_in x step.message) → StampOf history x s
  IsVote : (v : Vote) → vote_of history x ≡ Some v → s ≡ v.vote → StampOf history x s

stamp_of_vote : (history : List Taken) (x : TxnId) (s : Stamp) (o : Option Vote) → vote_of history x ≡ o → IsIn s (stamps_of_vote o) → StampOf history x s
stamp_of_vote history x s None is h = absurd (none_is_in s h)
stamp_of_vote history x s (Some v) is h = IsVote v is (only s v.vote h)

pub stamp_of : (history : List Taken) (x : TxnId) (s : Stamp) → IsIn s (stamps_of history x) → StampOf history x s
stamp_of history x s h =
    ⊎_elim IsOwn
    (λ rest.
    ⊎_elim
    (λ times.
    let from = IsIn-flat_map (λ (step : Taken). times_in x step.message) s history times in
    IsTime from.source from.there from.within)
    (λ vote. stamp_of_vote history x s (vote_of history x) refl vote)
    (IsIn-append_cases s (flat_map (λ (step : Taken). times_in x step.message) history) (stamps_of_vote (vote_of history x)) rest))
    (IsIn-cases s x.0 (flat_map (λ (step : Taken). times_in x step.message) history ++ stamps_of_vote (vote_of history x)) h)

pub own_stamp_is_in : (history : List Taken) (x : TxnId) → IsIn x.0 (stamps_of history x)
own_stamp_is_in history x = First x.0 (flat_map (λ (step : Taken). times_in x step.message) history ++ stamps_of_vote (vote_of history x))

pub time_is_in : (history : List Taken) (x : TxnId) (s : Stamp) (step : Taken) → IsIn step history → IsIn s (times_in x step.message) → IsIn s (stamps_of history x)
time_is_in history x s step there h =
    Later s x.0 (flat_map (λ (step : Taken). times_in x step.message) history ++ stamps_of_vote (vote_of history x))
    (IsIn-append_left s (flat_map (λ (step : Taken). times_in x step.message) history) (stamps_of_vote (vote_of history x))
    (flat_map-IsIn (λ (step : Taken). times_in x step.message) s step history there h))

pub vote_is_in : (history : List Taken) (x : TxnId) (v : Vote) → vote_of history x ≡ Some v → IsIn v.vote (stamps_of history x)
vote_is_in history x v e =
    Later v.vote x.0 (flat_map (λ (step : Taken). times_in x step.message) history ++ stamps_of_vote (vote_of history x))
    (IsIn-append_right v.vote (flat_map (λ (step : Taken). times_in x step.message) history) (stamps_of_vote (vote_of history x))
    (subst (λ o. IsIn v.vote (stamps_of_vote o)) (sym e) (First v.vote [])))

IsIn-past : {T : Type 0} (x : T) (past history : List T) → IsIn x past → IsPast past history → IsIn x history
IsIn-past x past history h (Whole xs) = h
IsIn-past x past history h (Behind y xs ys there) = Later x y ys (IsIn-past x xs ys h there)

pub stamps_stay : (past history : List Taken) (x : TxnId) (s : Stamp) → IsIn s (stamps_of past x) → IsPast past history → IsIn s (stamps_of history x)
stamps_stay past history x s h there = by (stamp_of past x s h)
  where
    by : StampOf past x s → IsIn s (stamps_of history x)
    by (IsOwn is) = subst (λ z. IsIn z (stamps_of history x)) (sym is) (own_stamp_is_in history x)
    by (IsTime step at within) = time_is_in history x s step (IsIn-past step past history at there) within
    by (IsVote v e is) = subst (λ z. IsIn z (stamps_of history x)) (sym is) (vote_is_in history x v (vote_of-past x v past history e there))

-- ---- no stamp of a known transaction is above the greatest h

time_if : (x id : TxnId) (s t : Stamp) (n : ℕ) → t.h ≤ n → IsIn s (cond (id_eq id x) (t ∷ []) []) → s.h ≤ n
time_if x id s t n below h =
    ⊎_elim
    (λ here.
    let same : s.h ≡ t.h = ap (λ (z : Stamp). z.h) (only s t here.1) in
    omega arith)
    (λ other. absurd (none_is_in s other.1))
    (IsIn-cond_cases s (id_eq id x) (t ∷ []) [] h)

times_in-below : (x : TxnId) (s : Stamp) (m : Message) → IsIn s (times_in x m) → s.h ≤ top_of m
times_in-below x s (Accept from to id ballot body t deps) h = time_if x id s t (top_of (Accept from to id ballot body t deps)) (omega arith) h
times_in-below x s (Commit from to id ballot body t deps) h = time_if x id s t (top_of (Commit from to id ballot body t deps)) (omega arith) h
times_in-below x s (Stable from to id ballot body t deps) h = time_if x id s t (top_of (Stable from to id ballot body t deps)) (omega arith) h
times_in-below x s (Apply from to id ballot body t deps outcome) h = time_if x id s t (top_of (Apply from to id ballot body t deps outcome)) (omega arith) h
times_in-below x s _ h = absurd (none_is_in s h)

taken_top : (own : Actor) (step : Taken) (history : List Taken) → IsIn step history → top_of step.message ≤ greatest_h own history
taken_top own step history (First a rest) = omega arith
taken_top own step history (Later a b rest there) =
    let h : top_of a.message ≤ greatest_h own rest = taken_top own a rest there in
    omega arith

-- ---- what was heard later

unknown_isnt : (y : TxnId) (theirs : BodyParts) (past history : List Taken) → body_known past y ≡ Some theirs → IsPast past history
    → body_known history y ≡ None → ⊥
unknown_isnt y theirs past history known there unknown = not_none theirs (sym unknown ∙ body_known-past y theirs past history known there)

-- a step after which a transaction is unknown stands before each one after which it is known
pub before_heard : (y : TxnId) (theirs : BodyParts) (step late : Taken) (past before history : List Taken) → StandsAt step past history
    → StandsAt late before history → body_known (step ∷ past) y ≡ None → body_known (late ∷ before) y ≡ Some theirs → StandsAt step past before
before_heard y theirs step late past before history at there unknown known = by (in_order step late past before history at there)
  where
    by : InOrder step late past before → StandsAt step past before
    by (IsOlder older) = older
    by (IsSame same rest) =
        absurd
        (not_none theirs
        (sym unknown ∙ ap (λ (d : Taken). body_known (d ∷ past) y) same ∙ ap (λ h. body_known (late ∷ h) y) rest ∙ known))
    by (IsNewer newer) =
        absurd (unknown_isnt y theirs (late ∷ before) (step ∷ past) known (Behind step (late ∷ before) past (StandsAt-IsPast late before past newer)) unknown)

-- ---- late votes

not_all : {T : Type 0} (test : T → Bool) (x : T) (xs : List T) → IsIn x xs → test x ≡ false → list_all test xs ≡ false
not_all test x xs (First a rest) fails = and_left (test a) (list_all test rest) fails
not_all test x xs (Later a b rest there) fails = and_right (test b) (list_all test rest) (not_all test a rest there fails)

module _ (layout : Layout) (own : Actor) where
  -- where its vote is for its own timestamp, or drawn
  abbrev AreVotes : List Taken → TxnId → Type 0
  AreVotes history x = (v : Vote) → vote_of history x ≡ Some v → (v.vote ≡ x.0) ⊎ ((v.vote.origin ≡ own.0) × (stamp_lt x.0 v.vote ≡ true))

  stamps_of-below : (history : List Taken) (x : TxnId) (body : BodyParts) (s : Stamp) → AreVotes history x
      → body_known history x ≡ Some body → IsIn s (stamps_of history x) → s.h ≤ greatest_h own history
  stamps_of-below history x body s votes known h = by (stamp_of history x s h)
    where
      mine : x.0.h ≤ greatest_h own history
      mine = known-below own x body history known

      by : StampOf history x s → s.h ≤ greatest_h own history
      by (IsOwn is) =
          let same : s.h ≡ x.0.h = ap (λ (z : Stamp). z.h) is in
          omega (arith, mine)
      by (IsTime step at within) =
          let k : s.h ≤ top_of step.message = times_in-below x s step.message within in
          let l : top_of step.message ≤ greatest_h own history = taken_top own step history at in
          omega arith
      by (IsVote v e is) =
          let same : s.h ≡ v.vote.h = ap (λ (z : Stamp). z.h) is in
          ⊎_elim
          (λ own_time.
          let k : v.vote.h ≡ x.0.h = ap (λ (z : Stamp). z.h) own_time in
          omega (arith, mine))
          (λ drawn.
          let k : v.vote.h ≤ greatest_h own history = vote_of-below own x v history e drawn.0 in
          omega arith)
          (votes v e)

  -- ---- a late vote

  -- with a rival that has a stamp which isn't below, the vote is drawn above that
  drawn_above : (history : List Taken) (x y : TxnId) (body theirs : BodyParts) (s : Stamp) → AreVotes history x
      → IsIn (record { id = x; body = body }) (rivals layout (shard_of own) history y theirs) → body_known history x ≡ Some body
      → IsIn s (stamps_of history x) → stamp_lt s y.0 ≡ false → stamp_lt s (new_vote layout own history y theirs).vote ≡ true
  drawn_above history x y body theirs s votes rival known there over =
      ap (λ b. stamp_lt s (cond b y.0 (record { h = 1 + greatest_h own history; origin = own.0 })))
      (not_all (λ (k : Heard). list_all (λ z. stamp_lt z y.0) (stamps_of history k.id)) (record { id = x; body = body }) (rivals layout (shard_of own) history y theirs) rival
      (not_all (λ z. stamp_lt z y.0) s (stamps_of history x) there over))
      ∙ stamp_lt-from_h s (record { h = 1 + greatest_h own history; origin = own.0 })
      (let h : s.h ≤ greatest_h own history = stamps_of-below history x body s votes known there in
      omega arith)

  -- a message that is being taken leaves the votes
  taking_votes : (m : Message) (past : List Taken) (x : TxnId) → EachAnswers layout own past → AreVotes (taking m past) x
  taking_votes m past x each v e = by (vote_is (record { message = m; sent = [] }) past x v e)
    where
      by : VoteIs (record { message = m; sent = [] }) past x v → (v.vote ≡ x.0) ⊎ ((v.vote.origin ≡ own.0) × (stamp_lt x.0 v.vote ≡ true))
      by (WasGiven was) = own_or_drawn layout own x v past each was
      by (IsNew unvoted voted) = absurd (none_is_in voted.message voted.there)

  pub late_votes_above : (step : Taken) (past history : List Taken) (x y : TxnId) (body theirs : BodyParts) (s : Stamp) (v : Vote)
      → EachAnswers layout own history → StandsAt step past history → body_known (step ∷ past) x ≡ Some body → body_known (step ∷ past) y ≡ None
      → IsIn s (stamps_of (step ∷ past) x) → stamp_lt s y.0 ≡ false
      → body_known history y ≡ Some theirs → conflict_in layout (shard_of own) body theirs ≡ true
      → vote_of history y ≡ Some v → stamp_lt s v.vote ≡ true
  late_votes_above step past history x y body theirs s v each at known unknown there over heard conflict voted =
      behind (StandsAt-IsPast step past made.past (before_heard y made.body step made.step past made.past history at made.at unknown made.body_is))
    where
      made : VoteMade layout own history y v
      made = votes_are_made layout own history each y v voted

      now : List Taken
      now = taking made.step.message made.past

      theirs_is : made.body ≡ theirs
      theirs_is =
          some_is made.body theirs
          (sym (body_known-past y made.body (made.step ∷ made.past) history made.body_is (StandsAt-IsPast made.step made.past history made.at)) ∙ heard)

      -- the step stands before the vote
      behind : IsPast (step ∷ past) made.past → stamp_lt s v.vote ≡ true
      behind p =
          let q : IsPast (step ∷ past) now = Behind (record { message = made.step.message; sent = [] }) (step ∷ past) made.past p in
          let knows : body_known now x ≡ Some body = body_known-past x body (step ∷ past) now known q in
          ap (λ (w : Vote). stamp_lt s w.vote) made.made
          ∙ drawn_above now x y body made.body s (taking_votes made.step.message made.past x (step_answers layout own made.step made.past history each made.at).1)
          (rival_is_in layout own now x body y made.body
          (record {
            different = λ same. not_none body (sym unknown ∙ ap (body_known (step ∷ past)) (sym same) ∙ known);
            known = knows;
            conflict = ap (conflict_in layout (shard_of own) body) theirs_is ∙ conflict;
          }))
          knows (stamps_stay (step ∷ past) now x s there q) over
