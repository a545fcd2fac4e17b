-- What a store meets and draws: a step draws at most one above it.
use Rattle.std.proofs.Common.{◌≡◌, ℕ, ◌+◌, ◌≤◌, suc, Bool, true, false, cond, ◌==◌, max, List, [], ◌∷◌, length, All, Option, None, Some, Result, Ok, Err, IfOk, OnOk, refl, sym, ap, ◌∙◌, subst, arith}
use Rattle.acc_base.specs.Faults.{or_else}
use Rattle.acc_stamp.specs.declared.stamps.Stamp.{Stamp}
use Rattle.acc_stamp.specs.declared.stamps.TxnId.{TxnId}
use Rattle.acc_stamp.specs.declared.stamps.Ballot.{Ballot}
use Rattle.acc_stamp.specs.declared.actors.Actor.{Actor}
use Rattle.acc_stamp.specs.Actor.{shard_of}
use Rattle.acc_stamp.specs.Stamp.{id_eq, ballot_lt, zero_ballot}
use Rattle.acc_topology.specs.Layout.{Layout}
use Rattle.acc_deps.specs.declared.records.Settled.{Settled}
use Rattle.acc_txn.specs.declared.parts.BodyParts.{BodyParts}
use Rattle.acc_message.specs.declared.message.Message.{Message}
use Rattle.acc_message.specs.declared.message.Message.TheVariants.{PreAccept, PreAcceptOk, Accept, Commit, Stable, Apply, Recover, RecoverOk}
use Rattle.acc_message.specs.Fields.{top_of}
use Rattle.acc_message.specs.Taken.{Taken, taking, rivals}
use Rattle.acc_message.specs.VoteRule.{Vote, vote_in, first_vote, vote_of, drawn_as, drawn_in, greatest_drawn, greatest_h, all_below, new_vote, vote_given, vote_for}
use Rattle.acc_message.specs.BallotRules.{promise_of, stable_of}
use Rattle.acc_message.specs.Opening.{may_open}
use Rattle.acc_message.specs.StoreRules.{store_answer, replay, unless_stable, body_counting}
use Rattle.acc_execute.proofs.Answered.{reads_answered, reads_drawn}
use Rattle.acc_record.specs.declared.shelf.Shelf.{Shelf}
use Rattle.acc_record.specs.Stands.{StandsFor, AnswersByRules}

-- ---- a vote that was drawn

abbrev pub height_in : ℕ → Option Vote → ℕ
height_in origin None = 0
height_in origin (Some v) = drawn_as origin v.vote

drawn_most : (b : Bool) (h : ℕ) → cond b h 0 ≤ h
drawn_most true h = omega arith
drawn_most false h = omega arith

drawn_below : (origin : ℕ) (stamp : Stamp) → drawn_as origin stamp ≤ stamp.h
drawn_below origin stamp = drawn_most (stamp.origin == origin) stamp.h

if_voted : (origin : ℕ) (b : Bool) (v : Vote) → height_in origin (cond b (Some v) None) ≤ drawn_as origin v.vote
if_voted origin true v = omega arith
if_voted origin false v = omega arith

voted_below : (origin : ℕ) (x : TxnId) (m : Message) → height_in origin (vote_in x m) ≤ drawn_in origin m
voted_below origin x (PreAcceptOk from to id ballot vote deps) = if_voted origin (id_eq id x) (record { vote = vote; deps = deps })
voted_below origin x (RecoverOk from to id ballot view) = if_voted origin (id_eq id x) (record { vote = view.vote; deps = view.vote_deps })
voted_below origin x _ = omega arith

either_below : (origin : ℕ) (a b : Option Vote) → height_in origin (or_else a b) ≤ max (height_in origin a) (height_in origin b)
either_below origin None b = omega arith
either_below origin (Some v) b = omega arith

first_below : (origin : ℕ) (x : TxnId) (ms : List Message) → height_in origin (first_vote x ms) ≤ greatest_drawn origin ms
first_below origin x [] = omega arith
first_below origin x (m ∷ ms) =
    let here : height_in origin (vote_in x m) ≤ drawn_in origin m = voted_below origin x m in
    let rest : height_in origin (first_vote x ms) ≤ greatest_drawn origin ms = first_below origin x ms in
    let both : height_in origin (or_else (vote_in x m) (first_vote x ms)) ≤ max (height_in origin (vote_in x m)) (height_in origin (first_vote x ms)) = either_below origin (vote_in x m) (first_vote x ms) in
    omega arith

vote_below : (own : Actor) (x : TxnId) (history : List Taken) → height_in own.0 (vote_of history x) ≤ greatest_h own history
vote_below own x [] = omega arith
vote_below own x (step ∷ past) =
    let before : height_in own.0 (vote_of past x) ≤ greatest_h own past = vote_below own x past in
    let now : height_in own.0 (first_vote x step.sent) ≤ greatest_drawn own.0 step.sent = first_below own.0 x step.sent in
    let both : height_in own.0 (or_else (vote_of past x) (first_vote x step.sent)) ≤ max (height_in own.0 (vote_of past x)) (height_in own.0 (first_vote x step.sent)) = either_below own.0 (vote_of past x) (first_vote x step.sent) in
    omega arith

-- ---- a vote that is made

made_by : (origin h drawn : ℕ) (b : Bool) (own : Stamp) → own.h ≤ h → drawn ≤ 1 + h → drawn_as origin (cond b own (record { h = drawn; origin = origin })) ≤ 1 + h
made_by origin h drawn true own low high =
    let d : drawn_as origin own ≤ own.h = drawn_below origin own in
    omega arith
made_by origin h drawn false own low high =
    let d : drawn_as origin (record { h = drawn; origin = origin }) ≤ drawn = drawn_below origin (record { h = drawn; origin = origin }) in
    omega arith

given_by : (origin h : ℕ) (o : Option Vote) (made : Vote) → height_in origin o ≤ h → drawn_as origin made.vote ≤ h → drawn_as origin (vote_given o made).vote ≤ h
given_by origin h None made old new = new
given_by origin h (Some v) made old new = old

module _ (layout : Layout) (own : Actor) (past : List Taken) (m : Message) where
  -- what the store meets with this message
  abbrev met : ℕ
  met = max (top_of m) (greatest_h own past)

  given_below : (x : TxnId) (body : BodyParts) → x.0.h ≤ top_of m → drawn_as own.0 (vote_for layout own past (taking m past) x body).vote ≤ 1 + met
  given_below x body low =
      let before : height_in own.0 (vote_of past x) ≤ greatest_h own past = vote_below own x past in
      let met_here : greatest_h own (taking m past) ≡ max (max (top_of m) 0) (greatest_h own past) = refl in
      given_by own.0 (1 + met) (vote_of past x) (new_vote layout own (taking m past) x body) (omega arith)
      (made_by own.0 met (1 + greatest_h own (taking m past)) (all_below (taking m past) x (rivals layout (shard_of own) (taking m past) x body)) x.0 (omega arith) (omega arith))

  -- a refusal draws nothing
  unless_stable_draws : (x : TxnId) (b : Ballot) (o : Option Settled) (sent : List Message) → greatest_drawn own.0 sent ≤ 1 + met
      → greatest_drawn own.0 (unless_stable own x b o sent) ≤ 1 + met
  unless_stable_draws x b None sent h = h
  unless_stable_draws x b (Some s) sent h = omega arith

  either_draws : (c : Bool) (a b : List Message) → greatest_drawn own.0 a ≤ 1 + met → greatest_drawn own.0 b ≤ 1 + met
      → greatest_drawn own.0 (cond c a b) ≤ 1 + met
  either_draws true a b x y = x
  either_draws false a b x y = y

one_draws : (n most : ℕ) → n ≤ most → max n 0 ≤ most
one_draws n most h = omega arith

none_draws : (most : ℕ) → max 0 0 ≤ most
none_draws most = omega arith

module _ (layout : Layout) (own : Actor) (past : List Taken) where
  opening_draws : (m : Message) → may_open m ≡ true → greatest_drawn own.0 (store_answer layout own past m) ≤ 1 + met layout own past m
  opening_draws m opens =
      subst (λ n. n ≤ 1 + met layout own past m) (sym (reads_drawn own.0 (store_answer layout own past m) (reads_answered layout own past m opens))) (omega arith)

  draws : (m : Message) → greatest_drawn own.0 (store_answer layout own past m) ≤ 1 + met layout own past m
  draws (PreAccept from to id ballot body) =
      let m : Message = PreAccept from to id ballot body in
      let counting : BodyParts = body_counting (taking m past) id body in
      unless_stable_draws layout own past m id ballot (stable_of past id) _
      (either_draws layout own past m (ballot_lt zero_ballot (promise_of past id)) _ _ (none_draws _)
      (one_draws _ _ (given_below layout own past m id counting (omega arith))))
  draws (Accept from to id ballot body t deps) =
      let m : Message = Accept from to id ballot body t deps in
      unless_stable_draws layout own past m id ballot (stable_of past id) _
      (either_draws layout own past m (ballot_lt ballot (promise_of past id)) _ _ (none_draws _) (none_draws _))
  draws (Commit from to id ballot body t deps) =
      let m : Message = Commit from to id ballot body t deps in
      unless_stable_draws layout own past m id ballot (stable_of past id) _
      (either_draws layout own past m (ballot_lt ballot (promise_of past id)) _ _ (none_draws _) (none_draws _))
  draws (Stable from to id ballot body t deps) =
      opening_draws (Stable from to id ballot body t deps) refl
  draws (Apply from to id ballot body t deps outcome) =
      opening_draws (Apply from to id ballot body t deps outcome) refl
  draws (Recover from to id ballot body) =
      let m : Message = Recover from to id ballot body in
      let counting : BodyParts = body_counting (taking m past) id body in
      either_draws layout own past m (ballot_lt (promise_of past id) ballot) _ _
      (one_draws _ _ (given_below layout own past m id counting (omega arith))) (none_draws _)
  draws _ = omega arith

-- ---- a step, and any messages

pub stays_low : (layout : Layout) (own : Actor) (m : Message) (messages : List Message)
    → greatest_h own (replay layout own (m ∷ messages)) ≤ 1 + max (top_of m) (greatest_h own (replay layout own messages))
stays_low layout own m messages =
    let past : List Taken = replay layout own messages in
    let d : greatest_drawn own.0 (store_answer layout own past m) ≤ 1 + max (top_of m) (greatest_h own past) = draws layout own past m in
    omega arith

pub all_low : (layout : Layout) (own : Actor) (most : ℕ) (messages : List Message) → All (λ m. top_of m ≤ most) messages
    → greatest_h own (replay layout own messages) ≤ most + length messages
all_low layout own most [] each = omega arith
all_low layout own most (m ∷ messages) each =
    let rest : greatest_h own (replay layout own messages) ≤ most + length messages =
    all_low layout own most messages (λ k d l. each (suc k) d (omega arith)) in
    let step : greatest_h own (replay layout own (m ∷ messages)) ≤ 1 + max (top_of m) (greatest_h own (replay layout own messages)) =
    stays_low layout own m messages in
    let here : top_of m ≤ most = each 0 m (omega arith) in
    omega arith

-- a step of a shelf that stands for some messages
pub stepped_low : {E : Type 0} (layout : Layout) (old new : Shelf) (m : Message) (messages : List Message) → StandsFor layout old (replay layout old.actor messages)
    → (result : Result (List Message) E) → IfOk result (λ sent. AnswersByRules layout old new m sent)
    → OnOk result (new.greatest ≤ 1 + max (top_of m) old.greatest)
stepped_low layout old new m messages stands (Ok sent) q =
    let after : StandsFor layout new (replay layout old.actor (m ∷ messages)) = q.stands messages stands in
    let told : greatest_h old.actor (replay layout old.actor (m ∷ messages)) ≤ 1 + max (top_of m) (greatest_h old.actor (replay layout old.actor messages)) =
    stays_low layout old.actor m messages in
    let low : new.greatest ≡ greatest_h old.actor (replay layout old.actor (m ∷ messages)) =
    after.greatest ∙ ap (λ actor. greatest_h actor (replay layout old.actor (m ∷ messages))) q.actor in
    subst (λ n. n ≤ 1 + max (top_of m) old.greatest) (sym low)
    (subst (λ n. greatest_h old.actor (replay layout old.actor (m ∷ messages)) ≤ 1 + max (top_of m) n) (sym stands.greatest) told)
stepped_low layout old new m messages stands (Err e) q = tt
