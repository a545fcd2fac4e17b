-- The stamps of a transaction: those that its record shows, those that a step tells, and those that were there.
use Rattle.std.proofs.Common.{◌≡◌, ℕ, Bool, true, false, ◌&&◌, cond, List, [], ◌∷◌, ◌++◌, Option, None, Some, Contains, ◌⊎◌, inl, inr, ⊎_elim, refl, sym, ap, subst, arith}
use Rattle.std.specs.List.{flat_map, list_any}
use Rattle.std.proofs.lemmas.List.Elements.{Contains-append_left, Contains-append_right, Contains-append_cases, Contains-push, Contains-push_cases}
use Rattle.std.proofs.lemmas.Bool.Decides.{nat_tests}
use Rattle.acc_base.specs.Faults.{or_else}
use Rattle.acc_stamp.specs.declared.stamps.Stamp.{Stamp}
use Rattle.acc_stamp.specs.declared.stamps.TxnId.{TxnId}
use Rattle.acc_stamp.specs.Stamp.{stamp_le, id_eq}
use Rattle.acc_deps.specs.declared.records.Accepted.{Accepted}
use Rattle.acc_deps.specs.declared.records.Settled.{Settled}
use Rattle.acc_txn.specs.declared.parts.BodyParts.{BodyParts}
use Rattle.acc_message.specs.declared.message.Message.{Message}
use Rattle.acc_message.specs.declared.message.Message.TheVariants.{Accept, Commit, Stable, Apply}
use Rattle.acc_message.specs.Fields.{id_of}
use Rattle.acc_message.specs.Taken.{Taken}
use Rattle.acc_message.specs.VoteRule.{Vote, vote_of, first_vote, times_in, stamps_of_vote, stamps_of}
use Rattle.acc_message.specs.BallotRules.{is_accept_ok, is_commit_ok, accepted_by, accepted_of, committed_by, committed_of, settled_in, stable_of}
use Rattle.acc_record.specs.Stands.{record_with, stamp_of_vote}
use Rattle.acc_record.specs.Steps.{stamps_in, time_accepted, time_settled, stamps_told, stamps_shown}

pub stamp_le-trans : (a b c : Stamp) → stamp_le a b ≡ true → stamp_le b c ≡ true → stamp_le a c ≡ true
stamp_le-trans a b c h k = grind (arith, nat_tests)

-- the times that the messages of a history brought
abbrev times_of : List Taken → TxnId → List Stamp
times_of history x = flat_map (λ (step : Taken). times_in x step.message) history

none_there : {T P : Type 0} (x : T) → Contains {X = T} [] x → P
none_there x h = absurd (omega (arith, h.1))

pub first_is_in : (s : Stamp) (rest : List Stamp) → Contains (s ∷ rest) s
first_is_in s rest = Contains-append_left (s ∷ []) rest s (Contains-push [] s)

later_is_in : (r s : Stamp) (rest : List Stamp) → Contains rest s → Contains (r ∷ rest) s
later_is_in r s rest h = Contains-append_right (r ∷ []) rest s h

pub only_is : (r s : Stamp) → Contains (r ∷ []) s → r ≡ s
only_is r s h = ⊎_elim (λ k. none_there s k) (λ e. e) (Contains-push_cases [] r s h)

first_or_later : (r s : Stamp) (rest : List Stamp) → Contains (r ∷ rest) s → (r ≡ s) ⊎ Contains rest s
first_or_later r s rest h = ⊎_elim (λ k. inl (only_is r s k)) (λ k. inr k) (Contains-append_cases (r ∷ []) rest s h)

stamps_in_vote : (v : Option Vote) → stamps_in (stamp_of_vote v) ≡ stamps_of_vote v
stamps_in_vote None = refl
stamps_in_vote (Some v) = refl

-- ---- the times of records were brought by messages

accepted_time : (b c : Bool) (a : Accepted) (s : Stamp) → Contains (time_accepted (cond (b && c) (Some a) None)) s → Contains (cond b (a.t ∷ []) []) s
accepted_time true true a s h = h
accepted_time true false a s h = none_there s h
accepted_time false c a s h = h

accepted_in : (x : TxnId) (m : Message) (sent : List Message) (s : Stamp) → Contains (time_accepted (accepted_by x m sent)) s → Contains (times_in x m) s
accepted_in x (Accept from to id ballot body t deps) sent s h =
    accepted_time (id_eq id x) (list_any is_accept_ok sent) (record { ballot = ballot; t = t; deps = deps }) s h
accepted_in x _ sent s h = none_there s h

committed_in : (x : TxnId) (m : Message) (sent : List Message) (s : Stamp) → Contains (time_accepted (committed_by x m sent)) s → Contains (times_in x m) s
committed_in x (Commit from to id ballot body t deps) sent s h =
    accepted_time (id_eq id x) (list_any is_commit_ok sent) (record { ballot = ballot; t = t; deps = deps }) s h
committed_in x _ sent s h = none_there s h

settled_time : (b : Bool) (a : Settled) (s : Stamp) → Contains (time_settled (cond b (Some a) None)) s → Contains (cond b (a.t ∷ []) []) s
settled_time true a s h = h
settled_time false a s h = h

settled_is_in : (x : TxnId) (m : Message) (s : Stamp) → Contains (time_settled (settled_in x m)) s → Contains (times_in x m) s
settled_is_in x (Stable from to id ballot body t deps) s h = settled_time (id_eq id x) (record { t = t; deps = deps }) s h
settled_is_in x (Apply from to id ballot body t deps outcome) s h = settled_time (id_eq id x) (record { t = t; deps = deps }) s h
settled_is_in x _ s h = none_there s h

accepted_either : (o p : Option Accepted) (s : Stamp) → Contains (time_accepted (or_else o p)) s → Contains (time_accepted o) s ⊎ Contains (time_accepted p) s
accepted_either None p s h = inr h
accepted_either (Some a) p s h = inl h

settled_either : (o p : Option Settled) (s : Stamp) → Contains (time_settled (or_else o p)) s → Contains (time_settled o) s ⊎ Contains (time_settled p) s
settled_either None p s h = inr h
settled_either (Some a) p s h = inl h

module _ (x : TxnId) (s : Stamp) where
  now_or_earlier : (step : Taken) (past : List Taken) → Contains (times_in x step.message) s ⊎ Contains (times_of past x) s
      → Contains (times_of (step ∷ past) x) s
  now_or_earlier step past h =
      ⊎_elim (Contains-append_left (times_in x step.message) (times_of past x) s) (Contains-append_right (times_in x step.message) (times_of past x) s) h

  accepted_was : (history : List Taken) → Contains (time_accepted (accepted_of history x)) s → Contains (times_of history x) s
  accepted_was [] h = h
  accepted_was (step ∷ past) h =
      now_or_earlier step past
      (⊎_elim (λ now. inl (accepted_in x step.message step.sent s now)) (λ was. inr (accepted_was past was))
      (accepted_either (accepted_by x step.message step.sent) (accepted_of past x) s h))

  committed_was : (history : List Taken) → Contains (time_accepted (committed_of history x)) s → Contains (times_of history x) s
  committed_was [] h = h
  committed_was (step ∷ past) h =
      now_or_earlier step past
      (⊎_elim (λ now. inl (committed_in x step.message step.sent s now)) (λ was. inr (committed_was past was))
      (accepted_either (committed_by x step.message step.sent) (committed_of past x) s h))

  settled_was : (history : List Taken) → Contains (time_settled (stable_of history x)) s → Contains (times_of history x) s
  settled_was [] h = h
  settled_was (step ∷ past) h =
      now_or_earlier step past
      (⊎_elim (λ was. inr (settled_was past was)) (λ now. inl (settled_is_in x step.message s now))
      (settled_either (stable_of past x) (settled_in x step.message) s h))

  -- ---- into the stamps

  time_is_in : (history : List Taken) → Contains (times_of history x) s → Contains (stamps_of history x) s
  time_is_in history h =
      later_is_in x.0 s (times_of history x ++ stamps_of_vote (vote_of history x))
      (Contains-append_left (times_of history x) (stamps_of_vote (vote_of history x)) s h)

  vote_is_in : (history : List Taken) → Contains (stamps_of_vote (vote_of history x)) s → Contains (stamps_of history x) s
  vote_is_in history h =
      later_is_in x.0 s (times_of history x ++ stamps_of_vote (vote_of history x))
      (Contains-append_right (times_of history x) (stamps_of_vote (vote_of history x)) s h)

  own_is_in : (history : List Taken) → x.0 ≡ s → Contains (stamps_of history x) s
  own_is_in history e =
      subst (Contains (stamps_of history x)) e (first_is_in x.0 (times_of history x ++ stamps_of_vote (vote_of history x)))

  vote_shown : (history : List Taken) → Contains (stamps_in (stamp_of_vote (vote_of history x))) s → Contains (stamps_of history x) s
  vote_shown history h = vote_is_in history (subst (λ list. Contains list s) (stamps_in_vote (vote_of history x)) h)

  -- what a record shows are stamps of its transaction
  pub shown_is_in : (shard : ℕ) (history : List Taken) (body : BodyParts) → Contains (stamps_shown x (Some (record_with shard history x body))) s
      → Contains (stamps_of history x) s
  shown_is_in shard history body h =
      let accepted : List Stamp = time_accepted (accepted_of history x) in
      let committed : List Stamp = time_accepted (committed_of history x) in
      let stable : List Stamp = time_settled (stable_of history x) in
      let vote : List Stamp = stamps_in (stamp_of_vote (vote_of history x)) in
      ⊎_elim (own_is_in history)
      (λ k. ⊎_elim
      (λ l. ⊎_elim
      (λ n. ⊎_elim (vote_shown history) (λ o. time_is_in history (accepted_was history o)) (Contains-append_cases vote accepted s n))
      (λ n. time_is_in history (committed_was history n))
      (Contains-append_cases (vote ++ accepted) committed s l))
      (λ l. time_is_in history (settled_was history l))
      (Contains-append_cases ((vote ++ accepted) ++ committed) stable s k))
      (first_or_later x.0 s (((vote ++ accepted) ++ committed) ++ stable) h)

-- ---- one step more

first_given : {T : Type 0} (o p : Option T) (v : T) → o ≡ Some v → or_else o p ≡ Some v
first_given o p v e = ap (λ z. or_else z p) e

vote_stays : (o p : Option Vote) (s : Stamp) → Contains (stamps_of_vote o) s → Contains (stamps_of_vote (or_else o p)) s
vote_stays None p s h = none_there s h
vote_stays (Some v) p s h = h

pub stamp_stays : (step : Taken) (past : List Taken) (x : TxnId) (s : Stamp) → Contains (stamps_of past x) s → Contains (stamps_of (step ∷ past) x) s
stamp_stays step past x s h =
    ⊎_elim (own_is_in x s (step ∷ past))
    (λ k. ⊎_elim (λ l. time_is_in x s (step ∷ past) (now_or_earlier x s step past (inr l)))
    (λ l. vote_is_in x s (step ∷ past) (vote_stays (vote_of past x) (first_vote x step.sent) s l))
    (Contains-append_cases (times_of past x) (stamps_of_vote (vote_of past x)) s k))
    (first_or_later x.0 s (times_of past x ++ stamps_of_vote (vote_of past x)) h)

-- what a step tells, by the record that it leaves
module _ (shard : ℕ) (step : Taken) (past : List Taken) (body : BodyParts) where
  abbrev told : List Stamp
  told = stamps_told (record_with shard (step ∷ past) (id_of step.message) body) step.message

  pub told_is_in : (s : Stamp) → Contains told s → Contains (stamps_of (step ∷ past) (id_of step.message)) s
  told_is_in s h =
      let x : TxnId = id_of step.message in
      let vote : List Stamp = stamps_in (stamp_of_vote (vote_of (step ∷ past) x)) in
      ⊎_elim (own_is_in x s (step ∷ past))
      (λ k. ⊎_elim (λ l. time_is_in x s (step ∷ past) (now_or_earlier x s step past (inl l))) (vote_shown x s (step ∷ past))
      (Contains-append_cases (times_in x step.message) vote s k))
      (first_or_later x.0 s (times_in x step.message ++ vote) h)

  pub told_or_before : (s : Stamp) → Contains (stamps_of (step ∷ past) (id_of step.message)) s
      → Contains told s ⊎ Contains (stamps_of past (id_of step.message)) s
  told_or_before s h =
      let x : TxnId = id_of step.message in
      let now : List Stamp = times_in x step.message in
      let earlier : List Stamp = times_of past x in
      let vote : List Stamp = stamps_of_vote (vote_of (step ∷ past) x) in
      let told_vote : List Stamp = stamps_in (stamp_of_vote (vote_of (step ∷ past) x)) in
      ⊎_elim (λ e. inl (subst (Contains told) e (first_is_in x.0 (now ++ told_vote))))
      (λ k. ⊎_elim
      (λ l. ⊎_elim (λ n. inl (later_is_in x.0 s (now ++ told_vote) (Contains-append_left now told_vote s n))) (λ n. inr (time_is_in x s past n))
      (Contains-append_cases now earlier s l))
      (λ l. inl (later_is_in x.0 s (now ++ told_vote)
      (Contains-append_right now told_vote s (subst (λ list. Contains list s) (sym (stamps_in_vote (vote_of (step ∷ past) x))) l))))
      (Contains-append_cases (now ++ earlier) vote s k))
      (first_or_later x.0 s ((now ++ earlier) ++ vote) h)
