-- Whatever a store sends is one of seven answers, with its reason.
use Rattle.std.proofs.Common.{◌≡◌, Bool, true, false, ◌||◌, cond, List, [], ◌∷◌, ◌++◌, Option, None, Some, refl, sym, ◌∙◌, ap, subst, ⊎_elim}
use Rattle.std.proofs.lemmas.Bool.{true≢false}
use Rattle.acc_stamp.specs.declared.stamps.TxnId.{TxnId}
use Rattle.acc_stamp.specs.declared.stamps.Ballot.{Ballot}
use Rattle.acc_stamp.specs.declared.actors.Actor.{Actor}
use Rattle.acc_stamp.specs.Actor.{shard_of, home_of}
use Rattle.acc_stamp.specs.Stamp.{id_eq, ballot_lt, zero_ballot}
use Rattle.acc_stamp.proofs.Order.{id_order, eq_itself}
use Rattle.acc_topology.specs.Layout.{Layout}
use Rattle.acc_deps.specs.declared.shards.ShardDeps.{ShardDeps}
use Rattle.acc_deps.specs.declared.records.Settled.{Settled}
use Rattle.acc_value.specs.declared.key.Key.{Key}
use Rattle.acc_value.specs.declared.value.Value.{Value}
use Rattle.acc_txn.specs.declared.parts.BodyParts.{BodyParts}
use Rattle.acc_message.specs.declared.message.Message.{Message}
use Rattle.acc_message.specs.declared.message.Message.TheVariants.{PreAccept, PreAcceptOk, Accept, AcceptOk, Commit, CommitOk, Stable, ReadOk, Apply, Recover, RecoverOk, Nack, Decided, Inform}
use Rattle.acc_message.specs.Fields.{id_of, ballot_of}
use Rattle.acc_message.specs.Taken.{Taken, taking, Heard, is_heard, learnt, known, heard_body, body_known, body_in}
use Rattle.acc_message.specs.VoteRule.{Vote, vote_for, known_below}
use Rattle.acc_message.specs.BallotRules.{promise_of, stable_of}
use Rattle.acc_message.specs.Evidence.{view_of}
use Rattle.acc_message.specs.Opening.{Change, changes_of, is_opened, cells_at, written_by, written_by_all}
use Rattle.acc_message.specs.StoreRules.{body_or, body_counting, nack, unless_stable, unless_promised, voted, read_ok, read_by, stable_ballots, opening_of, release, released, at_once, store_answer}
use Rattle.acc_actor_laws.proofs.StoreFacts.{zero_promise}
use Rattle.acc_safety.specs.Places.{IsIn}
use Rattle.acc_safety.specs.StoreSends.{taking_step, StoreSends, Votes, Accepts, Commits, Reveals, ReadsAtOnce, ReadsOnOpening, Refuses, Tells}
use Rattle.acc_safety.proofs.PlaceOrder.{only, none_is_in, IsIn-append_cases, IsIn-cond_cases, IsIn-map}

-- ---- the body that counts is the one that is known

heard_by : (b any : Bool) (first body : BodyParts) (o : Option BodyParts) → (b || any) ≡ true → (any ≡ true → o ≡ Some (body_or o body))
    → cond b (Some first) o ≡ Some (body_or (cond b (Some first) o) body)
heard_by true any first body o h rest = refl
heard_by false any first body o h rest = rest h

heard_some : (x : TxnId) (heard : List Heard) (body : BodyParts) → is_heard x heard ≡ true → heard_body x heard ≡ Some (body_or (heard_body x heard) body)
heard_some x [] body h = absurd (true≢false (sym h))
heard_some x (k ∷ heard) body h =
    heard_by (id_eq k.id x) (is_heard x heard) k.body body (heard_body x heard) h (heard_some x heard body)

learnt_some : (x : TxnId) (body : BodyParts) (before : List Heard) (b : Bool) → is_heard x before ≡ b
    → heard_body x (learnt b x (Some body) before) ≡ Some (body_or (heard_body x (learnt b x (Some body) before)) body)
learnt_some x body before true is = heard_some x before body is
learnt_some x body before false is =
    let same : cond (id_eq x x) (Some body) (heard_body x before) ≡ Some body =
    ap (λ b. cond b (Some body) (heard_body x before)) (eq_itself id_order x) in
    same ∙ ap (λ o. Some (body_or o body)) (sym same)

-- a message that brings a body makes its transaction known, by the body that counts
pub counting : (m : Message) (past : List Taken) (body : BodyParts) → body_in m ≡ Some body
    → body_known (taking m past) (id_of m) ≡ Some (body_counting (taking m past) (id_of m) body)
counting m past body is =
    subst
    (λ o. heard_body (id_of m) (learnt (is_heard (id_of m) (known past)) (id_of m) o (known past))
    ≡ Some (body_or (heard_body (id_of m) (learnt (is_heard (id_of m) (known past)) (id_of m) o (known past))) body))
    (sym is)
    (learnt_some (id_of m) body (known past) (is_heard (id_of m) (known past)) refl)

-- ---- changes

written_by_all-more : (layout : Layout) (own : Actor) (history : List Taken) (before : List Change) (c : Change) (cells : Key → Option Value)
    → written_by_all layout (shard_of own) history (before ++ c ∷ []) cells
    ≡ written_by layout (shard_of own) history c (written_by_all layout (shard_of own) history before cells)
written_by_all-more layout own history [] c cells = refl
written_by_all-more layout own history (d ∷ before) c cells =
    written_by_all-more layout own history before c (written_by layout (shard_of own) history d cells)

append_one : {T : Type 0} (xs : List T) (y : T) (ys : List T) → (xs ++ y ∷ []) ++ ys ≡ xs ++ y ∷ ys
append_one [] y ys = refl
append_one (x ∷ xs) y ys = ap (λ zs. x ∷ zs) (append_one xs y ys)

module _ (layout : Layout) (own : Actor) (past : List Taken) where
  tells : (m : Message) (t : Settled) (s : Message) → stable_of past (id_of m) ≡ Some t
      → s ≡ Decided own (home_of (id_of m) (ballot_of m)) (id_of m) (ballot_of m) t.t t.deps → StoreSends layout own past m s
  tells m t s is e = subst (StoreSends layout own past m) (sym e) (Tells m t is)

  refuses : (m s : Message) → IsIn s (nack own (id_of m) (ballot_of m) (promise_of past (id_of m))) → StoreSends layout own past m s
  refuses m s h =
      subst (StoreSends layout own past m)
      (sym (only s (Nack own (home_of (id_of m) (ballot_of m)) (id_of m) (ballot_of m) (promise_of past (id_of m))) h))
      (Refuses m (promise_of past (id_of m)) refl)

  -- one that is stable is told, every other one has its answer
  unless_told : (m : Message) (answer : List Message) (s : Message) (o : Option Settled) → stable_of past (id_of m) ≡ o
      → IsIn s (unless_stable own (id_of m) (ballot_of m) o answer)
      → (stable_of past (id_of m) ≡ None → IsIn s answer → StoreSends layout own past m s) → StoreSends layout own past m s
  unless_told m answer s None is h k = k is h
  unless_told m answer s (Some t) is h k =
      tells m t s is (only s (Decided own (home_of (id_of m) (ballot_of m)) (id_of m) (ballot_of m) t.t t.deps) h)

  unless_refused : (m : Message) (least : Ballot) (answer : List Message) (s : Message)
      → IsIn s (unless_promised own (id_of m) (ballot_of m) (promise_of past (id_of m)) least answer)
      → (ballot_lt least (promise_of past (id_of m)) ≡ false → IsIn s answer → StoreSends layout own past m s) → StoreSends layout own past m s
  unless_refused m least answer s h k =
      ⊎_elim (λ refused. refuses m s refused.1) (λ granted. k granted.0 granted.1)
      (IsIn-cond_cases s (ballot_lt least (promise_of past (id_of m))) (nack own (id_of m) (ballot_of m) (promise_of past (id_of m))) answer h)

  opening_sent : (m : Message) (before rest : List Change) (c : Change) (s : Message)
      → changes_of (shard_of own) (taking_step m) past ≡ before ++ c ∷ rest
      → IsIn s (opening_of layout own (taking m past) c (written_by_all layout (shard_of own) (taking m past) before (cells_at layout (shard_of own) past)))
      → StoreSends layout own past m s
  opening_sent m before rest c s is h =
      ⊎_elim
      (λ opens.
      let from = IsIn-map (λ b. read_ok own c.id b (read_by layout (shard_of own) (heard_body c.id (known (taking m past))) cells)) s (stable_ballots (taking m past) c.id) opens.1 in
      subst (StoreSends layout own past m) (sym from.is)
      (ReadsOnOpening m c from.source (read_by layout (shard_of own) (heard_body c.id (known (taking m past))) cells) before
      (record { rest = rest; changes_are = is }) opens.0 from.there refl))
      (λ closed. absurd (none_is_in s closed.1))
      (IsIn-cond_cases s c.opens _ [] h)
    where
      cells : Key → Option Value
      cells = written_by_all layout (shard_of own) (taking m past) before (cells_at layout (shard_of own) past)

  release_sent : (m : Message) (before rest : List Change) (s : Message) → changes_of (shard_of own) (taking_step m) past ≡ before ++ rest
      → IsIn s (release layout own (taking m past) rest (written_by_all layout (shard_of own) (taking m past) before (cells_at layout (shard_of own) past)))
      → StoreSends layout own past m s
  release_sent m before [] s is h = absurd (none_is_in s h)
  release_sent m before (c ∷ rest) s is h =
      ⊎_elim (opening_sent m before rest c s is)
      (λ later.
      release_sent m (before ++ c ∷ []) rest s (is ∙ sym (append_one before c rest))
      (subst (λ cells. IsIn s (release layout own (taking m past) rest cells))
      (sym (written_by_all-more layout own (taking m past) before c (cells_at layout (shard_of own) past))) later))
      (IsIn-append_cases s
      (opening_of layout own (taking m past) c (written_by_all layout (shard_of own) (taking m past) before (cells_at layout (shard_of own) past)))
      (release layout own (taking m past) rest (written_by layout (shard_of own) (taking m past) c (written_by_all layout (shard_of own) (taking m past) before (cells_at layout (shard_of own) past)))) h)

  released_sent : (m s : Message) → IsIn s (released layout own past m) → StoreSends layout own past m s
  released_sent m s h = release_sent m [] (changes_of (shard_of own) (taking_step m) past) s refl h

  pub store_sends : (m s : Message) → IsIn s (store_answer layout own past m) → StoreSends layout own past m s
  store_sends (PreAccept from to id ballot body) s h =
      let m : Message = PreAccept from to id ballot body in
      let count : BodyParts = body_counting (taking m past) id body in
      let v : Vote = vote_for layout own past (taking m past) id count in
      unless_told m (unless_promised own id ballot (promise_of past id) zero_ballot (voted own id ballot v)) s (stable_of past id) refl h
      (λ unstable rest. unless_refused m zero_ballot (voted own id ballot v) s rest
      (λ unpromised there.
      subst (StoreSends layout own past m) (sym (only s (PreAcceptOk own (home_of id ballot) id ballot v.vote v.deps) there))
      (Votes from to id ballot body count v unstable (zero_promise (promise_of past id) unpromised) (counting m past body refl) refl)))
  store_sends (Accept from to id ballot body t deps) s h =
      let m : Message = Accept from to id ballot body t deps in
      let count : BodyParts = body_counting (taking m past) id body in
      let named : List ShardDeps = known_below layout own (taking m past) id count t in
      unless_told m (unless_promised own id ballot (promise_of past id) ballot (AcceptOk own (home_of id ballot) id ballot named ∷ [])) s (stable_of past id) refl h
      (λ unstable rest. unless_refused m ballot (AcceptOk own (home_of id ballot) id ballot named ∷ []) s rest
      (λ granted there.
      subst (StoreSends layout own past m) (sym (only s (AcceptOk own (home_of id ballot) id ballot named) there))
      (Accepts from to id ballot body count t deps named unstable granted (counting m past body refl) refl)))
  store_sends (Commit from to id ballot body t deps) s h =
      let m : Message = Commit from to id ballot body t deps in
      unless_told m (unless_promised own id ballot (promise_of past id) ballot (CommitOk own (home_of id ballot) id ballot ∷ [])) s (stable_of past id) refl h
      (λ unstable rest. unless_refused m ballot (CommitOk own (home_of id ballot) id ballot ∷ []) s rest
      (λ granted there.
      subst (StoreSends layout own past m) (sym (only s (CommitOk own (home_of id ballot) id ballot) there))
      (Commits from to id ballot body t deps unstable granted)))
  store_sends (Recover from to id ballot body) s h =
      let m : Message = Recover from to id ballot body in
      let count : BodyParts = body_counting (taking m past) id body in
      let shown = view_of layout own past (taking m past) id count in
      ⊎_elim
      (λ granted.
      subst (StoreSends layout own past m) (sym (only s (RecoverOk own (home_of id ballot) id ballot shown) granted.1))
      (Reveals from to id ballot body count shown granted.0 (counting m past body refl) refl))
      (λ refused. refuses m s refused.1)
      (IsIn-cond_cases s (ballot_lt (promise_of past id) ballot) (RecoverOk own (home_of id ballot) id ballot shown ∷ []) (nack own id ballot (promise_of past id)) h)
  store_sends (Stable from to id ballot body t deps) s h =
      ⊎_elim (at_once_sent) (released_sent (Stable from to id ballot body t deps) s)
      (IsIn-append_cases s (at_once layout own past id ballot) (released layout own past (Stable from to id ballot body t deps)) h)
    where
      at_once_sent : IsIn s (at_once layout own past id ballot) → StoreSends layout own past (Stable from to id ballot body t deps) s
      at_once_sent k =
          ⊎_elim
          (λ opened.
          subst (StoreSends layout own past (Stable from to id ballot body t deps)) (sym (only s _ opened.1))
          (ReadsAtOnce from to id ballot body t deps _ opened.0 refl))
          (λ closed. absurd (none_is_in s closed.1))
          (IsIn-cond_cases s (is_opened (shard_of own) past id) _ [] k)
  store_sends (Apply from to id ballot body t deps outcome) s h = released_sent (Apply from to id ballot body t deps outcome) s h
  store_sends (PreAcceptOk from to id ballot vote deps) s h = absurd (none_is_in s h)
  store_sends (AcceptOk from to id ballot deps) s h = absurd (none_is_in s h)
  store_sends (CommitOk from to id ballot) s h = absurd (none_is_in s h)
  store_sends (ReadOk from to id ballot answer) s h = absurd (none_is_in s h)
  store_sends (RecoverOk from to id ballot view) s h = absurd (none_is_in s h)
  store_sends (Nack from to id ballot promised) s h = absurd (none_is_in s h)
  store_sends (Decided from to id ballot t deps) s h = absurd (none_is_in s h)
  store_sends (Inform from to id ballot outcome) s h = absurd (none_is_in s h)
