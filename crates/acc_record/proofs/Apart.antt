-- What a step leaves as it was: everything of a transaction of which its message brings no body.
use Rattle.std.proofs.Common.{◌≡◌, Bool, true, false, ◌&&◌, ◌||◌, cond, List, [], ◌∷◌, ◌++◌, Option, None, Some, is_some, map, refl, sym, ◌∙◌, ap, arith}
use Rattle.std.specs.List.{list_any}
use Rattle.std.proofs.lemmas.Bool.{true≢false, cond_both}
use Rattle.std.proofs.lemmas.Bool.Decides.{nat_tests}
use Rattle.acc_base.specs.Faults.{or_else}
use Rattle.acc_stamp.specs.declared.stamps.TxnId.{TxnId}
use Rattle.acc_stamp.specs.declared.stamps.Ballot.{Ballot}
use Rattle.acc_stamp.specs.declared.actors.Actor.{Actor}
use Rattle.acc_stamp.specs.Actor.{shard_of}
use Rattle.acc_stamp.specs.Stamp.{id_eq, ballot_lt, zero_ballot}
use Rattle.acc_stamp.proofs.Order.{id_order, eq_itself}
use Rattle.acc_stamp.specs.Rising.{ballots_with}
use Rattle.acc_topology.specs.Layout.{Layout}
use Rattle.acc_deps.specs.declared.records.Settled.{Settled}
use Rattle.acc_value.specs.declared.key.Key.{Key}
use Rattle.acc_value.specs.declared.value.Value.{Value}
use Rattle.acc_txn.specs.declared.parts.BodyParts.{BodyParts}
use Rattle.acc_message.specs.declared.message.Message.{Message}
use Rattle.acc_message.specs.declared.message.Message.TheVariants.{PreAccept, PreAcceptOk, Accept, AcceptOk, Commit, CommitOk, Stable, ReadOk, Apply, Recover, RecoverOk, Nack, Decided, Inform}
use Rattle.acc_message.specs.Fields.{id_of}
use Rattle.acc_message.specs.Taken.{Taken, Heard, taking, body_in, is_heard, learnt, known, heard_body, body_known}
use Rattle.acc_message.specs.VoteRule.{Vote, vote_in, first_vote, times_in, vote_for}
use Rattle.acc_message.specs.BallotRules.{greater_ballot, is_accept_ok, is_commit_ok, is_recover_ok, grants, promise_of, accepted_by, committed_by, settled_in, stable_of, outcome_in}
use Rattle.acc_message.specs.Opening.{Change, changes_of, is_opened, cells_at, written_by}
use Rattle.acc_message.specs.StoreRules.{body_counting, nack, unless_stable, unless_promised, voted, read_ok, read_by, stable_ballots_in, stable_ballots, opening_of, release, released, at_once, store_answer}
use Rattle.acc_actor_laws.proofs.Standing.{not_none}

-- the message brings a body of x
abbrev pub concerns : TxnId → Message → Bool
concerns x m = is_some (body_in m) && id_eq (id_of m) x

pub or_else-none : {T : Type 0} (o : Option T) → or_else o None ≡ o
or_else-none None = refl
or_else-none (Some x) = refl

pub greater_ballot-zero : (b : Ballot) → greater_ballot b zero_ballot ≡ b
greater_ballot-zero b = ap (λ c. cond c zero_ballot b) (below_zero b)
  where
    below_zero : (c : Ballot) → ballot_lt c zero_ballot ≡ false
    below_zero c = grind (arith, nat_tests)

-- ---- in the message

pub times_apart : (x : TxnId) (m : Message) → concerns x m ≡ false → times_in x m ≡ []
times_apart x (Accept from to id ballot body t deps) h = ap (λ b. cond b (t ∷ []) []) h
times_apart x (Commit from to id ballot body t deps) h = ap (λ b. cond b (t ∷ []) []) h
times_apart x (Stable from to id ballot body t deps) h = ap (λ b. cond b (t ∷ []) []) h
times_apart x (Apply from to id ballot body t deps outcome) h = ap (λ b. cond b (t ∷ []) []) h
times_apart x _ h = refl

pub settled_apart : (x : TxnId) (m : Message) → concerns x m ≡ false → settled_in x m ≡ None
settled_apart x (Stable from to id ballot body t deps) h = ap (λ b. cond b (Some (record { t = t; deps = deps })) None) h
settled_apart x (Apply from to id ballot body t deps outcome) h = ap (λ b. cond b (Some (record { t = t; deps = deps })) None) h
settled_apart x _ h = refl

pub outcome_apart : (x : TxnId) (m : Message) → concerns x m ≡ false → outcome_in x m ≡ None
outcome_apart x (Apply from to id ballot body t deps outcome) h = ap (λ b. cond b (Some outcome) None) h
outcome_apart x _ h = refl

pub ballots_apart : (x : TxnId) (m : Message) (ballots : List Ballot) → concerns x m ≡ false → stable_ballots_in x m ballots ≡ ballots
ballots_apart x (Stable from to id ballot body t deps) ballots h = ap (λ b. cond b (ballots_with ballot ballots) ballots) h
ballots_apart x _ ballots h = refl

pub grants_apart : (x : TxnId) (m : Message) (sent : List Message) → concerns x m ≡ false → grants x m sent ≡ false
grants_apart x (Accept from to id ballot body t deps) sent h = ap (λ b. b && list_any is_accept_ok sent) h
grants_apart x (Commit from to id ballot body t deps) sent h = ap (λ b. b && list_any is_commit_ok sent) h
grants_apart x (Recover from to id ballot body) sent h = ap (λ b. b && list_any is_recover_ok sent) h
grants_apart x _ sent h = refl

pub accepted_apart : (x : TxnId) (m : Message) (sent : List Message) → concerns x m ≡ false → accepted_by x m sent ≡ None
accepted_apart x (Accept from to id ballot body t deps) sent h =
    ap (λ b. cond (b && list_any is_accept_ok sent) (Some (record { ballot = ballot; t = t; deps = deps })) None) h
accepted_apart x _ sent h = refl

pub committed_apart : (x : TxnId) (m : Message) (sent : List Message) → concerns x m ≡ false → committed_by x m sent ≡ None
committed_apart x (Commit from to id ballot body t deps) sent h =
    ap (λ b. cond (b && list_any is_commit_ok sent) (Some (record { ballot = ballot; t = t; deps = deps })) None) h
committed_apart x _ sent h = refl

-- ---- in the answer

-- no vote for x is among these
abbrev NoVote : TxnId → List Message → Type 0
NoVote x sent = first_vote x sent ≡ None

-- a vote for another one
other_vote : (b : Bool) (v : Vote) → b ≡ false → or_else (cond b (Some v) None) None ≡ None
other_vote b v h = ap (λ c. or_else (cond c (Some v) None) None) h

no_vote_unless : (x : TxnId) (own : Actor) (id : TxnId) (b promised least : Ballot) (o : Option Settled) (answer : List Message)
    → NoVote x answer → NoVote x (unless_stable own id b o (unless_promised own id b promised least answer))
no_vote_unless x own id b promised least (Some s) answer h = refl
no_vote_unless x own id b promised least None answer h =
    cond_both (ballot_lt least promised) (nack own id b promised) answer (NoVote x) (λ _. refl) (λ _. h)

neither : {T : Type 0} (o rest other : Option T) → or_else o rest ≡ None → (rest ≡ None → other ≡ None) → or_else o other ≡ None
neither None rest other e h = h e
neither (Some v) rest other e h = absurd (not_none v (sym e))

no_vote_append : (x : TxnId) (one other : List Message) → NoVote x one → NoVote x other → NoVote x (one ++ other)
no_vote_append x [] other h k = k
no_vote_append x (m ∷ ms) other h k = neither (vote_in x m) (first_vote x ms) (first_vote x (ms ++ other)) h (λ e. no_vote_append x ms other e k)

no_vote_read : {B : Type 0} (x : TxnId) (answer : B → Message) (bs : List B) → ((b : B) → vote_in x (answer b) ≡ None)
    → NoVote x (map answer bs)
no_vote_read x answer [] h = refl
no_vote_read x answer (b ∷ bs) h = ap (λ v. or_else v (first_vote x (map answer bs))) (h b) ∙ no_vote_read x answer bs h

no_vote_opening : (x : TxnId) (layout : Layout) (own : Actor) (now : List Taken) (c : Change) (cells : Key → Option Value)
    → NoVote x (opening_of layout own now c cells)
no_vote_opening x layout own now c cells =
    cond_both c.opens _ [] (NoVote x)
    (λ _. no_vote_read x (λ b. read_ok own c.id b (read_by layout (shard_of own) (heard_body c.id (known now)) cells)) (stable_ballots now c.id) (λ b. refl))
    (λ _. refl)

no_vote_release : (x : TxnId) (layout : Layout) (own : Actor) (now : List Taken) (changes : List Change) (cells : Key → Option Value)
    → NoVote x (release layout own now changes cells)
no_vote_release x layout own now [] cells = refl
no_vote_release x layout own now (c ∷ changes) cells =
    no_vote_append x (opening_of layout own now c cells) (release layout own now changes (written_by layout (shard_of own) now c cells))
    (no_vote_opening x layout own now c cells)
    (no_vote_release x layout own now changes (written_by layout (shard_of own) now c cells))

no_vote_released : (x : TxnId) (layout : Layout) (own : Actor) (past : List Taken) (m : Message) → NoVote x (released layout own past m)
no_vote_released x layout own past m =
    no_vote_release x layout own (taking m past) (changes_of (shard_of own) (record { message = m; sent = [] }) past) (cells_at layout (shard_of own) past)

pub vote_apart : (layout : Layout) (own : Actor) (past : List Taken) (m : Message) (x : TxnId) → concerns x m ≡ false
    → first_vote x (store_answer layout own past m) ≡ None
vote_apart layout own past (PreAccept from to id ballot body) x h =
    let now : List Taken = taking (PreAccept from to id ballot body) past in
    let given : Vote = vote_for layout own past now id (body_counting now id body) in
    no_vote_unless x own id ballot (promise_of past id) zero_ballot (stable_of past id)
    (voted own id ballot given) (other_vote (id_eq id x) given h)
vote_apart layout own past (Accept from to id ballot body t deps) x h =
    no_vote_unless x own id ballot (promise_of past id) ballot (stable_of past id) _ refl
vote_apart layout own past (Commit from to id ballot body t deps) x h =
    no_vote_unless x own id ballot (promise_of past id) ballot (stable_of past id) _ refl
vote_apart layout own past (Recover from to id ballot body) x h =
    let now : List Taken = taking (Recover from to id ballot body) past in
    let given : Vote = vote_for layout own past now id (body_counting now id body) in
    cond_both (ballot_lt (promise_of past id) ballot) _ (nack own id ballot (promise_of past id)) (NoVote x)
    (λ _. other_vote (id_eq id x) given h) (λ _. refl)
vote_apart layout own past (Stable from to id ballot body t deps) x h =
    no_vote_append x (at_once layout own past id ballot) (released layout own past (Stable from to id ballot body t deps))
    (cond_both (is_opened (shard_of own) past id) _ [] (NoVote x) (λ _. refl) (λ _. refl))
    (no_vote_released x layout own past (Stable from to id ballot body t deps))
vote_apart layout own past (Apply from to id ballot body t deps outcome) x h =
    no_vote_released x layout own past (Apply from to id ballot body t deps outcome)
vote_apart layout own past (PreAcceptOk from to id ballot vote deps) x h = refl
vote_apart layout own past (AcceptOk from to id ballot deps) x h = refl
vote_apart layout own past (CommitOk from to id ballot) x h = refl
vote_apart layout own past (ReadOk from to id ballot answer) x h = refl
vote_apart layout own past (RecoverOk from to id ballot view) x h = refl
vote_apart layout own past (Nack from to id ballot promised) x h = refl
vote_apart layout own past (Decided from to id ballot t deps) x h = refl
vote_apart layout own past (Inform from to id ballot outcome) x h = refl

-- ---- what is known

heard_is_known_by : (b : Bool) (body : BodyParts) (heard : Bool) (o : Option BodyParts) → heard ≡ is_some o
    → (b || heard) ≡ is_some (cond b (Some body) o)
heard_is_known_by true body heard o e = refl
heard_is_known_by false body heard o e = e

pub heard_is_known : (x : TxnId) (heard : List Heard) → is_heard x heard ≡ is_some (heard_body x heard)
heard_is_known x [] = refl
heard_is_known x (k ∷ heard) =
    heard_is_known_by (id_eq k.id x) k.body (is_heard x heard) (heard_body x heard) (heard_is_known x heard)

learnt_apart : (b : Bool) (id x : TxnId) (o : Option BodyParts) (before : List Heard) → (is_some o && id_eq id x) ≡ false
    → heard_body x (learnt b id o before) ≡ heard_body x before
learnt_apart true id x o before h = refl
learnt_apart false id x None before h = refl
learnt_apart false id x (Some body) before h = ap (λ b. cond b (Some body) (heard_body x before)) h

pub known_apart : (step : Taken) (past : List Taken) (x : TxnId) → concerns x step.message ≡ false
    → body_known (step ∷ past) x ≡ body_known past x
known_apart step past x h = learnt_apart (is_heard (id_of step.message) (known past)) (id_of step.message) x (body_in step.message) (known past) h

learnt_here : (b : Bool) (id : TxnId) (o v : Option BodyParts) (before : List Heard) → heard_body id before ≡ v → is_some v ≡ b
    → heard_body id (learnt b id o before) ≡ or_else (heard_body id before) o
learnt_here true id o (Some body) before e h = e ∙ sym (ap (λ z. or_else z o) e)
learnt_here true id o None before e h = absurd (true≢false (sym h))
learnt_here false id o (Some body) before e h = absurd (true≢false h)
learnt_here false id None None before e h = sym (or_else-none (heard_body id before))
learnt_here false id (Some body) None before e h =
    ap (λ b. cond b (Some body) (heard_body id before)) (eq_itself id_order id) ∙ sym (ap (λ z. or_else z (Some body)) e)

-- of the message's own transaction the first body counts
pub known_here : (step : Taken) (past : List Taken)
    → body_known (step ∷ past) (id_of step.message) ≡ or_else (body_known past (id_of step.message)) (body_in step.message)
known_here step past =
    learnt_here (is_heard (id_of step.message) (known past)) (id_of step.message) (body_in step.message) (body_known past (id_of step.message)) (known past) refl
    (sym (heard_is_known (id_of step.message) (known past)))
