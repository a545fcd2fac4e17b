-- What a store promises, and when it votes.
use Rattle.std.proofs.Common.{◌≡◌, Bool, true, false, ◌||◌, cond, List, [], ◌∷◌, Option, None, Some, map, refl, sym, ◌∙◌, ap, arith}
use Rattle.std.specs.List.{list_any}
use Rattle.std.proofs.lemmas.Bool.{true≢false, and_parts, and_right, or_from, cond_both}
use Rattle.std.proofs.lemmas.Bool.Decides.{nat_tests}
use Rattle.std.proofs.lemmas.List.Folds.{list_any-append}
use Rattle.acc_stamp.specs.declared.stamps.TxnId.{TxnId}
use Rattle.acc_stamp.specs.declared.stamps.Ballot.{Ballot}
use Rattle.acc_stamp.specs.declared.actors.Actor.{Actor}
use Rattle.acc_stamp.specs.Stamp.{id_eq, ballot_lt, zero_ballot}
use Rattle.acc_stamp.specs.Actor.{shard_of}
use Rattle.acc_stamp.proofs.Order.{id_order, ballot_order, asym}
use Rattle.acc_topology.specs.Layout.{Layout}
use Rattle.acc_deps.specs.declared.records.Settled.{Settled}
use Rattle.acc_value.specs.declared.key.Key.{Key}
use Rattle.acc_value.specs.declared.value.Value.{Value}
use Rattle.acc_txn.specs.declared.parts.BodyParts.{BodyParts}
use Rattle.acc_message.specs.declared.message.Message.{Message}
use Rattle.acc_message.specs.declared.message.Message.TheVariants.{PreAccept, PreAcceptOk, Accept, AcceptOk, Commit, CommitOk, Stable, ReadOk, Apply, Recover, RecoverOk, Nack, Decided, Inform}
use Rattle.acc_message.specs.Fields.{ballot_of}
use Rattle.acc_message.specs.Taken.{Taken, taking, known, heard_body}
use Rattle.acc_message.specs.VoteRule.{Vote, vote_for}
use Rattle.acc_message.specs.BallotRules.{greater_ballot, is_accept_ok, is_commit_ok, is_recover_ok, grants, granted_by, promise_of, stable_of}
use Rattle.acc_message.specs.Opening.{Change, changes_of, is_opened, cells_at, written_by}
use Rattle.acc_message.specs.Attempts.{votes_for}
use Rattle.acc_message.specs.StoreRules.{body_counting, nack, unless_stable, unless_promised, voted, read_ok, read_by, stable_ballots, opening_of, release, released, at_once, store_answer}

-- ---- promises

cond-same : {T : Type 0} (b : Bool) (z : T) → cond b z z ≡ z
cond-same true z = refl
cond-same false z = refl

nothing_below_zero : (b : Ballot) → ballot_lt b zero_ballot ≡ false
nothing_below_zero b = grind (arith, nat_tests)

-- promises never fall
pub promise_of-kept : (step : Taken) (past : List Taken) (x : TxnId) → ballot_lt (promise_of (step ∷ past) x) (promise_of past x) ≡ false
promise_of-kept step past x =
    cond_both (ballot_lt (promise_of past x) (granted_by x step.message step.sent)) (granted_by x step.message step.sent) (promise_of past x)
    (λ b. ballot_lt b (promise_of past x) ≡ false)
    (λ above. asym ballot_order (promise_of past x) (granted_by x step.message step.sent) above)
    (λ _. ballot_order.irrefl (promise_of past x))

-- ---- answers under conditions

-- an answer that Decided isn't comes where nothing is stable
stable_passes : (test : Message → Bool) (own : Actor) (x : TxnId) (b : Ballot) (o : Option Settled) (answer : List Message)
    → ((t : Settled) → list_any test (unless_stable own x b (Some t) answer) ≡ false)
    → list_any test (unless_stable own x b o answer) ≡ true → list_any test answer ≡ true
stable_passes test own x b None answer isnt h = h
stable_passes test own x b (Some s) answer isnt h = absurd (true≢false (sym h ∙ isnt s))

-- an answer that Nack isn't comes where no greater ballot is promised
promise_passes : (test : Message → Bool) (own : Actor) (promised : Ballot) (x : TxnId) (b least : Ballot) (answer : List Message)
    → list_any test (nack own x b promised) ≡ false
    → list_any test (unless_promised own x b promised least answer) ≡ true → ballot_lt least promised ≡ false
promise_passes test own promised x b least answer isnt =
    cond_both (ballot_lt least promised) (nack own x b promised) answer
    (λ list. list_any test list ≡ true → ballot_lt least promised ≡ false)
    (λ _ h. absurd (true≢false (sym h ∙ isnt)))
    (λ is h. is)

-- the promise for a message's transaction
promised_before : (past : List Taken) (id x : TxnId) (least : Ballot) → id_eq id x ≡ true
    → ballot_lt least (promise_of past id) ≡ false → ballot_lt least (promise_of past x) ≡ false
promised_before past id x least same h = ap (ballot_lt least) (sym (ap (promise_of past) ((id_order.decides id x).0 same))) ∙ h

-- ---- a granted ballot isn't below the promise

pub granted_above : (layout : Layout) (own : Actor) (past : List Taken) (m : Message) (x : TxnId)
    → grants x m (store_answer layout own past m) ≡ true → ballot_lt (ballot_of m) (promise_of past x) ≡ false
granted_above layout own past (Accept from to id ballot body t deps) x h =
    let m : Message = Accept from to id ballot body t deps in
    let parts = and_parts (id_eq id x) (list_any is_accept_ok (store_answer layout own past m)) h in
    promised_before past id x ballot parts.0
    (promise_passes is_accept_ok own (promise_of past id) id ballot ballot _ refl
    (stable_passes is_accept_ok own id ballot (stable_of past id) _ (λ t. refl) parts.1))
granted_above layout own past (Commit from to id ballot body t deps) x h =
    let m : Message = Commit from to id ballot body t deps in
    let parts = and_parts (id_eq id x) (list_any is_commit_ok (store_answer layout own past m)) h in
    promised_before past id x ballot parts.0
    (promise_passes is_commit_ok own (promise_of past id) id ballot ballot _ refl
    (stable_passes is_commit_ok own id ballot (stable_of past id) _ (λ t. refl) parts.1))
granted_above layout own past (Recover from to id ballot body) x h =
    let m : Message = Recover from to id ballot body in
    let parts = and_parts (id_eq id x) (list_any is_recover_ok (store_answer layout own past m)) h in
    promised_before past id x ballot parts.0
    (cond_both (ballot_lt (promise_of past id) ballot) _ (nack own id ballot (promise_of past id))
    (λ list. list_any is_recover_ok list ≡ true → ballot_lt ballot (promise_of past id) ≡ false)
    (λ above _. asym ballot_order (promise_of past id) ballot above)
    (λ _ k. absurd (true≢false (sym k)))
    parts.1)
granted_above layout own past (PreAccept from to id ballot body) x h = absurd (true≢false (sym h))
granted_above layout own past (PreAcceptOk from to id ballot vote deps) x h = absurd (true≢false (sym h))
granted_above layout own past (AcceptOk from to id ballot deps) x h = absurd (true≢false (sym h))
granted_above layout own past (CommitOk from to id ballot) x h = absurd (true≢false (sym h))
granted_above layout own past (Stable from to id ballot body t deps) x h = absurd (true≢false (sym h))
granted_above layout own past (ReadOk from to id ballot answer) x h = absurd (true≢false (sym h))
granted_above layout own past (Apply from to id ballot body t deps outcome) x h = absurd (true≢false (sym h))
granted_above layout own past (RecoverOk from to id ballot view) x h = absurd (true≢false (sym h))
granted_above layout own past (Nack from to id ballot promised) x h = absurd (true≢false (sym h))
granted_above layout own past (Decided from to id ballot t deps) x h = absurd (true≢false (sym h))
granted_above layout own past (Inform from to id ballot outcome) x h = absurd (true≢false (sym h))

-- a granted Recover is above every promise before it
pub recover_granted_above : (layout : Layout) (own : Actor) (past : List Taken) (from to : Actor) (id : TxnId) (ballot : Ballot) (body : BodyParts) (x : TxnId)
    → grants x (Recover from to id ballot body) (store_answer layout own past (Recover from to id ballot body)) ≡ true
    → ballot_lt (promise_of past x) ballot ≡ true
recover_granted_above layout own past from to id ballot body x h =
    let m : Message = Recover from to id ballot body in
    let parts = and_parts (id_eq id x) (list_any is_recover_ok (store_answer layout own past m)) h in
    ap (λ b. ballot_lt b ballot) (sym (ap (promise_of past) ((id_order.decides id x).0 parts.0)))
    ∙ cond_both (ballot_lt (promise_of past id) ballot) _ (nack own id ballot (promise_of past id))
    (λ list. list_any is_recover_ok list ≡ true → ballot_lt (promise_of past id) ballot ≡ true)
    (λ above _. above)
    (λ _ k. absurd (true≢false (sym k)))
    parts.1

-- ---- a vote comes before every promise

no_votes_mapped : {B : Type 0} (x : TxnId) (answer : B → Message) (bs : List B) → ((b : B) → votes_for x (answer b) ≡ false)
    → list_any (votes_for x) (map answer bs) ≡ false
no_votes_mapped x answer [] h = refl
no_votes_mapped x answer (b ∷ bs) h = or_from (votes_for x (answer b)) _ (h b) (no_votes_mapped x answer bs h)

no_votes_opening : (x : TxnId) (layout : Layout) (own : Actor) (now : List Taken) (c : Change) (cells : Key → Option Value)
    → list_any (votes_for x) (opening_of layout own now c cells) ≡ false
no_votes_opening x layout own now c cells =
    cond_both c.opens _ [] (λ list. list_any (votes_for x) list ≡ false)
    (λ _. no_votes_mapped x (λ b. read_ok own c.id b (read_by layout (shard_of own) (heard_body c.id (known now)) cells)) (stable_ballots now c.id) (λ b. refl))
    (λ _. refl)

no_votes_released : (x : TxnId) (layout : Layout) (own : Actor) (now : List Taken) (changes : List Change) (cells : Key → Option Value)
    → list_any (votes_for x) (release layout own now changes cells) ≡ false
no_votes_released x layout own now [] cells = refl
no_votes_released x layout own now (c ∷ changes) cells =
    list_any-append (votes_for x) (opening_of layout own now c cells) (release layout own now changes (written_by layout (shard_of own) now c cells))
    ∙ or_from _ _ (no_votes_opening x layout own now c cells)
    (no_votes_released x layout own now changes (written_by layout (shard_of own) now c cells))

no_votes_at_once : (x : TxnId) (layout : Layout) (own : Actor) (past : List Taken) (id : TxnId) (b : Ballot)
    → list_any (votes_for x) (at_once layout own past id b) ≡ false
no_votes_at_once x layout own past id b =
    cond_both (is_opened (shard_of own) past id) _ [] (λ list. list_any (votes_for x) list ≡ false) (λ _. refl) (λ _. refl)

no_votes_unless : (x : TxnId) (own : Actor) (promised : Ballot) (id : TxnId) (b least : Ballot) (o : Option Settled) (answer : List Message)
    → list_any (votes_for x) answer ≡ false
    → list_any (votes_for x) (unless_stable own id b o (unless_promised own id b promised least answer)) ≡ false
no_votes_unless x own promised id b least (Some s) answer h = refl
no_votes_unless x own promised id b least None answer h =
    cond_both (ballot_lt least promised) (nack own id b promised) answer
    (λ list. list_any (votes_for x) list ≡ false) (λ _. refl) (λ _. h)

pub zero_promise : (b : Ballot) → ballot_lt zero_ballot b ≡ false → b ≡ zero_ballot
zero_promise b h = ballot_order.connected b zero_ballot (nothing_below_zero b) h

voted_for : (x id : TxnId) (b : Ballot) (own : Actor) (v : Vote) → list_any (votes_for x) (voted own id b v) ≡ true → id_eq id x ≡ true
voted_for x id b own v = by (id_eq id x)
  where
    by : (c : Bool) → (c || false) ≡ true → c ≡ true
    by true h = refl
    by false h = h

pub vote_before_promise : (layout : Layout) (own : Actor) (past : List Taken) (m : Message) (x : TxnId)
    → list_any (votes_for x) (store_answer layout own past m) ≡ true → promise_of past x ≡ zero_ballot
vote_before_promise layout own past (PreAccept from to id ballot body) x h =
    let m : Message = PreAccept from to id ballot body in
    let now : List Taken = taking m past in
    let given = vote_for layout own past now id (body_counting now id body) in
    let unpromised = stable_passes (votes_for x) own id ballot (stable_of past id) (unless_promised own id ballot (promise_of past id) zero_ballot (voted own id ballot given)) (λ t. refl) h in
    zero_promise (promise_of past x)
    (cond_both (ballot_lt zero_ballot (promise_of past id)) (nack own id ballot (promise_of past id)) (voted own id ballot given)
    (λ list. list_any (votes_for x) list ≡ true → ballot_lt zero_ballot (promise_of past x) ≡ false)
    (λ _ k. absurd (true≢false (sym k)))
    (λ is k. promised_before past id x zero_ballot (voted_for x id ballot own given k) is)
    unpromised)
vote_before_promise layout own past (Accept from to id ballot body t deps) x h =
    let now : List Taken = taking (Accept from to id ballot body t deps) past in
    absurd (true≢false (sym h ∙ no_votes_unless x own (promise_of past id) id ballot ballot (stable_of past id) _ refl))
vote_before_promise layout own past (Commit from to id ballot body t deps) x h =
    let now : List Taken = taking (Commit from to id ballot body t deps) past in
    absurd (true≢false (sym h ∙ no_votes_unless x own (promise_of past id) id ballot ballot (stable_of past id) _ refl))
vote_before_promise layout own past (Stable from to id ballot body t deps) x h =
    let m : Message = Stable from to id ballot body t deps in
    absurd (true≢false (sym h ∙ list_any-append (votes_for x) (at_once layout own past id ballot) (released layout own past m)
    ∙ or_from _ _ (no_votes_at_once x layout own past id ballot)
    (no_votes_released x layout own (taking m past) (changes_of (shard_of own) (record { message = m; sent = [] }) past) (cells_at layout (shard_of own) past))))
vote_before_promise layout own past (Apply from to id ballot body t deps outcome) x h =
    let m : Message = Apply from to id ballot body t deps outcome in
    absurd (true≢false (sym h ∙ no_votes_released x layout own (taking m past) (changes_of (shard_of own) (record { message = m; sent = [] }) past) (cells_at layout (shard_of own) past)))
vote_before_promise layout own past (Recover from to id ballot body) x h =
    let now : List Taken = taking (Recover from to id ballot body) past in
    absurd (true≢false (sym h ∙ cond_both (ballot_lt (promise_of past id) ballot) _ (nack own id ballot (promise_of past id))
    (λ list. list_any (votes_for x) list ≡ false) (λ _. refl) (λ _. refl)))
vote_before_promise layout own past (PreAcceptOk from to id ballot vote deps) x h = absurd (true≢false (sym h))
vote_before_promise layout own past (AcceptOk from to id ballot deps) x h = absurd (true≢false (sym h))
vote_before_promise layout own past (CommitOk from to id ballot) x h = absurd (true≢false (sym h))
vote_before_promise layout own past (ReadOk from to id ballot answer) x h = absurd (true≢false (sym h))
vote_before_promise layout own past (RecoverOk from to id ballot view) x h = absurd (true≢false (sym h))
vote_before_promise layout own past (Nack from to id ballot promised) x h = absurd (true≢false (sym h))
vote_before_promise layout own past (Decided from to id ballot t deps) x h = absurd (true≢false (sym h))
vote_before_promise layout own past (Inform from to id ballot outcome) x h = absurd (true≢false (sym h))
