-- A step that takes a Stable or an Apply keeps a shelf at its history.
use Rattle.std.proofs.Common.{◌≡◌, ℕ, Bool, true, false, not, ◌&&◌, ◌||◌, cond, max, List, [], ◌∷◌, ◌++◌, Option, None, Some, is_some, Contains, inl, inr, ⊎_elim, refl, sym, ◌∙◌, ap, subst, arith}
use Rattle.std.specs.Option.{option_map}
use Rattle.std.proofs.lemmas.Bool.{true≢false, or_right, and_parts, and_from}
use Rattle.acc_base.specs.Faults.{or_else}
use Rattle.acc_stamp.specs.declared.stamps.TxnId.{TxnId}
use Rattle.acc_stamp.specs.declared.stamps.Ballot.{Ballot}
use Rattle.acc_stamp.specs.declared.actors.Actor.{Actor}
use Rattle.acc_stamp.specs.Actor.{shard_of}
use Rattle.acc_stamp.specs.Stamp.{id_eq, zero_ballot}
use Rattle.acc_stamp.specs.Rising.{id_among}
use Rattle.acc_stamp.proofs.Rising.{is_among-append}
use Rattle.acc_topology.specs.Layout.{Layout}
use Rattle.acc_txn.specs.declared.parts.BodyParts.{BodyParts}
use Rattle.acc_value.specs.declared.key.Key.{Key}
use Rattle.acc_message.specs.declared.message.Message.{Message}
use Rattle.acc_message.specs.Fields.{id_of, ballot_of, top_of}
use Rattle.acc_message.specs.Taken.{Taken, body_known}
use Rattle.acc_message.specs.VoteRule.{vote_of, times_in, greatest_drawn, greatest_h}
use Rattle.acc_message.specs.BallotRules.{greater_ballot, promise_of, accepted_of, committed_of, kept_outcome, outcome_in}
use Rattle.acc_message.specs.Opening.{Change, may_open, changes_of, opened_by, opened_of, is_opened, is_applied, cells_at}
use Rattle.acc_message.specs.StoreRules.{stable_ballots_in, stable_ballots, waiters_of, store_answer, replay}
use Rattle.acc_actor_laws.specs.OpeningOrder.{opens_in, applies_in}
use Rattle.acc_actor_laws.proofs.OpeningOrder.{opens_in_order}
use Rattle.acc_record.specs.declared.shelf.Shelf.{Shelf}
use Rattle.acc_record.specs.Shelf.{record_at, cell_at}
use Rattle.acc_record.specs.Waits.{AreWaits}
use Rattle.acc_record.specs.Stands.{record_with, record_for, stamp_of_vote, deps_of_vote, AreStamps, StandsFor}
use Rattle.acc_record.specs.Steps.{stamps_in, stamps_told, NotesTold}
use Rattle.acc_record.proofs.Apart.{concerns, or_else-none, greater_ballot-zero}
use Rattle.acc_record.proofs.Resting.{StaysAt, stays_at, same_record}
use Rattle.acc_record.proofs.Index.{index_next}
use Rattle.acc_record.proofs.Records.{Begun}
use Rattle.acc_execute.specs.Opened.{brought, executed, OpeningStep}
use Rattle.acc_execute.proofs.Answered.{AreReads, reads_answered, reads_vote, reads_drawn, opening_grants, opening_accepts, opening_commits}
use Rattle.acc_execute.proofs.OpenedTaking.{begun_here, at_by}

-- ---- what was, what is new, and what is now

now_by : (was now : Bool) → (was ≡ true → now ≡ true) → (was || (now && not was)) ≡ now
now_by true now stays = sym (stays refl)
now_by false true stays = refl
now_by false false stays = refl

waiting_by : (was now : Bool) (ballots : List Ballot) → (was ≡ true → now ≡ true)
    → cond (now && not was) [] (cond was [] ballots) ≡ cond now [] ballots
waiting_by true true ballots stays = refl
waiting_by true false ballots stays = absurd (true≢false (sym (stays refl)))
waiting_by false true ballots stays = refl
waiting_by false false ballots stays = refl

waiting_more : (was : Bool) (ballots : List Ballot) (more : List Ballot → List Ballot)
    → cond was (cond was [] ballots) (more (cond was [] ballots)) ≡ cond was [] (more ballots)
waiting_more true ballots more = refl
waiting_more false ballots more = refl

some_stays : {T : Type 0} (o p : Option T) → is_some o ≡ true → is_some (or_else o p) ≡ true
some_stays None p h = absurd (true≢false (sym h))
some_stays (Some v) p h = refl

map_twice : {A B C : Type 0} (f : B → C) (g : A → B) (h : A → C) (o : Option A) → ((a : A) → f (g a) ≡ h a) → option_map f (option_map g o) ≡ option_map h o
map_twice f g h None same = refl
map_twice f g h (Some a) same = ap Some (same a)

undrawn_top : (top drawn greatest : ℕ) → drawn ≡ 0 → max top greatest ≡ max (max top drawn) greatest
undrawn_top top drawn greatest h = omega arith

module _ (layout : Layout) (old new : Shelf) (messages : List Message) (m : Message) (changes : List Change) (opening : may_open m ≡ true)
    (stands : StandsFor layout old (replay layout old.actor messages))
    (planned : changes ≡ changes_of (shard_of old.actor) (record { message = m; sent = store_answer layout old.actor (replay layout old.actor messages) m }) (replay layout old.actor messages))
    (q : OpeningStep layout old new m changes) where
  abbrev past : List Taken
  past = replay layout old.actor messages

  abbrev sent : List Message
  sent = store_answer layout old.actor past m

  abbrev step : Taken
  step = record { message = m; sent = sent }

  abbrev x : TxnId
  x = id_of m

  abbrev shard : ℕ
  shard = shard_of old.actor

  b : Begun shard step past (record_at old.records x) q.begins
  b = begun_here layout old messages stands m q.begins q.from sent

  own : brought q.begins m ≡ brought (record_with shard past x b.body) m
  own = ap (λ r. brought r m) b.is

  reads : AreReads sent
  reads = reads_answered layout old.actor past m opening

  elsewhere : (y : TxnId) → concerns y m ≡ false → StaysAt step past y
  elsewhere y apart = stays_at layout old.actor past m sent y refl apart

  -- ---- what is opened and applied

  opened_stays : (y : TxnId) → is_opened shard past y ≡ true → is_opened shard (step ∷ past) y ≡ true
  opened_stays y h =
      is_among-append id_eq y (opened_by (changes_of shard step past)) (opened_of shard past)
      ∙ or_right (id_among y (opened_by (changes_of shard step past))) (id_among y (opened_of shard past)) h

  applied_stays : (y : TxnId) → is_applied shard past y ≡ true → is_applied shard (step ∷ past) y ≡ true
  applied_stays y h =
      let parts = and_parts (is_opened shard past y) (is_some (kept_outcome past y)) h in
      and_from (is_opened shard (step ∷ past) y) (is_some (kept_outcome (step ∷ past) y)) (opened_stays y parts.0)
      (some_stays (kept_outcome past y) (outcome_in y m) parts.1)

  opens : (y : TxnId) → opens_in y changes ≡ (is_opened shard (step ∷ past) y && not (is_opened shard past y))
  opens y = ap (opens_in y) planned ∙ (opens_in_order shard step past).opened y

  opened_now : (y : TxnId) → (is_opened shard past y || opens_in y changes) ≡ is_opened shard (step ∷ past) y
  opened_now y = ap (λ c. is_opened shard past y || c) (opens y) ∙ now_by (is_opened shard past y) (is_opened shard (step ∷ past) y) (opened_stays y)

  applied_now : (y : TxnId) → (is_applied shard past y || applies_in y changes) ≡ is_applied shard (step ∷ past) y
  applied_now y =
      ap (λ c. is_applied shard past y || c) (ap (applies_in y) planned ∙ (opens_in_order shard step past).applied y)
      ∙ now_by (is_applied shard past y) (is_applied shard (step ∷ past) y) (applied_stays y)

  waiters_now : (y : TxnId) (waiters : List Ballot) → waiters ≡ cond (is_opened shard past y) [] (stable_ballots (step ∷ past) y)
      → cond (opens_in y changes) [] waiters ≡ waiters_of shard (step ∷ past) y
  waiters_now y waiters is =
      ap (λ c. cond c [] waiters) (opens y)
      ∙ ap (λ list. cond (is_opened shard (step ∷ past) y && not (is_opened shard past y)) [] list) is
      ∙ waiting_by (is_opened shard past y) (is_opened shard (step ∷ past) y) (stable_ballots (step ∷ past) y) (opened_stays y)

  -- ---- records

  vote_stays : vote_of (step ∷ past) x ≡ vote_of past x
  vote_stays = ap (or_else (vote_of past x)) (reads_vote x sent reads) ∙ or_else-none (vote_of past x)

  next_here : executed changes x (brought (record_with shard past x b.body) m) ≡ record_with shard (step ∷ past) x b.body
  next_here =
      same_record x b.body _ _ _ _ _ _ _ _ _ _ _ _ _ _ _ _ _ _ _ _
      (ap stamp_of_vote (sym vote_stays)) (ap deps_of_vote (sym vote_stays))
      (sym
      (ap (λ c. greater_ballot (promise_of past x) (cond c (ballot_of m) zero_ballot)) (opening_grants x m sent opening)
      ∙ greater_ballot-zero (promise_of past x)))
      (sym (ap (λ o. or_else o (accepted_of past x)) (opening_accepts x m sent opening)))
      (sym (ap (λ o. or_else o (committed_of past x)) (opening_commits x m sent opening)))
      refl
      (waiters_now x _ (waiting_more (is_opened shard past x) (stable_ballots past x) (stable_ballots_in x m)))
      (opened_now x) refl (applied_now x)

  next_elsewhere : (y : TxnId) (body : BodyParts) → StaysAt step past y
      → executed changes y (record_with shard past y body) ≡ record_with shard (step ∷ past) y body
  next_elsewhere y body s =
      same_record y body _ _ _ _ _ _ _ _ _ _ _ _ _ _ _ _ _ _ _ _
      (ap stamp_of_vote (sym s.vote)) (ap deps_of_vote (sym s.vote)) (sym s.promise) (sym s.accepted) (sym s.committed) (sym s.stable)
      (waiters_now y _ (ap (λ list. cond (is_opened shard past y) [] list) (sym s.ballots)))
      (opened_now y) (sym s.outcome) (applied_now y)

  records : (y : TxnId) → record_at new.records y ≡ record_for shard (step ∷ past) y
  records y =
      q.records y
      ∙ at_by layout old messages stands m q.begins q.from sent (λ o. option_map (executed changes y) o ≡ record_for shard (step ∷ past) y) y here there
    where
      here : x ≡ y → option_map (executed changes y) (Some (brought q.begins m)) ≡ record_for shard (step ∷ past) y
      here e =
          subst (λ z. option_map (executed changes z) (Some (brought q.begins m)) ≡ record_for shard (step ∷ past) z) e
          (ap Some (ap (executed changes x) own ∙ next_here) ∙ sym (ap (option_map (record_with shard (step ∷ past) x)) b.known))

      there : concerns y m ≡ false → option_map (executed changes y) (record_at old.records y) ≡ record_for shard (step ∷ past) y
      there apart =
          ap (option_map (executed changes y)) (stands.records y)
          ∙ map_twice (executed changes y) (record_with shard past y) (record_with shard (step ∷ past) y) (body_known past y) (λ body. next_elsewhere y body (elsewhere y apart))
          ∙ sym (ap (option_map (record_with shard (step ∷ past) y)) (elsewhere y apart).known)

  -- ---- the index

  told_same : stamps_told (brought (record_with shard past x b.body) m) m ≡ stamps_told (record_with shard (step ∷ past) x b.body) m
  told_same = ap (λ v. x.0 ∷ times_in x m ++ stamps_in (stamp_of_vote v)) (sym vote_stays)

  notes : NotesTold layout shard m (record_at old.records x) (record_with shard (step ∷ past) x b.body) old.index new.index
  notes =
      let n = subst (λ r. NotesTold layout shard m (record_at old.records x) r old.index new.index) own q.notes in
      record {
        kept = n.kept;
        only = λ k c. ⊎_elim (λ was. inl was) (λ t. inr (t.0, subst (λ list. Contains list t.0) told_same t.1, t.2)) (n.only k c);
        told = λ s c. n.told s (subst (λ list. Contains list s) (sym told_same) c);
      }

  index : AreStamps layout shard (step ∷ past) new.index
  index = index_next layout old.actor shard messages step (record_at old.records x) q.begins old.index new.index b elsewhere notes stands.index

  -- ---- the whole

  greatest : new.greatest ≡ greatest_h old.actor (step ∷ past)
  greatest =
      q.greatest
      ∙ ap (max (top_of m)) stands.greatest
      ∙ undrawn_top (top_of m) (greatest_drawn old.actor.0 sent) (greatest_h old.actor past) (reads_drawn old.actor.0 sent reads)

  abbrev StandsAt : Actor → Type 0
  StandsAt actor =
      ((y : TxnId) → record_at new.records y ≡ record_for (shard_of actor) (step ∷ past) y)
      × AreStamps layout (shard_of actor) (step ∷ past) new.index
      × ((key : Key) → cell_at new.cells key ≡ cells_at layout (shard_of actor) (step ∷ past) key)
      × (new.greatest ≡ greatest_h actor (step ∷ past))
      × AreWaits (shard_of actor) (record_at new.records) new.waits

  pub opening_stands : ((key : Key) → cell_at new.cells key ≡ cells_at layout shard (step ∷ past) key) → StandsFor layout new (step ∷ past)
  opening_stands cells =
      let here : StandsAt old.actor = (records, index, cells, greatest, q.waits) in
      let all = subst StandsAt (sym q.actor) here in
      record { records = all.0; index = all.1; cells = all.2; greatest = all.3; waits = all.4 }
