-- A store that took a Stable about a transaction, and has opened it, has answered the Stable.
use Rattle.std.proofs.Common.{◌≡◌, true, false, not, ◌&&◌, cond, List, [], ◌∷◌, Option, map, refl, sym, ◌∙◌, ap, subst, ◌⊎◌, inl, inr, ⊎_elim}
use Rattle.std.proofs.lemmas.Bool.{true≢false, and_parts, and_from, or_left, or_right, cond_both, cases_Bool}
use Rattle.acc_stamp.specs.declared.stamps.Stamp.{Stamp}
use Rattle.acc_stamp.specs.declared.stamps.TxnId.{TxnId}
use Rattle.acc_stamp.specs.declared.stamps.Ballot.{Ballot}
use Rattle.acc_stamp.specs.declared.actors.Actor.{Actor}
use Rattle.acc_stamp.specs.Actor.{shard_of, home_of}
use Rattle.acc_stamp.specs.Stamp.{id_eq, ballot_eq, ballot_lt}
use Rattle.acc_stamp.specs.Rising.{id_among, ballot_among, rising_with}
use Rattle.acc_stamp.proofs.Order.{id_order, ballot_order, eq_itself}
use Rattle.acc_stamp.proofs.Rising.{is_among-with}
use Rattle.acc_topology.specs.Layout.{Layout}
use Rattle.acc_deps.specs.declared.shards.ShardDeps.{ShardDeps}
use Rattle.acc_value.specs.declared.key.Key.{Key}
use Rattle.acc_value.specs.declared.value.Value.{Value}
use Rattle.acc_txn.specs.declared.parts.BodyParts.{BodyParts}
use Rattle.acc_message.specs.declared.answer.ReadAnswer.{ReadAnswer}
use Rattle.acc_message.specs.declared.message.Message.{Message}
use Rattle.acc_message.specs.declared.message.Message.TheVariants.{Stable, ReadOk, Apply}
use Rattle.acc_message.specs.Taken.{Taken, taking, known, heard_body}
use Rattle.acc_message.specs.BallotRules.{kept_outcome}
use Rattle.acc_message.specs.Opening.{Change, changes_of, is_opened, may_open, cells_at, written_by}
use Rattle.acc_message.specs.StoreRules.{read_ok, read_by, kept_or, stable_ballots_in, stable_ballots, opening_of, release, released, at_once, store_answer}
use Rattle.acc_safety.specs.Places.{IsIn, First, Later, StandsAt, Here, Back}
use Rattle.acc_safety.specs.Histories.{EachAnswers}
use Rattle.acc_safety.proofs.PlaceOrder.{passing, none_is_in, map-IsIn, IsIn-append_left, IsIn-append_right}
use Rattle.acc_actor_laws.proofs.OpeningOrder.{opens_in_order}
use Rattle.acc_actor_laws.proofs.QuietFacts.{nothing_changes}
use Rattle.acc_actor_laws.proofs.TakenAlone.{taken_alone}
use Rattle.acc_calm.proofs.Courses.{first_same, rest_same}
use Rattle.acc_calm.proofs.Delivered.{TookStep}

-- the message was taken in the newest step, or before
pub step_cases : (m : Message) (step : Taken) (past : List Taken) → TookStep m (step ∷ past) → (step.message ≡ m) ⊎ TookStep m past
step_cases m step past t = by t.step t.past (step ∷ past) t.at t.message_is refl
  where
    by : (s : Taken) (p history : List Taken) → StandsAt s p history → s.message ≡ m → history ≡ step ∷ past → (step.message ≡ m) ⊎ TookStep m past
    by s p history (Here e rest) message_is is = inl (subst (λ (k : Taken). k.message ≡ m) (first_same is) message_is)
    by s p history (Back e f rest others there) message_is is =
        inr (record { step = e; past = rest; at = subst (λ k. StandsAt e rest k) (rest_same is) there; message_is = message_is })

-- ---- ballots that wait

ballot_in : (b : Ballot) (bs : List Ballot) → ballot_among b bs ≡ true → IsIn b bs
ballot_in b bs h = let p = passing (λ c. ballot_eq c b) bs h in subst (λ c. IsIn c bs) ((ballot_order.decides p.element b).0 p.passes) p.there

stays_among : (x : TxnId) (b : Ballot) (m : Message) (bs : List Ballot) → ballot_among b bs ≡ true → ballot_among b (stable_ballots_in x m bs) ≡ true
stays_among x b (Stable from to id ballot body t deps) bs h =
    cond_both (id_eq id x) (rising_with ballot_lt ballot bs) bs (λ list. ballot_among b list ≡ true)
    (λ _. is_among-with ballot_order b ballot bs ∙ or_right (ballot_eq ballot b) (ballot_among b bs) h) (λ _. h)
stays_among x b m bs h = h

now_among : (x : TxnId) (from to : Actor) (b : Ballot) (body : BodyParts) (t : Stamp) (deps : List ShardDeps) (bs : List Ballot)
    → ballot_among b (stable_ballots_in x (Stable from to x b body t deps) bs) ≡ true
now_among x from to b body t deps bs =
    ap (λ c. ballot_among b (cond c (rising_with ballot_lt b bs) bs)) (eq_itself id_order x)
    ∙ is_among-with ballot_order b b bs ∙ or_left (ballot_eq b b) (ballot_among b bs) (eq_itself ballot_order b)

module _ (layout : Layout) (own : Actor) (x : TxnId) (b : Ballot) (from to : Actor) (body : BodyParts) (t : Stamp) (deps : List ShardDeps) where
  abbrev request : Message
  request = Stable from to x b body t deps

  pub waits_there : (history : List Taken) → TookStep request history → ballot_among b (stable_ballots history x) ≡ true
  waits_there [] k = elim k.at [ ]
  waits_there (step ∷ past) k =
      ⊎_elim
      (λ now. subst (λ m. ballot_among b (stable_ballots_in x m (stable_ballots past x)) ≡ true) (sym now) (now_among x from to b body t deps (stable_ballots past x)))
      (λ old. stays_among x b step.message (stable_ballots past x) (waits_there past old))
      (step_cases request step past k)

  -- ---- the answer

  pub record Replied (history : List Taken) : Type 0 where
    pub step : Taken
    pub past : List Taken
    pub at : StandsAt step past history
    pub answer : ReadAnswer
    pub sent : IsIn (ReadOk own (home_of x b) x b answer) step.sent

  replied_back : (step : Taken) (past : List Taken) → Replied past → Replied (step ∷ past)
  replied_back step past r = record { step = r.step; past = r.past; at = Back r.step step r.past past r.at; answer = r.answer; sent = r.sent }

  release_has : (now : List Taken) (c : Change) (changes : List Change) (cells : Key → Option Value) → IsIn c changes → c.opens ≡ true → c.id ≡ x
      → IsIn b (stable_ballots now x) → (answer : ReadAnswer) × IsIn (ReadOk own (home_of x b) x b answer) (release layout own now changes cells)
  release_has now c changes cells (First e rest) opens same waits =
      let answer : ReadAnswer = read_by layout (shard_of own) (heard_body e.id (known now)) cells in (
        answer,
        IsIn-append_left (ReadOk own (home_of x b) x b answer) (opening_of layout own now e cells)
            (release layout own now rest (written_by layout (shard_of own) now e cells))
            (subst (λ o. IsIn (ReadOk own (home_of x b) x b answer)
            (cond o (map (λ k. read_ok own e.id k (read_by layout (shard_of own) (heard_body e.id (known now)) cells)) (stable_ballots now e.id)) [])) (sym opens)
            (subst (λ y. IsIn (ReadOk own (home_of y b) y b answer)
            (map (λ k. read_ok own e.id k (read_by layout (shard_of own) (heard_body e.id (known now)) cells)) (stable_ballots now e.id))) same
            (map-IsIn (λ k. read_ok own e.id k (read_by layout (shard_of own) (heard_body e.id (known now)) cells)) b (stable_ballots now e.id)
            (subst (λ y. IsIn b (stable_ballots now y)) (sym same) waits)))),
      )
  release_has now c changes cells (Later e f rest there) opens same waits =
      let r = release_has now e rest (written_by layout (shard_of own) now f cells) there opens same waits in (
        r.0,
        IsIn-append_right (ReadOk own (home_of x b) x b r.0) (opening_of layout own now f cells)
            (release layout own now rest (written_by layout (shard_of own) now f cells)) r.1,
      )

  released_sent : (past : List Taken) (m s : Message) → may_open m ≡ true → IsIn s (released layout own past m) → IsIn s (store_answer layout own past m)
  released_sent past (Stable f g id ballot sent time more) s h there =
      IsIn-append_right s (at_once layout own past id ballot) (released layout own past (Stable f g id ballot sent time more)) there
  released_sent past (Apply f g id ballot sent time more outcome) s h there = there
  released_sent past m s h there = absurd (true≢false (sym h))

  -- at once, where it was opened before
  pub sent_at_once : (past : List Taken) → is_opened (shard_of own) past x ≡ true
      → (answer : ReadAnswer) × IsIn (ReadOk own (home_of x b) x b answer) (store_answer layout own past request)
  sent_at_once past opened =
      let answer : ReadAnswer = kept_or (kept_outcome past x) (read_by layout (shard_of own) (heard_body x (known past)) (cells_at layout (shard_of own) past)) in (
        answer,
        IsIn-append_left (ReadOk own (home_of x b) x b answer) (at_once layout own past x b) (released layout own past request)
            (subst (λ o. IsIn (ReadOk own (home_of x b) x b answer) (cond o (read_ok own x b answer ∷ []) [])) (sym opened)
            (First (ReadOk own (home_of x b) x b answer) [])),
      )

  -- in the step that opens it
  pub sent_on_opening : (past : List Taken) (m : Message) → TookStep request (taking m past) → is_opened (shard_of own) (taking m past) x ≡ true → is_opened (shard_of own) past x ≡ false
      → (answer : ReadAnswer) × IsIn (ReadOk own (home_of x b) x b answer) (store_answer layout own past m)
  sent_on_opening past m took opened closed =
      let bare : Taken = record { message = m; sent = [] } in
      let changes : List Change = changes_of (shard_of own) bare past in
      let p = passing (λ (c : Change). id_eq c.id x && c.opens) changes
      ((opens_in_order (shard_of own) bare past).opened x
      ∙ and_from (is_opened (shard_of own) (taking m past) x) (not (is_opened (shard_of own) past x)) opened (ap not closed)) in
      let parts = and_parts (id_eq p.element.id x) p.element.opens p.passes in
      let r = release_has (taking m past) p.element changes (cells_at layout (shard_of own) past) p.there parts.1 ((id_order.decides p.element.id x).0 parts.0)
      (ballot_in b (stable_ballots (taking m past) x) (waits_there (taking m past) took)) in
      ⊎_elim
      (λ may. (r.0, released_sent past m (ReadOk own (home_of x b) x b r.0) may r.1))
      (λ quiet. absurd (none_is_in p.element (subst (λ list. IsIn p.element list) (nothing_changes (shard_of own) bare past quiet) p.there)))
      (cases_Bool (may_open m))

  replied_here : (step : Taken) (past : List Taken) → step.sent ≡ store_answer layout own past step.message
      → (answer : ReadAnswer) × IsIn (ReadOk own (home_of x b) x b answer) (store_answer layout own past step.message) → Replied (step ∷ past)
  replied_here step past sent_is s =
      record {
        step = step;
        past = past;
        at = Here step past;
        answer = s.0;
        sent = subst (IsIn (ReadOk own (home_of x b) x b s.0)) (sym sent_is) s.1;
      }

  pub bare_took : (step : Taken) (past : List Taken) → TookStep request (step ∷ past) → TookStep request (taking step.message past)
  bare_took step past k =
      ⊎_elim
      (λ now. record { step = record { message = step.message; sent = [] }; past = past; at = Here (record { message = step.message; sent = [] }) past; message_is = now })
      (λ old. record { step = old.step; past = old.past; at = Back old.step (record { message = step.message; sent = [] }) old.past past old.at; message_is = old.message_is })
      (step_cases request step past k)

  pub replied : (history : List Taken) → EachAnswers layout own history → TookStep request history → is_opened (shard_of own) history x ≡ true → Replied history
  replied [] each took opened = absurd (true≢false (sym opened))
  replied (step ∷ past) each took opened =
      ⊎_elim
      (λ before.
      ⊎_elim
      (λ now. replied_here step past each.0
      (subst (λ m. (answer : ReadAnswer) × IsIn (ReadOk own (home_of x b) x b answer) (store_answer layout own past m)) (sym now) (sent_at_once past before)))
      (λ old. replied_back step past (replied past each.1 old before))
      (step_cases request step past took))
      (λ closed.
      replied_here step past each.0
      (sent_on_opening past step.message (bare_took step past took)
      (ap (id_among x) (sym ((taken_alone (step ∷ past) (taking step.message past) refl).opened_is (shard_of own))) ∙ opened) closed))
      (cases_Bool (is_opened (shard_of own) past x))
