-- Items in which each begun transaction has had its turn are healed: the induction over the turns.
use Rattle.std.proofs.Common.{◌≡◌, ℕ, ◌<◌, ◌≤◌, Bool, true, false, not, ◌||◌, List, [], ◌∷◌, ◌++◌, is_some, refl, sym, ◌∙◌, ap, subst, arith, ◌⊎◌, inl, inr, ⊎_elim}
use Rattle.std.specs.List.{list_any, flat_map}
use Rattle.std.proofs.lemmas.Bool.{true≢false, and_parts, and_from, or_cases, or_left, or_right}
use Rattle.std.proofs.lemmas.List.{append_assoc, append_cancel_right}
use Rattle.std.proofs.lemmas.List.Folds.{list_any-append}
use Rattle.acc_stamp.specs.declared.stamps.TxnId.{TxnId}
use Rattle.acc_stamp.specs.declared.stamps.Ballot.{Ballot}
use Rattle.acc_stamp.specs.declared.actors.Actor.{Actor}
use Rattle.acc_stamp.specs.Stamp.{id_eq, id_lt}
use Rattle.acc_stamp.specs.Rising.{IsRisingBy, id_among}
use Rattle.acc_stamp.proofs.Order.{id_order, eq_itself}
use Rattle.acc_stamp.proofs.Rising.{is_among-below, is_among-union, IsRisingBy-union, each_weaker}
use Rattle.acc_txn.specs.declared.parts.BodyParts.{BodyParts}
use Rattle.acc_message.specs.declared.item.Item.{Item}
use Rattle.acc_message.specs.declared.item.Item.TheVariants.{Step, Skipped, Down}
use Rattle.acc_message.specs.declared.note.Note.{Note}
use Rattle.acc_message.specs.declared.note.Note.TheVariants.{Begin as BeginNote, Recover as RecoverNote, Blocked, Ended, Decide, Outcome as OutcomeNote, Reply as ReplyNote}
use Rattle.acc_message.specs.Items.{begins, notes_of, same_actor}
use Rattle.acc_message.specs.Shares.{stores_used}
use Rattle.acc_message.specs.BallotRules.{stable_of}
use Rattle.acc_message.specs.Coordinator.{home_node}
use Rattle.acc_message.specs.Run.{Cluster, taken_of, is_restart_event}
use Rattle.acc_actor_laws.proofs.OpeningFacts.{some_is}
use Rattle.acc_safety.specs.Places.{IsIn, IsPast, Whole}
use Rattle.acc_safety.specs.Histories.{Sending}
use Rattle.acc_safety.specs.Polls.{IsBody}
use Rattle.acc_safety.specs.Valid.{IsStanding}
use Rattle.acc_safety.proofs.PlaceOrder.{IsPast-trans, Contains-IsIn, passing, any_from}
use Rattle.acc_safety.proofs.Bridge.{same_itself, EachStands-past, taken_of-past}
use Rattle.acc_safety_laws.proofs.Within.{begun_has_store}
use Rattle.acc_calm.proofs.ZeroBallots.{step_sending}
use Rattle.acc_delivered.specs.Stretches.{TakesAll}
use Rattle.acc_delivered.specs.Rounds.{IsRound}
use Rattle.acc_delivered.specs.Ends.{starts, disturbs, IsAttempt, is_ended, is_blocked, was_decided, had_outcome, IsDecidedAt, IsFinished, KeepsClient, is_replied}
use Rattle.acc_delivered.specs.Laws.{AttemptsEnd, OpenedAttemptsFinish, OpenedAttemptsReply, RoundsStartOne, RoundsLeaveOthersAlone, SecondsAreNotEnded, AppliesAreTold}
use Rattle.acc_delivered.proofs.Deliveries.{append_is_past}
use Rattle.acc_delivered.proofs.OthersAlone.{notes_append, none_both}
use Rattle.acc_heal_laws.specs.Healed.{IsHealed, was_begun}
use Rattle.acc_heal_laws.specs.Stages.{id_begun_by, begun_ids}
use Rattle.acc_heal_laws.specs.Turned.{EachTookApply, Turned, NoneLeft, PassedOver, Once, Twice}
use Rattle.acc_heal_laws.specs.Laws.{WasStable, IsStableEverywhere, IsOpenedEverywhere, OfEachBegun, RoundsAreNotBlocked, StableIsApplied, TurnedIsHealed, recovers_it, is_recover_of}
use Rattle.acc_heal_laws.proofs.StableApplied.{some_of, opened_everywhere}
use Rattle.acc_heal_laws.proofs.NoWaits.{stable_still}
use Rattle.acc_heal_laws.proofs.TurnFacts.{body_still, begun_has_body, outcome_still, took_apply_step, apply_is_stable, stable_is_stable, takes_both}

-- a recover of y disturbs an attempt at y
recover_starts : (y : TxnId) (note : Note) → recovers_it y note ≡ true → starts y note ≡ true
recover_starts y (RecoverNote id ballot) h = h
recover_starts y (BeginNote id) h = absurd (true≢false (sym h))
recover_starts y (Blocked id ballot by) h = absurd (true≢false (sym h))
recover_starts y (Ended id ballot by) h = absurd (true≢false (sym h))
recover_starts y (Decide id t path deps) h = absurd (true≢false (sym h))
recover_starts y (OutcomeNote id reply) h = absurd (true≢false (sym h))
recover_starts y (ReplyNote id reply) h = absurd (true≢false (sym h))

recover_disturbs : (y : TxnId) (item : Item) (items : List Item) → IsIn item items → is_recover_of y item ≡ true → ((c : Actor) → list_any (disturbs c y) items ≡ false) → ⊥
recover_disturbs y (Skipped step cause) items there h none = true≢false (sym h)
recover_disturbs y (Down actor) items there h none = true≢false (sym h)
recover_disturbs y (Step e) items there h none =
    let p = passing (recovers_it y) e.emitted.notes (and_parts (not e.lost) (list_any (recovers_it y) e.emitted.notes) h).1 in
    true≢false
    (sym (any_from (disturbs e.actor y) (Step e) items there
    (and_from (same_actor e.actor e.actor) _ (same_itself e.actor)
    (or_right (is_restart_event e.event) (list_any (starts y) e.emitted.notes)
    (any_from (starts y) p.element e.emitted.notes p.there (recover_starts y p.element p.passes)))))
    ∙ none e.actor)

module _ (cluster : Cluster) (items : List Item) (standing : IsStanding cluster items) where
  stands_past : (base : List Item) → IsPast base items → IsStanding cluster base
  stands_past base within = record { valid = standing.valid; stands = EachStands-past cluster base items within standing.stands }

  -- after the base, where these turns are left, the later items take what they send, disturb the attempts of these transactions alone, and
  -- end and block none of others; and they begin nothing
  record Tail (ids : List TxnId) (base : List Item) : Type 0 where
    pub later : List Item
    pub items_are : items ≡ later ++ base
    pub all : TakesAll base later
    pub quiet : (y : TxnId) → id_among y ids ≡ false → list_any (disturbs (home_node y) y) later ≡ false
    pub unended : (y : TxnId) (c : Ballot) → id_among y ids ≡ false → is_ended y c base ≡ false → is_ended y c items ≡ false
    pub unblocked : (y : TxnId) (c : Ballot) → id_among y ids ≡ false → is_blocked y c base ≡ false → is_blocked y c items ≡ false
    pub begun : (y : TxnId) → was_begun y items ≡ true → was_begun y base ≡ true

  -- an attempt at y that stands in the items, and was neither ended nor blocked
  record AttemptIn (y : TxnId) : Type 0 where
    pub ballot : Ballot
    pub base : List Item
    pub later : List Item
    pub items_are : items ≡ later ++ base
    pub attempt : IsAttempt (home_node y) y ballot later
    pub all : TakesAll base later
    pub unended : is_ended y ballot items ≡ false
    pub unblocked : is_blocked y ballot items ≡ false

  record TurnedOut (y : TxnId) : Type 0 where
    pub stable : IsStableEverywhere cluster items y
    pub outcome : EachTookApply cluster items y ⊎ AttemptIn y

  record Walked (ids : List TxnId) (base : List Item) : Type 0 where
    pub tail : Tail ids base
    pub outcomes : (y : TxnId) → id_among y ids ≡ true → TurnedOut y
    pub attempts : (y : TxnId) → list_any (is_recover_of y) tail.later ≡ true → AttemptIn y

  none_left : Tail [] items
  none_left =
      record {
        later = [];
        items_are = refl;
        all = λ number from within. absurd (short from within);
        quiet = λ y none. refl;
        unended = λ y c none h. h;
        unblocked = λ y c none h. h;
        begun = λ y h. h;
      }
    where
      short : {n k : ℕ} → k ≤ n → n < k → ⊥
      short f g = omega (arith, f, g)

  -- ---- what stays

  body_in_base : (base : List Item) → IsPast base items → (y : TxnId) → was_begun y base ≡ true → (body : BodyParts) → IsBody cluster items y body → IsBody cluster base y body
  body_in_base base within y begun body is =
      let k = begun_has_body cluster base y (EachStands-past cluster base items within standing.stands) begun in
      subst (IsBody cluster base y) (some_is k.0 body (sym (body_still cluster base items y k.0 within k.1) ∙ is)) k.1

  stable_later : (base items_now : List Item) → IsPast base items_now → IsPast items_now items → (y : TxnId) → was_begun y base ≡ true → IsStableEverywhere cluster base y
      → WasStable cluster base items_now y
  stable_later base items_now within now_within y begun stable body store is there =
      let k = begun_has_body cluster base y (EachStands-past cluster base items (IsPast-trans base items_now items within now_within) standing.stands) begun in
      stable k.0 store k.1 (subst (λ p. IsIn store (stores_used cluster.layout p)) (some_is body k.0 (sym is ∙ body_still cluster base items_now y k.0 within k.1)) there)

  stable_on : (base items_now : List Item) → IsPast base items_now → (y : TxnId) → WasStable cluster base items_now y → IsStableEverywhere cluster items_now y
  stable_on base items_now within y was body store is there =
      let k = some_of (stable_of (taken_of cluster store base) y) (was body store is there) in
      ap is_some (stable_still (taken_of cluster store base) (taken_of cluster store items_now) y k.0 (taken_of-past cluster store base items_now within) k.1)

  applies_on : (base : List Item) → IsPast base items → (y : TxnId) → was_begun y base ≡ true → EachTookApply cluster base y → EachTookApply cluster items y
  applies_on base within y begun took body store is there =
      outcome_still (taken_of cluster store base) (taken_of cluster store items) y (taken_of-past cluster store base items within)
      (took body store (body_in_base base within y begun body is) there)

  applied_stable : (items_now : List Item) (y : TxnId) → EachTookApply cluster items_now y → IsStableEverywhere cluster items_now y
  applied_stable items_now y took body store is there = apply_is_stable (taken_of cluster store items_now) y (took body store is there)

  decided_stable : (items_now : List Item) (y : TxnId) (b : Ballot) → IsDecidedAt cluster items_now y b → IsStableEverywhere cluster items_now y
  decided_stable items_now y b d body store is there = stable_is_stable (taken_of cluster store items_now) y b (d.stable body store is there)

  turned_past : (ids : List TxnId) (base : List Item) → Turned cluster items ids base → IsPast base items
  turned_past ids base NoneLeft = Whole items
  turned_past ids base (PassedOver x rest old took more) = turned_past rest base more
  turned_past ids base (Once x rest b old first round unended more) = IsPast-trans base (first ++ base) items (append_is_past first base) (turned_past rest (first ++ base) more)
  turned_past ids base (Twice x rest b c old first second one ended two more) =
      IsPast-trans base (first ++ base) items (append_is_past first base)
      (IsPast-trans (first ++ base) (second ++ (first ++ base)) items (append_is_past second (first ++ base)) (turned_past rest (second ++ (first ++ base)) more))

  -- ---- a round in front of a tail

  not_among : (x y : TxnId) (ids : List TxnId) → id_among y (x ∷ ids) ≡ false → (id_eq x y ≡ false) × (id_among y ids ≡ false)
  not_among x y ids none = by (id_eq x y) refl none
    where
      by : (o : Bool) → id_eq x y ≡ o → (o || id_among y ids) ≡ false → (id_eq x y ≡ false) × (id_among y ids ≡ false)
      by true same h = absurd (true≢false h)
      by false other h = (other, h)

  begun_or : (y : TxnId) (later base : List Item) → was_begun y (later ++ base) ≡ true → list_any (begins y) (notes_of later) ≡ false → was_begun y base ≡ true
  begun_or y later base h none =
      ⊎_elim (λ old. old) (λ new. absurd (true≢false (sym new ∙ none)))
      (or_cases (was_begun y base) (list_any (begins y) (notes_of later))
      (sym (list_any-append (begins y) (notes_of base) (notes_of later)) ∙ sym (ap (list_any (begins y)) (notes_append later base)) ∙ h))

  begun_more : (y : TxnId) (later base : List Item) → was_begun y base ≡ true → was_begun y (later ++ base) ≡ true
  begun_more y later base h =
      ap (list_any (begins y)) (notes_append later base) ∙ list_any-append (begins y) (notes_of base) (notes_of later)
      ∙ or_left (was_begun y base) (list_any (begins y) (notes_of later)) h

  module _ (waits : RoundsAreNotBlocked cluster) (ends : AttemptsEnd cluster) (seconds : SecondsAreNotEnded cluster) (starts_one : RoundsStartOne cluster)
      (alone : RoundsLeaveOthersAlone cluster) where
    round_tail : (x : TxnId) (b : Ballot) (base first : List Item) (ids all_ids : List TxnId) → IsStanding cluster (first ++ base) → IsRound (home_node x) x b base first
        → Tail ids (first ++ base) → ((y : TxnId) → id_among y all_ids ≡ false → (id_eq x y ≡ false) × (id_among y ids ≡ false)) → Tail all_ids base
    round_tail x b base first ids all_ids stands round t apart =
        let k = starts_one (home_node x) x b base first stands round in
        record {
          later = t.later ++ first;
          items_are = t.items_are ∙ sym (append_assoc t.later first base);
          all = takes_both base first t.later round.all t.all;
          quiet = λ y none. none_both (disturbs (home_node y) y) t.later first (t.quiet y (apart y none).1) (k.disturbs_none (home_node y) y (apart y none).0);
          unended = λ y c none h. t.unended y c (apart y none).1 ((alone (home_node x) x b base first y c stands round (apart y none).0).0 h);
          unblocked = λ y c none h. t.unblocked y c (apart y none).1 ((alone (home_node x) x b base first y c stands round (apart y none).0).1 h);
          begun = λ y h. begun_or y first base (t.begun y h) (k.begins_none y);
        }

    attempt_in : (x : TxnId) (b : Ballot) (base first : List Item) (ids : List TxnId) → IsStanding cluster (first ++ base) → IsRound (home_node x) x b base first
        → Tail ids (first ++ base) → id_among x ids ≡ false → is_ended x b (first ++ base) ≡ false → is_blocked x b (first ++ base) ≡ false → AttemptIn x
    attempt_in x b base first ids stands round t none unended unblocked =
        let k = (starts_one (home_node x) x b base first stands round).attempt in
        record {
          ballot = b;
          base = base;
          later = t.later ++ first;
          items_are = t.items_are ∙ sym (append_assoc t.later first base);
          attempt = record {
            entry = k.entry;
            since = t.later ++ k.since;
            items_are = ap (λ l. t.later ++ l) k.items_are ∙ sym (append_assoc t.later k.since (Step k.entry ∷ []));
            recover = k.recover;
            alone = none_both (disturbs (home_node x) x) t.later k.since (t.quiet x none) k.alone;
          };
          all = takes_both base first t.later round.all t.all;
          unended = t.unended x b none unended;
          unblocked = t.unblocked x b none unblocked;
        }

    -- a round that isn't ended has decided
    has_decided : (x : TxnId) (b : Ballot) (base first : List Item) → IsStanding cluster (first ++ base) → IsRound (home_node x) x b base first
        → is_ended x b (first ++ base) ≡ false → is_blocked x b (first ++ base) ≡ false → IsDecidedAt cluster (first ++ base) x b
    has_decided x b base first stands round unended unblocked =
        ⊎_elim (λ ended. absurd (true≢false (sym ended ∙ unended)))
        (λ rest. ⊎_elim (λ blocked. absurd (true≢false (sym blocked ∙ unblocked))) (λ d. d) rest)
        (ends (home_node x) x b base first stands (starts_one (home_node x) x b base first stands round).attempt round.all)

    -- ---- the walk

    abbrev StableBefore : List TxnId → List Item → Type 0
    StableBefore ids base = (y : TxnId) → was_begun y base ≡ true → id_among y ids ≡ false → IsStableEverywhere cluster base y

    abbrev BegunBefore : List TxnId → List Item → Type 0
    BegunBefore ids base = (y : TxnId) → id_among y ids ≡ true → was_begun y base ≡ true

    -- an older one has had its turn
    had_turn : (x y : TxnId) (ids : List TxnId) → IsRisingBy id_lt (x ∷ ids) → id_lt y x ≡ true → id_among y (x ∷ ids) ≡ false
    had_turn x y ids rising older = is_among-below id_order y (x ∷ ids) (older, each_weaker (λ z. id_lt x z ≡ true) (λ z. id_lt y z ≡ true) ids (λ z above. id_order.trans y x z older above) rising.0)

    not_later : (x : TxnId) (ids : List TxnId) → IsRisingBy id_lt (x ∷ ids) → id_among x ids ≡ false
    not_later x ids rising = is_among-below id_order x ids rising.0

    -- the transaction itself, or one of the others
    stable_cases : (x : TxnId) (ids : List TxnId) (now : List Item) → IsStableEverywhere cluster now x → ((y : TxnId) → was_begun y now ≡ true → id_among y (x ∷ ids) ≡ false → IsStableEverywhere cluster now y)
        → StableBefore ids now
    stable_cases x ids now mine others y begun none = by (id_eq x y) refl
      where
        by : (o : Bool) → id_eq x y ≡ o → IsStableEverywhere cluster now y
        by true same = subst (IsStableEverywhere cluster now) ((id_order.decides x y).0 same) mine
        by false other = others y begun (ap (λ o. o || id_among y ids) other ∙ none)

    outcome_cases : (x : TxnId) (ids : List TxnId) → TurnedOut x → ((y : TxnId) → id_among y ids ≡ true → TurnedOut y) → (y : TxnId) → id_among y (x ∷ ids) ≡ true → TurnedOut y
    outcome_cases x ids mine others y h = ⊎_elim (λ same. subst TurnedOut ((id_order.decides x y).0 same) mine) (others y) (or_cases (id_eq x y) (id_among y ids) h)

    on_items : (now : List Item) → IsPast now items → (x : TxnId) → was_begun x now ≡ true → IsStableEverywhere cluster now x → IsStableEverywhere cluster items x
    on_items now within x begun stable = stable_on now items within x (stable_later now items within (Whole items) x begun stable)

    -- after a round each older transaction was stable before it
    not_blocked : (x : TxnId) (b : Ballot) (base first : List Item) (ids : List TxnId) → IsPast (first ++ base) items → IsRound (home_node x) x b base first
        → IsRisingBy id_lt (x ∷ ids) → StableBefore (x ∷ ids) base → is_blocked x b (first ++ base) ≡ false
    not_blocked x b base first ids within round rising stable =
        let stands = stands_past (first ++ base) within in
        waits (home_node x) x b base first stands round
        (λ y begun older.
        let before = begun_or y first base begun ((starts_one (home_node x) x b base first stands round).begins_none y) in
        stable_later base (first ++ base) (append_is_past first base) within y before (stable y before (had_turn x y ids rising older)))

    -- what was stable before a round is so after it
    stable_behind : (x : TxnId) (b : Ballot) (base first : List Item) (ids : List TxnId) → IsPast (first ++ base) items → IsRound (home_node x) x b base first
        → StableBefore ids base → StableBefore ids (first ++ base)
    stable_behind x b base first ids within round stable y begun none =
        let before = begun_or y first base begun ((starts_one (home_node x) x b base first (stands_past (first ++ base) within) round).begins_none y) in
        stable_on base (first ++ base) (append_is_past first base) y (stable_later base (first ++ base) (append_is_past first base) within y before (stable y before none))

    -- a recover after the base is one of the round, or one of the tail's
    recovered_in : (x : TxnId) (b : Ballot) (base first later : List Item) → IsStanding cluster (first ++ base) → IsRound (home_node x) x b base first → AttemptIn x
        → ((y : TxnId) → list_any (is_recover_of y) later ≡ true → AttemptIn y) → (y : TxnId) → list_any (is_recover_of y) (later ++ first) ≡ true → AttemptIn y
    recovered_in x b base first later stands round mine others y h =
        ⊎_elim (others y) (λ now. by (id_eq x y) refl now)
        (or_cases (list_any (is_recover_of y) later) (list_any (is_recover_of y) first) (sym (list_any-append (is_recover_of y) later first) ∙ h))
      where
        by : (o : Bool) → id_eq x y ≡ o → list_any (is_recover_of y) first ≡ true → AttemptIn y
        by true same now = subst AttemptIn ((id_order.decides x y).0 same) mine
        by false other now =
            let p = passing (is_recover_of y) first now in
            absurd (recover_disturbs y p.element first p.there p.passes (λ c. (starts_one (home_node x) x b base first stands round).disturbs_none c y other))

    walk : (ids : List TxnId) (base : List Item) → Turned cluster items ids base → IsRisingBy id_lt ids → BegunBefore ids base → StableBefore ids base → Walked ids base
    unfolding none_left round_tail
    walk ids base NoneLeft rising begun stable = record { tail = none_left; outcomes = λ y h. absurd (true≢false (sym h)); attempts = λ y h. absurd (true≢false (sym h)) }
    walk ids base (PassedOver x rest old took more) rising begun stable =
        let within = turned_past rest base more in
        let mine = applied_stable base x took in
        let w = walk rest base more rising.1 (λ y h. begun y (or_right (id_eq x y) (id_among y rest) h)) (stable_cases x rest base mine stable) in
        let x_begun = begun x (or_left (id_eq x x) (id_among x rest) (eq_itself id_order x)) in
        record {
          tail = record {
            later = w.tail.later;
            items_are = w.tail.items_are;
            all = w.tail.all;
            quiet = λ y none. w.tail.quiet y (not_among x y rest none).1;
            unended = λ y c none. w.tail.unended y c (not_among x y rest none).1;
            unblocked = λ y c none. w.tail.unblocked y c (not_among x y rest none).1;
            begun = w.tail.begun;
          };
          outcomes = outcome_cases x rest (record { stable = on_items base within x x_begun mine; outcome = inl (applies_on base within x x_begun took) }) w.outcomes;
          attempts = w.attempts;
        }
    walk ids base (Once x rest b old first round unended more) rising begun stable =
        let within = turned_past rest (first ++ base) more in
        let stands = stands_past (first ++ base) within in
        let unblocked = not_blocked x b base first rest within round rising stable in
        let mine = decided_stable (first ++ base) x b (has_decided x b base first stands round unended unblocked) in
        let x_begun = begun_more x first base (begun x (or_left (id_eq x x) (id_among x rest) (eq_itself id_order x))) in
        let w = walk rest (first ++ base) more rising.1 (λ y h. begun_more y first base (begun y (or_right (id_eq x y) (id_among y rest) h)))
        (stable_cases x rest (first ++ base) mine (stable_behind x b base first (x ∷ rest) within round stable)) in
        let attempt = attempt_in x b base first rest stands round w.tail (not_later x rest rising) unended unblocked in
        record {
          tail = round_tail x b base first rest (x ∷ rest) stands round w.tail (λ y none. not_among x y rest none);
          outcomes =
              outcome_cases x rest
              (record {
                stable = on_items (first ++ base) within x x_begun mine;
                outcome = inr attempt;
              }) w.outcomes;
          attempts = recovered_in x b base first w.tail.later stands round attempt w.attempts;
        }
    walk ids base (Twice x rest b c old first second one ended two more) rising begun stable =
        let within = turned_past rest (second ++ (first ++ base)) more in
        let middle_within = IsPast-trans (first ++ base) (second ++ (first ++ base)) items (append_is_past second (first ++ base)) within in
        let stands = stands_past (second ++ (first ++ base)) within in
        let stands_middle = stands_past (first ++ base) middle_within in
        let stable_middle = stable_behind x b base first (x ∷ rest) middle_within one stable in
        let unended = seconds (home_node x) x b c base first second stands one two in
        let unblocked = not_blocked x c (first ++ base) second rest within two rising stable_middle in
        let mine = decided_stable (second ++ (first ++ base)) x c (has_decided x c (first ++ base) second stands two unended unblocked) in
        let x_begun = begun_more x second (first ++ base) (begun_more x first base (begun x (or_left (id_eq x x) (id_among x rest) (eq_itself id_order x)))) in
        let w = walk rest (second ++ (first ++ base)) more rising.1
        (λ y h. begun_more y second (first ++ base) (begun_more y first base (begun y (or_right (id_eq x y) (id_among y rest) h))))
        (stable_cases x rest (second ++ (first ++ base)) mine (stable_behind x c (first ++ base) second (x ∷ rest) within two stable_middle)) in
        let between = round_tail x c (first ++ base) second rest (x ∷ rest) stands two w.tail (λ y none. not_among x y rest none) in
        let attempt = attempt_in x c (first ++ base) second rest stands two w.tail (not_later x rest rising) unended unblocked in
        record {
          tail = round_tail x b base first (x ∷ rest) (x ∷ rest) stands_middle one between (λ y none. ((not_among x y rest none).0, none));
          outcomes =
              outcome_cases x rest
              (record {
                stable = on_items (second ++ (first ++ base)) within x x_begun mine;
                outcome = inr attempt;
              }) w.outcomes;
          attempts =
              recovered_in x b base first between.later stands_middle one attempt
              (recovered_in x c (first ++ base) second w.tail.later stands two attempt w.attempts);
        }

-- ---- the begun transactions

begun_among : (x : TxnId) (notes : List Note) → id_among x (flat_map id_begun_by notes) ≡ list_any (begins x) notes
begun_among x [] = refl
begun_among x (BeginNote id ∷ notes) = ap (λ o. id_eq id x || o) (begun_among x notes)
begun_among x (RecoverNote id ballot ∷ notes) = begun_among x notes
begun_among x (Blocked id ballot by ∷ notes) = begun_among x notes
begun_among x (Ended id ballot by ∷ notes) = begun_among x notes
begun_among x (Decide id t path deps ∷ notes) = begun_among x notes
begun_among x (OutcomeNote id reply ∷ notes) = begun_among x notes
begun_among x (ReplyNote id reply ∷ notes) = begun_among x notes

pub among_begun : (x : TxnId) (items : List Item) → id_among x (begun_ids items) ≡ was_begun x items
among_begun x items = is_among-union id_order x [] (flat_map id_begun_by (notes_of items)) ∙ begun_among x (notes_of items)

module _ (cluster : Cluster) (waits : RoundsAreNotBlocked cluster) (applied : StableIsApplied cluster) (ends : AttemptsEnd cluster) (finish : OpenedAttemptsFinish cluster)
    (seconds : SecondsAreNotEnded cluster) (starts_one : RoundsStartOne cluster) (alone : RoundsLeaveOthersAlone cluster) (told : AppliesAreTold cluster) where
  module _ (items base : List Item) (standing : IsStanding cluster items) (turned : Turned cluster items (begun_ids base) base) where
    walked : Walked cluster items standing (begun_ids base) base
    walked =
        walk cluster items standing waits ends seconds starts_one alone (begun_ids base) base turned
        (IsRisingBy-union id_order [] (flat_map id_begun_by (notes_of base)) tt)
        (λ y h. sym (among_begun y base) ∙ h)
        (λ y begun none. absurd (true≢false (sym (among_begun y base ∙ begun) ∙ none)))

    outcome_of : (x : TxnId) → was_begun x items ≡ true → TurnedOut cluster items standing x
    outcome_of x begun = walked.outcomes x (among_begun x base ∙ walked.tail.begun x begun)

    -- an attempt that stands finishes, once all stores have opened its transaction
    finished : (x : TxnId) → AttemptIn cluster items standing x → IsOpenedEverywhere cluster items x → IsFinished cluster items x
    finished x k opened =
        subst (λ l. IsOpenedEverywhere cluster l x → IsFinished cluster l x) (sym k.items_are)
        (finish (home_node x) x k.ballot k.base k.later (subst (IsStanding cluster) k.items_are standing) k.attempt k.all
        (subst (λ l. is_ended x k.ballot l ≡ false) k.items_are k.unended) (subst (λ l. is_blocked x k.ballot l ≡ false) k.items_are k.unblocked))
        opened

    decided : (x : TxnId) → AttemptIn cluster items standing x → was_decided x items ≡ true
    decided x k =
        ⊎_elim (λ ended. absurd (true≢false (sym ended ∙ subst (λ l. is_ended x k.ballot l ≡ false) k.items_are k.unended)))
        (λ rest.
        ⊎_elim (λ blocked. absurd (true≢false (sym blocked ∙ subst (λ l. is_blocked x k.ballot l ≡ false) k.items_are k.unblocked)))
        (λ d. subst (λ l. was_decided x l ≡ true) (sym k.items_are) d.decided) rest)
        (ends (home_node x) x k.ballot k.base k.later (subst (IsStanding cluster) k.items_are standing) k.attempt k.all)

    takes_applies : OfEachBegun items (λ x. IsOpenedEverywhere cluster items x → EachTookApply cluster items x)
    takes_applies x begun opened = ⊎_elim (λ took. took) (λ k. (finished x k opened).applies) (outcome_of x begun).outcome

    stable : OfEachBegun items (IsStableEverywhere cluster items)
    stable x begun = (outcome_of x begun).stable

    opened : (x : TxnId) → IsOpenedEverywhere cluster items x
    opened x = opened_everywhere cluster items standing stable takes_applies x

    -- decided, and with an outcome
    was_told : (x : TxnId) (body : BodyParts) → IsBody cluster items x body → EachTookApply cluster items x → (was_decided x items ≡ true) × (had_outcome x items ≡ true)
    was_told x body is took =
        let store = begun_has_store cluster items x body standing.valid is in
        let k = took_apply_step (taken_of cluster store.0 items) x (took body store.0 is store.1) in
        told items x k.from k.to k.ballot k.body k.t k.deps k.outcome standing
        (subst (λ m. Sending items m) k.message_is (step_sending cluster items standing.stands store.0 k.step k.past k.at))

    is_told : (x : TxnId) (body : BodyParts) → IsBody cluster items x body → was_begun x items ≡ true → (was_decided x items ≡ true) × (had_outcome x items ≡ true)
    is_told x body is begun = ⊎_elim (was_told x body is) (λ k. (decided x k, (finished x k (opened x)).outcome)) (outcome_of x begun).outcome

    pub healed : IsHealed cluster items
    healed x begun =
        let k = begun_has_body cluster items x standing.stands begun in
        let t = is_told x k.0 k.1 begun in
        record {
          decided = t.0;
          outcome = t.1;
          body = k.0;
          body_is = k.1;
          applied = λ store there. applied items standing stable takes_applies x begun k.0 store k.1 (Contains-IsIn store (stores_used cluster.layout k.0) there);
        }

    -- what turns recover has its reply, where its client is kept
    pub replied : OpenedAttemptsReply cluster → (x : TxnId) (before first later : List Item) → base ≡ first ++ before → items ≡ later ++ before
        → list_any (is_recover_of x) first ≡ false → list_any (is_recover_of x) later ≡ true → KeepsClient x items → is_replied x items ≡ true
    replied reply x before first later base_is items_are none recovered client =
        let parts : later ≡ walked.tail.later ++ first =
        append_cancel_right later (walked.tail.later ++ first) before
        (sym items_are ∙ walked.tail.items_are ∙ ap (λ l. walked.tail.later ++ l) base_is ∙ sym (append_assoc walked.tail.later first before)) in
        let k = walked.attempts x
        (⊎_elim (λ turn. turn) (λ early. absurd (true≢false (sym early ∙ none)))
        (or_cases (list_any (is_recover_of x) walked.tail.later) (list_any (is_recover_of x) first)
        (sym (list_any-append (is_recover_of x) walked.tail.later first) ∙ sym (ap (list_any (is_recover_of x)) parts) ∙ recovered))) in
        subst (λ l. IsOpenedEverywhere cluster l x → KeepsClient x l → is_replied x l ≡ true) (sym k.items_are)
        (reply x k.ballot k.base k.later (subst (IsStanding cluster) k.items_are standing) k.attempt k.all
        (subst (λ l. is_ended x k.ballot l ≡ false) k.items_are k.unended) (subst (λ l. is_blocked x k.ballot l ≡ false) k.items_are k.unblocked))
        (opened x) client

  pub turned_is_healed : TurnedIsHealed cluster
  turned_is_healed items base standing turned = healed items base standing turned
