-- Drains in a healing in which nobody goes down: they deliver what is under way, and nothing that is through already.
use Rattle.std.proofs.Common.{◌≡◌, ℕ, zero, suc, ◌+◌, ◌<◌, ◌≤◌, Bool, true, false, not, ◌&&◌, ◌||◌, cond, List, [], ◌∷◌, ◌++◌, length, Option, None, Some, refl, sym, ◌∙◌, ap, subst, arith, ◌⊎◌, inl, inr, ⊎_elim}
use Rattle.std.specs.List.{list_any, list_all, slice_get}
use Rattle.std.specs.Prelude.{nat_lt, ◌==◌, Contains}
use Rattle.std.proofs.lemmas.Bool.{true≢false, and_parts, and_from, or_cases, eqb-true}
use Rattle.std.proofs.lemmas.List.{append_assoc, length-append}
use Rattle.std.proofs.lemmas.Option.{slice_get_within}
use Rattle.std.proofs.lemmas.List.Folds.{list_any-append}
use Rattle.acc_stamp.specs.declared.actors.Actor.{Actor}
use Rattle.acc_topology.specs.Sets.{is_among}
use Rattle.acc_message.specs.declared.message.Message.{Message}
use Rattle.acc_message.specs.declared.entry.Entry.{Entry}
use Rattle.acc_message.specs.declared.entry.Event.{Event}
use Rattle.acc_message.specs.declared.entry.Event.TheVariants.{Begin, Recover, Slow, Message as TakesMessage, Restart}
use Rattle.acc_message.specs.declared.item.Item.{Item}
use Rattle.acc_message.specs.declared.item.Item.TheVariants.{Step, Skipped, Down}
use Rattle.acc_message.specs.Fields.{to_of}
use Rattle.acc_message.specs.Items.{sent_in, sent_of, message_at, same_actor}
use Rattle.acc_message.specs.Run.{Cluster, act_of, is_down, EachStands, StandsOn}
use Rattle.acc_actor_laws.proofs.Standing.{not_none}
use Rattle.acc_run_laws.specs.Asks.{receiver}
use Rattle.acc_run_laws.specs.AskLaws.{is_no_down}
use Rattle.acc_safety.specs.Calm.{event_takes, item_takes}
use Rattle.acc_safety.specs.Places.{IsIn, First, Later, StandsAt, Here, Back, IsPast, Whole, Behind}
use Rattle.acc_safety.specs.Valid.{IsStanding}
use Rattle.acc_safety.proofs.PlaceOrder.{IsPast-trans}
use Rattle.acc_safety.proofs.Bridge.{EachStands-past}
use Rattle.acc_schedule.specs.Actors.{actors}
use Rattle.acc_schedule_runs.specs.Situations.{Situation, whole, is_lost, is_sent_lost, receiver_in, is_through, waits, NothingWaits}
use Rattle.acc_schedule_runs.specs.Moves.{Answers, fails_in, is_journalled, entry_of, entered, tried_if, tried, Drains, stops, delivers}
use Rattle.acc_schedule_runs.specs.Laws.{NobodyIsDown}
use Rattle.acc_pasts.proofs.Situations.{whole_alone}
use Rattle.acc_calm.proofs.Delivered.{all_in, mapped}
use Rattle.acc_delivered.specs.Stretches.{item_takes_from, TakesAll}
use Rattle.acc_delivered.specs.Rounds.{is_delivery}
use Rattle.acc_delivered.proofs.Asked.{past_length, place_length}
use Rattle.acc_delivered.proofs.Deliveries.{place_cases}
use Rattle.acc_heal_laws.proofs.Growing.{GoesTo, tried_goes, drained_goes}

-- ---- places

stands_by : {T : Type 0} (x : T) (past front all : List T) → IsPast front all → front ≡ x ∷ past → StandsAt x past all
stands_by x past front all (Whole ys) same = subst (StandsAt x past) (sym same) (Here x past)
stands_by x past front all (Behind y ys zs there) same = Back x y past zs (stands_by x past ys zs there same)

pub past_stands : {T : Type 0} (x : T) (past xs : List T) → IsPast (x ∷ past) xs → StandsAt x past xs
past_stands x past xs within = stands_by x past (x ∷ past) xs within refl

below : (n k : ℕ) → nat_lt n k ≡ true → n < k
below n k h = grind arith

lower : (n k : ℕ) → n < k → nat_lt n k ≡ true
lower n k h = grind arith

lacks_none : {T : Type 0} (xs : List T) (n : ℕ) → n < length xs → slice_get xs n ≡ None → ⊥
lacks_none [] n low is = omega (arith, low)
lacks_none (x ∷ xs) zero low is = not_none x (sym is)
lacks_none (x ∷ xs) (suc n) low is = lacks_none xs n (omega (arith, low)) is

pub all_append : {T : Type 0} (test : T → Bool) (xs ys : List T) → list_all test xs ≡ true → list_all test ys ≡ true → list_all test (xs ++ ys) ≡ true
all_append test [] ys f g = g
all_append test (x ∷ xs) ys f g =
    let k = and_parts (test x) (list_all test xs) f in and_from (test x) (list_all test (xs ++ ys)) k.0 (all_append test xs ys k.1 g)

-- ---- what is through

-- a message that no item could send isn't taken
none_taken : (cluster : Cluster) (items : List Item) (n : ℕ) → EachStands cluster items → length (sent_of items) ≤ n → list_any (item_takes n) items ≡ false
none_taken cluster [] n h least = refl
none_taken cluster (Step e ∷ earlier) n h least =
    both (event_takes n e.event) (list_any (item_takes n) earlier) (none_here e.event refl) (none_taken cluster earlier n h.1 early)
  where
    early : length (sent_of earlier) ≤ n
    early = omega (arith, least, length-append (sent_of earlier) e.emitted.out)

    both : (a b : Bool) → a ≡ false → b ≡ false → (a || b) ≡ false
    both true b f g = absurd (true≢false f)
    both false b f g = g

    none_here : (event : Event) → e.event ≡ event → event_takes n event ≡ false
    none_here (TakesMessage m) is = by (m == n) refl
      where
        by : (o : Bool) → (m == n) ≡ o → o ≡ false
        by false k = refl
        by true same =
            let on : StandsOn cluster earlier e = h.0 in
            let found = mapped (message_at earlier m) on.act (subst (λ event. act_of cluster earlier event ≡ Some on.act) is on.act_is) in
            let within = slice_get_within (sent_of earlier) m found.0 found.1.0 in
            absurd (late m n within early (eqb-true m n same))
          where
            late : (a b : ℕ) {k : ℕ} → a < k → k ≤ b → a ≡ b → ⊥
            late a b f g q = omega (arith, f, g, q)
    none_here (Begin txn) is = refl
    none_here (Recover txn) is = refl
    none_here (Slow txn) is = refl
    none_here (Restart kept) is = refl
none_taken cluster (Skipped step cause ∷ earlier) n h least = none_taken cluster earlier n h.1 (less (length-append (sent_of earlier) []))
  where
    less : length (sent_of earlier ++ []) ≡ length (sent_of earlier) + 0 → length (sent_of earlier) ≤ n
    less q = omega (arith, q, least)
none_taken cluster (Down actor ∷ earlier) n h least = none_taken cluster earlier n h.1 (less (length-append (sent_of earlier) []))
  where
    less : length (sent_of earlier ++ []) ≡ length (sent_of earlier) + 0 → length (sent_of earlier) ≤ n
    less q = omega (arith, q, least)

-- where none of the later items is lost, none of their messages is
none_lost : (later base : List Item) (n : ℕ) → ((item : Item) → IsIn item later → is_lost item ≡ false) → length (sent_of base) ≤ n → n < length (sent_of (later ++ base))
    → is_sent_lost (later ++ base) n ≡ false
none_lost [] base n kept least within = absurd (short least within)
  where
    short : {k j : ℕ} → k ≤ j → j < k → ⊥
    short f g = omega (arith, f, g)
none_lost (item ∷ later) base n kept least within =
    by (nat_lt n (length (sent_of (later ++ base)))) (λ early. none_lost later base n (λ k there. kept k (Later k item later there)) least early) refl
  where
    by : (o : Bool) → (n < length (sent_of (later ++ base)) → is_sent_lost (later ++ base) n ≡ false) → nat_lt n (length (sent_of (later ++ base))) ≡ o
        → cond o (is_sent_lost (later ++ base) n) (is_lost item) ≡ false
    by true rest early = rest (below n (length (sent_of (later ++ base))) early)
    by false rest late = kept item (First item later)

-- ---- a healing without downs

module _ (cluster : Cluster) (bound final later : List Item) (final_is : final ≡ later ++ bound) (nobody : NobodyIsDown later) (standing : IsStanding cluster final)
    (receivers : (items : List Item) (number : ℕ) (m : Message) → IsStanding cluster items → message_at items number ≡ Some m → Contains (actors cluster.layout) (to_of m)) where
  pub no_down : (own : List Item) (a : Actor) → IsPast bound own → IsPast (Down a ∷ own) final → ⊥
  no_down own a behind within =
      ⊎_elim (λ new. true≢false (sym (all_in is_no_down later (Down a) nobody new.0)))
      (λ old. short (place_length (Down a) own bound old) (past_length bound own behind))
      (place_cases (Down a) own later bound (subst (StandsAt (Down a) own) final_is (past_stands (Down a) own final within)))
    where
      short : {k j : ℕ} → k < j → j ≤ k → ⊥
      short f g = omega (arith, f, g)

  pub stands_at_past : (own : List Item) → IsPast own final → IsStanding cluster own
  stands_at_past own within = record { valid = standing.valid; stands = EachStands-past cluster own final within standing.stands }

  -- all actors are up, and only messages that were sent are dropped
  pub record IsSane (s : Situation) : Type 0 where
    pub earlier_is : s.earlier ≡ []
    pub up : (a : Actor) → Contains (actors cluster.layout) a → is_down a s.own ≡ false
    pub drops : (n : ℕ) → is_among s.dropped n ≡ true → n < length (sent_of s.own)

  -- so many messages are through
  abbrev pub Through : Situation → ℕ → Type 0
  Through s count = (n : ℕ) → n < count → is_through s n ≡ true

  stays_up : (item : Item) (own : List Item) → ((a : Actor) → Contains (actors cluster.layout) a → is_down a own ≡ false) → (e : Entry) → item ≡ Step e
      → (a : Actor) → Contains (actors cluster.layout) a → is_down a (item ∷ own) ≡ false
  stays_up item own up e is a there =
      ap (λ i. is_down a (i ∷ own)) is ∙ ap (λ o. o && (not (same_actor e.actor a) || e.lost)) (up a there)

  -- ---- one entry more

  module _ (s : Situation) (a : Actor) (event : Event) (sane : IsSane s) where
    abbrev next : Situation
    next = entered cluster s a event false

    pub entered_sane : IsSane next
    entered_sane =
        record {
          earlier_is = sane.earlier_is;
          up = stays_up (entry_of cluster s a event false) s.own sane.up _ refl;
          drops = λ n h. more n (sane.drops n h);
        }
      where
        more : (n : ℕ) → n < length (sent_of s.own) → n < length (sent_of next.own)
        more n h = omega (arith, h, length-append (sent_of s.own) (sent_in (entry_of cluster s a event false)))

    pub entered_through : (count : ℕ) → count ≤ length (sent_of s.own) → Through s count → Through next count
    entered_through count within through n low =
        by (item_takes n (entry_of cluster s a event false)) (list_any (item_takes n) s.own) (is_among s.dropped n) (is_sent_lost s.own n)
        (ap (λ o. cond o (is_sent_lost s.own n) false) (lower n (length (sent_of s.own)) (up low within))) (through n low)
      where
        up : {i j k : ℕ} → i < j → j ≤ k → i < k
        up f g = omega (arith, f, g)

        by : (p q r t : Bool) {u : Bool} → u ≡ t → (q || (r || t)) ≡ true → ((p || q) || (r || u)) ≡ true
        by true q r t same h = refl
        by false true r t same h = refl
        by false false true t same h = refl
        by false false false t same h = same ∙ h

  -- what a step tries it enters, since nobody goes down
  pub tried_enters : (answers : Answers) (s : Situation) (a : Actor) (event : Event) → IsPast bound s.own → IsPast (tried cluster answers s a event).own final
      → tried cluster answers s a event ≡ entered cluster s a event false
  tried_enters answers s a event behind within = by (is_journalled a event && fails_in answers s) within
    where
      by : (o : Bool) → IsPast (tried_if o cluster s a event).own final → tried_if o cluster s a event ≡ entered cluster s a event false
      by true h = absurd (no_down s.own a behind h)
      by false h = refl

  -- ---- a drain

  pub record Drained (count : ℕ) (s last : Situation) : Type 0 where
    pub deliveries : List Item
    pub own_is : last.own ≡ deliveries ++ s.own
    pub only : list_all is_delivery deliveries ≡ true
    pub takes : list_all (item_takes_from count) deliveries ≡ true
    pub sane : IsSane last
    pub dropped_is : last.dropped ≡ s.dropped
    pub none : NothingWaits last

  not_through : (s : Situation) (n count : ℕ) → waits s n ≡ true → Through s count → not (nat_lt n count) ≡ true
  not_through s n count waiting through = by (nat_lt n count) refl
    where
      by : (o : Bool) → nat_lt n count ≡ o → not o ≡ true
      by false k = refl
      by true low =
          let parts = and_parts (nat_lt n (length (sent_of s.own))) (not (is_through s n) && not (is_down (receiver_in s n) (whole s))) waiting in
          let more = and_parts (not (is_through s n)) (not (is_down (receiver_in s n) (whole s))) parts.1 in
          absurd (true≢false (sym more.0 ∙ ap not (through n (below n count low))))

  pub drained : (answers : Answers) (count : ℕ) (last s : Situation) → Drains cluster answers last s → IsSane s → Through s count → count ≤ length (sent_of s.own)
      → IsPast bound s.own → IsPast last.own final → Drained count s last
  drained answers count last s (stops t none is) sane through within behind inside =
      record {
        deliveries = [];
        own_is = ap (λ (k : Situation). k.own) is;
        only = refl;
        takes = refl;
        sane = subst IsSane (sym is) sane;
        dropped_is = ap (λ (k : Situation). k.dropped) is;
        none = subst NothingWaits (sym is) none;
      }
  drained answers count last s (delivers t message oldest rest) sane through within behind inside =
      more (tried_enters answers t (receiver_in t message) (TakesMessage message) behind next_inside)
      (drained answers count last (tried cluster answers t (receiver_in t message) (TakesMessage message)) rest)
    where
      next_goes : GoesTo t (tried cluster answers t (receiver_in t message) (TakesMessage message))
      next_goes = tried_goes cluster (is_journalled (receiver_in t message) (TakesMessage message) && fails_in answers t) t (receiver_in t message) (TakesMessage message)

      next_inside : IsPast (tried cluster answers t (receiver_in t message) (TakesMessage message)).own final
      next_inside = IsPast-trans (tried cluster answers t (receiver_in t message) (TakesMessage message)).own last.own final (drained_goes cluster answers last (tried cluster answers t (receiver_in t message) (TakesMessage message)) rest).grows inside

      more : tried cluster answers t (receiver_in t message) (TakesMessage message) ≡ entered cluster t (receiver_in t message) (TakesMessage message) false
          → (IsSane (tried cluster answers t (receiver_in t message) (TakesMessage message)) → Through (tried cluster answers t (receiver_in t message) (TakesMessage message)) count
          → count ≤ length (sent_of (tried cluster answers t (receiver_in t message) (TakesMessage message)).own)
          → IsPast bound (tried cluster answers t (receiver_in t message) (TakesMessage message)).own → IsPast last.own final
          → Drained count (tried cluster answers t (receiver_in t message) (TakesMessage message)) last) → Drained count t last
      more enters go =
          let d = go (subst IsSane (sym enters) (entered_sane t (receiver_in t message) (TakesMessage message) sane))
          (subst (λ k. Through k count) (sym enters) (entered_through t (receiver_in t message) (TakesMessage message) sane count within through))
          (up within (subst (λ (k : Situation). length (sent_of t.own) ≤ length (sent_of k.own)) (sym enters) grown))
          (IsPast-trans bound t.own (tried cluster answers t (receiver_in t message) (TakesMessage message)).own behind next_goes.grows) inside in
          record {
            deliveries = d.deliveries ++ entry_of cluster t (receiver_in t message) (TakesMessage message) false ∷ [];
            own_is =
                d.own_is ∙ ap (λ (k : Situation). d.deliveries ++ k.own) enters
                ∙ sym (append_assoc d.deliveries (entry_of cluster t (receiver_in t message) (TakesMessage message) false ∷ []) t.own);
            only = all_append is_delivery d.deliveries _ d.only refl;
            takes = all_append (item_takes_from count) d.deliveries _ d.takes (and_from _ true (not_through t message count oldest.0 through) refl);
            sane = d.sane;
            dropped_is = d.dropped_is ∙ ap (λ (k : Situation). k.dropped) enters;
            none = d.none;
          }
        where
          up : {i j k : ℕ} → i ≤ j → j ≤ k → i ≤ k
          up f g = omega (arith, f, g)

          grown : length (sent_of t.own) ≤ length (sent_of (entered cluster t (receiver_in t message) (TakesMessage message) false).own)
          grown = omega (arith, length-append (sent_of t.own) (sent_in (entry_of cluster t (receiver_in t message) (TakesMessage message) false)))

  -- where nothing waits all is through
  pub all_through : (s : Situation) → IsSane s → IsPast s.own final → NothingWaits s → Through s (length (sent_of s.own))
  all_through s sane inside none n low = by (slice_get (sent_of s.own) n) refl
    where
      by : (o : Option Message) → message_at s.own n ≡ o → is_through s n ≡ true
      by None missing = absurd (lacks_none (sent_of s.own) n low missing)
      by (Some m) is =
          let there = receivers s.own n m (stands_at_past s.own inside) is in
          let receiver_up : is_down (receiver_in s n) (whole s) ≡ false =
          ap (λ o. is_down (receiver o) (whole s)) is ∙ ap (is_down (to_of m)) (whole_alone s sane.earlier_is) ∙ sane.up (to_of m) there in
          through_by (is_through s n)
          (sym (ap (λ o. o && (not (is_through s n) && not (is_down (receiver_in s n) (whole s)))) (lower n (length (sent_of s.own)) low)
          ∙ ap (λ o. not (is_through s n) && not o) receiver_up) ∙ none n)
        where
          through_by : (o : Bool) → (not o && true) ≡ false → o ≡ true
          through_by true h = refl
          through_by false h = absurd (true≢false h)

  -- ---- what later items sent was taken by them

  pub all_taken : (s last : Situation) (items : List Item) → last.own ≡ items ++ s.own → ((item : Item) → IsIn item items → is_lost item ≡ false) → IsSane s
      → last.dropped ≡ s.dropped → IsPast s.own final → Through last (length (sent_of last.own)) → TakesAll s.own items
  all_taken s last items own_is kept sane dropped inside through number least within =
      by (or_cases (list_any (item_takes number) last.own) (is_among last.dropped number || is_sent_lost last.own number)
      (through number (subst (λ l. number < length (sent_of l)) (sym own_is) within)))
    where
      late : {i j : ℕ} → i < j → j ≤ i → ⊥
      late f g = omega (arith, f, g)

      by : (list_any (item_takes number) last.own ≡ true) ⊎ ((is_among last.dropped number || is_sent_lost last.own number) ≡ true) → list_any (item_takes number) items ≡ true
      by (inl taken) =
          ⊎_elim (λ new. new)
          (λ old. absurd (true≢false (sym old ∙ none_taken cluster s.own number (EachStands-past cluster s.own final inside standing.stands) least)))
          (or_cases (list_any (item_takes number) items) (list_any (item_takes number) s.own)
          (sym (list_any-append (item_takes number) items s.own) ∙ ap (list_any (item_takes number)) (sym own_is) ∙ taken))
      by (inr rest) =
          ⊎_elim (λ was_dropped. absurd (late (sane.drops number (subst (λ l. is_among l number ≡ true) dropped was_dropped)) least))
          (λ lost. absurd (true≢false (sym lost ∙ ap (λ l. is_sent_lost l number) own_is ∙ none_lost items s.own number kept least within)))
          (or_cases (is_among last.dropped number) (is_sent_lost last.own number) rest)
