-- What a step writes: of those that it applies, the last one that writes a key.
use Rattle.std.proofs.Common.{◌≡◌, ℕ, Bool, true, false, ◌&&◌, cond, List, [], ◌∷◌, Option, None, Some, is_some, map, refl, sym, ◌∙◌, ap, subst, ⊎_elim}
use Rattle.std.specs.Prelude.{unwrap_or}
use Rattle.std.specs.List.{AllByRecursion}
use Rattle.std.proofs.lemmas.Bool.{true≢false, or_left, or_right, or_cases, and_parts, and_from, cases_Bool}
use Rattle.acc_base.specs.Faults.{or_else}
use Rattle.acc_stamp.specs.declared.stamps.TxnId.{TxnId}
use Rattle.acc_stamp.specs.Stamp.{id_eq}
use Rattle.acc_stamp.specs.Rising.{IsRisingBy}
use Rattle.acc_stamp.proofs.Order.{id_order}
use Rattle.acc_topology.specs.Layout.{Layout}
use Rattle.acc_deps.specs.declared.records.Settled.{Settled}
use Rattle.acc_value.specs.declared.key.Key.{Key}
use Rattle.acc_value.specs.declared.value.Value.{Value}
use Rattle.acc_value.specs.Cells.{applied}
use Rattle.acc_message.specs.Taken.{Taken}
use Rattle.acc_message.specs.BallotRules.{stable_of, kept_outcome}
use Rattle.acc_message.specs.Opening.{Standing, standing_lt, Change, changes_of, writes_in, written_by, written_by_all, cells_at}
use Rattle.acc_actor_laws.specs.OpeningOrder.{applies_in, OpensInOrder}
use Rattle.acc_actor_laws.proofs.OpeningFacts.{some_is}
use Rattle.acc_actor_laws.proofs.OpeningOrder.{opens_in_order}
use Rattle.acc_world.specs.StepLaws.{is_newly_applied, write_of, WritesLast}

unwrap_twice : {T : Type 0} (one other : Option T) (d : T) → unwrap_or one (unwrap_or other d) ≡ unwrap_or (or_else one other) d
unwrap_twice None other d = refl
unwrap_twice (Some x) other d = refl

module _ (layout : Layout) (shard : ℕ) (history : List Taken) (key : Key) where
  -- what a change writes to the key, and what the last of several changes writes
  abbrev written_in : Change → Option (Option Value)
  written_in c = cond c.applies (write_of layout shard history c.id key) None

  abbrev last_in : List Change → Option (Option Value)
  last_in [] = None
  last_in (c ∷ changes) = or_else (last_in changes) (written_in c)

  one_written : (c : Change) (cells : Key → Option Value) → written_by layout shard history c cells key ≡ unwrap_or (written_in c) (cells key)
  one_written c cells = by c.applies
    where
      by : (b : Bool) → cond b (applied cells (writes_in layout shard (kept_outcome history c.id))) cells key
          ≡ unwrap_or (cond b (write_of layout shard history c.id key) None) (cells key)
      by true = refl
      by false = refl

  all_written : (changes : List Change) (cells : Key → Option Value) → written_by_all layout shard history changes cells key ≡ unwrap_or (last_in changes) (cells key)
  all_written [] cells = refl
  all_written (c ∷ changes) cells =
      all_written changes (written_by layout shard history c cells)
      ∙ ap (unwrap_or (last_in changes)) (one_written c cells)
      ∙ unwrap_twice (last_in changes) (written_in c) (cells key)

  -- ---- nothing writes it

  none_in : (c : Change) → (c.applies ≡ true → write_of layout shard history c.id key ≡ None) → written_in c ≡ None
  none_in c h = by c.applies refl
    where
      by : (b : Bool) → c.applies ≡ b → cond b (write_of layout shard history c.id key) None ≡ None
      by true is = h is
      by false is = refl

  none_written : (changes : List Change) → ((y : TxnId) → applies_in y changes ≡ true → write_of layout shard history y key ≡ None) → last_in changes ≡ None
  none_written [] h = refl
  none_written (c ∷ changes) h =
      ap (λ o. or_else o (written_in c)) (none_written changes (λ y there. h y (or_right (id_eq c.id y && c.applies) (applies_in y changes) there)))
      ∙ none_in c (λ is. h c.id (or_left (id_eq c.id c.id && c.applies) (applies_in c.id changes) (and_from (id_eq c.id c.id) c.applies ((id_order.decides c.id c.id).1 refl) is)))

  -- ---- the last one that writes it

  same_head : (x y : TxnId) (xs ys : List TxnId) → x ∷ xs ≡ y ∷ ys → x ≡ y
  same_head x y xs ys e = cc

  same_tail : (x y : TxnId) (xs ys : List TxnId) → x ∷ xs ≡ y ∷ ys → xs ≡ ys
  same_tail x y xs ys e = cc

  too_short : (x : TxnId) (xs : List TxnId) → [] ≡ x ∷ xs → ⊥
  too_short x xs e = cc

  abbrev ids_of : List Standing → List TxnId
  ids_of standings = map (λ (s : Standing). s.id) standings

  abbrev changed_ids : List Change → List TxnId
  changed_ids changes = map (λ (c : Change). c.id) changes

  -- a transaction with its record, among standings that pass a test
  record StandsWith (P : Standing → Type 0) (y : TxnId) : Type 0 where
    settled : Settled
    stable : stable_of history y ≡ Some settled
    passes : P (record { id = y; settled = settled })

  -- what is applied stands among them
  standing_of : (P : Standing → Type 0) (y : TxnId) (changes : List Change) (standings : List Standing) → ids_of standings ≡ changed_ids changes
      → AllByRecursion (λ (s : Standing). stable_of history s.id ≡ Some s.settled) standings → AllByRecursion P standings
      → applies_in y changes ≡ true → StandsWith P y
  standing_of P y [] standings same truly each there = absurd (true≢false (sym there))
  standing_of P y (c ∷ changes) [] same truly each there = absurd (too_short c.id (changed_ids changes) same)
  standing_of P y (c ∷ changes) (s ∷ standings) same truly each there =
      ⊎_elim
      (λ here.
      subst (StandsWith P)
      (same_head s.id c.id (ids_of standings) (changed_ids changes) same ∙ (id_order.decides c.id y).0 (and_parts (id_eq c.id y) c.applies here).0)
      (record { settled = s.settled; stable = truly.0; passes = each.0 }))
      (standing_of P y changes standings (same_tail s.id c.id (ids_of standings) (changed_ids changes) same) truly.1 each.1)
      (or_cases (id_eq c.id y && c.applies) (applies_in y changes) there)

  nothing_there : (o : Option (Option Value)) → (is_some o ≡ true → ⊥) → o ≡ None
  nothing_there None h = refl
  nothing_there (Some cell) h = absurd (h refl)

  module _ (x : TxnId) (settled : Settled) (cell : Option Value) (settled_is : stable_of history x ≡ Some settled)
      (writes : write_of layout shard history x key ≡ Some cell) where
    -- nothing that is applied and writes the key comes after x
    abbrev IsLastOf : List Change → Type 0
    IsLastOf changes =
        (y : TxnId) (theirs : Settled) → applies_in y changes ≡ true → stable_of history y ≡ Some theirs
        → is_some (write_of layout shard history y key) ≡ true
        → standing_lt (record { id = x; settled = settled }) (record { id = y; settled = theirs }) ≡ false

    -- x has its turn now, so nothing after it writes the key
    nothing_behind : (s : Standing) (changes : List Change) (standings : List Standing) → s.id ≡ x → stable_of history s.id ≡ Some s.settled
        → ids_of standings ≡ changed_ids changes → AllByRecursion (λ (r : Standing). stable_of history r.id ≡ Some r.settled) standings
        → AllByRecursion (λ (r : Standing). standing_lt s r ≡ true) standings → IsLastOf changes → last_in changes ≡ None
    nothing_behind s changes standings is stable same truly behind last =
        none_written changes
        (λ y there. nothing_there (write_of layout shard history y key)
        (λ some.
        let found = standing_of (λ (r : Standing). standing_lt s r ≡ true) y changes standings same truly behind there in
        true≢false
        (sym found.passes
        ∙ ap (λ (u : Settled). standing_lt (record { id = s.id; settled = u }) (record { id = y; settled = found.settled }))
        (some_is s.settled settled (sym stable ∙ ap (stable_of history) is ∙ settled_is))
        ∙ ap (λ z. standing_lt (record { id = z; settled = settled }) (record { id = y; settled = found.settled })) is
        ∙ last y found.settled there found.stable some)))

    written_here : (c : Change) → c.id ≡ x → c.applies ≡ true → written_in c ≡ Some cell
    written_here c is applies =
        ap (λ b. cond b (write_of layout shard history c.id key) None) applies ∙ ap (λ y. write_of layout shard history y key) is ∙ writes

    last_written : (changes : List Change) (standings : List Standing) → ids_of standings ≡ changed_ids changes
        → AllByRecursion (λ (s : Standing). stable_of history s.id ≡ Some s.settled) standings → IsRisingBy standing_lt standings
        → applies_in x changes ≡ true → IsLastOf changes → last_in changes ≡ Some cell
    last_written [] standings same truly rising there last = absurd (true≢false (sym there))
    last_written (c ∷ changes) [] same truly rising there last = absurd (too_short c.id (changed_ids changes) same)
    last_written (c ∷ changes) (s ∷ standings) same truly rising there last =
        ⊎_elim
        (λ later. ap (λ o. or_else o (written_in c)) (last_written changes standings rest truly.1 rising.1 later behind))
        (λ none.
        let parts = and_parts (id_eq c.id x) c.applies
        (⊎_elim (λ here. here) (λ later. absurd (true≢false (sym later ∙ none))) (or_cases (id_eq c.id x && c.applies) (applies_in x changes) there)) in
        let is : c.id ≡ x = (id_order.decides c.id x).0 parts.0 in
        ap (λ o. or_else o (written_in c))
        (nothing_behind s changes standings (same_head s.id c.id (ids_of standings) (changed_ids changes) same ∙ is) truly.0 rest truly.1 rising.0 behind)
        ∙ written_here c is parts.1)
        (cases_Bool (applies_in x changes))
      where
        rest : ids_of standings ≡ changed_ids changes
        rest = same_tail s.id c.id (ids_of standings) (changed_ids changes) same

        behind : IsLastOf changes
        behind y theirs h = last y theirs (or_right (id_eq c.id y && c.applies) (applies_in y changes) h)

-- ---- the cells after a step

module _ (layout : Layout) (shard : ℕ) (step : Taken) (past : List Taken) (key : Key) where
  order : OpensInOrder shard step past
  order = opens_in_order shard step past

  behind_step : cells_at layout shard (step ∷ past) key ≡ unwrap_or (last_in layout shard (step ∷ past) key (changes_of shard step past)) (cells_at layout shard past key)
  behind_step = all_written layout shard (step ∷ past) key (changes_of shard step past) (cells_at layout shard past)

  pub cell_written : (x : TxnId) (cell : Option Value) → WritesLast layout shard step past key x cell → cells_at layout shard (step ∷ past) key ≡ cell
  cell_written x cell h =
      behind_step
      ∙ ap (λ o. unwrap_or o (cells_at layout shard past key))
      (last_written layout shard (step ∷ past) key x h.settled cell h.settled_is h.writes (changes_of shard step past) order.order.standings
      order.order.same order.order.truly order.order.rising (order.applied x ∙ h.applies)
      (λ y theirs there stable some. h.last y theirs (sym (order.applied y) ∙ there) stable some))

  pub cell_stays : ((y : TxnId) → is_newly_applied shard step past y ≡ true → write_of layout shard (step ∷ past) y key ≡ None)
      → cells_at layout shard (step ∷ past) key ≡ cells_at layout shard past key
  cell_stays h =
      behind_step
      ∙ ap (λ o. unwrap_or o (cells_at layout shard past key))
      (none_written layout shard (step ∷ past) key (changes_of shard step past) (λ y there. h y (sym (order.applied y) ∙ there)))
