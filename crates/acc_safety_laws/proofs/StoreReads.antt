-- What a store reads, at moments of its changes.
use Rattle.std.proofs.Common.{◌≡◌, Bool, true, false, cond, List, [], ◌∷◌, ◌++◌, Option, None, Some, is_some, refl, sym, ◌∙◌, ap, subst, inl, inr}
use Rattle.std.proofs.lemmas.Bool.{false≢true, or_left}
use Rattle.acc_stamp.specs.declared.stamps.TxnId.{TxnId}
use Rattle.acc_stamp.specs.declared.actors.Actor.{Actor}
use Rattle.acc_stamp.specs.Actor.{shard_of}
use Rattle.acc_stamp.specs.Stamp.{id_eq}
use Rattle.acc_stamp.specs.Rising.{id_among}
use Rattle.acc_stamp.proofs.Rising.{is_among-append}
use Rattle.acc_topology.specs.Layout.{Layout}
use Rattle.acc_value.specs.declared.key.Key.{Key}
use Rattle.acc_value.specs.Cells.{applied}
use Rattle.acc_txn.specs.declared.outcome.Outcome.{Outcome}
use Rattle.acc_message.specs.declared.message.Message.{Message}
use Rattle.acc_message.specs.Taken.{Taken, taking}
use Rattle.acc_message.specs.BallotRules.{stable_of, kept_outcome}
use Rattle.acc_message.specs.Opening.{Change, opened_by, opened_of, is_opened, changes_of, writes_in, written_by, written_by_all, cells_at}
use Rattle.acc_safety.specs.StoreSends.{taking_step, ChangeAmong}
use Rattle.acc_safety_laws.proofs.Cell.{Cell}
use Rattle.acc_safety_laws.proofs.Timeline.{AppliedIn, behind, left_by, AllInTurn, AppliedIn-behind, AllInTurn-earlier, below_is_applied}
use Rattle.acc_safety_laws.proofs.StoreChanges.{timeline, EachCovered, Told, history_told, opened_by-first, opened_by-later, some_value}

-- A moment at which a store reads for x: what is below x is applied, and x is not. All that is applied by then has an outcome
-- in the history.
pub record Moment (below : TxnId → TxnId → Type 0) (history : List Taken) (changes : List Change) (x : TxnId) : Type 0 where
  pub turns : AllInTurn below changes
  pub below_applied : (y : TxnId) → below y x → AppliedIn changes y
  pub waits : AppliedIn changes x → ⊥
  pub within : (y : TxnId) → AppliedIn changes y → is_some (kept_outcome history y) ≡ true
  pub stable : is_some (stable_of history x) ≡ true

-- these changes, and then one and the rest
behind-among : (before : List Change) (c : Change) (rest earlier : List Change) → behind (before ++ c ∷ rest) earlier ≡ behind rest (c ∷ behind before earlier)
behind-among [] c rest earlier = refl
behind-among (d ∷ before) c rest earlier = behind-among before c rest (d ∷ earlier)

opened_among : (before : List Change) (c : Change) (rest : List Change) → c.opens ≡ true → id_among c.id (opened_by (before ++ c ∷ rest)) ≡ true
opened_among [] c rest opens = opened_by-first c rest opens
opened_among (d ∷ before) c rest opens = opened_by-later d (before ++ c ∷ rest) c.id (opened_among before c rest opens)

module _ (layout : Layout) (own : Actor) (below : TxnId → TxnId → Type 0) (outcome_first : TxnId → Option Outcome) where
  -- ---- cells

  abbrev pub writes : TxnId → List (Key × Cell)
  writes x = writes_in layout (shard_of own) (outcome_first x)

  -- a kept outcome is the first one
  abbrev pub KeptIsFirst : List Taken → Type 0
  KeptIsFirst history = (y : TxnId) (o : Outcome) → kept_outcome history y ≡ Some o → outcome_first y ≡ Some o

  abbrev pub EachKept : List Taken → Type 0
  EachKept [] = Unit {0}
  EachKept (step ∷ past) = KeptIsFirst (step ∷ past) × EachKept past

  abbrev AppliedHave : List Taken → List Change → Type 0
  AppliedHave history changes = (y : TxnId) → AppliedIn changes y → is_some (kept_outcome history y) ≡ true

  one_written : (history : List Taken) (c : Change) (changes : List Change) → KeptIsFirst history → (c.applies ≡ true → is_some (kept_outcome history c.id) ≡ true)
      → written_by layout (shard_of own) history c (left_by writes changes) ≡ left_by writes (c ∷ changes)
  one_written history c changes first has = by c.applies refl
    where
      cells : Key → Cell
      cells = left_by writes changes

      by : (b : Bool) → c.applies ≡ b
          → cond b (applied (left_by writes changes) (writes_in layout (shard_of own) (kept_outcome history c.id))) (left_by writes changes)
          ≡ cond b (applied (left_by writes changes) (writes_in layout (shard_of own) (outcome_first c.id))) (left_by writes changes)
      by false is = refl
      by true is =
          let o = some_value (kept_outcome history c.id) (has is) in
          ap (λ k. applied (left_by writes changes) (writes_in layout (shard_of own) k)) (o.1 ∙ sym (first c.id o.0 o.1))

  all_written : (history : List Taken) (changes earlier : List Change) → KeptIsFirst history → AppliedHave history (behind changes earlier)
      → written_by_all layout (shard_of own) history changes (left_by writes earlier) ≡ left_by writes (behind changes earlier)
  all_written history [] earlier first have = refl
  all_written history (c ∷ changes) earlier first have =
      ap (written_by_all layout (shard_of own) history changes)
      (one_written history c earlier first (λ is. have c.id (AppliedIn-behind below changes (c ∷ earlier) c.id (inl (is, refl)))))
      ∙ all_written history changes (c ∷ earlier) first have

  pub cells_are : (history : List Taken) → EachCovered (shard_of own) below history → EachKept history
      → cells_at layout (shard_of own) history ≡ left_by writes (timeline (shard_of own) history)
  cells_are [] covered kept = refl
  cells_are (step ∷ past) covered kept =
      ap (written_by_all layout (shard_of own) (step ∷ past) (changes_of (shard_of own) step past)) (cells_are past covered.1 kept.1)
      ∙ all_written (step ∷ past) (changes_of (shard_of own) step past) (timeline (shard_of own) past) kept.0
      (λ y h. ((history_told (shard_of own) below (step ∷ past) covered).tells y h).1)

  -- ---- reads

  -- cells that a store reads for x, at a moment of its changes
  pub record ReadAt (history : List Taken) (x : TxnId) (cells : Key → Cell) : Type 0 where
    pub changes : List Change
    pub moment : Moment below history changes x
    pub cells_are : cells ≡ left_by writes changes

  -- those of an opened transaction without an outcome
  pub read_at_once : (past : List Taken) (x : TxnId) → EachCovered (shard_of own) below past → EachKept past → is_opened (shard_of own) past x ≡ true
      → kept_outcome past x ≡ None → ReadAt past x (cells_at layout (shard_of own) past)
  read_at_once past x covered kept opened none =
      record {
        changes = timeline (shard_of own) past;
        moment = record {
          turns = told.turns;
          below_applied = λ y h. below_is_applied below (timeline (shard_of own) past) x y told.turns (told.opened x opened) h;
          waits = λ h. false≢true (sym (ap is_some none) ∙ (told.tells x h).1);
          within = λ y h. (told.tells y h).1;
          stable = told.stable x opened;
        };
        cells_are = cells_are past covered kept;
      }
    where
      told : Told (shard_of own) below past
      told = history_told (shard_of own) below past covered

  -- those of one that the step opens
  pub read_on_opening : (past : List Taken) (m : Message) (c : Change) (before : List Change) → EachCovered (shard_of own) below (taking m past) → EachKept (taking m past)
      → ChangeAmong (shard_of own) past m c before → c.opens ≡ true
      → ReadAt (taking m past) c.id (written_by_all layout (shard_of own) (taking m past) before (cells_at layout (shard_of own) past))
  read_on_opening past m c before covered kept among opens =
      record {
        changes = behind before (timeline (shard_of own) past);
        moment = record {
          turns = turns.1;
          below_applied = turns.0.opened opens;
          waits = turns.0.fresh opens;
          within = λ y h. (told.tells y (then y h)).1;
          stable = told.stable c.id (is_among-append id_eq c.id (opened_by (changes_of (shard_of own) (taking_step m) past)) (opened_of (shard_of own) past)
              ∙ or_left _ _ (subst (λ list. id_among c.id (opened_by list) ≡ true) (sym among.changes_are) (opened_among before c among.rest opens)));
        };
        cells_are = ap (written_by_all layout (shard_of own) (taking m past) before) (cells_are past covered.1 kept.1)
            ∙ all_written (taking m past) before (timeline (shard_of own) past) kept.0 (λ y h. (told.tells y (then y h)).1);
      }
    where
      told : Told (shard_of own) below (taking m past)
      told = history_told (shard_of own) below (taking m past) covered

      line : timeline (shard_of own) (taking m past) ≡ behind among.rest (c ∷ behind before (timeline (shard_of own) past))
      line = ap (λ list. behind list (timeline (shard_of own) past)) among.changes_are ∙ behind-among before c among.rest (timeline (shard_of own) past)

      turns : AllInTurn below (c ∷ behind before (timeline (shard_of own) past))
      turns = AllInTurn-earlier below among.rest (c ∷ behind before (timeline (shard_of own) past)) (subst (AllInTurn below) line told.turns)

      then : (y : TxnId) → AppliedIn (behind before (timeline (shard_of own) past)) y → AppliedIn (timeline (shard_of own) (taking m past)) y
      then y h = subst (λ list. AppliedIn list y) (sym line) (AppliedIn-behind below among.rest (c ∷ behind before (timeline (shard_of own) past)) y (inr h))
