-- What a store knows, what is stable at it, opened and applied, its waiters and its cells depend on the messages that it took
-- alone.
use Rattle.std.proofs.Common.{◌≡◌, ℕ, Bool, true, false, cond, List, [], ◌∷◌, ◌++◌, Option, None, Some, is_some, map, filter, refl, sym, ◌∙◌, ap, subst}
use Rattle.std.specs.List.{list_all, flat_map}
use Rattle.acc_base.specs.Faults.{or_else}
use Rattle.acc_stamp.specs.declared.stamps.TxnId.{TxnId}
use Rattle.acc_stamp.specs.Rising.{id_among}
use Rattle.acc_topology.specs.Layout.{Layout}
use Rattle.acc_deps.specs.Deps.{of_shard}
use Rattle.acc_value.specs.declared.key.Key.{Key}
use Rattle.acc_value.specs.declared.value.Value.{Value}
use Rattle.acc_value.specs.Cells.{applied}
use Rattle.acc_message.specs.declared.message.Message.{Message}
use Rattle.acc_message.specs.Taken.{Taken, Heard, known, learnt_from}
use Rattle.acc_message.specs.BallotRules.{stable_of, settled_in, kept_outcome, outcome_in}
use Rattle.acc_message.specs.Opening.{Standing, standing_with, stable_ones, in_turn, is_past, is_ready, Change, Turn, turn_of, with_applied, pass, is_change, changes_from, changes_of, opened_by, with_outcome, opened_of, applied_of, is_opened, writes_in, written_by, written_by_all, cells_at}
use Rattle.acc_message.specs.StoreRules.{stable_ballots_in, stable_ballots, waiters_of}
use Rattle.acc_actor_laws.specs.TakenAlone.{messages_taken, AgreeInParts}

-- ---- two histories with the same records

module _ (shard : ℕ) (one other : List Taken) (stable_is : (x : TxnId) → stable_of one x ≡ stable_of other x)
    (outcome_is : (x : TxnId) → kept_outcome one x ≡ kept_outcome other x) where
  ready_same : (applied_ones : List TxnId) (s : Standing) → is_ready shard one applied_ones s.settled ≡ is_ready shard other applied_ones s.settled
  ready_same applied_ones s =
      λ i. list_all (λ y. is_past s.settled.t (id_among y applied_ones) (stable_is y i)) (of_shard s.settled.deps shard)

  turn_same : (opened_before applied_before applied_ones : List TxnId) (s : Standing)
      → turn_of s.id (id_among s.id opened_before) (id_among s.id applied_before) (is_ready shard one applied_ones s.settled) (is_some (kept_outcome one s.id))
      ≡ turn_of s.id (id_among s.id opened_before) (id_among s.id applied_before) (is_ready shard other applied_ones s.settled) (is_some (kept_outcome other s.id))
  turn_same opened_before applied_before applied_ones s =
      λ i. turn_of s.id (id_among s.id opened_before) (id_among s.id applied_before) (ready_same applied_ones s i) (is_some (outcome_is s.id i))

  pass_same : (opened_before applied_before applied_ones : List TxnId) (list : List Standing)
      → pass shard one opened_before applied_before applied_ones list ≡ pass shard other opened_before applied_before applied_ones list
  pass_same opened_before applied_before applied_ones [] = refl
  pass_same opened_before applied_before applied_ones (s ∷ rest) =
      let t : Turn = turn_of s.id (id_among s.id opened_before) (id_among s.id applied_before) (is_ready shard one applied_ones s.settled) (is_some (kept_outcome one s.id)) in
      ap (λ changes. t.change ∷ changes) (pass_same opened_before applied_before (with_applied t.is_applied s.id applied_ones) rest)
      ∙ ap (λ (u : Turn). u.change ∷ pass shard other opened_before applied_before (with_applied u.is_applied s.id applied_ones) rest)
      (turn_same opened_before applied_before applied_ones s)

  changes_same : known one ≡ known other → (opened_before applied_before : List TxnId)
      → changes_from shard one opened_before applied_before ≡ changes_from shard other opened_before applied_before
  changes_same known_is opened_before applied_before =
      ap (filter is_change) (pass_same opened_before applied_before [] (in_turn (stable_ones one (known one)))
      ∙ (λ i. pass shard other opened_before applied_before [] (in_turn (flat_map (λ (k : Heard). standing_with k.id (stable_is k.id i)) (known_is i)))))

with_outcome_same : (one other : List Taken) → ((x : TxnId) → kept_outcome one x ≡ kept_outcome other x) → (ids : List TxnId)
    → with_outcome one ids ≡ with_outcome other ids
with_outcome_same one other outcome_is ids = λ i. filter (λ y. is_some (outcome_is y i)) ids

written_same : (layout : Layout) (shard : ℕ) (one other : List Taken) → ((x : TxnId) → kept_outcome one x ≡ kept_outcome other x)
    → (changes : List Change) (cells : Key → Option Value) → written_by_all layout shard one changes cells ≡ written_by_all layout shard other changes cells
written_same layout shard one other outcome_is [] cells = refl
written_same layout shard one other outcome_is (c ∷ changes) cells =
    written_same layout shard one other outcome_is changes (written_by layout shard one c cells)
    ∙ ap (written_by_all layout shard other changes)
    (λ i. cond c.applies (applied cells (writes_in layout shard (outcome_is c.id i))) cells)

-- ---- one step more

module _ (m : Message) (sent sent_too : List Message) (past before : List Taken) (h : AgreeInParts past before) where
  abbrev one : List Taken
  one = record { message = m; sent = sent } ∷ past

  abbrev other : List Taken
  other = record { message = m; sent = sent_too } ∷ before

  known_more : known one ≡ known other
  known_more = ap (learnt_from m) h.known_is

  stable_more : (x : TxnId) → stable_of one x ≡ stable_of other x
  stable_more x = ap (λ o. or_else o (settled_in x m)) (h.stable_is x)

  outcome_more : (x : TxnId) → kept_outcome one x ≡ kept_outcome other x
  outcome_more x = ap (λ o. or_else o (outcome_in x m)) (h.outcome_is x)

  ballots_more : (x : TxnId) → stable_ballots one x ≡ stable_ballots other x
  ballots_more x = ap (stable_ballots_in x m) (h.ballots_are x)

  applied_same : (shard : ℕ) → applied_of shard past ≡ applied_of shard before
  applied_same shard = with_outcome_same past before h.outcome_is (opened_of shard past) ∙ ap (with_outcome before) (h.opened_is shard)

  changes_more : (shard : ℕ) → changes_of shard (record { message = m; sent = sent }) past ≡ changes_of shard (record { message = m; sent = sent_too }) before
  changes_more shard =
      changes_same shard one other stable_more outcome_more known_more (opened_of shard past) (applied_of shard past)
      ∙ (λ i. changes_from shard other (h.opened_is shard i) (applied_same shard i))

  opened_more : (shard : ℕ) → opened_of shard one ≡ opened_of shard other
  opened_more shard = λ i. opened_by (changes_more shard i) ++ h.opened_is shard i

  agree_more : AgreeInParts one other
  agree_more =
      record {
        known_is = known_more;
        stable_is = stable_more;
        outcome_is = outcome_more;
        ballots_are = ballots_more;
        opened_is = opened_more;
        waiters_are = λ shard x. (λ i. cond (id_among x (opened_more shard i)) [] (ballots_more x i));
        cells_are = λ layout shard.
            written_same layout shard one other outcome_more (changes_of shard (record { message = m; sent = sent }) past) (cells_at layout shard past)
            ∙ (λ i. written_by_all layout shard other (changes_more shard i) (h.cells_are layout shard i));
      }

agree_nothing : AgreeInParts [] []
agree_nothing =
    record {
      known_is = refl;
      stable_is = λ x. refl;
      outcome_is = λ x. refl;
      ballots_are = λ x. refl;
      opened_is = λ shard. refl;
      waiters_are = λ shard x. refl;
      cells_are = λ layout shard. refl;
    }

heads : (m n : Message) (ms ns : List Message) → m ∷ ms ≡ n ∷ ns → m ≡ n
heads m n ms ns e = cc

tails : (m n : Message) (ms ns : List Message) → m ∷ ms ≡ n ∷ ns → ms ≡ ns
tails m n ms ns e = cc

something : (m : Message) (ms : List Message) → [] ≡ m ∷ ms → ⊥
something m ms e = cc

-- what was sent doesn't matter
pub taken_alone : (one other : List Taken) → messages_taken one ≡ messages_taken other → AgreeInParts one other
taken_alone [] [] is = agree_nothing
taken_alone [] (step ∷ before) is = absurd (something step.message (messages_taken before) is)
taken_alone (step ∷ past) [] is = absurd (something step.message (messages_taken past) (sym is))
taken_alone (step ∷ past) (other ∷ before) is =
    subst (λ m. AgreeInParts (step ∷ past) (record { message = m; sent = other.sent } ∷ before))
    (heads step.message other.message (messages_taken past) (messages_taken before) is)
    (agree_more step.message step.sent other.sent past before
    (taken_alone past before (tails step.message other.message (messages_taken past) (messages_taken before) is)))
