-- The serial cell of a part of a run is what the latest of the writers that it answered wrote.
use Rattle.std.proofs.Common.{◌≡◌, Bool, true, false, ◌||◌, List, [], ◌∷◌, ◌++◌, Option, None, Some, refl, sym, ◌∙◌, ap, subst, ◌⊎◌, inl, inr, ⊎_elim}
use Rattle.std.specs.Prelude.{unwrap_or}
use Rattle.std.specs.List.{AllByRecursion}
use Rattle.std.proofs.lemmas.Bool.{true≢false, false≢true, or_left, or_right, or_cases, cond_both}
use Rattle.std.proofs.lemmas.List.{append-nil, append_assoc}
use Rattle.std.proofs.lemmas.List.Folds.{list_any-append}
use Rattle.acc_stamp.specs.declared.stamps.TxnId.{TxnId}
use Rattle.acc_stamp.specs.Stamp.{id_eq, stamp_lt}
use Rattle.acc_stamp.proofs.Order.{id_order, stamp_order, trichotomy, asym, eq_itself}
use Rattle.acc_value.specs.declared.key.Key.{Key}
use Rattle.acc_value.specs.Pairs.{find}
use Rattle.acc_txn.specs.declared.outcome.Outcome.{Outcome}
use Rattle.acc_txn.specs.Uses.{is_read, is_updated}
use Rattle.acc_txn.specs.Meaning.{outcome_of}
use Rattle.acc_txn.specs.Serial.{map_after}
use Rattle.acc_txn.proofs.Agree.{outcome_of-agree}
use Rattle.acc_message.specs.declared.item.Item.{Item}
use Rattle.acc_message.specs.Items.{notes_of}
use Rattle.acc_message.specs.Run.{Cluster, EachStands}
use Rattle.acc_actor_laws.proofs.OpeningFacts.{some_is}
use Rattle.acc_safety.specs.Decisions.{Answered as Answer, outcomes_of, is_answered, firsts_after, body_of}
use Rattle.acc_safety.specs.Places.{IsPast}
use Rattle.acc_safety.proofs.PlaceOrder.{each_from, any_from}
use Rattle.acc_safety.proofs.Bridge.{EachStands-past}
use Rattle.acc_safety_laws.proofs.Cell.{Cell}
use Rattle.acc_safety_laws.proofs.Latest.{IsLatest, Unwritten, same_latest, one_latest, latest_more}
use Rattle.acc_safety_laws.proofs.Notions.{uses, time_of, wrote, Answered, Finished}
use Rattle.acc_safety_laws.proofs.Facts.{Premises, own_times, wrote_tells, writer_below, below_writer}
use Rattle.acc_safety_laws.proofs.Framed.{run_framed}
use Rattle.acc_safety_laws.proofs.InTheirTurn.{OutcomeAt, OutcomesInOrder, HasWritten}
use Rattle.acc_safety_laws.proofs.Parts.{within_itself}
use Rattle.acc_safety_laws.proofs.SerialRuns.{IsSerialRun, run_serial}
use Rattle.acc_safety_laws.proofs.Whole.{written}
use Rattle.acc_glance_laws.specs.SerialCells.{cells_then, cells_after, serial_cell}
use Rattle.acc_glance_laws.proofs.Finished.{below_is_answered, in_order, answered_later}
use Rattle.acc_glance_laws.proofs.Parts.{within_past}

-- ---- answers so far

among_more : (earlier : List Answer) (a : Answer) (y : TxnId) → is_answered y earlier ≡ true → is_answered y (earlier ++ a ∷ []) ≡ true
among_more earlier a y h = list_any-append (λ (b : Answer). id_eq b.id y) earlier (a ∷ []) ∙ or_left (is_answered y earlier) _ h

among_last : (earlier : List Answer) (a : Answer) → is_answered a.id (earlier ++ a ∷ []) ≡ true
among_last earlier a =
    list_any-append (λ (b : Answer). id_eq b.id a.id) earlier (a ∷ [])
    ∙ or_right (is_answered a.id earlier) _ (or_left (id_eq a.id a.id) _ (eq_itself id_order a.id))

among_cases : (earlier : List Answer) (a : Answer) (y : TxnId) → is_answered y (earlier ++ a ∷ []) ≡ true → (is_answered y earlier ≡ true) ⊎ (a.id ≡ y)
among_cases earlier a y h =
    ⊎_elim inl
    (λ new. ⊎_elim (λ here. inr ((id_order.decides a.id y).0 here)) (λ none. absurd (false≢true none)) (or_cases (id_eq a.id y) false new))
    (or_cases (is_answered y earlier) (is_answered y (a ∷ [])) (sym (list_any-append (λ (b : Answer). id_eq b.id y) earlier (a ∷ [])) ∙ h))

-- the seen ones are the earlier ones, the newest first
same_more : (earlier seen : List Answer) (a : Answer) → ((y : TxnId) → is_answered y seen ≡ is_answered y earlier)
    → (y : TxnId) → is_answered y (a ∷ seen) ≡ is_answered y (earlier ++ a ∷ [])
same_more earlier seen a same y =
    swap (id_eq a.id y) (is_answered y seen) (is_answered y earlier) (same y)
    ∙ sym (list_any-append (λ (b : Answer). id_eq b.id y) earlier (a ∷ []))
  where
    swap : (p q r : Bool) → q ≡ r → (p || q) ≡ (r || (p || false))
    swap true q true e = refl
    swap true q false e = refl
    swap false q true e = e
    swap false q false e = e

module _ (cluster : Cluster) (whole : List Item) where
  order_more : (before answers : List Answer) (a : Answer) → OutcomesInOrder cluster whole before answers → OutcomeAt cluster whole (before ++ answers) a
      → OutcomesInOrder cluster whole before (answers ++ a ∷ [])
  order_more before [] a order at = (subst (λ list. OutcomeAt cluster whole list a) (append-nil before) at, tt)
  order_more before (b ∷ answers) a order at = (
    order.0,
    order_more (before ++ b ∷ []) answers a order.1 (subst (λ list. OutcomeAt cluster whole list a) (sym (append_assoc before (b ∷ []) answers)) at),
  )

  -- the cells are what the latest of these wrote
  abbrev AreLatest : List Answer → (Key → Cell) → Type 0
  AreLatest answers cells = (key : Key) → IsLatest (time_of cluster whole) (wrote cluster whole) (λ y. is_answered y answers ≡ true) key (cells key)

  -- in a part of the run it has the same body
  abbrev Counts : List Item → Answer → Type 0
  Counts part a = Answered (notes_of whole) a.id × (body_of cluster part a.id ≡ body_of cluster whole a.id)

  module _ (given : Premises cluster whole) (has_written : HasWritten cluster whole) where
    module _ (earlier : List Answer) (order : OutcomesInOrder cluster whole [] earlier) (a : Answer) (at : OutcomeAt cluster whole earlier a) (cells : Key → Cell)
        (latest : AreLatest earlier cells) where
      abbrev mine : Finished cluster whole at.before a.id at.is.outcome
      mine = at.is.finished

      -- it was answered before
      answered_again : is_answered a.id earlier ≡ true → AreLatest (earlier ++ a ∷ []) cells
      answered_again old key =
          same_latest (time_of cluster whole) (wrote cluster whole) key (λ y. is_answered y earlier ≡ true) (λ y. is_answered y (earlier ++ a ∷ []) ≡ true) (cells key)
          (λ y c h w. among_more earlier a y h)
          (λ y c h w. ⊎_elim (λ k. k) (λ same. subst (λ z. is_answered z earlier ≡ true) same old) (among_cases earlier a y h)) (latest key)

      -- it is new
      module _ (new : is_answered a.id earlier ≡ false) (answered : Answered (notes_of whole) a.id) where
        -- an earlier writer of a key that it uses is below it
        earlier_below : (key : Key) (y : TxnId) (c : Cell) → uses mine.body key ≡ true → is_answered y earlier ≡ true → wrote cluster whole y key ≡ Some c
            → stamp_lt (time_of cluster whole y) (time_of cluster whole a.id) ≡ true
        earlier_below key y c used h w =
            let made = wrote_tells cluster whole given y key c w in
            ⊎_elim (λ before. before)
            (λ rest. ⊎_elim
            (λ same. absurd (true≢false (sym h ∙ ap (λ z. is_answered z earlier) (own_times cluster whole given y a.id made.decided mine.decided same) ∙ new)))
            (λ after. absurd (true≢false (sym (below_is_answered cluster whole earlier y a.id made.body key order h made.body_is (or_right (is_read made.body key) _ made.updates)
            (below_writer cluster whole given y a.id mine.body key c w mine.body_is used mine.decided after)) ∙ new))) rest)
            (trichotomy stamp_order (time_of cluster whole y) (time_of cluster whole a.id))

        same_cells : (key : Key) → is_read mine.body key ≡ true → cells key ≡ mine.cells key
        same_cells key read =
            one_latest (time_of cluster whole) (wrote cluster whole) key (λ y. stamp_lt (time_of cluster whole y) (time_of cluster whole a.id) ≡ true) (cells key) (mine.cells key)
            (λ y z c d v w same. own_times cluster whole given y z (wrote_tells cluster whole given y key c v).decided (wrote_tells cluster whole given z key d w).decided same)
            (same_latest (time_of cluster whole) (wrote cluster whole) key (λ y. is_answered y earlier ≡ true) (λ y. stamp_lt (time_of cluster whole y) (time_of cluster whole a.id) ≡ true) (cells key)
            (λ y c h w. earlier_below key y c (or_left (is_read mine.body key) _ read) h w)
            (λ y c h w. ap (is_answered y) (sym at.earlier_are) ∙ mine.behind key y (or_left (is_read mine.body key) _ read)
            (writer_below cluster whole given y a.id mine.body key c w mine.body_is (or_left (is_read mine.body key) _ read) mine.decided h))
            (latest key))
            (mine.latest key read)

        outcome_same : outcome_of mine.body cells ≡ at.is.outcome
        outcome_same = outcome_of-agree cells mine.cells mine.body same_cells ∙ sym mine.outcome_is

        answered_first : AreLatest (earlier ++ a ∷ []) (map_after cells mine.body)
        answered_first key =
            subst (λ (o : Option Cell). IsLatest (time_of cluster whole) (wrote cluster whole) (λ y. is_answered y (earlier ++ a ∷ []) ≡ true) key (unwrap_or o (cells key)))
            (sym (ap (λ (o : Outcome). find o.writes key) outcome_same ∙ has_written.written a.id at.before at.is.outcome key answered mine))
            (latest_more (time_of cluster whole) (wrote cluster whole) key (λ y. is_answered y earlier ≡ true) (λ y. is_answered y (earlier ++ a ∷ []) ≡ true) a.id (cells key)
            (λ y h. among_cases earlier a y h) (λ y h. among_more earlier a y h) (among_last earlier a) above (latest key))
          where
            above : (c : Cell) (z : TxnId) (d : Cell) → wrote cluster whole a.id key ≡ Some c → is_answered z earlier ≡ true → wrote cluster whole z key ≡ Some d
                → stamp_lt (time_of cluster whole a.id) (time_of cluster whole z) ≡ false
            above c z d w h v =
                let made = wrote_tells cluster whole given a.id key c w in
                asym stamp_order (time_of cluster whole z) (time_of cluster whole a.id)
                (earlier_below key z d (or_right (is_read mine.body key) _ (subst (λ p. is_updated p key ≡ true) (some_is made.body mine.body (sym made.body_is ∙ mine.body_is)) made.updates)) h v)

    cells_are_latest : (part : List Item) (earlier seen answers : List Answer) (cells : Key → Cell) → ((y : TxnId) → is_answered y seen ≡ is_answered y earlier)
        → OutcomesInOrder cluster whole [] earlier → OutcomesInOrder cluster whole earlier answers → AreLatest earlier cells → AllByRecursion (Counts part) answers
        → AreLatest (earlier ++ answers) (cells_after cluster part cells (firsts_after seen answers))
    cells_are_latest part earlier seen [] cells same before order latest each =
        subst (λ list. AreLatest list cells) (sym (append-nil earlier)) latest
    cells_are_latest part earlier seen (a ∷ answers) cells same before order latest each =
        subst (λ list. AreLatest list (cells_after cluster part cells (firsts_after seen (a ∷ answers)))) (append_assoc earlier (a ∷ []) answers)
        (cond_both (is_answered a.id seen) (firsts_after (a ∷ seen) answers) (a ∷ firsts_after (a ∷ seen) answers)
        (λ list. AreLatest ((earlier ++ a ∷ []) ++ answers) (cells_after cluster part cells list))
        (λ old. cells_are_latest part (earlier ++ a ∷ []) (a ∷ seen) answers cells (same_more earlier seen a same)
        (order_more [] earlier a before order.0) order.1 (answered_again earlier before a order.0 cells latest (sym (same a.id) ∙ old)) each.1)
        (λ new. cells_are_latest part (earlier ++ a ∷ []) (a ∷ seen) answers (cells_then cells (body_of cluster part a.id)) (same_more earlier seen a same)
        (order_more [] earlier a before order.0) order.1
        (subst (λ o. AreLatest (earlier ++ a ∷ []) (cells_then cells o)) (sym (each.0.1 ∙ order.0.is.finished.body_is))
        (answered_first earlier before a order.0 cells latest (sym (same a.id) ∙ new) each.0.0)) each.1))

-- ---- a part of the run

module _ (cluster : Cluster) (whole : List Item) (given : Premises cluster whole) (stands : EachStands cluster whole) where
  run : IsSerialRun cluster whole given whole
  run = run_serial cluster whole given whole (within_itself cluster whole) stands

  pub serial_is_latest : (part : List Item) → IsPast part whole → (key : Key)
      → IsLatest (time_of cluster whole) (wrote cluster whole) (Answered (notes_of part)) key (serial_cell cluster part key)
  serial_is_latest part past =
      cells_are_latest cluster whole given (record { written = written cluster whole given (run_framed cluster whole stands) run }) part [] [] (outcomes_of (notes_of part)) (λ _. None) (λ y. refl) tt
      (in_order cluster whole given stands part past) (λ key. Unwritten refl (record { none = λ y c h w. false≢true h })) each
    where
      counts : (a : Answer) → Answered (notes_of part) a.id → Counts cluster whole part a
      counts a h =
          let b = (run_framed cluster part (EachStands-past cluster part whole past stands)).applied a.id h in
          (answered_later part whole a.id past h, b.body_is ∙ sym ((within_past cluster part whole past).body a.id b.body b.body_is))

      each : AllByRecursion (Counts cluster whole part) (outcomes_of (notes_of part))
      each =
          each_from (Counts cluster whole part) (outcomes_of (notes_of part))
          (λ a there. counts a (any_from (λ (b : Answer). id_eq b.id a.id) a (outcomes_of (notes_of part)) there (eq_itself id_order a.id)))
