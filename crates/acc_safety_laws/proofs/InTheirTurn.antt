-- The first outcomes are those of a serial run of their bodies.
use Rattle.std.proofs.Common.{◌≡◌, true, false, List, [], ◌∷◌, ◌++◌, Option, None, Some, map, refl, sym, ◌∙◌, ap, subst, ◌⊎◌, inl, inr, ⊎_elim}
use Rattle.std.specs.Prelude.{unwrap_or}
use Rattle.std.specs.List.{AllByRecursion}
use Rattle.std.proofs.lemmas.Bool.{true≢false, false≢true, or_left, or_right, or_cases, cond_both}
use Rattle.std.proofs.lemmas.List.{append-nil}
use Rattle.std.proofs.lemmas.List.Concat.{flat_map-append}
use Rattle.std.proofs.lemmas.List.Folds.{list_any-append}
use Rattle.acc_stamp.specs.declared.stamps.TxnId.{TxnId}
use Rattle.acc_stamp.specs.Stamp.{id_eq, stamp_lt}
use Rattle.acc_stamp.proofs.Order.{id_order, stamp_order, trichotomy, asym}
use Rattle.acc_topology.specs.Keys.{shard_of_key}
use Rattle.acc_value.specs.declared.key.Key.{Key}
use Rattle.acc_value.specs.Pairs.{find}
use Rattle.acc_txn.specs.declared.parts.BodyParts.{BodyParts}
use Rattle.acc_txn.specs.declared.outcome.Outcome.{Outcome}
use Rattle.acc_txn.specs.Uses.{is_read, is_updated}
use Rattle.acc_txn.specs.Meaning.{outcome_of}
use Rattle.acc_txn.specs.Serial.{map_after, replies_from}
use Rattle.acc_txn.proofs.Agree.{outcome_of-agree}
use Rattle.acc_message.specs.declared.note.Note.{Note}
use Rattle.acc_message.specs.declared.note.Note.TheVariants.{Begin as BeginNote, Outcome as OutcomeNote}
use Rattle.acc_message.specs.declared.item.Item.{Item}
use Rattle.acc_message.specs.Items.{notes_of}
use Rattle.acc_message.specs.Run.{Cluster}
use Rattle.acc_safety.specs.Decisions.{Answered as Answer, outcomes_in, outcomes_of, is_answered, firsts_after, body_of}
use Rattle.acc_actor_laws.proofs.OpeningFacts.{some_is}
use Rattle.acc_safety.specs.Polls.{IsBody}
use Rattle.acc_safety_laws.proofs.Cell.{Cell}
use Rattle.acc_safety_laws.proofs.Latest.{IsLatest, Unwritten, same_latest, one_latest, latest_more}
use Rattle.acc_safety_laws.proofs.Notions.{uses, time_of, wrote, Below, Answered, Finished}
use Rattle.acc_safety_laws.proofs.Facts.{Premises, own_times, wrote_tells, writer_below, below_writer}
use Rattle.acc_safety_laws.proofs.NotesInOrder.{HasReply, InOrder}

-- ---- outcomes in order

-- after notes with these outcomes, an outcome is right
pub record OutcomeAt (cluster : Cluster) (whole : List Item) (earlier : List Answer) (a : Answer) : Type 0 where
  pub before : List Note
  pub earlier_are : outcomes_of before ≡ earlier
  pub is : HasReply cluster whole before a.id a.reply

abbrev pub OutcomesInOrder : Cluster → List Item → List Answer → List Answer → Type 0
OutcomesInOrder cluster whole earlier [] = Unit {0}
OutcomesInOrder cluster whole earlier (a ∷ answers) = OutcomeAt cluster whole earlier a × OutcomesInOrder cluster whole (earlier ++ a ∷ []) answers

module _ (cluster : Cluster) (whole : List Item) where
  outcomes_then : (before : List Note) (note : Note) → outcomes_of (before ++ note ∷ []) ≡ outcomes_of before ++ outcomes_in note
  outcomes_then before note = flat_map-append outcomes_in before (note ∷ []) ∙ ap (λ list. outcomes_of before ++ list) (append-nil (outcomes_in note))

  pub outcomes_in_order : (before notes : List Note) → InOrder cluster whole before notes → OutcomesInOrder cluster whole (outcomes_of before) (outcomes_of notes)
  outcomes_in_order before [] h = tt
  outcomes_in_order before (OutcomeNote x reply ∷ notes) h = (
    record { before = before; earlier_are = refl; is = h.0.1 },
    subst (λ list. OutcomesInOrder cluster whole list (outcomes_of notes)) (outcomes_then before (OutcomeNote x reply)) (outcomes_in_order (before ++ OutcomeNote x reply ∷ []) notes h.1),
  )
  outcomes_in_order before (BeginNote x ∷ notes) h =
      subst (λ list. OutcomesInOrder cluster whole list (outcomes_of notes)) (outcomes_then before (BeginNote x) ∙ append-nil (outcomes_of before)) (outcomes_in_order (before ++ BeginNote x ∷ []) notes h.1)
  outcomes_in_order before (note ∷ notes) h =
      subst (λ list. OutcomesInOrder cluster whole list (outcomes_of notes)) (outcomes_then before note ∙ append-nil (outcomes_of before)) (outcomes_in_order (before ++ note ∷ []) notes h.1)

-- ---- the run

-- So far: these were answered, what is below an answered one was answered, and the cells are the latest of the answered ones.
pub record SoFar (cluster : Cluster) (whole : List Item) (earlier seen : List Answer) (cells : Key → Cell) : Type 0 where
  pub seen_all : (y : TxnId) → is_answered y earlier ≡ true → is_answered y seen ≡ true
  pub closed : (z y : TxnId) (body : BodyParts) (key : Key) → is_answered z seen ≡ true → IsBody cluster whole z body → uses body key ≡ true
      → Below cluster whole (shard_of_key cluster.layout key) y z → is_answered y seen ≡ true
  pub latest : (key : Key) → IsLatest (time_of cluster whole) (wrote cluster whole) (λ y. is_answered y seen ≡ true) key (cells key)

-- a serial run of the bodies of these gives their replies
pub record RunsSerially (cluster : Cluster) (whole : List Item) (cells : Key → Cell) (firsts : List Answer) : Type 0 where
  pub bodies : List BodyParts
  pub bodies_are : map (λ (a : Answer). body_of cluster whole a.id) firsts ≡ map (λ b. Some b) bodies
  pub replies_are : map (λ (a : Answer). a.reply) firsts ≡ replies_from cells bodies

-- what the outcome of an answered x writes to a key, x wrote
pub record HasWritten (cluster : Cluster) (whole : List Item) : Type 0 where
  pub written : (x : TxnId) (notes : List Note) (o : Outcome) (key : Key) → Answered (notes_of whole) x → Finished cluster whole notes x o → find o.writes key ≡ wrote cluster whole x key

module _ (cluster : Cluster) (whole : List Item) (given : Premises cluster whole) (has_written : HasWritten cluster whole) where
  module _ (earlier seen : List Answer) (cells : Key → Cell) (so_far : SoFar cluster whole earlier seen cells) (a : Answer) (at : OutcomeAt cluster whole earlier a) where
    abbrev x : TxnId
    x = a.id

    abbrev mine : Finished cluster whole at.before a.id at.is.outcome
    mine = at.is.finished

    -- what is below x was answered
    below_seen : (key : Key) (y : TxnId) → uses mine.body key ≡ true → Below cluster whole (shard_of_key cluster.layout key) y a.id → is_answered y seen ≡ true
    below_seen key y used b = so_far.seen_all y (ap (is_answered y) (sym at.earlier_are) ∙ mine.behind key y used b)

    seen_cases : (y : TxnId) → is_answered y (a ∷ seen) ≡ true → (is_answered y seen ≡ true) ⊎ (a.id ≡ y)
    seen_cases y h = ⊎_elim (λ same. inr ((id_order.decides a.id y).0 same)) inl (or_cases (id_eq a.id y) (is_answered y seen) h)

    all_seen : (y : TxnId) → is_answered y (earlier ++ a ∷ []) ≡ true → is_answered y (a ∷ seen) ≡ true
    all_seen y h =
        ⊎_elim (λ old. or_right (id_eq a.id y) _ (so_far.seen_all y old))
        (λ new. ⊎_elim (or_left (id_eq a.id y) _) (λ none. absurd (false≢true none)) (or_cases (id_eq a.id y) false new))
        (or_cases (is_answered y earlier) (is_answered y (a ∷ []))
        (sym (list_any-append (λ (b : Answer). id_eq b.id y) earlier (a ∷ [])) ∙ h))

    still_closed : (z y : TxnId) (body : BodyParts) (key : Key) → is_answered z (a ∷ seen) ≡ true → IsBody cluster whole z body → uses body key ≡ true
        → Below cluster whole (shard_of_key cluster.layout key) y z → is_answered y (a ∷ seen) ≡ true
    still_closed z y body key h has used b =
        or_right (id_eq a.id y) _
        (⊎_elim (λ old. so_far.closed z y body key old has used b)
        (λ same. below_seen key y (subst (λ p. uses p key ≡ true) (some_is body mine.body (sym has ∙ ap (body_of cluster whole) (sym same) ∙ mine.body_is)) used)
        (subst (Below cluster whole (shard_of_key cluster.layout key) y) (sym same) b))
        (seen_cases z h))

    -- it was answered before
    again : is_answered a.id seen ≡ true → SoFar cluster whole (earlier ++ a ∷ []) (a ∷ seen) cells
    again old =
        record {
          seen_all = all_seen;
          closed = still_closed;
          latest = λ key. same_latest (time_of cluster whole) (wrote cluster whole) key (λ y. is_answered y seen ≡ true) (λ y. is_answered y (a ∷ seen) ≡ true) (cells key)
              (λ y c h w. or_right (id_eq a.id y) _ h)
              (λ y c h w. ⊎_elim (λ k. k) (λ same. subst (λ z. is_answered z seen ≡ true) same old) (seen_cases y h)) (so_far.latest key);
        }

    -- it is new
    module _ (new : is_answered a.id seen ≡ false) (answered : Answered (notes_of whole) a.id) where
      not_seen : (y : TxnId) → is_answered y seen ≡ true → y ≡ a.id → ⊥
      not_seen y h same = true≢false (sym h ∙ ap (λ z. is_answered z seen) same ∙ new)

      -- an answered writer of a key that x uses is below x
      seen_below : (key : Key) (y : TxnId) (c : Cell) → uses mine.body key ≡ true → is_answered y seen ≡ true → wrote cluster whole y key ≡ Some c
          → stamp_lt (time_of cluster whole y) (time_of cluster whole a.id) ≡ true
      seen_below key y c used h w =
          let made = wrote_tells cluster whole given y key c w in
          ⊎_elim (λ before. before)
          (λ rest. ⊎_elim (λ same. absurd (not_seen y h (own_times cluster whole given y a.id made.decided mine.decided same)))
          (λ after. absurd (true≢false (sym (so_far.closed y a.id made.body key h made.body_is (or_right (is_read made.body key) _ made.updates)
          (below_writer cluster whole given y a.id mine.body key c w mine.body_is used mine.decided after)) ∙ new))) rest)
          (trichotomy stamp_order (time_of cluster whole y) (time_of cluster whole a.id))

      same_cells : (key : Key) → is_read mine.body key ≡ true → cells key ≡ mine.cells key
      same_cells key read =
          one_latest (time_of cluster whole) (wrote cluster whole) key (λ y. stamp_lt (time_of cluster whole y) (time_of cluster whole a.id) ≡ true) (cells key) (mine.cells key)
          (λ y z c d v w same. own_times cluster whole given y z (wrote_tells cluster whole given y key c v).decided (wrote_tells cluster whole given z key d w).decided same)
          (same_latest (time_of cluster whole) (wrote cluster whole) key (λ y. is_answered y seen ≡ true) (λ y. stamp_lt (time_of cluster whole y) (time_of cluster whole a.id) ≡ true) (cells key)
          (λ y c h w. seen_below key y c (or_left (is_read mine.body key) _ read) h w)
          (λ y c h w. below_seen key y (or_left (is_read mine.body key) _ read)
          (writer_below cluster whole given y a.id mine.body key c w mine.body_is (or_left (is_read mine.body key) _ read) mine.decided h))
          (so_far.latest key))
          (mine.latest key read)

      outcome_same : outcome_of mine.body cells ≡ at.is.outcome
      outcome_same = outcome_of-agree cells mine.cells mine.body same_cells ∙ sym mine.outcome_is

      reply_same : a.reply ≡ (outcome_of mine.body cells).reply
      reply_same = at.is.reply_is ∙ ap (λ (o : Outcome). o.reply) (sym outcome_same)

      latest_then : (key : Key) → IsLatest (time_of cluster whole) (wrote cluster whole) (λ y. is_answered y (a ∷ seen) ≡ true) key (map_after cells mine.body key)
      latest_then key =
          subst (λ (o : Option Cell). IsLatest (time_of cluster whole) (wrote cluster whole) (λ y. is_answered y (a ∷ seen) ≡ true) key (unwrap_or o (cells key)))
          (sym (ap (λ (o : Outcome). find o.writes key) outcome_same ∙ has_written.written a.id at.before at.is.outcome key answered mine))
          (latest_more (time_of cluster whole) (wrote cluster whole) key (λ y. is_answered y seen ≡ true) (λ y. is_answered y (a ∷ seen) ≡ true) a.id (cells key)
          seen_cases (λ y h. or_right (id_eq a.id y) _ h) (or_left (id_eq a.id a.id) _ ((id_order.decides a.id a.id).1 refl)) above (so_far.latest key))
        where
          above : (c : Cell) (z : TxnId) (d : Cell) → wrote cluster whole a.id key ≡ Some c → is_answered z seen ≡ true → wrote cluster whole z key ≡ Some d
              → stamp_lt (time_of cluster whole a.id) (time_of cluster whole z) ≡ false
          above c z d w h v =
              let made = wrote_tells cluster whole given a.id key c w in
              asym stamp_order (time_of cluster whole z) (time_of cluster whole a.id)
              (seen_below key z d (or_right (is_read mine.body key) _ (subst (λ p. is_updated p key ≡ true) (some_is made.body mine.body (sym made.body_is ∙ mine.body_is)) made.updates)) h v)

      then_so_far : SoFar cluster whole (earlier ++ a ∷ []) (a ∷ seen) (map_after cells mine.body)
      then_so_far = record { seen_all = all_seen; closed = still_closed; latest = latest_then }

      first_runs : (firsts : List Answer) → RunsSerially cluster whole (map_after cells mine.body) firsts → RunsSerially cluster whole cells (a ∷ firsts)
      first_runs firsts r =
          record {
            bodies = mine.body ∷ r.bodies;
            bodies_are = λ i. mine.body_is i ∷ r.bodies_are i;
            replies_are = λ i. reply_same i ∷ r.replies_are i;
          }

  pub runs_serially : (earlier seen : List Answer) (cells : Key → Cell) (answers : List Answer) → SoFar cluster whole earlier seen cells
      → OutcomesInOrder cluster whole earlier answers → AllByRecursion (λ (a : Answer). Answered (notes_of whole) a.id) answers → RunsSerially cluster whole cells (firsts_after seen answers)
  runs_serially earlier seen cells [] so_far order answered = record { bodies = []; bodies_are = refl; replies_are = refl }
  runs_serially earlier seen cells (a ∷ answers) so_far order answered =
      cond_both (is_answered a.id seen) (firsts_after (a ∷ seen) answers) (a ∷ firsts_after (a ∷ seen) answers) (RunsSerially cluster whole cells)
      (λ old. runs_serially (earlier ++ a ∷ []) (a ∷ seen) cells answers (again earlier seen cells so_far a order.0 old) order.1 answered.1)
      (λ new. first_runs earlier seen cells so_far a order.0 new answered.0 (firsts_after (a ∷ seen) answers)
      (runs_serially (earlier ++ a ∷ []) (a ∷ seen) (map_after cells order.0.is.finished.body) answers (then_so_far earlier seen cells so_far a order.0 new answered.0) order.1 answered.1))

  pub start_so_far : SoFar cluster whole [] [] (λ key. None)
  start_so_far =
      record {
        seen_all = λ y h. h;
        closed = λ z y body key h has used b. absurd (false≢true h);
        latest = λ key. Unwritten refl (record { none = λ y c h w. false≢true h });
      }
