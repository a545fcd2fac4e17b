-- A store that took right messages sends right ones.
use Rattle.std.proofs.Common.{◌≡◌, ◌==◌, ℕ, Bool, true, false, cond, List, [], ◌∷◌, Option, None, Some, is_some, filter, refl, sym, ◌∙◌, ap, subst, ⊎_elim}
use Rattle.std.specs.List.{AllByRecursion, fold, list_any}
use Rattle.std.specs.Prelude.{unwrap_or}
use Rattle.std.proofs.lemmas.Bool.{true≢false, or_left, or_right, or_cases, cond_both, cond-true, eq-eqb}
use Rattle.acc_stamp.specs.declared.stamps.TxnId.{TxnId}
use Rattle.acc_stamp.specs.declared.actors.Actor.{Actor}
use Rattle.acc_stamp.specs.Actor.{shard_of}
use Rattle.acc_stamp.specs.Stamp.{id_eq, stamp_lt}
use Rattle.acc_stamp.proofs.Order.{id_order}
use Rattle.acc_stamp.proofs.Rising.{each_weaker}
use Rattle.acc_topology.specs.Keys.{shard_of_key}
use Rattle.acc_deps.specs.declared.records.Settled.{Settled}
use Rattle.acc_value.specs.declared.key.Key.{Key}
use Rattle.acc_value.specs.Key.{key_eq}
use Rattle.acc_value.specs.Pairs.{find, put}
use Rattle.acc_value.specs.Cells.{cell_of}
use Rattle.acc_value.proofs.KeyOrder.{key_eq-true}
use Rattle.acc_value.proofs.Rising.{find-filter, find-put}
use Rattle.acc_txn.specs.declared.parts.BodyParts.{BodyParts}
use Rattle.acc_txn.specs.declared.outcome.Outcome.{Outcome}
use Rattle.acc_txn.specs.Uses.{read_keys, is_read, is_updated}
use Rattle.acc_txn.specs.Meaning.{outcome_of}
use Rattle.acc_txn.proofs.Agree.{outcome_of-agree}
use Rattle.acc_txn.proofs.Writes.{find-outcome_of}
use Rattle.acc_message.specs.declared.message.Message.{Message}
use Rattle.acc_message.specs.declared.message.Message.TheVariants.{Apply}
use Rattle.acc_message.specs.declared.note.Note.{Note}
use Rattle.acc_message.specs.declared.item.Item.{Item}
use Rattle.acc_message.specs.Fields.{id_of}
use Rattle.acc_message.specs.Taken.{body_in, Taken, taking, known, heard_body}
use Rattle.acc_message.specs.BallotRules.{stable_of, kept_outcome, outcome_in}
use Rattle.acc_message.specs.Opening.{Change, is_opened, writes_in, written_by_all, cells_at}
use Rattle.acc_message.specs.StoreRules.{read_here, read_by, kept_or}
use Rattle.acc_message.specs.Run.{Cluster}
use Rattle.acc_safety.specs.Polls.{IsBody}
use Rattle.acc_safety_laws.proofs.Cell.{Cell}
use Rattle.acc_safety_laws.proofs.Latest.{one_latest}
use Rattle.acc_safety_laws.proofs.Timeline.{left_by, left_is_latest_below}
use Rattle.acc_safety_laws.proofs.Pass.{Covered}
use Rattle.acc_safety_laws.proofs.StoreChanges.{EachCovered, some_value}
use Rattle.acc_safety.specs.StoreSends.{StoreSends, Votes, Accepts, Commits, Reveals, ReadsAtOnce, ReadsOnOpening, Refuses, Tells}
use Rattle.acc_safety_laws.proofs.StoreReads.{Moment, writes, EachKept, ReadAt, read_at_once, read_on_opening}
use Rattle.acc_actor_laws.proofs.Standing.{not_none, stable_of-known}
use Rattle.acc_actor_laws.proofs.OpeningFacts.{some_is}
use Rattle.acc_safety_laws.proofs.Notions.{time_of, IsDecision, IsDecided, outcome_first, wrote, written_at, Below, IsLatestBelow, Answered, Finished, IsOutcome, Reading, RightAnswer, IsRight, SettlesDecided}
use Rattle.acc_safety_laws.proofs.Facts.{Premises, time_is, decided_from, own_times, wrote_tells, writer_below, below_writer}
use Rattle.acc_safety_laws.proofs.Histories.{stable_from, kept_from, heard_from, heard_has_body}

-- ---- the cells that are read

-- what one key of a list puts
find-put_keys : (p : Key → Bool) (cells : Key → Cell) (keys : List Key) (so_far : List (Key × Cell)) (key : Key) → cell_of so_far key ≡ cells key
    → cell_of (fold (λ list k. put list k (cells k)) so_far (filter p keys)) key ≡ cells key
find-put_keys p cells [] so_far key h = h
find-put_keys p cells (k ∷ keys) so_far key h =
    cond_both (p k) (k ∷ filter p keys) (filter p keys) (λ list. cell_of (fold (λ list k. put list k (cells k)) so_far list) key ≡ cells key)
    (λ _. find-put_keys p cells keys (put so_far k (cells k)) key (ap (λ o. unwrap_or o None) (find-put so_far k (cells k) key) ∙ by (key_eq key k) refl))
    (λ _. find-put_keys p cells keys so_far key h)
  where
    by : (b : Bool) → key_eq key k ≡ b → unwrap_or (cond b (Some (cells k)) (find so_far key)) None ≡ cells key
    by true same = ap cells (sym (key_eq-true key k same))
    by false other = h

pub key_is_read : (p : Key → Bool) (cells : Key → Cell) (keys : List Key) (so_far : List (Key × Cell)) (key : Key) → p key ≡ true → list_any (key_eq key) keys ≡ true
    → cell_of (fold (λ list k. put list k (cells k)) so_far (filter p keys)) key ≡ cells key
key_is_read p cells [] so_far key passes among = absurd (true≢false (sym among))
key_is_read p cells (k ∷ keys) so_far key passes among =
    ⊎_elim
    (λ same. cond_both (p k) (k ∷ filter p keys) (filter p keys) (λ list. cell_of (fold (λ list k. put list k (cells k)) so_far list) key ≡ cells key)
    (λ _. find-put_keys p cells keys (put so_far k (cells k)) key
    (ap (λ o. unwrap_or o None) (find-put so_far k (cells k) key ∙ cond-true (key_eq key k) (Some (cells k)) (find so_far key) same) ∙ ap cells (sym (key_eq-true key k same))))
    (λ not_p. absurd (true≢false (sym passes ∙ ap p (key_eq-true key k same) ∙ not_p))))
    (λ later. cond_both (p k) (k ∷ filter p keys) (filter p keys) (λ list. cell_of (fold (λ list k. put list k (cells k)) so_far list) key ≡ cells key)
    (λ _. key_is_read p cells keys (put so_far k (cells k)) key passes later)
    (λ _. key_is_read p cells keys so_far key passes later))
    (or_cases (key_eq key k) (list_any (key_eq key) keys) among)

-- ---- right messages

-- A message has the begun body, settles what is decided and is right. The outcome of an Apply is the first one.
pub record IsSound (cluster : Cluster) (whole : List Item) (notes : List Note) (m : Message) : Type 0 where
  pub body : (body : BodyParts) → body_in m ≡ Some body → IsBody cluster whole (id_of m) body
  pub settled : SettlesDecided cluster whole m
  pub right : IsRight cluster whole notes m
  pub first : (x : TxnId) (o : Outcome) → outcome_in x m ≡ Some o → outcome_first cluster whole x ≡ Some o

abbrev pub AllSound : Cluster → List Item → List Note → List Taken → Type 0
AllSound cluster whole notes history = AllByRecursion (λ (step : Taken). IsSound cluster whole notes step.message) history

pub right_outcome : (cluster : Cluster) (whole : List Item) (notes : List Note) (m : Message) (o : Outcome) → IsRight cluster whole notes m → outcome_in (id_of m) m ≡ Some o
    → IsOutcome cluster whole notes (id_of m) o
right_outcome cluster whole notes (Apply from to id ballot body t deps outcome) o right e =
    subst (IsOutcome cluster whole notes id) (some_is outcome o (sym (cond-true (id_eq id id) (Some outcome) None ((id_order.decides id id).1 refl)) ∙ e)) right
right_outcome cluster whole notes _ o right e = absurd (not_none o e)

module _ (cluster : Cluster) (whole : List Item) (given : Premises cluster whole) where
  -- one transaction has one outcome
  pub one_outcome : (notes other : List Note) (x : TxnId) (o p : Outcome) → Finished cluster whole notes x o → Finished cluster whole other x p → o ≡ p
  one_outcome notes other x o p f g =
      f.outcome_is ∙ ap (λ b. outcome_of b f.cells) (same_body)
      ∙ outcome_of-agree f.cells g.cells g.body agree ∙ sym g.outcome_is
    where
      same_body : f.body ≡ g.body
      same_body = some_is f.body g.body (sym f.body_is ∙ g.body_is)

      agree : (key : Key) → is_read g.body key ≡ true → f.cells key ≡ g.cells key
      agree key read =
          one_latest (time_of cluster whole) (wrote cluster whole) key _ (f.cells key) (g.cells key)
          (λ y z c d v w same. own_times cluster whole given y z (wrote_tells cluster whole given y key c v).decided (wrote_tells cluster whole given z key d w).decided same)
          (f.latest key (subst (λ b. is_read b key ≡ true) (sym same_body) read)) (g.latest key read)

  module _ (notes : List Note) where
    history_decided : (history : List Taken) (x : TxnId) (s : Settled) → AllSound cluster whole notes history → stable_of history x ≡ Some s
        → IsDecision cluster whole x s.t s.deps
    history_decided history x s sound =
        stable_from (λ y r. IsDecision cluster whole y r.t r.deps) history x s
        (each_weaker (λ (step : Taken). IsSound cluster whole notes step.message) _ history (λ step h. h.settled) sound)

    history_body : (history : List Taken) (x : TxnId) (body : BodyParts) → AllSound cluster whole notes history → heard_body x (known history) ≡ Some body
        → IsBody cluster whole x body
    history_body history x body sound =
        heard_from (IsBody cluster whole) history x body
        (each_weaker (λ (step : Taken). IsSound cluster whole notes step.message) _ history (λ step h. h.body) sound)

    pub history_finished : (history : List Taken) (x : TxnId) (o : Outcome) → AllSound cluster whole notes history → kept_outcome history x ≡ Some o
        → IsOutcome cluster whole notes x o
    history_finished history x o sound =
        kept_from (IsOutcome cluster whole notes) history x o
        (each_weaker (λ (step : Taken). IsSound cluster whole notes step.message) _ history
        (λ step h r e. right_outcome cluster whole notes step.message r h.right e) sound)

    history_first : (history : List Taken) (x : TxnId) (o : Outcome) → AllSound cluster whole notes history → kept_outcome history x ≡ Some o
        → outcome_first cluster whole x ≡ Some o
    history_first history x o sound =
        kept_from (λ y r. outcome_first cluster whole y ≡ Some r) history x o
        (each_weaker (λ (step : Taken). IsSound cluster whole notes step.message) _ history (λ step h r e. h.first (id_of step.message) r e) sound)

    covered : (shard : ℕ) (history : List Taken) → AllSound cluster whole notes history → Covered shard history (Below cluster whole shard)
    covered shard history sound x y mine stable b = (
      given.coverage shard _ (record { id = x; t = mine.t; deps = mine.deps }) b.first.1 is b.conflict
          (subst (λ t. stamp_lt (time_of cluster whole y) t ≡ true) (time_is cluster whole given x mine.t mine.deps is) b.earlier),
      (λ theirs e.
          ap (λ t. stamp_lt t mine.t) (sym (time_is cluster whole given y theirs.t theirs.deps (history_decided history y theirs sound e)))
          ∙ ap (stamp_lt (time_of cluster whole y)) (sym (time_is cluster whole given x mine.t mine.deps is)) ∙ b.earlier),
    )
      where
        is : IsDecision cluster whole x mine.t mine.deps
        is = history_decided history x mine sound stable

    pub each_covered : (shard : ℕ) (history : List Taken) → AllSound cluster whole notes history → EachCovered shard (Below cluster whole shard) history
    each_covered shard [] sound = tt
    each_covered shard (step ∷ past) sound = (covered shard (step ∷ past) sound, each_covered shard past sound.1)

    module _ (own : Actor) where
      abbrev shard : ℕ
      shard = shard_of own

      abbrev below : TxnId → TxnId → Type 0
      below = Below cluster whole (shard_of own)

      abbrev first : TxnId → Option Outcome
      first = outcome_first cluster whole

      pub each_kept : (history : List Taken) → AllSound cluster whole notes history → EachKept cluster.layout own below first history
      each_kept [] sound = tt
      each_kept (step ∷ past) sound = ((λ y o e. history_first (step ∷ past) y o sound e), each_kept past sound.1)

      module _ (history : List Taken) (sound : AllSound cluster whole notes history) where
        -- what is applied writes what its outcome says
        pub writing : (y : TxnId) (key : Key) → shard_of_key cluster.layout key ≡ shard_of own → is_some (kept_outcome history y) ≡ true
            → find (writes cluster.layout own below first y) key ≡ wrote cluster whole y key
        writing y key here has =
            ap (λ o. find (writes_in cluster.layout (shard_of own) o) key) is_first
            ∙ find-filter (λ k. shard_of_key cluster.layout k == shard_of own) o.0.writes key
            ∙ cond-true (shard_of_key cluster.layout key == shard_of own) (find o.0.writes key) None (eq-eqb (shard_of_key cluster.layout key) (shard_of own) here)
            ∙ updated (is_updated f.body key) refl
            ∙ ap (λ p. written_at (Some f.body) p key) (sym is_first)
            ∙ ap (λ b. written_at b (first y) key) (sym f.body_is)
          where
            o : (o : Outcome) × (kept_outcome history y ≡ Some o)
            o = some_value (kept_outcome history y) has

            f : Finished cluster whole notes y o.0
            f = (history_finished history y o.0 sound o.1).finished

            is_first : first y ≡ Some o.0
            is_first = history_first history y o.0 sound o.1

            updated : (b : Bool) → is_updated f.body key ≡ b → find o.0.writes key ≡ cond b (find o.0.writes key) None
            updated true is = refl
            updated false is = ap (λ (p : Outcome). find p.writes key) f.outcome_is ∙ find-outcome_of f.body f.cells key is

        noted_applied : (changes : List Change) (x y : TxnId) → Moment below history changes x → below y x → Answered notes y
        noted_applied changes x y m b =
            let o = some_value (kept_outcome history y) (m.within y (m.below_applied y b)) in
            (history_finished history y o.0 sound o.1).noted

        latest_at : (changes : List Change) (x : TxnId) (body : BodyParts) (key : Key) → Moment below history changes x → IsBody cluster whole x body → is_read body key ≡ true
            → shard_of_key cluster.layout key ≡ shard_of own → IsDecided cluster whole x
            → IsLatestBelow cluster whole x key (left_by (writes cluster.layout own below first) changes key)
        latest_at changes x body key m body_is read here decided =
            left_is_latest_below below (time_of cluster whole) (wrote cluster whole) (writes cluster.layout own below first) key changes x m.turns
            (λ y h. writing y key here (m.within y h)) meet early late alone m.below_applied m.waits
          where
            at : (y z : TxnId) → Below cluster whole (shard_of_key cluster.layout key) y z → below y z
            at y z b = subst (λ s. Below cluster whole s y z) here b

            meet : (y z : TxnId) (c d : Cell) → wrote cluster whole y key ≡ Some c → wrote cluster whole z key ≡ Some d
                → stamp_lt (time_of cluster whole y) (time_of cluster whole z) ≡ true → below y z
            meet y z c d v w earlier =
                let w' = wrote_tells cluster whole given z key d w in
                at y z (writer_below cluster whole given y z w'.body key c v w'.body_is (or_right (is_read w'.body key) _ w'.updates) w'.decided earlier)

            early : (y : TxnId) (c : Cell) → wrote cluster whole y key ≡ Some c → stamp_lt (time_of cluster whole y) (time_of cluster whole x) ≡ true → below y x
            early y c w h = at y x (writer_below cluster whole given y x body key c w body_is (or_left (is_read body key) _ read) decided h)

            late : (y : TxnId) (c : Cell) → wrote cluster whole y key ≡ Some c → stamp_lt (time_of cluster whole x) (time_of cluster whole y) ≡ true → below x y
            late y c w h = at x y (below_writer cluster whole given y x body key c w body_is (or_left (is_read body key) _ read) decided h)

            alone : (y : TxnId) (c : Cell) → wrote cluster whole y key ≡ Some c → time_of cluster whole y ≡ time_of cluster whole x → y ≡ x
            alone y c w same = own_times cluster whole given y x (wrote_tells cluster whole given y key c w).decided decided same

        -- what is read at a moment
        read_right : (changes : List Change) (x : TxnId) → Moment below history changes x
            → RightAnswer cluster whole notes x (shard_of own) (read_by cluster.layout (shard_of own) (heard_body x (known history)) (left_by (writes cluster.layout own below first) changes))
        read_right changes x m =
            let s = some_value (stable_of history x) m.stable in
            let b = heard_has_body x (known history) (stable_of-known history x s.0 s.1) in
            subst (λ o. RightAnswer cluster whole notes x (shard_of own) (read_by cluster.layout (shard_of own) o (left_by (writes cluster.layout own below first) changes))) (sym b.1)
            (with_body b.0 (history_body history x b.0 sound b.1) (decided_from cluster whole given x s.0.t s.0.deps (history_decided history x s.0 sound s.1)))
          where
            cells : Key → Cell
            cells = left_by (writes cluster.layout own below first) changes

            with_body : (body : BodyParts) → IsBody cluster whole x body → IsDecided cluster whole x
                → Reading cluster whole notes x (shard_of own) (read_here cluster.layout (shard_of own) body (left_by (writes cluster.layout own below first) changes))
            with_body body is decided =
                record {
                  decided = decided;
                  latest = λ other key other_is read here.
                      let same : other ≡ body = some_is other body (sym other_is ∙ is) in
                      subst (IsLatestBelow cluster whole x key)
                      (sym (key_is_read (λ k. shard_of_key cluster.layout k == shard_of own) (left_by (writes cluster.layout own below first) changes) (read_keys body) [] key
                      (eq-eqb (shard_of_key cluster.layout key) (shard_of own) here) (subst (λ p. is_read p key ≡ true) same read)))
                      (latest_at changes x body key m is (subst (λ p. is_read p key ≡ true) same read) here decided);
                  behind = λ y b. noted_applied changes x y m b;
                }

        cells_right : (x : TxnId) (cells : Key → Cell) → ReadAt cluster.layout own below first history x cells
            → RightAnswer cluster whole notes x (shard_of own) (read_by cluster.layout (shard_of own) (heard_body x (known history)) cells)
        cells_right x cells r =
            subst (λ k. RightAnswer cluster whole notes x (shard_of own) (read_by cluster.layout (shard_of own) (heard_body x (known history)) k)) (sym r.cells_are)
            (read_right r.changes x r.moment)

        -- a kept outcome
        known_right : (x : TxnId) (o : Outcome) → kept_outcome history x ≡ Some o → IsOutcome cluster whole notes x o
        known_right x o e = history_finished history x o sound e

      answer_right : (past : List Taken) (x : TxnId) (opened : is_opened (shard_of own) past x ≡ true) → AllSound cluster whole notes past
          → (o : Option Outcome) → kept_outcome past x ≡ o
          → RightAnswer cluster whole notes x (shard_of own)
          (kept_or o (read_by cluster.layout (shard_of own) (heard_body x (known past)) (cells_at cluster.layout (shard_of own) past)))
      answer_right past x opened sound (Some o) is = known_right past sound x o is
      answer_right past x opened sound None is =
          cells_right past sound x (cells_at cluster.layout (shard_of own) past) (read_at_once cluster.layout own below first past x (each_covered (shard_of own) past sound) (each_kept past sound) opened is)

      -- each message that the store sends
      pub sent_right : (past : List Taken) (m s : Message) → AllSound cluster whole notes past → IsSound cluster whole notes m
          → StoreSends cluster.layout own past m s → IsRight cluster whole notes s
      sent_right past m s sound taken (ReadsAtOnce from to x b body t deps answer opened is) =
          subst (RightAnswer cluster whole notes x (shard_of own)) (sym is) (answer_right past x opened sound (kept_outcome past x) refl)
      sent_right past m s sound taken (ReadsOnOpening n c b answer before among opens waits is) =
          subst (RightAnswer cluster whole notes c.id (shard_of own)) (sym is)
          (cells_right (taking n past) (taken, sound) c.id
          (written_by_all cluster.layout (shard_of own) (taking n past) before (cells_at cluster.layout (shard_of own) past))
          (read_on_opening cluster.layout own below first past n c before (each_covered (shard_of own) (taking n past) (taken, sound)) (each_kept (taking n past) (taken, sound)) among opens))
      sent_right past m s sound taken (Votes from to x b body counting v none zero heard given) = tt
      sent_right past m s sound taken (Accepts from to x b body counting t proposed deps none promised heard is) = tt
      sent_right past m s sound taken (Commits from to x b body t deps none promised) = tt
      sent_right past m s sound taken (Reveals from to x b body counting view above heard is) = tt
      sent_right past m s sound taken (Refuses n promised is) = tt
      sent_right past m s sound taken (Tells n r is) = tt
