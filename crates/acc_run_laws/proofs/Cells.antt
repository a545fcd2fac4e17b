-- The cells of a store hold such texts as a cell may hold, and what it reads and keeps of a transaction is short enough for the
-- format, where each message that it took is bounded.
use Rattle.std.proofs.Common.{ℕ, ◌≤◌, ◌==◌, Bool, List, [], ◌∷◌, length, map, filter, Option, Some, None, arith, length-append}
use Rattle.std.specs.Prelude.{IfSome}
use Rattle.std.specs.List.{AllByRecursion}
use Rattle.std.proofs.lemmas.Bool.{cond_both, or_parts}
use Rattle.acc_stamp.specs.declared.stamps.TxnId.{TxnId}
use Rattle.acc_stamp.specs.Stamp.{id_eq}
use Rattle.acc_stamp.proofs.Rising.{each_filter, each_append}
use Rattle.acc_topology.specs.Layout.{Layout}
use Rattle.acc_topology.specs.Keys.{shard_of_key}
use Rattle.acc_value.specs.declared.key.Key.{Key}
use Rattle.acc_value.specs.declared.value.Value.{Value}
use Rattle.acc_value.specs.Cells.{applied}
use Rattle.acc_txn.specs.declared.parts.Let.{Let}
use Rattle.acc_txn.specs.declared.parts.Select.{Select}
use Rattle.acc_txn.specs.declared.parts.Select.TheVariants.{Nothing, Names, Get}
use Rattle.acc_txn.specs.declared.parts.BodyParts.{BodyParts}
use Rattle.acc_txn.specs.declared.outcome.Outcome.{Outcome}
use Rattle.acc_txn.specs.Rules.{IsBody, is_many, selected_names, some_expression, is_long}
use Rattle.acc_txn.specs.Uses.{selected_keys, read_keys, footprint_of}
use Rattle.acc_code.specs.Short.{IsShortKey, IsShortLet, IsShortSelect, HoldsText, AreShortCells, IsShortOutcome}
use Rattle.acc_code.proofs.BodyFacts.{short_body}
use Rattle.acc_code.proofs.RulesGiven.{few, keeps}
use Rattle.acc_message.specs.declared.answer.ReadAnswer.{ReadAnswer}
use Rattle.acc_message.specs.declared.message.Message.{Message}
use Rattle.acc_message.specs.declared.message.Message.TheVariants.{PreAccept, PreAcceptOk, Accept, AcceptOk, Commit, CommitOk, Stable, ReadOk, Apply, Recover, RecoverOk, Nack, Decided, Inform}
use Rattle.acc_message.specs.Taken.{Taken}
use Rattle.acc_message.specs.BallotRules.{outcome_in, kept_outcome}
use Rattle.acc_message.specs.Opening.{Change, changes_of, writes_of, writes_in, written_by, written_by_all, cells_at}
use Rattle.acc_message.specs.StoreRules.{read_here, read_by, kept_or}
use Rattle.acc_message_code.specs.Short.{IsShortAnswer}
use Rattle.acc_run_laws.proofs.Bounded.{IsBounded, HasBoundedContent}
use Rattle.acc_run_laws.proofs.Unions.{or_else_if, each_mapped}
use Rattle.acc_run_laws.proofs.Outcomes.{IsShortPair, short_cells, no_cells, ArePut, put_each, found_holds}

-- ---- outcomes that are kept

abbrev pub KeepsShort : Option Outcome → Type 0
KeepsShort o = IfSome o IsShortOutcome

module _ (most : ℕ) (begun : List TxnId) where
  outcome_in_short : (x : TxnId) (m : Message) → HasBoundedContent most begun m → KeepsShort (outcome_in x m)
  outcome_in_short x (Apply from to id ballot body t deps outcome) h = cond_both (id_eq id x) (Some outcome) None KeepsShort (λ _. h.1) (λ _. tt)
  outcome_in_short x (PreAccept from to id ballot body) h = tt
  outcome_in_short x (PreAcceptOk from to id ballot vote deps) h = tt
  outcome_in_short x (Accept from to id ballot body t deps) h = tt
  outcome_in_short x (AcceptOk from to id ballot deps) h = tt
  outcome_in_short x (Commit from to id ballot body t deps) h = tt
  outcome_in_short x (CommitOk from to id ballot) h = tt
  outcome_in_short x (Stable from to id ballot body t deps) h = tt
  outcome_in_short x (ReadOk from to id ballot answer) h = tt
  outcome_in_short x (Recover from to id ballot body) h = tt
  outcome_in_short x (RecoverOk from to id ballot view) h = tt
  outcome_in_short x (Nack from to id ballot promised) h = tt
  outcome_in_short x (Decided from to id ballot t deps) h = tt
  outcome_in_short x (Inform from to id ballot outcome) h = tt

  -- each message of the history is bounded
  abbrev pub TookBounded : List Taken → Type 0
  TookBounded history = AllByRecursion (λ (step : Taken). IsBounded most begun step.message) history

  pub kept_short : (history : List Taken) (x : TxnId) → TookBounded history → KeepsShort (kept_outcome history x)
  kept_short [] x h = tt
  kept_short (step ∷ past) x h =
      or_else_if IsShortOutcome (kept_outcome past x) (outcome_in x step.message) (kept_short past x h.1) (outcome_in_short x step.message h.0.content)

  -- ---- cells

  abbrev pub HoldTexts : (Key → Option Value) → Type 0
  HoldTexts cells = (key : Key) → HoldsText (cells key)

  writes_hold : (o : Option Outcome) → KeepsShort o → AllByRecursion (λ p. HoldsText p.1) (writes_of o)
  writes_hold None h = tt
  writes_hold (Some outcome) h = h.writes.texts

  written_holds : (layout : Layout) (shard : ℕ) (history : List Taken) → TookBounded history → (c : Change) (cells : Key → Option Value) → HoldTexts cells
      → HoldTexts (written_by layout shard history c cells)
  written_holds layout shard history took c cells h =
      cond_both c.applies (applied cells (writes_in layout shard (kept_outcome history c.id))) cells HoldTexts
      (λ _ key.
      found_holds (writes_in layout shard (kept_outcome history c.id)) key (cells key)
      (each_filter (λ p. HoldsText p.1) (λ w. shard_of_key layout w.0 == shard) (writes_of (kept_outcome history c.id))
      (writes_hold (kept_outcome history c.id) (kept_short history c.id took)))
      (h key))
      (λ _. h)

  pub all_written_hold : (layout : Layout) (shard : ℕ) (history : List Taken) → TookBounded history → (changes : List Change) (cells : Key → Option Value) → HoldTexts cells
      → HoldTexts (written_by_all layout shard history changes cells)
  all_written_hold layout shard history took [] cells h = h
  all_written_hold layout shard history took (c ∷ changes) cells h =
      all_written_hold layout shard history took changes (written_by layout shard history c cells) (written_holds layout shard history took c cells h)

  pub cells_hold : (layout : Layout) (shard : ℕ) (history : List Taken) → TookBounded history → HoldTexts (cells_at layout shard history)
  cells_hold layout shard [] took = λ key. tt
  cells_hold layout shard (step ∷ past) took =
      all_written_hold layout shard (step ∷ past) took (changes_of shard step past) (cells_at layout shard past) (cells_hold layout shard past took.1)

  -- ---- reads

  few_lets : (body : BodyParts) → IsBody body → length body.lets ≤ 16
  few_lets body rules =
      let k = keeps body rules in
      let uses = or_parts _ (is_many (length (footprint_of body))) k.size in
      let long = or_parts _ (some_expression is_long body) uses.0 in
      let updates = or_parts _ (is_many (length body.updates)) long.0 in
      let guards = or_parts _ (is_many (length body.guards)) updates.0 in
      few (length body.lets) (or_parts (is_many (length body.lets)) (is_many (length (selected_names body.select))) guards.0).0

  selected_short : (select : Select) → IsShortSelect select → AllByRecursion IsShortKey (selected_keys select)
  selected_short Nothing h = tt
  selected_short (Names names) h = tt
  selected_short (Get key) h = (h, tt)

  one_selected : (select : Select) → length (selected_keys select) ≤ 1
  one_selected Nothing = omega arith
  one_selected (Names names) = omega arith
  one_selected (Get key) = omega arith

  length_mapped : {X Y : Type 0} (f : X → Y) (xs : List X) → length (map f xs) ≤ length xs
  length_mapped f [] = omega arith
  length_mapped f (x ∷ xs) = let rest = length_mapped f xs in omega (arith, rest)

  length_filtered : {X : Type 0} (p : X → Bool) (xs : List X) → length (filter p xs) ≤ length xs
  length_filtered p [] = omega arith
  length_filtered p (x ∷ xs) =
      let rest = length_filtered p xs in
      cond_both (p x) (x ∷ filter p xs) (filter p xs) (λ ys. length ys ≤ length (x ∷ xs)) (λ _. omega (arith, rest)) (λ _. omega (arith, rest))

  few_keys : (body : BodyParts) → IsBody body → length (read_keys body) ≤ 17
  few_keys body rules =
      omega (
        arith,
        length-append (map (λ (l : Let). l.key) body.lets) (selected_keys body.select),
        length_mapped (λ (l : Let). l.key) body.lets,
        few_lets body rules,
        one_selected body.select,
      )

  keys_short : (body : BodyParts) → IsBody body → AllByRecursion IsShortKey (read_keys body)
  keys_short body rules =
      let short = short_body body rules in
      each_append IsShortKey (map (λ (l : Let). l.key) body.lets) (selected_keys body.select)
      (each_mapped IsShortLet IsShortKey (λ (l : Let). l.key) body.lets (λ l k. k.key) short.lets) (selected_short body.select short.select)

  with_cells : (cells : Key → Option Value) (keys : List Key) → HoldTexts cells → AllByRecursion IsShortKey keys → AllByRecursion (λ key. IsShortPair (key, cells key)) keys
  with_cells cells [] h k = tt
  with_cells cells (key ∷ keys) h k = ((k.0, h key), with_cells cells keys h k.1)

  read_cells : (n : ℕ) (pairs : List (Key × Option Value)) → n ≤ 17 → ArePut n pairs → AreShortCells pairs
  read_cells n pairs le h = short_cells pairs h.all (omega (arith, le, h.few))

  here_short : (layout : Layout) (shard : ℕ) (body : BodyParts) (cells : Key → Option Value) → IsBody body → HoldTexts cells
      → AreShortCells (read_here layout shard body cells)
  here_short layout shard body cells rules h =
      let keys : List Key = filter (λ key. shard_of_key layout key == shard) (read_keys body) in
      let count : length keys ≤ 17 = omega (arith, length_filtered (λ key. shard_of_key layout key == shard) (read_keys body), few_keys body rules) in
      read_cells (length keys) (read_here layout shard body cells) count
      (put_each (λ key. (key, cells key)) keys [] (length keys)
      (with_cells cells keys h (each_filter IsShortKey (λ key. shard_of_key layout key == shard) (read_keys body) (keys_short body rules))) tt (omega arith))

  pub read_short : (layout : Layout) (shard : ℕ) (o : Option BodyParts) (cells : Key → Option Value) → IfSome o IsBody → HoldTexts cells
      → IsShortAnswer (read_by layout shard o cells)
  read_short layout shard None cells rules h = no_cells
  read_short layout shard (Some body) cells rules h = here_short layout shard body cells rules h

  pub kept_or_short : (o : Option Outcome) (other : ReadAnswer) → KeepsShort o → IsShortAnswer other → IsShortAnswer (kept_or o other)
  kept_or_short None other h k = k
  kept_or_short (Some outcome) other h k = h
