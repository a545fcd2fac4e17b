-- An outcome that a node finds in right answers is right.
use Rattle.std.proofs.Common.{◌≡◌, ◌==◌, ◌<◌, ℕ, Bool, true, false, List, [], ◌∷◌, Option, None, Some, refl, sym, ◌∙◌, ap, subst, ⊎_elim, arith}
use Rattle.std.specs.List.{AllByRecursion, list_all}
use Rattle.std.proofs.lemmas.Bool.{true≢false, false≢true, and_parts, or_left, or_right, or_cases, cond_both, eqb-true, eq-eqb}
use Rattle.acc_stamp.specs.declared.stamps.TxnId.{TxnId}
use Rattle.acc_stamp.specs.Actor.{shard_of}
use Rattle.acc_topology.specs.Layout.{Layout, IsLayout}
use Rattle.acc_topology.specs.Keys.{shard_of_key, shards_of}
use Rattle.acc_topology.specs.Sets.{is_among}
use Rattle.acc_topology.proofs.Ends.{shard_of-holds}
use Rattle.acc_topology.proofs.Listed.{AreSmall, is_among-in_order}
use Rattle.acc_value.specs.declared.key.Key.{Key}
use Rattle.acc_value.specs.Key.{key_eq}
use Rattle.acc_value.specs.Pairs.{find}
use Rattle.acc_value.specs.Cells.{cell_of}
use Rattle.acc_value.proofs.KeyOrder.{key_eq-true}
use Rattle.acc_txn.specs.declared.parts.BodyParts.{BodyParts}
use Rattle.acc_txn.specs.declared.outcome.Outcome.{Outcome}
use Rattle.acc_txn.specs.Uses.{is_read, footprint_of}
use Rattle.acc_base.specs.Faults.{or_else}
use Rattle.acc_message.specs.declared.answer.ReadAnswer.TheVariants.{Values, Known}
use Rattle.acc_message.specs.declared.message.Message.{Message}
use Rattle.acc_message.specs.declared.message.Message.TheVariants.{PreAccept, ReadOk}
use Rattle.acc_message.specs.declared.note.Note.{Note}
use Rattle.acc_message.specs.declared.item.Item.{Item}
use Rattle.acc_message.specs.Fields.{id_of, from_of}
use Rattle.acc_message.specs.Shares.{shards_used}
use Rattle.acc_message.specs.Attempts.{is_read_ok, known_in, known_among, cell_in, cell_read, has_read, read_everywhere, outcome_if, outcome_from}
use Rattle.acc_message.specs.Run.{Cluster}
use Rattle.acc_actor_laws.proofs.Standing.{not_none}
use Rattle.acc_actor_laws.proofs.OpeningFacts.{some_is}
use Rattle.acc_safety.specs.Polls.{IsBody}
use Rattle.acc_safety_laws.proofs.Cell.{Cell}
use Rattle.acc_safety_laws.proofs.Notions.{uses, IsDecided, Below, IsLatestBelow, Answered, Finished, Reading, IsRight}
use Rattle.acc_safety_laws.proofs.Facts.{or_else_cases, used_is_found, Premises}

-- ---- the shards that a body uses

pub shard_is_small : (layout : Layout) (key : Key) → IsLayout layout → shard_of_key layout key < 16
shard_is_small layout key is =
    let held = shard_of-holds layout key.key is.ends in
    omega (arith, held.exists.1, is.few_shards)

pub shards_are_small : (layout : Layout) (list : List (Key × Bool)) → IsLayout layout → AreSmall (shards_of layout list)
shards_are_small layout [] is n h = absurd (false≢true h)
shards_are_small layout (p ∷ list) is n h =
    ⊎_elim (λ same. subst (λ m. m < 16) (eqb-true (shard_of_key layout p.0) n same) (shard_is_small layout p.0 is))
    (shards_are_small layout list is n) (or_cases (shard_of_key layout p.0 == n) (is_among (shards_of layout list) n) h)

pub found_shard : (layout : Layout) (list : List (Key × Bool)) (key : Key) (w : Bool) → find list key ≡ Some w → is_among (shards_of layout list) (shard_of_key layout key) ≡ true
found_shard layout [] key w e = absurd (not_none w e)
found_shard layout (p ∷ list) key w e =
    cond_both (key_eq key p.0) (Some p.1) (find list key) (λ o. o ≡ Some w → is_among (shards_of layout (p ∷ list)) (shard_of_key layout key) ≡ true)
    (λ same _. or_left _ _ (eq-eqb (shard_of_key layout p.0) (shard_of_key layout key) (ap (shard_of_key layout) (sym (key_eq-true key p.0 same)))))
    (λ _ k. or_right (shard_of_key layout p.0 == shard_of_key layout key) _ (found_shard layout list key w k)) e

list_all_at : (test : ℕ → Bool) (ns : List ℕ) (n : ℕ) → list_all test ns ≡ true → is_among ns n ≡ true → test n ≡ true
list_all_at test [] n all among = absurd (false≢true among)
list_all_at test (m ∷ ns) n all among =
    let parts = and_parts (test m) (list_all test ns) all in
    ⊎_elim (λ same. subst (λ k. test k ≡ true) (eqb-true m n same) parts.0) (list_all_at test ns n parts.1) (or_cases (m == n) (is_among ns n) among)

module _ (cluster : Cluster) (whole : List Item) (given : Premises cluster whole) (notes : List Note) (x : TxnId) where
  -- a right answer to x's read
  pub record IsReadOf (m : Message) : Type 0 where
    pub about : id_of m ≡ x
    pub reads : is_read_ok m ≡ true
    pub right : IsRight cluster whole notes m

  abbrev pub AreReads : List Message → Type 0
  AreReads answers = AllByRecursion IsReadOf answers

  -- ---- a known outcome

  known_right : (m : Message) (o : Outcome) → IsReadOf m → known_in m ≡ Some o → Finished cluster whole notes x o
  known_right (ReadOk from to id ballot (Known outcome)) o is e =
      subst (λ p. Finished cluster whole notes x p) (some_is outcome o e) (subst (λ y. Finished cluster whole notes y outcome) is.about is.right.finished)
  known_right (ReadOk from to id ballot (Values cells)) o is e = absurd (not_none o e)
  known_right _ o is e = absurd (not_none o e)

  known_among_right : (answers : List Message) (o : Outcome) → AreReads answers → known_among answers ≡ Some o → Finished cluster whole notes x o
  known_among_right [] o are e = absurd (not_none o e)
  known_among_right (m ∷ answers) o are e =
      ⊎_elim (known_right m o are.0) (known_among_right answers o are.1) (or_else_cases (known_in m) (known_among answers) o e)

  -- ---- cells

  -- the cells of an answer, which has no outcome
  record HasCells (m : Message) : Type 0 where
    cells : List (Key × Cell)
    reading : Reading cluster whole notes x (shard_of (from_of m)) cells
    cell_is : (key : Key) → cell_in key m ≡ cell_of cells key

  has_cells : (m : Message) → IsReadOf m → known_in m ≡ None → HasCells m
  has_cells (ReadOk from to id ballot (Values cells)) is e =
      record { cells = cells; reading = subst (λ y. Reading cluster whole notes y (shard_of from) cells) is.about is.right; cell_is = λ key. refl }
  has_cells (ReadOk from to id ballot (Known outcome)) is e = absurd (not_none outcome (sym e))
  has_cells (PreAccept from to id ballot body) is e = absurd (false≢true is.reads)
  has_cells _ is e = absurd (false≢true is.reads)

  none_known : (m : Message) (answers : List Message) → known_among (m ∷ answers) ≡ None → (known_in m ≡ None) × (known_among answers ≡ None)
  none_known m answers = by (known_in m) refl
    where
      by : (o : Option Outcome) → known_in m ≡ o → or_else o (known_among answers) ≡ None → (known_in m ≡ None) × (known_among answers ≡ None)
      by None is e = (is, e)
      by (Some o) is e = absurd (not_none o (sym e))

  cell_is_latest : (answers : List Message) (body : BodyParts) (key : Key) → AreReads answers → known_among answers ≡ None → IsBody cluster whole x body → is_read body key ≡ true
      → has_read answers (shard_of_key cluster.layout key) ≡ true → IsLatestBelow cluster whole x key (cell_read cluster.layout answers key)
  cell_is_latest [] body key are none has read answered = absurd (false≢true answered)
  cell_is_latest (m ∷ answers) body key are none has read answered =
      cond_both (shard_of (from_of m) == shard_of_key cluster.layout key) (cell_in key m) (cell_read cluster.layout answers key) (IsLatestBelow cluster whole x key)
      (λ here. subst (IsLatestBelow cluster whole x key) (sym (c.cell_is key)) (c.reading.latest body key has read (sym (eqb-true (shard_of (from_of m)) (shard_of_key cluster.layout key) here))))
      (λ elsewhere. cell_is_latest answers body key are.1 known.1 has read
      (⊎_elim (λ here. absurd (true≢false (sym here ∙ elsewhere))) (λ later. later)
      (or_cases (shard_of (from_of m) == shard_of_key cluster.layout key) (has_read answers (shard_of_key cluster.layout key)) answered)))
    where
      known : (known_in m ≡ None) × (known_among answers ≡ None)
      known = none_known m answers none

      c : HasCells m
      c = has_cells m are.0 known.0

  below_are_noted : (answers : List Message) (shard : ℕ) (y : TxnId) → AreReads answers → known_among answers ≡ None → has_read answers shard ≡ true
      → Below cluster whole shard y x → Answered notes y
  below_are_noted [] shard y are none answered b = absurd (false≢true answered)
  below_are_noted (m ∷ answers) shard y are none answered b =
      let known = none_known m answers none in
      ⊎_elim
      (λ here. (has_cells m are.0 known.0).reading.behind y (subst (λ s. Below cluster whole s y x) (sym (eqb-true (shard_of (from_of m)) shard here)) b))
      (λ later. below_are_noted answers shard y are.1 known.1 later b)
      (or_cases (shard_of (from_of m) == shard) (has_read answers shard) answered)

  -- ---- the outcome

  pub outcome_is_right : (body : BodyParts) (answers : List Message) (o : Outcome) → IsBody cluster whole x body → IsDecided cluster whole x → AreReads answers
      → outcome_from cluster.layout body answers ≡ Some o → Finished cluster whole notes x o
  outcome_is_right body answers o has decided are = by (known_among answers) refl (read_everywhere cluster.layout body answers) refl
    where
      answered : (key : Key) → read_everywhere cluster.layout body answers ≡ true → uses body key ≡ true → has_read answers (shard_of_key cluster.layout key) ≡ true
      answered key everywhere used =
          let found = used_is_found cluster whole given body key used in
          list_all_at (has_read answers) (shards_used cluster.layout body) (shard_of_key cluster.layout key) everywhere
          (is_among-in_order (shards_of cluster.layout (footprint_of body)) (shards_are_small cluster.layout (footprint_of body) given.layout) (shard_of_key cluster.layout key)
          ∙ found_shard cluster.layout (footprint_of body) key found.0 found.1)

      by : (k : Option Outcome) → known_among answers ≡ k → (b : Bool) → read_everywhere cluster.layout body answers ≡ b
          → or_else k (outcome_if b cluster.layout body answers) ≡ Some o → Finished cluster whole notes x o
      by (Some p) known b everywhere e = known_among_right answers o are (known ∙ e)
      by None known false everywhere e = absurd (not_none o e)
      by None known true everywhere e =
          record {
            body = body;
            body_is = has;
            decided = decided;
            cells = cell_read cluster.layout answers;
            outcome_is = sym (some_is _ o e);
            latest = λ key read. cell_is_latest answers body key are known has read (answered key everywhere (or_left (is_read body key) _ read));
            behind = λ key y used b. below_are_noted answers (shard_of_key cluster.layout key) y are known (answered key everywhere used) b;
          }
