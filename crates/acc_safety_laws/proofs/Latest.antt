-- The latest of the writes to a key, by the timestamps of those that made them.
use Rattle.std.proofs.Common.{◌≡◌, false, Option, None, Some, refl, sym, ◌∙◌, ap, subst, ◌⊎◌, ⊎_elim}
use Rattle.std.specs.Prelude.{unwrap_or}
use Rattle.acc_stamp.specs.declared.stamps.Stamp.{Stamp}
use Rattle.acc_stamp.specs.declared.stamps.TxnId.{TxnId}
use Rattle.acc_stamp.specs.Stamp.{stamp_lt}
use Rattle.acc_stamp.proofs.Order.{stamp_order}
use Rattle.acc_value.specs.declared.key.Key.{Key}
use Rattle.acc_actor_laws.proofs.OpeningFacts.{some_is}
use Rattle.acc_safety_laws.proofs.Cell.{Cell}

-- what a transaction wrote to a key
abbrev pub Writes : Type 0
Writes = TxnId → Key → Option Cell

-- no transaction among these wrote the key
pub record NoWriter (wrote : Writes) (among : TxnId → Type 0) (key : Key) : Type 0 where
  pub none : (y : TxnId) (cell : Cell) → among y → wrote y key ≡ Some cell → ⊥

-- one of these wrote the cell to the key, and no other that wrote the key has a greater timestamp
pub record LastWriter (time : TxnId → Stamp) (wrote : Writes) (among : TxnId → Type 0) (key : Key) (cell : Cell) : Type 0 where
  pub writer : TxnId
  pub is_among : among writer
  pub cell_is : wrote writer key ≡ Some cell
  pub last : (z : TxnId) (other : Cell) → among z → wrote z key ≡ Some other → stamp_lt (time writer) (time z) ≡ false

-- the cell is what the latest of these wrote to the key, and null where none did
pub data IsLatest (time : TxnId → Stamp) (wrote : Writes) (among : TxnId → Type 0) (key : Key) (cell : Cell) : Type 0 where
  Unwritten : cell ≡ None → NoWriter wrote among key → IsLatest time wrote among key cell
  Written : LastWriter time wrote among key cell → IsLatest time wrote among key cell

module _ (time : TxnId → Stamp) (wrote : Writes) (key : Key) where
  -- only those among them that wrote the key matter
  pub same_latest : (among others : TxnId → Type 0) (cell : Cell)
      → ((y : TxnId) (c : Cell) → among y → wrote y key ≡ Some c → others y)
      → ((y : TxnId) (c : Cell) → others y → wrote y key ≡ Some c → among y)
      → IsLatest time wrote among key cell → IsLatest time wrote others key cell
  same_latest among others cell to from (Unwritten is none) =
      Unwritten is (record { none = λ y c h w. none.none y c (from y c h w) w })
  same_latest among others cell to from (Written l) =
      Written (record {
        writer = l.writer;
        is_among = to l.writer cell l.is_among l.cell_is;
        cell_is = l.cell_is;
        last = λ z other h w. l.last z other (from z other h w) w;
      })

  -- there is one latest cell, where those that wrote the key have timestamps of their own
  pub one_latest : (among : TxnId → Type 0) (a b : Cell)
      → ((y z : TxnId) (c d : Cell) → wrote y key ≡ Some c → wrote z key ≡ Some d → time y ≡ time z → y ≡ z)
      → IsLatest time wrote among key a → IsLatest time wrote among key b → a ≡ b
  one_latest among a b own (Unwritten is none) (Unwritten is_too none_too) = is ∙ sym is_too
  one_latest among a b own (Unwritten is none) (Written l) = absurd (none.none l.writer b l.is_among l.cell_is)
  one_latest among a b own (Written l) (Unwritten is none) = absurd (none.none l.writer a l.is_among l.cell_is)
  one_latest among a b own (Written l) (Written m) =
      some_is a b (sym l.cell_is ∙ ap (λ y. wrote y key) same ∙ m.cell_is)
    where
      same : l.writer ≡ m.writer
      same =
          own l.writer m.writer a b l.cell_is m.cell_is
          (stamp_order.connected (time l.writer) (time m.writer) (l.last m.writer b m.is_among m.cell_is) (m.last l.writer a l.is_among l.cell_is))

  -- one transaction more, above all that wrote the key if it writes it
  pub latest_more : (among more : TxnId → Type 0) (x : TxnId) (cell : Cell)
      → ((y : TxnId) → more y → among y ⊎ (x ≡ y)) → ((y : TxnId) → among y → more y) → more x
      → ((c : Cell) (z : TxnId) (d : Cell) → wrote x key ≡ Some c → among z → wrote z key ≡ Some d → stamp_lt (time x) (time z) ≡ false)
      → IsLatest time wrote among key cell → IsLatest time wrote more key (unwrap_or (wrote x key) cell)
  latest_more among more x cell split keep new above latest = by (wrote x key) refl latest
    where
      by : (o : Option Cell) → wrote x key ≡ o → IsLatest time wrote among key cell → IsLatest time wrote more key (unwrap_or o cell)
      by None is latest =
          same_latest among more cell (λ y c h w. keep y h)
          (λ y c h w. ⊎_elim (λ k. k) (λ same. absurd (none_here c (sym is ∙ ap (λ y. wrote y key) same ∙ w))) (split y h)) latest
        where
          none_here : (c : Cell) → None ≡ Some c → ⊥
          none_here c e = cc
      by (Some c) is latest =
          Written (record {
            writer = x;
            is_among = new;
            cell_is = is;
            last = λ z d h w. ⊎_elim (λ k. above c z d is k w)
                (λ same. subst (λ y. stamp_lt (time x) (time y) ≡ false) same (stamp_order.irrefl (time x))) (split z h);
          })
