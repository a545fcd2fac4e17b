-- Cells, keys, lists of cells and outcomes: what is read is what is spelled.
use Rattle.std.proofs.Common.{◌≡◌, ℕ, ℤ, zero, suc, ◌<◌, ◌≤◌, List, [], ◌∷◌, ◌++◌, length, append_assoc, Option, Some, None, Ok, refl, sym, ap, subst, ◌∙◌, IsTrue, arith}
use Rattle.std.specs.Int.{w64}
use Rattle.std.specs.Int.RustNames.{FitsSigned}
use Rattle.std.specs.List.{list_all, AllByRecursion}
use Rattle.std.proofs.lemmas.List.{append-nil}
use Rattle.acc_wire.specs.Spelling.{u8_bytes, i64_bytes, text_bytes, IsShortText}
use Rattle.acc_wire.specs.Reading.{Unread, Read, ◌>>=◌}
use Rattle.acc_wire.proofs.Fields.{IsField, i64_field, text_field}
use Rattle.acc_value.specs.declared.key.Key.{Key}
use Rattle.acc_value.specs.declared.value.Value.{Value}
use Rattle.acc_value.specs.declared.value.Value.TheVariants.{Number as NumberValue, Text as TextValue}
use Rattle.acc_value.specs.Key.{key_lt}
use Rattle.acc_value.specs.Pairs.{IsRising}
use Rattle.acc_txn.specs.declared.outcome.Verdict.{Verdict}
use Rattle.acc_txn.specs.declared.outcome.Verdict.TheVariants.{Ok as Done, Skipped, Overflow}
use Rattle.acc_txn.specs.declared.outcome.Outcome.{Outcome}
use Rattle.acc_txn.specs.Words.{is_text_value}
use Rattle.acc_code.specs.Spelling.{listed, cell_bytes, key_bytes, pair_bytes, cells_bytes, verdict_number, outcome_bytes}
use Rattle.acc_code.specs.Short.{IsShortKey, HoldsText, IsCell, AreCells, IsOutcome}
use Rattle.acc_code.specs.CellReading.{text_value_at, cell_behind, cell_at, any_key_at, next_key_at, pair_at, cells_at, verdict_of, outcome_at}
use Rattle.acc_code.specs.Reading.{listed_at}
use Rattle.acc_code.proofs.Formats.{made_field, made_of_two, tagged_field, done_field, same_field, passing_field, EachFits, listed_field}
use Rattle.acc_code.proofs.Shortness.{short_text, text_of_cell}
use Rattle.acc_code.proofs.Rising.{rising_snoc, rising_front, rising_last}

-- ---- cells

-- a text that a cell may hold
abbrev FitsTextValue : List ℕ → Type 0
FitsTextValue text = IsShortText text × IsTrue (is_text_value text)

passed_text_field : IsField FitsTextValue text_bytes text_value_at
unfolding text_value_at
passed_text_field = passing_field is_text_value text_field

pub text_value_field : IsField (λ text. IsTrue (is_text_value text)) text_bytes text_value_at
text_value_field = same_field passed_text_field (record { to = λ text h. h.1; from = λ text h. (short_text text h, h); bytes_are = λ text h. refl })

abbrev cell_tag : Option Value → ℕ
cell_tag None = 0
cell_tag (Some (NumberValue number)) = 1
cell_tag (Some (TextValue text)) = 2

abbrev cell_tail : Option Value → List ℕ
cell_tail None = []
cell_tail (Some (NumberValue number)) = i64_bytes number
cell_tail (Some (TextValue text)) = text_bytes text

cell_bytes_are : (c : Option Value) → u8_bytes (cell_tag c) ++ cell_tail c ≡ cell_bytes c
unfolding cell_bytes
cell_bytes_are None = refl
cell_bytes_are (Some (NumberValue number)) = refl
cell_bytes_are (Some (TextValue text)) = refl

cell_tag_within : (c : Option Value) → (0 ≤ cell_tag c) × (cell_tag c ≤ 2)
cell_tag_within None = (omega arith, omega arith)
cell_tag_within (Some (NumberValue number)) = (omega arith, omega arith)
cell_tag_within (Some (TextValue text)) = (omega arith, omega arith)

none_only : (c : Option Value) → cell_tag c ≡ 0 → c ≡ None
none_only None e = refl
none_only (Some (NumberValue number)) e = absurd (omega (arith, e))
none_only (Some (TextValue text)) e = absurd (omega (arith, e))

abbrev number_of : ℤ → Option Value
number_of number = Some (NumberValue number)

abbrev text_of : List ℕ → Option Value
text_of text = Some (TextValue text)

number_only : (c : Option Value) → IsCell c → cell_tag c ≡ 1 → (n : ℤ) × FitsSigned w64 n × (c ≡ number_of n)
number_only None fits e = absurd (omega (arith, e))
number_only (Some (NumberValue number)) fits e = (number, fits, refl)
number_only (Some (TextValue text)) fits e = absurd (omega (arith, e))

text_only : (c : Option Value) → IsCell c → cell_tag c ≡ 2 → (t : List ℕ) × IsTrue (is_text_value t) × (c ≡ text_of t)
text_only None fits e = absurd (omega (arith, e))
text_only (Some (NumberValue number)) fits e = absurd (omega (arith, e))
text_only (Some (TextValue text)) fits e = (text, fits, refl)

cell_behind_field : (n : ℕ) → (0 ≤ n) × (n ≤ 2) → IsField (λ c. IsCell c × (cell_tag c ≡ n)) cell_tail (cell_behind n)
cell_behind_field zero h = same_field (done_field None) (record {
  to = λ c e. subst (λ (x : Option Value). IsCell x × (cell_tag x ≡ 0)) (sym e) (tt, refl);
  from = λ c f. none_only c f.1;
  bytes_are = λ c f. ap cell_tail (sym (none_only c f.1));
})
cell_behind_field (suc zero) h = same_field (made_field number_of cell_tail (λ n fits. refl) i64_field) (record {
  to = λ c m. subst (λ (x : Option Value). IsCell x × (cell_tag x ≡ 1)) (sym m.2) (m.1, refl);
  from = λ c f. number_only c f.0 f.1;
  bytes_are = λ c f. refl;
})
cell_behind_field (suc (suc zero)) h = same_field (made_field text_of cell_tail (λ t fits. refl) text_value_field) (record {
  to = λ c m. subst (λ (x : Option Value). IsCell x × (cell_tag x ≡ 2)) (sym m.2) (m.1, refl);
  from = λ c f. text_only c f.0 f.1;
  bytes_are = λ c f. refl;
})
cell_behind_field (suc (suc (suc n))) h = absurd (omega (arith, h.1))

pub cell_field : IsField IsCell cell_bytes cell_at
unfolding cell_at
cell_field = same_field (tagged_field 0 2 cell_tag cell_tail (omega arith) (λ c fits. cell_tag_within c) cell_behind_field) (record { to = λ c h. h; from = λ c h. h; bytes_are = λ c h. cell_bytes_are c })

-- ---- keys

abbrev make_key : List ℕ → List ℕ → Key
make_key table key = record { table = table; key = key }

-- a key of two kinds of text
pub key_of_texts : {FitsTable FitsText : List ℕ → Type 0} {table_at text_field_at : Unread → Read (List ℕ)} → IsField FitsTable text_bytes table_at → IsField FitsText text_bytes text_field_at → IsField (λ k. FitsTable k.table × FitsText k.key) key_bytes (λ u. table_at u >>= λ table. text_field_at table.1 >>= λ key. Ok (record { table = table.0; key = key.0 }, key.1))
unfolding key_bytes
key_of_texts {FitsTable} {FitsText} table text =
    same_field (made_of_two make_key (λ k. text_bytes k.table ++ text_bytes k.key) (λ t x f g. refl) table (λ _ _. text)) (record {
      to = λ k m. subst (λ (c : Key). FitsTable c.table × FitsText c.key) (sym m.4) (m.2, m.3);
      from = λ k f. (k.table, k.key, f.0, f.1, refl);
      bytes_are = λ k f. refl;
    })

pub any_key_field : IsField IsShortKey key_bytes any_key_at
unfolding any_key_at
any_key_field = same_field (key_of_texts text_field text_field) (record { to = λ k f. record { table = f.0; key = f.1 }; from = λ k f. (f.table, f.key); bytes_are = λ k f. refl })

-- ---- pairs

abbrev FitsPair : List (Key × Option Value) → Key × Option Value → Type 0
FitsPair front p = (IsShortKey p.0 × IsTrue (list_all (λ q. key_lt q.0 p.0) front)) × IsCell p.1

abbrev make_pair : Key → Option Value → Key × Option Value
make_pair key cell = (key, cell)

pair_field : (front : List (Key × Option Value)) → IsField (FitsPair front) pair_bytes (pair_at front)
unfolding pair_bytes pair_at next_key_at
pair_field front =
    same_field (made_of_two make_pair (λ p. key_bytes p.0 ++ cell_bytes p.1) (λ k c f g. refl) (passing_field (λ key. list_all (λ q. key_lt q.0 key) front) any_key_field) (λ _ _. cell_field)) (record {
      to = λ p m. subst (FitsPair front) (sym m.4) (m.2, m.3);
      from = λ p f. (p.0, p.1, f.0, f.1, refl);
      bytes_are = λ p f. refl;
    })

-- ---- lists of cells

-- a list after rising pairs rises with them exactly where each pair is after those before it
pairs_to : (front xs : List (Key × Option Value)) → IsRising front → EachFits FitsPair front xs → AllByRecursion (λ p. IsShortKey p.0) xs × AllByRecursion (λ p. IsCell p.1) xs × IsRising (front ++ xs)
pairs_to front [] rises h = (tt, tt, subst (λ (ps : List (Key × Option Value)). IsRising ps) (sym (append-nil front)) rises)
pairs_to front (x ∷ xs) rises h =
    let t = pairs_to (front ++ x ∷ []) xs (rising_snoc front x rises h.0.0.1) h.1 in
    ((h.0.0.0, t.0), (h.0.1, t.1), subst (λ (ps : List (Key × Option Value)). IsRising ps) (append_assoc front (x ∷ []) xs) t.2)

pairs_from : (front xs : List (Key × Option Value)) → AllByRecursion (λ p. IsShortKey p.0) xs → AllByRecursion (λ p. IsCell p.1) xs → IsRising (front ++ xs) → EachFits FitsPair front xs
pairs_from front [] keys cells rises = tt
pairs_from front (x ∷ xs) keys cells rises =
    let regrouped : IsRising ((front ++ x ∷ []) ++ xs) = subst (λ (ps : List (Key × Option Value)). IsRising ps) (sym (append_assoc front (x ∷ []) xs)) rises in
    (((keys.0, rising_last front x (rising_front (front ++ x ∷ []) xs regrouped)), cells.0), pairs_from (front ++ x ∷ []) xs keys.1 cells.1 regrouped)

texts_of_pairs : (pairs : List (Key × Option Value)) → AllByRecursion (λ p. IsCell p.1) pairs → AllByRecursion (λ p. HoldsText p.1) pairs
texts_of_pairs [] h = tt
texts_of_pairs (p ∷ pairs) h = (text_of_cell p.1 h.0, texts_of_pairs pairs h.1)

pub cells_field : IsField AreCells cells_bytes cells_at
unfolding cells_bytes cells_at
cells_field = same_field (listed_field pair_field 0 255 (omega arith)) (record {
  to = λ ps h. let t = pairs_to [] ps refl h.2 in record { short = record { count = omega (arith, h.1); keys = t.0; texts = texts_of_pairs ps t.1 }; cells = t.1; rises = t.2 };
  from = λ ps f. (omega arith, omega (arith, f.short.count), pairs_from [] ps f.short.keys f.cells f.rises);
  bytes_are = λ ps f. refl;
})

pub each_alike : {A : Type 0} (Fits : A → Type 0) (front xs : List A) → EachFits (λ _. Fits) front xs → AllByRecursion Fits xs
each_alike Fits front [] h = tt
each_alike Fits front (x ∷ xs) h = (h.0, each_alike Fits (front ++ x ∷ []) xs h.1)

pub alike_each : {A : Type 0} (Fits : A → Type 0) (front xs : List A) → AllByRecursion Fits xs → EachFits (λ _. Fits) front xs
alike_each Fits front [] h = tt
alike_each Fits front (x ∷ xs) h = (h.0, alike_each Fits (front ++ x ∷ []) xs h.1)

-- a list of fields that know nothing of one another
pub alike_field : {A : Type 0} {Fits : A → Type 0} {bytes : A → List ℕ} {at : Unread → Read A} → IsField Fits bytes at → (least most : ℕ) → most < 256 → IsField (λ xs. (least ≤ length xs) × (length xs ≤ most) × AllByRecursion Fits xs) (listed bytes) (listed_at least most (λ _. at))
alike_field {A} {Fits} field least most lt = same_field (listed_field {Fits = λ _. Fits} (λ _. field) least most lt) (record {
  to = λ xs h. (h.0, h.1, each_alike Fits [] xs h.2);
  from = λ xs h. (h.0, h.1, alike_each Fits [] xs h.2);
  bytes_are = λ xs h. refl;
})

-- ---- outcomes

verdict_of-number : (v : Verdict) → verdict_of (verdict_number v) ≡ v
verdict_of-number Done = refl
verdict_of-number Skipped = refl
verdict_of-number Overflow = refl

verdict_within : (v : Verdict) → (1 ≤ verdict_number v) × (verdict_number v ≤ 3)
verdict_within Done = (omega arith, omega arith)
verdict_within Skipped = (omega arith, omega arith)
verdict_within Overflow = (omega arith, omega arith)

number-verdict_of : (n : ℕ) → (1 ≤ n) × (n ≤ 3) → verdict_number (verdict_of n) ≡ n
number-verdict_of zero h = absurd (omega (arith, h.0))
number-verdict_of (suc zero) h = refl
number-verdict_of (suc (suc zero)) h = refl
number-verdict_of (suc (suc (suc zero))) h = refl
number-verdict_of (suc (suc (suc (suc n)))) h = absurd (omega (arith, h.1))

abbrev outcome_made : ℕ → List (Option Value) → List (Key × Option Value) → Outcome
outcome_made verdict values writes = record { reply = record { verdict = verdict_of verdict; values = values }; writes = writes }

-- what is left after the verdict
abbrev outcome_tail : Outcome → List ℕ
outcome_tail o = listed cell_bytes o.reply.values ++ cells_bytes o.writes

abbrev FitsOutcome : Outcome → Type 0
FitsOutcome o = ((0 ≤ length o.reply.values) × (length o.reply.values ≤ 255) × AllByRecursion IsCell o.reply.values) × AreCells o.writes

abbrev outcome_is : Verdict → List (Option Value) → List (Key × Option Value) → Outcome
outcome_is verdict values writes = record { reply = record { verdict = verdict; values = values }; writes = writes }

outcome_behind : (n : ℕ) → (1 ≤ n) × (n ≤ 3) → IsField (λ o. FitsOutcome o × (verdict_number o.reply.verdict ≡ n)) outcome_tail (λ u. listed_at 0 255 (λ _. cell_at) u >>= λ values. cells_at values.1 >>= λ writes. Ok (outcome_made n values.0 writes.0, writes.1))
outcome_behind n h =
    same_field (made_of_two (outcome_made n) outcome_tail (λ v w f g. refl) (alike_field cell_field 0 255 (omega arith)) (λ _ _. cells_field)) (record {
      to = λ o m. subst (λ (x : Outcome). FitsOutcome x × (verdict_number x.reply.verdict ≡ n)) (sym m.4) ((m.2, m.3), number-verdict_of n h);
      from = λ o f. (o.reply.values, o.writes, f.0.0, f.0.1, ap (λ (v : Verdict). outcome_is v o.reply.values o.writes) (sym (verdict_of-number o.reply.verdict) ∙ ap verdict_of f.1));
      bytes_are = λ o f. refl;
    })

pub outcome_field : IsField IsOutcome outcome_bytes outcome_at
unfolding outcome_bytes outcome_at
outcome_field = same_field (tagged_field 1 3 (λ o. verdict_number o.reply.verdict) outcome_tail (omega arith) (λ o fits. verdict_within o.reply.verdict) outcome_behind) (record {
  to = λ o f. record { count = omega (arith, f.0.1); values = f.0.2; writes = f.1 };
  from = λ o f. ((omega arith, omega (arith, f.count), f.values), f.writes);
  bytes_are = λ o f. sym (append_assoc (u8_bytes (verdict_number o.reply.verdict)) (listed cell_bytes o.reply.values) (cells_bytes o.writes));
})
