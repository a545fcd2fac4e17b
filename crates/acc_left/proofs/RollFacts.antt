-- What the draws of a table begin, in the order of their stamps.
use Rattle.std.proofs.Common.{◌≡◌, ℕ, ◌<◌, Bool, true, false, cond, List, [], ◌∷◌, ◌++◌, length, map, get_or, Contains, Option, None, Some, refl, sym, ap, subst, ◌∙◌, append_assoc, ⊎_elim, arith}
use Rattle.std.specs.Prelude.{◌↔◌, option_and_then, IfSome}
use Rattle.std.specs.BTreeMap.{IsOrdered, is_at}
use Rattle.std.specs.declared.cmp.Ordering.{Ordering}
use Rattle.std.specs.declared.cmp.Ordering.TheVariants.{Less, Equal, Greater}
use Rattle.std.specs.List.{AllByRecursion}
use Rattle.std.specs.List.Sorted.{IsStrictlySortedBy}
use Rattle.std.specs.Map.{keys_of, lookup}
use Rattle.std.specs.Ordering.{is_eq, is_lt}
use Rattle.std.proofs.Math.Dec.{ltb}
use Rattle.std.proofs.Math.ListN.{set}
use Rattle.std.proofs.lemmas.Bool.{true≢false}
use Rattle.std.proofs.lemmas.Bool.Decides.{nat_tests}
use Rattle.std.proofs.lemmas.List.Elements.{All-set, Contains-get_or}
use Rattle.std.proofs.lemmas.Map.Entries.{lookup_head, lookup_tail}
use Rattle.std.proofs.lemmas.Map.Keys.{sorted_head, sorted_tail}
use Rattle.std.proofs.lemmas.Option.{none-some, same_Some}
use Rattle.acc_stamp.specs.declared.stamps.Stamp.{Stamp}
use Rattle.acc_stamp.specs.declared.stamps.TxnId.{TxnId}
use Rattle.acc_stamp.specs.Rising.{IsRising}
use Rattle.acc_stamp.specs.Stamp.{id_lt, stamp_cmp}
use Rattle.acc_stamp.proofs.Order.{stamp_cmp_exact}
use Rattle.acc_payloads.specs.declared.draw.Draw.{Draw}
use Rattle.acc_payloads.specs.Node.{is_begin}
use Rattle.acc_schedule.specs.Content.{Content}
use Rattle.acc_left.specs.declared.image.Image.{Image}
use Rattle.acc_left.specs.Rolls.{IsRoll}
use Rattle.acc_left.specs.Told.{AreBegins, Draws, ListsBegins, TellDraws, begun_with, number_begun}
use Rattle.acc_left.proofs.MessageFacts.{begins_is}
use Rattle.acc_left.proofs.TableFacts.{at_head, behind_head, head_or_behind, no_element}

abbrev id_at : Stamp → TxnId
id_at stamp = record { 0 = stamp }

-- the ids that entries of a table begin, with the numbers of their transactions
abbrev pub begins_of : List (Stamp × Draw) → List (TxnId × ℕ)
begins_of [] = []
begins_of (e ∷ entries) = cond (is_begin e.1.purpose) ((id_at e.0, e.1.txn) ∷ begins_of entries) (begins_of entries)

pub begins_more : (entries rest later : List (Stamp × Draw)) (roll after : List (TxnId × ℕ)) (e : Stamp × Draw) → roll ++ begins_of rest ≡ begins_of entries → rest ≡ e ∷ later
    → is_begin e.1.purpose ≡ true → after ≡ roll ++ (id_at e.0, e.1.txn) ∷ [] → after ++ begins_of later ≡ begins_of entries
begins_more entries rest later roll after e so_far is begin pushed =
    ap (λ (l : List (TxnId × ℕ)). l ++ begins_of later) pushed ∙ append_assoc roll ((id_at e.0, e.1.txn) ∷ []) (begins_of later)
    ∙ ap (λ (b : Bool). roll ++ cond b ((id_at e.0, e.1.txn) ∷ begins_of later) (begins_of later)) (sym begin)
    ∙ ap (λ (l : List (Stamp × Draw)). roll ++ begins_of l) (sym is) ∙ so_far

pub begins_same : (entries rest later : List (Stamp × Draw)) (roll : List (TxnId × ℕ)) (e : Stamp × Draw) → roll ++ begins_of rest ≡ begins_of entries → rest ≡ e ∷ later
    → is_begin e.1.purpose ≡ false → roll ++ begins_of later ≡ begins_of entries
begins_same entries rest later roll e so_far is other =
    ap (λ (b : Bool). roll ++ cond b ((id_at e.0, e.1.txn) ∷ begins_of later) (begins_of later)) (sym other)
    ∙ ap (λ (l : List (Stamp × Draw)). roll ++ begins_of l) (sym is) ∙ so_far

-- ---- they rise

is_less : (o : Ordering) → o ≡ Less → is_lt o ≡ true
is_less o e = ap is_lt e

abbrev Above : Stamp → List (TxnId × ℕ) → Type 0
Above stamp roll = AllByRecursion (λ id. id_lt (id_at stamp) id ≡ true) (map (λ (b : TxnId × ℕ). b.0) roll)

above_by : (stamp : Stamp) (e : Stamp × Draw) (rest : List (TxnId × ℕ)) (b : Bool) → stamp_cmp stamp e.0 ≡ Less → Above stamp rest → Above stamp (cond b ((id_at e.0, e.1.txn) ∷ rest) rest)
above_by stamp e rest true less below = (is_less (stamp_cmp stamp e.0) less, below)
above_by stamp e rest false less below = below

above : (stamp : Stamp) (entries : List (Stamp × Draw)) → AllByRecursion (λ s. stamp_cmp stamp s ≡ Less) (keys_of entries) → Above stamp (begins_of entries)
above stamp [] all = tt
above stamp (e ∷ entries) all = above_by stamp e (begins_of entries) (is_begin e.1.purpose) all.0 (above stamp entries all.1)

abbrev Rise : List (TxnId × ℕ) → Type 0
Rise roll = IsRising (map (λ (b : TxnId × ℕ). b.0) roll)

rise_by : (e : Stamp × Draw) (rest : List (TxnId × ℕ)) (b : Bool) → Above e.0 rest → Rise rest → Rise (cond b ((id_at e.0, e.1.txn) ∷ rest) rest)
rise_by e rest true below rises = (below, rises)
rise_by e rest false below rises = rises

rise : (entries : List (Stamp × Draw)) → IsStrictlySortedBy stamp_cmp (keys_of entries) → Rise (begins_of entries)
rise [] sorted = tt
rise (e ∷ entries) sorted =
    rise_by e (begins_of entries) (is_begin e.1.purpose) (above e.0 entries (sorted_head stamp_cmp e.0 (keys_of entries) sorted))
    (rise entries (sorted_tail stamp_cmp e.0 (keys_of entries) sorted))

-- ---- and are those of the table

-- a begin is of a stamp above those before it
later_stamp : (stamp : Stamp) (entries : List (Stamp × Draw)) (b : TxnId × ℕ) → AllByRecursion (λ s. stamp_cmp stamp s ≡ Less) (keys_of entries) → Contains (begins_of entries) b → stamp_cmp stamp b.0.0 ≡ Less
later_stamp stamp [] b all there = absurd (no_element b there)
later_stamp stamp (e ∷ entries) b all there = by (is_begin e.1.purpose) there (later_stamp stamp entries b all.1)
  where
    by : (t : Bool) → Contains (cond t ((id_at e.0, e.1.txn) ∷ begins_of entries) (begins_of entries)) b → (Contains (begins_of entries) b → stamp_cmp stamp b.0.0 ≡ Less)
        → stamp_cmp stamp b.0.0 ≡ Less
    by true h later =
        ⊎_elim (λ same. subst (λ (x : TxnId × ℕ). stamp_cmp stamp x.0.0 ≡ Less) same all.0) later
        (head_or_behind (id_at e.0, e.1.txn) (begins_of entries) b h)
    by false h later = later h

abbrev found : List (Stamp × Draw) → TxnId → Option Draw
found entries id = lookup (is_at (stamp_cmp id.0)) entries

itself : (s : Stamp) → is_eq (stamp_cmp s s) ≡ true
itself s = ap is_eq (same_itself s)
  where
    same_itself : (x : Stamp) → stamp_cmp x x ≡ Equal
    same_itself x = grind (arith, nat_tests)

equal_is : (o : Ordering) → is_eq o ≡ true → o ≡ Equal
equal_is Less e = absurd cc
equal_is Equal e = refl
equal_is Greater e = absurd cc

module _ (id : TxnId) (txn : ℕ) where
  abbrev Is : List (Stamp × Draw) → Type 0
  Is entries = option_and_then begun_with (found entries id) ≡ Some txn

  -- the entry at the id
  here : (e : Stamp × Draw) (entries : List (Stamp × Draw)) → IsStrictlySortedBy stamp_cmp (keys_of (e ∷ entries)) → is_eq (stamp_cmp id.0 e.0) ≡ true
      → Contains (begins_of (e ∷ entries)) (id, txn) ↔ Is (e ∷ entries)
  here e entries sorted at = (
    λ there. ap (option_and_then begun_with) (lookup_head (is_at (stamp_cmp id.0)) e entries at) ∙ to (is_begin e.1.purpose) refl there,
    λ is. from (is_begin e.1.purpose) refl (sym (ap (option_and_then begun_with) (lookup_head (is_at (stamp_cmp id.0)) e entries at)) ∙ is),
  )
    where
      same : id.0 ≡ e.0
      same = stamp_cmp_exact id.0 e.0 (equal_is (stamp_cmp id.0 e.0) at)

      not_later : Contains (begins_of entries) (id, txn) → ⊥
      not_later there =
          let less : stamp_cmp e.0 id.0 ≡ Less = later_stamp e.0 entries (id, txn) (sorted_head stamp_cmp e.0 (keys_of entries) sorted) there in
          true≢false (sym (itself e.0) ∙ ap (λ (s : Stamp). is_eq (stamp_cmp e.0 s)) (sym same) ∙ ap is_eq less)

      to : (b : Bool) → is_begin e.1.purpose ≡ b → Contains (cond b ((id_at e.0, e.1.txn) ∷ begins_of entries) (begins_of entries)) (id, txn) → cond (is_begin e.1.purpose) (Some e.1.txn) None ≡ Some txn
      to true begin there =
          ⊎_elim (λ first. ap (λ (t : Bool). cond t (Some e.1.txn) None) begin ∙ ap (λ (x : TxnId × ℕ). Some x.1) first) (λ rest. absurd (not_later rest))
          (head_or_behind (id_at e.0, e.1.txn) (begins_of entries) (id, txn) there)
      to false other there = absurd (not_later there)

      from : (b : Bool) → is_begin e.1.purpose ≡ b → cond (is_begin e.1.purpose) (Some e.1.txn) None ≡ Some txn → Contains (cond b ((id_at e.0, e.1.txn) ∷ begins_of entries) (begins_of entries)) (id, txn)
      from true begin is =
          let number : e.1.txn ≡ txn = same_Some e.1.txn txn (ap (λ (t : Bool). cond t (Some e.1.txn) None) (sym begin) ∙ is) in
          let pair : (id_at e.0, e.1.txn) ≡ (id, txn) = λ k. (record { 0 = sym same k }, number k) in
          subst (Contains ((id_at e.0, e.1.txn) ∷ begins_of entries)) pair (at_head (id_at e.0, e.1.txn) (begins_of entries))
      from false other is = absurd (none-some txn (ap (λ (t : Bool). cond t (Some e.1.txn) None) (sym other) ∙ is))

  -- another entry
  other : (e : Stamp × Draw) (entries : List (Stamp × Draw)) → is_eq (stamp_cmp id.0 e.0) ≡ false → Contains (begins_of entries) (id, txn) ↔ Is entries
      → Contains (begins_of (e ∷ entries)) (id, txn) ↔ Is (e ∷ entries)
  other e entries apart rest = (
    λ there. ap (option_and_then begun_with) (lookup_tail (is_at (stamp_cmp id.0)) e entries apart) ∙ rest.0 (to (is_begin e.1.purpose) there),
    λ is. from (is_begin e.1.purpose) (rest.1 (sym (ap (option_and_then begun_with) (lookup_tail (is_at (stamp_cmp id.0)) e entries apart)) ∙ is)),
  )
    where
      to : (b : Bool) → Contains (cond b ((id_at e.0, e.1.txn) ∷ begins_of entries) (begins_of entries)) (id, txn) → Contains (begins_of entries) (id, txn)
      to true there =
          ⊎_elim
          (λ first. absurd (true≢false (sym (itself e.0) ∙ ap (λ (x : TxnId × ℕ). is_eq (stamp_cmp x.0.0 e.0)) first ∙ apart)))
          (λ later. later) (head_or_behind (id_at e.0, e.1.txn) (begins_of entries) (id, txn) there)
      to false there = there

      from : (b : Bool) → Contains (begins_of entries) (id, txn) → Contains (cond b ((id_at e.0, e.1.txn) ∷ begins_of entries) (begins_of entries)) (id, txn)
      from true there = behind_head (id_at e.0, e.1.txn) (begins_of entries) (id, txn) there
      from false there = there

  each : (entries : List (Stamp × Draw)) → IsStrictlySortedBy stamp_cmp (keys_of entries) → Contains (begins_of entries) (id, txn) ↔ Is entries
  each [] sorted = (λ there. absurd (no_element (id, txn) there), λ is. absurd (none-some txn is))
  each (e ∷ entries) sorted = by (is_eq (stamp_cmp id.0 e.0)) refl (each entries (sorted_tail stamp_cmp e.0 (keys_of entries) sorted))
    where
      by : (b : Bool) → is_eq (stamp_cmp id.0 e.0) ≡ b → Contains (begins_of entries) (id, txn) ↔ Is entries → Contains (begins_of (e ∷ entries)) (id, txn) ↔ Is (e ∷ entries)
      by true at rest = here e entries sorted at
      by false apart rest = other e entries apart rest

pub lists_begins : (draws : Draws) (roll : List (TxnId × ℕ)) → IsOrdered stamp_cmp draws → roll ≡ begins_of draws.entries → ListsBegins draws roll
lists_begins draws roll ordered is = record {
  rises = subst (λ (l : List (TxnId × ℕ)). IsRising (map (λ (b : TxnId × ℕ). b.0) l)) (sym is) (rise draws.entries ordered);
  each = λ id txn. subst (λ (l : List (TxnId × ℕ)). Contains l (id, txn) ↔ (number_begun draws id ≡ Some txn)) (sym is) (each id txn draws.entries ordered);
}

pub is_roll : (plan : Content) (images : List Image) (draws : Draws) (roll : List (TxnId × ℕ)) → TellDraws plan draws images → ListsBegins draws roll → IsRoll plan images roll
is_roll plan images draws roll tells lists = record {
  rises = lists.rises;
  each = λ id txn. (
    λ there. (begins_is plan draws images tells id txn).0 ((lists.each id txn).0 there),
    λ begins. (lists.each id txn).1 ((begins_is plan draws images tells id txn).1 begins),
  );
}

-- ---- a table of what is begun

pub begins_put : (draws : Draws) (entries later : List (Option (TxnId × ℕ))) (place : ℕ) (begin : TxnId × ℕ) → later ≡ cond (ltb place (length entries)) (set entries place (Some begin)) entries
    → number_begun draws begin.0 ≡ Some begin.1 → AreBegins draws entries → AreBegins draws later
begins_put draws entries later place begin is begun so_far = subst (AreBegins draws) (sym is) (by (ltb place (length entries)))
  where
    IsBegin : Option (TxnId × ℕ) → Type 0
    IsBegin entry = IfSome entry (λ (e : TxnId × ℕ). number_begun draws e.0 ≡ Some e.1)

    by : (b : Bool) → AreBegins draws (cond b (set entries place (Some begin)) entries)
    by true = All-set IsBegin entries place (Some begin) begun so_far
    by false = so_far

pub is_begun : (draws : Draws) (roll : List (TxnId × ℕ)) (i : ℕ) (d : TxnId × ℕ) → ListsBegins draws roll → i < length roll → number_begun draws (get_or roll i d).0 ≡ Some (get_or roll i d).1
is_begun draws roll i d lists within = (lists.each (get_or roll i d).0 (get_or roll i d).1).0 (Contains-get_or roll i d within)
