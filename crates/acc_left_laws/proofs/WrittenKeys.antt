-- What a body writes has keys of its updates, each of which is a key; and such outcomes, whose cells have spellings.
use Rattle.std.proofs.Common.{◌≡◌, Bool, true, false, not, List, [], ◌∷◌, IsTrue, Option, Ok, Err, Result}
use Rattle.std.specs.Prelude.{IfOk}
use Rattle.std.specs.declared.cmp.Ordering.TheVariants.{Equal, Greater, Less}
use Rattle.std.specs.FinMap.Entries.{by_order}
use Rattle.std.specs.List.{fold, list_any, AllByRecursion}
use Rattle.std.proofs.lemmas.Bool.{not-false, or_parts}
use Rattle.acc_value.specs.declared.key.Key.{Key}
use Rattle.acc_value.specs.declared.value.Value.{Value}
use Rattle.acc_value.specs.Key.{key_cmp}
use Rattle.acc_value.specs.Pairs.{put}
use Rattle.acc_txn.specs.declared.evaluate.Overflow.{Overflow}
use Rattle.acc_txn.specs.declared.outcome.Outcome.{Outcome}
use Rattle.acc_txn.specs.declared.parts.BodyParts.{BodyParts}
use Rattle.acc_txn.specs.declared.parts.Update.{Update}
use Rattle.acc_txn.specs.Meaning.{all_hold, bound_cells, decided, done, final, in_front, outcome_of, selected, updated_cell, with_key, write_of, writes_of}
use Rattle.acc_txn.specs.Rules.{has_bad_key, has_bad_name, IsBody}
use Rattle.acc_txn.specs.Short.{IsNumberedBody}
use Rattle.acc_txn.specs.Uses.{updated_key}
use Rattle.acc_txn.specs.Words.{is_key}
use Rattle.acc_txn.proofs.BodyShortness.{keeps}
use Rattle.acc_code.specs.Short.{IsCell, IsOutcome}
use Rattle.acc_code.proofs.AnswersFit.{answer_fits}

abbrev pub WritesKeys : List (Key × Option Value) → Type 0
WritesKeys pairs = AllByRecursion (λ p. IsTrue (is_key p.0)) pairs

-- an outcome that has a spelling, and writes to keys
pub record IsSpelled (o : Outcome) : Type 0 where
  pub fits : IsOutcome o
  pub keys : WritesKeys o.writes

put_keyed : (pairs : List (Key × Option Value)) (key : Key) (cell : Option Value) → WritesKeys pairs → IsTrue (is_key key) → WritesKeys (put pairs key cell)
put_keyed [] key cell h k = (k, tt)
put_keyed (p ∷ pairs) key cell h k =
    elim (key_cmp key p.0) as (λ o. WritesKeys (by_order o ((key, cell) ∷ p ∷ pairs) ((p.0, cell) ∷ pairs) (p ∷ put pairs key cell))) [
      | Less ↦ (k, h)
      | Equal ↦ (h.0, h.1)
      | Greater ↦ (h.0, put_keyed pairs key cell h.1 k)
    ]

last_keyed : (writes so_far : List (Key × Option Value)) → WritesKeys writes → WritesKeys so_far → WritesKeys (fold (λ so_far write. put so_far write.0 write.1) so_far writes)
last_keyed [] so_far h all = all
last_keyed (write ∷ writes) so_far h all = last_keyed writes (put so_far write.0 write.1) h.1 (put_keyed so_far write.0 write.1 all h.0)

with_keyed : (key : Key) (cell : Result (Option Value) Overflow) → IsTrue (is_key key) → IfOk (with_key key cell) (λ p. IsTrue (is_key p.0))
with_keyed key (Ok cell) k = k
with_keyed key (Err error) k = tt

front_keyed : (write : Result (Key × Option Value) Overflow) (later : Result (List (Key × Option Value)) Overflow) → IfOk write (λ p. IsTrue (is_key p.0)) → IfOk later WritesKeys
    → IfOk (in_front write later) WritesKeys
front_keyed (Err error) later h k = tt
front_keyed (Ok write) (Err error) h k = tt
front_keyed (Ok write) (Ok later) h k = (h, k)

writes_keyed : (bound : List (Option Value)) (updates : List Update) → list_any (λ (u : Update). not (is_key (updated_key u))) updates ≡ false → IfOk (writes_of bound updates) WritesKeys
writes_keyed bound [] h = tt
writes_keyed bound (update ∷ updates) h =
    let parts = or_parts (not (is_key (updated_key update))) (list_any (λ (u : Update). not (is_key (updated_key u))) updates) h in
    front_keyed (write_of bound update) (writes_of bound updates)
    (with_keyed (updated_key update) (updated_cell bound update) (not-false (is_key (updated_key update)) parts.0)) (writes_keyed bound updates parts.1)

done_keyed : (values : List (Option Value)) (writes : Result (List (Key × Option Value)) Overflow) → IfOk writes WritesKeys → WritesKeys (done values (final writes)).writes
done_keyed values (Err error) h = tt
done_keyed values (Ok writes) h = last_keyed writes [] h tt

decided_keyed : (values : List (Option Value)) (held : Result Bool Overflow) (writes : Result (List (Key × Option Value)) Overflow) → IfOk writes WritesKeys
    → WritesKeys (decided values held writes).writes
decided_keyed values (Err error) writes h = tt
decided_keyed values (Ok false) writes h = tt
decided_keyed values (Ok true) writes h = done_keyed values writes h

outcome_keyed : (body : BodyParts) (cells : Key → Option Value) → IsBody body → WritesKeys (outcome_of body cells).writes
outcome_keyed body cells rules =
    let words = or_parts (has_bad_name body.lets) (has_bad_key body) (keeps body rules).words in
    let keys = or_parts _ (list_any (λ (u : Update). not (is_key (updated_key u))) body.updates) words.1 in
    let bound : List (Option Value) = bound_cells body.lets cells in
    decided_keyed (selected bound cells body.select) (all_hold bound body.guards) (writes_of bound body.updates) (writes_keyed bound body.updates keys.1)

pub answer_spelled : (body : BodyParts) (cells : Key → Option Value) → IsNumberedBody body → ((key : Key) → IsCell (cells key)) → IsSpelled (outcome_of body cells)
answer_spelled body cells numbered fit = record { fits = answer_fits body cells numbered fit; keys = outcome_keyed body cells numbered.keeps_rules }
