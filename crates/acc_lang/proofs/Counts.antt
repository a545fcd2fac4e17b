-- How many keys there are.
use Rattle.std.proofs.Common.{◌≡◌, ◌≤◌, Bool, true, false, List, [], ◌∷◌, ◌++◌, length, map, refl, sym, ap, ◌∙◌, arith}
use Rattle.std.specs.declared.cmp.Ordering.TheVariants.{Less, Equal, Greater}
use Rattle.std.specs.FinMap.Entries.{by_order}
use Rattle.std.proofs.lemmas.List.Sums.{fold-append}
use Rattle.acc_value.specs.declared.key.Key.{Key}
use Rattle.acc_value.specs.Key.{key_cmp}
use Rattle.acc_value.specs.Pairs.{put}
use Rattle.acc_value.specs.Footprint.{used}
use Rattle.acc_txn.specs.declared.parts.Let.{Let}
use Rattle.acc_txn.specs.declared.parts.Select.{Select}
use Rattle.acc_txn.specs.declared.parts.Select.TheVariants.{Nothing, Names, Get}
use Rattle.acc_txn.specs.declared.parts.Update.{Update}
use Rattle.acc_txn.specs.declared.parts.Update.TheVariants.{Set, Delete}
use Rattle.acc_txn.specs.declared.parts.BodyParts.{BodyParts}
use Rattle.acc_txn.specs.Uses.{selected_keys, updated_key, read_keys, written_keys, with_keys, footprint_of}
use Rattle.acc_lang.specs.Reading.{key_written}
use Rattle.acc_lang.proofs.Fits.{Uses, after, with_let, with_update, uses_after_select}

-- a use more is no key less
put_keeps : (key : Key) (writes : Bool) (uses : Uses) → length uses ≤ length (put uses key writes)
put_keeps key writes [] = omega arith
put_keeps key writes (e ∷ es) =
    elim (key_cmp key e.0) as (λ o. length (e ∷ es) ≤ length (by_order o ((key, writes) ∷ e ∷ es) ((e.0, writes) ∷ es) (e ∷ put es key writes))) [
      | Less ↦ omega arith
      | Equal ↦ omega arith
      | Greater ↦ (let h = put_keeps key writes es in omega arith)
    ]

put_some : (key : Key) (writes : Bool) (uses : Uses) → 1 ≤ length (put uses key writes)
put_some key writes [] = omega arith
put_some key writes (e ∷ es) = let h = put_keeps key writes (e ∷ es) in omega arith

pub used_keeps : (uses : Uses) (key : Key) (writes : Bool) → length uses ≤ length (used uses key writes)
used_keeps uses key writes = put_keeps key _ uses

pub used_some : (uses : Uses) (key : Key) (writes : Bool) → 1 ≤ length (used uses key writes)
used_some uses key writes = put_some key _ uses

pub with_keys_keeps : (writes : Bool) (keys : List Key) (uses : Uses) → length uses ≤ length (with_keys writes uses keys)
with_keys_keeps writes [] uses = omega arith
with_keys_keeps writes (key ∷ keys) uses =
    let h = used_keeps uses key writes in
    let rest = with_keys_keeps writes keys (used uses key writes) in
    omega arith

pub with_keys_some : (writes : Bool) (keys : List Key) (uses : Uses) → 1 ≤ length keys → 1 ≤ length (with_keys writes uses keys)
with_keys_some writes [] uses some = absurd (omega arith)
with_keys_some writes (key ∷ keys) uses some =
    let h = used_some uses key writes in
    let rest = with_keys_keeps writes keys (used uses key writes) in
    omega arith

-- the keys after LETs, a select and updates are those of the footprint
pub lets_uses : (lets so_far : List Let) (uses : Uses) → (after with_let (so_far, uses) lets).1 ≡ with_keys false uses (map (λ l. l.key) lets)
lets_uses [] so_far uses = refl
lets_uses (l ∷ lets) so_far uses = lets_uses lets (so_far ++ l ∷ []) (used uses l.key false)

pub select_uses : (uses : Uses) (s : Select) → uses_after_select uses s ≡ with_keys false uses (selected_keys s)
select_uses uses Nothing = refl
select_uses uses (Names names) = refl
select_uses uses (Get key) = refl

pub same_key : (u : Update) → key_written u ≡ updated_key u
same_key (Set key value) = refl
same_key (Delete key) = refl

pub updates_uses : (updates so_far : List Update) (uses : Uses) → (after with_update (so_far, uses) updates).1 ≡ with_keys true uses (map updated_key updates)
updates_uses [] so_far uses = refl
updates_uses (u ∷ updates) so_far uses =
    updates_uses updates (so_far ++ u ∷ []) (used uses (key_written u) true) ∙ ap (λ key. with_keys true (used uses key true) (map updated_key updates)) (same_key u)

pub read_uses : (parts : BodyParts) → uses_after_select (after with_let ([], []) parts.lets).1 parts.select ≡ with_keys false [] (read_keys parts)
read_uses parts =
    select_uses (after with_let ([], []) parts.lets).1 parts.select
    ∙ ap (λ uses. with_keys false uses (selected_keys parts.select)) (lets_uses parts.lets [] [])
    ∙ sym (fold-append (λ so_far key. used so_far key false) [] (map (λ l. l.key) parts.lets) (selected_keys parts.select))

pub all_uses : (parts : BodyParts) → (after with_update ([], uses_after_select (after with_let ([], []) parts.lets).1 parts.select) parts.updates).1 ≡ footprint_of parts
all_uses parts =
    updates_uses parts.updates [] (uses_after_select (after with_let ([], []) parts.lets).1 parts.select)
    ∙ ap (λ uses. with_keys true uses (written_keys parts)) (read_uses parts)
