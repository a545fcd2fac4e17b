-- One list of those that wait gets room, and each list stays.
use Rattle.std.proofs.Common.{◌≡◌, ◌≤◌, Bool, true, false, cond, Option, None, Some, Vec, vec_len, vec_capacity, refl, sym, ap, ◌∙◌, subst, arith}
use Rattle.std.specs.BTreeMap as tree
use Rattle.std.specs.declared.alloc.Global.{Global}
use Rattle.acc_stamp.specs.declared.stamps.TxnId.{TxnId}
use Rattle.acc_stamp.specs.Stamp.{id_cmp}
use Rattle.acc_record.specs.declared.shelf.Watch.{Watch}
use Rattle.acc_record.specs.Shelf.{Waits, watches_in, watchers}
use Rattle.acc_opening.specs.declared.touched.Touched.{Touched}
use Rattle.acc_opening.specs.Touched.{is_same}
use Rattle.acc_opening.proofs.StateFacts.{is_same-true}
use Rattle.acc_execute.specs.Executed.{FitsIn}

module _ (old new : Waits) (id : TxnId) (after : Vec Watch Global) (puts : (y : TxnId) → tree.get id_cmp new y ≡ cond (is_same id y) (Some after) (tree.get id_cmp old y)) where
  -- the list that there was has the same items
  same_by : (before : Option (Vec Watch Global)) → before ≡ tree.get id_cmp old id → after.items ≡ watches_in before → (y : TxnId) (b : Bool) → is_same id y ≡ b
      → watches_in (cond b (Some after) (tree.get id_cmp old y)) ≡ watchers old y
  same_by before there items y true e = items ∙ ap watches_in (there ∙ ap (tree.get id_cmp old) (is_same-true id y e))
  same_by before there items y false e = refl

  pub lists_same : (before : Option (Vec Watch Global)) → before ≡ tree.get id_cmp old id → after.items ≡ watches_in before → (y : TxnId) → watchers new y ≡ watchers old y
  lists_same before there items y = ap watches_in (puts y) ∙ same_by before there items y (is_same id y) refl

  kept_by : (before : Option (Vec Watch Global)) → before ≡ tree.get id_cmp old id → ((t : Touched) → FitsIn t before → FitsIn t (Some after)) → (y : TxnId) (t : Touched) (b : Bool) → is_same id y ≡ b
      → FitsIn t (tree.get id_cmp old y) → FitsIn t (cond b (Some after) (tree.get id_cmp old y))
  kept_by before there wider y t true e fits = wider t (subst (FitsIn t) (sym (there ∙ ap (tree.get id_cmp old) (is_same-true id y e))) fits)
  kept_by before there wider y t false e fits = fits

  pub lists_kept : (before : Option (Vec Watch Global)) → before ≡ tree.get id_cmp old id → ((t : Touched) → FitsIn t before → FitsIn t (Some after))
      → (y : TxnId) (t : Touched) → FitsIn t (tree.get id_cmp old y) → FitsIn t (tree.get id_cmp new y)
  lists_kept before there wider y t fits = subst (FitsIn t) (sym (puts y)) (kept_by before there wider y t (is_same id y) refl fits)

-- what fitted in a list fits in one with no less capacity
pub fits_wider : (before after : Vec Watch Global) → vec_len after ≡ vec_len before → vec_capacity before ≤ vec_capacity after → (t : Touched) → FitsIn t (Some before) → FitsIn t (Some after)
fits_wider before after len capacity t fits = omega arith

-- nothing fits where there is no list
pub fits_nowhere : (after : Vec Watch Global) (t : Touched) → FitsIn t None → FitsIn t (Some after)
fits_nowhere after t fits = absurd fits
