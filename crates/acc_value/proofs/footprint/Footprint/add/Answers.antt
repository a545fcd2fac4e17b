-- A use is joined to the pair of its key, or else its pair is inserted where it would stand.
use Rattle.std.proofs.Common.{ap, sym, ◌∙◌}
use Rattle.acc_value.specs.Footprint.{used}
use Rattle.acc_value.proofs.Rising.{IsRising-put}
use Rattle.acc_value.proofs.Uses.{used-at, used-lacks}
use Rattle.acc_value.proofs.footprint.Footprint.add.Goals as goal

pub invariant_of-self-in-Ok : goal.invariant_of-self-in-Ok
invariant_of-self-in-Ok c =
    let here = rw c.as_slice.ensures at c.in-Ok.ensures in
    let is = used-at c.self.inside.uses c.args.key.now c.args.writes c.in-Ok.place c.index-as_slice-place.result c.self.invariant here (rw c.as_slice-in-Ok.ensures at c.index-as_slice-place.is) in
    rw (c.in_ok-set-in-Ok.ensures.ok, c.in_ok-copy-in-Ok.ensures, ← is) (IsRising-put c.self.inside.uses c.args.key.now _ c.self.invariant)

pub invariant_of-self-in-Err : goal.invariant_of-self-in-Err
invariant_of-self-in-Err c =
    let nowhere = rw c.as_slice.ensures at c.in-Err.ensures in
    let is = used-lacks c.self.inside.uses c.args.key.now c.args.writes c.in-Err.place nowhere in
    rw (c.in_ok-insert_pair-in-Err.ensures.ok, c.in_ok-copy-in-Err.ensures, ← is) (IsRising-put c.self.inside.uses c.args.key.now _ c.self.invariant)

pub returns-in_ok-set-in-Ok-clause-ok : goal.returns-in_ok-set-in-Ok-clause-ok
returns-in_ok-set-in-Ok-clause-ok c =
    let here = rw c.as_slice.ensures at c.in-Ok.ensures in
    let is = used-at c.self.inside.uses c.args.key.now c.args.writes c.in-Ok.place c.index-as_slice-place.result c.self.invariant here (rw c.as_slice-in-Ok.ensures at c.index-as_slice-place.is) in
    rw (c.in_ok-set-in-Ok.ensures.ok, c.in_ok-copy-in-Ok.ensures) (sym is ∙ ap (λ uses. used uses c.args.key.now c.args.writes) c.self.view_is)

pub returns-in_ok-insert_pair-in-Err-clause-ok : goal.returns-in_ok-insert_pair-in-Err-clause-ok
returns-in_ok-insert_pair-in-Err-clause-ok c =
    let nowhere = rw c.as_slice.ensures at c.in-Err.ensures in
    let is = used-lacks c.self.inside.uses c.args.key.now c.args.writes c.in-Err.place nowhere in
    rw (c.in_ok-insert_pair-in-Err.ensures.ok, c.in_ok-copy-in-Err.ensures) (sym is ∙ ap (λ uses. used uses c.args.key.now c.args.writes) c.self.view_is)
