use Rattle.std.proofs.Common.{◌≡◌, List, sym, ap, subst, ◌∙◌}
use Rattle.std.specs.Prelude.{Option, None}
use Rattle.std.specs.Ordering.{nat_cmp}
use Rattle.std.specs.BTreeMap.{get}
use Rattle.acc_stamp.specs.declared.stamps.Stamp.{Stamp}
use Rattle.acc_stamp.specs.declared.stamps.TxnId.{TxnId}
use Rattle.acc_stamp.specs.Clock.{next_stamp, after_draw}
use Rattle.acc_message.specs.declared.note.Note.{Note}
use Rattle.acc_message.specs.declared.entry.Emitted.{Emitted}
use Rattle.acc_message.specs.Coordinator.{begun}
use Rattle.acc_node.specs.declared.running.Running.{Running}
use Rattle.acc_node.specs.Stands.{RunsAs}
use Rattle.acc_node.proofs.Keys.{none_if}
use Rattle.acc_node.proofs.Standing.{begins_stands}
use Rattle.acc_node.proofs.Drawing.{begin_emits}
use Rattle.acc_node.proofs.node.Node.begin.Goals as goal

pub returns-clause-ok : goal.returns-clause-ok
returns-clause-ok c = λ number start acts s.
    let layout = c.args.topology.now in
    let old = c.args.self.now in
    let id_from : (Stamp → TxnId) = λ t. record { 0 = t } in
    let x : TxnId = id_from c.peek.result in
    let drawn : x ≡ id_from (next_stamp old.clock) = ap id_from c.peek.ensures in
    let fresh : get nat_cmp old.begun c.args.txn ≡ None = none_if (get nat_cmp old.begun c.args.txn) (sym c.contains_key.ensures ∙ c.if-contains_key.false) in
    let with_notes : (List Note → Emitted) = λ notes. record { notes = notes; out = c.in_ok-coord.out } in
    let entered = c.in_ok-enter.ensures.ok in
    record {
      emits =
          ap with_notes c.in_ok-notes.ensures
          ∙ begin_emits layout number start acts old s c.args.txn x c.args.body.now c.in_ok-coord.out drawn c.in_ok-coord.ensures.sends;
      stands =
          begins_stands layout number start acts old _ c.args.txn x c.in_ok-running.running c.args.body.now fresh drawn
          (subst (λ (r : Running). RunsAs layout x r (begun c.args.body.now)) (sym c.in_ok-running.ensures) c.in_ok-coord.ensures.stands)
          (c.draw.ensures.after ∙ ap after_draw entered.clock) entered.begun entered.clients entered.attempts s;
    }
