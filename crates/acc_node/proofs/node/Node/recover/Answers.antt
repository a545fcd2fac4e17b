use Rattle.std.proofs.Common.{◌≡◌, List, refl, sym, ap, subst, ◌∙◌}
use Rattle.std.specs.Prelude.{Some}
use Rattle.acc_stamp.specs.declared.stamps.Stamp.{Stamp}
use Rattle.acc_stamp.specs.declared.stamps.Ballot.{Ballot}
use Rattle.acc_stamp.specs.Actor.{home_of}
use Rattle.acc_stamp.specs.Clock.{next_stamp}
use Rattle.acc_txn.specs.declared.parts.BodyParts.{BodyParts}
use Rattle.acc_message.specs.declared.note.Note.{Note}
use Rattle.acc_message.specs.declared.entry.Emitted.{Emitted}
use Rattle.acc_message.specs.Coordinator.{recovering, ask_for_views}
use Rattle.acc_recover.specs.Stands.{StandsFor as Recovers}
use Rattle.acc_recover.specs.declared.recovery.Recovery.{Recovery}
use Rattle.acc_node.specs.declared.running.Running.{Running}
use Rattle.acc_node.specs.declared.running.Running.TheVariants.{Recovering}
use Rattle.acc_node.specs.Stands.{RunsAs}
use Rattle.acc_node.proofs.Keys.{at_id}
use Rattle.acc_node.proofs.Standing.{recovers_stands}
use Rattle.acc_node.proofs.Drawing.{recover_emits}
use Rattle.acc_node.proofs.node.Node.recover.Goals as goal

pub returns-clause-ok : goal.returns-clause-ok
returns-clause-ok c = λ number start acts s.
    let layout = c.args.topology.now in
    let old = c.args.self.now in
    let x = c.args.id in
    let ballot_from : (Stamp → Ballot) = λ t. record { 0 = t } in
    let ballot : Ballot = ballot_from c.peek.result in
    let drawn : ballot ≡ ballot_from (next_stamp old.clock) = ap ballot_from c.peek.ensures in
    let same : c.in_ok-copy.field-0 ≡ c.args.body.now = c.in_ok-copy.ensures in
    let recovery = c.in_ok-recovery.recovery in
    let runs = subst (λ (body : BodyParts). Recovers layout x recovery (recovering ballot body)) same c.in_ok-recovery.ensures.stands in
    let runs_kept = subst (λ (r : Running). RunsAs layout x r (recovering ballot c.args.body.now)) (sym (c.in_ok-running.ensures ∙ ap (λ (r : Recovery). Recovering r) c.in_ok-kept.ensures)) runs in
    let asks = c.in_ok-recovery.ensures.asks ∙ ap (ask_for_views layout (home_of x ballot) x ballot) same in
    let with_notes : (List Note → Emitted) = λ notes. record { notes = notes; out = c.in_ok-recovery.out } in
    record {
      emits =
          ap with_notes c.in_ok-notes.ensures
          ∙ recover_emits layout number start acts old s x ballot c.args.body.now c.in_ok-recovery.out drawn asks;
      stands =
          recovers_stands layout number start acts old _ x ballot c.in_ok-running.running c.args.body.now drawn runs_kept c.draw.ensures.after (λ t. refl) (λ y. refl)
          (at_id old.attempts c.insert.new.self x (Some c.in_ok-running.running) c.in_ok-insert.ensures.updates.0) s;
    }
