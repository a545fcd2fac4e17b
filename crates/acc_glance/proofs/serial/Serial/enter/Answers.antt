use Rattle.std.proofs.Common.{◌∷◌, ◌++◌, take, refl, sym, ◌∙◌, ap, subst}
use Rattle.std.proofs.lemmas.List.{append-nil, take_all}
use Rattle.acc_message.specs.Items.{notes_of}
use Rattle.acc_message.specs.Shown.{with_sent}
use Rattle.acc_schedule_runs.specs.Schedules.{cluster_of}
use Rattle.acc_glance.specs.Serial.{TellsNotes}
use Rattle.acc_glance.proofs.SerialFacts.{entered, notes_more}
use Rattle.acc_glance.proofs.serial.Serial.enter.Goals as goal

pub loop-note-init : goal.loop-note-init
loop-note-init c = λ out earlier t.
    let item = with_sent c.args.item out in
    subst
    (TellsNotes (record { begun = c.enter_begin.new.begun; answered = c.args.self.now.answered; cells = c.args.self.now.cells }) (cluster_of c.args.plan.now) (item ∷ earlier))
    (sym (append-nil (notes_of earlier)))
    (entered c.args.self.now (record { begun = c.enter_begin.new.begun; answered = c.args.self.now.answered; cells = c.args.self.now.cells }) (cluster_of c.args.plan.now) earlier item
    (c.in_ok-enter_begin.ensures out) (λ x. refl) (λ key. refl) t)

pub loop-note-preserved : goal.loop-note-preserved
loop-note-preserved c = λ out earlier t.
    let xs = c.notes_of-note-items.result.now in
    let i = c.loop-note.note-index in
    subst (TellsNotes c.enter_note.new.self (cluster_of c.args.plan.now) (with_sent c.args.item out ∷ earlier))
    (notes_more (notes_of earlier) xs i c.note-item.result c.loop-note-test.true c.note-item.is)
    (c.in_ok-enter_note.ensures (with_sent c.args.item out ∷ earlier) (notes_of earlier ++ take i xs) (c.loop-note.invariant out earlier t))

pub returns : goal.returns
returns c = λ out earlier t.
    let xs = c.notes_of-note-items.result.now in
    subst (TellsNotes c.loop-note.self (cluster_of c.args.plan.now) (with_sent c.args.item out ∷ earlier))
    (ap (λ l. notes_of earlier ++ l) (take_all c.loop-note.note-index xs c.loop-note-test.false ∙ c.notes_of-note-items.ensures out)) (c.loop-note.invariant out earlier t)
