-- What is told is above the start and not too high, and the journal of a node is never refused.
use Rattle.std.proofs.Common.{ℕ, ◌-◌, ◌^◌, ◌<◌, List, length, refl, sym, subst, ap, arith}
use Rattle.acc_journal.specs.Layout.{Reads}
use Rattle.acc_journal.specs.Journal.{JournalState}
use Rattle.acc_payloads.specs.Journals.{IsRefusedAs}
use Rattle.acc_payloads.specs.Node.{node_bytes, NodeMay, IsReadAs}
use Rattle.acc_durable_node.proofs.Standing.{told_above, told_most, reopened_is, refused_never}
use Rattle.acc_durable_node.proofs.Journals.{reopened_from}
use Rattle.acc_durable_node.proofs.node.DurableNode.reopen.Goals as goal

pub returns-in-Err-clause-never : goal.returns-in-Err-clause-never
returns-in-Err-clause-never g c = λ payloads items reads journal. c.in-Err.ensures.never payloads reads

pub reopened-requires-clause-above : goal.reopened-requires-clause-above
reopened-requires-clause-above g c = told_above c.args.name.number c.args.name.version c.args.name.start _ _ c.in-Ok-read_node_journal.ensures.ok

pub reopened-requires-clause-most : goal.reopened-requires-clause-most
reopened-requires-clause-most g c = told_most c.args.name.number c.args.name.version c.args.name.start _ _ c.requires.named.start_in_range c.in-Ok-read_node_journal.ensures.ok

pub returns-in-Ok-read_node_journal-clause-ok : goal.returns-in-Ok-read_node_journal-clause-ok
returns-in-Ok-read_node_journal-clause-ok g c =
    let payloads : List (List ℕ) = c.in-Ok.opened.1 in
    let long : length payloads < 2 ^ 64 = omega (arith, c.len.ensures, c.len.type_inv) in
    reopened_is _ c.in-Ok-read_node_journal.told payloads
    (subst (λ (l : List (List ℕ)). IsReadAs c.args.name.number c.args.name.version c.args.name.start l c.in-Ok-read_node_journal.told) c.as_slice.ensures c.in-Ok-read_node_journal.ensures.ok)
    (ap (λ (j : JournalState g.row.D.Denot). j.payloads) c.in-Ok.ensures.ok) (ap (λ (j : JournalState g.row.D.Denot). j.broken) c.in-Ok.ensures.ok)
    c.reopened.ensures.clock c.reopened.ensures.begun c.reopened.ensures.attempts c.reopened.ensures.clients refl (λ i. c.len.ensures i - c.marks.ensures i) long

pub returns-clause-never : goal.returns-clause-never
returns-clause-never g c = λ payloads items reads journal.
    refused_never c.args.name.version c.args.name.start (g.D.Disk.state c.args.disk).content c.in-Ok.opened.1 payloads items c.in-Err-read_node_journal.error c.in-Ok.ensures.payloads reads journal
    (subst (λ (l : List (List ℕ)). IsRefusedAs node_bytes (NodeMay c.args.name.version c.args.name.start) l c.in-Err-read_node_journal.error) c.as_slice.ensures c.in-Err-read_node_journal.ensures.refused)

pub returns-in-Ok-read_node_journal-clause-restarts : goal.returns-in-Ok-read_node_journal-clause-restarts
returns-in-Ok-read_node_journal-clause-restarts g c = λ layout acts payloads reads after.
    reopened_from layout _ (g.D.Disk.state c.args.disk).content acts payloads (returns-in-Ok-read_node_journal-clause-ok g c)
    (subst (Reads (g.D.Disk.state c.args.disk).content) (sym (ap (λ (j : JournalState g.row.D.Denot). j.payloads) c.in-Ok.ensures.ok)) c.in-Ok.ensures.payloads) reads after
