-- The group of all that waits.
use Rattle.std.proofs.Common.{arith, ◌≡◌, ◌∙◌, ap, sym, subst, ℕ, ◌-◌, List, ◌++◌, length, vec_len}
use Rattle.std.specs.Prelude.{OnOk, false}
use Rattle.acc_journal.specs.Layout.{payloads_of}
use Rattle.acc_journal.specs.Journal.{JournalState}
use Rattle.acc_journal.specs.Calls.{Appends, journal_answer}
use Rattle.acc_journal.specs.Records.{payloads_in, AreRecords}
use Rattle.acc_journal.proofs.Waiting.{waiting_group, gate_off}
use Rattle.acc_journal.proofs.journal.Journal.append_records.Goals as goal

pub invariant_of-self : goal.invariant_of-self
invariant_of-self g c =
    let is = waiting_group _ _ _ c.records.view_is c.requires.some c.records.invariant.records (c.deref.ensures.value ∙ c.push_reserved.ensures.items) in
    c.put_down-appended.ensures.settled c.args.records.now is

pub returns-clause-ok : goal.returns-clause-ok
returns-clause-ok g c =
    let is = waiting_group _ _ _ c.records.view_is c.requires.some c.records.invariant.records (c.deref.ensures.value ∙ c.push_reserved.ensures.items) in
    subst (λ (v : JournalState g.row.D.Denot). OnOk c.put_down-appended.result ((c.put_down-appended.new.broken ≡ false) × (payloads_of (g.D.Disk.state c.put_down-appended.new.disk).content ≡ v.payloads ++ c.args.records.now))) c.self.view_is (c.put_down-appended.ensures.ok c.args.records.now is)

pub returns-clause-appends : goal.returns-clause-appends
returns-clause-appends g c =
    let is = waiting_group _ _ _ c.records.view_is c.requires.some c.records.invariant.records (c.deref.ensures.value ∙ c.push_reserved.ensures.items) in
    subst (λ (v : JournalState g.row.D.Denot). Appends g.D.Disk v.disk c.put_down-appended.new.disk v.payloads c.args.records.now (journal_answer c.put_down-appended.result)) c.self.view_is (c.put_down-appended.ensures.appends c.args.records.now is)

pub push_reserved-requires : goal.push_reserved-requires
push_reserved-requires g c = omega (arith, c.records.invariant.room (omega (arith, c.requires.some, ap length c.records.view_is, c.records.invariant.count)))

pub invariant_of-records : goal.invariant_of-records
invariant_of-records g c =
    let inside = c.records.inside.bytes in
    let same = gate_off inside.items c.push_reserved.new.self.items c.pop-gate.new.self.items (vec_len c.push_reserved.new.self - 1) c.push_reserved.ensures.items (omega (arith, c.push_reserved.ensures.len, inside.ok.0)) c.pop-gate.ensures.rest in
    record {
      records = subst (λ (l : List ℕ). AreRecords l (payloads_in l)) (sym same) c.records.invariant.records;
      count = c.records.invariant.count ∙ ap (λ (l : List ℕ). length (payloads_in l)) (sym same);
      room = λ some. omega (arith, c.records.invariant.room some, c.push_reserved.ensures.len, c.push_reserved.ensures.capacity, c.pop-gate.ensures.capacity, ap length same, inside.ok.0, c.pop-gate.new.self.ok.0);
    }

pub returns-clause-kept : goal.returns-clause-kept
returns-clause-kept g c =
    let inside = c.records.inside.bytes in
    let same = gate_off inside.items c.push_reserved.new.self.items c.pop-gate.new.self.items (vec_len c.push_reserved.new.self - 1) c.push_reserved.ensures.items (omega (arith, c.push_reserved.ensures.len, inside.ok.0)) c.pop-gate.ensures.rest in
    ap payloads_in same ∙ c.records.view_is
