-- The first write leaves the closed gate, and the second opens it.
use Rattle.std.proofs.Common.{◌≡◌, Ok, Err, sym, subst, ap, ◌∙◌, ◌+◌}
use Rattle.std.proofs.lemmas.Result.{err_from_is_err_and}
use Rattle.acc_journal.specs.Layout.{payloads_of}
use Rattle.acc_journal.specs.Calls.{Answer, Appends, ending_of}
use Rattle.acc_journal.proofs.Appends.{Wrote, first_ends, second_ends, is_appended, both_pass}
use Rattle.acc_journal.proofs.append.append_records.Goals as goal

pub returns-in_err-write_durably-clause-appends : goal.returns-in_err-write_durably-clause-appends
returns-in_err-write_durably-clause-appends g c = λ group is.
    let p = err_from_is_err_and c.from_residual.result c.from_residual.ensures.1 in
    let ends : ending_of c.from_residual.result ≡ Err c.in_err-write_durably.field-0.0 = ap ending_of p.1 ∙ ap Err p.2 in
    subst (λ (a : Answer). Appends g.D.Disk c.args.disk.now c.write_durably.new.disk (payloads_of (g.D.Disk.state c.args.disk.now).content) group a) (sym ends)
    (first_ends g.D.Disk c.args.disk.now c.args.gate c.requires c.args.bytes.now group is c.write_durably.new.disk c.in_err-write_durably.field-0.0
    (record { any_moment = c.in_err-write_durably.ensures.any_moment; calls = c.in_err-write_durably.ensures.calls; failed = c.in_err-write_durably.ensures.failed }))

pub returns-in_err-write_durably-2-clause-appends : goal.returns-in_err-write_durably-2-clause-appends
returns-in_err-write_durably-2-clause-appends g c = λ group is.
    let p = err_from_is_err_and c.from_residual-in_err-write_durably-2.result c.from_residual-in_err-write_durably-2.ensures.1 in
    let ends : ending_of c.from_residual-in_err-write_durably-2.result ≡ Err c.in_err-write_durably-2.field-0.0 = ap ending_of p.1 ∙ ap Err p.2 in
    let first : Wrote g.D.Disk (c.args.gate + 1) c.args.bytes.now c.args.disk.now c.write_durably.new.disk (Ok tt) = record { any_moment = c.in_ok-write_durably.ensures.any_moment; calls = c.in_ok-write_durably.ensures.calls; failed = c.in_ok-write_durably.ensures.failed } in
    subst (λ (a : Answer). Appends g.D.Disk c.args.disk.now c.write_durably-2.new.disk (payloads_of (g.D.Disk.state c.args.disk.now).content) group a) (sym ends)
    (second_ends g.D.Disk c.args.disk.now c.args.gate c.requires c.args.bytes.now group is c.write_durably.new.disk c.in_ok-write_durably.ensures.content first c.write_durably-2.new.disk c.in_err-write_durably-2.field-0.0
    (record { any_moment = c.in_err-write_durably-2.ensures.any_moment; calls = c.in_err-write_durably-2.ensures.calls; failed = c.in_err-write_durably-2.ensures.failed }))

pub returns-clause-gate : goal.returns-clause-gate
returns-clause-gate g c = λ group is.
    let first : Wrote g.D.Disk (c.args.gate + 1) c.args.bytes.now c.args.disk.now c.write_durably.new.disk (Ok tt) = record { any_moment = c.in_ok-write_durably.ensures.any_moment; calls = c.in_ok-write_durably.ensures.calls; failed = c.in_ok-write_durably.ensures.failed } in
    is_appended g.D.Disk c.args.disk.now c.args.gate c.requires c.args.bytes.now group is c.write_durably.new.disk c.in_ok-write_durably.ensures.content first c.write_durably-2.new.disk c.in_ok-write_durably-2.ensures.content

pub returns-clause-appends : goal.returns-clause-appends
returns-clause-appends g c = λ group is.
    let first : Wrote g.D.Disk (c.args.gate + 1) c.args.bytes.now c.args.disk.now c.write_durably.new.disk (Ok tt) = record { any_moment = c.in_ok-write_durably.ensures.any_moment; calls = c.in_ok-write_durably.ensures.calls; failed = c.in_ok-write_durably.ensures.failed } in
    both_pass g.D.Disk c.args.disk.now c.args.gate c.requires c.args.bytes.now group is c.write_durably.new.disk c.in_ok-write_durably.ensures.content first c.write_durably-2.new.disk c.in_ok-write_durably-2.ensures.content c.in_ok-write_durably-2.ensures.rest
    (record { any_moment = c.in_ok-write_durably-2.ensures.any_moment; calls = c.in_ok-write_durably-2.ensures.calls; failed = c.in_ok-write_durably-2.ensures.failed })
