use Rattle.std.proofs.Common.{◌≡◌, ℕ, Option, Some, IfSome, sym}
use Rattle.std.proofs.lemmas.List.Elements.{All-set}
use Rattle.acc_stamp.specs.declared.stamps.TxnId.{TxnId}
use Rattle.acc_report.specs.Known.{number_at}
use Rattle.acc_report.proofs.numbers.entries.Goals as goal

pub loop-id-preserved-then-place-len : goal.loop-id-preserved-then-place-len
loop-id-preserved-then-place-len c =
    let IsNumber : Option (TxnId × ℕ) → Type 0 = λ entry. IfSome entry (λ e. number_at c.args.known.now.entries e.0 ≡ Some e.1) in
    All-set IsNumber c.loop-id.entries.items c.place-place.result (Some (c.in-Some.id.now, c.in-Some-get.txn.now)) (sym c.in-Some-get.ensures.value) c.loop-id.invariant
