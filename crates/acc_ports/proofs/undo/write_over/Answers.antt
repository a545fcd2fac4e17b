-- The new write saved what it wrote over.
use Rattle.std.proofs.Common.{arith, rules, refl, ◌≡◌, ◌-◌, ◌≤◌, length, take, drop}
use Rattle.std.specs.Prelude.{min}
use Rattle.std.proofs.lemmas.Grind.{common_steps}
use Rattle.acc_ports.specs.Disk.{overwritten}
use Rattle.acc_ports.proofs.Crashes.{CanCrash-write}
use Rattle.acc_ports.proofs.Undoing.{one_write_more}
use Rattle.acc_ports.proofs.undo.write_over.Goals as goal

pub returns-clause-synced : goal.returns-clause-synced
returns-clause-synced c =
    let content = c.args.content.now.items in
    let inside : c.args.at ≤ length content = search rules in
    let before : c.len-before.result ≡ length content = search rules in
    let over : c.min-over.result ≡ min (length c.args.bytes.now) (length content - c.args.at) = search rules in
    let saved : c.in_ok-saved.saved ≡ take c.min-over.result (drop c.args.at content) = grind (arith, common_steps) in
    let new : c.overwrite.new.content.items ≡ overwritten c.args.at c.args.bytes.now content = grind (arith, common_steps) in
    (one_write_more _ _ _ (length c.args.bytes.now) _ c.min-over.result c.args.bytes.now content c.in_ok-saved.saved _ inside before over saved c.in-Ok.ensures.items new c.requires.can.undo).0

pub returns-clause-can : goal.returns-clause-can
returns-clause-can c =
    let content = c.args.content.now.items in
    let inside : c.args.at ≤ length content = search rules in
    let before : c.len-before.result ≡ length content = search rules in
    let over : c.min-over.result ≡ min (length c.args.bytes.now) (length content - c.args.at) = search rules in
    let saved : c.in_ok-saved.saved ≡ take c.min-over.result (drop c.args.at content) = grind (arith, common_steps) in
    let new : c.overwrite.new.content.items ≡ overwritten c.args.at c.args.bytes.now content = grind (arith, common_steps) in
    CanCrash-write c.args.writes.now.items _ c.args.at (length c.args.bytes.now) _ c.min-over.result c.args.bytes.now content c.in_ok-saved.saved _ inside before over saved c.in-Ok.ensures.items new refl c.requires.can
