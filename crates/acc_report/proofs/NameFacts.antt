-- The names of a directory that has what the roll and the items give.
use Rattle.std.proofs.Common.{◌≡◌, ℕ, List, ap, ◌∙◌}
use Rattle.std.proofs.Math.Path.{fun_ext}
use Rattle.acc_stamp.specs.declared.stamps.TxnId.{TxnId}
use Rattle.acc_message.specs.declared.item.Item.{Item}
use Rattle.acc_report.specs.declared.names.Directory.{Directory}
use Rattle.acc_report.specs.Numbers.{name_in, IsOf}
use Rattle.acc_report.specs.Report.{number_of, name_numbered, name_of}

pub name_in-is : (d : Directory) (names : List (List ℕ)) (roll : List (TxnId × ℕ)) (items : List Item) → IsOf d names roll items → name_in d ≡ name_of names roll items
unfolding name_in
name_in-is d names roll items h = fun_ext (λ x. ap (name_numbered d.names.now) (h.1 x) ∙ ap (λ all. name_numbered all (number_of roll items x)) h.0)
