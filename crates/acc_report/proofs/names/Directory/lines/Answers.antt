use Rattle.std.proofs.Common.{◌++◌, ap, ◌∙◌}
use Rattle.acc_report.specs.Numbers.{name_in}
use Rattle.acc_report.specs.Report.{name_of, name_at, lines_in}
use Rattle.acc_report.proofs.NameFacts.{name_in-is}
use Rattle.acc_report.proofs.names.Directory.lines.Goals as goal

pub returns : goal.returns
returns c names roll items is =
    let directory = c.args.self.now in
    let item = c.args.item.now in
    c.in_ok-add_item.ensures
    ∙ ap (λ lines. lines ++ lines_in (name_in directory) (name_at directory.names.now) item) c.new-lines.ensures
    ∙ ap (λ name. lines_in name (name_at directory.names.now) item) (name_in-is directory names roll items is)
    ∙ ap (λ all. lines_in (name_of names roll items) (name_at all) item) is.0
