use Rattle.std.proofs.Common.{ap, ◌∙◌}
use Rattle.serde_json.specs.View.{view}
use Rattle.acc_left.specs.Documents.{journal_members, left_data, without_steps}
use Rattle.acc_left.proofs.DocumentFacts.{is_line}
use Rattle.acc_left.proofs.document.left_document.Goals as goal

pub returns : goal.returns
returns c =
    is_line (left_data (view c.args.root) c.args.images.now) (view c.in_ok-left.left) c.in_ok-line.line.items c.from_vec.result
    (c.in_ok-left.ensures ∙ ap (without_steps (view c.args.root)) (c.in_ok-journals.ensures ∙ ap journal_members c.as_slice.ensures)) c.in_ok-line.ensures.utf8
    (c.from_vec.ensures ∙ c.in_ok-push.ensures.items) c.in_ok-line.ensures.text c.in_ok-line.ensures.compact c.in_ok-line.ensures.order c.in_ok-line.ensures.reads_back
