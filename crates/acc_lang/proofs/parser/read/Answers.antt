use Rattle.acc_lang.proofs.UsesRead.{uses_of_lets, read_uses}
use Rattle.acc_lang.proofs.parser.read.Goals as goal

pub returns-clause-uses : goal.returns-clause-uses
returns-clause-uses c =
    let read = rw c.requires at c.in_ok-lets.ensures.lets in
    read_uses c.behind_lets.result c.in_ok-lets.lets c.lets.new.uses c.behind_lets.new.uses
    (uses_of_lets c.args.texts c.lets.new.uses c.in_ok-lets.lets c.open.new.cursor.rest.now c.lets.new.cursor.rest.now read) c.behind_lets.ensures.lets c.behind_lets.ensures.uses
