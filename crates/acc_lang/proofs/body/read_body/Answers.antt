use Rattle.std.proofs.Common.{◌≡◌, Ok}
use Rattle.acc_lang.specs.Grammar.{IsTextOf}
use Rattle.acc_lang.specs.Reading.{reading}
use Rattle.acc_lang.proofs.Answering.{of_body, no_memory}
use Rattle.acc_lang.proofs.Bodies.{read_sound}
use Rattle.acc_lang.proofs.body.read_body.Goals as goal

pub body_of-requires-clause-keeps_rules : goal.body_of-requires-clause-keeps_rules
body_of-requires-clause-keeps_rules c =
    let is : reading c.args.texts c.args.text.now ≡ Ok c.in-Ok.parts = cc (c.in-Ok.ensures.parts, c.as_bytes.ensures.value) in
    (read_sound c.args.texts c.args.text.now c.in-Ok.parts c.utf8.text is).1

pub returns-in-Ok-clause-read : goal.returns-in-Ok-clause-read
returns-in-Ok-clause-read c =
    let is : reading c.args.texts c.args.text.now ≡ Ok c.in-Ok.parts = cc (c.in-Ok.ensures.parts, c.as_bytes.ensures.value) in
    of_body (λ body. reading c.args.texts c.args.text.now ≡ Ok body) c.in-Ok.parts c.body_of.result is c.body_of.ensures.body

pub returns-in-Ok-clause-sound : goal.returns-in-Ok-clause-sound
returns-in-Ok-clause-sound c =
    let is : reading c.args.texts c.args.text.now ≡ Ok c.in-Ok.parts = cc (c.in-Ok.ensures.parts, c.as_bytes.ensures.value) in
    of_body (IsTextOf c.args.texts c.args.text.now) c.in-Ok.parts c.body_of.result (read_sound c.args.texts c.args.text.now c.in-Ok.parts c.utf8.text is) c.body_of.ensures.body

pub returns-in-Ok-clause-fault : goal.returns-in-Ok-clause-fault
returns-in-Ok-clause-fault c = no_memory c.args.texts c.args.text.now c.body_of.result c.body_of.ensures.memory
