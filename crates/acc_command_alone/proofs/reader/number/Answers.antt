use Rattle.std.proofs.Common.{◌≡◌, true, false, sym, ap, ◌∙◌, arith}
use Rattle.std.specs.Str.Parse.{ParsesUnsigned, ExplainsUnsignedError, HasUnsignedDigitsIfOk}
use Rattle.clap.specs.Words.{app_of}
use Rattle.clap.specs.contracts.error.kind.ErrorKind.{the_type}
use Rattle.clap.specs.declared.error.kind.ErrorKind.{ErrorKind}
use Rattle.clap.specs.declared.error.kind.ErrorKind.TheVariants.{OutOfMemory}
use Rattle.acc_command_alone.proofs.NumberFacts.{answered, refused}
use Rattle.acc_command_alone.proofs.reader.number.Goals as goal
use denote.Enum.Bare.{sameb}

pub returns-in-Ok : goal.returns-in-Ok
returns-in-Ok c =
    answered c.args.least c.args.most c.args.word.now (app_of c.in_ok-reader.reader) c.in_ok-reader.ensures (omega arith) _
    (λ bs r. ParsesUnsigned 64 10 bs r × ExplainsUnsignedError 10 bs r × HasUnsignedDigitsIfOk bs r)
    c.in-Ok.matches c.get_one.result c.in-Ok.ensures.kinds c.in-Ok.ensures.matches c.get_one.ensures.value (λ u x g. g.0)

pub returns-in-Err-2 : goal.returns-in-Err-2
returns-in-Err-2 c =
    refused c.args.least c.args.most c.args.word.now (app_of c.in_ok-reader.reader) c.in_ok-reader.ensures (omega arith) c.in-Err.error c.in-Err.ensures.kinds
    (λ e.
    let both : true ≡ false = sym (c.eq.ensures ∙ ap (λ (kind : ErrorKind). sameb the_type kind OutOfMemory) (c.kind.ensures ∙ e)) ∙ c.if-eq.false in
    absurd cc)
