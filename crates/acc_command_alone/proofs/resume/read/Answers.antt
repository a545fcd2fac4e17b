-- What all bytes give is what is read of them.
use Rattle.std.proofs.Common.{List, subst}
use Rattle.acc_schedule.specs.Content.{Content}
use Rattle.acc_left.specs.declared.image.Image.{Image}
use Rattle.acc_left.specs.Reading.{IsReadLeft, MeansLeft}
use Rattle.acc_command_alone.proofs.resume.read.Goals as goal

pub returns-clause-read : goal.returns-clause-read
returns-clause-read c =
    subst (λ bytes. (plan : Content) (images : List Image) → MeansLeft bytes plan images → IsReadLeft plan images c.read_left.result)
    c.as_slice.ensures c.read_left.ensures.read
