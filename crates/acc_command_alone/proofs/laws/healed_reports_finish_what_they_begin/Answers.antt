-- The lines of healed items, in the report's words.
use Rattle.acc_command_alone.proofs.HealingFacts.{finished_lines}
use Rattle.acc_command_alone.proofs.laws.healed_reports_finish_what_they_begin.Goals as goal

pub returns : goal.returns
returns g c = λ before after bytes text plan says print due. finished_lines g.M.D.Disk before after bytes text plan says print due.1
