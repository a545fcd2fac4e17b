use Rattle.acc_value.specs.Cells.{cell_of}
use Rattle.acc_code.proofs.AnswersFit.{answer_fits, found_fits}
use Rattle.acc_code.proofs.laws.what_is_answered_fits.Goals as goal

pub returns-clause-of_cells : goal.returns-clause-of_cells
returns-clause-of_cells c = λ body cells rules fits. answer_fits body cells rules fits

pub returns-clause-of_list : goal.returns-clause-of_list
returns-clause-of_list c = λ body cells rules fits. answer_fits body (cell_of cells) rules (λ key. found_fits cells key fits)
