use Rattle.acc_examples.proofs.Stepped.{first_body_counts-answers, first_body_counts-known, first_body_counts-unknown}
use Rattle.acc_examples.proofs.actors.first_body_counts.Goals as goal

pub returns : goal.returns
returns c = record { answers = first_body_counts-answers; known = first_body_counts-known; unknown = first_body_counts-unknown }
