-- The looks before this one are read.
use Rattle.acc_document_fields.proofs.EachFacts.{AreRead}
use Rattle.acc_glance.specs.Documents.{look_fault, look_of}
use Rattle.acc_glance.proofs.looks.looks_in.Given as goal

abbrev pub invariant-loop-place : goal.invariant-loop-place
invariant-loop-place l = AreRead (look_fault l.steps) look_of l.items l.place l.looks
