use Rattle.std.proofs.Common.{ℕ, List}
use Rattle.acc_txn.specs.declared.parts.BodyParts.{BodyParts}
use Rattle.acc_report_line.specs.declared.line.Line.{Line}
use Rattle.acc_audit_laws.proofs.Agreement.{lines_agree}
use Rattle.acc_audit_laws.proofs.Coverage.{lines_cover}
use Rattle.acc_audit_laws.proofs.Names.{begin_once, lines_know}
use Rattle.acc_audit_laws.proofs.SerialLines.{lines_are_serial}
use Rattle.acc_audit_laws.proofs.laws.a_yes_means.Goals as goal

pub returns-clause-known : goal.returns-clause-known
returns-clause-known c = λ (names : List (List ℕ)) (bodies : List BodyParts) (lines : List Line) keeps. lines_know names bodies lines keeps

pub returns-clause-once : goal.returns-clause-once
returns-clause-once c = λ (names : List (List ℕ)) (bodies : List BodyParts) (lines : List Line) keeps. begin_once names bodies lines keeps

pub returns-clause-agree : goal.returns-clause-agree
returns-clause-agree c = λ (names : List (List ℕ)) (bodies : List BodyParts) (lines : List Line) keeps. lines_agree names bodies lines keeps

pub returns-clause-cover : goal.returns-clause-cover
returns-clause-cover c = λ (names : List (List ℕ)) (bodies : List BodyParts) (lines : List Line) keeps. lines_cover names bodies lines keeps

pub returns-clause-serial : goal.returns-clause-serial
returns-clause-serial c = λ (names : List (List ℕ)) (bodies : List BodyParts) (lines : List Line) keeps. lines_are_serial names bodies lines keeps
