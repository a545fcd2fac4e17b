use Rattle.std.proofs.Common.{◌≡◌, List, Result, Err, refl, sym, ap, subst, ◌∙◌}
use Rattle.std.proofs.lemmas.Bool.{true≢false}
use Rattle.std.proofs.lemmas.Result.{err_from_is_err_and}
use Rattle.acc_message.specs.declared.note.Note.{Note}
use Rattle.acc_message.specs.NodeRules.{Deed, attempt_of, node_replay}
use Rattle.acc_node.specs.declared.error.NodeError.{NodeError}
use Rattle.acc_node.specs.Stands.{SlowsBegun}
use Rattle.acc_node.proofs.Slowing.{refuses_begun, slows_begun, slow_granted}
use Rattle.acc_node.proofs.Refusing.{refused_unknown, refused_no_quorum, never_begun, if_err_is}
use Rattle.acc_node.proofs.node.Node.slow.Goals as goal

pub returns-in_err-out-clause-unknown : goal.returns-in_err-out-clause-unknown
returns-in_err-out-clause-unknown c = λ number start acts s.
    let layout = c.args.topology.now in
    let past : List Deed = node_replay layout number start acts in
    let x = c.in-Some.id in
    let error = c.in_err-out.field-0.0 in
    let p : (e : NodeError) × (c.from_residual.result ≡ Err e) × (e ≡ error) = err_from_is_err_and c.from_residual.result c.from_residual.ensures.1 in
    refused_unknown _ _ c.from_residual.result error (p.1 ∙ ap Err p.2)
    (refuses_begun layout number start past x c.args.txn error (sym (c.in-Some.ensures layout number start acts s))
    (c.in_err-out.ensures.refused (attempt_of layout number start x past) (s.attempts x)))

pub returns-in_err-out-clause-no_quorum : goal.returns-in_err-out-clause-no_quorum
returns-in_err-out-clause-no_quorum c = λ number start acts s.
    let layout = c.args.topology.now in
    let past : List Deed = node_replay layout number start acts in
    let x = c.in-Some.id in
    let error = c.in_err-out.field-0.0 in
    let p : (e : NodeError) × (c.from_residual.result ≡ Err e) × (e ≡ error) = err_from_is_err_and c.from_residual.result c.from_residual.ensures.1 in
    refused_no_quorum _ _ c.from_residual.result error (p.1 ∙ ap Err p.2)
    (refuses_begun layout number start past x c.args.txn error (sym (c.in-Some.ensures layout number start acts s))
    (c.in_err-out.ensures.refused (attempt_of layout number start x past) (s.attempts x)))

pub returns-in_err-out-clause-not_begun : goal.returns-in_err-out-clause-not_begun
returns-in_err-out-clause-not_begun c =
    let layout = c.args.topology.now in
    let x = c.in-Some.id in
    let error = c.in_err-out.field-0.0 in
    let p : (e : NodeError) × (c.from_residual.result ≡ Err e) × (e ≡ error) = err_from_is_err_and c.from_residual.result c.from_residual.ensures.1 in
    if_err_is c.from_residual.result error _ (p.1 ∙ ap Err p.2)
    (λ number start acts s.
    never_begun _ _ error
    (refuses_begun layout number start (node_replay layout number start acts) x c.args.txn error (sym (c.in-Some.ensures layout number start acts s))
    (c.in_err-out.ensures.refused (attempt_of layout number start x (node_replay layout number start acts)) (s.attempts x))))

pub returns-clause-ok : goal.returns-clause-ok
returns-clause-ok c = λ number start acts s.
    let layout = c.args.topology.now in
    subst (λ (notes : List Note). SlowsBegun layout number start c.go_slow.new.self acts c.args.txn (record { notes = notes; out = c.in_ok-out.out })) (sym c.new.ensures)
    (slows_begun layout number start acts c.args.self.now c.go_slow.new.self c.in-Some.id c.in_ok-out.out c.in_ok-out.ensures.ok s c.args.txn
    (sym (c.in-Some.ensures layout number start acts s)))

pub returns-clause-unknown : goal.returns-clause-unknown
returns-clause-unknown c = λ number start acts s.
    let layout = c.args.topology.now in
    let granted = slow_granted layout number start acts c.go_slow.new.self c.args.txn _
    (slows_begun layout number start acts c.args.self.now c.go_slow.new.self c.in-Some.id c.in_ok-out.out c.in_ok-out.ensures.ok s c.args.txn
    (sym (c.in-Some.ensures layout number start acts s))) in
    (λ h. cc, λ h. absurd (true≢false (sym granted.0 ∙ h)))

pub returns-clause-no_quorum : goal.returns-clause-no_quorum
returns-clause-no_quorum c = λ number start acts s.
    let layout = c.args.topology.now in
    let granted = slow_granted layout number start acts c.go_slow.new.self c.args.txn _
    (slows_begun layout number start acts c.args.self.now c.go_slow.new.self c.in-Some.id c.in_ok-out.out c.in_ok-out.ensures.ok s c.args.txn
    (sym (c.in-Some.ensures layout number start acts s))) in
    (λ h. cc, λ h. absurd (true≢false (sym granted.1 ∙ h.1)))
