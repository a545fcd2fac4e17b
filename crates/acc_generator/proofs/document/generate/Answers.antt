use Rattle.std.proofs.Common.{◌≡◌, List, [], ◌∷◌, ◌++◌, ℕ, sym, ap, subst, ◌∙◌}
use Rattle.json.specs.Print.{print}
use Rattle.serde_json.proofs.Texts.{print-outline}
use Rattle.acc_schedule.specs.Document.{Means}
use Rattle.acc_generator.specs.Document.{document}
use Rattle.acc_generator.specs.Plan.{plan}
use Rattle.acc_generator.specs.Tokens.{data_tokens}
use Rattle.acc_generator.proofs.PlanFacts.{document_means}
use Rattle.acc_generator.proofs.document.generate.Goals as goal

pub returns-clause-text : goal.returns-clause-text
returns-clause-text c =
    let said = document c.args.seed c.args.txns in
    let out = c.write_document.new.out in
    let written = c.in_ok-write_document.ensures in
    let empty : out.before ≡ [] = written.0 ∙ c.new-out.ensures.before ∙ c.in_ok-with_capacity.ensures.items in
    let tokens : out.tokens ≡ data_tokens said = written.1 ∙ ap (λ ts. ts ++ data_tokens said) c.new-out.ensures.tokens in
    c.from_vec.ensures ∙ c.in_ok-push.ensures.items
    ∙ ap (λ (text : List ℕ). text ++ 10 ∷ []) (c.into_inner-text.ensures.items ∙ ap (λ (front : List ℕ). front ++ print out.tokens) empty ∙ ap print tokens ∙ print-outline said)

pub returns-clause-accepted : goal.returns-clause-accepted
returns-clause-accepted c =
    subst (λ (bytes : List ℕ). Means bytes (plan c.args.seed c.args.txns)) (sym (returns-clause-text c)) (document_means c.args.seed c.args.txns c.requires.few)
