use Rattle.std.proofs.Common.{List, [], ◌∷◌, ◌++◌, ◌∙◌}
use Rattle.std.proofs.lemmas.Result.{on_ok_weaker}
use Rattle.json.specs.Token.{Token, begin_array, end_array}
use Rattle.acc_generator.specs.Document.{node, nodes}
use Rattle.acc_generator.specs.Tokens.{data_tokens}
use Rattle.acc_generator.proofs.TokenFacts.{more}
use Rattle.acc_generator.proofs.cluster.write_nodes.Goals as goal

pub returns : goal.returns
unfolding nodes
returns c =
    let y4 : List Token = end_array ∷ [] in
    let y3 : List Token = (data_tokens (node 3)) ++ y4 in
    let y2 : List Token = (data_tokens (node 2)) ++ y3 in
    let y1 : List Token = (data_tokens (node 1)) ++ y2 in
    on_ok_weaker c.end_array.result (λ e. (
      c.end_array.ensures.room.0 ∙ c.in_ok-write_node-3.ensures.0 ∙ c.in_ok-write_node-2.ensures.0 ∙ c.in_ok-write_node.ensures.0 ∙ c.in_ok-begin_array.ensures.room.0,
      more c.args.out.now.tokens (begin_array ∷ []) y1 c.in_ok-begin_array.ensures.ok (more c.begin_array.new.self.tokens (data_tokens (node 1)) y2 c.in_ok-write_node.ensures.1 (more c.write_node.new.out.tokens (data_tokens (node 2)) y3 c.in_ok-write_node-2.ensures.1 (more c.write_node-2.new.out.tokens (data_tokens (node 3)) y4 c.in_ok-write_node-3.ensures.1 e))),
    )) c.end_array.ensures.ok
