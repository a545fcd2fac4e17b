use Rattle.std.proofs.Common.{List, [], ◌∷◌, ◌++◌, ◌∙◌, codes, decimal, map}
use Rattle.std.proofs.lemmas.Result.{on_ok_weaker}
use Rattle.json.specs.Token.{Token, begin_object, end_object, key, number, string}
use Rattle.acc_generator.specs.Document.{list, nodes, numbers, schedule, shards, transaction}
use Rattle.acc_generator.specs.Tokens.{data_tokens}
use Rattle.acc_generator.proofs.TokenFacts.{more}
use Rattle.acc_generator.proofs.document.write_document.Goals as goal

pub returns : goal.returns
returns c =
    let y13 : List Token = end_object ∷ [] in
    let y12 : List Token = (number (decimal 1) ∷ []) ++ y13 in
    let y11 : List Token = (key (codes "version") ∷ []) ++ y12 in
    let y10 : List Token = (data_tokens (list (map (transaction c.args.seed) (numbers c.args.txns)))) ++ y11 in
    let y9 : List Token = (key (codes "txns") ∷ []) ++ y10 in
    let y8 : List Token = (data_tokens shards) ++ y9 in
    let y7 : List Token = (key (codes "shards") ∷ []) ++ y8 in
    let y6 : List Token = (data_tokens (list (schedule c.args.txns))) ++ y7 in
    let y5 : List Token = (key (codes "schedule") ∷ []) ++ y6 in
    let y4 : List Token = (string (codes "summary") ∷ []) ++ y5 in
    let y3 : List Token = (key (codes "print") ∷ []) ++ y4 in
    let y2 : List Token = (data_tokens nodes) ++ y3 in
    let y1 : List Token = (key (codes "nodes") ∷ []) ++ y2 in
    on_ok_weaker c.end_object.result (λ e. (
      c.end_object.ensures.room.0 ∙ c.in_ok-u64.ensures.room.0 ∙ c.in_ok-key-6.ensures.room.0 ∙ c.in_ok-write_transactions.ensures.0 ∙ c.in_ok-key-5.ensures.room.0 ∙ c.in_ok-write_shards.ensures.0 ∙ c.in_ok-key-4.ensures.room.0 ∙ c.in_ok-write_schedule.ensures.0 ∙ c.in_ok-key-3.ensures.room.0 ∙ c.in_ok-string.ensures.room.0 ∙ c.in_ok-key-2.ensures.room.0 ∙ c.in_ok-write_nodes.ensures.0 ∙ c.in_ok-key.ensures.room.0 ∙ c.in_ok-begin_object.ensures.room.0,
      more c.args.out.now.tokens (begin_object ∷ []) y1 c.in_ok-begin_object.ensures.ok (more c.begin_object.new.self.tokens (key (codes "nodes") ∷ []) y2 c.in_ok-key.ensures.ok (more c.key.new.self.tokens (data_tokens nodes) y3 c.in_ok-write_nodes.ensures.1 (more c.write_nodes.new.out.tokens (key (codes "print") ∷ []) y4 c.in_ok-key-2.ensures.ok (more c.key-2.new.self.tokens (string (codes "summary") ∷ []) y5 c.in_ok-string.ensures.ok (more c.string.new.self.tokens (key (codes "schedule") ∷ []) y6 c.in_ok-key-3.ensures.ok (more c.key-3.new.self.tokens (data_tokens (list (schedule c.args.txns))) y7 c.in_ok-write_schedule.ensures.1 (more c.write_schedule.new.out.tokens (key (codes "shards") ∷ []) y8 c.in_ok-key-4.ensures.ok (more c.key-4.new.self.tokens (data_tokens shards) y9 c.in_ok-write_shards.ensures.1 (more c.write_shards.new.out.tokens (key (codes "txns") ∷ []) y10 c.in_ok-key-5.ensures.ok (more c.key-5.new.self.tokens (data_tokens (list (map (transaction c.args.seed) (numbers c.args.txns)))) y11 c.in_ok-write_transactions.ensures.1 (more c.write_transactions.new.out.tokens (key (codes "version") ∷ []) y12 c.in_ok-key-6.ensures.ok (more c.key-6.new.self.tokens (number (decimal 1) ∷ []) y13 c.in_ok-u64.ensures.ok e)))))))))))),
    )) c.end_object.ensures.ok
