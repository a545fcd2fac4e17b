use Rattle.std.proofs.Common.{List, [], ◌∷◌, ◌++◌, ◌∙◌, codes}
use Rattle.std.proofs.lemmas.Result.{on_ok_weaker}
use Rattle.json.specs.Token.{Token, begin_object, end_object, key, string}
use Rattle.acc_generator.specs.Document.{list, whole}
use Rattle.acc_generator.specs.Tokens.{data_tokens}
use Rattle.acc_generator.proofs.TokenFacts.{more}
use Rattle.acc_generator.proofs.cluster.write_shard.Goals as goal

pub returns : goal.returns
returns c =
    let y5 : List Token = end_object ∷ [] in
    let y4 : List Token = (data_tokens (list (whole 1 ∷ whole 2 ∷ whole 3 ∷ []))) ++ y5 in
    let y3 : List Token = (key (codes "replicas") ∷ []) ++ y4 in
    let y2 : List Token = (string c.args.end.now ∷ []) ++ y3 in
    let y1 : List Token = (key (codes "end") ∷ []) ++ y2 in
    on_ok_weaker c.end_object.result (λ e. (
      c.end_object.ensures.room.0 ∙ c.in_ok-write_replicas.ensures.0 ∙ c.in_ok-key-2.ensures.room.0 ∙ c.in_ok-string.ensures.room.0 ∙ c.in_ok-key.ensures.room.0 ∙ c.in_ok-begin_object.ensures.room.0,
      more c.args.out.now.tokens (begin_object ∷ []) y1 c.in_ok-begin_object.ensures.ok (more c.begin_object.new.self.tokens (key (codes "end") ∷ []) y2 c.in_ok-key.ensures.ok (more c.key.new.self.tokens (string c.args.end.now ∷ []) y3 c.in_ok-string.ensures.ok (more c.string.new.self.tokens (key (codes "replicas") ∷ []) y4 c.in_ok-key-2.ensures.ok (more c.key-2.new.self.tokens (data_tokens (list (whole 1 ∷ whole 2 ∷ whole 3 ∷ []))) y5 c.in_ok-write_replicas.ensures.1 e)))),
    )) c.end_object.ensures.ok
