-- What is spelled in version 1 is spelled in version 2.
use Rattle.std.proofs.Common.{ℕ, true, false, List, [], ◌∷◌, codes, true≢false, sym}
use Rattle.acc_token.specs.Tokens.{Word}
use Rattle.acc_txn.specs.declared.parts.Let.{Let}
use Rattle.acc_txn.specs.declared.parts.Term.{Term}
use Rattle.acc_txn.specs.declared.parts.Term.TheVariants.{Number, Name, Null, Text}
use Rattle.acc_txn.specs.declared.parts.Part.{Part}
use Rattle.acc_txn.specs.declared.parts.Condition.{Condition}
use Rattle.acc_txn.specs.declared.parts.Condition.TheVariants.{Compare, IsNull, IsNotNull}
use Rattle.acc_txn.specs.declared.parts.Update.{Update}
use Rattle.acc_txn.specs.declared.parts.Update.TheVariants.{Set, Delete}
use Rattle.acc_txn.specs.declared.parts.BodyParts.{BodyParts}
use Rattle.acc_lang.specs.Grammar.{Each, Behind, TermSpelled, PartSpelled, ExpressionSpelled, ConditionSpelled, UpdateSpelled, ActionSpelled, IsTextOf}

term_both : (lets : List Let) (t : Term) (from to : List ℕ) → TermSpelled false lets t from to → TermSpelled true lets t from to
term_both lets (Number number) from to spelled = spelled
term_both lets (Name name) from to spelled = spelled
term_both lets Null from to spelled = spelled
term_both lets (Text text) from to spelled = absurd (true≢false (sym spelled.0))

-- all of a list, where each one is
each_both : {A : Type 0} (One Other : A → List ℕ → List ℕ → Type 0) → ((x : A) (from to : List ℕ) → One x from to → Other x from to)
    → (xs : List A) (from to : List ℕ) → Each One xs from to → Each Other xs from to
each_both One Other one [] from to spelled = spelled
each_both One Other one (x ∷ xs) from to spelled = (spelled.0, one x from spelled.0 spelled.1, each_both One Other one xs spelled.0 to spelled.2)

part_both : (lets : List Let) (part : Part) (from to : List ℕ) → PartSpelled false lets part from to → PartSpelled true lets part from to
part_both lets part from to spelled = (spelled.0, spelled.1, term_both lets part.term spelled.0 to spelled.2)

sum_both : (lets : List Let) (sum : List Part) (from to : List ℕ) → ExpressionSpelled false lets sum from to → ExpressionSpelled true lets sum from to
sum_both lets [] from to spelled = absurd spelled
sum_both lets (first ∷ parts) from to spelled = (
  spelled.0,
  spelled.1,
  term_both lets first.term from spelled.0 spelled.2,
  each_both (PartSpelled false lets) (PartSpelled true lets) (part_both lets) parts spelled.0 to spelled.3,
)

guard_both : (lets : List Let) (c : Condition) (from to : List ℕ) → ConditionSpelled false lets c from to → ConditionSpelled true lets c from to
guard_both lets (Compare op left right) from to spelled =
    (spelled.0, sum_both lets left from spelled.0 spelled.1, (spelled.2.0, spelled.2.1, sum_both lets right spelled.2.0 to spelled.2.2))
guard_both lets (IsNull name) from to spelled = spelled
guard_both lets (IsNotNull name) from to spelled = spelled

and_both : (lets : List Let) (c : Condition) (from to : List ℕ) → Behind (Word (codes "and") ∷ []) (ConditionSpelled false lets) c from to
    → Behind (Word (codes "and") ∷ []) (ConditionSpelled true lets) c from to
and_both lets c from to spelled = (spelled.0, spelled.1, guard_both lets c spelled.0 to spelled.2)

update_both : (lets : List Let) (u : Update) (from to : List ℕ) → UpdateSpelled false lets u from to → UpdateSpelled true lets u from to
update_both lets (Set key value) from to spelled =
    (spelled.0, (spelled.1.0, spelled.1.1, sum_both lets value spelled.1.0 spelled.0 spelled.1.2), spelled.2)
update_both lets (Delete key) from to spelled = spelled

action_both : (lets : List Let) (guards : List Condition) (updates : List Update) (from to : List ℕ) → ActionSpelled false lets guards updates from to
    → ActionSpelled true lets guards updates from to
action_both lets [] updates from to spelled = each_both (UpdateSpelled false lets) (UpdateSpelled true lets) (update_both lets) updates from to spelled
action_both lets (guard ∷ guards) [] from to spelled = absurd spelled
action_both lets (guard ∷ guards) (u ∷ updates) from to spelled = (
  spelled.0,
  spelled.1,
  spelled.2,
  spelled.3,
  spelled.4,
  (spelled.5.0, spelled.5.1, guard_both lets guard spelled.5.0 spelled.0 spelled.5.2),
  each_both (Behind (Word (codes "and") ∷ []) (ConditionSpelled false lets)) (Behind (Word (codes "and") ∷ []) (ConditionSpelled true lets)) (and_both lets)
      guards spelled.0 spelled.1 spelled.6,
  (spelled.7.0, spelled.7.1, update_both lets u spelled.7.0 spelled.2 spelled.7.2),
  each_both (UpdateSpelled false lets) (UpdateSpelled true lets) (update_both lets) updates spelled.2 spelled.3 spelled.8,
  spelled.9,
  spelled.10,
)

pub text_both : (text : List ℕ) (parts : BodyParts) → IsTextOf false text parts → IsTextOf true text parts
text_both text parts is =
    let s = is.0 in (
      record {
        lets_place = s.lets_place;
        select_place = s.select_place;
        action_place = s.action_place;
        commit_place = s.commit_place;
        end_place = s.end_place;
        last_place = s.last_place;
        begins = s.begins;
        lets = s.lets;
        select = s.select;
        action = action_both parts.lets parts.guards parts.updates s.action_place s.commit_place s.action;
        commits = s.commits;
        semicolon = s.semicolon;
        ends = s.ends;
      },
      is.1,
    )
