-- What the turns send and write by the records is what the rules send and write by the history.
use Rattle.std.proofs.Common.{◌≡◌, ℕ, Bool, true, false, not, cond, ◌&&◌, List, [], ◌∷◌, ◌++◌, Option, None, Some, map, sym, refl, ap, ◌∙◌, subst}
use Rattle.std.proofs.lemmas.Bool.{true≢false}
use Rattle.acc_stamp.specs.declared.actors.Actor.{Actor}
use Rattle.acc_stamp.specs.declared.stamps.TxnId.{TxnId}
use Rattle.acc_stamp.specs.declared.stamps.Ballot.{Ballot}
use Rattle.acc_stamp.specs.Actor.{shard_of}
use Rattle.acc_topology.specs.Layout.{Layout}
use Rattle.acc_txn.specs.declared.parts.BodyParts.{BodyParts}
use Rattle.acc_txn.specs.declared.outcome.Outcome.{Outcome}
use Rattle.acc_value.specs.declared.key.Key.{Key}
use Rattle.acc_value.specs.declared.value.Value.{Value}
use Rattle.acc_value.specs.Cells.{applied}
use Rattle.acc_message.specs.declared.message.Message.{Message}
use Rattle.acc_message.specs.Taken.{Taken, known, heard_body}
use Rattle.acc_message.specs.BallotRules.{kept_outcome}
use Rattle.acc_message.specs.Opening.{Change, writes_in, written_by, written_by_all}
use Rattle.acc_message.specs.StoreRules.{read_ok, read_by, stable_ballots, opening_of, release}
use Rattle.acc_record.specs.declared.record.Record.{Record}
use Rattle.acc_opening.specs.Plan.{Lookup, IsRight, EachRight}
use Rattle.acc_opening.specs.Release.{sent_by, written_in, opening_by, written_at, release_by, written_at_all}
use Rattle.acc_opening.specs.History.{AreOf}

sent_none : (layout : Layout) (own : Actor) (r : Record) (c : Change) (cells : Key → Option Value) → c.opens ≡ false → sent_by layout own r c cells ≡ []
sent_none layout own r c cells e = ap (λ b. cond b (map (λ b. read_ok own c.id b (read_by layout (shard_of own) (Some r.body) cells)) r.waiters) []) e

opening_none : (layout : Layout) (own : Actor) (now : List Taken) (c : Change) (cells : Key → Option Value) → c.opens ≡ false → opening_of layout own now c cells ≡ []
opening_none layout own now c cells e =
    ap (λ b. cond b (map (λ b. read_ok own c.id b (read_by layout (shard_of own) (heard_body c.id (known now)) cells)) (stable_ballots now c.id)) []) e

not_true : (b : Bool) → true ≡ not b → b ≡ false
not_true true e = absurd (true≢false e)
not_true false e = refl

sent_is : (layout : Layout) (own : Actor) (now : List Taken) (at : Lookup) (c : Change) (cells : Key → Option Value) (r : Record) → AreOf now at → at c.id ≡ Some r
    → c.opens ≡ not r.opened → (b : Bool) → c.opens ≡ b → sent_by layout own r c cells ≡ opening_of layout own now c cells
sent_is layout own now at c cells r of there opens false e = sent_none layout own r c cells e ∙ sym (opening_none layout own now c cells e)
sent_is layout own now at c cells r of there opens true e =
    let closed : r.opened ≡ false = not_true r.opened (sym e ∙ opens) in
    ap (λ ballots. cond c.opens (map (λ b. read_ok own c.id b (read_by layout (shard_of own) (Some r.body) cells)) ballots) []) (of.waiters c.id r there closed)
    ∙ ap (λ body. cond c.opens (map (λ b. read_ok own c.id b (read_by layout (shard_of own) body cells)) (stable_ballots now c.id)) []) (sym (of.body c.id r there))

written_choice : (b : Bool) (cells : Key → Option Value) (writes : List (Key × Option Value)) → applied cells (cond b writes []) ≡ cond b (applied cells writes) cells
written_choice true cells writes = refl
written_choice false cells writes = refl

written_is : (layout : Layout) (shard : ℕ) (now : List Taken) (at : Lookup) (c : Change) (cells : Key → Option Value) (r : Record) → AreOf now at → at c.id ≡ Some r
    → written_at layout shard (at c.id) c cells ≡ written_by layout shard now c cells
written_is layout shard now at c cells r of there =
    ap (λ o. written_at layout shard o c cells) there ∙ written_choice c.applies cells (writes_in layout shard r.outcome)
    ∙ ap (λ o. cond c.applies (applied cells (writes_in layout shard o)) cells) (of.outcome c.id r there)

-- what is sent
pub release_is : (layout : Layout) (own : Actor) (now : List Taken) (at : Lookup) (shard : ℕ) (done changes : List Change) (cells : Key → Option Value) → AreOf now at
    → EachRight shard at done changes → release_by layout own at changes cells ≡ release layout own now changes cells
release_is layout own now at shard done [] cells of each = refl
release_is layout own now at shard done (c ∷ changes) cells of each =
    let r = each.0.there in
    let there = each.0.there_is in
    ap (λ list. list ++ release_by layout own at changes (written_at layout (shard_of own) (at c.id) c cells))
    (ap (λ o. opening_by layout own o c cells) there ∙ sent_is layout own now at c cells r of there each.0.opens c.opens refl)
    ∙ ap (λ f. opening_of layout own now c cells ++ release_by layout own at changes f) (written_is layout (shard_of own) now at c cells r of there)
    ∙ ap (λ list. opening_of layout own now c cells ++ list) (release_is layout own now at shard (done ++ c ∷ []) changes (written_by layout (shard_of own) now c cells) of each.1)

-- what is written
pub written_all_is : (layout : Layout) (store : ℕ) (now : List Taken) (at : Lookup) (shard : ℕ) (done changes : List Change) (cells : Key → Option Value) → AreOf now at
    → EachRight shard at done changes → written_at_all layout store at changes cells ≡ written_by_all layout store now changes cells
written_all_is layout store now at shard done [] cells of each = refl
written_all_is layout store now at shard done (c ∷ changes) cells of each =
    ap (written_at_all layout store at changes) (written_is layout store now at c cells each.0.there of each.0.there_is)
    ∙ written_all_is layout store now at shard (done ++ c ∷ []) changes (written_by layout store now c cells) of each.1
