use Rattle.std.proofs.Common.{◌≡◌, ℕ, List, [], ◌∷◌, ◌++◌, Bool, None, Some, Vec, Global, refl, sym, ap, ◌∙◌}
use Rattle.std.specs.Map.{lookup}
use Rattle.std.specs.Str.{bytes_eq}
use Rattle.indexmap.proofs.CallerLemmas.{insert_entry-new}
use Rattle.acc_stamp.specs.declared.actors.Actor.{Actor}
use Rattle.acc_schedule.proofs.ActorFacts.{absent, added, held, kept, present}
use Rattle.acc_schedule.proofs.actors.ActorTable.add.Goals as goal

abbrev same_bytes : Vec ℕ Global → Vec ℕ Global → Bool
same_bytes a b = bytes_eq a.items b.items

pub returns-in_ok-insert : goal.returns-in_ok-insert
returns-in_ok-insert c =
    let m = c.self.inside.actors in
    let text : Vec ℕ Global = c.in_ok-text.text in
    let missing : lookup (λ (key : Vec ℕ Global). bytes_eq c.as_slice.result.now key.items) m.entries ≡ None = absent c.get.result _ c.if-is_none.ensures c.get.ensures.value in
    let missing_too : lookup (λ (key : Vec ℕ Global). bytes_eq text.items key.items) m.entries ≡ None =
    ap (λ (bytes : List ℕ). lookup (λ (key : Vec ℕ Global). bytes_eq bytes key.items) m.entries) (sym c.as_slice.ensures.value) ∙ missing in
    let grown : c.insert.new.self.entries ≡ m.entries ++ (text, c.args.actor) ∷ [] = c.in_ok-insert.ensures.entries ∙ insert_entry-new same_bytes m text c.args.actor missing_too in
    added c.args.self.now _ m.entries c.insert.new.self.entries text c.args.actor c.self.view_is refl grown c.in_ok-text.ensures

pub returns-else-is_none : goal.returns-else-is_none
returns-else-is_none c =
    let m = c.self.inside.actors in
    let found : (actor : Actor) × (lookup (λ (key : Vec ℕ Global). bytes_eq c.as_slice.result.now key.items) m.entries ≡ Some actor) = present c.get.result _ c.if-is_none.ensures c.get.ensures.value in
    kept c.args.self.now found.0 c.args.actor c.in_ok-text.text.items
    (held c.args.self.now m.entries c.as_slice.result.now c.in_ok-text.text.items (Some found.0) c.self.view_is c.as_slice.ensures.value (sym found.1)) c.in_ok-text.ensures
