-- What a node drew in some items, and that its journal holds just that.
use Rattle.std.proofs.Common.{◌≡◌, ℕ, Bool, true, false, cond, List, [], ◌∷◌, ◌++◌, map, Option, None, Some, refl, sym, ap, subst, ◌∙◌}
use Rattle.std.proofs.lemmas.List.{map-append}
use Rattle.acc_stamp.specs.declared.actors.Actor.{Actor}
use Rattle.acc_stamp.specs.declared.stamps.Stamp.{Stamp}
use Rattle.acc_message.specs.declared.note.Note.{Note}
use Rattle.acc_message.specs.declared.entry.Entry.{Entry}
use Rattle.acc_message.specs.declared.entry.Event.{Event}
use Rattle.acc_message.specs.declared.entry.Event.TheVariants.{Begin as BeginEvent, Recover as RecoverEvent, Slow as SlowEvent, Message as MessageEvent, Restart as RestartEvent}
use Rattle.acc_message.specs.declared.item.Item.{Item}
use Rattle.acc_message.specs.declared.item.Item.TheVariants.{Step, Skipped, Down}
use Rattle.acc_message.specs.Items.{same_actor, message_at}
use Rattle.acc_message.specs.Run.{is_node}
use Rattle.acc_safety.specs.Places.{IsIn, StandsAt, Here, Back}
use Rattle.acc_safety.proofs.PlaceOrder.{IsIn-append_left, IsIn-append_right}
use Rattle.acc_payloads.specs.declared.draw.Purpose.{Purpose}
use Rattle.acc_payloads.specs.declared.draw.Purpose.TheVariants.{Begin, Recover}
use Rattle.acc_payloads.specs.declared.draw.Draw.{Draw}
use Rattle.acc_payloads.specs.Spelling.{draw_bytes}
use Rattle.acc_payloads.specs.Items.{drawn_by, draw_payload, message_payload, payload_by, payload_in, payloads_in}

-- ---- the draws

abbrev pub draw_if : Purpose → ℕ → Option Stamp → List Draw
draw_if purpose txn None = []
draw_if purpose txn (Some stamp) = record { purpose = purpose; txn = txn; h = stamp.h } ∷ []

abbrev pub draws_by : Event → List Note → List Draw
draws_by (BeginEvent txn) notes = draw_if Begin txn (drawn_by notes)
draws_by (RecoverEvent txn) notes = draw_if Recover txn (drawn_by notes)
draws_by (SlowEvent txn) notes = []
draws_by (MessageEvent number) notes = []
draws_by (RestartEvent kept) notes = []

abbrev pub draws_at : Actor → Item → List Draw
draws_at a (Step e) = cond (same_actor e.actor a) (draws_by e.event e.emitted.notes) []
draws_at a (Skipped step cause) = []
draws_at a (Down actor) = []

-- the oldest first
abbrev pub draws_of : Actor → List Item → List Draw
draws_of a [] = []
draws_of a (item ∷ earlier) = draws_of a earlier ++ draws_at a item

-- ---- their payloads

draw_spelled : (purpose : Purpose) (txn : ℕ) (o : Option Stamp) → draw_payload purpose txn o ≡ map draw_bytes (draw_if purpose txn o)
draw_spelled purpose txn None = refl
draw_spelled purpose txn (Some stamp) = refl

event_spelled : (earlier : List Item) (a : Actor) (event : Event) (notes : List Note) → is_node a ≡ true → payload_by earlier a event notes ≡ map draw_bytes (draws_by event notes)
event_spelled earlier a (BeginEvent txn) notes node = draw_spelled Begin txn (drawn_by notes)
event_spelled earlier a (RecoverEvent txn) notes node = draw_spelled Recover txn (drawn_by notes)
event_spelled earlier a (SlowEvent txn) notes node = refl
event_spelled earlier a (MessageEvent number) notes node = ap (λ (b : Bool). cond b [] (message_payload (message_at earlier number))) node
event_spelled earlier a (RestartEvent kept) notes node = refl

either_spelled : (b : Bool) (payloads : List (List ℕ)) (draws : List Draw) → payloads ≡ map draw_bytes draws → cond b payloads [] ≡ map draw_bytes (cond b draws [])
either_spelled true payloads draws is = is
either_spelled false payloads draws is = refl

item_spelled : (a : Actor) (earlier : List Item) (item : Item) → is_node a ≡ true → payload_in a earlier item ≡ map draw_bytes (draws_at a item)
item_spelled a earlier (Step e) node =
    either_spelled (same_actor e.actor a) (payload_by earlier a e.event e.emitted.notes) (draws_by e.event e.emitted.notes) (event_spelled earlier a e.event e.emitted.notes node)
item_spelled a earlier (Skipped step cause) node = refl
item_spelled a earlier (Down actor) node = refl

pub draws_spelled : (a : Actor) (items : List Item) → is_node a ≡ true → payloads_in a items ≡ map draw_bytes (draws_of a items)
draws_spelled a [] node = refl
draws_spelled a (item ∷ earlier) node =
    ap (λ (l : List (List ℕ)). l ++ payload_in a earlier item) (draws_spelled a earlier node)
    ∙ ap (λ (l : List (List ℕ)). map draw_bytes (draws_of a earlier) ++ l) (item_spelled a earlier item node)
    ∙ sym (map-append draw_bytes (draws_of a earlier) (draws_at a item))

-- ---- an entry's draw is among them

entry_draw : (b : Bool) (d : Draw) (draws : List Draw) → b ≡ true → IsIn d draws → IsIn d (cond b draws [])
entry_draw b d draws is there = subst (λ (c : Bool). IsIn d (cond c draws [])) (sym is) there

pub draw_there : (a : Actor) (d : Draw) (e : Entry) (earlier items : List Item) → StandsAt (Step e) earlier items → same_actor e.actor a ≡ true
    → IsIn d (draws_by e.event e.emitted.notes) → IsIn d (draws_of a items)
draw_there a d e earlier items at own there = by (Step e) earlier items at (entry_draw (same_actor e.actor a) d (draws_by e.event e.emitted.notes) own there)
  where
    by : (item : Item) (earlier items : List Item) → StandsAt item earlier items → IsIn d (draws_at a item) → IsIn d (draws_of a items)
    by item earlier items (Here i past) here = IsIn-append_right d (draws_of a past) (draws_at a i) here
    by item earlier items (Back i j past rest there) here = IsIn-append_left d (draws_of a rest) (draws_at a j) (by i past rest there here)
