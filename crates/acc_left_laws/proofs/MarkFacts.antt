-- Marks among the payloads of nodes and of stores.
use Rattle.std.proofs.Common.{◌≡◌, ℕ, ◌≤◌, Bool, true, false, ◌||◌, List, [], ◌∷◌, length, length-append, map, refl, ap, ◌∙◌, arith}
use Rattle.std.specs.Str.{bytes_eq}
use Rattle.std.proofs.lemmas.Slice.Eq.{bytes_eq-Decides}
use Rattle.acc_wire.specs.Spelling.{u16_bytes, u32_bytes, u64_bytes}
use Rattle.acc_message.specs.declared.message.Message.{Message}
use Rattle.acc_message_code.specs.MessageSpelling.{envelope_bytes, message_bytes}
use Rattle.acc_message_code.specs.Spelling.{actor_bytes, stamp_bytes}
use Rattle.acc_payloads.specs.declared.node.NodePayload.{NodePayload}
use Rattle.acc_payloads.specs.declared.node.NodePayload.TheVariants.{Mark, Draws}
use Rattle.acc_payloads.specs.declared.store.StorePayload.{StorePayload}
use Rattle.acc_payloads.specs.declared.store.StorePayload.TheVariants.{Mark as StoreMark, Takes}
use Rattle.acc_payloads.specs.Spelling.{mark_bytes}
use Rattle.acc_payloads.specs.Items.{has_mark_among}
use Rattle.acc_payloads.specs.Node.{has_mark, node_bytes}
use Rattle.acc_payloads.specs.Store as store
use Rattle.acc_payloads.proofs.Marks.{draw_no_mark}

is_long : (m : Message) → 29 ≤ length (message_bytes m)
unfolding message_bytes envelope_bytes actor_bytes stamp_bytes u16_bytes u32_bytes u64_bytes
is_long m = omega (arith, length-append {A = ℕ})

not_equal : (b : Bool) → (b ≡ true → ⊥) → b ≡ false
not_equal true never = absurd (never refl)
not_equal false never = refl

-- what spells a message is no mark, whether it fits the format or not
pub no_mark_spells : (m : Message) → bytes_eq (message_bytes m) mark_bytes ≡ false
no_mark_spells m =
    not_equal (bytes_eq (message_bytes m) mark_bytes)
    (λ e. let same : length (message_bytes m) ≡ 2 = ap length ((bytes_eq-Decides (message_bytes m) mark_bytes).0 e) in omega (arith, is_long m, same))

pub node_marks : (items : List NodePayload) → has_mark_among (map node_bytes items) ≡ has_mark items
node_marks [] = refl
node_marks (Mark ∷ items) = refl
node_marks (Draws d ∷ items) = ap (λ (b : Bool). b || has_mark_among (map node_bytes items)) (draw_no_mark d) ∙ node_marks items

pub store_marks : (items : List StorePayload) → has_mark_among (map store.store_bytes items) ≡ store.has_mark items
store_marks [] = refl
store_marks (StoreMark ∷ items) = refl
store_marks (Takes m ∷ items) = ap (λ (b : Bool). b || has_mark_among (map store.store_bytes items)) (no_mark_spells m) ∙ store_marks items
