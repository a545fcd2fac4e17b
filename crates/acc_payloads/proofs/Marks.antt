-- Payloads and marks: what is appended, how many draws there are, and that a journal is of one list of items.
use Rattle.std.proofs.Common.{◌≡◌, ℕ, ◌≤◌, Bool, true, false, not, cond, List, [], ◌∷◌, ◌++◌, map, length, length-append, refl, sym, ap, ◌∙◌, arith}
use Rattle.std.specs.Str.{bytes_eq}
use Rattle.std.proofs.lemmas.Slice.Eq.{bytes_eq-Decides}
use Rattle.std.proofs.lemmas.List.Elements.{filter-append}
use Rattle.acc_wire.specs.Spelling.{u16_bytes, u32_bytes, u64_bytes}
use Rattle.acc_message.specs.declared.message.Message.{Message}
use Rattle.acc_message_code.specs.Fitting.{FitsMessage}
use Rattle.acc_message_code.specs.Spelling.{actor_bytes, stamp_bytes}
use Rattle.acc_message_code.specs.MessageSpelling.{message_bytes, envelope_bytes}
use Rattle.acc_payloads.specs.declared.draw.Draw.{Draw}
use Rattle.acc_payloads.specs.declared.node.NodePayload.{NodePayload}
use Rattle.acc_payloads.specs.declared.node.NodePayload.TheVariants.{Mark, Draws}
use Rattle.acc_payloads.specs.Spelling.{mark_bytes, draw_bytes}
use Rattle.acc_payloads.specs.Journals.{EachMay, IsJournalOf, may_mark, appended}
use Rattle.acc_payloads.specs.Node.{node_bytes, draws_in}
use Rattle.acc_payloads.specs.Items.{without_marks}
use Rattle.acc_payloads.proofs.StoreJournals.{no_mark}

-- ---- what is no mark

abbrev is_other : List ℕ → Bool
is_other payload = not (bytes_eq payload mark_bytes)

not_equal : (b : Bool) → (b ≡ true → ⊥) → b ≡ false
not_equal true never = absurd (never refl)
not_equal false never = refl

draw_long : (d : Draw) → length (draw_bytes d) ≡ 13
unfolding draw_bytes u32_bytes u64_bytes
draw_long d = refl

pub draw_no_mark : (d : Draw) → bytes_eq (draw_bytes d) mark_bytes ≡ false
draw_no_mark d = not_equal (bytes_eq (draw_bytes d) mark_bytes) (λ e.
    let same : length (draw_bytes d) ≡ 2 = ap length ((bytes_eq-Decides (draw_bytes d) mark_bytes).0 e) in omega (arith, draw_long d, same))

pub message_no_mark : (m : Message) → FitsMessage m → bytes_eq (message_bytes m) mark_bytes ≡ false
message_no_mark m fits = not_equal (bytes_eq (message_bytes m) mark_bytes) (λ e. no_mark m fits (sym ((bytes_eq-Decides (message_bytes m) mark_bytes).0 e)))

message_long : (m : Message) → 29 ≤ length (message_bytes m)
unfolding message_bytes envelope_bytes actor_bytes stamp_bytes u16_bytes u32_bytes u64_bytes
message_long m = omega (arith, length-append {A = ℕ})

pub no_draw : (d : Draw) (m : Message) → draw_bytes d ≡ message_bytes m → ⊥
no_draw d m e = omega (arith, draw_long d, message_long m, ap length e)

-- ---- what is appended

alone : (payload : List ℕ) → bytes_eq payload mark_bytes ≡ false → without_marks (payload ∷ []) ≡ payload ∷ []
alone payload e = ap (λ (b : Bool). cond (not b) (payload ∷ []) []) e

of_group : (b : Bool) (payload : List ℕ) → bytes_eq payload mark_bytes ≡ false → without_marks (cond b (mark_bytes ∷ payload ∷ []) (payload ∷ [])) ≡ payload ∷ []
of_group true payload e = alone payload e
of_group false payload e = alone payload e

pub without_joined : (before behind : List (List ℕ)) → without_marks (before ++ behind) ≡ without_marks before ++ without_marks behind
without_joined before behind = filter-append is_other before behind

pub held_with : (before : List (List ℕ)) (version : ℕ) (marked : Bool) (payload : List ℕ) → bytes_eq payload mark_bytes ≡ false
    → without_marks (before ++ appended version marked payload) ≡ without_marks before ++ payload ∷ []
held_with before version marked payload e =
    without_joined before (appended version marked payload) ∙ ap (λ (l : List (List ℕ)). without_marks before ++ l) (of_group (may_mark version marked) payload e)

-- ---- counts

with_one : (payload : List ℕ) (payloads : List (List ℕ)) → bytes_eq payload mark_bytes ≡ false → without_marks (payload ∷ payloads) ≡ payload ∷ without_marks payloads
with_one payload payloads e = ap (λ (b : Bool). cond (not b) (payload ∷ without_marks payloads) (without_marks payloads)) e

pub count_is : (items : List NodePayload) → length (without_marks (map node_bytes items)) ≡ length (draws_in items)
count_is [] = refl
count_is (Mark ∷ items) = count_is items
count_is (Draws d ∷ items) = omega (arith, ap length (with_one (draw_bytes d) (map node_bytes items) (draw_no_mark d)), count_is items)

-- ---- one list of items

module _ {A : Type 0} (bytes : A → List ℕ) (May : List A → A → Type 0) (same : (b c : List A) (x y : A) → May b x → May c y → bytes x ≡ bytes y → x ≡ y) where
  alike : (front back items others : List A) → EachMay May front items → EachMay May back others → map bytes items ≡ map bytes others → items ≡ others
  alike front back [] [] each other e = refl
  alike front back [] (y ∷ others) each other e = absurd cc
  alike front back (x ∷ items) [] each other e = absurd cc
  alike front back (x ∷ items) (y ∷ others) each other e =
      let heads : bytes x ≡ bytes y = cc in
      let tails : map bytes items ≡ map bytes others = cc in
      let one : x ≡ y = same front back x y each.0 other.0 heads in
      let rest : items ≡ others = alike (front ++ x ∷ []) (back ++ y ∷ []) items others each.1 other.1 tails in
      cc

  pub one_items : (payloads : List (List ℕ)) (items others : List A) → IsJournalOf bytes May payloads items → IsJournalOf bytes May payloads others → items ≡ others
  one_items payloads items others journal other = alike [] [] items others journal.each other.each (sym journal.spelled ∙ other.spelled)
