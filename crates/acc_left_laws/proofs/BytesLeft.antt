-- The journals that a run leaves are bytes.
use Rattle.std.proofs.Common.{◌≡◌, ℕ, ◌<◌, ◌^◌, Bool, true, false, cond, List, [], ◌∷◌, ◌++◌, length, map, reverse, is_some, refl, sym, subst, arith}
use Rattle.std.specs.List.{AllByRecursion}
use Rattle.std.proofs.lemmas.Bool.{and_parts}
use Rattle.hex.specs.Hex.{IsBytes}
use Rattle.acc_wire.specs.Spelling.{u32_bytes}
use Rattle.acc_stamp.specs.declared.actors.Actor.{Actor}
use Rattle.acc_stamp.specs.Actor.{actor_eq}
use Rattle.acc_journal.specs.Layout.{records}
use Rattle.acc_message.specs.declared.message.Message.{Message}
use Rattle.acc_message.specs.declared.item.Item.{Item}
use Rattle.acc_message.specs.Fields.{to_of}
use Rattle.acc_message.specs.Run.{is_node, IsRun}
use Rattle.acc_message.specs.Taken.{body_in}
use Rattle.acc_message_code.specs.MessageSpelling.{message_bytes}
use Rattle.acc_safety.specs.Valid.{IsValidCluster}
use Rattle.acc_safety.proofs.PlaceOrder.{Contains-IsIn, IsIn-map}
use Rattle.acc_run_laws.specs.Sends.{HasFewBodies}
use Rattle.acc_payloads.specs.declared.draw.Draw.{Draw}
use Rattle.acc_payloads.specs.Items.{payloads_in}
use Rattle.acc_payloads.specs.Journals.{may_mark, EachMay}
use Rattle.acc_payloads.specs.Spelling.{draw_bytes, mark_bytes}
use Rattle.acc_schedule.specs.Content.{Content}
use Rattle.acc_schedule_runs.specs.Schedules.{cluster_of}
use Rattle.acc_left.specs.declared.image.Image.{Image}
use Rattle.acc_left.specs.Leaves.{actors_rising, images_left, leaves, marked}
use Rattle.acc_left_laws.specs.Left.{AreOfBytes, HasNumberedBodies}
use Rattle.acc_left_laws.proofs.ByteLists.{are_bytes, joined_bytes, u32_are_bytes, AllBytes}
use Rattle.acc_left_laws.proofs.CellsEverywhere.{all_fit}
use Rattle.acc_left_laws.proofs.Drawn.{draws_of, draws_spelled}
use Rattle.acc_left_laws.proofs.MessageBytes.{draw_is_bytes, message_is_bytes}
use Rattle.acc_left_laws.proofs.Spellings.{spellings}
use Rattle.acc_left_laws.proofs.StoreTakes.{taken, takings_known, HaveSpellings, NextMessage, Takings}

-- ---- journals of payloads

abbrev Each : List (List ℕ) → Type 0
Each payloads = AllByRecursion AllBytes payloads

records_are_bytes : (payloads : List (List ℕ)) → Each payloads → AllBytes (records payloads)
records_are_bytes [] each = tt
records_are_bytes (payload ∷ payloads) each = (
  omega arith,
  joined_bytes (u32_bytes (length payload) ++ payload) (records payloads) (joined_bytes (u32_bytes (length payload)) payload (u32_are_bytes (length payload)) each.0) (records_are_bytes payloads each.1),
)

with_mark : (b : Bool) (payload : List ℕ) (payloads : List (List ℕ)) → AllBytes payload → Each payloads → Each (cond b (mark_bytes ∷ payload ∷ []) (payload ∷ []) ++ payloads)
with_mark true payload payloads first rest = ((omega arith, (omega arith, tt)), (first, rest))
with_mark false payload payloads first rest = (first, rest)

marked_are_bytes : (version : ℕ) (payloads : List (List ℕ)) → Each payloads → Each (marked version payloads)
marked_are_bytes version [] each = tt
marked_are_bytes version (payload ∷ payloads) each = with_mark (may_mark version false) payload payloads each.0 each.1

each_draw : (draws : List Draw) → Each (map draw_bytes draws)
each_draw [] = tt
each_draw (d ∷ draws) = (draw_is_bytes d, each_draw draws)

module _ (plan : Content) (valid : IsValidCluster (cluster_of plan)) (few_bodies : HasFewBodies (cluster_of plan)) (numbers : HasNumberedBodies plan) (items : List Item)
    (run : IsRun (cluster_of plan) items) (few : length items < 2 ^ 31) where
  spelled : HaveSpellings items
  spelled = spellings (cluster_of plan) valid few_bodies numbers items run.stands few

  module _ (a : Actor) where
    one_message : (before : List Message) (m : Message) → NextMessage plan items a before m → AllBytes (message_bytes m)
    one_message before m next =
        message_is_bytes m (and_parts (actor_eq (to_of m) a) (is_some (body_in m)) next.goes_to).1 next.fits (all_fit (cluster_of plan) numbers items run.stands m next.sending)

    each_message : (messages before : List Message) → EachMay (NextMessage plan items a) before messages → Each (map message_bytes messages)
    each_message [] before each = tt
    each_message (m ∷ messages) before each = (one_message before m each.0, each_message messages (before ++ m ∷ []) each.1)

    by_kind : (b : Bool) → is_node a ≡ b → Each (payloads_in a items)
    by_kind true node = subst Each (sym (draws_spelled a items node)) (each_draw (draws_of a items))
    by_kind false store =
        let t : Takings plan valid items spelled few a store items = takings_known plan valid items spelled few a store run.stands in
        subst Each (sym t.payloads) (each_message (reverse (taken plan valid items spelled few a store items)) [] t.each)

    journal_is_bytes : AllBytes (leaves plan items a)
    journal_is_bytes = (
      omega arith,
      joined_bytes (records (marked plan.version (payloads_in a items))) (0 ∷ [])
          (records_are_bytes (marked plan.version (payloads_in a items)) (marked_are_bytes plan.version (payloads_in a items) (by_kind (is_node a) refl))) (omega arith, tt),
    )

  pub left_are_bytes : AreOfBytes (images_left plan items)
  left_are_bytes image there =
      let from = IsIn-map (λ (a : Actor). record { actor = a; bytes = leaves plan items a }) image (actors_rising plan.topology) (Contains-IsIn image (images_left plan items) there) in
      subst (λ (i : Image). IsBytes i.bytes) (sym from.is) (are_bytes (leaves plan items from.source) (journal_is_bytes from.source))
