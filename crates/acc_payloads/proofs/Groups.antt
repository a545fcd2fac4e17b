-- How long the payloads of a draw are.
use Rattle.std.proofs.Common.{◌≡◌, ℕ, ◌<◌, ◌≤◌, Bool, true, false, cond, List, [], ◌∷◌, length, refl, arith}
use Rattle.acc_wire.specs.Spelling.{u32_bytes, u64_bytes}
use Rattle.acc_journal.specs.Layout.{AreShort}
use Rattle.acc_journal.specs.Journal.{group_room}
use Rattle.acc_payloads.specs.declared.draw.Draw.{Draw}
use Rattle.acc_payloads.specs.Spelling.{mark_bytes, draw_bytes}
use Rattle.acc_payloads.specs.Journals.{may_mark, appended}

draw_long : (d : Draw) → length (draw_bytes d) ≡ 13
unfolding draw_bytes u32_bytes u64_bytes
draw_long d = refl

room_by : (b : Bool) (payload : List ℕ) → length payload ≡ 13 → group_room (cond b (mark_bytes ∷ payload ∷ []) (payload ∷ [])) ≤ 20
room_by true payload e = omega (arith, e)
room_by false payload e = omega (arith, e)

short_by : (b : Bool) (payload : List ℕ) → length payload ≡ 13 → AreShort (cond b (mark_bytes ∷ payload ∷ []) (payload ∷ []))
short_by true payload e = (omega arith, (omega (arith, e), tt))
short_by false payload e = (omega (arith, e), tt)

some_by : (b : Bool) (payload : List ℕ) → 0 < length (cond b (mark_bytes ∷ payload ∷ []) (payload ∷ []))
some_by true payload = omega arith
some_by false payload = omega arith

pub group_takes : (version : ℕ) (marked : Bool) (d : Draw) → group_room (appended version marked (draw_bytes d)) ≤ 20
group_takes version marked d = room_by (may_mark version marked) (draw_bytes d) (draw_long d)

pub group_is_short : (version : ℕ) (marked : Bool) (d : Draw) → AreShort (appended version marked (draw_bytes d))
group_is_short version marked d = short_by (may_mark version marked) (draw_bytes d) (draw_long d)

pub group_has_some : (version : ℕ) (marked : Bool) (payload : List ℕ) → 0 < length (appended version marked payload)
group_has_some version marked payload = some_by (may_mark version marked) payload
