use Rattle.std.proofs.Common.{◌≡◌, ◌+◌, ◌-◌, Bool, true, false, cond, get_or, take, drop, refl, ap, ◌∙◌, arith}
use mir.Val.{bool_byte}
use Rattle.std.proofs.lemmas.Simd.{get_or-chunk}
use Rattle.acc_lanes.proofs.Lanes.{written}
use Rattle.acc_lanes.proofs.vectors.flags_at.Goals as goal

byte_of : (b : Bool) → bool_byte b ≡ cond b 1 0
byte_of true = refl
byte_of false = refl

pub returns : goal.returns
returns c =
    let at = c.args.at in
    let mask = c.args.mask.now in
    record {
      long = refl;
      each = λ k l.
          written (λ j. bool_byte (get_or (take (at + 8 - at) (drop at mask)) j false)) k l
          ∙ ap bool_byte (get_or-chunk at (at + 8 - at) mask k false (omega arith)) ∙ byte_of (get_or mask (at + k) false);
    }
