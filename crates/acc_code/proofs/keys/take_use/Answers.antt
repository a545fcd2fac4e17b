use Rattle.std.proofs.Common.{◌≡◌, ◌+◌, ◌≤◌, Bool, length, sym, ◌∙◌, arith}
use Rattle.acc_value.specs.Footprint.{used}
use Rattle.acc_code.specs.BodyReading.{uses_so_far}
use Rattle.acc_code.proofs.KeyCounts.{known_key, new_key, use_read, use_refused}
use Rattle.acc_code.proofs.keys.take_use.Goals as goal
use Rattle.acc_code.proofs.keys.take_use.Goals.{then-not-is_used+else-keys-eq-MOST_KEYS, else-not-is_used}

counted : (c : goal.Joined-not-is_used) (writes : Bool) → c.if-not-is_used.keys ≡ length (used (uses_so_far c.args.lets.now c.args.select.now c.args.updates.now) c.in_ok-key.key writes)
counted c writes =
    elim c.if-not-is_used.branch [
      | then-not-is_used+else-keys-eq-MOST_KEYS w ↦ w.keys-is ∙ new_key _ _ _ c.in_ok-key.key c.args.keys.now c.requires.counted (sym c.is_used.ensures ∙ w.if-not-is_used.true) writes
      | else-not-is_used w ↦ w.keys-is ∙ known_key _ _ _ c.in_ok-key.key c.args.keys.now c.requires.counted (sym c.is_used.ensures ∙ w.if-not-is_used.false) writes
    ]

few : (c : goal.Joined-not-is_used) → c.if-not-is_used.keys ≤ 16
few c =
    elim c.if-not-is_used.branch [
      | then-not-is_used+else-keys-eq-MOST_KEYS w ↦ omega (arith, w.keys-is, c.requires.few, w.if-keys-eq-MOST_KEYS.false)
      | else-not-is_used w ↦ omega (arith, w.keys-is, c.requires.few)
    ]

pub returns-then-keys-eq-MOST_KEYS-clause-read : goal.returns-then-keys-eq-MOST_KEYS-clause-read
returns-then-keys-eq-MOST_KEYS-clause-read c = λ writes.
    rw (c.out_of_range.ensures, c.place-field.ensures)
    (use_refused _ writes _ _ c.in_ok-key.key (c.args.keys.now + 1) c.in_ok-key.ensures
    (new_key _ _ _ c.in_ok-key.key c.args.keys.now c.requires.counted (sym c.is_used.ensures ∙ c.if-not-is_used.true) writes)
    (omega (arith, c.if-keys-eq-MOST_KEYS.true)))

pub returns-clause-read : goal.returns-clause-read
returns-clause-read c = λ writes. use_read _ writes _ _ c.in_ok-key.key c.if-not-is_used.keys c.in_ok-key.ensures (counted c writes) (few c)

pub returns-clause-counted : goal.returns-clause-counted
returns-clause-counted c = λ writes. counted c writes
