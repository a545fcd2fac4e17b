-- Bodies are short enough for their format, and what was read is a body where it has a key.
use Rattle.std.proofs.Common.{◌≡◌, true, not, Ok, ap, is_none}
use Rattle.std.proofs.lemmas.Bool.{not-true}
use Rattle.acc_wire.specs.Reading.{Unread, AreBytes}
use Rattle.acc_txn.specs.declared.parts.BodyParts.{BodyParts}
use Rattle.acc_txn.specs.Rules.{has_no_key, IsBody}
pub use Rattle.acc_txn.proofs.BodyShortness.{short_body}
use Rattle.acc_code.specs.BodyReading.{parts_at}
use Rattle.acc_code.proofs.PartsFormat.{parts_field}
use Rattle.acc_code.proofs.RulesKept.{rules_kept}

-- ---- what was read

-- parts that were read and have a key keep the rules
pub read_rules : (u after : Unread) (parts : BodyParts) → AreBytes u.bytes → parts_at u ≡ Ok (parts, after) → not (has_no_key parts) ≡ true → IsBody parts
read_rules u after parts bytes e some = ap is_none (rules_kept parts (parts_field.takes u after parts bytes e).1 (not-true (has_no_key parts) some))
