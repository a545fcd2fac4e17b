-- Messages that ask each store for something are short, and few enough for a sum of their lengths.
use Rattle.std.proofs.Common.{◌≡◌, ℕ, ◌+◌, ◌*◌, ◌<◌, ◌≤◌, ◌^◌, Bool, true, false, cond, if◌then◌else◌, List, length, map, refl, sym, subst, arith, length-append}
use Rattle.std.specs.Prelude.{slice_index_or}
use Rattle.std.specs.List.{All}
use Rattle.std.proofs.lemmas.List.{length-map}
use Rattle.std.proofs.lemmas.List.Elements.{All-map}
use Rattle.std.proofs.lemmas.List.Sums.{sum_by-le}
use Rattle.acc_stamp.specs.declared.stamps.TxnId.{TxnId}
use Rattle.acc_stamp.specs.declared.stamps.Ballot.{Ballot}
use Rattle.acc_stamp.specs.declared.actors.Actor.{Actor}
use Rattle.acc_stamp.specs.Actor.{actor_of, node_of_stamp, home_of}
use Rattle.acc_stamp.specs.Stamp.{zero_ballot}
use Rattle.acc_stamp.specs.Clock.{ClockState, next_stamp}
use Rattle.acc_topology.specs.Layout.{Layout, IsLayout}
use Rattle.acc_txn.specs.declared.parts.BodyParts.{BodyParts}
use Rattle.acc_message.specs.declared.message.Message.{Message}
use Rattle.acc_message.specs.Shares.{stores_used}
use Rattle.acc_wire.specs.Spelling.{u16_bytes, u32_bytes, u64_bytes}
use Rattle.acc_txn.specs.BodySpelling.{body_bytes}
use Rattle.acc_message_code.specs.Spelling.{actor_bytes, stamp_bytes}
use Rattle.acc_message_code.specs.MessageSpelling.{number_of, envelope_bytes, content_bytes, message_bytes}
use Rattle.acc_message_code.specs.Short.{IsShortMessage}
use Rattle.acc_message_code.specs.Weight.{weight_of_all}
use Rattle.acc_node.specs.Questions.{question, AreQuestions}
use Rattle.acc_node.proofs.ShortStores.{AreShort, used_short}
use Rattle.acc_node.proofs.Drawing.{drawn_not_zero}

question_takes : (is_first : Bool) (from : Actor) (id : TxnId) (ballot : Ballot) (body : BodyParts) (to : Actor)
    → length (message_bytes (question is_first from id ballot body to)) ≡ 29 + length (body_bytes body)
unfolding message_bytes envelope_bytes content_bytes actor_bytes stamp_bytes u16_bytes u32_bytes u64_bytes
question_takes true from id ballot body to = omega arith
question_takes false from id ballot body to = omega arith

question_short : (is_first : Bool) (from : Actor) (id : TxnId) (ballot : Ballot) (body : BodyParts) (to : Actor)
    → from.0 < 2 ^ 16 → to.0 < 2 ^ 16 → IsShortMessage (question is_first from id ballot body to)
question_short true from id ballot body to sender receiver = record { from = sender; to = receiver; content = tt }
question_short false from id ballot body to sender receiver = record { from = sender; to = receiver; content = tt }

module _ (layout : Layout) (valid : IsLayout layout) (body : BodyParts) where
  asks_short : (is_first : Bool) (from : Actor) (id : TxnId) (ballot : Ballot) → from.0 < 2 ^ 16
      → All IsShortMessage (map (question is_first from id ballot body) (stores_used layout body))
  asks_short is_first from id ballot sender =
      All-map IsShortMessage (question is_first from id ballot body) (stores_used layout body)
      (λ k d h. question_short is_first from id ballot body (slice_index_or (stores_used layout body) k d) sender ((used_short layout body valid).numbers k d h))

  asks_fit : length (body_bytes body) < 2 ^ 27 → (is_first : Bool) (from : Actor) (id : TxnId) (ballot : Ballot)
      → weight_of_all (map (question is_first from id ballot body) (stores_used layout body)) < 2 ^ 64
  asks_fit small is_first from id ballot =
      let ask = question is_first from id ballot body in
      let stores = stores_used layout body in
      let least : weight_of_all (map ask stores) ≤ length (map ask stores) * (2 ^ 28) =
      sum_by-le (λ m. length (message_bytes m)) (2 ^ 28) (map ask stores)
      (All-map (λ m. length (message_bytes m) ≤ 2 ^ 28) ask stores
      (λ k d h. omega (arith, small, question_takes is_first from id ballot body (slice_index_or stores k d)))) in
      omega (arith, least, length-map stores ask, (used_short layout body valid).few)

  pub questions_short : (messages : List Message) → AreQuestions layout body messages → All IsShortMessage messages
  questions_short messages q = subst (All IsShortMessage) (sym q.asks) (asks_short q.is_first q.from q.id q.ballot q.sender)

  pub questions_fit : length (body_bytes body) < 2 ^ 27 → (messages : List Message) → AreQuestions layout body messages → weight_of_all messages < 2 ^ 64
  questions_fit small messages q = subst (λ (ms : List Message). weight_of_all ms < 2 ^ 64) (sym q.asks) (asks_fit small q.is_first q.from q.id q.ballot)

-- the node that draws is short
pub first_home_short : (clock : ClockState) → clock.node ≤ 15 → (home_of (record { 0 = next_stamp clock }) zero_ballot).0 < 2 ^ 16
first_home_short clock few = omega arith

pub home_short : (clock : ClockState) (x : TxnId) → clock.node ≤ 15 → (home_of x (record { 0 = next_stamp clock })).0 < 2 ^ 16
home_short clock x few =
    subst (λ b. (actor_of (if b then node_of_stamp x.0 else node_of_stamp (next_stamp clock)) 0).0 < 2 ^ 16) (sym (drawn_not_zero clock)) (omega arith)
