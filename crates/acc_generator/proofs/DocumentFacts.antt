-- A generated document is read as the data that it was written of.
use Rattle.std.proofs.Common.{ℕ, ◌%◌, ◌^◌, ◌<◌, ◌≤◌, ◌==◌, true, false, cond, List, [], ◌∷◌, ◌++◌, codes, IsUtf8, refl, arith, map}
use Rattle.std.proofs.lemmas.Fmt.{IsAscii-decimal}
use Rattle.std.proofs.lemmas.Str.{IsUtf8-append, IsUtf8-from_ascii}
use Rattle.json.proofs.Printed.Utf8.{IsUtf8-are_ascii}
use Rattle.serde_json.specs.Data.{Data, no_members}
use Rattle.acc_generator.specs.Document.{begin, document, drain, home_of, name_of, node, nodes, numbers, schedule, shard, shards, steps_at, transaction, transaction_with}
use Rattle.acc_generator.specs.Texts.{state_before, text_of}
use Rattle.acc_generator.proofs.PieceFacts.{over_pieces}
use Rattle.acc_generator.proofs.TextFacts.{text_short}
use Rattle.acc_generator.proofs.Written.{AreWritten, IsWritten, array_written, cons_written, map_written, member_written, nil_written, no_members_written, null_written, number_written, object_written, string_written}

name_utf8 : (n : ℕ) → n < 2 ^ 64 → IsUtf8 (name_of n)
unfolding name_of
name_utf8 n lt = IsUtf8-append (codes "t") _ (IsUtf8-are_ascii _ refl) (IsUtf8-from_ascii _ (IsAscii-decimal n lt))

-- ---- the cluster

node_written : (n : ℕ) → n < 2 ^ 64 → IsWritten 1 (node n)
node_written n lt =
    object_written 0 _ refl (member_written 0 (codes "id") _ no_members (IsUtf8-are_ascii _ refl) (number_written 0 n lt) (no_members_written 0))

nodes_written : IsWritten 2 nodes
unfolding nodes
nodes_written =
    array_written 1 _ (cons_written 1 _ _ (node_written 1 (omega arith)) (cons_written 1 _ _ (node_written 2 (omega arith)) (cons_written 1 _ _ (node_written 3 (omega arith)) (nil_written 1))))

shard_written : (end : Data) → IsWritten 1 end → IsWritten 2 (shard end)
shard_written end h =
    object_written 1 _ refl (member_written 1 (codes "end") end _ (IsUtf8-are_ascii _ refl) h (member_written 1 (codes "replicas") _ no_members (IsUtf8-are_ascii _ refl)
    (array_written 0 _ (cons_written 0 _ _ (number_written 0 1 (omega arith)) (cons_written 0 _ _ (number_written 0 2 (omega arith)) (cons_written 0 _ _ (number_written 0 3 (omega arith)) (nil_written 0))))) (no_members_written 1)))

shards_written : IsWritten 3 shards
unfolding shards
shards_written =
    array_written 2 _ (cons_written 2 _ _ (shard_written _ (string_written 1 (codes "k21") (IsUtf8-are_ascii _ refl))) (cons_written 2 _ _ (shard_written _ (string_written 1 (codes "k42") (IsUtf8-are_ascii _ refl))) (cons_written 2 _ _ (shard_written _ (null_written 1)) (nil_written 2))))

-- ---- transactions

transaction_written : (seed n : ℕ) → n < 2 ^ 64 → IsWritten 1 (transaction seed n)
unfolding transaction_with
transaction_written seed n lt =
    object_written 0 _ refl (member_written 0 (codes "name") _ _ (IsUtf8-are_ascii _ refl) (string_written 0 (name_of n) (name_utf8 n lt))
    (member_written 0 (codes "node") _ _ (IsUtf8-are_ascii _ refl) (number_written 0 (home_of n) (omega arith))
    (member_written 0 (codes "text") _ no_members (IsUtf8-are_ascii _ refl) (string_written 0 (text_of seed n) (text_short (state_before seed n) n).utf8) (no_members_written 0))))

transactions_written : (seed count : ℕ) → count < 2 ^ 64 → AreWritten 1 (map (transaction seed) (numbers count))
transactions_written seed count lt = map_written 1 (transaction seed) 0 count (λ i below. transaction_written seed i (omega arith))

-- ---- the schedule

begin_written : (n : ℕ) → n < 2 ^ 64 → IsWritten 1 (begin n)
unfolding begin
begin_written n lt =
    array_written 0 _ (cons_written 0 _ _ (string_written 0 (codes "begin") (IsUtf8-are_ascii _ refl)) (cons_written 0 _ _ (string_written 0 (name_of n) (name_utf8 n lt)) (nil_written 0)))

drain_written : IsWritten 1 drain
unfolding drain
drain_written = array_written 0 _ (cons_written 0 _ _ (string_written 0 (codes "drain") (IsUtf8-are_ascii _ refl)) (nil_written 0))

steps_written : (n : ℕ) (behind : List Data) → n < 2 ^ 64 → AreWritten 1 behind → AreWritten 1 (steps_at n ++ behind)
unfolding steps_at
steps_written n behind lt h =
    elim (n % 16 == 15) as (λ b. AreWritten 1 (cond b (begin n ∷ drain ∷ []) (begin n ∷ []) ++ behind)) [
      | true ↦ cons_written 1 _ _ (begin_written n lt) (cons_written 1 _ _ drain_written h)
      | false ↦ cons_written 1 _ _ (begin_written n lt) h
    ]

schedule_written : (count : ℕ) → count < 2 ^ 64 → AreWritten 1 (schedule count)
schedule_written count lt =
    over_pieces (AreWritten 1) steps_at (drain ∷ []) (cons_written 1 _ _ drain_written (nil_written 1)) 0 count (λ i behind below h. steps_written i behind (omega arith) h)

-- ---- the whole

pub document_written : (seed count : ℕ) → count < 2 ^ 64 → IsWritten 4 (document seed count)
document_written seed count lt =
    object_written 3 _ refl (member_written 3 (codes "nodes") _ _ (IsUtf8-are_ascii _ refl) (deeper 2 3 _ (omega arith) nodes_written)
    (member_written 3 (codes "print") _ _ (IsUtf8-are_ascii _ refl) (string_written 3 (codes "summary") (IsUtf8-are_ascii _ refl))
    (member_written 3 (codes "schedule") _ _ (IsUtf8-are_ascii _ refl) (deeper 2 3 _ (omega arith) (array_written 1 _ (schedule_written count lt)))
    (member_written 3 (codes "shards") _ _ (IsUtf8-are_ascii _ refl) shards_written
    (member_written 3 (codes "txns") _ _ (IsUtf8-are_ascii _ refl) (deeper 2 3 _ (omega arith) (array_written 1 _ (transactions_written seed count lt)))
    (member_written 3 (codes "version") _ no_members (IsUtf8-are_ascii _ refl) (number_written 3 1 (omega arith)) (no_members_written 3)))))))
  where
    deeper : (few more : ℕ) (d : Data) → few ≤ more → IsWritten few d → IsWritten more d
    deeper few more d le h = record { numbers = h.numbers; back = h.back; utf8 = h.utf8; exact = h.exact; shallow = omega (arith, h.shallow) }
