-- The head stands after the others, and its notes and messages after theirs.
use Rattle.std.proofs.Common.{◌≡◌, ◌+◌, ◌++◌, ◌∷◌, [], length, ap, ap₂, ◌∙◌, arith}
use Rattle.acc_message.specs.Joined.{until_of, noted_of, joined}
use Rattle.acc_message.proofs.Joined.{stretch_by, joined_more}
use Rattle.acc_message.proofs.head.put.Goals as goal

pub returns-clause-items : goal.returns-clause-items
returns-clause-items c =
    let heads = c.args.heads.now.items in
    let notes = c.args.notes.now.items in
    let messages = c.args.messages.now.items in
    let parted = c.parted-noted in
    let noted : noted_of parted.result.0 ≡ length notes + length parted.result.1 = omega (arith, parted.ensures.noted, ap length parted.ensures.notes, c.len.ensures) in
    let until : until_of parted.result.0 ≡ length messages + length parted.result.2 = omega (arith, parted.ensures.until, ap length parted.ensures.messages, c.len-2.ensures) in
    ap (λ l. joined 0 0 l c.append.new.list.items c.append-2.new.list.items) c.push_reserved.ensures.items
    ∙ ap₂ (joined 0 0 (heads ++ parted.result.0 ∷ [])) c.append.ensures.items c.append-2.ensures.items
    ∙ joined_more heads parted.result.0 0 0 notes parted.result.1 messages parted.result.2 c.requires.noted noted c.requires.stretch until
    ∙ ap (λ item. joined 0 0 heads notes messages ++ item ∷ []) parted.ensures.item

pub returns-clause-noted : goal.returns-clause-noted
returns-clause-noted c =
    let parted = c.parted-noted in
    let noted : noted_of parted.result.0 ≡ length c.args.notes.now.items + length parted.result.1 = omega (arith, parted.ensures.noted, ap length parted.ensures.notes, c.len.ensures) in
    stretch_by noted_of c.args.heads.now.items _ parted.result.0 c.args.notes.now.items parted.result.1 _ c.requires.noted noted c.push_reserved.ensures.items c.append.ensures.items

pub returns-clause-stretch : goal.returns-clause-stretch
returns-clause-stretch c =
    let parted = c.parted-noted in
    let until : until_of parted.result.0 ≡ length c.args.messages.now.items + length parted.result.2 = omega (arith, parted.ensures.until, ap length parted.ensures.messages, c.len-2.ensures) in
    stretch_by until_of c.args.heads.now.items _ parted.result.0 c.args.messages.now.items parted.result.2 _ c.requires.stretch until c.push_reserved.ensures.items c.append-2.ensures.items
