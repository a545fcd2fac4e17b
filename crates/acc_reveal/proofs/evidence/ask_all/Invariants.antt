-- What the rivals so far tell is known.
use Rattle.std.proofs.Common.{◌≡◌, ◌++◌, take}
use Rattle.acc_reveal.specs.Revealed.{superseded_at, awaited_at}
use Rattle.acc_reveal.proofs.evidence.ask_all.Given as goal

abbrev pub invariant-loop-rival : goal.invariant-loop-rival
invariant-loop-rival l =
    (l.superseded ≡ superseded_at l.shelf l.id (take l.rival-index l.rivals))
    × (l.awaited.items ≡ l.fn.awaited.items ++ awaited_at l.shelf l.id (take l.rival-index l.rivals))
