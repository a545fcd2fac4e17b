-- The first fault is found as soon as its token is seen.
use Rattle.std.proofs.Common.{◌≡◌, ℕ, ◌-◌, List, length, Option, Some, Result, Ok, Err, refl, sym, ap, ◌∙◌, Bool}
use Rattle.acc_token.specs.Tokens.{left_at}
use Rattle.acc_txn.specs.declared.parts.BodyParts.{BodyParts}
use Rattle.acc_lang.specs.declared.error.LangKind.{LangKind}
use Rattle.acc_lang.specs.declared.fault.Fault.{Fault}
use Rattle.acc_lang.specs.First.{behind_all, Seen}
use Rattle.acc_lang.specs.Grammar.{IsTextOf}
use Rattle.acc_lang.specs.Reading.{reading, reading_fault, placed}
use Rattle.acc_lang.proofs.Answering.{is_read}
use Rattle.acc_lang.proofs.FollowBody.{reading_stops}

some_same : {X : Type 0} (x y : X) → ◌≡◌ {A = Option X} (Some x) (Some y) → x ≡ y
some_same x y is = cc

not_both : {X : Type 0} (read : Result X Fault) (x : X) (f : Fault) → read ≡ Ok x → read ≡ Err f → ⊥
not_both read x f ok err = cc

module _ (texts : Bool) where
  abbrev pub FoundAtOnce : List ℕ → ℕ → Type 0
  FoundAtOnce text at =
      (count : ℕ) × (at ≡ length text - left_at (behind_all count text)) × ((other : List ℕ) (parts : BodyParts) → Seen count text other → IsTextOf texts other parts → ⊥)

  by_result : (text : List ℕ) (kind : LangKind) (at : ℕ) (result : Result BodyParts Fault) → reading texts text ≡ result → placed text result ≡ Some (kind, at) → FoundAtOnce text at
  by_result text kind at (Ok parts) read is = cc
  by_result text kind at (Err fault) read is =
      let stop = reading_stops texts text fault read in (
        stop.0,
        ap (λ p. p.1) (sym (some_same (fault.kind, length text - fault.left) (kind, at) is)) ∙ ap (λ left. length text - left) stop.1,
        λ other parts seen of_grammar.
            let found = stop.2 other seen in
            not_both (reading texts other) parts found.0 (is_read texts other parts of_grammar) found.1,
      )

  pub found_at_once : (text : List ℕ) (kind : LangKind) (at : ℕ) → reading_fault texts text ≡ Some (kind, at) → FoundAtOnce text at
  unfolding reading_fault
  found_at_once text kind at is = by_result text kind at (reading texts text) refl is
