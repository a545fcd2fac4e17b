-- A write is taken back.
use Rattle.std.proofs.Common.{◌≡◌, inl, inr, ℕ, ◌+◌, ◌-◌, ◌<◌, ◌≤◌, List, [], ◌∷◌, ◌++◌, length, take, drop, reverse, refl, sym, ◌∙◌, ap, subst, arith, append_assoc, length-append, length-take, length-drop, take-append-drop}
use Rattle.std.specs.Prelude.{min, max}
use Rattle.std.proofs.lemmas.List.{take_at, drop_at, take_all, drop-drop, append-nil, reverse-append}
use Rattle.std.proofs.Math.Seq.{drop-append-add}
use Rattle.std.proofs.lemmas.Bool.{cases_lt}
use Rattle.acc_ports.specs.declared.surface.Write.{Write}
use Rattle.acc_ports.specs.Disk.{overwritten}
use Rattle.acc_ports.specs.Undo.{taken_back, undone, synced_of, CanUndo}

module _ (at : ℕ) (content : List ℕ) (inside : at ≤ length content) where
  front : length (take at content) ≡ at
  front = omega (arith, length-take {A = ℕ})

  -- what stands behind so many bytes from the place on, once others were written there
  behind : (more : ℕ) (bytes : List ℕ) → drop (at + more) (overwritten at bytes content) ≡ drop more (bytes ++ drop (at + length bytes) content)
  behind more bytes =
      ap (λ (l : List ℕ). drop (at + more) l) (append_assoc (take at content) bytes (drop (at + length bytes) content))
      ∙ ap (λ (n : ℕ). drop (n + more) (take at content ++ (bytes ++ drop (at + length bytes) content))) (sym front)
      ∙ drop-append-add (take at content) (bytes ++ drop (at + length bytes) content) more

  before : (bytes : List ℕ) → take at (overwritten at bytes content) ≡ take at content
  before bytes =
      ap (λ (l : List ℕ). take at l) (append_assoc (take at content) bytes (drop (at + length bytes) content))
      ∙ take_at (take at content) (bytes ++ drop (at + length bytes) content) at front

  -- the bytes that were written over, put back
  module _ (bytes : List ℕ) (over : ℕ) (is : over ≡ min (length bytes) (length content - at)) where
    abbrev saved : List ℕ
    saved = take over (drop at content)

    size : length saved ≡ over
    size = omega (arith, length-take {A = ℕ}, length-drop {A = ℕ})

    put_back : overwritten at saved (overwritten at bytes content) ≡ take at content ++ saved ++ drop over (bytes ++ drop (at + length bytes) content)
    put_back =
        ap (λ (l : List ℕ). l ++ saved ++ drop (at + length saved) (overwritten at bytes content)) (before bytes)
        ∙ ap (λ (l : List ℕ). take at content ++ saved ++ l) (ap (λ (n : ℕ). drop (at + n) (overwritten at bytes content)) size ∙ behind over bytes)

    -- the content, and what was written behind it
    Rest : Type 0
    Rest = (rest : List ℕ) × (overwritten at saved (overwritten at bytes content) ≡ content ++ rest)

    inside_the_end : length bytes ≤ length content - at → Rest
    unfolding Rest
    inside_the_end le =
        let all : over ≡ length bytes = omega arith in
        let rest : drop over (bytes ++ drop (at + length bytes) content) ≡ drop over (drop at content) =
        drop_at bytes (drop (at + length bytes) content) over (sym all) ∙ sym (drop-drop (length bytes) at content) ∙ ap (λ (n : ℕ). drop n (drop at content)) (sym all) in (
          [],
          put_back ∙ ap (λ (l : List ℕ). take at content ++ saved ++ l) rest ∙ append_assoc (take at content) saved (drop over (drop at content))
              ∙ ap (λ (l : List ℕ). take at content ++ l) (take-append-drop over (drop at content)) ∙ take-append-drop at content ∙ sym (append-nil content),
        )

    past_the_end : length content - at < length bytes → Rest
    unfolding Rest
    past_the_end lt =
        let whole : saved ≡ drop at content = take_all over (drop at content) (omega (arith, length-drop {A = ℕ})) in (
          drop over (bytes ++ drop (at + length bytes) content),
          put_back ∙ ap (λ (l : List ℕ). take at content ++ l ++ drop over (bytes ++ drop (at + length bytes) content)) whole
              ∙ ap (λ (l : List ℕ). l ++ drop over (bytes ++ drop (at + length bytes) content)) (take-append-drop at content),
        )

    rest : Rest
    rest = elim (cases_lt (length content - at) (length bytes)) [ inl lt ↦ past_the_end lt | inr le ↦ inside_the_end le ]

    pub taken_back_is : take (length content) (overwritten at saved (overwritten at bytes content)) ≡ content
    unfolding Rest
    taken_back_is = ap (λ (l : List ℕ). take (length content) l) rest.1 ∙ take_at content rest.0 (length content) refl

-- how many bytes there are after a write
pub length_written : (at : ℕ) (bytes content : List ℕ) → at ≤ length content → length (overwritten at bytes content) ≡ max (length content) (at + length bytes)
length_written at bytes content inside =
    omega (arith, length-append (take at content ++ bytes) (drop (at + length bytes) content), length-append (take at content) bytes, length-take {A = ℕ}, length-drop {A = ℕ})

-- A write that saved nothing changed nothing.
pub nothing_taken_back : (at : ℕ) (content : List ℕ) → take (length content) (overwritten at [] content) ≡ content
nothing_taken_back at content =
    ap (λ (l : List ℕ). take (length content) l) (ap (λ (l : List ℕ). l ++ drop (at + 0) content) (append-nil (take at content)) ∙ ap (λ (n : ℕ). take at content ++ drop n content) (omega arith) ∙ take-append-drop at content)
    ∙ take_all (length content) content (omega arith)

-- The newest write is taken back first.
pub synced_of-push : (writes : List Write) (write : Write) (content : List ℕ) → synced_of (writes ++ write ∷ []) content ≡ synced_of writes (taken_back write content)
synced_of-push writes write content = ap (λ (l : List Write). undone l content) (reverse-append writes (write ∷ []))

pub CanUndo-push : (writes : List Write) (write : Write) (content : List ℕ) → CanUndo (write ∷ reverse writes) content → CanUndo (reverse (writes ++ write ∷ [])) content
CanUndo-push writes write content can = subst (λ (l : List Write). CanUndo l content) (sym (reverse-append writes (write ∷ []))) can

pub CanUndo-pop : (writes : List Write) (write : Write) (content : List ℕ) → CanUndo (reverse (writes ++ write ∷ [])) content → CanUndo (write ∷ reverse writes) content
CanUndo-pop writes write content can = subst (λ (l : List Write). CanUndo l content) (reverse-append writes (write ∷ [])) can

-- After one write more, which saved what it wrote over, all can be taken back to the same bytes.
pub one_write_more : (writes later : List Write) (at count before over : ℕ) (bytes content saved new : List ℕ) → at ≤ length content → before ≡ length content → over ≡ min (length bytes) (length content - at) → saved ≡ take over (drop at content) → later ≡ writes ++ record { at = at; count = count; before = before; saved = saved } ∷ [] → new ≡ overwritten at bytes content → CanUndo (reverse writes) content
    → (synced_of later new ≡ synced_of writes content) × CanUndo (reverse later) new
one_write_more writes later at count before over bytes content saved new inside is_before is_over is_saved is_later is_new can =
    let write : Write = record { at = at; count = count; before = before; saved = saved } in
    let back : taken_back write new ≡ content =
    ap (λ (n : ℕ). take n (overwritten at saved new)) is_before ∙ ap (λ (l : List ℕ). take (length content) (overwritten at l new)) is_saved ∙ ap (λ (l : List ℕ). take (length content) (overwritten at (take over (drop at content)) l)) is_new
    ∙ taken_back_is at content inside bytes over is_over in
    let saved_size : length saved ≤ length content - at = omega (arith, ap length is_saved, length-take {A = ℕ}, length-drop {A = ℕ}) in
    let new_size : length content ≤ length new = omega (arith, ap length is_new, length_written at bytes content inside) in (
      ap (λ (l : List Write). synced_of l new) is_later ∙ synced_of-push writes write new ∙ ap (λ (l : List ℕ). synced_of writes l) back,
      subst (λ (l : List Write). CanUndo (reverse l) new) (sym is_later) (CanUndo-push writes write new (omega arith, omega arith, subst (λ (l : List ℕ). CanUndo (reverse writes) l) (sym back) can)),
    )

-- The same after a write that failed: it saved nothing.
pub one_failed_write_more : (writes later : List Write) (at count before : ℕ) (content : List ℕ) → at ≤ length content → before ≡ length content → later ≡ writes ++ record { at = at; count = count; before = before; saved = [] } ∷ [] → CanUndo (reverse writes) content
    → (synced_of later content ≡ synced_of writes content) × CanUndo (reverse later) content
one_failed_write_more writes later at count before content inside is_before is_later can =
    let write : Write = record { at = at; count = count; before = before; saved = [] } in
    let back : taken_back write content ≡ content = ap (λ (n : ℕ). take n (overwritten at [] content)) is_before ∙ nothing_taken_back at content in (
      ap (λ (l : List Write). synced_of l content) is_later ∙ synced_of-push writes write content ∙ ap (λ (l : List ℕ). synced_of writes l) back,
      subst (λ (l : List Write). CanUndo (reverse l) content) (sym is_later) (CanUndo-push writes write content (omega arith, omega arith, subst (λ (l : List ℕ). CanUndo (reverse writes) l) (sym back) can)),
    )
