-- How a run of calls of a disk goes on.
use Rattle.std.proofs.Common.{inl, inr, ⊎_elim, ℕ, List, arith}
use Rattle.acc_ports.specs.declared.disk.Disk.{Ghosts}
use Rattle.acc_ports.specs.Disk.{Elapses}
use Rattle.acc_ports.specs.Moments.{LeavesOnly}

module _ {D : Type 0} (port : Ghosts D) where
  -- before the first call
  pub started : (old : D) (P : List ℕ → Type 0) → ((image : List ℕ) → port.was_image old (port.state old).clock image → P image) → LeavesOnly port old old P
  started old P here = record { later = omega arith; each = here; before = λ moment image le was. inl was }

  -- one call more, after which a crash leaves what has P
  pub goes_on : (old mid new : D) (P images : List ℕ → Type 0) → LeavesOnly port old mid P → Elapses (port.state mid).clock (port.state new).clock (port.was_image mid) (port.was_image new) images
      → ((image : List ℕ) → images image → P image) → LeavesOnly port old new P
  goes_on old mid new P images so_far time here = record {
    later = omega (arith, so_far.later, time.later);
    each = λ image was. ⊎_elim (so_far.each image) (here image) (time.nothing_else (port.state old).clock image so_far.later was);
    before = λ moment image le was. ⊎_elim (so_far.before moment image le) (λ now. inr (here image now)) (time.nothing_else moment image (omega (arith, le, so_far.later)) was);
  }

  -- the calls of a part, which began at mid
  pub joins : (old mid new : D) (P Q : List ℕ → Type 0) → LeavesOnly port old mid P → LeavesOnly port mid new Q → ((image : List ℕ) → Q image → P image) → LeavesOnly port old new P
  joins old mid new P Q first second here = record {
    later = omega (arith, first.later, second.later);
    each = λ image was. ⊎_elim (first.each image) (here image) (second.before (port.state old).clock image first.later was);
    before = λ moment image le was. ⊎_elim (first.before moment image le) (λ q. inr (here image q)) (second.before moment image (omega (arith, le, first.later)) was);
  }

  -- a weaker property
  pub weaker : (old new : D) (P Q : List ℕ → Type 0) → LeavesOnly port old new P → ((image : List ℕ) → P image → Q image) → LeavesOnly port old new Q
  weaker old new P Q so_far implies = record {
    later = so_far.later;
    each = λ image was. implies image (so_far.each image was);
    before = λ moment image le was. ⊎_elim (λ before. inl before) (λ p. inr (implies image p)) (so_far.before moment image le was);
  }
