-- Writes keep what a crash needs.
use Rattle.std.proofs.Common.{◌≡◌, ℕ, ◌-◌, ◌≤◌, List, [], ◌∷◌, ◌++◌, length, take, drop, sym, ◌∙◌, ap, subst}
use Rattle.std.specs.Prelude.{min}
use Rattle.std.proofs.lemmas.List.{map-append}
use Rattle.acc_ports.specs.declared.surface.Write.{Write}
use Rattle.acc_ports.specs.Disk.{overwritten}
use Rattle.acc_ports.specs.State.{Ranges}
use Rattle.acc_ports.specs.Strict.{IsImage}
use Rattle.acc_ports.specs.Undo.{synced_of, ranges_of, CanCrash}
use Rattle.acc_ports.proofs.Undoing.{one_write_more, one_failed_write_more}
use Rattle.acc_ports.proofs.Images.{image_torn, image_more, written_torn}

same_image : (synced synced' : List ℕ) (ranges ranges' : Ranges) (image image' : List ℕ) → synced' ≡ synced → ranges' ≡ ranges → image' ≡ image → IsImage synced ranges image → IsImage synced' ranges' image'
same_image synced synced' ranges ranges' image image' a b c is =
    subst (λ (s : List ℕ). IsImage s ranges' image') (sym a) (subst (λ (r : Ranges). IsImage synced r image') (sym b) (subst (λ (i : List ℕ). IsImage synced ranges i) (sym c) is))

-- after a write that saved what it wrote over
pub CanCrash-write : (writes later : List Write) (at count before over : ℕ) (bytes content saved new : List ℕ) → at ≤ length content → before ≡ length content → over ≡ min count (length content - at) → saved ≡ take over (drop at content) → later ≡ writes ++ record { at = at; count = count; before = before; saved = saved } ∷ [] → new ≡ overwritten at bytes content → count ≡ length bytes → CanCrash writes content → CanCrash later new
CanCrash-write writes later at count before over bytes content saved new inside is_before is_over is_saved is_later is counts can =
    let undo = one_write_more writes later at count before over bytes content saved new inside is_before (is_over ∙ ap (λ (n : ℕ). min n (length content - at)) counts) is_saved is_later is can.undo in
    let ranges : ranges_of later ≡ ranges_of writes ++ (at, length bytes) ∷ [] =
    ap ranges_of is_later ∙ map-append (λ (write : Write). (write.at, write.count)) writes (record { at = at; count = count; before = before; saved = saved } ∷ []) ∙ ap (λ (n : ℕ). ranges_of writes ++ (at, n) ∷ []) counts in
    record {
      undo = undo.1;
      image = same_image _ _ _ _ _ _ undo.0 ranges is (image_torn (synced_of writes content) (ranges_of writes) at (length bytes) content (overwritten at bytes content) can.image (written_torn at bytes content inside));
    }

-- after a write that failed
pub CanCrash-failure : (writes later : List Write) (at count before : ℕ) (content saved : List ℕ) → at ≤ length content → before ≡ length content → saved ≡ [] → CanCrash writes content → later ≡ writes ++ record { at = at; count = count; before = before; saved = saved } ∷ [] → (synced_of later content ≡ synced_of writes content) × CanCrash later content
CanCrash-failure writes later at count before content saved inside is_before none can is_later =
    let is = is_later ∙ ap (λ (s : List ℕ). writes ++ record { at = at; count = count; before = before; saved = s } ∷ []) none in
    let undo = one_failed_write_more writes later at count before content inside is_before is can.undo in
    let ranges : ranges_of later ≡ ranges_of writes ++ (at, count) ∷ [] = ap ranges_of is ∙ map-append (λ (write : Write). (write.at, write.count)) writes (record { at = at; count = count; before = before; saved = [] } ∷ []) in (
      undo.0,
      record {
        undo = undo.1;
        image = subst (λ (s : List ℕ). IsImage s (ranges_of later) content) (sym undo.0) (subst (λ (r : Ranges). IsImage (synced_of writes content) r content) (sym ranges) (image_more (synced_of writes content) (ranges_of writes) at count content can.image));
      },
    )
