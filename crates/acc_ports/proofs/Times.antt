-- How the images of a disk in memory go on.
use Rattle.std.proofs.Common.{◌≡◌, ◌⊎◌, inl, inr, ⊎_elim, ℕ, zero, suc, ◌≤◌, List, [], ◌∷◌, ◌++◌, length, drop, refl, sym, subst, arith, length-append}
use Rattle.acc_ports.specs.Disk.{Torn, NoFurther, Only, Stands, Elapses}
use Rattle.acc_ports.specs.State.{Ranges}
use Rattle.acc_ports.specs.Strict.{IsImage}
use Rattle.acc_ports.specs.MemoryDisk.{DiskBytes, IsImageOf, WereImage, settled_on}
use Rattle.acc_ports.proofs.Images.{from_before, only_synced}

keeps : (past : List DiskBytes) (last : DiskBytes) (image : List ℕ) → WereImage past image → WereImage (past ++ last ∷ []) image
keeps [] last image were = absurd were
keeps (first ∷ past) last image (inl here) = inl here
keeps (first ∷ past) last image (inr there) = inr (keeps past last image there)

adds : (past : List DiskBytes) (last : DiskBytes) (image : List ℕ) → WereImage (past ++ last ∷ []) image → WereImage past image ⊎ IsImageOf last image
adds [] last image (inl here) = inr here
adds [] last image (inr none) = absurd none
adds (first ∷ past) last image (inl here) = inl (inl here)
adds (first ∷ past) last image (inr there) = ⊎_elim (λ were. inl (inr were)) (λ new. inr new) (adds past last image there)

newest : (past : List DiskBytes) (last : DiskBytes) (image : List ℕ) → IsImageOf last image → WereImage (past ++ last ∷ []) image
newest [] last image is = inl is
newest (first ∷ past) last image is = inr (newest past last image is)

drop_push : (moment : ℕ) (past : List DiskBytes) (last : DiskBytes) → moment ≤ length past → drop moment (past ++ last ∷ []) ≡ drop moment past ++ last ∷ []
drop_push zero past last le = refl
drop_push (suc moment) [] last le = absurd (omega arith)
drop_push (suc moment) (first ∷ past) last le = drop_push moment past last (omega arith)

-- what a crash since a moment might have left
abbrev Since : List DiskBytes → DiskBytes → ℕ → List ℕ → Type 0
Since past now moment image = IsImageOf now image ⊎ WereImage (drop moment past) image

goes_on : (past : List DiskBytes) (old new : DiskBytes) → Elapses (length past) (length (past ++ old ∷ [])) (Since past old) (Since (past ++ old ∷ []) new) (IsImageOf new)
goes_on past old new = record {
  later = omega (arith, length-append past (old ∷ []));
  nothing_else = λ moment image le was. ⊎_elim (λ now. inr now) (λ were. inl (earlier moment image (adds (drop moment past) old image (subst (λ (l : List DiskBytes). WereImage l image) (drop_push moment past old le) were)))) was;
  keeps = λ moment image le was. inr (subst (λ (l : List DiskBytes). WereImage l image) (sym (drop_push moment past old le)) (⊎_elim (newest (drop moment past) old image) (keeps (drop moment past) old image) was));
}
  where
    earlier : (moment : ℕ) (image : List ℕ) → WereImage (drop moment past) image ⊎ IsImageOf old image → Since past old moment image
    earlier moment image (inl were) = inr were
    earlier moment image (inr now) = inl now

-- The present state joins the past ones.
pub time_goes_on : (past later : List DiskBytes) (old : DiskBytes) (synced : List ℕ) (written : Ranges) → later ≡ past ++ old ∷ [] → Elapses (length past) (length later) (λ moment image. IsImageOf old image ⊎ WereImage (drop moment past) image) (λ moment image. IsImage synced written image ⊎ WereImage (drop moment later) image) (IsImage synced written)
time_goes_on past later old synced written is =
    let new : DiskBytes = record { content = []; synced = synced; written = written } in
    subst (λ (l : List DiskBytes). Elapses (length past) (length l) (Since past old) (Since l new) (IsImageOf new)) (sym is) (goes_on past old new)

-- after one write more
pub images_follow : (at count : ℕ) (synced synced' : List ℕ) (written written' : Ranges) → synced' ≡ synced → written' ≡ written ++ (at, count) ∷ [] → (image : List ℕ) → IsImage synced' written' image → (before : List ℕ) × IsImage synced written before × Torn at count before image
images_follow at count synced synced' written written' is_synced is_written image is =
    from_before synced written at count image
    (subst (λ (s : List ℕ). IsImage s (written ++ (at, count) ∷ []) image) is_synced (subst (λ (w : Ranges). IsImage synced' w image) is_written is))

-- after a sync
pub only_settled : (content : List ℕ) (new : DiskBytes) → new ≡ settled_on content → Only content (IsImageOf new)
only_settled content new is image was = only_synced content image (subst (λ (bytes : DiskBytes). IsImageOf bytes image) is was)

pub no_further : (old new : DiskBytes) → Stands old.content (IsImageOf old) → new ≡ settled_on old.content → NoFurther (IsImageOf old) (IsImageOf new)
no_further old new stands is image was = subst (IsImageOf old) (sym (only_settled old.content new is image was)) stands.readable
