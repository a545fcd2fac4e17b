-- What reading leaves of a source, and which bytes it may have given.
use Rattle.std.proofs.Common.{◌≡◌, ◌<◌, ◌≤◌, ℕ, suc, ◌+◌, List, [], length, replicate, Option, None, Some, refl, sym, ◌∙◌, ap, subst, inr, arith}
use Rattle.std.specs.Prelude.{IfSome}
use Rattle.std.proofs.lemmas.List.{drop_all, length-replicate}
use Rattle.acc_ports.specs.Source.{without_first, none_left, TakesAtMost, ReadsToEnd}
use Rattle.acc_command_alone.specs.declared.status.Status.{Status}
use Rattle.acc_command_alone.specs.declared.status.Status.TheVariants.{Done, No, Usage, ReadFault, WriteFault, BadInput, Limit, OutOfMemory}
use Rattle.acc_command_alone.specs.Ends.{document_limit, Leaves, ReadsFor}
use Rattle.acc_command_alone.specs.Responds.{IsVerdict}

pub mapped : (o : Option (List ℕ)) (P Q : List ℕ → Type 0) → IfSome o P → ((bytes : List ℕ) → P bytes → Q bytes) → IfSome o Q
mapped None P Q p f = p
mapped (Some l) P Q p f = f l p

pub known_bytes : (o : Option (List ℕ)) (b : List ℕ) (P : List ℕ → Type 0) → IfSome o (λ l. b ≡ l) → P b → IfSome o P
known_bytes None b P e p = e
known_bytes (Some l) b P e p = subst P e p

pub all_bytes : (o : Option (List ℕ)) (P : List ℕ → Type 0) → ((bytes : List ℕ) → P bytes) → IfSome o P
all_bytes None P p = tt
all_bytes (Some l) P p = p l

-- there are longer lists than any
pub longer : (n : ℕ) → (l : List ℕ) × (n < length l)
longer n = (replicate (suc n) 0, rw (length-replicate {A = ℕ} (suc n) 0) (omega arith))

-- the bytes that a source had, or some that are too long
pub too_long : (o : Option (List ℕ)) → IfSome o (λ l. document_limit < length l) → (bytes : List ℕ) × IfSome o (λ told. bytes ≡ told) × (document_limit < length bytes)
too_long None long = let many = longer document_limit in (many.0, tt, many.1)
too_long (Some l) long = (l, refl, long)

-- where nothing of a document was written, it may be any
pub given : (o : Option (List ℕ)) → (bytes : List ℕ) × IfSome o (λ told. bytes ≡ told)
given None = ([], tt)
given (Some l) = (l, refl)

-- a source with no more bytes than these is read whole
takes_all : (n : ℕ) (left : Option (List ℕ)) (bytes : List ℕ) → length bytes ≤ n → IfSome left (λ l. bytes ≡ l)
    → none_left left ≡ without_first n left
takes_all n None bytes short all = refl
takes_all n (Some l) bytes short all = ap (λ (x : List ℕ). Some x) (sym (drop_all n l (subst (λ (x : List ℕ). length x ≤ n) all short)))

module _ (bytes : List ℕ) (left now : Option (List ℕ)) (short : length bytes ≤ document_limit) (all : IfSome left (λ l. bytes ≡ l)) (end : now ≡ none_left left) where
  pub rest : now ≡ without_first (document_limit + 1) left
  rest = end ∙ takes_all (document_limit + 1) left bytes (omega (arith, short)) all

  pub taken : TakesAtMost (document_limit + 1) left now
  taken = (document_limit + 1, omega arith, rest)

  -- a document that was read whole
  pub leaves_none : (status : Status) → IsVerdict status → Leaves status left now
  leaves_none Done is = (end, rest)
  leaves_none No is = (end, rest)
  leaves_none BadInput is = (end, rest)
  leaves_none Limit is = rest
  leaves_none Usage is = is
  leaves_none ReadFault is = taken
  leaves_none WriteFault is = rest
  leaves_none OutOfMemory is = taken

pub reads_to_end : (total : ℕ) (old new : Option (List ℕ)) → ReadsToEnd total old new → (status : Status) → IsVerdict status → ReadsFor total status old new
reads_to_end total old new reads Done is = reads
reads_to_end total old new reads No is = reads
reads_to_end total old new reads BadInput is = reads
reads_to_end total old new reads Limit is = inr reads
reads_to_end total old new reads Usage is = is
reads_to_end total old new reads ReadFault is = absurd is
reads_to_end total old new reads WriteFault is = absurd is
reads_to_end total old new reads OutOfMemory is = absurd is
