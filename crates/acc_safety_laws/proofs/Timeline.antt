-- The changes of one store over all its steps, the newest first, and the cells that they leave.
use Rattle.std.proofs.Common.{◌≡◌, Bool, true, false, cond, List, [], ◌∷◌, Option, None, Some, refl, sym, ◌∙◌, subst, ◌⊎◌, inl, inr, ⊎_elim}
use Rattle.std.specs.Prelude.{unwrap_or}
use Rattle.std.proofs.lemmas.Bool.{true≢false, cases_Bool}
use Rattle.acc_stamp.specs.declared.stamps.Stamp.{Stamp}
use Rattle.acc_stamp.specs.declared.stamps.TxnId.{TxnId}
use Rattle.acc_stamp.specs.Stamp.{stamp_lt}
use Rattle.acc_stamp.proofs.Order.{stamp_order, trichotomy}
use Rattle.acc_value.specs.declared.key.Key.{Key}
use Rattle.acc_value.specs.Pairs.{find}
use Rattle.acc_value.specs.Cells.{applied}
use Rattle.acc_message.specs.Opening.{Change}
use Rattle.acc_safety_laws.proofs.Cell.{Cell}
use Rattle.acc_safety_laws.proofs.Latest.{Writes, IsLatest, Unwritten, same_latest, latest_more}

-- some change applied the transaction
abbrev pub AppliedIn : List Change → TxnId → Type 0
AppliedIn [] x = ⊥
AppliedIn (c ∷ changes) x = ((c.applies ≡ true) × (c.id ≡ x)) ⊎ AppliedIn changes x

abbrev pub OpenedIn : List Change → TxnId → Type 0
OpenedIn [] x = ⊥
OpenedIn (c ∷ changes) x = ((c.opens ≡ true) × (c.id ≡ x)) ⊎ OpenedIn changes x

-- these changes, one after another, after earlier ones
abbrev pub behind : List Change → List Change → List Change
behind [] earlier = earlier
behind (c ∷ changes) earlier = behind changes (c ∷ earlier)

-- the cells that the changes leave, where each that applies makes the writes of its transaction
abbrev pub left_by : (TxnId → List (Key × Cell)) → List Change → Key → Cell
left_by writes [] = λ key. None
left_by writes (c ∷ changes) = cond c.applies (applied (left_by writes changes) (writes c.id)) (left_by writes changes)

-- A change comes in its turn: what is below a transaction is applied before it is opened, nothing is applied before it is
-- opened, nor twice.
pub record InTurn (below : TxnId → TxnId → Type 0) (c : Change) (earlier : List Change) : Type 0 where
  pub opened : c.opens ≡ true → (y : TxnId) → below y c.id → AppliedIn earlier y
  pub fresh : c.opens ≡ true → AppliedIn earlier c.id → ⊥
  pub stands : c.applies ≡ true → OpenedIn (c ∷ earlier) c.id
  pub once : c.applies ≡ true → AppliedIn earlier c.id → ⊥

abbrev pub AllInTurn : (TxnId → TxnId → Type 0) → List Change → Type 0
AllInTurn below [] = Unit {0}
AllInTurn below (c ∷ earlier) = InTurn below c earlier × AllInTurn below earlier

module _ (below : TxnId → TxnId → Type 0) where
  -- ---- after earlier ones

  pub AppliedIn-behind : (changes earlier : List Change) (x : TxnId) → AppliedIn earlier x → AppliedIn (behind changes earlier) x
  AppliedIn-behind [] earlier x h = h
  AppliedIn-behind (c ∷ changes) earlier x h = AppliedIn-behind changes (c ∷ earlier) x (inr h)

  pub OpenedIn-behind : (changes earlier : List Change) (x : TxnId) → OpenedIn earlier x → OpenedIn (behind changes earlier) x
  OpenedIn-behind [] earlier x h = h
  OpenedIn-behind (c ∷ changes) earlier x h = OpenedIn-behind changes (c ∷ earlier) x (inr h)

  pub AllInTurn-earlier : (changes earlier : List Change) → AllInTurn below (behind changes earlier) → AllInTurn below earlier
  AllInTurn-earlier [] earlier h = h
  AllInTurn-earlier (c ∷ changes) earlier h = (AllInTurn-earlier changes (c ∷ earlier) h).1

  -- ---- what is below an opened one is applied, and what is applied is opened

  pub below_is_applied : (changes : List Change) (x y : TxnId) → AllInTurn below changes → OpenedIn changes x → below y x → AppliedIn changes y
  below_is_applied [] x y turns opened b = absurd opened
  below_is_applied (c ∷ changes) x y turns opened b =
      ⊎_elim (λ now. inr (turns.0.opened now.0 y (subst (below y) (sym now.1) b)))
      (λ before. inr (below_is_applied changes x y turns.1 before b)) opened

  pub applied_is_opened : (changes : List Change) (x : TxnId) → AllInTurn below changes → AppliedIn changes x → OpenedIn changes x
  applied_is_opened [] x turns h = absurd h
  applied_is_opened (c ∷ changes) x turns h =
      ⊎_elim (λ now. subst (OpenedIn (c ∷ changes)) now.1 (turns.0.stands now.0)) (λ before. inr (applied_is_opened changes x turns.1 before)) h

  -- ---- cells

  module _ (time : TxnId → Stamp) (wrote : Writes) (writes : TxnId → List (Key × Cell)) (key : Key) where
    -- the changes apply what their transactions wrote to the key
    abbrev pub Writing : List Change → Type 0
    Writing changes = (y : TxnId) → AppliedIn changes y → find (writes y) key ≡ wrote y key

    -- of two that wrote the key the one with the smaller timestamp is below the other
    abbrev pub WritersMeet : Type 0
    WritersMeet = (y z : TxnId) (c d : Cell) → wrote y key ≡ Some c → wrote z key ≡ Some d → stamp_lt (time y) (time z) ≡ true → below y z

    -- the cells are those of the latest that is applied
    pub left_is_latest : (changes : List Change) → AllInTurn below changes → Writing changes → WritersMeet
        → IsLatest time wrote (AppliedIn changes) key (left_by writes changes key)
    left_is_latest [] turns writing meet = Unwritten refl (record { none = λ y c h w. h })
    left_is_latest (c ∷ changes) turns writing meet =
        by c.applies refl (left_is_latest changes turns.1 (λ y h. writing y (inr h)) meet)
      where
        by : (b : Bool) → c.applies ≡ b → IsLatest time wrote (AppliedIn changes) key (left_by writes changes key)
            → IsLatest time wrote (AppliedIn (c ∷ changes)) key (cond b (applied (left_by writes changes) (writes c.id)) (left_by writes changes) key)
        by false is latest =
            same_latest time wrote key (AppliedIn changes) (AppliedIn (c ∷ changes)) (left_by writes changes key)
            (λ y d h w. inr h) (λ y d h w. ⊎_elim (λ now. absurd (true≢false (sym now.0 ∙ is))) (λ k. k) h) latest
        by true is latest =
            subst (λ (o : Option Cell). IsLatest time wrote (AppliedIn (c ∷ changes)) key (unwrap_or o (left_by writes changes key)))
            (sym (writing c.id (inl (is, refl))))
            (latest_more time wrote key (AppliedIn changes) (AppliedIn (c ∷ changes)) c.id (left_by writes changes key)
            (λ y h. ⊎_elim (λ now. inr now.1) inl h) (λ y h. inr h) (inl (is, refl)) above latest)
          where
            above : (e : Cell) (z : TxnId) (d : Cell) → wrote c.id key ≡ Some e → AppliedIn changes z → wrote z key ≡ Some d
                → stamp_lt (time c.id) (time z) ≡ false
            above e z d w h v =
                ⊎_elim
                (λ earlier. absurd (turns.0.once is (below_is_applied changes z c.id turns.1 (applied_is_opened changes z turns.1 h) (meet c.id z e d w v earlier))))
                (λ no. no)
                (cases_Bool (stamp_lt (time c.id) (time z)))

    -- where all that is below x is applied and x is not, the cells are the latest below x
    pub left_is_latest_below : (changes : List Change) (x : TxnId) → AllInTurn below changes → Writing changes → WritersMeet
        → ((y : TxnId) (c : Cell) → wrote y key ≡ Some c → stamp_lt (time y) (time x) ≡ true → below y x)
        → ((y : TxnId) (c : Cell) → wrote y key ≡ Some c → stamp_lt (time x) (time y) ≡ true → below x y)
        → ((y : TxnId) (c : Cell) → wrote y key ≡ Some c → time y ≡ time x → y ≡ x)
        → ((y : TxnId) → below y x → AppliedIn changes y) → (AppliedIn changes x → ⊥)
        → IsLatest time wrote (λ y. stamp_lt (time y) (time x) ≡ true) key (left_by writes changes key)
    left_is_latest_below changes x turns writing meet early late own applied waits =
        same_latest time wrote key (AppliedIn changes) (λ y. stamp_lt (time y) (time x) ≡ true) (left_by writes changes key)
        is_early (λ y c h w. applied y (early y c w h)) (left_is_latest changes turns writing meet)
      where
        is_early : (y : TxnId) (c : Cell) → AppliedIn changes y → wrote y key ≡ Some c → stamp_lt (time y) (time x) ≡ true
        is_early y c h w =
            ⊎_elim (λ before. before)
            (λ rest. ⊎_elim (λ same. absurd (waits (subst (AppliedIn changes) (own y c w same) h)))
            (λ after. absurd (waits (below_is_applied changes y x turns (applied_is_opened changes y turns h) (late y c w after)))) rest)
            (trichotomy stamp_order (time y) (time x))
