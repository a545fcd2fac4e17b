-- Desks after the turn of one of them.
use Rattle.std.proofs.Common.{◌≡◌, ℕ, ◌+◌, ◌<◌, List, [], ◌∷◌, length, map, drop, get_or, set, inl, inr, refl, sym, ◌∙◌, ap, subst, arith}
use Rattle.std.specs.Prelude.{sum_by, Any}
use Rattle.std.proofs.Math.Seq.{map-set_same}
use Rattle.std.proofs.lemmas.List.Sums.{sum_by-cons, sum_by-set}
use Rattle.std.proofs.lemmas.List.Quantifiers.{any-set}
use Rattle.acc_message.specs.declared.item.Item.{Item}
use Rattle.acc_schedule.specs.Content.{Content}
use Rattle.acc_tape.specs.Seats.{TapeName}
use Rattle.acc_desk.specs.declared.desk.Desk.{Desk}
use Rattle.acc_desk.specs.declared.turning.Turned.{Turned}
use Rattle.acc_desk.specs.declared.turning.Turned.TheVariants.{Taken, Idle, Full}
use Rattle.acc_desk.specs.Outcomes.{HasNoRoom, HaveComeTo, progress_of, entered_by}

module _ {D J : Type 0} where
  -- the items are counted by what the desks came to
  counted : (xs : List (Desk D J)) → entered_by xs ≡ sum_by (λ (p : List Item × ℕ). length p.0) (map progress_of xs)
  counted [] = refl
  counted (x ∷ xs) =
      sum_by-cons (λ (desk : Desk D J). length desk.seat.mine) x xs
      ∙ ap (λ n. length x.seat.mine + n) (counted xs)
      ∙ sym (sum_by-cons (λ (p : List Item × ℕ). length p.0) (progress_of x) (map progress_of xs))

  entered_same : (xs ys : List (Desk D J)) → map progress_of ys ≡ map progress_of xs → entered_by ys ≡ entered_by xs
  entered_same xs ys same = counted ys ∙ ap (λ (l : List (List Item × ℕ)). sum_by (λ (p : List Item × ℕ). length p.0) l) same ∙ sym (counted xs)

  -- what the desks of a round came to, before one finds the tape full
  abbrev pub SoFar : Turned → List (Desk D J) → List (Desk D J) → Type 0
  SoFar Taken xs ys = entered_by xs < entered_by ys
  SoFar Idle xs ys = map progress_of ys ≡ map progress_of xs
  SoFar Full xs ys = ⊥

  module _ (plan : Content) (tape : TapeName) (xs ys : List (Desk D J)) where
    abbrev NoRoom : Desk D J → Type 0
    NoRoom desk = HasNoRoom plan tape desk.actor (drop desk.gone desk.commands) desk.seat

    pub all_done : (all : Turned) → SoFar all xs ys → HaveComeTo plan tape all xs ys
    all_done Taken h = h
    all_done Idle h = h
    all_done Full h = absurd h

    module _ (place : ℕ) (new d : Desk D J) (there : place < length ys) (all : Turned) (before : SoFar all xs ys) where
      abbrev zs : List (Desk D J)
      zs = set ys place new

      abbrev old : Desk D J
      old = get_or ys place d

      idle_same : new.seat.mine ≡ old.seat.mine → new.gone ≡ old.gone → map progress_of zs ≡ map progress_of ys
      idle_same mine gone = map-set_same progress_of ys place new d (λ i. (mine i, gone i))

      more : length old.seat.mine < length new.seat.mine → entered_by ys < entered_by zs
      more entered = let e = sum_by-set (λ (desk : Desk D J). length desk.seat.mine) ys place new d there in omega arith

      idle_by : (so : Turned) → SoFar so xs ys → map progress_of zs ≡ map progress_of ys → SoFar so xs zs
      idle_by Taken h same = let e = entered_same ys zs same in omega arith
      idle_by Idle h same = same ∙ h
      idle_by Full h same = absurd h

      taken_by : (so : Turned) → SoFar so xs ys → entered_by ys < entered_by zs → entered_by xs < entered_by zs
      taken_by Taken h now = omega arith
      taken_by Idle h now = let e = entered_same xs ys h in omega arith
      taken_by Full h now = absurd h

      pub after_idle : (new.seat.mine ≡ old.seat.mine) × (new.gone ≡ old.gone) → SoFar all xs zs
      after_idle h = idle_by all before (idle_same h.0 h.1)

      pub after_taken : length old.seat.mine < length new.seat.mine → SoFar Taken xs zs
      after_taken h = taken_by all before (more h)

      full_by : (so : Turned) → SoFar so xs ys → map progress_of zs ≡ map progress_of ys → Any NoRoom zs → HaveComeTo plan tape Full xs zs
      full_by Taken h same room = (inl (idle_by Taken h same), room)
      full_by Idle h same room = (inr (same ∙ h), room)
      full_by Full h same room = absurd h

      pub after_full : new.actor ≡ old.actor → new.commands ≡ old.commands
          → (new.seat.mine ≡ old.seat.mine) × (new.gone ≡ old.gone) × HasNoRoom plan tape old.actor (drop old.gone old.commands) new.seat
          → HaveComeTo plan tape Full xs zs
      after_full actor commands still =
          let by_actor = subst (λ a. HasNoRoom plan tape a (drop old.gone old.commands) new.seat) (sym actor) still.2 in
          let by_gone = subst (λ gone. HasNoRoom plan tape new.actor (drop gone old.commands) new.seat) (sym still.1) by_actor in
          let room : NoRoom new = subst (λ l. HasNoRoom plan tape new.actor (drop new.gone l) new.seat) (sym commands) by_gone in
          full_by all before (idle_same still.0 still.1) (any-set NoRoom ys place new there room)
