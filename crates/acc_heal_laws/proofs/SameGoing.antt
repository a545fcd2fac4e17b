-- Of two healings from one place, both under way, each has the steps of the other, or those of it that came so far.
use Rattle.std.proofs.Common.{◌≡◌, ℕ, suc, ◌+◌, List, [], ◌∷◌, ◌++◌, length, Some, None, refl, sym, ◌∙◌, ap, subst, arith}
use Rattle.acc_message.specs.declared.item.Item.{Item}
use Rattle.acc_schedule.specs.declared.plan.Step.{Step}
use Rattle.acc_schedule.specs.declared.plan.Step.TheVariants.{Drain}
use Rattle.acc_message.specs.Run.{Cluster}
use Rattle.acc_heal_laws.specs.Stages.{Reopens, due}
use Rattle.acc_heal_laws.specs.Healings.{Standing, Moving, Goes, due_at, standing_after}
use Rattle.acc_heal_laws.specs.HealingFronts.{HealingReaches}

-- both lists of steps, each with the step after them, begin one list
pub record HaveOneList (steps : List Step) (step : Step) (others : List Step) (other : Step) : Type 0 where
  pub more : List Step
  pub other_more : List Step
  pub same : steps ++ step ∷ more ≡ others ++ other ∷ other_more

same_step : (x y : Step) → Some x ≡ Some y → x ≡ y
same_step x y e = cc

no_step : (x : Step) → Some x ≡ None → ⊥
no_step x e = cc

-- something is due where a healing begins
pub begins_due : (cluster : Cluster) (todo : List Step) (items : List Item) → due cluster (Reopens todo) items ≡ None → ⊥
begins_due cluster [] items e = no_step Drain e
begins_due cluster (step ∷ todo) items e = no_step step e

module _ {S : Type 0} (moving : Moving S)
    (alike : (number : ℕ) (step : Step) (s next other : S) → moving.next number step s next → moving.next number step s other → next ≡ other) where
  -- the second list, of steps from the same place, in the words of the first
  same_rest : (number : ℕ) (step other : Step) (others : List Step) (from end : Standing S) (next : S) → Some other ≡ Some step → moving.next number step from.at next
      → (g : Goes moving number (other ∷ others) from end) → Goes moving (number + 1) others (standing_after moving from next) end
  same_rest number step other others from end next e is g =
      subst (λ k. Goes moving (number + 1) others (standing_after moving from k) end)
      (alike number step from.at g.0 next (subst (λ k. moving.next number k from.at g.0) (same_step other step e) g.2) is) g.3

  pub common : (number : ℕ) (steps others : List Step) (from to end : Standing S) (step other : Step) → Goes moving number steps from to
      → Goes moving number others from end → due_at moving to ≡ Some step → due_at moving end ≡ Some other → HaveOneList steps step others other
  common number [] [] from to end step other one two due_one due_two =
      let here = subst (λ (k : Standing S). due_at moving k ≡ Some step) one due_one in
      let there = subst (λ (k : Standing S). due_at moving k ≡ Some other) two due_two in
      record { more = []; other_more = []; same = ap (λ k. k ∷ []) (same_step step other (sym here ∙ there)) }
  common number [] (o ∷ others) from to end step other one two due_one due_two =
      let here = subst (λ (k : Standing S). due_at moving k ≡ Some step) one due_one in
      record { more = others ++ other ∷ []; other_more = []; same = ap (λ k. k ∷ others ++ other ∷ []) (same_step step o (sym here ∙ two.1)) }
  common number (s ∷ steps) [] from to end step other one two due_one due_two =
      let there = subst (λ (k : Standing S). due_at moving k ≡ Some other) two due_two in
      record { more = []; other_more = steps ++ step ∷ []; same = ap (λ k. k ∷ steps ++ step ∷ []) (same_step s other (sym one.1 ∙ there)) }
  common number (s ∷ steps) (o ∷ others) from to end step other one two due_one due_two =
      let e : Some o ≡ Some s = sym two.1 ∙ one.1 in
      let rest =
      common (number + 1) steps others (standing_after moving from one.0) to end step other one.3 (same_rest number s o others from end one.0 e one.2 two)
      due_one due_two in
      record {
        more = rest.more;
        other_more = rest.other_more;
        same = ap (λ k. s ∷ k) rest.same ∙ ap (λ k. k ∷ others ++ other ∷ rest.other_more) (sym (same_step o s e));
      }

  -- a healing that has come to its end has all steps of one that is under way
  pub whole_has : (number : ℕ) (steps others : List Step) (from to end : Standing S) (step : Step) → Goes moving number steps from to
      → Goes moving number others from end → due_at moving to ≡ Some step → due_at moving end ≡ None → (more : List Step) × (others ≡ steps ++ step ∷ more)
  whole_has number [] [] from to end step one two due_one done =
      let here = subst (λ (k : Standing S). due_at moving k ≡ Some step) one due_one in
      let there = subst (λ (k : Standing S). due_at moving k ≡ None) two done in
      absurd (no_step step (sym here ∙ there))
  whole_has number [] (o ∷ others) from to end step one two due_one done =
      let here = subst (λ (k : Standing S). due_at moving k ≡ Some step) one due_one in
      (others, ap (λ k. k ∷ others) (same_step o step (sym two.1 ∙ here)))
  whole_has number (s ∷ steps) [] from to end step one two due_one done =
      let there = subst (λ (k : Standing S). due_at moving k ≡ None) two done in
      absurd (no_step s (sym one.1 ∙ there))
  whole_has number (s ∷ steps) (o ∷ others) from to end step one two due_one done =
      let e : Some o ≡ Some s = sym two.1 ∙ one.1 in
      let rest =
      whole_has (number + 1) steps others (standing_after moving from one.0) to end step one.3 (same_rest number s o others from end one.0 e one.2 two) due_one
      done in
      (rest.0, ap (λ k. o ∷ k) rest.1 ∙ ap (λ k. k ∷ steps ++ step ∷ rest.0) (same_step o s e))

-- where each step comes to its end, some due steps come to theirs
module _ {S : Type 0} (moving : Moving S)
    (next_comes : (number : ℕ) (step : Step) (s next : S) → moving.next number step s next → moving.comes number step s next) where
  pub ends_reach : (number : ℕ) (step : Step) (steps : List Step) (from to : Standing S) → Goes moving number (step ∷ steps) from to → HealingReaches moving number from to.at
  ends_reach number step [] from to g =
      let none : number ≡ number + 0 = omega arith in
      record {
        steps = [];
        stand = from;
        goes = refl;
        step = step;
        due = g.1;
        comes =
            subst (λ n. moving.comes n step from.at to.at) none
            (subst (λ (k : Standing S). moving.comes number step from.at k.at) (sym g.3) (next_comes number step from.at g.0 g.2));
      }
  ends_reach number step (more ∷ steps) from to g =
      let h = ends_reach (number + 1) more steps (standing_after moving from g.0) to g.3 in
      let moved : number + 1 + length h.steps ≡ number + suc (length h.steps) = omega arith in
      record {
        steps = step ∷ h.steps;
        stand = h.stand;
        goes = (g.0, g.1, g.2, h.goes);
        step = h.step;
        due = h.due;
        comes = subst (λ n. moving.comes n h.step h.stand.at to.at) moved h.comes;
      }
