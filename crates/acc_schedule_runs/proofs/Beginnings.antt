-- Lists of which one begins with another. The newest item stands first, so the older list is the end.
use Rattle.std.proofs.Common.{◌≡◌, ◌≤◌, List, [], ◌∷◌, ◌++◌, length, refl, sym, ◌∙◌, ap, arith}
use Rattle.std.proofs.lemmas.List.{append_assoc, length-append}
use Rattle.acc_message.specs.declared.item.Item.{Item}
use Rattle.acc_schedule_runs.specs.Fronts.{Begins}

pub begins_itself : (items : List Item) → Begins items items
begins_itself items = record { later = []; items_are = refl }

pub begins_same : (one other : List Item) → one ≡ other → Begins one other
begins_same one other same = record { later = []; items_are = sym same }

pub begins_longer : (item : Item) (items : List Item) → Begins items (item ∷ items)
begins_longer item items = record { later = item ∷ []; items_are = refl }

pub begins_chain : (one two three : List Item) → Begins one two → Begins two three → Begins one three
begins_chain one two three a b =
    record {
      later = b.later ++ a.later;
      items_are = b.items_are ∙ ap (λ items. b.later ++ items) a.items_are ∙ sym (append_assoc b.later a.later one);
    }

pub begins_shorter : (one other : List Item) → Begins one other → length one ≤ length other
begins_shorter one other a = omega (arith, ap length a.items_are, length-append a.later one)

-- two ends of one list
of_one : (a b one other : List Item) → a ++ one ≡ b ++ other → length one ≤ length other → Begins one other
of_one a [] one other same less = record { later = a; items_are = sym same }
of_one [] (y ∷ b) one other same less = absurd (omega (arith, ap length same, length-append b other))
of_one (x ∷ a) (y ∷ b) one other same less = of_one a b one other (rest same) less
  where
    rest : x ∷ a ++ one ≡ y ∷ b ++ other → a ++ one ≡ b ++ other
    rest h = cc

pub both_begin : (one other whole : List Item) → Begins one whole → Begins other whole → length one ≤ length other → Begins one other
both_begin one other whole a b less = of_one a.later b.later one other (sym a.items_are ∙ b.items_are) less

-- one that isn't shorter is the whole
pub begins_all : (one other : List Item) → Begins one other → length other ≤ length one → one ≡ other
begins_all one other a long = by a.later a.items_are
  where
    by : (later : List Item) → other ≡ later ++ one → one ≡ other
    by [] is = sym is
    by (item ∷ later) is = absurd (omega (arith, ap length is, length-append later one))
