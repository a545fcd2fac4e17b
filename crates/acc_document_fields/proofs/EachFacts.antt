-- Loops that test each element of a list by a rule, and read what it says.
use Rattle.std.proofs.Common.{◌≡◌, ℕ, ◌+◌, ◌<◌, ◌≤◌, List, [], ◌∷◌, ◌++◌, length, take, drop, map, get_or, None, refl, sym, ap, subst, ◌∙◌, arith, add-one, drop-cons}
use Rattle.std.proofs.lemmas.List.{take_all, take_more, map-append, length-map, drop_all, get_or-map}
use Rattle.serde_json.specs.Data.{Data}
use Rattle.serde_json.specs.View.{view}
use Rattle.serde_json.specs.declared.value.Value.{Value}
use Rattle.acc_schedule.specs.declared.error.PlanError.{PlanError}
use Rattle.acc_schedule.specs.declared.error.PlanError.TheVariants.{Bad, OutOfMemory}
use Rattle.acc_base.specs.Faults.{◌then◌, each}
use Rattle.acc_base.proofs.Faults.{both_none}
use Rattle.acc_schedule.specs.Faults.{Fault, IsFault}

-- a fault after a rule that holds
pub behind : (first second : Fault) (e : PlanError) → first ≡ None → IsFault second e → IsFault (first then second) e
behind first second e holds h = subst (λ (f : Fault). IsFault (f then second) e) (sym holds) h

-- a fault before any other
pub before : (first second : Fault) (e : PlanError) → IsFault first e → IsFault (first then second) e
before first second OutOfMemory h = tt
before first second (Bad kind path detail at) h = ap (λ f. f then second) h

-- the first i elements break no rule, and say this
pub record AreRead {X : Type 0} (rule : ℕ → Data → Fault) (value : Data → X) (vs : List Value) (i : ℕ) (out : List X) : Type 0 where
  pub rest : each rule i (drop i (map view vs)) ≡ each rule 0 (map view vs)
  pub said : out ≡ map value (take i (map view vs))

pub none_read : {X : Type 0} (rule : ℕ → Data → Fault) (value : Data → X) (vs : List Value) (out : List X) → out ≡ [] → AreRead rule value vs 0 out
none_read rule value vs out none = record { rest = refl; said = none }

-- the element at this place
viewed : (vs : List Value) (i : ℕ) (v : Value) → i < length vs → v ≡ get_or vs i v → get_or (map view vs) i (view v) ≡ view v
viewed vs i v within at = get_or-map view vs i v (view v) within ∙ ap view (sym at)

within_view : (vs : List Value) (i : ℕ) → i < length vs → i < length (map view vs)
within_view vs i within = omega (arith, length-map vs view)

cut : (vs : List Value) (i : ℕ) (v : Value) → i < length vs → v ≡ get_or vs i v → drop i (map view vs) ≡ view v ∷ drop (i + 1) (map view vs)
cut vs i v within at =
    (rw add-one (drop-cons (map view vs) i (view v) (within_view vs i within))) ∙ ap (λ d. d ∷ drop (i + 1) (map view vs)) (viewed vs i v within at)

module _ {X : Type 0} where
  pub one_more : (rule : ℕ → Data → Fault) (value : Data → X) (vs : List Value) (i : ℕ) (out out' : List X) (v : Value) (x : X) → AreRead rule value vs i out → i < length vs → v ≡ get_or vs i v
      → rule i (view v) ≡ None → x ≡ value (view v) → out' ≡ out ++ x ∷ [] → AreRead rule value vs (i + 1) out'
  one_more rule value vs i out out' v x so_far within at holds says pushed = record {
    rest = ap (λ f. f then each rule (i + 1) (drop (i + 1) (map view vs))) (sym holds) ∙ ap (each rule i) (sym (cut vs i v within at)) ∙ so_far.rest;
    said =
        pushed ∙ (λ j. so_far.said j ++ says j ∷ []) ∙ sym (map-append value (take i (map view vs)) (view v ∷ []))
        ∙ ap (map value) (ap (λ d. take i (map view vs) ++ d ∷ []) (sym (viewed vs i v within at)) ∙ sym (take_more (map view vs) i (view v) (within_view vs i within)));
  }

  -- an element that breaks its rule
  one_fails : (rule : ℕ → Data → Fault) (value : Data → X) (vs : List Value) (i : ℕ) (out : List X) (v : Value) (e : PlanError) → AreRead rule value vs i out → i < length vs → v ≡ get_or vs i v
      → IsFault (rule i (view v)) e → IsFault (each rule 0 (map view vs)) e
  one_fails rule value vs i out v e so_far within at h =
      subst (λ (f : Fault). IsFault f e) (ap (each rule i) (sym (cut vs i v within at)) ∙ so_far.rest) (before (rule i (view v)) (each rule (i + 1) (drop (i + 1) (map view vs))) e h)

  -- all of them
  all_read : (rule : ℕ → Data → Fault) (value : Data → X) (vs : List Value) (i : ℕ) (out : List X) → AreRead rule value vs i out → length vs ≤ i
      → (each rule 0 (map view vs) ≡ None) × (out ≡ map value (map view vs))
  all_read rule value vs i out are long = (
    sym are.rest ∙ ap (each rule i) (drop_all i (map view vs) (omega (arith, length-map vs view))),
    are.said ∙ ap (map value) (take_all i (map view vs) (omega (arith, length-map vs view))),
  )

  -- a list whose own rule holds, and an element that breaks its rule
  pub element_fails : (first : Fault) (rule : ℕ → Data → Fault) (value : Data → X) (vs : List Value) (ds : List Data) (i : ℕ) (out : List X) (v : Value) (e : PlanError) → first ≡ None → map view vs ≡ ds
      → AreRead rule value vs i out → i < length vs → v ≡ get_or vs i v → IsFault (rule i (view v)) e → IsFault (first then each rule 0 ds) e
  element_fails first rule value vs ds i out v e holds are so_far within at h =
      behind first (each rule 0 ds) e holds (subst (λ (xs : List Data). IsFault (each rule 0 xs) e) are (one_fails rule value vs i out v e so_far within at h))

  -- and where each keeps it
  pub list_read : (first : Fault) (rule : ℕ → Data → Fault) (value : Data → X) (vs : List Value) (ds : List Data) (i : ℕ) (out : List X) → first ≡ None → map view vs ≡ ds
      → AreRead rule value vs i out → length vs ≤ i → ((first then each rule 0 ds) ≡ None) × (out ≡ map value ds)
  list_read first rule value vs ds i out holds are all long =
      let read = all_read rule value vs i out all long in (
        both_none first (each rule 0 ds) holds (ap (each rule 0) (sym are) ∙ read.0),
        read.1 ∙ ap (map value) are,
      )

  -- no more values than elements
  pub read_few : (value : Data → X) (vs : List Value) (ds : List Data) (out : List X) (most : ℕ) → map view vs ≡ ds → out ≡ map value ds → length vs ≤ most → length out ≤ most
  read_few value vs ds out most are said few =
      let long : length out ≡ length vs = ap length said ∙ length-map ds value ∙ ap length (sym are) ∙ length-map vs view in
      omega (arith, long)
