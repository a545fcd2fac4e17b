-- What a body that breaks no rule keeps to.
use Rattle.std.proofs.Common.{not, List, [], ◌∷◌, nat_le, ℕ, ◌≡◌, ◌≤◌, Bool, true, false, ◌||◌, ◌&&◌, cond, Option, Some, None, length, refl, sym, ◌∙◌, arith, IsTrue, is_none}
use Rattle.std.proofs.lemmas.Bool.Decides.{nat_tests}
use Rattle.acc_txn.specs.declared.parts.BodyParts.{BodyParts}
use Rattle.acc_txn.specs.declared.error.BodyError.{BodyError}
use Rattle.acc_txn.specs.declared.error.BodyError.TheVariants.{TooMany, UnboundName, TwiceBound, NoKey, BadWord, BadShape, BadText, OutOfMemory}
use Rattle.std.specs.List.{list_any, list_all}
use Rattle.std.specs.Cmp.{first_so, second_so}
use Rattle.acc_txn.specs.Words.{is_name, is_key, is_key_text}
use Rattle.acc_txn.specs.Uses.{selected_keys, updated_key, footprint_of}
use Rattle.acc_txn.specs.Rules.{is_many, selected_names, is_long, some_expression, has_too_many, has_unbound_name, has_name_twice, has_no_key, has_bad_name, has_bad_key, has_bad_shape, mentions_bad_text, refusal_of, IsBody, IsRefused}

not_both : {X A : Type 0} {x : X} {o : Option X} → o ≡ None → o ≡ Some x → A
not_both none some = let clash = sym none ∙ some in cc

-- parts that break no rule are refused for want of memory alone
pub refused_for_memory : (parts : BodyParts) (error : BodyError) → refusal_of parts ≡ None → IsRefused parts error → error ≡ OutOfMemory
refused_for_memory parts TooMany none refused = not_both none refused
refused_for_memory parts UnboundName none refused = not_both none refused
refused_for_memory parts TwiceBound none refused = not_both none refused
refused_for_memory parts NoKey none refused = not_both none refused
refused_for_memory parts BadWord none refused = not_both none refused
refused_for_memory parts BadShape none refused = not_both none refused
refused_for_memory parts BadText none refused = not_both none refused
refused_for_memory parts OutOfMemory none refused = refl

none_is : {X : Type 0} (o : Option X) → IsTrue (is_none o) → o ≡ None
none_is None h = refl
none_is (Some x) h = cc

pub IsBody-none : (parts : BodyParts) → IsBody parts → refusal_of parts ≡ None
IsBody-none parts keeps = none_is (refusal_of parts) keeps

-- each rule is kept
pub record KeepsRules (parts : BodyParts) : Type 0 where
  pub few : has_too_many parts ≡ false
  pub bound : has_unbound_name parts ≡ false
  pub once : has_name_twice parts.lets ≡ false
  pub keyed : has_no_key parts ≡ false
  pub worded : (has_bad_name parts.lets || has_bad_key parts) ≡ false
  pub shaped : has_bad_shape parts ≡ false
  pub texts : some_expression mentions_bad_text parts ≡ false

passes : (b : Bool) → not b ≡ false → b ≡ true
passes true h = refl
passes false h = cc

passed : {X : Type 0} (b : Bool) (x : X) (rest : Option X) → IsTrue (is_none (cond b (Some x) rest)) → (b ≡ false) × IsTrue (is_none rest)
passed true x rest h = cc
passed false x rest h = (refl, h)

pub IsBody-keeps : (parts : BodyParts) → IsBody parts → KeepsRules parts
IsBody-keeps parts keeps =
    let a = passed (has_too_many parts) TooMany _ keeps in
    let b = passed (has_unbound_name parts) UnboundName _ a.1 in
    let c = passed (has_name_twice parts.lets) TwiceBound _ b.1 in
    let d = passed (has_no_key parts) NoKey _ c.1 in
    let e = passed (has_bad_name parts.lets || has_bad_key parts) BadWord _ d.1 in
    let f = passed (has_bad_shape parts) BadShape _ e.1 in
    let g = passed (some_expression mentions_bad_text parts) BadText None f.1 in
    record { few = a.0; bound = b.0; once = c.0; keyed = d.0; worded = e.0; shaped = f.0; texts = g.0 }

-- a body's lists are short
pub record IsShort (parts : BodyParts) : Type 0 where
  pub lets : length parts.lets ≤ 16
  pub names : length (selected_names parts.select) ≤ 16
  pub guards : length parts.guards ≤ 16
  pub updates : length parts.updates ≤ 16
  pub sums : some_expression is_long parts ≡ false
  pub keys : length (footprint_of parts) ≤ 16

neither : (a b : Bool) → (a || b) ≡ false → (a ≡ false) × (b ≡ false)
neither true b h = cc
neither false b h = (refl, h)

few : (n : ℕ) → is_many n ≡ false → n ≤ 16
few n h = grind (arith, nat_tests)

pub IsBody-short : (parts : BodyParts) → IsBody parts → IsShort parts
IsBody-short parts keeps =
    let f = neither _ _ (IsBody-keeps parts keeps).few in
    let e = neither _ _ f.0 in
    let d = neither _ _ e.0 in
    let c = neither _ _ d.0 in
    let b = neither _ _ c.0 in
    record { lets = few _ b.0; names = few _ b.1; guards = few _ c.1; updates = few _ d.1; sums = e.1; keys = few _ f.1 }

-- a test that no element fails passes everywhere
all_pass : {X : Type 0} (p : X → Bool) (xs : List X) → list_any (λ x. not (p x)) xs ≡ false → list_all p xs ≡ true
all_pass p [] none = refl
all_pass p (x ∷ xs) none =
    let parts = neither _ _ none in
    λ i. passes (p x) parts.0 i && all_pass p xs parts.1 i

-- the names of a body are names, and its keys are keys
pub record HasWords (parts : BodyParts) : Type 0 where
  pub names : list_all (λ l. is_name l.name) parts.lets ≡ true
  pub let_keys : list_all (λ l. is_key l.key) parts.lets ≡ true
  pub selected : list_all is_key (selected_keys parts.select) ≡ true
  pub updated : list_all (λ update. is_key (updated_key update)) parts.updates ≡ true

pub IsBody-words : (parts : BodyParts) → IsBody parts → HasWords parts
IsBody-words parts keeps =
    let named = neither _ _ (IsBody-keeps parts keeps).worded in
    let a = neither _ _ named.1 in
    let b = neither _ _ a.0 in
    record {
      names = all_pass (λ l. is_name l.name) parts.lets named.0;
      let_keys = all_pass (λ l. is_key l.key) parts.lets b.0;
      selected = all_pass is_key (selected_keys parts.select) b.1;
      updated = all_pass (λ update. is_key (updated_key update)) parts.updates a.1;
    }

at_most : (n m : ℕ) → nat_le n m ≡ true → n ≤ m
at_most n m h = grind (arith, nat_tests)

-- a name has at most 32 bytes
pub is_name-short : (word : List ℕ) → is_name word ≡ true → length word ≤ 32
is_name-short word h = at_most _ _ (first_so _ _ (first_so _ _ h))

-- the text of a key has 1 to 64 bytes
pub is_key_text-length : (text : List ℕ) → is_key_text text ≡ true → (1 ≤ length text) × (length text ≤ 64)
is_key_text-length text h =
    let lengths = first_so _ _ h in (at_most _ _ (first_so _ _ lengths), at_most _ _ (second_so _ _ lengths))
