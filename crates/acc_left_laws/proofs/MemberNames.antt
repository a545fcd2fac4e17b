-- The members that journals are written as: each names its actor and no other, and says its journal.
use Rattle.std.proofs.Common.{◌≡◌, ℕ, zero, suc, ◌+◌, ◌*◌, ◌/◌, ◌%◌, ◌<◌, ◌≤◌, Bool, true, false, cond, List, [], ◌∷◌, length, find, Option, Some, None, Result, is_some, unwrap_or, refl, sym, ap, subst, ◌∙◌, ◌⊎◌, inl, inr, ⊎_elim, arith}
use Rattle.std.specs.Prelude.{◌==◌, slice_index}
use Rattle.std.specs.List.{list_all, range_with_len}
use Rattle.std.specs.Result.{result_unwrap_or}
use Rattle.std.specs.Str.{bytes_eq}
use Rattle.std.proofs.lemmas.Bool.{and_from, and_parts, eq-eqb, true≢false}
use Rattle.std.proofs.lemmas.Slice.Eq.{bytes_eq-Decides}
use Rattle.hex.specs.Hex.{encode_lower, encode_with, lower_digits, IsBytes}
use Rattle.hex.specs.declared.error.FromHexError.{FromHexError}
use Rattle.hex.proofs.HexLemmas.{decode_of-encode_lower, length-encode_with}
use Rattle.serde_json.specs.Data.{string, Data}
use Rattle.acc_base.proofs.Faults.{both_none, must_kept}
use Rattle.acc_stamp.specs.declared.actors.Actor.{Actor}
use Rattle.acc_stamp.specs.Actor.{actor_of}
use Rattle.acc_topology.specs.Layout.{shard_at, IsLayout, Layout}
use Rattle.acc_topology.specs.Sets.{is_among}
use Rattle.acc_actor_laws.proofs.OpeningFacts.{some_is}
use Rattle.acc_safety.specs.Places.{IsIn, First, Later}
use Rattle.acc_safety.proofs.PlaceOrder.{none_is_in, IsIn-cases, IsIn-filter, IsIn-flat_map, IsIn-map}
use Rattle.acc_report_line.specs.Forms.{IsActor}
use Rattle.acc_report_reader.specs.Fields.{actor_in}
use Rattle.acc_report_reader.proofs.Digits.{actor-of}
use Rattle.acc_schedule.specs.Actors.{actor_named, actor_text}
use Rattle.acc_left.specs.declared.image.Image.{Image}
use Rattle.acc_left.specs.Digits.{bytes_said, is_digits, is_lower_digit}
use Rattle.acc_left.specs.Leaves.{actors_rising, stores_at}
use Rattle.acc_left.specs.Reading.{image_said, member_fault}
use Rattle.acc_left_laws.proofs.TurnsBack.{in_range, InRange}

-- ---- digits

all_at : (p : ℕ → Bool) (xs : List ℕ) (k : ℕ) → list_all p xs ≡ true → k < length xs → p (slice_index xs k) ≡ true
all_at p [] k all lt = absurd (omega (arith, lt))
all_at p (x ∷ xs) zero all lt = (and_parts (p x) (list_all p xs) all).0
all_at p (x ∷ xs) (suc k) all lt = all_at p xs k (and_parts (p x) (list_all p xs) all).1 (omega (arith, lt))

digit_at : (k : ℕ) → k < 16 → is_lower_digit (slice_index lower_digits k) ≡ true
digit_at k lt = all_at is_lower_digit lower_digits k refl lt

are_digits : (bytes : List ℕ) → IsBytes bytes → list_all is_lower_digit (encode_with lower_digits bytes) ≡ true
unfolding encode_with
are_digits [] are = refl
are_digits (b ∷ bytes) are =
    let small : b < 256 = are 0 in
    and_from (is_lower_digit (slice_index lower_digits (b / 16))) _ (digit_at (b / 16) (omega (arith, small)))
    (and_from (is_lower_digit (slice_index lower_digits (b % 16))) _ (digit_at (b % 16) (omega (arith, small))) (are_digits bytes (λ i. are (suc i))))

hex_is_digits : (bytes : List ℕ) → IsBytes bytes → is_digits (encode_lower bytes) ≡ true
hex_is_digits bytes are =
    let long : length (encode_with lower_digits bytes) ≡ 2 * length bytes = length-encode_with lower_digits bytes in
    and_from (length (encode_lower bytes) % 2 == 0) (list_all is_lower_digit (encode_lower bytes)) (eq-eqb (length (encode_lower bytes) % 2) 0 (omega (arith, long))) (are_digits bytes are)

said_again : (bytes : List ℕ) → IsBytes bytes → bytes_said (encode_lower bytes) ≡ bytes
said_again bytes are = ap (λ (r : Result (List ℕ) FromHexError). result_unwrap_or r []) (decode_of-encode_lower bytes are)

-- ---- names

module _ (layout : Layout) (is : IsLayout layout) where
  node_form : (node : ℕ) → IsIn node layout.nodes → (1 ≤ node) × (node ≤ 15)
  node_form node there =
      let kept = IsIn-filter (is_among layout.nodes) node (range_with_len 1 15) (subst (IsIn node) is.nodes there) in
      let range : InRange 1 15 node = in_range 1 15 node kept.0 in
      let least = range.least in
      let below = range.below in
      (least, omega (arith, below))

  form : (node shard : ℕ) → 1 ≤ node → node ≤ 15 → shard ≤ 15 → IsActor (actor_of node shard)
  form node shard least most few =
      let n : (node * 64 + shard) / 64 ≡ node = omega (arith, few) in
      let s : (node * 64 + shard) % 64 ≡ shard = omega (arith, few) in
      (omega (arith, n, least), omega (arith, n, most), omega (arith, s, few))

  store_form : (node : ℕ) (a : Actor) → 1 ≤ node → node ≤ 15 → IsIn a (stores_at layout node) → IsActor a
  store_form node a least most there =
      let from = IsIn-map (actor_of node) a _ there in
      let kept = IsIn-filter (λ (shard : ℕ). is_among (shard_at layout shard).replicas node) from.source (range_with_len 1 (length layout.shards)) from.there in
      let range : InRange 1 (length layout.shards) from.source = in_range 1 (length layout.shards) from.source kept.0 in
      let below = range.below in
      let few = is.few_shards in
      subst IsActor (sym from.is) (form node from.source least most (omega (arith, below, few)))

  pub formed : (a : Actor) → IsIn a (actors_rising layout) → IsActor a
  formed a there =
      let part = IsIn-flat_map (λ (node : ℕ). actor_of node 0 ∷ stores_at layout node) a layout.nodes there in
      let node = node_form part.source part.there in
      ⊎_elim (λ same. subst IsActor (sym same) (form part.source 0 node.0 node.1 (omega arith))) (λ store. store_form part.source a node.0 node.1 store)
      (IsIn-cases a (actor_of part.source 0) (stores_at layout part.source) part.within)

  read_again : (a : Actor) → IsIn a (actors_rising layout) → actor_in (actor_text a) ≡ Some a
  read_again a there = actor-of a (formed a there)

  -- no two actors print alike
  pub text_once : (a b : Actor) → IsIn a (actors_rising layout) → IsIn b (actors_rising layout) → actor_text a ≡ actor_text b → a ≡ b
  text_once a b first second same = some_is a b (sym (read_again a first) ∙ ap actor_in same ∙ read_again b second)

  found : (us : List Actor) (a : Actor) → ((b : Actor) → IsIn b us → IsIn b (actors_rising layout)) → IsIn a us
      → find (λ (b : Actor). bytes_eq (actor_text a) (actor_text b)) us ≡ Some a
  found [] a known there = absurd (none_is_in a there)
  found (b ∷ us) a known there =
      by (bytes_eq (actor_text a) (actor_text b)) refl (IsIn-cases a b us there) (found us a (λ c within. known c (Later c b us within)))
    where
      by : (same : Bool) → bytes_eq (actor_text a) (actor_text b) ≡ same → (a ≡ b) ⊎ IsIn a us
          → (IsIn a us → find (λ (c : Actor). bytes_eq (actor_text a) (actor_text c)) us ≡ Some a)
          → cond same (Some b) (find (λ (c : Actor). bytes_eq (actor_text a) (actor_text c)) us) ≡ Some a
      by true e at rest = ap Some (sym (text_once a b (known a there) (known b (First b us)) ((bytes_eq-Decides (actor_text a) (actor_text b)).0 e)))
      by false e (inl equal) rest = absurd (true≢false (sym ((bytes_eq-Decides (actor_text a) (actor_text b)).1 (ap actor_text equal)) ∙ e))
      by false e (inr later) rest = rest later

  pub named : (a : Actor) → IsIn a (actors_rising layout) → actor_named (actors_rising layout) (actor_text a) ≡ Some a
  named a there = found (actors_rising layout) a (λ b within. within) there

  -- ---- members

  abbrev pub member_of : Image → List ℕ × Data
  member_of image = (actor_text image.actor, string (encode_lower image.bytes))

  -- a journal of an actor of the cluster, which is bytes
  pub record IsKnown (image : Image) : Type 0 where
    pub actor : IsIn image.actor (actors_rising layout)
    pub bytes : IsBytes image.bytes

  pub member_is_fine : (image : Image) → IsKnown image → member_fault layout (member_of image) ≡ None
  member_is_fine image known =
      both_none _ _ (must_kept _ _ (ap is_some (named image.actor known.actor))) (must_kept _ _ (and_from true (is_digits (encode_lower image.bytes)) refl (hex_is_digits image.bytes known.bytes)))

  pub member_says : (image : Image) → IsKnown image → image_said layout (member_of image) ≡ image
  member_says image known =
      let actor : unwrap_or (actor_named (actors_rising layout) (actor_text image.actor)) (actor_of 0 0) ≡ image.actor =
      ap (λ (o : Option Actor). unwrap_or o (actor_of 0 0)) (named image.actor known.actor) in
      let bytes : bytes_said (encode_lower image.bytes) ≡ image.bytes = said_again image.bytes known.bytes in
      λ i. record { actor = actor i; bytes = bytes i }
