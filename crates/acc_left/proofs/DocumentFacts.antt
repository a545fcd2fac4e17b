-- Journals that are put into an object, the last of them first, and that object in a document.
use Rattle.std.proofs.Common.{◌≡◌, ℕ, ◌+◌, ◌-◌, ◌<◌, ◌≤◌, false, List, [], ◌∷◌, ◌++◌, length, drop, get_or, BTreeMap, Global, Some, String, Vec, string_bytes, string_cmp, sym, ap, subst, ◌∙◌, arith, codes, rules}
use Rattle.std.specs.Prelude.{IsUtf8}
use Rattle.std.specs.BTreeMap.{insert_entry}
use Rattle.std.proofs.lemmas.List.{drop_all, drop_more}
use Rattle.hex.specs.Hex.{encode_lower}
use Rattle.json.specs.Lex.{tokens}
use Rattle.json.specs.Print.{print}
use Rattle.serde_json.specs.Data.{Data, Members, array, depth, no_items, object, put, string}
use Rattle.serde_json.specs.Read.{max_depth, read}
use Rattle.serde_json.specs.View.{view, items_view, members_view}
use Rattle.serde_json.specs.Written.{compact_text, has_float, IsInOrder}
use Rattle.serde_json.specs.declared.value.Value.{Value, Array, Object, String as Text, the_lemmas}
use Rattle.serde_json.proofs.Views.{Entry, members_view-insert_entry, view-Array, view-Object}
use Rattle.acc_schedule.specs.Actors.{actor_text}
use Rattle.acc_left.specs.declared.image.Image.{Image}
use Rattle.acc_left.specs.Documents.{journal_members, without_steps, IsLine}

-- no journal is put yet
pub put_none : (images : List Image) (es : List Entry) → es ≡ [] → members_view es ≡ journal_members (drop (length images - 0) images)
put_none images es none = ap members_view none ∙ ap journal_members (sym (drop_all (length images - 0) images (omega arith)))

pub put_image : (images : List Image) (after : ℕ) (image : Image) (rest : Members) → after < length images → image ≡ get_or images (length images - 1 - after) image
    → rest ≡ journal_members (drop (length images - after) images)
    → put (actor_text image.actor) (string (encode_lower image.bytes)) rest ≡ journal_members (drop (length images - (after + 1)) images)
put_image images after image rest lt is so_far =
    let place : length images - 1 - after ≡ length images - (after + 1) = omega arith in
    let next : length images - (after + 1) + 1 ≡ length images - after = omega (arith, lt) in
    let within : length images - (after + 1) < length images = omega (arith, lt) in
    let one : image ≡ get_or images (length images - (after + 1)) image = is ∙ ap (λ k. get_or images k image) place in
    ap (put (actor_text image.actor) (string (encode_lower image.bytes))) so_far
    ∙ ap journal_members
    (sym
    (drop_more images (length images - (after + 1)) image within
    ∙ ap (λ (i : Image). i ∷ drop (length images - (after + 1) + 1) images) (sym one)
    ∙ ap (λ k. image ∷ drop k images) next))

view-Text : (s : String Global) → view (Text s) ≡ string (string_bytes s)
view-Text s = search (rules, the_lemmas)

-- one journal more
pub insert_image : (images : List Image) (after : ℕ) (image : Image) (es es' : List Entry) (name digits : String Global) → after < length images → image ≡ get_or images (length images - 1 - after) image
    → members_view es ≡ journal_members (drop (length images - after) images) → string_bytes name ≡ actor_text image.actor → string_bytes digits ≡ encode_lower image.bytes
    → es' ≡ insert_entry string_cmp es name (Text digits) → members_view es' ≡ journal_members (drop (length images - (after + 1)) images)
insert_image images after image es es' name digits lt is so_far named said inserted =
    ap members_view inserted ∙ members_view-insert_entry es name (Text digits)
    ∙ ap (λ d. put (string_bytes name) d (members_view es)) (view-Text digits)
    ∙ (λ k. put (named k) (string (said k)) (members_view es))
    ∙ put_image images after image (members_view es) lt is so_far

-- all journals
pub put_all : (images : List Image) (after : ℕ) (es : List Entry) → length images ≤ after → members_view es ≡ journal_members (drop (length images - after) images)
    → members_view es ≡ journal_members images
put_all images after es all so_far =
    let none : length images - after ≡ 0 = omega (arith, all) in
    so_far ∙ ap (λ n. journal_members (drop n images)) none

-- ---- the document

-- the fields of the root with no step and with these journals
pub fields_put : (fields between after journals : BTreeMap (String Global) Value) (none : Vec Value Global) (schedule name : String Global) → string_bytes schedule ≡ codes "schedule"
    → string_bytes name ≡ codes "journals" → none.items ≡ [] → between.entries ≡ insert_entry string_cmp fields.entries schedule (Array none)
    → after.entries ≡ insert_entry string_cmp between.entries name (Object journals) → view (Object after) ≡ without_steps (view (Object fields)) (members_view journals.entries)
fields_put fields between after journals none schedule name first_name second_name empty first second =
    let no_steps : view (Array none) ≡ array no_items = view-Array none ∙ ap (λ (l : List Value). array (items_view l)) empty in
    let emptied : members_view between.entries ≡ put (codes "schedule") (array no_items) (members_view fields.entries) =
    ap members_view first ∙ members_view-insert_entry fields.entries schedule (Array none) ∙ (λ k. put (first_name k) (no_steps k) (members_view fields.entries)) in
    view-Object after
    ∙ ap object (ap members_view second ∙ members_view-insert_entry between.entries name (Object journals) ∙ (λ k. put (second_name k) (view-Object journals k) (emptied k)))
    ∙ sym (ap (λ (d : Data). without_steps d (members_view journals.entries)) (view-Object fields))

-- the text of data, and a line feed
pub is_line : (d e : Data) (json text : List ℕ) → e ≡ d → IsUtf8 json → text ≡ json ++ 10 ∷ [] → (has_float e ≡ false → json ≡ compact_text e) → json ≡ print (tokens json) → IsInOrder json e
    → (depth e ≤ max_depth → read json ≡ Some e) → IsLine d text
is_line d e json text same utf8 line exact compact order reads =
    subst (λ (x : Data). IsLine x text) same (record { json = json; utf8 = utf8; line = line; exact = exact; compact = compact; order = order; reads = reads })
