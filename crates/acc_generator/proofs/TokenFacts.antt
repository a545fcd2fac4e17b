-- The tokens of a list of data.
use Rattle.std.proofs.Common.{◌≡◌, List, [], ◌∷◌, ◌++◌, flat_map, refl, sym, ap, ◌∙◌, append_assoc, append-nil}
use Rattle.std.proofs.lemmas.Grind.{flat_map-append}
use Rattle.json.specs.Token.{Token, begin_array, end_array}
use Rattle.json.specs.Tree.{items_tokens}
use Rattle.serde_json.specs.Data.{Data}
use Rattle.serde_json.specs.View.{items_of}
use Rattle.serde_json.specs.Written.{items_outline}
use Rattle.acc_generator.specs.Document.{list}
use Rattle.acc_generator.specs.Tokens.{data_tokens}

items_listed : (ds : List Data) → items_tokens (items_outline (items_of ds)) ≡ flat_map data_tokens ds ++ end_array ∷ []
items_listed [] = refl
items_listed (d ∷ ds) = ap (λ ts. data_tokens d ++ ts) (items_listed ds) ∙ sym (append_assoc (data_tokens d) (flat_map data_tokens ds) (end_array ∷ []))

-- between the brackets stand those of each
pub list_listed : (ds : List Data) → data_tokens (list ds) ≡ begin_array ∷ (flat_map data_tokens ds ++ end_array ∷ [])
list_listed ds = ap (λ ts. begin_array ∷ ts) (items_listed ds)

-- a bracket, what stands after it, one part more and the other bracket
pub closed : (before opened filled end : List Token) (ds : List Data) → opened ≡ before ++ begin_array ∷ [] → filled ≡ opened ++ flat_map data_tokens ds →
    end ≡ filled ++ end_array ∷ [] → end ≡ before ++ data_tokens (list ds)
closed before opened filled end ds o f c =
    c ∙ ap (λ ts. ts ++ end_array ∷ []) (f ∙ ap (λ ts. ts ++ flat_map data_tokens ds) o)
    ∙ append_assoc (before ++ begin_array ∷ []) (flat_map data_tokens ds) (end_array ∷ [])
    ∙ append_assoc before (begin_array ∷ []) (flat_map data_tokens ds ++ end_array ∷ [])
    ∙ ap (λ ts. before ++ ts) (sym (list_listed ds))

-- one part more
pub grown : (start filled more : List Token) (ds es all : List Data) → filled ≡ start ++ flat_map data_tokens ds → more ≡ filled ++ flat_map data_tokens es →
    all ≡ ds ++ es → more ≡ start ++ flat_map data_tokens all
grown start filled more ds es all f m a =
    m ∙ ap (λ ts. ts ++ flat_map data_tokens es) f
    ∙ append_assoc start (flat_map data_tokens ds) (flat_map data_tokens es)
    ∙ ap (λ ts. start ++ ts) (sym (flat_map-append data_tokens ds es) ∙ sym (ap (flat_map data_tokens) a))

-- one of the data more
pub grown_by_one : (start filled more : List Token) (ds : List Data) (d : Data) (all : List Data) → filled ≡ start ++ flat_map data_tokens ds → more ≡ filled ++ data_tokens d →
    all ≡ ds ++ d ∷ [] → more ≡ start ++ flat_map data_tokens all
grown_by_one start filled more ds d all f m a = grown start filled more ds (d ∷ []) all f (m ∙ ap (λ ts. filled ++ ts) (sym (append-nil (data_tokens d)))) a

-- some tokens, and more after them
pub more : (start first second : List Token) {middle end : List Token} → middle ≡ start ++ first → end ≡ middle ++ second → end ≡ start ++ (first ++ second)
more start first second f s = s ∙ ap (λ ts. ts ++ second) f ∙ append_assoc start first second
