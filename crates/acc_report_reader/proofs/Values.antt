-- Replies are read exactly as they are written.
use Rattle.std.proofs.Common.{◌≡◌, ℕ, suc, ◌<◌, ◌≤◌, ◌-◌, ◌^◌, Bool, true, false, ◌&&◌, cond, List, [], ◌∷◌, ◌++◌, length, nat_le, nat_lt, Option, Some, None, pos, negsuc, refl, sym, ap, ◌∙◌, subst, append_assoc, arith}
use Rattle.std.specs.Prelude.{codes, decimal, option_map, flat_map, ◌==◌}
use Rattle.std.specs.Char.{is_ascii_digit}
use Rattle.std.specs.List.{list_all, join_by, AllByRecursion}
use Rattle.std.specs.Str.{bytes_eq}
use Rattle.std.proofs.lemmas.List.{append-nil}
use Rattle.std.proofs.lemmas.Bool.{and_parts, eqb-true}
use Rattle.std.proofs.lemmas.Bool.Decides.{nat_tests}
use Rattle.std.proofs.lemmas.Fmt.{decimal_nonempty}
use Rattle.acc_value.specs.declared.value.Value.{Value}
use Rattle.acc_value.specs.declared.value.Value.TheVariants.{Number as NumberValue, Text as TextValue}
use Rattle.acc_txn.specs.declared.outcome.Verdict.{Verdict}
use Rattle.acc_txn.specs.declared.outcome.Verdict.TheVariants.{Ok as Done, Skipped, Overflow}
use Rattle.acc_txn.specs.declared.outcome.Reply.{Reply}
use Rattle.acc_txn.specs.Words.{is_text_value}
use Rattle.acc_report_line.specs.Forms.{IsCell, MayHave, IsReply}
use Rattle.acc_report_line.specs.Texts.{verdict_text, quoted_byte, quoted, cell_text, values_text, reply_text}
use Rattle.acc_report_reader.specs.Gives.{guarded, with_found}
use Rattle.acc_report_reader.specs.Fields.{parts_at, piece_at, list_in, number_in, content_in, text_in, negative_in, positive_in, plain_in, cell_in, verdict_in, bare_in, valued_in, reply_in}
use Rattle.acc_report_reader.proofs.Options.{bind_some, guarded_some, map_some, map_map}
use Rattle.acc_report_reader.proofs.Slices.{parts-is, same_bytes}
use Rattle.acc_report_reader.proofs.Digits.{number-of, number-is, decimal_digits, decimal_lacks}
use Rattle.acc_report_reader.proofs.Names.{plain_cut, plain_uncut}
use Rattle.acc_report_reader.proofs.Pieces.{IsPiece, list-of, list-is, not_empty}

-- ---- texts in quotes

abbrev said_in : List ℕ → List ℕ
said_in text = flat_map quoted_byte text

content_step : (c : ℕ) (cs : List ℕ) (quote : Bool) → (c == 39) ≡ quote → content_in false (said_in cs ++ 39 ∷ []) ≡ Some cs
    → content_in false ((cond quote (39 ∷ 39 ∷ []) (c ∷ []) ++ said_in cs) ++ 39 ∷ []) ≡ Some (c ∷ cs)
content_step c cs true is e = ap (option_map (λ said. 39 ∷ said)) e ∙ ap (λ q. Some (q ∷ cs)) (sym (eqb-true c 39 is))
content_step c cs false is e = rw is (ap (option_map (λ said. c ∷ said)) e)

pub content-of : (text : List ℕ) → content_in false (said_in text ++ 39 ∷ []) ≡ Some text
content-of [] = refl
content-of (c ∷ cs) = content_step c cs (c == 39) refl (content-of cs)

-- the bytes that the flag stands for
abbrev front : Bool → List ℕ → List ℕ
front false bytes = bytes
front true bytes = 39 ∷ bytes

content_found : (waits : Bool) (c : ℕ) (cs text : List ℕ) (quote : Bool) → (c == 39) ≡ quote
    → ((waits : Bool) (text : List ℕ) → content_in waits cs ≡ Some text → said_in text ++ 39 ∷ [] ≡ front waits cs)
    → content_in waits (c ∷ cs) ≡ Some text → said_in text ++ 39 ∷ [] ≡ front waits (c ∷ cs)
content_found false c cs text true is later e =
    let f : content_in true cs ≡ Some text = sym (rw is refl) ∙ e in
    later true text f ∙ ap (λ q. q ∷ cs) (sym (eqb-true c 39 is))
content_found false c cs text false is later e =
    let f : option_map (λ said. c ∷ said) (content_in false cs) ≡ Some text = sym (rw is refl) ∙ e in
    let t = map_some (λ said. c ∷ said) (content_in false cs) text f in
    let plain : quoted_byte c ≡ c ∷ [] = rw is refl in
    ap (λ text. said_in text ++ 39 ∷ []) (sym t.2) ∙ ap (λ b. (b ++ said_in t.0) ++ 39 ∷ []) plain ∙ ap (λ l. c ∷ l) (later false t.0 t.1)
content_found true c cs text true is later e =
    let f : option_map (λ said. c ∷ said) (content_in false cs) ≡ Some text = sym (rw is refl) ∙ e in
    let t = map_some (λ said. c ∷ said) (content_in false cs) text f in
    let twice : quoted_byte c ≡ 39 ∷ 39 ∷ [] = rw is refl in
    ap (λ text. said_in text ++ 39 ∷ []) (sym t.2) ∙ ap (λ b. (b ++ said_in t.0) ++ 39 ∷ []) twice ∙ ap (λ l. 39 ∷ 39 ∷ l) (later false t.0 t.1)
    ∙ ap (λ q. 39 ∷ q ∷ cs) (sym (eqb-true c 39 is))
content_found true c cs text false is later e =
    let f : None ≡ Some text = sym (rw is refl) ∙ e in cc

pub content-is : (bytes : List ℕ) (waits : Bool) (text : List ℕ) → content_in waits bytes ≡ Some text → said_in text ++ 39 ∷ [] ≡ front waits bytes
content-is [] false text e = cc
content-is [] true text e = let none : [] ≡ text = cc in ap (λ text. said_in text ++ 39 ∷ []) (sym none)
content-is (c ∷ cs) waits text e = content_found waits c cs text (c == 39) refl (λ waits text. content-is cs waits text) e

-- ---- cells

digit_no : (c : ℕ) → is_ascii_digit c ≡ true → ((c == 39) ≡ false) × ((c == 45) ≡ false) × ((c == 110) ≡ false)
digit_no c h = (grind (arith, nat_tests), grind (arith, nat_tests), grind (arith, nat_tests))

plain_digits : (digits : List ℕ) → 0 < length digits → list_all is_ascii_digit digits ≡ true → cell_in digits ≡ positive_in digits
unfolding cell_in plain_in
plain_digits [] some h = absurd (omega arith)
plain_digits (c ∷ cs) some h =
    let p = and_parts (is_ascii_digit c) (list_all is_ascii_digit cs) h in
    let no = digit_no c p.0 in
    rw no.0 (rw no.1 (rw no.2 refl))

positive-of : (n : ℕ) → n < 2 ^ 63 → positive_in (decimal n) ≡ Some (Some (NumberValue (pos n)))
unfolding positive_in
positive-of n small =
    let fits : nat_lt n 9223372036854775808 ≡ true = grind arith in
    rw (number-of n (omega arith)) (rw fits refl)

negative-of : (n : ℕ) → n < 2 ^ 63 → negative_in (decimal (suc n)) ≡ Some (Some (NumberValue (negsuc n)))
unfolding negative_in
negative-of n small =
    let least : nat_le 1 (suc n) ≡ true = grind arith in
    let most : nat_le (suc n) 9223372036854775808 ≡ true = grind arith in
    let back : suc n - 1 ≡ n = omega arith in
    rw (number-of (suc n) (omega arith)) (rw least (rw most (ap (λ n. Some (Some (NumberValue (negsuc n)))) back)))

pub cell-of : (cell : Option Value) → IsCell cell → cell_in (cell_text cell) ≡ Some cell
unfolding cell_in plain_in text_in
cell-of None h = refl
cell-of (Some (NumberValue (pos n))) h = plain_digits (decimal n) (decimal_nonempty n (omega arith)) (decimal_digits n (omega arith)) ∙ positive-of n (omega arith)
cell-of (Some (NumberValue (negsuc n))) h = negative-of n (omega arith)
cell-of (Some (TextValue text)) h = rw (content-of text) (rw h refl)

positive-is : (bytes : List ℕ) (cell : Option Value) → positive_in bytes ≡ Some cell → IsCell cell × (cell_text cell ≡ bytes)
unfolding positive_in
positive-is bytes cell e =
    let n = bind_some (number_in bytes) _ cell e in
    let g = guarded_some (nat_lt n.0 9223372036854775808) (Some (NumberValue (pos n.0))) cell n.2 in
    let is = number-is bytes n.0 n.1 in
    let small : n.0 < 2 ^ 63 = grind (arith, g.0) in
    let P : Option Value → Type 0 = λ cell. IsCell cell × (cell_text cell ≡ bytes) in
    subst P g.1 (record { sfits = omega (arith, small) }, is.1)

negative-is : (bytes : List ℕ) (cell : Option Value) → negative_in bytes ≡ Some cell → IsCell cell × (cell_text cell ≡ 45 ∷ bytes)
unfolding negative_in
negative-is bytes cell e =
    let n = bind_some (number_in bytes) _ cell e in
    let g = guarded_some (nat_le 1 n.0 && nat_le n.0 9223372036854775808) (Some (NumberValue (negsuc (n.0 - 1)))) cell n.2 in
    let both = and_parts (nat_le 1 n.0) (nat_le n.0 9223372036854775808) g.0 in
    let is = number-is bytes n.0 n.1 in
    let low : 1 ≤ n.0 = grind (arith, both.0) in
    let high : n.0 ≤ 2 ^ 63 = grind (arith, both.1) in
    let small : n.0 - 1 < 2 ^ 63 = omega arith in
    let back : suc (n.0 - 1) ≡ n.0 = omega arith in
    let P : Option Value → Type 0 = λ cell. IsCell cell × (cell_text cell ≡ 45 ∷ bytes) in
    subst P g.1 (record { sfits = omega (arith, small) }, ap (λ n. 45 ∷ decimal n) back ∙ ap (λ d. 45 ∷ d) is.1)

text-is : (bytes : List ℕ) (cell : Option Value) → text_in bytes ≡ Some cell → IsCell cell × (cell_text cell ≡ 39 ∷ bytes)
unfolding text_in
text-is bytes cell e =
    let t = bind_some (content_in false bytes) _ cell e in
    let g = guarded_some (is_text_value t.0) (Some (TextValue t.0)) cell t.2 in
    let P : Option Value → Type 0 = λ cell. IsCell cell × (cell_text cell ≡ 39 ∷ bytes) in
    subst P g.1 (g.0, ap (λ l. 39 ∷ l) (content-is bytes false t.0 t.1))

plain_found : (bytes : List ℕ) (cell : Option Value) (null : Bool) → bytes_eq bytes (codes "null") ≡ null → cond null (Some None) (positive_in bytes) ≡ Some cell
    → IsCell cell × (cell_text cell ≡ bytes)
plain_found bytes cell true is e =
    let none : None ≡ cell = cc in
    let P : Option Value → Type 0 = λ cell. IsCell cell × (cell_text cell ≡ bytes) in
    subst P none (tt, sym (same_bytes bytes (codes "null") is))
plain_found bytes cell false is e = positive-is bytes cell e

first_found : (c : ℕ) (cs : List ℕ) (cell : Option Value) (quote minus : Bool) → (c == 39) ≡ quote → (c == 45) ≡ minus
    → cond quote (text_in cs) (cond minus (negative_in cs) (plain_in (c ∷ cs))) ≡ Some cell → IsCell cell × (cell_text cell ≡ c ∷ cs)
unfolding plain_in
first_found c cs cell true minus q m e =
    let is = text-is cs cell e in (is.0, is.1 ∙ ap (λ b. b ∷ cs) (sym (eqb-true c 39 q)))
first_found c cs cell false true q m e =
    let is = negative-is cs cell e in (is.0, is.1 ∙ ap (λ b. b ∷ cs) (sym (eqb-true c 45 m)))
first_found c cs cell false false q m e = plain_found (c ∷ cs) cell (bytes_eq (c ∷ cs) (codes "null")) refl e

pub cell-is : (bytes : List ℕ) (cell : Option Value) → cell_in bytes ≡ Some cell → IsCell cell × (cell_text cell ≡ bytes)
unfolding cell_in
cell-is [] cell e = cc
cell-is (c ∷ cs) cell e = first_found c cs cell (c == 39) (c == 45) refl refl e

-- ---- cells among commas

inner_step : (c : ℕ) (cs tail : List ℕ) (quote comma : Bool) → (c == 39) ≡ quote → (c == 44) ≡ comma
    → piece_at true (said_in cs ++ 39 ∷ tail) ≡ option_map (λ p. (said_in cs ++ 39 ∷ p.0, p.1)) (piece_at false tail)
    → piece_at true ((cond quote (39 ∷ 39 ∷ []) (c ∷ []) ++ said_in cs) ++ 39 ∷ tail)
    ≡ option_map (λ p. ((cond quote (39 ∷ 39 ∷ []) (c ∷ []) ++ said_in cs) ++ 39 ∷ p.0, p.1)) (piece_at false tail)
inner_step c cs tail true comma is mark e =
    let f : List ℕ × List ℕ → List ℕ × List ℕ = λ p. (39 ∷ p.0, p.1) in
    let g : List ℕ × List ℕ → List ℕ × List ℕ = λ p. (said_in cs ++ 39 ∷ p.0, p.1) in
    ap (λ o. option_map f (option_map f o)) e ∙ ap (option_map f) (map_map f g (piece_at false tail)) ∙ map_map f (λ p. f (g p)) (piece_at false tail)
inner_step c cs tail false true is mark e =
    let f : List ℕ × List ℕ → List ℕ × List ℕ = λ p. (c ∷ p.0, p.1) in
    let g : List ℕ × List ℕ → List ℕ × List ℕ = λ p. (said_in cs ++ 39 ∷ p.0, p.1) in
    rw mark (rw is (ap (option_map f) e ∙ map_map f g (piece_at false tail)))
inner_step c cs tail false false is mark e =
    let f : List ℕ × List ℕ → List ℕ × List ℕ = λ p. (c ∷ p.0, p.1) in
    let g : List ℕ × List ℕ → List ℕ × List ℕ = λ p. (said_in cs ++ 39 ∷ p.0, p.1) in
    rw mark (rw is (ap (option_map f) e ∙ map_map f g (piece_at false tail)))

inner : (text tail : List ℕ) → piece_at true (said_in text ++ 39 ∷ tail) ≡ option_map (λ p. (said_in text ++ 39 ∷ p.0, p.1)) (piece_at false tail)
inner [] tail = refl
inner (c ∷ cs) tail = inner_step c cs tail (c == 39) (c == 44) refl refl (inner cs tail)

quoted_cut : (text rest : List ℕ) → piece_at false (quoted text ++ 44 ∷ rest) ≡ Some (quoted text, rest)
quoted_cut text rest =
    let f : List ℕ × List ℕ → List ℕ × List ℕ = λ p. (39 ∷ p.0, p.1) in
    ap (λ bytes. option_map f (piece_at true bytes)) (append_assoc (said_in text) (39 ∷ []) (44 ∷ rest))
    ∙ ap (option_map f) (inner text (44 ∷ rest))

quoted_uncut : (text : List ℕ) → piece_at false (quoted text) ≡ None
quoted_uncut text =
    let f : List ℕ × List ℕ → List ℕ × List ℕ = λ p. (39 ∷ p.0, p.1) in ap (option_map f) (inner text [])

digits_piece : (n : ℕ) → n < 2 ^ 64 → IsPiece cell_in (decimal n)
digits_piece n small =
    let comma = decimal_lacks 44 n refl small in
    let quote = decimal_lacks 39 n refl small in
    (λ rest. plain_cut (decimal n) rest comma quote, plain_uncut (decimal n) comma quote)

signed_piece : (n : ℕ) → n < 2 ^ 64 → IsPiece cell_in (45 ∷ decimal n)
signed_piece n small =
    let comma = decimal_lacks 44 n refl small in
    let quote = decimal_lacks 39 n refl small in
    (λ rest. plain_cut (45 ∷ decimal n) rest comma quote, plain_uncut (45 ∷ decimal n) comma quote)

cell_piece : (cell : Option Value) → IsCell cell → IsPiece cell_in (cell_text cell)
cell_piece None h = (λ rest. refl, refl)
cell_piece (Some (NumberValue (pos n))) h = digits_piece n (omega arith)
cell_piece (Some (NumberValue (negsuc n))) h = signed_piece (suc n) (omega arith)
cell_piece (Some (TextValue text)) h = (λ rest. quoted_cut text rest, quoted_uncut text)

-- ---- replies

values-of : (cell : Option Value) (cells : List (Option Value)) → AllByRecursion IsCell (cell ∷ cells) → list_in cell_in (join_by cell_text (codes ",") (cell ∷ cells)) ≡ Some (cell ∷ cells)
values-of cell cells h = list-of cell_in IsCell cell_text cell_piece cell-of cell cells h.0 h.1

reply_written : (verdict : Verdict) (values : List (Option Value)) → MayHave verdict values
    → reply_in (verdict_text verdict ++ values_text values) ≡ Some (record { verdict = verdict; values = values })
unfolding reply_in bare_in valued_in verdict_in
reply_written Done [] h = refl
reply_written Skipped [] h = refl
reply_written Overflow [] h = refl
reply_written Done (cell ∷ cells) h = rw (values-of cell cells h) refl
reply_written Skipped (cell ∷ cells) h = rw (values-of cell cells h) refl
reply_written Overflow (cell ∷ cells) h = cc

pub reply-of : (reply : Reply) → IsReply reply → reply_in (reply_text reply) ≡ Some reply
reply-of reply h = reply_written reply.verdict reply.values h

verdict_found : (bytes : List ℕ) (verdict : Verdict) (ok : Bool) → bytes_eq bytes (codes "ok") ≡ ok → cond ok (Some Done) (guarded (bytes_eq bytes (codes "skipped")) Skipped) ≡ Some verdict
    → (verdict_text verdict ≡ bytes) × ((values : List (Option Value)) → AllByRecursion IsCell values → MayHave verdict values)
verdict_found bytes verdict true is e =
    let done : Done ≡ verdict = cc in
    let P : Verdict → Type 0 = λ verdict. (verdict_text verdict ≡ bytes) × ((values : List (Option Value)) → AllByRecursion IsCell values → MayHave verdict values) in
    subst P done (sym (same_bytes bytes (codes "ok") is), λ values h. h)
verdict_found bytes verdict false is e =
    let g = guarded_some (bytes_eq bytes (codes "skipped")) Skipped verdict e in
    let P : Verdict → Type 0 = λ verdict. (verdict_text verdict ≡ bytes) × ((values : List (Option Value)) → AllByRecursion IsCell values → MayHave verdict values) in
    subst P g.1 (sym (same_bytes bytes (codes "skipped") g.0), λ values h. h)

verdict-is : (bytes : List ℕ) (verdict : Verdict) → verdict_in bytes ≡ Some verdict
    → (verdict_text verdict ≡ bytes) × ((values : List (Option Value)) → AllByRecursion IsCell values → MayHave verdict values)
unfolding verdict_in
verdict-is bytes verdict e = verdict_found bytes verdict (bytes_eq bytes (codes "ok")) refl e

bare_found : (bytes : List ℕ) (verdict : Verdict) (over : Bool) → bytes_eq bytes (codes "overflow") ≡ over → cond over (Some Overflow) (verdict_in bytes) ≡ Some verdict
    → MayHave verdict [] × (verdict_text verdict ≡ bytes)
bare_found bytes verdict true is e =
    let P : Verdict → Type 0 = λ verdict. MayHave verdict [] × (verdict_text verdict ≡ bytes) in
    let over : Overflow ≡ verdict = cc in subst P over (refl, sym (same_bytes bytes (codes "overflow") is))
bare_found bytes verdict false is e = let v = verdict-is bytes verdict e in (v.1 [] tt, v.0)

values_joined : (bytes : List ℕ) (values : List (Option Value)) → list_in cell_in bytes ≡ Some values → AllByRecursion IsCell values × (values_text values ≡ 32 ∷ bytes)
values_joined bytes [] e = absurd (not_empty cell_in bytes e)
values_joined bytes (cell ∷ cells) e =
    let all = list-is cell_in IsCell cell_text cell-is bytes (cell ∷ cells) e in (all.0, ap (λ l. 32 ∷ l) all.1)

reply_found : (bytes : List ℕ) (reply : Reply) (o : Option (List ℕ × List ℕ)) → parts_at 32 bytes ≡ o → with_found o valued_in (bare_in bytes) ≡ Some reply
    → IsReply reply × (reply_text reply ≡ bytes)
unfolding bare_in valued_in
reply_found bytes reply None cut e =
    let v = bind_some (cond (bytes_eq bytes (codes "overflow")) (Some Overflow) (verdict_in bytes)) _ reply e in
    let is = bare_found bytes v.0 (bytes_eq bytes (codes "overflow")) refl v.1 in
    let made : Reply = record { verdict = v.0; values = [] } in
    let same : made ≡ reply = cc in
    let P : Reply → Type 0 = λ reply. IsReply reply × (reply_text reply ≡ bytes) in
    subst P same (is.0, append-nil (verdict_text v.0) ∙ is.1)
reply_found bytes reply (Some p) cut e =
    let v = bind_some (verdict_in p.0) _ reply e in
    let c = bind_some (list_in cell_in p.1) _ reply v.2 in
    let verdict = verdict-is p.0 v.0 v.1 in
    let values = values_joined p.1 c.0 c.1 in
    let made : Reply = record { verdict = v.0; values = c.0 } in
    let same : made ≡ reply = cc in
    let P : Reply → Type 0 = λ reply. IsReply reply × (reply_text reply ≡ bytes) in
    subst P same (verdict.1 c.0 values.0, ap (λ l. verdict_text v.0 ++ l) values.1 ∙ ap (λ l. l ++ 32 ∷ p.1) verdict.0 ∙ parts-is 32 bytes p cut)

pub reply-is : (bytes : List ℕ) (reply : Reply) → reply_in bytes ≡ Some reply → IsReply reply × (reply_text reply ≡ bytes)
unfolding reply_in
reply-is bytes reply e = reply_found bytes reply (parts_at 32 bytes) refl e
