-- Where no sign is escaped, the texts of a step stand in its line as they are.
use Rattle.std.proofs.Common.{◌≡◌, ℕ, nat_lt, false, ◌||◌, ◌==◌, List, [], ◌∷◌, ◌++◌, codes, Option, Some, None, refl, sym, ap, ap₂, ◌∙◌, arith, append_assoc, append-nil}
use Rattle.std.proofs.lemmas.Bool.Decides.{nat_tests}
use Rattle.std.specs.Prelude.{IfSome}
use Rattle.std.specs.List.{list_any}
use Rattle.json.specs.Print.{escape, escape_byte, quoted}
use Rattle.json.proofs.Printed.Strings.{escape_byte_plain}
use Rattle.zy_isa.specs.declared.node.Actor.{Actor}
use Rattle.zy_isa.specs.declared.node.Actor.TheVariants.{C, A, B}
use Rattle.zy_json.specs.Plain.{is_escaped, IsPlainText, IsPlain, plain_field, plain_text}
use Rattle.zy_json.specs.Steps.{Step, actor_text, behind, digits_of}
use Rattle.zy_json.specs.Written.{json_text, with_name}
use Rattle.zy_json.proofs.WordLemmas.{neither}

-- a byte that is not escaped stands for itself
byte_plain : (b : ℕ) → is_escaped b ≡ false → escape_byte b ≡ b ∷ []
byte_plain b e =
    let p = neither (nat_lt b 32 || b == 34) (b == 92) e in
    let q = neither (nat_lt b 32) (b == 34) p.0 in
    escape_byte_plain b (grind (arith, nat_tests, q.1)) (grind (arith, nat_tests, p.1)) (grind (arith, nat_tests, q.0))

-- and so does a text
escape_plain : (text : List ℕ) → IsPlainText text → escape text ≡ text
escape_plain [] e = refl
escape_plain (x ∷ xs) e =
    let p = neither (is_escaped x) (list_any is_escaped xs) e in
    ap₂ (λ (a b : List ℕ). a ++ b) (byte_plain x p.0) (escape_plain xs p.1)

-- the string of a plain text, and what comes behind it
quoted_plain : (text behind : List ℕ) → IsPlainText text → quoted text ++ behind ≡ 34 ∷ (text ++ 34 ∷ behind)
quoted_plain text behind e =
    ap (λ (t : List ℕ). 34 ∷ ((t ++ 34 ∷ []) ++ behind)) (escape_plain text e) ∙ ap (λ (t : List ℕ). 34 ∷ t) (append_assoc text (34 ∷ []) behind)

-- a field that may be missing
field_plain : (name : List ℕ) (text : Option (List ℕ)) → IfSome text IsPlainText → with_name name text ≡ plain_field name text
field_plain name None e = refl
field_plain name (Some text) e =
    ap (λ (l : List ℕ). name ++ l) (sym (append-nil (quoted text)) ∙ quoted_plain text [] e)

letter_plain : (a : Actor) → IsPlainText (actor_text a)
letter_plain C = refl
letter_plain A = refl
letter_plain B = refl

-- what stands behind the action's string in a step's line, without the brace
abbrev plain_end : Step → List ℕ
plain_end s = plain_field (codes ",\"came\":") s.came
    ++ (behind (codes ",\"value\":") (digits_of s.value)
    ++ (plain_field (codes ",\"sent\":") s.sent ++ plain_field (codes ",\"rows\":") s.rows))

-- and the same in the line whose texts are escaped, with the brace
abbrev quoted_end : Step → List ℕ
quoted_end s = with_name (codes ",\"came\":") s.came
    ++ (behind (codes ",\"value\":") (digits_of s.value)
    ++ (with_name (codes ",\"sent\":") s.sent ++ (with_name (codes ",\"rows\":") s.rows ++ codes "}")))

-- the two ends are the same
ends_plain : (s : Step) → IsPlain s → quoted_end s ≡ plain_end s ++ codes "}"
ends_plain s plain =
    let came = plain_field (codes ",\"came\":") s.came in
    let value = behind (codes ",\"value\":") (digits_of s.value) in
    let sent = plain_field (codes ",\"sent\":") s.sent in
    let rows = plain_field (codes ",\"rows\":") s.rows in
    rw (
      field_plain (codes ",\"came\":") s.came plain.came,
      field_plain (codes ",\"sent\":") s.sent plain.sent,
      field_plain (codes ",\"rows\":") s.rows plain.rows,
    ) (sym (append_assoc came (value ++ (sent ++ rows)) (codes "}")
    ∙ ap (λ (l : List ℕ). came ++ l) (append_assoc value (sent ++ rows) (codes "}")
    ∙ ap (λ (l : List ℕ). value ++ l) (append_assoc sent rows (codes "}")))))

-- the fields and the brace, in one row
fields_closed : (s : Step) → plain_text s
    ≡ codes "{\"actor\":\"" ++ (actor_text s.actor ++ (codes "\",\"do\":\"" ++ (s.action ++ 34 ∷ (plain_end s ++ codes "}"))))
fields_closed s =
    ap (λ (l : List ℕ). codes "{\"actor\":\"" ++ l)
    (append_assoc (actor_text s.actor) (codes "\",\"do\":\"" ++ (s.action ++ 34 ∷ plain_end s)) (codes "}")
    ∙ ap (λ (l : List ℕ). actor_text s.actor ++ (codes "\",\"do\":\"" ++ l)) (append_assoc s.action (34 ∷ plain_end s) (codes "}")))

-- the two lines are the same
pub plain_text-json_text : (s : Step) → IsPlain s → plain_text s ≡ json_text s
plain_text-json_text s plain =
    let did : quoted s.action ++ quoted_end s ≡ 34 ∷ (s.action ++ 34 ∷ (plain_end s ++ codes "}")) =
    quoted_plain s.action (quoted_end s) plain.action ∙ ap (λ (l : List ℕ). 34 ∷ (s.action ++ 34 ∷ l)) (ends_plain s plain) in
    let who = quoted_plain (actor_text s.actor) (codes ",\"do\":" ++ (quoted s.action ++ quoted_end s)) (letter_plain s.actor) in
    fields_closed s ∙ sym (ap (λ (l : List ℕ). codes "{\"actor\":" ++ l)
    (who ∙ ap (λ (l : List ℕ). 34 ∷ (actor_text s.actor ++ (34 ∷ (codes ",\"do\":" ++ l)))) did))
