-- What is written for a step is UTF-8.
use Rattle.std.proofs.Common.{◌≡◌, ℕ, ◌≤◌, List, ◌++◌, codes, true, Option, Some, None, refl, arith}
use Rattle.std.proofs.lemmas.Fmt.{IsAscii-decimal}
use Rattle.std.proofs.lemmas.Str.{IsUtf8-append, IsUtf8-from_ascii, IsUtf8-nil}
use Rattle.std.specs.Fmt.{decimal}
use Rattle.std.specs.Prelude.{IfSome}
use Rattle.std.specs.Str.{IsUtf8}
use Rattle.json.specs.Print.{quoted}
use Rattle.json.proofs.Printed.Utf8.{are_ascii, IsUtf8-are_ascii, IsUtf8-quoted}
use Rattle.zy_isa.specs.Limits.{max_value}
use Rattle.zy_isa.specs.declared.node.Actor.{Actor}
use Rattle.zy_isa.specs.declared.node.Actor.TheVariants.{C, A, B}
use Rattle.zy_json.specs.Steps.{Step, actor_text, behind, digits_of}
use Rattle.zy_json.specs.Words.{IsLine, IsBesideDid}
use Rattle.zy_json.specs.Written.{IsInUtf8, json_text, with_name}

-- four texts, one after the other
joined : (a b c d : List ℕ) → IsUtf8 a → IsUtf8 b → IsUtf8 c → IsUtf8 d → IsUtf8 (a ++ (b ++ (c ++ d)))
joined a b c d ha hb hc hd = IsUtf8-append a _ ha (IsUtf8-append b _ hb (IsUtf8-append c d hc hd))

letter : (a : Actor) → IsUtf8 (actor_text a)
letter C = IsUtf8-are_ascii (codes "C") refl
letter A = IsUtf8-are_ascii (codes "A") refl
letter B = IsUtf8-are_ascii (codes "B") refl

-- a name and a text, if there is one
field : (name : List ℕ) (text : Option (List ℕ)) → are_ascii name ≡ true → IfSome text IsUtf8 → IsUtf8 (with_name name text)
field name None plain p = IsUtf8-nil
field name (Some text) plain p = IsUtf8-append name _ (IsUtf8-are_ascii name plain) (IsUtf8-quoted text p)

-- a name and a value, if there is one
value : (name : List ℕ) (came : Option (List ℕ)) (n : Option ℕ) → are_ascii name ≡ true → IfSome n (IsBesideDid came) → IsUtf8 (behind name (digits_of n))
value name came None plain p = IsUtf8-nil
value name came (Some n) plain p =
    let few : n ≤ max_value = p.0 in
    IsUtf8-append name _ (IsUtf8-are_ascii name plain) (IsUtf8-from_ascii (decimal n) (IsAscii-decimal n (omega arith)))

-- a step's line is UTF-8
pub IsUtf8-json_text : (s : Step) → IsInUtf8 s → IsLine s → IsUtf8 (json_text s)
IsUtf8-json_text s utf8 line =
    let came = with_name (codes ",\"came\":") s.came in
    let shown = behind (codes ",\"value\":") (digits_of s.value) in
    let sent = with_name (codes ",\"sent\":") s.sent in
    let end = with_name (codes ",\"rows\":") s.rows ++ codes "}" in
    let closed = IsUtf8-append (with_name (codes ",\"rows\":") s.rows) (codes "}") (field (codes ",\"rows\":") s.rows refl utf8.rows)
    (IsUtf8-are_ascii (codes "}") refl) in
    let ends = joined came shown sent end (field (codes ",\"came\":") s.came refl utf8.came)
    (value (codes ",\"value\":") s.came s.value refl line.value) (field (codes ",\"sent\":") s.sent refl utf8.sent) closed in
    joined (codes "{\"actor\":") (quoted (actor_text s.actor)) (codes ",\"do\":") (quoted s.action ++ (came ++ (shown ++ (sent ++ end))))
    (IsUtf8-are_ascii (codes "{\"actor\":") refl) (IsUtf8-quoted (actor_text s.actor) (letter s.actor))
    (IsUtf8-are_ascii (codes ",\"do\":") refl) (IsUtf8-append (quoted s.action) _ (IsUtf8-quoted s.action utf8.action) ends)
