-- What is written for a step is the text of an object.
use Rattle.std.proofs.Common.{◌≡◌, ℕ, ◌≤◌, List, Option, Some, None, refl, sym, ap, ◌∙◌, arith, lit≤}
use Rattle.std.specs.Fmt.{decimal}
use Rattle.std.specs.Prelude.{IfSome}
use Rattle.json.specs.Print.{print}
use Rattle.json.specs.Json.{number, string, object, Members, no_members, member, document}
use Rattle.json.specs.Tree.{json_tokens, HasNumbers, MembersHaveNumbers, depth, members_depth}
use Rattle.json.proofs.OnLiterals.{json_on_literals}
use Rattle.json.proofs.Printed.Decimals.{IsNumber-decimal}
use Rattle.json.proofs.Printed.Trees.{document-print}
use Rattle.zy_isa.specs.Limits.{max_value}
use Rattle.zy_isa.specs.declared.node.Actor.{Actor}
use Rattle.zy_json.specs.declared.field.Member.{Member}
use Rattle.zy_json.specs.declared.field.Member.TheVariants as field
use Rattle.zy_json.specs.Fields.{key_of}
use Rattle.zy_json.specs.Steps.{Step, actor_text}
use Rattle.zy_json.specs.Words.{IsLine, IsBesideDid}
use Rattle.zy_json.specs.Written.{json_text}

-- a member with the text, if there is one
abbrev pub some_member : Member → Option (List ℕ) → Members → Members
some_member f None ms = ms
some_member f (Some text) ms = member (key_of f) (string text) ms

-- a member with the value, if there is one
abbrev pub value_member : Option ℕ → Members → Members
value_member None ms = ms
value_member (Some n) ms = member (key_of field.Value) (number (decimal n)) ms

-- the members behind the action
abbrev pub members_behind : Option (List ℕ) → Option ℕ → Option (List ℕ) → Option (List ℕ) → Members
members_behind came value sent rows =
    some_member field.Came came (value_member value (some_member field.Sent sent (some_member field.Rows rows no_members)))

abbrev pub members_of : Step → Members
members_of s = member (key_of field.Actor) (string (actor_text s.actor)) (member (key_of field.Action) (string s.action)
    (members_behind s.came s.value s.sent s.rows))

-- the tokens of the object are printed as the line, by what is there
printed : (a : Actor) (what : List ℕ) (came : Option (List ℕ)) (value : Option ℕ) (sent rows : Option (List ℕ))
    → print (json_tokens (object (members_of (record { actor = a; action = what; came = came; value = value; sent = sent; rows = rows }))))
    ≡ json_text (record { actor = a; action = what; came = came; value = value; sent = sent; rows = rows })
unfolding json_on_literals
printed a what None None None None = refl
printed a what None None None (Some rows) = refl
printed a what None None (Some sent) None = refl
printed a what None None (Some sent) (Some rows) = refl
printed a what None (Some n) None None = refl
printed a what None (Some n) None (Some rows) = refl
printed a what None (Some n) (Some sent) None = refl
printed a what None (Some n) (Some sent) (Some rows) = refl
printed a what (Some came) None None None = refl
printed a what (Some came) None None (Some rows) = refl
printed a what (Some came) None (Some sent) None = refl
printed a what (Some came) None (Some sent) (Some rows) = refl
printed a what (Some came) (Some n) None None = refl
printed a what (Some came) (Some n) None (Some rows) = refl
printed a what (Some came) (Some n) (Some sent) None = refl
printed a what (Some came) (Some n) (Some sent) (Some rows) = refl

-- a text is no number, and nests nothing
some_numbers : (f : Member) (o : Option (List ℕ)) (ms : Members) → MembersHaveNumbers ms → MembersHaveNumbers (some_member f o ms)
some_numbers f None ms h = h
some_numbers f (Some text) ms h = (tt, h)

some_flat : (f : Member) (o : Option (List ℕ)) (ms : Members) → members_depth ms ≤ 0 → members_depth (some_member f o ms) ≤ 0
some_flat f None ms h = h
some_flat f (Some text) ms h = omega arith

-- the digits of a value are a number, which nests nothing
value_numbers : (came : Option (List ℕ)) (o : Option ℕ) (ms : Members) → IfSome o (IsBesideDid came) → MembersHaveNumbers ms
    → MembersHaveNumbers (value_member o ms)
value_numbers came None ms p h = h
value_numbers came (Some n) ms p h = let few : n ≤ max_value = p.0 in (IsNumber-decimal n (omega arith), h)

value_flat : (o : Option ℕ) (ms : Members) → members_depth ms ≤ 0 → members_depth (value_member o ms) ≤ 0
value_flat None ms h = h
value_flat (Some n) ms h = omega arith

-- the object of a step has numbers, and nests once
numbers : (s : Step) → IsLine s → HasNumbers (object (members_of s))
numbers s line =
    let rows = some_numbers field.Rows s.rows no_members tt in
    (tt, (tt, some_numbers field.Came s.came _ (value_numbers s.came s.value _ line.value (some_numbers field.Sent s.sent _ rows))))

flat : (s : Step) → depth (object (members_of s)) ≤ 128
flat s =
    let rows = some_flat field.Rows s.rows no_members (lit≤ tt) in
    let behind = some_flat field.Came s.came _ (value_flat s.value _ (some_flat field.Sent s.sent _ rows)) in
    omega (arith, behind)

-- a step's line is JSON, and its value is the step's object
pub document-json_text : (s : Step) → IsLine s → document (json_text s) ≡ Some (object (members_of s))
document-json_text s line =
    ap document (sym (printed s.actor s.action s.came s.value s.sent s.rows)) ∙ document-print (object (members_of s)) (numbers s line) (flat s)
