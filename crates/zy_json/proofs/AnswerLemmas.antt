-- What was found in the members of an object is an answer of the reader.
use Rattle.std.proofs.Common.{◌≡◌, ℕ, List, [], ◌∷◌, Bool, true, false, Option, Some, None, Result, Ok, Err, sym, subst, if◌then◌else◌}
use Rattle.std.specs.List.{list_any}
use Rattle.std.specs.Str.{bytes_eq}
use Rattle.std.specs.Prelude.{codes}
use Rattle.json.specs.Json.{Json, null, boolean, number, string, array, object, Members}
use Rattle.json.specs.Find.{as_str}
use Rattle.zy_isa.specs.declared.node.Actor.TheVariants.{C, A, B}
use Rattle.zy_isa.specs.Results.{◌>>=◌}
use Rattle.zy_json.specs.declared.faults.JsonFault.{JsonFault}
use Rattle.zy_json.specs.declared.faults.JsonFault.TheVariants.{NotJson, NotObject, Missing, Twice, NotString, NotNumber, NotDid, NoActor, Sign, Memory}
use Rattle.zy_json.specs.declared.field.Member.{Member}
use Rattle.zy_json.specs.declared.field.Member.TheVariants as field
use Rattle.zy_json.specs.declared.step.JsonStep.{JsonStep}
use Rattle.zy_json.specs.Fields.{key_of, ends_part}
use Rattle.zy_json.specs.Meaning.{IsJson, Reads, step_found, step_told}
use Rattle.zy_json.specs.Objects.{values_of, only, found, found_or, if_string, text_of, if_part, part_of, number_in, if_number, number_told, is_did, if_did, value_beside, present, actor_of, actor_in, action_in, step_in}

-- a fault that members can have
abbrev IsTold : JsonFault → Type 0
IsTold (NotJson at) = ⊥
IsTold NotObject = Unit {0}
IsTold (Missing f) = Unit {0}
IsTold (Twice f) = Unit {0}
IsTold (NotString f) = Unit {0}
IsTold NotNumber = Unit {0}
IsTold NotDid = Unit {0}
IsTold NoActor = Unit {0}
IsTold (Sign f) = Unit {0}
IsTold Memory = ⊥

abbrev HasTold : {T : Type 0} → Result T JsonFault → Type 0
HasTold (Ok x) = Unit {0}
HasTold (Err f) = IsTold f

-- two steps that have only such faults
both : {T U : Type 0} (r : Result T JsonFault) (next : T → Result U JsonFault) → HasTold r → ((x : T) → HasTold (next x)) → HasTold (r >>= next)
both (Ok x) next h more = more x
both (Err f) next h more = h

only_told : (f : Member) (js : List Json) → HasTold (only f js)
only_told f [] = tt
only_told f (j ∷ []) = tt
only_told f (i ∷ j ∷ js) = tt

or_told : {X : Type 0} (fault : JsonFault) (o : Option X) → IsTold fault → HasTold (found_or fault o)
or_told fault None h = h
or_told fault (Some x) h = tt

string_told : (f : Member) (j : Option Json) → HasTold (if_string f j)
string_told f None = tt
string_told f (Some j) = or_told (NotString f) (as_str j) tt

text_told : (f : Member) (ms : Members) → HasTold (text_of f ms)
text_told f ms = both (found f ms) (if_string f) (only_told f (values_of (key_of f) ms)) (string_told f)

if_number_told : (j : Option Json) → HasTold (if_number j)
if_number_told None = tt
if_number_told (Some j) = or_told NotNumber (number_in j) tt

chosen : {T : Type 0} (b : Bool) (x y : Result T JsonFault) → HasTold x → HasTold y → HasTold (if b then x else y)
chosen true x y hx hy = hx
chosen false x y hx hy = hy

part_told : (f : Member) (text : Option (List ℕ)) → HasTold (if_part f text)
part_told f None = tt
part_told f (Some text) = chosen (list_any ends_part text) (Err (Sign f)) (Ok (Some text)) tt tt

did_told : (came : Option (List ℕ)) (n : Option ℕ) → HasTold (if_did came n)
did_told came None = tt
did_told came (Some n) = chosen (is_did came) (Ok (Some n)) (Err NotDid) tt tt

present_told : (f : Member) (text : Option (List ℕ)) → HasTold (present f text)
present_told f None = tt
present_told f (Some text) = tt

named_told : (name : List ℕ) → HasTold (actor_of name)
named_told name = chosen (bytes_eq name (codes "C")) (Ok C) _ tt
    (chosen (bytes_eq name (codes "A")) (Ok A) _ tt (chosen (bytes_eq name (codes "B")) (Ok B) (Err NoActor) tt tt))

found_told : (f : Member) (ms : Members) → HasTold (part_of f ms)
found_told f ms = both (text_of f ms) (if_part f) (text_told f ms) (part_told f)

value_told : (came : Option (List ℕ)) (ms : Members) → HasTold (value_beside came ms)
value_told came ms =
    let one = only_told field.Value (values_of (key_of field.Value) ms) in
    both (number_told ms) (if_did came) (both (found field.Value ms) if_number one if_number_told) (did_told came)

actor_told : (ms : Members) → HasTold (actor_in ms)
actor_told ms =
    both (text_of field.Actor ms >>= present field.Actor) actor_of
    (both (text_of field.Actor ms) (present field.Actor) (text_told field.Actor ms) (present_told field.Actor)) named_told

action_told : (ms : Members) → HasTold (action_in ms)
action_told ms = both (part_of field.Action ms) (present field.Action) (found_told field.Action ms) (present_told field.Action)

-- members have such faults alone
members_told : (ms : Members) → HasTold (step_in ms)
members_told ms = both (actor_in ms) _ (actor_told ms) (λ who. both (action_in ms) _ (action_told ms) (λ what.
    both (part_of field.Came ms) _ (found_told field.Came ms) (λ came. both (value_beside came ms) _ (value_told came ms) (λ value.
    both (part_of field.Sent ms) _ (found_told field.Sent ms) (λ sent.
    both (part_of field.Rows ms) _ (found_told field.Rows ms) (λ rows. tt))))))

-- and so has any value
any_told : (j : Json) → HasTold (step_told j)
any_told null = tt
any_told (boolean b) = tt
any_told (number s) = tt
any_told (string s) = tt
any_told (array js) = tt
any_told (object ms) = members_told ms

-- what a text's value tells is an answer, by what it is
told : (text : List ℕ) (j : Json) (r : Result JsonStep JsonFault) → IsJson text j → step_found r ≡ step_told j
    → HasTold (step_found r) → Reads text r
told text j (Ok s) is e h = (j, is, sym e)
told text j (Err (NotJson at)) is e h = absurd h
told text j (Err NotObject) is e h = (j, is, sym e)
told text j (Err (Missing f)) is e h = (j, is, sym e)
told text j (Err (Twice f)) is e h = (j, is, sym e)
told text j (Err (NotString f)) is e h = (j, is, sym e)
told text j (Err NotNumber) is e h = (j, is, sym e)
told text j (Err NotDid) is e h = (j, is, sym e)
told text j (Err NoActor) is e h = (j, is, sym e)
told text j (Err (Sign f)) is e h = (j, is, sym e)
told text j (Err Memory) is e h = absurd h

-- what the value of a text tells is an answer of the reader
pub Reads-step_found : (text : List ℕ) (j : Json) (r : Result JsonStep JsonFault) → IsJson text j → step_found r ≡ step_told j → Reads text r
Reads-step_found text j r is e = told text j r is e (subst HasTold (sym e) (any_told j))
