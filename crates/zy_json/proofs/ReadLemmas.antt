-- What the members of a step's object tell is the step.
use Rattle.std.proofs.Common.{◌≡◌, ◌∙◌, ◌≤◌, ℕ, nat_le, List, [], ◌∷◌, codes, Bool, true, false, Option, Some, None, Ok, Err, refl, ap, arith, subst, if◌then◌else◌}
use Rattle.std.specs.Fmt.{decimal}
use Rattle.std.specs.Prelude.{IfSome}
use Rattle.std.specs.List.{list_any}
use Rattle.std.specs.Option.{option_and_then}
use Rattle.std.specs.Str.{bytes_eq}
use Rattle.json.specs.Find.{as_number}
use Rattle.json.specs.Json.{Json, Members, no_members, number, string}
use Rattle.zy_isa.specs.declared.node.Actor.{Actor}
use Rattle.zy_isa.specs.declared.node.Actor.TheVariants.{C, A, B}
use Rattle.zy_isa.proofs.ResultLemmas.{bind_ok, if_ok, same}
use Rattle.zy_isa.specs.Limits.{max_value}
use Rattle.zy_json.specs.declared.faults.JsonFault.TheVariants.{NotDid, NotNumber, Sign}
use Rattle.zy_json.specs.declared.field.Member.{Member}
use Rattle.zy_json.specs.declared.field.Member.TheVariants as field
use Rattle.zy_text.proofs.WordLemmas.{number_of-decimal}
use Rattle.zy_text.specs.Words.{number_of}
use Rattle.zy_json.specs.Fields.{ends_part, key_of}
use Rattle.zy_json.specs.Objects.{actor_of, actor_in, action_in, found, found_or, if_did, if_number, if_part, is_did, number_in, number_told, part_of, present, small, step_in, text_of, value_beside, values_of}
use Rattle.zy_json.specs.Steps.{Step, actor_text}
use Rattle.zy_json.specs.Words.{IsPart, IsLine, IsBesideDid}
use Rattle.zy_json.proofs.WrittenLemmas.{members_of, some_member, value_member}
use borrow.Author.Tests.{tests}

-- the letter of an actor names it
named : (a : Actor) → actor_of (actor_text a) ≡ Ok a
named C = refl
named A = refl
named B = refl

-- a name is itself
same_name : (f : Member) → bytes_eq (key_of f) (key_of f) ≡ true
same_name field.Actor = refl
same_name field.Action = refl
same_name field.Came = refl
same_name field.Value = refl
same_name field.Sent = refl
same_name field.Rows = refl

-- the value of a text, and of a number
abbrev text_value : Option (List ℕ) → List Json
text_value None = []
text_value (Some text) = string text ∷ []

abbrev number_value : Option ℕ → List Json
number_value None = []
number_value (Some n) = number (decimal n) ∷ []

-- a member of another name is passed over
not_text : (key : List ℕ) (f : Member) (o : Option (List ℕ)) (ms : Members) → bytes_eq (key_of f) key ≡ false
    → values_of key (some_member f o ms) ≡ values_of key ms
not_text key f None ms e = refl
not_text key f (Some text) ms e = rw e refl

not_value : (key : List ℕ) (o : Option ℕ) (ms : Members) → bytes_eq (key_of field.Value) key ≡ false
    → values_of key (value_member o ms) ≡ values_of key ms
not_value key None ms e = refl
not_value key (Some n) ms e = rw e refl

-- one of the name is found, where there is no other
own_text : (f : Member) (o : Option (List ℕ)) (ms : Members) → values_of (key_of f) ms ≡ []
    → values_of (key_of f) (some_member f o ms) ≡ text_value o
own_text f None ms none = none
own_text f (Some text) ms none = rw (same_name f, none) refl

own_value : (o : Option ℕ) (ms : Members) → values_of (key_of field.Value) ms ≡ []
    → values_of (key_of field.Value) (value_member o ms) ≡ number_value o
own_value None ms none = none
own_value (Some n) ms none = rw none refl

-- a part of a line is found as it is
part : (f : Member) (ms : Members) (o : Option (List ℕ)) → values_of (key_of f) ms ≡ text_value o → IfSome o IsPart → part_of f ms ≡ Ok o
part f ms None e p = rw e refl
part f ms (Some text) e p = rw (e, p) refl

-- and so is a number that a step that did shows
shown_number : (n : ℕ) → n ≤ max_value → number_in (number (decimal n)) ≡ Some n
shown_number n few = rw (number_of-decimal n (omega arith), is_small n few) refl
  where
    is_small : (n : ℕ) → n ≤ max_value → nat_le n max_value ≡ true
    is_small n few = grind (arith, tests)

value : (came : Option (List ℕ)) (ms : Members) (o : Option ℕ) → values_of (key_of field.Value) ms ≡ number_value o
    → IfSome o (IsBesideDid came) → value_beside came ms ≡ Ok o
value came ms None e p = rw e refl
value came ms (Some n) e p = rw (e, shown_number n p.0, p.1) refl

-- what members tell, where each field is found
record Found (s : Step) (ms : Members) : Type 0 where
  actor : values_of (key_of field.Actor) ms ≡ text_value (Some (actor_text s.actor))
  action : values_of (key_of field.Action) ms ≡ text_value (Some s.action)
  came : values_of (key_of field.Came) ms ≡ text_value s.came
  value : values_of (key_of field.Value) ms ≡ number_value s.value
  sent : values_of (key_of field.Sent) ms ≡ text_value s.sent
  rows : values_of (key_of field.Rows) ms ≡ text_value s.rows

-- each field of a step's object is found
found_each : (s : Step) → Found s (members_of s)
found_each s =
    let rows = some_member field.Rows s.rows no_members in
    let sent = some_member field.Sent s.sent rows in
    let value = value_member s.value sent in
    let no_came = λ (key : List ℕ) (e : bytes_eq (key_of field.Came) key ≡ false). not_text key field.Came s.came value e in
    let no_value = λ (key : List ℕ) (e : bytes_eq (key_of field.Value) key ≡ false). not_value key s.value sent e in
    let no_sent = λ (key : List ℕ) (e : bytes_eq (key_of field.Sent) key ≡ false). not_text key field.Sent s.sent rows e in
    let no_rows = λ (key : List ℕ) (e : bytes_eq (key_of field.Rows) key ≡ false). not_text key field.Rows s.rows no_members e in
    let actor = key_of field.Actor in
    let action = key_of field.Action in
    let came = key_of field.Came in
    record {
      actor = ap (λ js. string (actor_text s.actor) ∷ js)
          (no_came actor refl ∙ (no_value actor refl ∙ (no_sent actor refl ∙ no_rows actor refl)));
      action = ap (λ js. string s.action ∷ js)
          (no_came action refl ∙ (no_value action refl ∙ (no_sent action refl ∙ no_rows action refl)));
      came = own_text field.Came s.came value (no_value came refl ∙ (no_sent came refl ∙ no_rows came refl));
      value = no_came (key_of field.Value) refl
          ∙ own_value s.value sent (no_sent (key_of field.Value) refl ∙ no_rows (key_of field.Value) refl);
      sent = no_came (key_of field.Sent) refl
          ∙ (no_value (key_of field.Sent) refl ∙ own_text field.Sent s.sent rows (no_rows (key_of field.Sent) refl));
      rows = no_came (key_of field.Rows) refl
          ∙ (no_value (key_of field.Rows) refl ∙ (no_sent (key_of field.Rows) refl ∙ own_text field.Rows s.rows no_members refl));
    }

-- so the object of a step tells the step
told_by : (s : Step) (ms : Members) → Found s ms → IsLine s → step_in ms ≡ Ok s
told_by s ms f line =
    let who : actor_in ms ≡ Ok s.actor = rw f.actor (named s.actor) in
    let what : action_in ms ≡ Ok s.action = rw (part field.Action ms (Some s.action) f.action line.action) refl in
    rw (
      who,
      what,
      part field.Came ms s.came f.came line.came,
      value s.came ms s.value f.value line.value,
      part field.Sent ms s.sent f.sent line.sent,
      part field.Rows ms s.rows f.rows line.rows,
    ) refl

pub step_in-members_of : (s : Step) → IsLine s → step_in (members_of s) ≡ Ok s
step_in-members_of s line = told_by s (members_of s) (found_each s) line

-- ---- what was found of a step is what its line needs

-- a part that was found is one
is_part : (f : Member) (o p : Option (List ℕ)) → if_part f o ≡ Ok p → IfSome p IsPart
is_part f None p e = let same : None ≡ p = cc in subst (λ q. IfSome q IsPart) same tt
is_part f (Some text) p e = by_test f text p (list_any ends_part text) refl e
  where
    by_test : (f : Member) (text : List ℕ) (p : Option (List ℕ)) (b : Bool) → list_any ends_part text ≡ b
        → (if b then Err (Sign f) else Ok (Some text)) ≡ Ok p → IfSome p IsPart
    by_test f text p true t e = absurd (cc)
    by_test f text p false t e = let same : Some text ≡ p = cc in subst (λ q. IfSome q IsPart) same t

found_is_part : (f : Member) (ms : Members) (p : Option (List ℕ)) → part_of f ms ≡ Ok p → IfSome p IsPart
found_is_part f ms p e = let q = bind_ok (text_of f ms) (if_part f) p e in is_part f q.0 p q.2

-- a small number is of 32 bits
small_is_small : (o : Option ℕ) (n : ℕ) → option_and_then small o ≡ Some n → n ≤ max_value
small_is_small None n e = absurd (cc)
small_is_small (Some m) n e = by_test (nat_le m max_value) refl e
  where
    by_test : (b : Bool) → nat_le m max_value ≡ b → (if b then Some m else None) ≡ Some n → n ≤ max_value
    by_test true t e = let same : m ≡ n = cc in let few : m ≤ max_value = grind (arith, tests) in omega arith
    by_test false t e = absurd (cc)

-- and so is a number that was found
number_is_small : (j : Option Json) (o : Option ℕ) → if_number j ≡ Ok o → IfSome o (λ n. n ≤ max_value)
number_is_small None o e = let same : None ≡ o = cc in subst (λ p. IfSome p (λ n. n ≤ max_value)) same tt
number_is_small (Some j) o e = by_number (number_in j) refl e
  where
    by_number : (p : Option ℕ) → number_in j ≡ p → found_or NotNumber p ≡ Ok o → IfSome o (λ n. n ≤ max_value)
    by_number None is f = absurd (cc)
    by_number (Some n) is f =
        let same : Some n ≡ o = cc in
        subst (λ p. IfSome p (λ n. n ≤ max_value)) same (small_is_small (option_and_then number_of (as_number j)) n is)

-- the step did
did : (came : Option (List ℕ)) → is_did came ≡ true → came ≡ Some (codes "did")
did None e = absurd (cc)
did (Some text) e = ap Some (same text (codes "did") e)

-- a number that was found beside what came is shown
beside_is_shown : (came : Option (List ℕ)) (p o : Option ℕ) → if_did came p ≡ Ok o → IfSome p (λ n. n ≤ max_value) → IfSome o (IsBesideDid came)
beside_is_shown came None o e h = let same : None ≡ o = cc in subst (λ q. IfSome q (IsBesideDid came)) same tt
beside_is_shown came (Some n) o e h =
    let q = if_ok (is_did came) (Ok (Some n)) NotDid o e in
    let same : Some n ≡ o = let f = q.1 in cc in
    subst (λ q. IfSome q (IsBesideDid came)) same (h, did came q.0)

value_is_shown : (came : Option (List ℕ)) (ms : Members) (o : Option ℕ) → value_beside came ms ≡ Ok o → IfSome o (IsBesideDid came)
value_is_shown came ms o e =
    let q = bind_ok (number_told ms) (if_did came) o e in
    let r = bind_ok (found field.Value ms) if_number q.0 q.1 in
    beside_is_shown came q.0 o q.2 (number_is_small r.0 q.0 r.2)

-- a text that is there
there : (f : Member) (o : Option (List ℕ)) (text : List ℕ) → present f o ≡ Ok text → o ≡ Some text
there f None text e = absurd (cc)
there f (Some t) text e = let same : t ≡ text = cc in ap Some same

action_is_part : (ms : Members) (text : List ℕ) → action_in ms ≡ Ok text → IsPart text
action_is_part ms text e =
    let q = bind_ok (part_of field.Action ms) (present field.Action) text e in
    subst (λ o. IfSome o IsPart) (there field.Action q.0 text q.2) (found_is_part field.Action ms q.0 q.1)

-- the step that members tell has parts of a line
pub IsLine-step_in : (ms : Members) (s : Step) → step_in ms ≡ Ok s → IsLine s
IsLine-step_in ms s e =
    let who = bind_ok (actor_in ms) _ s e in
    let what = bind_ok (action_in ms) _ s who.2 in
    let came = bind_ok (part_of field.Came ms) _ s what.2 in
    let value = bind_ok (value_beside came.0 ms) _ s came.2 in
    let sent = bind_ok (part_of field.Sent ms) _ s value.2 in
    let rows = bind_ok (part_of field.Rows ms) _ s sent.2 in
    let made : record { actor = who.0; action = what.0; came = came.0; value = value.0; sent = sent.0; rows = rows.0 } ≡ s = cc in
    subst IsLine made (record {
      action = action_is_part ms what.0 what.1;
      came = found_is_part field.Came ms came.0 came.1;
      value = value_is_shown came.0 ms value.0 value.1;
      sent = found_is_part field.Sent ms sent.0 sent.1;
      rows = found_is_part field.Rows ms rows.0 rows.1;
    })
