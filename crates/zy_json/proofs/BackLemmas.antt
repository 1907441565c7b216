-- What is written for a step is read back as the step.
use Rattle.std.proofs.Common.{◌≡◌, ℕ, List, Result, Ok, Err, sym, ap, ◌∙◌}
use Rattle.std.specs.Str.{IsUtf8}
use Rattle.json.specs.Json.{Json, null, boolean, number, string, array, object}
use Rattle.zy_json.specs.declared.faults.JsonFault.{JsonFault}
use Rattle.zy_json.specs.declared.faults.JsonFault.TheVariants.{NotJson, NotObject, Missing, Twice, NotString, NotNumber, NotDid, NoActor, Sign, Memory}
use Rattle.zy_json.specs.declared.step.JsonStep.{JsonStep}
use Rattle.zy_json.specs.Meaning.{Reads, Tells, step_told}
use Rattle.zy_json.specs.Steps.{Step, step_of}
use Rattle.zy_json.specs.Words.{IsLine}
use Rattle.zy_json.specs.Written.{IsInUtf8, IsReadAs, json_text}
use Rattle.zy_json.proofs.ReadLemmas.{step_in-members_of, IsLine-step_in}
use Rattle.zy_json.proofs.Utf8Lemmas.{IsUtf8-json_text}
use Rattle.zy_json.proofs.WrittenLemmas.{members_of, document-json_text}

-- the line is the object of the step, whose members tell the step
pub told_by_line : (s : Step) → IsUtf8 (json_text s) → IsLine s → Tells (json_text s) (Ok s)
told_by_line s utf8 line = (object (members_of s), (utf8, document-json_text s line), step_in-members_of s line)

pub Tells-json_text : (s : Step) → IsInUtf8 s → IsLine s → Tells (json_text s) (Ok s)
Tells-json_text s utf8 line = told_by_line s (IsUtf8-json_text s utf8 line) line

-- a text tells one thing
one_told : (text : List ℕ) (told other : Result Step JsonFault) → Tells text told → Tells text other → told ≡ other
one_told text told other (j, is, e) (k, other_is, f) =
    let same : j ≡ k = cc in
    sym e ∙ ap step_told same ∙ f

-- so a reader's answer for a text that tells a step is that step, by what the answer is
answered : (text : List ℕ) (s : Step) (r : Result JsonStep JsonFault) → Tells text (Ok s) → Reads text r → IsReadAs s r
answered text s (Ok x) t reads = let same : Ok (step_of x) ≡ Ok s = one_told text (Ok (step_of x)) (Ok s) reads t in cc
answered text s (Err (NotJson at)) t reads = reads.0 t.0 t.1
answered text s (Err NotObject) t reads = let same : Err NotObject ≡ Ok s = one_told text (Err NotObject) (Ok s) reads t in cc
answered text s (Err (Missing f)) t reads = let same : Err (Missing f) ≡ Ok s = one_told text (Err (Missing f)) (Ok s) reads t in cc
answered text s (Err (Twice f)) t reads = let same : Err (Twice f) ≡ Ok s = one_told text (Err (Twice f)) (Ok s) reads t in cc
answered text s (Err (NotString f)) t reads = let same : Err (NotString f) ≡ Ok s = one_told text (Err (NotString f)) (Ok s) reads t in cc
answered text s (Err NotNumber) t reads = let same : Err NotNumber ≡ Ok s = one_told text (Err NotNumber) (Ok s) reads t in cc
answered text s (Err NotDid) t reads = let same : Err NotDid ≡ Ok s = one_told text (Err NotDid) (Ok s) reads t in cc
answered text s (Err NoActor) t reads = let same : Err NoActor ≡ Ok s = one_told text (Err NoActor) (Ok s) reads t in cc
answered text s (Err (Sign f)) t reads = let same : Err (Sign f) ≡ Ok s = one_told text (Err (Sign f)) (Ok s) reads t in cc
answered text s (Err Memory) t reads = tt

pub IsReadAs-json_text : (s : Step) (r : Result JsonStep JsonFault) → IsInUtf8 s → IsLine s → Reads (json_text s) r → IsReadAs s r
IsReadAs-json_text s r utf8 line reads = answered (json_text s) s r (Tells-json_text s utf8 line) reads

-- a value that tells a step tells one with parts of a line
told_is_line : (j : Json) (s : Step) → step_told j ≡ Ok s → IsLine s
told_is_line null s e = absurd (cc)
told_is_line (boolean b) s e = absurd (cc)
told_is_line (number n) s e = absurd (cc)
told_is_line (string t) s e = absurd (cc)
told_is_line (array js) s e = absurd (cc)
told_is_line (object ms) s e = IsLine-step_in ms s e

pub IsLine-Tells : (text : List ℕ) (s : Step) → Tells text (Ok s) → IsLine s
IsLine-Tells text s t = told_is_line t.0 s t.2
