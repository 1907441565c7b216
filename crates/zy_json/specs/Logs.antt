-- The lines of a log that the lines of a text in JSON tell.
use Rattle.std.specs.Prelude.{◌≡◌, ◌⊎◌, ◌+◌, ◌++◌, ◌∷◌, ℕ, List, [], length, true, false, Result, Ok, Err}
use Rattle.std.specs.List.{list_all}
use Rattle.std.specs.declared.vec.Vec.{Vec}
use Rattle.std.specs.declared.alloc.Global.{Global}
use Rattle.zy_text.specs.Words.{is_space, lines_of}
use Rattle.zy_json.specs.declared.faults.JsonFault.{JsonFault}
use Rattle.zy_json.specs.declared.faults.JsonFault.TheVariants as json
use Rattle.zy_json.specs.declared.faults.JsonLineFault.{JsonLineFault}
use Rattle.zy_json.specs.declared.faults.JsonLogFault.{JsonLogFault}
use Rattle.zy_json.specs.declared.faults.JsonLogFault.TheVariants.{Refused, Memory}
use Rattle.zy_json.specs.Meaning.{Reads, Tells}
use Rattle.zy_json.specs.Steps.{Step, log_text}

-- a line tells a line of a log: an object the one that says its step, and a line of spaces alone an empty one
abbrev pub TellsLine : List ℕ → List ℕ → Type 0
TellsLine line log = ((list_all is_space line ≡ true) × (log ≡ [])) ⊎ ((s : Step) × Tells line (Ok s) × (log ≡ log_text s))

-- each line tells the one in its place
abbrev pub TellEach : List (List ℕ) → List (List ℕ) → Type 0
TellEach [] [] = Unit {0}
TellEach [] (log ∷ logs) = ⊥
TellEach (line ∷ lines) [] = ⊥
TellEach (line ∷ lines) (log ∷ logs) = TellsLine line log × TellEach lines logs

-- a line tells none, for this fault
abbrev pub TellsNone : List ℕ → JsonFault → Type 0
TellsNone line json.Memory = ⊥
TellsNone line fault = (list_all is_space line ≡ false) × Reads line (Err fault)

-- the first that tells none, of lines the first of which has number n
pub record IsFirstNone (n : ℕ) (lines : List (List ℕ)) (r : JsonLineFault) : Type 0 where
  pub above : List (List ℕ)
  pub line : List ℕ
  pub below : List (List ℕ)
  pub logs : List (List ℕ)
  pub are : lines ≡ above ++ line ∷ below
  pub told : TellEach above logs
  pub number : r.line ≡ n + length above
  pub none : TellsNone line r.fault

-- the answer is what the lines of a text tell, or the first that tells none; where there was no memory nothing is known
abbrev pub ReadsObjects : ℕ → List ℕ → Result (Vec ℕ Global) JsonLogFault → Type 0
ReadsObjects n text (Ok v) = TellEach (lines_of text) (lines_of v.items)
ReadsObjects n text (Err (Refused r)) = IsFirstNone n (lines_of text) r
ReadsObjects n text (Err Memory) = Unit {0}

-- ---- for private clauses: the line that one line tells

abbrev pub Says : {X : Type 0} → List ℕ → List ℕ → Result X JsonFault → Type 0
Says line log (Ok x) = TellsLine line log
Says line log (Err json.Memory) = Unit {0}
Says line log (Err fault) = TellsNone line fault

abbrev pub SaysNumbered : {X : Type 0} → ℕ → List ℕ → List ℕ → Result X JsonLogFault → Type 0
SaysNumbered n line log (Ok x) = TellsLine line log
SaysNumbered n line log (Err (Refused r)) = (r.line ≡ n) × TellsNone line r.fault
SaysNumbered n line log (Err Memory) = Unit {0}
