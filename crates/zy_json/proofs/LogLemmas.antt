-- The lines of a log that lines tell, one after the other.
use Rattle.std.proofs.Common.{◌≡◌, ◌∙◌, ◌+◌, ◌++◌, ◌∷◌, ℕ, List, [], length, inl, inr, refl, sym, ap, subst, arith, append_assoc, append-nil}
use Rattle.std.proofs.lemmas.List.{length-append}
use Rattle.zy_io.specs.Writing.{line_of}
use Rattle.zy_text.specs.Words.{lines_of}
use Rattle.zy_json.specs.declared.faults.JsonLineFault.{JsonLineFault}
use Rattle.zy_json.specs.Logs.{IsFirstNone, TellEach, TellsLine, TellsNone}
use Rattle.zy_json.specs.Steps.{log_text}
use Rattle.zy_json.proofs.BackLemmas.{IsLine-Tells}
use Rattle.zy_json.proofs.WordLemmas.{lines_of-log_text}

-- of all lines, the first of which has number `first`, those above number n were passed: what they tell are the first lines of a text
pub record Passed (first n : ℕ) (all left : List (List ℕ)) (text : List ℕ) : Type 0 where
  pub above : List (List ℕ)
  pub logs : List (List ℕ)
  pub are : all ≡ above ++ left
  pub told : TellEach above logs
  pub number : n ≡ first + length above
  pub lines : (more : List ℕ) → lines_of (text ++ more) ≡ logs ++ lines_of more

-- the line that a line tells is one line, whatever comes below it
one_line : (line log more : List ℕ) → TellsLine line log → lines_of (line_of log ++ more) ≡ log ∷ lines_of more
one_line line log more (inl blank) = subst (λ (t : List ℕ). lines_of (line_of t ++ more) ≡ t ∷ lines_of more) (sym blank.1) refl
one_line line log more (inr told) =
    subst (λ (t : List ℕ). lines_of (line_of t ++ more) ≡ t ∷ lines_of more) (sym told.2)
    (ap lines_of (append_assoc (log_text told.0) (10 ∷ []) more)
    ∙ lines_of-log_text told.0 more (IsLine-Tells line told.0 told.1))

-- one line more is told behind others
tell_more : (lines logs : List (List ℕ)) (line log : List ℕ) → TellEach lines logs → TellsLine line log → TellEach (lines ++ line ∷ []) (logs ++ log ∷ [])
tell_more [] [] line log told is = (is, tt)
tell_more [] (l ∷ logs) line log told is = absurd told
tell_more (l ∷ lines) [] line log told is = absurd told
tell_more (l ∷ lines) (m ∷ logs) line log told is = (told.0, tell_more lines logs line log told.1 is)

-- at first no line was passed
pub passed_none : (first : ℕ) (all : List (List ℕ)) → Passed first first all all []
passed_none first all = record { above = []; logs = []; are = refl; told = tt; number = omega arith; lines = λ more. refl }

-- then one line more was
pub passed_more : (first n : ℕ) (all left : List (List ℕ)) (text line log : List ℕ) → Passed first n all (line ∷ left) text → TellsLine line log
    → Passed first (n + 1) all left (text ++ line_of log)
passed_more first n all left text line log p is = record {
  above = p.above ++ line ∷ [];
  logs = p.logs ++ log ∷ [];
  are = p.are ∙ sym (append_assoc p.above (line ∷ []) left);
  told = tell_more p.above p.logs line log p.told is;
  number = omega (arith, p.number, length-append p.above (line ∷ []));
  lines = λ more. ap lines_of (append_assoc text (line_of log) more)
      ∙ (p.lines (line_of log ++ more)
      ∙ (ap (λ (ls : List (List ℕ)). p.logs ++ ls) (one_line line log more is) ∙ sym (append_assoc p.logs (log ∷ []) (lines_of more))));
}

-- in the end all were
pub passed_all : (first n : ℕ) (all : List (List ℕ)) (text : List ℕ) → Passed first n all [] text → TellEach all (lines_of text)
passed_all first n all text p =
    subst (λ (ls : List (List ℕ)). TellEach ls (lines_of text)) (sym (p.are ∙ append-nil p.above))
    (subst (TellEach p.above) (sym (append-nil p.logs) ∙ sym (p.lines []) ∙ ap lines_of (append-nil text)) p.told)

-- or the next one tells none
pub first_none : (first n : ℕ) (all below : List (List ℕ)) (text line : List ℕ) (r : JsonLineFault) → Passed first n all (line ∷ below) text
    → r.line ≡ n → TellsNone line r.fault → IsFirstNone first all r
first_none first n all below text line r p number none = record {
  above = p.above;
  line = line;
  below = below;
  logs = p.logs;
  are = p.are;
  told = p.told;
  number = number ∙ p.number;
  none = none;
}
