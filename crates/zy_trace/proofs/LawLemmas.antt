-- Whoever keeps the last line of each subject has the lines of the last state.
use Rattle.std.proofs.Common.{◌≡◌, ◌∙◌, ℕ, Bool, true, false, List, [], ◌∷◌, refl, ap}
use Rattle.std.specs.Prelude.{if◌then◌else◌}
use Rattle.std.specs.Str.{bytes_eq}
use Rattle.std.proofs.lemmas.Slice.Eq.{bytes_eq-Decides}
use Rattle.zy_table.specs.State.{State}
use Rattle.zy_table.specs.Play.{step}
use Rattle.zy_trace.specs.declared.subject.Subject.{Subject}
use Rattle.zy_trace.specs.Subjects.{line_in, lines_of_subject}
use Rattle.zy_trace.specs.Laws.{or_before, last_shown, LastLines}

-- the line that is shown, or else the one before, is the new one, if the test finds them the same only where they are equal
kept_or_shown : (same : Bool) (old new : List ℕ) → (same ≡ true → old ≡ new) → or_before (if same then [] else new ∷ []) old ≡ new
kept_or_shown true old new h = h refl
kept_or_shown false old new h = refl

-- whoever keeps the last line of a subject has its new line after one step
shown_now : (s t : State) (x : Subject) → or_before (lines_of_subject false s t x) (line_in s x) ≡ line_in t x
shown_now s t x =
    kept_or_shown (bytes_eq (line_in s x) (line_in t x)) (line_in s x) (line_in t x) (bytes_eq-Decides (line_in s x) (line_in t x)).0

-- whoever keeps the last line of a subject has its line in the state after all choices
pub last_is : LastLines
last_is sc s [] x = refl
last_is sc s (c ∷ cs) x =
    let t = (step sc c s).after in ap (last_shown sc t cs x) (shown_now s t x) ∙ last_is sc t cs x
