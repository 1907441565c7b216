-- Whether two texts are the same, and else in which line they first differ.
use Rattle.std.specs.Prelude.{ℕ, ◌≡◌, ◌≤◌, ◌==◌, ◌+◌, List, [], ◌∷◌, ◌++◌, length, count_by, codes, if◌then◌else◌}
use Rattle.std.specs.Fmt.{decimal}
use Rattle.std.specs.Str.{bytes_eq}
use Rattle.zy_check.specs.declared.verdict.Verdict.{Verdict}
use Rattle.zy_check.specs.declared.verdict.Verdict.TheVariants.{Table, NotTable}

-- the longest common prefix
abbrev pub common : List ℕ → List ℕ → List ℕ
common [] ys = []
common (x ∷ xs) [] = []
common (x ∷ xs) (y ∷ ys) = if x == y then x ∷ common xs ys else []

-- how many LF are there
abbrev pub feeds : List ℕ → ℕ
feeds bytes = count_by (λ b. b == 10) bytes

-- the line, from 1, in which two texts differ
abbrev pub differs : List ℕ → List ℕ → ℕ
differs x y = feeds (common x y) + 1

-- the verdict on an input and the listing that it should be
abbrev pub verdict : List ℕ → List ℕ → Verdict
verdict input listing = if bytes_eq input listing then Table else NotTable (differs input listing)

-- its words
abbrev pub verdict_text : Verdict → List ℕ
verdict_text Table = codes "table"
verdict_text (NotTable line) = codes "not table " ++ decimal line

-- front is a prefix of text
abbrev pub IsPrefix : List ℕ → List ℕ → Type 0
IsPrefix front text = (back : List ℕ) × (text ≡ front ++ back)

-- both texts begin with shared, and with nothing longer
pub record IsLongestShared (shared x y : List ℕ) : Type 0 where
  pub left : IsPrefix shared x
  pub right : IsPrefix shared y
  pub longest : (other : List ℕ) → IsPrefix other x → IsPrefix other y → length other ≤ length shared
