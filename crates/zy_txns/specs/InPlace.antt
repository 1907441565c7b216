-- What becomes a copy of another without memory.
use Rattle.std.specs.Prelude.{◌≡◌, ◌⊎◌, List, [], ◌∷◌}
use Rattle.zy_table.specs.State.{Txn}

-- x can become y in place: y has no private rows, or those of x
abbrev pub FitsInPlace : Txn → Txn → Type 0
FitsInPlace x y = (y.rows ≡ []) ⊎ (x.rows ≡ y.rows)

-- as many transactions, each of which can become the one at its place
abbrev pub AllFitInPlace : List Txn → List Txn → Type 0
AllFitInPlace [] [] = Unit {0}
AllFitInPlace [] (y ∷ ys) = ⊥
AllFitInPlace (x ∷ xs) [] = ⊥
AllFitInPlace (x ∷ xs) (y ∷ ys) = FitsInPlace x y × AllFitInPlace xs ys
