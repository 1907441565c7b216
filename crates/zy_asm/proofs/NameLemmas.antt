-- What look-ups and new names come to.
use Rattle.std.proofs.Common.{◌≡◌, ℕ, List, [], ◌∷◌, ◌++◌, map, refl, ap, ◌∙◌, Vec, Global}
use Rattle.std.proofs.lemmas.List.{map-append}
use Rattle.std.specs.Map.{lookup}
use Rattle.std.specs.Str.{bytes_eq}
use Rattle.zy_text.specs.Names.{Mark, place}

-- an entry of the map as a name and the number that it stands for
abbrev shown_entry : Vec ℕ Global × ℕ → Mark
shown_entry e = (e.0.items, e.1)

-- a look-up in the map is one in the table
pub lookup-place : (w : List ℕ) (es : List (Vec ℕ Global × ℕ)) → lookup (λ v. bytes_eq w v.items) es ≡ place w (map shown_entry es)
lookup-place w [] = refl
lookup-place w (e ∷ es) = rw (lookup-place w es) refl

-- a new entry goes last
pub entries-add : (old new : List (Vec ℕ Global × ℕ)) (v : Vec ℕ Global) (w : List ℕ) (n : ℕ) → new ≡ old ++ (v, n) ∷ [] → v.items ≡ w
    → map shown_entry new ≡ map shown_entry old ++ (w, n) ∷ []
entries-add old new v w n e h = ap (map shown_entry) e ∙ map-append shown_entry old ((v, n) ∷ [])
    ∙ ap (λ u. map shown_entry old ++ (let m : Mark = (u, n) in m) ∷ []) h
