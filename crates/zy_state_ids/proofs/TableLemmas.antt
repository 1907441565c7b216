-- A table of parts that takes one in.
use Rattle.std.proofs.Common.{◌≡◌, ◌∙◌, ◌==◌, ℕ, zero, suc, List, [], ◌∷◌, ◌++◌, map, Some, option_map, slice_get, Bool, true, false, refl, sym, ap, cond}
use Rattle.std.proofs.lemmas.Bool.Decides.{Decides-eqb}
use Rattle.std.proofs.lemmas.Slice.Eq.{slice_eq-Decides}
use Rattle.std.proofs.lemmas.Option.{slice_get-map}
use Rattle.std.proofs.lemmas.List.{map-append}
use Rattle.std.specs.Cmp.Lexicographic.{pointwise}
use Rattle.std.specs.List.{list_any}
use Rattle.std.specs.declared.vec.Vec.{Vec}
use Rattle.std.specs.declared.alloc.Global.{Global}
use Rattle.indexmap.specs.IndexSet.{insert_key}
use Rattle.zy_state_ids.specs.Parts.{Keeps}

-- bytes that are equal are the same
same_bytes : (xs ys : List ℕ) → pointwise (λ x y. x == y) xs ys ≡ true → xs ≡ ys
same_bytes xs ys e = (slice_eq-Decides Decides-eqb xs ys (pointwise (λ x y. x == y) xs ys) refl).0 e

-- the bytes of parts
abbrev pub bytes_of : List (Vec ℕ Global) → List (List ℕ)
bytes_of keys = map (λ v. v.items) keys

-- two parts have equal bytes
abbrev are_equal : Vec ℕ Global → Vec ℕ Global → Bool
are_equal v w = pointwise (λ x y. x == y) v.items w.items

-- the part at a place whose bytes are equal to some has these bytes
pub at_place : (keys : List (Vec ℕ Global)) (v k : Vec ℕ Global) (i : ℕ) → slice_get keys i ≡ Some k → are_equal v k ≡ true
    → slice_get (bytes_of keys) i ≡ Some v.items
at_place keys v k i e same =
    slice_get-map (λ (w : Vec ℕ Global). w.items) keys i ∙ ap (option_map (λ (w : Vec ℕ Global). w.items)) e ∙ ap Some (sym (same_bytes v.items k.items same))

-- what stands at a place stays there where more come behind
behind : (xs ys : List (List ℕ)) → Keeps xs (xs ++ ys)
behind [] ys i x e = cc
behind (z ∷ xs) ys zero x e = e
behind (z ∷ xs) ys (suc i) x e = behind xs ys i x e

module _ (keys : List (Vec ℕ Global)) (v : Vec ℕ Global) where
  -- where one more comes, or none
  kept_if : (b : Bool) → Keeps (bytes_of keys) (bytes_of (cond b keys (keys ++ v ∷ [])))
  kept_if true i x e = e
  kept_if false i x e = ap (λ zs. slice_get zs i) (map-append (λ (w : Vec ℕ Global). w.items) keys (v ∷ [])) ∙ behind (bytes_of keys) (v.items ∷ []) i x e

  -- each part keeps its number where one is taken in
  pub kept : (new : List (Vec ℕ Global)) → new ≡ insert_key are_equal keys v → Keeps (bytes_of keys) (bytes_of new)
  kept new e i x h = ap (λ zs. slice_get (bytes_of zs) i) e ∙ kept_if (list_any (are_equal v) keys) i x h
