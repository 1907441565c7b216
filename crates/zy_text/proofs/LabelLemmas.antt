-- A label by the last byte of its word.
use Rattle.std.proofs.Common.{◌≡◌, ℕ, ◌==◌, Bool, true, false, List, [], ◌∷◌, ◌++◌, length, Option, Some, None, refl, sym, ap, ◌∙◌, arith}
use Rattle.std.specs.Prelude.{if◌then◌else◌}
use Rattle.std.specs.Option.{option_map}
use borrow.Author.Tests.{eqb-true}
use Rattle.zy_text.specs.Names.{label_of}

-- a word by its last byte
pub label-last : (w : List ℕ) (b : ℕ) → label_of (w ++ b ∷ []) ≡ (if b == 58 then Some w else None)
label-last [] b = refl
label-last (c ∷ []) b = next (b == 58)
  where
    next : (t : Bool) → option_map (λ w. c ∷ w) (if t then Some [] else None) ≡ (if t then Some (c ∷ []) else None)
    next true = refl
    next false = refl
label-last (c ∷ d ∷ w) b = ap (option_map (λ v. c ∷ v)) (label-last (d ∷ w) b) ∙ next (b == 58)
  where
    next : (t : Bool) → option_map (λ v. c ∷ v) (if t then Some (d ∷ w) else None) ≡ (if t then Some (c ∷ d ∷ w) else None)
    next true = refl
    next false = refl

-- a byte that is not a colon fails the test for a colon
not58 : (b : ℕ) (t : Bool) → (b == 58) ≡ t → (b ≡ 58 → ⊥) → (b == 58) ≡ false
not58 b true e h = absurd (h (eqb-true b 58 e))
not58 b false e h = e

-- a word whose last byte is not a colon is no label
pub label-not : (w : List ℕ) (b : ℕ) → (b ≡ 58 → ⊥) → label_of (w ++ b ∷ []) ≡ None
label-not w b h = label-last w b ∙ rw (not58 b (b == 58) refl h) refl

-- a word without a byte is no label
pub label-none : (w : List ℕ) → length w ≡ 0 → label_of w ≡ None
label-none [] h = refl
label-none (b ∷ bs) h = absurd (omega arith)

-- what a byte in front makes of a word, if it is some word, is that byte and the word
option_some : (b : ℕ) (o : Option (List ℕ)) (v : List ℕ) → option_map (λ w. b ∷ w) o ≡ Some v → (u : List ℕ) × (o ≡ Some u) × (v ≡ b ∷ u)
option_some b None v h = cc
option_some b (Some u) v h = (u, refl, cc)

-- a label's word is its name with a colon behind it
pub label_ok : (w v : List ℕ) → label_of w ≡ Some v → w ≡ v ++ 58 ∷ []
label_ok [] v h = cc
label_ok (b ∷ []) v h = last (b == 58) refl h
  where
    last : (t : Bool) → (b == 58) ≡ t → (if t then Some [] else None) ≡ Some v → b ∷ [] ≡ v ++ 58 ∷ []
    last true e q = let p : [] ≡ v = cc in ap (λ x. x ∷ []) (eqb-true b 58 e) ∙ ap (λ u. u ++ 58 ∷ []) p
    last false e q = cc
label_ok (b ∷ c ∷ bs) v h =
    let p = option_some b (label_of (c ∷ bs)) v h in
    ap (λ u. b ∷ u) (label_ok (c ∷ bs) p.0 p.1) ∙ ap (λ u. u ++ 58 ∷ []) (sym p.2)
