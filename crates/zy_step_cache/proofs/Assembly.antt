-- The numbers of a state, place by place, and others put at some of the places.
use Rattle.std.proofs.Common.{◌≡◌, ◌∙◌, ◌<◌, ℕ, zero, suc, List, [], ◌∷◌, length, map, drop, Option, Some, None, slice_get, slice_index_or, slice_set, Bool, true, false, refl, sym, ap, ap₂, arith, cond}
use Rattle.std.proofs.Math.Dec.{eqb}
use Rattle.std.proofs.lemmas.Bool.{eqb-true, eqb-false}
use Rattle.std.proofs.lemmas.List.{get_or-set_same, get_or-set_other, length-set}
use Rattle.zy_state_ids.specs.Parts.{AreNumbersOf}
use Rattle.zy_step_cache.specs.Places.{at, four}
use Rattle.zy_step_cache.specs.Steps.{put_at}

-- what is meant to be at each place
abbrev pub Meant : Type 0
Meant = ℕ → Option (List ℕ)

-- a table gives it for the numbers at the places
abbrev pub Gives : List (List ℕ) → List ℕ → Meant → Type 0
Gives table ns f = (p : ℕ) (x : List ℕ) → f p ≡ Some x → slice_get table (at ns p) ≡ Some x

-- the numbers of parts give each part at its place
pub gives : (table : List (List ℕ)) (ns : List ℕ) (xs : List (List ℕ)) → AreNumbersOf table ns xs → Gives table ns (slice_get xs)
gives table [] [] e p x h = cc
gives table [] (y ∷ ys) e p x h = cc
gives table (n ∷ ns) [] e p x h = cc
gives table (n ∷ ns) (y ∷ ys) e zero x h =
    let first : slice_get table n ≡ Some y = ap (λ os. slice_index_or os 0 None) e in
    first ∙ h
gives table (n ∷ ns) (y ∷ ys) e (suc p) x h =
    let behind : AreNumbersOf table ns ys = ap (drop 1) e in
    gives table ns ys behind p x h

-- as many numbers that give each part are the numbers of the parts
pub numbers : (table : List (List ℕ)) (ns : List ℕ) (xs : List (List ℕ)) → length ns ≡ length xs → Gives table ns (slice_get xs)
    → AreNumbersOf table ns xs
numbers table [] [] e g = refl
numbers table [] (y ∷ ys) e g = absurd (omega (arith, e))
numbers table (n ∷ ns) [] e g = absurd (omega (arith, e))
numbers table (n ∷ ns) (y ∷ ys) e g =
    ap₂ (λ (o : Option (List ℕ)) (os : List (Option (List ℕ))). o ∷ os) (g zero y refl)
    (numbers table ns ys (omega (arith, e)) (λ p x h. g (suc p) x h))

-- what is meant, with another meaning at one place
abbrev pub meant_at : Meant → Meant → ℕ → Meant
meant_at f g p q = cond (eqb q p) (g q) (f q)

module _ (table : List (List ℕ)) (g : Meant) where
  -- a number that gives what is meant at a place is put there
  one_put : (f : Meant) (ns : List ℕ) (p m : ℕ) → p < length ns → Gives table ns f → ((x : List ℕ) → g p ≡ Some x → slice_get table m ≡ Some x)
      → Gives table (slice_set ns p m) (meant_at f g p)
  one_put f ns p m h gives_f here q x e = by_test (eqb q p) refl e
    where
      by_test : (b : Bool) → eqb q p ≡ b → cond b (g q) (f q) ≡ Some x → slice_get table (at (slice_set ns p m) q) ≡ Some x
      by_test true t e =
          let same = eqb-true q p t in
          ap (λ r. slice_get table (at (slice_set ns p m) r)) same ∙ ap (slice_get table) (get_or-set_same ns p m 0 h)
          ∙ here x (sym (ap g same) ∙ e)
      by_test false t e = ap (slice_get table) (get_or-set_other ns p q m 0 (eqb-false q p t)) ∙ gives_f q x e

  -- numbers that give what is meant are put at four places
  pub four_put : (f : Meant) (ns after : List ℕ) (p q r s : ℕ) → p < length ns → q < length ns → r < length ns → s < length ns → Gives table ns f
      → ((x : List ℕ) → g p ≡ Some x → slice_get table (at after p) ≡ Some x) → ((x : List ℕ) → g q ≡ Some x → slice_get table (at after q) ≡ Some x)
      → ((x : List ℕ) → g r ≡ Some x → slice_get table (at after r) ≡ Some x) → ((x : List ℕ) → g s ≡ Some x → slice_get table (at after s) ≡ Some x)
      → Gives table (put_at ns (four p q r s) (map (at after) (four p q r s))) (meant_at (meant_at (meant_at (meant_at f g p) g q) g r) g s)
  four_put f ns after p q r s hp hq hr hs gives_f ap' aq ar as' =
      let lp = length-set ns p (at after p) in
      let np = slice_set ns p (at after p) in
      let lq = length-set np q (at after q) in
      let nq = slice_set np q (at after q) in
      let lr = length-set nq r (at after r) in
      let nr = slice_set nq r (at after r) in
      one_put _ nr s (at after s) (omega (arith, hs, lp, lq, lr))
      (one_put _ nq r (at after r) (omega (arith, hr, lp, lq))
      (one_put _ np q (at after q) (omega (arith, hq, lp))
      (one_put f ns p (at after p) hp gives_f ap') aq) ar) as'

-- where two meanings are the same at each place but one, the one with the other at that place is the other
other_at : (f g : Meant) (p q : ℕ) → ((q ≡ p → ⊥) → f q ≡ g q) → meant_at f g p q ≡ g q
other_at f g p q off = by_test (eqb q p) refl
  where
    by_test : (b : Bool) → eqb q p ≡ b → cond b (g q) (f q) ≡ g q
    by_test true t = refl
    by_test false t = off (eqb-false q p t)

-- the same of four places
pub other_at_four : (f g : Meant) (p q r s : ℕ) → ((i : ℕ) → (i ≡ p → ⊥) → (i ≡ q → ⊥) → (i ≡ r → ⊥) → (i ≡ s → ⊥) → f i ≡ g i)
    → (i : ℕ) → meant_at (meant_at (meant_at (meant_at f g p) g q) g r) g s i ≡ g i
other_at_four f g p q r s off i =
    let first = meant_at f g p in
    let second = meant_at first g q in
    let third = meant_at second g r in
    other_at third g s i (λ ns. other_at second g r i (λ nr. other_at first g q i (λ nq. other_at f g p i (λ np. off i np nq nr ns))))
