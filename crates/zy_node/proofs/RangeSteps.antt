-- The pages of a range, step by step.
use Rattle.std.proofs.Common.{List, [], ap, arith, get_or, inl, inr, sym, ℕ, ◌<◌, ◌≤◌, ◌∙◌, ◌∷◌, ◌≡◌, None, Some}
use Rattle.std.specs.Prelude.{map}
use Rattle.zy_model.specs.Wireframe.{IsAfter, page_of}
use Rattle.zy_table.specs.Ranges.{lows_within}
use Rattle.zy_table.proofs.RangeWalk.{lows_within-next, lows_within-none, page_of-next}

-- where p alone has the least low key above a, and it is not above b, the low keys of the range begin with it
pub leads_next : (lows : List ℕ) (a b p l : ℕ) → IsAfter lows a (Some p) → l ≡ get_or lows p 0 → l ≤ b
    → (lows_within a b lows ≡ l ∷ lows_within l b lows) × (page_of lows l ≡ p) × (a < l) × (l ≤ b)
leads_next lows a b p l h e le =
    rw e (
      lows_within-next a b lows p h.0 h.1 (let f = e in omega (arith, le, f)) h.2,
      page_of-next a lows p h.0 h.1 h.2,
      h.1,
      (let f = e in omega (arith, le, f)),
    )

-- where the least low key above a is above b, the range has no low key
pub leads_past : (lows : List ℕ) (a b p l : ℕ) → IsAfter lows a (Some p) → l ≡ get_or lows p 0 → b < l → lows_within a b lows ≡ []
leads_past lows a b p l h e up = lows_within-none a b lows (λ q lt above. elim (h.2 q lt above) [
  | inl same ↦ (let f : get_or lows q 0 ≡ l = ap (λ z. get_or lows z 0) same ∙ sym e in omega (arith, f, up))
  | inr over ↦ omega (arith, e, over, up)
])

-- where no low key is above a, the range has none
pub leads_none : (lows : List ℕ) (a b : ℕ) → IsAfter lows a None → lows_within a b lows ≡ []
leads_none lows a b h = lows_within-none a b lows (λ q lt above. let under = h q lt in absurd (omega (arith, under, above)))

-- the pages behind one
abbrev pub behind : List ℕ → ℕ → ℕ → List ℕ
behind lows a b = map (page_of lows) (lows_within a b lows)
