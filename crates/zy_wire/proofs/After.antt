-- The page with the least low key above a key.
use Rattle.std.proofs.Common.{◌≡◌, ◌∙◌, ℕ, ◌≤◌, List, length, get_or, arith, Some, inl, inr}
use Rattle.std.specs.Prelude.{Contains}
use Rattle.std.proofs.lemmas.Bool.{cases_lt, cases_order}
use Rattle.std.proofs.lemmas.List.{get_or_default}
use Rattle.zy_wire.specs.Pages.{Apart}
use Rattle.zy_model.specs.Wireframe.{page_of, IsNextLow, IsAfter}
use Rattle.zy_model.proofs.PageOf.{page_of-within, page_of-greatest}

-- the page of that low key has it
pub at_key : (lows : List ℕ) (end : ℕ) → Contains lows end → get_or lows (page_of lows end) 0 ≡ end
at_key lows end key =
    let here : get_or lows key.0 0 ≡ end = get_or_default lows key.0 0 end key.1 ∙ key.2 in
    let g = page_of-greatest lows end key.0 key.1 (omega arith) in
    omega (arith, g.0, g.1)

-- no other page has it
pub after_key : (lows : List ℕ) (k end : ℕ) → Apart lows → 1 ≤ length lows → IsNextLow lows k (Some end) → IsAfter lows k (Some (page_of lows end))
after_key lows k end apart some next =
    let p = page_of lows end in
    let is = at_key lows end next.0 in
    let within = page_of-within lows end (omega (arith, some)) in (
      within,
      (let up = next.1 in omega (arith, up, is)),
      λ q lt up.
          let least = next.2 q lt up in
          elim (cases_order q p) [
            | inl same ↦ inl same
            | inr (inl before) ↦ inr (elim (cases_lt end (get_or lows q 0)) [
              | inl over ↦ omega (arith, over, is)
              | inr not ↦ absurd (apart q p before within (omega (arith, least, not, is)))
            ])
            | inr (inr past) ↦ inr (elim (cases_lt end (get_or lows q 0)) [
              | inl over ↦ omega (arith, over, is)
              | inr not ↦ absurd (apart p q past lt (omega (arith, least, not, is)))
            ])
          ],
    )
