-- The positions that were judged so far, and one more.
use Rattle.std.proofs.Common.{◌≡◌, ◌∙◌, ◌+◌, ◌++◌, ◌∷◌, [], ℕ, List, Bool, true, false, ap, sym, add-one, filter, if◌then◌else◌, length, append-nil}
use Rattle.std.proofs.lemmas.List.Elements.{filter-append}
use Rattle.zy_isa.specs.Scenario.{Scenario}
use Rattle.zy_machine.specs.Histories.{History}
use Rattle.zy_machine.specs.Replays.{Follows}
use Rattle.zy_machine.specs.Replays.{state_at}
use Rattle.zy_table.specs.State.{State}
use Rattle.zy_search.specs.Along.{below}
use Rattle.zy_search.specs.Searches.{shows}
use Rattle.zy_search.specs.declared.sought.Sought.{Sought}

-- what a machine shows is what the state at its position shows
pub shows_at : (h : History) (sc : Scenario) (q : Sought) (m : ℕ) → Follows h → h.scenario ≡ sc → length h.entries ≡ m
    → shows h.scenario q h.state ≡ shows sc q (state_at sc m)
shows_at h sc q m f e g =
    ap (λ (s : State). shows h.scenario q s) (f.state ∙ ap (λ n. state_at h.scenario n) g) ∙ ap (λ (x : Scenario). shows x q (state_at x m)) e

-- a number more, which passes a test or does not
one_more : (test : ℕ → Bool) (m : ℕ) (b : Bool) → test m ≡ b → filter test (below (m + 1)) ≡ filter test (below m) ++ (if b then m ∷ [] else [])
one_more test m b e =
    rw add-one (filter-append test (below m) (m ∷ []) ∙ ap (λ (x : Bool). filter test (below m) ++ (if x then m ∷ [] else [])) e)

-- one that passes it is put behind the others
pub more_passes : (test : ℕ → Bool) (m : ℕ) (xs ys : List ℕ) → xs ≡ filter test (below m) → test m ≡ true → ys ≡ xs ++ m ∷ []
    → ys ≡ filter test (below (m + 1))
more_passes test m xs ys is e more = more ∙ ap (λ l. l ++ m ∷ []) is ∙ sym (one_more test m true e)

-- one that does not is left out
pub more_fails : (test : ℕ → Bool) (m : ℕ) (xs ys : List ℕ) → xs ≡ filter test (below m) → test m ≡ false → ys ≡ xs
    → ys ≡ filter test (below (m + 1))
more_fails test m xs ys is e same = same ∙ is ∙ sym (append-nil (filter test (below m))) ∙ sym (one_more test m false e)
