-- The choices from the state of the path at a place are made one by one.
use Rattle.std.proofs.Common.{◌≡◌, ◌∙◌, ◌+◌, ◌<◌, ◌≤◌, ◌++◌, ◌∷◌, [], ℕ, List, true, false, inl, inr, get_or, sym, ap, subst, length, length-append}
use Rattle.std.proofs.Common.{arith}
use Rattle.std.proofs.lemmas.Bool.{cases_lt}
use Rattle.std.proofs.lemmas.List.{get_or_default}
use Rattle.zy_isa.specs.declared.choice.Choice.{Choice}
use Rattle.zy_isa.specs.declared.choice.Choice.TheVariants.{Start}
use Rattle.zy_table.specs.Play.{step}
use Rattle.zy_machine.specs.Histories.{History}
use Rattle.zy_search.specs.declared.sought.Sought.{Sought}
use Rattle.zy_search.specs.Stuck.{is_still}
use Rattle.zy_search.specs.Choices.{is_considered, considered}
use Rattle.zy_search.specs.Searches.{reached, deepest, Shows}
use Rattle.zy_search.specs.Visits.{path_at, length_at, Visits, Notes, ShowsNext, IsVisited, IsExpanded, FindsNext, Grows}
use Rattle.zy_search.proofs.ChoiceLemmas.{considered_at, has_considered}
use Rattle.zy_search.proofs.SearchLemmas.{visited_grown, path_more}
use Rattle.zy_search.specs.declared.kinds.ChoiceKinds.{ChoiceKinds}

-- each of the choices in the list is considered
pub is_one : (kinds : ChoiceKinds) (count i : ℕ) (cs : List Choice) → cs ≡ considered kinds count → i < length cs
    → is_considered kinds count (get_or cs i Start) ≡ true
is_one kinds count i cs e lt =
    let all = ap (λ (ds : List Choice). length ds) e in
    rw e (considered_at kinds count i Start (omega (arith, all, lt)))

-- an element of a list, whatever is read where there is none
pub element : (cs : List Choice) (i : ℕ) (d : Choice) → i < length cs → d ≡ get_or cs i d → d ≡ get_or cs i Start
element cs i d lt e = e ∙ get_or_default cs i d Start lt

-- each of the first n choices of a list leads from the path at a place of the old paths to a state like that of a path, which is at most one choice longer
abbrev pub AllLead : History → Sought → List (List Choice) → ℕ → List (List Choice) → List Choice → ℕ → Type 0
AllLead h q old at ps cs n =
    (j : ℕ) → j < n → IsVisited h q ps (length_at old at + 1) (step h.scenario (get_or cs j Start) (reached h (path_at old at))).after

-- Some of them were made, by which the paths went from old to cur.
module _ (h : History) (q : Sought) (old cur : List (List Choice)) (at : ℕ) (lt : at < length old) (g : Grows old cur) where
  -- one more
  pub lead_next : (new : List (List Choice)) (cs : List Choice) (i : ℕ) → Notes h q cur new at (get_or cs i Start) → AllLead h q old at cur cs i
      → AllLead h q old at new cs (i + 1)
  lead_next new cs i n lead = λ j below.
      elim (cases_lt j i) [
        | inl less ↦ visited_grown h q cur new _ _ n.grows (lead j less)
        | inr le ↦
            let here : j ≡ i = omega (arith, le, below) in
            rw here (subst (λ (p : List Choice). IsVisited h q new (length p + 1) (step h.scenario (get_or cs i Start) (reached h p)).after)
            (g.same at lt) n.known)
      ]

  -- all of them
  pub lead_all : (cs : List Choice) (i : ℕ) → cs ≡ considered q.kinds (length h.scenario.programs) → length cs ≤ i → AllLead h q old at cur cs i
      → IsExpanded h q cur at
  lead_all cs i e le lead = λ c a.
      let here = has_considered q.kinds (length h.scenario.programs) c a in
      let all = ap (λ (ds : List Choice). length ds) e in
      let got = lead here.0 (omega (arith, here.1, all, le)) in
      let is : get_or cs here.0 Start ≡ c = ap (λ (ds : List Choice). get_or ds here.0 Start) e ∙ here.2 in
      subst (λ (p : List Choice). IsVisited h q cur (length p + 1) (step h.scenario c (reached h p)).after) (sym (g.same at lt))
      (subst (λ (d : Choice). IsVisited h q cur (length_at old at + 1) (step h.scenario d (reached h (path_at old at))).after) is got)

  -- one that leads to a state that shows what is looked for
  pub found : (new : List (List Choice)) (c : Choice) (items : List Choice) → Visits h q old → length h.entries + length_at old at < deepest q
      → is_considered q.kinds (length h.scenario.programs) c ≡ true → ShowsNext h q cur new at c → items ≡ path_at new at ++ c ∷ [] → FindsNext h q old at items
  found new c items v room a next e =
      let p = path_at old at in
      let all : items ≡ p ++ c ∷ [] = e ∙ ap (λ l. l ++ c ∷ []) (next.grows.same at (omega (arith, lt, g.longer)) ∙ g.same at lt) in
      rw all (record {
        finds = record {
          path = path_more h q p c (v.paths at lt) room (subst (λ l. is_still (step h.scenario c (reached h l)).outcome ≡ false) (g.same at lt) next.moved) a;
          shows = subst (λ l. Shows h.scenario q (reached h (l ++ c ∷ []))) (g.same at lt) next.shows;
        };
        longer = length-append p (c ∷ []);
      })
