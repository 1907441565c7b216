-- The place of a page and the page are found by one walk over the places, since no two of them have the same page.
use Rattle.std.proofs.Common.{◌≡◌, ◌∙◌, ℕ, ◌≤◌, Bool, true, false, List, Option, None, Some, ap, arith, is_some, refl, subst, sym}
use Rattle.std.specs.Option.{option_or}
use Rattle.std.specs.Prelude.{if◌then◌else◌, nat_lt}
use Rattle.zy_isa.specs.declared.choice.Choice.{Choice}
use Rattle.zy_isa.specs.declared.node.Node.TheVariants.{A, B}
use Rattle.zy_isa.specs.Scenario.{Scenario}
use Rattle.zy_model.specs.Leaf.{Leaf}
use Rattle.zy_table.specs.declared.place.Place.TheVariants.{Nowhere, At, Moving}
use Rattle.zy_table.specs.Database.{all_leaves, sent_leaves}
use Rattle.zy_table.specs.Pages.{owns, page_in}
use Rattle.zy_table.specs.Places.{place_of}
use Rattle.zy_table.specs.Play.{play, opening}
use Rattle.zy_table.specs.State.{State}
use Rattle.zy_table.proofs.PageFinds.{owns-page_in}
use Rattle.zy_laws.specs.OneOwner.{OneOwner, times, width}
use Rattle.zy_laws.proofs.owner.OneOwner.{one_owner}
use Rattle.zy_laws.proofs.owner.PageCounts.{owns-times, times-all_leaves, times-sent_leaves}
use Rattle.zy_machine.proofs.AccessLemmas.{page_in-all}

-- ---- no page is in both links

-- a number that is one or zero by a test is at most one
at_most_one : (n : ℕ) (b : Bool) → n ≡ (if b then 1 else 0) → n ≤ 1
at_most_one n true e = omega (arith, e)
at_most_one n false e = omega (arith, e)

-- no page is in both links where each page is at one place
not_in_both : (p : ℕ) (s : State) → OneOwner s → owns (sent_leaves s.ab) p ≡ true → owns (sent_leaves s.ba) p ≡ true → ⊥
not_in_both p s one in_ab in_ba =
    let few = at_most_one (times p (all_leaves s)) (nat_lt p (width s)) (one p) in
    let ab = owns-times p (sent_leaves s.ab) in_ab in
    let ba = owns-times p (sent_leaves s.ba) in_ba in
    let all = times-all_leaves p s in
    let from_a = times-sent_leaves p s.ab in
    let from_b = times-sent_leaves p s.ba in
    absurd (omega arith)

-- which of two is asked first makes no difference where at most one of them has something
either_first : (x y : Option Leaf) → (is_some x ≡ true → is_some y ≡ true → ⊥) → option_or y x ≡ option_or x y
either_first None None h = refl
either_first None (Some v) h = refl
either_first (Some u) None h = refl
either_first (Some u) (Some v) h = absurd (h refl refl)

-- ---- the four places in one order

-- a page at A, or else at B, or else on its way from A, or else on its way from B
page_in-places : (p : ℕ) (s : State) → OneOwner s
    → page_in p (all_leaves s) ≡ option_or (page_in p s.a.pages) (option_or (page_in p s.b.pages)
    (option_or (page_in p (sent_leaves s.ab)) (page_in p (sent_leaves s.ba))))
page_in-places p s one =
    let from_a = sent_leaves s.ab in
    let from_b = sent_leaves s.ba in
    page_in-all p s.a.pages s.b.pages from_b from_a
    ∙ ap (λ (o : Option Leaf). option_or (page_in p s.a.pages) (option_or (page_in p s.b.pages) o))
    (either_first (page_in p from_a) (page_in p from_b) (λ x y. not_in_both p s one (owns-page_in p from_a ∙ x) (owns-page_in p from_b ∙ y)))

-- the same of a state that choices lead to
pub page_in-reached : (sc : Scenario) (cs : List Choice) (s : State) (p : ℕ) → s ≡ play sc (opening sc) cs
    → page_in p (all_leaves s) ≡ option_or (page_in p s.a.pages) (option_or (page_in p s.b.pages)
    (option_or (page_in p (sent_leaves s.ab)) (page_in p (sent_leaves s.ba))))
page_in-reached sc cs s p e = page_in-places p s (subst OneOwner (sym e) (one_owner sc cs))

-- its place
pub place_by : (p : ℕ) (s : State)
    → place_of p s
    ≡ (if is_some (page_in p s.a.pages) then At A else
    if is_some (page_in p s.b.pages) then At B else
    if is_some (page_in p (sent_leaves s.ab)) then Moving A else
    if is_some (page_in p (sent_leaves s.ba)) then Moving B else
    Nowhere)
place_by p s =
    rw (owns-page_in p s.a.pages, owns-page_in p s.b.pages, owns-page_in p (sent_leaves s.ab), owns-page_in p (sent_leaves s.ba)) refl
