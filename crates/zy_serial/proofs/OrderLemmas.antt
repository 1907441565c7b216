-- A step more of a sorted history.
use Rattle.std.proofs.Common.{◌≡◌, ◌∙◌, ℕ, zero, suc, ◌+◌, ◌<◌, List, [], ◌∷◌, length, drop, get_or, min, refl, ap, sym, arith, true, inl, inr}
use Rattle.std.proofs.lemmas.Bool.{cases_lt}
use Rattle.std.proofs.lemmas.List.{drop_all}
use Rattle.zy_isa.specs.Choices.{names_below}
use Rattle.zy_isa.specs.Scenario.{AreNamed, Scenario}
use Rattle.zy_laws.specs.SourceFirst.{Sorted, sorted, sorted_step}
use Rattle.zy_machine.specs.Histories.{choices_of}
use Rattle.zy_table.specs.Play.{step}
use Rattle.zy_table.specs.State.{State}
use Rattle.zy_table.specs.declared.entry.Entry.{Entry}

-- the choices that are left of a history are that of the next entry and those behind it
pub choices_left : (es : List Entry) (i : ℕ) (d : Entry) → i < length es → drop i (choices_of es) ≡ (get_or es i d).choice ∷ drop (i + 1) (choices_of es)
choices_left [] i d lt = absurd (omega arith)
choices_left (e ∷ es) zero d lt = refl
choices_left (e ∷ es) (suc i) d lt =
    let next : suc (i + 1) ≡ suc i + 1 = omega arith in
    choices_left es i d (omega arith) ∙ ap (λ n. (get_or es i d).choice ∷ drop n (choices_of (e ∷ es))) next

-- the choice of an entry names a transaction that exists
pub named_there : (count : ℕ) (es : List Entry) (i : ℕ) (d : Entry) → AreNamed count (choices_of es) → i < length es
    → names_below count (get_or es i d).choice ≡ true
named_there count [] i d h lt = absurd (omega arith)
named_there count (e ∷ es) zero d h lt = h.0
named_there count (e ∷ es) (suc i) d h lt = named_there count es i d h.1 (omega arith)

-- a step sorts what came of the next entry
pub sorted_next : (sc : Scenario) (es : List Entry) (i : ℕ) (d : Entry) (s t : State) (o p : Sorted) → i < length es
    → t ≡ (step sc (get_or es i d).choice s).after → p ≡ sorted_step sc (get_or es i d).choice s o
    → sorted sc t (drop (i + 1) (choices_of es)) p ≡ sorted sc s (drop i (choices_of es)) o
sorted_next sc es i d s t o p lt after next =
    let rest = drop (i + 1) (choices_of es) in
    ap (λ (x : State). sorted sc x rest p) after ∙ (ap (sorted sc (step sc (get_or es i d).choice s).after rest) next
    ∙ sym (ap (λ cs. sorted sc s cs o) (choices_left es i d lt)))

-- what is left of a list after a number of elements, or all of them
pub drop_min : {X : Type 0} (n : ℕ) (xs : List X) → drop (min n (length xs)) xs ≡ drop n xs
drop_min n xs =
    elim (cases_lt n (length xs)) [
      | inl less ↦ ap (λ k. drop k xs) (let same : min n (length xs) ≡ n = omega (arith, less) in same)
      | inr more ↦ drop_all (min n (length xs)) xs (omega (arith, more)) ∙ sym (drop_all n xs more)
    ]
