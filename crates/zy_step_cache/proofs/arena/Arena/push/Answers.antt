-- The list comes behind the even ones, or behind the others.
use Rattle.std.proofs.Common.{◌≡◌, ◌∙◌, ◌++◌, ◌∷◌, [], ap, ap₂, arith, length, suc, sym}
use Rattle.zy_step_cache.specs.Even.{even_lists}
use Rattle.zy_step_cache.proofs.ArenaLemmas.{even_more, items_of, other_more}
use Rattle.zy_step_cache.proofs.arena.Arena.push.Goals as goal

pub returns-clause-ok : goal.returns-clause-ok
returns-clause-ok c =
    let a = c.self.inside in
    let lists = even_lists a.width a.even a.numbers.items in
    let copy = c.in_ok-extend_from_slice-2.ensures.items ∙ ap (λ xs. xs ++ c.args.numbers.now) c.in_ok-other.ensures.items in
    ap (λ vs. lists ++ items_of vs) c.in_ok-push.ensures.items
    ∙ other_more lists a.others.items _
    ∙ ap₂ (λ xs x. xs ++ x ∷ []) c.self.view_is copy

pub returns-then-is_even-clause-ok : goal.returns-then-is_even-clause-ok
returns-then-is_even-clause-ok c =
    let a = c.self.inside in
    let more = c.args.numbers.now in
    let one : c.in-Some.len ≡ suc a.len = omega (arith, c.in-Some.ensures.1) in
    ap₂ (λ n ns. even_lists (length more) n ns ++ items_of a.others.items) one c.in_ok-extend_from_slice.ensures.items
    ∙ even_more a.width a.even a.len a.numbers.items more a.others.items c.self.invariant.0 c.self.invariant.1 (sym c.is_even.ensures ∙ c.if-is_even.true)
    ∙ ap (λ xs. xs ++ more ∷ []) c.self.view_is
