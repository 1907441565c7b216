-- A list is read as its items are.
use Rattle.std.proofs.Common.{◌≡◌, ◌++◌, ◌∷◌, [], Err, inl, inr, sym, ap, ◌∙◌, arith, length, length-append, rules}
use Rattle.std.proofs.lemmas.Result.{err_from_is_err_and}
use Rattle.zy_image.proofs.ListLemmas.{item_more, item_fails}
use Rattle.zy_image.proofs.lists.read_items.Goals as goal

pub returns-in_err-item : goal.returns-in_err-item
returns-in_err-item g c =
    let p = err_from_is_err_and c.from_residual-in_err-item.result c.from_residual-in_err-item.ensures.1 in
    let before = c.as_slice.ensures.value in
    rw p.1 (elim c.in_err-item.ensures [
      | inl e ↦ inl (p.2 ∙ e)
      | inr e ↦ inr (sym c.loop.invariant.same
          ∙ item_fails (g.I.Items.next c.args.kind.now) c.loop.items.items c.loop.left.now _ c.loop.counter c.args.count c.loop-test.true
          (ap (λ b. g.I.Items.next c.args.kind.now b c.loop.left.now) (sym before) ∙ e)
          ∙ ap Err (sym p.2))
    ])

pub loop-preserved : goal.loop-preserved
loop-preserved g c =
    let before = c.as_slice.ensures.value in
    let pushed : c.push_reserved.new.self.items ≡ c.loop.items.items ++ c.in_ok-item.item ∷ [] = search rules in
    record {
      made = omega (arith, ap length pushed, length-append c.loop.items.items (c.in_ok-item.item ∷ []), c.loop.invariant.made);
      room = search rules;
      same =
          rw pushed (item_more (g.I.Items.next c.args.kind.now) c.loop.items.items c.loop.left.now c.in_ok-item.item c.in_ok-item.rest.now c.loop.counter
          c.args.count c.loop-test.true
          (ap (λ b. g.I.Items.next c.args.kind.now b c.loop.left.now) (sym before) ∙ c.in_ok-item.ensures) ∙ c.loop.invariant.same);
    }
