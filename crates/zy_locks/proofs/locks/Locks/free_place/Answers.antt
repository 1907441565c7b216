use Rattle.std.proofs.Common.{◌≡◌, ◌∙◌, ◌+◌, ◌-◌, ◌≤◌, ℕ, length, min, refl, sym, ap, arith, inl, inr}
use Rattle.std.specs.Prelude.{◌⊎◌}
use Rattle.std.proofs.lemmas.Bool.{cases_lt, true≢false}
use Rattle.zy_model.specs.Locks.{clashes}
use Rattle.zy_locks.proofs.Agreeing.{any_part, none_beside}
use Rattle.zy_locks.proofs.Alone.{alone_free}
use Rattle.zy_locks.proofs.locks.Locks.free_place.Goals as goal

pub returns-then-any_clashes-clause-place : goal.returns-then-any_clashes-clause-place
returns-then-any_clashes-clause-place c =
    let near = rw c.deref-2.ensures.value at (sym c.any_clashes.ensures ∙ c.if-any_clashes.true) in
    rw (← c.self.view_is) (any_part (clashes c.args.page c.args.txn c.args.kind) c.saturating_sub.result
    (c.min.result - c.saturating_sub.result) c.self.inside.locks.items near)

pub returns-then-any_clashes-clause-alone : goal.returns-then-any_clashes-clause-alone
returns-then-any_clashes-clause-alone c alone =
    let near = rw c.deref-2.ensures.value at (sym c.any_clashes.ensures ∙ c.if-any_clashes.true) in
    let hit = any_part (clashes c.args.page c.args.txn c.args.kind) c.saturating_sub.result
    (c.min.result - c.saturating_sub.result) c.self.inside.locks.items near in
    let free = alone_free c.args.page c.args.txn c.args.kind c.self.inside.locks.items c.self.invariant.1 (rw (← c.self.view_is) at alone) in
    absurd (true≢false (sym hit ∙ free))

-- up to where the locks beside the place reach
reaches : (i n at len up : ℕ) → up ≡ min len (at + 2) → n ≡ up - i → i ≤ up → (len ≤ i + n) ⊎ (at + 2 ≤ i + n)
reaches i n at len up e f le = elim (cases_lt len (at + 2)) [ inl less ↦ inl (omega (arith, e, f, less, le)) | inr more ↦ inr (omega (arith, e, f, more, le)) ]

pub returns-else-any_clashes-clause-place : goal.returns-else-any_clashes-clause-place
returns-else-any_clashes-clause-place c =
    let locks = c.self.inside.locks.items in
    let placed = rw c.deref.ensures.value at c.place-at.ensures in
    let near = rw c.deref-2.ensures.value at (sym c.any_clashes.ensures ∙ c.if-any_clashes.false) in
    let all = rw (← c.self.view_is) at c.len.ensures in
    let few = placed.0 in
    let i = c.saturating_sub.result in
    let up = c.min.result in
    let top = reaches i (up - i) c.place-at.result (length locks) up (c.min.ensures ∙ ap (λ n. min n (c.place-at.result + 2)) all) refl
    (omega (arith, few, all, c.saturating_sub.ensures, c.min.ensures)) in
    let free = none_beside c.args.page c.args.txn c.place-at.result i (up - i) c.args.kind locks c.self.invariant.0 c.self.invariant.1 placed
    (omega (arith, c.saturating_sub.ensures)) top near in
    rw (← c.self.view_is) (free, placed)
