use Rattle.std.proofs.Common.{◌≡◌, ◌≤◌, ℕ, List, Option, arith, length}
use Rattle.std.proofs.lemmas.Bool.{leb-true, le-leb}
use Rattle.zy_model.specs.Leaf.{Leaf}
use Rattle.zy_node.proofs.AllPages.{all_counted, all_filled}
use Rattle.zy_node.proofs.SlotLemmas.{few_slots, rising_slots}
use Rattle.zy_node.specs.OwnedPages.{OwnsBelow}
use Rattle.zy_node.specs.Slots.{laid_out, InPlace}
use Rattle.zy_node.proofs.page_store.PageStore.owns_below.Goals as goal

-- the slots end by n
filled : (n count : ℕ) (s : List (Option Leaf)) → InPlace 0 s → count ≡ length (laid_out s) → length s ≤ n → n ≤ count → OwnsBelow n (laid_out s)
filled n count s placed all few full q lt =
    let most = few_slots s in
    all_filled 0 s placed (omega (arith, all, few, full)) q (omega arith) (omega (arith, lt, all, full, most))

counted : (n count : ℕ) (s : List (Option Leaf)) → InPlace 0 s → count ≡ length (laid_out s) → OwnsBelow n (laid_out s) → n ≤ count
counted n count s placed all own =
    let few = all_counted 0 n (laid_out s) (rising_slots 0 s placed) (λ q low high. own q high) in
    omega (arith, all, few)

pub returns-then-len-below : goal.returns-then-len-below
returns-then-len-below c =
    let s = c.self.inside.slots.items in
    let all = rw (← c.self.view_is) at c.requires in
    let short : length s ≤ c.args.n = omega (arith, c.if-len-below.true, c.len.ensures, c.self.inside.slots.ok.0, c.from-below.ensures) in
    rw (← c.self.view_is, c.from-below.ensures) (
      (λ full. filled c.args.n c.args.count s c.self.invariant.placed all short (leb-true _ _ full)),
      (λ own. le-leb _ _ (counted c.args.n c.args.count s c.self.invariant.placed all own)),
    )
