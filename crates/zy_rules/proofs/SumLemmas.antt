-- A sum, page by page.
use Rattle.std.proofs.Common.{List, [], ap, arith, get_or, inl, inr, subst, sym, true, ℕ, ◌+◌, ◌-◌, ◌<◌, ◌≤◌, ◌∙◌, ◌∷◌, ◌≡◌}
use Rattle.std.specs.Prelude.{◌==◌}
use Rattle.std.proofs.lemmas.Bool.{eqb-true, false≢true, or_cases}
use Rattle.zy_isa.specs.Rows.{get_row}
use Rattle.zy_model.specs.Wireframe.{page_of}
use Rattle.zy_model.proofs.PageOf.{page_of-from}
use Rattle.zy_table.specs.Numbers.{has}
use Rattle.zy_table.specs.Pages.{rows_of}
use Rattle.zy_table.specs.Ranges.{lows_within, range, total}
use Rattle.zy_table.specs.Run.{value_for}
use Rattle.zy_table.specs.State.{NodeState, Txn}
use Rattle.zy_node.specs.Sums.{value_beside}
use Rattle.zy_table.proofs.RangeLists.{has-within, total_same, within_range}
use Rattle.zy_table.proofs.RangeWalk.{above}
use Rattle.zy_node.proofs.RowSums.{own_apart, range_split, total_append, total_plus}

-- what a transaction's page has at a key that is not private
abbrev pub committed_at : Txn → NodeState → ℕ → ℕ
committed_at x n k = value_beside x.rows (rows_of n.pages (page_of n.lows k)) k

-- what t sees at the keys of a range is what its private rows have there and what the pages have beside these
pub sum_apart : (x : Txn) (n : NodeState) (a b : ℕ) → total (value_for x n) (range a b)
    ≡ total (value_beside [] x.rows) (range a b) + total (committed_at x n) (range a b)
sum_apart x n a b =
    total_same (value_for x n) (λ k. value_beside [] x.rows k + committed_at x n k) (range a b)
    (λ k _. own_apart (get_row x.rows k) (get_row (rows_of n.pages (page_of n.lows k)) k))
    ∙ total_plus (value_beside [] x.rows) (committed_at x n) (range a b)

-- the keys up to the next low key lie on one page
pub on_page_before : (lows : List ℕ) (a b e k : ℕ) → lows_within a b lows ≡ e ∷ lows_within e b lows → e ≤ b → a ≤ k → k < e → page_of lows k ≡ page_of lows a
on_page_before lows a b e k is le from to =
    elim (page_of-from lows a k from) [
      | inl same ↦ sym same
      | inr one ↦
          let low : get_or lows one.0 0 ≤ k = one.3 in
          let there = has-within a b lows one.0 one.1 one.2 (omega (arith, low, to, le)) in
          elim (or_cases (e == get_or lows one.0 0) (has (lows_within e b lows) (get_or lows one.0 0))
          (subst (λ ks. has ks (get_or lows one.0 0) ≡ true) is there)) [
            | inl first ↦ (let same = eqb-true _ _ first in absurd (omega (arith, same, low, to)))
            | inr rest ↦ (let up = above e b lows (get_or lows one.0 0) rest in absurd (omega (arith, up, low, to)))
          ]
    ]

-- where the range from a to b has no further low key, each of its keys lies on a's page
pub on_last_page : (lows : List ℕ) (a b k : ℕ) → lows_within a b lows ≡ [] → a ≤ k → k ≤ b → page_of lows k ≡ page_of lows a
on_last_page lows a b k is from to =
    elim (page_of-from lows a k from) [
      | inl same ↦ sym same
      | inr one ↦
          let low : get_or lows one.0 0 ≤ k = one.3 in
          absurd (false≢true (subst (λ ks. has ks (get_or lows one.0 0) ≡ true) is (has-within a b lows one.0 one.1 one.2 (omega (arith, low, to)))))
    ]

-- where the keys from a to c lie on one page, what the pages have there is what that page has
pub one_page : (x : Txn) (n : NodeState) (a c p : ℕ) → ((k : ℕ) → a ≤ k → k ≤ c → page_of n.lows k ≡ p)
    → total (committed_at x n) (range a c) ≡ total (value_beside x.rows (rows_of n.pages p)) (range a c)
one_page x n a c p on =
    total_same (committed_at x n) (value_beside x.rows (rows_of n.pages p)) (range a c)
    (λ k h. let r = within_range a c k h in ap (λ q. value_beside x.rows (rows_of n.pages q) k) (on k r.0 r.1))

-- what the pages have at the keys from a to b is what they have below c and from c on
pub page_apart : (x : Txn) (n : NodeState) (a b c : ℕ) → a < c → c ≤ b
    → total (committed_at x n) (range a b) ≡ total (committed_at x n) (range a (c - 1)) + total (committed_at x n) (range c b)
page_apart x n a b c up le = ap (total (committed_at x n)) (range_split a b c up le) ∙ total_append (committed_at x n) (range a (c - 1)) (range c b)
