-- How many pages the wireframe of a node may have.
use Rattle.std.proofs.Common.{◌≡◌, ℕ, ◌<◌, ◌≤◌, ap, subst, arith, length, Option, Some, None}
use Rattle.zy_model.specs.Wireframe.{Wireframe}
use Rattle.zy_node.specs.declared.node_store.NodeStore.{NodeStore}
use Rattle.zy_node.specs.Nodes.{Limits, IsLimited}
use Rattle.zy_node.specs.Wireframes.{lows_in, limit_or}

-- where both limits of a node are n, its wireframe, if it has one, may have n pages
pub own_limit : (n : ℕ) (x : NodeStore) → IsLimited n x → limit_or n x.wire ≡ n
own_limit n x h = subst (λ m. limit_or m x.wire ≡ n) (ap (λ (l : Limits). l.sent) h) (ap (λ (l : Limits). l.own) h)

-- a wireframe that may have n pages has a limit of at most m, where n is at most m
under : (n m : ℕ) (w : Option Wireframe) → limit_or n w ≡ n → n ≤ m → limit_or m w ≤ m
under n m None e le = omega arith
under n m (Some w) e le = omega (arith, e, le)

-- it has no more than any number that is not below its limit
pub limit_under : (n m : ℕ) (x : NodeStore) → IsLimited n x → n ≤ m → limit_or m x.wire ≤ m
limit_under n m x h le = under n m x.wire (own_limit n x h) le

-- a wireframe that has a page, and fewer than the n that it may have, has fewer than its limit
left : (n : ℕ) (w : Option Wireframe) → limit_or n w ≡ n → 0 < length (lows_in w) → length (lows_in w) < n → length (lows_in w) < limit_or 0 w
left n None e some less = absurd (omega (arith, some))
left n (Some w) e some less = omega (arith, e, less)

-- a wireframe that has a page, and fewer than its limit, can grow
pub limit_left : (n : ℕ) (x : NodeStore) → IsLimited n x → 0 < length (lows_in x.wire) → length (lows_in x.wire) < n
    → length (lows_in x.wire) < limit_or 0 x.wire
limit_left n x h some less = left n x.wire (own_limit n x h) some less
