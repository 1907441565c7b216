-- The pages that a node asked for, and what is on its way to it.
use Rattle.std.specs.Prelude.{ℕ, ◌≡◌, ◌≤◌, ◌<◌, ◌⊎◌, ◌==◌, ◌+◌, List, [], ◌∷◌, true, false, if◌then◌else◌, length}
use Rattle.zy_model.specs.Messages.{Message, Pull}
use Rattle.zy_model.specs.Table.{may_pull}
use Rattle.zy_table.specs.declared.outcome.Outcome.{Outcome}
use Rattle.zy_table.specs.declared.outcome.Outcome.TheVariants.{Awaits, Pulls}
use Rattle.zy_table.specs.Database.{sent_leaves}
use Rattle.zy_table.specs.Numbers.{has}
use Rattle.zy_table.specs.Pages.{owns}
use Rattle.zy_table.specs.State.{NodeState, View}

-- how often a message asks for page p
abbrev pub pull_in : ℕ → Message → ℕ
pull_in p (Pull q) = if q == p then 1 else 0
pull_in p m = 0

-- how often the messages of a link do
abbrev pub pulls : ℕ → List Message → ℕ
pulls p [] = 0
pulls p (m ∷ ms) = pull_in p m + pulls p ms

-- n asks for pages, and p is a page of its wireframe that it lacks; the pull of p is on the outbound link, or p itself
-- on the inbound one
pub record IsComing (v : View) (p : ℕ) : Type 0 where
  pub asks : may_pull v.me.mode ≡ true
  pub known : p < length v.me.lows
  pub lacks : owns v.me.pages p ≡ false
  pub coming : (pulls p v.outbox ≡ 1) ⊎ (owns (sent_leaves v.inbox) p ≡ true)

-- each page that is asked for is coming; each is on the outbound link at most once, and one that is there is asked for,
-- or has come
pub record OnItsWay (v : View) : Type 0 where
  pub asked : (p : ℕ) → has v.me.asked p ≡ true → IsComing v p
  pub once : (p : ℕ) → pulls p v.outbox ≤ 1
  pub pulled : (p : ℕ) → pulls p v.outbox ≡ 1 → (has v.me.asked p ≡ true) ⊎ (owns v.me.pages p ≡ true)

-- a page that a transaction pulls or awaits is one that its node asked for
abbrev pub IsAwaited : Outcome → NodeState → Type 0
IsAwaited (Pulls p) x = has x.asked p ≡ true
IsAwaited (Awaits p) x = has x.asked p ≡ true
IsAwaited o x = Unit {0}
