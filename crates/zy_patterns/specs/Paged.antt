-- The outcomes of one page.
use Rattle.std.specs.Prelude.{ℕ, Option}
use Rattle.zy_patterns.specs.declared.paged.PagedOutcome.{PagedOutcome}
use Rattle.zy_patterns.specs.declared.paged.PagedOutcome.TheVariants as paged
use Rattle.zy_patterns.specs.declared.patterns.OutcomePattern.{OutcomePattern}
use Rattle.zy_patterns.specs.declared.patterns.OutcomePattern.TheVariants as pattern

-- the outcome with this page, if one is asked for
abbrev pub with_page : PagedOutcome → (Option ℕ → OutcomePattern)
with_page paged.Waits = pattern.Waits
with_page paged.Pulls = pattern.Pulls
with_page paged.Awaits = pattern.Awaits
with_page paged.Stale = pattern.Stale
with_page paged.Held = pattern.Held
with_page paged.GotPull = pattern.GotPull
with_page paged.GotPage = pattern.GotPage
with_page paged.Pushed = pattern.Pushed
