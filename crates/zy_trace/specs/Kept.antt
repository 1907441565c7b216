-- Locks of a node in two states, without their common prefix.
use Rattle.std.specs.Prelude.{◌≡◌, ◌==◌, ℕ, Bool, not, List}
use Rattle.std.specs.List.{list_all}
use Rattle.zy_isa.specs.declared.node.Node.{Node}
use Rattle.zy_model.specs.declared.lock.Lock.{Lock}
use Rattle.zy_listing.specs.Locked.{locks_on}
use Rattle.zy_trace.specs.declared.kept.Rests.{Rests}

-- where the rests say the same of a page, so do the lists
abbrev pub AreRests : List Lock → List Lock → Rests → Type 0
AreRests old new rests =
    (n : Node) (p : ℕ) → locks_on n p rests.old.now ≡ locks_on n p rests.new.now → locks_on n p old ≡ locks_on n p new

-- no lock is on page p
abbrev pub none_on : ℕ → List Lock → Bool
none_on p locks = list_all (λ (x : Lock). not (x.page == p)) locks
