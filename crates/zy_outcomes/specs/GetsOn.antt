-- Choices by which an active transaction gets on. It is not said that anybody makes them.
use Rattle.std.specs.Prelude.{ℕ, zero, suc, ◌≡◌, ◌<◌, ◌≤◌, ◌+◌, ◌⊎◌, ◌++◌, List, [], ◌∷◌, Option, Some, None, slice_set}
use Rattle.zy_isa.specs.Scenario.{Scenario}
use Rattle.zy_isa.specs.declared.choice.Choice.{Choice}
use Rattle.zy_isa.specs.declared.choice.Choice.TheVariants.{Run, Take}
use Rattle.zy_isa.specs.declared.node.Node.TheVariants.{A, B}
use Rattle.zy_table.specs.Change.{nobody}
use Rattle.zy_table.specs.Play.{play, step}
use Rattle.zy_table.specs.State.{Message, State, Txn}
use Rattle.zy_table.specs.declared.outcome.Why.{Why}
use Rattle.zy_table.specs.declared.outcome.Why.TheVariants as why
use Rattle.zy_table.specs.declared.status.Status.TheVariants.{Aborted}
use Rattle.zy_laws.specs.WayOut.{enough, kills, led_by}
use Rattle.zy_outcomes.specs.Accounts.{txn_of}

-- a kill of each active transaction but t, in whose place stands one that has not begun
abbrev pub kills_but : ℕ → State → List Choice
kills_but t s = kills 0 (slice_set s.txns t nobody)

-- a take, if there is a message on the link from A to B, or else on the one back
abbrev pub take_by : List Message → List Message → Option Choice
take_by (m ∷ ms) ba = Some (Take B)
take_by [] (m ∷ ms) = Some (Take A)
take_by [] [] = None

-- takes, from a state on, while a message is on a link, but no more of them than this
abbrev pub takes : Scenario → ℕ → State → List Choice
takes sc zero s = []
takes sc (suc n) s = led_by (take_by s.ab s.ba) (λ c. takes sc n (step sc c s).after)

-- a round: t runs at its node, and then messages are taken while there are any, at most `enough` of them
abbrev pub round : Scenario → ℕ → State → List Choice
round sc t s =
    let run = Run (txn_of s t).node t in let after = (step sc run s).after in run ∷ takes sc (enough after) after

-- so many rounds
abbrev pub rounds : Scenario → ℕ → ℕ → State → List Choice
rounds sc t zero s = []
rounds sc t (suc n) s = let first = round sc t s in first ++ rounds sc t n (play sc s first)

-- a transaction that was x is y: it did more instructions, of which a commit is one, or it aborted, and not by a kill
abbrev pub HasGotOn : Txn → Txn → Type 0
HasGotOn x y = (x.done < y.done) ⊎ ((cause : Why) × (y.status ≡ Aborted cause) × (cause ≡ why.Killed → ⊥))

-- once the others are killed, t gets on in at most pages + 2 rounds
abbrev pub GetsOn : Scenario → State → ℕ → Type 0
GetsOn sc s t =
    let alone = play sc s (kills_but t s) in
    (n : ℕ) × (n ≤ sc.pages + 2) × HasGotOn (txn_of s t) (txn_of (play sc alone (rounds sc t n alone)) t)
