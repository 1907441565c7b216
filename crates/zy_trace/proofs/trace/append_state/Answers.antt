-- The lines that are shown since a state itself are those of the state.
use Rattle.std.proofs.Common.{◌≡◌, ◌++◌, ℕ, List, subst}
use Rattle.std.specs.Prelude.{OnOk}
use Rattle.zy_trace.proofs.TraceLemmas.{state_text}
use Rattle.zy_trace.proofs.trace.append_state.Goals as goal

pub returns : goal.returns
returns c =
    let Text : List ℕ → Type 0 = λ text. OnOk c.append_since-appended.result (c.append_since-appended.new.line ≡ c.args.line.now ++ text) in
    subst Text (state_text c.args.machine.now.state) c.append_since-appended.ensures
