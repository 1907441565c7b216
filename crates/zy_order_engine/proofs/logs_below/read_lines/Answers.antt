-- What was read is what the lines say.
use Rattle.std.proofs.Common.{◌∙◌, ◌-◌, ℕ, List, ap, length, subst}
use Rattle.zy_isa.specs.Limits.{max_choices}
use Rattle.zy_isa.specs.declared.choice.Choice.{Choice}
use Rattle.zy_text.specs.Lines.{texts}
use Rattle.zy_logs.specs.declared.txns.Txns.{Txns}
use Rattle.zy_logs.specs.Logs.{logs_of, Reads}
use Rattle.zy_order_engine.proofs.BelowLemmas.{read_of}
use Rattle.zy_order_engine.proofs.logs_below.read_lines.Goals as goal

pub returns : goal.returns
returns c =
    let txns : Txns = record { count = length c.programs.result.now; names = c.deref.result } in
    read_of c.args.gap c.args.text.now c.args.lines.now c.args.scenario.now txns
    (record { count = ap length c.programs.ensures.value; names = ap texts c.deref.ensures.value ∙ c.in_ok-names.ensures })
    c.saturating_sub-most.result c.first_below.result c.read_logs.result
    (c.saturating_sub-most.ensures ∙ ap (λ (cs : List Choice). max_choices - length cs) c.choices.ensures.value)
    c.first_below.ensures
    (subst (λ (gap : ℕ). Reads c.read_logs.result (logs_of txns gap c.saturating_sub-most.result c.first_below.result c.args.lines.now)) c.from.ensures
    c.read_logs.ensures)
