-- Choices without a fault are few, and name transactions; all else stays.
use Rattle.std.proofs.Common.{length, rules}
use Rattle.zy_isa.proofs.ScenarioLemmas.{fit_choices}
use Rattle.zy_isa.proofs.scenario.Scenario.with_choices.Goals as goal

pub invariant_of-result : goal.invariant_of-result
invariant_of-result c =
    let old = c.self.invariant in
    let named = fit_choices (length c.self.inside.programs.items) c.args.choices.items (search rules) in
    record {
      cap_least = old.cap_least;
      cap_most = old.cap_most;
      pages_least = old.pages_least;
      pages_most = old.pages_most;
      few_rows = old.few_rows;
      few_opening_pages = old.few_opening_pages;
      rows_rise = old.rows_rise;
      rows_fit = old.rows_fit;
      few_programs = old.few_programs;
      programs = old.programs;
      few_choices = named.0;
      choices_named = named.1;
      instrs_known = old.instrs_known;
    }
