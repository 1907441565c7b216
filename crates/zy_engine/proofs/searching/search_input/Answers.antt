-- The answer is that of the search; where there was no memory for it, nothing is known.
use Rattle.std.proofs.Common.{◌≤◌, Ok, Err, refl, length, subst, sym}
use Rattle.std.proofs.lemmas.Result.{err_from_is_err_and}
use Rattle.zy_machine.specs.Histories.{History}
use Rattle.zy_search.specs.declared.answer.SearchReport.{SearchReport}
use Rattle.zy_search.specs.Searches.{IsAnswer, IsDue}
use Rattle.zy_engine.proofs.SearchLemmas.{nothing_searched, taken-few, wrote_err, wrote_first}
use Rattle.zy_engine.proofs.searching.search_input.Goals as goal

pub write_answer-requires-clause-taken : goal.write_answer-requires-clause-taken
write_answer-requires-clause-taken g c =
    subst (λ (h : History). length h.entries ≤ length h.scenario.choices) (sym c.requires.taken) (taken-few c.args.question.options.from c.args.input.now.scenario)

pub returns-in_err-report : goal.returns-in_err-report
returns-in_err-report g c =
    let p = err_from_is_err_and c.from_residual.result c.from_residual.ensures.1 in
    rw (p.1, p.2) (
    nothing_searched c.args.question.options c.args.input.now.scenario c.args.question.sought (g.K.Sink.sent c.args.sink.now)
    )

pub returns-in_err-write_answer : goal.returns-in_err-write_answer
returns-in_err-write_answer g c =
    let o = c.args.question.options in
    let report = c.in_ok-report.report in
    let old = g.K.Sink.sent c.args.sink.now in
    let new = g.K.Sink.sent c.write_answer.new.sink in
    let fault = c.in_err-write_answer.field-0.0 in
    let wrote = wrote_first o c.args.input.now.scenario report.answer old new (Err fault) _ c.requires.taken c.in_err-write_answer.ensures in
    let p = err_from_is_err_and c.from_residual-in_err-write_answer.result c.from_residual-in_err-write_answer.ensures.1 in
    rw (p.1, p.2) (record {
      answer = report.answer;
      is = subst (λ (h : History). IsAnswer h c.args.question.sought report.answer) c.requires.taken c.in_ok-report.ensures.answer;
      returned = tt;
      due = tt;
      wrote = record { text = wrote.text; is = wrote.is; wrote = wrote_err SearchReport old new fault wrote.text wrote.wrote };
    })

pub returns : goal.returns
returns g c =
    let o = c.args.question.options in
    let report = c.in_ok-report.report in
    let old = g.K.Sink.sent c.args.sink.now in
    let new = g.K.Sink.sent c.write_answer.new.sink in
    let wrote = wrote_first o c.args.input.now.scenario report.answer old new (Ok c.in_ok-write_answer.field-0) _ c.requires.taken c.in_ok-write_answer.ensures in
    record {
      answer = report.answer;
      is = subst (λ (h : History). IsAnswer h c.args.question.sought report.answer) c.requires.taken c.in_ok-report.ensures.answer;
      returned = refl;
      due = subst (λ (h : History). IsDue h c.args.question.sought o.most report.answer) c.requires.taken c.in_ok-report.ensures.due;
      wrote = record { text = wrote.text; is = wrote.is; wrote = wrote.wrote };
    }
