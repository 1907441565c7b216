-- One line more is told behind those above it, or it is the first that tells none.
use Rattle.std.proofs.Common.{List, ℕ, subst, arith}
use Rattle.zy_text.specs.Words.{lines_of}
use Rattle.zy_json.specs.Logs.{TellsLine}
use Rattle.zy_json.proofs.LogLemmas.{Passed, passed_none, passed_more}
use Rattle.zy_json.proofs.logs.read_objects.Goals as goal

pub loop-rest-init : goal.loop-rest-init
loop-rest-init c = record { passed = rw c.new-logs.ensures.items (passed_none c.args.first (lines_of c.args.text.now)); within = omega arith }

pub loop-rest-preserved : goal.loop-rest-preserved
loop-rest-preserved c =
    let first = c.args.first in
    let n = c.loop-rest.number in
    let all = lines_of c.args.text.now in
    let line = c.first_line.result.0.now in
    let left = lines_of c.first_line.result.1.now in
    let logs = c.loop-rest.logs.items in
    let log = c.as_bytes.result.now in
    let is : TellsLine line log = rw c.as_bytes.ensures.value c.in_ok-say_numbered.ensures in
    let above = subst (λ (ls : List (List ℕ)). Passed first n all ls logs) c.first_line.ensures.lines c.loop-rest.invariant.passed in
    record {
      passed = rw c.in_ok-put_line.ensures (passed_more first n all left logs line log above is);
      within = omega (arith, c.loop-rest.invariant.within, c.first_line.ensures.shorter);
    }
