use Rattle.std.proofs.Common.{ℕ, Global, Vec, ap, arith, length, subst, sym}
use Rattle.std.proofs.lemmas.List.{length_push}
use Rattle.zy_search.proofs.AheadLemmas.{one_more}
use Rattle.zy_search.specs.Visits.{AreNumbersAt}
use Rattle.zy_search.proofs.SearchLemmas.{grows_on}
use Rattle.zy_search.proofs.ahead.successors_of.Goals as goal

pub loop-i-preserved : goal.loop-i-preserved
loop-i-preserved c =
    let i = c.loop-i.invariant in
    let made = c.in_ok-successor.ensures in
    record {
      many = omega (arith, ap length c.in_ok-push.ensures.items, length_push c.loop-i.by_choice.items c.in_ok-successor.successor, i.many);
      grows = grows_on c.args.kept.now c.loop-i.kept c.successor_of.new.kept i.grows made.grows;
      here = subst (λ (v : Vec ℕ Global). AreNumbersAt c.args.plan.now c.args.reached.now c.args.at v.items) (sym made.here) i.here;
      each = rw c.in_ok-push.ensures.items (one_more c.args.plan.now c.args.reached.now c.loop-i.kept c.successor_of.new.kept made.grows c.args.at
          c.loop-i.by_choice.items c.in_ok-successor.successor c.loop-i.i i.many c.index.result.now i.each c.index.ensures made.successor);
    }

pub returns-clause-successors : goal.returns-clause-successors
returns-clause-successors c = record {
  there = c.requires.there;
  each = λ i choice n. c.loop-i.invariant.each i choice (omega (arith, n.there, c.loop-i-test.false, c.len-i-end.ensures)) n;
}
