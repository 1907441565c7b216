use Rattle.std.proofs.Common.{ℕ, sym, subst, arith}
use Rattle.zy_search.specs.declared.ahead.Successor.{Successor}
use Rattle.zy_search.specs.declared.ahead.Successor.TheVariants.{Unknown}
use Rattle.zy_search.specs.Ahead.{successor_in, IsSuccessor}
use Rattle.zy_search.proofs.ahead.Ahead.successor.Goals as goal

pub returns-in-Some-get : goal.returns-in-Some-get
returns-in-Some-get c p x foreseen number =
    let b = c.args.turn.branch in
    let k = c.args.turn.choice in
    let known = c.in-Some.successors.now in
    let numbers = c.args.self.now.numbers in
    let here = (c.in-Some.ensures.successors p x foreseen).each k b.by number in
    let there = subst (λ (i : ℕ). IsSuccessor p x numbers (record { from = i; by = b.by }) (successor_in known k)) c.in-Some.ensures.place here in
    subst (λ (s : Successor). IsSuccessor p x numbers b s) (sym (rw c.deref.ensures.value at c.in-Some-get.ensures.lookup.4 (omega arith) Unknown)) there
