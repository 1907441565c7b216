use Rattle.std.proofs.Common.{arith, eqb, not, rules}
use Rattle.std.proofs.lemmas.Fn.{filter_same}
use Rattle.zy_locks.proofs.Agreeing.{agree_drop}
use Rattle.zy_model.proofs.Rising.{rise_drop}
use Rattle.zy_locks.proofs.locks.Locks.release_all.Goals as goal

pub invariant_of-self : goal.invariant_of-self
invariant_of-self c =
    let facts = c.retain.ensures in
    rw (filter_same _ (λ x. not (eqb x.txn c.args.txn)) _ (λ x b f' k. search rules) _ _ facts.filtered) (
      rise_drop c.args.txn _ c.self.invariant.0,
      agree_drop c.args.txn _ c.self.invariant.1,
    )

pub returns : goal.returns
returns c =
    let facts = c.retain.ensures in
    record {
      locks = rw (← c.self.view_is) (filter_same _ (λ x. not (eqb x.txn c.args.txn)) _ (λ x b f' k. search rules) _ _ facts.filtered);
      room = rw (← c.self.view_is) (omega (arith, facts.bound, facts.capacity, c.self.inside.locks.ok.0, c.retain.new.self.ok.0));
    }
