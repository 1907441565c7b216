-- One more call took a prefix of the rest.
use Rattle.std.proofs.Common.{◌-◌, ◌++◌, length, take, drop, sym, ap, subst, ◌∙◌, arith, rules, length-take}
use lib.Seq.{take-add, take-take}
use Rattle.std.specs.Io.KnownBytes.{Appends}
use Rattle.std.proofs.KnownBytes.{Appends-trans}
use Rattle.zy_io.proofs.buffered.give.Goals as goal

pub loop-given-preserved : goal.loop-given-preserved
loop-given-preserved g c =
    let done = c.loop-given.given in
    let n = c.in-Ok.count in
    let xs = c.args.bytes.now in
    let most = length-take (length xs - done) (drop done xs) in
    let fits = c.in-Ok.ensures.bound in
    let joined = ap (λ l. take done xs ++ l) (take-take n (length xs - done) (drop done xs) (omega arith)) ∙ sym (take-add done n xs) in
    record {
      within = omega arith;
      so_far = subst (Appends _ _) joined (Appends-trans _ _ _ _ _ c.loop-given.invariant.so_far c.in-Ok.ensures.bytes);
      none_failed = search rules;
    }
