-- Where an instruction is not resolved, the program is not.
use Rattle.std.proofs.Common.{rules, ◌≡◌, ◌∙◌, sym, inr, ap, map, drop, drop-cons, suc, [], ◌∷◌, ◌++◌, add-one}
use Rattle.std.proofs.lemmas.Result.{err_from_is_err_and}
use Rattle.zy_asm.specs.Reasons.{kind_of}
use Rattle.zy_asm.specs.Pending.{pending_of, all_resolved}
use Rattle.zy_asm.proofs.PendingLemmas.{with_front, with_front-fails, with_front-next}
use Rattle.zy_asm.proofs.pending.all_resolved.Goals as goal

pub returns-in_err-word : goal.returns-in_err-word
returns-in_err-word c =
    let p = err_from_is_err_and c.from_residual.result c.from_residual.ensures.1 in
    let at = c.loop-instr.instr-index in
    let instrs = c.args.instrs.now in
    let labels = c.args.labels.now in
    let item = drop-cons instrs at c.instr-item.result (search rules) ∙ ap (λ u. u ∷ drop (suc at) instrs) (sym c.instr-item.is) in
    rw (p.1, p.2)
    (inr (sym c.loop-instr.invariant ∙ ap (λ us. with_front c.loop-instr.all.items (all_resolved labels (map pending_of us))) item
    ∙ with_front-fails labels c.loop-instr.all.items (pending_of c.instr-item.result) (kind_of c.in_err-word.field-0.0) (map pending_of (drop (suc at) instrs))
    (sym c.in_err-word.ensures)))

-- an instruction that is resolved is behind those so far
pub loop-instr-preserved : goal.loop-instr-preserved
loop-instr-preserved c =
    let at = c.loop-instr.instr-index in
    let instrs = c.args.instrs.now in
    let labels = c.args.labels.now in
    let item = drop-cons instrs at c.instr-item.result (search rules) ∙ ap (λ u. u ∷ drop (suc at) instrs) (sym c.instr-item.is) in
    let next = with_front-next labels c.loop-instr.all.items (pending_of c.instr-item.result) c.in_ok-word.word (map pending_of (drop (suc at) instrs))
    (sym c.in_ok-word.ensures) in
    let pushed : c.push.new.self.items ≡ c.loop-instr.all.items ++ c.in_ok-word.word ∷ [] = search rules in
    rw (pushed, add-one at) (sym next ∙ ap (λ us. with_front c.loop-instr.all.items (all_resolved labels (map pending_of us))) (sym item)
    ∙ c.loop-instr.invariant)
