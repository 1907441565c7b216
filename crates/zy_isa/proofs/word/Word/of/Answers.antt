use Rattle.std.proofs.Common.{sym, subst}
use Rattle.zy_isa.specs.InstrWords.{IsWordOf}
use Rattle.zy_isa.specs.WordFields.{instr_in}
use Rattle.zy_isa.proofs.WordLemmas.{word_gives, is_word}
use Rattle.zy_isa.proofs.word.Word.of.Goals as goal

pub invariant_of-result : goal.invariant_of-result
invariant_of-result c = subst (λ w. IsWordOf w (instr_in w)) (sym c.encode.ensures.value) (is_word c.args.instr c.encode.ensures.fits)

pub returns : goal.returns
returns c = rw c.encode.ensures.value (word_gives c.args.instr c.encode.ensures.fits)
