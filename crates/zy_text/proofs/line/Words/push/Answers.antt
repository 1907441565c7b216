-- A word more behind those that are there, or those that are there.
use Rattle.std.proofs.Common.{◌≡◌, ◌∙◌, ap, sym, arith, filter, length, ◌++◌, ◌∷◌, []}
use Rattle.zy_text.specs.Words.{is_word}
use Rattle.zy_text.specs.Lines.{first_words}
use Rattle.zy_text.proofs.KeptLemmas.{kept_more, kept_full, seen_count, one_word, no_word}
use Rattle.zy_text.proofs.line.Words.push.Goals as goal

pub returns-then-self-eq-MOST : goal.returns-then-self-eq-MOST
returns-then-self-eq-MOST c =
    let full : length c.args.self.now ≡ 6 = seen_count c.self.inside.words c.self.inside.count c.args.self.now (omega (arith, c.self.told)) c.self.view_is
    ∙ c.if-self-eq-MOST.true in
    kept_full c.args.self.now (filter is_word (c.args.word.now ∷ [])) full

pub returns-then-not-is_empty : goal.returns-then-not-is_empty
returns-then-not-is_empty c =
    kept_more c.self.inside.words c.self.inside.count c.args.word (omega (arith, c.self.told, c.if-self-eq-MOST.false))
    (omega (arith, c.self.told, c.if-self-eq-MOST.false))
    ∙ ap (λ ws. first_words (ws ++ c.args.word.now ∷ [])) c.self.view_is ∙ ap (λ ws. first_words (c.args.self.now ++ ws))
    (sym (one_word c.args.word.now (sym c.is_empty.ensures ∙ c.if-not-is_empty.true)))

pub returns-else-not-is_empty : goal.returns-else-not-is_empty
returns-else-not-is_empty c =
    no_word c.args.self.now c.args.word.now (sym c.is_empty.ensures ∙ c.if-not-is_empty.false)
    (omega (arith, c.self.told, seen_count c.self.inside.words c.self.inside.count c.args.self.now (omega (arith, c.self.told)) c.self.view_is))
