-- A word, if the text begins with one, and what the byte behind it says.
use Rattle.std.proofs.Common.{Bool, ◌==◌, ◌∙◌, ◌++◌, ap, sym, arith, length, length-drop, ℕ}
use Rattle.std.specs.List.{position_or_len}
use Rattle.zy_text.specs.Words.{words_of, lines_of}
use Rattle.zy_text.specs.Lines.{first_line, lines_below, first_words, ends_word}
use Rattle.zy_text.proofs.LineLemmas.{words_space, words_lf, words_semi, below_space, below_lf, below_semi, word_below, word_stops, space_of, none_left}
use Rattle.zy_text.proofs.KeptLemmas.{word_pushed, kept_all, few_words}
use Rattle.zy_text.proofs.line.take_line.Goals as goal

abbrev is_lf : ℕ → Bool
is_lf b = b == 10

abbrev is_semicolon : ℕ → Bool
is_semicolon b = b == 59

pub loop-byte-preserved : goal.loop-byte-preserved
loop-byte-preserved c =
    let rest = c.loop-byte.rest.now in
    let split = c.in-Some.ensures.cases.0 in
    let behind = c.first_word.ensures.behind in
    let space = space_of c.in-Some.byte.now (word_stops rest c.in-Some.byte.now c.in-Some.after.now (sym behind ∙ split)) c.if-byte-eq10.false
    c.if-byte-eq59.false in
    record {
      words = ap (λ ws. first_words (c.push.new.self ++ ws)) (sym (words_space c.in-Some.byte.now c.in-Some.after.now space)
          ∙ ap (λ r. words_of (first_line r)) (sym split))
          ∙ word_pushed c.loop-byte.words c.push.new.self _ rest c.first_word.result.0.now c.first_word.result.1.now c.first_word.ensures.word behind
          c.push.ensures c.loop-byte.invariant.words;
      below = sym (below_space c.in-Some.byte.now c.in-Some.after.now space) ∙ ap lines_below (sym split ∙ behind) ∙ sym (word_below rest)
          ∙ c.loop-byte.invariant.below;
      few = rw c.push.ensures (few_words (c.loop-byte.words ++ _));
      left = omega (arith, ap length split, ap length behind, length-drop (position_or_len ends_word rest) rest, c.loop-byte.invariant.left);
    }

pub returns-in_default-clause-words : goal.returns-in_default-clause-words
returns-in_default-clause-words c =
    let rest = c.loop-byte.rest.now in
    let none = none_left c.first_word.result.1.now c.in_default.ensures.cases in
    sym (kept_all c.push.new.self (rw c.push.ensures (few_words (c.loop-byte.words ++ _))))
    ∙ ap (λ r. first_words (c.push.new.self ++ words_of (first_line r))) (sym none)
    ∙ word_pushed c.loop-byte.words c.push.new.self _ rest c.first_word.result.0.now c.first_word.result.1.now c.first_word.ensures.word
    c.first_word.ensures.behind c.push.ensures c.loop-byte.invariant.words

pub returns-in_default-clause-below : goal.returns-in_default-clause-below
returns-in_default-clause-below c =
    let none = none_left c.first_word.result.1.now c.in_default.ensures.cases in
    ap lines_of none ∙ ap lines_below (sym none ∙ c.first_word.ensures.behind) ∙ sym (word_below c.loop-byte.rest.now) ∙ c.loop-byte.invariant.below

pub returns-then-byte-eq10-clause-words : goal.returns-then-byte-eq10-clause-words
returns-then-byte-eq10-clause-words c =
    let over = ap (λ r. words_of (first_line r)) c.in-Some.ensures.cases.0 ∙ words_lf c.in-Some.byte.now c.in-Some.after.now (ap is_lf c.if-byte-eq10.true) in
    sym (kept_all c.push.new.self (rw c.push.ensures (few_words (c.loop-byte.words ++ _)))) ∙ ap (λ ws. first_words (c.push.new.self ++ ws)) (sym over)
    ∙ word_pushed c.loop-byte.words c.push.new.self _ c.loop-byte.rest.now c.first_word.result.0.now c.first_word.result.1.now c.first_word.ensures.word
    c.first_word.ensures.behind c.push.ensures c.loop-byte.invariant.words

pub returns-then-byte-eq10-clause-below : goal.returns-then-byte-eq10-clause-below
returns-then-byte-eq10-clause-below c =
    sym (below_lf c.in-Some.byte.now c.in-Some.after.now (ap is_lf c.if-byte-eq10.true))
    ∙ ap lines_below (sym c.in-Some.ensures.cases.0 ∙ c.first_word.ensures.behind) ∙ sym (word_below c.loop-byte.rest.now) ∙ c.loop-byte.invariant.below

pub returns-then-byte-eq59-clause-words : goal.returns-then-byte-eq59-clause-words
returns-then-byte-eq59-clause-words c =
    let over = ap (λ r. words_of (first_line r)) c.in-Some.ensures.cases.0 ∙ words_semi c.in-Some.byte.now c.in-Some.after.now
    (ap is_semicolon c.if-byte-eq59.true) in
    sym (kept_all c.push.new.self (rw c.push.ensures (few_words (c.loop-byte.words ++ _)))) ∙ ap (λ ws. first_words (c.push.new.self ++ ws)) (sym over)
    ∙ word_pushed c.loop-byte.words c.push.new.self _ c.loop-byte.rest.now c.first_word.result.0.now c.first_word.result.1.now c.first_word.ensures.word
    c.first_word.ensures.behind c.push.ensures c.loop-byte.invariant.words

pub returns-then-byte-eq59-clause-below : goal.returns-then-byte-eq59-clause-below
returns-then-byte-eq59-clause-below c =
    c.below.ensures.lines ∙ sym (below_semi c.in-Some.byte.now c.in-Some.after.now (ap is_semicolon c.if-byte-eq59.true))
    ∙ ap lines_below (sym c.in-Some.ensures.cases.0 ∙ c.first_word.ensures.behind) ∙ sym (word_below c.loop-byte.rest.now) ∙ c.loop-byte.invariant.below
