-- The line is the choice, as its words say.
use Rattle.std.proofs.Common.{◌≡◌, ◌<◌, ◌≤◌, ◌∙◌, ap, rules, length}
use Rattle.zy_asm.specs.declared.state.Stage.TheVariants as stage
use Rattle.zy_asm.specs.Reading.{line_step}
use Rattle.zy_asm.specs.Reading.Progress.{progress_of}
use Rattle.zy_text.specs.Canon.{choice_words}
use Rattle.zy_text.specs.Lines.{first_words}
use Rattle.zy_asm.proofs.UsualLemmas.{choice_taken}
use Rattle.zy_asm.proofs.state.Reader.take_usual.Goals as goal

pub returns-clause-step : goal.returns-clause-step
returns-clause-step c =
    let s = progress_of c.args.self.now in
    let choice = c.in_ok-line.line.choice in
    let here : s.stage ≡ stage.Choices = search rules in
    let few : length s.choices < 4096 = search rules in
    let most : length s.programs ≤ 64 = search rules in
    let whole : first_words (choice_words choice) ≡ choice_words choice = search rules in
    ap (λ ws. line_step s (first_words ws)) c.in_ok-line.ensures.line.spelled ∙ ap (line_step s) whole
    ∙ (choice_taken s choice here few most (search rules) ∙ search rules)
