-- The laws are lemmas.
use Rattle.std.specs.Prelude.{length}
use Rattle.zy_text.specs.Text.{names_of as table_of}
use Rattle.zy_asm.specs.Names.{names_of}
use Rattle.zy_asm.proofs.TableLemmas.{names_say, refers, seen_say}
use Rattle.zy_asm.proofs.names.choices_go_by_names.Goals as goal

pub returns-clause-choices : goal.returns-clause-choices
returns-clause-choices c = λ text s d is h t w. refers (names_of text) (length s.programs) (table_of 0 d.programs) t w (names_say text s d is h)

pub returns-clause-meant : goal.returns-clause-meant
returns-clause-meant c = names_say

pub returns-clause-read : goal.returns-clause-read
returns-clause-read c = seen_say
