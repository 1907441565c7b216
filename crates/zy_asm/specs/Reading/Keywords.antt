-- The first word of a statement.
use Rattle.std.specs.Prelude.{◌||◌, ℕ, List, codes, Option}
use Rattle.std.specs.Prelude.{Some, None, option_map, if◌then◌else◌}
use Rattle.std.specs.Option.{option_or}
use Rattle.std.specs.Str.{bytes_eq}
use Rattle.zy_isa.specs.declared.version.Version.{Version}
use Rattle.zy_isa.specs.Operations.{named_in}
use Rattle.zy_asm.specs.declared.reading.keyword.Keyword.{Keyword}
use Rattle.zy_asm.specs.declared.reading.keyword.Keyword.TheVariants as k
use Rattle.zy_asm.specs.Choices.{actor_of}

-- the first word of a statement below the header of a version
abbrev pub keyword_of : Version → List ℕ → Option Keyword
keyword_of version w =
    option_or (option_map k.Instr (named_in version w)) (
    option_or (option_map k.Choice (actor_of w)) (
    if bytes_eq w (codes "row") then Some k.Row else
    if bytes_eq w (codes "txn") then Some k.Txn else
    if bytes_eq w (codes "end") then Some k.End else
    if bytes_eq w (codes "zephyr") || bytes_eq w (codes "cap") || bytes_eq w (codes "pages")
    || bytes_eq w (codes "rule") then Some k.Header else
    None))
