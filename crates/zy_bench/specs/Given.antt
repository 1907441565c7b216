-- The bytes that a command is given to read, where they are known.
use Rattle.std.specs.Prelude.{ℕ, List, [], ◌∷◌, Option, None, Some}
use Rattle.std.specs.Io.KnownBytes.{prepend_known}
use Rattle.std.specs.Fmt.{option_append}

-- A file and standard input have these bytes left: those of the file come first, and a line feed ends it above standard input.
abbrev pub left_of : {F S : Type 0} → (F → Option (List ℕ)) → (S → Option (List ℕ)) → Option F → Option S → Option (List ℕ)
left_of file standard None None = Some []
left_of file standard None (Some s) = standard s
left_of file standard (Some f) None = file f
left_of file standard (Some f) (Some s) = option_append (file f) (prepend_known (10 ∷ []) (standard s))
