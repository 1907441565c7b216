-- The versions: the number of each, how a text and an image spell it, and which has what came with another.
use Rattle.std.specs.Prelude.{◌==◌, ◌+◌, ℕ, Bool, true, false, List, [], ◌∷◌, ◌++◌, codes, Option}
use Rattle.std.specs.List.{find}
use Rattle.std.specs.Str.{bytes_eq}
use Rattle.zy_isa.specs.declared.version.Version.{Version}
use Rattle.zy_isa.specs.declared.version.Version.TheVariants.{One, Two}

abbrev pub number : Version → ℕ
number One = 1
number Two = 2

-- its number as a digit
abbrev pub digit : Version → ℕ
digit v = 48 + number v

-- the word behind `zephyr` in a text
abbrev pub word : Version → List ℕ
word v = digit v ∷ []

-- the first bytes of an image
abbrev pub magic : Version → List ℕ
magic v = codes "ZPH" ++ word v

abbrev pub versions : List Version
versions = One ∷ Two ∷ []

-- the version with this number
abbrev pub numbered : ℕ → Option Version
numbered n = find (λ v. n == number v) versions

-- the version with this word
abbrev pub named : List ℕ → Option Version
named w = find (λ v. bytes_eq w (word v)) versions

-- the version whose images begin with these bytes
abbrev pub version_of_magic : List ℕ → Option Version
version_of_magic bytes = find (λ v. bytes_eq bytes (magic v)) versions

-- a version has what came with another
abbrev pub has_since : Version → Version → Bool
has_since One version = true
has_since Two One = false
has_since Two Two = true
