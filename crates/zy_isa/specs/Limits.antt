-- The limits of every scenario.
use Rattle.std.specs.Prelude.{ℕ}

-- the fewest rows that a page may have room for
abbrev pub min_cap : ℕ
min_cap = 2

-- the most rows that a page may have room for
abbrev pub max_cap : ℕ
max_cap = 16

-- the most pages
abbrev pub max_pages : ℕ
max_pages = 512

-- the most rows that a scenario opens with
abbrev pub max_rows : ℕ
max_rows = 256

-- the most transactions
abbrev pub max_txns : ℕ
max_txns = 64

-- the most instructions of a program
abbrev pub max_instrs : ℕ
max_instrs = 64

-- the most choices
abbrev pub max_choices : ℕ
max_choices = 4096

-- the greatest key
abbrev pub max_key : ℕ
max_key = 65535

-- the greatest value
abbrev pub max_value : ℕ
max_value = 4294967295

-- the greatest target of a jump that a word has room for
abbrev pub max_target : ℕ
max_target = 4294967295
