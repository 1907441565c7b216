-- Lines have one list of replies.
use Rattle.std.specs.Prelude.{◌≡◌, ℕ, List}
use Rattle.zy_debug.specs.Sessions.{Session}
use Rattle.zy_debug_text.specs.Console.{Says}

-- the lines lead from s to one session and say one text
pub record SaysOne (s : Session) (lines : List (List ℕ)) : Type 0 where
  pub session : Session
  pub out : List ℕ
  pub says : Says s lines session out
  pub only : (t : Session) (text : List ℕ) → Says s lines t text → (session ≡ t) × (out ≡ text)
