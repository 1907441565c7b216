-- What a call that writes lines of text did.
use Rattle.std.specs.Prelude.{◌≡◌, ℕ, List, [], ◌∷◌, ◌++◌, Result, Ok, Err}
use Rattle.zy_io.specs.Streams.{Sent, Sends, SendsPrefix, NoneFailed, OneFailed}
use Rattle.zy_io.specs.declared.writing.TextFault.{TextFault}
use Rattle.zy_io.specs.declared.writing.TextFault.TheVariants.{Write, Memory}

-- a text and the end of its line
abbrev pub line_of : List ℕ → List ℕ
line_of text = text ++ 10 ∷ []

-- a prefix of the text was put behind what was there
abbrev pub AppendedPrefix : List ℕ → List ℕ → List ℕ → Type 0
AppendedPrefix old new text = (front : List ℕ) × (back : List ℕ) × (text ≡ front ++ back) × (new ≡ old ++ front)

-- at Ok all of the text was; else a prefix of it
abbrev pub Appended : {X E : Type 0} → Result X E → List ℕ → List ℕ → List ℕ → Type 0
Appended (Ok x) old new text = new ≡ old ++ text
Appended (Err e) old new text = AppendedPrefix old new text

-- A call that writes went from old to new.
module _ (old new : Sent) where
  -- at Ok all of the text went out; else a prefix of it, and Write comes where a call failed or took none
  abbrev pub Wrote : {X : Type 0} → Result X TextFault → List ℕ → Type 0
  Wrote (Ok x) text = Sends old new text × NoneFailed old new
  Wrote (Err Write) text = SendsPrefix old new text × OneFailed old new
  Wrote (Err Memory) text = SendsPrefix old new text × NoneFailed old new
