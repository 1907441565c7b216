-- What calls of a source and a sink do to the bytes that are known, to the number of calls that failed, and to the
-- number of bytes given.
use Rattle.std.specs.Prelude.{◌≡◌, ℕ, ◌==◌, ◌+◌, ◌-◌, ◌^◌, ◌≤◌, min, List, ◌++◌, length, vec_len, Result, Ok, Err}
use Rattle.std.specs.Prelude.{Option, ◌&&◌, not, if◌then◌else◌}
use Rattle.std.specs.declared.vec.Vec.{Vec}
use Rattle.std.specs.declared.alloc.Global.{Global}
use Rattle.std.specs.Io.KnownBytes.{Appends, Consumes, IsAtEnd, append_known}
use Rattle.zy_io.specs.declared.reading.ReadFault.{ReadFault}
use Rattle.zy_io.specs.declared.reading.ReadFault.TheVariants.{Read, TooLong, Memory}

-- the most bytes of an input
abbrev pub max_input : ℕ
max_input = 4194304

-- the most bytes that are read: one more shows that an input is too long
abbrev pub most_read : ℕ
most_read = max_input + 1

-- the call failed
abbrev pub pull_faults : {E : Type 0} → Result ℕ E → ℕ
pull_faults (Ok n) = 0
pull_faults (Err e) = 1

-- the call failed or, given bytes to write, took none
abbrev pub put_faults : {E : Type 0} → Result ℕ E → List ℕ → ℕ
put_faults (Ok n) bytes = if n == 0 && not (length bytes == 0) then 1 else 0
put_faults (Err e) bytes = 1

-- how many bytes the call gave
abbrev pub pulled_bytes : {E : Type 0} → Result ℕ E → ℕ
pulled_bytes (Ok n) = n
pulled_bytes (Err e) = 0

-- a count of bytes and then of more, which stays at the most that 64 bits hold
abbrev pub counted : ℕ → ℕ → ℕ
counted before more = min (before + more) (2 ^ 64 - 1)

-- a reader, how many of its calls failed, and how many bytes they gave
pub record CountedReader (R : Type 0) : Type 0 where
  pub reader : R
  pub failures : ℕ
  pub given : ℕ

-- What the calls of a source came to so far: the bytes that are left, where they are known, how many calls failed, and how many
-- bytes the calls gave, whatever is known of them.
pub record Pulled : Type 0 where
  pub left : Option (List ℕ)
  pub failures : ℕ
  pub given : ℕ

-- What the calls of a sink came to so far: the bytes that it was given, where they are known, and how many calls failed or, given
-- bytes, took none.
pub record Sent : Type 0 where
  pub written : Option (List ℕ)
  pub failures : ℕ

-- bytes that are kept back for a sink count as written
abbrev pub with_pending : Sent → List ℕ → Sent
with_pending sent bytes = record { written = append_known sent.written bytes; failures = sent.failures }

-- Calls of a source went from old to new.
module _ (old new : Pulled) where
  -- at most max_input bytes were read
  abbrev pub ReadSome : Type 0
  ReadSome = (taken : List ℕ) × Consumes old.left new.left taken × (length taken ≤ max_input)

  -- reading stopped at the first byte above max_input
  abbrev pub ReadTooMuch : Type 0
  ReadTooMuch = (taken : List ℕ) × Consumes old.left new.left taken × (length taken ≡ most_read)

  -- at Ok these are all the bytes that were left, and none is left; else a prefix of them was taken.
  -- TooLong comes where more than max_input were, and Read where a call failed
  abbrev pub ReadsAll : Result (Vec ℕ Global) ReadFault → Type 0
  ReadsAll (Ok bytes) = Consumes old.left new.left bytes.items × IsAtEnd new.left × (vec_len bytes ≤ max_input)
      × (new.failures ≡ old.failures)
  ReadsAll (Err Read) = ReadSome × (new.failures ≡ old.failures + 1)
  ReadsAll (Err TooLong) = ReadTooMuch × (new.failures ≡ old.failures)
  ReadsAll (Err Memory) = ReadSome × (new.failures ≡ old.failures)

-- A call of a sink went from old to new.
module _ (old new : Sent) where
  -- these bytes went out
  abbrev pub Sends : List ℕ → Type 0
  Sends bytes = Appends old.written new.written bytes

  -- no call failed
  abbrev pub NoneFailed : Type 0
  NoneFailed = new.failures ≡ old.failures

  -- one call failed or, given bytes, took none
  abbrev pub OneFailed : Type 0
  OneFailed = new.failures ≡ old.failures + 1

  -- a prefix of the text went out
  abbrev pub SendsPrefix : List ℕ → Type 0
  SendsPrefix text = (front : List ℕ) × (back : List ℕ) × (text ≡ front ++ back) × Sends front

  -- a prefix of the text went out, and the rest did not
  abbrev pub Remains : List ℕ → List ℕ → Type 0
  Remains text rest = (front : List ℕ) × (text ≡ front ++ rest) × Sends front

  -- at Ok all of the text went out; else a prefix of it, since a call failed or took none
  abbrev pub WritesAll : {X E : Type 0} → Result X E → List ℕ → Type 0
  WritesAll (Ok x) text = Sends text × NoneFailed
  WritesAll (Err e) text = SendsPrefix text × OneFailed
