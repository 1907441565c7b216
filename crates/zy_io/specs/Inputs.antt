-- What a command does: it reads its input, and then does something with the bytes.
use Rattle.std.specs.Prelude.{◌≡◌, ◌≤◌, ◌+◌, ◌⊎◌, ℕ, List, Result, Ok, Err}
use Rattle.std.specs.declared.vec.Vec.{Vec}
use Rattle.std.specs.declared.alloc.Global.{Global}
use Rattle.zy_io.specs.Streams.{Pulled, Sent, ReadsAll, most_read}
use Rattle.zy_io.specs.declared.reading.ReadFault.{ReadFault}
use Rattle.zy_io.specs.declared.writing.TextFault.{TextFault}

-- ---- with an input in hand

-- the input stands for this and for nothing else, and has no fault
pub record IsAccepted {S : Type 0} (StandsFor : S → Type 0) (HasNoFault : Type 0) (meant : S) : Type 0 where
  pub stands : StandsFor meant
  pub only : (other : S) → StandsFor other → meant ≡ other
  pub right : HasNoFault

-- the result that is reported of a call that writes, where `report` gives the fault of one of writing
abbrev pub reported_of : {X E : Type 0} → (TextFault → E) → Result X TextFault → Result X E
reported_of report (Ok x) = Ok x
reported_of report (Err f) = Err (report f)

-- `Accepts` says what the input stands for, `Refuses` which fault it has, and `Due` what is to be done with what it stands for.
-- The calls of the sink went from old to new.
module _ {S X E : Type 0} (Accepts : S → Type 0) (Refuses : E → Type 0) (report : TextFault → E)
    (Due : S → Sent → Sent → Result X TextFault → Type 0) (old new : Sent) (result : Result X E) where
  -- the input is accepted, and what is due is done
  pub record IsDone : Type 0 where
    pub meant : S
    pub accepted : Accepts meant
    pub came : Result X TextFault
    pub due : Due meant old new came
    pub reported : result ≡ reported_of report came

  -- it is refused: its first fault is reported, or that there was no memory, and nothing is written
  pub record IsRefused : Type 0 where
    pub fault : E
    pub first : Refuses fault
    pub silent : new ≡ old
    pub reported : result ≡ Err fault

  -- one of the two
  abbrev pub OnInput : Type 0
  OnInput = IsDone ⊎ IsRefused

-- ---- with the input read first

-- what the calls of a source and of a sink came to so far
pub record Streams : Type 0 where
  pub pulled : Pulled
  pub sent : Sent

-- those of a source and a sink, of which these are the members
abbrev pub streams : {S K : Type 0} → (S → Pulled) → (K → Sent) → S → K → Streams
streams pulled sent source sink = record { pulled = pulled source; sent = sent sink }

-- `Does` is what is done with an input in hand, and `report` gives the fault that is reported of one of reading.
module _ {X E : Type 0} (report : ReadFault → E)
    (Does : List ℕ → Sent → Sent → Result X E → Type 0) (old new : Streams) (result : Result X E) where
  -- that is done with an input that was read whole; else the fault is reported, and nothing is written
  abbrev pub AfterReading : Result (Vec ℕ Global) ReadFault → Type 0
  AfterReading (Ok bytes) = Does bytes.items old.sent new.sent result
  AfterReading (Err f) = (result ≡ Err (report f)) × (new.sent ≡ old.sent)

  -- it reads its input, and this is what comes after it
  pub record ReadsInput : Type 0 where
    pub read : Result (Vec ℕ Global) ReadFault
    pub came : ReadsAll old.pulled new.pulled read
    pub goes_on : AfterReading read
    -- whatever the reader reports of its bytes, its calls give at most one more than the longest input has
    pub bound : new.pulled.given ≤ old.pulled.given + most_read
