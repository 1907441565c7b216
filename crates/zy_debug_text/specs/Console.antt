-- What goes out in a session, line by line.
use Rattle.std.specs.Prelude.{◌≡◌, ℕ, List, [], ◌∷◌, ◌++◌, Option, Some, None, Result, Ok, Err}
use Rattle.zy_io.specs.Streams.{Sent, Sends, SendsPrefix, NoneFailed, OneFailed}
use Rattle.zy_io.specs.declared.writing.TextFault.{TextFault}
use Rattle.zy_io.specs.declared.writing.TextFault.TheVariants.{Write, Memory}
use Rattle.zy_isa.specs.Scenario.{Scenario}
use Rattle.zy_text.specs.Words.{words_of}
use Rattle.zy_debug.specs.Stops.{no_stops}
use Rattle.zy_debug.specs.Commands.{refusal, Does}
use Rattle.zy_debug.specs.Sessions.{Session}
use Rattle.zy_debug.specs.declared.command.Command.{Command}
use Rattle.zy_debug.specs.declared.command.DebugFault.{DebugFault}
use Rattle.zy_debug.specs.declared.command.Reply.{Reply}
use Rattle.zy_debug_text.specs.Lines.{command_of}
use Rattle.zy_debug_text.specs.Replies.{reply_text, refusal_text, bad_command}

-- the command c leads from s to t, and says out: that it is rejected, which changes nothing, or its reply
abbrev pub Obeyed : Option DebugFault → Session → Command → Session → List ℕ → Type 0
Obeyed (Some f) s c t out = (t ≡ s) × (out ≡ refusal_text f)
Obeyed None s c t out = (r : Reply) × Does s c t r × (out ≡ reply_text t r)

-- words lead from s to t and say out; words that are no command change nothing
abbrev pub Answers : Option Command → Session → Session → List ℕ → Type 0
Answers None s t out = (t ≡ s) × (out ≡ bad_command)
Answers (Some c) s t out = Obeyed (refusal s c) s c t out

-- so does a line with these words; one without says nothing
abbrev pub LineSays : Session → List (List ℕ) → Session → List ℕ → Type 0
LineSays s [] t out = (t ≡ s) × (out ≡ [])
LineSays s (w ∷ ws) t out = Answers (command_of (w ∷ ws)) s t out

-- and so do lines, one after another
abbrev pub Says : Session → List (List ℕ) → Session → List ℕ → Type 0
Says s [] t out = (t ≡ s) × (out ≡ [])
Says s (l ∷ ls) t out =
    (u : Session) × (first rest : List ℕ) × LineSays s (words_of l) u first × Says u ls t rest × (out ≡ first ++ rest)

-- a session on a scenario, at its start and without stops
abbrev pub opened : Scenario → Session
opened sc = record { scenario = sc; position = 0; stops = no_stops }

-- the lines say a text, a prefix of which went out, where the bytes went from old to new
pub record SaysPrefix (old new : Sent) (s : Session) (lines : List (List ℕ)) : Type 0 where
  pub session : Session
  pub out : List ℕ
  pub says : Says s lines session out
  pub prefix : SendsPrefix old new out

-- Calls of a sink went from old to new.
module _ (old new : Sent) where
  -- at Ok exactly what the lines say went out; else a prefix of it, and Write comes where a call failed or took none
  abbrev pub WroteSession : {X : Type 0} → Result X TextFault → Session → List (List ℕ) → Session → Type 0
  WroteSession (Ok x) s lines t = (out : List ℕ) × Says s lines t out × Sends old new out × NoneFailed old new
  WroteSession (Err Write) s lines t = SaysPrefix old new s lines × OneFailed old new
  WroteSession (Err Memory) s lines t = SaysPrefix old new s lines × NoneFailed old new

  -- the same, in whatever session it ends
  abbrev pub WroteReplies : {X : Type 0} → Result X TextFault → Session → List (List ℕ) → Type 0
  WroteReplies result s lines = (t : Session) × WroteSession result s lines t
