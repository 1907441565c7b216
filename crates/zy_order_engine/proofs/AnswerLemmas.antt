-- What the parts of the engine make together.
use Rattle.std.proofs.Common.{ℕ, List, [], None, Ok, Err, inl, inr, refl, sym, arith}
use Rattle.std.proofs.Common.{append-nil}
use Rattle.zy_io.specs.Streams.{Sent}
use Rattle.zy_io.specs.declared.writing.TextFault.{TextFault}
use Rattle.zy_io.specs.declared.writing.TextFault.TheVariants.{Write, Memory}
use Rattle.zy_isa.specs.Scenario.{Scenario}
use Rattle.zy_text.specs.Cut.{cut}
use Rattle.zy_text.specs.Text.{Means}
use Rattle.zy_logs.specs.declared.logs.NumberedLine.{NumberedLine}
use Rattle.zy_order.specs.declared.answer.OrderAnswer.{OrderAnswer}
use Rattle.zy_logs.specs.Logs.{steps}
use Rattle.zy_order.specs.declared.gaps.Gaps.{Gaps}
use Rattle.zy_order.specs.Answers.{IsAnswer}
use Rattle.zy_engine.specs.declared.faults.BenchFault.{BenchFault}
use Rattle.zy_engine.specs.declared.faults.BenchFault.TheVariants as bench
use Rattle.zy_engine.specs.Faults.{of_writing}
use Rattle.zy_engine.specs.Inputs.{IsTextFault}
use Rattle.zy_engine.specs.Searching.{history_of, WroteSome}
use Rattle.zy_order_engine.specs.declared.faults.BelowFault.{BelowFault}
use Rattle.zy_order_engine.specs.declared.faults.BelowFault.TheVariants as misread
use Rattle.zy_order_engine.specs.declared.faults.OrderFault.TheVariants.{Bench}
use Rattle.zy_order_engine.specs.declared.options.OrderOptions.{OrderOptions}
use Rattle.zy_order_engine.specs.declared.ordering.OrderedLogs.{OrderedLogs}
use Rattle.zy_order_engine.specs.Faults.{of_below}
use Rattle.zy_order_engine.specs.Ordering.{below, Answers, IsAnswerOf, IsAnswerTo, IsTextOf, ReadsBelow, SaysIn}
use Rattle.zy_order_engine.specs.Ordering.{WroteOrder, WrotePart}
use Rattle.zy_order_engine.specs.Missing.{AreGapsIn}

-- ---- a text of an answer

-- what was written of it, where a call failed, is a part of it
pub wrote_failed : (o : OrderOptions) (sc : Scenario) (lines : List NumberedLine) (gaps : Gaps) (a : OrderAnswer) (old new : Sent)
    (f : TextFault) → AreGapsIn o.gap lines gaps → IsAnswer (history_of None sc) (steps lines) gaps o.end a
    → WroteSome {X = Unit {0}} (IsTextOf o.wording sc a) old new (Err f)
    → WroteOrder (IsAnswerOf o sc lines) old new (Err f)
wrote_failed o sc lines gaps a old new Write are is wrote =
    (inr (a, wrote.text, record { gaps = gaps; are = are; answer = is; is = wrote.is }, wrote.wrote.0), wrote.wrote.1)
wrote_failed o sc lines gaps a old new Memory are is wrote =
    (inr (a, wrote.text, record { gaps = gaps; are = are; answer = is; is = wrote.is }, wrote.wrote.0), wrote.wrote.1)

-- ---- an input

module _ (o : OrderOptions) (input : List ℕ) (old : Sent) where
  -- its scenario part is rejected
  pub refused_text : (f : BenchFault) → IsTextFault (cut input) f → Answers o input old old (Err (Bench f))
  refused_text (bench.Input r) h =
      record { answered = tt; part = inl refl; fault = inl h; quiet = λ q. refl; writes = omega arith }
  refused_text (bench.Image f) h = absurd h
  refused_text bench.TooLong h = absurd h
  refused_text bench.Read h = absurd h
  refused_text bench.Write h = absurd h
  refused_text bench.Memory h =
      record { answered = tt; part = inl refl; fault = inl tt; quiet = λ q. absurd q; writes = omega arith }

  -- what is below it is
  pub refused_below : (sc : Scenario) → Means (cut input) sc → (f : BelowFault) → ReadsBelow o.logs o.gap (cut input) (below input) sc (Err f)
      → Answers o input old old (Err (of_below f))
  refused_below sc means (misread.Log r) says = record {
    answered = tt;
    part = inl refl;
    fault = (sc, means, says);
    quiet = λ q. refl;
    writes = omega arith;
  }
  refused_below sc means (misread.Json r) none = record {
    answered = tt;
    part = inl refl;
    fault = (sc, means, none);
    quiet = λ q. refl;
    writes = omega arith;
  }
  refused_below sc means misread.Memory says =
      record { answered = tt; part = inl refl; fault = inl tt; quiet = λ q. absurd q; writes = omega arith }

  module _ (sc : Scenario) (lines : List NumberedLine) (means : Means (cut input) sc) (says : SaysIn o.logs o.gap (cut input) (below input) sc (Ok lines)) where
    -- an answer for its scenario and logs is one for it
    answer_to : (a : OrderAnswer) (text : List ℕ) → IsAnswerOf o sc lines a text → IsAnswerTo o input a text
    answer_to a text is = record { scenario = sc; means = means; lines = lines; says = says; is = is }

    -- and a part of a text of one is that of one
    part_to : (new : Sent) → WrotePart (IsAnswerOf o sc lines) old new → WrotePart (IsAnswerTo o input) old new
    part_to new (inl same) = inl same
    part_to new (inr p) = inr (p.0, p.1, answer_to p.0 p.1 p.2, p.3)

    -- a text of the answer went out
    pub wrote_to : (new : Sent) (r : OrderedLogs) → WroteOrder (IsAnswerOf o sc lines) old new (Ok r.report)
        → Answers o input old new (Ok r)
    wrote_to new r wrote =
        let text = wrote.0.0 in
        let is = answer_to r.report.answer text wrote.0.1 in
        record {
          answered = (text, is, wrote.0.2);
          part = inr (r.report.answer, text, is, (text, [], sym (append-nil text), wrote.0.2));
          fault = tt;
          quiet = tt;
          writes = omega (arith, wrote.1);
        }

    -- or a part of one did
    pub failed_to : (new : Sent) (f : TextFault) → WroteOrder (IsAnswerOf o sc lines) old new (Err f)
        → Answers o input old new (Err (Bench (of_writing f)))
    failed_to new Write wrote = record {
      answered = tt;
      part = part_to new wrote.0;
      fault = inr refl;
      quiet = λ q. absurd q;
      writes = wrote.1;
    }
    failed_to new Memory wrote = record {
      answered = tt;
      part = part_to new wrote.0;
      fault = inl tt;
      quiet = λ q. absurd q;
      writes = omega (arith, wrote.1);
    }
