-- What was given is in the sink, and the rest is kept back.
use Rattle.std.proofs.Common.{◌++◌, take, drop, sym, ap, ◌∙◌, take-append-drop}
use Rattle.std.proofs.KnownBytes.{append_known-moved}
use Rattle.zy_io.proofs.BufferedLemmas.{none_left}
use Rattle.zy_io.proofs.buffered.Buffered.pass.Goals as goal

pub returns-clause-empty : goal.returns-clause-empty
returns-clause-empty g c =
    let n = c.give-given.result.0 in
    none_left c.give-given.result.1 c.as_slice.result.now _ n (c.drop_front.ensures ∙ ap (drop n) (sym c.as_slice.ensures.value)) c.give-given.ensures.all

pub returns-clause-bytes : goal.returns-clause-bytes
returns-clause-bytes g c =
    let n = c.give-given.result.0 in
    let pending = c.as_slice.result.now in
    let rest = c.drop_front.ensures ∙ ap (drop n) (sym c.as_slice.ensures.value) in
    append_known-moved _ _ _ _ _ c.give-given.ensures.bytes (sym c.as_slice.ensures.value ∙ sym (take-append-drop n pending) ∙ ap (λ l. take n pending ++ l) (sym rest))
