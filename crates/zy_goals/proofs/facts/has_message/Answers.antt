use Rattle.std.proofs.Common.{◌≡◌, get_or, sym, arith, false}
use Rattle.zy_links.specs.declared.message.Message.{Message}
use Rattle.zy_links.specs.Messages.{message_of}
use Rattle.zy_goals.specs.Facts.{is_like}
use Rattle.zy_goals.proofs.EachLemmas.{any_seen, none_seen, at_place, more}
use Rattle.zy_goals.proofs.facts.has_message.Goals as goal

-- the message at i is like the pattern, so one of the link is
pub returns-then-is_like : goal.returns-then-is_like
returns-then-is_like c =
    sym (any_seen message_of (is_like c.args.pattern) c.args.link.now.messages c.loop-i.i _ (omega (arith, c.loop-i-test.true, c.len-i-end.ensures))
    c.message_at.ensures (sym c.if-is_like.ensures))

pub loop-i-preserved : goal.loop-i-preserved
loop-i-preserved c =
    more (λ j. (x : Message) → x ≡ get_or c.args.link.now.messages j x → is_like c.args.pattern (message_of x) ≡ false) c.loop-i.i c.loop-i.invariant
    (λ x e. at_place message_of (is_like c.args.pattern) c.args.link.now.messages c.loop-i.i x _ (omega (arith, c.loop-i-test.true, c.len-i-end.ensures))
    c.message_at.ensures (sym c.if-is_like.ensures) e)

-- none of them was
pub returns : goal.returns
returns c =
    sym (none_seen message_of (is_like c.args.pattern) c.args.link.now.messages
    (λ i lt. c.loop-i.invariant i (omega (arith, lt, c.loop-i-test.false, c.len-i-end.ensures))))
