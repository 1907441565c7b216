use Rattle.std.proofs.Common.{arith}
use Rattle.zy_search.proofs.outlook.Outlook.new.Goals as goal

pub returns : goal.returns
returns c p x = record {
  ahead = record {
    found = rw c.new.ensures.found (λ k d lt. absurd (omega (arith, lt)));
    taken = rw c.new.ensures.taken (λ j lt. absurd (omega (arith, lt)));
  };
  rest = rw c.new-2.ensures.items (λ k d lt. absurd (omega (arith, lt)));
}
