use Rattle.std.proofs.Common.{drop, subst, take}
use Rattle.std.proofs.lemmas.List.{take-append-drop}
use Rattle.zy_laws.specs.SourceFirst.{migration_order}
use Rattle.zy_laws.specs.Views.{HasPlace}
use Rattle.zy_laws.proofs.sources.SourceFirst.{serial_source_first}
use Rattle.zy_laws.proofs.sources.Seen.{committed_views, lone_runs_end}
use Rattle.zy_laws.proofs.sources.Placed.{has_place}
use Rattle.zy_laws.proofs.sources.RealTime.{real_time}
use Rattle.zy_laws.proofs.sources.Stable.{stable_order}
use Rattle.zy_laws.proofs.laws.strictly_serializable.Goals as goal

pub returns : goal.returns
returns c sc ok choices = record {
  serial = serial_source_first sc ok choices;
  ended = lone_runs_end sc ok choices;
  seen = committed_views sc ok choices;
  placed = λ n t active.
      subst (λ xs. HasPlace sc (take n choices) t (migration_order sc xs)) (take-append-drop n choices)
      (has_place sc ok (take n choices) (drop n choices) t active);
  real_time = real_time sc ok choices;
  stable = stable_order sc ok choices;
}
