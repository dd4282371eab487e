-- The table of edges, beside that of P1 to P12, gathered from the files of its parts. `edges-hold` in proofs/ is the one statement on
-- all of them.
use Rattle.std.specs.Prelude.{List, ◌++◌}
use Rattle.examples.specs.Probes.{Case}
use Rattle.examples.specs.Errors.{errors}
use Rattle.examples.specs.Refusals.{refusals}
use Rattle.examples.specs.Effects.{effects}
use Rattle.examples.specs.Ticks.{ticking}

unfoldable pub edges : List Case
edges = errors ++ refusals ++ effects ++ ticking
