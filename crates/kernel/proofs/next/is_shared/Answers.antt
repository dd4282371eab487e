-- Past the last priority nobody stands on any list.
use mathlib.Core.Path.{◌≡◌}
use native.Mathlib.Omega.{arith}
use lib.ListN.{length, get_or-eq_default}
use borrow.Author.Rules.{rules}
use Rattle.kernel.proofs.next.is_shared.Goals as goal

pub returns-else-k-lt8 : goal.returns-else-k-lt8
returns-else-k-lt8 c =
    let many : length c.args.lengths ≡ 8 = search rules in
    rw (get_or-eq_default c.args.lengths 0 {n = c.args.p} (omega (arith, many, c.if-k-lt8.false)))
