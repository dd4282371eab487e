-- `lists::list_fits` meets its contract: it is tested place by place.
use mathlib.Core.Path.{◌≡◌, sym, ◌∙◌}
use native.Mathlib.Omega.{arith}
use borrow.Author.Rules.{rules}
use borrow.Author.Tests.{tests}
use lib.ListN.{length}
use Rattle.table.proofs.Passing.{fold_below}
use Rattle.soundness.proofs.Fitting.{place-fits, too_long, fits_by_place}
use Rattle.soundness.proofs.lists.list_fits.Goals as goal

pub returns-then-n-gt16 : goal.returns-then-n-gt16
returns-then-n-gt16 c = let a = c.args in sym (too_long a.n a.ids (omega arith))

pub returns : goal.returns
returns c =
    let a = c.args in
    let size : length a.ids ≡ 16 = search rules in
    fold_below (place-fits a.n a.ids) 16 c.fold.ensures.ran (cc) (λ b x r q k. rw (← c.requires) (search (rules, tests)))
    ∙ fits_by_place a.n a.ids size (omega arith)
