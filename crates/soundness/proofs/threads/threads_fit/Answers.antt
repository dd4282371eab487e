-- `threads::threads_fit` meets its contract: thread by thread.
use mathlib.Core.Path.{◌≡◌}
use mathlib.Core.Bool.{Bool, ◌||◌}
use Prim.Native.Nat.{ℕ}
use borrow.Author.Rules.{rules}
use borrow.Author.Tests.{tests}
use lib.Dec.{eqb}
use lib.ListN.{get_or}
use Rattle.model.specs.declared.tables.Thread.{Thread}
use Rattle.model.specs.Before.{thread_at}
use Rattle.table.specs.Owners.{owns_one_of}
use Rattle.table.proofs.Passing.{all_below}
use Rattle.soundness.specs.Records.{thread_fits}
use Rattle.soundness.proofs.threads.threads_fit.Goals as goal

-- whether it owns a mutex makes no difference but where its current priority isn't its base
owner-alike : (t : Thread) (standing resting flagged : ℕ) (a b : Bool)
    → (a || eqb t.current t.base) ≡ (b || eqb t.current t.base)
    → thread_fits t standing resting flagged a ≡ thread_fits t standing resting flagged b
unfolding thread_fits
owner-alike t standing resting flagged a b e = rw e

pub returns : goal.returns
returns c =
    let a = c.args in
    all_below (λ i. thread_fits (thread_at a.threads i) (get_or a.standing i 0) (get_or a.resting i 0) (get_or a.flagged i 0) (owns_one_of a.mutexes i)) 16 c.all.ensures.ran (cc)
    (λ x b q k. search (rules, tests, owner-alike))
