use borrow.Author.Tests.{tests}
use Rattle.std.proofs.Common.{rules}
use Rattle.sound.specs.Asked.{threads_asked}
use Rattle.sequences.proofs.Ranges.{all_told}
use Rattle.sound.proofs.threads.threads_fit.Goals as goal

pub returns : goal.returns
unfolding threads_asked
returns c = all_told _ _ (cc) c.all.ensures.ran (λ x b q k. search (rules, tests))
