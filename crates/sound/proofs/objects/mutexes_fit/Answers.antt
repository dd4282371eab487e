use borrow.Author.Tests.{tests}
use Rattle.std.proofs.Common.{rules}
use Rattle.sound.specs.Asked.{mutexes_asked}
use Rattle.sequences.proofs.Ranges.{all_told}
use Rattle.sound.proofs.objects.mutexes_fit.Goals as goal

pub returns : goal.returns
unfolding mutexes_asked
returns c = all_told _ _ (cc) c.all.ensures.ran (λ x b q k. search (rules, tests))
