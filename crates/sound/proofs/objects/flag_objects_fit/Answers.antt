use borrow.Author.Tests.{tests}
use Rattle.std.proofs.Common.{rules}
use Rattle.sound.specs.Asked.{flag_objects_asked}
use Rattle.sequences.proofs.Ranges.{all_told}
use Rattle.sound.proofs.objects.flag_objects_fit.Goals as goal

pub returns : goal.returns
unfolding flag_objects_asked
returns c = all_told _ _ (cc) c.all.ensures.ran (λ x b q k. search (rules, tests))
