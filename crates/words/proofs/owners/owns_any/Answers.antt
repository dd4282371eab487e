use borrow.Author.Tests.{tests}
use Rattle.std.proofs.Common.{rules}
use Rattle.sequences.proofs.Ranges.{any_told}
use Rattle.model.specs.Words.{owns, owns_any}
use Rattle.model.specs.Layout.{view}
use Rattle.words.proofs.owners.owns_any.Goals as goal

pub returns : goal.returns
unfolding owns_any
returns c = any_told (λ o. owns o c.args.i (view c.args.image.now)) 4 (cc) c.any.ensures.ran (λ x b q k. search (rules, tests))
