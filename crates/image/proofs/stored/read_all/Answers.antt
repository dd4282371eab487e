use Rattle.image.proofs.Made.{made}
use borrow.Author.Rules.{rules}
use Rattle.image.proofs.stored.read_all.Goals as goal

pub returns : goal.returns
returns g c =
    made _ g.T.Stored.of_bytes g.T.Stored.LENGTH c.args.bytes.now _ (λ i x q k. search rules) c.from_fn.result g.row.N c.from_fn.ensures.items
