-- Off the row and behind its others: a place is free again, and the length is what it was.
use Rattle.time.proofs.Turning.{freed, turned}
use Rattle.time.proofs.rounds.turn_over.Goals as goal

pub push-grown-requires : goal.push-grown-requires
push-grown-requires c = record { rows = c.remove-shrunk.ensures.order; p_bound = (c.requires.p_bound.0, freed c.requires.rows c.requires.p_bound.0 c.requires.p_bound.1) }

pub returns : goal.returns
returns c =
    turned c.requires.rows c.requires.p_bound.0 c.requires.p_bound.1 c.remove-shrunk.ensures c.push-grown.ensures
