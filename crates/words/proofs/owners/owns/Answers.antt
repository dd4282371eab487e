use Rattle.words.proofs.owners.owns.Goals as goal

pub returns : goal.returns
returns c = rw (← c.mutex-x.ensures) c.owns.ensures
