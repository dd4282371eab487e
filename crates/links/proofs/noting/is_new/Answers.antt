-- Each return is the definition with the tests that led there.
use native.Mathlib.Omega.{arith}
use borrow.Author.Tests.{eq-eqb, ne_eqb, le-leb, lt-leb, le-ltb}
use Rattle.links.specs.Noted.{leads_anew}
use Rattle.links.proofs.noting.is_new.Goals as goal

pub returns-then-link-eq0 : goal.returns-then-link-eq0
unfolding leads_anew
returns-then-link-eq0 c = rw (eq-eqb c.args.link 0 c.if-link-eq0.true)

pub returns-then-x-n : goal.returns-then-x-n
unfolding leads_anew
returns-then-x-n c =
    let a = c.args in
    rw (c.id_of-x.ensures, ne_eqb a.link 0 c.if-link-eq0.false, le-leb a.link a.n (omega arith))

pub returns-else-x-n : goal.returns-else-x-n
unfolding leads_anew
returns-else-x-n c =
    let a = c.args in
    rw (le-ltb c.id_of-x.result a.n c.if-x-n.false, ne_eqb a.link 0 c.if-link-eq0.false, lt-leb a.link a.n (omega arith))
