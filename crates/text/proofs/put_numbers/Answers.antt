-- Each number stands behind what the one before it left.
use mathlib.Core.Path.{sym, ◌∙◌}
use native.Mathlib.Omega.{arith}
use lib.ListN.{take}
use Rattle.text.specs.Text.{line_text}
use Rattle.text.proofs.Buffers.{four_behind, rest_further}
use Rattle.text.proofs.put_numbers.Goals as goal

pub returns : goal.returns
unfolding line_text
returns c =
    let a = c.args in
    let first = c.put_number-p in
    let second = c.put_number-q in
    let third = c.put_number-r in
    let fourth = c.put_number in record {
      room = omega arith;
      text = rw (sym c.from.ensures, sym c.from-2.ensures, sym c.from-3.ensures, sym c.from-4.ensures)
          (four_behind (take a.at a.out.now) _ _ _ _ first.ensures.text second.ensures.text third.ensures.text fourth.ensures.text);
      rest = fourth.ensures.rest
          ∙ rest_further _ _ third.result fourth.result (omega arith) third.ensures.rest
          ∙ rest_further _ _ second.result fourth.result (omega arith) second.ensures.rest
          ∙ rest_further _ _ first.result fourth.result (omega arith) first.ensures.rest;
    }
