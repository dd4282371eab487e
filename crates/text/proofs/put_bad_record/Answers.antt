-- The words stand behind what stood, and the number behind them.
use mathlib.Core.Path.{ap, ◌∙◌}
use mathlib.Core.List.{List, ◌++◌}
use Prim.Native.Nat.{ℕ, ◌+◌}
use native.Mathlib.Omega.{arith}
use lib.ListN.{length, take}
use Rattle.text.specs.Text.{followed, line_text, bad_record_at, line_feed}
use Rattle.text.proofs.Buffers.{two_behind, part-behind, part-rest, rest_further}
use Rattle.text.proofs.put_bad_record.Goals as goal

pub returns : goal.returns
unfolding line_text
returns c =
    let a = c.args in
    let words = c.copy_from_slice in
    let number = c.put_number in
    let stood = take a.at a.out.now in record {
      room = omega arith;
      text = two_behind stood bad_record_at (followed a.offset line_feed)
          (part-behind a.out.now words.new.self a.at 14 (ap length words.ensures.after) (omega arith)
          ∙ ap (λ (v : List ℕ). stood ++ v) words.ensures.after)
          number.ensures.text;
      rest = number.ensures.rest
          ∙ rest_further _ _ (a.at + 14) number.result (omega arith)
          (part-rest a.out.now words.new.self a.at 14 (ap length words.ensures.after) (omega arith));
    }
