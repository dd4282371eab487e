-- The digits are the decimal text, and there are at most 20 of them, so the byte behind them has room.
use mathlib.Core.Path.{◌≡◌, sym, ap, ◌∙◌}
use mathlib.Core.List.{List, [], ◌∷◌, ◌++◌}
use Prim.Native.Nat.{ℕ, ◌^◌, ◌≤◌, ◌<◌}
use native.Mathlib.Omega.{arith}
use lib.ListN.{length, take}
use Rattle.text.specs.Text.{decimal}
use Rattle.text.proofs.Decimal.{few_digits, digits_decimal}
use Rattle.text.proofs.Buffers.{byte_behind, byte_rest}
use borrow.Author.Rules.{rules}
use Rattle.text.proofs.put_number.Goals as goal

pub overflow_add-end : goal.overflow_add-end
overflow_add-end c =
    let h : c.decimal-k.result ≤ 20 = few_digits _ _ (search rules) c.decimal-k.ensures.len in
    omega arith

pub slice_bounds-copy_from_slice-end : goal.slice_bounds-copy_from_slice-end
slice_bounds-copy_from_slice-end c =
    let h : c.decimal-k.result ≤ 20 = few_digits _ _ (search rules) c.decimal-k.ensures.len in
    omega arith

pub bounds-out-end : goal.bounds-out-end
bounds-out-end c =
    let d = c.decimal-k in
    let h : d.result ≤ 20 = few_digits _ _ (search rules) d.ensures.len in
    omega arith

pub overflow_add-result : goal.overflow_add-result
overflow_add-result c =
    let d = c.decimal-k in
    let h : d.result ≤ 20 = few_digits _ _ (search rules) d.ensures.len in
    omega arith

pub returns : goal.returns
returns c =
    let d = c.decimal-k in
    let a = c.args in
    let v = take d.result d.new.out in
    let n : a.n < 2 ^ 64 = search rules in
    let h : d.result ≤ 20 = few_digits a.n d.result n d.ensures.len in
    let k : length v ≡ d.result = sym d.ensures.in_bounds.1 in
    let e : v ≡ decimal a.n = d.ensures.digits ∙ digits_decimal a.n d.result n d.ensures.len in record {
      room = omega arith;
      text = rw c.copy_from_slice.ensures.after
          (byte_behind a.out.now v a.at d.result k a.byte (omega arith)
          ∙ ap (λ (l : List ℕ). take a.at a.out.now ++ (l ++ (a.byte ∷ []))) e);
      rest = rw c.copy_from_slice.ensures.after (byte_rest a.out.now v a.at d.result k a.byte (omega arith));
    }
