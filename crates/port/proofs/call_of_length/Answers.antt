-- A call on an image of the right length is that on the table which it holds: what is reported is what is told of it, and the image is what
-- is handed back, written out where the call is accepted, and itself where it isn't.
use mathlib.Core.Path.{◌≡◌, sym, ◌∙◌, ap, ap₂}
use lib.ListN.{length}
use borrow.Author.Tests.{eq-eqb}
use borrow.Author.Rules.{rules}
use Rattle.sequences.proofs.Numbers.{bytes_of}
use Rattle.model.specs.declared.answers.Report.{Report}
use Rattle.model.specs.declared.tables.Table.{Table}
use Rattle.model.specs.Answers.{accepted}
use Rattle.model.specs.Before.{Rows, Laid, call_table}
use Rattle.model.specs.Stored.{called}
use Rattle.image.specs.Image.{image_of}
use Rattle.port.specs.Port.{stored_in}
use Rattle.port.proofs.Images.{told_in, kept_in, untouched_in}
use Rattle.port.proofs.call_of_length.Goals as goal
use Rattle.port.proofs.call_of_length.Goals.{then-is_accepted, else-is_accepted}

pub returns : goal.returns
returns c =
    let s = c.args.image.now in
    let q = c.args.q in
    let fits = eq-eqb (length s) 920 c.told-image in
    let o = bytes_of s (search rules) in
    let handed : record { reply = c.call-reply.result; rows = c.call-reply.new.rows } ≡ called (stored_in s) q =
    c.call-reply.ensures
    ∙ ap₂ (λ (t : Table) (rows : Rows). call_table t rows q) c.read_table.ensures c.read_rows-rows.ensures
    in
    let same = ap (λ (l : Laid). l.reply.report) handed ∙ sym (told_in s fits q) in
    record {
      report = same;
      image = elim c.if-is_accepted.branch [
        | then-is_accepted written ↦ written.image-is ∙ written.write.ensures ∙ ap (λ (l : Laid). image_of l.reply.table l.rows) handed ∙ sym (kept_in s fits o q)
        | else-is_accepted untouched ↦
            untouched.image-is ∙ sym (untouched_in s fits o q (ap (λ (r : Report). accepted r.answer) (sym same) ∙ sym c.is_accepted.ensures ∙ untouched.if-is_accepted.false))
      ];
    }
