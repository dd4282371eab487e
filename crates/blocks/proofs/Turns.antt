-- A block under way, as the loop goes through it: the text that is put already and that of what is left make up the whole.
use mathlib.Core.Path.{◌≡◌, sym, ap, ◌∙◌}
use mathlib.Core.Bool.{Bool, true, false}
use mathlib.Core.List.{List, [], ◌++◌, append_assoc, append-nil}
use Prim.Native.Nat.{ℕ, ◌+◌, ◌<◌}
use lib.ListN.{length, drop}
use Rattle.sequences.specs.Bytes.{flat}
use Rattle.sequences.proofs.EndToEnd.{flat-one}
use Rattle.model.specs.declared.requests.Request.{Request}
use Rattle.model.specs.Before.{Laid}
use Rattle.model.specs.Replay.{record_length, request_of, bad_record, line_of}
use Rattle.model.specs.Stored.{Stored, called}
use Rattle.std.specs.Prelude.{Ok, Err}
use Rattle.records.specs.declared.BadRecord.{BadRecord}
use Rattle.records.specs.Records.{record_at}
use Rattle.records.proofs.Cases.{call-stands, bad_stands}
use Rattle.text.specs.Text.{line_text, text_of}
use Rattle.blocks.specs.Blocks.{Ran, ended, stopped, block}
use Rattle.blocks.proofs.Steps.{first_line, rest-block, ran-end, block_step, block-stop}

-- the run of a whole block; the offset, the bytes and the table from which it goes on; and the text that is put already
pub record Under-way (whole : Ran) (o : ℕ) (bs : List ℕ) (k : Stored) (put : List ℕ) : Type 0 where
  pub text : text_of whole.lines ≡ put ++ text_of (block o bs k).lines
  pub after : whole.after ≡ (block o bs k).after
  pub good : whole.good ≡ (block o bs k).good

-- nothing is left
pub record Over (whole : Ran) (all : Bool) (k : Stored) (put : List ℕ) : Type 0 where
  pub text : put ≡ text_of whole.lines
  pub after : k ≡ whole.after
  pub good : all ≡ whole.good

module _ {whole : Ran} {o : ℕ} {bs : List ℕ} {k : Stored} {put : List ℕ} (u : Under-way whole o bs k put) where
  -- a record was called, and its line put behind
  pub turned : (q : Request) (l : Laid) (more : List ℕ) → Ok q ≡ record_at o bs → l ≡ called k q
      → more ≡ put ++ line_text (line_of l.reply.report)
      → Under-way whole (o + record_length) (drop record_length bs) (record { table = l.reply.table; rows = l.rows }) more
  unfolding flat
  turned q l more d e p =
      let c = call-stands o bs q d in
      let s = block_step o bs k c.0 in
      let f : l ≡ called k (request_of bs) = e ∙ ap (called k) c.1 in
      let rest : List ℕ = text_of (rest-block o bs k).lines in
      rw f
      (record {
        text =
            u.text ∙ ap (λ (r : Ran). put ++ text_of r.lines) s ∙ sym (append_assoc put (line_text (first_line bs k)) rest)
            ∙ ap (λ (t : List ℕ). t ++ rest) (sym (p ∙ ap (λ (m : Laid). put ++ line_text (line_of m.reply.report)) f));
        after = u.after ∙ ap (λ (r : Ran). r.after) s;
        good = u.good ∙ ap (λ (r : Ran). r.good) s;
      })

  over : (r : Ran) → block o bs k ≡ r → Over whole r.good r.after (put ++ text_of r.lines)
  over r e =
      record {
        text = sym (u.text ∙ ap (λ (x : Ran). put ++ text_of x.lines) e);
        after = sym (u.after ∙ ap (λ (x : Ran). x.after) e);
        good = sym (u.good ∙ ap (λ (x : Ran). x.good) e);
      }

  -- no record stood there, and that was put behind
  pub stopped-there : (bad : BadRecord) (more : List ℕ) → 0 < length bs → Err bad ≡ record_at o bs → more ≡ put ++ line_text (bad_record bad.offset)
      → Over whole false k more
  stopped-there bad more h d p =
      let b = bad_stands o bs bad d in
      let there : more ≡ put ++ line_text (bad_record o) = p ∙ ap (λ (n : ℕ). put ++ line_text (bad_record n)) b.1 in
      rw (there ∙ ap (λ (t : List ℕ). put ++ t) (sym (flat-one line_text (bad_record o))))
      (over (stopped o k) (block-stop o bs k h b.0))

  -- no byte is left
  pub ended-there : bs ≡ [] → Over whole true k put
  unfolding flat
  ended-there e = rw (sym (append-nil put)) (over (ended k) (ap (λ (s : List ℕ). block o s k) e ∙ ran-end 0 o k))
