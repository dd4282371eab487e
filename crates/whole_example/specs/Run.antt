-- What three calls tell from a fresh table on: two that are asked for, and an advance.
use Rattle.std.specs.Prelude.{ℕ}
use Rattle.model.specs.declared.requests.Request.{Request}
use Rattle.model.specs.State.{fresh}
use Rattle.model.specs.Layout.{lay}
use Rattle.model.specs.Promises.{advancing}
use Rattle.lent.specs.declared.Replied.{Replied}
use Rattle.lent.specs.Held.{call_held}
use Rattle.whole_example.specs.declared.lending.Told.{Told}

abbrev pub create_reply : Request → Replied
create_reply create = call_held (record { image = lay fresh }) create

abbrev pub start_reply : Request → Request → Replied
start_reply create start = call_held (create_reply create).table start

abbrev pub advance_reply : Request → Request → ℕ → Replied
advance_reply create start n = call_held (start_reply create start).table (advancing n)

unfoldable pub first_run : Request → Request → ℕ → Told
first_run create start n = record {
  created = (create_reply create).report;
  started = (start_reply create start).report;
  advanced = (advance_reply create start n).report;
}
