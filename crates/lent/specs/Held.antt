-- A call on a table that is held by value: what it tells, and the table after it.
use Rattle.model.specs.declared.requests.Request.{Request}
use Rattle.lent.specs.declared.Held.{Held}
use Rattle.lent.specs.declared.Replied.{Replied}
use Rattle.in_place.specs.Kept.{told, kept}

unfoldable pub call_held : Held → Request → Replied
call_held t q = record { report = told t.image q; table = record { image = kept t.image q } }
