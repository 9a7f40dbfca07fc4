use Rattle.std.proofs.Common.{subst}
use Rattle.std.specs.Prelude.{option_map}
use Rattle.sx_view.specs.Rows.{row_of}
use Rattle.sx_cursor.specs.Told.{Tells}
use Rattle.sx_axes.proofs.Starting.{has_no_axis, tells_found}
use Rattle.sx_axes.proofs.walks.walk.Goals as goal

pub returns-in-None-clause-absent : goal.returns-in-None-clause-absent
returns-in-None-clause-absent g c =
    let absent = subst (λ found. Tells (g.N.Records.told c.args.records.now) c.args.node (option_map row_of found)) c.in-None.is (tells_found _ _ _ c.in_ok-record.ensures.found) in
    (absent, has_no_axis _ _ _ absent)
