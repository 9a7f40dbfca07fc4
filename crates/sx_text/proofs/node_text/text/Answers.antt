use Rattle.std.proofs.Common.{subst}
use Rattle.std.specs.Prelude.{option_map}
use Rattle.sx_view.specs.Rows.{row_of}
use Rattle.sx_cursor.specs.Told.{Tells}
use Rattle.sx_view.proofs.Failing.{later}
use Rattle.sx_text.specs.Text.{IsBroken}
use Rattle.sx_text.proofs.Showing.{read_sound, text_absent, visits_none}
use Rattle.sx_text.proofs.node_text.text.Goals as goal

pub returns-in_err-record-clause-sound : goal.returns-in_err-record-clause-sound
returns-in_err-record-clause-sound g c = read_sound _ _ _ _ _ _ c.from_residual.ensures.1 (g.met.N.Records.untold _) c.in_err-record.ensures.fault

pub returns-in_default-clause-text : goal.returns-in_default-clause-text
returns-in_default-clause-text g c = text_absent _ _ _
    (subst (λ found. Tells (g.N.Records.told c.args.records.now) c.args.node (option_map row_of found)) c.in_default.is c.in_ok-record.ensures.found)

pub returns-in_default-clause-once : goal.returns-in_default-clause-once
returns-in_default-clause-once g c = visits_none _ _ _ _
    (subst (λ found. Tells (g.N.Records.told c.args.records.now) c.args.node (option_map row_of found)) c.in_default.is c.in_ok-record.ensures.found)

pub returns-clause-fault : goal.returns-clause-fault
returns-clause-fault g c =
    later (λ x. IsBroken x c.args.count) _ _ _ _ _ _ _ _ (g.met.N.Records.keeps_damages _ _ c.in_ok-record.ensures.keeps) c.in_ok-record.ensures.same
    c.in_ok-record.ensures.never_falls c.in-Err.ensures.fault
