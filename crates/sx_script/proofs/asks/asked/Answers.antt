use Rattle.sx_script.proofs.Found.{at_none, none_told}
use Rattle.sx_script.proofs.Spelt.{none_spelt}
use Rattle.sx_script.proofs.asks.asked.Goals as goal

pub returns-in-None-clause-says : goal.returns-in-None-clause-says
returns-in-None-clause-says c = (
  c.whose.ensures,
  none_spelt c.args.client c.args.text.now
      (at_none c.plain.result _ c.in_default.not-Some c.plain.ensures.none)
      (at_none c.in_ok-which.field-0 _ c.in_default-2.not-Some c.in_ok-which.ensures.none)
      (at_none c.in_ok-line.field-0 _ c.in_default-3.not-Some c.in_ok-line.ensures.no_edit)
      (none_told c.in_ok-query.field-0 _ c.in-None.is c.in_ok-query.ensures.none)
      (at_none c.in_ok-line.field-0 _ c.in_default-3.not-Some c.in_ok-line.ensures.no_fault),
)
