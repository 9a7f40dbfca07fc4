use Rattle.std.proofs.Common.{[], ◌∷◌, None, Some, inr, rules}
use Rattle.std.proofs.lemmas.Bool.Decides.{Decides-eqb}
use Rattle.std.proofs.lemmas.Result.{IfOk-at_ok}
use Rattle.std.proofs.lemmas.Slice.Eq.{strip_prefix_is}
use Rattle.sx_model.specs.Faults.{Faults}
use Rattle.sx_script.proofs.EditEnds.{field_other, quoted_then}
use Rattle.sx_script.specs.Told.{IsOfText}
use Rattle.sx_script.proofs.edits.field.Goals as goal

pub returns-in_default : goal.returns-in_default
returns-in_default c =
    let left = c.in-Ok.found.1.now in
    field_other c.args.place c.args.rest.now c.in-Ok.found.0 left (IfOk-at_ok _ c.in-Ok.is c.in_ok-found.ensures.quoted)
    (IfOk-at_ok _ c.in-Ok.is c.in_ok-found.ensures.no_fault) (strip_prefix_is Decides-eqb left (32 ∷ []) None c.in_default.ensures.cases)

pub returns-in-Err-2 : goal.returns-in-Err-2
returns-in-Err-2 c =
    let left = c.in-Ok.found.1.now in
    let json = c.in-Some.json.now in
    let quoted = IfOk-at_ok _ c.in-Ok.is c.in_ok-found.ensures.quoted in
    let wrong : Faults json c.in-Err-2.fault × IsOfText c.in-Err-2.fault = search rules in (
      inr (
        c.in-Ok.found.0,
        json,
        quoted_then c.args.rest.now c.in-Ok.found.0 left json quoted
            (strip_prefix_is Decides-eqb left (32 ∷ []) (Some c.in-Some.json) c.in-Some.ensures.cases),
        wrong.0,
      ),
      wrong.1,
    )
