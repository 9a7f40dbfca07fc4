use Rattle.std.proofs.Common.{◌∙◌, refl, ap, arith}
use Rattle.sx_model.specs.Hash.{local_hash}
use Rattle.sx_edit.proofs.Results.{on_ok-then}
use Rattle.sx_edit.proofs.Relabeling.{IsRenewed, relabeled-lifted, difference}
use Rattle.sx_edit.proofs.relabel.relabel.Goals as goal

pub returns-clause-done : goal.returns-clause-done
returns-clause-done g c =
    let renewed : IsRenewed c.args.node c.args.label.kind c.args.label.text c.args.path _ c.args.entry _ = record { changed = refl; more = difference _ _ _ _ (c.local-before.ensures ∙ ap (local_hash c.args.entry.kind) c.as_bytes.ensures.same) (c.local-after.ensures ∙ ap (local_hash c.args.label.kind) c.as_bytes-2.ensures.same) (omega arith) } in
    on_ok-then c.lift.result _ _ (relabeled-lifted _ _ _ _ _ _ _ _ _ _ _ c.requires.there renewed c.in_ok-write.ensures.ok) c.lift.ensures.done

pub returns-clause-memory : goal.returns-clause-memory
returns-clause-memory g c = c.lift.ensures.level refl refl
