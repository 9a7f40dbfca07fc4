use Rattle.std.proofs.Common.{Some, refl}
use Rattle.sx_paths.specs.Load.{HasBrokenPath}
use Rattle.sx_store.specs.Damage.{Kept}
use Rattle.sx_reader.specs.Documents.{nodes_of, paths_of}
use Rattle.sx_store.proofs.Answering.{keeps-at}
use Rattle.sx_store.proofs.Drafting.{shows-draft}
use Rattle.sx_store.proofs.Taking.{frame-damage, gives-no_draft, gives-no_table, rows-told, table-damage}
use Rattle.sx_store.proofs.draft.draft_of.Goals as goal

pub returns-in_err-document-clause-of_state : goal.returns-in_err-document-clause-of_state
returns-in_err-document-clause-of_state g c now state is told =
    gives-no_draft state c.from_residual.result c.in_err-document.field-0.0 c.from_residual.ensures.1 (c.in_err-document.ensures.of_state now state told)

pub returns-in_err-document-clause-damaged : goal.returns-in_err-document-clause-damaged
returns-in_err-document-clause-damaged g c damage is =
    frame-damage g.S.Spot (g.E.ReadEnd.tells c.args.end.now) _ c.args.cells.now c.args.root.now.node_root (λ (kept : Kept) damage. HasBrokenPath (Some kept.paths) c.args.root.now.paths damage) c.from_residual.result c.in_err-document.field-0.0 damage c.from_residual.ensures.1 c.in_err-document.ensures.fault is

pub returns-in_err-paths-clause-of_state : goal.returns-in_err-paths-clause-of_state
returns-in_err-paths-clause-of_state g c now state is told =
    let of = c.in_ok-document.ensures.of_state now state told in
    gives-no_table state c.from_residual-in_err-paths.result (Some (paths_of c.in_ok-document.document)) c.args.root.now.paths c.in_err-paths.field-0.0 c.from_residual-in_err-paths.ensures.1 c.in_err-paths.ensures.sound of.paths is.paths

pub returns-in_err-paths-clause-damaged : goal.returns-in_err-paths-clause-damaged
returns-in_err-paths-clause-damaged g c damage is =
    table-damage g.S.Spot (g.E.ReadEnd.tells c.args.end.now) _ c.args.cells.now c.args.root.now c.in_ok-document.document c.from_residual-in_err-paths.result c.in_err-paths.field-0.0 damage c.from_residual-in_err-paths.ensures.1
    c.in_ok-document.ensures.document c.in_err-paths.ensures.fault is

pub returns-clause-of_state : goal.returns-clause-of_state
returns-clause-of_state g c now state is told =
    let of = c.in_ok-document.ensures.of_state now state told in
    shows-draft state c.args.root.now c.in_ok-document.document _ is of refl refl
    (rows-told (Some (paths_of c.in_ok-document.document)) c.args.root.now.paths _ state c.in_ok-paths.ensures.of_state of.paths is.paths)

pub returns-clause-made : goal.returns-clause-made
returns-clause-made g c =
    let document = c.in_ok-document.document in
    (record { nodes = nodes_of document; paths = paths_of document }, keeps-at g.S.Spot (g.E.ReadEnd.tells c.args.end.now) c.args.cells.now c.args.root.now.node_root document c.in_ok-document.ensures.document, (refl, (c.in_ok-paths.ensures.paths, c.in_ok-paths.ensures.count)))
