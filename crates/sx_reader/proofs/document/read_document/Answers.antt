use Rattle.std.proofs.Common.{arith, ◌-◌, refl, length}
use Rattle.std.proofs.lemmas.Option.{slice_get_read}
use Rattle.sx_reader.proofs.Documents.{document-at, fault-at, gives-at, if_ok-then, if_err-then}
use Rattle.sx_reader.proofs.document.read_document.Goals as goal

pub returns-clause-document : goal.returns-clause-document
returns-clause-document g c =
    let some = c.if-node_root-eq0.false in
    let there = slice_get_read c.args.cells.now (length c.args.cells.now) (c.args.node_root - 1) c.index-cells-node_root.result refl (omega (arith, some, c.requires.there)) c.index-cells-node_root.is in
    if_ok-then c.read_whole.result (λ document read. document-at g.S.Spot (g.E.ReadEnd.tells c.args.end.now) c.args.cells.now c.args.node_root c.index-cells-node_root.result document some there read) c.read_whole.ensures.document

pub returns-clause-of_state : goal.returns-clause-of_state
returns-clause-of_state g c now state told =
    let some = c.if-node_root-eq0.false in
    let there = slice_get_read c.args.cells.now (length c.args.cells.now) (c.args.node_root - 1) c.index-cells-node_root.result refl (omega (arith, some, c.requires.there)) c.index-cells-node_root.is in
    gives-at g.S.Spot (g.E.ReadEnd.tells c.args.end.now) _ state c.args.cells.now c.args.node_root c.index-cells-node_root.result c.read_whole.result some there told now c.read_whole.ensures.document c.read_whole.ensures.fault

pub returns-clause-fault : goal.returns-clause-fault
returns-clause-fault g c =
    let some = c.if-node_root-eq0.false in
    let there = slice_get_read c.args.cells.now (length c.args.cells.now) (c.args.node_root - 1) c.index-cells-node_root.result refl (omega (arith, some, c.requires.there)) c.index-cells-node_root.is in
    if_err-then c.read_whole.result (λ fault explains. fault-at g.S.Spot (g.E.ReadEnd.tells c.args.end.now) _ c.args.cells.now c.args.node_root c.index-cells-node_root.result fault some there explains) c.read_whole.ensures.fault
