use Rattle.std.proofs.Common.{List, ℕ, ◌++◌, Some, sym, ap, ◌∙◌, append-nil, rules}
use Rattle.sx_view.specs.Slots.{held}
use Rattle.sx_whole.specs.Body.{AreWhole, body_bytes, listed, rows_of}
use Rattle.sx_whole.specs.Broken.{Breaks, broken_length}
use Rattle.sx_whole.proofs.OneBody.{read_parts, end_broken}
use Rattle.sx_whole.proofs.document.read_document.Goals as goal

pub returns-clause-found : goal.returns-clause-found
returns-clause-found c =
    let nodes = listed (Some (held c.in_ok-count.nodes.slots.entries)) in
    let rows = rows_of (Some (held c.in_ok-path_count.paths.slots.entries)) in
    sym c.new-fields.ensures ∙ read_parts c.new-fields.result c.read_nodes.new.fields c.read_paths.new.fields nodes rows c.in_ok-count.ensures.found c.in_ok-path_count.ensures.found
    ∙ ap (λ (l : List ℕ). body_bytes nodes rows ++ l) c.in_ok-read_end.ensures.end ∙ append-nil (body_bytes nodes rows)

pub returns-in_err-read_end-clause-fault : goal.returns-in_err-read_end-clause-fault
returns-in_err-read_end-clause-fault c =
    let nodes = listed (Some (held c.in_ok-count.nodes.slots.entries)) in
    let rows = rows_of (Some (held c.in_ok-path_count.paths.slots.entries)) in
    let whole : AreWhole nodes rows = record { ascend = c.in_ok-count.ensures.ascend; are_rows = c.in_ok-path_count.ensures.rows; fit = c.in_ok-path_count.ensures.few } in
    let breaks : Breaks c.args.place c.args.body.now (broken_length c.args.place c.read_paths.new.fields) =
    end_broken c.args.place c.args.body.now c.read_nodes.new.fields c.read_paths.new.fields nodes rows whole (sym c.new-fields.ensures ∙ c.in_ok-count.ensures.found) c.in_ok-path_count.ensures.found c.in_err-read_end.ensures.fault.0 in
    search rules
