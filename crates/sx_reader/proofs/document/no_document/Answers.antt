use Rattle.sx_reader.proofs.Documents.{lone-nodes, no-paths}
use Rattle.sx_view.specs.Slots.{held}
use Rattle.sx_reader.proofs.document.no_document.Goals as goal

pub returns-clause-nodes : goal.returns-clause-nodes
returns-clause-nodes c = record {
  nodes = lone-nodes (held c.put.new.self.slots.entries) (held c.new-nodes.result.slots.entries) c.in_ok-lone_document.field-0 c.new-nodes.ensures.told c.in_ok-put.ensures.ok c.in_ok-lone_document.ensures;
  paths = no-paths (held c.new.result.slots.entries) c.new.ensures.told;
}
