use Rattle.std.proofs.Common.{◌≡◌, IsTrue, ap, refl, rules}
use Rattle.sx_tree.specs.declared.record.NodeRecord.{NodeRecord}
use Rattle.sx_record.specs.Laws.{node_equal}
use Rattle.sx_record.proofs.node.NodeRecordRecord.same.Goals as goal

pub returns : goal.returns
returns c =
    let labels : IsTrue c.eq.result → c.args.self.now.label ≡ c.args.other.now.label = search rules in
    let back : c.args.self.now.label ≡ c.args.other.now.label → IsTrue c.eq.result = search rules in (
      λ same. node_equal c.args.self.now c.args.other.now (c.if-not-same_links.ensures.0 refl) (c.if-not-same_rest.ensures.0 refl) (labels same),
      λ equal. back (ap (λ (r : NodeRecord). r.label) equal),
    )
