use Rattle.std.proofs.Common.{refl, sym, ap, ◌∙◌}
use Rattle.sx_tree.specs.declared.record.Kind.TheVariants.{Key}
use Rattle.sx_model.specs.Records.{NodeRow}
use Rattle.sx_edit.specs.Grow.{top_row}
use Rattle.sx_model.specs.Tree.{no_trees, tree_then}
use Rattle.sx_edit.proofs.Growing.{kept-value}
use Rattle.sx_edit.proofs.grow.key_over.Goals as goal

pub returns-clause-key : goal.returns-clause-key
returns-clause-key g c = λ path v below same is.
    c.top_over.ensures (record { number = c.args.number; kind = Key; label = c.args.name.now }) (tree_then v below no_trees) refl (sym c.in_ok-text.ensures)
    (kept-value _ v below _ _ _ _ same is (record { first = c.no_children.ensures.first; last = c.no_children.ensures.last; count = c.no_children.ensures.count; nodes = c.no_children.ensures.nodes; hash = c.no_children.ensures.hash }) c.in_ok-below.ensures.children)
    ∙ (λ i. top_row (ap (λ (w : NodeRow). w.path) is i) (record { number = c.args.number; kind = Key; label = c.args.name.now }) (tree_then v below no_trees))
