use Rattle.std.proofs.Common.{sym, ◌∙◌}
use Rattle.sx_tree.proofs.MemberLists.{values-zip}
use Rattle.sx_tree.proofs.named_list.NamedList.values.Goals as goal

pub returns : goal.returns
returns g c = record { same = c.as_slice.ensures.value ∙ sym (rw (← c.self.view_is) (values-zip c.self.inside.names c.self.inside.values.items c.self.invariant)) }
