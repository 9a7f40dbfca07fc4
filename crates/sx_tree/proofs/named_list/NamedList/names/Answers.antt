use Rattle.std.proofs.Common.{subst, sym, ◌∙◌}
use Rattle.sx_tree.specs.Names.{AreDistinct}
use Rattle.sx_tree.proofs.MemberLists.{names_of-zip}
use Rattle.sx_tree.proofs.named_list.NamedList.names.Goals as goal

pub returns-clause-same : goal.returns-clause-same
returns-clause-same g c = c.as_slice.ensures.same ∙ sym (rw (← c.self.view_is) (names_of-zip c.self.inside.names c.self.inside.values.items c.self.invariant))

pub returns-clause-distinct : goal.returns-clause-distinct
returns-clause-distinct g c =
    rw (← c.self.view_is) (subst AreDistinct (sym (names_of-zip c.self.inside.names c.self.inside.values.items c.self.invariant)) c.as_slice.ensures.distinct)
