use Rattle.sx_tree.specs.Names.{AreAscending}
use Rattle.sx_tree.proofs.AscendingNames.{before_new, before_push}
use Rattle.sx_tree.proofs.names.note.Goals as goal

pub returns-in-Ascending-clause-new_name : goal.returns-in-Ascending-clause-new_name
returns-in-Ascending-clause-new_name c =
    let ascending : AreAscending c.args.names.now = rw c.in-Ascending.is at c.requires.index in
    before_new c.args.names.now c.args.name.now (c.are_before.ensures c.if-are_before.true ascending)

pub returns-in-Ascending-clause-noted : goal.returns-in-Ascending-clause-noted
returns-in-Ascending-clause-noted c =
    let ascending : AreAscending c.args.names.now = rw c.in-Ascending.is at c.requires.index in
    rw c.in-Ascending.is (before_push c.args.names.now c.args.name.now ascending (c.are_before.ensures c.if-are_before.true ascending))
