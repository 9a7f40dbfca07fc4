use Rattle.std.proofs.Common.{◌≡◌, ◌+◌, nat_lt, refl, subst}
use Rattle.sx_tree.specs.declared.edit.EditRefusal.TheVariants.{NumbersSpent}
use Rattle.sx_model.specs.Edit.{number_limit, when}
use Rattle.sx_edit.proofs.Counting.{room-deep, room-spent}
use Rattle.sx_edit.proofs.room.make_room.Goals as goal

pub returns-in-Some-clause-room : goal.returns-in-Some-clause-room
returns-in-Some-clause-room c = λ parent o counts. room-deep _ _ _ _ _ _ counts _ _ _ c.too_deep.ensures c.in-Some.is refl

pub returns-in-Some-spent-clause-room : goal.returns-in-Some-spent-clause-room
returns-in-Some-spent-clause-room c = λ parent o counts.
    room-spent _ _ _ _ _ _ counts _ _ _ c.too_deep.ensures c.in_default.is
    (subst (λ m. c.spent.result ≡ when (nat_lt number_limit (c.args.next + m)) (NumbersSpent c.args.next)) c.new_nodes-more.ensures c.spent.ensures.is) c.in-Some-spent.is

pub returns-clause-room : goal.returns-clause-room
returns-clause-room c = λ parent o counts.
    room-spent _ _ _ _ _ _ counts _ _ _ c.too_deep.ensures c.in_default.is
    (subst (λ m. c.spent.result ≡ when (nat_lt number_limit (c.args.next + m)) (NumbersSpent c.args.next)) c.new_nodes-more.ensures c.spent.ensures.is) c.in_default-spent.is
