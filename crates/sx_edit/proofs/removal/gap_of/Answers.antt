use Rattle.std.proofs.Common.{refl, inl}
use Rattle.sx_edit.proofs.Going.{leads-left, leads-one, leads-parent, leads-reached, leads-right}
use Rattle.sx_edit.proofs.removal.gap_of.Goals as goal

pub returns-clause-reached : goal.returns-clause-reached
returns-clause-reached c = λ o there up. record {
  left = leads-reached o _ _ (leads-left o c.args.node c.args.entry.now there _ refl);
  right = leads-reached o _ _ (leads-right o c.args.node c.args.entry.now there _ refl);
  parent = inl (leads-one o _ _ _ up (leads-parent o c.args.node c.args.entry.now there _ refl));
}
