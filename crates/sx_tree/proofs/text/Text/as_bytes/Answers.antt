use Rattle.std.proofs.lemmas.Str.{IsUtf8-had}
use Rattle.sx_tree.proofs.text.Text.as_bytes.Goals as goal

pub returns-clause-utf8 : goal.returns-clause-utf8
returns-clause-utf8 c = rw (← c.self.view_is) (IsUtf8-had _ c.self.invariant.0)
