use Rattle.sx_cursor.proofs.Leading.{move_sound}
use Rattle.sx_cursor.proofs.cursor.Cursor.to_last.Goals as goal

pub returns-clause-sound : goal.returns-clause-sound
returns-clause-sound g c = move_sound _ (λ w. w.last) _ _ _ _ (λ local number leads. leads.last) (g.met.N.Records.untold _) c.follow.ensures.fault
