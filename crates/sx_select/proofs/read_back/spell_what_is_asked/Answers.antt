use Rattle.sx_select.proofs.ReadBack.{read-back}
use Rattle.sx_select.proofs.read_back.spell_what_is_asked.Goals as goal

pub returns : goal.returns
returns c = read-back
