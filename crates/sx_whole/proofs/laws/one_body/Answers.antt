use Rattle.sx_whole.proofs.OneBody.{one_body}
use Rattle.sx_whole.proofs.laws.one_body.Goals as goal

pub returns : goal.returns
returns c = one_body
