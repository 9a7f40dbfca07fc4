use Rattle.sx_shows.proofs.ShownLeads.{leaves_lead}
use Rattle.sx_shows.proofs.laws.pages_lead.Goals as goal

pub returns : goal.returns
returns c = leaves_lead
