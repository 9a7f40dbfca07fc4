use Rattle.sx_log.proofs.Names.{names_kept}
use Rattle.sx_log.specs.Finding.{fields_in}
use Rattle.sx_log.proofs.opening.birth_from.Goals as goal

pub name_from-requires : goal.name_from-requires
name_from-requires c = (names_kept (fields_in c.args.given.now) c.requires).0

pub name_from-requires-2 : goal.name_from-requires-2
name_from-requires-2 c = (names_kept (fields_in c.args.given.now) c.requires).1
