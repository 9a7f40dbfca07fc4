use Rattle.sx_script.proofs.Spelt.{read_within}
use Rattle.sx_script.proofs.commands.command.Goals as goal

pub returns-clause-within : goal.returns-clause-within
returns-clause-within c = read_within c.short_command.result c.trimmed.result.now c.short_command.ensures.says c.short_command.ensures.fault
