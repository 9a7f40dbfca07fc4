use Rattle.std.proofs.Common.{arith}
use Rattle.sx_json.proofs.PlainLanes.{mask_plain}
use Rattle.sx_json.proofs.strings.plain_lanes.Goals as goal

pub returns-then-mask-eq0-clause-plain : goal.returns-then-mask-eq0-clause-plain
returns-then-mask-eq0-clause-plain c = (mask_plain c.args.bytes.now c.requires).0 (omega arith)

pub returns-else-mask-eq0-clause-within : goal.returns-else-mask-eq0-clause-within
returns-else-mask-eq0-clause-within c = ((mask_plain c.args.bytes.now c.requires).1 (omega arith)).0

pub returns-else-mask-eq0-clause-plain : goal.returns-else-mask-eq0-clause-plain
returns-else-mask-eq0-clause-plain c = ((mask_plain c.args.bytes.now c.requires).1 (omega arith)).1
