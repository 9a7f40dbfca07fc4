use Rattle.std.proofs.Common.{subst, sym, take}
use Rattle.std.specs.Prelude.{IsUtf8}
use Rattle.sx_log.proofs.Names.{name_text}
use Rattle.sx_tree.specs.TextFault.{ExplainsText}
use Rattle.sx_log.proofs.opening.name_from.Goals as goal

pub unreachable-requires : goal.unreachable-requires
unreachable-requires c =
    let explains = subst (ExplainsText (take c.from.result c.args.bytes.now)) c.in-Err-NotUtf8.field-0-is c.in-Err-NotUtf8.ensures.fault in
    explains.0 (subst (λ n. IsUtf8 (take n c.args.bytes.now)) (sym c.from.ensures) (name_text c.args.count c.args.bytes.now c.requires))
