use Rattle.std.proofs.Common.{sym, subst, IsUtf8}
use Rattle.sx_tree.proofs.NumberTexts.{IsUtf8-number, number_known}
use Rattle.sx_tree.proofs.literal.Literal.to_text.Goals as goal

pub unreachable-requires : goal.unreachable-requires
unreachable-requires c =
    let refused = rw c.in-Err-NotUtf8.field-0-is at c.in-Err-NotUtf8.ensures.fault in
    refused.0 (subst IsUtf8 (sym c.as_bytes.ensures.same) (IsUtf8-number _ (number_known _ c.as_bytes.ensures.number)))
