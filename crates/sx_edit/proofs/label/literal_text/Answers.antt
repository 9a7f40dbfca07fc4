use Rattle.std.proofs.Common.{sym, subst, IsUtf8, ◌∙◌}
use Rattle.std.proofs.Math.Logic.{∥∥₁_map}
use Rattle.sx_tree.proofs.NumberTexts.{IsUtf8-number, number_known}
use Rattle.sx_edit.proofs.label.literal_text.Goals as goal

pub unreachable-requires : goal.unreachable-requires
unreachable-requires c =
    let refused = rw c.in-Err-NotUtf8.field-0-is at c.in-Err-NotUtf8.ensures.fault in
    refused.0 (subst IsUtf8 (sym c.as_bytes.ensures.same) (IsUtf8-number _ (number_known _ c.as_bytes.ensures.number)))

pub returns-in-Ok-clause-literal : goal.returns-in-Ok-clause-literal
returns-in-Ok-clause-literal c =
    ∥∥₁_map c.as_bytes.ensures.number (λ number. rw (c.in-Ok.ensures.same ∙ c.as_bytes.ensures.same) (number, c.as_bytes.ensures.short))
