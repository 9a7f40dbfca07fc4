use Rattle.std.proofs.Common.{◌≡◌, rules}
use Rattle.std.specs.String.{string_bytes}
use Rattle.sx_run.specs.Reply.{said_bytes}
use Rattle.sx_run.specs.declared.reply.Said.TheVariants as said
use Rattle.sx_script.proofs.Saying.{said_by}
use Rattle.sx_script.proofs.replies.append_said.Goals as goal

pub returns-in_ok-format-in-LogFull-clause-written : goal.returns-in_ok-format-in-LogFull-clause-written
returns-in_ok-format-in-LogFull-clause-written c =
    let text : string_bytes c.in_ok-format-in-LogFull.field-0 ≡ said_bytes (said.LogFull c.in-LogFull.frames c.in-LogFull.revisions) = search rules in
    said_by c.append_text-in-LogFull.result c.args.out.now c.append_text-in-LogFull.new.out (string_bytes c.in_ok-format-in-LogFull.field-0) c.args.said.now (said.LogFull c.in-LogFull.frames c.in-LogFull.revisions)
    c.append_text-in-LogFull.ensures.written text c.in-LogFull.is

pub returns-in_ok-format-in-CommitTooLarge-clause-written : goal.returns-in_ok-format-in-CommitTooLarge-clause-written
returns-in_ok-format-in-CommitTooLarge-clause-written c =
    let text : string_bytes c.in_ok-format-in-CommitTooLarge.field-0 ≡ said_bytes (said.CommitTooLarge c.in-CommitTooLarge.bytes) = search rules in
    said_by c.append_text-in-CommitTooLarge.result c.args.out.now c.append_text-in-CommitTooLarge.new.out (string_bytes c.in_ok-format-in-CommitTooLarge.field-0) c.args.said.now (said.CommitTooLarge c.in-CommitTooLarge.bytes)
    c.append_text-in-CommitTooLarge.ensures.written text c.in-CommitTooLarge.is

pub returns-in_ok-format-in-FailedStage-clause-written : goal.returns-in_ok-format-in-FailedStage-clause-written
returns-in_ok-format-in-FailedStage-clause-written c =
    let text : string_bytes c.in_ok-format-in-FailedStage.field-0 ≡ said_bytes (said.FailedStage c.in-FailedStage.stage) = search rules in
    said_by c.append_text-in-FailedStage.result c.args.out.now c.append_text-in-FailedStage.new.out (string_bytes c.in_ok-format-in-FailedStage.field-0) c.args.said.now (said.FailedStage c.in-FailedStage.stage)
    c.append_text-in-FailedStage.ensures.written text c.in-FailedStage.is

pub returns-in_ok-format-in-Stopped-clause-written : goal.returns-in_ok-format-in-Stopped-clause-written
returns-in_ok-format-in-Stopped-clause-written c =
    let text : string_bytes c.in_ok-format-in-Stopped.field-0 ≡ said_bytes (said.Stopped c.in-Stopped.stage) = search rules in
    said_by c.append_text-in-Stopped.result c.args.out.now c.append_text-in-Stopped.new.out (string_bytes c.in_ok-format-in-Stopped.field-0) c.args.said.now (said.Stopped c.in-Stopped.stage)
    c.append_text-in-Stopped.ensures.written text c.in-Stopped.is

pub returns-in_ok-format-in-Damaged-clause-written : goal.returns-in_ok-format-in-Damaged-clause-written
returns-in_ok-format-in-Damaged-clause-written c =
    let text : string_bytes c.in_ok-format-in-Damaged.field-0 ≡ said_bytes (said.Damaged c.in-Damaged.field-0) = search rules in
    said_by c.append_text-in-Damaged.result c.args.out.now c.append_text-in-Damaged.new.out (string_bytes c.in_ok-format-in-Damaged.field-0) c.args.said.now (said.Damaged c.in-Damaged.field-0)
    c.append_text-in-Damaged.ensures.written text c.in-Damaged.is
