-- What can be told of a line.
use Rattle.std.specs.Prelude.{◌<◌, ◌≤◌}
use Rattle.sx_model.specs.Edit.{IsEdit, edit_of}
use Rattle.sx_run.specs.Client.{client_count}
use Rattle.sx_run.specs.declared.line.Command.{Command}
use Rattle.sx_run.specs.declared.line.Command.TheVariants as commands
use Rattle.sx_run.specs.declared.line.Line.{Line}
use Rattle.sx_run.specs.declared.line.Line.TheVariants as lines
use Rattle.sx_run.specs.declared.reply.Said.{Said}
use Rattle.sx_run.specs.declared.reply.Said.TheVariants as said
use Rattle.sx_tree.specs.declared.edit.Edit.{Edit}
use Rattle.sx_tree.specs.declared.edit.Edit.TheVariants as edits
use Rattle.sx_tree.specs.declared.json_fault.JsonFault.{JsonFault}
use Rattle.sx_tree.specs.declared.json_fault.JsonFault.TheVariants as faults
use Rattle.sx_tree.specs.Value.{value_of, depth}

-- it is a fault of a text, and no want of memory
abbrev pub IsOfText : JsonFault → Type 0
IsOfText (faults.BadByte at) = Unit {0}
IsOfText (faults.TooDeep at) = Unit {0}
IsOfText (faults.DuplicateName at) = Unit {0}
IsOfText (faults.LoneSurrogate at) = Unit {0}
IsOfText (faults.NumberTooLong at) = Unit {0}
IsOfText (faults.StringTooLong at) = Unit {0}
IsOfText faults.Ended = Unit {0}
IsOfText faults.OutOfMemory = ⊥

-- where a JSON text is refused, it has a fault
abbrev pub IsTold : Said → Type 0
IsTold said.Done = Unit {0}
IsTold (said.First number) = Unit {0}
IsTold (said.Committed revision time) = Unit {0}
IsTold (said.Opened revision) = Unit {0}
IsTold (said.Answer answer) = Unit {0}
IsTold said.NoCommand = Unit {0}
IsTold (said.Json fault) = IsOfText fault
IsTold (said.Refused refusal) = Unit {0}
IsTold (said.Missing asked seen) = Unit {0}
IsTold (said.NoNode node) = Unit {0}
IsTold (said.NoPath path) = Unit {0}
IsTold said.Failed = Unit {0}
IsTold (said.Damaged damage) = Unit {0}
IsTold (said.LogFull frames revisions) = Unit {0}
IsTold (said.CommitTooLarge bytes) = Unit {0}
IsTold (said.FailedStage stage) = Unit {0}
IsTold (said.Stopped stage) = Unit {0}

-- a text that is refused has a fault
abbrev pub HasFault : Line → Type 0
HasFault lines.Skip = Unit {0}
HasFault (lines.Refused client) = Unit {0}
HasFault (lines.BadJson client fault) = IsOfText fault
HasFault (lines.Command client said) = Unit {0}

-- at most 256 arrays and objects nest in its value
abbrev pub Nests : Edit → Type 0
Nests (edits.Load value) = depth (value_of value) ≤ 256
Nests (edits.Insert place name value) = depth (value_of value) ≤ 256
Nests (edits.SetScalar node value) = Unit {0}
Nests (edits.Replace node value) = depth (value_of value) ≤ 256
Nests (edits.Rename node name) = Unit {0}
Nests (edits.Remove node) = Unit {0}

-- its value and its name keep the limits of JSON texts
abbrev pub IsEditWithin : Edit → Type 0
IsEditWithin edit = IsEdit (edit_of edit) × Nests edit

abbrev pub IsCommandWithin : Command → Type 0
IsCommandWithin (commands.Edit edit) = IsEditWithin edit
IsCommandWithin commands.Rollback = Unit {0}
IsCommandWithin commands.Commit = Unit {0}
IsCommandWithin (commands.Open which) = Unit {0}
IsCommandWithin (commands.Ask query) = Unit {0}
IsCommandWithin commands.Quit = Unit {0}

-- The client is one of the script's, a text that is refused has a fault, and a value keeps the limits.
abbrev pub IsWithin : Line → Type 0
IsWithin lines.Skip = Unit {0}
IsWithin (lines.Refused client) = client < client_count
IsWithin (lines.BadJson client fault) = (client < client_count) × IsOfText fault
IsWithin (lines.Command client said) = (client < client_count) × IsCommandWithin said
