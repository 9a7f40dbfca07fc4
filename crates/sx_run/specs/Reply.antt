-- The bytes of replies.
use Rattle.std.specs.Prelude.{ℕ, ℤ, zero, suc, ◌/◌, ◌%◌, ◌==◌, if◌then◌else◌, List, [], ◌∷◌, ◌++◌, codes, flat_map, Option, None, Some}
use Rattle.std.specs.Fmt.{decimal, signed_decimal}
use Rattle.std.specs.Int.{to_be_bytes, w128}
use Rattle.sx_model.specs.Canonical.{lower_hex_digit, string_text}
use Rattle.sx_model.specs.TreeText.{truth_text}
use Rattle.sx_run.specs.Client.{client_name}
use Rattle.sx_run.specs.declared.reply.Said.{Said}
use Rattle.sx_run.specs.declared.reply.Said.TheVariants as said
use Rattle.sx_tree.specs.declared.edit.EditRefusal.{EditRefusal}
use Rattle.sx_tree.specs.declared.edit.EditRefusal.TheVariants as refusals
use Rattle.sx_tree.specs.declared.json_fault.JsonFault.{JsonFault}
use Rattle.sx_tree.specs.declared.json_fault.JsonFault.TheVariants as faults
use Rattle.sx_tree.specs.declared.query.Answer.{Answer}
use Rattle.sx_tree.specs.declared.query.Answer.TheVariants as answers
use Rattle.sx_tree.specs.declared.record.Kind.{Kind}
use Rattle.sx_tree.specs.declared.record.Kind.TheVariants as kinds
use Rattle.sx_tree.specs.declared.record.NodeRecord.{NodeRecord}

abbrev pub kind_name : Kind → List ℕ
kind_name kinds.Document = codes "Document"
kind_name kinds.Object = codes "Object"
kind_name kinds.Array = codes "Array"
kind_name kinds.Key = codes "Key"
kind_name kinds.Str = codes "String"
kind_name kinds.Number = codes "Number"
kind_name kinds.Bool = codes "Bool"
kind_name kinds.Null = codes "Null"

-- a space and a number
abbrev pub spaced : ℕ → List ℕ
spaced n = codes " " ++ decimal n

-- a space and the number of the node linked to, or `-`
abbrev pub link_bytes : Option ℕ → List ℕ
link_bytes None = codes " -"
link_bytes (Some node) = spaced node

-- the JSON text of a Key's name or of a scalar, and `-` for the others
abbrev pub label_bytes : Kind → List ℕ → List ℕ
label_bytes kinds.Document label = codes "-"
label_bytes kinds.Object label = codes "-"
label_bytes kinds.Array label = codes "-"
label_bytes kinds.Key label = string_text label
label_bytes kinds.Str label = string_text label
label_bytes kinds.Number label = label
label_bytes kinds.Bool label = truth_text label
label_bytes kinds.Null label = codes "null"

-- a node without its hash
abbrev pub node_bytes : NodeRecord → List ℕ
node_bytes node =
    kind_name node.kind ++ (link_bytes node.parent ++ (link_bytes node.left ++ (link_bytes node.right ++ (link_bytes node.first ++ (link_bytes node.last
    ++ (spaced node.children ++ (spaced node.descendants ++ (spaced node.path ++ (codes " " ++ label_bytes node.kind node.label)))))))))

-- 32 lower-case digits to the base 16
abbrev pub hash_bytes : ℕ → List ℕ
hash_bytes hash = flat_map (λ byte. lower_hex_digit (byte / 16) ∷ lower_hex_digit (byte % 16) ∷ []) (to_be_bytes w128 hash)

-- an answer, behind `ok`
abbrev pub answer_bytes : Answer → List ℕ
answer_bytes (answers.Text text) = codes " " ++ text
answer_bytes answers.Empty = codes " empty"
answer_bytes (answers.Node node) = codes " " ++ node_bytes node
answer_bytes (answers.Hash hash) = codes " " ++ hash_bytes hash
answer_bytes (answers.Nodes nodes) = flat_map spaced nodes
answer_bytes (answers.Path count text) = spaced count ++ (codes " " ++ text)
answer_bytes (answers.Total count) = spaced count

-- the name of a fault, and its place
abbrev pub fault_bytes : JsonFault → List ℕ
fault_bytes (faults.BadByte at) = codes "BadByte" ++ spaced at
fault_bytes (faults.TooDeep at) = codes "TooDeep" ++ spaced at
fault_bytes (faults.DuplicateName at) = codes "DuplicateName" ++ spaced at
fault_bytes (faults.LoneSurrogate at) = codes "LoneSurrogate" ++ spaced at
fault_bytes (faults.NumberTooLong at) = codes "NumberTooLong" ++ spaced at
fault_bytes (faults.StringTooLong at) = codes "StringTooLong" ++ spaced at
fault_bytes faults.Ended = codes "Ended"
fault_bytes faults.OutOfMemory = []

abbrev pub refusal_bytes : EditRefusal → List ℕ
refusal_bytes (refusals.NoNode node) = codes "NoNode" ++ spaced node
refusal_bytes (refusals.WrongKind node kind) = codes "WrongKind" ++ (spaced node ++ (codes " " ++ kind_name kind))
refusal_bytes (refusals.NameTaken node) = codes "NameTaken" ++ spaced node
refusal_bytes (refusals.DocumentFull node) = codes "DocumentFull" ++ spaced node
refusal_bytes (refusals.TooDeep depth) = codes "TooDeep" ++ spaced depth
refusal_bytes (refusals.NumbersSpent next) = codes "NumbersSpent" ++ spaced next
refusal_bytes refusals.NameMissing = codes "NameMissing"
refusal_bytes refusals.NameUnasked = codes "NameUnasked"
refusal_bytes (refusals.PathsSpent paths) = codes "PathsSpent" ++ spaced paths

-- a reply without a client's name and without its line feed
abbrev pub said_bytes : Said → List ℕ
said_bytes said.Done = codes "ok"
said_bytes (said.First number) = codes "ok" ++ spaced number
said_bytes (said.Committed revision time) = codes "ok" ++ (spaced revision ++ (codes " " ++ signed_decimal time))
said_bytes (said.Opened revision) = codes "ok" ++ spaced revision
said_bytes (said.Answer answer) = codes "ok" ++ answer_bytes answer
said_bytes said.NoCommand = codes "refused line"
said_bytes (said.Json fault) = codes "refused Json " ++ fault_bytes fault
said_bytes (said.Refused refusal) = codes "refused " ++ refusal_bytes refusal
said_bytes (said.Missing asked seen) = codes "refused Missing" ++ (spaced asked ++ spaced seen)
said_bytes (said.NoNode node) = codes "refused NoNode" ++ spaced node
said_bytes (said.NoPath path) = codes "refused NoPath" ++ spaced path
said_bytes said.Failed = codes "refused Failed"
said_bytes (said.Damaged damage) = codes "refused Damaged" ++ (spaced damage.place ++ spaced damage.rule)
said_bytes (said.LogFull frames revisions) = codes "refused LogFull" ++ (spaced frames ++ spaced revisions)
said_bytes (said.CommitTooLarge bytes) = codes "refused CommitTooLarge" ++ spaced bytes
said_bytes (said.FailedStage stage) = codes "refused Failed" ++ spaced stage
said_bytes (said.Stopped stage) = codes "refused Stopped" ++ spaced stage

-- inside a block the client's name, a colon and a space stand before the reply
abbrev pub prefix_bytes : Option ℕ → List ℕ
prefix_bytes None = []
prefix_bytes (Some client) = client_name client ++ codes ": "

-- a whole reply
abbrev pub reply_bytes : Option ℕ → Said → List ℕ
reply_bytes client said = prefix_bytes client ++ (said_bytes said ++ codes "\n")
