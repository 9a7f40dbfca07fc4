use Rattle.std.proofs.Common.{rules, ◌≡◌, ◌∙◌, ◌++◌, ap, sym, to_z, of_z, w64}
use Rattle.std.proofs.lemmas.Int.{to_z-of_z}
use Rattle.std.specs.Int.{to_be_bytes, cast_unsigned}
use Rattle.sx_root.proofs.Fields.{read_root}
use Rattle.sx_root.specs.Root.{mark}
use Rattle.sx_root.specs.declared.root.RevisionRoot.{RevisionRoot}
use Rattle.sx_root.proofs.root.read_fields.Goals as goal

pub returns-clause-written : goal.returns-clause-written
returns-clause-written c =
    let root : RevisionRoot = record { revision = c.in_ok-revision.revision; time = to_z w64 (of_z w64 c.in_ok-time.time); first_frame = c.in_ok-first_frame.first_frame; frames = c.in_ok-frames.frames; node_root = c.in_ok-node_root.node_root; path_root = c.in_ok-path_root.path_root; next = c.in_ok-next.next; nodes = c.in_ok-nodes.nodes; paths = c.in_ok-paths.paths; body = c.in_ok-body.body } in
    let is : c.in_ok-given.given.now ≡ mark = search rules in
    let given : c.args.fields.now ≡ mark ++ c.bytes.new.self = c.in_ok-given.ensures.written.0 ∙ ap (λ b. b ++ c.bytes.new.self) is in
    let time : c.u32.new.self ≡ to_be_bytes w64 (cast_unsigned w64 root.time) ++ c.read_time.new.fields =
    c.in_ok-time.ensures.written ∙ ap (λ t. to_be_bytes w64 (cast_unsigned w64 t) ++ c.read_time.new.fields) (sym (to_z-of_z w64 c.in_ok-time.time c.in_ok-time.ensures.range)) in
    read_root root c.args.fields.now c.bytes.new.self c.u32.new.self c.read_time.new.fields c.u32-2.new.self c.u32-3.new.self c.u32-4.new.self c.u32-5.new.self c.u32-6.new.self c.u32-7.new.self c.u32-8.new.self c.u32-9.new.self given c.in_ok-revision.ensures.written time c.in_ok-first_frame.ensures.written c.in_ok-frames.ensures.written c.in_ok-node_root.ensures.written c.in_ok-path_root.ensures.written c.in_ok-next.ensures.written c.in_ok-nodes.ensures.written c.in_ok-paths.ensures.written c.in_ok-body.ensures.written
