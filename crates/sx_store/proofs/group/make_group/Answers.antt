use Rattle.std.proofs.Common.{rules, ◌∙◌, ap, refl, sym, subst, arith, ℕ, ℤ, ◌+◌, ◌<◌, ◌^◌, length, FitsSigned, to_z, of_z, w64}
use Rattle.std.proofs.lemmas.Int.{to_z-of_z}
use Rattle.std.specs.FinMap as fin
use Rattle.sx_layout.specs.FrameGroup.{frames_after}
use Rattle.sx_paths.specs.Table.{Table}
use Rattle.sx_root.specs.declared.root.RevisionRoot.{RevisionRoot}
use Rattle.sx_store.specs.Groups.{count_in}
use Rattle.sx_store.specs.declared.group.NewGroup.{NewGroup}
use Rattle.sx_store.proofs.GroupLaws.{Fits, few-nodes, fits, group-after, group-shows, is-body, long, room-err, room-ok, too-many}
use Rattle.sx_tree.specs.declared.record.NodeRecord.{NodeRecord}
use Rattle.sx_view.specs.Records.{RecordMap}
use Rattle.sx_whole.specs.Stands.{body_size}
use Rattle.sx_store.proofs.group.make_group.Goals as goal

pub returns-in_err-check_room-clause-room : goal.returns-in_err-check_room-clause-room
returns-in_err-check_room-clause-room c state reached shows =
    let all = ap length c.deref.ensures.value ∙ long state c.args.draft.now c.in_ok-body.body.items shows c.in_ok-body.ensures.body in
    room-err (Unit {0}) _ (frames_after c.args.last.now) c.args.last.now.revision (length c.deref.result.now) (body_size state) c.from_residual-in_err-check_room.result c.in_err-check_room.field-0.0 all
    c.from_residual-in_err-check_room.ensures.1 c.in_err-check_room.ensures

pub returns-clause-group : goal.returns-clause-group
returns-clause-group c =
    let last = c.args.last.now in
    let row = c.in_ok-sealed.sealed.row in
    let time_is = to_z-of_z w64 c.args.time c.ranges.time in
    let next_fits : c.next_number-next.result < 2 ^ 32 = c.next_number-next.ensures.fits in
    let nodes_fit : c.in_ok-nodes.nodes < 2 ^ 32 = search rules in
    let paths_fit : c.len.result < 2 ^ 32 = search rules in
    let room = fits (frames_after last) last.revision (5 + length c.deref.result.now) c.in_ok-check_room.ensures.0 c.in_ok-check_room.ensures.1 in
    let body = c.in_ok-body.body.items in
    let fitting = subst (λ (n : ℕ). Fits (frames_after last) last.revision (5 + n)) (ap length c.deref.ensures.value) room in
    let bytes_fit : row.bytes < 2 ^ 32 = search rules in
    group-after last c.args.time c.args.draft.now body c.in_ok-sealed.sealed.bytes.items _
    (record {
      revision = refl;
      time_is = time_is;
      first_frame = refl;
      frames = refl;
      node_root = refl;
      path_root = refl;
      next = c.next_number-next.ensures.number ∙ c.node_count.ensures.same_next ∙ c.body_of.ensures.same_next;
      nodes = c.in_ok-nodes.ensures.count ∙ ap (λ (m : RecordMap NodeRecord). count_in (fin.get m 0)) c.body_of.ensures.same_nodes;
      paths = c.len.ensures ∙ ap (λ (t : Table). length t.paths) (c.node_count.ensures.same_paths ∙ c.body_of.ensures.same_paths);
      body = refl;
    })
    (record { frame_is = c.in_ok-sealed.ensures.bytes; row_is = c.in_ok-sealed.ensures.row; bytes_are = c.in_ok-bytes.ensures })
    fitting c.requires.after
    (record {
      revision = omega (arith, c.requires.revisions);
      time = subst (λ (t : ℤ). FitsSigned w64 t) (sym time_is) c.ranges.time;
      first_frame = omega (arith, c.requires.frames);
      frames = omega arith;
      node_root = omega (arith, c.requires.frames);
      path_root = omega arith;
      next = next_fits;
      nodes = nodes_fit;
      paths = paths_fit;
      body = bytes_fit;
    })

pub returns-clause-shows : goal.returns-clause-shows
returns-clause-shows c state reached shows one =
    let last = c.args.last.now in
    let row = c.in_ok-sealed.sealed.row in
    let body = c.in_ok-body.body.items in
    let root : RevisionRoot = record {
      revision = last.revision + 1;
      time = to_z w64 (of_z w64 c.args.time);
      first_frame = last.first_frame + last.frames;
      frames = 1;
      node_root = last.first_frame + last.frames + 1;
      path_root = 0;
      next = c.next_number-next.result;
      nodes = c.in_ok-nodes.nodes;
      paths = c.len.result;
      body = row.bytes;
    } in
    let made : NewGroup = record { root = root; row = row; bytes = c.in_ok-bytes.bytes } in
    group-shows last c.args.time state c.args.draft.now body c.in_ok-sealed.sealed.bytes.items made reached shows one
    (record {
      revision = refl;
      time_is = to_z-of_z w64 c.args.time c.ranges.time;
      first_frame = refl;
      frames = refl;
      node_root = refl;
      path_root = refl;
      next = c.next_number-next.ensures.number ∙ c.node_count.ensures.same_next ∙ c.body_of.ensures.same_next;
      nodes = c.in_ok-nodes.ensures.count ∙ ap (λ (m : RecordMap NodeRecord). count_in (fin.get m 0)) c.body_of.ensures.same_nodes;
      paths = c.len.ensures ∙ ap (λ (t : Table). length t.paths) (c.node_count.ensures.same_paths ∙ c.body_of.ensures.same_paths);
      body = refl;
    })
    (record { frame_is = c.in_ok-sealed.ensures.bytes; row_is = c.in_ok-sealed.ensures.row; bytes_are = c.in_ok-bytes.ensures })
    (is-body state c.args.draft.now body reached shows c.in_ok-body.ensures.body c.in_ok-body.ensures.whole)

pub returns-clause-room : goal.returns-clause-room
returns-clause-room c state reached shows =
    let all = ap length c.deref.ensures.value ∙ long state c.args.draft.now c.in_ok-body.body.items shows c.in_ok-body.ensures.body in
    room-ok (frames_after c.args.last.now) c.args.last.now.revision (length c.deref.result.now) (body_size state) all c.in_ok-check_room.ensures

pub returns-in_err-check_nodes-clause-room : goal.returns-in_err-check_nodes-clause-room
returns-in_err-check_nodes-clause-room c state reached shows =
    let few = few-nodes state c.args.draft.now reached shows in
    let next = c.next_number-next.ensures.number ∙ c.node_count.ensures.same_next ∙ c.body_of.ensures.same_next in
    let nodes = c.in_ok-nodes.ensures.count ∙ ap (λ (m : RecordMap NodeRecord). count_in (fin.get m 0)) c.body_of.ensures.same_nodes in
    absurd (omega (arith, few, next, nodes, c.in_err-check_nodes.ensures.fault.0))

pub returns-in_err-check_nodes-clause-fault : goal.returns-in_err-check_nodes-clause-fault
returns-in_err-check_nodes-clause-fault c =
    let next = c.next_number-next.ensures.number ∙ c.node_count.ensures.same_next ∙ c.body_of.ensures.same_next in
    let nodes = c.in_ok-nodes.ensures.count ∙ ap (λ (m : RecordMap NodeRecord). count_in (fin.get m 0)) c.body_of.ensures.same_nodes in
    too-many c.args.place c.args.draft.now c.next_number-next.result c.in_ok-nodes.nodes c.from_residual-in_err-check_nodes.result c.in_err-check_nodes.field-0.0 c.from_residual-in_err-check_nodes.ensures.1 next nodes
    c.in_err-check_nodes.ensures.fault
