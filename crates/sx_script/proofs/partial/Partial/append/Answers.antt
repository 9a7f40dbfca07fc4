use Rattle.std.proofs.Common.{◌≡◌, ◌∙◌, ◌++◌, ◌-◌, length, take, min, arith, rules, OnOk, vec_len}
use Rattle.std.proofs.lemmas.Result.{on_ok_weaker}
use Rattle.sx_script.proofs.Kept.{append_kept}
use Rattle.sx_script.proofs.partial.Partial.append.Goals as goal

pub returns-clause-ok : goal.returns-clause-ok
returns-clause-ok c =
    let items = c.self.inside.bytes.items in
    let piece = c.args.piece.now in
    let len : vec_len c.self.inside.bytes ≡ length items = search rules in
    let room : 8388609 - c.len-room.result ≡ 8388609 - length items = omega arith in
    let appended : OnOk c.extend_from_slice.result (c.extend_from_slice.new.self.items ≡ items ++ take (min (8388609 - c.len-room.result) (length piece)) piece) = search rules in
    on_ok_weaker c.extend_from_slice.result
    (λ is. is ∙ append_kept (8388609 - c.len-room.result) items c.args.self.now piece c.self.view_is (omega arith) room) appended
