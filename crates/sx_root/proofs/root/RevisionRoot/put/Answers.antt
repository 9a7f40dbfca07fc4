use Rattle.std.proofs.Common.{rules, ◌∙◌, ◌++◌, ap, Result, Ok, Err, OnOk, FitsSigned}
use Rattle.std.proofs.lemmas.Int.{to_z-of_z}
use Rattle.std.specs.Int.{cast_unsigned, to_be_bytes, w64}
use Rattle.sx_root.proofs.Fields.{put_root}
use Rattle.sx_root.proofs.root.RevisionRoot.put.Goals as goal

on_ok : {T E : Type 0} (result : Result T E) (P Q : Type 0) → (P → Q) → OnOk result P → OnOk result Q
on_ok (Ok x) P Q map holds = map holds
on_ok (Err e) P Q map holds = tt

pub returns-clause-ok : goal.returns-clause-ok
returns-clause-ok c =
    let fits : FitsSigned w64 c.args.self.now.time = search rules in
    let time = c.in_ok-put_time.ensures.ok ∙ ap (λ t. c.u32.new.self ++ to_be_bytes w64 (cast_unsigned w64 t)) (to_z-of_z w64 c.args.self.now.time fits) in
    on_ok c.u32-9.result _ _
    (λ last. put_root c.args.self.now c.args.out.now c.bytes.new.self c.u32.new.self c.put_time.new.out c.u32-2.new.self c.u32-3.new.self c.u32-4.new.self c.u32-5.new.self c.u32-6.new.self c.u32-7.new.self c.u32-8.new.self c.u32-9.new.self c.in_ok-bytes.ensures.ok c.in_ok-u32.ensures.ok time c.in_ok-u32-2.ensures.ok c.in_ok-u32-3.ensures.ok c.in_ok-u32-4.ensures.ok c.in_ok-u32-5.ensures.ok c.in_ok-u32-6.ensures.ok c.in_ok-u32-7.ensures.ok c.in_ok-u32-8.ensures.ok last) c.u32-9.ensures.ok
