use Rattle.std.proofs.Common.{rules, arith, subst, IfSome, Option, List, ℕ}
use Rattle.std.specs.Prelude.{◌↔◌, IsTrue}
use Rattle.sx_log.specs.Finding.{HasFront, IsWhole, fields_in}
use Rattle.sx_layout.specs.Birth.{AreFields}
use Rattle.sx_log.specs.declared.reading.GivenFields.{GivenFields}
use Rattle.sx_log.proofs.Finding.{other_told, whole_told, odd_told}
use Rattle.sx_log.proofs.reading.find_whole.Goals as goal

pub returns-in_default-clause-found : goal.returns-in_default-clause-found
returns-in_default-clause-found g c =
    other_told (g.V.Volume.bytes c.args.volume.now) (g.V.Volume.size c.args.volume.now) c.in_ok-first.field-0.first c.in_ok-first.field-0.given (g.met.V.Volume.told_size c.args.volume.now) (omega arith) (search rules) c.in_default.not-Some c.in_ok-first.ensures.front

pub returns-then-branch-clause-found : goal.returns-then-branch-clause-found
returns-then-branch-clause-found g c =
    let whole = subst (λ (b : Option (List ℕ)). IfSome b (λ all. IsTrue c.in_ok-is_whole.field-0 ↔ IsWhole all (fields_in c.in-Some.given))) c.read_front.ensures.kept.same_bytes c.in_ok-is_whole.ensures.whole in
    let fields = subst (λ (o : Option GivenFields). IfSome o (λ f. AreFields (fields_in f))) c.in-Some.is c.in_ok-first.ensures.fields in
    let front = subst (λ (o : Option GivenFields). IfSome (g.V.Volume.bytes c.args.volume.now) (λ all. HasFront all c.in_ok-first.field-0.first o)) c.in-Some.is c.in_ok-first.ensures.front in
    whole_told (g.V.Volume.bytes c.args.volume.now) c.in_ok-first.field-0.first c.in-Some.given c.in_ok-is_whole.field-0 fields (search rules) (search rules) c.if-branch.true whole front

pub returns-clause-found : goal.returns-clause-found
returns-clause-found g c =
    let whole = subst (λ (b : Option (List ℕ)). IfSome b (λ all. IsTrue c.in_ok-is_whole.field-0 ↔ IsWhole all (fields_in c.in-Some.given))) c.read_front.ensures.kept.same_bytes c.in_ok-is_whole.ensures.whole in
    let fields = subst (λ (o : Option GivenFields). IfSome o (λ f. AreFields (fields_in f))) c.in-Some.is c.in_ok-first.ensures.fields in
    let front = subst (λ (o : Option GivenFields). IfSome (g.V.Volume.bytes c.args.volume.now) (λ all. HasFront all c.in_ok-first.field-0.first o)) c.in-Some.is c.in_ok-first.ensures.front in
    odd_told (g.V.Volume.bytes c.args.volume.now) (g.V.Volume.size c.args.volume.now) c.in_ok-first.field-0.first c.in-Some.given c.in_ok-is_whole.field-0 fields (g.met.V.Volume.told_size c.args.volume.now) (omega arith) (search rules) (search rules) c.if-branch.false whole front
