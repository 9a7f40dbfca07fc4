use Rattle.std.proofs.Common.{◌∙◌, ◌++◌, ap, List, ℕ}
use Rattle.sha2.specs.Sha256.{sha256}
use Rattle.sx_layout.specs.Birth.{magic}
use Rattle.sx_log.proofs.Parts.{part_put}
use Rattle.sx_log.specs.Creating.{birth_of}
use Rattle.sx_log.proofs.creation.part_with_gate.Goals as goal

pub returns-clause-part : goal.returns-clause-part
returns-clause-part c =
    part_put (birth_of c.args.birth.now) c.extend_from_slice.new.self.items c.push.new.self.items c.push-2.new.self.items c.put_name.new.out.items c.put_name-2.new.out.items c.extend_from_slice-2.new.self.items c.push-3.new.self.items
    c.digest-digest.result (c.in_ok-extend_from_slice.ensures.items ∙ ap (λ (p : List ℕ). p ++ magic) c.new-part.ensures.items) c.in_ok-push.ensures.items c.in_ok-push-2.ensures.items c.in_ok-put_name.ensures.put c.in_ok-put_name-2.ensures.put (c.digest-digest.ensures ∙ ap sha256 c.as_slice.ensures.value) c.in_ok-extend_from_slice-2.ensures.items c.in_ok-push-3.ensures.items
