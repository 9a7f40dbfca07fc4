-- The limits that no volume of a test reaches: what the rules tell at each of them, and one past it.
use Rattle.std.proofs.Common.{◌≡◌, ℕ, None, Some, refl}
use Rattle.sx_frame.specs.Violation.{tell}
use Rattle.sx_layout.specs.FrameGroup.{first_root}
use Rattle.sx_layout.specs.Rule.{first_broken}
use Rattle.sx_layout.specs.Rules.{order_rules, size_rules}
use Rattle.sx_root.specs.declared.root.RevisionRoot.{RevisionRoot}

-- a revision up to which there are 16,777,215 frames, and one behind it
abbrev last : RevisionRoot
last = record first_root { revision = 7; first_frame = 16777000; frames = 215 }

abbrev with_frames : ℕ → RevisionRoot
with_frames count = record first_root { revision = 8; first_frame = 16777215; frames = count }

frames_at_the_limit : first_broken (order_rules last (with_frames 1)) ≡ None
frames_at_the_limit = refl

frames_past_it : first_broken (order_rules last (with_frames 2)) ≡ Some (tell 10 16777216 16777217)
frames_past_it = refl

-- a revision of this number without frames
abbrev numbered : ℕ → RevisionRoot
numbered revision = record first_root { revision = revision }

revisions_at_the_limit : first_broken (order_rules (numbered 16777215) (numbered 16777216)) ≡ None
revisions_at_the_limit = refl

revisions_past_it : first_broken (order_rules (numbered 16777216) (numbered 16777217)) ≡ Some (tell 10 16777216 16777217)
revisions_past_it = refl

-- a revision whose frames have so many bytes
abbrev with_body : ℕ → RevisionRoot
with_body bytes = record first_root { body = bytes }

size_at_the_limit : first_broken (size_rules 268435456 (with_body 268435375)) ≡ None
size_at_the_limit = refl

size_past_it : first_broken (size_rules 268435457 (with_body 268435376)) ≡ Some (tell 6 268435456 268435457)
size_past_it = refl

-- the bytes that are left are tested before the limit
size_past_both : first_broken (size_rules 268435455 (with_body 268435376)) ≡ Some (tell 6 268435455 268435457)
size_past_both = refl
