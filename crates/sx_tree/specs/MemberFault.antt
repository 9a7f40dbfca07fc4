-- When each fault of a member comes.
use Rattle.std.specs.Prelude.{ℕ, ◌≡◌, ◌^◌, ◌-◌, min, List, Some, Contains, slice_get}
use Rattle.sx_tree.specs.declared.member_list.MemberFault.{MemberFault}
use Rattle.sx_tree.specs.declared.member_list.MemberFault.TheVariants.{Taken, OutOfMemory}

-- The name is taken where a member has it, and the fault tells that member's place, as far as it fits
-- 32 bits. Memory runs out for other names alone.
abbrev pub ExplainsMember : List (List ℕ) → List ℕ → MemberFault → Type 0
ExplainsMember names name (Taken index) = (place : ℕ) × (slice_get names place ≡ Some name) × (index ≡ min place (2 ^ 32 - 1))
ExplainsMember names name OutOfMemory = Contains names name → ⊥
