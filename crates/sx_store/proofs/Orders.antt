-- How a group follows another one.
use Rattle.std.proofs.Common.{◌≡◌, ℕ, ◌+◌, ◌≤◌, Bool, false, not, List, [], ◌∷◌, None, arith, nat_lt}
use Rattle.std.specs.Prelude.{◌==◌}
use Rattle.std.proofs.lemmas.Bool.Decides.{nat_tests}
use Rattle.std.specs.List.{AllByRecursion}
use Rattle.sx_frame.specs.Violation.{Violation}
use Rattle.sx_layout.specs.FrameGroup.{frames_after}
use Rattle.sx_layout.specs.Rule.{first_broken}
use Rattle.sx_layout.specs.Rules.{log_limit, order_rules}
use Rattle.sx_log.proofs.Ruled.{passes}
use Rattle.sx_root.specs.declared.root.RevisionRoot.{RevisionRoot}

-- it comes behind a group with the root `last`
pub record Order (last root : RevisionRoot) : Type 0 where
  pub revision : root.revision ≡ last.revision + 1
  pub first : root.first_frame ≡ frames_after last
  pub frames : frames_after root ≤ log_limit
  pub revisions : root.revision ≤ log_limit
  pub node_root : root.node_root ≤ frames_after root

same-of : (a b : ℕ) → not (a == b) ≡ false → a ≡ b
same-of a b is = grind (arith, nat_tests)

least-of : (a b : ℕ) → nat_lt a b ≡ false → b ≤ a
least-of a b is = grind (arith, nat_tests)

-- none of the rules is broken
pub none-broken : (rules : List (Bool × Violation)) → first_broken rules ≡ None → AllByRecursion (λ (rule : Bool × Violation). rule.0 ≡ false) rules
none-broken [] none = tt
none-broken (rule ∷ rules) none = let parts = passes rule.0 rule.1 rules none in (parts.0, none-broken rules parts.1)

pub order-of : (last root : RevisionRoot) → first_broken (order_rules last root) ≡ None → Order last root
order-of last root none =
    let all = none-broken (order_rules last root) none in
    record {
      revision = same-of root.revision (last.revision + 1) all.0;
      first = same-of root.first_frame (frames_after last) all.1.1.0;
      frames = least-of log_limit (frames_after root) all.1.1.1.0;
      revisions = least-of log_limit root.revision all.1.1.1.1.0;
      node_root = least-of (frames_after root) root.node_root all.1.1.1.1.1.0;
    }
