use Rattle.std.proofs.Common.{◌≡◌, ◌∙◌, [], ◌∷◌, ◌++◌, ap, sym, Bool, List, ℕ}
use Rattle.sha2.specs.Sha256.{sha256}
use Rattle.std.specs.Option.{option_map}
use Rattle.sx_frame.specs.Violation.{Violation, damage_at}
use Rattle.sx_layout.proofs.Broken.{broken_here, unbroken}
use Rattle.sx_layout.specs.Rule.{first_broken}
use Rattle.sx_log.proofs.Ruled.{digest_told}
use Rattle.sx_log.proofs.rules.digest_damage.Goals as goal

pub returns-then-ne : goal.returns-then-ne
returns-then-ne c =
    let head : List ℕ = c.args.head.now in
    let behind : List ℕ = c.args.behind.now in
    let held = c.update-2.ensures _ (c.update.ensures _ c.new-hasher.ensures) in
    let found : c.finalize-found.result ≡ sha256 (head ++ c.in_ok-table.table.now) = c.finalize-found.ensures _ held ∙ ap (λ (b : List ℕ). sha256 (b ++ c.in_ok-table.table.now)) c.as_slice.ensures in
    let is = digest_told head behind c.in_ok-table.table.now c.in_ok-table.kept.now c.finalize-found.result c.told-head c.requires c.in_ok-table.ensures.cases.0 c.in_ok-table.ensures.cases.1 found in
    let broken = ap (λ (r : Bool × Violation). first_broken (r ∷ [])) is ∙ broken_here _ (record { rule = 1; kept = c.in_ok-table.kept.now; found = c.finalize-found.result }) [] (sym c.ne.ensures ∙ c.if-ne.true) in
    ap (option_map (damage_at c.args.place)) (sym broken)

pub returns : goal.returns
returns c =
    let head : List ℕ = c.args.head.now in
    let behind : List ℕ = c.args.behind.now in
    let held = c.update-2.ensures _ (c.update.ensures _ c.new-hasher.ensures) in
    let found : c.finalize-found.result ≡ sha256 (head ++ c.in_ok-table.table.now) = c.finalize-found.ensures _ held ∙ ap (λ (b : List ℕ). sha256 (b ++ c.in_ok-table.table.now)) c.as_slice.ensures in
    let is = digest_told head behind c.in_ok-table.table.now c.in_ok-table.kept.now c.finalize-found.result c.told-head c.requires c.in_ok-table.ensures.cases.0 c.in_ok-table.ensures.cases.1 found in
    let broken = ap (λ (r : Bool × Violation). first_broken (r ∷ [])) is ∙ unbroken _ (record { rule = 1; kept = c.in_ok-table.kept.now; found = c.finalize-found.result }) [] (sym c.ne.ensures ∙ c.if-ne.false) in
    ap (option_map (damage_at c.args.place)) (sym broken)
