use Rattle.std.proofs.Common.{◌≡◌, ◌∙◌, ◌+◌, ◌*◌, [], ◌∷◌, ◌++◌, ap, sym, arith, length, Bool, List, ℕ}
use Rattle.sx_frame.specs.Violation.{Violation}
use Rattle.sx_layout.specs.Rules.{count_rules, digest_rule, order_rules, table_rules}
use Rattle.sx_log.proofs.Ruled.{nothing_found, told, told_last, told_second, told_third}
use Rattle.sx_log.proofs.rules.part_damage.Goals as goal

-- the rule on the digest, by the frames of the head
by_frames : (bytes : List ℕ) (frames long : ℕ) → long ≡ 36 * frames + 32 → digest_rule bytes (16 + long) ≡ digest_rule bytes (48 + 36 * frames)
by_frames bytes frames long is = let same : 16 + long ≡ 48 + 36 * frames = omega (arith, is) in ap (digest_rule bytes) same

pub returns-in-Some-order_damage : goal.returns-in-Some-order_damage
returns-in-Some-order_damage c =
    let root = c.args.root.now in
    let bytes : List ℕ = c.args.head.now ++ c.args.behind.now in
    let at = ap (λ (r : Bool × Violation). told c.args.place (r ∷ [])) (by_frames bytes root.frames (length c.args.behind.now) c.requires.head) in
    told_second c.args.place (digest_rule bytes (48 + 36 * root.frames) ∷ []) (order_rules c.args.last.now root) (count_rules c.args.last.now root ++ table_rules root c.args.table.now) c.in-Some-order_damage.damage
    (sym at ∙ sym c.digest_damage.ensures ∙ nothing_found c.digest_damage.result c.in_default.not-Some) (sym c.order_damage.ensures ∙ c.in-Some-order_damage.is)

pub returns-in-Some-count_damage : goal.returns-in-Some-count_damage
returns-in-Some-count_damage c =
    let root = c.args.root.now in
    let bytes : List ℕ = c.args.head.now ++ c.args.behind.now in
    let at = ap (λ (r : Bool × Violation). told c.args.place (r ∷ [])) (by_frames bytes root.frames (length c.args.behind.now) c.requires.head) in
    told_third c.args.place (digest_rule bytes (48 + 36 * root.frames) ∷ []) (order_rules c.args.last.now root) (count_rules c.args.last.now root) (table_rules root c.args.table.now) c.in-Some-count_damage.damage
    (sym at ∙ sym c.digest_damage.ensures ∙ nothing_found c.digest_damage.result c.in_default.not-Some) (sym c.order_damage.ensures ∙ nothing_found c.order_damage.result c.in_default-order_damage.not-Some) (sym c.count_damage.ensures ∙ c.in-Some-count_damage.is)

pub returns : goal.returns
returns c =
    let root = c.args.root.now in
    let bytes : List ℕ = c.args.head.now ++ c.args.behind.now in
    let at = ap (λ (r : Bool × Violation). told c.args.place (r ∷ [])) (by_frames bytes root.frames (length c.args.behind.now) c.requires.head) in
    c.table_damage.ensures
    ∙ told_last c.args.place (digest_rule bytes (48 + 36 * root.frames) ∷ []) (order_rules c.args.last.now root) (count_rules c.args.last.now root) (table_rules root c.args.table.now)
    (sym at ∙ sym c.digest_damage.ensures ∙ nothing_found c.digest_damage.result c.in_default.not-Some) (sym c.order_damage.ensures ∙ nothing_found c.order_damage.result c.in_default-order_damage.not-Some) (sym c.count_damage.ensures ∙ nothing_found c.count_damage.result c.in_default-count_damage.not-Some)
