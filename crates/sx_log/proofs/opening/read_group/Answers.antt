use Rattle.std.proofs.Common.{◌≡◌, ◌≢◌, ◌∙◌, ◌-◌, ap, arith, sym, subst, rules, length, take, drop, List, ℕ, IfSome}
use Rattle.sx_frame.specs.Violation.{damage_at, tell}
use Rattle.sx_log.proofs.GroupRead.{part_of_head, tells_mark, tells_short, tells_size, whole_head}
use Rattle.sx_log.proofs.Ruled.{on_err, told, told_none}
use Rattle.sx_log.specs.Opening.{IsPartAt, TellsDamage}
use Rattle.sx_layout.specs.Rule.{first_broken}
use Rattle.sx_layout.specs.Rules.{size_rules}
use Rattle.sx_root.specs.Root.{IsRoot, mark, root_bytes}
use Rattle.sx_log.proofs.opening.read_group.Goals as goal

pub returns-then-left-clause-tells : goal.returns-then-left-clause-tells
returns-then-left-clause-tells g c =
    let left : g.V.Volume.size c.args.volume.now - c.args.place ≡ c.args.left = omega (arith, c.requires.left) in
    subst (λ n. TellsDamage (g.V.Volume.bytes c.args.volume.now) c.args.place n c.args.last.now c.number_damage.result) left
    (tells_short (g.V.Volume.bytes c.args.volume.now) (g.V.Volume.size c.args.volume.now) c.args.place c.args.last.now c.number_damage.result (g.met.V.Volume.told_size c.args.volume.now) (omega (arith, c.requires.left)) (omega (arith, left, c.if-left.true))
    (c.number_damage.ensures ∙ ap (λ n. damage_at c.args.place (tell 6 n 48)) (sym left)))

pub returns-in_default-clause-tells : goal.returns-in_default-clause-tells
returns-in_default-clause-tells g c =
    let left : g.V.Volume.size c.args.volume.now - c.args.place ≡ c.args.left = omega (arith, c.requires.left) in
    let bytes : List ℕ = c.in_ok-bytes.bytes in
    let no_mark : take 4 bytes ≢ mark = λ same.
    let never = c.in_default.ensures.some.1 (omega (arith, ap length c.new.ensures, c.in_ok-bytes.ensures.long), ap (λ (b : List ℕ). take 4 b) c.new.ensures ∙ same) in
    cc never
    in
    subst (λ n. TellsDamage (g.V.Volume.bytes c.args.volume.now) c.args.place n c.args.last.now c.mark_damage.result) left
    (tells_mark (g.V.Volume.bytes c.args.volume.now) (g.V.Volume.size c.args.volume.now) c.args.place c.args.last.now bytes c.mark_damage.result (g.met.V.Volume.told_size c.args.volume.now) c.in_ok-bytes.ensures.long (omega (arith, c.requires.left, c.if-left.false))
    c.in_ok-bytes.ensures.head no_mark c.mark_damage.ensures)

pub returns-in-Some-size_damage-clause-tells : goal.returns-in-Some-size_damage-clause-tells
returns-in-Some-size_damage-clause-tells g c =
    let left : g.V.Volume.size c.args.volume.now - c.args.place ≡ c.args.left = omega (arith, c.requires.left) in
    let bytes : List ℕ = c.in_ok-bytes.bytes in
    let root = c.in-Some.root in
    let is : IsRoot root = search rules in
    let head : bytes ≡ root_bytes root = whole_head bytes c.read.new.fields root c.in_ok-bytes.ensures.long (sym c.new.ensures ∙ c.in-Some.ensures.written) in
    subst (λ n. TellsDamage (g.V.Volume.bytes c.args.volume.now) c.args.place n c.args.last.now c.in-Some-size_damage.damage) left
    (tells_size (g.V.Volume.bytes c.args.volume.now) (g.V.Volume.size c.args.volume.now) c.args.place c.args.last.now root c.in-Some-size_damage.damage (g.met.V.Volume.told_size c.args.volume.now) is (omega (arith, c.requires.left, c.if-left.false))
    (subst (λ (h : List ℕ). IfSome (g.V.Volume.bytes c.args.volume.now) (λ all. h ≡ take 48 (drop c.args.place all))) head c.in_ok-bytes.ensures.head)
    (ap (λ n. told c.args.place (size_rules n root)) left ∙ sym c.size_damage.ensures ∙ c.in-Some-size_damage.is))

pub read_rest-requires-clause-head : goal.read_rest-requires-clause-head
read_rest-requires-clause-head g c = whole_head c.in_ok-bytes.bytes c.read.new.fields c.in-Some.root c.in_ok-bytes.ensures.long (sym c.new.ensures ∙ c.in-Some.ensures.written)

pub returns-clause-counted_err : goal.returns-clause-counted_err
returns-clause-counted_err g c =
    let root = c.in-Some.root in
    let is : IsRoot root = search rules in
    let head : c.in_ok-bytes.bytes ≡ root_bytes root = read_rest-requires-clause-head g c.before in
    let room = told_none c.args.place (first_broken (size_rules c.args.left root)) (sym c.size_damage.ensures ∙ c.in_default-size_damage.is) in
    on_err c.read_rest.result (IsPartAt (g.V.Volume.bytes c.args.volume.now) c.args.place c.args.left (g.V.Volume.bytes_read c.read_rest.new.volume - g.V.Volume.bytes_read c.args.volume.now))
    (part_of_head (g.V.Volume.bytes c.args.volume.now) c.args.place c.args.left (g.V.Volume.bytes_read c.read_rest.new.volume - g.V.Volume.bytes_read c.args.volume.now) root is
    (subst (λ (h : List ℕ). IfSome (g.V.Volume.bytes c.args.volume.now) (λ all. h ≡ take 48 (drop c.args.place all))) head c.in_ok-bytes.ensures.head) room (omega (arith, c.read_rest.ensures.counted, c.read_head.ensures.counted)))
