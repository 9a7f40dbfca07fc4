use Rattle.std.proofs.Common.{inl, inr, ◌≡◌, ◌≢◌, ◌+◌, ◌-◌, ◌∙◌, ℕ, ap, arith, length, refl, sym}
use Rattle.sha2.specs.Sha256.{sha256}
use Rattle.sx_bytes.specs.declared.damage.Damage.{Damage}
use Rattle.sx_frame.proofs.Differ.{differ, same}
use Rattle.sx_frame.specs.Frame.{body_length}
use Rattle.sx_frame.specs.Violation.{damage_at, tell}
use Rattle.sx_frame.proofs.frame.open.Goals as goal

pub returns-then-ne-clause-fault : goal.returns-then-ne-clause-fault
returns-then-ne-clause-fault c =
    let is = c.digest-found.ensures in (
      record { rule = 1; kept = c.args.digest.now; found = sha256 c.args.bytes.now },
      inl (λ equal. differ c.digest-found.result c.args.digest.now c.ne.result c.ne.ensures c.if-ne.true (is ∙ equal), refl),
      ap (λ found. record { place = c.args.place; rule = 1; kept = c.args.digest.now; found = found }) is,
    )

length_told : (place told body all found : ℕ) (damage : Damage) → body + 5 ≡ all → found ≡ told → damage ≡ damage_at place (tell 17 body found)
    → damage ≡ damage_at place (tell 17 (all - 5) told)
length_told place told body all found damage long is tells =
    let size : body ≡ all - 5 = omega arith in tells ∙ ap (λ n. damage_at place (tell 17 n found)) size ∙ ap (λ n. damage_at place (tell 17 (all - 5) n)) is

pub returns-then-body-from-clause-fault : goal.returns-then-body-from-clause-fault
returns-then-body-from-clause-fault c =
    let digest : sha256 c.args.bytes.now ≡ c.args.digest.now = sym c.digest-found.ensures ∙ same c.digest-found.result c.args.digest.now c.ne.result c.ne.ensures c.if-ne.false in
    let told = c.parts-kind.ensures.length in
    let wrong : body_length c.args.bytes.now ≢ length c.args.bytes.now - 5 =
    λ equal. c.if-body-from.true (omega (arith, equal, told, c.parts-kind.ensures.body, c.from.ensures)) in (
      tell 17 (length c.args.bytes.now - 5) (body_length c.args.bytes.now),
      inr (digest, wrong, refl),
      length_told c.args.place (body_length c.args.bytes.now) (length c.parts-kind.result.2.now) (length c.args.bytes.now) c.from-then-body-from.result c.number_damage.result
          c.parts-kind.ensures.body (c.from-then-body-from.ensures ∙ told) c.number_damage.ensures,
    )
