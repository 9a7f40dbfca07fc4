use Rattle.std.proofs.Common.{◌<◌, length, inl, arith}
use Rattle.std.proofs.lemmas.Bool.Decides.{nat_tests}
use Rattle.sx_tree.proofs.NumberFronts.{not_number}
use Rattle.sx_record.proofs.node.is_number.Goals as goal

pub returns-else-front-bytes : goal.returns-else-front-bytes
returns-else-front-bytes c =
    let longest = c.number_front-front.ensures.longest in
    let within = longest.within in
    let shorter : c.number_front-front.result.len < length c.args.bytes.now = omega arith in
    (λ same. grind (arith, nat_tests), λ number. absurd (not_number _ _ longest (inl shorter) number))
