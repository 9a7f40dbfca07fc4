use Rattle.std.proofs.Common.{◌≡◌, ◌∙◌, ◌∷◌, ap, inl, inr, arith, codes, length}
use Rattle.sx_model.specs.Faults.{ScalarFault}
use Rattle.sx_model.specs.StringFaults.{QuotedFault}
use Rattle.sx_json.proofs.FaultScalars.{true_keeps, false_keeps, null_keeps, word_goes}
use Rattle.sx_json.proofs.StringTexts.{quoted_fault, utf8_behind}
use Rattle.std.proofs.lemmas.Result.{err_from_is_err_and}
use Rattle.sx_json.proofs.Results.{unless_map}
use Rattle.sx_json.proofs.scalars.scalar_at.Goals as goal

pub returns-in_err-text-in-34-clause-fault : goal.returns-in_err-text-in-34-clause-fault
returns-in_err-text-in-34-clause-fault c =
    let p = err_from_is_err_and c.from_residual.result c.from_residual.ensures.1 in
    let is : c.args.bytes.now ≡ 34 ∷ c.in-Some.inside.now = c.in-Some.ensures.cases.0 ∙ ap (λ b. b ∷ c.in-Some.inside.now) c.in-34.is in
    rw (p.1, p.2)
    (unless_map (QuotedFault c.args.end c.args.bytes.now) (ScalarFault c.args.end c.args.bytes.now) _ (λ h. inr (inl h)) (quoted_fault c.args.end c.args.bytes.now c.in-Some.inside.now _ is (c.in_err-text-in-34.ensures.fault (utf8_behind 34 c.args.bytes.now c.in-Some.inside.now (omega arith) is c.requires.utf8))))

pub returns-in_ok-text-in-34-clause-goes_on : goal.returns-in_ok-text-in-34-clause-goes_on
returns-in_ok-text-in-34-clause-goes_on c =
    let is : c.args.bytes.now ≡ 34 ∷ c.in-Some.inside.now = c.in-Some.ensures.cases.0 ∙ ap (λ b. b ∷ c.in-Some.inside.now) c.in-34.is in
    (c.in_ok-text-in-34.ensures.utf8 (utf8_behind 34 c.args.bytes.now c.in-Some.inside.now (omega arith) is c.requires.utf8), omega (arith, c.in_ok-text-in-34.ensures.shorter, ap length is))

pub returns-in_ok-left-in-116-clause-goes_on : goal.returns-in_ok-left-in-116-clause-goes_on
returns-in_ok-left-in-116-clause-goes_on c = word_goes (codes "true") c.args.bytes.now c.in_ok-left-in-116.left.now (true_keeps c.in_ok-left-in-116.left.now) c.in_ok-left-in-116.ensures.ok c.requires.utf8

pub returns-in_ok-left-in-102-clause-goes_on : goal.returns-in_ok-left-in-102-clause-goes_on
returns-in_ok-left-in-102-clause-goes_on c = word_goes (codes "false") c.args.bytes.now c.in_ok-left-in-102.left.now (false_keeps c.in_ok-left-in-102.left.now) c.in_ok-left-in-102.ensures.ok c.requires.utf8

pub returns-in_ok-left-in-110-clause-goes_on : goal.returns-in_ok-left-in-110-clause-goes_on
returns-in_ok-left-in-110-clause-goes_on c = word_goes (codes "null") c.args.bytes.now c.in_ok-left-in-110.left.now (null_keeps c.in_ok-left-in-110.left.now) c.in_ok-left-in-110.ensures.ok c.requires.utf8

pub string_at-requires : goal.string_at-requires
string_at-requires c = λ _.
    let is : c.args.bytes.now ≡ 34 ∷ c.in-Some.inside.now = c.in-Some.ensures.cases.0 ∙ ap (λ b. b ∷ c.in-Some.inside.now) c.in-34.is in
    utf8_behind 34 c.args.bytes.now c.in-Some.inside.now (omega arith) is c.requires.utf8
