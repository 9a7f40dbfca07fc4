use Rattle.sx_model.specs.Front.{NoStringFront}
use Rattle.sx_model.specs.StringFaults.{FrontFault}
use Rattle.sx_json.proofs.Fronts.{front_not_fault, front_one}
use Rattle.sx_json.proofs.OneFault.{front_faults_one}
use Rattle.sx_json.proofs.Results.{if_ok_map, no_other, refused_by}
use Rattle.sx_json.proofs.front.read_string.Goals as goal

pub returns-clause-only : goal.returns-clause-only
returns-clause-only c = λ content used h. if_ok_map _ _ c.any_front.result c.any_front.ensures.ok (λ p s. front_one c.args.text.now p.0 content p.1 used s h)

pub returns-clause-refused : goal.returns-clause-refused
returns-clause-refused c = refused_by (FrontFault c.args.text.now) (NoStringFront c.args.text.now) c.any_front.result (λ f h content used s. front_not_fault c.args.text.now content used f h s) c.any_front.ensures.fault

pub returns-clause-no_other : goal.returns-clause-no_other
returns-clause-no_other c = λ f h.
    no_other _ (FrontFault c.args.text.now) c.any_front.result f (λ p s. front_not_fault c.args.text.now p.0 p.1 f h s) (λ g k. front_faults_one c.args.text.now g f k h) c.any_front.ensures.ok c.any_front.ensures.fault
