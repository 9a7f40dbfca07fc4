use Rattle.std.proofs.Common.{◌≡◌, inl, length, IsUtf8}
use Rattle.sx_model.specs.Faults.{Faults, TextFault}
use Rattle.sx_json.proofs.OneFault.{faults_one, spells_no_fault}
use Rattle.sx_tree.specs.Value.{Value, value_of}
use Rattle.sx_model.specs.Grammar.{Spells}
use Rattle.sx_json.proofs.Results.{if_ok_map, no_other, refused_by, unless_map}
use Rattle.sx_model.proofs.OneValue.{spells_one}
use Rattle.sx_json.proofs.reader.read.Goals as goal

pub returns-in-Ok-clause-only : goal.returns-in-Ok-clause-only
returns-in-Ok-clause-only c = λ v s.
    let text = c.args.text.now in
    if_ok_map (λ json. Spells text (value_of json)) (λ json. value_of json ≡ v) c.read_front.result c.read_front.ensures.ok (λ x r. spells_one text (value_of x) v r s)

pub returns-in-Ok-clause-refused : goal.returns-in-Ok-clause-refused
returns-in-Ok-clause-refused c =
    let text = c.args.text.now in
    refused_by (TextFault (length text) text) ((v : Value) → Spells text v → ⊥) c.read_front.result (λ f h v s. spells_no_fault text v f s (inl (c.in-Ok.ensures.cases.1, h))) c.read_front.ensures.fault

pub returns-in-Ok-clause-no_other : goal.returns-in-Ok-clause-no_other
returns-in-Ok-clause-no_other c = λ f h.
    let text = c.args.text.now in
    let utf8 : IsUtf8 text = c.in-Ok.ensures.cases.1 in
    no_other (λ json. Spells text (value_of json)) (TextFault (length text) text) c.read_front.result f (λ x r. spells_no_fault text (value_of x) f r h) (λ g k. faults_one text g f (inl (utf8, k)) h) c.read_front.ensures.ok c.read_front.ensures.fault

pub returns-in-Err-clause-no_other : goal.returns-in-Err-clause-no_other
returns-in-Err-clause-no_other c = λ f h.
    unless_map (Faults c.args.text.now) (λ e. e ≡ f) c.fault_before.result (λ k. faults_one c.args.text.now c.fault_before.result f k h) c.fault_before.ensures
