use Rattle.std.proofs.Common.{◌∙◌}
use Rattle.sx_record.specs.Laws.{path_none, path_other}
use Rattle.sx_record.specs.Given.{given_path}
use Rattle.sx_record.proofs.path.PathRecordRecord.decode.Goals as goal

pub returns-in_default-clause-none : goal.returns-in_default-clause-none
returns-in_default-clause-none c = λ r rest is e. path_none c.new-ahead.result c.in_default.ensures.read r rest is (c.new-ahead.ensures ∙ c.rest.ensures ∙ e)

pub returns-in_default-2-clause-none : goal.returns-in_default-2-clause-none
returns-in_default-2-clause-none c = λ r rest is e.
    path_other c.new-ahead.result (given_path c.in-Some.given) c.read_path.new.fields c.in-Some.ensures.read (rw c.in_default-2.is at c.in_ok-path.ensures.none) r rest is (c.new-ahead.ensures ∙ c.rest.ensures ∙ e)
