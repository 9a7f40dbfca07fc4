use Rattle.std.proofs.Common.{ap}
use Rattle.std.specs.Option.{option_copied}
use Rattle.sx_edit.proofs.Results.{if_err-then, if_ok-then, on_ok-then}
use Rattle.sx_edit.proofs.Getting.{children-keys, children-none}
use Rattle.sx_edit.proofs.Inserting.{taken-found, taken-no_object, taken-unasked}
use Rattle.sx_edit.proofs.insertion.taken_name.Goals as goal

pub returns-in_default-clause-found : goal.returns-in_default-clause-found
returns-in_default-clause-found g c = taken-unasked _ _ _ _ (ap option_copied c.in_default.is)

pub returns-then-not-is_object-clause-found : goal.returns-then-not-is_object-clause-found
returns-then-not-is_object-clause-found g c = taken-no_object _ _ _ _ (cc)

pub returns-clause-found : goal.returns-clause-found
returns-clause-found g c = if_ok-then c.find_key.result _ _ (λ answer found. taken-found _ _ _ _ _ _ (ap option_copied c.in-Some.is) found) c.find_key.ensures.found

pub returns-clause-cannot : goal.returns-clause-cannot
returns-clause-cannot g c = if_err-then c.find_key.result _ _ (λ fault cannot damaged. taken-found _ _ _ _ _ _ (ap option_copied c.in-Some.is) (cannot damaged)) c.find_key.ensures.cannot

pub returns-in_default-clause-work : goal.returns-in_default-clause-work
returns-in_default-clause-work g c = children-none _ _ _ _

pub returns-then-not-is_object-clause-work : goal.returns-then-not-is_object-clause-work
returns-then-not-is_object-clause-work g c = children-none _ _ _ _

pub returns-clause-work : goal.returns-clause-work
returns-clause-work g c = on_ok-then c.find_key.result _ _ (children-keys _ _ _ _ _ (cc)) c.find_key.ensures.work
