use Rattle.sx_select.proofs.Searching.{finds-end, finds-leave, none_up, read-leave}
use Rattle.sx_select.proofs.pending.Search.leave.Goals as goal

pub returns-in_default-clause-finds : goal.returns-in_default-clause-finds
returns-in_default-clause-finds c = λ steps o listed.
    finds-end steps o _ listed c.requires.next (none_up _ _ _ c.in_default.ensures.cases.0 c.in_default.ensures.rest c.in_default.ensures.items)

pub returns-clause-read : goal.returns-clause-read
returns-clause-read c = λ o read _. read-leave o _ _ _ read c.in-Some.ensures.items

pub returns-clause-finds : goal.returns-clause-finds
returns-clause-finds c = λ steps o listed outcome come. finds-leave steps o _ listed outcome _ _ c.requires.next c.in-Some.ensures.items come
