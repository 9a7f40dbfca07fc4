use Rattle.std.proofs.Common.{arith}
use Rattle.sx_edit.proofs.Results.{err_again}
use Rattle.sx_tree.specs.Value.{value_of}
use Rattle.sx_edit.proofs.Drifting.{known-on}
use Rattle.sx_edit.proofs.Growing.{down-top, key-entered, some-nodes, under_key}
use Rattle.sx_edit.proofs.Stopping.{memory-stops_growing}
use Rattle.sx_edit.proofs.fill.enter.Goals as goal

pub key_over-requires : goal.key_over-requires
key_over-requires g c =
    let fits = rw c.in-Some.is at c.requires.room in
    omega (arith, fits, down-top _ _ _ _ c.in_ok-top-in-Some.ensures.top)

pub returns-in_ok-key_over-in-Some-clause-top : goal.returns-in_ok-key_over-in-Some-clause-top
returns-in_ok-key_over-in-Some-clause-top g c =
    rw c.in-Some.is (key-entered _ _ _ _ _ _ c.in_ok-key_over-in-Some.field-0 (omega arith) c.in_ok-key_over-in-Some.ensures.key c.in_ok-top-in-Some.ensures.top)

pub returns-in_ok-key_over-in-Some-clause-grown : goal.returns-in_ok-key_over-in-Some-clause-grown
returns-in_ok-key_over-in-Some-clause-grown g c =
    rw c.in-Some.is (under_key _ _ _ _ _ _ _ _ _ (omega arith) c.in_ok-top-in-Some.ensures.top c.in_ok-top-in-Some.ensures.grown c.in_ok-key_over-in-Some.ensures.added)

pub returns-in_err-top-in-Some-clause-fault : goal.returns-in_err-top-in-Some-clause-fault
returns-in_err-top-in-Some-clause-fault g c =
    λ o table reach minus next_is more known drifts.
    let come = rw c.in-Some.is at more in
    err_again c.from_residual.result _ _ c.from_residual.ensures.1
    (c.in_err-top-in-Some.ensures.fault o table reach 0 minus (omega (arith, next_is)) (omega (arith, next_is, come))
    (known-on o reach _ _ _ (omega (arith, next_is), omega (arith, next_is, come, some-nodes (value_of c.args.value.now))) known) drifts)

pub returns-in_err-key_over-in-Some-clause-stops : goal.returns-in_err-key_over-in-Some-clause-stops
returns-in_err-key_over-in-Some-clause-stops g c =
    memory-stops_growing _ _ _ _ _ c.from_residual-in_err-key_over-in-Some.result c.from_residual-in_err-key_over-in-Some.ensures.1

pub returns-in-None-clause-fault : goal.returns-in-None-clause-fault
returns-in-None-clause-fault g c = λ o table reach minus next_is more known drifts.
    let come = rw c.in-None.is at more in
    c.grow.ensures.fault o table reach 0 minus (omega (arith, next_is)) (omega (arith, next_is, come))
    (known-on o reach _ _ _ (omega (arith, next_is), omega (arith, next_is, come, some-nodes (value_of c.args.value.now))) known) drifts
