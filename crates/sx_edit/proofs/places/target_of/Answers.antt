use Rattle.sx_edit.proofs.places.target_of.Goals as goal

pub returns-in-First-clause-near : goal.returns-in-First-clause-near
returns-in-First-clause-near g c = rw c.in-First.is c.below.ensures.near

pub returns-in-Last-clause-near : goal.returns-in-Last-clause-near
returns-in-Last-clause-near g c = rw c.in-Last.is c.below-in-Last.ensures.near

pub returns-in-Before-clause-near : goal.returns-in-Before-clause-near
returns-in-Before-clause-near g c = rw c.in-Before.is c.beside.ensures.near

pub returns-in-After-clause-near : goal.returns-in-After-clause-near
returns-in-After-clause-near g c = rw c.in-After.is c.beside-in-After.ensures.near

pub returns-in-First-clause-path : goal.returns-in-First-clause-path
returns-in-First-clause-path g c = rw c.in-First.is c.below.ensures.path

pub returns-in-Last-clause-path : goal.returns-in-Last-clause-path
returns-in-Last-clause-path g c = rw c.in-Last.is c.below-in-Last.ensures.path

pub returns-in-Before-clause-path : goal.returns-in-Before-clause-path
returns-in-Before-clause-path g c = rw c.in-Before.is c.beside.ensures.path

pub returns-in-After-clause-path : goal.returns-in-After-clause-path
returns-in-After-clause-path g c = rw c.in-After.is c.beside-in-After.ensures.path
