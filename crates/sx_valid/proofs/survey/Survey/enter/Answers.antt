use Rattle.std.proofs.Common.{◌∙◌, ◌++◌, ap, refl, subst, sym, inl, inr}
use Rattle.sx_view.specs.Rows.{row_of}
use Rattle.sx_valid.specs.Survey.{AreLinked, links_of}
use Rattle.sx_valid.proofs.Searching.{entered, judge_fails, linked_more, linked_own}
use Rattle.sx_valid.proofs.survey.Survey.enter.Goals as goal

pub returns-in_err-valid-clause-goes : goal.returns-in_err-valid-clause-goes
returns-in_err-valid-clause-goes g c = judge_fails _ _ _ _ _ c.args.number (row_of c.args.node.now) _ c.from_residual.ensures.1 c.requires.there c.in_err-valid.ensures.too_few

pub returns-clause-linked : goal.returns-clause-linked
returns-clause-linked g c =
    subst (AreLinked (g.N.Records.told c.args.records.now))
    (sym (c.in_ok-await_link-2.ensures ∙ ap (λ l. l ++ links_of c.args.number c.args.node.now.first) c.in_ok-await_link.ensures))
    (linked_more _ _ _
    (linked_more _ _ _ c.requires.linked (linked_own _ c.args.number (row_of c.args.node.now) c.args.node.now.right c.requires.there (λ to is. inr is)))
    (linked_own _ c.args.number (row_of c.args.node.now) c.args.node.now.first c.requires.there (λ to is. inl is)))

pub returns-clause-goes : goal.returns-clause-goes
returns-clause-goes g c = entered _ _ _ _ c.args.number (row_of c.args.node.now) c.in_ok-valid.valid c.requires.there c.requires.left c.in_ok-valid.ensures.judged c.in_ok-list_if.ensures refl
    (c.in_ok-await_link-2.ensures ∙ ap (λ l. l ++ links_of c.args.number c.args.node.now.first) c.in_ok-await_link.ensures)
