use Rattle.std.proofs.Common.{FitsSigned, rules, subst, w64}
use Rattle.std.proofs.lemmas.Int.{to_z-of_z}
use Rattle.sx_tree.specs.declared.query.Query.TheVariants.{Valid}
use Rattle.sx_query.proofs.OfNodes.{over_nodes}
use Rattle.sx_query.proofs.OfPaths.{over_none, over_paths}
use Rattle.sx_query.specs.Gives.{GivesOfNodes, names_of}
use Rattle.sx_query.proofs.question.ask.Goals as goal

pub returns-in-Text-clause-answers : goal.returns-in-Text-clause-answers
returns-in-Text-clause-answers g c = over_nodes _ _ c.args.about.now _ _ _ c.in-Text.is (c.answer_text.ensures.gives (names_of c.args.about.now))

pub returns-in-Node-clause-answers : goal.returns-in-Node-clause-answers
returns-in-Node-clause-answers g c = over_nodes _ _ c.args.about.now _ _ _ c.in-Node.is (c.answer_node.ensures.gives c.args.about.now.nodes (names_of c.args.about.now))

pub returns-in-Hash-clause-answers : goal.returns-in-Hash-clause-answers
returns-in-Hash-clause-answers g c = over_nodes _ _ c.args.about.now _ _ _ c.in-Hash.is (c.answer_hash.ensures.gives c.args.about.now.nodes (names_of c.args.about.now))

pub returns-in-Axis-clause-answers : goal.returns-in-Axis-clause-answers
returns-in-Axis-clause-answers g c = over_nodes _ _ c.args.about.now _ _ _ c.in-Axis.is (c.answer_axis.ensures.gives (names_of c.args.about.now))

pub returns-in-Path-clause-answers : goal.returns-in-Path-clause-answers
returns-in-Path-clause-answers g c = over_paths _ _ c.args.about.now _ _ _ c.in-Path.is c.answer_path.ensures.gives

pub returns-in-Paths-clause-answers : goal.returns-in-Paths-clause-answers
returns-in-Paths-clause-answers g c = over_none _ _ c.args.about.now _ c.in-Paths.is

pub returns-in-Select-clause-answers : goal.returns-in-Select-clause-answers
returns-in-Select-clause-answers g c = over_nodes _ _ c.args.about.now _ _ _ c.in-Select.is (c.answer_select.ensures.gives (names_of c.args.about.now))

pub returns-in-Valid-clause-answers : goal.returns-in-Valid-clause-answers
returns-in-Valid-clause-answers g c =
    let fits : FitsSigned w64 c.in-Valid.time = search rules in
    let gives = subst (λ t. GivesOfNodes (g.V.Records-1.told c.args.view.now) c.args.about.now.nodes (names_of c.args.about.now) (Valid t) c.answer_valid.result)
    (to_z-of_z w64 c.in-Valid.time fits) c.answer_valid.ensures.gives in
    over_nodes _ _ c.args.about.now _ _ _ c.in-Valid.is gives
