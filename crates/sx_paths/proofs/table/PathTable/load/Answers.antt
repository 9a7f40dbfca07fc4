use Rattle.std.proofs.Common.{◌≡◌, ◌+◌, ◌≤◌, ◌∷◌, [], ℕ, Option, Some, IfSome, length, arith, rules, sym, ap, subst, ◌∙◌}
use Rattle.std.specs.Option.{option_map}
use Rattle.std.specs.FinMap as fin
use Rattle.std.proofs.lemmas.List.{length-append}
use Rattle.sx_tree.specs.declared.record.PathRecord.{PathRecord}
use Rattle.sx_view.specs.Records.{RecordMap}
use Rattle.sx_paths.specs.Load.{TellsFrom}
use Rattle.sx_paths.specs.Table.{Table, row_of}
use Rattle.sx_paths.proofs.LoadLemmas.{loaded}
use Rattle.sx_paths.proofs.StateLemmas.{are-rows, sound-after}
use Rattle.sx_paths.proofs.table.PathTable.load.Goals as goal

pub loop-before-preserved : goal.loop-before-preserved
loop-before-preserved g c =
    let told : Option (RecordMap PathRecord) = g.P.Records.told c.args.records.now in
    let inv = c.loop-before.invariant in
    let rows = c.loop-before.table.paths in
    let path = c.in_ok-path.path in
    let found : IfSome told (λ t. option_map row_of (fin.get t (c.loop-before.before + 1)) ≡ Some (row_of path)) =
    subst (λ (o : Option (RecordMap PathRecord)). IfSome o (λ t. option_map row_of (fin.get t (c.loop-before.before + 1)) ≡ Some (row_of path))) inv.same c.in_ok-path.ensures.found in
    let is = c.in_ok-add.ensures.ok in
    record {
      paths = subst (λ (t : Table). IfSome told (λ r. TellsFrom r 1 t.paths)) (sym is) (loaded told rows c.loop-before.before path inv.count inv.paths found);
      count = ap (λ (t : Table). length t.paths) is ∙ length-append rows (row_of path ∷ []) ∙ ap (λ (n : ℕ). n + 1) inv.count;
      no_mark = ap (λ (t : Table). t.marked) is ∙ inv.no_mark;
      gets = search rules;
      never_falls = search rules;
      keeps = g.met.P.Records.keeps_then _ _ _ inv.keeps c.read_path.ensures.keeps;
      same = c.read_path.ensures.same ∙ inv.same;
    }

pub returns-in_err-path-clause-sound : goal.returns-in_err-path-clause-sound
returns-in_err-path-clause-sound g c =
    let first : 1 ≤ c.loop-before.before + 1 = omega arith in
    let within : c.loop-before.before + 1 ≤ c.args.count = omega arith in
    sound-after _ _ _ _ _ _ _ _ c.from_residual.ensures.1 c.loop-before.invariant.same (g.met.P.Records.untold _) first within c.in_err-path.ensures.fault

pub returns-clause-of_state : goal.returns-clause-of_state
returns-clause-of_state g c =
    let all : c.loop-before.before ≡ c.args.count = omega arith in
    are-rows _ _ _ (c.loop-before.invariant.count ∙ all) c.loop-before.invariant.paths
