use Rattle.std.proofs.Common.{◌≡◌, false, rules}
use Rattle.sx_query.proofs.OfPaths.{above_sound, absent_sound}
use Rattle.sx_query.proofs.paths.text_of.Goals as goal

pub returns-in_err-path_text-clause-sound : goal.returns-in_err-path_text-clause-sound
returns-in_err-path_text-clause-sound g c = above_sound _ _ _ _ c.from_residual.ensures.1 c.in_err-path_text.ensures.sound

pub returns-then-not-branch-clause-sound : goal.returns-then-not-branch-clause-sound
returns-then-not-branch-clause-sound g c =
    let absent : c.in_ok-path_text.field-0 ≡ false = search rules in
    λ _. absent_sound _ _ _ _ _ absent c.requires.some c.in_ok-path_text.ensures.text
