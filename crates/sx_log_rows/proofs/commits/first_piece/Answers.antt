use Rattle.std.proofs.Common.{◌≡◌, ◌∙◌, ap, refl, rules, ℕ, Vec, Global}
use Rattle.std.specs.Arc.{arc_value}
use Rattle.sha2.specs.Sha256.{compress, digest_bytes, first_words, hash_after, rounds, schedule, sha256}
use Rattle.sx_log.specs.Committing.{sealed_bytes}
use Rattle.sx_log_rows.specs.Commits.{first_group}
use Rattle.sx_log_rows.specs.declared.commits.TheConstants.{FIRST}
use Rattle.sx_root.specs.Root.{root_bytes}
use Rattle.sx_log_rows.proofs.commits.first_piece.Goals as goal

by_the_format : FIRST ≡ sealed_bytes first_group
unfolding root_bytes sha256 digest_bytes hash_after compress rounds schedule first_words
by_the_format = refl

pub returns : goal.returns
returns c =
    let copied : c.in_ok-to_vec.field-0.items ≡ FIRST = search rules in
    let held : (arc_value c.in_ok-piece.piece).items ≡ c.in_ok-to_vec.field-0.items = ap (λ (v : Vec ℕ Global). v.items) c.in_ok-piece.ensures.ok in
    held ∙ copied ∙ by_the_format
