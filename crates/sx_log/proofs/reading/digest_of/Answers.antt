use Rattle.std.proofs.Common.{◌≡◌, ◌∙◌, ◌++◌, [], ◌∷◌, ap, List, ℕ}
use Rattle.sha2.specs.Sha256.{sha256}
use Rattle.sx_layout.specs.Birth.{magic}
use Rattle.sx_log.proofs.Parts.{pieces_told}
use Rattle.sx_log.specs.Finding.{fields_in}
use Rattle.sx_log.proofs.reading.digest_of.Goals as goal

in_turn : (a b c d e x y z v w : List ℕ) → a ≡ x → b ≡ y → c ≡ z → d ≡ v → e ≡ w → (((([] ++ a) ++ b) ++ c) ++ d) ++ e ≡ (((([] ++ x) ++ y) ++ z) ++ v) ++ w
in_turn a b c d e x y z v w first second third fourth fifth = λ i. (((([] ++ first i) ++ second i) ++ third i) ++ fourth i) ++ fifth i

pub returns : goal.returns
returns c =
    let fields = fields_in c.args.given.now in
    let held = c.update-5.ensures _ (c.update-4.ensures _ (c.update-3.ensures _ (c.update-2.ensures _ (c.update.ensures _ c.new-hasher.ensures)))) in
    c.finalize.ensures _ held
    ∙ ap sha256
    (in_turn c.as_slice.result.now c.as_slice-2.result.now c.as_slice-3.result.now c.as_slice-4.result.now c.as_slice-5.result.now magic (fields.format ∷ fields.window ∷ fields.from_length ∷ []) fields.from (fields.to_length ∷ []) fields.to
    c.as_slice.ensures c.as_slice-2.ensures c.as_slice-3.ensures c.as_slice-4.ensures c.as_slice-5.ensures
    ∙ pieces_told fields)
