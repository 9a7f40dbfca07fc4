use Rattle.std.proofs.Common.{◌≡◌, ◌∙◌, ◌++◌, ap, sym, List, ℕ, take}
use Rattle.std.proofs.lemmas.List.{take_at}
use Rattle.sx_frame.proofs.Differ.{differ, same}
use Rattle.sx_layout.specs.Birth.{BirthFields, magic}
use Rattle.sx_log.proofs.Parts.{part_told}
use Rattle.sx_log.proofs.reading.given_fields.Goals as goal

pub returns-then-ne-clause-none : goal.returns-then-ne-clause-none
returns-then-ne-clause-none c = λ equal.
    let part : c.args.part.now ≡ c.in_ok-magic.magic ++ c.chunk.new.fields = sym c.new-fields.ensures ∙ c.in_ok-magic.ensures.written.0 in
    let front : take 8 c.args.part.now ≡ c.in_ok-magic.magic = ap (λ (b : List ℕ). take 8 b) part ∙ take_at c.in_ok-magic.magic c.chunk.new.fields 8 c.in_ok-magic.ensures.written.1 in
    differ c.in_ok-magic.magic magic c.ne.result c.ne.ensures c.if-ne.true (sym front ∙ equal)

pub returns-clause-some : goal.returns-clause-some
returns-clause-some c =
    let is : c.in_ok-magic.magic ≡ magic = same c.in_ok-magic.magic magic c.ne.result c.ne.ensures c.if-ne.false in
    let fields : BirthFields = record {
      format = c.in_ok-format.format;
      window = c.in_ok-window.window;
      from_length = c.in_ok-from_length.from_length;
      from = c.in_ok-from.from;
      to_length = c.in_ok-to_length.to_length;
      to = c.in_ok-to.to;
      digest = c.in_ok-digest.digest;
    } in (
      record { from = c.in_ok-from.ensures.written.1; to = c.in_ok-to.ensures.written.1; digest = c.in_ok-digest.ensures.written.1 },
      part_told fields c.args.part.now c.chunk.new.fields c.u8.new.self c.u8-2.new.self c.u8-3.new.self c.chunk-2.new.fields c.u8-4.new.self c.chunk-3.new.fields c.chunk-4.new.fields
          c.requires c.in_ok-from.ensures.written.1 c.in_ok-to.ensures.written.1 c.in_ok-digest.ensures.written.1
          (sym c.new-fields.ensures ∙ c.in_ok-magic.ensures.written.0 ∙ ap (λ (m : List ℕ). m ++ c.chunk.new.fields) is)
          c.in_ok-format.ensures.written c.in_ok-window.ensures.written c.in_ok-from_length.ensures.written c.in_ok-from.ensures.written.0 c.in_ok-to_length.ensures.written c.in_ok-to.ensures.written.0 c.in_ok-digest.ensures.written.0,
    )
